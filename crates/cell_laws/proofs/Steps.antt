-- How the join goes along two maps.
use Rattle.std.proofs.Common.{◌≡◌, ℕ, zero, suc, ◌+◌, ◌*◌, ◌<◌, ◌≤◌, true, false, List, [], ◌∷◌, ◌++◌, length, refl, sym, ap, ◌∙◌, arith, inl, inr, append_assoc}
use Rattle.std.specs.Prelude.{nat_le, replicate}
use Rattle.std.specs.List.{flat_map}
use Rattle.std.proofs.lemmas.Bool.{cases_Bool, ne_eqb, lt-leb, eq-eqb}
use Rattle.cell_laws.specs.Elements.{Element, width}
use Rattle.cell_laws.specs.Cells.{Ops}
use Rattle.cell_laws.specs.Join.{is_some_wide, cut, with_all, or_first, join_stretch, join_stretches, joined_from}

module _ {C : Type 0} where
  -- how many steps are left at most
  abbrev pub work : List (Element C) → List (Element C) → List (Element C) → List (Element C) → ℕ
  work [] [] xs ys = 2 * (length xs + length ys)
  work (a ∷ p) q xs ys = suc (2 * (length xs + length ys))
  work [] (b ∷ q) xs ys = suc (2 * (length xs + length ys))

  pub work_most : (p q xs ys : List (Element C)) → work p q xs ys ≤ suc (2 * (length xs + length ys))
  work_most [] [] xs ys = omega arith
  work_most (a ∷ p) q xs ys = omega arith
  work_most [] (b ∷ q) xs ys = omega arith

  pub work_least : (p q xs ys : List (Element C)) → 2 * (length xs + length ys) ≤ work p q xs ys
  work_least [] [] xs ys = omega arith
  work_least (a ∷ p) q xs ys = omega arith
  work_least [] (b ∷ q) xs ys = omega arith

  pub work_some : (p q xs ys : List (Element C)) → is_some_wide p q ≡ true → work p q xs ys ≡ suc (2 * (length xs + length ys))
  unfolding is_some_wide
  work_some [] q xs ys h = cc
  work_some (a ∷ p) q xs ys h = refl

  same_left : (f g : ℕ) (p q xs ys : List (Element C)) →
      ((x : Element C) (rest : List (Element C)) → xs ≡ x ∷ rest → cut f (p ++ x ∷ []) q rest ys ≡ cut g (p ++ x ∷ []) q rest ys) →
      ◌≡◌ {A = List (List (Element C) × List (Element C))} (elim xs [ [] ↦ (p, q ++ ys) ∷ [] | x ∷ rest ↦ cut f (p ++ x ∷ []) q rest ys ]) (elim xs [ [] ↦ (p, q ++ ys) ∷ [] | x ∷ rest ↦ cut g (p ++ x ∷ []) q rest ys ])
  same_left f g p q [] ys h = refl
  same_left f g p q (x ∷ rest) ys h = h x rest refl

  same_right : (f g : ℕ) (p q xs ys : List (Element C)) →
      ((y : Element C) (rest : List (Element C)) → ys ≡ y ∷ rest → cut f p (q ++ y ∷ []) xs rest ≡ cut g p (q ++ y ∷ []) xs rest) →
      ◌≡◌ {A = List (List (Element C) × List (Element C))} (elim ys [ [] ↦ (p ++ xs, q) ∷ [] | y ∷ rest ↦ cut f p (q ++ y ∷ []) xs rest ]) (elim ys [ [] ↦ (p ++ xs, q) ∷ [] | y ∷ rest ↦ cut g p (q ++ y ∷ []) xs rest ])
  same_right f g p q xs [] h = refl
  same_right f g p q xs (y ∷ rest) h = h y rest refl

  -- enough steps are enough
  cut_same : (f g : ℕ) (p q xs ys : List (Element C)) → work p q xs ys < f → work p q xs ys < g → cut f p q xs ys ≡ cut g p q xs ys
  unfolding cut
  cut_same zero g p q xs ys a b = absurd (omega arith)
  cut_same (suc f) zero p q xs ys a b = absurd (omega arith)
  cut_same (suc f) (suc g) p q xs ys a b =
      elim (cases_Bool (is_some_wide p q)) [
        | inl same ↦
            let w = work_some p q xs ys same in
            let r = cut_same f g [] [] xs ys (omega arith) (omega arith) in
            rw (same, r) refl
        | inr other ↦
            let least = work_least p q xs ys in
            elim (cases_Bool (nat_le (width p) (width q))) [
              | inl le ↦ rw (other, le) (same_left f g p q xs ys
                  (λ x rest e. let n : length xs ≡ suc (length rest) = ap length e in let m = work_most (p ++ x ∷ []) q rest ys in
                  cut_same f g (p ++ x ∷ []) q rest ys (omega arith) (omega arith)))
              | inr gt ↦ rw (other, gt) (same_right f g p q xs ys
                  (λ y rest e. let n : length ys ≡ suc (length rest) = ap length e in let m = work_most p (q ++ y ∷ []) xs rest in
                  cut_same f g p (q ++ y ∷ []) xs rest (omega arith) (omega arith)))
            ]
      ]

  cut_close : (f : ℕ) (p q xs ys : List (Element C)) → is_some_wide p q ≡ true → cut (suc f) p q xs ys ≡ (p, q) ∷ cut f [] [] xs ys
  unfolding cut
  cut_close f p q xs ys h = rw h refl

  cut_one_left : (f : ℕ) (p q : List (Element C)) (x : Element C) (xs ys : List (Element C)) → is_some_wide p q ≡ false → nat_le (width p) (width q) ≡ true →
      cut (suc f) p q (x ∷ xs) ys ≡ cut f (p ++ x ∷ []) q xs ys
  unfolding cut
  cut_one_left f p q x xs ys h l = rw (h, l) refl

  cut_one_right : (f : ℕ) (p q : List (Element C)) (y : Element C) (xs ys : List (Element C)) → is_some_wide p q ≡ false → nat_le (width p) (width q) ≡ false →
      cut (suc f) p q xs (y ∷ ys) ≡ cut f p (q ++ y ∷ []) xs ys
  unfolding cut
  cut_one_right f p q y xs ys h l = rw (h, l) refl

module _ {C H : Type 0} (o : Ops C H) (merge : ℕ → C → C → C) where
  more_stretches : (s : List (Element C) × List (Element C)) (ss : List (List (Element C) × List (Element C))) → join_stretches o merge (s ∷ ss) ≡ join_stretch o merge s.0 s.1 ++ join_stretches o merge ss
  unfolding join_stretches
  more_stretches s ss = refl

  -- at a common cut the stretch is joined
  pub join_close : (p q xs ys : List (Element C)) → is_some_wide p q ≡ true → joined_from o merge p q xs ys ≡ join_stretch o merge p q ++ joined_from o merge [] [] xs ys
  unfolding joined_from
  join_close p q xs ys h =
      let n = 2 * (length xs + length ys) in
      let e = cut_same (suc n) (suc (suc n)) [] [] xs ys (omega arith) (omega arith) in
      ap (join_stretches o merge) (cut_close (suc n) p q xs ys h) ∙ more_stretches (p, q) (cut (suc n) [] [] xs ys)
      ∙ ap (λ (ss : List (List (Element C) × List (Element C))). join_stretch o merge p q ++ join_stretches o merge ss) e

  pub join_left : (p q : List (Element C)) (x : Element C) (xs ys : List (Element C)) → is_some_wide p q ≡ false → nat_le (width p) (width q) ≡ true →
      joined_from o merge p q (x ∷ xs) ys ≡ joined_from o merge (p ++ x ∷ []) q xs ys
  unfolding joined_from
  join_left p q x xs ys h l =
      let m = work_most (p ++ x ∷ []) q xs ys in
      let n = suc (2 * (length (x ∷ xs) + length ys)) in
      ap (join_stretches o merge) (cut_one_left n p q x xs ys h l
      ∙ cut_same n (suc (suc (2 * (length xs + length ys)))) (p ++ x ∷ []) q xs ys (omega arith) (omega arith))

  pub join_right : (p q : List (Element C)) (y : Element C) (xs ys : List (Element C)) → is_some_wide p q ≡ false → nat_le (width p) (width q) ≡ false →
      joined_from o merge p q xs (y ∷ ys) ≡ joined_from o merge p (q ++ y ∷ []) xs ys
  unfolding joined_from
  join_right p q y xs ys h l =
      let m = work_most p (q ++ y ∷ []) xs ys in
      let n = suc (2 * (length xs + length (y ∷ ys))) in
      ap (join_stretches o merge) (cut_one_right n p q y xs ys h l
      ∙ cut_same n (suc (suc (2 * (length xs + length ys)))) p (q ++ y ∷ []) xs ys (omega arith) (omega arith))

  -- one element in both at the same bits
  pub join_same : (x y : Element C) (xs ys : List (Element C)) → 0 < x.bits → x.bits ≡ y.bits → joined_from o merge [] [] (x ∷ xs) (y ∷ ys) ≡ join_stretch o merge (x ∷ []) (y ∷ []) ++ joined_from o merge [] [] xs ys
  unfolding is_some_wide width
  join_same x y xs ys p e =
      join_left [] [] x xs (y ∷ ys) refl refl
      ∙ join_right (x ∷ []) [] y xs ys (ne_eqb (x.bits + 0) 0 (λ h. omega arith)) (lt-leb (x.bits + 0) 0 (omega arith))
      ∙ join_close (x ∷ []) (y ∷ []) xs ys (eq-eqb (x.bits + 0) (y.bits + 0) (omega arith))

  -- and so for many
  pub join_run : (n : ℕ) (x y : Element C) (xs ys : List (Element C)) → 0 < x.bits → x.bits ≡ y.bits →
      joined_from o merge [] [] (replicate n x ++ xs) (replicate n y ++ ys) ≡ flat_map (λ z. join_stretch o merge (x ∷ []) (y ∷ [])) (replicate n x) ++ joined_from o merge [] [] xs ys
  join_run zero x y xs ys p e = refl
  join_run (suc n) x y xs ys p e =
      join_same x y (replicate n x ++ xs) (replicate n y ++ ys) p e
      ∙ ap (λ (l : List (Element C)). join_stretch o merge (x ∷ []) (y ∷ []) ++ l) (join_run n x y xs ys p e)
      ∙ sym (append_assoc (join_stretch o merge (x ∷ []) (y ∷ [])) (flat_map (λ z. join_stretch o merge (x ∷ []) (y ∷ [])) (replicate n x)) (joined_from o merge [] [] xs ys))

  pub join_none : joined_from o merge [] [] [] [] ≡ []
  unfolding joined_from cut is_some_wide width join_stretches join_stretch with_all or_first
  join_none = refl
