-- The join goes stretch by stretch: what stands behind a common cut has no part in what stands before it.
use Rattle.std.proofs.Common.{◌≡◌, ℕ, zero, suc, ◌+◌, ◌<◌, ◌≤◌, true, false, List, [], ◌∷◌, ◌++◌, refl, sym, ap, ◌∙◌, subst, arith, inl, inr, append_assoc}
use Rattle.std.specs.Prelude.{nat_le}
use Rattle.std.proofs.lemmas.Bool.{cases_Bool, eq-eqb, leb-true, leb-false}
use Rattle.cell_laws.specs.Elements.{Element, width}
use Rattle.cell_laws.specs.Cells.{Ops}
use Rattle.cell_laws.specs.Join.{is_some_wide, join_stretch, joined_from, joined}
use Rattle.cell_laws.proofs.Cuts.{some_wide, width-append}
use Rattle.cell_laws.proofs.Steps.{work, work_most, work_least, work_some, join_left, join_right, join_close, join_same, join_none}
use Rattle.cell_laws.proofs.Stretches.{stretch_one}

module _ {C : Type 0} where
  abbrev pub AllBits : List (Element C) → Type 0
  AllBits [] = Unit {0}
  AllBits (e ∷ es) = (0 < e.bits) × AllBits es

  nothing : (es : List (Element C)) → AllBits es → width es ≡ 0 → es ≡ []
  unfolding width
  nothing [] a w = refl
  nothing (e ∷ es) a w = let p = a.0 in absurd (omega arith)

  AllBits-append : (xs ys : List (Element C)) → AllBits xs → AllBits ys → AllBits (xs ++ ys)
  AllBits-append [] ys a b = b
  AllBits-append (x ∷ xs) ys a b = (a.0, AllBits-append xs ys a.1 b)

  not_wide : (p q : List (Element C)) → is_some_wide p q ≡ false → width p ≡ width q → p ≡ []
  unfolding is_some_wide
  not_wide [] q h e = refl
  not_wide (x ∷ p) q h e = let t = eq-eqb (width (x ∷ p)) (width q) e in cc

  pub none_even : (xs ys : List (Element C)) → width xs ≡ width ys → width {C = C} [] + width xs ≡ width {C = C} [] + width ys
  none_even xs ys e = ap (λ (n : ℕ). width {C = C} [] + n) e

  work_less : (p q xs ys : List (Element C)) → is_some_wide p q ≡ true → work {C = C} [] [] xs ys < work p q xs ys
  work_less p q xs ys h = let w = work_some p q xs ys h in omega arith

-- two maps from a cut on, and what has been read before
pub record AreReady {C : Type 0} (p q xs ys : List (Element C)) : Type 0 where
  pub even : width p + width xs ≡ width q + width ys
  pub first : AllBits p
  pub second : AllBits q
  pub left : AllBits xs
  pub right : AllBits ys

module _ {C H : Type 0} (o : Ops C H) (merge : ℕ → C → C → C) where
  unfolding_none : (xs ys : List (Element C)) → joined_from o merge [] [] xs ys ≡ joined_from o merge [] [] [] [] ++ joined_from o merge [] [] xs ys
  unfolding_none xs ys = ap (λ (l : List (Element C)). l ++ joined_from o merge [] [] xs ys) (sym (join_none o merge))

  split_close : (n : ℕ) (p q xs ys vs ws : List (Element C)) → is_some_wide p q ≡ true →
      joined_from o merge [] [] (xs ++ vs) (ys ++ ws) ≡ joined_from o merge [] [] xs ys ++ joined_from o merge [] [] vs ws →
      joined_from o merge p q (xs ++ vs) (ys ++ ws) ≡ joined_from o merge p q xs ys ++ joined_from o merge [] [] vs ws
  split_close n p q xs ys vs ws h r =
      join_close o merge p q (xs ++ vs) (ys ++ ws) h ∙ ap (λ (l : List (Element C)). join_stretch o merge p q ++ l) r
      ∙ sym (append_assoc (join_stretch o merge p q) (joined_from o merge [] [] xs ys) (joined_from o merge [] [] vs ws))
      ∙ ap (λ (l : List (Element C)). l ++ joined_from o merge [] [] vs ws) (sym (join_close o merge p q xs ys h))

  split_end : (p q ys vs ws : List (Element C)) → is_some_wide p q ≡ false → width p ≤ width q → AreReady p q [] ys →
      joined_from o merge p q ([] ++ vs) (ys ++ ws) ≡ joined_from o merge p q [] ys ++ joined_from o merge [] [] vs ws
  unfolding width
  split_end p q ys vs ws h l r =
      let e = r.even in
      let y = nothing ys r.right (omega arith) in
      let x = not_wide p q h (omega arith) in
      let wp : width p ≡ width {C = C} [] = ap width x in
      let z = nothing q r.second (omega arith) in
      subst (λ (t : List (Element C)). joined_from o merge t q vs (ys ++ ws) ≡ joined_from o merge t q [] ys ++ joined_from o merge [] [] vs ws) (sym x)
      (subst (λ (t : List (Element C)). joined_from o merge [] t vs (ys ++ ws) ≡ joined_from o merge [] t [] ys ++ joined_from o merge [] [] vs ws) (sym z)
      (subst (λ (t : List (Element C)). joined_from o merge [] [] vs (t ++ ws) ≡ joined_from o merge [] [] [] t ++ joined_from o merge [] [] vs ws) (sym y) (unfolding_none vs ws)))

  split_left : (n : ℕ) → ((p q xs ys vs ws : List (Element C)) → work p q xs ys < n → AreReady p q xs ys → joined_from o merge p q (xs ++ vs) (ys ++ ws) ≡ joined_from o merge p q xs ys ++ joined_from o merge [] [] vs ws) →
      (p q xs ys vs ws : List (Element C)) → work p q xs ys < suc n → is_some_wide p q ≡ false → nat_le (width p) (width q) ≡ true → AreReady p q xs ys →
      joined_from o merge p q (xs ++ vs) (ys ++ ws) ≡ joined_from o merge p q xs ys ++ joined_from o merge [] [] vs ws
  unfolding width
  split_left n f p q [] ys vs ws w h l r = split_end p q ys vs ws h (leb-true (width p) (width q) l) r
  split_left n f p q (x ∷ xs) ys vs ws w h l r =
      let a = work_most (p ++ x ∷ []) q xs ys in
      let b = work_least p q (x ∷ xs) ys in
      let e = r.even in
      let wp = width-append p (x ∷ []) in
      let ready : AreReady (p ++ x ∷ []) q xs ys =
      record { even = omega arith; first = AllBits-append p (x ∷ []) r.first (r.left.0, tt); second = r.second; left = r.left.1; right = r.right } in
      join_left o merge p q x (xs ++ vs) (ys ++ ws) h l ∙ f (p ++ x ∷ []) q xs ys vs ws (omega arith) ready
      ∙ ap (λ (t : List (Element C)). t ++ joined_from o merge [] [] vs ws) (sym (join_left o merge p q x xs ys h l))

  split_right : (n : ℕ) → ((p q xs ys vs ws : List (Element C)) → work p q xs ys < n → AreReady p q xs ys → joined_from o merge p q (xs ++ vs) (ys ++ ws) ≡ joined_from o merge p q xs ys ++ joined_from o merge [] [] vs ws) →
      (p q xs ys vs ws : List (Element C)) → work p q xs ys < suc n → is_some_wide p q ≡ false → nat_le (width p) (width q) ≡ false → AreReady p q xs ys →
      joined_from o merge p q (xs ++ vs) (ys ++ ws) ≡ joined_from o merge p q xs ys ++ joined_from o merge [] [] vs ws
  unfolding width
  split_right n f p q xs [] vs ws w h l r = let e = r.even in let g = leb-false (width p) (width q) l in absurd (omega arith)
  split_right n f p q xs (y ∷ ys) vs ws w h l r =
      let a = work_most p (q ++ y ∷ []) xs ys in
      let b = work_least p q xs (y ∷ ys) in
      let e = r.even in
      let wq = width-append q (y ∷ []) in
      let ready : AreReady p (q ++ y ∷ []) xs ys =
      record { even = omega arith; first = r.first; second = AllBits-append q (y ∷ []) r.second (r.right.0, tt); left = r.left; right = r.right.1 } in
      join_right o merge p q y (xs ++ vs) (ys ++ ws) h l ∙ f p (q ++ y ∷ []) xs ys vs ws (omega arith) ready
      ∙ ap (λ (t : List (Element C)). t ++ joined_from o merge [] [] vs ws) (sym (join_right o merge p q y xs ys h l))

  pub join_split : (n : ℕ) (p q xs ys vs ws : List (Element C)) → work p q xs ys < n → AreReady p q xs ys →
      joined_from o merge p q (xs ++ vs) (ys ++ ws) ≡ joined_from o merge p q xs ys ++ joined_from o merge [] [] vs ws
  join_split zero p q xs ys vs ws w r = absurd (omega arith)
  join_split (suc n) p q xs ys vs ws w r =
      elim (cases_Bool (is_some_wide p q)) [
        | inl h ↦
            let l = work_less p q xs ys h in
            let e = some_wide p q h in
            let v = r.even in
            split_close n p q xs ys vs ws h (join_split n [] [] xs ys vs ws (omega arith) (record { even = none_even xs ys (omega arith); first = tt; second = tt; left = r.left; right = r.right }))
        | inr h ↦ elim (cases_Bool (nat_le (width p) (width q))) [
          | inl l ↦ split_left n (join_split n) p q xs ys vs ws w h l r
          | inr l ↦ split_right n (join_split n) p q xs ys vs ws w h l r
        ]
      ]

  -- where both maps have one element at the same bits, the join has there the join of the two
  pub joined_at : (xs ys vs ws : List (Element C)) (k : ℕ) (x y : C) → AllBits xs → AllBits ys → width xs ≡ width ys → 0 < k →
      joined o merge (xs ++ record { bits = k; cell = x } ∷ vs) (ys ++ record { bits = k; cell = y } ∷ ws) ≡ joined o merge xs ys ++ record { bits = k; cell = merge k x y } ∷ joined o merge vs ws
  unfolding joined
  joined_at xs ys vs ws k x y a b w p =
      join_split (suc (work {C = C} [] [] xs ys)) [] [] xs ys (record { bits = k; cell = x } ∷ vs) (record { bits = k; cell = y } ∷ ws) (omega arith)
      (record { even = none_even xs ys w; first = tt; second = tt; left = a; right = b })
      ∙ ap (λ (t : List (Element C)). joined_from o merge [] [] xs ys ++ t)
      (join_same o merge (record { bits = k; cell = x }) (record { bits = k; cell = y }) vs ws p refl ∙ ap (λ (t : List (Element C)). t ++ joined_from o merge [] [] vs ws) (stretch_one o merge k x y p))
