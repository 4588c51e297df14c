-- Stretches between common cuts.
use Rattle.std.proofs.Common.{◌≡◌, ℕ, zero, suc, ◌+◌, true, List, [], ◌∷◌, ◌++◌, length, take, drop, refl, sym, ap, ◌∙◌, subst, arith, inl, inr, length-drop, append-nil, append_assoc}
use Rattle.std.specs.Prelude.{nat_le}
use Rattle.std.proofs.lemmas.List.{take-append-le, drop-append-le}
use Rattle.std.proofs.lemmas.Bool.{and_parts, and_from, cases_Bool, eqb-true}
use Rattle.cell_laws.specs.Elements.{Element, Place, spread, places, width}
use Rattle.cell_laws.specs.Cells.{Ops}
use Rattle.cell_laws.specs.Order.{is_in, is_under}
use Rattle.cell_laws.specs.Join.{is_some_wide, cut}

module _ {C : Type 0} where
  pub width-append : (xs ys : List (Element C)) → width (xs ++ ys) ≡ width xs + width ys
  unfolding width
  width-append [] ys = omega arith
  width-append (x ∷ xs) ys = let r = width-append xs ys in omega arith

  pub places-append : (xs ys : List (Element C)) → places (xs ++ ys) ≡ places xs ++ places ys
  unfolding places
  places-append [] ys = refl
  places-append (x ∷ xs) ys = ap (λ (l : List (Place C)). spread x.bits x.cell 0 x.bits ++ l) (places-append xs ys) ∙ sym (append_assoc (spread x.bits x.cell 0 x.bits) (places xs) (places ys))

  abbrev pub firsts : List (List (Element C) × List (Element C)) → List (Element C)
  firsts [] = []
  firsts (s ∷ ss) = s.0 ++ firsts ss

  abbrev pub seconds : List (List (Element C) × List (Element C)) → List (Element C)
  seconds [] = []
  seconds (s ∷ ss) = s.1 ++ seconds ss

  abbrev pub AllEven : List (List (Element C) × List (Element C)) → Type 0
  AllEven [] = Unit {0}
  AllEven (s ∷ ss) = (width s.0 ≡ width s.1) × AllEven ss

-- the stretches make up the maps, and each is as wide in both
pub record IsCut {C : Type 0} (xs ys : List (Element C)) (ss : List (List (Element C) × List (Element C))) : Type 0 where
  pub firsts : firsts ss ≡ xs
  pub seconds : seconds ss ≡ ys
  pub even : AllEven ss

abbrev Cuts : (C : Type 0) → ℕ → Type 0
Cuts C f = (p q xs ys : List (Element C)) → width (p ++ xs) ≡ width (q ++ ys) → IsCut (p ++ xs) (q ++ ys) (cut f p q xs ys)

module _ {C : Type 0} where
  one_cut : (xs ys : List (Element C)) → width xs ≡ width ys → IsCut xs ys ((xs, ys) ∷ [])
  one_cut xs ys w = record { firsts = append-nil xs; seconds = append-nil ys; even = (w, tt) }

  more_cut : (p q xs ys : List (Element C)) (ss : List (List (Element C) × List (Element C))) → width p ≡ width q → IsCut xs ys ss → IsCut (p ++ xs) (q ++ ys) ((p, q) ∷ ss)
  more_cut p q xs ys ss w c = record { firsts = ap (λ (l : List (Element C)). p ++ l) c.firsts; seconds = ap (λ (l : List (Element C)). q ++ l) c.seconds; even = (w, c.even) }

  pub some_wide : (p q : List (Element C)) → is_some_wide p q ≡ true → width p ≡ width q
  unfolding is_some_wide
  some_wide [] q h = cc
  some_wide (e ∷ p) q h = eqb-true (width (e ∷ p)) (width q) h

  cut_left : (f : ℕ) → Cuts C f → (p q xs ys : List (Element C)) → width (p ++ xs) ≡ width (q ++ ys) →
      IsCut (p ++ xs) (q ++ ys) (elim xs [ [] ↦ (p, q ++ ys) ∷ [] | x ∷ rest ↦ cut f (p ++ x ∷ []) q rest ys ])
  cut_left f h p q [] ys w = rw append-nil (one_cut p (q ++ ys) (rw append-nil at w))
  cut_left f h p q (x ∷ rest) ys w =
      let e = append_assoc p (x ∷ []) rest in
      subst (λ (l : List (Element C)). IsCut l (q ++ ys) (cut f (p ++ x ∷ []) q rest ys)) e (h (p ++ x ∷ []) q rest ys (ap width e ∙ w))

  cut_right : (f : ℕ) → Cuts C f → (p q xs ys : List (Element C)) → width (p ++ xs) ≡ width (q ++ ys) →
      IsCut (p ++ xs) (q ++ ys) (elim ys [ [] ↦ (p ++ xs, q) ∷ [] | y ∷ rest ↦ cut f p (q ++ y ∷ []) xs rest ])
  cut_right f h p q xs [] w = rw append-nil (one_cut (p ++ xs) q (rw append-nil at w))
  cut_right f h p q xs (y ∷ rest) w =
      let e = append_assoc q (y ∷ []) rest in
      subst (λ (l : List (Element C)). IsCut (p ++ xs) l (cut f p (q ++ y ∷ []) xs rest)) e (h p (q ++ y ∷ []) xs rest (w ∙ sym (ap width e)))

  pub cut_is : (f : ℕ) → Cuts C f
  unfolding cut
  cut_is zero p q xs ys w = one_cut (p ++ xs) (q ++ ys) w
  cut_is (suc f) p q xs ys w =
      elim (cases_Bool (is_some_wide p q)) [
        | inl same ↦
            let e = some_wide p q same in
            let l = width-append p xs in
            let r = width-append q ys in
            rw same (more_cut p q xs ys (cut f [] [] xs ys) e (cut_is f [] [] xs ys (omega arith)))
        | inr other ↦ elim (cases_Bool (nat_le (width p) (width q))) [
          | inl le ↦ rw (other, le) (cut_left f (cut_is f) p q xs ys w)
          | inr gt ↦ rw (other, gt) (cut_right f (cut_is f) p q xs ys w)
        ]
      ]

module _ {C H : Type 0} (o : Ops C H) where
  pub under-append : (xs ys : List (Element C)) (ps qs : List (Place C)) → length ps ≡ width xs → is_under o ps xs ≡ true → is_under o qs ys ≡ true → is_under o (ps ++ qs) (xs ++ ys) ≡ true
  unfolding is_under width
  under-append [] ys [] qs w a b = b
  under-append [] ys (p ∷ ps) qs w a b = absurd (omega arith)
  under-append (x ∷ xs) ys ps qs w a b =
      let h = and_parts (is_in o x.bits x.cell (take x.bits ps)) (is_under o (drop x.bits ps) xs) a in
      let t : take x.bits (ps ++ qs) ≡ take x.bits ps = take-append-le x.bits ps qs (omega arith) in
      let d : drop x.bits (ps ++ qs) ≡ drop x.bits ps ++ qs = drop-append-le x.bits ps qs (omega arith) in
      let n : length (drop x.bits ps) ≡ width xs = simp length-drop (omega arith) in
      let g : is_in o x.bits x.cell (take x.bits (ps ++ qs)) ≡ true = rw t h.0 in
      let k : is_under o (drop x.bits (ps ++ qs)) (xs ++ ys) ≡ true = rw d (under-append xs ys (drop x.bits ps) qs n h.1 b) in
      and_from _ _ g k

  pub under-split : (xs ys : List (Element C)) (ps qs : List (Place C)) → length ps ≡ width xs → is_under o (ps ++ qs) (xs ++ ys) ≡ true → (is_under o ps xs ≡ true) × (is_under o qs ys ≡ true)
  unfolding is_under width
  under-split [] ys [] qs w h = (refl, h)
  under-split [] ys (p ∷ ps) qs w h = absurd (omega arith)
  under-split (x ∷ xs) ys ps qs w h =
      let a = and_parts (is_in o x.bits x.cell (take x.bits (ps ++ qs))) (is_under o (drop x.bits (ps ++ qs)) (xs ++ ys)) h in
      let t : take x.bits (ps ++ qs) ≡ take x.bits ps = take-append-le x.bits ps qs (omega arith) in
      let d : drop x.bits (ps ++ qs) ≡ drop x.bits ps ++ qs = drop-append-le x.bits ps qs (omega arith) in
      let n : length (drop x.bits ps) ≡ width xs = simp length-drop (omega arith) in
      let r = under-split xs ys (drop x.bits ps) qs n (rw d at a.1) in
      let g : is_in o x.bits x.cell (take x.bits ps) ≡ true = rw t at a.0 in
      (and_from _ _ g r.0, r.1)
