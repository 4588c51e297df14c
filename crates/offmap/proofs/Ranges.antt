-- A map has one list of ranges alone.
use Rattle.std.proofs.Common.{◌≡◌, ℕ, zero, suc, ◌+◌, ◌-◌, ◌*◌, ◌<◌, ◌≤◌, ◌^◌, List, [], ◌∷◌, ◌++◌, refl, sym, ap, ◌∙◌, subst, arith, inl, inr, append_assoc}
use Rattle.std.specs.Prelude.{replicate}
use Rattle.std.proofs.lemmas.List.{append_cancel_left, replicate-append-replicate}
use Rattle.std.proofs.lemmas.Bool.{cases_lt}
use Rattle.cell_laws.specs.Elements.{Element, width}
use Rattle.cell_runs.specs.declared.runs.Run.{Run}
use Rattle.cell_runs.specs.Runs.{element_of, elements, AllSome, AreApart}
use Rattle.cell_runs.proofs.Taking.{elements-first, elements-none, width-first}
use Rattle.offmap.specs.Maps.{IsMap, AreRanges}

some_count : (bits count : ℕ) → 0 < bits → count ≤ bits * count
some_count zero count p = absurd (omega arith)
some_count (suc b) count p = let m : suc b * count ≡ count + b * count = omega arith in omega arith

module _ {C : Type 0} where
  -- the first element of ranges, if there are any
  abbrev Begins : List (Run C) → Element C → Type 0
  Begins [] e = ⊥
  Begins (r ∷ rs) e = element_of r ≡ e

  begins : (rs : List (Run C)) (n : ℕ) (e : Element C) (es : List (Element C)) → AllSome rs → 0 < n → elements rs ≡ replicate n e ++ es → Begins rs e
  begins [] zero e es s p h = absurd (omega arith)
  begins [] (suc n) e es s p h = let g : [] ≡ e ∷ (replicate n e ++ es) = sym (elements-none C) ∙ h in cc
  begins (r ∷ rs) n e es s p h = begun r rs n r.count e es refl s.1 p h
    where
      begun : (r : Run C) (rs : List (Run C)) (n count : ℕ) (e : Element C) (es : List (Element C)) → count ≡ r.count → 0 < r.count → 0 < n → elements (r ∷ rs) ≡ replicate n e ++ es → element_of r ≡ e
      begun r rs zero count e es c q p h = absurd (omega arith)
      begun r rs (suc n) zero e es c q p h = absurd (omega arith)
      begun r rs (suc n) (suc m) e es c q p h =
          let g : element_of r ∷ (replicate m (element_of r) ++ elements rs) ≡ e ∷ (replicate n e ++ es) = ap (λ (k : ℕ). replicate k (element_of r) ++ elements rs) c ∙ sym (elements-first r rs) ∙ h in
          cc

  -- a range doesn't go on with elements like its own
  no_more : (r : Run C) (rs : List (Run C)) (n : ℕ) (es : List (Element C)) → AllSome (r ∷ rs) → AreApart (r ∷ rs) → width (elements (r ∷ rs)) < 2 ^ 64 → 0 < n →
      elements rs ≡ replicate n (element_of r) ++ es → ⊥
  no_more r [] n es s a w p h = begins [] n (element_of r) es tt p h
  no_more r (t ∷ rs) n es s a w p h =
      let b = begins (t ∷ rs) n (element_of r) es (s.2.0, s.2.1, s.2.2) p h in
      let bits : r.bits ≡ t.bits = ap (λ (x : Element C). x.bits) (sym b) in
      let cell : r.cell ≡ t.cell = ap (λ (x : Element C). x.cell) (sym b) in
      let many = a.0 bits cell in
      let u = width-first r (t ∷ rs) in
      let v = width-first t rs in
      let x = some_count r.bits r.count s.0 in
      let y = some_count t.bits t.count s.2.0 in
      absurd (omega arith)

  longer : (r s : Run C) (rs ss : List (Run C)) → AllSome (r ∷ rs) → AreApart (r ∷ rs) → width (elements (r ∷ rs)) < 2 ^ 64 → element_of s ≡ element_of r → elements (r ∷ rs) ≡ elements (s ∷ ss) → r.count < s.count → ⊥
  longer r s rs ss a b w e h l =
      let n = s.count - r.count in
      let m : r.count + n ≡ s.count = omega arith in
      let g : elements (s ∷ ss) ≡ replicate r.count (element_of r) ++ (replicate n (element_of r) ++ elements ss) =
      elements-first s ss ∙ ap (λ (x : Element C). replicate s.count x ++ elements ss) e ∙ ap (λ (k : ℕ). replicate k (element_of r) ++ elements ss) (sym m)
      ∙ ap (λ (x : List (Element C)). x ++ elements ss) (sym (replicate-append-replicate r.count n (element_of r))) ∙ append_assoc (replicate r.count (element_of r)) (replicate n (element_of r)) (elements ss) in
      let f : elements rs ≡ replicate n (element_of r) ++ elements ss =
      append_cancel_left (replicate r.count (element_of r)) (elements rs) (replicate n (element_of r) ++ elements ss) (sym (elements-first r rs) ∙ h ∙ g) in
      no_more r rs n (elements ss) a b w (omega arith) f

  pub ranges_same : (rs ss : List (Run C)) → AllSome rs → AllSome ss → AreApart rs → AreApart ss → width (elements rs) < 2 ^ 64 → elements rs ≡ elements ss → rs ≡ ss
  ranges_same [] [] s t a b w h = refl
  ranges_same [] (y ∷ ss) s t a b w h =
      let g = begins [] y.count (element_of y) (elements ss) tt t.1 (h ∙ elements-first y ss) in absurd g
  ranges_same (x ∷ rs) [] s t a b w h =
      let g = begins [] x.count (element_of x) (elements rs) tt s.1 (sym h ∙ elements-first x rs) in absurd g
  ranges_same (x ∷ rs) (y ∷ ss) s t a b w h =
      let e : element_of x ≡ element_of y = begins (x ∷ rs) y.count (element_of y) (elements ss) s t.1 (h ∙ elements-first y ss) in
      let v : width (elements (y ∷ ss)) < 2 ^ 64 = subst (λ (n : ℕ). n < 2 ^ 64) (ap width h) w in
      let c : x.count ≡ y.count = elim (cases_lt x.count y.count) [
        | inl l ↦ absurd (longer x y rs ss s a w (sym e) h l)
        | inr l ↦ elim (cases_lt y.count x.count) [
          | inl m ↦ absurd (longer y x ss rs t b v e (sym h) m)
          | inr m ↦ omega arith
        ]
      ] in
      let bits : x.bits ≡ y.bits = ap (λ (z : Element C). z.bits) e in
      let cell : x.cell ≡ y.cell = ap (λ (z : Element C). z.cell) e in
      let first : x ≡ y =
      ap (λ (n : ℕ). record { bits = n; count = x.count; cell = x.cell }) bits ∙ ap (λ (n : ℕ). record { bits = y.bits; count = n; cell = x.cell }) c
      ∙ ap (λ (z : C). record { bits = y.bits; count = y.count; cell = z }) cell in
      let rest : elements rs ≡ elements ss =
      append_cancel_left (replicate x.count (element_of x)) (elements rs) (elements ss)
      (sym (elements-first x rs) ∙ h ∙ elements-first y ss ∙ ap (λ (z : Run C). replicate z.count (element_of z) ++ elements ss) (sym first)) in
      let u = width-first x rs in
      ap (λ (z : Run C). z ∷ rs) first ∙ ap (λ (l : List (Run C)). y ∷ l) (ranges_same rs ss s.2 t.2 a.1 b.1 (omega arith) rest)

  pub ranges_are : (Fine : ℕ → C → Type 0) (bits : ℕ) (rs slice : List (Run C)) (m : List (Element C)) → IsMap Fine bits rs → elements rs ≡ m → slice ≡ rs → AreRanges m slice
  ranges_are Fine bits rs slice m i v e =
      let w = i.wide in
      let s = i.small in
      subst (AreRanges m) (sym e) (record {
        view = v;
        some = i.some;
        apart = i.apart;
        only = λ ss a b h. sym (ranges_same rs ss i.some a i.apart b (omega arith) (v ∙ sym h));
      })
