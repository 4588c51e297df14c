-- Parts of maps of sole cells, and maps that are made of such parts.
use Rattle.std.proofs.Common.{◌≡◌, ℕ, zero, suc, ◌+◌, ◌-◌, ◌*◌, ◌<◌, ◌≤◌, Bool, true, false, List, [], ◌∷◌, ◌++◌, refl, sym, ap, ◌∙◌, subst, arith, inl, inr}
use Rattle.std.specs.Prelude.{◌==◌, nat_le, cond, not, replicate}
use Rattle.std.specs.List.{list_all}
use Rattle.std.proofs.lemmas.Bool.{and_parts, and_from, cases_Bool, eqb-true, eqb-false, leb-true, leb-false, ne_eqb, le-leb, lt-leb}
use Rattle.cell_laws.specs.Elements.{Element, width, AllFine}
use Rattle.cell_laws.specs.Cells.{Ops}
use Rattle.cell_laws.specs.Laws.{FineLaws, PartLaws}
use Rattle.cell_laws.specs.Access.{take_bits, drop_bits, filled, put, repeated, copied, pasted, stored}
use Rattle.cell_laws.proofs.Accesses.{width-put}
use Rattle.run_orders.specs.Singles.{all_single}
use Rattle.run_orders.specs.Deaths.{left_all}
use Rattle.run_orders.proofs.Leaving.{filled_blank, filled_whole}
use Rattle.exact_laws.specs.Cuts.{is_loose_at}
use Rattle.exact_laws.specs.Laws.{SoleDeath}

pub not_rigid : (b : Bool) → not b ≡ true → b ≡ false
not_rigid true h = cc
not_rigid false h = refl

module _ {C : Type 0} (sole : ℕ → C → Bool) where
  abbrev pub AllSole : List (Element C) → Type 0
  AllSole [] = Unit {0}
  AllSole (e ∷ es) = (sole e.bits e.cell ≡ true) × AllSole es

  pub single_parts : (es : List (Element C)) → all_single sole es ≡ true → AllSole es
  unfolding all_single
  single_parts [] h = tt
  single_parts (e ∷ es) h = let a = and_parts (sole e.bits e.cell) (list_all (λ (x : Element C). sole x.bits x.cell) es) h in (a.0, single_parts es a.1)

  pub parts_single : (es : List (Element C)) → AllSole es → all_single sole es ≡ true
  unfolding all_single
  parts_single [] h = refl
  parts_single (e ∷ es) h = and_from (sole e.bits e.cell) (list_all (λ (x : Element C). sole x.bits x.cell) es) h.0 (parts_single es h.1)

  pub sole_append : (xs ys : List (Element C)) → AllSole xs → AllSole ys → AllSole (xs ++ ys)
  sole_append [] ys a b = b
  sole_append (x ∷ xs) ys a b = (a.0, sole_append xs ys a.1 b)

  pub sole_replicate : (n k : ℕ) (c : C) → sole k c ≡ true → AllSole (replicate n (record { bits = k; cell = c }))
  sole_replicate zero k c s = tt
  sole_replicate (suc n) k c s = (s, sole_replicate n k c s)

  pub sole_repeated : {H : Type 0} (o : Ops C H) (k n : ℕ) (c : C) → AllSole (put o k c) → AllSole (repeated o k n c)
  unfolding repeated
  sole_repeated o k zero c s = tt
  sole_repeated o k (suc n) c s = sole_append (put o k c) (repeated o k n c) s (sole_repeated o k n c s)

module _ {C : Type 0} (rigid : C → Bool) where
  loose_short : (e : Element C) (es : List (Element C)) (n : ℕ) → 0 < n → n < e.bits → is_loose_at rigid (e ∷ es) n ≡ true → rigid e.cell ≡ false
  unfolding is_loose_at
  loose_short e es n p h l = not_rigid (rigid e.cell) (rw (ne_eqb n 0 (λ z. omega arith), lt-leb e.bits n h) at l)

  loose_past : (e : Element C) (es : List (Element C)) (n : ℕ) → 0 < n → e.bits ≤ n → is_loose_at rigid (e ∷ es) n ≡ is_loose_at rigid es (n - e.bits)
  unfolding is_loose_at
  loose_past e es n p h = rw (ne_eqb n 0 (λ z. omega arith), le-leb e.bits n h) refl

  loose_none : (es : List (Element C)) → is_loose_at rigid es 0 ≡ true
  unfolding is_loose_at
  loose_none [] = refl
  loose_none (e ∷ es) = refl

  loose_from : (e : Element C) (es : List (Element C)) (n : ℕ) → 0 < n → n < e.bits → rigid e.cell ≡ false → is_loose_at rigid (e ∷ es) n ≡ true
  unfolding is_loose_at
  loose_from e es n p h l = rw (ne_eqb n 0 (λ z. omega arith), lt-leb e.bits n h, l) refl

module _ {C H : Type 0} (o : Ops C H) (Fine : ℕ → C → Type 0) (sole : ℕ → C → Bool) (rigid : C → Bool)
    (piece_sole : (k : ℕ) (c : C) (low n : ℕ) → Fine k c → 0 < n → n < k → low + n ≤ k → rigid c ≡ false → sole k c ≡ true → sole n (o.piece k c low n) ≡ true)
    (piece_loose : (k : ℕ) (c : C) (low n : ℕ) → Fine k c → 0 < n → n < k → low + n ≤ k → rigid c ≡ false → rigid (o.piece k c low n) ≡ false) where
  pub sole_take : (es : List (Element C)) (n : ℕ) → AllFine Fine es → AllSole sole es → is_loose_at rigid es n ≡ true → AllSole sole (take_bits o es n)
  unfolding take_bits
  sole_take [] n f s l = tt
  sole_take (e ∷ es) n f s l =
      elim (cases_Bool (n == 0)) [
        | inl z ↦ rw z tt
        | inr z ↦
            let y = eqb-false n 0 z in
            elim (cases_Bool (nat_le e.bits n)) [
              | inl b ↦ let g = leb-true e.bits n b in rw (z, b) (s.0, sole_take es (n - e.bits) f.1 s.1 (sym (loose_past rigid e es n (omega arith) g) ∙ l))
              | inr b ↦
                  let g = leb-false e.bits n b in
                  rw (z, b) (piece_sole e.bits e.cell 0 n f.0 (omega arith) (omega arith) (omega arith) (loose_short rigid e es n (omega arith) (omega arith) l) s.0, tt)
            ]
      ]

  pub sole_drop : (es : List (Element C)) (n : ℕ) → AllFine Fine es → AllSole sole es → is_loose_at rigid es n ≡ true → AllSole sole (drop_bits o es n)
  unfolding drop_bits
  sole_drop [] n f s l = tt
  sole_drop (e ∷ es) n f s l =
      elim (cases_Bool (n == 0)) [
        | inl z ↦ rw z s
        | inr z ↦
            let y = eqb-false n 0 z in
            elim (cases_Bool (nat_le e.bits n)) [
              | inl b ↦ let g = leb-true e.bits n b in rw (z, b) (sole_drop es (n - e.bits) f.1 s.1 (sym (loose_past rigid e es n (omega arith) g) ∙ l))
              | inr b ↦
                  let g = leb-false e.bits n b in
                  rw (z, b) (piece_sole e.bits e.cell n (e.bits - n) f.0 (omega arith) (omega arith) (omega arith) (loose_short rigid e es n (omega arith) (omega arith) l) s.0, s.1)
            ]
      ]

  -- a bit at which a map may be cut is one at which what is left of it may be
  pub loose_drop : (es : List (Element C)) (at n : ℕ) → AllFine Fine es → is_loose_at rigid es at ≡ true → is_loose_at rigid es (at + n) ≡ true → is_loose_at rigid (drop_bits o es at) n ≡ true
  unfolding drop_bits is_loose_at
  loose_drop [] at n f l m = refl
  loose_drop (e ∷ es) at n f l m =
      elim (cases_Bool (at == 0)) [
        | inl z ↦ let i = eqb-true at 0 z in let j : at + n ≡ n = omega arith in rw z (subst (λ (x : ℕ). is_loose_at rigid (e ∷ es) x ≡ true) j m)
        | inr z ↦
            let y = eqb-false at 0 z in
            elim (cases_Bool (nat_le e.bits at)) [
              | inl b ↦
                  let g = leb-true e.bits at b in
                  let j : at + n - e.bits ≡ at - e.bits + n = omega arith in
                  let k : is_loose_at rigid es (at - e.bits + n) ≡ true =
                  ap (is_loose_at rigid es) (sym j) ∙ sym (loose_past rigid e es (at + n) (omega arith) (omega arith)) ∙ m in
                  rw (z, b) (loose_drop es (at - e.bits) n f.1 (sym (loose_past rigid e es at (omega arith) g) ∙ l) k)
              | inr b ↦
                  let g = leb-false e.bits at b in
                  let r = loose_short rigid e es at (omega arith) (omega arith) l in
                  let p = piece_loose e.bits e.cell at (e.bits - at) f.0 (omega arith) (omega arith) (omega arith) r in
                  rw (z, b) (behind e es at n (omega arith) (omega arith) p m)
            ]
      ]
    where
      behind : (e : Element C) (es : List (Element C)) (at n : ℕ) → 0 < at → at < e.bits → rigid (o.piece e.bits e.cell at (e.bits - at)) ≡ false → is_loose_at rigid (e ∷ es) (at + n) ≡ true →
          is_loose_at rigid (record { bits = e.bits - at; cell = o.piece e.bits e.cell at (e.bits - at) } ∷ es) n ≡ true
      behind e es at n h l p m =
          elim (cases_Bool (n == 0)) [
            | inl z ↦
                let i = eqb-true n 0 z in
                subst (λ (x : ℕ). is_loose_at rigid (record { bits = e.bits - at; cell = o.piece e.bits e.cell at (e.bits - at) } ∷ es) x ≡ true) (sym i) (loose_none rigid (record { bits = e.bits - at; cell = o.piece e.bits e.cell at (e.bits - at) } ∷ es))
            | inr z ↦
                let y = eqb-false n 0 z in
                elim (cases_Bool (nat_le (e.bits - at) n)) [
                  | inl b ↦
                      let g = leb-true (e.bits - at) n b in
                      let j : at + n - e.bits ≡ n - (e.bits - at) = omega arith in
                      loose_past rigid (record { bits = e.bits - at; cell = o.piece e.bits e.cell at (e.bits - at) }) es n (omega arith) g
                      ∙ ap (is_loose_at rigid es) (sym j) ∙ sym (loose_past rigid e es (at + n) (omega arith) (omega arith)) ∙ m
                  | inr b ↦
                      let g = leb-false (e.bits - at) n b in
                      loose_from rigid (record { bits = e.bits - at; cell = o.piece e.bits e.cell at (e.bits - at) }) es n (omega arith) g p
                ]
          ]

  pub sole_copied : (m : List (Element C)) (at n : ℕ) → AllFine Fine m → AllFine Fine (drop_bits o m at) → AllSole sole m → is_loose_at rigid m at ≡ true → is_loose_at rigid m (at + n) ≡ true → AllSole sole (copied o m at n)
  unfolding copied
  sole_copied m at n f g s l h = sole_take (drop_bits o m at) n g (sole_drop m at f s l) (loose_drop m at n f l h)

  pub sole_pasted : (m : List (Element C)) (at : ℕ) (part : List (Element C)) → AllFine Fine m → AllSole sole m → AllSole sole part → is_loose_at rigid m at ≡ true → is_loose_at rigid m (at + width part) ≡ true → AllSole sole (pasted o m at part)
  unfolding pasted
  sole_pasted m at part f s t l h =
      sole_append sole (take_bits o m at) (part ++ drop_bits o m (at + width part)) (sole_take m at f s l) (sole_append sole part (drop_bits o m (at + width part)) t (sole_drop m (at + width part) f s h))

  pub sole_stored : (m : List (Element C)) (at k : ℕ) (c : C) → AllFine Fine m → AllSole sole m → AllSole sole (put o k c) → is_loose_at rigid m at ≡ true → is_loose_at rigid m (at + k) ≡ true → AllSole sole (stored o m at k c)
  unfolding stored
  sole_stored m at k c f s t l h = sole_pasted m at (put o k c) f s t l (subst (λ (x : ℕ). is_loose_at rigid m (at + x) ≡ true) (sym (width-put o k c)) h)

module _ {C H : Type 0} (o : Ops C H) (Fine : ℕ → C → Type 0) (sole : ℕ → C → Bool) (n : FineLaws o Fine) (q : PartLaws o Fine) where
  pub sole_put : (k : ℕ) (c : C) → Fine k c → sole k c ≡ true → AllSole sole (put o k c)
  unfolding put
  sole_put k c f s =
      subst (λ (x : C). AllSole sole (filled o k x)) (sym (q.fit_same k c f))
      (elim (cases_Bool (o.blank c)) [
        | inl b ↦
            let one = n.blank_bits k c f b in
            subst (AllSole sole) (sym (filled_blank o k c b)) (sole_replicate sole k 1 c (subst (λ (x : ℕ). sole x c ≡ true) one s))
        | inr b ↦ subst (AllSole sole) (sym (filled_whole o k c b)) (s, tt)
      ])

module _ {C H : Type 0} (o : Ops C H) (sole : ℕ → C → Bool) where
  pub sole_put_blank : (k : ℕ) (c : C) → o.blank c ≡ true → sole 1 c ≡ true → o.fit k c ≡ c → AllSole sole (put o k c)
  unfolding put
  sole_put_blank k c b s e = subst (λ (x : C). AllSole sole (filled o k x)) (sym e) (subst (AllSole sole) (sym (filled_blank o k c b)) (sole_replicate sole k 1 c s))

-- what is left when an object has died
module _ {C H : Type 0} (o : Ops C H) (Fine : ℕ → C → Type 0) (sole : ℕ → C → Bool) (left : C → C) (d : SoleDeath Fine o.blank sole left) where
  sole_filled : (k : ℕ) (c : C) → (o.blank c ≡ false → sole k c ≡ true) → (o.blank c ≡ true → sole 1 c ≡ true) → AllSole sole (filled o k c)
  sole_filled k c f g =
      elim (cases_Bool (o.blank c)) [
        | inl b ↦ subst (AllSole sole) (sym (filled_blank o k c b)) (sole_replicate sole k 1 c (g b))
        | inr b ↦ subst (AllSole sole) (sym (filled_whole o k c b)) (f b, tt)
      ]

  pub sole_left : (m : List (Element C)) → AllFine Fine m → AllSole sole m → AllSole sole (left_all o left m)
  unfolding left_all
  sole_left [] f s = tt
  sole_left (e ∷ es) f s =
      sole_append sole (filled o e.bits (left e.cell)) (left_all o left es) (sole_filled e.bits (left e.cell) (d.left_sole e.bits e.cell f.0 s.0) (d.left_blank e.bits e.cell f.0 s.0)) (sole_left es f.1 s.1)
