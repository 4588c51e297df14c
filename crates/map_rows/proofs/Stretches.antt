-- What the elements of a range describe, and what its entry does.
use Rattle.std.proofs.Common.{◌≡◌, ℕ, zero, suc, ◌+◌, ◌-◌, ◌*◌, ◌/◌, ◌<◌, ◌≤◌, Bool, true, false, cond, List, [], ◌∷◌, ◌++◌, length, take, drop, refl, sym, ap, ◌∙◌, subst, arith, length-take, length-drop}
use Rattle.std.specs.Prelude.{◌↔◌, replicate, Option, None, Some}
use Rattle.std.specs.List.{AllByRecursion}
use Rattle.std.proofs.lemmas.List.{drop-drop, take-take, drop-take}
use Rattle.std.proofs.Math.Nat.{mul-div_cancel}
use Rattle.c_base.specs.declared.integer.Machine.TheVariants.{Lp64}
use Rattle.c_memory.specs.Layouts.{Layout}
use Rattle.c_memory.specs.Values.{Cell}
use Rattle.c_memory.specs.Rows.{IsFlagged, AllowsSome, EachElement, AllowsStretch}
use Rattle.cell_laws.specs.Elements.{Element}
use Rattle.cell_laws.specs.Meaning.{Describes}
use Rattle.avalue_base.specs.Values.{Cellv, has_no_value, parts_of, row_cell}
use Rattle.avalue_base.specs.Hues.{blank}
use Rattle.avalue_base.specs.Ops.{Fine}
use Rattle.avalue_base.specs.Meaning.{AllowsBy, Allows}

module _ (l : Layout) (k : ℕ) (c : Cellv) where
  -- so many elements with the cell allow these bits
  abbrev Each : ℕ → List Cell → Type 0
  Each zero xs = xs ≡ []
  Each (suc n) xs = Allows l k c (take k xs) × Each n (drop k xs)

  parted : (n : ℕ) (rest : List (Element Cellv)) (ks : List Cell) → Describes (Allows l) (replicate n (record { bits = k; cell = c }) ++ rest) ks → Each n (take (n * k) ks) × Describes (Allows l) rest (drop (n * k) ks)
  parted zero rest ks d =
      let z : 0 ≡ zero * k = omega arith in
      (sym (ap (λ (x : ℕ). take x ks) z), subst (λ (x : ℕ). Describes (Allows l) rest (drop x ks)) z d)
  parted (suc n) rest ks d =
      let r = parted n rest (drop k ks) d.1 in
      let m : suc n * k ≡ k + n * k = omega arith in
      let t : take k (take (suc n * k) ks) ≡ take k ks = take-take k (suc n * k) ks (omega arith) in
      let e : drop k (take (suc n * k) ks) ≡ take (n * k) (drop k ks) = ap (λ (x : ℕ). drop k (take x ks)) m ∙ drop-take k (n * k) ks in
      let f : drop (n * k) (drop k ks) ≡ drop (suc n * k) ks = drop-drop (n * k) k ks ∙ ap (λ (x : ℕ). drop x ks) (sym m) in (
        (subst (Allows l k c) (sym t) d.0, subst (Each n) (sym e) r.0),
        subst (Describes (Allows l) rest) f r.1,
      )

  joined : (n : ℕ) (rest : List (Element Cellv)) (ks : List Cell) → Each n (take (n * k) ks) → Describes (Allows l) rest (drop (n * k) ks) → Describes (Allows l) (replicate n (record { bits = k; cell = c }) ++ rest) ks
  joined zero rest ks e d = let z : zero * k ≡ 0 = omega arith in subst (λ (x : ℕ). Describes (Allows l) rest (drop x ks)) z d
  joined (suc n) rest ks a d =
      let m : suc n * k ≡ k + n * k = omega arith in
      let t : take k (take (suc n * k) ks) ≡ take k ks = take-take k (suc n * k) ks (omega arith) in
      let e : drop k (take (suc n * k) ks) ≡ take (n * k) (drop k ks) = ap (λ (x : ℕ). drop k (take x ks)) m ∙ drop-take k (n * k) ks in
      let f : drop (n * k) (drop k ks) ≡ drop (suc n * k) ks = drop-drop (n * k) k ks ∙ ap (λ (x : ℕ). drop x ks) (sym m) in (
        subst (Allows l k c) t a.0,
        joined n rest (drop k ks) (subst (Each n) e a.1) (subst (Describes (Allows l) rest) (sym f) d),
      )

  -- elements with values
  valued : has_no_value c.value ≡ false → (n : ℕ) (xs : List Cell) → length xs ≡ n * k → Each n xs ↔ EachElement l (row_cell c) k n xs
  valued h zero xs w = ((λ e. e), (λ e. e))
  valued h (suc n) xs w =
      let m : length (drop k xs) ≡ n * k = simp length-drop (omega arith) in
      let t : length (take k xs) ≡ k = simp length-take (omega arith) in
      let r = valued h n (drop k xs) m in (
        (λ e. (subst (λ b. AllowsBy l c b (take k xs)) h e.0.1, r.0 e.1)),
        (λ e. ((t, subst (λ b. AllowsBy l c b (take k xs)) (sym h) e.0), r.1 e.1)),
      )

  -- bits with flags alone
  bare : has_no_value c.value ≡ true → k ≡ 1 → (n : ℕ) (xs : List Cell) → length xs ≡ n → Each n xs ↔ AllByRecursion (IsFlagged (row_cell c)) xs
  bare h o zero [] w = ((λ e. tt), (λ e. refl))
  bare h o zero (x ∷ xs) w = absurd (omega arith)
  bare h o (suc n) [] w = absurd (omega arith)
  bare h o (suc n) (x ∷ xs) w =
      let r = bare h o n xs (omega arith) in
      let t : take k (x ∷ xs) ≡ x ∷ [] = ap (λ (j : ℕ). take j (x ∷ xs)) o in
      let d : drop k (x ∷ xs) ≡ xs = ap (λ (j : ℕ). drop j (x ∷ xs)) o in (
        (λ e. ((subst (λ (ys : List Cell). AllByRecursion (IsFlagged (row_cell c)) ys) t (subst (λ b. AllowsBy l c b (take k (x ∷ xs))) h e.0.1)).0, r.0 (subst (Each n) d e.1))),
        (λ e. (subst (Allows l k c) (sym t) (sym o, subst (λ b. AllowsBy l c b (x ∷ [])) (sym h) (e.0, tt)), subst (Each n) (sym d) (r.1 e.1))),
      )

  divided : (n m : ℕ) → 0 < k → m ≡ n * k → m / k ≡ n
  divided n m p e = ap (λ (x : ℕ). x / k) e ∙ mul-div_cancel n p

  pub stretch : Fine Lp64 k c → (n : ℕ) (xs : List Cell) → length xs ≡ n * k → Each n xs ↔ AllowsStretch l (row_cell c) (cond (blank c) None (Some k)) xs
  stretch f n xs w = at (has_no_value c.value) refl
    where
      at : (b : Bool) → has_no_value c.value ≡ b → Each n xs ↔ AllowsStretch l (row_cell c) (cond b None (Some k)) xs
      at true h =
          let o = f.blank_bits h in
          bare h o n xs (w ∙ ap (λ (j : ℕ). n * j) o ∙ omega arith)
      at false h =
          let p = f.some_bits in
          subst (λ (j : ℕ). Each n xs ↔ EachElement l (row_cell c) k j xs) (sym (divided n (length xs) p w)) (valued h n xs w)

  -- a range's elements describe what its entry allows
  pub range_describes : Fine Lp64 k c → (n : ℕ) (rest : List (Element Cellv)) (ks : List Cell) → n * k ≤ length ks →
      Describes (Allows l) (replicate n (record { bits = k; cell = c }) ++ rest) ks ↔ (AllowsStretch l (row_cell c) (cond (blank c) None (Some k)) (take (n * k) ks) × Describes (Allows l) rest (drop (n * k) ks))
  range_describes f n rest ks h =
      let w : length (take (n * k) ks) ≡ n * k = simp length-take (omega arith) in
      let s = stretch f n (take (n * k) ks) w in (
        (λ d. let p = parted n rest ks d in (s.0 p.0, p.1)),
        (λ d. joined n rest ks (s.1 d.0) d.1),
      )
