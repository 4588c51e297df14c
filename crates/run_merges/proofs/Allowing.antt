-- What an element allows of another of its size.
use Rattle.std.proofs.Common.{◌≡◌, ℕ, zero, suc, ◌+◌, ◌-◌, ◌<◌, ◌≤◌, Bool, true, false, ◌&&◌, List, [], ◌∷◌, ◌++◌, length, refl, sym, ap, ◌∙◌, subst, arith, append-nil, append_assoc}
use Rattle.std.specs.Prelude.{Option, None, Some}
use Rattle.std.specs.List.{list_all}
use Rattle.std.proofs.lemmas.List.{length-append}
use Rattle.std.proofs.lemmas.Bool.{eq-eqb}
use Rattle.cell_laws.specs.Elements.{Place, spread}
use Rattle.cell_laws.specs.Cells.{Ops}
use Rattle.cell_laws.specs.Order.{and_bit, known, has_bits, is_start, is_admitted, is_bare, is_known, is_in}
use Rattle.cell_laws.specs.Join.{joined_cell}
use Rattle.cell_laws.proofs.Places.{length-spread}
use Rattle.cell_laws.proofs.Ordering.{known_length}
use Rattle.run_places.proofs.Knowing.{with_more}
use Rattle.run_merges.specs.Widened.{is_same_number, widened_cell}

-- the bits before an index are known
pub record KnowsTo {C H : Type 0} (o : Ops C H) (k : ℕ) (x : C) (i : ℕ) (out : List Bool) : Type 0 where
  pub same : with_more out (known o (spread k x i (k - i))) ≡ known o (spread k x 0 k)
  pub inside : i ≤ k
  pub count : length out ≡ i

module _ {C H : Type 0} (o : Ops C H) where
  more_none : (bs : Option (List Bool)) → with_more [] bs ≡ bs
  unfolding with_more
  more_none None = refl
  more_none (Some cs) = refl

  more_one : (out : List Bool) (b : Bool) (bs : Option (List Bool)) → with_more (out ++ b ∷ []) bs ≡ with_more out (and_bit (Some b) bs)
  unfolding with_more and_bit
  more_one out b None = refl
  more_one out b (Some cs) = ap Some (append_assoc out (b ∷ []) cs)

  pub know_begin : (k : ℕ) (x : C) (out : List Bool) → out ≡ [] → KnowsTo o k x 0 out
  know_begin k x out z =
      let i : k - 0 ≡ k = omega arith in
      subst (KnowsTo o k x 0) (sym z) (record { same = more_none (known o (spread k x 0 (k - 0))) ∙ ap (λ (n : ℕ). known o (spread k x 0 n)) i; inside = omega arith; count = refl })

  next_known : (k : ℕ) (x : C) (i n : ℕ) → 0 < n → known o (spread k x i n) ≡ and_bit (o.bit k i x) (known o (spread k x (suc i) (n - 1)))
  unfolding known spread
  next_known k x i zero h = absurd (omega arith)
  next_known k x i (suc n) h = let e : n ≡ suc n - 1 = omega arith in ap (λ (m : ℕ). and_bit (o.bit k i x) (known o (spread k x (suc i) m))) e

  pub know_stop : (k : ℕ) (x : C) (i : ℕ) (out : List Bool) → i < k → o.bit k i x ≡ None → KnowsTo o k x i out → known o (spread k x 0 k) ≡ None
  unfolding with_more and_bit
  know_stop k x i out h n p = sym p.same ∙ ap (with_more out) (next_known k x i (k - i) (omega arith) ∙ ap (λ (b : Option Bool). and_bit b (known o (spread k x (suc i) (k - i - 1)))) n)

  pub know_step : (k : ℕ) (x : C) (i : ℕ) (out new : List Bool) (b : Bool) → i < k → Some b ≡ o.bit k i x → new ≡ out ++ b ∷ [] → KnowsTo o k x i out → KnowsTo o k x (i + 1) new
  know_step k x i out new b h e w p =
      let m : k - (i + 1) ≡ k - i - 1 = omega arith in
      let s : suc i ≡ i + 1 = omega arith in
      let q : with_more new (known o (spread k x (i + 1) (k - (i + 1)))) ≡ with_more out (known o (spread k x i (k - i))) =
      ap (λ (l : List Bool). with_more l (known o (spread k x (i + 1) (k - (i + 1))))) w ∙ more_one out b (known o (spread k x (i + 1) (k - (i + 1))))
      ∙ ap (with_more out) (ap (λ (n : ℕ). and_bit (Some b) (known o (spread k x (i + 1) n))) m ∙ ap (λ (n : ℕ). and_bit (Some b) (known o (spread k x n (k - i - 1)))) (sym s)
      ∙ ap (λ (y : Option Bool). and_bit y (known o (spread k x (suc i) (k - i - 1)))) e ∙ sym (next_known k x i (k - i) (omega arith))) in
      let c = p.count in
      let l = ap length w ∙ length-append out (b ∷ []) in
      record { same = q ∙ p.same; inside = omega arith; count = omega arith }

  pub know_end : (k : ℕ) (x : C) (i : ℕ) (out : List Bool) → k ≤ i → KnowsTo o k x i out → known o (spread k x 0 k) ≡ Some out
  unfolding with_more known spread
  know_end k x i out h p =
      let z : k - i ≡ 0 = omega arith in
      sym p.same ∙ ap (λ (n : ℕ). with_more out (known o (spread k x i n))) z ∙ ap Some (append-nil out)

  -- tests of a cell's places are those of the cell

  all_spread : (f : C → Bool) (k : ℕ) (x : C) (i n : ℕ) → 0 < n → list_all (λ (p : Place C). f p.cell) (spread k x i n) ≡ f x
  unfolding spread
  all_spread f k x i zero h = absurd (omega arith)
  all_spread f k x i (suc zero) h = last (f x)
    where
      last : (b : Bool) → (b && true) ≡ b
      last true = refl
      last false = refl
  all_spread f k x i (suc (suc n)) h = ap (λ (b : Bool). f x && b) (all_spread f k x (suc i) (suc n) (omega arith)) ∙ twice (f x)
    where
      twice : (b : Bool) → (b && b) ≡ b
      twice true = refl
      twice false = refl

  start_one : (k : ℕ) (x y : C) → 0 < k → is_start o k y (spread k x 0 k) ≡ o.leq x y
  unfolding is_start spread
  start_one zero x y h = absurd (omega arith)
  start_one (suc k) x y h = ap (λ (b : Bool). b && o.leq x y) (eq-eqb (suc k) (suc k) refl)

  admitted_one : (k : ℕ) (x y : C) → 0 < k → is_admitted o k y (spread k x 0 k) ≡ o.admits k y (o.hue x)
  unfolding is_admitted
  admitted_one k x y h = all_spread (λ c. o.admits k y (o.hue c)) k x 0 k h

  bare_one : (k : ℕ) (x y : C) → 0 < k → is_bare o y (spread k x 0 k) ≡ (o.blank x && o.within (o.hue x) (o.hue y))
  unfolding is_bare
  bare_one k x y h = all_spread (λ c. o.blank c && o.within (o.hue c) (o.hue y)) k x 0 k h

  pub allowed_start : (k : ℕ) (x y : C) → 0 < k → o.leq x y ≡ true → true ≡ is_in o k y (spread k x 0 k)
  unfolding is_in
  allowed_start k x y h e = sym (rw (start_one k x y h ∙ e) refl)

  pub allowed_any : (k : ℕ) (x y : C) → 0 < k → o.leq x y ≡ false → o.admits k y (o.hue x) ≡ true → true ≡ is_in o k y (spread k x 0 k)
  unfolding is_in
  allowed_any k x y h e f = sym (rw (start_one k x y h ∙ e, admitted_one k x y h ∙ f) refl)

  pub allowed_bare : (k : ℕ) (x y : C) → 0 < k → o.leq x y ≡ false → o.admits k y (o.hue x) ≡ false → (o.blank x && o.within (o.hue x) (o.hue y)) ≡ true → true ≡ is_in o k y (spread k x 0 k)
  unfolding is_in
  allowed_bare k x y h e f d = sym (rw (start_one k x y h ∙ e, admitted_one k x y h ∙ f, bare_one k x y h ∙ d) refl)

  pub allowed_known : (k : ℕ) (x y : C) → 0 < k → o.leq x y ≡ false → o.admits k y (o.hue x) ≡ false → (o.blank x && o.within (o.hue x) (o.hue y)) ≡ false →
      is_known o k y (spread k x 0 k) ≡ is_in o k y (spread k x 0 k)
  unfolding is_in
  allowed_known k x y h e f d = sym (rw (start_one k x y h ∙ e, admitted_one k x y h ∙ f, bare_one k x y h ∙ d) refl)

  pub known_no : (k : ℕ) (x y : C) → known o (spread k x 0 k) ≡ None → false ≡ is_known o k y (spread k x 0 k)
  unfolding is_known has_bits
  known_no k x y h = sym (rw h refl)

  pub known_yes : (k : ℕ) (x y : C) (bs : List Bool) → known o (spread k x 0 k) ≡ Some bs → (length bs ≡ k) × (o.has k y bs ≡ is_known o k y (spread k x 0 k))
  unfolding is_known has_bits
  known_yes k x y bs h = (known_length o (spread k x 0 k) bs h ∙ length-spread k x 0 k, sym (rw h refl))

  pub cell_allowed : (k : ℕ) (x y : C) → is_in o k y (spread k x 0 k) ≡ true → y ≡ joined_cell o k x y
  unfolding joined_cell
  cell_allowed k x y h = sym (rw h refl)

  pub cell_joined : (k : ℕ) (x y : C) → is_in o k y (spread k x 0 k) ≡ false → o.join x y ≡ joined_cell o k x y
  unfolding joined_cell
  cell_joined k x y h = sym (rw h refl)

  pub other_number : (k : ℕ) (x y : C) → is_known o k y (spread k x 0 k) ≡ false → false ≡ is_same_number o k x y
  unfolding is_same_number
  other_number k x y h = sym (ap (λ (b : Bool). b && is_known o k x (spread k y 0 k)) h)

  pub one_number : (k : ℕ) (x y : C) → is_known o k y (spread k x 0 k) ≡ true → is_known o k x (spread k y 0 k) ≡ is_same_number o k x y
  unfolding is_same_number
  one_number k x y h = sym (ap (λ (b : Bool). b && is_known o k x (spread k y 0 k)) h)

  pub cell_same : (widened : ℕ → C → C → C) (k : ℕ) (x y : C) → is_same_number o k x y ≡ true → y ≡ widened_cell o widened k x y
  unfolding widened_cell
  cell_same widened k x y h = sym (rw h refl)

  pub cell_widened : (widened : ℕ → C → C → C) (k : ℕ) (x y : C) → is_same_number o k x y ≡ false → widened k x y ≡ widened_cell o widened k x y
  unfolding widened_cell
  cell_widened widened k x y h = sym (rw h refl)
