-- Sums in a type.
use Rattle.std.proofs.Common.{◌≡◌, ℕ, suc, ◌+◌, ◌-◌, ◌*◌, ◌%◌, ◌<◌, ◌≤◌, ◌^◌, Bool, true, false, ℤ, pos, ◌+ℤ◌, List, [], ◌∷◌, Result, Ok, refl, sym, subst, ap, ◌∙◌, inl, inr, arith}
use Rattle.std.specs.Prelude.{neg_ℤ}
use Rattle.std.proofs.lemmas.Int.{ints}
use Rattle.std.proofs.lemmas.Bool.{cases_lt}
use Rattle.std.proofs.lemmas.Nat.{pow_pos, mul-le}
use Rattle.std.proofs.Math.Nat.{mod-eq_of_lt, add-mod_right}
use lib.Signed.{◌<ℤ◌, ◌≤ℤ◌}
use Rattle.c_base.specs.Integers.{FitsBits, residue, least_of, greatest_of}
use Rattle.c_base.specs.Operators.{arithmetic}
use Rattle.c_base.proofs.Residues.{residue_below}
use Rattle.ival_core.specs.declared.value.Progression.{Progression}
use Rattle.ival_core.specs.declared.value.Shape.{Shape}
use Rattle.ival_core.specs.declared.value.Shape.TheVariants.{Few, Many}
use Rattle.ival_core.specs.Sets.{apart, Among, IsNumber, IsLongRun, IsValid, Has, Steps, HoldsNine, IsLeast}
use Rattle.ival_core.proofs.Joined.{Makes, HoldsNine-map}
use Rattle.ival_core.proofs.Runs.{Steps-low, Steps-high}
use Rattle.ival_arith.specs.declared.pieces.Change.TheVariants.{Negative}
use Rattle.ival_arith.specs.Pieces.{none, gathered, run, all_changed}
use Rattle.ival_arith.specs.Sums.{sums, sums_onto}
use Rattle.ival_arith.specs.Values.{residues, added}
use Rattle.ival_arith.proofs.Fits.{Fits, Fits-same, Fits-nine, none-exactly}
use Rattle.ival_arith.proofs.Parts.{Image, Between, all_changed-exactly, run-exactly}
use Rattle.ival_arith.proofs.Distinct.{nine_values}
use Rattle.ival_arith.proofs.Adding.{Sum, Lies, Inside, sums-fits, sums-makes, at_first, turned}
use Rattle.ival_arith.proofs.Reducing.{residue-further, residues-fits, residues-own}
use Rattle.ival_arith.proofs.Making.{Typed, IsWidth, signed_result, result_signed, unsigned_result}
use Rattle.ival_arith.proofs.Words.{ends, powers, half, fits_operand, operand_number}
use Rattle.ival_arith.proofs.Exacting.{number_negated}
use Rattle.c_base.specs.Wide.{IsOperand}
use Rattle.c_base.specs.declared.kind.Kind.{Kind}
use Rattle.std.proofs.Math.Nat.{one-dvd}

-- what two sets of numbers of a type, the second one perhaps negated, may be asked for
pub record Words (s t : Shape) : Type 0 where
  pub left : IsValid s
  pub right : IsValid t
  pub sums : (x y : ℤ) → Has s x → Has t y → IsNumber (x +ℤ y)

limits : IsNumber (neg_ℤ (pos (2 ^ 120)))
limits = record { least = omega (arith, ints); greatest = omega (arith, ints) }

limit : IsNumber (pos (2 ^ 120))
limit = record { least = omega (arith, ints); greatest = omega (arith, ints) }

pub all_sums : (s t : Shape) → Words s t → Makes (Sum (Has s) (Has t)) (sums (neg_ℤ (pos (2 ^ 120))) (pos (2 ^ 120)) s t)
all_sums s t w =
    sums-makes (neg_ℤ (pos (2 ^ 120))) (pos (2 ^ 120)) s t
    (record { left = w.left; right = w.right; least = limits; greatest = limit; sums = w.sums })
    (record { above = λ x y h k. let n = w.sums x y h k in n.least; below = λ x y h k. let n = w.sums x y h k in n.greatest })

-- ---- nine residues

no_return : (m r k : ℕ) → r < m → 0 < k → k < m → (r + k) % m ≡ r → ⊥
no_return m r k a b c e = elim (cases_lt (r + k) m) [
  | inl l ↦ let f : (r + k) % m ≡ r + k = mod-eq_of_lt l in absurd (omega arith)
  | inr l ↦
      let g : (r + k - m) + m ≡ r + k = omega arith in
      let f : (r + k) % m ≡ r + k - m = ap (λ x. x % m) (sym g) ∙ add-mod_right (r + k - m) m ∙ mod-eq_of_lt (omega arith) in
      absurd (omega arith)
]

apart_residues : (m : ℕ) (a : ℤ) (k : ℕ) → 0 < m → 0 < k → k < m → residue m (a +ℤ pos k) ≡ residue m a → ⊥
apart_residues m a k h b c e = no_return m (residue m a) k (residue_below m a h) b c (sym (residue-further m a k h) ∙ e)

pub nine_residues : (m : ℕ) (p : Progression) (y : ℤ) → 0 < m → IsLongRun p → p.high <ℤ (p.low +ℤ pos m) → HoldsNine (Image (Sum (Steps p) (λ n. n ≡ y)) (λ n. pos (residue m n)))
nine_residues m p y h l b =
    nine_values (Image (Sum (Steps p) (λ n. n ≡ y)) (λ n. pos (residue m n))) (λ k. pos (residue m ((p.low +ℤ pos (k * p.stride)) +ℤ y)))
    (λ i j c d e. other i j c d e)
    (λ k c. record {
      from = (p.low +ℤ pos (k * p.stride)) +ℤ y;
      has = record { left = p.low +ℤ pos (k * p.stride); right = y; has_left = at_first p l k c; has_right = refl; is = refl };
      is = refl;
    })
  where
    unpos : (a b : ℕ) → pos a ≡ pos b → a ≡ b
    unpos a b e = cc

    split : (low y : ℤ) (i j s : ℕ) → i ≤ j → (low +ℤ pos (j * s)) +ℤ y ≡ ((low +ℤ pos (i * s)) +ℤ y) +ℤ pos ((j - i) * s)
    split low y i j s h = let e : (j - i) * s + i * s ≡ j * s = times i j s h in omega (arith, ints)
      where
        times : (i j s : ℕ) → i ≤ j → (j - i) * s + i * s ≡ j * s
        times i j s h = let e : (j - i) + i ≡ j = omega arith in let f : ((j - i) + i) * s ≡ j * s = ap (λ x. x * s) e in omega arith

    other : (i j : ℕ) → suc i ≤ j → j ≤ 8 → pos (residue m ((p.low +ℤ pos (j * p.stride)) +ℤ y)) ≡ pos (residue m ((p.low +ℤ pos (i * p.stride)) +ℤ y)) → ⊥
    other i j c d e =
        let f : 1 * p.stride ≤ (j - i) * p.stride = mul-le 1 p.stride (j - i) p.stride (omega arith) (omega arith) in
        let g : (j - i) * p.stride ≤ 8 * p.stride = mul-le (j - i) p.stride 8 p.stride (omega arith) (omega arith) in
        let o = l.long in
        let q = l.moves in
        apart_residues m ((p.low +ℤ pos (i * p.stride)) +ℤ y) ((j - i) * p.stride) h (omega arith) (omega (arith, ints))
        (ap (residue m) (sym (split p.low y i j p.stride (omega arith))) ∙ unpos (residue m ((p.low +ℤ pos (j * p.stride)) +ℤ y)) (residue m ((p.low +ℤ pos (i * p.stride)) +ℤ y)) e)

-- the numbers of the set lie less than m apart
pub record Narrow (m : ℕ) (s : Shape) : Type 0 where
  pub narrow : (x y : ℤ) → Has s x → Has s y → y <ℤ (x +ℤ pos m)

no_sums : (lo hi : ℤ) (s : Shape) → sums_onto lo hi none s [] ≡ none
unfolding sums_onto
no_sums lo hi s = refl

empty_left : (lo hi : ℤ) (q : Progression) → sums lo hi (Few (record { items = [] })) (Many q) ≡ none
unfolding sums
empty_left lo hi q = no_sums lo hi (Many q)

empty_right : (lo hi : ℤ) (s : Shape) → sums lo hi s (Few (record { items = [] })) ≡ none
unfolding sums
empty_right lo hi s = no_sums lo hi s

empty_residues : (m : ℕ) → residues m none ≡ none
unfolding residues gathered Rattle.ival_core.specs.Joined.with_numbers
empty_residues m = refl

nothing : (P : ℤ → Type 0) (s : Shape) → ((n : ℤ) → P n → ⊥) → s ≡ none → Fits P s
nothing P s h e = subst (Fits P) (sym e) (record { valid = none-exactly.valid; holds = λ n p. absurd (h n p); sharp = inl (λ n k. absurd k) })

onto_right : (P Q : ℤ → Type 0) (m : ℕ) (y : ℤ) → Q y → HoldsNine (Image (Sum P (λ n. n ≡ y)) (λ n. pos (residue m n))) → HoldsNine (Image (Sum P Q) (λ n. pos (residue m n)))
onto_right P Q m y h nine =
    HoldsNine-map (Image (Sum P (λ n. n ≡ y)) (λ n. pos (residue m n))) (Image (Sum P Q) (λ n. pos (residue m n)))
    (λ n i. record { from = i.from; has = record { left = i.has.left; right = i.has.right; has_left = i.has.has_left; has_right = subst Q (sym i.has.has_right) h; is = i.has.is }; is = i.is }) nine

onto_left : (P Q : ℤ → Type 0) (m : ℕ) (y : ℤ) → P y → HoldsNine (Image (Sum Q (λ n. n ≡ y)) (λ n. pos (residue m n))) → HoldsNine (Image (Sum P Q) (λ n. pos (residue m n)))
onto_left P Q m y h nine =
    HoldsNine-map (Image (Sum Q P) (λ n. pos (residue m n))) (Image (Sum P Q) (λ n. pos (residue m n)))
    (λ n i. record { from = i.from; has = record { left = i.has.right; right = i.has.left; has_left = i.has.has_right; has_right = i.has.has_left; is = i.has.is ∙ turned i.has.left i.has.right }; is = i.is })
    (onto_right Q P m y h nine)

covers : (m : ℕ) (s t : Shape) → 0 < m → m ≤ 2 ^ 64 → Words s t → HoldsNine (Image (Sum (Has s) (Has t)) (λ n. pos (residue m n))) →
    Fits (Image (Sum (Has s) (Has t)) (λ n. pos (residue m n))) (residues m (sums (neg_ℤ (pos (2 ^ 120))) (pos (2 ^ 120)) s t))
covers m s t h k w nine =
    let a = all_sums s t w in
    let r = residues-fits m (sums (neg_ℤ (pos (2 ^ 120))) (pos (2 ^ 120)) s t) h k a.valid in
    Fits-nine (Image (Sum (Has s) (Has t)) (λ n. pos (residue m n))) (residues m (sums (neg_ℤ (pos (2 ^ 120))) (pos (2 ^ 120)) s t)) r.valid
    (λ n i. r.holds n (record { from = i.from; has = a.least.holds i.from i.has; is = i.is })) nine

run_narrow : (m : ℕ) (p : Progression) → IsLongRun p → Narrow m (Many p) → p.high <ℤ (p.low +ℤ pos m)
run_narrow m p l n = n.narrow p.low p.high (Steps-low p l) (Steps-high p l)

-- sums modulo m, where one of the sets is long
run_few-fits : (m : ℕ) (p : Progression) (ys : List ℤ) → 0 < m → m ≤ 2 ^ 64 → Words (Many p) (Few (record { items = ys })) → Narrow m (Many p) →
    Fits (Image (Sum (Steps p) (Among ys)) (λ n. pos (residue m n))) (residues m (sums (neg_ℤ (pos (2 ^ 120))) (pos (2 ^ 120)) (Many p) (Few (record { items = ys }))))
run_few-fits m p [] h k w n =
    nothing (Image (Sum (Steps p) (Among [])) (λ n. pos (residue m n))) (residues m (sums (neg_ℤ (pos (2 ^ 120))) (pos (2 ^ 120)) (Many p) (Few (record { items = [] }))))
    (λ z i. i.has.has_right) (ap (residues m) (empty_right (neg_ℤ (pos (2 ^ 120))) (pos (2 ^ 120)) (Many p)) ∙ empty_residues m)
run_few-fits m p (y ∷ ys) h k w n =
    covers m (Many p) (Few (record { items = y ∷ ys })) h k w (onto_right (Steps p) (Among (y ∷ ys)) m y (inl refl) (nine_residues m p y h w.left (run_narrow m p w.left n)))

few_run-fits : (m : ℕ) (xs : List ℤ) (q : Progression) → 0 < m → m ≤ 2 ^ 64 → Words (Few (record { items = xs })) (Many q) → Narrow m (Many q) →
    Fits (Image (Sum (Among xs) (Steps q)) (λ n. pos (residue m n))) (residues m (sums (neg_ℤ (pos (2 ^ 120))) (pos (2 ^ 120)) (Few (record { items = xs })) (Many q)))
few_run-fits m [] q h k w n =
    nothing (Image (Sum (Among []) (Steps q)) (λ n. pos (residue m n))) (residues m (sums (neg_ℤ (pos (2 ^ 120))) (pos (2 ^ 120)) (Few (record { items = [] })) (Many q)))
    (λ z i. i.has.has_left) (ap (residues m) (empty_left (neg_ℤ (pos (2 ^ 120))) (pos (2 ^ 120)) q) ∙ empty_residues m)
few_run-fits m (x ∷ xs) q h k w n =
    covers m (Few (record { items = x ∷ xs })) (Many q) h k w (onto_left (Among (x ∷ xs)) (Steps q) m x (inl refl) (nine_residues m q x h w.right (run_narrow m q w.right n)))

-- one of the sets is long
abbrev pub OneLong : Shape → Shape → Type 0
OneLong (Many p) t = Unit {0}
OneLong (Few v) (Many q) = Unit {0}
OneLong (Few v) (Few u) = ⊥

pub residues_of_sums-fits : (m : ℕ) (s t : Shape) → 0 < m → m ≤ 2 ^ 64 → OneLong s t → Words s t → Narrow m s → Narrow m t →
    Fits (Image (Sum (Has s) (Has t)) (λ n. pos (residue m n))) (residues m (sums (neg_ℤ (pos (2 ^ 120))) (pos (2 ^ 120)) s t))
residues_of_sums-fits m (Many p) (Few u) h k o w n l = run_few-fits m p u.items h k w n
residues_of_sums-fits m (Many p) (Many q) h k o w n l =
    covers m (Many p) (Many q) h k w (onto_right (Steps p) (Steps q) m q.low (Steps-low q w.right) (nine_residues m p q.low h w.left (run_narrow m p w.left n)))
residues_of_sums-fits m (Few v) (Many q) h k o w n l = few_run-fits m v.items q h k w l
residues_of_sums-fits m (Few v) (Few u) h k o w n l = absurd o

-- ---- sums and differences in a type

-- n is what `arithmetic` makes of a number with Z
pub record InType (signed : Bool) (width : ℕ) (Z : ℤ → Type 0) (n : ℤ) : Type 0 where
  pub whole : ℤ
  pub has : Z whole
  pub is : arithmetic signed width whole ≡ Ok n

-- numbers that can be added
pub record NearWord (n : ℤ) : Type 0 where
  pub above : neg_ℤ (pos (2 ^ 64)) ≤ℤ n
  pub below : n ≤ℤ pos (2 ^ 64)

-- an operand of a sum: its numbers are of the type, or are such numbers negated
pub record Operand (signed : Bool) (width : ℕ) (t : Shape) : Type 0 where
  pub valid : IsValid t
  pub lies : signed ≡ true → Lies (least_of true width) (greatest_of true width) t
  pub narrow : Narrow (2 ^ width) t
  pub near : (n : ℤ) → Has t n → NearWord n

near_sum : (x y : ℤ) → NearWord x → NearWord y → IsNumber (x +ℤ y)
near_sum x y h k = let a = h.above in let b = h.below in let c = k.above in let d = k.below in record { least = omega (arith, ints); greatest = omega (arith, ints) }

words : (signed : Bool) (width : ℕ) (s t : Shape) → Operand signed width s → Operand signed width t → Words s t
words signed width s t a b = record { left = a.valid; right = b.valid; sums = λ x y h k. near_sum x y (a.near x h) (b.near y k) }

least_number : (width : ℕ) → IsWidth width → IsNumber (least_of true width)
least_number width w = let e = ends true width w.some w.room in let a = e.least in let b = e.below in record { least = omega (arith, ints); greatest = omega (arith, ints) }

greatest_number : (width : ℕ) → IsWidth width → IsNumber (greatest_of true width)
greatest_number width w = let e = ends true width w.some w.room in let a = e.greatest in let b = e.above in record { least = omega (arith, ints); greatest = omega (arith, ints) }

pub added-fits : (signed : Bool) (width : ℕ) (s t : Shape) → IsWidth width → OneLong s t → Operand signed width s → Operand signed width t →
    Fits (InType signed width (Sum (Has s) (Has t))) (added signed width s t)
unfolding added
added-fits true width s t w o a b =
    let x = words true width s t a b in
    Fits-same (Between (Sum (Has s) (Has t)) (least_of true width) (greatest_of true width)) (InType true width (Sum (Has s) (Has t))) (sums (least_of true width) (greatest_of true width) s t)
    (λ n h. record { whole = n; has = h.has; is = result_signed width n h.above h.below })
    (λ n h.
    let r = signed_result width h.whole n h.is in
    record { has = subst (Sum (Has s) (Has t)) (sym r.0) h.has; above = subst (λ z. least_of true width ≤ℤ z) (sym r.0) r.1.above; below = subst (λ z. z ≤ℤ greatest_of true width) (sym r.0) r.1.below })
    (sums-fits (least_of true width) (greatest_of true width) s t
    (record { left = x.left; right = x.right; least = least_number width w; greatest = greatest_number width w; sums = x.sums }) (a.lies refl) (b.lies refl))
added-fits false width s t w o a b =
    let x = words false width s t a b in
    Fits-same (Image (Sum (Has s) (Has t)) (λ n. pos (residue (2 ^ width) n))) (InType false width (Sum (Has s) (Has t))) (residues (2 ^ width) (sums (neg_ℤ (pos (2 ^ 120))) (pos (2 ^ 120)) s t))
    (λ n i. record { whole = i.from; has = i.has; is = unsigned_result width i.from ∙ ap Ok (sym i.is) })
    (λ n h. record { from = h.whole; has = h.has; is = unok n (pos (residue (2 ^ width) h.whole)) (sym h.is ∙ unsigned_result width h.whole) })
    (residues_of_sums-fits (2 ^ width) s t (pow_pos width) (powers width w.room) o x a.narrow b.narrow)
  where
    unok : (m n : ℤ) → ◌≡◌ {A = Result ℤ Kind} (Ok m) (Ok n) → m ≡ n
    unok m n e = cc

-- where each sum is a number of the type, the least set of all sums
pub added-least : (signed : Bool) (width : ℕ) (s t : Shape) → IsWidth width → Operand signed width s → Operand signed width t → Inside (Has s) (Has t) (least_of signed width) (greatest_of signed width) →
    IsLeast (Sum (Has s) (Has t)) (added signed width s t)
unfolding added
added-least true width s t w a b i =
    let x = words true width s t a b in
    let m = sums-makes (least_of true width) (greatest_of true width) s t (record { left = x.left; right = x.right; least = least_number width w; greatest = greatest_number width w; sums = x.sums }) i in
    m.least
added-least false width s t w a b i =
    let x = words false width s t a b in
    let m = all_sums s t x in
    let all = sums (neg_ℤ (pos (2 ^ 120))) (pos (2 ^ 120)) s t in
    let e = ends false width w.some w.room in
    let p = pow_pos width in
    let word : Shape = run (pos 0) (pos (2 ^ width - 1)) 1 in
    let y = run-exactly (pos 0) (pos (2 ^ width - 1)) 1 (record { least = omega (arith, ints); greatest = omega (arith, ints) }) (let z = e.greatest in record { least = omega (arith, ints); greatest = omega (arith, ints) }) (omega (arith, ints)) (omega arith) in
    let inside : (n : ℤ) → Has all n → Has word n =
    m.least.least word y.valid (λ n h. y.holds n (record {
      above = subst (λ z. pos 0 ≤ℤ z) (sym h.is) (i.above h.left h.right h.has_left h.has_right);
      below = subst (λ z. z ≤ℤ pos (2 ^ width - 1)) (sym h.is) (i.below h.left h.right h.has_left h.has_right);
      meets = one-dvd (apart (pos 0) n);
    })) in
    let o = residues-own (2 ^ width) all (pow_pos width) (powers width w.room) m.valid (record {
      above = λ n h. let k = y.only n (inside n h) in k.above;
      below = λ n h. let k = y.only n (inside n h) in let l : n ≤ℤ pos (2 ^ width - 1) = k.below in omega (arith, ints);
    }) in
    record {
      holds = λ n h. o.least.holds n (m.least.holds n h);
      least = λ u valid f n h. o.least.least u valid (λ k l. m.least.least u valid f k l) n h;
    }

close : (signed : Bool) (width : ℕ) (x y : ℤ) → IsWidth width → FitsBits signed width x → FitsBits signed width y → y <ℤ (x +ℤ pos (2 ^ width))
close true width x y w f g = let h = half width w.some in let p = pow_pos (width - 1) in let a = f.least in let b = g.greatest in omega (arith, ints)
close false width x y w f g = let p = pow_pos width in let a = f.least in let b = g.greatest in omega (arith, ints)

-- the numbers of the type
pub own_operand : (signed : Bool) (width : ℕ) (s : Shape) → IsWidth width → IsValid s → Typed signed width (Has s) → Operand signed width s
own_operand signed width s w v t = record {
  valid = v;
  lies = λ e. record { above = λ n h. (in_signed n (t.fits n h) e).0; below = λ n h. let b = (in_signed n (t.fits n h) e).1 in omega (arith, ints) };
  narrow = record { narrow = λ x y h k. close signed width x y w (t.fits x h) (t.fits y k) };
  near = λ n h. let o = fits_operand signed width n w.some w.room (t.fits n h) in let a = o.least in let b = o.greatest in record { above = omega (arith, ints); below = omega (arith, ints) };
}
  where
    in_signed : (n : ℤ) → FitsBits signed width n → signed ≡ true → (least_of true width ≤ℤ n) × (n ≤ℤ greatest_of true width)
    in_signed n f e = (subst (λ b. least_of b width ≤ℤ n) e f.least, subst (λ b. n ≤ℤ greatest_of b width) e f.greatest)

-- and such numbers negated
pub negated_operand : (signed : Bool) (width : ℕ) (s : Shape) → IsWidth width → IsValid s → Typed signed width (Has s) → Operand signed width (all_changed Negative s)
negated_operand signed width s w v t =
    let x = all_changed-exactly Negative s tt v (λ n h. number_negated n (operand_number n (fits_operand signed width n w.some w.room (t.fits n h)))) in
    record {
      valid = x.valid;
      lies = λ e. record {
        above = λ n h. let i = x.only n h in (turned_ends signed width i.from n w e i.is (t.fits i.from i.has)).0;
        below = λ n h. let i = x.only n h in (turned_ends signed width i.from n w e i.is (t.fits i.from i.has)).1;
      };
      narrow = record { narrow = λ a b h k. let i = x.only a h in let j = x.only b k in turned_close i.from j.from a b (2 ^ width) i.is j.is (close signed width j.from i.from w (t.fits j.from j.has) (t.fits i.from i.has)) };
      near = λ n h. let i = x.only n h in turned_near i.from n i.is (fits_operand signed width i.from w.some w.room (t.fits i.from i.has));
    }
  where
    turned_ends : (signed : Bool) (width : ℕ) (m n : ℤ) → IsWidth width → signed ≡ true → n ≡ neg_ℤ m → FitsBits signed width m → (least_of true width ≤ℤ n) × (n ≤ℤ (greatest_of true width +ℤ pos 1))
    turned_ends true width m n w e i f = let p = pow_pos (width - 1) in let a = f.least in let b = f.greatest in (omega (arith, ints), omega (arith, ints))
    turned_ends false width m n w e i f = cc

    turned_close : (x y a b : ℤ) (m : ℕ) → a ≡ neg_ℤ x → b ≡ neg_ℤ y → x <ℤ (y +ℤ pos m) → b <ℤ (a +ℤ pos m)
    turned_close x y a b m e f h = omega (arith, ints)

    turned_near : (m n : ℤ) → n ≡ neg_ℤ m → IsOperand m → NearWord n
    turned_near m n e o = let a = o.least in let b = o.greatest in record { above = omega (arith, ints); below = omega (arith, ints) }
