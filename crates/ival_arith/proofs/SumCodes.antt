-- How sums are computed.
use Rattle.std.proofs.Common.{◌≡◌, ℕ, ◌+◌, ◌*◌, ◌/◌, ◌<◌, ◌≤◌, ◌^◌, true, false, ℤ, pos, ◌+ℤ◌, ◌-ℤ◌, List, [], ◌∷◌, length, drop, drop-cons, add-one, get_or, FitsSigned, to_z, of_z, refl, sym, subst, ap, ◌∙◌, arith}
use Rattle.std.specs.Prelude.{◌&&◌, int_lt, neg_ℤ}
use Rattle.std.specs.Int.{w128, IsGcd}
use Rattle.std.proofs.lemmas.Int.{ints, to_z-of_z, to_z_pos}
use Rattle.std.proofs.lemmas.List.{drop_all}
use Rattle.arrayvec.specs.ArrayVec.{ArrayVec}
use Rattle.std.proofs.lemmas.Nat.Gcd.{same_from_IsGcd}
use Rattle.std.proofs.Math.Nat.{mul-div_cancel}
use lib.Signed.{◌<ℤ◌, ◌≤ℤ◌}
use Rattle.ival_core.specs.declared.value.Progression.{Progression}
use Rattle.ival_core.specs.declared.value.Shape.{Shape}
use Rattle.ival_core.specs.declared.value.Shape.TheVariants.{Few, Many}
use Rattle.ival_core.specs.Sets.{apart, IsNumber, IsLongRun, steps_from}
use Rattle.ival_core.specs.Ranges.{run_shape}
use Rattle.ival_core.specs.Joined.{gcd, joined}
use Rattle.ival_core.proofs.Distances.{apart_onto}
use Rattle.ival_core.proofs.Joined.{gcd_is}
use Rattle.ival_core.proofs.Runs.{number_fits}
use Rattle.ival_core.proofs.RunShapes.{run_shape-few}
use Rattle.ival_core.proofs.Orders.{true_lt, true_le, false_lt, false_le}
use Rattle.ival_arith.specs.declared.pieces.Change.TheVariants.{Plus}
use Rattle.ival_arith.specs.Pieces.{none, run, clipped, all_changed, run_clipped}
use Rattle.ival_arith.specs.Sums.{sums_onto, sum_hull, starts_low, ends_high, firsts, lasts, run_sums, sums}

-- numbers as they are computed
pub sum_is : (a b : ℤ) → IsNumber a → IsNumber b → to_z w128 (of_z w128 (to_z w128 (of_z w128 a) +ℤ to_z w128 (of_z w128 b))) ≡ a +ℤ b
sum_is a b h k =
    let f = number_fits a h in let g = number_fits b k in
    let x = h.least in let y = h.greatest in let z = k.least in let w = k.greatest in
    let i : FitsSigned w128 (a +ℤ b) = omega (arith, ints) in
    rw (to_z-of_z w128 a f, to_z-of_z w128 b g) (to_z-of_z w128 (a +ℤ b) i)

-- n is wide enough to hold sums
pub record IsWide (n : ℤ) : Type 0 where
  pub least : neg_ℤ (pos (2 ^ 125)) ≤ℤ n
  pub greatest : n ≤ℤ pos (2 ^ 125)

pub wide_fits : (n : ℤ) → IsWide n → FitsSigned w128 n
wide_fits n h = let a = h.least in let b = h.greatest in omega (arith, ints)

pub wide : (n : ℤ) → IsNumber n → IsWide n
wide n h = let a = h.least in let b = h.greatest in record { least = omega (arith, ints); greatest = omega (arith, ints) }

pub wide_sum : (a b : ℤ) → IsNumber a → IsNumber b → IsWide (a +ℤ b)
wide_sum a b h k =
    let x = h.least in let y = h.greatest in let z = k.least in let w = k.greatest in
    record { least = omega (arith, ints); greatest = omega (arith, ints) }

pub steps_small : (p : Progression) → IsLongRun p → 8 * p.stride ≤ 2 ^ 121
steps_small p l = let a = l.first.least in let b = l.last.greatest in let c = l.long in omega (arith, ints)

-- some steps further
pub further_is : (n : ℤ) (k : ℕ) → IsWide n → k ≤ 2 ^ 121 → to_z w128 (of_z w128 (to_z w128 (of_z w128 n) +ℤ to_z w128 k)) ≡ n +ℤ pos k
further_is n k h l =
    let a = h.least in let b = h.greatest in
    let i : FitsSigned w128 (n +ℤ pos k) = omega (arith, ints) in
    rw (to_z-of_z w128 n (wide_fits n h), to_z_pos w128 k (omega arith)) (to_z-of_z w128 (n +ℤ pos k) i)

pub further_fits : (n : ℤ) (k : ℕ) → IsWide n → k ≤ 2 ^ 121 → FitsSigned w128 (n +ℤ pos k)
further_fits n k h l = let a = h.least in let b = h.greatest in omega (arith, ints)

pub back_is : (n : ℤ) (k : ℕ) → IsNumber n → k ≤ 2 ^ 121 → to_z w128 (of_z w128 (to_z w128 (of_z w128 n) -ℤ to_z w128 k)) ≡ n +ℤ neg_ℤ (pos k)
back_is n k h l =
    let a = h.least in let b = h.greatest in
    let i : FitsSigned w128 (n -ℤ pos k) = omega (arith, ints) in
    let e : n -ℤ pos k ≡ n +ℤ neg_ℤ (pos k) = omega (arith, ints) in
    rw (to_z-of_z w128 n (number_fits n h), to_z_pos w128 k (omega arith)) (to_z-of_z w128 (n -ℤ pos k) i ∙ e)

pub as_hull : (a b x y : ℤ) (g : ℕ) → x ≡ a → y ≡ b → ◌≡◌ {A = Progression} (record { low = x; high = y; stride = g }) (record { low = a; high = b; stride = g })
as_hull a b x y g e f = ap (λ z. record { low = z; high = y; stride = g }) e ∙ ap (λ z. record { low = a; high = z; stride = g }) f

pub starts_not : (lo hi : ℤ) (p q : Progression) → (p.low +ℤ q.low) <ℤ lo → false ≡ starts_low lo hi p q
starts_not lo hi p q h = sym (ap (λ b. b && (int_lt hi ((p.low +ℤ q.low) +ℤ pos (8 * p.stride)) && int_lt hi ((p.low +ℤ q.low) +ℤ pos (8 * q.stride)))) (false_le lo (p.low +ℤ q.low) h))

pub starts_far : (lo hi : ℤ) (p q : Progression) → lo ≤ℤ (p.low +ℤ q.low) → ((p.low +ℤ q.low) +ℤ pos (8 * p.stride)) ≤ℤ hi → false ≡ starts_low lo hi p q
starts_far lo hi p q h k =
    sym (ap (λ b. b && (int_lt hi ((p.low +ℤ q.low) +ℤ pos (8 * p.stride)) && int_lt hi ((p.low +ℤ q.low) +ℤ pos (8 * q.stride)))) (true_le lo (p.low +ℤ q.low) h)
    ∙ ap (λ b. b && int_lt hi ((p.low +ℤ q.low) +ℤ pos (8 * q.stride))) (false_lt hi ((p.low +ℤ q.low) +ℤ pos (8 * p.stride)) k))

pub starts_else : (lo hi : ℤ) (p q : Progression) → lo ≤ℤ (p.low +ℤ q.low) → hi <ℤ ((p.low +ℤ q.low) +ℤ pos (8 * p.stride)) → int_lt hi ((p.low +ℤ q.low) +ℤ pos (8 * q.stride)) ≡ starts_low lo hi p q
starts_else lo hi p q h k =
    sym (ap (λ b. b && (int_lt hi ((p.low +ℤ q.low) +ℤ pos (8 * p.stride)) && int_lt hi ((p.low +ℤ q.low) +ℤ pos (8 * q.stride)))) (true_le lo (p.low +ℤ q.low) h)
    ∙ ap (λ b. b && int_lt hi ((p.low +ℤ q.low) +ℤ pos (8 * q.stride))) (true_lt hi ((p.low +ℤ q.low) +ℤ pos (8 * p.stride)) k))

pub ends_not : (lo hi : ℤ) (p q : Progression) → hi <ℤ (p.high +ℤ q.high) → false ≡ ends_high lo hi p q
ends_not lo hi p q h = sym (ap (λ b. b && (int_lt (p.high +ℤ q.high) (lo +ℤ pos (8 * p.stride)) && int_lt (p.high +ℤ q.high) (lo +ℤ pos (8 * q.stride)))) (false_le (p.high +ℤ q.high) hi h))

pub ends_far : (lo hi : ℤ) (p q : Progression) → (p.high +ℤ q.high) ≤ℤ hi → (lo +ℤ pos (8 * p.stride)) ≤ℤ (p.high +ℤ q.high) → false ≡ ends_high lo hi p q
ends_far lo hi p q h k =
    sym (ap (λ b. b && (int_lt (p.high +ℤ q.high) (lo +ℤ pos (8 * p.stride)) && int_lt (p.high +ℤ q.high) (lo +ℤ pos (8 * q.stride)))) (true_le (p.high +ℤ q.high) hi h)
    ∙ ap (λ b. b && int_lt (p.high +ℤ q.high) (lo +ℤ pos (8 * q.stride))) (false_lt (p.high +ℤ q.high) (lo +ℤ pos (8 * p.stride)) k))

pub ends_else : (lo hi : ℤ) (p q : Progression) → (p.high +ℤ q.high) ≤ℤ hi → (p.high +ℤ q.high) <ℤ (lo +ℤ pos (8 * p.stride)) → int_lt (p.high +ℤ q.high) (lo +ℤ pos (8 * q.stride)) ≡ ends_high lo hi p q
ends_else lo hi p q h k =
    sym (ap (λ b. b && (int_lt (p.high +ℤ q.high) (lo +ℤ pos (8 * p.stride)) && int_lt (p.high +ℤ q.high) (lo +ℤ pos (8 * q.stride)))) (true_le (p.high +ℤ q.high) hi h)
    ∙ ap (λ b. b && int_lt (p.high +ℤ q.high) (lo +ℤ pos (8 * q.stride))) (true_lt (p.high +ℤ q.high) (lo +ℤ pos (8 * p.stride)) k))

-- ---- the pieces of a sum

onto_more : (lo hi : ℤ) (all s : Shape) (y : ℤ) (ys : List ℤ) → sums_onto lo hi all s (y ∷ ys) ≡ sums_onto lo hi (joined all (clipped lo hi (all_changed (Plus y) s))) s ys
unfolding sums_onto
onto_more lo hi all s y ys = refl

onto_none : (lo hi : ℤ) (all s : Shape) → sums_onto lo hi all s [] ≡ all
unfolding sums_onto
onto_none lo hi all s = refl

pub onto_step : (lo hi : ℤ) (all s t u : Shape) (ys : List ℤ) (i : ℕ) (d : ℤ) → i < length ys → sums_onto lo hi all s (drop i ys) ≡ u →
    t ≡ joined all (clipped lo hi (all_changed (Plus (get_or ys i d)) s)) → sums_onto lo hi t s (drop (i + 1) ys) ≡ u
onto_step lo hi all s t u ys i d h e f =
    ap (λ x. sums_onto lo hi x s (drop (i + 1) ys)) f ∙ sym (onto_more lo hi all s (get_or ys i d) (drop (i + 1) ys))
    ∙ sym (ap (sums_onto lo hi all s) (drop-cons ys i d h ∙ ap (λ k. get_or ys i d ∷ drop k ys) (sym (add-one i)))) ∙ e

pub onto_end : (lo hi : ℤ) (all s u : Shape) (ys : List ℤ) (i : ℕ) → length ys ≤ i → sums_onto lo hi all s (drop i ys) ≡ u → all ≡ u
onto_end lo hi all s u ys i h e = sym (onto_none lo hi all s) ∙ ap (sums_onto lo hi all s) (sym (drop_all i ys h)) ∙ e

pub onto_start : (lo hi : ℤ) (all s : Shape) (ys : List ℤ) → all ≡ none → sums_onto lo hi all s ys ≡ sums_onto lo hi none s ys
onto_start lo hi all s ys e = ap (λ x. sums_onto lo hi x s ys) e

pub few_case : (P : List ℤ → Type 0) (set at : Shape) (v w : ArrayVec ℤ) (xs : List ℤ) → at ≡ set → at ≡ Few v → xs ≡ v.items → set ≡ Few w → P xs → P w.items
few_case P set at v w xs e f g h p = subst P (g ∙ ap items_of (sym f ∙ e ∙ h)) p
  where
    items_of : Shape → List ℤ
    items_of (Few v) = v.items
    items_of (Many p) = []

pub not_few : (set at : Shape) (w : ArrayVec ℤ) (p : Progression) → at ≡ set → at ≡ Many p → set ≡ Few w → ⊥
not_few set at w p e f h = cc

pub sums-few : (lo hi : ℤ) (s set at r : Shape) (v : ArrayVec ℤ) (xs : List ℤ) → at ≡ set → at ≡ Few v → xs ≡ v.items → r ≡ sums_onto lo hi none s xs → r ≡ sums lo hi s set
unfolding sums
sums-few lo hi s set at r v xs e f g h = h ∙ ap (sums_onto lo hi none s) g ∙ ap (sums lo hi s) (sym f ∙ e)

pub sums-few_run : (lo hi : ℤ) (s t at r : Shape) (v : ArrayVec ℤ) (xs : List ℤ) (q : Progression) → t ≡ Many q → at ≡ s → at ≡ Few v → xs ≡ v.items → r ≡ sums_onto lo hi none t xs → r ≡ sums lo hi s t
unfolding sums
sums-few_run lo hi s t at r v xs q i e f g h =
    h ∙ ap (sums_onto lo hi none t) g ∙ ap (λ x. sums_onto lo hi none x v.items) i ∙ ap (λ x. sums lo hi x (Many q)) (sym f ∙ e) ∙ ap (sums lo hi s) (sym i)

pub sums-run : (lo hi : ℤ) (s t at r : Shape) (p q : Progression) → t ≡ Many q → at ≡ s → at ≡ Many p → r ≡ run_sums lo hi p q → r ≡ sums lo hi s t
unfolding sums
sums-run lo hi s t at r p q i e f h = h ∙ ap (λ x. sums lo hi x (Many q)) (sym f ∙ e) ∙ ap (sums lo hi s) (sym i)

pub eight_is : (first : ℤ) (stride : ℕ) → 0 < stride → run first (first +ℤ pos (7 * stride)) stride ≡ Few (record { items = steps_from first stride 8 })
eight_is first stride m =
    let e : apart first (first +ℤ pos (7 * stride)) / stride ≡ 7 = ap (λ k. k / stride) (apart_onto first (7 * stride)) ∙ mul-div_cancel 7 m in
    ap (run_shape first stride) e ∙ run_shape-few first stride 7 (omega arith)

pub hull_of_sums : (p q r : Progression) (g : ℕ) → r ≡ record { low = p.low +ℤ q.low; high = p.high +ℤ q.high; stride = g } → IsGcd p.stride q.stride g → r ≡ sum_hull p q
unfolding sum_hull
hull_of_sums p q r g e h = e ∙ ap (λ k. record { low = p.low +ℤ q.low; high = p.high +ℤ q.high; stride = k }) (same_from_IsGcd p.stride q.stride g (gcd p.stride q.stride) h (gcd_is p.stride q.stride))

pub run_sums-low : (lo hi : ℤ) (p q : Progression) → starts_low lo hi p q ≡ true → run_sums lo hi p q ≡ sums_onto lo hi none (Few (record { items = firsts p })) (firsts q)
unfolding run_sums
run_sums-low lo hi p q e = rw e refl

pub run_sums-high : (lo hi : ℤ) (p q : Progression) → starts_low lo hi p q ≡ false → ends_high lo hi p q ≡ true → run_sums lo hi p q ≡ sums_onto lo hi none (Few (record { items = lasts p })) (lasts q)
unfolding run_sums
run_sums-high lo hi p q e f = rw (e, f) refl

pub run_sums-all : (lo hi : ℤ) (p q : Progression) → starts_low lo hi p q ≡ false → ends_high lo hi p q ≡ false → run_sums lo hi p q ≡ run_clipped lo hi (sum_hull p q)
unfolding run_sums
run_sums-all lo hi p q e f = rw (e, f) refl
