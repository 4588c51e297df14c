-- How products are computed.
use Rattle.std.proofs.Common.{◌≡◌, ℕ, zero, suc, ◌+◌, ◌-◌, ◌*◌, ◌/◌, ◌%◌, ◌<◌, ◌≤◌, ◌^◌, Bool, true, false, cond, ℤ, pos, negsuc, ◌+ℤ◌, ◌-ℤ◌, List, [], ◌∷◌, length, drop, get_or, drop-cons, add-one, FitsSigned, to_z, of_z, refl, sym, ap, ◌∙◌, arith}
use Rattle.std.specs.Prelude.{neg_ℤ, ◌*ℤ◌, int_lt, unsigned_abs}
use Rattle.std.specs.Int.{w128, int_min, int_max}
use Rattle.std.proofs.lemmas.List.{drop_all}
use Rattle.std.proofs.lemmas.Int.{ints, to_z_pos}
use Rattle.std.proofs.Math.Nat.{div-le_self, div-mul_cancel}
use Rattle.std.proofs.lemmas.Bool.Decides.{nat_tests}
use lib.Signed.{◌≤ℤ◌}
use Rattle.c_base.specs.Integers.{residue, least_of, greatest_of}
use Rattle.c_base.specs.Operators.{is_zero}
use Rattle.ival_core.specs.declared.value.Progression.{Progression}
use Rattle.ival_core.specs.declared.value.Shape.{Shape}
use Rattle.ival_core.specs.declared.value.Shape.TheVariants.{Few, Many}
use Rattle.ival_core.specs.Sets.{apart, IsNumber, IsLongRun, IsValid, Has}
use Rattle.ival_core.specs.Joined.{joined}
use Rattle.ival_core.proofs.Distances.{apart_is}
use Rattle.ival_core.proofs.Runs.{Steps-high}
use Rattle.ival_core.proofs.RunShapes.{run_shape-many}
use Rattle.ival_arith.specs.declared.pieces.Change.TheVariants.{Times}
use Rattle.ival_arith.specs.Pieces.{run, clipped, all_changed, run_negated, cycle}
use Rattle.ival_arith.specs.Values.{product_line, line, lines_onto, spread}
use Rattle.ival_arith.proofs.Parts.{clipped-exactly}
use Rattle.ival_arith.proofs.Reducing.{long}
use Rattle.ival_arith.proofs.Multiplying.{times_number}

-- a long run is itself
pub whole_is : (p : Progression) → IsLongRun p → run p.low p.high p.stride ≡ Many p
whole_is p l =
    let g = long p l in
    let h = Steps-high p l in
    let e : p.high ≡ p.low +ℤ pos (apart p.low p.high) = apart_is p.low p.high h.above in
    let w : apart p.low p.high / p.stride * p.stride ≡ apart p.low p.high = div-mul_cancel p.stride h.meets in
    run_shape-many p.low p.stride (apart p.low p.high / p.stride) g.more
    ∙ ap (λ x. Many (record { low = p.low; high = x; stride = p.stride })) (ap (λ k. p.low +ℤ pos k) w ∙ sym e)

pub line_zero : (below above : ℕ) (p : Progression) (y : ℤ) → is_zero y ≡ true → product_line below above p y ≡ Few (record { items = pos 0 ∷ [] })
unfolding product_line
line_zero below above p y e = rw e refl

pub line_else : (below above : ℕ) (p : Progression) (y : ℤ) → is_zero y ≡ false →
    product_line below above p y ≡ all_changed (Times (unsigned_abs y)) (clipped (neg_ℤ (pos (below / unsigned_abs y))) (pos (above / unsigned_abs y)) (cond (int_lt y (pos 0)) (run_negated p) (Many p)))
unfolding product_line
line_else below above p y e = rw e refl

pub lower_is : (below k : ℕ) → below ≤ 2 ^ 64 → to_z w128 (of_z w128 (pos 0 -ℤ to_z w128 (below / k))) ≡ neg_ℤ (pos (below / k))
lower_is below k h = let d = div-le_self below k in omega (arith, ints)

pub upper_is : (above k : ℕ) → above ≤ 2 ^ 64 → to_z w128 (above / k) ≡ pos (above / k)
upper_is above k h = let d = div-le_self above k in to_z_pos w128 (above / k) (omega arith)

pub cut_numbers : (below above k : ℕ) (s : Shape) → below ≤ 2 ^ 64 → above ≤ 2 ^ 64 → IsValid s → (n : ℤ) → Has (clipped (neg_ℤ (pos (below / k))) (pos (above / k)) s) n → IsNumber (n *ℤ pos k)
cut_numbers below above k s h i v n m =
    let p = div-le_self below k in
    let q = div-le_self above k in
    let c = clipped-exactly (neg_ℤ (pos (below / k))) (pos (above / k)) s v (record { least = omega (arith, ints); greatest = omega (arith, ints) }) (record { least = omega (arith, ints); greatest = omega (arith, ints) }) in
    let b = c.only n m in
    times_number below above k n h i b.above b.below

pub line_signed : (signed : Bool) (width : ℕ) (p : Progression) (y : ℤ) (r : Shape) → signed ≡ true → r ≡ product_line (2 ^ (width - 1)) (2 ^ (width - 1) - 1) p y → r ≡ line signed width p y
unfolding line
line_signed true width p y r e f = f
line_signed false width p y r e f = cc

pub line_unsigned : (signed : Bool) (width : ℕ) (p : Progression) (y : ℤ) (r : Shape) → signed ≡ false → r ≡ line false width p y → r ≡ line signed width p y
line_unsigned signed width p y r e f = f ∙ ap (λ s. line s width p y) (sym e)

-- products of natural numbers as the code computes them
pub cycle_is : (width : ℕ) (p : Progression) (y : ℤ) → pos 0 ≤ℤ p.low → pos 0 ≤ℤ y →
    cycle (2 ^ width) (unsigned_abs p.low * unsigned_abs y % 2 ^ width) (p.stride * unsigned_abs y % 2 ^ width) (apart p.low p.high / p.stride) ≡ line false width p y
unfolding line
cycle_is width p y h k = ap (λ x. cycle (2 ^ width) x (p.stride * unsigned_abs y % 2 ^ width) (apart p.low p.high / p.stride)) (natural p.low y h k)
  where
    natural : (a b : ℤ) → pos 0 ≤ℤ a → pos 0 ≤ℤ b → unsigned_abs a * unsigned_abs b % 2 ^ width ≡ residue (2 ^ width) (a *ℤ b)
    natural (pos a) (pos b) h k = refl
    natural (pos a) (negsuc b) h k = absurd (omega (arith, ints))
    natural (negsuc a) b h k = absurd (omega (arith, ints))

lines_more : (signed : Bool) (width : ℕ) (all : Shape) (p : Progression) (y : ℤ) (ys : List ℤ) → lines_onto signed width all p (y ∷ ys) ≡ lines_onto signed width (joined all (line signed width p y)) p ys
unfolding lines_onto
lines_more signed width all p y ys = refl

lines_none : (signed : Bool) (width : ℕ) (all : Shape) (p : Progression) → lines_onto signed width all p [] ≡ all
unfolding lines_onto
lines_none signed width all p = refl

pub lines_step : (signed : Bool) (width : ℕ) (all t u : Shape) (p : Progression) (ys : List ℤ) (i : ℕ) (d : ℤ) → i < length ys → lines_onto signed width all p (drop i ys) ≡ u →
    t ≡ joined all (line signed width p (get_or ys i d)) → lines_onto signed width t p (drop (i + 1) ys) ≡ u
lines_step signed width all t u p ys i d h e f =
    ap (λ x. lines_onto signed width x p (drop (i + 1) ys)) f ∙ sym (lines_more signed width all p (get_or ys i d) (drop (i + 1) ys))
    ∙ sym (ap (lines_onto signed width all p) (drop-cons ys i d h ∙ ap (λ k. get_or ys i d ∷ drop k ys) (sym (add-one i)))) ∙ e

pub lines_end : (signed : Bool) (width : ℕ) (all u : Shape) (p : Progression) (ys : List ℤ) (i : ℕ) → length ys ≤ i → lines_onto signed width all p (drop i ys) ≡ u → all ≡ u
lines_end signed width all u p ys i h e = sym (lines_none signed width all p) ∙ ap (lines_onto signed width all p) (sym (drop_all i ys h)) ∙ e

pub zero_bits : (y : ℤ) → FitsSigned w128 y → of_z w128 y ≡ 0 → is_zero y ≡ true
zero_bits (pos zero) f e = refl
zero_bits (pos (suc n)) f e = absurd (omega (arith, ints))
zero_bits (negsuc n) f e = absurd (omega (arith, ints))

pub some_bits : (y : ℤ) → (of_z w128 y ≡ 0 → ⊥) → is_zero y ≡ false
some_bits (pos zero) h = absurd (h refl)
some_bits (pos (suc n)) h = above n
  where
    above : (n : ℕ) → is_zero (pos (suc n)) ≡ false
    above n = grind (arith, nat_tests)
some_bits (negsuc n) h = refl

pub same_clip : (a b c d : ℤ) (s : Shape) → a ≡ c → b ≡ d → clipped a b s ≡ clipped c d s
same_clip a b c d s e f = ap (λ x. clipped x b s) e ∙ ap (λ x. clipped c x s) f

pub same_cycle : (m a b n m' a' b' n' : ℕ) → m ≡ m' → a ≡ a' → b ≡ b' → n ≡ n' → cycle m a b n ≡ cycle m' a' b' n'
same_cycle m a b n m' a' b' n' e f g h = ap (λ x. cycle x a b n) e ∙ ap (λ x. cycle m' x b n) f ∙ ap (λ x. cycle m' a' x n) g ∙ ap (cycle m' a' b') h

pub spread_is : (signed : Bool) (width : ℕ) (natural : Bool) (m : ℕ) (a b : ℤ) → a ≡ int_max (least_of signed width) (cond natural (pos 0) (neg_ℤ (pos m))) → b ≡ int_min (greatest_of signed width) (pos m) →
    run a b 1 ≡ spread signed width natural m
unfolding spread
spread_is signed width natural m a b e f = ap (λ x. run x b 1) e ∙ ap (λ x. run (int_max (least_of signed width) (cond natural (pos 0) (neg_ℤ (pos m)))) x 1) f
