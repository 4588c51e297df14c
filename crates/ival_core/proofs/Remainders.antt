-- The remainder of an integer, which is never negative, and the range of the numbers that leave one.
use Rattle.std.proofs.Common.{◌≡◌, ◌↔◌, ℕ, zero, suc, ◌-◌, ◌*◌, ◌%◌, ◌/◌, ◌<◌, ◌≤◌, ℤ, pos, negsuc, [], ◌+ℤ◌, ◌-ℤ◌, true, false, refl, sym, subst, ap, ◌∙◌, arith}
use Rattle.std.proofs.Math.Nat.{dvd-mul_left, le_of_dvd}
use Rattle.std.proofs.lemmas.Nat.{div-add-mod', mod_below}
use Rattle.std.proofs.lemmas.Int.{ints, by_lt_z}
use Rattle.std.specs.Int.{◌∣◌, int_rem_euclid}
use Rattle.std.specs.Prelude.{unsigned_abs, int_lt, if◌then◌else◌}
use lib.Signed.{◌<ℤ◌, ◌≤ℤ◌}
use Rattle.ival_core.specs.declared.value.Shape.TheVariants.{Few}
use Rattle.ival_core.specs.Sets.{apart, Steps}
use Rattle.ival_core.specs.Ranges.{InRange, IsRange, first_from, ranged, run_shape}
use Rattle.ival_core.proofs.Distances.{meets_back, meets_on}

-- z leaves the rest `rest` modulo m
pub record Leaving (z : ℤ) (m : ℕ) : Type 0 where
  pub rest : ℕ
  pub is : int_rem_euclid z (pos m) ≡ pos rest
  pub below : rest < m
  pub meets : m ∣ apart z (pos rest)

below_suc : (m k : ℕ) → 0 < m → m - 1 - k < m
below_suc m k h = omega arith

above_distance : (a m : ℕ) → apart (pos a) (pos (a % m)) ≡ a / m * m
unfolding apart
above_distance a m = let d = div-add-mod' a m in omega (arith, ints)

under_distance : (a m : ℕ) → 0 < m → apart (negsuc a) (pos (m - 1 - a % m)) ≡ suc (a / m) * m
unfolding apart
under_distance a m h = let d = div-add-mod' a m in let b : a % m < m = mod_below a m h in omega (arith, ints)

pub leaving : (z : ℤ) (m : ℕ) → 0 < m → Leaving z m
leaving (pos a) m h = record {
  rest = a % m;
  is = refl;
  below = mod_below a m h;
  meets = subst (λ x. m ∣ x) (sym (above_distance a m)) (dvd-mul_left m (a / m));
}
leaving (negsuc a) m h = record {
  rest = m - 1 - a % m;
  is = refl;
  below = below_suc m (a % m) h;
  meets = subst (λ x. m ∣ x) (sym (under_distance a m h)) (dvd-mul_left m (suc (a / m)));
}

-- two rests below m that meet are one
pub same_rest : (m a b : ℕ) → a < m → b < m → m ∣ apart (pos a) (pos b) → a ≡ b
unfolding apart
same_rest m a b p q h = by_distance m (apart (pos a) (pos b)) a b h (omega (arith, ints)) refl
  where
    by_distance : (m d a b : ℕ) → m ∣ d → d < m → apart (pos a) (pos b) ≡ d → a ≡ b
    by_distance m zero a b h l e = omega (arith, ints)
    by_distance m (suc d) a b h l e = let k : m ≤ suc d = le_of_dvd (omega arith) h in absurd (omega arith)

-- two numbers that meet modulo m leave the same rest, and the other way round
pub same_leaves : (z w : ℤ) (m r : ℕ) → 0 < m → r < m → m ∣ apart z w → int_rem_euclid z (pos m) ≡ pos r → int_rem_euclid w (pos m) ≡ pos r
same_leaves z w m r h b d e =
    let x = leaving z m h in
    let y = leaving w m h in
    let k : m ∣ apart (pos x.rest) (pos y.rest) = meets_on m (pos x.rest) z (pos y.rest) (meets_back m z (pos x.rest) x.meets) (meets_on m z w (pos y.rest) d y.meets) in
    let s : x.rest ≡ y.rest = same_rest m x.rest y.rest x.below y.below k in
    y.is ∙ ap pos (sym s) ∙ sym x.is ∙ e

pub leaves_same : (z w : ℤ) (m r : ℕ) → 0 < m → int_rem_euclid z (pos m) ≡ pos r → int_rem_euclid w (pos m) ≡ pos r → m ∣ apart z w
leaves_same z w m r h e f =
    let x = leaving z m h in
    let y = leaving w m h in
    let s : pos x.rest ≡ pos y.rest = sym x.is ∙ e ∙ sym f ∙ y.is in
    meets_on m z (pos x.rest) w x.meets (subst (λ k. m ∣ apart k w) (sym s) (meets_back m w (pos y.rest) y.meets))

-- what is known of the first number of a range
pub record First (lo : ℤ) (r m : ℕ) (first : ℤ) : Type 0 where
  pub above : lo ≤ℤ first
  pub near : first <ℤ (lo +ℤ pos m)
  pub leaves : int_rem_euclid first (pos m) ≡ pos r

moved : (lo : ℤ) (r k : ℕ) → apart (pos r -ℤ lo) (pos k) ≡ apart (pos r) (lo +ℤ pos k)
unfolding apart
moved lo r k = omega (arith, ints)

pub first_is : (lo : ℤ) (r m : ℕ) → r < m → First lo r m (first_from lo (pos r) (pos m))
first_is lo r m h =
    let m_pos : 0 < m = omega arith in
    let x = leaving (pos r -ℤ lo) m m_pos in
    let e : int_rem_euclid (pos r -ℤ lo) (pos m) ≡ pos x.rest = x.is in
    let b : x.rest < m = x.below in
    record {
      above = subst (λ y. lo ≤ℤ (lo +ℤ y)) (sym e) (omega (arith, ints));
      near = subst (λ y. (lo +ℤ y) <ℤ (lo +ℤ pos m)) (sym e) (omega (arith, ints));
      leaves = subst (λ y. int_rem_euclid (lo +ℤ y) (pos m) ≡ pos r) (sym e) (at lo r m x.rest m_pos h x.meets);
    }
  where
    at : (lo : ℤ) (r m k : ℕ) → 0 < m → r < m → m ∣ apart (pos r -ℤ lo) (pos k) → int_rem_euclid (lo +ℤ pos k) (pos m) ≡ pos r
    at lo r m k p h d = same_leaves (pos r) (lo +ℤ pos k) m r p h (subst (λ y. m ∣ y) (moved lo r k) d) (own r m p h)
      where
        own : (r m : ℕ) → 0 < m → r < m → int_rem_euclid (pos r) (pos m) ≡ pos r
        own r m p h =
            let x = leaving (pos r) m p in
            x.is ∙ ap pos (sym (same_rest m r x.rest h x.below x.meets))

-- a number before first that meets it would lie before lo
no_earlier : (lo first n : ℤ) (m : ℕ) → first <ℤ (lo +ℤ pos m) → lo ≤ℤ n → n <ℤ first → m ∣ apart first n → ⊥
unfolding apart
no_earlier lo first n m near above l d =
    let k : m ≤ unsigned_abs (n -ℤ first) = le_of_dvd (omega (arith, ints)) d in
    omega (arith, ints)

not_before : (lo first n : ℤ) (m : ℕ) → first <ℤ (lo +ℤ pos m) → lo ≤ℤ n → m ∣ apart first n → first ≤ℤ n
not_before lo first n m near above d = by_lt_z n first (λ l. absurd (no_earlier lo first n m near above l d)) (λ l. l)

-- the numbers of the range are those that meet its first one
pub InRange-steps : (lo hi : ℤ) (r m : ℕ) (first : ℤ) → r < m → First lo r m first → (n : ℤ) → Steps (record { low = first; high = hi; stride = m }) n ↔ InRange lo hi (pos r) (pos m) n
InRange-steps lo hi r m first h f n =
    let m_pos : 0 < m = omega arith in (
      (λ s. record {
        above = let a = f.above in let b : first ≤ℤ n = s.above in omega (arith, ints);
        below = s.below;
        leaves = same_leaves first n m r m_pos h s.meets f.leaves;
      }),
      (λ i.
          let d : m ∣ apart first n = leaves_same first n m r m_pos f.leaves i.leaves in
          record { above = not_before lo first n m f.near i.above d; below = i.below; meets = d }),
    )

-- the same of the arguments of a range
pub range_numbers : (lo hi rem modulus first : ℤ) → IsRange lo hi rem modulus → first ≡ first_from lo rem modulus → (n : ℤ) →
    Steps (record { low = first; high = hi; stride = unsigned_abs modulus }) n ↔ InRange lo hi rem modulus n
range_numbers lo hi (pos r) (pos m) first h e n = InRange-steps lo hi r m first below (subst (First lo r m) (sym e) (first_is lo r m below)) n
  where
    below : r < m
    below = let b = h.below in omega (arith, ints)
range_numbers lo hi (negsuc r) modulus first h e n = let a = h.rest in absurd (omega (arith, ints))
range_numbers lo hi (pos r) (negsuc m) first h e n = let a = h.rest in let b = h.below in absurd (omega (arith, ints))

pub range_none : (lo hi rem modulus first : ℤ) → IsRange lo hi rem modulus → first ≡ first_from lo rem modulus → hi <ℤ first → (n : ℤ) → InRange lo hi rem modulus n → ⊥
range_none lo hi rem modulus first h e l n i =
    let s : Steps (record { low = first; high = hi; stride = unsigned_abs modulus }) n = (range_numbers lo hi rem modulus first h e n).1 i in
    let a : first ≤ℤ n = s.above in
    let b : n ≤ℤ hi = s.below in
    absurd (omega (arith, ints))

pub ranged-none : (lo hi rem modulus first : ℤ) → first ≡ first_from lo rem modulus → hi <ℤ first → ranged lo hi rem modulus ≡ Few (record { items = [] })
unfolding ranged
ranged-none lo hi rem modulus first e l =
    let t : int_lt hi (first_from lo rem modulus) ≡ true = subst (λ x. int_lt hi x ≡ true) e (grind (arith, ints)) in
    ap (λ b. if b then Few (record { items = [] }) else run_shape (first_from lo rem modulus) (unsigned_abs modulus) (apart (first_from lo rem modulus) hi / unsigned_abs modulus)) t

pub ranged-run : (lo hi rem modulus first : ℤ) → first ≡ first_from lo rem modulus → first ≤ℤ hi → ranged lo hi rem modulus ≡ run_shape first (unsigned_abs modulus) (apart first hi / unsigned_abs modulus)
unfolding ranged
ranged-run lo hi rem modulus first e l =
    let t : int_lt hi (first_from lo rem modulus) ≡ false = subst (λ x. int_lt hi x ≡ false) e (grind (arith, ints)) in
    ap (λ b. if b then Few (record { items = [] }) else run_shape (first_from lo rem modulus) (unsigned_abs modulus) (apart (first_from lo rem modulus) hi / unsigned_abs modulus)) t
    ∙ ap (λ x. run_shape x (unsigned_abs modulus) (apart x hi / unsigned_abs modulus)) (sym e)
