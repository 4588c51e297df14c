-- How far from 0 the numbers of a set are.
use Rattle.std.proofs.Common.{◌<◌, ◌≤◌, ◌^◌, ℤ, pos, negsuc, Option, Some, None, arith}
use Rattle.std.specs.Prelude.{neg_ℤ, unsigned_abs}
use Rattle.std.proofs.lemmas.Int.{ints, by_lt_z}
use lib.Signed.{◌≤ℤ◌}
use Rattle.ival_core.specs.declared.value.Shape.{Shape}
use Rattle.ival_core.specs.Sets.{IsNumber, IsValid, Has}
use Rattle.ival_core.specs.Views.{bounds_of}
use Rattle.ival_arith.specs.Pieces.{clipped}
use Rattle.ival_arith.specs.Values.{nearest, least_factor}
use Rattle.ival_arith.proofs.Bounding.{BoundsAre, bounds_are}
use Rattle.ival_arith.proofs.Parts.{clipped-exactly}

pub high_limit : IsNumber (pos (2 ^ 120))
high_limit = record { least = omega (arith, ints); greatest = omega (arith, ints) }

pub low_limit : IsNumber (neg_ℤ (pos (2 ^ 120)))
low_limit = record { least = omega (arith, ints); greatest = omega (arith, ints) }

pub one : IsNumber (pos 1)
one = record { least = omega (arith, ints); greatest = omega (arith, ints) }

pub minus_one : IsNumber (negsuc 0)
minus_one = record { least = omega (arith, ints); greatest = omega (arith, ints) }

pub factor_some : (s : Shape) → IsValid s → 0 < least_factor s
unfolding least_factor
factor_some s v =
    let a = clipped-exactly (pos 1) (pos (2 ^ 120)) s v one high_limit in
    let b = clipped-exactly (neg_ℤ (pos (2 ^ 120))) (negsuc 0) s v low_limit minus_one in
    by_bounds (clipped (pos 1) (pos (2 ^ 120)) s) (clipped (neg_ℤ (pos (2 ^ 120))) (negsuc 0) s) (λ n h. (a.only n h).above) (λ n h. (b.only n h).below)
    (bounds_of (clipped (pos 1) (pos (2 ^ 120)) s)) (bounds_of (clipped (neg_ℤ (pos (2 ^ 120))) (negsuc 0) s)) (bounds_are (clipped (pos 1) (pos (2 ^ 120)) s) a.valid) (bounds_are (clipped (neg_ℤ (pos (2 ^ 120))) (negsuc 0) s) b.valid)
  where
    up_some : (n : ℤ) → pos 1 ≤ℤ n → 0 < unsigned_abs n
    up_some n h = omega (arith, ints)

    down_some : (n : ℤ) → n ≤ℤ negsuc 0 → 0 < unsigned_abs n
    down_some n h = omega (arith, ints)

    by_bounds : (u d : Shape) → ((n : ℤ) → Has u n → pos 1 ≤ℤ n) → ((n : ℤ) → Has d n → n ≤ℤ negsuc 0) → (a b : Option (ℤ × ℤ)) → BoundsAre u a → BoundsAre d b → 0 < nearest a b
    by_bounds u d f g None None h k = omega arith
    by_bounds u d f g None (Some b) h k = down_some b.1 (g b.1 k.last)
    by_bounds u d f g (Some a) None h k = up_some a.0 (f a.0 h.first)
    by_bounds u d f g (Some a) (Some b) h k = let x = up_some a.0 (f a.0 h.first) in let y = down_some b.1 (g b.1 k.last) in omega arith

-- no number that is not 0 is nearer to 0
pub factor_below : (s : Shape) → IsValid s → (y : ℤ) → Has s y → IsNumber y → 0 < unsigned_abs y → least_factor s ≤ unsigned_abs y
unfolding least_factor
factor_below s v y h i k =
    let up = clipped (pos 1) (pos (2 ^ 120)) s in
    let down = clipped (neg_ℤ (pos (2 ^ 120))) (negsuc 0) s in
    let a = clipped-exactly (pos 1) (pos (2 ^ 120)) s v one high_limit in
    let b = clipped-exactly (neg_ℤ (pos (2 ^ 120))) (negsuc 0) s v low_limit minus_one in
    by_lt_z y (pos 0)
    (λ l. below (bounds_of up) (bounds_of down) down (λ n m. (b.only n m).below) (bounds_are down b.valid) (b.holds y (record { has = h; above = i.least; below = omega (arith, ints) })))
    (λ l. above (bounds_of up) (bounds_of down) up (λ n m. (a.only n m).above) (bounds_are up a.valid) (a.holds y (record { has = h; above = omega (arith, ints); below = i.greatest })))
  where
    first_up : (x y : ℤ) → pos 1 ≤ℤ x → x ≤ℤ y → unsigned_abs x ≤ unsigned_abs y
    first_up x y h k = omega (arith, ints)

    last_down : (x y : ℤ) → x ≤ℤ negsuc 0 → y ≤ℤ x → unsigned_abs x ≤ unsigned_abs y
    last_down x y h k = omega (arith, ints)

    above : (a b : Option (ℤ × ℤ)) (u : Shape) → ((n : ℤ) → Has u n → pos 1 ≤ℤ n) → BoundsAre u a → Has u y → nearest a b ≤ unsigned_abs y
    above None b u f g m = absurd (g y m)
    above (Some a) None u f g m = first_up a.0 y (f a.0 g.first) (g.above y m)
    above (Some a) (Some b) u f g m = let x = first_up a.0 y (f a.0 g.first) (g.above y m) in omega arith

    below : (a b : Option (ℤ × ℤ)) (d : Shape) → ((n : ℤ) → Has d n → n ≤ℤ negsuc 0) → BoundsAre d b → Has d y → nearest a b ≤ unsigned_abs y
    below a None d f g m = absurd (g y m)
    below None (Some b) d f g m = last_down b.1 y (f b.1 g.last) (g.below y m)
    below (Some a) (Some b) d f g m = let x = last_down b.1 y (f b.1 g.last) (g.below y m) in omega arith
