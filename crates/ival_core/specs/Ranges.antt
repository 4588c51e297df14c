-- The numbers of a range with a remainder, and the shape that holds them.
use Rattle.std.specs.Prelude.{◌≡◌, ℕ, ◌+◌, ◌*◌, ◌/◌, ℤ, pos, ◌+ℤ◌, ◌-ℤ◌, ◌<ℤ◌, ◌≤ℤ◌, unsigned_abs, int_lt, nat_lt, if◌then◌else◌, []}
use Rattle.std.specs.Int.{int_rem_euclid}
use Rattle.ival_core.specs.declared.value.Shape.{Shape}
use Rattle.ival_core.specs.declared.value.Shape.TheVariants.{Few, Many}
use Rattle.ival_core.specs.Sets.{IsNumber, apart, steps_from}

-- what `range` may be asked for
pub record IsRange (lo hi rem modulus : ℤ) : Type 0 where
  pub order : lo ≤ℤ hi
  pub low : IsNumber lo
  pub high : IsNumber hi
  pub remains : IsNumber modulus
  pub rest : pos 0 ≤ℤ rem
  pub below : rem <ℤ modulus

-- n lies from lo to hi and leaves rem, where remainders are not negative
pub record InRange (lo hi rem modulus n : ℤ) : Type 0 where
  pub above : lo ≤ℤ n
  pub below : n ≤ℤ hi
  pub leaves : int_rem_euclid n modulus ≡ rem

-- first and the `more` numbers that follow it in steps of stride
abbrev pub run_shape : ℤ → ℕ → ℕ → Shape
run_shape first stride more =
    if nat_lt more 8
    then Few (record { items = steps_from first stride (more + 1) })
    else Many (record { low = first; high = first +ℤ pos (more * stride); stride = stride })

-- the first number from z on that leaves rem
abbrev pub first_from : ℤ → ℤ → ℤ → ℤ
first_from z rem modulus = z +ℤ int_rem_euclid (rem -ℤ z) modulus

-- what `range` answers
unfoldable pub ranged : ℤ → ℤ → ℤ → ℤ → Shape
ranged lo hi rem modulus =
    let first = first_from lo rem modulus in
    if int_lt hi first
    then Few (record { items = [] })
    else run_shape first (unsigned_abs modulus) (apart first hi / unsigned_abs modulus)
