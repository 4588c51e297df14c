-- What the two shapes of an integer set hold, and which of them are sound.
use Rattle.std.specs.Prelude.{◌≡◌, ◌⊎◌, ℕ, zero, suc, ◌*◌, ◌%◌, ◌^◌, ◌<◌, ◌≤◌, ℤ, pos, neg_ℤ, ◌+ℤ◌, ◌-ℤ◌, ◌<ℤ◌, ◌≤ℤ◌, unsigned_abs, List, [], ◌∷◌, length, ⊤}
use Rattle.std.specs.Coded.{×_prop, Unit-prop, le_prop}
use Rattle.std.specs.Int.{◌∣◌}
use Rattle.std.proofs.Math.Nat.{ℕ_set}
use lib.Dec.{T_prop}
use lib.Signed.{le_z, lt_z}
use Rattle.ival_core.specs.declared.value.Progression.{Progression}
use Rattle.ival_core.specs.declared.value.Shape.{Shape}
use Rattle.ival_core.specs.declared.value.Shape.TheVariants.{Few, Many}

-- the numbers that an `Ival` may hold: -2^120 up to 2^120
pub record IsNumber (n : ℤ) : Type 0 where
  pub least : neg_ℤ (pos (2 ^ 120)) ≤ℤ n
  pub greatest : n ≤ℤ pos (2 ^ 120)

-- each of xs is such a number
abbrev pub AllNumbers : List ℤ → Type 0
AllNumbers [] = ⊤
AllNumbers (x ∷ xs) = IsNumber x × AllNumbers xs

-- n is one of xs
abbrev pub Among : List ℤ → ℤ → Type 0
Among [] n = ⊥
Among (x ∷ xs) n = (n ≡ x) ⊎ Among xs n

-- x is below each of xs
abbrev pub AllAbove : ℤ → List ℤ → Type 0
AllAbove x [] = ⊤
AllAbove x (y ∷ ys) = (x <ℤ y) × AllAbove x ys

-- each number is below all that follow it
abbrev pub IsAscending : List ℤ → Type 0
IsAscending [] = ⊤
IsAscending (x ∷ xs) = AllAbove x xs × IsAscending xs

-- low and high are the least and the greatest of xs
pub record AreEnds (xs : List ℤ) (low high : ℤ) : Type 0 where
  pub first : Among xs low
  pub last : Among xs high
  pub between : (n : ℤ) → Among xs n → (low ≤ℤ n) × (n ≤ℤ high)

-- first, first + stride, first + 2 · stride: as many numbers as count says
abbrev pub steps_from : ℤ → ℕ → ℕ → List ℤ
steps_from first stride zero = []
steps_from first stride (suc count) = first ∷ steps_from (first +ℤ pos stride) stride count

-- how far apart two numbers are
unfoldable pub apart : ℤ → ℤ → ℕ
apart a b = unsigned_abs (b -ℤ a)

-- n is low, low + stride, low + 2 · stride and so on, and not above high
pub record Steps (p : Progression) (n : ℤ) : Type 0 where
  pub above : p.low ≤ℤ n
  pub below : n ≤ℤ p.high
  pub meets : p.stride ∣ apart p.low n

-- n is one of the numbers of the shape
abbrev pub Has : Shape → ℤ → Type 0
Has (Few v) n = Among v.items n
Has (Many p) n = Steps p n

-- at most 8 numbers, ascending
pub record IsSmallSet (xs : List ℤ) : Type 0 where
  pub small : length xs ≤ 8
  pub ascending : IsAscending xs
  pub numbers : AllNumbers xs

-- more than 8 numbers, of which high is the last
pub record IsLongRun (p : Progression) : Type 0 where
  pub first : IsNumber p.low
  pub last : IsNumber p.high
  pub moves : 0 < p.stride
  pub long : (p.low +ℤ pos (8 * p.stride)) ≤ℤ p.high
  pub meets : apart p.low p.high % p.stride ≡ 0

abbrev pub IsValid : Shape → Type 0
IsValid (Few v) = IsSmallSet v.items
IsValid (Many p) = IsLongRun p

-- at least 9 numbers have P
pub record HoldsNine (P : ℤ → Type 0) : Type 0 where
  pub some : List ℤ
  pub nine : length some ≡ 9
  pub ascending : IsAscending some
  pub held : (n : ℤ) → Among some n → P n

-- s holds each number with P, and whatever sound shape does so holds all of s
pub record IsLeast (P : ℤ → Type 0) (s : Shape) : Type 0 where
  pub holds : (n : ℤ) → P n → Has s n
  pub least : (u : Shape) → IsValid u → ((n : ℤ) → P n → Has u n) → (n : ℤ) → Has s n → Has u n

-- two proofs of one of these facts are equal
at_most_prop : (a b : ℤ) → IsProp (a ≤ℤ b)
at_most_prop a b = hlevel (T_prop (le_z a b))

below_prop : (a b : ℤ) → IsProp (a <ℤ b)
below_prop a b = hlevel (T_prop (lt_z a b))

IsNumber-prop : (n : ℤ) → IsProp (IsNumber n)
IsNumber-prop n = hlevel (at_most_prop (neg_ℤ (pos (2 ^ 120))) n, at_most_prop n (pos (2 ^ 120)))

AllNumbers-prop : (xs : List ℤ) → IsProp (AllNumbers xs)
AllNumbers-prop [] = Unit-prop
AllNumbers-prop (x ∷ xs) = ×_prop (IsNumber-prop x) (AllNumbers-prop xs)

AllAbove-prop : (x : ℤ) (ys : List ℤ) → IsProp (AllAbove x ys)
AllAbove-prop x [] = Unit-prop
AllAbove-prop x (y ∷ ys) = ×_prop (below_prop x y) (AllAbove-prop x ys)

IsAscending-prop : (xs : List ℤ) → IsProp (IsAscending xs)
IsAscending-prop [] = Unit-prop
IsAscending-prop (x ∷ xs) = ×_prop (AllAbove-prop x xs) (IsAscending-prop xs)

IsSmallSet-prop : (xs : List ℤ) → IsProp (IsSmallSet xs)
IsSmallSet-prop xs = hlevel (le_prop {n = length xs} {m = 8}, IsAscending-prop xs, AllNumbers-prop xs)

IsLongRun-prop : (p : Progression) → IsProp (IsLongRun p)
IsLongRun-prop p =
    hlevel (IsNumber-prop p.low, IsNumber-prop p.high, le_prop {n = 1} {m = p.stride}, at_most_prop (p.low +ℤ pos (8 * p.stride)) p.high, ℕ_set)

pub IsValid-prop : (s : Shape) → IsProp (IsValid s)
IsValid-prop (Few v) = IsSmallSet-prop v.items
IsValid-prop (Many p) = IsLongRun-prop p
