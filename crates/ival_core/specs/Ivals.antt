-- What the calls on an `Ival` promise.
use Rattle.std.specs.Prelude.{◌≡◌, ◌⊎◌, ◌↔◌, ◌≤◌, ℤ, pos, ◌≤ℤ◌, ◌<ℤ◌, List, length}
use Rattle.std.specs.Int.{int_rem_euclid}
use Rattle.ival_core.specs.declared.value.Ival.{Ival}
use Rattle.ival_core.specs.Widenings.{IsLowerEnd, IsUpperEnd}
use Rattle.ival_core.specs.Ranges.{InRange}
use Rattle.ival_core.specs.Sets.{Has, IsNumber, Among, IsAscending, HoldsNine}

-- n is one of the numbers of v
abbrev pub Holds : Ival → ℤ → Type 0
Holds v n = Has v.shape n

-- n is the only number of v
abbrev pub IsOnly : Ival → ℤ → Type 0
IsOnly v n = (k : ℤ) → Holds v k ↔ (k ≡ n)

-- low and high are the least and the greatest number of v
pub record IsBounds (v : Ival) (low high : ℤ) : Type 0 where
  pub first : Holds v low
  pub last : Holds v high
  pub between : (n : ℤ) → Holds v n → (low ≤ℤ n) × (n ≤ℤ high)

-- xs are the numbers of v, ascending, and at most 8
pub record IsNumbers (v : Ival) (xs : List ℤ) : Type 0 where
  pub small : length xs ≤ 8
  pub ascending : IsAscending xs
  pub same : (n : ℤ) → Holds v n ↔ Among xs n

-- v has more than 8 numbers
abbrev pub HoldsMany : Ival → Type 0
HoldsMany v = HoldsNine (Holds v)

-- each number of v leaves rem modulo modulus; where v has more than 8, they are all such numbers between its
-- bounds, and where it has fewer, the two are 0 and 1
pub record IsCongruence (v : Ival) (rem modulus : ℤ) : Type 0 where
  pub rest : pos 0 ≤ℤ rem
  pub below : rem <ℤ modulus
  pub number : IsNumber modulus
  pub leaves : (n : ℤ) → Holds v n → int_rem_euclid n modulus ≡ rem
  pub many : HoldsMany v → (low high n : ℤ) → IsBounds v low high → InRange low high rem modulus n → Holds v n
  pub few : (xs : List ℤ) → IsNumbers v xs → (rem ≡ pos 0) × (modulus ≡ pos 1)

-- a has no number that b lacks
abbrev pub Includes : Ival → Ival → Type 0
Includes b a = (n : ℤ) → Holds a n → Holds b n

-- v is the least `Ival` that holds both a and b
pub record IsJoin (a b v : Ival) : Type 0 where
  pub first : Includes v a
  pub second : Includes v b
  pub least : (u : Ival) → Includes u a → Includes u b → Includes u v

-- v holds exactly the numbers that both a and b hold
abbrev pub IsMeet : Ival → Ival → Ival → Type 0
IsMeet a b v = (n : ℤ) → Holds v n ↔ (Holds a n × Holds b n)

-- the join has no bound beyond low and high, and v is the join
pub record Stays (low high : ℤ) (joined v : Ival) : Type 0 where
  pub least : ℤ
  pub greatest : ℤ
  pub bounds : IsBounds joined least greatest
  pub low_kept : low ≤ℤ least
  pub high_kept : greatest ≤ℤ high
  pub same : v ≡ joined

-- the join has a bound beyond low or high, which goes on to a mark; v has the numbers between the ends that have
-- the join's congruence
pub record MovesTo (marks : List ℤ) (low high : ℤ) (joined v : Ival) : Type 0 where
  pub least : ℤ
  pub greatest : ℤ
  pub bounds : IsBounds joined least greatest
  pub unstable : (least <ℤ low) ⊎ (high <ℤ greatest)
  pub lower : ℤ
  pub upper : ℤ
  pub lower_is : IsLowerEnd marks low least lower
  pub upper_is : IsUpperEnd marks high greatest upper
  pub rem : ℤ
  pub modulus : ℤ
  pub congruence : IsCongruence joined rem modulus
  pub numbers : (n : ℤ) → Holds v n ↔ InRange lower upper rem modulus n

-- how the bounds of a, where it has a number, make v of the join
pub record FromBounds (a joined : Ival) (marks : List ℤ) (v : Ival) : Type 0 where
  pub low : ℤ
  pub high : ℤ
  pub bounds : IsBounds a low high
  pub way : Stays low high joined v ⊎ MovesTo marks low high joined v

-- v is a widened by b
pub record IsWidening (a b : Ival) (marks : List ℤ) (v : Ival) : Type 0 where
  pub joined : Ival
  pub join : IsJoin a b joined
  pub holds : Includes v joined
  pub how : (((n : ℤ) → Holds a n → ⊥) × (v ≡ joined)) ⊎ FromBounds a joined marks v
