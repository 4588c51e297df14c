-- How unstable bounds move to marks.
use Rattle.std.specs.Prelude.{◌≡◌, ◌⊎◌, ◌^◌, ◌||◌, ℤ, pos, neg_ℤ, ◌<ℤ◌, ◌≤ℤ◌, int_lt, int_le, if◌then◌else◌, List, [], ◌∷◌, Option, Some, None}
use Rattle.ival_core.specs.declared.value.Shape.{Shape}
use Rattle.ival_core.specs.Sets.{IsAscending, AllNumbers, Among}
use Rattle.ival_core.specs.Ranges.{ranged}
use Rattle.ival_core.specs.Views.{bounds_of, congruence_of}

-- marks ascend, and an `Ival` may hold them
pub record AreMarks (marks : List ℤ) : Type 0 where
  pub ascending : IsAscending marks
  pub numbers : AllNumbers marks

-- the last of the marks that is not above n; found, where each of them is
abbrev pub last_at_most : ℤ → List ℤ → ℤ → ℤ
last_at_most found [] n = found
last_at_most found (m ∷ marks) n = if int_le m n then last_at_most m marks n else last_at_most found marks n

-- the first of the marks that is not below n; found, where each of them is
abbrev pub first_at_least : ℤ → List ℤ → ℤ → ℤ
first_at_least found [] n = found
first_at_least found (m ∷ marks) n = if int_le n m then m else first_at_least found marks n

-- where a lower bound goes that was low, and that the join moves to joined: it stays where it is not unstable
abbrev pub lower_end : List ℤ → ℤ → ℤ → ℤ
lower_end marks low joined = if int_lt joined low then last_at_most (neg_ℤ (pos (2 ^ 120))) marks joined else joined

-- the same of an upper bound
abbrev pub upper_end : List ℤ → ℤ → ℤ → ℤ
upper_end marks high joined = if int_lt high joined then first_at_least (pos (2 ^ 120)) marks joined else joined

-- the numbers of the join's congruence between the ends to which its bounds least and greatest go
abbrev pub moved_shape : List ℤ → ℤ → ℤ → Shape → ℤ → ℤ → Shape
moved_shape marks low high joined least greatest =
    ranged (lower_end marks low least) (upper_end marks high greatest) (congruence_of joined).0 (congruence_of joined).1

-- the join, from the bounds low and high to its own bounds
abbrev pub between : List ℤ → ℤ → ℤ → Shape → Option (ℤ × ℤ) → Shape
between marks low high joined None = joined
between marks low high joined (Some ends) =
    if int_lt ends.0 low || int_lt high ends.1
    then moved_shape marks low high joined ends.0 ends.1
    else joined

-- what `widen` answers of a first argument with these bounds
abbrev pub widened_from : List ℤ → Shape → Option (ℤ × ℤ) → Shape
widened_from marks joined None = joined
widened_from marks joined (Some ends) = between marks ends.0 ends.1 joined (bounds_of joined)

-- what `widen` answers, where joined is the join of both arguments
abbrev pub widened : Shape → Shape → List ℤ → Shape
widened first joined marks = widened_from marks joined (bounds_of first)

-- end is the greatest mark not above n; where there is none, it is the least number that an `Ival` may hold
pub record IsMarkBelow (marks : List ℤ) (n end : ℤ) : Type 0 where
  pub below : end ≤ℤ n
  pub mark : Among marks end ⊎ (end ≡ neg_ℤ (pos (2 ^ 120)))
  pub nearest : (m : ℤ) → Among marks m → m ≤ℤ n → m ≤ℤ end

-- end is the least mark not below n; where there is none, it is the greatest number that an `Ival` may hold
pub record IsMarkAbove (marks : List ℤ) (n end : ℤ) : Type 0 where
  pub above : n ≤ℤ end
  pub mark : Among marks end ⊎ (end ≡ pos (2 ^ 120))
  pub nearest : (m : ℤ) → Among marks m → n ≤ℤ m → end ≤ℤ m

-- a lower bound that the join moves goes on to a mark, and another one stays
pub record IsLowerEnd (marks : List ℤ) (low joined end : ℤ) : Type 0 where
  pub stays : low ≤ℤ joined → end ≡ joined
  pub moves : joined <ℤ low → IsMarkBelow marks joined end

-- the same of an upper bound
pub record IsUpperEnd (marks : List ℤ) (high joined end : ℤ) : Type 0 where
  pub stays : joined ≤ℤ high → end ≡ joined
  pub moves : high <ℤ joined → IsMarkAbove marks joined end
