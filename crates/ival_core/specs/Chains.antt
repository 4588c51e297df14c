-- Chains of widenings with fixed marks, and how long they can be.
use Rattle.std.specs.Prelude.{◌≡◌, ◌≢◌, ℕ, ◌+◌, ◌-◌, ◌*◌, ◌^◌, ◌<◌, ◌⊎◌, ⊤, ℤ, pos, neg_ℤ, ◌+ℤ◌, int_le, List, [], ◌∷◌, length, Bool, if◌then◌else◌}
use lib.Count.{count_leading_zeros}
use Rattle.ival_core.specs.declared.value.Shape.{Shape}
use Rattle.ival_core.specs.declared.value.Shape.TheVariants.{Few, Many}
use Rattle.ival_core.specs.declared.value.Ival.{Ival}
use Rattle.ival_core.specs.Ivals.{IsWidening}

-- where a bound may come to stand: at a mark or at an end of the numbers
abbrev pub stops : List ℤ → List ℤ
stops marks = neg_ℤ (pos (2 ^ 120)) ∷ pos (2 ^ 120) ∷ marks

-- how many pass the test
abbrev pub how_many : (ℤ → Bool) → List ℤ → ℕ
how_many test [] = 0
how_many test (x ∷ xs) = (if test x then 1 else 0) + how_many test xs

-- how many stops lie a whole stride or more below low
unfoldable pub stops_below : List ℤ → ℤ → ℕ → ℕ
stops_below marks low stride = how_many (λ m. int_le (m +ℤ pos stride) low) (stops marks)

-- how many stops lie a whole stride or more above high
unfoldable pub stops_above : List ℤ → ℤ → ℕ → ℕ
stops_above marks high stride = how_many (λ m. int_le (high +ℤ pos stride) m) (stops marks)

-- the number of binary digits
unfoldable pub digits : ℕ → ℕ
digits n = 128 - count_leading_zeros 128 n

-- more than both bounds can move while the stride stays
abbrev pub moves : List ℤ → ℕ
moves marks = 2 * length marks + 5

-- falls with each widening that changes the set
abbrev pub rank : List ℤ → Shape → ℕ
rank marks (Few v) = 120 * moves marks + (8 - length v.items)
rank marks (Many p) = digits p.stride * moves marks + stops_below marks p.low p.stride + stops_above marks p.high p.stride

-- v is a, or has a lower rank
pub record Falls (marks : List ℤ) (a v : Ival) : Type 0 where
  pub falls : (v ≡ a) ⊎ (rank marks v.shape < rank marks a.shape)

-- each set of the chain is another one than the set before it, which it widens by some set
abbrev pub IsChain : List ℤ → Ival → List Ival → Type 0
IsChain marks v [] = ⊤
IsChain marks v (w ∷ rest) = ((o : Ival) × IsWidening v o marks w) × (w ≢ v) × IsChain marks w rest

-- no chain is longer
abbrev pub longest_chain : List ℤ → ℕ
longest_chain marks = 120 * moves marks + 8
