-- What the operators on two pointers ask of a layout, and offsets into bases of known sizes.
use Rattle.std.specs.Prelude.{◌≡◌, ◌⊎◌, ℕ, ◌+◌, ◌≤◌, Bool, true, false, cond, ◌&&◌, ℤ, pos, ◌-ℤ◌, int_le, [], ◌∷◌, Option, None, Some}
use Rattle.c_memory.specs.Layouts.{Layout, last_address}
use Rattle.c_memory.specs.Values.{Value}
use Rattle.ival_core.specs.Views.{bounds_of}
use Rattle.avalue_base.specs.Lists.{has_base, all_among}
use Rattle.avalue_base.specs.Numbers.{is_empty}
use Rattle.avalue_base.specs.Values.{Address, AVal, Separate, Mixed, bases_of}
use Rattle.avalue_base.specs.Meaning.{IsWord, Means}
use Rattle.avalue_base.specs.Meets.{lies_near}

-- the bases have these sizes, stand between 1 and the last address, and no two of them share a byte
pub record IsPlaced (l : Layout) (size_of : ℕ → ℕ) : Type 0 where
  pub size : (b : ℕ) → has_base l.bases b ≡ true → l.size b ≡ size_of b
  pub low : (b : ℕ) → has_base l.bases b ≡ true → 1 ≤ l.address b
  pub high : (b : ℕ) → has_base l.bases b ≡ true → l.address b + l.size b ≤ last_address l.machine
  pub apart : (b c : ℕ) → has_base l.bases b ≡ true → has_base l.bases c ≡ true → (b ≡ c → ⊥) → (l.address b + l.size b ≤ l.address c) ⊎ (l.address c + l.size c ≤ l.address b)

-- a pointer of each operand, in a layout that has their bases
pub record ArePointers (size_of : ℕ → ℕ) (l : Layout) (v w : AVal) (x y : Value) : Type 0 where
  pub placed : IsPlaced l size_of
  pub left : Means l v x
  pub right : Means l w y
  pub left_bases : all_among (bases_of v) l.bases ≡ true
  pub right_bases : all_among (bases_of w) l.bases ≡ true
  pub left_word : IsWord x.number
  pub right_word : IsWord y.number

-- the only address, where there is nothing else and its offsets are near
abbrev pub one_address : AVal → Option Address
one_address (Separate numbers []) = None
one_address (Separate numbers (a ∷ [])) = cond (is_empty numbers.shape && lies_near (bounds_of a.offsets.shape)) (Some a) None
one_address (Separate numbers (a ∷ b ∷ addresses)) = None
one_address (Mixed bases) = None

-- the last byte of so many, or the end behind it
abbrev pub end_of : Bool → ℕ → ℤ
end_of true size = pos size -ℤ pos 1
end_of false size = pos size

abbrev pub is_within : ℤ → ℤ → Bool
is_within last o = int_le (pos 0) o && int_le o last

-- each number between the ends lies from 0 to last
abbrev pub all_within : ℤ → Option (ℤ × ℤ) → Bool
all_within last None = true
all_within last (Some ends) = int_le (pos 0) ends.0 && int_le ends.1 last

-- some number between the ends may lie from 0 to last
abbrev pub some_within : ℤ → Option (ℤ × ℤ) → Bool
some_within last None = false
some_within last (Some ends) = int_le (pos 0) ends.1 && int_le ends.0 last

abbrev pub all_inside : ℤ → Address → Bool
all_inside last a = all_within last (bounds_of a.offsets.shape)

abbrev pub some_inside : ℤ → Address → Bool
some_inside last a = some_within last (bounds_of a.offsets.shape)
