-- Cells that have one content, and show which: numbers that have the same bits, one address with one offset, or one flag.
use Rattle.std.specs.Prelude.{◌≡◌, ℕ, ◌^◌, Bool, true, false, cond, ◌&&◌, ◌||◌, not, is_some, [], ◌∷◌, ℤ, pos, neg_ℤ, int_le, Option, None, Some}
use Rattle.ival_core.specs.Views.{single_of}
use Rattle.avalue_base.specs.Numbers.{is_empty, is_empty_list, rest_in}
use Rattle.avalue_base.specs.Values.{AVal, Separate, Mixed, Cellv, bases_of, has_no_value}
use Rattle.avalue_base.specs.Hues.{value_rest}
use Rattle.avalue_base.specs.Meets.{has_near_offsets}
use Rattle.avalue_base.specs.Ops.{IsSound}
use Rattle.cell_contents.specs.Contents.{is_one_flag}

-- one offset within reach, in which no other gives the same address
abbrev pub is_near_one : Option ℤ → Bool
is_near_one None = false
is_near_one (Some o) = int_le (neg_ℤ (pos (2 ^ 62))) o && int_le o (pos (2 ^ 62))

-- the numbers have the same k bits, or there is one address
abbrev pub is_sole_value : ℕ → AVal → Bool
is_sole_value k (Separate numbers []) = is_some (rest_in k numbers.shape)
is_sole_value k (Separate numbers (a ∷ [])) = is_empty numbers.shape && is_near_one (single_of a.offsets.shape)
is_sole_value k (Separate numbers (a ∷ b ∷ addresses)) = false
is_sole_value k (Mixed bases) = false

abbrev pub is_sole : ℕ → Cellv → Bool
is_sole k c = cond (has_no_value c.value) (is_one_flag c.uninit c.dead) (is_sole_value k c.value && (not c.uninit && not c.dead))

-- it may hold addresses: parts of these are mixes
abbrev pub is_rigid : Cellv → Bool
is_rigid c = not (is_empty_list (bases_of c.value))

-- its numbers have the same k bits, or it has no value
abbrev pub is_settled : ℕ → Cellv → Bool
is_settled k c = has_no_value c.value || is_some (value_rest k c.value)

-- as values of the program are, with offsets from -2^62 to 2^62
pub record IsNear (c : Cellv) : Type 0 where
  pub sound : IsSound c.value
  pub near : has_near_offsets c.value ≡ true
