-- Whether a content has a part.
use Rattle.std.specs.Prelude.{Bool, true, false, ◌||◌, Option, None, Some}

abbrev pub is_there : {A : Type 0} → Option A → Bool
is_there None = false
is_there (Some a) = true

-- a range of numbers, or the flag that nothing is written yet
abbrev pub has_part : {A : Type 0} → Option A → Bool → Bool
has_part range uninit = is_there range || uninit
