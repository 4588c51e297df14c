-- Which cells of values have one content.
use Rattle.std.specs.Prelude.{ℕ, ◌==◌, Bool, false, cond, ◌&&◌, ◌||◌, not, is_some, List, [], ◌∷◌, Option, None, Some}
use Rattle.std.specs.List.{list_all}
use Rattle.avalue_base.specs.Numbers.{is_empty, rest_in}
use Rattle.avalue_base.specs.Values.{Address, AVal, Separate, Mixed, Cellv, has_no_value}

abbrev pub is_rest : ℕ → Option ℕ → Bool
is_rest r None = false
is_rest r (Some q) = r == q

-- addresses of one base, whose offsets leave r modulo 2^k
abbrev pub all_leave : ℕ → ℕ → Option ℕ → List Address → Bool
all_leave k base None addresses = false
all_leave k base (Some r) addresses = list_all (λ (x : Address). (x.base == base) && is_rest r (rest_in k x.offsets.shape)) addresses

-- the values have the same k bits, made from the same address, if from any
abbrev pub is_one_value : ℕ → AVal → Bool
is_one_value k (Separate numbers []) = is_some (rest_in k numbers.shape)
is_one_value k (Separate numbers (a ∷ addresses)) = is_empty numbers.shape && all_leave k a.base (rest_in k a.offsets.shape) (a ∷ addresses)
is_one_value k (Mixed bases) = false

abbrev pub is_one_flag : Bool → Bool → Bool
is_one_flag uninit dead = (uninit && not dead) || (not uninit && dead)

-- one flag, or one value, in k bits
abbrev pub is_single : ℕ → Cellv → Bool
is_single k c = cond (has_no_value c.value) (is_one_flag c.uninit c.dead) (is_one_value k c.value && (not c.uninit && not c.dead))
