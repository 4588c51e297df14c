-- Which base an address was made from, and how far behind its first byte it lies.
use Rattle.std.specs.Prelude.{ℕ, ◌-◌, ◌+◌, ◌==◌, nat_le, Bool, false, cond, ℤ, pos, negsuc, ◌+ℤ◌, ◌-ℤ◌, int_le, ◌&&◌, Option, None, Some, find}
use Rattle.std.specs.FinSet.{contains, len}
use Rattle.c_memory.specs.Layouts.{Layout}
use Rattle.c_memory.specs.Values.{Value, Provenance}

-- the value was made from no address
abbrev pub is_plain : Value → Bool
is_plain v = len v.provenance == 0

-- the only base from whose address the value was made
abbrev pub only_base : Layout → Value → Option ℕ
only_base l v = cond (len v.provenance == 1) (find (contains v.provenance) l.bases) None

-- how many bytes the value lies behind the first byte of the base
abbrev pub distance : Layout → ℕ → Value → ℤ
distance l base v = v.number -ℤ pos (l.address base)

-- the value points into the base, or to its end (C11 6.5.6p8)
abbrev pub is_in_or_behind : Layout → ℕ → Value → Bool
is_in_or_behind l base v = int_le (pos 0) (distance l base v) && int_le (distance l base v) (pos (l.size base))

-- the value points to a byte of the base
abbrev pub is_inside : Layout → ℕ → Value → Bool
is_inside l base v = int_le (pos 0) (distance l base v) && int_le (distance l base v +ℤ pos 1) (pos (l.size base))
