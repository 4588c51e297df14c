-- Memories, and how loads, stores, births and deaths go (C11 6.2.4, 6.3.2.1, 6.5.16).
use Rattle.std.specs.Prelude.{ℕ, ◌+◌, ◌-◌, ◌*◌, ◌==◌, nat_le, Bool, false, cond, ◌&&◌, List, [], ◌++◌, length, take, drop, map, replicate, ℤ, pos, negsuc, Option, None, Some, is_some, unwrap_or, Result, Ok, Err, find}
use Rattle.std.specs.FinSet.{contains}
use Rattle.std.specs.List.{list_any}
use Rattle.c_base.specs.declared.kind.Kind.{Kind}
use Rattle.c_base.specs.declared.kind.Kind.TheVariants.{MemAccess}
use Rattle.c_memory.specs.declared.scalar.Scalar.{Scalar}
use Rattle.c_memory.specs.Scalars.{size_of_scalar, bits_of_scalar}
use Rattle.c_memory.specs.Values.{Cell, Uninit, Value, only, cells_of, value_in, wither}
use Rattle.c_memory.specs.Layouts.{Layout}

-- the cells of each live base: the bits of its bytes in ascending order, and of a byte the least bit first
abbrev pub Memory : Type 0
Memory = ℕ → Option (List Cell)

-- the address of an object (C11 6.5.3.2p3)
abbrev pub address_of : Layout → ℕ → Value
address_of l base = record { number = pos (l.address base); provenance = only base }

-- how many bytes the address lies behind the base's first byte
abbrev pub offset_from : ℕ → ℤ → ℕ
offset_from start (pos n) = n - start
offset_from start (negsuc n) = 0

abbrev pub offset_in : Layout → ℕ → Value → ℕ
offset_in l base at = offset_from (l.address base) at.number

-- an access of so many bytes through the address fits the base: the address was made from it, it is live, and all bytes lie in it
abbrev pub is_within : Layout → ℕ → ℕ → ℤ → Bool
is_within l bytes base (pos n) = nat_le (l.address base) n && nat_le (n - l.address base + bytes) (l.size base)
is_within l bytes base (negsuc n) = false

abbrev pub is_reached : Layout → Memory → ℕ → Value → ℕ → Bool
is_reached l m bytes at base = contains at.provenance base && (is_some (m base) && is_within l bytes base at.number)

-- the base that an access reaches
abbrev pub reached : Layout → Memory → ℕ → Value → Option ℕ
reached l m bytes at = find (is_reached l m bytes at) l.bases

abbrev pub cells_at : Memory → ℕ → ℕ → ℕ → List Cell
cells_at m base first count = take count (drop first (unwrap_or (m base) []))

abbrev pub loaded_from : Layout → Memory → Scalar → Value → Option ℕ → Result Value Kind
loaded_from l m type at None = Err MemAccess
loaded_from l m type at (Some base) =
    value_in l.machine type (cells_at m base (8 * offset_in l base at) (bits_of_scalar type l.machine))

-- what a load through the address gives, or why it stops (C11 6.5.3.2p4, 6.3.2.1p2)
abbrev pub loaded : Layout → Memory → Scalar → Value → Result Value Kind
loaded l m type at = loaded_from l m type at (reached l m (size_of_scalar type l.machine) at)

abbrev pub overwritten : List Cell → ℕ → List Cell → List Cell
overwritten old first new = take first old ++ new ++ drop (first + length new) old

abbrev pub with_base : Memory → ℕ → Option (List Cell) → Memory
with_base m base cells = λ other. cond (other == base) cells (m other)

-- the bits of a value are written into the base from the address on
abbrev pub written_at : Layout → Memory → Scalar → Value → Value → ℕ → Memory
written_at l m type at v base =
    with_base m base (Some (overwritten (unwrap_or (m base) []) (8 * offset_in l base at)
    (cells_of l.machine (bits_of_scalar type l.machine) v)))

abbrev pub stored_to : Layout → Memory → Scalar → Value → Value → Option ℕ → Result Memory Kind
stored_to l m type at v None = Err MemAccess
stored_to l m type at v (Some base) = cond (l.readonly base) (Err MemAccess) (Ok (written_at l m type at v base))

-- the memory after a store through the address, or why it stops (C11 6.5.3.2p4, 6.7.3p6)
abbrev pub stored : Layout → Memory → Scalar → Value → Value → Result Memory Kind
stored l m type at v = stored_to l m type at v (reached l m (size_of_scalar type l.machine) at)

-- the objects are born, not written yet (C11 6.2.4p6)
abbrev pub born : Layout → List ℕ → Memory → Memory
born l bases m = λ other. cond (list_any (λ b. other == b) bases) (Some (replicate (8 * l.size other) Uninit)) (m other)

abbrev pub withered : List ℕ → Option (List Cell) → Option (List Cell)
withered dying None = None
withered dying (Some cells) = Some (map (wither dying) cells)

-- the objects die, and so do all bits that were made from their addresses (C11 6.2.4p2)
abbrev pub died : List ℕ → Memory → Memory
died bases m = λ other. cond (list_any (λ b. other == b) bases) None (withered bases (m other))
