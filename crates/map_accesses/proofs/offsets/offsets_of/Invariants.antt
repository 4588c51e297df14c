use Rattle.std.proofs.Common.{◌≡◌, ◌<◌, ◌^◌, ◌++◌, drop, map}
use Rattle.std.specs.Prelude.{unsigned_abs}
use Rattle.std.specs.List.{AllByRecursion}
use Rattle.map_accesses.specs.Accesses.{bit_at as bit_of}
use Rattle.map_accesses.proofs.offsets.offsets_of.Given as goal

abbrev pub invariant-loop-number : goal.invariant-loop-number
invariant-loop-number l =
    (l.offsets.items ++ map (bit_of l.unit) (drop l.number-index l.numbers) ≡ map (bit_of l.unit) l.numbers)
    × AllByRecursion (λ z. (unsigned_abs z < 2 ^ 64) × (bit_of l.unit z < 2 ^ 64)) (drop l.number-index l.numbers)
