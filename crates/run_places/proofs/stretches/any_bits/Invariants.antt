use Rattle.std.proofs.Common.{length}
use Rattle.run_places.specs.Spots.{ahead}
use Rattle.run_places.proofs.Loose.{BitsOn}
use Rattle.run_places.proofs.stretches.any_bits.Given as goal

abbrev pub invariant-loop-s : goal.invariant-loop-s
invariant-loop-s g l = BitsOn g.C.Cells.ops (g.M.Merge.merged l.merge) l.first l.s l.second l.t l.initial.out.items l.out.items

abbrev pub decreases-loop-s : goal.decreases-loop-s
decreases-loop-s g l = length (ahead l.first l.s)
