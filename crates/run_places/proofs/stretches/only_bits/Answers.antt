use Rattle.run_places.proofs.Loose.{built_of}
use Rattle.run_places.proofs.stretches.only_bits.Goals as goal

pub returns : goal.returns
returns g c = built_of g.C.Cells.ops (g.M.Merge.merged c.args.merge.now) c.new-made.result.items c.any_bits.new.out.items _ c.new-made.ensures.items c.in_ok-any_bits.ensures
