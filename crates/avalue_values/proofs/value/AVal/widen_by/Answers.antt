use Rattle.avalue_values.proofs.Growing.{widened_first, widened_second}
use Rattle.avalue_values.proofs.value.AVal.widen_by.Goals as goal

pub returns-clause-first : goal.returns-clause-first
returns-clause-first g c = widened_first c.widen_parts.result (g.S.Sizes.size_of c.args.sizes.now) c.args.marks.now c.args.own.now c.args.self.now c.args.o.now c.requires.marks c.requires.own c.widen_parts.ensures

pub returns-clause-second : goal.returns-clause-second
returns-clause-second g c = widened_second c.widen_parts.result (g.S.Sizes.size_of c.args.sizes.now) c.args.marks.now c.args.own.now c.args.self.now c.args.o.now c.requires.marks c.requires.own c.widen_parts.ensures
