use Rattle.std.proofs.Common.{◌∙◌}
use Rattle.c_parse_base.proofs.code.Newest.{one_fewer}
use Rattle.c_parse_base.proofs.names.TypeNames.leave.Goals as goal

pub loop-preserved : goal.loop-preserved
loop-preserved c = (
  one_fewer c.args.self.now.names _ _ c.loop.counter c.forget_newest.ensures.names c.loop.invariant.0,
  c.forget_newest.ensures.floor ∙ c.loop.invariant.1,
  c.loop.invariant.2,
)
