use Rattle.ival_bits.specs.Wraps.{wrapped}
use Rattle.avalue_base.proofs.Meets.{set_same}
use Rattle.aops.proofs.Alone.{wrapped_empty}
use Rattle.aops.proofs.convert.wrapped.Goals as goal

pub returns-clause-value : goal.returns-clause-value
returns-clause-value c = set_same c.wrap.result (wrapped c.args.signed c.args.bits c.args.a.now.shape) c.wrap.ensures.value

pub returns-clause-none : goal.returns-clause-none
returns-clause-none c h = wrapped_empty c.args.signed c.args.bits c.args.a.now c.wrap.result c.wrap.ensures.value h
