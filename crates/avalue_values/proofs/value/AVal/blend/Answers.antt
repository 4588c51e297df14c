use Rattle.std.proofs.Common.{◌∙◌, ap}
use Rattle.avalue_base.specs.Numbers.{is_empty_list}
use Rattle.avalue_base.specs.Values.{bases_of}
use Rattle.avalue_values.proofs.Making.{union_some}
use Rattle.avalue_values.proofs.value.AVal.blend.Goals as goal

pub mixed-requires-clause-some : goal.mixed-requires-clause-some
mixed-requires-clause-some c = ap is_empty_list c.in_ok-bases_of_both.ensures.value ∙ union_some (bases_of c.args.self.now) (bases_of c.args.o.now) c.requires
