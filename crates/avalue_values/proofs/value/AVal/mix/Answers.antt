use Rattle.std.proofs.Common.{map}
use Rattle.c_base.specs.declared.number.BaseId.{BaseId}
use Rattle.avalue_values.proofs.Values.{mix_answers}
use Rattle.avalue_values.proofs.value.AVal.mix.Goals as goal

pub returns-clause-meaning : goal.returns-clause-meaning
returns-clause-meaning c = mix_answers c.mix_of.result (map (λ (b : BaseId). b.0) c.args.bases.now) c.mix_of.ensures
