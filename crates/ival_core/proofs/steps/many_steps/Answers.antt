use Rattle.std.proofs.Common.{◌<◌, ◌+◌, sym, arith, ap, subst}
use Rattle.std.specs.Int.{w128}
use Rattle.std.specs.Prelude.{FitsSigned}
use Rattle.std.proofs.lemmas.Int.{to_z-of_z}
use Rattle.ival_core.specs.declared.value.Shape.TheVariants.{Many}
use Rattle.ival_core.specs.Sets.{IsLongRun}
use Rattle.ival_core.proofs.RunShapes.{run_from-long, step_value}
use Rattle.ival_core.proofs.steps.many_steps.Goals as goal

pub invariant_of-result : goal.invariant_of-result
invariant_of-result c =
    let f : FitsSigned w128 c.args.first = c.ranges.first in
    let more : c.args.more < c.args.more + 1 = omega arith in
    record {
      valid = simp to_z-of_z
          (subst (λ h. IsLongRun (record { low = c.args.first; high = h; stride = c.args.stride })) (sym (simp to_z-of_z at (step_value c.args.first c.args.stride c.args.more c.args.more c.requires.first c.requires.last more)))
          (run_from-long c.args.first c.args.stride c.args.more c.requires.first c.requires.last c.requires.moves c.requires.long));
    }

pub returns : goal.returns
returns c =
    let f : FitsSigned w128 c.args.first = c.ranges.first in
    let more : c.args.more < c.args.more + 1 = omega arith in
    simp to_z-of_z (ap (λ h. Many (record { low = c.args.first; high = h; stride = c.args.stride })) (simp to_z-of_z at (step_value c.args.first c.args.stride c.args.more c.args.more c.requires.first c.requires.last more)))
