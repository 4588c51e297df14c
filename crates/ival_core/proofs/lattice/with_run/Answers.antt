use Rattle.std.proofs.Common.{subst, sym, ◌≡◌}
use Rattle.std.specs.Int.{w128}
use Rattle.std.specs.Prelude.{FitsSigned}
use Rattle.std.proofs.lemmas.Int.{to_z-of_z}
use Rattle.ival_core.specs.Sets.{IsNumber}
use Rattle.ival_core.proofs.Joins.{run_long, run_least}
use Rattle.ival_core.proofs.lattice.with_run.Goals as goal

pub invariant_of-result : goal.invariant_of-result
invariant_of-result c =
    let f : FitsSigned w128 c.args.x = c.ranges.x in
    record { valid = run_long (λ n. n ≡ c.args.x) c.args.run c.of.result c.hull.result c.requires.run (λ n e. subst IsNumber (sym e) c.requires.number) (simp to_z-of_z at c.of.ensures) c.hull.ensures }

pub returns : goal.returns
returns c =
    let f : FitsSigned w128 c.args.x = c.ranges.x in
    run_least (λ n. n ≡ c.args.x) c.args.run c.of.result c.hull.result c.requires.run (simp to_z-of_z at c.of.ensures) c.hull.ensures
