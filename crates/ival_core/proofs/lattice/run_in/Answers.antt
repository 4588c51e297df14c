use Rattle.ival_core.proofs.Inclusion.{run_not_few}
use Rattle.ival_core.proofs.Decisions.{never}
use Rattle.ival_core.proofs.lattice.run_in.Goals as goal

pub returns-in-Few : goal.returns-in-Few
returns-in-Few c = never _ (λ h. run_not_few c.args.run c.args.set.now _ c.requires c.in-Few.is h)
