use Rattle.c_unit_tree.specs.Views.{unit_kids}
use Rattle.first_program.specs.SourceViews.{program_of}
use Rattle.first_units.proofs.Shaped.{shaped_found}
use Rattle.first_units.proofs.programs.program_in.Goals as goal

pub returns-clause-shaped : goal.returns-clause-shaped
returns-clause-shaped c = shaped_found program_of (unit_kids c.args.unit.now) c.found_in.result c.found_in.ensures
