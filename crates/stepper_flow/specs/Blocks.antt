-- What a `switch` selects in the block that stands behind its labels.
use Rattle.std.specs.Prelude.{ℤ, List, map, Option, None, Some}
use Rattle.c_program.specs.Syntax.{Block}
use Rattle.c_program.specs.Views.{stmt_of, listed, number_of}
use Rattle.c_machine.specs.Jumps.{Entry, selected}
use Rattle.c_machine.specs.Work.{Work}
use Rattle.stepper_flow.specs.declared.switches.Opened.{Opened}

abbrev pub selected_by : ℤ → Option Opened → List Work → Option Entry
selected_by n None rest = None
selected_by n (Some b) rest = selected n (Block (map number_of b.locals.now) (listed (map stmt_of b.stmts.now))) rest
