use Rattle.c_program.proofs.Naming.{named_as_argument, not_named_as_called}
use Rattle.c_program.proofs.laws.names_of_functions.Goals as goal

pub returns-clause-argument : goal.returns-clause-argument
returns-clause-argument c = named_as_argument

pub returns-clause-called : goal.returns-clause-called
returns-clause-called c = not_named_as_called
