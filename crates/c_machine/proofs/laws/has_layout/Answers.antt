use Rattle.c_program.proofs.Packed.{has_layout}
use Rattle.c_machine.proofs.laws.has_layout.Goals as goal

pub returns : goal.returns
returns c = λ p room. has_layout p room
