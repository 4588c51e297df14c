-- What holds of every program that the checker of types answers, part by part.
use Rattle.std.specs.List.{AllByRecursion}
use Rattle.c_program.specs.declared.program.TypedProgram.{TypedProgram}
use Rattle.c_program.specs.Syntax.{Program}
use Rattle.c_program.specs.Valid.{IsValid}
use Rattle.c_program.specs.Named.{IsNamed}
use Rattle.c_program.specs.Sized.{IsSized}
use Rattle.c_program.specs.Typed.{IsTyped}
use Rattle.c_program.specs.Flow.{IsFlowing}
use Rattle.c_program.specs.StaticCalls.{IsAcyclic, KnowsNames}
use Rattle.c_program.specs.Imaged.{IsImaged}
use Rattle.c_program.specs.Numbered.{IsNumbered}
use Rattle.c_program.specs.Marked.{IsMarked}
use Rattle.c_program.specs.Weighed.{IsWeighed}
use Rattle.c_program.specs.Views.{program_of}

abbrev pub AreFlowing : Program → Type 0
AreFlowing p = AllByRecursion IsFlowing p.functions

-- Objects stand in their scopes and the entry has a body (`valid`), and each part above holds.
pub record IsChecked (p : TypedProgram) : Type 0 where
  pub valid : IsValid (program_of p)
  pub named : IsNamed (program_of p)
  pub sized : IsSized (program_of p)
  pub typed : IsTyped (program_of p)
  pub flowing : AreFlowing (program_of p)
  pub acyclic : IsAcyclic (program_of p)
  pub known : KnowsNames (program_of p)
  pub imaged : IsImaged (program_of p)
  pub numbered : IsNumbered (program_of p)
  pub marked : IsMarked (program_of p)
  pub weighed : IsWeighed p
