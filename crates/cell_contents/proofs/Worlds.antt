-- The laws of cells in each layout.
use Rattle.std.proofs.Common.{◌≡◌, refl, subst}
use Rattle.c_base.specs.declared.integer.Machine.{Machine}
use Rattle.c_base.specs.declared.integer.Machine.TheVariants.{Lp64}
use Rattle.c_memory.specs.Layouts.{Layout}
use Rattle.cell_laws.specs.Laws.{MeaningLaws, AccessLaws}
use Rattle.avalue_base.specs.Ops.{ops, Fine}
use Rattle.avalue_base.specs.Meaning.{Allows, Gives, Tint, Bare, Sure}
use Rattle.avalue_base.proofs.Showing.{meaning_laws}
use Rattle.avalue_base.proofs.Accesses.{access_laws}

pub machine_is : (m : Machine) → m ≡ Lp64
machine_is Lp64 = refl

pub world_meaning : (l : Layout) → MeaningLaws (ops Lp64) (Fine Lp64) Tint Bare Sure (Allows l)
world_meaning l = subst (λ (m : Machine). MeaningLaws (ops m) (Fine m) Tint Bare Sure (Allows l)) (machine_is l.machine) (meaning_laws l)

pub world_access : (l : Layout) → AccessLaws (ops Lp64) (Fine Lp64) (Allows l) (Gives l)
world_access l = subst (λ (m : Machine). AccessLaws (ops m) (Fine m) (Allows l) (Gives l)) (machine_is l.machine) (access_laws l)
