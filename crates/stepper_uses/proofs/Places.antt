-- A load at a held place gives what a load from the place is.
use Rattle.std.proofs.Common.{◌≡◌, refl}
use Rattle.c_memory.specs.declared.scalar.Scalar.{Scalar}
use Rattle.c_memory.specs.Layouts.{Layout}
use Rattle.c_machine.specs.Machine.{State, Held, Usable, Unusable, Cells, Absent, Part, with_place, with_value}
use Rattle.c_simple_machine.specs.Evaluation.{loaded_at}

pub placed : (l : Layout) (type : Scalar) (s : State) (h : Held) → with_place l type s h ≡ with_value s (loaded_at l s.memory type h)
placed l type s (Usable at) = refl
placed l type s (Unusable kind) = refl
placed l type s (Cells cells) = refl
placed l type s Absent = refl
placed l type s (Part cells) = refl
