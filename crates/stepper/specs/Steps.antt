-- What whole steps are.
use Rattle.std.specs.Prelude.{◌≡◌, Option, None, Some}
use Rattle.c_memory.specs.Layouts.{Layout}
use Rattle.c_program.specs.Syntax.{Program}
use Rattle.c_machine.specs.Machine.{State, Outcome, Goes, Stops, Step}
use Rattle.stepper_work.specs.declared.work.State.{State as CodeState}
use Rattle.stepper_work.specs.Views.{state_of}
use Rattle.stepper.specs.declared.steps.Outcome.{Outcome as CodeOutcome}
use Rattle.stepper.specs.declared.steps.Outcome.TheVariants as code

-- the state is the next one, or the step stops, or there is no step
abbrev pub Ends : (Outcome → Type 0) → State → CodeOutcome → Type 0
Ends R t code.Goes = R (Goes t)
Ends R t (code.Stops kind id sites) = R (Stops kind id sites)
Ends R t code.Ends = (out : Outcome) → R out → ⊥

abbrev pub IsStep : Program → Layout → CodeState → CodeState → CodeOutcome → Type 0
IsStep p l s t out = Ends (Step p l (state_of s)) (state_of t) out

abbrev pub state_option_of : Option CodeState → Option State
state_option_of None = None
state_option_of (Some s) = Some (state_of s)
