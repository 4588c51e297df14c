-- What parts of steps do.
use Rattle.std.specs.Prelude.{ℕ, ◌≡◌, List, map, Result}
use Rattle.c_memory.specs.Layouts.{Layout}
use Rattle.c_program.specs.Syntax.{Program}
use Rattle.c_machine.specs.Machine.{Work, State, Outcome, Goes, Stops, stops_in, sites_of, Does}
use Rattle.stepper_values.specs.Views.{held_of}
use Rattle.stepper_work.specs.declared.work.State.{State as CodeState}
use Rattle.stepper_work.specs.declared.work.Effect.{Effect}
use Rattle.stepper_work.specs.declared.work.Effect.TheVariants.{GoesOn, StopsHere, StopsIn, Stuck}
use Rattle.stepper_work.specs.Views.{state_of}

-- the state is the next one, or the step stops in the statement in which the state goes on or in another one, or there is no step
abbrev pub Answers : (Outcome → Type 0) → State → Effect → Type 0
Answers R t GoesOn = R (Goes t)
Answers R t (StopsHere kind) = R (stops_in t kind)
Answers R t (StopsIn kind id) = R (Stops kind id (sites_of t.control))
Answers R t Stuck = (out : Outcome) → R out → ⊥

-- an item of work goes on so from a state without it
abbrev pub HasEffect : Program → Layout → Work → CodeState → CodeState → Effect → Type 0
HasEffect p l work s t effect = Answers (Does p l work (map held_of s.held) (state_of s)) (state_of t) effect

-- a part of a step that is a function of the state goes on so
abbrev pub Leads : (State → Outcome) → CodeState → CodeState → Effect → Type 0
Leads f s t effect = Answers (λ out. out ≡ f (state_of s)) (state_of t) effect
