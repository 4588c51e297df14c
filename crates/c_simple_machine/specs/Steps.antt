-- The runs of simple programs: each function in progress stands at a place, and steps along an edge from there.
use Rattle.std.specs.Prelude.{ℕ, ◌≡◌, ◌==◌, not, cond, List, [], ◌∷◌, ◌++◌, filter, Option, None, Some, slice_get}
use Rattle.c_base.specs.declared.kind.Kind.{Kind}
use Rattle.c_memory.specs.Memories.{born}
use Rattle.c_memory.specs.Layouts.{Layout}
use Rattle.c_types.specs.Types.{CType}
use Rattle.c_program.specs.Syntax.{ResultType, Void, Function, function_at, Program}
use Rattle.c_program.specs.Valid.{is_among}
use Rattle.c_machine.specs.Work.{Held as Holds}
use Rattle.c_machine.specs.Machine.{initial_memory}
use Rattle.c_simple.specs.Trees.{Edge, Place, Function as SimpleFunction, Program' as SimpleProgram}
use Rattle.c_simple_machine.specs.Acts.{Content, Setting, Effect, GoesOn, StopsWith, Enters, Returns, with_slot, Does}

-- a function in progress: where it goes on, the site of its call, and the slot that gets its result; what is entered first has neither
pub record Frame : Type 0 where
  pub function : ℕ
  pub at : ℕ
  pub site : Option ℕ
  pub slot : Option ℕ

-- the functions in progress, the innermost first
pub record State : Type 0 where
  pub frames : List Frame
  pub content : Content

pub data Outcome : Type 0 where
  Goes : State → Outcome
  Stops : Kind → ℕ → List ℕ → Outcome

-- ---- what an edge is taken in

abbrev pub simple_function_at : List SimpleFunction → ℕ → Option SimpleFunction
simple_function_at [] base = None
simple_function_at (f ∷ more) base = cond (f.base == base) (Some f) (simple_function_at more base)

abbrev pub live_at : Option Place → List ℕ
live_at None = []
live_at (Some place) = place.scope.live

abbrev pub slots_at : Option Place → List (ℕ × CType)
slots_at None = []
slots_at (Some place) = place.scope.slots

abbrev pub result_of : Option Function → ResultType
result_of None = Void
result_of (Some f) = f.result

-- the objects that live at its start and not at its end
abbrev pub dying_along : SimpleFunction → Edge → List ℕ
dying_along f e = filter (λ b. not (is_among (live_at (slice_get f.places e.end)) b)) (live_at (slice_get f.places e.start))

abbrev pub setting : SimpleProgram → SimpleFunction → Edge → Frame → Setting
setting q f e frame = record {
  types = slots_at (slice_get f.places e.start);
  dying = dying_along f e;
  site = frame.site;
  result = result_of (function_at q.program.functions f.base);
}

-- ---- steps

-- the call sites in progress, outermost first
abbrev pub sites_of : List Frame → List ℕ
sites_of [] = []
sites_of (frame ∷ callers) = sites_of callers ++ site_in frame.site
  where
    site_in : Option ℕ → List ℕ
    site_in None = []
    site_in (Some site) = site ∷ []

abbrev pub result_held : Option ℕ → Holds → Content → Content
result_held None h c = c
result_held (Some slot) h c = record c { slots = with_slot c.slots slot (Some h) }

-- where the run goes on behind an edge of the innermost function
abbrev pub led : Frame → List Frame → Edge → Effect → Outcome
led frame callers e (GoesOn c) = Goes (record { frames = record frame { at = e.end } ∷ callers; content = c })
led frame callers e (StopsWith kind) = Stops kind e.at (sites_of (frame ∷ callers))
led frame callers e (Enters f site slot c) = Goes (record {
  frames = record { function = f; at = 0; site = Some site; slot = slot } ∷ record frame { at = e.end } ∷ callers;
  content = c;
})
led frame callers e (Returns h c) = Goes (record { frames = callers; content = result_held frame.slot h c })

-- an edge of the function from the place where it stands
abbrev pub IsEdgeFrom : SimpleFunction → ℕ → ℕ → Edge → Type 0
IsEdgeFrom f at n e = (slice_get f.edges n ≡ Some e) × (e.start ≡ at)

module _ (q : SimpleProgram) (l : Layout) where
  abbrev pub StepsIn : Option SimpleFunction → Frame → List Frame → Content → Outcome → Type 0
  StepsIn None frame callers c out = ⊥
  StepsIn (Some f) frame callers c out =
      (n : ℕ) × (edge : Edge) × IsEdgeFrom f frame.at n edge
      × ((e : Effect) × Does q.program l (setting q f edge frame) edge.act c e × (out ≡ led frame callers edge e))

  abbrev pub StepsOf : List Frame → Content → Outcome → Type 0
  StepsOf [] c out = ⊥
  StepsOf (frame ∷ callers) c out = StepsIn (simple_function_at q.functions frame.function) frame callers c out

  -- one step
  abbrev pub Step : State → Outcome → Type 0
  Step s out = StepsOf s.frames s.content out

-- ---- runs

abbrev pub entered_first : Program → Layout → Option Function → Option State
entered_first p l None = None
entered_first p l (Some f) = Some (record {
  frames = record { function = f.base; at = 0; site = None; slot = None } ∷ [];
  content = record { slots = λ slot. None; memory = born l (f.formals ++ f.locals) (initial_memory p l) };
})

-- where the run of a simple program begins: at the entry of the function that is entered first, whose objects are born
abbrev pub initial : SimpleProgram → Layout → Option State
initial q l = entered_first q.program l (function_at q.program.functions q.program.entry)

-- the states follow one another from the first one on
abbrev pub IsRun : SimpleProgram → Layout → State → List State → Type 0
IsRun q l s [] = Unit {0}
IsRun q l s (t ∷ ts) = Step q l s (Goes t) × IsRun q l t ts
