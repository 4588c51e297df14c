-- What ways out of the scopes in progress leave.
use Rattle.std.specs.Prelude.{ℕ, ◌++◌, Bool, true, false, List, [], ◌∷◌, Option, None, Some}
use Rattle.c_machine.specs.Jumps.{Jump}
use Rattle.c_machine.specs.Work.{Work, Exit}
use Rattle.stepper_exits.specs.declared.marks.Left.{Left}

-- the way out of a function, of which these objects die and this work is left
abbrev pub left_of : List ℕ → List Work → Option Left → Option Exit
left_of dying rest None = None
left_of dying rest (Some left) = Some (record { dying = dying; function = left.function; site = left.site; rest = rest })

-- a jump that was found, by which these objects die and this work is left
abbrev pub jump_of : List ℕ → List Work → Bool → Option Jump
jump_of dying control false = None
jump_of dying control true = Some (record { dying = dying; control = control })

-- call sites with one more inside, where there is one
abbrev pub with_site : List ℕ → Option ℕ → List ℕ
with_site sites None = sites
with_site sites (Some site) = sites ++ site ∷ []
