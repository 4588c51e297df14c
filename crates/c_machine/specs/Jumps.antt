-- Where jumps lead (C11 6.8.4.2, 6.8.6): the work behind a label, and the objects of the blocks that are left.
use Rattle.std.specs.Prelude.{ℕ, Bool, true, false, cond, ◌&&◌, bytes_eq, List, [], ◌∷◌, ◌++◌, ℤ, int_le, Option, None, Some}
use Rattle.c_program.specs.Syntax.{Stmt, If, While, Block, DoWhile, For, Switch, Case, Label, Stmts, Done, Next}
use Rattle.c_machine.specs.Work.{Work, Do, Loop, Body, Close, Frame, ForNext, DoTest, Switched, queued}

-- a jump: the objects that die, and what is to do from then on
pub record Jump : Type 0 where
  pub dying : List ℕ
  pub control : List Work

abbrev pub first_some : {A : Type 0} → Option A → Option A → Option A
first_some None b = b
first_some (Some a) b = Some a

-- ---- `goto`

-- The work from a label on in a statement, before other work. A jump does not lead into a block from outside; into the body of a loop or an
-- `if` that is no block it does.
abbrev pub at_label : List ℕ → Stmt → List Work → Option (List Work)
at_label name (Label n s) rest = cond (bytes_eq n name) (Some (Do s ∷ rest)) (at_label name s rest)
at_label name (If id e s t) rest = first_some (at_label name s rest) (at_label name t rest)
at_label name (While id e s) rest = at_label name s (Loop id e s ∷ rest)
at_label name (DoWhile h s) rest = at_label name s (DoTest h s ∷ rest)
at_label name (For h s) rest = at_label name s (ForNext h s ∷ rest)
at_label name (Switch id e s) rest = at_label name s (Switched ∷ rest)
at_label name (Case value s) rest = at_label name s rest
at_label name s rest = None

abbrev pub at_label_in : List ℕ → Stmts → List Work → Option (List Work)
at_label_in name Done rest = None
at_label_in name (Next s more) rest = first_some (at_label name s (queued more rest)) (at_label_in name more rest)

-- the label is in this block, or further outside
abbrev pub jump_or : List ℕ → Option (List Work) → Option Jump → Option Jump
jump_or dying None outside = outside
jump_or dying (Some control) outside = Some (record { dying = dying; control = control })

-- a jump to a label of a block in progress
abbrev pub jump_to : List ℕ → List ℕ → List Work → Option Jump
jump_to name dying [] = None
jump_to name dying (Close bases stmts ∷ rest) =
    jump_or dying (at_label_in name stmts (Close bases stmts ∷ rest)) (jump_to name (dying ++ bases) rest)
jump_to name dying (Body stmts ∷ rest) = jump_or dying (at_label_in name stmts (Body stmts ∷ rest)) (jump_to name dying rest)
jump_to name dying (Frame function site ∷ rest) = None
jump_to name dying (work ∷ rest) = jump_to name dying rest

-- ---- `break` and `continue`

-- behind the innermost loop or `switch`
abbrev pub jump_behind : List ℕ → List Work → Option Jump
jump_behind dying [] = None
jump_behind dying (Loop id e s ∷ rest) = Some (record { dying = dying; control = rest })
jump_behind dying (ForNext h s ∷ rest) = Some (record { dying = dying; control = rest })
jump_behind dying (DoTest h s ∷ rest) = Some (record { dying = dying; control = rest })
jump_behind dying (Switched ∷ rest) = Some (record { dying = dying; control = rest })
jump_behind dying (Close bases stmts ∷ rest) = jump_behind (dying ++ bases) rest
jump_behind dying (Frame function site ∷ rest) = None
jump_behind dying (work ∷ rest) = jump_behind dying rest

-- to the end of the body of the innermost loop
abbrev pub jump_on : List ℕ → List Work → Option Jump
jump_on dying [] = None
jump_on dying (Loop id e s ∷ rest) = Some (record { dying = dying; control = Loop id e s ∷ rest })
jump_on dying (ForNext h s ∷ rest) = Some (record { dying = dying; control = ForNext h s ∷ rest })
jump_on dying (DoTest h s ∷ rest) = Some (record { dying = dying; control = DoTest h s ∷ rest })
jump_on dying (Close bases stmts ∷ rest) = jump_on (dying ++ bases) rest
jump_on dying (Frame function site ∷ rest) = None
jump_on dying (work ∷ rest) = jump_on dying rest

-- ---- `switch`

abbrev pub same_number : ℤ → ℤ → Bool
same_number a b = int_le a b && int_le b a

-- the value of a `case`; None is that of `default`
abbrev pub same_case : Option ℤ → Option ℤ → Bool
same_case None None = true
same_case None (Some b) = false
same_case (Some a) None = false
same_case (Some a) (Some b) = same_number a b

-- the work from a `case` on that labels the statement, before other work
abbrev pub at_case : Option ℤ → Stmt → List Work → Option (List Work)
at_case value (Case v s) rest = cond (same_case value v) (Some (Do s ∷ rest)) (at_case value s rest)
at_case value (Label name s) rest = at_case value s rest
at_case value s rest = None

abbrev pub at_case_in : Option ℤ → Stmts → List Work → Option (List Work)
at_case_in value Done rest = None
at_case_in value (Next s more) rest = first_some (at_case value s (queued more rest)) (at_case_in value more rest)

-- what a `switch` enters: the objects that are born, and the work
pub record Entry : Type 0 where
  pub born : List ℕ
  pub control : List Work

abbrev pub entry_at : List ℕ → Option (List Work) → Option Entry
entry_at bases None = None
entry_at bases (Some control) = Some (record { born = bases; control = control })

-- the block of a `switch` from the `case` of the value on, or from `default` on; nothing of it where it has neither
abbrev pub selected : ℤ → Stmt → List Work → Option Entry
selected n (Block bases stmts) rest =
    entry_at bases (first_some (at_case_in (Some n) stmts (Close bases stmts ∷ Switched ∷ rest)) (at_case_in None stmts (Close bases stmts ∷ Switched ∷ rest)))
selected n (Label name s) rest = selected n s rest
selected n s rest = None
