-- Where labels are searched for in statements.
use Rattle.std.specs.Prelude.{ℕ, zero, suc, ◌+◌, ◌<◌, ℤ, Bool, true, false, bytes_eq, cond, List, ◌∷◌, Option, None, Some}
use Rattle.c_program.specs.Syntax.{Stmt, If, While, DoWhile, For, Switch, Case, Label}
use Rattle.c_program.specs.Views.{stmt_of}
use Rattle.c_machine.specs.Jumps.{at_label, at_case, first_some, same_case}
use Rattle.c_machine.specs.Work.{Work, Do}
use Rattle.stepper_shapes.specs.Views.{statement_of}
use Rattle.stepper_work.specs.Views.{work_of}
use Rattle.stepper_jumps.specs.declared.parts.Part.{Part}
use Rattle.stepper_jumps.specs.declared.parts.Part.TheVariants as part

-- how many statements lie within a statement, where labels are searched for
abbrev pub size : Stmt → ℕ
size (If id e s t) = suc (size s + size t)
size (While id e s) = suc (size s)
size (DoWhile h s) = suc (size s)
size (For h s) = suc (size s)
size (Switch id e s) = suc (size s)
size (Case value s) = suc (size s)
size (Label name s) = suc (size s)
size s = zero

-- what a part of a statement is for a search of a label
abbrev pub label_at : List ℕ → Part → List Work → Option (List Work)
label_at name (part.Named n s) rest = cond (bytes_eq n.now name) (Some (Do (stmt_of s.now) ∷ rest)) (at_label name (stmt_of s.now) rest)
label_at name (part.Valued value s) rest = at_label name (stmt_of s.now) rest
label_at name (part.Both s t) rest = first_some (at_label name (statement_of s) rest) (at_label name (statement_of t) rest)
label_at name (part.Marked mark s) rest = at_label name (statement_of s) (work_of mark ∷ rest)
label_at name part.Nothing rest = None

-- the same for a search of a `case`
abbrev pub case_at : Option ℤ → Part → List Work → Option (List Work)
case_at value (part.Named n s) rest = at_case value (stmt_of s.now) rest
case_at value (part.Valued v s) rest = cond (same_case value v) (Some (Do (stmt_of s.now) ∷ rest)) (at_case value (stmt_of s.now) rest)
case_at value (part.Both s t) rest = None
case_at value (part.Marked mark s) rest = None
case_at value part.Nothing rest = None

-- each part is smaller than the whole
abbrev pub IsSmaller : Part → ℕ → Type 0
IsSmaller (part.Named n s) most = size (stmt_of s.now) < most
IsSmaller (part.Valued v s) most = size (stmt_of s.now) < most
IsSmaller (part.Both s t) most = (size (statement_of s) < most) × (size (statement_of t) < most)
IsSmaller (part.Marked mark s) most = size (statement_of s) < most
IsSmaller part.Nothing most = Unit {0}

-- the statement has the label where a jump may lead to it
abbrev pub labelled : List ℕ → Stmt → Bool
labelled name (Label n s) = cond (bytes_eq n name) true (labelled name s)
labelled name (If id e s t) = cond (labelled name s) true (labelled name t)
labelled name (While id e s) = labelled name s
labelled name (DoWhile h s) = labelled name s
labelled name (For h s) = labelled name s
labelled name (Switch id e s) = labelled name s
labelled name (Case value s) = labelled name s
labelled name s = false

abbrev pub labelled_part : List ℕ → Part → Bool
labelled_part name (part.Named n s) = cond (bytes_eq n.now name) true (labelled name (stmt_of s.now))
labelled_part name (part.Valued value s) = labelled name (stmt_of s.now)
labelled_part name (part.Both s t) = cond (labelled name (statement_of s)) true (labelled name (statement_of t))
labelled_part name (part.Marked mark s) = labelled name (statement_of s)
labelled_part name part.Nothing = false
