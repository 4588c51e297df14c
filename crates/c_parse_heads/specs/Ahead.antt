-- What the readers of a form's first trees answer: what they read, before any form that stands behind it.
use Rattle.std.specs.Prelude.{ℕ, ◌≡◌, true, List, [], ◌∷◌, Option, None, Some, Result, IfOk}
use Rattle.std.specs.Borrow.{Bor}
use Rattle.c_base.specs.declared.token.Token.{Token}
use Rattle.c_tree.specs.declared.tree.Expr.{Expr}
use Rattle.c_tree.specs.WellFormed.{Names}
use Rattle.grammar.specs.Forms.{Form, Place, Tree, Group}
use Rattle.grammar.specs.Reading.{Ran, with_kid}
use Rattle.c_grammar.specs.Leaves.{C}
use Rattle.c_unit_tree.specs.Views.{expr_value, first_kids, optional_value}
use Rattle.c_parse_initialisers.specs.Reads.{at}
use Rattle.c_parse_heads.specs.declared.heads.Ending.{Ending}
use Rattle.c_parse_heads.specs.declared.heads.Steps.{Steps}

-- some trees before others
abbrev pub with_kids : List (Tree C) → Option (Ran C) → Option (Ran C)
with_kids [] read = read
with_kids (t ∷ more) read = with_kid C t (with_kids more read)

-- what was found, and what the form behind it reads
abbrev pub ahead : {T : Type 0} → (T → List (Tree C)) → ℕ → Form C → Names → Option (T × Bor (List Token)) → Option (Ran C)
ahead view depth more names None = None
ahead view depth more names (Some x) = with_kids (view x.0) (at depth more names x.1.now)

-- the trees of a form before those of any form behind it
abbrev pub ReadsAhead : {T E : Type 0} → (T → List (Tree C)) → ℕ → (Form C → Form C) → Names → Names → List Token → Result (Option (T × Bor (List Token))) E → Type 0
ReadsAhead view depth form old new tokens result = IfOk result (λ r. (more : Form C) → ahead view depth more new r ≡ at depth (form more) old tokens)

-- ---- the trees of each

abbrev pub steps_trees : Steps → List (Tree C)
steps_trees s = Group true (first_kids s.first) ∷ optional_value s.second ∷ optional_value s.third ∷ []

abbrev pub later_trees : Option Expr × Option Expr → List (Tree C)
later_trees p = optional_value p.0 ∷ optional_value p.1 ∷ []

abbrev pub ending_trees : Ending → List (Tree C)
ending_trees e = Place e.place ∷ expr_value e.condition ∷ []
