-- The first of two that there may be.
use Rattle.std.proofs.Common.{◌≡◌, ◌∙◌, ℕ, List, ◌∷◌, Bool, true, false, cond, Option, None, Some, is_some, refl, true≢false, sym}
use Rattle.std.specs.Prelude.{bytes_eq}
use Rattle.c_program.specs.Syntax.{Stmt, Expression, If, While, DoWhile, For, Switch, Case, Label, Stmts}
use Rattle.c_machine.specs.Jumps.{first_some, at_label}
use Rattle.c_machine.specs.Work.{Work, Loop, DoTest, ForNext, Switched, Do}
use Rattle.stepper_jumps.specs.Searches.{labelled}

pub first_of_both : {A : Type 0} (a b : Option A) → is_some (first_some a b) ≡ cond (is_some a) true (is_some b)
first_of_both None b = refl
first_of_both (Some a) b = refl

pub first_has : {A : Type 0} (a b : Option A) → is_some a ≡ true → first_some a b ≡ a
first_has None b h = absurd (true≢false (sym h))
first_has (Some a) b h = refl

pub first_lacks : {A : Type 0} (a b : Option A) → is_some a ≡ false → first_some a b ≡ b
first_lacks None b h = refl
first_lacks (Some a) b h = absurd (true≢false h)

by_test : {A : Type 0} (b : Bool) (x : A) (a : Option A) (t : Bool) → is_some a ≡ t → is_some (cond b (Some x) a) ≡ cond b true t
by_test true x a t h = refl
by_test false x a t h = h

-- a label is found where the statement has it, whatever follows
pub labelled_is : (name : List ℕ) (s : Stmt) (rest : List Work) → is_some (at_label name s rest) ≡ labelled name s
labelled_is name (Label n s) rest = by_test (bytes_eq n name) (Do s ∷ rest) (at_label name s rest) (labelled name s) (labelled_is name s rest)
labelled_is name (If id e s t) rest =
    first_of_both (at_label name s rest) (at_label name t rest) ∙ rw (labelled_is name s rest, labelled_is name t rest) refl
labelled_is name (While id e s) rest = labelled_is name s (Loop id e s ∷ rest)
labelled_is name (DoWhile h s) rest = labelled_is name s (DoTest h s ∷ rest)
labelled_is name (For h s) rest = labelled_is name s (ForNext h s ∷ rest)
labelled_is name (Switch id e s) rest = labelled_is name s (Switched ∷ rest)
labelled_is name (Case value s) rest = labelled_is name s rest
labelled_is name (Expression id e) rest = refl
labelled_is name s rest = refl

pub both_has : (name : List ℕ) (s t : Stmt) (rest : List Work) → labelled name s ≡ true →
    first_some (at_label name s rest) (at_label name t rest) ≡ at_label name s rest
both_has name s t rest h = first_has (at_label name s rest) (at_label name t rest) (labelled_is name s rest ∙ h)

pub both_lacks : (name : List ℕ) (s t : Stmt) (rest : List Work) → labelled name s ≡ false →
    first_some (at_label name s rest) (at_label name t rest) ≡ at_label name t rest
both_lacks name s t rest h = first_lacks (at_label name s rest) (at_label name t rest) (labelled_is name s rest ∙ h)
