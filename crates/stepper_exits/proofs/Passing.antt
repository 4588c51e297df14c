-- What ways out do with work of each sort.
use Rattle.std.proofs.Common.{◌≡◌, ℕ, List, ◌∷◌, Option, Some, refl}
use Rattle.c_machine.specs.Jumps.{Jump, jump_behind, jump_on, jump_to}
use Rattle.c_machine.specs.Work.{Work, Do, Loop, Body, Close, Frame, ForNext, DoTest, Switched, exit_of}
use Rattle.stepper_exits.specs.Sorts.{Sort, Looping, Switching, Bodily, Other, sort_of}

pub exit_bodily : (w : Work) (dying : List ℕ) (rest : List Work) → sort_of w ≡ Bodily → exit_of dying (w ∷ rest) ≡ exit_of dying rest
exit_bodily (Body stmts) dying rest e = refl
exit_bodily w dying rest e = absurd (cc)

pub exit_looping : (w : Work) (dying : List ℕ) (rest : List Work) → sort_of w ≡ Looping → exit_of dying (w ∷ rest) ≡ exit_of dying rest
exit_looping (Loop id e s) dying rest h = refl
exit_looping (ForNext h s) dying rest e = refl
exit_looping (DoTest h s) dying rest e = refl
exit_looping w dying rest e = absurd (cc)

pub exit_switching : (w : Work) (dying : List ℕ) (rest : List Work) → sort_of w ≡ Switching → exit_of dying (w ∷ rest) ≡ exit_of dying rest
exit_switching Switched dying rest e = refl
exit_switching w dying rest e = absurd (cc)

pub exit_other : (w : Work) (dying : List ℕ) (rest : List Work) → sort_of w ≡ Other → exit_of dying (w ∷ rest) ≡ exit_of dying rest
exit_other (Frame f site) dying rest e = absurd (cc)
exit_other (Close bases stmts) dying rest e = absurd (cc)
exit_other (Body stmts) dying rest e = absurd (cc)
exit_other (Loop id c s) dying rest e = absurd (cc)
exit_other (ForNext h s) dying rest e = absurd (cc)
exit_other (DoTest h s) dying rest e = absurd (cc)
exit_other Switched dying rest e = absurd (cc)
exit_other (Do s) dying rest e = refl
exit_other w dying rest e = refl

pub behind_looping : (w : Work) (dying : List ℕ) (rest : List Work) → sort_of w ≡ Looping →
    jump_behind dying (w ∷ rest) ≡ Some (record { dying = dying; control = rest })
behind_looping (Loop id e s) dying rest h = refl
behind_looping (ForNext h s) dying rest e = refl
behind_looping (DoTest h s) dying rest e = refl
behind_looping w dying rest e = absurd (cc)

pub behind_switching : (w : Work) (dying : List ℕ) (rest : List Work) → sort_of w ≡ Switching →
    jump_behind dying (w ∷ rest) ≡ Some (record { dying = dying; control = rest })
behind_switching Switched dying rest e = refl
behind_switching w dying rest e = absurd (cc)

pub behind_other : (w : Work) (dying : List ℕ) (rest : List Work) → sort_of w ≡ Other → jump_behind dying (w ∷ rest) ≡ jump_behind dying rest
behind_other (Frame f site) dying rest e = absurd (cc)
behind_other (Close bases stmts) dying rest e = absurd (cc)
behind_other (Body stmts) dying rest e = absurd (cc)
behind_other (Loop id c s) dying rest e = absurd (cc)
behind_other (ForNext h s) dying rest e = absurd (cc)
behind_other (DoTest h s) dying rest e = absurd (cc)
behind_other Switched dying rest e = absurd (cc)
behind_other (Do s) dying rest e = refl
behind_other w dying rest e = refl

pub on_looping : (w : Work) (dying : List ℕ) (rest : List Work) → sort_of w ≡ Looping →
    jump_on dying (w ∷ rest) ≡ Some (record { dying = dying; control = w ∷ rest })
on_looping (Loop id e s) dying rest h = refl
on_looping (ForNext h s) dying rest e = refl
on_looping (DoTest h s) dying rest e = refl
on_looping w dying rest e = absurd (cc)

pub on_switching : (w : Work) (dying : List ℕ) (rest : List Work) → sort_of w ≡ Switching → jump_on dying (w ∷ rest) ≡ jump_on dying rest
on_switching Switched dying rest e = refl
on_switching w dying rest e = absurd (cc)

pub on_other : (w : Work) (dying : List ℕ) (rest : List Work) → sort_of w ≡ Other → jump_on dying (w ∷ rest) ≡ jump_on dying rest
on_other (Frame f site) dying rest e = absurd (cc)
on_other (Close bases stmts) dying rest e = absurd (cc)
on_other (Body stmts) dying rest e = absurd (cc)
on_other (Loop id c s) dying rest e = absurd (cc)
on_other (ForNext h s) dying rest e = absurd (cc)
on_other (DoTest h s) dying rest e = absurd (cc)
on_other Switched dying rest e = absurd (cc)
on_other (Do s) dying rest e = refl
on_other w dying rest e = refl

pub to_looping : (w : Work) (name dying : List ℕ) (rest : List Work) → sort_of w ≡ Looping → jump_to name dying (w ∷ rest) ≡ jump_to name dying rest
to_looping (Loop id e s) name dying rest h = refl
to_looping (ForNext h s) name dying rest e = refl
to_looping (DoTest h s) name dying rest e = refl
to_looping w name dying rest e = absurd (cc)

pub to_switching : (w : Work) (name dying : List ℕ) (rest : List Work) → sort_of w ≡ Switching → jump_to name dying (w ∷ rest) ≡ jump_to name dying rest
to_switching Switched name dying rest e = refl
to_switching w name dying rest e = absurd (cc)

pub to_other : (w : Work) (name dying : List ℕ) (rest : List Work) → sort_of w ≡ Other → jump_to name dying (w ∷ rest) ≡ jump_to name dying rest
to_other (Frame f site) name dying rest e = absurd (cc)
to_other (Close bases stmts) name dying rest e = absurd (cc)
to_other (Body stmts) name dying rest e = absurd (cc)
to_other (Loop id c s) name dying rest e = absurd (cc)
to_other (ForNext h s) name dying rest e = absurd (cc)
to_other (DoTest h s) name dying rest e = absurd (cc)
to_other Switched name dying rest e = absurd (cc)
to_other (Do s) name dying rest e = refl
to_other w name dying rest e = refl
