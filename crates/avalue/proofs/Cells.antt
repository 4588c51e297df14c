-- What calls on cells answer.
use Rattle.std.proofs.Common.{◌≡◌, ℕ, true, List, [], ◌∷◌, map, sym, subst}
use Rattle.std.specs.Prelude.{Result, Ok, Err, IfOk}
use Rattle.c_memory.specs.Layouts.{Layout}
use Rattle.c_memory.specs.Values.{Cell, wither}
use Rattle.avalue_base.specs.Values.{Cellv}
use Rattle.avalue_base.specs.Order.{leq, join}
use Rattle.avalue_base.specs.Deaths.{forgotten}
use Rattle.avalue_base.specs.Ops.{Fine}
use Rattle.avalue_base.specs.Meaning.{Allows}
use Rattle.avalue_base.proofs.Joins.{join_leq_left, join_leq_right}
use Rattle.avalue_base.proofs.Forgetting.{forget_allows}

pub joined_first : {E : Type 0} (r : Result Cellv E) (x y : Cellv) → IfOk r (λ c. c ≡ join x y) → IfOk r (λ c. leq x c ≡ true)
joined_first (Err e) x y h = tt
joined_first (Ok c) x y h = subst (λ z. leq x z ≡ true) (sym h) (join_leq_left x y)

pub joined_second : {E : Type 0} (r : Result Cellv E) (x y : Cellv) → IfOk r (λ c. c ≡ join x y) → IfOk r (λ c. leq y c ≡ true)
joined_second (Err e) x y h = tt
joined_second (Ok c) x y h = subst (λ z. leq y z ≡ true) (sym h) (join_leq_right x y)

pub forgotten_allows : {E : Type 0} (r : Result Cellv E) (base : ℕ) (x : Cellv) → IfOk r (λ c. c ≡ forgotten base x) →
    IfOk r (λ c. (l : Layout) (k : ℕ) (cells : List Cell) → Fine l.machine k x → Allows l k x cells → Allows l k c (map (wither (base ∷ [])) cells))
forgotten_allows (Err e) base x h = tt
forgotten_allows (Ok c) base x h = λ l k cells f a. subst (λ z. Allows l k z (map (wither (base ∷ [])) cells)) (sym h) (forget_allows l base k x cells f a)
