-- Runs from the left with one operator more, and lists behind one item more.
use Rattle.std.proofs.Common.{◌≡◌, ◌≢◌, ℕ, zero, suc, ◌+◌, ◌-◌, ◌<◌, ◌≤◌, ◌==◌, false, get_or, sym, ◌∙◌, subst, arith, true≢false, Bool, List, [], ◌∷◌, ◌++◌, map, take, drop, length, Option, None, Some, slice_get, refl, ap}
use Rattle.std.proofs.Math.Seq.{take-suc}
use Rattle.std.proofs.lemmas.Option.{slice_get-get_or}
use Rattle.c_types.specs.Steps.{stepped}
use Rattle.c_typed_expr.specs.Trees.{Expr, Logic, Comma}
use Rattle.c_typed_expr.specs.Views.{expr_of, logic_run, comma_run}
use Rattle.c_typed_expr.specs.declared.expr.TExpr.{TExpr}
use Rattle.stepper_shapes.specs.Views.{listed_in}

pub stepped_last : {A B : Type 0} (f : A → B → B) (xs : List A) (x : A) (b : B) →
    stepped (map f (xs ++ x ∷ [])) b ≡ f x (stepped (map f xs) b)
stepped_last f [] x b = refl
stepped_last f (y ∷ xs) x b = stepped_last f xs x (f y b)

pub logic_last : {A : Type 0} (is_and : Bool) (f : A → Expr) (xs : List A) (x : A) (e : Expr) →
    logic_run is_and e (map f (xs ++ x ∷ [])) ≡ Logic is_and (logic_run is_and e (map f xs)) (f x)
logic_last is_and f [] x e = refl
logic_last is_and f (y ∷ xs) x e = logic_last is_and f xs x (Logic is_and e (f y))

pub dropped_none : {A : Type 0} (xs : List A) (n : ℕ) → slice_get xs n ≡ None → drop n xs ≡ []
dropped_none [] zero e = refl
dropped_none [] (suc n) e = refl
dropped_none (x ∷ xs) zero e = cc
dropped_none (x ∷ xs) (suc n) e = dropped_none xs n e

pub dropped_more : {A : Type 0} (xs : List A) (n : ℕ) (x : A) → slice_get xs n ≡ Some x → drop n xs ≡ x ∷ drop (n + 1) xs
dropped_more [] n x e = absurd (cc)
dropped_more (y ∷ xs) zero x e = cc
dropped_more (y ∷ xs) (suc n) x e = let next : suc n + 1 ≡ suc (n + 1) = omega arith in rw next (dropped_more xs n x e)

by_last : {A : Type 0} (xs : List A) (n k : ℕ) (x : A) → take (suc k) xs ≡ take n xs → k < length xs → x ≡ get_or xs k x →
    (take n xs ≡ take k xs ++ x ∷ []) × (slice_get xs k ≡ Some x)
by_last xs n k x e h is =
    (sym e ∙ take-suc xs k x h ∙ ap (λ y. take k xs ++ y ∷ []) (sym is), slice_get-get_or xs k x h ∙ ap Some (sym is))

pub last_taken : {A : Type 0} (xs : List A) (n m : ℕ) (x : A) → take m xs ≡ take n xs → m ≤ length xs → (m == 0) ≡ false → x ≡ get_or xs (m - 1) x →
    (take n xs ≡ take (m - 1) xs ++ x ∷ []) × (slice_get xs (m - 1) ≡ Some x)
last_taken xs n zero x e h some is = absurd (true≢false some)
last_taken xs n (suc k) x e h some is =
    let below : suc k - 1 ≡ k = omega arith in
    subst (λ j. (take n xs ≡ take j xs ++ x ∷ []) × (slice_get xs j ≡ Some x)) (sym below)
    (by_last xs n k x e (omega arith) (subst (λ j. x ≡ get_or xs j x) below is))

pub take_all : {A : Type 0} (xs : List A) → take (length xs) xs ≡ xs
take_all [] = refl
take_all (x ∷ xs) = ap (λ ys. x ∷ ys) (take_all xs)

-- what follows so many operands of commas, by the first of it
pub comma_more : (before : List TExpr) (n : ℕ) (x : TExpr) (last : Expr) → slice_get before n ≡ Some x →
    Comma (listed_in before n) (comma_run (map expr_of (drop (n + 1) before)) last) ≡ comma_run (map expr_of (drop n before)) last
comma_more before n x last e = rw (dropped_more before n x e, e) refl

pub comma_at : (all before : List TExpr) (n : ℕ) (x : TExpr) (last : Expr) → all ≡ before → n < length all → x ≡ get_or all n x →
    Comma (listed_in before n) (comma_run (map expr_of (drop (n + 1) before)) last) ≡ comma_run (map expr_of (drop n before)) last
comma_at all before n x last same h is =
    comma_more before n x last (subst (λ xs. slice_get xs n ≡ Some x) same (slice_get-get_or all n x h ∙ ap Some (sym is)))
