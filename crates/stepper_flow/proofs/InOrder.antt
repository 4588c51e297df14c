-- Items of initialisers, one more before those behind it.
use Rattle.std.proofs.Common.{◌≡◌, ◌∙◌, ℕ, zero, suc, ◌-◌, ◌<◌, ◌≤◌, List, [], ◌∷◌, map, length, drop, get_or, refl, sym, ap, subst, arith}
use Rattle.c_typed_stmt.specs.declared.init.TInitItem.{TInitItem}
use Rattle.c_program.specs.Syntax.{Item, Value, Content}
use Rattle.c_program.specs.Views.{item_of}
use Rattle.c_machine.specs.Unfolding.{items_work}
use Rattle.c_machine.specs.Work.{Work}

-- the work of the items from number n on
abbrev pub items_from : ℕ → List TInitItem → ℕ → List Work → List Work
items_from base all n rest = items_work base (map item_of (drop n all)) rest

split : (base : ℕ) (x : Item) (more : List Item) (rest : List Work) → items_work base (x ∷ []) (items_work base more rest) ≡ items_work base (x ∷ more) rest
split base (Value t q e) more rest = refl
split base (Content image) more rest = refl

item_at : (base : ℕ) (all : List TInitItem) (n : ℕ) (x : TInitItem) (rest : List Work) → n < length all → x ≡ get_or all n x →
    items_work base (item_of x ∷ []) (items_from base all (suc n) rest) ≡ items_from base all n rest
item_at base [] n x rest h is = absurd (omega arith)
item_at base (y ∷ all) zero x rest h is = rw is (split base (item_of y) (map item_of all) rest)
item_at base (y ∷ all) (suc n) x rest h is = item_at base all n x rest (omega arith) is

pub item_before : (base : ℕ) (all : List TInitItem) (n : ℕ) (x : TInitItem) (rest : List Work) → 0 < n → n ≤ length all → x ≡ get_or all (n - 1) x →
    items_work base (item_of x ∷ []) (items_from base all n rest) ≡ items_from base all (n - 1) rest
item_before base all zero x rest some h is = absurd (omega arith)
item_before base all (suc n) x rest some h is =
    let below : suc n - 1 ≡ n = omega arith in
    rw below (item_at base all n x rest (omega arith) (subst (λ k. x ≡ get_or all k x) below is))

pub none_left : (base : ℕ) (all : List TInitItem) (rest : List Work) → items_from base all (length all) rest ≡ rest
none_left base [] rest = refl
none_left base (x ∷ all) rest = none_left base all rest
