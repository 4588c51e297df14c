-- Values with more than one address.
use Rattle.std.proofs.Common.{◌≡◌, ℕ, ◌<◌, ◌==◌, Bool, true, false, ◌&&◌, List, [], ◌∷◌, length, refl, sym, ap, ◌∙◌, subst, inl, arith}
use Rattle.std.specs.Prelude.{is_some, Option, None, Some}
use Rattle.std.proofs.lemmas.Bool.{ne_eqb}
use Rattle.ival_core.specs.declared.value.Shape.{Shape}
use Rattle.ival_core.specs.declared.value.Shape.TheVariants.{Few}
use Rattle.avalue_base.specs.Lists.{AreAscending}
use Rattle.avalue_base.specs.Numbers.{is_empty, no_numbers, rest_in}
use Rattle.avalue_base.specs.Values.{Address, AVal, Separate, Mixed, base_of}
use Rattle.avalue_values.specs.Views.{addresses_of, held_value}
use Rattle.cell_contents.specs.Contents.{is_rest, all_leave, is_one_value}

and_false : (b : Bool) → (b && false) ≡ false
and_false true = refl
and_false false = refl

-- of two addresses one has another base
pub two_leave : (k : ℕ) (a b : Address) (xs : List Address) (o : Option ℕ) → a.base < b.base → all_leave k a.base o (a ∷ b ∷ xs) ≡ false
two_leave k a b xs None h = refl
two_leave k a b xs (Some r) h =
    let e : (b.base == a.base) ≡ false = ne_eqb b.base a.base (λ z. omega arith) in
    rw e (and_false ((a.base == a.base) && is_rest r (rest_in k a.offsets.shape)))

pub many_not_one : (k : ℕ) (v : AVal) (xs : List Address) → xs ≡ addresses_of v → AreAscending base_of xs → 1 < length xs → false ≡ is_one_value k v
many_not_one k v [] e s h = absurd (omega arith)
many_not_one k v (a ∷ []) e s h = absurd (omega arith)
many_not_one k (Separate ns ys) (a ∷ b ∷ xs) e s h =
    subst (λ zs. false ≡ is_one_value k (Separate ns zs)) e (sym (ap (λ t. is_empty ns.shape && t) (two_leave k a b xs (rest_in k a.offsets.shape) (s.0 b (inl refl))) ∙ and_false (is_empty ns.shape)))
many_not_one k (Mixed bs) (a ∷ b ∷ xs) e s h = cc

pub none_is_one : (k : ℕ) (s : Shape) (v : Option AVal) (r : Bool) → v ≡ None → s ≡ Few (record { items = [] }) → r ≡ is_some (rest_in k s) → r ≡ is_one_value k (held_value v)
unfolding no_numbers
none_is_one k s v r e f h = h ∙ ap (λ t. is_some (rest_in k t)) f ∙ ap (λ w. is_one_value k (held_value w)) (sym e)
