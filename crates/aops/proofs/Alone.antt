-- Conversions of single values give one value alone.
use Rattle.std.proofs.Common.{◌≡◌, ◌↔◌, ℕ, Bool, true, false, ◌&&◌, ◌||◌, ℤ, pos, List, [], ◌∷◌, refl, sym, subst, ap, ◌∙◌, inl, inr}
use Rattle.std.specs.Prelude.{None, Some, is_some}
use Rattle.std.proofs.lemmas.Bool.{and_parts}
use Rattle.c_base.specs.declared.integer.IntKind.{IntKind}
use Rattle.c_base.specs.declared.integer.IntKind.TheVariants.{Bool as bool_kind}
use Rattle.c_base.specs.declared.integer.Machine.{Machine}
use Rattle.c_base.specs.declared.integer.Machine.TheVariants.{Lp64}
use Rattle.c_base.specs.declared.operators.Rel.TheVariants as rel
use Rattle.c_base.specs.Operators.{truth_number}
use Rattle.c_memory.specs.declared.scalar.Scalar.TheVariants.{Integer}
use Rattle.c_memory.specs.Values.{Value}
use Rattle.c_memory.specs.Layouts.{Layout}
use Rattle.ival_core.specs.declared.value.Shape.{Shape}
use Rattle.ival_core.specs.declared.value.Shape.TheVariants.{Few, Many}
use Rattle.ival_core.specs.declared.value.Ival.{Ival}
use Rattle.ival_core.specs.Ivals.{Holds, IsOnly}
use Rattle.ival_core.specs.Joined.{with_numbers, joined}
use Rattle.ival_core.specs.Views.{single_of}
use Rattle.ival_arith.specs.Pieces.{gathered, clipped, all_changed}
use Rattle.ival_arith.specs.Values.{residues}
use Rattle.ival_arith.specs.Promises.{relates}
use Rattle.ival_bits.specs.Wraps.{wrapped, resigned}
use Rattle.avalue_base.specs.Numbers.{is_empty, is_empty_list}
use Rattle.avalue_base.specs.Values.{AVal, Separate, Mixed, bases_of}
use Rattle.avalue_base.specs.Meets.{least_of}
use Rattle.avalue_base.specs.Meaning.{Means}
use Rattle.avalue_base.specs.Singles.{is_single_value}
use Rattle.avalue_values.specs.Views.{numbers_in, numbers_alone, renumbered}
use Rattle.aops.specs.Converted.{is_word, truths}
use Rattle.aops.specs.Soles.{is_single_number, keeps_addresses, IsAlone}
use Rattle.aops.proofs.Narrow.{small_only, truth_small, related_only}
use Rattle.aops.proofs.Soles.{same_value, some_only, one_alone, number_only, single_alone}

-- ---- sets

empty_shape : (s : Shape) → is_empty s ≡ true → s ≡ Few (record { items = [] })
empty_shape (Few v) e = at v.items e
  where
    at : (xs : List ℤ) → is_empty_list xs ≡ true → Few (record { items = xs }) ≡ Few (record { items = [] })
    at [] f = refl
    at (x ∷ xs) f = cc
empty_shape (Many p) e = cc

wrapped_none : (signed : Bool) (bits : ℕ) → is_empty (wrapped signed bits (Few (record { items = [] }))) ≡ true
unfolding wrapped residues gathered with_numbers resigned clipped all_changed joined
wrapped_none true bits = refl
wrapped_none false bits = refl

pub wrapped_empty : (signed : Bool) (bits : ℕ) (a v : Ival) → v.shape ≡ wrapped signed bits a.shape → is_empty a.shape ≡ true → is_empty v.shape ≡ true
wrapped_empty signed bits a v e h = ap is_empty (e ∙ ap (wrapped signed bits) (empty_shape a.shape h)) ∙ wrapped_none signed bits

-- at most one number
pub record IsSlim (a w : Ival) : Type 0 where
  pub single : (n : ℤ) → IsOnly a n → (m : ℤ) × IsOnly w m
  pub none : is_empty a.shape ≡ true → is_empty w.shape ≡ true

-- ---- values

pub numbers_alone_one : (l : Layout) (v : AVal) (w : Ival) (m : ℤ) → v ≡ Separate w [] → IsOnly w m → IsAlone l v
numbers_alone_one l v w m e o x y h k = at (subst (λ z. Means l z x) e h) (subst (λ z. Means l z y) e k)
  where
    at : Means l (Separate w []) x → Means l (Separate w []) y → x ≡ y
    at (inl a) (inl b) = same_value x y (one_alone w m x.number y.number o a.1 b.1) (a.0 ∙ sym b.0)
    at (inl a) (inr b) = absurd b
    at (inr a) b = absurd a

-- other numbers in place of those of a single value, as many
pub renumbered_alone : (l : Layout) (a v : AVal) (n w : Ival) → numbers_in a ≡ Some n → v ≡ renumbered a w → IsSlim n w → is_single_value a ≡ true → IsAlone l v
renumbered_alone l (Separate ns []) v n w e f s h =
    let d : ns ≡ n = cc in
    let o = some_only ns h in
    let m = s.single o.0 (subst (λ z. IsOnly z o.0) d o.1) in
    numbers_alone_one l v w m.0 f m.1
renumbered_alone l (Separate ns (x ∷ [])) v n w e f s h =
    let d : ns ≡ n = cc in
    let p = and_parts (is_empty ns.shape) (is_some (single_of x.offsets.shape)) h in
    let k : is_empty w.shape ≡ true = s.none (subst (λ z. is_empty z.shape ≡ true) d p.0) in
    subst (IsAlone l) (sym f) (λ y z a b. single_alone l (Separate w (x ∷ [])) y z (rw (k, p.1) refl) a b)
renumbered_alone l (Separate ns (x ∷ y ∷ xs)) v n w e f s h = cc
renumbered_alone l (Mixed bs) v n w e f s h = cc

pub mix_single : (a : AVal) → numbers_in a ≡ None → is_single_value a ≡ true → ⊥
mix_single (Separate ns xs) e h = cc
mix_single (Mixed bs) e h = cc

single_plain : (a : AVal) (n : Ival) → numbers_alone a ≡ Some n → is_single_value a ≡ true → (i : ℤ) × IsOnly n i
single_plain (Separate ns []) n e h = let d : ns ≡ n = cc in subst (λ z. (i : ℤ) × IsOnly z i) d (some_only ns h)
single_plain (Separate ns (x ∷ xs)) n e h = cc
single_plain (Mixed bs) n e h = cc

pub integers_alone_one : (l : Layout) (a v : AVal) (n w : Ival) → numbers_alone a ≡ Some n → v ≡ Separate w [] → IsSlim n w → is_single_value a ≡ true → IsAlone l v
integers_alone_one l a v n w e f s h = let o = single_plain a n e h in let m = s.single o.0 o.1 in numbers_alone_one l v w m.0 f m.1

-- an address stays in a type that holds it alone
pub lost : (kind : IntKind) (m : Machine) (a : AVal) → numbers_alone a ≡ None → is_word kind m ≡ false → keeps_addresses (Integer kind) m a ≡ true → is_single_value a ≡ true → ⊥
lost kind m (Separate ns []) e f h s = cc
lost kind m (Separate ns (x ∷ xs)) e f h s = cc
lost kind m (Mixed bs) e f h s = cc

pub zero_only : (n : ℤ) → Holds (least_of (pos 0 ∷ [])) n → n ≡ pos 0
zero_only n h = elim (small_only (pos 0 ∷ []) (truth_small false true) n h) [ inl e ↦ e | inr i ↦ absurd i ]

pub truths_alone_one : (l : Layout) (a v : AVal) (n w : Ival) → numbers_alone a ≡ Some n → v ≡ Separate w [] → w ≡ truths n → is_single_number a ≡ true → IsAlone l v
truths_alone_one l a v n w e f g h x y i j = at (subst (λ z. Means l z x) f i) (subst (λ z. Means l z y) f j)
  where
    c : (k : ℤ) × IsOnly n k
    c = number_only a n h e

    truth_is : (t : ℤ) → Holds w t → t ≡ truth_number (relates rel.Ne c.0 (pos 0))
    truth_is t k =
        let r = related_only rel.Ne n (least_of (pos 0 ∷ [])) t (subst (λ z. Holds z t) g k) in
        let p : r.1.left ≡ c.0 = (c.1 r.1.left).0 r.1.in_left in
        let q : r.1.right ≡ pos 0 = zero_only r.1.right r.1.in_right in
        sym r.2 ∙ ap truth_number (sym r.1.is ∙ ap (λ z. relates rel.Ne z r.1.right) p ∙ ap (relates rel.Ne c.0) q)

    at : Means l (Separate w []) x → Means l (Separate w []) y → x ≡ y
    at (inl a) (inl b) = same_value x y (truth_is x.number a.1 ∙ sym (truth_is y.number b.1)) (a.0 ∙ sym b.0)
    at (inl a) (inr b) = absurd b
    at (inr a) b = absurd a

pub bool_plain : (m : Machine) (a : AVal) → keeps_addresses (Integer bool_kind) m a ≡ true → is_single_value a ≡ true → is_single_number a ≡ true
bool_plain Lp64 a k s = both (is_single_value a) (is_empty_list (bases_of a)) s k
  where
    both : (p q : Bool) → p ≡ true → (q || false) ≡ true → (p && q) ≡ true
    both true true e f = refl
    both true false e f = cc
    both false q e f = cc

pub converted_sole : (l : Layout) (v : AVal) (y z : Value) → Means l v y → IsAlone l v → Means l v z ↔ (z ≡ y)
converted_sole l v y z h a = ((λ k. a z y k h), (λ e. subst (Means l v) (sym e) h))
