-- Operators on numbers hold few others, and of single numbers the one result alone.
use Rattle.std.proofs.Common.{◌≡◌, ◌⊎◌, Bool, true, false, ℤ, ◌+ℤ◌, ◌-ℤ◌, List, [], ◌∷◌, refl, sym, subst, ap, ◌∙◌, inl, inr, arith}
use Rattle.std.specs.Prelude.{None, Some, Ok}
use Rattle.std.specs.List.{list_any}
use Rattle.std.proofs.lemmas.Int.{ints}
use Rattle.c_base.specs.declared.operators.BinOp.{BinOp}
use Rattle.c_base.specs.declared.operators.BinOp.TheVariants.{Add, Sub, Mul, Div, Rem, And, Or, Xor, Shl, Shr, Lt, Le, Gt, Ge, Eq, Ne}
use Rattle.c_base.specs.declared.operators.Rel.{Rel}
use Rattle.c_base.specs.declared.integer.IntKind.{IntKind}
use Rattle.c_base.specs.declared.integer.Machine.{Machine}
use Rattle.c_base.specs.Integers.{is_signed, width_of, FitsKind}
use Rattle.c_base.specs.Operators.{truth_number, OnRight}
use Rattle.ival_core.specs.declared.value.Shape.TheVariants.{Few}
use Rattle.ival_core.specs.declared.value.Ival.{Ival}
use Rattle.ival_core.specs.Ivals.{Holds}
use Rattle.ival_core.specs.Sets.{IsLeast, HoldsNine, Among, IsSmallSet}
use Rattle.ival_core.proofs.Insertion.{IsLeast-same}
use Rattle.ival_core.proofs.Joined.{HoldsNine-map}
use Rattle.ival_arith.specs.Answers.{typed}
use Rattle.ival_arith.specs.Promises.{Gives, IsArithmetic, IsSharp, AllInRange, InType, relates}
use Rattle.ival_bits.specs.Promises.{IsBitwise, IsShift, GivesShifted, IsSharp as AreSharpBits}
use Rattle.avalue_base.specs.Numbers.{list_of}
use Rattle.avalue_base.specs.Values.{AVal, Separate, Mixed}
use Rattle.avalue_base.specs.Meets.{least_of}
use Rattle.avalue_base.proofs.Lists.{any-In}
use Rattle.avalue_base.proofs.Sets.{listed_held}
use Rattle.avalue_values.specs.Views.{numbers_alone}
use Rattle.aops.specs.Promises.{GivesOne, IsSharpOn, IsNarrow}
use Rattle.aops.specs.Numbers.{is_truth, may_be, truth_numbers, rel_of, truth_set, related}
use Rattle.aops.specs.Soles.{NarrowValue}
use Rattle.aops.proofs.Sorts.{to_gives, from_gives, from_bits, from_shift, applied_relation, is_then, few_same, zero_number, one_number}

-- ---- operators by their sort

pub narrow_arithmetic : (op : BinOp) → IsArithmetic op → (k : IntKind) (m : Machine) (a b v : Ival) →
    (IsSharp op (is_signed k) (width_of k m) (typed (is_signed k) (width_of k m) a.shape) (typed (is_signed k) (width_of k m) b.shape) → (HoldsNine (λ n. Gives op k m a b (Ok n)) → ⊥) → (n : ℤ) → Holds v n → Gives op k m a b (Ok n)) →
    (op ≡ Add → AllInRange (λ x y. x +ℤ y) k m a b → IsLeast (λ n. Gives op k m a b (Ok n)) v.shape) →
    (op ≡ Sub → AllInRange (λ x y. x -ℤ y) k m a b → IsLeast (λ n. Gives op k m a b (Ok n)) v.shape) → IsNarrow op k m a b v
narrow_arithmetic op i k m a b v e f g = record {
  exact = λ s few n h. from_gives op i k m a b (Ok n) (e (sharp op i s) (λ nine. few (HoldsNine-map (λ n. Gives op k m a b (Ok n)) (λ n. GivesOne op k m a b (Ok n)) (λ n h. from_gives op i k m a b (Ok n) h) nine)) n h);
  least_sum = λ d r. IsLeast-same (λ n. Gives op k m a b (Ok n)) (λ n. GivesOne op k m a b (Ok n)) v.shape (λ n h. from_gives op i k m a b (Ok n) h) (λ n h. to_gives op i k m a b (Ok n) h) (f d r);
  least_difference = λ d r. IsLeast-same (λ n. Gives op k m a b (Ok n)) (λ n. GivesOne op k m a b (Ok n)) v.shape (λ n h. from_gives op i k m a b (Ok n) h) (λ n h. to_gives op i k m a b (Ok n) h) (g d r);
}
  where
    sharp : (op : BinOp) → IsArithmetic op → IsSharpOn op k m a b → IsSharp op (is_signed k) (width_of k m) (typed (is_signed k) (width_of k m) a.shape) (typed (is_signed k) (width_of k m) b.shape)
    sharp Add i s = s
    sharp Sub i s = s
    sharp Mul i s = s
    sharp Div i s = s
    sharp Rem i s = s
    sharp op i s = absurd i

no_sum : (op : BinOp) → IsBitwise op ⊎ IsShift op → (op ≡ Add) ⊎ (op ≡ Sub) → ⊥
no_sum Add i e = elim i [ inl b ↦ b | inr b ↦ b ]
no_sum Sub i e = elim i [ inl b ↦ b | inr b ↦ b ]
no_sum Mul i e = elim i [ inl b ↦ b | inr b ↦ b ]
no_sum op i (inl e) = cc
no_sum op i (inr e) = cc

pub narrow_bitwise : (op : BinOp) → IsBitwise op → (k : IntKind) (m : Machine) (a b v : Ival) →
    (AreSharpBits op (is_signed k) (width_of k m) (typed (is_signed k) (width_of k m) a.shape) (typed (is_signed k) (width_of k m) b.shape) → (HoldsNine (λ n. Gives op k m a b (Ok n)) → ⊥) → (n : ℤ) → Holds v n → Gives op k m a b (Ok n)) → IsNarrow op k m a b v
narrow_bitwise op i k m a b v e = record {
  exact = λ s few n h. from_bits op i k m a b (Ok n) (e (sharp op i s) (λ nine. few (HoldsNine-map (λ n. Gives op k m a b (Ok n)) (λ n. GivesOne op k m a b (Ok n)) (λ n h. from_bits op i k m a b (Ok n) h) nine)) n h);
  least_sum = λ d r. absurd (no_sum op (inl i) (inl d));
  least_difference = λ d r. absurd (no_sum op (inl i) (inr d));
}
  where
    sharp : (op : BinOp) → IsBitwise op → IsSharpOn op k m a b → AreSharpBits op (is_signed k) (width_of k m) (typed (is_signed k) (width_of k m) a.shape) (typed (is_signed k) (width_of k m) b.shape)
    sharp And i s = s
    sharp Or i s = s
    sharp Xor i s = s
    sharp op i s = absurd i

pub narrow_shift : (op : BinOp) → IsShift op → (k : IntKind) (m : Machine) (a b v : Ival) →
    ((HoldsNine (λ n. GivesShifted op k m a b (Ok n)) → ⊥) → (n : ℤ) → Holds v n → GivesShifted op k m a b (Ok n)) → IsNarrow op k m a b v
narrow_shift op i k m a b v e = record {
  exact = λ s few n h. from_shift op i k m a b (Ok n) (e (λ nine. few (HoldsNine-map (λ n. GivesShifted op k m a b (Ok n)) (λ n. GivesOne op k m a b (Ok n)) (λ n h. from_shift op i k m a b (Ok n) h) nine)) n h);
  least_sum = λ d r. absurd (no_sum op (inr i) (inl d));
  least_difference = λ d r. absurd (no_sum op (inr i) (inr d));
}

-- ---- relations

-- a number of a and one of b have this truth
pub record Truly (r : Rel) (truth : Bool) (a b : Ival) : Type 0 where
  pub left : ℤ
  pub right : ℤ
  pub in_left : Holds a left
  pub in_right : Holds b right
  pub is : relates r left right ≡ truth

truly : (r : Rel) (truth : Bool) (a b : Ival) → may_be r truth a b ≡ true → Truly r truth a b
unfolding may_be
truly r truth a b h =
    let x = any-In (λ x. list_any (λ y. is_truth truth (relates r x y)) (list_of b.shape)) (list_of a.shape) h in
    let y = any-In (λ y. is_truth truth (relates r x.0 y)) (list_of b.shape) x.2 in
    record { left = x.0; right = y.0; in_left = listed_held a x.0 x.1; in_right = listed_held b y.0 y.1; is = is_then truth (relates r x.0 y.0) y.2 }

-- the least set of at most 8 numbers has no other
pub small_only : (ns : List ℤ) → IsSmallSet ns → (n : ℤ) → Holds (least_of ns) n → Among ns n
small_only ns s n h =
    let v : Ival = record { shape = Few (record { items = ns }); valid = s } in
    subst (λ z. Holds z n) (sym (few_same v ns refl)) h

pub truth_small : (s t : Bool) → IsSmallSet (truth_numbers s t)
truth_small false false = record { small = omega arith; ascending = tt; numbers = tt }
truth_small false true = record { small = omega arith; ascending = (tt, tt); numbers = (zero_number, tt) }
truth_small true false = record { small = omega arith; ascending = (tt, tt); numbers = (one_number, tt) }
truth_small true true = record { small = omega arith; ascending = ((omega (arith, ints), tt), (tt, tt)); numbers = (zero_number, (one_number, tt)) }

-- a truth that is held may be
pub truth_only : (s t : Bool) (n : ℤ) → Holds (truth_set s t) n → ((s ≡ true) × (truth_number true ≡ n)) ⊎ ((t ≡ true) × (truth_number false ≡ n))
unfolding truth_set
truth_only s t n h = at s t (small_only (truth_numbers s t) (truth_small s t) n h)
  where
    at : (s t : Bool) → Among (truth_numbers s t) n → ((s ≡ true) × (truth_number true ≡ n)) ⊎ ((t ≡ true) × (truth_number false ≡ n))
    at false false i = absurd i
    at false true (inl e) = inr (refl, sym e)
    at false true (inr i) = absurd i
    at true false (inl e) = inl (refl, sym e)
    at true false (inr i) = absurd i
    at true true (inl e) = inr (refl, sym e)
    at true true (inr (inl e)) = inl (refl, sym e)
    at true true (inr (inr i)) = absurd i

pub related_only : (r : Rel) (a b : Ival) (n : ℤ) → Holds (related r a b) n → (truth : Bool) × Truly r truth a b × (truth_number truth ≡ n)
related_only r a b n h =
    elim (truth_only (may_be r true a b) (may_be r false a b) n h) [
      | inl p ↦ (true, truly r true a b p.0, p.1)
      | inr p ↦ (false, truly r false a b p.0, p.1)
    ]

on_right : (op : BinOp) (P : ℤ → Type 0) (n : ℤ) → P n → OnRight op P n
on_right Shl P n h = tt
on_right Shr P n h = tt
on_right op P n h = h

pub narrow_relation : (op : BinOp) (r : Rel) → rel_of op ≡ Some r → (k : IntKind) (m : Machine) (a b v : Ival) → v ≡ related r a b → IsNarrow op k m a b v
narrow_relation op r e k m a b v h = record {
  exact = λ s few n i. at n (typed_in op e s) (related_only r a b n (subst (λ z. Holds z n) h i));
  least_sum = λ d t. absurd (no op e (inl d));
  least_difference = λ d t. absurd (no op e (inr d));
}
  where
    no : (op : BinOp) → rel_of op ≡ Some r → (op ≡ Add) ⊎ (op ≡ Sub) → ⊥
    no Add f d = cc
    no Sub f d = cc
    no op f (inl d) = cc
    no op f (inr d) = cc

    typed_in : (op : BinOp) → rel_of op ≡ Some r → IsSharpOn op k m a b → InType (is_signed k) (width_of k m) a × InType (is_signed k) (width_of k m) b
    typed_in Lt f s = s
    typed_in Le f s = s
    typed_in Gt f s = s
    typed_in Ge f s = s
    typed_in Eq f s = s
    typed_in Ne f s = s
    typed_in op f s = cc

    at : (n : ℤ) → InType (is_signed k) (width_of k m) a × InType (is_signed k) (width_of k m) b → (truth : Bool) × Truly r truth a b × (truth_number truth ≡ n) → GivesOne op k m a b (Ok n)
    at n s (truth, t, f) = record {
      left = t.left;
      right = t.right;
      in_left = t.in_left;
      in_right = t.in_right;
      fits_left = s.0.fits t.left t.in_left;
      fits_right = on_right op (FitsKind k m) t.right (s.1.fits t.right t.in_right);
      is = applied_relation op r e k m t.left t.right ∙ ap (λ z. Ok (truth_number z)) t.is ∙ ap Ok f;
    }

-- ---- values

pub narrow_value : (op : BinOp) (k : IntKind) (m : Machine) (v w u : AVal) (a b s : Ival) → numbers_alone v ≡ Some a → numbers_alone w ≡ Some b → u ≡ Separate s [] → IsNarrow op k m a b s → NarrowValue op k m v w u
narrow_value op k m (Separate ns []) (Separate ms []) u a b s e f g h =
    let d : a ≡ ns = cc in
    let i : b ≡ ms = cc in
    subst (NarrowValue op k m (Separate ns []) (Separate ms [])) (sym g) (subst (λ z. IsNarrow op k m ns z s) i (subst (λ z. IsNarrow op k m z b s) d h))
narrow_value op k m (Separate ns []) (Separate ms (y ∷ ys)) u a b s e f g h = tt
narrow_value op k m (Separate ns []) (Mixed bs) u a b s e f g h = tt
narrow_value op k m (Separate ns (x ∷ xs)) w u a b s e f g h = tt
narrow_value op k m (Mixed bs) w u a b s e f g h = tt

pub any_narrow_left : (op : BinOp) (k : IntKind) (m : Machine) (v w u : AVal) → numbers_alone v ≡ None → NarrowValue op k m v w u
any_narrow_left op k m (Separate ns []) w u e = cc
any_narrow_left op k m (Separate ns (x ∷ xs)) w u e = tt
any_narrow_left op k m (Mixed bs) w u e = tt

pub any_narrow_right : (op : BinOp) (k : IntKind) (m : Machine) (v w u : AVal) (n : Ival) → numbers_alone v ≡ Some n → numbers_alone w ≡ None → NarrowValue op k m v w u
any_narrow_right op k m (Separate ns []) (Separate ms []) u n e f = cc
any_narrow_right op k m (Separate ns []) (Separate ms (y ∷ ys)) u n e f = tt
any_narrow_right op k m (Separate ns []) (Mixed cs) u n e f = tt
any_narrow_right op k m (Separate ns (x ∷ xs)) w u n e f = cc
any_narrow_right op k m (Mixed bs) w u n e f = cc
