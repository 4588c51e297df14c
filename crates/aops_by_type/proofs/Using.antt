-- Operators by types give one result alone of single values, and a kind only for a cause.
use Rattle.std.proofs.Common.{◌≡◌, ◌⊎◌, ◌↔◌, ℕ, Bool, true, false, cond, ◌||◌, ℤ, [], ◌∷◌, refl, sym, subst, ap, ◌∙◌, inl, inr, arith}
use Rattle.std.specs.Prelude.{Result, Ok, Err}
use Rattle.std.proofs.lemmas.Int.{ints}
use Rattle.c_base.specs.declared.operators.BinOp.{BinOp}
use Rattle.c_base.specs.declared.operators.BinOp.TheVariants.{Sub, Lt, Le, Gt, Ge, Eq, Ne}
use Rattle.c_base.specs.declared.integer.IntKind.{IntKind}
use Rattle.c_base.specs.declared.integer.Machine.{Machine}
use Rattle.c_base.specs.declared.kind.Kind.{Kind}
use Rattle.c_base.specs.declared.kind.Kind.TheVariants.{DivisionByZero, SignedOverflow, Shift, MemAccess, IndexBound, Initialization, DanglingPointer, PtrComparison, DifferingBlocks, Overlap, FunctionPointer, Assertion, Precondition, Postcondition}
use Rattle.c_base.specs.declared.kind.KindSet.{KindSet}
use Rattle.c_base.specs.KindSets.{allowed, no_kinds, with_kind}
use Rattle.c_memory.specs.Layouts.{Layout}
use Rattle.c_memory.specs.Values.{Value, plain}
use Rattle.c_memory.specs.Operations.{is_comparison}
use Rattle.c_pointers.specs.Pointers.{moved, moved_back, difference, are_of_one_object}
use Rattle.ival_core.specs.declared.value.Ival.{Ival}
use Rattle.ival_core.specs.Ivals.{Holds}
use Rattle.avalue_base.specs.Numbers.{is_empty, words}
use Rattle.avalue_base.specs.Values.{AVal, Separate, Mixed}
use Rattle.avalue_base.specs.Meaning.{IsWord, Means}
use Rattle.avalue_base.specs.Meets.{meet_of}
use Rattle.avalue_base.proofs.Meets.{meet_is}
use Rattle.avalue_base.proofs.Sets.{some_held}
use Rattle.aops.specs.Soles.{IsSole}
use Rattle.aops.specs.Numbers.{rel_of}
use Rattle.aops.proofs.Sorts.{none_allowed}
use Rattle.aops_pointers.specs.Moves.{moved_by}
use Rattle.aops_relations.specs.declared.comparisons.Verdict.{Verdict}
use Rattle.aops_relations.specs.Differences.{differed}
use Rattle.aops_relations.specs.Soles.{IsSoleVerdict}
use Rattle.aops_relations.proofs.Spots.{plain_none}
use Rattle.aops_relations.proofs.Comparing.{plain_apart}
use Rattle.aops_by_type.specs.declared.binary.Operand.{Operand}
use Rattle.aops_by_type.specs.declared.binary.Operand.TheVariants.{Integer, Pointer}
use Rattle.aops_by_type.specs.Typed.{is_difference, kinds_of, compared_by, value_kinds, result_of, AreTyped}
use Rattle.aops_by_type.specs.Uses.{IsMoved, AreUsed, AreUndefined, PointerCause}

-- ---- kinds

pub only_comparison : (k : Kind) → allowed (with_kind no_kinds PtrComparison) k ≡ true → k ≡ PtrComparison
only_comparison DivisionByZero e = cc
only_comparison SignedOverflow e = cc
only_comparison Shift e = cc
only_comparison MemAccess e = cc
only_comparison IndexBound e = cc
only_comparison Initialization e = cc
only_comparison DanglingPointer e = cc
only_comparison PtrComparison e = refl
only_comparison DifferingBlocks e = cc
only_comparison Overlap e = cc
only_comparison FunctionPointer e = cc
only_comparison Assertion e = cc
only_comparison Precondition e = cc
only_comparison Postcondition e = cc

pub only_differing : (k : Kind) → allowed (with_kind no_kinds DifferingBlocks) k ≡ true → k ≡ DifferingBlocks
only_differing DivisionByZero e = cc
only_differing SignedOverflow e = cc
only_differing Shift e = cc
only_differing MemAccess e = cc
only_differing IndexBound e = cc
only_differing Initialization e = cc
only_differing DanglingPointer e = cc
only_differing PtrComparison e = cc
only_differing DifferingBlocks e = refl
only_differing Overlap e = cc
only_differing FunctionPointer e = cc
only_differing Assertion e = cc
only_differing Precondition e = cc
only_differing Postcondition e = cc

-- ---- single values

-- a verdict on one step alone, with the kind that this step may have
pub verdict_sole : (l : Layout) (r : Result Value Kind) (d : Verdict) (kind : Kind) (v : AVal) (s : KindSet) → v ≡ Separate d.set [] → s ≡ kinds_of d kind → ((k : Kind) → r ≡ Err k → k ≡ kind) →
    ((k : Kind) → allowed (with_kind no_kinds kind) k ≡ true → k ≡ kind) → allowed (with_kind no_kinds kind) kind ≡ true → IsSoleVerdict l r d → IsSole l r v s
verdict_sole l r d kind v s e f own only has o = record {
  value = λ z. ((λ h. (o.value z).0 (subst (λ w. Means l w z) e h)), (λ h. subst (λ w. Means l w z) (sym e) ((o.value z).1 h)));
  kind = λ k. ((λ h. from k d.sure refl (subst (λ t. allowed t k ≡ true) f h)), (λ h. subst (λ t. allowed t k ≡ true) (sym f) (to k d.sure refl h)));
}
  where
    from : (k : Kind) (t : Bool) → d.sure ≡ t → allowed (cond t no_kinds (with_kind no_kinds kind)) k ≡ true → r ≡ Err k
    from k true g h = absurd (none_allowed no_kinds k refl h)
    from k false g h = let u = o.unsure g in u.1 ∙ ap Err (own u.0 u.1 ∙ sym (only k h))

    to : (k : Kind) (t : Bool) → d.sure ≡ t → r ≡ Err k → allowed (cond t no_kinds (with_kind no_kinds kind)) k ≡ true
    to k true g h = absurd (o.sure g k h)
    to k false g h = subst (λ z. allowed (with_kind no_kinds kind) z ≡ true) (sym (own k h)) has

-- a pointer moved by a count is one pointer alone, and always defined
pub moved_sole : (l : Layout) (w : Value) (v : AVal) (s : KindSet) → s ≡ no_kinds → ((z : Value) → Means l v z ↔ (z ≡ w)) → IsSole l (Ok w) v s
moved_sole l w v s e f = record {
  value = λ z. ((λ h. ap Ok (sym ((f z).0 h))), (λ h. (f z).1 (same z h)));
  kind = λ k. ((λ h. absurd (none_allowed s k e h)), (λ h. absurd (no k h)));
}
  where
    same : (z : Value) → ◌≡◌ {A = Result Value Kind} (Ok w) (Ok z) → z ≡ w
    same z h = cc

    no : (k : Kind) → ◌≡◌ {A = Result Value Kind} (Ok w) (Err k) → ⊥
    no k h = cc

-- ---- causes

word_is : (n : ℤ) → Holds words n → IsWord n
unfolding words
word_is n h =
    let a = h.above in
    let b = h.below in
    record { low = a; high = omega (arith, ints) }

record HasWord (ns : Ival) : Type 0 where
  number : ℤ
  held : Holds ns number
  word : IsWord number

some_word : (ns : Ival) → is_empty (meet_of ns words).shape ≡ false → HasWord ns
some_word ns e =
    let h = some_held (meet_of ns words) e in
    let p = (meet_is ns words h.0).0 h.1 in
    record { number = h.0; held = p.0; word = word_is h.0 p.1 }

neither : (a b : Bool) → (a || b) ≡ false → (a ≡ false) × (b ≡ false)
neither true b e = cc
neither false b e = (refl, e)

-- two plain pointers are of no object
apart : (l : Layout) (n m : ℤ) → are_of_one_object l (plain n) (plain m) ≡ false
apart l n m = plain_apart l (plain n) (plain m) (plain_none l (plain n) refl)

undefined : (op : BinOp) (size other : ℕ) (machine : Machine) (ns ms : Ival) (kind : Kind) → ((l : Layout) (n m : ℤ) → result_of op (Pointer size) (Pointer other) machine l (plain n) (plain m) ≡ Err kind) →
    (is_empty (meet_of ns words).shape || is_empty (meet_of ms words).shape) ≡ false → AreUndefined op size other machine ns ms kind
undefined op size other machine ns ms kind f e =
    let p = neither (is_empty (meet_of ns words).shape) (is_empty (meet_of ms words).shape) e in
    let a = some_word ns p.0 in
    let b = some_word ms p.1 in
    record { left = a.number; right = b.number; in_left = a.held; in_right = b.held; left_word = a.word; right_word = b.word; is = λ l. f l a.number b.number }

-- the kind of a verdict that isn't sure
unsure_kind : (sure : Bool) (kind k : Kind) (P : Type 0) → ((k : Kind) → allowed (with_kind no_kinds kind) k ≡ true → k ≡ kind) → (sure ≡ false → (k ≡ kind) → P) → allowed (cond sure no_kinds (with_kind no_kinds kind)) k ≡ true → P
unsure_kind true kind k P only f h = absurd (none_allowed no_kinds k refl h)
unsure_kind false kind k P only f h = f refl (only k h)

differing : (l : Layout) (size : ℕ) (n m : ℤ) → difference l size (plain n) (plain m) ≡ Err DifferingBlocks
differing l size n m = rw (apart l n m) refl

module _ (size other : ℕ) (machine : Machine) (size_of : ℕ → ℕ) (ns ms : Ival) (kind : Kind) where
  ordered : (op : BinOp) → ((l : Layout) (n m : ℤ) → result_of op (Pointer size) (Pointer other) machine l (plain n) (plain m) ≡ Err PtrComparison) →
      allowed (cond (is_empty (meet_of ns words).shape || is_empty (meet_of ms words).shape) no_kinds (with_kind no_kinds PtrComparison)) kind ≡ true → AreUndefined op size other machine ns ms kind
  ordered op f h =
      unsure_kind (is_empty (meet_of ns words).shape || is_empty (meet_of ms words).shape) PtrComparison kind (AreUndefined op size other machine ns ms kind) only_comparison
      (λ e d. undefined op size other machine ns ms kind (λ l n m. f l n m ∙ ap Err (sym d)) e) h

  numbers_cause : (op : BinOp) → (op ≡ Sub) ⊎ (is_comparison op ≡ true) → allowed (value_kinds op (Pointer size) (Pointer other) machine size_of (Separate ns []) (Separate ms [])) kind ≡ true → AreUndefined op size other machine ns ms kind
  numbers_cause Sub o h =
      unsure_kind (is_empty (meet_of ns words).shape || is_empty (meet_of ms words).shape) DifferingBlocks kind (AreUndefined Sub size other machine ns ms kind) only_differing
      (λ e d. undefined Sub size other machine ns ms kind (λ l n m. differing l size n m ∙ ap Err (sym d)) e) h
  numbers_cause Lt o h = ordered Lt (λ l n m. rw (apart l n m) refl) h
  numbers_cause Le o h = ordered Le (λ l n m. rw (apart l n m) refl) h
  numbers_cause Gt o h = ordered Gt (λ l n m. rw (apart l n m) refl) h
  numbers_cause Ge o h = ordered Ge (λ l n m. rw (apart l n m) refl) h
  numbers_cause Eq o h = absurd (none_allowed no_kinds kind refl h)
  numbers_cause Ne o h = absurd (none_allowed no_kinds kind refl h)
  numbers_cause op (inl e) h = cc
  numbers_cause op (inr e) h = cc

pub pointer_cause : (op : BinOp) (size other : ℕ) (machine : Machine) (size_of : ℕ → ℕ) (v w : AVal) (s : KindSet) (kind : Kind) → (op ≡ Sub) ⊎ (is_comparison op ≡ true) → s ≡ value_kinds op (Pointer size) (Pointer other) machine size_of v w →
    allowed s kind ≡ true → PointerCause op size other machine v w kind
pointer_cause op size other machine size_of (Separate ns []) (Separate ms []) s kind o e h = numbers_cause size other machine size_of ns ms kind op o (subst (λ t. allowed t kind ≡ true) e h)
pointer_cause op size other machine size_of (Separate ns []) (Separate ms (y ∷ ys)) s kind o e h = tt
pointer_cause op size other machine size_of (Separate ns []) (Mixed bs) s kind o e h = tt
pointer_cause op size other machine size_of (Separate ns (x ∷ xs)) w s kind o e h = tt
pointer_cause op size other machine size_of (Mixed bs) w s kind o e h = tt

-- ---- counts

moved_is : (op : BinOp) (m : Machine) (size : ℕ) (x y : Value) → Ok (moved_by (is_difference op) m size x y) ≡ cond {A = Result Value Kind} (is_difference op) (Ok (moved_back m size x y)) (Ok (moved m size x y))
moved_is op m size x y = at (is_difference op)
  where
    at : (t : Bool) → Ok (moved_by t m size x y) ≡ cond {A = Result Value Kind} t (Ok (moved_back m size x y)) (Ok (moved m size x y))
    at true = refl
    at false = refl

pub counted_sole : (op : BinOp) (left right : Operand) (size : ℕ) (k : IntKind) (m : Machine) (size_of : ℕ → ℕ) (l : Layout) (v w u : AVal) (s : KindSet) (x y : Value) → left ≡ Pointer size → right ≡ Integer k → AreUsed op left right v w x y →
    AreTyped op left right m size_of l v w x y → (l.machine ≡ m → IsMoved (is_difference op) size v w y → Means l v x → Means l w y → IsSole l (Ok (moved_by (is_difference op) m size x y)) u s) → IsSole l (result_of op left right m l x y) u s
counted_sole op left right size k m size_of l v w u s x y e f used o g =
    let a : AreTyped op (Pointer size) (Integer k) m size_of l v w x y = subst (λ r. AreTyped op (Pointer size) r m size_of l v w x y) f (subst (λ t. AreTyped op t right m size_of l v w x y) e o) in
    let b : AreUsed op (Pointer size) (Integer k) v w x y = subst (λ r. AreUsed op (Pointer size) r v w x y) f (subst (λ t. AreUsed op t right v w x y) e used) in
    let c : IsSole l (result_of op (Pointer size) (Integer k) m l x y) u s = subst (λ r. IsSole l r u s) (moved_is op m size x y) (g a.0 b a.1.0 a.1.1) in
    subst (λ t. IsSole l (result_of op t right m l x y) u s) (sym e) (subst (λ r. IsSole l (result_of op (Pointer size) r m l x y) u s) (sym f) c)

pub difference_kinds : (op : BinOp) (size other : ℕ) (m : Machine) (size_of : ℕ → ℕ) (v w : AVal) (s : KindSet) → is_difference op ≡ true → s ≡ kinds_of (differed size size_of v w) DifferingBlocks → s ≡ value_kinds op (Pointer size) (Pointer other) m size_of v w
difference_kinds op size other m size_of v w s e f = rw e f

pub comparison_kinds : (op : BinOp) (size other : ℕ) (m : Machine) (size_of : ℕ → ℕ) (v w : AVal) (s : KindSet) → is_difference op ≡ false → s ≡ kinds_of (compared_by (rel_of op) size_of v w) PtrComparison → s ≡ value_kinds op (Pointer size) (Pointer other) m size_of v w
comparison_kinds op size other m size_of v w s e f = rw e f
