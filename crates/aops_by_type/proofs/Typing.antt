-- Operators by types give what those on integers and pointers give.
use Rattle.std.proofs.Common.{◌≡◌, ◌⊎◌, ℕ, Bool, true, false, cond, refl, sym, subst, ap, ◌∙◌, inl, inr}
use Rattle.std.specs.Prelude.{None, Some, Result, Ok, Err, int_div, ◌-ℤ◌, pos}
use Rattle.c_base.specs.declared.operators.BinOp.{BinOp}
use Rattle.c_base.specs.declared.operators.BinOp.TheVariants.{Add, Sub, Mul, Div, Rem, And, Or, Xor, Shl, Shr, Lt, Le, Gt, Ge, Eq, Ne}
use Rattle.c_base.specs.declared.operators.Rel.{Rel}
use Rattle.c_base.specs.declared.operators.Rel.TheVariants as rel
use Rattle.c_base.specs.declared.integer.Machine.{Machine}
use Rattle.c_base.specs.declared.kind.Kind.{Kind}
use Rattle.c_base.specs.declared.kind.Kind.TheVariants.{PtrComparison, DifferingBlocks}
use Rattle.c_base.specs.declared.kind.KindSet.{KindSet}
use Rattle.c_base.specs.KindSets.{allowed, no_kinds, with_kind}
use Rattle.c_memory.specs.Layouts.{Layout}
use Rattle.c_base.specs.Operators.{truth_number}
use Rattle.c_memory.specs.Values.{Value, plain}
use Rattle.c_memory.specs.Operations.{is_comparison}
use Rattle.c_pointers.specs.Pointers.{moved, moved_back, compared, comparison, difference, may_compare, are_of_one_object}
use Rattle.avalue_base.specs.Values.{AVal}
use Rattle.avalue_base.specs.Meaning.{Means}
use Rattle.aops.specs.Numbers.{rel_of}
use Rattle.aops_pointers.specs.Moves.{moved_by}
use Rattle.aops_relations.specs.declared.comparisons.Verdict.{Verdict}
use Rattle.aops_relations.specs.Comparisons.{op_of}
use Rattle.c_base.specs.declared.integer.IntKind.{IntKind}
use Rattle.aops_by_type.specs.declared.binary.Operand.{Operand}
use Rattle.aops_by_type.specs.declared.binary.Operand.TheVariants.{Integer, Pointer}
use Rattle.aops_by_type.specs.Typed.{is_difference, kinds_of, AreTyped, result_of}

-- an undefined step has its kind where the verdict is not sure
pub unsure : (d : Verdict) (kind found : Kind) (s : KindSet) → s ≡ kinds_of d kind → found ≡ kind → (d.sure ≡ true → ⊥) → allowed (with_kind no_kinds kind) kind ≡ true → allowed s found ≡ true
unsure d kind found s e f n h = at d.sure refl
  where
    at : (t : Bool) → d.sure ≡ t → allowed s found ≡ true
    at true g = absurd (n g)
    at false g = ap (λ z. allowed z found) (e ∙ ap (λ z. cond z no_kinds (with_kind no_kinds kind)) g) ∙ ap (allowed (with_kind no_kinds kind)) f ∙ h

pub difference_kind : (l : Layout) (size : ℕ) (x y : Value) (kind : Kind) → difference l size x y ≡ Err kind → kind ≡ DifferingBlocks
difference_kind l size x y kind h = at (are_of_one_object l x y) h
  where
    at : (t : Bool) → cond {A = Result Value Kind} t (Ok (plain (int_div (x.number -ℤ y.number) (pos size)))) (Err DifferingBlocks) ≡ Err kind → kind ≡ DifferingBlocks
    at true k = cc
    at false k = cc

pub comparison_kind : (op : BinOp) (l : Layout) (x y : Value) (kind : Kind) → comparison op l x y ≡ Err kind → kind ≡ PtrComparison
comparison_kind op l x y kind h = at (may_compare op l x y) h
  where
    at : (t : Bool) → cond {A = Result Value Kind} t (Ok (plain (truth_number (compared op x.number y.number)))) (Err PtrComparison) ≡ Err kind → kind ≡ PtrComparison
    at true k = cc
    at false k = cc

pub same_op : (op : BinOp) (r : Rel) → rel_of op ≡ Some r → op_of r ≡ op
same_op Lt r e = let same : rel.Lt ≡ r = cc in ap op_of (sym same)
same_op Le r e = let same : rel.Le ≡ r = cc in ap op_of (sym same)
same_op Gt r e = let same : rel.Gt ≡ r = cc in ap op_of (sym same)
same_op Ge r e = let same : rel.Ge ≡ r = cc in ap op_of (sym same)
same_op Eq r e = let same : rel.Eq ≡ r = cc in ap op_of (sym same)
same_op Ne r e = let same : rel.Ne ≡ r = cc in ap op_of (sym same)
same_op Add r e = cc
same_op Sub r e = cc
same_op Mul r e = cc
same_op Div r e = cc
same_op Rem r e = cc
same_op And r e = cc
same_op Or r e = cc
same_op Xor r e = cc
same_op Shl r e = cc
same_op Shr r e = cc

pub some_rel : (op : BinOp) → is_comparison op ≡ true → rel_of op ≡ None → ⊥
some_rel Lt e f = cc
some_rel Le e f = cc
some_rel Gt e f = cc
some_rel Ge e f = cc
some_rel Eq e f = cc
some_rel Ne e f = cc
some_rel Add e f = cc
some_rel Sub e f = cc
some_rel Mul e f = cc
some_rel Div e f = cc
some_rel Rem e f = cc
some_rel And e f = cc
some_rel Or e f = cc
some_rel Xor e f = cc
some_rel Shl e f = cc
some_rel Shr e f = cc

pub not_difference : (op : BinOp) → (op ≡ Sub) ⊎ (is_comparison op ≡ true) → is_difference op ≡ false → is_comparison op ≡ true
not_difference op (inl e) f = absurd (no (is_difference op) (ap is_difference e) f)
  where
    no : (t : Bool) → t ≡ true → t ≡ false → ⊥
    no true e f = cc
    no false e f = cc
not_difference op (inr e) f = e

pub moved_result : (op : BinOp) (m : Machine) (size : ℕ) (x y z : Value) → cond {A = Result Value Kind} (is_difference op) (Ok (moved_back m size x y)) (Ok (moved m size x y)) ≡ Ok z → moved_by (is_difference op) m size x y ≡ z
moved_result op m size x y z h = at (is_difference op) h
  where
    at : (t : Bool) → cond {A = Result Value Kind} t (Ok (moved_back m size x y)) (Ok (moved m size x y)) ≡ Ok z → moved_by t m size x y ≡ z
    at true k = cc
    at false k = cc

pub moved_defined : (op : BinOp) (m : Machine) (size : ℕ) (x y : Value) (kind : Kind) → cond {A = Result Value Kind} (is_difference op) (Ok (moved_back m size x y)) (Ok (moved m size x y)) ≡ Err kind → ⊥
moved_defined op m size x y kind h = at (is_difference op) h
  where
    at : (t : Bool) → cond {A = Result Value Kind} t (Ok (moved_back m size x y)) (Ok (moved m size x y)) ≡ Err kind → ⊥
    at true k = cc
    at false k = cc

pub counted : (op : BinOp) (left right : Operand) (size : ℕ) (k : IntKind) (m : Machine) (size_of : ℕ → ℕ) (l : Layout) (v w u : AVal) (x y z : Value) → left ≡ Pointer size → right ≡ Integer k → AreTyped op left right m size_of l v w x y → result_of op left right m l x y ≡ Ok z →
    (l.machine ≡ m → Means l v x → Means l w y → Means l u (moved_by (is_difference op) m size x y)) → Means l u z
counted op left right size k m size_of l v w u x y z e f o h g =
    let a : AreTyped op (Pointer size) (Integer k) m size_of l v w x y = subst (λ r. AreTyped op (Pointer size) r m size_of l v w x y) f (subst (λ t. AreTyped op t right m size_of l v w x y) e o) in
    let b : result_of op (Pointer size) (Integer k) m l x y ≡ Ok z = subst (λ r. result_of op (Pointer size) r m l x y ≡ Ok z) f (subst (λ t. result_of op t right m l x y ≡ Ok z) e h) in
    subst (Means l u) (moved_result op m size x y z b) (g a.0 a.1.0 a.1.1)
