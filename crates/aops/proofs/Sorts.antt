-- What operators on sets of numbers answer.
use Rattle.std.proofs.Common.{◌≡◌, ◌↔◌, IsTrue, Bool, true, false, ℤ, pos, ◌/◌, List, [], ◌∷◌, refl, sym, subst, ap, ◌∙◌, inl, inr, arith}
use Rattle.std.specs.Prelude.{Some, Result, Ok, Err}
use Rattle.std.specs.List.{list_any}
use Rattle.std.proofs.lemmas.Int.{ints}
use Rattle.c_base.specs.declared.operators.BinOp.{BinOp}
use Rattle.c_base.specs.declared.operators.BinOp.TheVariants.{Add, Sub, Mul, Div, Rem, And, Or, Xor, Shl, Shr, Lt, Le, Gt, Ge, Eq, Ne}
use Rattle.c_base.specs.declared.operators.Rel.{Rel}
use Rattle.c_base.specs.declared.operators.Rel.TheVariants as rel
use Rattle.c_base.specs.declared.integer.IntKind.{IntKind}
use Rattle.c_base.specs.declared.integer.Machine.{Machine}
use Rattle.c_base.specs.declared.kind.Kind.{Kind}
use Rattle.c_base.specs.declared.kind.Kind.TheVariants.{DivisionByZero, SignedOverflow, Shift, MemAccess, IndexBound, Initialization, DanglingPointer, PtrComparison, DifferingBlocks, Overlap, FunctionPointer, Assertion, Precondition, Postcondition}
use Rattle.c_base.specs.declared.kind.KindSet.{KindSet}
use Rattle.c_base.specs.KindSets.{allowed, no_kinds}
use Rattle.c_base.specs.Operators.{applied, truth_number}
use Rattle.ival_core.specs.declared.value.Shape.TheVariants.{Few}
use Rattle.ival_core.specs.declared.value.Ival.{Ival}
use Rattle.ival_core.specs.Ivals.{Holds}
use Rattle.ival_core.specs.Ranges.{run_shape}
use Rattle.ival_core.specs.Sets.{IsNumber, Among, apart}
use Rattle.ival_arith.specs.Answers.{binary_value, binary_kinds}
use Rattle.ival_arith.specs.Promises.{relates, Compares, Gives, IsArithmetic}
use Rattle.ival_bits.specs.Bitwise.{bitwise_value}
use Rattle.ival_bits.specs.Promises.{IsBitwise, IsShift, GivesShifted}
use Rattle.ival_bits.specs.Shifts.{shift_value, shift_kinds}
use Rattle.ival_plain.proofs.Least.{least_holds}
use Rattle.avalue_base.specs.Numbers.{list_of}
use Rattle.avalue_base.specs.Meets.{least_of, set_of}
use Rattle.avalue_base.proofs.Lists.{In-any, any-In}
use Rattle.avalue_base.proofs.Sets.{held_listed, listed_held}
use Rattle.avalue_base.proofs.Meets.{set_same}
use Rattle.aops.specs.Promises.{GivesOne}
use Rattle.aops.specs.Numbers.{is_truth, may_be, truth_numbers, rel_of, truth_set, related, integer_set, integer_kinds}

-- ---- truths

pub few_same : (v : Ival) (ns : List ℤ) → v.shape ≡ Few (record { items = ns }) → v ≡ least_of ns
unfolding set_of list_of
few_same v ns e = set_same v (Few (record { items = ns })) e

pub no_truth : (v : Ival) (s t : Bool) → s ≡ false → t ≡ false → v.shape ≡ Few (record { items = [] }) → v ≡ truth_set s t
unfolding truth_set
no_truth v s t d e h = few_same v [] h ∙ ap (λ z. least_of (truth_numbers z false)) (sym d) ∙ ap (λ z. least_of (truth_numbers s z)) (sym e)

pub untruth : (v : Ival) (s t : Bool) → s ≡ false → t ≡ true → v.shape ≡ Few (record { items = pos 0 ∷ [] }) → v ≡ truth_set s t
unfolding truth_set
untruth v s t d e h = few_same v (pos 0 ∷ []) h ∙ ap (λ z. least_of (truth_numbers z true)) (sym d) ∙ ap (λ z. least_of (truth_numbers s z)) (sym e)

pub truth : (v : Ival) (s t : Bool) → s ≡ true → t ≡ false → v.shape ≡ Few (record { items = pos 1 ∷ [] }) → v ≡ truth_set s t
unfolding truth_set
truth v s t d e h = few_same v (pos 1 ∷ []) h ∙ ap (λ z. least_of (truth_numbers z false)) (sym d) ∙ ap (λ z. least_of (truth_numbers s z)) (sym e)

pub both_truths : (v : Ival) (s t : Bool) → s ≡ true → t ≡ true → v.shape ≡ run_shape (pos 0) 1 (apart (pos 0) (pos 1) / 1) → v ≡ truth_set s t
unfolding truth_set apart
both_truths v s t d e h = few_same v (pos 0 ∷ pos 1 ∷ []) h ∙ ap (λ z. least_of (truth_numbers z true)) (sym d) ∙ ap (λ z. least_of (truth_numbers s z)) (sym e)

same_bool : (a b : Bool) → (a ≡ true → b ≡ true) → (b ≡ true → a ≡ true) → a ≡ b
same_bool true b f g = sym (f refl)
same_bool false true f g = g refl
same_bool false false f g = refl

truth_is : (truth b : Bool) → b ≡ truth → is_truth truth b ≡ true
truth_is true b e = e
truth_is false true e = cc
truth_is false false e = refl

pub is_then : (truth b : Bool) → is_truth truth b ≡ true → b ≡ truth
is_then true b e = e
is_then false true e = cc
is_then false false e = refl

may_held : (r : Rel) (truth : Bool) (a b : Ival) (x y : ℤ) → Holds a x → Holds b y → relates r x y ≡ truth → may_be r truth a b ≡ true
unfolding may_be
may_held r truth a b x y h k e =
    In-any (λ x. list_any (λ y. is_truth truth (relates r x y)) (list_of b.shape)) (list_of a.shape) x (held_listed a x h)
    (In-any (λ y. is_truth truth (relates r x y)) (list_of b.shape) y (held_listed b y k) (truth_is truth (relates r x y) e))

pub compared : (r : Rel) (truth : Bool) (a b : Ival) (t : Bool) → IsTrue t ↔ Compares r a b truth → t ≡ may_be r truth a b
unfolding may_be
compared r truth a b t c =
    same_bool t (may_be r truth a b)
    (λ h. let d = c.0 h in may_held r truth a b d.left d.right d.in_left d.in_right d.is)
    (λ h.
    let x = any-In (λ x. list_any (λ y. is_truth truth (relates r x y)) (list_of b.shape)) (list_of a.shape) h in
    let y = any-In (λ y. is_truth truth (relates r x.0 y)) (list_of b.shape) x.2 in
    c.1 (record { left = x.0; right = y.0; in_left = listed_held a x.0 x.1; in_right = listed_held b y.0 y.1; is = is_then truth (relates r x.0 y.0) y.2 }))

pub related_is : (r : Rel) (a b v : Ival) (s t : Bool) → IsTrue s ↔ Compares r a b true → IsTrue t ↔ Compares r a b false → v ≡ truth_set s t → v ≡ related r a b
related_is r a b v s t c d e = e ∙ ap (λ z. truth_set z t) (compared r true a b s c) ∙ ap (truth_set (may_be r true a b)) (compared r false a b t d)

pub zero_number : IsNumber (pos 0)
zero_number = record { least = omega (arith, ints); greatest = omega (arith, ints) }

pub one_number : IsNumber (pos 1)
one_number = record { least = omega (arith, ints); greatest = omega (arith, ints) }

true_among : (b : Bool) → Among (truth_numbers true b) (pos 1)
true_among true = inr (inl refl)
true_among false = inl refl

false_among : (b : Bool) → Among (truth_numbers b true) (pos 0)
false_among true = inl refl
false_among false = inl refl

pub truth_held : (s t b : Bool) → (b ≡ true → s ≡ true) → (b ≡ false → t ≡ true) → Holds (truth_set s t) (truth_number b)
unfolding truth_set least_of
truth_held s t true f g = let e = f refl in rw e (least_holds (truth_numbers true t) (pos 1) (true_among t) one_number)
truth_held s t false f g = let e = g refl in rw e (least_holds (truth_numbers s true) (pos 0) (false_among s) zero_number)

pub related_held : (r : Rel) (a b : Ival) (x y : ℤ) → Holds a x → Holds b y → Holds (related r a b) (truth_number (relates r x y))
related_held r a b x y h k = truth_held (may_be r true a b) (may_be r false a b) (relates r x y) (λ e. may_held r true a b x y h k e) (λ e. may_held r false a b x y h k e)

-- ---- operators by their sort

pub arithmetic_set : (op : BinOp) → IsArithmetic op → (k : IntKind) (m : Machine) (a b v : Ival) → v.shape ≡ binary_value op k m a.shape b.shape → v ≡ integer_set op k m a b
unfolding integer_set
arithmetic_set Add i k m a b v e = set_same v (binary_value Add k m a.shape b.shape) e
arithmetic_set Sub i k m a b v e = set_same v (binary_value Sub k m a.shape b.shape) e
arithmetic_set Mul i k m a b v e = set_same v (binary_value Mul k m a.shape b.shape) e
arithmetic_set Div i k m a b v e = set_same v (binary_value Div k m a.shape b.shape) e
arithmetic_set Rem i k m a b v e = set_same v (binary_value Rem k m a.shape b.shape) e
arithmetic_set op i k m a b v e = absurd i

pub arithmetic_kinds : (op : BinOp) → IsArithmetic op → (k : IntKind) (m : Machine) (a b : Ival) (s : KindSet) → s ≡ binary_kinds op k m a.shape b.shape → s ≡ integer_kinds op k m a b
unfolding integer_kinds
arithmetic_kinds Add i k m a b s e = e
arithmetic_kinds Sub i k m a b s e = e
arithmetic_kinds Mul i k m a b s e = e
arithmetic_kinds Div i k m a b s e = e
arithmetic_kinds Rem i k m a b s e = e
arithmetic_kinds op i k m a b s e = absurd i

pub to_gives : (op : BinOp) → IsArithmetic op → (k : IntKind) (m : Machine) (a b : Ival) (r : Result ℤ Kind) → GivesOne op k m a b r → Gives op k m a b r
to_gives Add i k m a b r g = record { left = g.left; right = g.right; in_left = g.in_left; in_right = g.in_right; fits_left = g.fits_left; fits_right = g.fits_right; is = g.is }
to_gives Sub i k m a b r g = record { left = g.left; right = g.right; in_left = g.in_left; in_right = g.in_right; fits_left = g.fits_left; fits_right = g.fits_right; is = g.is }
to_gives Mul i k m a b r g = record { left = g.left; right = g.right; in_left = g.in_left; in_right = g.in_right; fits_left = g.fits_left; fits_right = g.fits_right; is = g.is }
to_gives Div i k m a b r g = record { left = g.left; right = g.right; in_left = g.in_left; in_right = g.in_right; fits_left = g.fits_left; fits_right = g.fits_right; is = g.is }
to_gives Rem i k m a b r g = record { left = g.left; right = g.right; in_left = g.in_left; in_right = g.in_right; fits_left = g.fits_left; fits_right = g.fits_right; is = g.is }
to_gives op i k m a b r g = absurd i

pub from_gives : (op : BinOp) → IsArithmetic op → (k : IntKind) (m : Machine) (a b : Ival) (r : Result ℤ Kind) → Gives op k m a b r → GivesOne op k m a b r
from_gives Add i k m a b r g = record { left = g.left; right = g.right; in_left = g.in_left; in_right = g.in_right; fits_left = g.fits_left; fits_right = g.fits_right; is = g.is }
from_gives Sub i k m a b r g = record { left = g.left; right = g.right; in_left = g.in_left; in_right = g.in_right; fits_left = g.fits_left; fits_right = g.fits_right; is = g.is }
from_gives Mul i k m a b r g = record { left = g.left; right = g.right; in_left = g.in_left; in_right = g.in_right; fits_left = g.fits_left; fits_right = g.fits_right; is = g.is }
from_gives Div i k m a b r g = record { left = g.left; right = g.right; in_left = g.in_left; in_right = g.in_right; fits_left = g.fits_left; fits_right = g.fits_right; is = g.is }
from_gives Rem i k m a b r g = record { left = g.left; right = g.right; in_left = g.in_left; in_right = g.in_right; fits_left = g.fits_left; fits_right = g.fits_right; is = g.is }
from_gives op i k m a b r g = absurd i

pub bitwise_set : (op : BinOp) → IsBitwise op → (k : IntKind) (m : Machine) (a b v : Ival) → v.shape ≡ bitwise_value op k m a.shape b.shape → v ≡ integer_set op k m a b
unfolding integer_set
bitwise_set And i k m a b v e = set_same v (bitwise_value And k m a.shape b.shape) e
bitwise_set Or i k m a b v e = set_same v (bitwise_value Or k m a.shape b.shape) e
bitwise_set Xor i k m a b v e = set_same v (bitwise_value Xor k m a.shape b.shape) e
bitwise_set op i k m a b v e = absurd i

pub bitwise_kinds : (op : BinOp) → IsBitwise op → (k : IntKind) (m : Machine) (a b : Ival) (s : KindSet) → s ≡ no_kinds → s ≡ integer_kinds op k m a b
unfolding integer_kinds
bitwise_kinds And i k m a b s e = e
bitwise_kinds Or i k m a b s e = e
bitwise_kinds Xor i k m a b s e = e
bitwise_kinds op i k m a b s e = absurd i

pub to_bits : (op : BinOp) → IsBitwise op → (k : IntKind) (m : Machine) (a b : Ival) (r : Result ℤ Kind) → GivesOne op k m a b r → Gives op k m a b r
to_bits And i k m a b r g = record { left = g.left; right = g.right; in_left = g.in_left; in_right = g.in_right; fits_left = g.fits_left; fits_right = g.fits_right; is = g.is }
to_bits Or i k m a b r g = record { left = g.left; right = g.right; in_left = g.in_left; in_right = g.in_right; fits_left = g.fits_left; fits_right = g.fits_right; is = g.is }
to_bits Xor i k m a b r g = record { left = g.left; right = g.right; in_left = g.in_left; in_right = g.in_right; fits_left = g.fits_left; fits_right = g.fits_right; is = g.is }
to_bits op i k m a b r g = absurd i

pub from_bits : (op : BinOp) → IsBitwise op → (k : IntKind) (m : Machine) (a b : Ival) (r : Result ℤ Kind) → Gives op k m a b r → GivesOne op k m a b r
from_bits And i k m a b r g = record { left = g.left; right = g.right; in_left = g.in_left; in_right = g.in_right; fits_left = g.fits_left; fits_right = g.fits_right; is = g.is }
from_bits Or i k m a b r g = record { left = g.left; right = g.right; in_left = g.in_left; in_right = g.in_right; fits_left = g.fits_left; fits_right = g.fits_right; is = g.is }
from_bits Xor i k m a b r g = record { left = g.left; right = g.right; in_left = g.in_left; in_right = g.in_right; fits_left = g.fits_left; fits_right = g.fits_right; is = g.is }
from_bits op i k m a b r g = absurd i

pub shift_set : (op : BinOp) → IsShift op → (k : IntKind) (m : Machine) (a b v : Ival) → v.shape ≡ shift_value op k m a.shape b.shape → v ≡ integer_set op k m a b
unfolding integer_set
shift_set Shl i k m a b v e = set_same v (shift_value Shl k m a.shape b.shape) e
shift_set Shr i k m a b v e = set_same v (shift_value Shr k m a.shape b.shape) e
shift_set op i k m a b v e = absurd i

pub shifted_kinds : (op : BinOp) → IsShift op → (k : IntKind) (m : Machine) (a b : Ival) (s : KindSet) → s ≡ shift_kinds op k m a.shape b.shape → s ≡ integer_kinds op k m a b
unfolding integer_kinds
shifted_kinds Shl i k m a b s e = e
shifted_kinds Shr i k m a b s e = e
shifted_kinds op i k m a b s e = absurd i

pub to_shift : (op : BinOp) → IsShift op → (k : IntKind) (m : Machine) (a b : Ival) (r : Result ℤ Kind) → GivesOne op k m a b r → GivesShifted op k m a b r
to_shift op i k m a b r g = record { left = g.left; count = g.right; in_left = g.in_left; in_counts = g.in_right; fits_left = g.fits_left; is = g.is }

pub from_shift : (op : BinOp) → IsShift op → (k : IntKind) (m : Machine) (a b : Ival) (r : Result ℤ Kind) → GivesShifted op k m a b r → GivesOne op k m a b r
from_shift Shl i k m a b r g = record { left = g.left; right = g.count; in_left = g.in_left; in_right = g.in_counts; fits_left = g.fits_left; fits_right = tt; is = g.is }
from_shift Shr i k m a b r g = record { left = g.left; right = g.count; in_left = g.in_left; in_right = g.in_counts; fits_left = g.fits_left; fits_right = tt; is = g.is }
from_shift op i k m a b r g = absurd i

-- ---- relations

pub applied_relation : (op : BinOp) (r : Rel) → rel_of op ≡ Some r → (k : IntKind) (m : Machine) (x y : ℤ) → applied op k m x y ≡ Ok (truth_number (relates r x y))
applied_relation Lt r e k m x y = let d : rel.Lt ≡ r = cc in ap (λ z. Ok (truth_number (relates z x y))) d
applied_relation Le r e k m x y = let d : rel.Le ≡ r = cc in ap (λ z. Ok (truth_number (relates z x y))) d
applied_relation Gt r e k m x y = let d : rel.Gt ≡ r = cc in ap (λ z. Ok (truth_number (relates z x y))) d
applied_relation Ge r e k m x y = let d : rel.Ge ≡ r = cc in ap (λ z. Ok (truth_number (relates z x y))) d
applied_relation Eq r e k m x y = let d : rel.Eq ≡ r = cc in ap (λ z. Ok (truth_number (relates z x y))) d
applied_relation Ne r e k m x y = let d : rel.Ne ≡ r = cc in ap (λ z. Ok (truth_number (relates z x y))) d
applied_relation op r e k m x y = cc

pub relation_set : (op : BinOp) (r : Rel) → rel_of op ≡ Some r → (k : IntKind) (m : Machine) (a b v : Ival) → v ≡ related r a b → v ≡ integer_set op k m a b
unfolding integer_set
relation_set Lt r e k m a b v h = let d : r ≡ rel.Lt = cc in h ∙ ap (λ z. related z a b) d
relation_set Le r e k m a b v h = let d : r ≡ rel.Le = cc in h ∙ ap (λ z. related z a b) d
relation_set Gt r e k m a b v h = let d : r ≡ rel.Gt = cc in h ∙ ap (λ z. related z a b) d
relation_set Ge r e k m a b v h = let d : r ≡ rel.Ge = cc in h ∙ ap (λ z. related z a b) d
relation_set Eq r e k m a b v h = let d : r ≡ rel.Eq = cc in h ∙ ap (λ z. related z a b) d
relation_set Ne r e k m a b v h = let d : r ≡ rel.Ne = cc in h ∙ ap (λ z. related z a b) d
relation_set op r e k m a b v h = cc

pub relation_kinds : (op : BinOp) (r : Rel) → rel_of op ≡ Some r → (k : IntKind) (m : Machine) (a b : Ival) (s : KindSet) → s ≡ no_kinds → s ≡ integer_kinds op k m a b
unfolding integer_kinds
relation_kinds Lt r e k m a b s h = h
relation_kinds Le r e k m a b s h = h
relation_kinds Gt r e k m a b s h = h
relation_kinds Ge r e k m a b s h = h
relation_kinds Eq r e k m a b s h = h
relation_kinds Ne r e k m a b s h = h
relation_kinds op r e k m a b s h = cc

pub relation_held : (op : BinOp) (r : Rel) → rel_of op ≡ Some r → (k : IntKind) (m : Machine) (a b v : Ival) → v ≡ related r a b → (n : ℤ) → GivesOne op k m a b (Ok n) → Holds v n
relation_held op r e k m a b v h n g =
    let d : truth_number (relates r g.left g.right) ≡ n = same (sym (applied_relation op r e k m g.left g.right) ∙ g.is) in
    subst (λ w. Holds w n) (sym h) (subst (Holds (related r a b)) d (related_held r a b g.left g.right g.in_left g.in_right))
  where
    same : {x y : ℤ} → ◌≡◌ {A = Result ℤ Kind} (Ok x) (Ok y) → x ≡ y
    same h = cc

pub relation_defined : (op : BinOp) (r : Rel) → rel_of op ≡ Some r → (k : IntKind) (m : Machine) (a b : Ival) (kind : Kind) → GivesOne op k m a b (Err kind) → ⊥
relation_defined op r e k m a b kind g = other (sym (applied_relation op r e k m g.left g.right) ∙ g.is)
  where
    other : {x : ℤ} → ◌≡◌ {A = Result ℤ Kind} (Ok x) (Err kind) → ⊥
    other h = cc

none_of : (kind : Kind) → allowed no_kinds kind ≡ false
none_of DivisionByZero = refl
none_of SignedOverflow = refl
none_of Shift = refl
none_of MemAccess = refl
none_of IndexBound = refl
none_of Initialization = refl
none_of DanglingPointer = refl
none_of PtrComparison = refl
none_of DifferingBlocks = refl
none_of Overlap = refl
none_of FunctionPointer = refl
none_of Assertion = refl
none_of Precondition = refl
none_of Postcondition = refl

pub none_allowed : (s : KindSet) (kind : Kind) → s ≡ no_kinds → allowed s kind ≡ true → ⊥
none_allowed s kind e h = no (allowed no_kinds kind) (none_of kind) (subst (λ z. allowed z kind ≡ true) e h)
  where
    no : (b : Bool) → b ≡ false → b ≡ true → ⊥
    no true f t = cc
    no false f t = cc

pub zero_set : (v : Ival) → v.shape ≡ Few (record { items = pos 0 ∷ [] }) → v ≡ least_of (pos 0 ∷ [])
zero_set v e = few_same v (pos 0 ∷ []) e
