-- Single values mean one value alone, and operators on single numbers give one result alone.
use Rattle.std.proofs.Common.{◌≡◌, ◌↔◌, IsTrue, ℕ, ◌<◌, ◌^◌, Bool, true, false, ◌&&◌, ℤ, pos, ◌+ℤ◌, List, [], ◌∷◌, length, refl, sym, subst, ap, ◌∙◌, inl, inr, arith}
use Rattle.std.specs.Prelude.{Option, None, Some, Result, Ok, Err, is_some}
use Rattle.std.proofs.lemmas.Bool.{and_parts}
use Rattle.std.proofs.lemmas.Int.{ints}
use lib.Signed.{◌<ℤ◌}
use Rattle.c_base.specs.declared.operators.BinOp.{BinOp}
use Rattle.c_base.specs.declared.operators.BinOp.TheVariants.{Add, Sub, Mul, Div, Rem, And, Or, Xor, Shl, Shr}
use Rattle.c_base.specs.declared.integer.IntKind.{IntKind}
use Rattle.c_base.specs.declared.integer.Machine.{Machine}
use Rattle.c_base.specs.declared.kind.Kind.{Kind}
use Rattle.c_base.specs.declared.kind.KindSet.{KindSet}
use Rattle.c_base.specs.KindSets.{allowed}
use Rattle.c_base.specs.Integers.{residue, is_signed, width_of, FitsBits, FitsKind}
use Rattle.c_base.specs.Operators.{applied, OnRight}
use Rattle.c_memory.specs.Values.{Value, Provenance, nowhere}
use Rattle.c_memory.specs.Layouts.{Layout}
use Rattle.c_memory.specs.Operations.{is_comparison, provenance_after, made_from, applied_to}
use Rattle.ival_core.specs.declared.value.Shape.{Shape}
use Rattle.ival_core.specs.declared.value.Shape.TheVariants.{Few, Many}
use Rattle.ival_core.specs.declared.value.Ival.{Ival}
use Rattle.ival_core.specs.Ivals.{Holds, IsOnly}
use Rattle.ival_core.specs.Sets.{Has, IsValid, HoldsNine, Among, IsAscending}
use Rattle.ival_core.specs.Views.{single_of}
use Rattle.ival_core.proofs.Runs.{Steps-low, Steps-second}
use Rattle.ival_arith.specs.Answers.{typed}
use Rattle.ival_arith.specs.Promises.{IsSharp, InType}
use Rattle.ival_arith.proofs.Answering.{typed-ranged, width_is}
use Rattle.ival_bits.specs.Promises.{IsSharp as AreSharpBits}
use Rattle.avalue_base.specs.Numbers.{is_empty}
use Rattle.avalue_base.specs.Values.{AVal, Separate, Mixed}
use Rattle.avalue_base.specs.Hues.{pointer_bits}
use Rattle.avalue_base.specs.Meaning.{Means}
use Rattle.avalue_base.specs.Singles.{is_single_value}
use Rattle.avalue_base.proofs.Sets.{single_only, empty_none}
use Rattle.avalue_values.specs.Views.{numbers_alone}
use Rattle.aops.specs.Promises.{GivesOne, IsSharpOn, IsNarrow}
use Rattle.aops.specs.Integers.{AreOperands}
use Rattle.aops.specs.Soles.{is_single_number, IsSole}
use Rattle.aops.proofs.Giving.{means_alone, numbers_hold, undefined_numbers, plain_after}

-- ---- single values

pub same_value : (x y : Value) → x.number ≡ y.number → x.provenance ≡ y.provenance → x ≡ y
same_value x y e f = ap (λ n. record { number = n; provenance = x.provenance }) e ∙ ap (λ p. record { number = y.number; provenance = p }) f

pub some_only : (v : Ival) → is_some (single_of v.shape) ≡ true → (n : ℤ) × IsOnly v n
some_only v h = at (single_of v.shape) refl h
  where
    at : (o : Option ℤ) → single_of v.shape ≡ o → is_some o ≡ true → (n : ℤ) × IsOnly v n
    at None e t = cc
    at (Some n) e t = (n, single_only v n e)

pub one_alone : (v : Ival) (n i j : ℤ) → IsOnly v n → Holds v i → Holds v j → i ≡ j
one_alone v n i j o h k = (o i).0 h ∙ sym ((o j).0 k)

pub single_alone : (l : Layout) (v : AVal) (x y : Value) → is_single_value v ≡ true → Means l v x → Means l v y → x ≡ y
single_alone l (Separate ns []) x y h (inl a) (inl b) = let o = some_only ns h in same_value x y (one_alone ns o.0 x.number y.number o.1 a.1 b.1) (a.0 ∙ sym b.0)
single_alone l (Separate ns []) x y h (inl a) (inr b) = absurd b
single_alone l (Separate ns []) x y h (inr a) b = absurd a
single_alone l (Separate ns (z ∷ [])) x y h (inl a) b = absurd (empty_none ns x.number (and_parts (is_empty ns.shape) (is_some (single_of z.offsets.shape)) h).0 a.1)
single_alone l (Separate ns (z ∷ [])) x y h (inr a) (inl b) = absurd (empty_none ns y.number (and_parts (is_empty ns.shape) (is_some (single_of z.offsets.shape)) h).0 b.1)
single_alone l (Separate ns (z ∷ [])) x y h (inr (inr a)) (inr b) = absurd a
single_alone l (Separate ns (z ∷ [])) x y h (inr (inl a)) (inr (inr b)) = absurd b
single_alone l (Separate ns (z ∷ [])) x y h (inr (inl a)) (inr (inl b)) =
    let o = some_only z.offsets (and_parts (is_empty ns.shape) (is_some (single_of z.offsets.shape)) h).1 in
    let e = one_alone z.offsets o.0 a.offset b.offset o.1 a.held b.held in
    same_value x y (a.number ∙ ap (λ i. pos (residue (2 ^ pointer_bits l.machine) (pos (l.address z.base) +ℤ i))) e ∙ sym b.number) (a.provenance ∙ sym b.provenance)
single_alone l (Separate ns (z ∷ t ∷ zs)) x y h a b = cc
single_alone l (Mixed bs) x y h a b = cc

-- a single number's set
pub number_only : (v : AVal) (n : Ival) → is_single_number v ≡ true → numbers_alone v ≡ Some n → (i : ℤ) × IsOnly n i
number_only (Separate ns []) n h e =
    let d : ns ≡ n = cc in
    subst (λ z. (i : ℤ) × IsOnly z i) d (some_only ns (and_parts (is_some (single_of ns.shape)) true h).0)
number_only (Separate ns (x ∷ [])) n h e = cc
number_only (Separate ns (x ∷ y ∷ xs)) n h e = cc
number_only (Mixed bs) n h e = cc

pub single_numbers : (v : AVal) → is_single_number v ≡ true → numbers_alone v ≡ None → ⊥
single_numbers (Separate ns []) h e = cc
single_numbers (Separate ns (x ∷ xs)) h e = absurd (at (is_single_value (Separate ns (x ∷ xs))) h)
  where
    at : (b : Bool) → (b && false) ≡ true → ⊥
    at true f = cc
    at false f = cc
single_numbers (Mixed bs) h e = cc

-- ---- sets of few numbers

abbrev IsFew : Shape → Type 0
IsFew (Few v) = Unit {0}
IsFew (Many p) = ⊥

is_few : (s : Shape) → IsValid s → ((i j : ℤ) → Has s i → Has s j → i ≡ j) → IsFew s
is_few (Few v) valid f = tt
is_few (Many p) valid f =
    let e : p.low ≡ p.low +ℤ pos p.stride = f p.low (p.low +ℤ pos p.stride) (Steps-low p valid) (Steps-second p valid) in
    let m : 0 < p.stride = valid.moves in
    omega (arith, ints)

few_typed : (k : IntKind) (m : Machine) (v : Ival) (n : ℤ) → IsOnly v n → IsFew (typed (is_signed k) (width_of k m) v.shape)
few_typed k m v n o =
    let r = typed-ranged (is_signed k) (width_of k m) v.shape (width_is k m) v.valid in
    is_few (typed (is_signed k) (width_of k m) v.shape) r.word.valid (λ i j h g. one_alone v n i j o (r.back i h) (r.back j g))

sharp_few : (op : BinOp) (signed : Bool) (width : ℕ) (s t : Shape) → IsFew s → IsFew t → IsSharp op signed width s t
sharp_few op signed width (Few v) (Few u) f g = tt
sharp_few op signed width (Few v) (Many q) f g = absurd g
sharp_few op signed width (Many p) t f g = absurd f

sharp_bits : (op : BinOp) (signed : Bool) (width : ℕ) (s t : Shape) → IsFew s → IsFew t → AreSharpBits op signed width s t
sharp_bits op signed width (Few v) (Few u) f g = tt
sharp_bits op signed width (Few v) (Many q) f g = absurd g
sharp_bits op signed width (Many p) t f g = absurd f

in_type : (k : IntKind) (m : Machine) (v : Ival) (n i : ℤ) → IsOnly v n → Holds v i → FitsKind k m i → InType (is_signed k) (width_of k m) v
in_type k m v n i o h f = record { fits = λ j g. subst (FitsBits (is_signed k) (width_of k m)) (one_alone v n i j o h g) f }

-- of single numbers all results are held alone
sharp_singles : (op : BinOp) (k : IntKind) (m : Machine) (a b : Ival) (n i x y : ℤ) → IsOnly a n → IsOnly b i → Holds a x → Holds b y → FitsKind k m x → OnRight op (FitsKind k m) y → IsSharpOn op k m a b
sharp_singles Add k m a b n i x y o p h g f r = sharp_few Add (is_signed k) (width_of k m) _ _ (few_typed k m a n o) (few_typed k m b i p)
sharp_singles Sub k m a b n i x y o p h g f r = sharp_few Sub (is_signed k) (width_of k m) _ _ (few_typed k m a n o) (few_typed k m b i p)
sharp_singles Mul k m a b n i x y o p h g f r = sharp_few Mul (is_signed k) (width_of k m) _ _ (few_typed k m a n o) (few_typed k m b i p)
sharp_singles Div k m a b n i x y o p h g f r = sharp_few Div (is_signed k) (width_of k m) _ _ (few_typed k m a n o) (few_typed k m b i p)
sharp_singles Rem k m a b n i x y o p h g f r = sharp_few Rem (is_signed k) (width_of k m) _ _ (few_typed k m a n o) (few_typed k m b i p)
sharp_singles And k m a b n i x y o p h g f r = sharp_bits And (is_signed k) (width_of k m) _ _ (few_typed k m a n o) (few_typed k m b i p)
sharp_singles Or k m a b n i x y o p h g f r = sharp_bits Or (is_signed k) (width_of k m) _ _ (few_typed k m a n o) (few_typed k m b i p)
sharp_singles Xor k m a b n i x y o p h g f r = sharp_bits Xor (is_signed k) (width_of k m) _ _ (few_typed k m a n o) (few_typed k m b i p)
sharp_singles Shl k m a b n i x y o p h g f r = tt
sharp_singles Shr k m a b n i x y o p h g f r = tt
sharp_singles op k m a b n i x y o p h g f r = (in_type k m a n x o h f, in_type k m b i y p g r)

-- ---- results

pub no_nine : (P : ℤ → Type 0) → ((i j : ℤ) → P i → P j → i ≡ j) → HoldsNine P → ⊥
no_nine P f h = at h.some h.nine h.ascending h.held
  where
    at : (xs : List ℤ) → length xs ≡ 9 → IsAscending xs → ((n : ℤ) → Among xs n → P n) → ⊥
    at [] e a g = omega arith
    at (x ∷ []) e a g = omega arith
    at (x ∷ y ∷ xs) e a g =
        let d : x ≡ y = f x y (g x (inl refl)) (g y (inr (inl refl))) in
        let l : x <ℤ y = a.0.0 in
        omega (arith, ints)

pub made_is : (p : Provenance) (r : Result ℤ Kind) (z : Value) → r ≡ Ok z.number → z.provenance ≡ p → made_from p r ≡ Ok z
made_is p r z e f = ap (made_from p) e ∙ ap (λ q. Ok (record { number = z.number; provenance = q })) (sym f)

gives_is : (op : BinOp) (k : IntKind) (m : Machine) (a b : Ival) (n i x y : ℤ) → IsOnly a n → IsOnly b i → Holds a x → Holds b y → (r : Result ℤ Kind) → GivesOne op k m a b r → applied op k m x y ≡ r
gives_is op k m a b n i x y o p h g r t =
    ap (λ z. applied op k m z y) (one_alone a n x t.left o h t.in_left) ∙ ap (applied op k m t.left) (one_alone b i y t.right p g t.in_right) ∙ t.is

pub ok_same : (r : Result ℤ Kind) (i j : ℤ) → r ≡ Ok i → r ≡ Ok j → i ≡ j
ok_same r i j e f = cc

-- an operator on single numbers
pub sole_numbers : (op : BinOp) (k : IntKind) (machine : Machine) (l : Layout) (a b v : AVal) (n m s : Ival) (kinds : KindSet) → numbers_alone a ≡ Some n → numbers_alone b ≡ Some m → v ≡ Separate s [] → IsNarrow op k machine n m s →
    ((i : ℤ) → GivesOne op k machine n m (Ok i) → Holds s i) → ((kind : Kind) → IsTrue (allowed kinds kind) ↔ GivesOne op k machine n m (Err kind)) →
    (x y : Value) → is_single_number a ≡ true → is_single_number b ≡ true → AreOperands op k machine l a b x y → IsSole l (applied_to op k machine x y) v kinds
sole_numbers op k machine l a b v n m s kinds e f g narrow holds are x y sa sb o = record {
  value = λ z. ((λ h. back z (subst (λ w. Means l w z) g h)), (λ h. numbers_hold op k machine l a b v n m s e f g holds x y z o h));
  kind = λ t. (
    (λ h. ap (made_from (provenance_after op x.provenance y.provenance)) (gives (Err t) ((are t).0 h))),
    (λ h. (are t).1 (undefined_numbers op k machine l a b n m e f x y t o h)),
  );
}
  where
    p : (x.provenance ≡ nowhere) × Holds n x.number
    p = means_alone l a n x e o.left

    q : (y.provenance ≡ nowhere) × Holds m y.number
    q = means_alone l b m y f o.right

    c : (i : ℤ) × IsOnly n i
    c = number_only a n sa e

    d : (i : ℤ) × IsOnly m i
    d = number_only b m sb f

    gives : (r : Result ℤ Kind) → GivesOne op k machine n m r → applied op k machine x.number y.number ≡ r
    gives r t = gives_is op k machine n m c.0 d.0 x.number y.number c.1 d.1 p.1 q.1 r t

    sharp : IsSharpOn op k machine n m
    sharp = sharp_singles op k machine n m c.0 d.0 x.number y.number c.1 d.1 p.1 q.1 o.fits_left o.fits_right

    few : HoldsNine (λ i. GivesOne op k machine n m (Ok i)) → ⊥
    few = no_nine (λ i. GivesOne op k machine n m (Ok i)) (λ i j h t. ok_same (applied op k machine x.number y.number) i j (gives (Ok i) h) (gives (Ok j) t))

    back : (z : Value) → Means l (Separate s []) z → applied_to op k machine x y ≡ Ok z
    back z (inl h) =
        made_is (provenance_after op x.provenance y.provenance) (applied op k machine x.number y.number) z
        (gives (Ok z.number) (narrow.exact sharp few z.number h.1))
        (h.0 ∙ sym (plain_after (is_comparison op) x.provenance y.provenance p.0 q.0))
    back z (inr h) = absurd h
