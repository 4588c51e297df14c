-- Operators with one operand hold few others than what they give.
use Rattle.std.proofs.Common.{◌≡◌, ◌↔◌, IsTrue, ℕ, ◌≤◌, ◌<◌, Bool, true, ℤ, pos, negsuc, ◌-ℤ◌, [], ◌∷◌, refl, sym, subst, ap, ◌∙◌, inl, inr, arith}
use Rattle.std.specs.Prelude.{Option, None, Some, Result, Ok, Err}
use Rattle.c_base.specs.declared.operators.UnOp.{UnOp}
use Rattle.c_base.specs.declared.operators.UnOp.TheVariants.{Neg, Not, Compl}
use Rattle.c_base.specs.declared.operators.Rel.TheVariants as rel
use Rattle.c_base.specs.declared.integer.IntKind.{IntKind}
use Rattle.c_base.specs.declared.integer.Machine.{Machine}
use Rattle.c_base.specs.declared.kind.Kind.{Kind}
use Rattle.c_base.specs.declared.kind.KindSet.{KindSet}
use Rattle.c_base.specs.KindSets.{allowed, no_kinds}
use Rattle.c_base.specs.Integers.{is_signed, width_of, FitsBits, FitsKind}
use Rattle.c_base.specs.Operators.{reduced, complement, applied_unary, truth_number}
use Rattle.c_memory.specs.Values.{Value, nowhere}
use Rattle.c_memory.specs.Layouts.{Layout}
use Rattle.c_memory.specs.Operations.{made_from}
use Rattle.c_pointers.specs.Conversions.{provenance_behind, applied_to_one}
use Rattle.ival_core.specs.declared.value.Shape.TheVariants.{Few}
use Rattle.ival_core.specs.declared.value.Ival.{Ival}
use Rattle.ival_core.specs.Ivals.{Holds, IsOnly}
use Rattle.ival_core.specs.Sets.{Has, IsNumber, IsValid, IsLeast, HoldsNine}
use Rattle.ival_core.proofs.Canonical.{same_ival}
use Rattle.ival_core.proofs.Insertion.{IsLeast-same}
use Rattle.ival_core.proofs.Joined.{HoldsNine-map}
use Rattle.ival_arith.specs.Answers.{typed, negate_value, negate_kinds}
use Rattle.ival_arith.specs.Exact.{shape_option, exact_difference}
use Rattle.ival_arith.specs.Promises.{Outcome, Stays, InType, GivesNegated, AllNegatedInRange, relates}
use Rattle.ival_arith.proofs.Answering.{typed-ranged}
use Rattle.avalue_base.specs.Meets.{least_of}
use Rattle.avalue_base.specs.Numbers.{no_numbers}
use Rattle.avalue_base.specs.Values.{AVal, Separate, Mixed, bases_of}
use Rattle.avalue_base.specs.Meaning.{Means}
use Rattle.avalue_base.proofs.Meets.{set_same}
use Rattle.avalue_values.specs.Views.{numbers_alone}
use Rattle.aops.specs.Converted.{wrapped_set}
use Rattle.aops.specs.Numbers.{related}
use Rattle.aops.specs.Soles.{is_single_number, IsSole}
use Rattle.aops.proofs.Giving.{means_alone}
use Rattle.aops.proofs.Sorts.{zero_set}
use Rattle.aops.proofs.Narrow.{related_only}
use Rattle.aops.proofs.Alone.{zero_only}
use Rattle.aops.proofs.Soles.{one_alone, number_only, no_nine, ok_same, made_is}
use Rattle.aops_unary.specs.Ones.{GivesUnary, possible_kinds, wrapped_option, complements, one_set, one_kinds, blended_one, one_value, one_value_kinds, IsSharpOne, IsNarrowOne, NarrowOne}
use Rattle.aops_unary.proofs.Turning.{turned_is, negated_gives, plain_behind, numbers_hold, numbers_undefined}

-- ---- complements

pub complements_none : (signed : Bool) (width : ℕ) (minus a v e : Ival) (r : Option Ival) → minus.shape ≡ Few (record { items = negsuc 0 ∷ [] }) → v.shape ≡ typed signed width a.shape → shape_option r ≡ exact_difference minus.shape v.shape → r ≡ None →
    e.shape ≡ Few (record { items = [] }) → e ≡ complements signed width a
unfolding no_numbers
complements_none signed width minus a v e r m t h n f =
    same_ival e no_numbers f ∙ ap (wrapped_option signed width) (sym (ap shape_option n) ∙ h ∙ ap (λ s. exact_difference s v.shape) m ∙ ap (exact_difference (Few (record { items = negsuc 0 ∷ [] }))) t)

pub complements_some : (signed : Bool) (width : ℕ) (minus a v d w : Ival) (r : Option Ival) → minus.shape ≡ Few (record { items = negsuc 0 ∷ [] }) → v.shape ≡ typed signed width a.shape → shape_option r ≡ exact_difference minus.shape v.shape → r ≡ Some d →
    w ≡ wrapped_set signed width d → w ≡ complements signed width a
complements_some signed width minus a v d w r m t h n f =
    f ∙ ap (wrapped_set signed width) (set_same d d.shape refl)
    ∙ ap (wrapped_option signed width) (sym (ap shape_option n) ∙ h ∙ ap (λ s. exact_difference s v.shape) m ∙ ap (exact_difference (Few (record { items = negsuc 0 ∷ [] }))) t)

-- the only number of a least set
least_only : (f : ℤ → ℤ → ℤ) (a b d : Ival) (x y : ℤ) → IsOnly a x → IsOnly b y → IsNumber (f x y) → IsLeast (Outcome f a b) d.shape → IsOnly d (f x y)
least_only f a b d x y p q n l k = (
  (λ h. elim (l.least (Few (record { items = f x y ∷ [] })) valid only k h) [ inl e ↦ e | inr i ↦ absurd i ]),
  (λ e. subst (Holds d) (sym e) (l.holds (f x y) (record { left = x; right = y; in_left = (p x).1 refl; in_right = (q y).1 refl; is = refl }))),
)
  where
    valid : IsValid (Few (record { items = f x y ∷ [] }))
    valid = record { small = omega arith; ascending = (tt, tt); numbers = (n, tt) }

    only : (z : ℤ) → Outcome f a b z → Has (Few (record { items = f x y ∷ [] })) z
    only z o = inl (o.is ∙ ap (λ t. f t o.right) ((p o.left).0 o.in_left) ∙ ap (f x) ((q o.right).0 o.in_right))

pub complement_only : (signed : Bool) (width : ℕ) (minus a v d w : Ival) → IsOnly minus (negsuc 0) → 0 < width → width ≤ 64 → v.shape ≡ typed signed width a.shape → Stays (λ x y. x -ℤ y) minus v → IsLeast (Outcome (λ x y. x -ℤ y) minus v) d.shape →
    ((n : ℤ) → IsOnly d n → IsOnly w (reduced signed width n)) → (n : ℤ) → IsOnly a n → FitsBits signed width n → IsOnly w (complement signed width n)
complement_only signed width minus a v d w o p q e s l h n k f =
    let r = typed-ranged signed width a.shape (record { some = p; room = q }) a.valid in
    let i : Has v.shape n = subst (λ t. Has t n) (sym e) (r.onto n ((k n).1 refl) f) in
    let t : IsOnly v n = (λ z. ((λ g. (k z).0 (r.back z (subst (λ u. Has u z) e g))), (λ g. subst (Has v.shape) (sym g) i))) in
    subst (IsOnly w) (turned_is signed width n) (h (negsuc 0 -ℤ n) (least_only (λ x y. x -ℤ y) minus v d (negsuc 0) n o t (s (negsuc 0) n ((o (negsuc 0)).1 refl) i) l))

-- ---- sets

pub negated_set : (k : IntKind) (m : Machine) (a v : Ival) → v.shape ≡ negate_value k m a.shape → v ≡ one_set Neg k m a
unfolding one_set
negated_set k m a v e = set_same v (negate_value k m a.shape) e

pub negated_kinds : (k : IntKind) (m : Machine) (a : Ival) (s : KindSet) → s ≡ negate_kinds k m a.shape → s ≡ one_kinds Neg k m a
unfolding one_kinds
negated_kinds k m a s e = e

pub zero_truths : (k : IntKind) (m : Machine) (a zero v : Ival) → zero.shape ≡ Few (record { items = pos 0 ∷ [] }) → v ≡ related rel.Eq a zero → v ≡ one_set Not k m a
unfolding one_set
zero_truths k m a zero v e f = f ∙ ap (related rel.Eq a) (zero_set zero e)

pub no_kinds_not : (k : IntKind) (m : Machine) (a : Ival) (s : KindSet) → s ≡ no_kinds → s ≡ one_kinds Not k m a
unfolding one_kinds
no_kinds_not k m a s e = e

pub no_kinds_turned : (k : IntKind) (m : Machine) (a : Ival) (s : KindSet) → s ≡ no_kinds → s ≡ one_kinds Compl k m a
unfolding one_kinds
no_kinds_turned k m a s e = e

pub turned_set : (k : IntKind) (m : Machine) (a v : Ival) (signed : Bool) (width : ℕ) (kind : IntKind) (machine : Machine) → kind ≡ k → machine ≡ m → signed ≡ is_signed kind → width ≡ width_of kind machine → v ≡ complements signed width a → v ≡ one_set Compl k m a
unfolding one_set
turned_set k m a v signed width kind machine d e s b f =
    f ∙ ap (λ z. complements z width a) (s ∙ ap is_signed d) ∙ ap (λ z. complements (is_signed k) z a) (b ∙ ap (λ z. width_of z machine) d ∙ ap (width_of k) e)

-- ---- narrow sets

pub narrow_negated : (k : IntKind) (m : Machine) (a v : Ival) → ((HoldsNine (λ n. GivesNegated k m a (Ok n)) → ⊥) → (n : ℤ) → Holds v n → GivesNegated k m a (Ok n)) →
    (AllNegatedInRange k m a → IsLeast (λ n. GivesNegated k m a (Ok n)) v.shape) → IsNarrowOne Neg k m a v
narrow_negated k m a v e l = record {
  exact = λ s few n h. (negated_gives k m a (Ok n)).1 (e (λ nine. few (HoldsNine-map (λ n. GivesNegated k m a (Ok n)) (λ n. GivesUnary Neg k m a (Ok n)) (λ n g. (negated_gives k m a (Ok n)).1 g) nine)) n h);
  least_negated = λ d r. IsLeast-same (λ n. GivesNegated k m a (Ok n)) (λ n. GivesUnary Neg k m a (Ok n)) v.shape (λ n g. (negated_gives k m a (Ok n)).1 g) (λ n g. (negated_gives k m a (Ok n)).0 g) (l r);
}

pub narrow_not : (k : IntKind) (m : Machine) (a zero v : Ival) → zero.shape ≡ Few (record { items = pos 0 ∷ [] }) → v ≡ related rel.Eq a zero → IsNarrowOne Not k m a v
narrow_not k m a zero v z e = record {
  exact = λ s few n h. at n s (subst (λ w. Holds w n) (e ∙ ap (related rel.Eq a) (zero_set zero z)) h);
  least_negated = λ d r. cc;
}
  where
    at : (n : ℤ) → InType (is_signed k) (width_of k m) a → Holds (related rel.Eq a (least_of (pos 0 ∷ []))) n → GivesUnary Not k m a (Ok n)
    at n s h =
        let r = related_only rel.Eq a (least_of (pos 0 ∷ [])) n h in
        let q : r.1.right ≡ pos 0 = zero_only r.1.right r.1.in_right in
        record {
          operand = r.1.left;
          in_set = r.1.in_left;
          fits = s.fits r.1.left r.1.in_left;
          is = ap (λ t. Ok (truth_number t)) (ap (relates rel.Eq r.1.left) (sym q) ∙ r.1.is) ∙ ap Ok r.2;
        }

pub narrow_turned : (k : IntKind) (m : Machine) (a v : Ival) (signed : Bool) (width : ℕ) (kind : IntKind) (machine : Machine) → kind ≡ k → machine ≡ m → signed ≡ is_signed kind → width ≡ width_of kind machine →
    ((n : ℤ) → IsOnly a n → FitsBits signed width n → IsOnly v (complement signed width n)) → IsNarrowOne Compl k m a v
narrow_turned k m a v signed width kind machine d e s b h = record { exact = λ o few n g. at o n g; least_negated = λ t r. cc }
  where
    same : (n : ℤ) → IsOnly a n → FitsBits (is_signed k) (width_of k m) n → IsOnly v (complement (is_signed k) (width_of k m) n)
    same =
        subst (λ t. (n : ℤ) → IsOnly a n → FitsBits (is_signed k) t n → IsOnly v (complement (is_signed k) t n)) (b ∙ ap (λ z. width_of z machine) d ∙ ap (width_of k) e)
        (subst (λ t. (n : ℤ) → IsOnly a n → FitsBits t width n → IsOnly v (complement t width n)) (s ∙ ap is_signed d) h)

    at : (n : ℤ) × IsOnly a n × FitsKind k m n → (i : ℤ) → Holds v i → GivesUnary Compl k m a (Ok i)
    at (n, o, f) i g = record { operand = n; in_set = (o n).1 refl; fits = f; is = ap Ok (sym ((same n o f i).0 g)) }

-- ---- values

pub value_one : (op : UnOp) (k : IntKind) (m : Machine) (a v : AVal) (n s : Ival) → numbers_alone a ≡ Some n → v ≡ Separate s [] → s ≡ one_set op k m n → v ≡ one_value op k m a
value_one op k m (Separate ns []) v n s e f h = let d : n ≡ ns = cc in f ∙ ap (λ z. Separate z []) (h ∙ ap (one_set op k m) d)
value_one op k m (Separate ns (x ∷ xs)) v n s e f h = cc
value_one op k m (Mixed bs) v n s e f h = cc

pub kinds_one : (op : UnOp) (k : IntKind) (m : Machine) (a : AVal) (n : Ival) (s : KindSet) → numbers_alone a ≡ Some n → s ≡ one_kinds op k m n → s ≡ one_value_kinds op k m a
kinds_one op k m (Separate ns []) n s e h = let d : n ≡ ns = cc in h ∙ ap (one_kinds op k m) d
kinds_one op k m (Separate ns (x ∷ xs)) n s e h = cc
kinds_one op k m (Mixed bs) n s e h = cc

pub value_blended : (op : UnOp) (k : IntKind) (m : Machine) (a v : AVal) → numbers_alone a ≡ None → v ≡ blended_one op (bases_of a) → v ≡ one_value op k m a
value_blended op k m (Separate ns []) v e h = cc
value_blended op k m (Separate ns (x ∷ xs)) v e h = h
value_blended op k m (Mixed bs) v e h = h

pub kinds_blended : (op : UnOp) (k : IntKind) (m : Machine) (a : AVal) (s : KindSet) → numbers_alone a ≡ None → s ≡ possible_kinds op (is_signed k) → s ≡ one_value_kinds op k m a
kinds_blended op k m (Separate ns []) s e h = cc
kinds_blended op k m (Separate ns (x ∷ xs)) s e h = h
kinds_blended op k m (Mixed bs) s e h = h

pub narrow_one : (op : UnOp) (k : IntKind) (m : Machine) (a v : AVal) (n s : Ival) → numbers_alone a ≡ Some n → v ≡ Separate s [] → IsNarrowOne op k m n s → NarrowOne op k m a v
narrow_one op k m (Separate ns []) v n s e f h = let d : n ≡ ns = cc in subst (NarrowOne op k m (Separate ns [])) (sym f) (subst (λ z. IsNarrowOne op k m z s) d h)
narrow_one op k m (Separate ns (x ∷ xs)) v n s e f h = tt
narrow_one op k m (Mixed bs) v n s e f h = tt

pub any_narrow : (op : UnOp) (k : IntKind) (m : Machine) (a v : AVal) → numbers_alone a ≡ None → NarrowOne op k m a v
any_narrow op k m (Separate ns []) v e = cc
any_narrow op k m (Separate ns (x ∷ xs)) v e = tt
any_narrow op k m (Mixed bs) v e = tt

-- an operator on a single number
pub sole_one : (op : UnOp) (k : IntKind) (m : Machine) (l : Layout) (a v : AVal) (n s : Ival) (kinds : KindSet) → numbers_alone a ≡ Some n → v ≡ Separate s [] → IsNarrowOne op k m n s → ((i : ℤ) → GivesUnary op k m n (Ok i) → Holds s i) →
    ((kind : Kind) → IsTrue (allowed kinds kind) ↔ GivesUnary op k m n (Err kind)) → (x : Value) → is_single_number a ≡ true → Means l a x → FitsKind k m x.number → IsSole l (applied_to_one op k m x) v kinds
sole_one op k m l a v n s kinds e g narrow holds are x sa i f = record {
  value = λ z. ((λ h. back z (subst (λ w. Means l w z) g h)), (λ h. numbers_hold op k m l a v n s e g holds x z i f h));
  kind = λ t. (
    (λ h. ap (made_from (provenance_behind op x.provenance)) (gives (Err t) ((are t).0 h))),
    (λ h. (are t).1 (numbers_undefined op k m l a n e x t i f h)),
  );
}
  where
    p : (x.provenance ≡ nowhere) × Holds n x.number
    p = means_alone l a n x e i

    c : (i : ℤ) × IsOnly n i
    c = number_only a n sa e

    gives : (r : Result ℤ Kind) → GivesUnary op k m n r → applied_unary op k m x.number ≡ r
    gives r t = ap (applied_unary op k m) (one_alone n c.0 x.number t.operand c.1 p.1 t.in_set) ∙ t.is

    only : IsOnly n x.number
    only j = ((λ h. one_alone n c.0 j x.number c.1 h p.1), (λ d. subst (Holds n) (sym d) p.1))

    sharp : (op : UnOp) → IsSharpOne op k m n
    sharp Neg = tt
    sharp Not = record { fits = λ j h. subst (FitsKind k m) (sym ((only j).0 h)) f }
    sharp Compl = (x.number, only, f)

    few : HoldsNine (λ i. GivesUnary op k m n (Ok i)) → ⊥
    few = no_nine (λ i. GivesUnary op k m n (Ok i)) (λ i j h t. ok_same (applied_unary op k m x.number) i j (gives (Ok i) h) (gives (Ok j) t))

    back : (z : Value) → Means l (Separate s []) z → applied_to_one op k m x ≡ Ok z
    back z (inl h) =
        made_is (provenance_behind op x.provenance) (applied_unary op k m x.number) z
        (gives (Ok z.number) (narrow.exact (sharp op) few z.number h.1)) (h.0 ∙ sym (plain_behind op x.provenance p.0))
    back z (inr h) = absurd h
