-- Operators with one operand hold what they give.
use Rattle.std.proofs.Common.{◌≡◌, ◌↔◌, IsTrue, ℕ, ◌-◌, ◌^◌, ◌<◌, ◌≤◌, Bool, true, false, cond, ℤ, pos, negsuc, ◌+ℤ◌, ◌-ℤ◌, [], ◌∷◌, refl, sym, subst, ap, ◌∙◌, inl, arith}
use Rattle.std.specs.Prelude.{None, Some, Result, Ok, Err, ◌*ℤ◌, neg_ℤ}
use Rattle.std.specs.FinSet.{contains}
use Rattle.std.proofs.Math.Nat.{mod-eq_of_lt}
use Rattle.std.proofs.lemmas.Nat.{pow_pos}
use Rattle.std.proofs.lemmas.Int.{ints}
use Rattle.c_base.specs.declared.operators.UnOp.{UnOp}
use Rattle.c_base.specs.declared.operators.UnOp.TheVariants.{Neg, Not, Compl}
use Rattle.c_base.specs.declared.operators.Rel.TheVariants as rel
use Rattle.c_base.specs.declared.integer.IntKind.{IntKind}
use Rattle.c_base.specs.declared.integer.Machine.{Machine}
use Rattle.c_base.specs.declared.kind.Kind.{Kind}
use Rattle.c_base.specs.declared.kind.Kind.TheVariants.{SignedOverflow}
use Rattle.c_base.specs.declared.kind.KindSet.{KindSet}
use Rattle.c_base.specs.KindSets.{allowed}
use Rattle.c_base.specs.Integers.{residue, signed_number, is_signed, width_of, FitsKind, FitsBits, fits_bits}
use Rattle.c_base.specs.Operators.{reduced, complement, applied_unary, truth_number, is_zero, in_type}
use Rattle.c_base.proofs.Residues.{residue_below, residue_same, residue_differs}
use Rattle.c_base.proofs.Products.{add-mul}
use Rattle.c_base.proofs.Singles.{complement_is}
use Rattle.c_memory.specs.Values.{Value, Provenance, nowhere}
use Rattle.c_memory.specs.Operations.{made_from}
use Rattle.c_memory.specs.Layouts.{Layout}
use Rattle.c_pointers.specs.Conversions.{provenance_behind, applied_to_one}
use Rattle.ival_core.specs.declared.value.Ival.{Ival}
use Rattle.ival_core.specs.Ivals.{Holds, IsOnly}
use Rattle.ival_core.specs.Sets.{Has, IsLeast}
use Rattle.ival_arith.specs.Answers.{typed}
use Rattle.ival_arith.specs.Promises.{InType, Leaves, Outcome, GivesNegated}
use Rattle.ival_arith.proofs.Answering.{typed-ranged}
use Rattle.ival_arith.proofs.Words.{ends}
use Rattle.ival_arith.specs.Kinds.{kind_set}
use Rattle.avalue_base.specs.Values.{AVal, Separate, Mixed, bases_of}
use Rattle.avalue_base.specs.Meaning.{Means}
use Rattle.avalue_values.specs.Views.{numbers_alone}
use Rattle.aops.specs.Numbers.{truth_set, related}
use Rattle.aops.proofs.Giving.{means_alone, means_bases, any_truth}
use Rattle.aops.proofs.Sorts.{related_held}
use Rattle.aops_unary.specs.Ones.{GivesUnary, possible_kinds, Cause}

-- ---- complements

turned_residue : (m : ℕ) (n : ℤ) → 0 < m → residue m (negsuc 0 -ℤ n) ≡ m - 1 - residue m n
turned_residue m n h =
    let d = residue_differs m n h in
    let b = residue_below m n h in
    let k : m - 1 - residue m n < m = omega arith in
    sym (residue_same m (pos (m - 1 - residue m n)) (negsuc 0 -ℤ n) h (record { times = pos 1 +ℤ d.times; is = rw (add-mul (pos 1) d.times (pos m)) (sum m (residue m n) n (d.times *ℤ pos m) b d.is) })) ∙ mod-eq_of_lt k
  where
    sum : (m r : ℕ) (n q : ℤ) → r < m → n ≡ pos r +ℤ q → pos (m - 1 - r) ≡ (negsuc 0 -ℤ n) +ℤ (pos 1 *ℤ pos m +ℤ q)
    sum m r n q l e = omega (arith, ints)

pub turned_is : (signed : Bool) (width : ℕ) (n : ℤ) → reduced signed width (negsuc 0 -ℤ n) ≡ complement signed width n
turned_is signed width n = ap (signed_number signed width) (turned_residue (2 ^ width) n (pow_pos width)) ∙ complement_is signed width n

-- what is turned stays among the numbers that a set may hold
pub turned_stays : (signed : Bool) (width : ℕ) (minus v : Ival) → IsOnly minus (negsuc 0) → InType signed width v → 0 < width → width ≤ 64 → Leaves (λ x y. x -ℤ y) minus v → ⊥
turned_stays signed width minus v o t a b l =
    let e = ends signed width a b in
    let f = t.fits l.right l.in_right in
    let x : l.left ≡ negsuc 0 = (o l.left).0 l.in_left in
    let c = e.least in
    let d = e.greatest in
    let g = f.least in
    let h = f.greatest in
    l.leaves (record { least = omega (arith, ints, x); greatest = omega (arith, ints, x) })

pub complement_holds : (signed : Bool) (width : ℕ) (minus a v d w : Ival) → IsOnly minus (negsuc 0) → 0 < width → width ≤ 64 → v.shape ≡ typed signed width a.shape → IsLeast (Outcome (λ x y. x -ℤ y) minus v) d.shape → ((n : ℤ) → Holds d n → Holds w (reduced signed width n)) →
    (n : ℤ) → Holds a n → FitsBits signed width n → Holds w (complement signed width n)
complement_holds signed width minus a v d w o p q e l h n k f =
    let r = typed-ranged signed width a.shape (record { some = p; room = q }) a.valid in
    let i : Holds v n = subst (λ s. Has s n) (sym e) (r.onto n k f) in
    subst (Holds w) (turned_is signed width n) (h (negsuc 0 -ℤ n) (l.holds (negsuc 0 -ℤ n) (record { left = negsuc 0; right = n; in_left = (o (negsuc 0)).1 refl; in_right = i; is = refl })))

-- ---- sets

pub negated_gives : (k : IntKind) (m : Machine) (a : Ival) (r : Result ℤ Kind) → GivesUnary Neg k m a r ↔ GivesNegated k m a r
negated_gives k m a r = (
  (λ g. record { from = g.operand; has = g.in_set; fits = g.fits; is = g.is }),
  (λ g. record { operand = g.from; in_set = g.has; fits = g.fits; is = g.is }),
)

pub not_holds : (k : IntKind) (m : Machine) (a zero : Ival) (w : Ival) → IsOnly zero (pos 0) → w ≡ related rel.Eq a zero → (n : ℤ) → GivesUnary Not k m a (Ok n) → Holds w n
not_holds k m a zero w o e n g =
    subst (λ s. Holds s n) (sym e) (subst (Holds (related rel.Eq a zero)) (same (truth_number (is_zero g.operand)) g.is) (related_held rel.Eq a zero g.operand (pos 0) g.in_set ((o (pos 0)).1 refl)))
  where
    same : (t : ℤ) → ◌≡◌ {A = Result ℤ Kind} (Ok t) (Ok n) → t ≡ n
    same t e = cc

pub turned_gives : (k : IntKind) (m : Machine) (a w : Ival) → ((n : ℤ) → Holds a n → FitsBits (is_signed k) (width_of k m) n → Holds w (complement (is_signed k) (width_of k m) n)) → (n : ℤ) → GivesUnary Compl k m a (Ok n) → Holds w n
turned_gives k m a w f n g = subst (Holds w) (same (complement (is_signed k) (width_of k m) g.operand) g.is) (f g.operand g.in_set g.fits)
  where
    same : (t : ℤ) → ◌≡◌ {A = Result ℤ Kind} (Ok t) (Ok n) → t ≡ n
    same t e = cc

pub not_undefined : (k : IntKind) (m : Machine) (a : Ival) (kind : Kind) → GivesUnary Not k m a (Err kind) → ⊥
not_undefined k m a kind g = clash (truth_number (is_zero g.operand)) g.is
  where
    clash : (t : ℤ) → ◌≡◌ {A = Result ℤ Kind} (Ok t) (Err kind) → ⊥
    clash t e = cc

pub compl_undefined : (k : IntKind) (m : Machine) (a : Ival) (kind : Kind) → GivesUnary Compl k m a (Err kind) → ⊥
compl_undefined k m a kind g = clash (complement (is_signed k) (width_of k m) g.operand) g.is
  where
    clash : (t : ℤ) → ◌≡◌ {A = Result ℤ Kind} (Ok t) (Err kind) → ⊥
    clash t e = cc

pub never : (s : KindSet) (kind : Kind) (P : Type 0) → allowed s kind ≡ false → (P → ⊥) → IsTrue (allowed s kind) ↔ P
never s kind P e f = ((λ h. absurd (clash (allowed s kind) e h)), (λ p. absurd (f p)))
  where
    clash : (t : Bool) → t ≡ false → t ≡ true → ⊥
    clash true e h = cc
    clash false e h = cc

-- ---- values

record Made (op : UnOp) (k : IntKind) (m : Machine) (x z : Value) : Type 0 where
  provenance : z.provenance ≡ provenance_behind op x.provenance
  number : applied_unary op k m x.number ≡ Ok z.number

made : (op : UnOp) (k : IntKind) (m : Machine) (x z : Value) → applied_to_one op k m x ≡ Ok z → Made op k m x z
made op k m x z h = at (applied_unary op k m x.number) refl h
  where
    at : (r : Result ℤ Kind) → applied_unary op k m x.number ≡ r → made_from (provenance_behind op x.provenance) r ≡ Ok z → Made op k m x z
    at (Err kind) e f = cc
    at (Ok n) e f =
        let same : record { number = n; provenance = provenance_behind op x.provenance } ≡ z = cc in
        record { provenance = sym (ap (λ v. v.provenance) same); number = e ∙ ap (λ v. Ok v.number) same }

unmade : (op : UnOp) (k : IntKind) (m : Machine) (x : Value) (kind : Kind) → applied_to_one op k m x ≡ Err kind → applied_unary op k m x.number ≡ Err kind
unmade op k m x kind h = at (applied_unary op k m x.number) refl h
  where
    at : (r : Result ℤ Kind) → applied_unary op k m x.number ≡ r → made_from (provenance_behind op x.provenance) r ≡ Err kind → applied_unary op k m x.number ≡ Err kind
    at (Err found) e f = let same : found ≡ kind = cc in e ∙ ap Err same
    at (Ok n) e f = cc

pub plain_behind : (op : UnOp) (p : Provenance) → p ≡ nowhere → provenance_behind op p ≡ nowhere
plain_behind Neg p e = e
plain_behind Not p e = refl
plain_behind Compl p e = e

pub numbers_hold : (op : UnOp) (k : IntKind) (m : Machine) (l : Layout) (a v : AVal) (n s : Ival) → numbers_alone a ≡ Some n → v ≡ Separate s [] → ((i : ℤ) → GivesUnary op k m n (Ok i) → Holds s i) →
    (x z : Value) → Means l a x → FitsKind k m x.number → applied_to_one op k m x ≡ Ok z → Means l v z
numbers_hold op k m l a v n s e g h x z i f t =
    let p = means_alone l a n x e i in
    let r = made op k m x z t in
    subst (λ w. Means l w z) (sym g) (inl (r.provenance ∙ plain_behind op x.provenance p.0, h z.number (record { operand = x.number; in_set = p.1; fits = f; is = r.number })))

pub numbers_undefined : (op : UnOp) (k : IntKind) (m : Machine) (l : Layout) (a : AVal) (n : Ival) → numbers_alone a ≡ Some n → (x : Value) (kind : Kind) → Means l a x → FitsKind k m x.number → applied_to_one op k m x ≡ Err kind → GivesUnary op k m n (Err kind)
numbers_undefined op k m l a n e x kind i f t = let p = means_alone l a n x e i in record { operand = x.number; in_set = p.1; fits = f; is = unmade op k m x kind t }

pub numbers_cause : (op : UnOp) (k : IntKind) (m : Machine) (a : AVal) (n : Ival) (kind : Kind) → numbers_alone a ≡ Some n → GivesUnary op k m n (Err kind) → Cause op k m a kind
numbers_cause op k m (Separate ns []) n kind e g = let same : n ≡ ns = cc in subst (λ z. GivesUnary op k m z (Err kind)) same g
numbers_cause op k m (Separate ns (x ∷ xs)) n kind e g = tt
numbers_cause op k m (Mixed bs) n kind e g = tt

pub any_cause : (op : UnOp) (k : IntKind) (m : Machine) (a : AVal) (kind : Kind) → numbers_alone a ≡ None → Cause op k m a kind
any_cause op k m (Separate ns []) kind e = cc
any_cause op k m (Separate ns (x ∷ xs)) kind e = tt
any_cause op k m (Mixed bs) kind e = tt

pub mixed_holds : (op : UnOp) (k : IntKind) (m : Machine) (l : Layout) (a v : AVal) (x z : Value) → ((p : Provenance) → provenance_behind op p ≡ p) → v ≡ Mixed (bases_of a) → Means l a x → applied_to_one op k m x ≡ Ok z → Means l v z
mixed_holds op k m l a v x z b e i t =
    let r = made op k m x z t in
    subst (λ w. Means l w z) (sym e) (λ q h. means_bases l a x q i (subst (λ p. contains p q ≡ true) (r.provenance ∙ b x.provenance) h))

pub truths_hold : (k : IntKind) (m : Machine) (l : Layout) (v : AVal) (s : Ival) (x z : Value) → s ≡ truth_set true true → v ≡ Separate s [] → applied_to_one Not k m x ≡ Ok z → Means l v z
truths_hold k m l v s x z e g t =
    let r = made Not k m x z t in
    subst (λ w. Means l w z) (sym g) (inl (r.provenance, subst (λ w. Holds w z.number) (sym e) (subst (Holds (truth_set true true)) (same (truth_number (is_zero x.number)) r.number) (any_truth (is_zero x.number)))))
  where
    same : (t : ℤ) → ◌≡◌ {A = Result ℤ Kind} (Ok t) (Ok z.number) → t ≡ z.number
    same t e = cc

overflows : (signed : Bool) (width : ℕ) (n : ℤ) (kind : Kind) → in_type SignedOverflow signed width n ≡ Err kind → allowed (kind_set false signed) kind ≡ true
overflows signed width n kind h = at (fits_bits signed width n) signed h
  where
    at : (f s : Bool) → cond {A = Result ℤ Kind} f (Ok n) (cond s (Err SignedOverflow) (Ok (pos (residue (2 ^ width) n)))) ≡ Err kind → allowed (kind_set false s) kind ≡ true
    at true s e = cc
    at false true e = let same : SignedOverflow ≡ kind = cc in subst (λ z. allowed (kind_set false true) z ≡ true) same refl
    at false false e = cc

pub possible : (op : UnOp) (k : IntKind) (m : Machine) (x : Value) (kind : Kind) (s : KindSet) → s ≡ possible_kinds op (is_signed k) → applied_to_one op k m x ≡ Err kind → allowed s kind ≡ true
possible op k m x kind s e t = subst (λ z. allowed z kind ≡ true) (sym e) (at op (unmade op k m x kind t))
  where
    at : (op : UnOp) → applied_unary op k m x.number ≡ Err kind → allowed (possible_kinds op (is_signed k)) kind ≡ true
    at Neg f = overflows (is_signed k) (width_of k m) (neg_ℤ x.number) kind f
    at Not f = cc
    at Compl f = cc

pub turned_format : (k : IntKind) (m : Machine) (a w : Ival) (signed : Bool) (width : ℕ) (kind : IntKind) (machine : Machine) → kind ≡ k → machine ≡ m → signed ≡ is_signed kind → width ≡ width_of kind machine →
    ((n : ℤ) → Holds a n → FitsBits signed width n → Holds w (complement signed width n)) → (n : ℤ) → Holds a n → FitsBits (is_signed k) (width_of k m) n → Holds w (complement (is_signed k) (width_of k m) n)
turned_format k m a w signed width kind machine d e s b f =
    subst (λ t. (n : ℤ) → Holds a n → FitsBits (is_signed k) t n → Holds w (complement (is_signed k) t n)) (b ∙ ap (λ z. width_of z machine) d ∙ ap (width_of k) e)
    (subst (λ t. (n : ℤ) → Holds a n → FitsBits t width n → Holds w (complement t width n)) (s ∙ ap is_signed d) f)
