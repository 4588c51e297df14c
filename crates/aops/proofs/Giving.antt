-- Operators on values of integer types hold what they give.
use Rattle.std.proofs.Common.{◌≡◌, ℕ, Bool, true, false, cond, ◌&&◌, ℤ, [], ◌∷◌, refl, sym, subst, ap, ◌∙◌, inl, inr}
use Rattle.std.specs.Prelude.{None, Some, Result, Ok, Err, int_le, int_lt, not}
use Rattle.std.specs.Ordering.{nat_cmp}
use Rattle.std.specs.Cmp.{nat_cmp_total}
use Rattle.std.specs.FinSet.{contains, union, contains-union, contains-empty, same_set, nat_cmp-IsAntisymmetric}
use Rattle.std.proofs.lemmas.Bool.{or_cases}
use Rattle.c_base.specs.declared.operators.BinOp.{BinOp}
use Rattle.c_base.specs.declared.operators.BinOp.TheVariants.{Lt, Le, Gt, Ge, Eq, Ne}
use Rattle.c_base.specs.declared.integer.IntKind.{IntKind}
use Rattle.c_base.specs.declared.integer.Machine.{Machine}
use Rattle.c_base.specs.declared.kind.Kind.{Kind}
use Rattle.c_base.specs.declared.kind.KindSet.{KindSet}
use Rattle.c_base.specs.KindSets.{allowed}
use Rattle.c_base.specs.Integers.{is_signed}
use Rattle.c_base.specs.Operators.{applied, truth_number}
use Rattle.c_memory.specs.Values.{Value, Provenance, nowhere}
use Rattle.c_memory.specs.Layouts.{Layout}
use Rattle.c_memory.specs.Operations.{is_comparison, provenance_after, made_from, applied_to}
use Rattle.ival_core.specs.declared.value.Ival.{Ival}
use Rattle.ival_core.specs.Ivals.{Holds}
use Rattle.avalue_base.specs.Lists.{has_base, union_of}
use Rattle.avalue_base.specs.Values.{AVal, Separate, Mixed, bases_of}
use Rattle.avalue_base.specs.Meaning.{Means}
use Rattle.avalue_base.specs.Order.{value_in}
use Rattle.avalue_base.proofs.Lists.{among-refl, among-has, union_left, union_right}
use Rattle.avalue_base.proofs.Means.{value_means}
use Rattle.avalue_values.specs.Views.{numbers_alone}
use Rattle.aops.specs.Promises.{GivesOne}
use Rattle.aops.specs.Numbers.{truth_set, integer_set, integer_kinds}
use Rattle.aops.specs.Integers.{possible_kinds, blended, integer_value, integer_value_kinds, AreOperands, Cause}
use Rattle.aops.proofs.Sorts.{truth_held}
use Rattle.aops.proofs.Possible.{possible}

-- ---- the bases of values

bases_mix : (v : AVal) → value_in v (Mixed (bases_of v)) ≡ true
bases_mix (Separate ns xs) = among-refl (bases_of (Separate ns xs))
bases_mix (Mixed bs) = among-refl bs

-- a value is made from the addresses of its bases alone
pub means_bases : (l : Layout) (v : AVal) (x : Value) (q : ℕ) → Means l v x → contains x.provenance q ≡ true → has_base (bases_of v) q ≡ true
means_bases l v x q m h = value_means l v (Mixed (bases_of v)) x (bases_mix v) m q h

pub means_alone : (l : Layout) (v : AVal) (n : Ival) (x : Value) → numbers_alone v ≡ Some n → Means l v x → (x.provenance ≡ nowhere) × Holds n x.number
means_alone l (Separate ns []) n x e (inl m) = let d : ns ≡ n = cc in (m.0, subst (λ z. Holds z x.number) d m.1)
means_alone l (Separate ns []) n x e (inr m) = absurd m
means_alone l (Separate ns (a ∷ xs)) n x e m = cc
means_alone l (Mixed bs) n x e m = cc

pub from_either : (l : Layout) (v w : AVal) (x y : Value) → Means l v x → Means l w y → (q : ℕ) → contains (union x.provenance y.provenance) q ≡ true → has_base (union_of (bases_of v) (bases_of w)) q ≡ true
from_either l v w x y m n q h =
    elim (or_cases (contains x.provenance q) (contains y.provenance q) (sym (contains-union nat_cmp_total x.provenance y.provenance q) ∙ h)) [
      | inl e ↦ among-has (bases_of v) (union_of (bases_of v) (bases_of w)) (union_left (bases_of v) (bases_of w)) q (means_bases l v x q m e)
      | inr e ↦ among-has (bases_of w) (union_of (bases_of v) (bases_of w)) (union_right (bases_of v) (bases_of w)) q (means_bases l w y q n e)
    ]

plain_union : union nowhere nowhere ≡ nowhere
plain_union = same_set nat_cmp_total nat_cmp-IsAntisymmetric (union nowhere nowhere) nowhere (λ q. rw (contains-union nat_cmp_total nowhere nowhere q, contains-empty nat_cmp q) refl)

-- ---- results

pub record Made (p : Provenance) (r : Result ℤ Kind) (z : Value) : Type 0 where
  pub number : r ≡ Ok z.number
  pub provenance : z.provenance ≡ p

pub made_ok : (p : Provenance) (r : Result ℤ Kind) (z : Value) → made_from p r ≡ Ok z → Made p r z
made_ok p (Ok n) z e =
    let d : record { number = n; provenance = p } ≡ z = same e in
    record { number = ap (λ (w : Value). Ok w.number) d; provenance = ap (λ (w : Value). w.provenance) (sym d) }
  where
    same : {u : Value} → ◌≡◌ {A = Result Value Kind} (Ok u) (Ok z) → u ≡ z
    same h = cc
made_ok p (Err kind) z e = cc

pub made_err : (p : Provenance) (r : Result ℤ Kind) (kind : Kind) → made_from p r ≡ Err kind → r ≡ Err kind
made_err p (Ok n) kind e = cc
made_err p (Err k) kind e = let d : k ≡ kind = same e in ap Err d
  where
    same : ◌≡◌ {A = Result Value Kind} (Err k) (Err kind) → k ≡ kind
    same h = cc

pub plain_after : (t : Bool) (p q : Provenance) → p ≡ nowhere → q ≡ nowhere → cond t nowhere (union p q) ≡ nowhere
plain_after true p q e f = refl
plain_after false p q e f = ap (λ w. union w q) e ∙ ap (union nowhere) f ∙ plain_union

pub numbers_hold : (op : BinOp) (k : IntKind) (machine : Machine) (l : Layout) (a b v : AVal) (n m s : Ival) → numbers_alone a ≡ Some n → numbers_alone b ≡ Some m → v ≡ Separate s [] →
    ((i : ℤ) → GivesOne op k machine n m (Ok i) → Holds s i) → (x y z : Value) → AreOperands op k machine l a b x y → applied_to op k machine x y ≡ Ok z → Means l v z
numbers_hold op k machine l a b v n m s e f g h x y z o t =
    let p = means_alone l a n x e o.left in
    let q = means_alone l b m y f o.right in
    let r = made_ok (provenance_after op x.provenance y.provenance) (applied op k machine x.number y.number) z t in
    let i = h z.number (record { left = x.number; right = y.number; in_left = p.1; in_right = q.1; fits_left = o.fits_left; fits_right = o.fits_right; is = r.number }) in
    subst (λ w. Means l w z) (sym g) (inl (r.provenance ∙ plain_after (is_comparison op) x.provenance y.provenance p.0 q.0, i))

truth_of : (op : BinOp) → is_comparison op ≡ true → (k : IntKind) (m : Machine) (x y i : ℤ) → applied op k m x y ≡ Ok i → (b : Bool) × (truth_number b ≡ i)
truth_of Lt e k m x y i h = (int_lt x y, same h)
  where
    same : {u : ℤ} → ◌≡◌ {A = Result ℤ Kind} (Ok u) (Ok i) → u ≡ i
    same h = cc
truth_of Le e k m x y i h = (int_le x y, same h)
  where
    same : {u : ℤ} → ◌≡◌ {A = Result ℤ Kind} (Ok u) (Ok i) → u ≡ i
    same h = cc
truth_of Gt e k m x y i h = (int_lt y x, same h)
  where
    same : {u : ℤ} → ◌≡◌ {A = Result ℤ Kind} (Ok u) (Ok i) → u ≡ i
    same h = cc
truth_of Ge e k m x y i h = (int_le y x, same h)
  where
    same : {u : ℤ} → ◌≡◌ {A = Result ℤ Kind} (Ok u) (Ok i) → u ≡ i
    same h = cc
truth_of Eq e k m x y i h = (int_le x y && int_le y x, same h)
  where
    same : {u : ℤ} → ◌≡◌ {A = Result ℤ Kind} (Ok u) (Ok i) → u ≡ i
    same h = cc
truth_of Ne e k m x y i h = (not (int_le x y && int_le y x), same h)
  where
    same : {u : ℤ} → ◌≡◌ {A = Result ℤ Kind} (Ok u) (Ok i) → u ≡ i
    same h = cc
truth_of op e k m x y i h = cc

pub any_truth : (b : Bool) → Holds (truth_set true true) (truth_number b)
any_truth b = truth_held true true b (λ e. refl) (λ e. refl)

pub blended_hold : (op : BinOp) (k : IntKind) (machine : Machine) (l : Layout) (a b v : AVal) → v ≡ blended op (union_of (bases_of a) (bases_of b)) → (x y z : Value) → AreOperands op k machine l a b x y →
    applied_to op k machine x y ≡ Ok z → Means l v z
blended_hold op k machine l a b v g x y z o t = subst (λ w. Means l w z) (sym g) (by_test (is_comparison op) refl)
  where
    by_test : (c : Bool) → is_comparison op ≡ c → Means l (cond c (Separate (truth_set true true) []) (Mixed (union_of (bases_of a) (bases_of b)))) z
    by_test true e =
        let r = made_ok (provenance_after op x.provenance y.provenance) (applied op k machine x.number y.number) z t in
        let i = truth_of op e k machine x.number y.number z.number r.number in
        inl (r.provenance ∙ ap (λ c. cond c nowhere (union x.provenance y.provenance)) e, subst (Holds (truth_set true true)) i.1 (any_truth i.0))
    by_test false e =
        let r = made_ok (provenance_after op x.provenance y.provenance) (applied op k machine x.number y.number) z t in
        λ q h. from_either l a b x y o.left o.right q (subst (λ p. contains p q ≡ true) (r.provenance ∙ ap (λ c. cond c nowhere (union x.provenance y.provenance)) e) h)

-- ---- the plain functions

pub blended_left : (op : BinOp) (k : IntKind) (m : Machine) (v w : AVal) → numbers_alone v ≡ None → blended op (union_of (bases_of v) (bases_of w)) ≡ integer_value op k m v w
blended_left op k m (Separate ns []) w e = cc
blended_left op k m (Separate ns (x ∷ xs)) w e = refl
blended_left op k m (Mixed bs) w e = refl

pub blended_right : (op : BinOp) (k : IntKind) (m : Machine) (v w : AVal) (n : Ival) → numbers_alone v ≡ Some n → numbers_alone w ≡ None → blended op (union_of (bases_of v) (bases_of w)) ≡ integer_value op k m v w
blended_right op k m (Separate ns []) (Separate ms []) n e f = cc
blended_right op k m (Separate ns []) (Separate ms (y ∷ ys)) n e f = refl
blended_right op k m (Separate ns []) (Mixed cs) n e f = refl
blended_right op k m (Separate ns (x ∷ xs)) w n e f = cc
blended_right op k m (Mixed bs) w n e f = cc

pub kinds_left : (op : BinOp) (k : IntKind) (m : Machine) (v w : AVal) → numbers_alone v ≡ None → possible_kinds op (is_signed k) ≡ integer_value_kinds op k m v w
kinds_left op k m (Separate ns []) w e = cc
kinds_left op k m (Separate ns (x ∷ xs)) w e = refl
kinds_left op k m (Mixed bs) w e = refl

pub kinds_right : (op : BinOp) (k : IntKind) (m : Machine) (v w : AVal) (n : Ival) → numbers_alone v ≡ Some n → numbers_alone w ≡ None → possible_kinds op (is_signed k) ≡ integer_value_kinds op k m v w
kinds_right op k m (Separate ns []) (Separate ms []) n e f = cc
kinds_right op k m (Separate ns []) (Separate ms (y ∷ ys)) n e f = refl
kinds_right op k m (Separate ns []) (Mixed cs) n e f = refl
kinds_right op k m (Separate ns (x ∷ xs)) w n e f = cc
kinds_right op k m (Mixed bs) w n e f = cc

pub value_numbers : (op : BinOp) (k : IntKind) (m : Machine) (v w : AVal) (n i s : Ival) → numbers_alone v ≡ Some n → numbers_alone w ≡ Some i → s ≡ integer_set op k m n i → Separate s [] ≡ integer_value op k m v w
value_numbers op k m (Separate ns []) (Separate ms []) n i s e f h =
    let d : n ≡ ns = cc in
    let g : i ≡ ms = cc in
    ap (λ z. Separate z []) (h ∙ ap (λ z. integer_set op k m z i) d ∙ ap (integer_set op k m ns) g)
value_numbers op k m (Separate ns []) (Separate ms (y ∷ ys)) n i s e f h = cc
value_numbers op k m (Separate ns []) (Mixed cs) n i s e f h = cc
value_numbers op k m (Separate ns (x ∷ xs)) w n i s e f h = cc
value_numbers op k m (Mixed bs) w n i s e f h = cc

pub kinds_numbers : (op : BinOp) (k : IntKind) (m : Machine) (v w : AVal) (n i : Ival) (s : KindSet) → numbers_alone v ≡ Some n → numbers_alone w ≡ Some i → s ≡ integer_kinds op k m n i → s ≡ integer_value_kinds op k m v w
kinds_numbers op k m (Separate ns []) (Separate ms []) n i s e f h =
    let d : n ≡ ns = cc in
    let g : i ≡ ms = cc in
    h ∙ ap (λ z. integer_kinds op k m z i) d ∙ ap (integer_kinds op k m ns) g
kinds_numbers op k m (Separate ns []) (Separate ms (y ∷ ys)) n i s e f h = cc
kinds_numbers op k m (Separate ns []) (Mixed cs) n i s e f h = cc
kinds_numbers op k m (Separate ns (x ∷ xs)) w n i s e f h = cc
kinds_numbers op k m (Mixed bs) w n i s e f h = cc

-- ---- kinds

pub any_cause_left : (op : BinOp) (k : IntKind) (m : Machine) (v w : AVal) (kind : Kind) → numbers_alone v ≡ None → Cause op k m v w kind
any_cause_left op k m (Separate ns []) w kind e = cc
any_cause_left op k m (Separate ns (x ∷ xs)) w kind e = tt
any_cause_left op k m (Mixed bs) w kind e = tt

pub any_cause_right : (op : BinOp) (k : IntKind) (m : Machine) (v w : AVal) (kind : Kind) (n : Ival) → numbers_alone v ≡ Some n → numbers_alone w ≡ None → Cause op k m v w kind
any_cause_right op k m (Separate ns []) (Separate ms []) kind n e f = cc
any_cause_right op k m (Separate ns []) (Separate ms (y ∷ ys)) kind n e f = tt
any_cause_right op k m (Separate ns []) (Mixed cs) kind n e f = tt
any_cause_right op k m (Separate ns (x ∷ xs)) w kind n e f = cc
any_cause_right op k m (Mixed bs) w kind n e f = cc

pub cause_numbers : (op : BinOp) (k : IntKind) (m : Machine) (v w : AVal) (kind : Kind) (n i : Ival) → numbers_alone v ≡ Some n → numbers_alone w ≡ Some i → GivesOne op k m n i (Err kind) → Cause op k m v w kind
cause_numbers op k m (Separate ns []) (Separate ms []) kind n i e f g =
    let d : n ≡ ns = cc in
    let h : i ≡ ms = cc in
    subst (λ z. GivesOne op k m ns z (Err kind)) h (subst (λ z. GivesOne op k m z i (Err kind)) d g)
cause_numbers op k m (Separate ns []) (Separate ms (y ∷ ys)) kind n i e f g = tt
cause_numbers op k m (Separate ns []) (Mixed cs) kind n i e f g = tt
cause_numbers op k m (Separate ns (x ∷ xs)) w kind n i e f g = tt
cause_numbers op k m (Mixed bs) w kind n i e f g = tt

-- the kinds of two values are those of their numbers
pub undefined_numbers : (op : BinOp) (k : IntKind) (machine : Machine) (l : Layout) (a b : AVal) (n m : Ival) → numbers_alone a ≡ Some n → numbers_alone b ≡ Some m → (x y : Value) (kind : Kind) → AreOperands op k machine l a b x y →
    applied_to op k machine x y ≡ Err kind → GivesOne op k machine n m (Err kind)
undefined_numbers op k machine l a b n m e f x y kind o t =
    let p = means_alone l a n x e o.left in
    let q = means_alone l b m y f o.right in
    record { left = x.number; right = y.number; in_left = p.1; in_right = q.1; fits_left = o.fits_left; fits_right = o.fits_right; is = made_err (provenance_after op x.provenance y.provenance) (applied op k machine x.number y.number) kind t }

pub undefined_any : (op : BinOp) (k : IntKind) (machine : Machine) (l : Layout) (a b : AVal) (s : KindSet) → s ≡ possible_kinds op (is_signed k) → (x y : Value) (kind : Kind) → AreOperands op k machine l a b x y →
    applied_to op k machine x y ≡ Err kind → allowed s kind ≡ true
undefined_any op k machine l a b s e x y kind o t =
    subst (λ z. allowed z kind ≡ true) (sym e) (possible op k machine x.number y.number kind o.fits_left o.fits_right (made_err (provenance_after op x.provenance y.provenance) (applied op k machine x.number y.number) kind t))
