-- Verdicts on single values hold one result at most, and none where they are not sure.
use Rattle.std.proofs.Common.{◌≡◌, ◌⊎◌, ℕ, ◌^◌, ◌<◌, ◌==◌, Bool, true, false, cond, ◌&&◌, ◌||◌, ℤ, pos, ◌-ℤ◌, [], ◌∷◌, refl, sym, subst, ap, ◌∙◌, inl, inr, arith}
use Rattle.std.specs.Prelude.{None, Some, Result, Ok, Err, is_some, int_le, int_div, neg_ℤ, unsigned_abs}
use Rattle.std.proofs.lemmas.Bool.{and_parts, and_from}
use Rattle.std.proofs.lemmas.Int.{ints}
use Rattle.c_base.specs.declared.kind.Kind.{Kind}
use Rattle.c_base.specs.declared.operators.Rel.{Rel}
use Rattle.c_base.specs.declared.operators.Rel.TheVariants.{Lt, Le, Gt, Ge, Eq, Ne}
use Rattle.c_base.specs.Operators.{truth_number}
use Rattle.c_memory.specs.Values.{Value}
use Rattle.c_memory.specs.Layouts.{Layout}
use Rattle.ival_core.specs.declared.value.Ival.{Ival}
use Rattle.ival_core.specs.Ivals.{Holds, IsOnly}
use Rattle.ival_core.specs.Sets.{IsNumber}
use Rattle.ival_core.specs.Views.{bounds_of, single_of}
use Rattle.ival_core.proofs.Orders.{le_true}
use Rattle.ival_arith.specs.declared.terms.Term.TheVariants.{Quotient}
use Rattle.ival_arith.specs.Kinds.{holds_number}
use Rattle.ival_arith.specs.Promises.{relates}
use Rattle.ival_arith.specs.Terms.{Lacks, lacks, term_value, exact_term}
use Rattle.ival_arith.proofs.Bounding.{number_held}
use Rattle.ival_arith.proofs.TermSets.{term_value-covers, lacks_true, lacks_false, sets, only_shape, single-only}
use Rattle.avalue_base.specs.Numbers.{is_empty}
use Rattle.avalue_base.specs.Values.{Address, AVal, Separate, Mixed}
use Rattle.avalue_base.specs.Meets.{set_of, lies_near, has_near_offsets}
use Rattle.avalue_base.specs.Meaning.{Means}
use Rattle.avalue_base.specs.Singles.{is_single_value}
use Rattle.avalue_base.proofs.Meets.{set_same}
use Rattle.aops.specs.Numbers.{truth_set, related}
use Rattle.aops.proofs.Narrow.{truth_only, related_only}
use Rattle.aops.proofs.Soles.{same_value, some_only, one_alone}
use Rattle.aops_pointers.specs.Moves.{option_set}
use Rattle.aops_pointers.proofs.Images.{image_single}
use Rattle.aops_relations.specs.declared.comparisons.Verdict.{Verdict}
use Rattle.aops_relations.specs.Placed.{one_address, all_within, some_within, all_inside, some_inside}
use Rattle.aops_relations.specs.Comparisons.{is_equality, nothing, untied, one_base, two_bases, two_addresses, zero_alone, with_null, two_numbers, judged}
use Rattle.aops_relations.specs.Differences.{quotient_of, or_far, quotients, within_one, undefined, differed}
use Rattle.aops_relations.specs.Soles.{IsSoleVerdict}
use Rattle.aops_relations.proofs.Differing.{one}

-- at most one number
abbrev IsSlim : Ival → Type 0
IsSlim v = (i j : ℤ) → Holds v i → Holds v j → i ≡ j

pub record IsTight (d : Verdict) : Type 0 where
  pub slim : IsSlim d.set
  pub none : d.sure ≡ false → (i : ℤ) → Holds d.set i → ⊥

-- ---- sets

no_truth_held : (i : ℤ) → Holds nothing i → ⊥
no_truth_held i h = elim (truth_only false false i h) [ inl p ↦ clash p.0 | inr p ↦ clash p.0 ]
  where
    clash : false ≡ true → ⊥
    clash e = cc

slim_nothing : IsSlim nothing
slim_nothing i j h k = absurd (no_truth_held i h)

slim_untied : (rel : Rel) → IsSlim (untied rel)
slim_untied Eq i j h k = zero i h ∙ sym (zero j k)
  where
    zero : (n : ℤ) → Holds (truth_set false true) n → n ≡ pos 0
    zero n h = elim (truth_only false true n h) [ inl p ↦ let e = p.0 in cc | inr p ↦ sym p.1 ]
slim_untied Ne i j h k = one i h ∙ sym (one j k)
  where
    one : (n : ℤ) → Holds (truth_set true false) n → n ≡ pos 1
    one n h = elim (truth_only true false n h) [ inl p ↦ sym p.1 | inr p ↦ let e = p.0 in cc ]
slim_untied Lt i j h k = slim_nothing i j h k
slim_untied Le i j h k = slim_nothing i j h k
slim_untied Gt i j h k = slim_nothing i j h k
slim_untied Ge i j h k = slim_nothing i j h k

slim_related : (rel : Rel) (a b : Ival) (x y : ℤ) → IsOnly a x → IsOnly b y → IsSlim (related rel a b)
slim_related rel a b x y p q i j h k = is i h ∙ sym (is j k)
  where
    is : (n : ℤ) → Holds (related rel a b) n → n ≡ truth_number (relates rel x y)
    is n h =
        let r = related_only rel a b n h in
        sym r.2 ∙ ap truth_number (sym r.1.is ∙ ap (λ z. relates rel z r.1.right) ((p r.1.left).0 r.1.in_left) ∙ ap (relates rel x) ((q r.1.right).0 r.1.in_right))

-- ---- verdicts

not_both : (t : Bool) → t ≡ true → t ≡ false → ⊥
not_both true e f = cc
not_both false e f = cc

tight_nothing : (sure : Bool) → IsTight (record { set = nothing; sure = sure })
tight_nothing sure = record { slim = slim_nothing; none = λ e. no_truth_held }

tight_if : (test : Bool) (set : Ival) (sure : Bool) → IsSlim set → (test ≡ true → sure ≡ true) → IsTight (record { set = cond test set nothing; sure = sure })
tight_if true set sure s f = record { slim = s; none = λ e i h. not_both sure (f refl) e }
tight_if false set sure s f = tight_nothing sure

tight_untied : (rel : Rel) (test sure : Bool) → (test ≡ true → sure ≡ true) → IsTight (record { set = cond test (untied rel) nothing; sure = is_equality rel && sure })
tight_untied Eq test sure f = tight_if test (untied Eq) sure (slim_untied Eq) f
tight_untied Ne test sure f = tight_if test (untied Ne) sure (slim_untied Ne) f
tight_untied Lt true sure f = tight_nothing false
tight_untied Lt false sure f = tight_nothing false
tight_untied Le true sure f = tight_nothing false
tight_untied Le false sure f = tight_nothing false
tight_untied Gt true sure f = tight_nothing false
tight_untied Gt false sure f = tight_nothing false
tight_untied Ge true sure f = tight_nothing false
tight_untied Ge false sure f = tight_nothing false

inside_same : (last : ℤ) (v : Ival) (o : ℤ) → IsOnly v o → some_within last (bounds_of v.shape) ≡ true → all_within last (bounds_of v.shape) ≡ true
inside_same last v o p h =
    subst (λ s. all_within last (bounds_of s) ≡ true) (sym (only_shape v o p)) (subst (λ s. some_within last (bounds_of s) ≡ true) (only_shape v o p) h)

all_zero : (v : Ival) (n : ℤ) → IsOnly v n → holds_number v.shape (pos 0) ≡ true → zero_alone v ≡ true
all_zero v n p h =
    let e : pos 0 ≡ n = (p (pos 0)).0 (number_held v.shape (pos 0) h) in
    subst (λ s. all_within (pos 0) (bounds_of s) ≡ true) (sym (only_shape v n p)) (subst (λ z. (int_le (pos 0) z && int_le z (pos 0)) ≡ true) e refl)

-- a single offset, and a single number
record IsPoint (a : Address) : Type 0 where
  offset : ℤ
  only : IsOnly a.offsets offset

inside_all : (last : ℤ) (a : Address) → IsPoint a → some_inside last a ≡ true → all_inside last a ≡ true
inside_all last a p h = inside_same last a.offsets p.offset p.only h

both_inside : (left right : ℤ) (a c : Address) → IsPoint a → IsPoint c → (some_inside left a && some_inside right c) ≡ true → (all_inside left a && all_inside right c) ≡ true
both_inside left right a c p q h =
    let t = and_parts (some_inside left a) (some_inside right c) h in
    and_from (all_inside left a) (all_inside right c) (inside_all left a p t.0) (inside_all right c q t.1)

tight_null : (rel : Rel) (size : ℕ) (a : Address) (ns : Ival) (n : ℤ) → IsPoint a → IsOnly ns n → IsTight (with_null rel size a ns)
tight_null rel size a ns n p o = tight_untied rel (holds_number ns.shape (pos 0) && some_inside (pos size) a) (zero_alone ns && all_inside (pos size) a) (λ h.
    let t = and_parts (holds_number ns.shape (pos 0)) (some_inside (pos size) a) h in
    and_from (zero_alone ns) (all_inside (pos size) a) (all_zero ns n o t.0) (inside_all (pos size) a p t.1))

tight_numbers : (rel : Rel) (ns ms : Ival) (n m : ℤ) → IsOnly ns n → IsOnly ms m → IsTight (two_numbers rel ns ms)
tight_numbers rel ns ms n m p q = at (is_equality rel) _
  where
    at : (t u : Bool) → IsTight (record { set = cond t (related rel ns ms) nothing; sure = t || u })
    at true u = record { slim = slim_related rel ns ms n m p q; none = λ e. cc }
    at false u = tight_nothing u

tight_addresses : (rel : Rel) (size_of : ℕ → ℕ) (a c : Address) → IsPoint a → IsPoint c → IsTight (two_addresses rel size_of a c)
tight_addresses rel size_of a c p q = at (a.base == c.base)
  where
    at : (t : Bool) → IsTight (cond t (one_base rel (size_of a.base) a c) (two_bases rel (size_of a.base) (size_of c.base) a c))
    at true = tight_if (some_inside (pos (size_of a.base)) a && some_inside (pos (size_of a.base)) c) (related rel a.offsets c.offsets) (all_inside (pos (size_of a.base)) a && all_inside (pos (size_of a.base)) c)
        (slim_related rel a.offsets c.offsets p.offset q.offset p.only q.only) (both_inside (pos (size_of a.base)) (pos (size_of a.base)) a c p q)
    at false = tight_untied rel (some_inside (pos (size_of a.base) -ℤ pos 1) a && some_inside (pos (size_of c.base) -ℤ pos 1) c) (all_inside (pos (size_of a.base) -ℤ pos 1) a && all_inside (pos (size_of c.base) -ℤ pos 1) c)
        (both_inside (pos (size_of a.base) -ℤ pos 1) (pos (size_of c.base) -ℤ pos 1) a c p q)

-- ---- values

-- a single value is one number, or one address
record IsNumberAlone (v : AVal) : Type 0 where
  set : Ival
  number : ℤ
  only : IsOnly set number
  is : v ≡ Separate set []

record IsAddressAlone (v : AVal) : Type 0 where
  set : Ival
  address : Address
  is : v ≡ Separate set (address ∷ [])
  empty : is_empty set.shape ≡ true
  point : IsPoint address
  near : lies_near (bounds_of address.offsets.shape) ≡ true

sorts : (v : AVal) → is_single_value v ≡ true → has_near_offsets v ≡ true → IsNumberAlone v ⊎ IsAddressAlone v
sorts (Separate ns []) h n = let o = some_only ns h in inl (record { set = ns; number = o.0; only = o.1; is = refl })
sorts (Separate ns (a ∷ [])) h n =
    let p = and_parts (is_empty ns.shape) (is_some (single_of a.offsets.shape)) h in
    let o = some_only a.offsets p.1 in
    inr (record { set = ns; address = a; is = refl; empty = p.0; point = record { offset = o.0; only = o.1 }; near = (and_parts (lies_near (bounds_of a.offsets.shape)) true n).0 })
sorts (Separate ns (a ∷ b ∷ xs)) h n = cc
sorts (Mixed bs) h n = cc

one_is : (ns : Ival) (a : Address) → is_empty ns.shape ≡ true → lies_near (bounds_of a.offsets.shape) ≡ true → one_address (Separate ns (a ∷ [])) ≡ Some a
one_is ns a e n = rw (e, n) refl

pub judged_tight : (rel : Rel) (size_of : ℕ → ℕ) (v w : AVal) → is_single_value v ≡ true → is_single_value w ≡ true → has_near_offsets v ≡ true → has_near_offsets w ≡ true → IsTight (judged rel size_of v w)
judged_tight rel size_of v w h k n m =
    elim (sorts v h n) [
      | inl p ↦ elim (sorts w k m) [
        | inl q ↦ rw (p.is, q.is) (tight_numbers rel p.set q.set p.number q.number p.only q.only)
        | inr q ↦ rw (p.is, q.is, one_is q.set q.address q.empty q.near) (tight_null rel (size_of q.address.base) q.address p.set p.number q.point p.only)
      ]
      | inr p ↦ elim (sorts w k m) [
        | inl q ↦ rw (p.is, q.is, one_is p.set p.address p.empty p.near) (tight_null rel (size_of p.address.base) p.address q.set q.number p.point q.only)
        | inr q ↦ rw (p.is, q.is, one_is p.set p.address p.empty p.near, one_is q.set q.address q.empty q.near) (tight_addresses rel size_of p.address q.address p.point q.point)
      ]
    ]

-- ---- differences

near_apart : (a b : Ival) (x y : ℤ) → IsOnly a x → IsOnly b y → lies_near (bounds_of a.shape) ≡ true → lies_near (bounds_of b.shape) ≡ true → IsNumber (x -ℤ y)
near_apart a b x y p q n m =
    let e = subst (λ s. lies_near (bounds_of s) ≡ true) (only_shape a x p) n in
    let f = subst (λ s. lies_near (bounds_of s) ≡ true) (only_shape b y q) m in
    let g = and_parts (int_le (neg_ℤ (pos (2 ^ 62))) x) (int_le x (pos (2 ^ 62))) e in
    let h = and_parts (int_le (neg_ℤ (pos (2 ^ 62))) y) (int_le y (pos (2 ^ 62))) f in
    let i = le_true (neg_ℤ (pos (2 ^ 62))) x g.0 in
    let j = le_true x (pos (2 ^ 62)) g.1 in
    let k = le_true (neg_ℤ (pos (2 ^ 62))) y h.0 in
    let l = le_true y (pos (2 ^ 62)) h.1 in
    record { least = omega (arith, ints); greatest = omega (arith, ints) }

slim_quotient : (size : ℕ) → 0 < size → size < 2 ^ 64 → (d : Ival) (n : ℤ) → IsOnly d n → IsSlim (or_far (quotient_of size (Some d)))
unfolding exact_term one
slim_quotient size s b d n o = at (lacks Quotient d.shape (one size b).shape) refl
  where
    divisor : IsOnly (one size b) (pos size)
    divisor k = ((λ h. elim h [ inl e ↦ e | inr i ↦ absurd i ]), (λ e. inl e))

    at : (t : Bool) → lacks Quotient d.shape (one size b).shape ≡ t → IsSlim (or_far (option_set (cond t None (Some (term_value Quotient d.shape (one size b).shape)))))
    at true f = absurd (no (lacks_true Quotient d (one size b) f))
      where
        no : Lacks Quotient d (one size b) → ⊥
        no l = l.undefined (subst (λ z. 0 < unsigned_abs z) (sym ((divisor l.right).0 l.in_right)) s)
    at false f =
        let all = lacks_false Quotient d (one size b) f in
        let c = term_value-covers Quotient d.shape (one size b).shape (sets Quotient d (one size b) all) in
        let v : Ival = record { shape = term_value Quotient d.shape (one size b).shape; valid = c.valid } in
        let only : IsOnly v (int_div n (pos size)) = single-only Quotient d (one size b) v all refl n (pos size) o divisor in
        let same : v ≡ set_of v.shape = set_same v v.shape refl in
        λ i j h k. one_alone v (int_div n (pos size)) i j only (subst (λ z. Holds z i) (sym same) h) (subst (λ z. Holds z j) (sym same) k)

slim_quotients : (size : ℕ) → 0 < size → size < 2 ^ 64 → (a b : Ival) (x y : ℤ) → IsOnly a x → IsOnly b y → IsNumber (x -ℤ y) → IsSlim (quotients size a b)
unfolding quotients
slim_quotients size s t a b x y p q n =
    let i = image_single (λ m k. m -ℤ k) a b x y p q n in
    subst (λ o. IsSlim (or_far (quotient_of size o))) (sym i.is) (slim_quotient size s t i.set (x -ℤ y) i.only)

tight_within : (size : ℕ) → 0 < size → size < 2 ^ 64 → (bytes : ℕ) (a c : Address) (p : IsPoint a) (q : IsPoint c) → lies_near (bounds_of a.offsets.shape) ≡ true → lies_near (bounds_of c.offsets.shape) ≡ true → IsTight (within_one size bytes a c)
tight_within size s t bytes a c p q n m =
    tight_if (some_inside (pos bytes) a && some_inside (pos bytes) c) (quotients size a.offsets c.offsets) (all_inside (pos bytes) a && all_inside (pos bytes) c)
    (slim_quotients size s t a.offsets c.offsets p.offset q.offset p.only q.only (near_apart a.offsets c.offsets p.offset q.offset p.only q.only n m)) (both_inside (pos bytes) (pos bytes) a c p q)

pub differed_tight : (size : ℕ) → 0 < size → size < 2 ^ 64 → (size_of : ℕ → ℕ) (v w : AVal) → is_single_value v ≡ true → is_single_value w ≡ true → has_near_offsets v ≡ true → has_near_offsets w ≡ true → IsTight (differed size size_of v w)
differed_tight size s t size_of v w h k n m =
    elim (sorts v h n) [
      | inl p ↦ elim (sorts w k m) [
        | inl q ↦ rw (p.is, q.is) (tight_nothing _)
        | inr q ↦ rw (p.is, q.is) (tight_nothing false)
      ]
      | inr p ↦ elim (sorts w k m) [
        | inl q ↦ rw (p.is, q.is) (tight_nothing false)
        | inr q ↦ rw (p.is, q.is, one_is p.set p.address p.empty p.near, one_is q.set q.address q.empty q.near) (both p.address q.address p.point q.point p.near q.near (p.address.base == q.address.base))
      ]
    ]
  where
    both : (a c : Address) → IsPoint a → IsPoint c → lies_near (bounds_of a.offsets.shape) ≡ true → lies_near (bounds_of c.offsets.shape) ≡ true → (u : Bool) → IsTight (cond u (within_one size (size_of a.base) a c) undefined)
    both a c p q n m true = tight_within size s t (size_of a.base) a c p q n m
    both a c p q n m false = tight_nothing false

-- ---- soles

pub sole_verdict : (l : Layout) (r : Result Value Kind) (d : Verdict) → IsTight d → ((z : Value) → r ≡ Ok z → Means l (Separate d.set []) z) → (d.sure ≡ true → (kind : Kind) → r ≡ Err kind → ⊥) → IsSoleVerdict l r d
sole_verdict l r d t holds sure = record { value = λ z. (at z r refl, holds z); sure = sure; unsure = λ e. by r refl e }
  where
    same : (x y : Value) → Means l (Separate d.set []) x → Means l (Separate d.set []) y → x ≡ y
    same x y (inl a) (inl b) = same_value x y (t.slim x.number y.number a.1 b.1) (a.0 ∙ sym b.0)
    same x y (inl a) (inr b) = absurd b
    same x y (inr a) b = absurd a

    empty : d.sure ≡ false → (z : Value) → Means l (Separate d.set []) z → ⊥
    empty e z (inl a) = t.none e z.number a.1
    empty e z (inr a) = absurd a

    split : (b : Bool) → (b ≡ true → ⊥) → b ≡ false
    split true f = absurd (f refl)
    split false f = refl

    at : (z : Value) (q : Result Value Kind) → r ≡ q → Means l (Separate d.set []) z → r ≡ Ok z
    at z (Ok y) e h = e ∙ ap Ok (same y z (holds y e) h)
    at z (Err kind) e h = absurd (empty (split d.sure (λ s. sure s kind e)) z h)

    by : (q : Result Value Kind) → r ≡ q → d.sure ≡ false → (kind : Kind) × (r ≡ Err kind)
    by (Ok y) e f = absurd (empty f y (holds y e))
    by (Err kind) e f = (kind, e)
