-- What comparisons of values tell is what they give.
use Rattle.std.proofs.Common.{◌≡◌, ℕ, ◌+◌, ◌≤◌, ◌==◌, Bool, true, false, cond, ◌&&◌, ◌||◌, ℤ, pos, ◌+ℤ◌, ◌-ℤ◌, [], refl, sym, subst, ap, ◌∙◌, inl, inr, arith, eq-eqb}
use Rattle.std.specs.Prelude.{Option, None, Some, not, int_le, int_lt, Result, Ok, Err}
use Rattle.std.proofs.Math.Nat.{one-dvd}
use Rattle.std.proofs.lemmas.Bool.{and_parts, and_from, or_cases, or_left, eqb-true}
use Rattle.std.proofs.lemmas.Int.{ints}
use lib.Signed.{◌≤ℤ◌}
use Rattle.c_base.specs.declared.operators.Rel.{Rel}
use Rattle.c_base.specs.declared.operators.Rel.TheVariants.{Lt, Le, Gt, Ge, Eq, Ne}
use Rattle.c_base.specs.declared.kind.Kind.{Kind}
use Rattle.c_base.specs.declared.kind.Kind.TheVariants.{PtrComparison}
use Rattle.c_base.specs.Operators.{is_zero, truth_number}
use Rattle.c_memory.specs.Values.{Value, nowhere}
use Rattle.c_memory.specs.Layouts.{Layout}
use Rattle.c_pointers.specs.Addresses.{is_plain, only_base, is_in_or_behind, is_inside}
use Rattle.c_pointers.specs.Pointers.{compared, are_of_one_object, are_comparable, may_compare, comparison}
use Rattle.ival_core.specs.declared.value.Ival.{Ival}
use Rattle.ival_core.specs.Ivals.{Holds}
use Rattle.ival_core.specs.Sets.{apart}
use Rattle.ival_core.specs.Views.{bounds_of}
use Rattle.ival_core.proofs.Orders.{le_true, true_le}
use Rattle.ival_arith.specs.Kinds.{holds_number}
use Rattle.ival_arith.specs.Promises.{relates}
use Rattle.ival_arith.proofs.Bounding.{held_number}
use Rattle.avalue_base.specs.Lists.{has_base, all_among}
use Rattle.avalue_base.specs.Numbers.{is_empty, words}
use Rattle.avalue_base.specs.Values.{Address, AVal, Separate, Mixed, base_of, bases_of}
use Rattle.avalue_base.specs.Meaning.{IsWord, Means}
use Rattle.avalue_base.specs.Meets.{meet_of, lies_near}
use Rattle.avalue_base.proofs.Lists.{all-In, In-has, In-map, among-has}
use Rattle.avalue_base.proofs.Means.{means_among}
use Rattle.avalue_base.proofs.Meets.{meet_is}
use Rattle.avalue_base.proofs.Sets.{empty_none}
use Rattle.avalue_values.specs.Views.{numbers_alone}
use Rattle.aops.specs.Numbers.{truth_set, related}
use Rattle.aops.proofs.Sorts.{truth_held, related_held}
use Rattle.aops.proofs.Giving.{means_alone}
use Rattle.aops_relations.specs.Placed.{IsPlaced, ArePointers, one_address, is_within, all_inside, some_inside}
use Rattle.aops_relations.specs.declared.comparisons.Verdict.{Verdict}
use Rattle.aops_relations.specs.Comparisons.{op_of, is_equality, nothing, untied, unknown, one_base, two_bases, two_addresses, zero_alone, with_null, two_numbers, is_good, all_good, tested, with_numbers, by_numbers, by_addresses, judged}
use Rattle.aops_relations.proofs.Spots.{Spot, spot, plain_none, plain_is, all_are, some_is, IsOne, one_is}

-- the verdict has each truth, and is not sure where the comparison is undefined
pub record IsRight (rel : Rel) (l : Layout) (x y : Value) (d : Verdict) : Type 0 where
  pub holds : may_compare (op_of rel) l x y ≡ true → Holds d.set (truth_number (compared (op_of rel) x.number y.number))
  pub sure : d.sure ≡ true → may_compare (op_of rel) l x y ≡ true

-- ---- relations

may_equal : (rel : Rel) (l : Layout) (x y : Value) → is_equality rel ≡ true → may_compare (op_of rel) l x y ≡ are_comparable l x y
may_equal Eq l x y e = refl
may_equal Ne l x y e = refl
may_equal Lt l x y e = cc
may_equal Le l x y e = cc
may_equal Gt l x y e = cc
may_equal Ge l x y e = cc

may_other : (rel : Rel) (l : Layout) (x y : Value) → is_equality rel ≡ false → may_compare (op_of rel) l x y ≡ are_of_one_object l x y
may_other Eq l x y e = cc
may_other Ne l x y e = cc
may_other Lt l x y e = refl
may_other Le l x y e = refl
may_other Gt l x y e = refl
may_other Ge l x y e = refl

compared_is : (rel : Rel) (a b : ℤ) → compared (op_of rel) a b ≡ relates rel a b
compared_is Eq a b = refl
compared_is Ne a b = refl
compared_is Lt a b = refl
compared_is Le a b = refl
compared_is Gt a b = refl
compared_is Ge a b = refl

same_bool : (a b : Bool) → (a ≡ true → b ≡ true) → (b ≡ true → a ≡ true) → a ≡ b
same_bool true b f g = sym (f refl)
same_bool false true f g = g refl
same_bool false false f g = refl

le_shift : (m a b : ℤ) → int_le (m +ℤ a) (m +ℤ b) ≡ int_le a b
le_shift m a b =
    same_bool (int_le (m +ℤ a) (m +ℤ b)) (int_le a b)
    (λ e. let h = le_true (m +ℤ a) (m +ℤ b) e in true_le a b (omega (arith, ints)))
    (λ e. let h = le_true a b e in true_le (m +ℤ a) (m +ℤ b) (omega (arith, ints)))

lt_le : (a b : ℤ) → int_lt a b ≡ not (int_le b a)
lt_le a b = grind (arith, ints)

lt_shift : (m a b : ℤ) → int_lt (m +ℤ a) (m +ℤ b) ≡ int_lt a b
lt_shift m a b = lt_le (m +ℤ a) (m +ℤ b) ∙ ap not (le_shift m b a) ∙ sym (lt_le a b)

relates_shift : (rel : Rel) (m a b : ℤ) → relates rel (m +ℤ a) (m +ℤ b) ≡ relates rel a b
relates_shift Lt m a b = lt_shift m a b
relates_shift Le m a b = le_shift m a b
relates_shift Gt m a b = lt_shift m b a
relates_shift Ge m a b = le_shift m b a
relates_shift Eq m a b = rw (le_shift m a b, le_shift m b a) refl
relates_shift Ne m a b = rw (le_shift m a b, le_shift m b a) refl

equal_both : (a b : ℤ) → (int_le a b && int_le b a) ≡ true → a ≡ b
equal_both a b h =
    let p = and_parts (int_le a b) (int_le b a) h in
    let f = le_true a b p.0 in
    let g = le_true b a p.1 in
    omega (arith, ints)

untied_holds : (rel : Rel) → is_equality rel ≡ true → (a b : ℤ) → (a ≡ b → ⊥) → Holds (untied rel) (truth_number (compared (op_of rel) a b))
untied_holds Eq e a b n = truth_held false true (int_le a b && int_le b a) (λ t. absurd (n (equal_both a b t))) (λ t. refl)
untied_holds Ne e a b n = truth_held true false (not (int_le a b && int_le b a)) (λ t. refl) (λ t. absurd (n (equal_both a b (turned (int_le a b && int_le b a) t))))
  where
    turned : (t : Bool) → not t ≡ false → t ≡ true
    turned true e = refl
    turned false e = cc
untied_holds Lt e a b n = cc
untied_holds Le e a b n = cc
untied_holds Gt e a b n = cc
untied_holds Ge e a b n = cc

any_truth : (rel : Rel) (a b : ℤ) → Holds (truth_set true true) (truth_number (compared (op_of rel) a b))
any_truth rel a b = truth_held true true (compared (op_of rel) a b) (λ e. refl) (λ e. refl)

zero_is : (n : ℤ) → is_within (pos 0) n ≡ true → n ≡ pos 0
zero_is n h = equal_both n (pos 0) (and_from (int_le n (pos 0)) (int_le (pos 0) n) (and_parts (int_le (pos 0) n) (int_le n (pos 0)) h).1 (and_parts (int_le (pos 0) n) (int_le n (pos 0)) h).0)

zero_true : (n : ℤ) → n ≡ pos 0 → is_zero n ≡ true
zero_true n e = ap is_zero e

or_false : (a : Bool) → (a || false) ≡ a
or_false true = refl
or_false false = refl

pub no : (t : Bool) → t ≡ false → t ≡ true → ⊥
no true e f = cc
no false e f = cc

-- ---- numbers

pub word_in : (n : ℤ) → IsWord n → Holds words n
unfolding words
word_in n w =
    let a = w.low in
    let b = w.high in
    record { above = a; below = omega (arith, ints); meets = one-dvd (apart (pos 0) n) }

pub plain_apart : (l : Layout) (x y : Value) → only_base l x ≡ None → are_of_one_object l x y ≡ false
plain_apart l x y e = rw e refl

right_numbers : (rel : Rel) (l : Layout) (x y : Value) (ns ms : Ival) → x.provenance ≡ nowhere → y.provenance ≡ nowhere → Holds ns x.number → Holds ms y.number → IsWord x.number → IsWord y.number → IsRight rel l x y (two_numbers rel ns ms)
right_numbers rel l x y ns ms p q h k u w = at (is_equality rel) refl
  where
    none : (a : Ival) (n : ℤ) → Holds a n → IsWord n → is_empty (meet_of a words).shape ≡ true → ⊥
    none a n i v e = empty_none (meet_of a words) n e ((meet_is a words n).1 (i, word_in n v))

    at : (t : Bool) → is_equality rel ≡ t → IsRight rel l x y (record { set = cond t (related rel ns ms) nothing; sure = t || (is_empty (meet_of ns words).shape || is_empty (meet_of ms words).shape) })
    at true e = record {
      holds = λ m. subst (λ z. Holds (related rel ns ms) (truth_number z)) (sym (compared_is rel x.number y.number)) (related_held rel ns ms x.number y.number h k);
      sure = λ s. may_equal rel l x y e ∙ or_left (is_plain x && is_plain y) _ (and_from (is_plain x) (is_plain y) (plain_is x p) (plain_is y q));
    }
    at false e = record {
      holds = λ m. absurd (no (are_of_one_object l x y) (plain_apart l x y (plain_none l x p)) (sym (may_other rel l x y e) ∙ m));
      sure = λ s. absurd (elim (or_cases (is_empty (meet_of ns words).shape) (is_empty (meet_of ms words).shape) s) [ inl z ↦ none ns x.number h u z | inr z ↦ none ms y.number k w z ]);
    }

-- ---- an address and a null pointer

comparable_null : (l : Layout) (x y : Value) (b : ℕ) → is_plain x ≡ false → is_plain y ≡ true → only_base l x ≡ Some b → only_base l y ≡ None → are_comparable l x y ≡ (is_zero y.number && is_in_or_behind l b x)
comparable_null l x y b e f g h = rw (e, f, g, h) (or_false (is_zero y.number && is_in_or_behind l b x))

comparable_null_first : (l : Layout) (y x : Value) (b : ℕ) → is_plain x ≡ false → is_plain y ≡ true → only_base l x ≡ Some b → only_base l y ≡ None → are_comparable l y x ≡ (is_zero y.number && is_in_or_behind l b x)
comparable_null_first l y x b e f g h = rw (e, f, g, h) (or_false (is_zero y.number && is_in_or_behind l b x))

apart_right : (l : Layout) (x y : Value) (b : ℕ) → only_base l x ≡ Some b → only_base l y ≡ None → are_of_one_object l x y ≡ false
apart_right l x y b e f = rw (e, f) refl

-- what an address and a number beside it are
record AreNull (l : Layout) (size : ℕ) (a : Address) (ns : Ival) (x y : Value) : Type 0 where
  base : ℕ
  o : ℤ
  held : Holds a.offsets o
  spot : Spot l base o x
  size_is : l.size base ≡ size
  low : 1 ≤ l.address base
  plain : y.provenance ≡ nowhere
  number : Holds ns y.number

module _ (l : Layout) (size : ℕ) (a : Address) (ns : Ival) (x y : Value) (n : AreNull l size a ns x y) where
  null_within : is_in_or_behind l n.base x ≡ is_within (pos size) n.o
  null_within = n.spot.behind ∙ ap (λ k. is_within (pos k) n.o) n.size_is

  null_test : (is_zero y.number && is_in_or_behind l n.base x) ≡ true → (holds_number ns.shape (pos 0) && some_inside (pos size) a) ≡ true
  null_test h =
      let p = and_parts (is_zero y.number) (is_in_or_behind l n.base x) h in
      let z : y.number ≡ pos 0 = equal_both y.number (pos 0) p.0 in
      and_from (holds_number ns.shape (pos 0)) (some_inside (pos size) a)
      (held_number ns.shape (pos 0) (subst (Holds ns) z n.number))
      (some_is a.offsets (pos size) n.o n.held (sym null_within ∙ p.1))

  null_differ : (is_zero y.number && is_in_or_behind l n.base x) ≡ true → x.number ≡ y.number → ⊥
  null_differ h e =
      let p = and_parts (is_zero y.number) (is_in_or_behind l n.base x) h in
      let z : y.number ≡ pos 0 = equal_both y.number (pos 0) p.0 in
      let w = sym n.spot.behind ∙ p.1 in
      let q = and_parts (int_le (pos 0) n.o) (int_le n.o (pos (l.size n.base))) w in
      far (l.address n.base) n.o x.number n.low (le_true (pos 0) n.o q.0) (n.spot.number w) (e ∙ z)
    where
      far : (a : ℕ) (o m : ℤ) → 1 ≤ a → pos 0 ≤ℤ o → m ≡ pos a +ℤ o → m ≡ pos 0 → ⊥
      far a o m l h e f = omega (arith, ints)

  null_sure : zero_alone ns ≡ true → all_inside (pos size) a ≡ true → (is_zero y.number && is_in_or_behind l n.base x) ≡ true
  null_sure z i =
      and_from (is_zero y.number) (is_in_or_behind l n.base x) (zero_true y.number (zero_is y.number (all_are ns (pos 0) y.number z n.number))) (null_within ∙ all_are a.offsets (pos size) n.o i n.held)

  right_null : (rel : Rel) (u w : Value) → (is_equality rel ≡ true → may_compare (op_of rel) l u w ≡ (is_zero y.number && is_in_or_behind l n.base x)) → (is_equality rel ≡ false → may_compare (op_of rel) l u w ≡ false) →
      ((is_zero y.number && is_in_or_behind l n.base x) ≡ true → u.number ≡ w.number → ⊥) → IsRight rel l u w (with_null rel size a ns)
  right_null rel u w f g d = at (is_equality rel) refl
    where
      at : (t : Bool) → is_equality rel ≡ t → IsRight rel l u w (record { set = cond (holds_number ns.shape (pos 0) && some_inside (pos size) a) (untied rel) nothing; sure = t && (zero_alone ns && all_inside (pos size) a) })
      at true e = record {
        holds = λ m. let h = sym (f e) ∙ m in
            subst (λ t. Holds (cond t (untied rel) nothing) (truth_number (compared (op_of rel) u.number w.number))) (sym (null_test h)) (untied_holds rel e u.number w.number (d h));
        sure = λ s. let p = and_parts (zero_alone ns) (all_inside (pos size) a) s in f e ∙ null_sure p.0 p.1;
      }
      at false e = record { holds = λ m. absurd (no (may_compare (op_of rel) l u w) (g e) m); sure = λ s. cc }

  right_null_second : (rel : Rel) → IsRight rel l x y (with_null rel size a ns)
  right_null_second rel =
      right_null rel x y
      (λ e. may_equal rel l x y e ∙ comparable_null l x y n.base n.spot.plain (plain_is y n.plain) n.spot.only (plain_none l y n.plain))
      (λ e. may_other rel l x y e ∙ apart_right l x y n.base n.spot.only (plain_none l y n.plain))
      null_differ

  right_null_first : (rel : Rel) → IsRight rel l y x (with_null rel size a ns)
  right_null_first rel =
      right_null rel y x
      (λ e. may_equal rel l y x e ∙ comparable_null_first l y x n.base n.spot.plain (plain_is y n.plain) n.spot.only (plain_none l y n.plain))
      (λ e. may_other rel l y x e ∙ plain_apart l y x (plain_none l y n.plain))
      (λ h e. null_differ h (sym e))

-- ---- two addresses

pub share_same : (l : Layout) (x y : Value) (b : ℕ) → only_base l x ≡ Some b → only_base l y ≡ Some b → are_of_one_object l x y ≡ (is_in_or_behind l b x && is_in_or_behind l b y)
share_same l x y b e f = let s : (b == b) ≡ true = eq-eqb b b refl in rw (e, f, s) refl

comparable_same : (l : Layout) (x y : Value) (b : ℕ) → is_plain x ≡ false → is_plain y ≡ false → only_base l x ≡ Some b → only_base l y ≡ Some b → are_comparable l x y ≡ (is_in_or_behind l b x && is_in_or_behind l b y)
comparable_same l x y b e f g h = let s : (b == b) ≡ true = eq-eqb b b refl in rw (e, f, g, h, s) (or_false (is_in_or_behind l b x && is_in_or_behind l b y))

comparable_apart : (l : Layout) (x y : Value) (b c : ℕ) → is_plain x ≡ false → is_plain y ≡ false → only_base l x ≡ Some b → only_base l y ≡ Some c → (b == c) ≡ false → are_comparable l x y ≡ (is_inside l b x && is_inside l c y)
comparable_apart l x y b c e f g h s = rw (e, f, g, h, s) refl

pub share_apart : (l : Layout) (x y : Value) (b c : ℕ) → only_base l x ≡ Some b → only_base l y ≡ Some c → (b == c) ≡ false → are_of_one_object l x y ≡ false
share_apart l x y b c e f s = rw (e, f, s) refl

right_same : (rel : Rel) (l : Layout) (b size : ℕ) (x y : Value) (a c : Address) (o i : ℤ) → Spot l b o x → Spot l b i y → l.size b ≡ size → Holds a.offsets o → Holds c.offsets i → IsRight rel l x y (one_base rel size a c)
right_same rel l b size x y a c o i s t e h k = record {
  holds = λ m. let p = and_parts (is_in_or_behind l b x) (is_in_or_behind l b y) (sym may ∙ m) in
      let u = sym s.behind ∙ p.0 in
      let w = sym t.behind ∙ p.1 in
      let test = and_from (some_inside (pos size) a) (some_inside (pos size) c) (some_is a.offsets (pos size) o h (subst (λ n. is_within (pos n) o ≡ true) e u)) (some_is c.offsets (pos size) i k (subst (λ n. is_within (pos n) i ≡ true) e w)) in
      subst (λ z. Holds (cond z (related rel a.offsets c.offsets) nothing) (truth_number (compared (op_of rel) x.number y.number))) (sym test)
      (subst (λ z. Holds (related rel a.offsets c.offsets) (truth_number z)) (sym (numbers u w)) (related_held rel a.offsets c.offsets o i h k));
  sure = λ j. let p = and_parts (all_inside (pos size) a) (all_inside (pos size) c) j in
      may ∙ and_from (is_in_or_behind l b x) (is_in_or_behind l b y)
      (s.behind ∙ subst (λ n. is_within (pos n) o ≡ true) (sym e) (all_are a.offsets (pos size) o p.0 h))
      (t.behind ∙ subst (λ n. is_within (pos n) i ≡ true) (sym e) (all_are c.offsets (pos size) i p.1 k));
}
  where
    may : may_compare (op_of rel) l x y ≡ (is_in_or_behind l b x && is_in_or_behind l b y)
    may = at (is_equality rel) refl
      where
        at : (z : Bool) → is_equality rel ≡ z → may_compare (op_of rel) l x y ≡ (is_in_or_behind l b x && is_in_or_behind l b y)
        at true f = may_equal rel l x y f ∙ comparable_same l x y b s.plain t.plain s.only t.only
        at false f = may_other rel l x y f ∙ share_same l x y b s.only t.only

    numbers : is_within (pos (l.size b)) o ≡ true → is_within (pos (l.size b)) i ≡ true → compared (op_of rel) x.number y.number ≡ relates rel o i
    numbers u w = compared_is rel x.number y.number ∙ ap (λ z. relates rel z y.number) (s.number u) ∙ ap (λ z. relates rel (pos (l.address b) +ℤ o) z) (t.number w) ∙ relates_shift rel (pos (l.address b)) o i

right_apart : (rel : Rel) (l : Layout) (size_of : ℕ → ℕ) (b d left right : ℕ) (x y : Value) (a c : Address) (o i : ℤ) → IsPlaced l size_of → has_base l.bases b ≡ true → has_base l.bases d ≡ true → (b == d) ≡ false →
    Spot l b o x → Spot l d i y → l.size b ≡ left → l.size d ≡ right → Holds a.offsets o → Holds c.offsets i → IsRight rel l x y (two_bases rel left right a c)
right_apart rel l size_of b d left right x y a c o i pl hb hd n s t e f h k = at (is_equality rel) refl
  where
    inner_left : is_inside l b x ≡ is_within (pos left -ℤ pos 1) o
    inner_left = s.inside ∙ ap (λ m. is_within (pos m -ℤ pos 1) o) e

    inner_right : is_inside l d y ≡ is_within (pos right -ℤ pos 1) i
    inner_right = t.inside ∙ ap (λ m. is_within (pos m -ℤ pos 1) i) f

    wider : (m : ℕ) (z : ℤ) → is_within (pos m -ℤ pos 1) z ≡ true → is_within (pos m) z ≡ true
    wider m z j =
        let p = and_parts (int_le (pos 0) z) (int_le z (pos m -ℤ pos 1)) j in
        let q = le_true z (pos m -ℤ pos 1) p.1 in
        and_from (int_le (pos 0) z) (int_le z (pos m)) p.0 (true_le z (pos m) (omega (arith, ints)))

    differ : is_within (pos (l.size b) -ℤ pos 1) o ≡ true → is_within (pos (l.size d) -ℤ pos 1) i ≡ true → x.number ≡ y.number → ⊥
    differ u w g =
        let p = and_parts (int_le (pos 0) o) (int_le o (pos (l.size b) -ℤ pos 1)) u in
        let q = and_parts (int_le (pos 0) i) (int_le i (pos (l.size d) -ℤ pos 1)) w in
        elim (pl.apart b d hb hd (λ z. no (b == d) n (eq-eqb b d z))) [
          | inl v ↦ before (l.address b) (l.size b) (l.address d) o i (le_true o (pos (l.size b) -ℤ pos 1) p.1) (le_true (pos 0) i q.0) v (sym (s.number (wider (l.size b) o u)) ∙ g ∙ t.number (wider (l.size d) i w))
          | inr v ↦ before (l.address d) (l.size d) (l.address b) i o (le_true i (pos (l.size d) -ℤ pos 1) q.1) (le_true (pos 0) o p.0) v (sym (t.number (wider (l.size d) i w)) ∙ sym g ∙ s.number (wider (l.size b) o u))
        ]
      where
        before : (a s c : ℕ) (o i : ℤ) → o ≤ℤ (pos s -ℤ pos 1) → pos 0 ≤ℤ i → a + s ≤ c → pos a +ℤ o ≡ pos c +ℤ i → ⊥
        before a s c o i h k m e = omega (arith, ints)

    at : (z : Bool) → is_equality rel ≡ z →
        IsRight rel l x y (record { set = cond (some_inside (pos left -ℤ pos 1) a && some_inside (pos right -ℤ pos 1) c) (untied rel) nothing; sure = z && (all_inside (pos left -ℤ pos 1) a && all_inside (pos right -ℤ pos 1) c) })
    at true g = record {
      holds = λ m. let p = and_parts (is_inside l b x) (is_inside l d y) (sym (may_equal rel l x y g ∙ comparable_apart l x y b d s.plain t.plain s.only t.only n) ∙ m) in
          let test = and_from (some_inside (pos left -ℤ pos 1) a) (some_inside (pos right -ℤ pos 1) c) (some_is a.offsets (pos left -ℤ pos 1) o h (sym inner_left ∙ p.0)) (some_is c.offsets (pos right -ℤ pos 1) i k (sym inner_right ∙ p.1)) in
          subst (λ z. Holds (cond z (untied rel) nothing) (truth_number (compared (op_of rel) x.number y.number))) (sym test) (untied_holds rel g x.number y.number (differ (sym s.inside ∙ p.0) (sym t.inside ∙ p.1)));
      sure = λ j. let p = and_parts (all_inside (pos left -ℤ pos 1) a) (all_inside (pos right -ℤ pos 1) c) j in
          may_equal rel l x y g ∙ comparable_apart l x y b d s.plain t.plain s.only t.only n
          ∙ and_from (is_inside l b x) (is_inside l d y) (inner_left ∙ all_are a.offsets (pos left -ℤ pos 1) o p.0 h) (inner_right ∙ all_are c.offsets (pos right -ℤ pos 1) i p.1 k);
    }
    at false g = record {
      holds = λ m. absurd (no (are_of_one_object l x y) (share_apart l x y b d s.only t.only n) (sym (may_other rel l x y g) ∙ m));
      sure = λ j. cc;
    }

-- ---- values

pub one_named : (l : Layout) (v : AVal) (b : ℕ) → all_among (bases_of v) l.bases ≡ true → has_base (bases_of v) b ≡ true → has_base l.bases b ≡ true
one_named l v b h k = among-has (bases_of v) l.bases h b k

pub address_spot : (l : Layout) (size_of : ℕ → ℕ) (v : AVal) (a : Address) (x : Value) → IsPlaced l size_of → all_among (bases_of v) l.bases ≡ true → (i : IsOne l v a x) → Spot l a.base i.means.offset x
address_spot l size_of v a x p h i = spot l size_of a x p (one_named l v a.base h i.base) i.near i.means

null_of : (l : Layout) (size_of : ℕ → ℕ) (v w : AVal) (a : Address) (ns : Ival) (x y : Value) → IsPlaced l size_of → all_among (bases_of v) l.bases ≡ true → IsOne l v a x → numbers_alone w ≡ Some ns → Means l w y → AreNull l (size_of a.base) a ns x y
null_of l size_of v w a ns x y p h i e m =
    let q = means_alone l w ns y e m in
    let b = one_named l v a.base h i.base in
    record { base = a.base; o = i.means.offset; held = i.means.held; spot = address_spot l size_of v a x p h i; size_is = p.size a.base b; low = p.low a.base b; plain = q.0; number = q.1 }

right_two : (rel : Rel) (l : Layout) (size_of : ℕ → ℕ) (v w : AVal) (a c : Address) (x y : Value) → IsPlaced l size_of → all_among (bases_of v) l.bases ≡ true → all_among (bases_of w) l.bases ≡ true → IsOne l v a x → IsOne l w c y → IsRight rel l x y (two_addresses rel size_of a c)
right_two rel l size_of v w a c x y p h k i j = at (a.base == c.base) refl
  where
    s : Spot l a.base i.means.offset x
    s = address_spot l size_of v a x p h i

    t : Spot l c.base j.means.offset y
    t = address_spot l size_of w c y p k j

    named : has_base l.bases a.base ≡ true
    named = one_named l v a.base h i.base

    also : has_base l.bases c.base ≡ true
    also = one_named l w c.base k j.base

    at : (z : Bool) → (a.base == c.base) ≡ z → IsRight rel l x y (cond z (one_base rel (size_of a.base) a c) (two_bases rel (size_of a.base) (size_of c.base) a c))
    at true e = right_same rel l a.base (size_of a.base) x y a c i.means.offset j.means.offset s (subst (λ b. Spot l b j.means.offset y) (sym (eqb-true a.base c.base e)) t) (p.size a.base named) i.means.held j.means.held
    at false e = right_apart rel l size_of a.base c.base (size_of a.base) (size_of c.base) x y a c i.means.offset j.means.offset p named also e s t (p.size a.base named) (p.size c.base also) i.means.held j.means.held

right_unknown : (rel : Rel) (l : Layout) (x y : Value) → IsRight rel l x y unknown
right_unknown rel l x y = record { holds = λ m. any_truth rel x.number y.number; sure = λ s. cc }

both_plain : (l : Layout) (x y : Value) → x.provenance ≡ nowhere → y.provenance ≡ nowhere → are_comparable l x y ≡ true
both_plain l x y p q = or_left (is_plain x && is_plain y) _ (and_from (is_plain x) (is_plain y) (plain_is x p) (plain_is y q))

-- each value beside a null pointer may be asked for equality, where all offsets are good
record MayEqual (l : Layout) (x y : Value) : Type 0 where
  first : are_comparable l x y ≡ true
  second : are_comparable l y x ≡ true

good_equal : (l : Layout) (size_of : ℕ → ℕ) (v : AVal) (ns : Ival) (x y : Value) → IsPlaced l size_of → all_among (bases_of v) l.bases ≡ true → Means l v x → y.provenance ≡ nowhere → Holds ns y.number → zero_alone ns ≡ true → all_good size_of v ≡ true → MayEqual l x y
good_equal l size_of (Mixed bs) ns x y p h m q k z g = cc
good_equal l size_of (Separate ms xs) ns x y p h (inl m) q k z g = record { first = both_plain l x y m.0 q; second = both_plain l y x q m.0 }
good_equal l size_of (Separate ms xs) ns x y p h (inr m) q k z g =
    let f = means_among l xs x m in
    let a = f.0 in
    let good = and_parts (lies_near (bounds_of a.offsets.shape)) (all_inside (pos (size_of a.base)) a) (all-In (is_good size_of) xs g a f.1) in
    let one : IsOne l (Separate ms xs) a x = record { means = f.2; near = good.0; base = In-has (bases_of (Separate ms xs)) a.base (In-map base_of xs a f.1) } in
    let b = one_named l (Separate ms xs) a.base h one.base in
    let n : AreNull l (size_of a.base) a ns x y = record { base = a.base; o = f.2.offset; held = f.2.held; spot = address_spot l size_of (Separate ms xs) a x p h one; size_is = p.size a.base b; low = p.low a.base b; plain = q; number = k } in
    let sure = null_sure l (size_of a.base) a ns x y n z good.1 in
    record {
      first = comparable_null l x y a.base n.spot.plain (plain_is y q) n.spot.only (plain_none l y q) ∙ sure;
      second = comparable_null_first l y x a.base n.spot.plain (plain_is y q) n.spot.only (plain_none l y q) ∙ sure;
    }

right_tested : (rel : Rel) (l : Layout) (size_of : ℕ → ℕ) (v : AVal) (ns : Ival) (u w : Value) → (zero_alone ns ≡ true → all_good size_of v ≡ true → are_comparable l u w ≡ true) → IsRight rel l u w (tested rel size_of v ns)
right_tested rel l size_of v ns u w f = at (is_equality rel) refl
  where
    at : (t : Bool) → is_equality rel ≡ t → IsRight rel l u w (record { set = truth_set true true; sure = t && (zero_alone ns && all_good size_of v) })
    at true e = record {
      holds = λ m. any_truth rel u.number w.number;
      sure = λ s. let p = and_parts (zero_alone ns) (all_good size_of v) s in may_equal rel l u w e ∙ f p.0 p.1;
    }
    at false e = record { holds = λ m. any_truth rel u.number w.number; sure = λ s. cc }

-- ---- the verdict of two values

module _ (rel : Rel) (size_of : ℕ → ℕ) (l : Layout) (v w : AVal) (x y : Value) (o : ArePointers size_of l v w x y) where
  right_by_numbers : (n m : Option Ival) → numbers_alone v ≡ n → numbers_alone w ≡ m → IsRight rel l x y (by_numbers rel size_of v w n m)
  right_by_numbers None None e f = right_unknown rel l x y
  right_by_numbers None (Some ms) e f =
      let q = means_alone l w ms y f o.right in
      right_tested rel l size_of v ms x y (λ z g. (good_equal l size_of v ms x y o.placed o.left_bases o.left q.0 q.1 z g).first)
  right_by_numbers (Some ns) None e f =
      let q = means_alone l v ns x e o.left in
      right_tested rel l size_of w ns x y (λ z g. (good_equal l size_of w ns y x o.placed o.right_bases o.right q.0 q.1 z g).second)
  right_by_numbers (Some ns) (Some ms) e f =
      let p = means_alone l v ns x e o.left in
      let q = means_alone l w ms y f o.right in
      right_numbers rel l x y ns ms p.0 q.0 p.1 q.1 o.left_word o.right_word

  right_with_right : (a : Address) → one_address v ≡ Some a → (m : Option Ival) → numbers_alone w ≡ m → IsRight rel l x y (with_numbers rel size_of a m)
  right_with_right a e None f = right_unknown rel l x y
  right_with_right a e (Some ms) f = right_null_second l (size_of a.base) a ms x y (null_of l size_of v w a ms x y o.placed o.left_bases (one_is l v a x e o.left) f o.right) rel

  right_with_left : (c : Address) → one_address w ≡ Some c → (n : Option Ival) → numbers_alone v ≡ n → IsRight rel l x y (with_numbers rel size_of c n)
  right_with_left c e None f = right_unknown rel l x y
  right_with_left c e (Some ns) f = right_null_first l (size_of c.base) c ns y x (null_of l size_of w v c ns y x o.placed o.right_bases (one_is l w c y e o.right) f o.left) rel

  right_by_addresses : (a c : Option Address) → one_address v ≡ a → one_address w ≡ c → IsRight rel l x y (by_addresses rel size_of v w a c)
  right_by_addresses None None e f = right_by_numbers (numbers_alone v) (numbers_alone w) refl refl
  right_by_addresses None (Some c) e f = right_with_left c f (numbers_alone v) refl
  right_by_addresses (Some a) None e f = right_with_right a e (numbers_alone w) refl
  right_by_addresses (Some a) (Some c) e f = right_two rel l size_of v w a c x y o.placed o.left_bases o.right_bases (one_is l v a x e o.left) (one_is l w c y f o.right)

  judged_right : IsRight rel l x y (judged rel size_of v w)
  judged_right = right_by_addresses (one_address v) (one_address w) refl refl

  pub judged_holds : (u : AVal) (d : Verdict) → u ≡ Separate d.set [] → d ≡ judged rel size_of v w → (z : Value) → comparison (op_of rel) l x y ≡ Ok z → Means l u z
  judged_holds u d e f z h = at (may_compare (op_of rel) l x y) refl h
    where
      at : (t : Bool) → may_compare (op_of rel) l x y ≡ t → cond t (Ok (record { number = truth_number (compared (op_of rel) x.number y.number); provenance = nowhere })) (Err PtrComparison) ≡ Ok z → Means l u z
      at false g k = cc
      at true g k =
          let same : record { number = truth_number (compared (op_of rel) x.number y.number); provenance = nowhere } ≡ z = cc in
          subst (Means l u) same (subst (λ q. Means l q (record { number = truth_number (compared (op_of rel) x.number y.number); provenance = nowhere })) (sym e)
          (inl (refl, subst (λ j. Holds j.set (truth_number (compared (op_of rel) x.number y.number))) (sym f) (judged_right.holds g))))

  pub judged_sure : (d : Verdict) → d ≡ judged rel size_of v w → d.sure ≡ true → (kind : Kind) → comparison (op_of rel) l x y ≡ Err kind → ⊥
  judged_sure d f s kind h = at (may_compare (op_of rel) l x y) (judged_right.sure (subst (λ j. j.sure ≡ true) f s)) h
    where
      at : (t : Bool) → t ≡ true → cond {A = Result Value Kind} t (Ok (record { number = truth_number (compared (op_of rel) x.number y.number); provenance = nowhere })) (Err PtrComparison) ≡ Err kind → ⊥
      at true g k = cc
      at false g k = cc

  pub judged_kind : (kind : Kind) → comparison (op_of rel) l x y ≡ Err kind → kind ≡ PtrComparison
  judged_kind kind h = at (may_compare (op_of rel) l x y) h
    where
      at : (t : Bool) → cond {A = Result Value Kind} t (Ok (record { number = truth_number (compared (op_of rel) x.number y.number); provenance = nowhere })) (Err PtrComparison) ≡ Err kind → kind ≡ PtrComparison
      at true k = cc
      at false k = cc
