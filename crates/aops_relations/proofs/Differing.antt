-- What differences of values tell is what they give.
use Rattle.std.proofs.Common.{◌≡◌, ℕ, suc, ◌^◌, ◌+◌, ◌<◌, ◌≤◌, ◌/◌, ◌==◌, Bool, true, false, cond, ◌&&◌, ℤ, pos, negsuc, ◌+ℤ◌, ◌-ℤ◌, List, [], ◌∷◌, refl, sym, subst, ap, ◌∙◌, inl, inr, arith}
use Rattle.std.specs.Prelude.{Option, None, Some, int_div, neg_ℤ, find, Result, Ok, Err, int_le}
use Rattle.std.proofs.Math.Nat.{one-dvd, div-le_self}
use Rattle.std.proofs.lemmas.Bool.{and_parts, and_from, or_cases, eqb-true}
use Rattle.std.proofs.lemmas.Int.{ints}
use lib.Signed.{◌≤ℤ◌}
use Rattle.c_base.specs.declared.kind.Kind.{Kind}
use Rattle.c_base.specs.declared.kind.Kind.TheVariants.{DifferingBlocks}
use Rattle.c_memory.specs.Values.{Value, nowhere}
use Rattle.c_memory.specs.Layouts.{Layout, last_address}
use Rattle.c_base.specs.declared.integer.Machine.{Machine}
use Rattle.c_base.specs.declared.integer.Machine.TheVariants.{Lp64}
use Rattle.std.specs.FinSet.{contains, len}
use Rattle.c_pointers.specs.Addresses.{only_base, distance, is_in_or_behind}
use Rattle.c_pointers.specs.Pointers.{share_base, are_of_one_object, difference}
use Rattle.ival_core.specs.declared.value.Shape.TheVariants.{Few, Many}
use Rattle.ival_core.specs.declared.value.Ival.{Ival}
use Rattle.ival_core.specs.Ivals.{Holds}
use Rattle.ival_core.specs.Sets.{IsValid, apart}
use Rattle.ival_core.proofs.Orders.{le_true}
use Rattle.ival_arith.specs.declared.terms.Term.TheVariants.{Quotient}
use Rattle.ival_arith.specs.Exact.{shape_option}
use Rattle.ival_core.specs.Ranges.{run_shape}
use Rattle.ival_arith.specs.Terms.{lacks, term_value, exact_term}
use Rattle.ival_arith.proofs.TermSets.{term_value-covers, lacks_false, sets}
use Rattle.avalue_base.specs.Lists.{has_base, In}
use Rattle.avalue_base.proofs.Lists.{In-has}
use Rattle.avalue_base.specs.Numbers.{is_empty, words}
use Rattle.avalue_base.specs.Values.{Address, AVal, Separate}
use Rattle.avalue_base.specs.Meaning.{Means}
use Rattle.avalue_base.specs.Meets.{set_of, meet_of}
use Rattle.avalue_base.proofs.Meets.{set_same, meet_is}
use Rattle.avalue_base.proofs.Sets.{empty_none}
use Rattle.avalue_values.specs.Views.{numbers_alone}
use Rattle.aops.proofs.Giving.{means_alone}
use Rattle.aops_pointers.specs.Images.{image}
use Rattle.aops_pointers.specs.Moves.{option_set}
use Rattle.aops_pointers.proofs.Images.{image_holds}
use Rattle.aops_pointers.proofs.Moving.{option_same}
use Rattle.aops_relations.specs.declared.comparisons.Verdict.{Verdict}
use Rattle.aops_relations.specs.Placed.{IsPlaced, ArePointers, one_address, is_within, all_inside, some_inside}
use Rattle.aops_relations.specs.Comparisons.{nothing}
use Rattle.aops_relations.specs.Differences.{far_numbers, quotient_of, or_far, quotients, within_one, undefined, of_addresses, of_parts, differed}
use Rattle.aops_relations.proofs.Spots.{Spot, plain_none, all_are, some_is, IsOne, one_is}
use Rattle.aops_relations.proofs.Comparing.{share_same, share_apart, plain_apart, one_named, address_spot, word_in, no}

-- ---- quotients

record Small (m : ℕ) (n : ℤ) : Type 0 where
  low : neg_ℤ (pos m) ≤ℤ n
  high : n ≤ℤ pos m

far_valid : IsValid (Many (record { low = neg_ℤ (pos (2 ^ 47)); high = pos (2 ^ 47); stride = 1 }))
unfolding apart
far_valid = record {
  first = record { least = omega (arith, ints); greatest = omega (arith, ints) };
  last = record { least = omega (arith, ints); greatest = omega (arith, ints) };
  moves = omega arith;
  long = omega (arith, ints);
  meets = refl;
}

far_holds : (n : ℤ) → Small (2 ^ 47) n → Holds far_numbers n
unfolding far_numbers
far_holds n s =
    let a = s.low in
    let b = s.high in
    subst (λ v. Holds v n) (set_same (record { shape = Many (record { low = neg_ℤ (pos (2 ^ 47)); high = pos (2 ^ 47); stride = 1 }); valid = far_valid }) (Many (record { low = neg_ℤ (pos (2 ^ 47)); high = pos (2 ^ 47); stride = 1 })) refl)
    (record { above = a; below = b; meets = one-dvd (apart (neg_ℤ (pos (2 ^ 47))) n) })

small_quotient : (m d : ℕ) (n : ℤ) → Small m n → Small m (int_div n (pos d))
small_quotient m d (pos n) s = let l = div-le_self n d in at (n / d) l s.high
  where
    at : (q : ℕ) → q ≤ n → pos n ≤ℤ pos m → Small m (pos q)
    at q l h = record { low = omega (arith, ints); high = omega (arith, ints) }
small_quotient m d (negsuc n) s = let l = div-le_self (suc n) d in at (suc n / d) l s.low
  where
    at : (q : ℕ) → q ≤ suc n → neg_ℤ (pos m) ≤ℤ negsuc n → Small m (neg_ℤ (pos q))
    at q l h = record { low = omega (arith, ints); high = omega (arith, ints) }

pub one_valid : (size : ℕ) → size < 2 ^ 64 → IsValid (Few (record { items = pos size ∷ [] }))
one_valid size h = record { small = omega arith; ascending = (tt, tt); numbers = (record { least = omega (arith, ints); greatest = omega (arith, ints) }, tt) }

unfoldable pub one : (size : ℕ) → size < 2 ^ 64 → Ival
one size h = record { shape = Few (record { items = pos size ∷ [] }); valid = one_valid size h }

divided_holds : (size : ℕ) → size < 2 ^ 64 → (d v : Ival) → option_set (exact_term Quotient d.shape (Few (record { items = pos size ∷ [] }))) ≡ Some v → (n : ℤ) → Holds d n → Holds v (int_div n (pos size))
unfolding exact_term one
divided_holds size h d v e n k = at (lacks Quotient d.shape (one size h).shape) refl e
  where
    at : (t : Bool) → lacks Quotient d.shape (one size h).shape ≡ t → option_set (cond t None (Some (term_value Quotient d.shape (one size h).shape))) ≡ Some v → Holds v (int_div n (pos size))
    at true f g = cc
    at false f g =
        let c = term_value-covers Quotient d.shape (one size h).shape (sets Quotient d (one size h) (lacks_false Quotient d (one size h) f)) in
        let same : set_of (term_value Quotient d.shape (one size h).shape) ≡ v = cc in
        subst (λ z. Holds z (int_div n (pos size))) same
        (subst (λ z. Holds z (int_div n (pos size))) (set_same (record { shape = term_value Quotient d.shape (one size h).shape; valid = c.valid }) (term_value Quotient d.shape (one size h).shape) refl)
        (c.holds (int_div n (pos size)) (record { left = n; right = pos size; has_left = k; has_right = inl refl; is = refl })))

quotients_hold : (size : ℕ) → size < 2 ^ 64 → (a b : Ival) (o i : ℤ) → Holds a o → Holds b i → Small (2 ^ 47) (o -ℤ i) → Holds (quotients size a b) (int_div (o -ℤ i) (pos size))
unfolding quotients
quotients_hold size h a b o i k j s = at (image (λ m n. m -ℤ n) a b) refl
  where
    further : (d : Ival) → Holds d (o -ℤ i) → (q : Option Ival) → option_set (exact_term Quotient d.shape (Few (record { items = pos size ∷ [] }))) ≡ q → Holds (or_far q) (int_div (o -ℤ i) (pos size))
    further d g None e = far_holds (int_div (o -ℤ i) (pos size)) (small_quotient (2 ^ 47) size (o -ℤ i) s)
    further d g (Some v) e = divided_holds size h d v e (o -ℤ i) g

    at : (d : Option Ival) → image (λ m n. m -ℤ n) a b ≡ d → Holds (or_far (quotient_of size d)) (int_div (o -ℤ i) (pos size))
    at None e = far_holds (int_div (o -ℤ i) (pos size)) (small_quotient (2 ^ 47) size (o -ℤ i) s)
    at (Some d) e = further d (image_holds (λ m n. m -ℤ n) a b d e o i k j) (option_set (exact_term Quotient d.shape (Few (record { items = pos size ∷ [] })))) refl

-- ---- verdicts

-- the verdict has each difference, and is not sure where it is undefined
record IsRight (size : ℕ) (l : Layout) (x y : Value) (d : Verdict) : Type 0 where
  holds : are_of_one_object l x y ≡ true → Holds d.set (int_div (x.number -ℤ y.number) (pos size))
  sure : d.sure ≡ true → are_of_one_object l x y ≡ true

not_one : (size : ℕ) (l : Layout) (x y : Value) → are_of_one_object l x y ≡ false → IsRight size l x y undefined
not_one size l x y n = record { holds = λ m. absurd (no (are_of_one_object l x y) n m); sure = λ s. cc }

plain_second : (l : Layout) (x y : Value) → only_base l y ≡ None → are_of_one_object l x y ≡ false
plain_second l x y e = rw e (at (only_base l x))
  where
    at : (o : Option ℕ) → share_base l x y o None ≡ false
    at None = refl
    at (Some b) = refl

small_apart : (s : ℕ) (o i : ℤ) → s ≤ 2 ^ 47 → is_within (pos s) o ≡ true → is_within (pos s) i ≡ true → Small (2 ^ 47) (o -ℤ i)
small_apart s o i h u w =
    let p = and_parts (int_le (pos 0) o) (int_le o (pos s)) u in
    let q = and_parts (int_le (pos 0) i) (int_le i (pos s)) w in
    let a = le_true (pos 0) o p.0 in
    let b = le_true o (pos s) p.1 in
    let c = le_true (pos 0) i q.0 in
    let d = le_true i (pos s) q.1 in
    record { low = omega (arith, ints); high = omega (arith, ints) }

right_within : (size : ℕ) → size < 2 ^ 64 → (l : Layout) (b bytes : ℕ) (x y : Value) (a c : Address) (o i : ℤ) → Spot l b o x → Spot l b i y → l.size b ≡ bytes → l.size b ≤ 2 ^ 47 → Holds a.offsets o → Holds c.offsets i → IsRight size l x y (within_one size bytes a c)
right_within size z l b bytes x y a c o i s t e f h k = record {
  holds = λ m. let p = and_parts (is_in_or_behind l b x) (is_in_or_behind l b y) (sym (share_same l x y b s.only t.only) ∙ m) in
      let u = sym s.behind ∙ p.0 in
      let w = sym t.behind ∙ p.1 in
      let test = and_from (some_inside (pos bytes) a) (some_inside (pos bytes) c) (some_is a.offsets (pos bytes) o h (subst (λ n. is_within (pos n) o ≡ true) e u)) (some_is c.offsets (pos bytes) i k (subst (λ n. is_within (pos n) i ≡ true) e w)) in
      subst (λ q. Holds (cond q (quotients size a.offsets c.offsets) nothing) (int_div (x.number -ℤ y.number) (pos size))) (sym test)
      (subst (λ n. Holds (quotients size a.offsets c.offsets) (int_div n (pos size))) (sym (numbers u w)) (quotients_hold size z a.offsets c.offsets o i h k (small_apart (l.size b) o i f u w)));
  sure = λ j. let p = and_parts (all_inside (pos bytes) a) (all_inside (pos bytes) c) j in
      share_same l x y b s.only t.only ∙ and_from (is_in_or_behind l b x) (is_in_or_behind l b y)
      (s.behind ∙ subst (λ n. is_within (pos n) o ≡ true) (sym e) (all_are a.offsets (pos bytes) o p.0 h))
      (t.behind ∙ subst (λ n. is_within (pos n) i ≡ true) (sym e) (all_are c.offsets (pos bytes) i p.1 k));
}
  where
    cancel : (a o i : ℤ) → (a +ℤ o) -ℤ (a +ℤ i) ≡ o -ℤ i
    cancel a o i = omega (arith, ints)

    numbers : is_within (pos (l.size b)) o ≡ true → is_within (pos (l.size b)) i ≡ true → x.number -ℤ y.number ≡ o -ℤ i
    numbers u w = ap (λ n. n -ℤ y.number) (s.number u) ∙ ap (λ n. (pos (l.address b) +ℤ o) -ℤ n) (t.number w) ∙ cancel (pos (l.address b)) o i

find_In : (p : ℕ → Bool) (xs : List ℕ) (b : ℕ) → find p xs ≡ Some b → In xs b
find_In p [] b e = cc
find_In p (x ∷ xs) b e = at (p x) e (find_In p xs b)
  where
    at : (t : Bool) → cond t (Some x) (find p xs) ≡ Some b → (find p xs ≡ Some b → In xs b) → In (x ∷ xs) b
    at true e f = let same : b ≡ x = cc in inl same
    at false e f = inr (f e)

only_known : (l : Layout) (x : Value) (b : ℕ) → only_base l x ≡ Some b → has_base l.bases b ≡ true
only_known l x b e = at (len x.provenance == 1) e
  where
    at : (t : Bool) → cond t (find (contains x.provenance) l.bases) None ≡ Some b → has_base l.bases b ≡ true
    at true e = In-has l.bases b (find_In (contains x.provenance) l.bases b e)
    at false e = cc

high_47 : (l : Layout) (size_of : ℕ → ℕ) (b : ℕ) → IsPlaced l size_of → has_base l.bases b ≡ true → l.size b ≤ 2 ^ 47
high_47 l size_of b p h = let a = subst (λ k. l.address b + l.size b ≤ k) (last_47 l.machine) (p.high b h) in omega arith
  where
    last_47 : (machine : Machine) → last_address machine ≡ 2 ^ 47
    last_47 Lp64 = refl

-- two pointers into one object are no further apart than its size
one_object : (l : Layout) (size_of : ℕ → ℕ) (x y : Value) → IsPlaced l size_of → are_of_one_object l x y ≡ true → Small (2 ^ 47) (x.number -ℤ y.number)
one_object l size_of x y p h = at (only_base l x) (only_base l y) refl h
  where
    near : (a s : ℕ) (n m : ℤ) → s ≤ 2 ^ 47 → pos 0 ≤ℤ (n -ℤ pos a) → (n -ℤ pos a) ≤ℤ pos s → pos 0 ≤ℤ (m -ℤ pos a) → (m -ℤ pos a) ≤ℤ pos s → Small (2 ^ 47) (n -ℤ m)
    near a s n m h c d e f = record { low = omega (arith, ints); high = omega (arith, ints) }

    at : (a c : Option ℕ) → only_base l x ≡ a → share_base l x y a c ≡ true → Small (2 ^ 47) (x.number -ℤ y.number)
    at None c e g = cc
    at (Some b) None e g = cc
    at (Some b) (Some d) e g =
        let q = and_parts (b == d) (is_in_or_behind l b x && is_in_or_behind l b y) g in
        let r = and_parts (is_in_or_behind l b x) (is_in_or_behind l b y) q.1 in
        let s = and_parts (int_le (pos 0) (distance l b x)) (int_le (distance l b x) (pos (l.size b))) r.0 in
        let t = and_parts (int_le (pos 0) (distance l b y)) (int_le (distance l b y) (pos (l.size b))) r.1 in
        near (l.address b) (l.size b) x.number y.number (high_47 l size_of b p (only_known l x b e))
        (le_true (pos 0) (distance l b x) s.0) (le_true (distance l b x) (pos (l.size b)) s.1) (le_true (pos 0) (distance l b y) t.0) (le_true (distance l b y) (pos (l.size b)) t.1)

-- ---- the verdict of two values

module _ (size : ℕ) (z : size < 2 ^ 64) (size_of : ℕ → ℕ) (l : Layout) (v w : AVal) (x y : Value) (o : ArePointers size_of l v w x y) where
  right_far : IsRight size l x y (record { set = far_numbers; sure = false })
  right_far = record { holds = λ m. far_holds (int_div (x.number -ℤ y.number) (pos size)) (small_quotient (2 ^ 47) size (x.number -ℤ y.number) (one_object l size_of x y o.placed m)); sure = λ s. cc }

  right_addresses : (a c : Option Address) → one_address v ≡ a → one_address w ≡ c → IsRight size l x y (of_addresses size size_of a c)
  right_addresses None c e f = right_far
  right_addresses (Some a) None e f = right_far
  right_addresses (Some a) (Some c) e f =
      let i = one_is l v a x e o.left in
      let j = one_is l w c y f o.right in
      both i j (address_spot l size_of v a x o.placed o.left_bases i) (address_spot l size_of w c y o.placed o.right_bases j) (a.base == c.base) refl
    where
      both : (i : IsOne l v a x) (j : IsOne l w c y) → Spot l a.base i.means.offset x → Spot l c.base j.means.offset y → (t : Bool) → (a.base == c.base) ≡ t → IsRight size l x y (cond t (within_one size (size_of a.base) a c) undefined)
      both i j s t true g =
          let b = one_named l v a.base o.left_bases i.base in
          right_within size z l a.base (size_of a.base) x y a c i.means.offset j.means.offset s (subst (λ b. Spot l b j.means.offset y) (sym (eqb-true a.base c.base g)) t) (o.placed.size a.base b) (high_47 l size_of a.base o.placed b) i.means.held j.means.held
      both i j s t false g = not_one size l x y (share_apart l x y a.base c.base s.only t.only g)

  right_parts : (n m : Option Ival) → numbers_alone v ≡ n → numbers_alone w ≡ m → IsRight size l x y (of_parts size size_of (one_address v) (one_address w) n m)
  right_parts None None e f = right_addresses (one_address v) (one_address w) refl refl
  right_parts None (Some ms) e f = not_one size l x y (plain_second l x y (plain_none l y (means_alone l w ms y f o.right).0))
  right_parts (Some ns) None e f = not_one size l x y (plain_apart l x y (plain_none l x (means_alone l v ns x e o.left).0))
  right_parts (Some ns) (Some ms) e f =
      let p = means_alone l v ns x e o.left in
      let q = means_alone l w ms y f o.right in
      record {
        holds = λ h. absurd (no (are_of_one_object l x y) (plain_apart l x y (plain_none l x p.0)) h);
        sure = λ s. absurd (elim (or_cases (is_empty (meet_of ns words).shape) (is_empty (meet_of ms words).shape) s) [
          | inl i ↦ empty_none (meet_of ns words) x.number i ((meet_is ns words x.number).1 (p.1, word_in x.number o.left_word))
          | inr i ↦ empty_none (meet_of ms words) y.number i ((meet_is ms words y.number).1 (q.1, word_in y.number o.right_word))
        ]);
      }

  differed_right : IsRight size l x y (differed size size_of v w)
  differed_right = right_parts (numbers_alone v) (numbers_alone w) refl refl

  pub differed_holds : (u : AVal) (d : Verdict) → u ≡ Separate d.set [] → d ≡ differed size size_of v w → (r : Value) → difference l size x y ≡ Ok r → Means l u r
  differed_holds u d e f r h = at (are_of_one_object l x y) refl h
    where
      at : (t : Bool) → are_of_one_object l x y ≡ t → cond {A = Result Value Kind} t (Ok (record { number = int_div (x.number -ℤ y.number) (pos size); provenance = nowhere })) (Err DifferingBlocks) ≡ Ok r → Means l u r
      at false g k = cc
      at true g k =
          let same : record { number = int_div (x.number -ℤ y.number) (pos size); provenance = nowhere } ≡ r = cc in
          subst (Means l u) same (subst (λ q. Means l q (record { number = int_div (x.number -ℤ y.number) (pos size); provenance = nowhere })) (sym e)
          (inl (refl, subst (λ j. Holds j.set (int_div (x.number -ℤ y.number) (pos size))) (sym f) (differed_right.holds g))))

  pub differed_sure : (d : Verdict) → d ≡ differed size size_of v w → d.sure ≡ true → (kind : Kind) → difference l size x y ≡ Err kind → ⊥
  differed_sure d f s kind h = at (are_of_one_object l x y) (differed_right.sure (subst (λ j. j.sure ≡ true) f s)) h
    where
      at : (t : Bool) → t ≡ true → cond {A = Result Value Kind} t (Ok (record { number = int_div (x.number -ℤ y.number) (pos size); provenance = nowhere })) (Err DifferingBlocks) ≡ Err kind → ⊥
      at true g k = cc
      at false g k = cc

-- ---- what the calls answer

far_shape : run_shape (neg_ℤ (pos (2 ^ 47))) 1 (apart (neg_ℤ (pos (2 ^ 47))) (pos (2 ^ 47)) / 1) ≡ Many (record { low = neg_ℤ (pos (2 ^ 47)); high = pos (2 ^ 47); stride = 1 })
unfolding apart
far_shape = refl

pub far_same : (v : Ival) → v.shape ≡ run_shape (neg_ℤ (pos (2 ^ 47))) 1 (apart (neg_ℤ (pos (2 ^ 47))) (pos (2 ^ 47)) / 1) → v ≡ far_numbers
unfolding far_numbers
far_same v e = set_same v (Many (record { low = neg_ℤ (pos (2 ^ 47)); high = pos (2 ^ 47); stride = 1 })) (e ∙ far_shape)

pub divided_same : (size : ℕ) (d divisor : Ival) (r : Option Ival) → divisor.shape ≡ Few (record { items = pos size ∷ [] }) → shape_option r ≡ exact_term Quotient d.shape divisor.shape → r ≡ quotient_of size (Some d)
divided_same size d divisor r h e = option_same r (exact_term Quotient d.shape (Few (record { items = pos size ∷ [] }))) (e ∙ ap (exact_term Quotient d.shape) h)
