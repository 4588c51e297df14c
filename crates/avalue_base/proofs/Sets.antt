-- What the plain functions on sets of integers answer.
use Rattle.std.proofs.Common.{◌≡◌, ◌↔◌, IsTrue, ℕ, zero, suc, ◌+◌, ◌-◌, ◌*◌, ◌/◌, ◌^◌, ◌<◌, ◌≤◌, ◌==◌, min, Bool, true, false, ℤ, pos, ◌+ℤ◌, ◌-ℤ◌, List, [], ◌∷◌, refl, sym, subst, ap, ◌∙◌, inl, inr, arith, eq-eqb}
use Rattle.std.specs.Prelude.{◌*ℤ◌, negsuc, Some}
use Rattle.c_base.specs.Operators.{floor}
use Rattle.ival_bits.specs.Parts.{part, glued}
use Rattle.ival_bits.proofs.PartSets.{extract_holds, concat_holds}
use Rattle.ival_plain.proofs.Sound.{part_tops, high_of}
use Rattle.std.proofs.Math.Nat.{le-div_iff_mul-le, mod-eq_of_lt}
use Rattle.std.proofs.lemmas.Int.{ints}
use Rattle.std.proofs.lemmas.Bool.{eqb-true}
use lib.Signed.{◌≤ℤ◌}
use Rattle.c_base.specs.Integers.{residue}
use Rattle.c_base.proofs.Residues.{residue_below, residue_differs, residue_same}
use Rattle.ival_core.specs.declared.value.Progression.{Progression}
use Rattle.ival_core.specs.declared.value.Shape.{Shape}
use Rattle.ival_core.specs.declared.value.Shape.TheVariants.{Few, Many}
use Rattle.ival_core.specs.declared.value.Ival.{Ival}
use Rattle.ival_core.specs.Sets.{Among, IsValid, IsLongRun, Has, Steps, apart, steps_from}
use Rattle.ival_core.specs.Ivals.{Holds, Includes, IsJoin, IsOnly}
use Rattle.ival_core.specs.Views.{single_of}
use Rattle.ival_core.proofs.Canonical.{Includes-antisymm, IsJoin-same}
use Rattle.ival_core.proofs.Distances.{apart_is}
use Rattle.ival_core.proofs.Joined.{joined-makes}
use Rattle.ival_core.proofs.Joins.{IsJoin-from}
use Rattle.ival_core.proofs.Runs.{At, steps_from-at, steps_from-among, Steps-at, Steps-from_at, Steps-low}
use Rattle.ival_arith.specs.Kinds.{holds_number}
use Rattle.ival_arith.proofs.Bounding.{number_held, held_number}
use Rattle.avalue_base.specs.Lists.{In}
use Rattle.avalue_base.specs.Numbers.{list_of, is_empty, lies_in, has_residue, has_all_from, has_row, no_numbers, bit_numbers, word, join_of, part_of, concat_of}
use Rattle.avalue_base.proofs.Lists.{In-any, any-In, all-In, In-all}

-- ---- the numbers of a set, as a list

pub Among-In : (xs : List ℤ) (n : ℤ) → Among xs n → In xs n
Among-In [] n m = m
Among-In (x ∷ xs) n (inl e) = inl e
Among-In (x ∷ xs) n (inr m) = inr (Among-In xs n m)

pub In-Among : (xs : List ℤ) (n : ℤ) → In xs n → Among xs n
In-Among [] n m = m
In-Among (x ∷ xs) n (inl e) = inl e
In-Among (x ∷ xs) n (inr m) = inr (In-Among xs n m)

run_listed : (p : Progression) (n : ℤ) → IsLongRun p → Steps p n → Among (steps_from p.low p.stride (suc (apart p.low p.high / p.stride))) n
run_listed p n l s =
    let a = Steps-at p n l s in
    let low : p.low ≤ℤ p.high = further p.low n p.high s.above s.below in
    let e = apart_is p.low p.high low in
    let f : a.0 * p.stride ≤ apart p.low p.high = reached p.low n p.high (a.0 * p.stride) (apart p.low p.high) a.1 e s.below in
    let k : a.0 ≤ apart p.low p.high / p.stride = (le-div_iff_mul-le l.moves).1 f in
    steps_from-among p.low p.stride (suc (apart p.low p.high / p.stride)) a.0 n (omega arith) a.1
  where
    further : (a b c : ℤ) → a ≤ℤ b → b ≤ℤ c → a ≤ℤ c
    further a b c h k = omega (arith, ints)

    reached : (low n high : ℤ) (k d : ℕ) → n ≡ low +ℤ pos k → high ≡ low +ℤ pos d → n ≤ℤ high → k ≤ d
    reached low n high k d e f h = omega (arith, ints)

listed_run : (p : Progression) (n : ℤ) → IsLongRun p → Among (steps_from p.low p.stride (suc (apart p.low p.high / p.stride))) n → Steps p n
listed_run p n l m =
    let a = steps_from-at p.low p.stride (suc (apart p.low p.high / p.stride)) n m in
    let low : p.low ≤ℤ p.high = (Steps-low p l).below in
    let e = apart_is p.low p.high low in
    let w = a.within in
    let k : a.place ≤ apart p.low p.high / p.stride = omega arith in
    let f : a.place * p.stride ≤ apart p.low p.high = (le-div_iff_mul-le l.moves).0 k in
    Steps-from_at p a.place n a.is (reached p.low n p.high (a.place * p.stride) (apart p.low p.high) a.is e f)
  where
    reached : (low n high : ℤ) (k d : ℕ) → n ≡ low +ℤ pos k → high ≡ low +ℤ pos d → k ≤ d → n ≤ℤ high
    reached low n high k d e f h = omega (arith, ints)

shape_listed : (s : Shape) (n : ℤ) → IsValid s → Has s n → In (list_of s) n
unfolding list_of
shape_listed (Few v) n l h = Among-In v.items n h
shape_listed (Many p) n l h = Among-In (steps_from p.low p.stride (suc (apart p.low p.high / p.stride))) n (run_listed p n l h)

listed_shape : (s : Shape) (n : ℤ) → IsValid s → In (list_of s) n → Has s n
unfolding list_of
listed_shape (Few v) n l i = In-Among v.items n i
listed_shape (Many p) n l i = listed_run p n l (In-Among (steps_from p.low p.stride (suc (apart p.low p.high / p.stride))) n i)

pub held_listed : (v : Ival) (n : ℤ) → Holds v n → In (list_of v.shape) n
held_listed v n h = shape_listed v.shape n v.valid h

pub listed_held : (v : Ival) (n : ℤ) → In (list_of v.shape) n → Holds v n
listed_held v n i = listed_shape v.shape n v.valid i

-- ---- inclusion

pub lies-includes : (a b : Ival) → lies_in a.shape b.shape ≡ true → Includes b a
unfolding lies_in
lies-includes a b h n m = number_held b.shape n (all-In (holds_number b.shape) (list_of a.shape) h n (held_listed a n m))

pub includes-lies : (a b : Ival) → Includes b a → lies_in a.shape b.shape ≡ true
unfolding lies_in
includes-lies a b h = In-all (holds_number b.shape) (list_of a.shape) (λ n i. held_number b.shape n (h n (listed_held a n i)))

pub lies-refl : (a : Ival) → lies_in a.shape a.shape ≡ true
lies-refl a = includes-lies a a (λ n m. m)

pub lies-trans : (a b c : Ival) → lies_in a.shape b.shape ≡ true → lies_in b.shape c.shape ≡ true → lies_in a.shape c.shape ≡ true
lies-trans a b c h k = includes-lies a c (λ n m. lies-includes b c k n (lies-includes a b h n m))

-- ---- sets without numbers

pub empty_none : (v : Ival) (n : ℤ) → is_empty v.shape ≡ true → Holds v n → ⊥
empty_none v n e h = at v.shape e h
  where
    at : (s : Shape) → is_empty s ≡ true → Has s n → ⊥
    at (Few few) e h = none few.items e h
      where
        none : (xs : List ℤ) → is_empty (Few (record { items = xs })) ≡ true → Among xs n → ⊥
        none [] e h = h
        none (x ∷ xs) e h = cc
    at (Many p) e h = cc

pub some_held : (v : Ival) → is_empty v.shape ≡ false → (n : ℤ) × Holds v n
some_held v e = at v.shape v.valid e
  where
    first : (xs : List ℤ) → is_empty (Few (record { items = xs })) ≡ false → (n : ℤ) × Among xs n
    first [] e = cc
    first (x ∷ xs) e = (x, inl refl)

    at : (s : Shape) → IsValid s → is_empty s ≡ false → (n : ℤ) × Has s n
    at (Few few) l e = first few.items e
    at (Many p) l e = (p.low, Steps-low p l)

pub held_some : (v : Ival) (n : ℤ) → Holds v n → is_empty v.shape ≡ false
held_some v n h = at (is_empty v.shape) (λ e. empty_none v n e h)
  where
    at : (b : Bool) → (b ≡ true → ⊥) → b ≡ false
    at true f = absurd (f refl)
    at false f = refl

pub none_empty : (v : Ival) → ((n : ℤ) → Holds v n → ⊥) → is_empty v.shape ≡ true
none_empty v f = at (is_empty v.shape) (λ e. let a = some_held v e in f a.0 a.1)
  where
    at : (b : Bool) → (b ≡ false → ⊥) → b ≡ true
    at true f = refl
    at false f = absurd (f refl)

pub lies-empty : (a b : Ival) → lies_in a.shape b.shape ≡ true → is_empty b.shape ≡ true → is_empty a.shape ≡ true
lies-empty a b h e = none_empty a (λ n m. empty_none b n e (lies-includes a b h n m))

-- ---- join

pub join_is : (a b : Ival) → IsJoin a b (join_of a b)
unfolding join_of
join_is a b = IsJoin-from a b (join_of a b) (joined-makes a.shape b.shape a.valid b.valid).least

pub join_left : (a b : Ival) → lies_in a.shape (join_of a b).shape ≡ true
join_left a b = includes-lies a (join_of a b) (join_is a b).first

pub join_right : (a b : Ival) → lies_in b.shape (join_of a b).shape ≡ true
join_right a b = includes-lies b (join_of a b) (join_is a b).second

pub join_least : (a b c : Ival) → lies_in a.shape c.shape ≡ true → lies_in b.shape c.shape ≡ true → lies_in (join_of a b).shape c.shape ≡ true
join_least a b c h k = includes-lies (join_of a b) c ((join_is a b).least c (lies-includes a c h) (lies-includes b c k))

pub join_some : (a b : Ival) → is_empty a.shape ≡ false → is_empty (join_of a b).shape ≡ false
join_some a b e = let n = some_held a e in held_some (join_of a b) n.0 ((join_is a b).first n.0 n.1)

-- ---- residues

pub residue_held : (v : Ival) (m r : ℕ) → has_residue v.shape m r ≡ true → (n : ℤ) × Holds v n × (residue m n ≡ r)
unfolding has_residue
residue_held v m r h = let a = any-In (λ n. residue m n == r) (list_of v.shape) h in (a.0, listed_held v a.0 a.1, eqb-true (residue m a.0) r a.2)

pub held_residue : (v : Ival) (m r : ℕ) (n : ℤ) → Holds v n → residue m n ≡ r → has_residue v.shape m r ≡ true
unfolding has_residue
held_residue v m r n h e = In-any (λ n. residue m n == r) (list_of v.shape) n (held_listed v n h) (eq-eqb (residue m n) r e)

-- ---- numbers in a row

pub record Row (v : Ival) (count : ℕ) : Type 0 where
  pub first : ℤ
  pub held : Holds v first
  pub next : (i : ℕ) → i < count → Holds v (first +ℤ pos i)

pub row_held : (v : Ival) (count : ℕ) → has_row v.shape count ≡ true → Row v count
unfolding has_row has_all_from
row_held v count h =
    let a = any-In (has_all_from v.shape count) (list_of v.shape) h in
    record {
      first = a.0;
      held = listed_held v a.0 a.1;
      next = λ i l. number_held v.shape (a.0 +ℤ pos i)
          (all-In (holds_number v.shape) (steps_from a.0 1 count) a.2 (a.0 +ℤ pos i)
          (Among-In (steps_from a.0 1 count) (a.0 +ℤ pos i) (steps_from-among a.0 1 count i (a.0 +ℤ pos i) l (once a.0 i))));
    }
  where
    once : (a : ℤ) (i : ℕ) → a +ℤ pos i ≡ a +ℤ pos (i * 1)
    once a i = omega (arith, ints)

pub held_row : (v : Ival) (count : ℕ) → Row v count → has_row v.shape count ≡ true
unfolding has_row has_all_from
held_row v count r =
    In-any (has_all_from v.shape count) (list_of v.shape) r.first (held_listed v r.first r.held)
    (In-all (holds_number v.shape) (steps_from r.first 1 count) (λ n i. held_number v.shape n (there n (steps_from-at r.first 1 count n (In-Among (steps_from r.first 1 count) n i)))))
  where
    once : (a : ℤ) (i : ℕ) → a +ℤ pos i ≡ a +ℤ pos (i * 1)
    once a i = omega (arith, ints)

    there : (n : ℤ) → At r.first 1 count n → Holds v n
    there n a = subst (Holds v) (once r.first a.place ∙ sym a.is) (r.next a.place a.within)

pub row_included : (a b : Ival) (count : ℕ) → Includes b a → has_row a.shape count ≡ true → has_row b.shape count ≡ true
row_included a b count h e =
    let r = row_held a count e in
    held_row b count (record { first = r.first; held = h r.first r.held; next = λ i l. h (r.first +ℤ pos i) (r.next i l) })

-- they have each residue
pub row_residue : (v : Ival) (m r : ℕ) → 0 < m → r < m → Row v m → (n : ℤ) × Holds v n × (residue m n ≡ r)
row_residue v m r p l w =
    let i = residue m (pos r -ℤ w.first) in
    let d = residue_differs m (pos r -ℤ w.first) p in
    let s = residue_same m (pos r) (w.first +ℤ pos i) p (record { times = d.times; is = moved (pos r) w.first (pos i) (d.times *ℤ pos m) d.is }) in
    (w.first +ℤ pos i, w.next i (residue_below m (pos r -ℤ w.first) p), sym s ∙ mod-eq_of_lt l)
  where
    moved : (r a i t : ℤ) → r -ℤ a ≡ i +ℤ t → r ≡ (a +ℤ i) +ℤ t
    moved r a i t e = omega (arith, ints)

-- ---- single numbers

pub single_only : (v : Ival) (n : ℤ) → single_of v.shape ≡ Some n → IsOnly v n
single_only v n e = at v.shape e
  where
    of_list : (xs : List ℤ) → single_of (Few (record { items = xs })) ≡ Some n → (k : ℤ) → Among xs k ↔ (k ≡ n)
    of_list [] e k = cc
    of_list (x ∷ []) e k = let f : x ≡ n = cc in ((λ m. elim m [ inl g ↦ g ∙ f | inr a ↦ absurd a ]), (λ g. inl (g ∙ sym f)))
    of_list (x ∷ y ∷ ys) e k = cc

    at : (s : Shape) → single_of s ≡ Some n → (k : ℤ) → Has s k ↔ (k ≡ n)
    at (Few few) e = of_list few.items e
    at (Many p) e = cc

-- ---- some sets

pub none_held : (n : ℤ) → Holds no_numbers n → ⊥
unfolding no_numbers
none_held n h = h

pub none_is_empty : is_empty no_numbers.shape ≡ true
unfolding no_numbers
none_is_empty = refl

pub none_lies : (v : Ival) → lies_in no_numbers.shape v.shape ≡ true
none_lies v = includes-lies no_numbers v (λ n h. absurd (none_held n h))

pub word_held : (n : ℕ) → n < 2 ^ 64 → Holds (word n) (pos n)
unfolding word
word_held n h = inl (ap pos (sym (mod-eq_of_lt h)))

pub bit_row : Row bit_numbers 2
unfolding bit_numbers
bit_row = record { first = pos 0; held = inl refl; next = λ i l. at i l }
  where
    at : (i : ℕ) → i < 2 → Holds bit_numbers (pos 0 +ℤ pos i)
    at zero l = inl refl
    at (suc zero) l = inr (inl refl)
    at (suc (suc i)) l = absurd (omega arith)

-- ---- parts

pub part_held : (low n : ℕ) (v : Ival) (z : ℤ) → low + n ≤ 64 → Holds v z → Holds (part_of low n v) (part low n z)
unfolding part_of
part_held low n v z h i =
    let e : min n 64 ≡ n = omega arith in
    let s : low + min n 64 ≤ 64 = omega arith in
    let g : Holds (part_of low n v) (part low (min n 64) z) = extract_holds low (min n 64) v (part_of low n v) s refl z i in
    subst (λ m. Holds (part_of low n v) (part low m z)) e g

pub concat_held : (j k : ℕ) (v w : Ival) (a b : ℤ) → j + k ≤ 64 → 0 < k → Holds v a → Holds w b → Holds (concat_of j v k w) (glued j a (pos (residue (2 ^ k) b)))
unfolding concat_of
concat_held j k v w a b m s h i =
    let e : min j 64 ≡ j = omega arith in
    let f : min k (64 - min j 64) ≡ k = omega arith in
    let t = part_tops j k w (high_of j k w) refl in
    let n : min j 64 ≡ 64 → ⊥ = λ q. absurd (omega arith) in
    let g : Holds (high_of j k w) (part 0 (min k (64 - min j 64)) b) = extract_holds 0 (min k (64 - min j 64)) w (high_of j k w) (omega arith) refl b i in
    let c = concat_holds (min j 64) v (high_of j k w) (concat_of j v k w) t n refl a (part 0 (min k (64 - min j 64)) b) h g in
    subst (λ q. Holds (concat_of j v k w) (glued q a (pos (residue (2 ^ k) b)))) e
    (subst (λ q. Holds (concat_of j v k w) (glued (min j 64) a (pos (residue (2 ^ q) b)))) f
    (subst (λ z. Holds (concat_of j v k w) (glued (min j 64) a (pos (residue (2 ^ min k (64 - min j 64)) z)))) (floor_one b) c))
  where
    floor_one : (b : ℤ) → floor b (2 ^ 0) ≡ b
    floor_one (pos n) = ap pos (omega arith)
    floor_one (negsuc n) = ap negsuc (omega arith)

-- ---- what calls answer is what the plain functions answer

pub join_same : (a b v : Ival) → IsJoin a b v → v ≡ join_of a b
join_same a b v h = IsJoin-same a b v (join_of a b) h (join_is a b)

pub lies_same : (a b : Ival) (r : Bool) → IsTrue r ↔ Includes b a → r ≡ lies_in a.shape b.shape
lies_same a b true h = sym (includes-lies a b (h.0 refl))
lies_same a b false h = sym (at (lies_in a.shape b.shape) (λ e. let t = h.1 (lies-includes a b e) in cc))
  where
    at : (b : Bool) → (b ≡ true → ⊥) → b ≡ false
    at true f = absurd (f refl)
    at false f = refl
