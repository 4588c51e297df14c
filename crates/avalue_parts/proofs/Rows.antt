-- Numbers in a row, rests and single bits of sets.
use Rattle.std.proofs.Common.{◌≡◌, ◌↔◌, IsTrue, ℕ, zero, suc, ◌+◌, ◌-◌, ◌*◌, ◌/◌, ◌^◌, ◌<◌, ◌≤◌, ◌==◌, min, Bool, true, false, cond, ℤ, pos, ◌+ℤ◌, ◌-ℤ◌, List, [], ◌∷◌, length, drop, take, get_or, slice_index_or, refl, sym, subst, ap, ◌∙◌, arith, eq-eqb, length-drop}
use Rattle.std.specs.Prelude.{Option, None, Some, unwrap_or, not, unsigned_abs, neg_ℤ}
use Rattle.std.specs.Int.{◌∣◌, int_rem_euclid}
use Rattle.std.specs.List.{list_any, list_all}
use Rattle.std.proofs.Math.Nat.{pow-le-pow_right, mod-eq_of_lt}
use Rattle.std.proofs.lemmas.Bool.{eqb-true}
use Rattle.std.proofs.lemmas.Int.{ints}
use Rattle.std.proofs.lemmas.Nat.{pow_pos}
use lib.Signed.{◌<ℤ◌, ◌≤ℤ◌}
use Rattle.cell_laws.specs.Elements.{bit_at}
use Rattle.c_base.specs.Integers.{residue, bits_from, bits_of, number_of_bits}
use Rattle.c_base.specs.Operators.{floor}
use Rattle.c_base.proofs.Residues.{residue_below, residue-rem_euclid}
use Rattle.ival_core.specs.declared.value.Shape.{Shape}
use Rattle.ival_core.specs.declared.value.Shape.TheVariants.{Few, Many}
use Rattle.ival_core.specs.declared.value.Progression.{Progression}
use Rattle.ival_core.specs.declared.value.Ival.{Ival}
use Rattle.ival_core.specs.Ivals.{Holds, Includes, IsMeet}
use Rattle.ival_core.specs.Ranges.{InRange, run_shape}
use Rattle.ival_core.specs.Sets.{Has, IsValid, IsLongRun, Steps, apart, steps_from}
use Rattle.ival_core.specs.Views.{single_of, bounds_of, numbers_of}
use Rattle.ival_core.proofs.Canonical.{same_ival}
use Rattle.ival_core.proofs.Distances.{meets_on, meets_back}
use Rattle.ival_core.proofs.Insertion.{Holds-number}
use Rattle.ival_core.proofs.Remainders.{leaving}
use Rattle.ival_core.proofs.Runs.{At, steps_from-at, steps_from-among, Steps-low}
use Rattle.ival_arith.specs.Kinds.{holds_number}
use Rattle.ival_arith.specs.Values.{residues}
use Rattle.ival_arith.proofs.Bounding.{number_held, held_number}
use Rattle.ival_arith.proofs.Reducing.{own_residue}
use Rattle.ival_arith.proofs.Residuals.{residues_below}
use Rattle.ival_arith.proofs.Words.{powers}
use Rattle.ival_bits.specs.Parts.{extracted, concatenated}
use Rattle.ival_bits.proofs.PartSets.{extract_single}
use Rattle.ival_plain.proofs.Sound.{part_tops}
use Rattle.avalue_base.specs.Numbers.{is_empty, list_of, has_residue, has_all_from, has_row, bit_numbers, word, part_of, concat_of, amount, rest_in}
use Rattle.avalue_base.specs.Hues.{bit_in}
use Rattle.avalue_base.proofs.Lists.{In-any, all-In, In-all}
use Rattle.avalue_base.proofs.Sets.{Among-In, In-Among, held_listed, some_held, held_some, residue_held, held_residue, Row, row_held, single_only}
use Rattle.avalue_base.proofs.Slices.{bits_of_part}
use Rattle.avalue_base.proofs.Words.{number_of_bits-below}
use Rattle.sorted_lists.proofs.Merging.{drop_end}
use Rattle.sorted_lists.proofs.Walking.{same_bool}

unpos : (a b : ℕ) → pos a ≡ pos b → a ≡ b
unpos a b e = cc

not_false : (b : Bool) → not b ≡ true → b ≡ false
not_false true h = cc
not_false false h = refl

not_true : (b : Bool) → b ≡ false → not b ≡ true
not_true true h = cc
not_true false h = refl

false_from : (b : Bool) → (b ≡ true → ⊥) → false ≡ b
false_from true f = absurd (f refl)
false_from false f = refl

-- ---- the number that bits spell

bit_next : (bs : List Bool) (i : ℕ) → i < length bs → drop i bs ≡ slice_index_or bs i false ∷ drop (i + 1) bs
bit_next [] i h = absurd (omega arith)
bit_next (b ∷ bs) zero h = refl
bit_next (b ∷ bs) (suc i) h =
    let n : suc i + 1 ≡ suc (i + 1) = omega arith in
    bit_next bs i (omega arith) ∙ ap (λ m. slice_index_or bs i false ∷ drop m (b ∷ bs)) (sym n)

pub bits_step : (bs : List Bool) (i j n m : ℕ) → i < length bs → j ≡ i + 1 → n ≡ number_of_bits (drop j bs) → m ≡ cond (slice_index_or bs i false) 1 0 + 2 * n → m ≡ number_of_bits (drop i bs)
unfolding number_of_bits
bits_step bs i j n m h s f g =
    let b = slice_index_or bs i false in
    let d = bit_next bs i h in
    rw d (g ∙ ap (λ k. cond b 1 0 + 2 * k) (f ∙ ap (λ k. number_of_bits (drop k bs)) s))

pub bits_small : (bs : List Bool) (j n : ℕ) → 0 < j → j ≤ length bs → length bs ≤ 64 → n ≡ number_of_bits (drop j bs) → n < 2 ^ 63
bits_small bs j n p l s e =
    let b = number_of_bits-below (drop j bs) in
    let d = length-drop j bs in
    let k : length (drop j bs) ≤ 63 = omega arith in
    let m : 2 ^ length (drop j bs) ≤ 2 ^ 63 = pow-le-pow_right (omega arith) k in
    omega arith

pub no_bits : (bs : List Bool) → 0 ≡ number_of_bits (drop (length bs) bs)
unfolding number_of_bits
no_bits bs = ap number_of_bits (sym (drop_end bs (length bs) (omega arith)))

-- ---- a known bit

bit_take : (bs : List Bool) (i : ℕ) (b : Bool) → take 1 (drop i bs) ≡ b ∷ [] → bit_at bs i ≡ Some b
unfolding bit_at
bit_take [] zero b e = cc
bit_take [] (suc i) b e = cc
bit_take (x ∷ bs) zero b e = let f : x ≡ b = cc in ap Some f
bit_take (x ∷ bs) (suc i) b e = bit_take bs i b e

one_bit : (q : ℕ) → q < 2 → bits_from (residue (2 ^ 1) (pos q)) 1 ≡ (q == 1) ∷ []
unfolding bits_from
one_bit zero h = refl
one_bit (suc zero) h = refl
one_bit (suc (suc q)) h = absurd (omega arith)

single_bit : (v w : Ival) (n : ℤ) (k i : ℕ) (r : Bool) → single_of v.shape ≡ Some n → i < k → k ≤ 64 → w.shape ≡ extracted i 1 v.shape → IsTrue r ↔ Holds w (pos 1) → Some r ≡ bit_at (bits_of k n) i
single_bit v w n k i r e h l x t =
    let only = extract_single i 1 v w (omega arith) x n (single_only v n e) in
    let q = residue (2 ^ 1) (floor n (2 ^ i)) in
    let small : q < 2 = residue_below (2 ^ 1) (floor n (2 ^ i)) (omega arith) in
    let at : bit_at (bits_of k n) i ≡ Some (q == 1) = bit_take (bits_of k n) i (q == 1) (bits_of_part n i 1 k (omega arith) ∙ one_bit q small) in
    let same : r ≡ (q == 1) =
    same_bool r (q == 1) (λ a. eq-eqb q 1 (sym (unpos 1 q ((only (pos 1)).0 (t.0 a))))) (λ a. t.1 ((only (pos 1)).1 (ap pos (sym (eqb-true q 1 a))))) in
    ap Some same ∙ sym at

-- the rests of the numbers, in place of these
pub bit_is : (v u w : Ival) (n : ℤ) (k i : ℕ) (r : Bool) → u.shape ≡ residues (2 ^ k) v.shape → single_of u.shape ≡ Some n → i < k → k ≤ 64 → w.shape ≡ extracted i 1 u.shape → IsTrue r ↔ Holds w (pos 1) → Some r ≡ bit_in k i (rest_in k v.shape)
bit_is v u w n k i r f e h l x t =
    let below = residues_below (2 ^ k) v.shape (pow_pos k) (powers k l) n (subst (λ s. Has s n) f ((single_only u n e n).1 refl)) in
    let own : residue (2 ^ k) n ≡ unsigned_abs n = ap unsigned_abs (own_residue (2 ^ k) n below.above below.below) in
    single_bit u w n k i r e h l x t ∙ ap (λ m. bit_at (bits_from m k) i) own ∙ sym (ap (λ s. bit_in k i (amount (single_of s))) (sym f) ∙ ap (λ o. bit_in k i (amount o)) e)

pub no_bit : (v u : Ival) (k i : ℕ) → u.shape ≡ residues (2 ^ k) v.shape → single_of u.shape ≡ None → None ≡ bit_in k i (rest_in k v.shape)
no_bit v u k i f e = sym (ap (λ s. bit_in k i (amount (single_of s))) (sym f) ∙ ap (λ o. bit_in k i (amount o)) e)

-- ---- rests

pub rest_is : (a u v : Ival) (m r : ℕ) (e : Bool) → ((n : ℤ) → Holds u n ↔ InRange (neg_ℤ (pos (2 ^ 120))) (pos (2 ^ 120)) (pos r) (pos m) n) → IsMeet u a v → e ≡ is_empty v.shape → not e ≡ has_residue a.shape m r
rest_is a u v m r e f g h = ap not h ∙ same_bool (not (is_empty v.shape)) (has_residue a.shape m r) found back
  where
    found : not (is_empty v.shape) ≡ true → has_residue a.shape m r ≡ true
    found t =
        let s = some_held v (not_false (is_empty v.shape) t) in
        let b = (g s.0).0 s.1 in
        let c = (f s.0).0 b.0 in
        held_residue a m r s.0 b.1 (unpos (residue m s.0) r (residue-rem_euclid m s.0 ∙ c.leaves))

    back : has_residue a.shape m r ≡ true → not (is_empty v.shape) ≡ true
    back t =
        let s = residue_held a m r t in
        let k = Holds-number a s.0 s.1 in
        let b = (f s.0).1 (record { above = k.least; below = k.greatest; leaves = sym (residue-rem_euclid m s.0) ∙ ap pos s.2 }) in
        not_true (is_empty v.shape) (held_some v s.0 ((g s.0).1 (b, s.1)))

-- ---- rows

rem_one : (n : ℤ) → int_rem_euclid n (pos 1) ≡ pos 0
rem_one n =
    let x = leaving n 1 (omega arith) in
    let b = x.below in
    let z : x.rest ≡ 0 = omega arith in
    x.is ∙ ap pos z

magnitude : (z : ℤ) → pos 0 ≤ℤ z → z ≡ pos (unsigned_abs z)
magnitude z h = omega (arith, ints)

last_step : (first more : ℤ) → pos 0 ≤ℤ more → first +ℤ more ≡ first +ℤ pos (unsigned_abs more * 1)
last_step first more h = omega (arith, ints)

pub row_from : (v r : Ival) (first more : ℤ) (b : Bool) → pos 0 ≤ℤ more → ((n : ℤ) → Holds r n ↔ InRange first (first +ℤ more) (pos 0) (pos 1) n) → IsTrue b ↔ Includes v r → b ≡ has_all_from v.shape (unsigned_abs more + 1) first
unfolding has_all_from
row_from v r first more b p f g = same_bool b (list_all (holds_number v.shape) (steps_from first 1 (unsigned_abs more + 1))) there back
  where
    inside : (n : ℤ) → At first 1 (unsigned_abs more + 1) n → InRange first (first +ℤ more) (pos 0) (pos 1) n
    inside n a =
        let w = a.within in
        let e = a.is in
        record { above = omega (arith, ints); below = omega (arith, ints); leaves = rem_one n }

    there : b ≡ true → list_all (holds_number v.shape) (steps_from first 1 (unsigned_abs more + 1)) ≡ true
    there t = In-all (holds_number v.shape) (steps_from first 1 (unsigned_abs more + 1))
        (λ n i. held_number v.shape n (g.0 t n ((f n).1 (inside n (steps_from-at first 1 (unsigned_abs more + 1) n (In-Among (steps_from first 1 (unsigned_abs more + 1)) n i))))))

    placed : (n : ℤ) → first ≤ℤ n → n ≤ℤ (first +ℤ more) → unsigned_abs (n -ℤ first) < unsigned_abs more + 1
    placed n h k = omega (arith, ints)

    reached : (n : ℤ) → first ≤ℤ n → n ≡ first +ℤ pos (unsigned_abs (n -ℤ first) * 1)
    reached n h = omega (arith, ints)

    back : list_all (holds_number v.shape) (steps_from first 1 (unsigned_abs more + 1)) ≡ true → b ≡ true
    back t = g.1 (λ n i.
        let c = (f n).0 i in
        number_held v.shape n (all-In (holds_number v.shape) (steps_from first 1 (unsigned_abs more + 1)) t n
        (Among-In (steps_from first 1 (unsigned_abs more + 1)) n (steps_from-among first 1 (unsigned_abs more + 1) (unsigned_abs (n -ℤ first)) n (placed n c.above c.below) (reached n c.above)))))

pub row_beyond : (v : Ival) (first more : ℤ) → (pos (2 ^ 120) -ℤ first) <ℤ more → pos 0 ≤ℤ more → false ≡ has_all_from v.shape (unsigned_abs more + 1) first
unfolding has_all_from
row_beyond v first more h p = false_from (list_all (holds_number v.shape) (steps_from first 1 (unsigned_abs more + 1))) (λ t.
    let a = steps_from-among first 1 (unsigned_abs more + 1) (unsigned_abs more) (first +ℤ more) (omega arith) (last_step first more p) in
    let k = Holds-number v (first +ℤ more) (number_held v.shape (first +ℤ more) (all-In (holds_number v.shape) (steps_from first 1 (unsigned_abs more + 1)) t (first +ℤ more) (Among-In (steps_from first 1 (unsigned_abs more + 1)) (first +ℤ more) a))) in
    let l = k.greatest in
    absurd (omega (arith, ints)))

-- ---- whether one of a list passes

drop_at : (xs : List ℤ) (i : ℕ) (d : ℤ) → i < length xs → drop i xs ≡ get_or xs i d ∷ drop (i + 1) xs
drop_at [] i d h = absurd (omega arith)
drop_at (x ∷ xs) zero d h = refl
drop_at (x ∷ xs) (suc i) d h =
    let n : suc i + 1 ≡ suc (i + 1) = omega arith in
    drop_at xs i d (omega arith) ∙ ap (λ m. get_or xs i d ∷ drop m (x ∷ xs)) (sym n)

pub any_here : (f : ℤ → Bool) (xs : List ℤ) (i : ℕ) (d : ℤ) → i < length xs → f (get_or xs i d) ≡ true → list_any f (drop i xs) ≡ list_any f xs → true ≡ list_any f xs
any_here f xs i d h t e =
    let a = drop_at xs i d h in
    let s : list_any f (get_or xs i d ∷ drop (i + 1) xs) ≡ true = rw t refl in
    sym s ∙ ap (list_any f) (sym a) ∙ e

pub any_next : (f : ℤ → Bool) (xs : List ℤ) (i : ℕ) (d : ℤ) → i < length xs → f (get_or xs i d) ≡ false → list_any f (drop i xs) ≡ list_any f xs → list_any f (drop (i + 1) xs) ≡ list_any f xs
any_next f xs i d h t e =
    let a = drop_at xs i d h in
    let s : list_any f (get_or xs i d ∷ drop (i + 1) xs) ≡ list_any f (drop (i + 1) xs) = rw t refl in
    sym s ∙ ap (list_any f) (sym a) ∙ e

pub any_end : (f : ℤ → Bool) (xs : List ℤ) (i : ℕ) → length xs ≤ i → list_any f (drop i xs) ≡ list_any f xs → false ≡ list_any f xs
any_end f xs i h e = let d = drop_end xs i h in sym (ap (list_any f) d) ∙ e

-- ---- where rows begin

pub row_few : (v : Ival) (few : List ℤ) (count : ℕ) (r : Bool) → numbers_of v.shape ≡ Some few → r ≡ list_any (has_all_from v.shape count) few → r ≡ has_row v.shape count
unfolding has_row list_of
row_few v few count r e h = h ∙ at v.shape e
  where
    at : (s : Shape) → numbers_of s ≡ Some few → list_any (has_all_from s count) few ≡ has_row s count
    at (Few f) e = let d : few ≡ f.items = cc in ap (list_any (has_all_from (Few f) count)) d
    at (Many p) e = cc

pub row_none : (v : Ival) (count : ℕ) → numbers_of v.shape ≡ None → bounds_of v.shape ≡ None → false ≡ has_row v.shape count
row_none v count e f = at v.shape e f
  where
    at : (s : Shape) → numbers_of s ≡ None → bounds_of s ≡ None → false ≡ has_row s count
    at (Few w) e f = cc
    at (Many p) e f = cc

shifted : (a b : ℤ) (i : ℕ) → apart a (a +ℤ pos i) ≡ apart b (b +ℤ pos i)
unfolding apart
shifted a b i = omega (arith, ints)

-- a row that begins somewhere in a run, moved to its first number
moved_row : (p : Progression) (l : IsLongRun p) (count : ℕ) → Row (record { shape = Many p; valid = l }) count → (i : ℕ) → i < count → Steps p (p.low +ℤ pos i)
moved_row p l count r i h =
    let n = r.next i h in
    let f = r.held in
    let a = f.above in
    let b = n.below in
    record {
      above = low_above p.low i;
      below = low_below p.low r.first p.high i a b;
      meets = subst (λ d. p.stride ∣ d) (shifted r.first p.low i) (meets_on p.stride r.first p.low (r.first +ℤ pos i) (meets_back p.stride p.low r.first f.meets) n.meets);
    }
  where
    low_above : (low : ℤ) (i : ℕ) → low ≤ℤ (low +ℤ pos i)
    low_above low i = omega (arith, ints)

    low_below : (low first high : ℤ) (i : ℕ) → low ≤ℤ first → (first +ℤ pos i) ≤ℤ high → (low +ℤ pos i) ≤ℤ high
    low_below low first high i h k = omega (arith, ints)

pub row_many : (v : Ival) (low high : ℤ) (count : ℕ) (r : Bool) → numbers_of v.shape ≡ None → bounds_of v.shape ≡ Some (low, high) → r ≡ has_all_from v.shape count low → r ≡ has_row v.shape count
unfolding has_row has_all_from
row_many v low high count r e f h = h ∙ at v.shape v.valid e f
  where
    at : (s : Shape) → IsValid s → numbers_of s ≡ None → bounds_of s ≡ Some (low, high) → has_all_from s count low ≡ has_row s count
    at (Few w) l e f = cc
    at (Many p) l e f =
        let w : Ival = record { shape = Many p; valid = l } in
        let d : p.low ≡ low = ap (λ (o : Option (ℤ × ℤ)). (unwrap_or o (low, high)).0) f in
        ap (has_all_from (Many p) count) (sym d) ∙ same_bool (has_all_from (Many p) count p.low) (has_row (Many p) count)
        (λ t. In-any (has_all_from (Many p) count) (list_of (Many p)) p.low (held_listed w p.low (Steps-low p l)) t)
        (λ t. In-all (holds_number (Many p)) (steps_from p.low 1 count) (λ n i.
        let a = steps_from-at p.low 1 count n (In-Among (steps_from p.low 1 count) n i) in
        held_number (Many p) n (subst (Steps p) (once p.low a.place ∙ sym a.is) (moved_row p l count (row_held w count t) a.place a.within))))
      where
        once : (a : ℤ) (i : ℕ) → a +ℤ pos i ≡ a +ℤ pos (i * 1)
        once a i = omega (arith, ints)

pub row_far : (v : Ival) (bits : ℕ) → 121 < bits → false ≡ has_row v.shape (2 ^ bits)
row_far v bits h = false_from (has_row v.shape (2 ^ bits)) (λ t.
    let p : 2 ^ 122 ≤ 2 ^ bits = pow-le-pow_right (omega arith) h in
    let r = row_held v (2 ^ bits) t in
    let a = Holds-number v r.first r.held in
    let b = Holds-number v (r.first +ℤ pos (2 ^ 121 + 1)) (r.next (2 ^ 121 + 1) (omega arith)) in
    let l = a.least in
    let g = b.greatest in
    far r.first l g)
  where
    far : (n : ℤ) → neg_ℤ (pos (2 ^ 120)) ≤ℤ n → (n +ℤ pos (2 ^ 121 + 1)) ≤ℤ pos (2 ^ 120) → ⊥
    far n h k = omega (arith, ints)

-- ---- some sets

pub word_is : (n : ℕ) (v : Ival) → n < 2 ^ 64 → v.shape ≡ Few (record { items = pos n ∷ [] }) → v ≡ word n
unfolding word
word_is n v h e = same_ival v (word n) (e ∙ ap (λ m. Few (record { items = pos m ∷ [] })) (sym (mod-eq_of_lt h)))

pub bit_shape : run_shape (pos 0) 1 (apart (pos 0) (pos 1) / 1) ≡ bit_numbers.shape
unfolding bit_numbers apart
bit_shape = refl

pub glued_tops : (high top : Ival) (bits more : ℕ) → bits + more ≤ 64 → top.shape ≡ extracted 0 more high.shape → (h : ℤ) → Holds top h → (pos 0 ≤ℤ h) × (h <ℤ pos (2 ^ (64 - bits)))
glued_tops high top bits more h e x i =
    let a : min bits 64 ≡ bits = omega arith in
    let b : min more (64 - min bits 64) ≡ more = omega arith in
    let t = part_tops bits more high top (e ∙ ap (λ k. extracted 0 k high.shape) (sym b)) in
    subst (λ j. (pos 0 ≤ℤ x) × (x <ℤ pos (2 ^ (64 - j)))) a (t.tops x i)

pub glued_is : (low high top v : Ival) (bits more : ℕ) → bits + more ≤ 64 → top.shape ≡ extracted 0 more high.shape → v.shape ≡ concatenated bits low.shape top.shape → v ≡ concat_of bits low more high
unfolding concat_of
glued_is low high top v bits more h e f =
    let a : min bits 64 ≡ bits = omega arith in
    let b : min more (64 - min bits 64) ≡ more = omega arith in
    same_ival v (concat_of bits low more high) (f ∙ ap (concatenated bits low.shape) e ∙ ap (λ k. concatenated bits low.shape (extracted 0 k high.shape)) (sym b)
    ∙ ap (λ j. concatenated j low.shape (extracted 0 (min more (64 - min bits 64)) high.shape)) (sym a))

-- ---- parts

pub part_is : (low bits : ℕ) (a v : Ival) → low + bits ≤ 64 → v.shape ≡ extracted low bits a.shape → v ≡ part_of low bits a
unfolding part_of
part_is low bits a v h e =
    let m : min bits 64 ≡ bits = omega arith in
    same_ival v (part_of low bits a) (e ∙ ap (λ n. extracted low n a.shape) (sym m))
