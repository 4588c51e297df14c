-- Marks ascend, and what is widened lies in the widening.
use Rattle.std.proofs.Common.{◌≡◌, ◌⊎◌, ℕ, ◌-◌, ◌^◌, ◌<◌, ◌≤◌, ◌==◌, Bool, true, false, cond, ◌&&◌, ℤ, pos, ◌-ℤ◌, List, [], ◌∷◌, nat_lt, refl, sym, subst, ap, ◌∙◌, inl, inr, arith}
use Rattle.std.specs.Prelude.{neg_ℤ, ◌*ℤ◌}
use Rattle.std.proofs.Math.Nat.{pow-le-pow_right}
use Rattle.std.proofs.lemmas.Bool.{eqb-true}
use Rattle.std.proofs.lemmas.Bool.Decides.{nat_tests}
use Rattle.std.proofs.lemmas.Int.{ints}
use lib.Signed.{◌<ℤ◌, ◌≤ℤ◌}
use Rattle.ival_core.specs.declared.value.Shape.{Shape}
use Rattle.ival_core.specs.declared.value.Ival.{Ival}
use Rattle.ival_core.specs.Ivals.{Holds, IsJoin}
use Rattle.ival_core.specs.Sets.{IsNumber}
use Rattle.ival_core.specs.Widenings.{AreMarks, widened}
use Rattle.ival_plain.proofs.Widening.{Covers, widened_covers}
use Rattle.avalue_base.specs.Numbers.{join_of, lies_in}
use Rattle.avalue_base.specs.Values.{Address}
use Rattle.avalue_base.specs.Meets.{set_of}
use Rattle.avalue_base.specs.Order.{is_part, both_addresses}
use Rattle.avalue_base.proofs.Meets.{set_same, meet_is}
use Rattle.avalue_base.proofs.Ordering.{part_from}
use Rattle.avalue_base.proofs.Sets.{includes-lies, join_is}
use Rattle.avalue_parts.specs.Widened.{widen_of, widened_set, half_marks, bit_marks, offset_marks, widened_offsets, widened_address}

-- ---- marks

number : (n : ℤ) → neg_ℤ (pos (2 ^ 120)) ≤ℤ n → n ≤ℤ pos (2 ^ 120) → IsNumber n
number n a b = record { least = a; greatest = b }

three : (a b c : ℤ) → a <ℤ b → b <ℤ c → neg_ℤ (pos (2 ^ 120)) ≤ℤ a → c ≤ℤ pos (2 ^ 120) → AreMarks (a ∷ b ∷ c ∷ [])
three a b c l m least greatest = record {
  ascending = ((l, (omega (arith, ints), tt)), ((m, tt), (tt, tt)));
  numbers = (number a least (omega (arith, ints)), (number b (omega (arith, ints)) (omega (arith, ints)), (number c (omega (arith, ints)) greatest, tt)));
}

four : (a b c d : ℤ) → a <ℤ b → b <ℤ c → c <ℤ d → neg_ℤ (pos (2 ^ 120)) ≤ℤ a → d ≤ℤ pos (2 ^ 120) → AreMarks (a ∷ b ∷ c ∷ d ∷ [])
four a b c d l m n least greatest =
    let r = three b c d m n (omega (arith, ints)) greatest in
    record {
      ascending = ((l, (omega (arith, ints), (omega (arith, ints), tt))), r.ascending);
      numbers = (number a least (omega (arith, ints)), r.numbers);
    }

pub three_marks : AreMarks (neg_ℤ (pos 1) ∷ pos 0 ∷ pos 1 ∷ [])
three_marks = three (neg_ℤ (pos 1)) (pos 0) (pos 1) (omega (arith, ints)) (omega (arith, ints)) (omega (arith, ints)) (omega (arith, ints))

pub half_are_marks : (h : ℤ) → pos 2 ≤ℤ h → h ≤ℤ pos (2 ^ 63) → AreMarks (half_marks h)
half_are_marks h a b = four (pos 0 -ℤ h) (pos 0) (h -ℤ pos 1) (pos 2 *ℤ h -ℤ pos 1) (omega (arith, ints)) (omega (arith, ints)) (omega (arith, ints)) (omega (arith, ints)) (omega (arith, ints))

pub end_marks : AreMarks (neg_ℤ (pos (2 ^ 62)) ∷ pos 0 ∷ pos (2 ^ 62) ∷ [])
end_marks = three (neg_ℤ (pos (2 ^ 62))) (pos 0) (pos (2 ^ 62)) (omega (arith, ints)) (omega (arith, ints)) (omega (arith, ints)) (omega (arith, ints))

pub size_marks : (size : ℤ) → pos 0 <ℤ size → size <ℤ pos (2 ^ 62) → AreMarks (neg_ℤ (pos (2 ^ 62)) ∷ pos 0 ∷ size ∷ pos (2 ^ 62) ∷ [])
size_marks size a b = four (neg_ℤ (pos (2 ^ 62))) (pos 0) size (pos (2 ^ 62)) (omega (arith, ints)) a b (omega (arith, ints)) (omega (arith, ints))

pub offset_are_marks : (size : ℕ) → AreMarks (offset_marks size)
offset_are_marks size = by_test (nat_lt 0 size) (nat_lt size (2 ^ 62)) refl refl
  where
    below : (a b : ℕ) → nat_lt a b ≡ true → a < b
    below a b e = grind (arith, nat_tests)

    by_test : (s t : Bool) → nat_lt 0 size ≡ s → nat_lt size (2 ^ 62) ≡ t → AreMarks (cond (s && t) (neg_ℤ (pos (2 ^ 62)) ∷ pos 0 ∷ pos size ∷ pos (2 ^ 62) ∷ []) (neg_ℤ (pos (2 ^ 62)) ∷ pos 0 ∷ pos (2 ^ 62) ∷ []))
    by_test true true e f = let a = below 0 size e in let b = below size (2 ^ 62) f in size_marks (pos size) (omega (arith, ints)) (omega (arith, ints))
    by_test true false e f = end_marks
    by_test false t e f = end_marks

pub record Half (n : ℕ) : Type 0 where
  pub some : 2 ≤ n
  pub few : n ≤ 2 ^ 63

pub halves : (k : ℕ) → 2 ≤ k → k ≤ 64 → Half (2 ^ (k - 1))
halves k a b =
    let o : 1 ≤ k - 1 = omega arith in
    let f : k - 1 ≤ 63 = omega arith in
    let l : 2 ^ 1 ≤ 2 ^ (k - 1) = pow-le-pow_right (omega arith) o in
    let u : 2 ^ (k - 1) ≤ 2 ^ 63 = pow-le-pow_right (omega arith) f in
    record { some = l; few = u }

pub bit_are_marks : (k : ℕ) → 0 < k → k ≤ 64 → AreMarks (bit_marks k)
bit_are_marks k a b = by_test (k == 1) refl
  where
    wide : (k == 1) ≡ false → 2 ≤ k
    wide e = other k e a
      where
        other : (n : ℕ) → (n == 1) ≡ false → 0 < n → 2 ≤ n
        other n e h = grind (arith, nat_tests)

    by_test : (s : Bool) → (k == 1) ≡ s → AreMarks (cond s (neg_ℤ (pos 1) ∷ pos 0 ∷ pos 1 ∷ []) (half_marks (pos (2 ^ (k - 1)))))
    by_test true e = three_marks
    by_test false e =
        let w = wide e in
        let h = halves k w b in
        half_are_marks (pos (2 ^ (k - 1))) (omega (arith, ints)) (omega (arith, ints))

-- ---- sets

set_holds : (s : Shape) (j : Ival) → Covers j s → (n : ℤ) → Holds j n → Holds (set_of s) n
set_holds s j c n h = subst (λ v. Holds v n) (set_same (record { shape = s; valid = c.valid }) s refl) (c.holds n h)

widen_holds : (marks : List ℤ) (a b : Ival) → AreMarks marks → (n : ℤ) → Holds (join_of a b) n → Holds (widen_of marks a b) n
unfolding widen_of
widen_holds marks a b m n h = set_holds (widened a.shape (join_of a b).shape marks) (join_of a b) (widened_covers a (join_of a b) marks m) n h

pub widened_holds : (marks own : List ℤ) (a b : Ival) → AreMarks marks → AreMarks own → lies_in (join_of a b).shape (widened_set marks own a b).shape ≡ true
widened_holds marks own a b m k =
    includes-lies (join_of a b) (widened_set marks own a b)
    (λ n h. (meet_is (widen_of marks a b) (widen_of own a b) n).1 (widen_holds marks a b m n h, widen_holds own a b k n h))

pub widen_same : (marks : List ℤ) (a b v : Ival) → ((joined : Ival) → IsJoin a b joined → v.shape ≡ widened a.shape joined.shape marks) → v ≡ widen_of marks a b
unfolding widen_of
widen_same marks a b v f = set_same v (widened a.shape (join_of a b).shape marks) (f (join_of a b) (join_is a b))

pub widened_part : (sizes : ℕ → ℕ) (marks : List ℤ) (a b : Address) → AreMarks marks → is_part (both_addresses a b) (widened_address sizes marks a b) ≡ true
unfolding widened_offsets
widened_part sizes marks a b m = part_from (both_addresses a b) (widened_address sizes marks a b) refl (widened_holds marks (offset_marks (sizes a.base)) a.offsets b.offsets m (offset_are_marks (sizes a.base)))

-- ---- the marks of a base and of bits

far_marks : (size : ℕ) → (size ≡ 0) ⊎ (2 ^ 62 ≤ size) → offset_marks size ≡ neg_ℤ (pos (2 ^ 62)) ∷ pos 0 ∷ pos (2 ^ 62) ∷ []
far_marks size h = at (nat_lt 0 size) (nat_lt size (2 ^ 62)) refl refl
  where
    not_both : (nat_lt 0 size ≡ true) → (nat_lt size (2 ^ 62) ≡ true) → ⊥
    not_both e f = elim h [ inl z ↦ none size z e | inr l ↦ above size l f ]
      where
        none : (n : ℕ) → n ≡ 0 → nat_lt 0 n ≡ true → ⊥
        none n z e = grind (arith, nat_tests)

        above : (n : ℕ) → 2 ^ 62 ≤ n → nat_lt n (2 ^ 62) ≡ true → ⊥
        above n l e = grind (arith, nat_tests)

    at : (s t : Bool) → nat_lt 0 size ≡ s → nat_lt size (2 ^ 62) ≡ t →
        cond (s && t) (neg_ℤ (pos (2 ^ 62)) ∷ pos 0 ∷ pos size ∷ pos (2 ^ 62) ∷ []) (neg_ℤ (pos (2 ^ 62)) ∷ pos 0 ∷ pos (2 ^ 62) ∷ []) ≡ neg_ℤ (pos (2 ^ 62)) ∷ pos 0 ∷ pos (2 ^ 62) ∷ []
    at true true e f = absurd (not_both e f)
    at true false e f = refl
    at false t e f = refl

near_marks : (size : ℕ) → 0 < size → size < 2 ^ 62 → offset_marks size ≡ neg_ℤ (pos (2 ^ 62)) ∷ pos 0 ∷ pos size ∷ pos (2 ^ 62) ∷ []
near_marks size a b =
    let e : nat_lt 0 size ≡ true = grind (arith, nat_tests) in
    let f : nat_lt size (2 ^ 62) ≡ true = grind (arith, nat_tests) in
    rw (e, f) refl

pub offsets_far : (marks : List ℤ) (size : ℕ) (a b v : Ival) → (size ≡ 0) ⊎ (2 ^ 62 ≤ size) → v ≡ widened_set marks (neg_ℤ (pos (2 ^ 62)) ∷ pos 0 ∷ pos (2 ^ 62) ∷ []) a b → v ≡ widened_offsets marks size a b
unfolding widened_offsets
offsets_far marks size a b v h e = e ∙ ap (λ own. widened_set marks own a b) (sym (far_marks size h))

pub offsets_near : (marks : List ℤ) (size : ℕ) (a b v : Ival) → 0 < size → size < 2 ^ 62 → v ≡ widened_set marks (neg_ℤ (pos (2 ^ 62)) ∷ pos 0 ∷ pos size ∷ pos (2 ^ 62) ∷ []) a b → v ≡ widened_offsets marks size a b
unfolding widened_offsets
offsets_near marks size a b v l u e = e ∙ ap (λ own. widened_set marks own a b) (sym (near_marks size l u))

pub bits_marked : (bits half : ℕ) → (bits ≡ 1 → ⊥) → half ≡ 2 ^ (bits - 1) → half_marks (pos half) ≡ bit_marks bits
bits_marked bits half n h =
    let f : (bits == 1) ≡ false = no bits n in
    ap (λ k. half_marks (pos k)) h ∙ ap (λ t. cond t (neg_ℤ (pos 1) ∷ pos 0 ∷ pos 1 ∷ []) (half_marks (pos (2 ^ (bits - 1))))) (sym f)
  where
    no : (n : ℕ) → (n ≡ 1 → ⊥) → (n == 1) ≡ false
    no n f = at (n == 1) (λ t. f (eqb-true n 1 t))
      where
        at : (b : Bool) → (b ≡ true → ⊥) → b ≡ false
        at true f = absurd (f refl)
        at false f = refl

pub one_bit_marked : (bits : ℕ) → bits ≡ 1 → neg_ℤ (pos 1) ∷ pos 0 ∷ pos 1 ∷ [] ≡ bit_marks bits
one_bit_marked bits h = ap bit_marks (sym h)
