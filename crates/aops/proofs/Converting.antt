-- Conversions hold what they give.
use Rattle.std.proofs.Common.{◌≡◌, ℕ, ◌/◌, ◌^◌, ◌==◌, ◌<◌, Bool, true, false, ℤ, pos, ◌+ℤ◌, List, [], ◌∷◌, refl, sym, subst, ap, ◌∙◌, inl, inr}
use Rattle.std.specs.Prelude.{None, Some, not}
use Rattle.std.specs.FinSet.{contains}
use Rattle.std.proofs.Math.Nat.{mod-eq_of_lt}
use Rattle.std.proofs.lemmas.Bool.{and_parts, eqb-true}
use Rattle.std.proofs.lemmas.Nat.{pow_pos}
use Rattle.c_base.specs.declared.integer.IntKind.{IntKind}
use Rattle.c_base.specs.declared.integer.IntKind.TheVariants.{Bool as bool_kind, Char, SChar, UChar, Short, UShort, Int, UInt, Long, ULong, LLong, ULLong}
use Rattle.c_base.specs.declared.integer.Machine.{Machine}
use Rattle.c_base.specs.declared.operators.Rel.TheVariants as rel
use Rattle.c_base.specs.Integers.{residue, is_signed, width_of}
use Rattle.c_base.specs.Operators.{converted, reduced, truth_number, is_zero}
use Rattle.c_base.proofs.Residues.{residue_below}
use Rattle.c_memory.specs.declared.scalar.Scalar.TheVariants.{Integer}
use Rattle.c_memory.specs.Values.{Value, Provenance}
use Rattle.c_memory.specs.Layouts.{Layout}
use Rattle.c_pointers.specs.Conversions.{address_number, provenance_in, converted_to}
use Rattle.ival_core.specs.declared.value.Ival.{Ival}
use Rattle.ival_core.specs.Ivals.{Holds}
use Rattle.ival_core.specs.Ranges.{run_shape}
use Rattle.ival_core.specs.Sets.{apart}
use Rattle.avalue_base.specs.Numbers.{bit_numbers}
use Rattle.avalue_base.specs.Values.{Address, AVal, Separate, Mixed, bases_of}
use Rattle.avalue_base.specs.Hues.{pointer_bits}
use Rattle.avalue_base.specs.Meaning.{MeansAddress, MeansSome, Means}
use Rattle.avalue_values.specs.Views.{numbers_in, numbers_alone, renumbered}
use Rattle.aops.specs.Converted.{wrapped_set, truths, as_pointers, is_word, as_integers, as_truths}
use Rattle.ival_plain.proofs.Least.{least_holds}
use Rattle.avalue_base.specs.Meets.{least_of}
use Rattle.aops.proofs.Giving.{means_bases, means_alone}
use Rattle.aops.proofs.Sorts.{related_held, zero_number}

-- ---- pointers

same_residue : (m : ℕ) (z : ℤ) → 0 < m → residue m (pos (residue m z)) ≡ residue m z
same_residue m z h = mod-eq_of_lt (residue_below m z h)

address_kept : (l : Layout) (a : Address) (x : Value) → MeansAddress l a x → MeansAddress l a (record { number = address_number l.machine x.number; provenance = x.provenance })
address_kept l a x m = record {
  offset = m.offset;
  held = m.held;
  number = ap (λ n. pos (residue (2 ^ pointer_bits l.machine) n)) m.number ∙ ap pos (same_residue (2 ^ pointer_bits l.machine) (pos (l.address a.base) +ℤ m.offset) (pow_pos (pointer_bits l.machine)));
  provenance = m.provenance;
}

some_kept : (l : Layout) (xs : List Address) (x : Value) → MeansSome l xs x → MeansSome l xs (record { number = address_number l.machine x.number; provenance = x.provenance })
some_kept l [] x m = m
some_kept l (a ∷ xs) x (inl m) = inl (address_kept l a x m)
some_kept l (a ∷ xs) x (inr m) = inr (some_kept l xs x m)

-- what was reduced to the pointer's range
pub pointers_hold : (l : Layout) (m : Machine) → l.machine ≡ m → (a : AVal) (n w : Ival) → numbers_in a ≡ Some n → ((i : ℤ) → Holds n i → Holds w (reduced false (pointer_bits m) i)) → (x : Value) → Means l a x →
    Means l (renumbered a w) (record { number = address_number m x.number; provenance = x.provenance })
pointers_hold l m e (Separate ns xs) n w f h x (inl i) = let d : ns ≡ n = cc in inl (i.0, h x.number (subst (λ z. Holds z x.number) d i.1))
pointers_hold l m e (Separate ns xs) n w f h x (inr i) = inr (subst (λ k. MeansSome l xs (record { number = address_number k x.number; provenance = x.provenance })) e (some_kept l xs x i))
pointers_hold l m e (Mixed bs) n w f h x i = cc

pub mix_holds : (l : Layout) (m : Machine) (a : AVal) → numbers_in a ≡ None → (x : Value) → Means l a x → Means l a (record { number = address_number m x.number; provenance = x.provenance })
mix_holds l m (Separate ns xs) f x i = cc
mix_holds l m (Mixed bs) f x i = i

pub pointers_is : (m : Machine) (a : AVal) (n w : Ival) → numbers_in a ≡ Some n → w ≡ wrapped_set false (pointer_bits m) n → renumbered a w ≡ as_pointers m a
pointers_is m (Separate ns xs) n w f h = let d : n ≡ ns = cc in ap (λ z. Separate z xs) (h ∙ ap (wrapped_set false (pointer_bits m)) d)
pointers_is m (Mixed bs) n w f h = cc

pub pointers_mix : (m : Machine) (a : AVal) → numbers_in a ≡ None → a ≡ as_pointers m a
pointers_mix m (Separate ns xs) f = cc
pointers_mix m (Mixed bs) f = refl

-- ---- integers

pub other_kind : (kind : IntKind) → (kind ≡ bool_kind → ⊥) → (m : Machine) (n : ℤ) → converted kind m n ≡ reduced (is_signed kind) (width_of kind m) n
other_kind bool_kind h m n = absurd (h refl)
other_kind Char h m n = refl
other_kind SChar h m n = refl
other_kind UChar h m n = refl
other_kind Short h m n = refl
other_kind UShort h m n = refl
other_kind Int h m n = refl
other_kind UInt h m n = refl
other_kind Long h m n = refl
other_kind ULong h m n = refl
other_kind LLong h m n = refl
other_kind ULLong h m n = refl

kept_provenance : (kind : IntKind) → (kind ≡ bool_kind → ⊥) → (p : Provenance) → provenance_in kind p ≡ p
kept_provenance bool_kind h p = absurd (h refl)
kept_provenance Char h p = refl
kept_provenance SChar h p = refl
kept_provenance UChar h p = refl
kept_provenance Short h p = refl
kept_provenance UShort h p = refl
kept_provenance Int h p = refl
kept_provenance UInt h p = refl
kept_provenance Long h p = refl
kept_provenance ULong h p = refl
kept_provenance LLong h p = refl
kept_provenance ULLong h p = refl

pub numbers_hold : (l : Layout) (kind : IntKind) → (kind ≡ bool_kind → ⊥) → (m : Machine) (a v : AVal) (n w : Ival) → numbers_alone a ≡ Some n → v ≡ Separate w [] →
    ((i : ℤ) → Holds n i → Holds w (reduced (is_signed kind) (width_of kind m) i)) → (x : Value) → Means l a x → Means l v (converted_to (Integer kind) m x)
numbers_hold l kind b m a v n w e g h x i =
    let p = means_alone l a n x e i in
    subst (λ z. Means l z (converted_to (Integer kind) m x)) (sym g)
    (inl (kept_provenance kind b x.provenance ∙ p.0, subst (Holds w) (sym (other_kind kind b m x.number)) (h x.number p.1)))

pub mixed_hold : (l : Layout) (kind : IntKind) → (kind ≡ bool_kind → ⊥) → (m : Machine) (a v : AVal) → v ≡ Mixed (bases_of a) → (x : Value) → Means l a x → Means l v (converted_to (Integer kind) m x)
mixed_hold l kind b m a v g x i =
    subst (λ z. Means l z (converted_to (Integer kind) m x)) (sym g) (λ q h. means_bases l a x q i (subst (λ p. contains p q ≡ true) (kept_provenance kind b x.provenance) h))

-- a type of the pointer's range reduces as pointers are
pub word_hold : (l : Layout) (kind : IntKind) → (kind ≡ bool_kind → ⊥) → (m : Machine) → is_word kind m ≡ true → (v : AVal) (x : Value) → Means l v (record { number = address_number m x.number; provenance = x.provenance }) → Means l v (converted_to (Integer kind) m x)
word_hold l kind b m w v x i =
    let p = and_parts (not (is_signed kind)) (width_of kind m == pointer_bits m) w in
    let s : is_signed kind ≡ false = unsigned (is_signed kind) p.0 in
    let d = eqb-true (width_of kind m) (pointer_bits m) p.1 in
    let n : converted kind m x.number ≡ address_number m x.number =
    other_kind kind b m x.number ∙ ap (λ t. reduced t (width_of kind m) x.number) s ∙ ap (λ k. reduced false k x.number) d in
    subst (λ z. Means l v (record { number = z; provenance = provenance_in kind x.provenance })) (sym n)
    (subst (λ p. Means l v (record { number = address_number m x.number; provenance = p })) (sym (kept_provenance kind b x.provenance)) i)
  where
    unsigned : (t : Bool) → not t ≡ true → t ≡ false
    unsigned true e = cc
    unsigned false e = refl

pub integers_alone : (kind : IntKind) (m : Machine) (a : AVal) (n w : Ival) → numbers_alone a ≡ Some n → w ≡ wrapped_set (is_signed kind) (width_of kind m) n → Separate w [] ≡ as_integers kind m a
integers_alone kind m (Separate ns []) n w e h = let d : n ≡ ns = cc in ap (λ z. Separate z []) (h ∙ ap (wrapped_set (is_signed kind) (width_of kind m)) d)
integers_alone kind m (Separate ns (x ∷ xs)) n w e h = cc
integers_alone kind m (Mixed bs) n w e h = cc

pub integers_word : (kind : IntKind) (m : Machine) (a : AVal) → numbers_alone a ≡ None → is_word kind m ≡ true → as_pointers m a ≡ as_integers kind m a
integers_word kind m (Separate ns []) e h = cc
integers_word kind m (Separate ns (x ∷ xs)) e h = rw h refl
integers_word kind m (Mixed bs) e h = refl

pub integers_mixed : (kind : IntKind) (m : Machine) (a : AVal) → numbers_alone a ≡ None → is_word kind m ≡ false → Mixed (bases_of a) ≡ as_integers kind m a
integers_mixed kind m (Separate ns []) e h = cc
integers_mixed kind m (Separate ns (x ∷ xs)) e h = rw h refl
integers_mixed kind m (Mixed bs) e h = refl

-- ---- truths

pub truths_alone : (a : AVal) (n w : Ival) → numbers_alone a ≡ Some n → w ≡ truths n → Separate w [] ≡ as_truths a
truths_alone (Separate ns []) n w e h = let d : n ≡ ns = cc in ap (λ z. Separate z []) (h ∙ ap truths d)
truths_alone (Separate ns (x ∷ xs)) n w e h = cc
truths_alone (Mixed bs) n w e h = cc

pub truths_mixed : (a : AVal) → numbers_alone a ≡ None → Separate bit_numbers [] ≡ as_truths a
truths_mixed (Separate ns []) e = cc
truths_mixed (Separate ns (x ∷ xs)) e = refl
truths_mixed (Mixed bs) e = refl

zero_held : Holds (least_of (pos 0 ∷ [])) (pos 0)
unfolding least_of
zero_held = least_holds (pos 0 ∷ []) (pos 0) (inl refl) zero_number

truth_bit : (b : Bool) → Holds bit_numbers (truth_number b)
unfolding bit_numbers
truth_bit true = inr (inl refl)
truth_bit false = inl refl

pub truths_hold : (l : Layout) (m : Machine) (a v : AVal) (n w : Ival) → numbers_alone a ≡ Some n → v ≡ Separate w [] → w ≡ truths n → (x : Value) → Means l a x → Means l v (converted_to (Integer bool_kind) m x)
truths_hold l m a v n w e g h x i =
    let p = means_alone l a n x e i in
    subst (λ z. Means l z (converted_to (Integer bool_kind) m x)) (sym g)
    (inl (refl, subst (λ z. Holds z (converted bool_kind m x.number)) (sym h) (related_held rel.Ne n (least_of (pos 0 ∷ [])) x.number (pos 0) p.1 zero_held)))

pub bits_hold : (l : Layout) (m : Machine) (v : AVal) → v ≡ Separate bit_numbers [] → (x : Value) → Means l v (converted_to (Integer bool_kind) m x)
bits_hold l m v g x = subst (λ z. Means l z (converted_to (Integer bool_kind) m x)) (sym g) (inl (refl, truth_bit (not (is_zero x.number))))

pub bit_shape : run_shape (pos 0) 1 (apart (pos 0) (pos 1) / 1) ≡ bit_numbers.shape
unfolding bit_numbers apart
bit_shape = refl
