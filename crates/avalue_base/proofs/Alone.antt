-- Single cells allow one content alone.
use Rattle.std.proofs.Common.{◌≡◌, ◌⊎◌, ℕ, ◌^◌, Bool, true, false, cond, ◌&&◌, ◌||◌, ℤ, pos, ◌+ℤ◌, List, [], ◌∷◌, length, refl, sym, subst, ap, ◌∙◌, inl, inr, arith}
use Rattle.std.specs.Prelude.{not, is_some, Option, None, Some}
use Rattle.std.specs.List.{AllByRecursion}
use Rattle.std.proofs.lemmas.Bool.{and_parts, or_cases}
use Rattle.c_base.specs.Integers.{residue, bits_from, in_byte_order}
use Rattle.c_memory.specs.Values.{Cell, Uninit, Dead, Bit, Provenance, nowhere, only}
use Rattle.c_memory.specs.Layouts.{Layout}
use Rattle.c_memory.specs.Rows.{RowCell, AreBits, IsFlagged, AreBitsOf, AllowsSome}
use Rattle.ival_core.specs.declared.value.Ival.{Ival}
use Rattle.ival_core.specs.Ivals.{Holds}
use Rattle.ival_core.specs.Views.{single_of}
use Rattle.avalue_base.specs.Lists.{In}
use Rattle.avalue_base.specs.Numbers.{is_empty}
use Rattle.avalue_base.specs.Values.{Address, AVal, Separate, Mixed, Cellv, has_no_value, parts_of, row_cell}
use Rattle.avalue_base.specs.Meaning.{Allows}
use Rattle.avalue_base.specs.Singles.{is_single_value, is_single, SameCell, SameCells}
use Rattle.avalue_base.proofs.Sets.{single_only, empty_none}
use Rattle.avalue_base.proofs.Meanings.{AddressIn, separate_allows, some_value, by_value}

not_flag : (b : Bool) → not b ≡ true → b ≡ true → ⊥
not_flag true h k = cc
not_flag false h k = cc

-- bits of one number
same_bits : (c : RowCell) → (c.uninit ≡ true → ⊥) → (c.dead ≡ true → ⊥) → (p : Provenance) (bs : List Bool) (xs ys : List Cell) → AreBits c p bs xs → AreBits c p bs ys → SameCells xs ys
same_bits c f g p [] [] [] a b = tt
same_bits c f g p [] [] (y ∷ ys) a b = absurd b
same_bits c f g p [] (x ∷ xs) ys a b = absurd a
same_bits c f g p (d ∷ bs) [] ys a b = absurd a
same_bits c f g p (d ∷ bs) (x ∷ xs) [] a b = absurd b
same_bits c f g p (d ∷ bs) (Uninit ∷ xs) (y ∷ ys) a b = absurd (f a.0)
same_bits c f g p (d ∷ bs) (Dead ∷ xs) (y ∷ ys) a b = absurd (g a.0)
same_bits c f g p (d ∷ bs) (Bit e q i ∷ xs) (Uninit ∷ ys) a b = absurd (f b.0)
same_bits c f g p (d ∷ bs) (Bit e q i ∷ xs) (Dead ∷ ys) a b = absurd (g b.0)
same_bits c f g p (d ∷ bs) (Bit e q i ∷ xs) (Bit h r j ∷ ys) a b = ((a.0.0 ∙ sym b.0.0, a.0.1 ∙ sym b.0.1), same_bits c f g p bs xs ys a.1 b.1)

same_flags : (c : RowCell) → ((c.uninit ≡ true → ⊥) ⊎ (c.dead ≡ true → ⊥)) → (xs ys : List Cell) → length xs ≡ length ys → AllByRecursion (IsFlagged c) xs → AllByRecursion (IsFlagged c) ys → SameCells xs ys
same_flags c n [] [] e a b = tt
same_flags c n [] (y ∷ ys) e a b = absurd (omega arith)
same_flags c n (x ∷ xs) [] e a b = absurd (omega arith)
same_flags c n (x ∷ xs) (y ∷ ys) e a b = (at n x y a.0 b.0, same_flags c n xs ys (omega arith) a.1 b.1)
  where
    at : ((c.uninit ≡ true → ⊥) ⊎ (c.dead ≡ true → ⊥)) → (x y : Cell) → IsFlagged c x → IsFlagged c y → SameCell x y
    at n Uninit Uninit a b = tt
    at n Dead Dead a b = tt
    at (inl f) Uninit Dead a b = absurd (f a)
    at (inr f) Uninit Dead a b = absurd (f b)
    at (inl f) Dead Uninit a b = absurd (f b)
    at (inr f) Dead Uninit a b = absurd (f a)
    at n (Bit d p i) y a b = absurd a
    at n Uninit (Bit d p i) a b = absurd b
    at n Dead (Bit d p i) a b = absurd b

same_number : (l : Layout) (c : RowCell) → (c.uninit ≡ true → ⊥) → (c.dead ≡ true → ⊥) → (p : Provenance) (n m : ℤ) (xs ys : List Cell) → length xs ≡ length ys → n ≡ m → AreBitsOf l c p n xs → AreBitsOf l c p m ys → SameCells xs ys
same_number l c f g p n m xs ys e h a b =
    let b' : AreBits c p (in_byte_order l.machine (bits_from (residue (2 ^ length xs) n) (length xs))) ys =
    subst (λ k. AreBits c p (in_byte_order l.machine (bits_from (residue (2 ^ k) n) k)) ys) (sym e)
    (subst (λ z. AreBits c p (in_byte_order l.machine (bits_from (residue (2 ^ length ys) z) (length ys))) ys) (sym h) b) in
    same_bits c f g p (in_byte_order l.machine (bits_from (residue (2 ^ length xs) n) (length xs))) xs ys a b'

one_number : (v : Ival) (n m : ℤ) → is_some (single_of v.shape) ≡ true → Holds v n → Holds v m → n ≡ m
one_number v n m h a b = at (single_of v.shape) refl h
  where
    at : (o : Option ℤ) → single_of v.shape ≡ o → is_some o ≡ true → n ≡ m
    at None e t = cc
    at (Some k) e t = let o = single_only v k e in (o n).0 a ∙ sym ((o m).0 b)

same_values : (l : Layout) (c : RowCell) → (c.uninit ≡ true → ⊥) → (c.dead ≡ true → ⊥) → (xs ys : List Cell) → length xs ≡ length ys → (v : AVal) → is_single_value v ≡ true →
    AllowsSome l c xs (parts_of v) → AllowsSome l c ys (parts_of v) → SameCells xs ys
same_values l c f g xs ys e (Separate ns []) h a b =
    elim (separate_allows l c xs ns [] a) [
      | inr p ↦ absurd p.among
      | inl p ↦ elim (separate_allows l c ys ns [] b) [
        | inr q ↦ absurd q.among
        | inl q ↦ same_number l c f g nowhere p.number q.number xs ys e (one_number ns p.number q.number h p.held q.held) p.bits q.bits
      ]
    ]
same_values l c f g xs ys e (Separate ns (x ∷ [])) h a b =
    let t = and_parts (is_empty ns.shape) (is_some (single_of x.offsets.shape)) h in
    elim (separate_allows l c xs ns (x ∷ []) a) [
      | inl p ↦ absurd (empty_none ns p.number t.0 p.held)
      | inr p ↦ elim (separate_allows l c ys ns (x ∷ []) b) [
        | inl q ↦ absurd (empty_none ns q.number t.0 q.held)
        | inr q ↦ addresses p q t.1
      ]
    ]
  where
    own : (a : Address) → In (x ∷ []) a → a ≡ x
    own a (inl e) = e
    own a (inr i) = absurd i

    addresses : (p : AddressIn l c xs (x ∷ [])) (q : AddressIn l c ys (x ∷ [])) → is_some (single_of x.offsets.shape) ≡ true → SameCells xs ys
    addresses p q s =
        let d = own p.address p.among in
        let r = own q.address q.among in
        let hp : Holds x.offsets p.offset = subst (λ z. Holds z.offsets p.offset) d p.held in
        let hq : Holds x.offsets q.offset = subst (λ z. Holds z.offsets q.offset) r q.held in
        let o = one_number x.offsets p.offset q.offset s hp hq in
        same_number l c f g (only x.base) (pos (l.address x.base) +ℤ p.offset) (pos (l.address x.base) +ℤ q.offset) xs ys e (ap (λ z. pos (l.address x.base) +ℤ z) o)
        (subst (λ z. AreBitsOf l c (only z.base) (pos (l.address z.base) +ℤ p.offset) xs) d p.bits)
        (subst (λ z. AreBitsOf l c (only z.base) (pos (l.address z.base) +ℤ q.offset) ys) r q.bits)
same_values l c f g xs ys e (Separate ns (x ∷ y ∷ zs)) h a b = cc
same_values l c f g xs ys e (Mixed bs) h a b = cc

pub single_same : (l : Layout) (k : ℕ) (c : Cellv) (xs ys : List Cell) → is_single c ≡ true → Allows l k c xs → Allows l k c ys → SameCells xs ys
single_same l k c xs ys h a b = at (has_no_value c.value) refl (by_value l c xs a.1) (by_value l c ys b.1)
  where
    e : length xs ≡ length ys
    e = a.0 ∙ sym b.0

    one_flag : ((c.uninit && not c.dead) || (not c.uninit && c.dead)) ≡ true → (c.uninit ≡ true → ⊥) ⊎ (c.dead ≡ true → ⊥)
    one_flag t =
        elim (or_cases (c.uninit && not c.dead) (not c.uninit && c.dead) t) [
          | inl u ↦ inr (not_flag c.dead (and_parts c.uninit (not c.dead) u).1)
          | inr u ↦ inl (not_flag c.uninit (and_parts (not c.uninit) c.dead u).0)
        ]

    at : (n : Bool) → has_no_value c.value ≡ n →
        ((has_no_value c.value ≡ true) × AllByRecursion (IsFlagged (row_cell c)) xs) ⊎ ((has_no_value c.value ≡ false) × AllowsSome l (row_cell c) xs (parts_of c.value)) →
        ((has_no_value c.value ≡ true) × AllByRecursion (IsFlagged (row_cell c)) ys) ⊎ ((has_no_value c.value ≡ false) × AllowsSome l (row_cell c) ys (parts_of c.value)) → SameCells xs ys
    at true n (inl p) (inl q) =
        same_flags (row_cell c) (one_flag (subst (λ t. cond t ((c.uninit && not c.dead) || (not c.uninit && c.dead)) (is_single_value c.value && (not c.uninit && not c.dead)) ≡ true) n h)) xs ys e p.1 q.1
    at true n (inr p) q = absurd (some_value l (row_cell c) xs c.value p.1 n)
    at true n (inl p) (inr q) = absurd (some_value l (row_cell c) ys c.value q.1 n)
    at false n (inl p) q = let r = p.0 in cc
    at false n (inr p) (inl q) = let r = q.0 in cc
    at false n (inr p) (inr q) =
        let t = and_parts (is_single_value c.value) (not c.uninit && not c.dead)
        (subst (λ t. cond t ((c.uninit && not c.dead) || (not c.uninit && c.dead)) (is_single_value c.value && (not c.uninit && not c.dead)) ≡ true) n h) in
        let u = and_parts (not c.uninit) (not c.dead) t.1 in
        same_values l (row_cell c) (not_flag c.uninit u.0) (not_flag c.dead u.1) xs ys e c.value t.0 p.1 q.1
