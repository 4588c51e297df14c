-- Which contents cells of values have, and which cells have one alone.
use Rattle.std.proofs.Common.{◌≡◌, ℕ, zero, suc, ◌^◌, ◌<◌, Bool, true, false, ℤ, pos, ◌+ℤ◌, List, [], ◌∷◌, length, map, refl, sym, subst, ap, ◌∙◌, inl, inr, arith}
use Rattle.std.specs.Prelude.{not}
use Rattle.std.specs.List.{AllByRecursion, list_all}
use Rattle.std.proofs.lemmas.Bool.{and_parts, or_cases, eqb-true}
use Rattle.std.proofs.lemmas.Nat.{pow_pos}
use Rattle.c_base.specs.Integers.{residue, bits_from, bits_of, in_byte_order, number_of_bits}
use Rattle.c_base.proofs.Bits.{length-bits_from, number_of_bits-bits_from}
use Rattle.c_base.proofs.Residues.{residue_below}
use Rattle.c_memory.specs.Values.{Cell, Uninit, Dead, Bit, Provenance, nowhere, only}
use Rattle.c_memory.specs.Layouts.{Layout}
use Rattle.c_memory.specs.Rows.{RowCell, AreBits, IsMixed, IsFlagged, AreBitsOf}
use Rattle.offmap_laws.specs.Contents.{AllAlike}
use Rattle.ival_core.specs.declared.value.Ival.{Ival}
use Rattle.ival_core.specs.Ivals.{Holds}
use Rattle.avalue_base.specs.Lists.{In}
use Rattle.avalue_base.specs.Numbers.{is_empty}
use Rattle.avalue_base.specs.Values.{Address, AVal, Separate, Mixed, Cellv, has_no_value, row_cell}
use Rattle.avalue_base.specs.Hues.{pointer_bits, fits_value}
use Rattle.avalue_base.specs.Pieces.{has_offsets}
use Rattle.avalue_base.specs.Ops.{Fine}
use Rattle.avalue_base.specs.Meaning.{Allows}
use Rattle.avalue_base.specs.Singles.{SameCell}
use Rattle.avalue_base.proofs.Sets.{some_held}
use Rattle.avalue_base.proofs.Ordering.{nothing_from}
use Rattle.avalue_base.proofs.Meanings.{nowhere_has, allows_separate, from_some, from_flags}
use Rattle.avalue_base.proofs.Showing.{order_is}

-- ---- bits without flags

-- these bits, of a provenance
abbrev pub bits_cells : Provenance → List Bool → List Cell
bits_cells p bs = map (λ b. Bit b p 0) bs

pub length-cells : (p : Provenance) (bs : List Bool) → length (bits_cells p bs) ≡ length bs
length-cells p [] = refl
length-cells p (b ∷ bs) = ap suc (length-cells p bs)

pub own_bits : (c : RowCell) (p : Provenance) (bs : List Bool) → AreBits c p bs (bits_cells p bs)
own_bits c p [] = tt
own_bits c p (b ∷ bs) = ((refl, refl), own_bits c p bs)

pub alike_bits : (p q : Provenance) (bs cs : List Bool) → AllAlike SameCell (bits_cells p bs) (bits_cells q cs) → bs ≡ cs
alike_bits p q [] [] a = refl
alike_bits p q [] (c ∷ cs) a = absurd a
alike_bits p q (b ∷ bs) [] a = absurd a
alike_bits p q (b ∷ bs) (c ∷ cs) a = ap (λ x. x ∷ bs) a.0.0 ∙ ap (λ xs. c ∷ xs) (alike_bits p q bs cs a.1)

pub alike_provenance : (p q : Provenance) (bs cs : List Bool) → 0 < length bs → AllAlike SameCell (bits_cells p bs) (bits_cells q cs) → p ≡ q
alike_provenance p q [] cs h a = absurd (omega arith)
alike_provenance p q (b ∷ bs) [] h a = absurd a
alike_provenance p q (b ∷ bs) (c ∷ cs) h a = a.0.1

-- where there are no flags, bits are these
pub bits_alike : (c : RowCell) → (c.uninit ≡ true → ⊥) → (c.dead ≡ true → ⊥) → (p : Provenance) (bs : List Bool) (xs : List Cell) → AreBits c p bs xs → AllAlike SameCell xs (bits_cells p bs)
bits_alike c f g p [] [] a = tt
bits_alike c f g p [] (x ∷ xs) a = absurd a
bits_alike c f g p (b ∷ bs) [] a = absurd a
bits_alike c f g p (b ∷ bs) (Uninit ∷ xs) a = absurd (f a.0)
bits_alike c f g p (b ∷ bs) (Dead ∷ xs) a = absurd (g a.0)
bits_alike c f g p (b ∷ bs) (Bit e q i ∷ xs) a = (a.0, bits_alike c f g p bs xs a.1)

same_sym : (x y : Cell) → SameCell x y → SameCell y x
same_sym Uninit Uninit a = tt
same_sym Uninit Dead a = absurd a
same_sym Uninit (Bit b p i) a = absurd a
same_sym Dead Uninit a = absurd a
same_sym Dead Dead a = tt
same_sym Dead (Bit b p i) a = absurd a
same_sym (Bit b p i) Uninit a = absurd a
same_sym (Bit b p i) Dead a = absurd a
same_sym (Bit b p i) (Bit c q j) a = (sym a.0, sym a.1)

same_trans : (x y z : Cell) → SameCell x y → SameCell y z → SameCell x z
same_trans Uninit Uninit z a b = b
same_trans Uninit Dead z a b = absurd a
same_trans Uninit (Bit w q j) z a b = absurd a
same_trans Dead Uninit z a b = absurd a
same_trans Dead Dead z a b = b
same_trans Dead (Bit w q j) z a b = absurd a
same_trans (Bit v p i) Uninit z a b = absurd a
same_trans (Bit v p i) Dead z a b = absurd a
same_trans (Bit v p i) (Bit w q j) Uninit a b = absurd b
same_trans (Bit v p i) (Bit w q j) Dead a b = absurd b
same_trans (Bit v p i) (Bit w q j) (Bit x r k) a b = (a.0 ∙ b.0, a.1 ∙ b.1)

pub alike_sym : (xs ys : List Cell) → AllAlike SameCell xs ys → AllAlike SameCell ys xs
alike_sym [] [] a = tt
alike_sym [] (y ∷ ys) a = absurd a
alike_sym (x ∷ xs) [] a = absurd a
alike_sym (x ∷ xs) (y ∷ ys) a = (same_sym x y a.0, alike_sym xs ys a.1)

pub alike_trans : (xs ys zs : List Cell) → AllAlike SameCell xs ys → AllAlike SameCell ys zs → AllAlike SameCell xs zs
alike_trans [] [] zs a b = b
alike_trans [] (y ∷ ys) zs a b = absurd a
alike_trans (x ∷ xs) [] zs a b = absurd a
alike_trans (x ∷ xs) (y ∷ ys) [] a b = absurd b
alike_trans (x ∷ xs) (y ∷ ys) (z ∷ zs) a b = (same_trans x y z a.0 b.0, alike_trans xs ys zs a.1 b.1)

-- ---- contents of values

-- the bits of a number, of a provenance, as cells
abbrev pub number_cells : ℕ → Provenance → ℤ → List Cell
number_cells k p n = bits_cells p (bits_of k n)

pub length-number : (k : ℕ) (p : Provenance) (n : ℤ) → length (number_cells k p n) ≡ k
length-number k p n = length-cells p (bits_of k n) ∙ length-bits_from (residue (2 ^ k) n) k

pub are_number : (l : Layout) (c : RowCell) (k : ℕ) (p : Provenance) (n : ℤ) → AreBitsOf l c p n (number_cells k p n)
are_number l c k p n =
    subst (λ j. AreBits c p (in_byte_order l.machine (bits_from (residue (2 ^ j) n) j)) (number_cells k p n)) (sym (length-number k p n))
    (subst (λ bs. AreBits c p bs (number_cells k p n)) (sym (order_is l.machine (bits_of k n))) (own_bits c p (bits_of k n)))

-- without flags the cells of a number are these
pub number_alike : (l : Layout) (c : RowCell) → (c.uninit ≡ true → ⊥) → (c.dead ≡ true → ⊥) → (k : ℕ) (p : Provenance) (n : ℤ) (xs : List Cell) → length xs ≡ k → AreBitsOf l c p n xs → AllAlike SameCell xs (number_cells k p n)
number_alike l c f g k p n xs e a =
    bits_alike c f g p (bits_of k n) xs (subst (λ bs. AreBits c p bs xs) (order_is l.machine (bits_of k n)) (subst (λ j. AreBits c p (in_byte_order l.machine (bits_from (residue (2 ^ j) n) j)) xs) e a))

pub same_rest : (k : ℕ) (p q : Provenance) (n m : ℤ) → AllAlike SameCell (number_cells k p n) (number_cells k q m) → residue (2 ^ k) n ≡ residue (2 ^ k) m
same_rest k p q n m a =
    let e = alike_bits p q (bits_of k n) (bits_of k m) a in
    sym (number_of_bits-bits_from (residue (2 ^ k) n) k (residue_below (2 ^ k) n (pow_pos k))) ∙ ap number_of_bits e ∙ number_of_bits-bits_from (residue (2 ^ k) m) k (residue_below (2 ^ k) m (pow_pos k))

pub rest_same : (k : ℕ) (p : Provenance) (n m : ℤ) → residue (2 ^ k) n ≡ residue (2 ^ k) m → number_cells k p n ≡ number_cells k p m
rest_same k p n m e = ap (λ r. bits_cells p (bits_from r k)) e

module _ (l : Layout) (k : ℕ) (u d : Bool) (ns : Ival) (xs : List Address) where
  abbrev here : Cellv
  here = record { value = Separate ns xs; uninit = u; dead = d }

  pub number_content : (n : ℤ) → Holds ns n → Allows l k here (number_cells k nowhere n)
  number_content n h = (
    length-number k nowhere n,
    from_some l here (number_cells k nowhere n) (allows_separate l (row_cell here) (number_cells k nowhere n) ns xs (inl (record { number = n; held = h; bits = are_number l (row_cell here) k nowhere n }))),
  )

  pub address_content : (a : Address) (o : ℤ) → k ≡ pointer_bits l.machine → In xs a → Holds a.offsets o → Allows l k here (number_cells k (only a.base) (pos (l.address a.base) +ℤ o))
  address_content a o e i h = (
    length-number k (only a.base) (pos (l.address a.base) +ℤ o),
    from_some l here (number_cells k (only a.base) (pos (l.address a.base) +ℤ o))
        (allows_separate l (row_cell here) (number_cells k (only a.base) (pos (l.address a.base) +ℤ o)) ns xs (inr (record {
          address = a;
          among = i;
          count = length-number k (only a.base) (pos (l.address a.base) +ℤ o) ∙ e;
          offset = o;
          held = h;
          bits = are_number l (row_cell here) k (only a.base) (pos (l.address a.base) +ℤ o);
        }))),
  )

unfoldable pub all_uninit : ℕ → List Cell
all_uninit zero = []
all_uninit (suc n) = Uninit ∷ all_uninit n

unfoldable pub all_dead : ℕ → List Cell
all_dead zero = []
all_dead (suc n) = Dead ∷ all_dead n

pub length-uninit : (n : ℕ) → length (all_uninit n) ≡ n
unfolding all_uninit
length-uninit zero = refl
length-uninit (suc n) = ap suc (length-uninit n)

pub length-dead : (n : ℕ) → length (all_dead n) ≡ n
unfolding all_dead
length-dead zero = refl
length-dead (suc n) = ap suc (length-dead n)

uninit_flagged : (c : RowCell) (n : ℕ) → c.uninit ≡ true → AllByRecursion (IsFlagged c) (all_uninit n)
unfolding all_uninit
uninit_flagged c zero h = tt
uninit_flagged c (suc n) h = (h, uninit_flagged c n h)

dead_flagged : (c : RowCell) (n : ℕ) → c.dead ≡ true → AllByRecursion (IsFlagged c) (all_dead n)
unfolding all_dead
dead_flagged c zero h = tt
dead_flagged c (suc n) h = (h, dead_flagged c n h)

pub uninit_content : (l : Layout) (k : ℕ) (c : Cellv) → Fine l.machine k c → c.uninit ≡ true → Allows l k c (all_uninit k)
uninit_content l k c f h = (length-uninit k, from_flags l k c (all_uninit k) f (length-uninit k) (uninit_flagged (row_cell c) k h))

pub dead_content : (l : Layout) (k : ℕ) (c : Cellv) → Fine l.machine k c → c.dead ≡ true → Allows l k c (all_dead k)
dead_content l k c f h = (length-dead k, from_flags l k c (all_dead k) f (length-dead k) (dead_flagged (row_cell c) k h))

pub bits_not_uninit : (k : ℕ) (p : Provenance) (bs : List Bool) → 0 < k → AllAlike SameCell (all_uninit k) (bits_cells p bs) → ⊥
unfolding all_uninit
bits_not_uninit zero p bs h a = omega arith
bits_not_uninit (suc k) p [] h a = a
bits_not_uninit (suc k) p (b ∷ bs) h a = a.0

pub bits_not_dead : (k : ℕ) (p : Provenance) (bs : List Bool) → 0 < k → AllAlike SameCell (all_dead k) (bits_cells p bs) → ⊥
unfolding all_dead
bits_not_dead zero p bs h a = omega arith
bits_not_dead (suc k) p [] h a = a
bits_not_dead (suc k) p (b ∷ bs) h a = a.0

pub uninit_not_dead : (k : ℕ) → 0 < k → AllAlike SameCell (all_uninit k) (all_dead k) → ⊥
unfolding all_uninit all_dead
uninit_not_dead zero h a = omega arith
uninit_not_dead (suc k) h a = a.0

-- bits that may be anything
mixed_bits : (c : RowCell) (bases : List ℕ) (bs : List Bool) → AllByRecursion (IsMixed c bases) (bits_cells nowhere bs)
mixed_bits c bases [] = tt
mixed_bits c bases (b ∷ bs) = ((λ q t. absurd (nowhere_has q t)), mixed_bits c bases bs)

pub mixed_content : (l : Layout) (k : ℕ) (u d : Bool) (bases : List ℕ) (n : ℤ) → Allows l k (record { value = Mixed bases; uninit = u; dead = d }) (number_cells k nowhere n)
mixed_content l k u d bases n = (length-number k nowhere n, inl (mixed_bits (row_cell (record { value = Mixed bases; uninit = u; dead = d })) bases (bits_of k n)))

-- ---- each fine cell has a content

-- a content without flags
pub record Value (l : Layout) (k : ℕ) (c : Cellv) : Type 0 where
  pub provenance : Provenance
  pub number : ℤ
  pub allows : Allows l k c (number_cells k provenance number)

pub some_bits : (l : Layout) (k : ℕ) (c : Cellv) → Fine l.machine k c → has_no_value c.value ≡ false → Value l k c
some_bits l k c f h = at c.value c.uninit c.dead f h
  where
    first : (ns : Ival) (xs : List Address) (u d : Bool) → Fine l.machine k (record { value = Separate ns xs; uninit = u; dead = d }) → has_no_value (Separate ns xs) ≡ false → is_empty ns.shape ≡ true →
        Value l k (record { value = Separate ns xs; uninit = u; dead = d })
    first ns [] u d f h e = absurd (let n = nothing_from ns [] e refl in both h n)
      where
        both : {t : Bool} → t ≡ false → t ≡ true → ⊥
        both e f = cc
    first ns (x ∷ xs) u d f h e =
        let o = some_held x.offsets (not_empty (is_empty x.offsets.shape) (and_parts (has_offsets x) (list_all has_offsets xs) f.offsets).0) in
        record { provenance = only x.base; number = pos (l.address x.base) +ℤ o.0; allows = address_content l k u d ns (x ∷ xs) x o.0 (width f.fits) (inl refl) o.1 }
      where
        not_empty : (b : Bool) → not b ≡ true → b ≡ false
        not_empty true h = cc
        not_empty false h = refl

        width : fits_value l.machine k (Separate ns (x ∷ xs)) ≡ true → k ≡ pointer_bits l.machine
        width w = eqb-true k (pointer_bits l.machine) w

    at : (v : AVal) (u d : Bool) → Fine l.machine k (record { value = v; uninit = u; dead = d }) → has_no_value v ≡ false → Value l k (record { value = v; uninit = u; dead = d })
    at (Separate ns xs) u d f h = by_numbers (is_empty ns.shape) refl
      where
        by_numbers : (b : Bool) → is_empty ns.shape ≡ b → Value l k (record { value = Separate ns xs; uninit = u; dead = d })
        by_numbers true e = first ns xs u d f h e
        by_numbers false e = let n = some_held ns e in record { provenance = nowhere; number = n.0; allows = number_content l k u d ns xs n.0 n.1 }
    at (Mixed bs) u d f h = record { provenance = nowhere; number = pos 0; allows = mixed_content l k u d bs (pos 0) }

pub some_content : (l : Layout) (k : ℕ) (c : Cellv) → Fine l.machine k c → (ks : List Cell) × Allows l k c ks
some_content l k c f = at (has_no_value c.value) refl
  where
    at : (b : Bool) → has_no_value c.value ≡ b → (ks : List Cell) × Allows l k c ks
    at true e =
        elim (or_cases c.uninit c.dead (f.flag e)) [
          | inl u ↦ (all_uninit k, uninit_content l k c f u)
          | inr u ↦ (all_dead k, dead_content l k c f u)
        ]
    at false e = let v = some_bits l k c f e in (number_cells k v.provenance v.number, v.allows)
