-- What a store of a value writes is allowed by the cell that stands there.
use Rattle.std.proofs.Common.{◌≡◌, ℕ, ◌^◌, ◌<◌, ◌==◌, Bool, true, false, cond, ◌||◌, pos, ◌+ℤ◌, List, [], ◌∷◌, length, map, refl, sym, subst, ap, ◌∙◌, inl, inr}
use Rattle.std.specs.Prelude.{not, suc}
use Rattle.std.specs.FinSet.{contains}
use Rattle.std.specs.List.{AllByRecursion}
use Rattle.std.proofs.Math.Nat.{mod-eq_of_lt}
use Rattle.std.proofs.lemmas.Nat.{pow_pos}
use Rattle.std.proofs.lemmas.Bool.{cases_eq, ne_eqb}
use Rattle.c_base.specs.declared.integer.Machine.{Machine}
use Rattle.c_base.specs.declared.integer.Machine.TheVariants.{Lp64}
use Rattle.c_base.specs.Integers.{residue, bits_from, in_byte_order}
use Rattle.c_base.proofs.Bits.{length-bits_from}
use Rattle.c_base.proofs.Residues.{residue_below}
use Rattle.c_memory.specs.Values.{Cell, Provenance, Value, nowhere, only, cells_from, cells_of}
use Rattle.c_memory.specs.Layouts.{Layout}
use Rattle.c_memory.specs.Rows.{RowCell, AreBits, IsMixed, AllowsSome}
use Rattle.c_memory.proofs.CellBits.{length-cells_from}
use Rattle.ival_core.specs.declared.value.Ival.{Ival}
use Rattle.ival_core.specs.Ivals.{Holds}
use Rattle.avalue_base.specs.Lists.{has_base, In}
use Rattle.avalue_base.specs.Numbers.{is_empty, is_empty_list}
use Rattle.avalue_base.specs.Values.{Address, AVal, Separate, Mixed, Cellv, base_of, parts_of, row_cell}
use Rattle.avalue_base.specs.Hues.{pointer_bits}
use Rattle.avalue_base.specs.Pieces.{fit_value, fit}
use Rattle.avalue_base.specs.Meaning.{MeansAddress, Means, Allows}
use Rattle.avalue_base.proofs.Lists.{In-has, In-map}
use Rattle.avalue_base.proofs.Sets.{held_some}
use Rattle.avalue_base.proofs.Meanings.{only_has, has-Contains, allows_separate, from_some}
use Rattle.avalue_base.proofs.Accesses.{kept, filter-in, fit_allowed, in_order}
use Rattle.avalue_base.proofs.Means.{means_among}

cells_order : (m : Machine) (xs : List Cell) → in_byte_order m xs ≡ xs
cells_order Lp64 xs = refl

stored_bits : (c : RowCell) (p : Provenance) (i : ℕ) (bs : List Bool) → AreBits c p bs (cells_from p i bs)
unfolding cells_from
stored_bits c p i [] = tt
stored_bits c p i (b ∷ bs) = ((refl, refl), stored_bits c p (suc i) bs)

stored_mix : (c : RowCell) (bases : List ℕ) (p : Provenance) → ((q : ℕ) → contains p q ≡ true → has_base bases q ≡ true) → (i : ℕ) (bs : List Bool) → AllByRecursion (IsMixed c bases) (cells_from p i bs)
unfolding cells_from
stored_mix c bases p h i [] = tt
stored_mix c bases p h i (b ∷ bs) = ((λ q t. has-Contains bases q (h q t)), stored_mix c bases p h (suc i) bs)

module _ (l : Layout) (k : ℕ) (x : Value) where
  abbrev bits : List Bool
  bits = bits_from (residue (2 ^ k) x.number) k

  abbrev stored : List Cell
  stored = cells_from x.provenance 0 bits

  length-stored : length stored ≡ k
  length-stored = length-cells_from x.provenance 0 bits ∙ length-bits_from (residue (2 ^ k) x.number) k

  plain_stored : (c : Cellv) (ns : Ival) (xs : List Address) → c.value ≡ Separate ns xs → x.provenance ≡ nowhere → Holds ns x.number → Allows l k c stored
  plain_stored c ns xs e p h = (
    length-stored,
    from_some l c stored (subst (λ v. AllowsSome l (row_cell c) stored (parts_of v)) (sym e) (allows_separate l (row_cell c) stored ns xs (inl (record {
      number = x.number;
      held = h;
      bits = in_order l (row_cell c) nowhere k x.number stored length-stored (subst (λ q. AreBits (row_cell c) q bits stored) p (stored_bits (row_cell c) x.provenance 0 bits));
    })))),
  )

  address_stored : (c : Cellv) (ns : Ival) (xs : List Address) → c.value ≡ Separate ns xs → (a : Address) → In xs a → MeansAddress l a x → k ≡ pointer_bits l.machine → Allows l k c stored
  address_stored c ns xs e a i m w =
      let z = pos (l.address a.base) +ℤ m.offset in
      let small : residue (2 ^ k) z < 2 ^ k = residue_below (2 ^ k) z (pow_pos k) in
      let n : x.number ≡ pos (residue (2 ^ k) z) = m.number ∙ ap (λ j. pos (residue (2 ^ j) z)) (sym w) in
      let same : residue (2 ^ k) x.number ≡ residue (2 ^ k) z = ap (residue (2 ^ k)) n ∙ mod-eq_of_lt small in (
        length-stored,
        from_some l c stored (subst (λ v. AllowsSome l (row_cell c) stored (parts_of v)) (sym e) (allows_separate l (row_cell c) stored ns xs (inr (record {
          address = a;
          among = i;
          count = length-stored ∙ w;
          offset = m.offset;
          held = m.held;
          bits = in_order l (row_cell c) (only a.base) k z stored length-stored
              (subst (λ r. AreBits (row_cell c) (only a.base) (bits_from r k) stored) same
              (subst (λ q. AreBits (row_cell c) q bits stored) m.provenance (stored_bits (row_cell c) x.provenance 0 bits)));
        })))),
      )

  -- in fewer bits an address becomes a mix
  address_mixed : (c : Cellv) (ns : Ival) (xs : List Address) → c.value ≡ Separate ns xs → (a : Address) → In xs a → MeansAddress l a x → (k ≡ pointer_bits l.machine → ⊥) → Allows l k (fit l.machine k c) stored
  address_mixed c ns xs e a i m w =
      let d = fit l.machine k c in
      let j : In (kept xs) a = filter-in xs a i (not_empty (is_empty a.offsets.shape) (held_some a.offsets m.offset m.held)) in
      let v : d.value ≡ Mixed (map base_of (kept xs)) =
      ap (fit_value l.machine k) e ∙ ap (λ b. cond (b || (k == pointer_bits l.machine)) (Separate ns (kept xs)) (Mixed (map base_of (kept xs)))) (some (kept xs) j)
      ∙ ap (λ b. cond b (Separate ns (kept xs)) (Mixed (map base_of (kept xs)))) (ne_eqb k (pointer_bits l.machine) w) in (
        length-stored,
        from_some l d stored (subst (λ u. AllowsSome l (row_cell d) stored (parts_of u)) (sym v)
            (inl (stored_mix (row_cell d) (map base_of (kept xs)) x.provenance
            (λ q t. subst (λ b. has_base (map base_of (kept xs)) b ≡ true) (sym (only_has a.base q (subst (λ p. contains p q ≡ true) m.provenance t))) (In-has (map base_of (kept xs)) a.base (In-map base_of (kept xs) a j)))
            0 bits))),
      )
    where
      not_empty : (b : Bool) → b ≡ false → not b ≡ true
      not_empty true h = cc
      not_empty false h = refl

      some : (ys : List Address) → In ys a → is_empty_list ys ≡ false
      some [] i = absurd i
      some (y ∷ ys) i = refl

  mix_stored : (c : Cellv) (bs : List ℕ) → c.value ≡ Mixed bs → Means l (Mixed bs) x → Allows l k c stored
  mix_stored c bs e m =
      (length-stored, from_some l c stored (subst (λ v. AllowsSome l (row_cell c) stored (parts_of v)) (sym e) (inl (stored_mix (row_cell c) bs x.provenance m 0 bits))))

-- what a store of one of the values writes stands in the element
pub value_stored : (l : Layout) (k : ℕ) (c : Cellv) (x : Value) → Means l c.value x → Allows l k (fit l.machine k c) (cells_of l.machine k x)
value_stored l k c x m = subst (Allows l k (fit l.machine k c)) (sym (cells_order l.machine (stored l k x))) (by_value c.value refl m)
  where
    by_value : (v : AVal) → c.value ≡ v → Means l v x → Allows l k (fit l.machine k c) (stored l k x)
    by_value (Separate ns xs) e (inl p) = fit_allowed l k c (stored l k x) (plain_stored l k x c ns xs e p.0 p.1)
    by_value (Separate ns xs) e (inr s) =
        let a = means_among l xs x s in
        elim (cases_eq k (pointer_bits l.machine)) [
          | inl w ↦ fit_allowed l k c (stored l k x) (address_stored l k x c ns xs e a.0 a.1 a.2 w)
          | inr w ↦ address_mixed l k x c ns xs e a.0 a.1 a.2 w
        ]
    by_value (Mixed bs) e s = fit_allowed l k c (stored l k x) (mix_stored l k x c bs e s)
