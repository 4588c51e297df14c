-- Sole cells of values keep the laws of sole cells.
use Rattle.std.proofs.Common.{◌≡◌, ◌⊎◌, ℕ, zero, suc, ◌+◌, ◌-◌, ◌^◌, ◌<◌, ◌≤◌, Bool, true, false, cond, ◌&&◌, ◌||◌, ℤ, pos, ◌+ℤ◌, ◌≤ℤ◌, List, [], ◌∷◌, length, drop, refl, sym, subst, ap, ◌∙◌, inl, inr, arith}
use Rattle.std.specs.Prelude.{not, is_some, neg_ℤ, ◌*ℤ◌, int_le, Option, None, Some}
use Rattle.std.specs.FinSet.{contains}
use Rattle.std.specs.List.{AllByRecursion}
use Rattle.std.proofs.lemmas.Int.{ints}
use Rattle.std.proofs.lemmas.List.{drop_all}
use Rattle.std.proofs.lemmas.Bool.{and_parts, or_cases, eqb-true}
use Rattle.std.proofs.lemmas.Nat.{pow_pos}
use Rattle.c_base.specs.declared.integer.Machine.TheVariants.{Lp64}
use Rattle.c_base.specs.Integers.{residue, bits_of, number_of_bits}
use Rattle.c_base.proofs.Bits.{length-bits_from, number_of_bits-bits_from}
use Rattle.c_base.proofs.Residues.{residue_below, residue_differs}
use Rattle.c_memory.specs.Values.{Cell, Uninit, Dead, Bit, Provenance, nowhere, only}
use Rattle.c_memory.specs.Layouts.{Layout}
use Rattle.c_memory.specs.Rows.{IsFlagged, AllowsSome}
use Rattle.cell_laws.specs.Elements.{bit_at, spread}
use Rattle.cell_laws.specs.Order.{known}
use Rattle.cell_laws.proofs.Ordering.{known_from as known_more}
use Rattle.offmap_laws.specs.Contents.{AllAlike}
use Rattle.exact_laws.specs.Laws.{IsAt, SoleLaws}
use Rattle.exact_laws.proofs.Showing.{some_left, drop_more}
use Rattle.ival_core.specs.declared.value.Ival.{Ival}
use Rattle.ival_core.specs.Ivals.{Holds, IsOnly}
use Rattle.ival_core.specs.Views.{single_of}
use Rattle.ival_core.proofs.Orders.{le_true}
use Rattle.ival_core.proofs.Canonical.{Includes-antisymm}
use Rattle.ival_arith.proofs.Singling.{single_shape}
use Rattle.avalue_base.specs.Numbers.{is_empty, is_empty_list, part_of, rest_in}
use Rattle.avalue_base.specs.Values.{Address, AVal, Separate, Mixed, Cellv, bases_of, has_no_value, parts_of, row_cell}
use Rattle.avalue_base.specs.Hues.{blank, bit, has, value_has, pointer_bits, fits_value}
use Rattle.avalue_base.specs.Pieces.{piece, value_piece, fit, fit_value}
use Rattle.avalue_base.specs.Ops.{ops, Fine}
use Rattle.avalue_base.specs.Meaning.{Allows, Bare, Sure}
use Rattle.avalue_base.specs.Singles.{SameCell}
use Rattle.avalue_base.proofs.Sets.{single_only, empty_none, held_residue}
use Rattle.avalue_base.proofs.Ordering.{Known, bit_known, nothing_parts}
use Rattle.avalue_base.proofs.Meanings.{nowhere_has, only_has, self_has, separate_allows, some_value, by_value}
use Rattle.cell_contents.specs.Contents.{is_one_flag}
use Rattle.cell_contents.specs.Reading.{Bound}
use Rattle.cell_contents.specs.Soles.{is_near_one, is_sole_value, is_sole, is_rigid}
use Rattle.avalue_base.proofs.Rests.{rest_held, rest_some, rest_minus, single_rest}
use Rattle.avalue_base.proofs.Parting.{part_rest}
use Rattle.cell_contents.proofs.Contents.{bits_cells, number_cells, number_alike, same_rest, rest_same, alike_sym, alike_trans, alike_provenance, all_uninit, all_dead}
use Rattle.cell_contents.proofs.Singles.{not_true, all_unwritten, all_died, flags_alike}

-- ---- the kinds of sole cells

pub record IsFlag (c : Cellv) : Type 0 where
  pub none : has_no_value c.value ≡ true
  pub flag : is_one_flag c.uninit c.dead ≡ true

pub record IsAddress (c : Cellv) : Type 0 where
  pub uninit : c.uninit ≡ true → ⊥
  pub dead : c.dead ≡ true → ⊥
  pub numbers : Ival
  pub address : Address
  pub value : c.value ≡ Separate numbers (address ∷ [])
  pub empty : is_empty numbers.shape ≡ true
  pub offset : ℤ
  pub single : single_of address.offsets.shape ≡ Some offset
  pub low : neg_ℤ (pos (2 ^ 62)) ≤ℤ offset
  pub high : offset ≤ℤ pos (2 ^ 62)

-- all numbers of the cell have the k bits of this one
pub record IsNumber (k : ℕ) (c : Cellv) (n : ℤ) : Type 0 where
  pub known : Known k c (residue (2 ^ k) n)
  pub held : Holds known.numbers n

not_false : (b : Bool) → not b ≡ true → b ≡ false
not_false true h = cc
not_false false h = refl

no_true : (b : Bool) → b ≡ false → b ≡ true → ⊥
no_true true e f = cc
no_true false e f = cc

pub kind_of : (k : ℕ) (c : Cellv) → k ≤ 64 → is_sole k c ≡ true → IsFlag c ⊎ ((n : ℤ) × IsNumber k c n) ⊎ IsAddress c
kind_of k c few h = at (has_no_value c.value) refl h
  where
    by_value : (v : AVal) → c.value ≡ v → (c.uninit ≡ false) → (c.dead ≡ false) → is_sole_value k v ≡ true → ((n : ℤ) × IsNumber k c n) ⊎ IsAddress c
    by_value (Separate ns []) e u d s = inl (one (rest_in k ns.shape) refl s)
      where
        one : (o : Option ℕ) → rest_in k ns.shape ≡ o → is_some o ≡ true → (n : ℤ) × IsNumber k c n
        one None f t = cc
        one (Some r) f t =
            let n = rest_some k ns r few f in
            (n.0, record { known = record { uninit = u; dead = d; numbers = ns; value = e; rest = f ∙ ap Some (sym (rest_held k ns r n.0 few f n.1)) }; held = n.1 })
    by_value (Separate ns (a ∷ [])) e u d s =
        let p = and_parts (is_empty ns.shape) (is_near_one (single_of a.offsets.shape)) s in
        inr (one (single_of a.offsets.shape) refl p.0 p.1)
      where
        one : (o : Option ℤ) → single_of a.offsets.shape ≡ o → is_empty ns.shape ≡ true → is_near_one o ≡ true → IsAddress c
        one None f z t = cc
        one (Some n) f z t =
            let p = and_parts (int_le (neg_ℤ (pos (2 ^ 62))) n) (int_le n (pos (2 ^ 62))) t in
            record { uninit = no_true c.uninit u; dead = no_true c.dead d; numbers = ns; address = a; value = e; empty = z; offset = n; single = f; low = le_true (neg_ℤ (pos (2 ^ 62))) n p.0; high = le_true n (pos (2 ^ 62)) p.1 }
    by_value (Separate ns (a ∷ b ∷ xs)) e u d s = cc
    by_value (Mixed bs) e u d s = cc

    at : (b : Bool) → has_no_value c.value ≡ b → cond b (is_one_flag c.uninit c.dead) (is_sole_value k c.value && (not c.uninit && not c.dead)) ≡ true → IsFlag c ⊎ ((n : ℤ) × IsNumber k c n) ⊎ IsAddress c
    at true e t = inl (record { none = e; flag = t })
    at false e t =
        let p = and_parts (is_sole_value k c.value) (not c.uninit && not c.dead) t in
        let q = and_parts (not c.uninit) (not c.dead) p.1 in
        inr (by_value c.value refl (not_false c.uninit q.0) (not_false c.dead q.1) p.0)

-- ---- their contents

pub only_one : (v : Ival) (n m : ℤ) → single_of v.shape ≡ Some n → Holds v m → m ≡ n
only_one v n m e h = (single_only v n e m).0 h

pub flag_cells : (l : Layout) (k : ℕ) (c : Cellv) (ks : List Cell) → IsFlag c → Allows l k c ks → AllAlike SameCell ks (all_uninit k) ⊎ AllAlike SameCell ks (all_dead k)
flag_cells l k c ks i a =
    elim (by_value l c ks a.1) [
      | inr p ↦ absurd (some_value l (row_cell c) ks c.value p.1 i.none)
      | inl p ↦ elim (or_cases (c.uninit && not c.dead) (not c.uninit && c.dead) i.flag) [
        | inl u ↦ inl (subst (λ n. AllAlike SameCell ks (all_uninit n)) a.0 (all_unwritten (row_cell c) (not_true c.dead (and_parts c.uninit (not c.dead) u).1) ks p.1))
        | inr u ↦ inr (subst (λ n. AllAlike SameCell ks (all_dead n)) a.0 (all_died (row_cell c) (not_true c.uninit (and_parts (not c.uninit) c.dead u).0) ks p.1))
      ]
    ]

flagless : (l : Layout) (k : ℕ) (c : Cellv) (ks : List Cell) → has_no_value c.value ≡ false → Allows l k c ks → AllowsSome l (row_cell c) ks (parts_of c.value)
flagless l k c ks h a = elim (by_value l c ks a.1) [ inl p ↦ absurd (no_true (has_no_value c.value) h p.0) | inr p ↦ p.1 ]

pub not_none : (v : Ival) (n : ℤ) → Holds v n → has_no_value (Separate v []) ≡ false
not_none v n m = at (has_no_value (Separate v [])) refl
  where
    at : (b : Bool) → has_no_value (Separate v []) ≡ b → b ≡ false
    at true h = absurd (empty_none v n (nothing_parts v [] h).0 m)
    at false h = refl

pub known_some : (k : ℕ) (c : Cellv) (n : ℤ) → IsNumber k c n → has_no_value c.value ≡ false
known_some k c n h = ap has_no_value h.known.value ∙ not_none h.known.numbers n h.held

pub address_some : (c : Cellv) → IsAddress c → has_no_value c.value ≡ false
address_some c h = ap has_no_value h.value ∙ some (is_empty h.numbers.shape)
  where
    some : (b : Bool) → (b && false) ≡ false
    some true = refl
    some false = refl

pub known_cells : (l : Layout) (k : ℕ) (c : Cellv) (n : ℤ) (ks : List Cell) → k ≤ 64 → IsNumber k c n → Allows l k c ks → AllAlike SameCell ks (number_cells k nowhere n)
known_cells l k c n ks few h a =
    let i = h.known in
    elim (separate_allows l (row_cell c) ks i.numbers [] (subst (λ v. AllowsSome l (row_cell c) ks (parts_of v)) i.value (flagless l k c ks (known_some k c n h) a))) [
      | inr p ↦ absurd p.among
      | inl p ↦ subst (λ xs. AllAlike SameCell ks xs) (rest_same k nowhere p.number n (rest_held k i.numbers (residue (2 ^ k) n) p.number few i.rest p.held))
          (number_alike l (row_cell c) (no_true c.uninit i.uninit) (no_true c.dead i.dead) k nowhere p.number ks a.0 p.bits)
    ]

pub address_cells : (l : Layout) (k : ℕ) (c : Cellv) (ks : List Cell) → (h : IsAddress c) → Allows l k c ks → AllAlike SameCell ks (number_cells k (only h.address.base) (pos (l.address h.address.base) +ℤ h.offset))
address_cells l k c ks h a =
    elim (separate_allows l (row_cell c) ks h.numbers (h.address ∷ []) (subst (λ v. AllowsSome l (row_cell c) ks (parts_of v)) h.value (flagless l k c ks (address_some c h) a))) [
      | inl p ↦ absurd (empty_none h.numbers p.number h.empty p.held)
      | inr p ↦ elim p.among [
        | inr i ↦ absurd i
        | inl i ↦
            let held : Holds h.address.offsets p.offset = subst (λ z. Holds z.offsets p.offset) i p.held in
            subst (λ z. AllAlike SameCell ks (number_cells k (only h.address.base) (pos (l.address h.address.base) +ℤ z))) (only_one h.address.offsets h.offset p.offset h.single held)
            (subst (λ z. AllAlike SameCell ks (number_cells k (only z.base) (pos (l.address z.base) +ℤ p.offset))) i
            (number_alike l (row_cell c) h.uninit h.dead k (only p.address.base) (pos (l.address p.address.base) +ℤ p.offset) ks a.0 p.bits))
      ]
    ]

-- ---- one bit of a content

alike_at : (xs ys : List Cell) (i : ℕ) (x : Cell) → AllAlike SameCell xs ys → IsAt xs i x → (y : Cell) × IsAt ys i y × SameCell x y
alike_at [] ys i x a h = absurd h
alike_at (z ∷ xs) [] i x a h = absurd a
alike_at (z ∷ xs) (y ∷ ys) zero x a h = (y, refl, subst (λ w. SameCell w y) (sym h) a.0)
alike_at (z ∷ xs) (y ∷ ys) (suc i) x a h = alike_at xs ys i x a.1 h

uninit_at : (k i : ℕ) (y : Cell) → IsAt (all_uninit k) i y → y ≡ Uninit
unfolding all_uninit
uninit_at zero i y h = absurd h
uninit_at (suc k) zero y h = h
uninit_at (suc k) (suc i) y h = uninit_at k i y h

dead_at : (k i : ℕ) (y : Cell) → IsAt (all_dead k) i y → y ≡ Dead
unfolding all_dead
dead_at zero i y h = absurd h
dead_at (suc k) zero y h = h
dead_at (suc k) (suc i) y h = dead_at k i y h

-- a bit of a list
record BitAt (p : Provenance) (bs : List Bool) (i : ℕ) (y : Cell) : Type 0 where
  value : Bool
  is : y ≡ Bit value p 0
  at : bit_at bs i ≡ Some value

bits_at : (p : Provenance) (bs : List Bool) (i : ℕ) (y : Cell) → IsAt (bits_cells p bs) i y → BitAt p bs i y
unfolding bit_at
bits_at p [] i y h = absurd h
bits_at p (b ∷ bs) zero y h = record { value = b; is = h; at = refl }
bits_at p (b ∷ bs) (suc i) y h = let r = bits_at p bs i y h in record { value = r.value; is = r.is; at = r.at }

-- what one bit of a content of a cell is
data Sort (k i : ℕ) (c : Cellv) (x : Cell) : Type 0 where
  flagged : IsFlag c → SameCell x Uninit ⊎ SameCell x Dead → Sort k i c x
  number : (n : ℤ) → IsNumber k c n → (v : Bool) → SameCell x (Bit v nowhere 0) → bit_at (bits_of k n) i ≡ Some v → Sort k i c x
  address : (h : IsAddress c) (v : Bool) → SameCell x (Bit v (only h.address.base) 0) → Sort k i c x

sort_of : (l : Layout) (k i : ℕ) (c : Cellv) (ks : List Cell) (x : Cell) → k ≤ 64 → is_sole k c ≡ true → Allows l k c ks → IsAt ks i x → Sort k i c x
sort_of l k i c ks x few s a h =
    elim (kind_of k c few s) [
      | inl f ↦ elim (flag_cells l k c ks f a) [
        | inl b ↦ let r = alike_at ks (all_uninit k) i x b h in flagged f (inl (subst (SameCell x) (uninit_at k i r.0 r.1) r.2))
        | inr b ↦ let r = alike_at ks (all_dead k) i x b h in flagged f (inr (subst (SameCell x) (dead_at k i r.0 r.1) r.2))
      ]
      | inr (inl n) ↦
          let r = alike_at ks (number_cells k nowhere n.0) i x (known_cells l k c n.0 ks few n.1 a) h in
          let t = bits_at nowhere (bits_of k n.0) i r.0 r.1 in
          number n.0 n.1 t.value (subst (SameCell x) t.is r.2) t.at
      | inr (inr n) ↦
          let r = alike_at ks (number_cells k (only n.address.base) (pos (l.address n.address.base) +ℤ n.offset)) i x (address_cells l k c ks n a) h in
          let t = bits_at (only n.address.base) (bits_of k (pos (l.address n.address.base) +ℤ n.offset)) i r.0 r.1 in
          address n t.value (subst (SameCell x) t.is r.2)
    ]

own_base : (base : ℕ) → only base ≡ nowhere → ⊥
own_base base e = at (contains (only base) base) refl
  where
    at : (b : Bool) → contains (only base) base ≡ b → ⊥
    at true h = nowhere_has base (subst (λ p. contains p base ≡ true) e h)
    at false h = self_has base base refl h

bare_bit : (x : Cell) (v : Bool) (p : Provenance) → SameCell x (Bit v p 0) → Bare x → ⊥
bare_bit Uninit v p s b = s
bare_bit Dead v p s b = s
bare_bit (Bit w q i) v p s b = b

sure_bit : (x : Cell) (v w : Bool) (p : Provenance) → SameCell x (Bit v p 0) → Sure w x → (w ≡ v) × (p ≡ nowhere)
sure_bit Uninit v w p s t = absurd s
sure_bit Dead v w p s t = absurd s
sure_bit (Bit b q i) v w p s t = (sym t.0 ∙ s.0, sym s.1 ∙ t.1)

sure_flag : (x : Cell) (w : Bool) → SameCell x Uninit ⊎ SameCell x Dead → Sure w x → ⊥
sure_flag Uninit w s t = t
sure_flag Dead w s t = t
sure_flag (Bit b q i) w (inl s) t = s
sure_flag (Bit b q i) w (inr s) t = s

bound_flag : (x : Cell) → SameCell x Uninit ⊎ SameCell x Dead → Bound x → ⊥
bound_flag Uninit s t = t
bound_flag Dead s t = t
bound_flag (Bit b q i) (inl s) t = s
bound_flag (Bit b q i) (inr s) t = s

bound_plain : (x : Cell) (v : Bool) → SameCell x (Bit v nowhere 0) → Bound x → ⊥
bound_plain Uninit v s t = s
bound_plain Dead v s t = s
bound_plain (Bit b q i) v s t = t s.1

bound_address : (x : Cell) (v : Bool) (base : ℕ) → SameCell x (Bit v (only base) 0) → Bound x
bound_address Uninit v base s = absurd s
bound_address Dead v base s = absurd s
bound_address (Bit b q i) v base s = λ e. own_base base (sym s.1 ∙ e)

bare_blank : (k i : ℕ) (c : Cellv) (x : Cell) → Sort k i c x → Bare x → blank c ≡ true
bare_blank k i c x (flagged f s) b = f.none
bare_blank k i c x (number n h v s e) b = absurd (bare_bit x v nowhere s b)
bare_blank k i c x (address h v s) b = absurd (bare_bit x v (only h.address.base) s b)

sure_known : (k i : ℕ) (c : Cellv) (x : Cell) (w : Bool) → Sort k i c x → Sure w x → bit k i c ≡ Some w
sure_known k i c x w (flagged f s) b = absurd (sure_flag x w s b)
sure_known k i c x w (number n h v s e) b = let t = sure_bit x v w nowhere s b in bit_known k i c w (residue (2 ^ k) n) h.known (e ∙ ap Some (sym t.0))
sure_known k i c x w (address h v s) b = absurd (own_base h.address.base (sure_bit x v w (only h.address.base) s b).1)

bound_rigid : (k i : ℕ) (c : Cellv) (x : Cell) → Sort k i c x → Bound x → is_rigid c ≡ true
bound_rigid k i c x (flagged f s) b = absurd (bound_flag x s b)
bound_rigid k i c x (number n h v s e) b = absurd (bound_plain x v s b)
bound_rigid k i c x (address h v s) b = ap (λ w. not (is_empty_list (bases_of w))) h.value

nothing_loose : (v : AVal) → has_no_value v ≡ true → not (is_empty_list (bases_of v)) ≡ false
nothing_loose (Separate ns xs) h = ap (λ ys. not (is_empty_list (bases_of (Separate ns ys)))) (nothing_parts ns xs h).1
nothing_loose (Mixed bs) h = cc

pub known_loose : (k : ℕ) (c : Cellv) (n : ℤ) → IsNumber k c n → is_rigid c ≡ false
known_loose k c n h = ap (λ w. not (is_empty_list (bases_of w))) h.known.value

pub flag_loose : (c : Cellv) → IsFlag c → is_rigid c ≡ false
flag_loose c f = nothing_loose c.value f.none

rigid_bound : (k i : ℕ) (c : Cellv) (x : Cell) → Sort k i c x → is_rigid c ≡ true → Bound x
rigid_bound k i c x (flagged f s) r = absurd (no_true (is_rigid c) (flag_loose c f) r)
rigid_bound k i c x (number n h v s e) r = absurd (no_true (is_rigid c) (known_loose k c n h) r)
rigid_bound k i c x (address h v s) r = bound_address x v h.address.base s

-- ---- the number of a known cell

knows : (k : ℕ) (c : Cellv) (n : ℤ) → IsNumber k c n → (i m : ℕ) → i + m ≡ k → known (ops Lp64) (spread k c i m) ≡ Some (drop i (bits_of k n))
unfolding spread known bit_at
knows k c n h i zero e =
    let w = length-bits_from (residue (2 ^ k) n) k in
    ap Some (sym (drop_all i (bits_of k n) (omega arith)))
knows k c n h i (suc m) e =
    let w = length-bits_from (residue (2 ^ k) n) k in
    let b = some_left (bits_of k n) i (omega arith) in
    known_more (ops Lp64) (record { at = i; bits = k; cell = c }) (spread k c (suc i) m) b.0 (drop (suc i) (bits_of k n)) (bit_known k i c b.0 (residue (2 ^ k) n) h.known (at (bits_of k n) i b.0 b.1 b.2)) (knows k c n h (suc i) m (omega arith))
    ∙ ap Some (ap (λ r. b.0 ∷ r) (drop_more (bits_of k n) i b.0 b.1 b.2) ∙ sym b.2)
  where
    at : (bs : List Bool) (i : ℕ) (b : Bool) (r : List Bool) → drop i bs ≡ b ∷ r → bit_at bs i ≡ Some b
    at [] zero b r e = cc
    at [] (suc i) b r e = cc
    at (x ∷ bs) zero b r e = cc
    at (x ∷ bs) (suc i) b r e = at bs i b r e

known_has : (k : ℕ) (c : Cellv) (n : ℤ) → IsNumber k c n → has k c (bits_of k n) ≡ true
known_has k c n h =
    let r : residue (2 ^ k) n ≡ number_of_bits (bits_of k n) = sym (number_of_bits-bits_from (residue (2 ^ k) n) k (residue_below (2 ^ k) n (pow_pos k))) in
    subst (λ v. value_has k v (bits_of k n) ≡ true) (sym h.known.value) (held_residue h.known.numbers (2 ^ k) (number_of_bits (bits_of k n)) n h.held r)

-- ---- cells with one content are one cell

same_empty : (v w : Ival) → is_empty v.shape ≡ true → is_empty w.shape ≡ true → v ≡ w
same_empty v w e f = Includes-antisymm v w (λ n h. absurd (empty_none w n f h)) (λ n h. absurd (empty_none v n e h))

same_single : (v w : Ival) (n : ℤ) → single_of v.shape ≡ Some n → single_of w.shape ≡ Some n → v ≡ w
same_single v w n e f =
    let o = single_only v n e in
    let p = single_only w n f in
    Includes-antisymm v w (λ m h. (o m).1 ((p m).0 h)) (λ m h. (p m).1 ((o m).0 h))

same_value : (v w : AVal) → has_no_value v ≡ true → has_no_value w ≡ true → v ≡ w
same_value (Separate ns xs) (Separate ms ys) e f =
    let p = nothing_parts ns xs e in
    let q = nothing_parts ms ys f in
    ap (λ zs. Separate ns zs) p.1 ∙ ap (λ z. Separate z []) (same_empty ns ms p.0 q.0) ∙ ap (λ zs. Separate ms zs) (sym q.1)
same_value (Separate ns xs) (Mixed bs) e f = cc
same_value (Mixed bs) w e f = cc

pub by_parts : (x y : Cellv) → x.value ≡ y.value → x.uninit ≡ y.uninit → x.dead ≡ y.dead → x ≡ y
by_parts x y e f g =
    ap (λ v. record { value = v; uninit = x.uninit; dead = x.dead }) e ∙ ap (λ u. record { value = y.value; uninit = u; dead = x.dead }) f ∙ ap (λ d. record { value = y.value; uninit = y.uninit; dead = d }) g

pub is_false : (b : Bool) → (b ≡ true → ⊥) → b ≡ false
is_false true f = absurd (f refl)
is_false false f = refl

-- which flag a blank cell has
record Flag (c : Cellv) (u d : Bool) : Type 0 where
  uninit : c.uninit ≡ u
  dead : c.dead ≡ d

own_flag : (l : Layout) (c : Cellv) (ks : List Cell) → IsFlag c → Allows l 1 c ks → (AllAlike SameCell ks (all_uninit 1) × Flag c true false) ⊎ (AllAlike SameCell ks (all_dead 1) × Flag c false true)
own_flag l c ks i a =
    elim (by_value l c ks a.1) [
      | inr p ↦ absurd (some_value l (row_cell c) ks c.value p.1 i.none)
      | inl p ↦ elim (or_cases (c.uninit && not c.dead) (not c.uninit && c.dead) i.flag) [
        | inl u ↦
            let q = and_parts c.uninit (not c.dead) u in
            inl (subst (λ n. AllAlike SameCell ks (all_uninit n)) a.0 (all_unwritten (row_cell c) (not_true c.dead q.1) ks p.1), record { uninit = q.0; dead = not_false c.dead q.1 })
        | inr u ↦
            let q = and_parts (not c.uninit) c.dead u in
            inr (subst (λ n. AllAlike SameCell ks (all_dead n)) a.0 (all_died (row_cell c) (not_true c.uninit q.0) ks p.1), record { uninit = not_false c.uninit q.0; dead = q.1 })
      ]
    ]

one_apart : (ks : List Cell) → AllAlike SameCell ks (all_uninit 1) → AllAlike SameCell ks (all_dead 1) → ⊥
unfolding all_uninit all_dead
one_apart [] a b = a
one_apart (Uninit ∷ ks) a b = b.0
one_apart (Dead ∷ ks) a b = a.0
one_apart (Bit b p i ∷ ks) a c = a.0

pub blank_kind : (k : ℕ) (c : Cellv) → k ≤ 64 → is_sole k c ≡ true → blank c ≡ true → IsFlag c
blank_kind k c few s b =
    elim (kind_of k c few s) [
      | inl f ↦ f
      | inr (inl n) ↦ absurd (no_true (has_no_value c.value) (known_some k c n.0 n.1) b)
      | inr (inr n) ↦ absurd (no_true (has_no_value c.value) (address_some c n) b)
    ]

blank_same : (l : Layout) (x y : Cellv) (ks : List Cell) → is_sole 1 x ≡ true → is_sole 1 y ≡ true → blank x ≡ true → blank y ≡ true → Allows l 1 x ks → Allows l 1 y ks → x ≡ y
blank_same l x y ks s t e f a b =
    let v = same_value x.value y.value e f in
    elim (own_flag l x ks (blank_kind 1 x (omega arith) s e) a) [
      | inl p ↦ elim (own_flag l y ks (blank_kind 1 y (omega arith) t f) b) [
        | inl q ↦ by_parts x y v (p.1.uninit ∙ sym q.1.uninit) (p.1.dead ∙ sym q.1.dead)
        | inr q ↦ absurd (one_apart ks p.0 q.0)
      ]
      | inr p ↦ elim (own_flag l y ks (blank_kind 1 y (omega arith) t f) b) [
        | inl q ↦ absurd (one_apart ks q.0 p.0)
        | inr q ↦ by_parts x y v (p.1.uninit ∙ sym q.1.uninit) (p.1.dead ∙ sym q.1.dead)
      ]
    ]

pub rigid_kind : (k : ℕ) (c : Cellv) → k ≤ 64 → is_sole k c ≡ true → is_rigid c ≡ true → IsAddress c
rigid_kind k c few s r =
    elim (kind_of k c few s) [
      | inl f ↦ absurd (no_true (is_rigid c) (flag_loose c f) r)
      | inr (inl n) ↦ absurd (no_true (is_rigid c) (known_loose k c n.0 n.1) r)
      | inr (inr n) ↦ n
    ]

pub loose_kind : (k : ℕ) (c : Cellv) → k ≤ 64 → is_sole k c ≡ true → is_rigid c ≡ false → IsFlag c ⊎ ((n : ℤ) × IsNumber k c n)
loose_kind k c few s r =
    elim (kind_of k c few s) [
      | inl f ↦ inl f
      | inr (inl n) ↦ inr n
      | inr (inr n) ↦ absurd (let e = ap (λ w. not (is_empty_list (bases_of w))) n.value in cc)
    ]

pointer_width : (k : ℕ) (c : Cellv) → Fine Lp64 k c → IsAddress c → k ≡ pointer_bits Lp64
pointer_width k c f h = eqb-true k (pointer_bits Lp64) (subst (λ v. fits_value Lp64 k v ≡ true) h.value f.fits)

some_number : (k : ℕ) (n : ℤ) → 0 < k → 0 < length (bits_of k n)
some_number k n h = let e = length-bits_from (residue (2 ^ k) n) k in omega arith

-- offsets that are near and the same modulo 2^64 are the same
near_same : (o p : ℤ) → neg_ℤ (pos (2 ^ 62)) ≤ℤ o → o ≤ℤ pos (2 ^ 62) → neg_ℤ (pos (2 ^ 62)) ≤ℤ p → p ≤ℤ pos (2 ^ 62) → residue (2 ^ 64) o ≡ residue (2 ^ 64) p → o ≡ p
near_same o p a b c d e =
    let f = residue_differs (2 ^ 64) o (pow_pos 64) in
    let g = residue_differs (2 ^ 64) p (pow_pos 64) in
    apart f.times g.times o p (residue (2 ^ 64) o) (residue (2 ^ 64) p) f.is g.is e a b c d
  where
    apart : (t u o p : ℤ) (r s : ℕ) → o ≡ pos r +ℤ t *ℤ pos (2 ^ 64) → p ≡ pos s +ℤ u *ℤ pos (2 ^ 64) → r ≡ s → neg_ℤ (pos (2 ^ 62)) ≤ℤ o → o ≤ℤ pos (2 ^ 62) → neg_ℤ (pos (2 ^ 62)) ≤ℤ p → p ≤ℤ pos (2 ^ 62) → o ≡ p
    apart t u o p r s f g e a b c d = omega (arith, ints)

rigid_same : (l : Layout) (k : ℕ) (x y : Cellv) (ks : List Cell) → Fine Lp64 k x → is_sole k x ≡ true → is_sole k y ≡ true → is_rigid x ≡ true → is_rigid y ≡ true → Allows l k x ks → Allows l k y ks → x ≡ y
rigid_same l k x y ks f s t q r a b =
    let h = rigid_kind k x f.few_bits s q in
    let i = rigid_kind k y f.few_bits t r in
    let one = pos (l.address h.address.base) +ℤ h.offset in
    let two = pos (l.address i.address.base) +ℤ i.offset in
    let m = alike_trans (number_cells k (only h.address.base) one) ks (number_cells k (only i.address.base) two) (alike_sym ks (number_cells k (only h.address.base) one) (address_cells l k x ks h a)) (address_cells l k y ks i b) in
    let p = alike_provenance (only h.address.base) (only i.address.base) (bits_of k one) (bits_of k two) (some_number k one f.some_bits) m in
    let base : h.address.base ≡ i.address.base = only_has i.address.base h.address.base (subst (λ z. contains z h.address.base ≡ true) p (has_own h.address.base)) in
    let e = same_rest k (only h.address.base) (only i.address.base) one two m in
    let g : residue (2 ^ k) h.offset ≡ residue (2 ^ k) i.offset =
    rest_minus (2 ^ k) (pos (l.address h.address.base)) h.offset i.offset (pow_pos k) (e ∙ ap (λ z. residue (2 ^ k) (pos (l.address z) +ℤ i.offset)) (sym base)) in
    let w = pointer_width k x f h in
    let near = near_same h.offset i.offset h.low h.high i.low i.high (subst (λ j. residue (2 ^ j) h.offset ≡ residue (2 ^ j) i.offset) w g) in
    let offsets = same_single h.address.offsets i.address.offsets i.offset (h.single ∙ ap Some near) i.single in
    let address : h.address ≡ i.address = ap (λ z. record { base = z; offsets = h.address.offsets }) base ∙ ap (λ z. record { base = i.address.base; offsets = z }) offsets in
    let value : x.value ≡ y.value =
    h.value ∙ ap (λ z. Separate z (h.address ∷ [])) (same_empty h.numbers i.numbers h.empty i.empty) ∙ ap (λ z. Separate i.numbers (z ∷ [])) address ∙ sym i.value in
    by_parts x y value (is_false x.uninit h.uninit ∙ sym (is_false y.uninit i.uninit)) (is_false x.dead h.dead ∙ sym (is_false y.dead i.dead))
  where
    has_own : (base : ℕ) → contains (only base) base ≡ true
    has_own base = at (contains (only base) base) refl
      where
        at : (b : Bool) → contains (only base) base ≡ b → b ≡ true
        at true e = refl
        at false e = absurd (self_has base base refl e)

-- ---- what is stored

fit_blank : (k : ℕ) (c : Cellv) → is_sole 1 c ≡ true → blank c ≡ true → fit Lp64 k c ≡ c
fit_blank k c s b =
    let i = blank_kind 1 c (omega arith) s b in
    let v = same_fit c.value b in
    by_parts (fit Lp64 k c) c v (ap (λ w. c.uninit || (has_no_value w && not c.dead)) v ∙ flagged_once c.uninit c.dead (has_no_value c.value) i.flag) refl
  where
    same_fit : (v : AVal) → has_no_value v ≡ true → fit_value Lp64 k v ≡ v
    same_fit (Separate ns xs) e = let n = nothing_parts ns xs e in ap (λ ys. fit_value Lp64 k (Separate ns ys)) n.1 ∙ ap (Separate ns) (sym n.1)
    same_fit (Mixed bs) e = cc

    flagged_once : (u d n : Bool) → is_one_flag u d ≡ true → (u || (n && not d)) ≡ u
    flagged_once true d n h = refl
    flagged_once false true true h = refl
    flagged_once false true false h = refl
    flagged_once false false n h = cc

-- ---- parts

pub only_single : (v : Ival) (x : ℤ) → IsOnly v x → single_of v.shape ≡ Some x
only_single v x h = ap single_of (single_shape v.shape x v.valid h)

number_sole : (k : ℕ) (ns : Ival) (z : ℤ) → k ≤ 64 → single_of ns.shape ≡ Some z → is_sole k (record { value = Separate ns []; uninit = false; dead = false }) ≡ true
number_sole k ns z few e =
    subst (λ b. cond b false (is_some (rest_in k ns.shape) && true) ≡ true) (sym (not_none ns z ((single_only ns z e z).1 refl))) (subst (λ o. (is_some o && true) ≡ true) (sym (single_rest k ns z few e)) refl)

piece_sole : (k : ℕ) (c : Cellv) (low n : ℕ) → Fine Lp64 k c → 0 < n → n < k → low + n ≤ k → is_rigid c ≡ false → is_sole k c ≡ true → is_sole n (piece k c low n) ≡ true
piece_sole k c low n f p q h r s =
    let few = f.few_bits in
    elim (loose_kind k c few s r) [
      | inl i ↦ let one = f.blank_bits i.none in absurd (omega arith)
      | inr i ↦ let known = i.1.known in sub known (omega arith) (part_rest k low n known.numbers (residue (2 ^ k) i.0) i.0 h few known.rest i.1.held)
    ]
  where
    sub : {z : ℕ} (h : Known k c z) → n ≤ 64 → {o : ℤ} → single_of (part_of low n h.numbers).shape ≡ Some o → is_sole n (piece k c low n) ≡ true
    sub h few {o} e =
        subst (λ v. is_sole n (record { value = value_piece low n v; uninit = c.uninit; dead = c.dead }) ≡ true) (sym h.value)
        (subst (λ u. is_sole n (record { value = Separate (part_of low n h.numbers) []; uninit = u; dead = c.dead }) ≡ true) (sym h.uninit)
        (subst (λ d. is_sole n (record { value = Separate (part_of low n h.numbers) []; uninit = false; dead = d }) ≡ true) (sym h.dead) (number_sole n (part_of low n h.numbers) o few e)))

piece_loose : (low n : ℕ) (v : AVal) → not (is_empty_list (bases_of v)) ≡ false → not (is_empty_list (bases_of (value_piece low n v))) ≡ false
piece_loose low n (Separate ns []) h = refl
piece_loose low n (Separate ns (x ∷ xs)) h = cc
piece_loose low n (Mixed bs) h = h

pub sole_one : (l : Layout) (k : ℕ) (c : Cellv) (js ks : List Cell) → k ≤ 64 → is_sole k c ≡ true → Allows l k c js → Allows l k c ks → AllAlike SameCell js ks
sole_one l k c js ks few s a b =
    elim (kind_of k c few s) [
      | inl f ↦ flag_one f
      | inr (inl n) ↦ alike_trans js (number_cells k nowhere n.0) ks (known_cells l k c n.0 js few n.1 a) (alike_sym ks (number_cells k nowhere n.0) (known_cells l k c n.0 ks few n.1 b))
      | inr (inr n) ↦
          let one = number_cells k (only n.address.base) (pos (l.address n.address.base) +ℤ n.offset) in
          alike_trans js one ks (address_cells l k c js n a) (alike_sym ks one (address_cells l k c ks n b))
    ]
  where
    flag_one : IsFlag c → AllAlike SameCell js ks
    flag_one f =
        flags_alike (row_cell c) k f.flag js ks a.0 b.0 (flagged js a) (flagged ks b)
      where
        flagged : (xs : List Cell) → Allows l k c xs → AllByRecursion (IsFlagged (row_cell c)) xs
        flagged xs a = elim (by_value l c xs a.1) [ inl p ↦ p.1 | inr p ↦ absurd (some_value l (row_cell c) xs c.value p.1 f.none) ]

pub sole_laws : (l : Layout) → SoleLaws (ops Lp64) (Fine Lp64) Bare Sure SameCell (Allows l) Bound is_sole is_rigid
sole_laws l = record {
  sole_one = λ k c js ks f. sole_one l k c js ks f.few_bits;
  sole_known = λ k c f s b r. elim (loose_kind k c f.few_bits s r) [
    | inl i ↦ absurd (no_true (has_no_value c.value) b i.none)
    | inr i ↦ (bits_of k i.0, knows k c i.0 i.1 0 k (omega arith), known_has k c i.0 i.1)
  ];
  bare_blank = λ k i c ks x f s a h. bare_blank k i c x (sort_of l k i c ks x f.few_bits s a h);
  sure_known = λ k i c ks x w f s a h. sure_known k i c x w (sort_of l k i c ks x f.few_bits s a h);
  bound_rigid = λ k i c ks x f s a h. bound_rigid k i c x (sort_of l k i c ks x f.few_bits s a h);
  rigid_bound = λ k i c ks x f s r a h. rigid_bound k i c x (sort_of l k i c ks x f.few_bits s a h) r;
  blank_same = λ x y ks f g. blank_same l x y ks;
  rigid_bits = λ j k x y f g s t q r. pointer_width j x f (rigid_kind j x f.few_bits s q) ∙ sym (pointer_width k y g (rigid_kind k y g.few_bits t r));
  rigid_same = λ k x y ks f g. rigid_same l k x y ks f;
  fit_blank = λ k c p q f s b. fit_blank k c s b;
  piece_sole = piece_sole;
  piece_loose = λ k c low n f p q h r. piece_loose low n c.value r;
}
