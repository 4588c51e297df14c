-- Loads of sole cells, and sole cells when a base has died.
use Rattle.std.proofs.Common.{◌≡◌, ◌⊎◌, ℕ, zero, suc, ◌+◌, ◌^◌, ◌<◌, ◌≤◌, ◌==◌, Bool, true, false, cond, ◌&&◌, ◌||◌, ℤ, pos, ◌+ℤ◌, List, [], ◌∷◌, ◌++◌, length, refl, sym, subst, ap, ◌∙◌, inl, inr, arith}
use Rattle.std.specs.Prelude.{not, is_some, ◌-◌, Option, None, Some}
use Rattle.std.specs.List.{AllByRecursion, list_any}
use Rattle.std.proofs.lemmas.List.Folds.{list_any-append}
use Rattle.std.proofs.lemmas.Bool.{and_from, or_cases, or_left, or_right, cases_Bool}
use Rattle.c_base.specs.declared.integer.Machine.TheVariants.{Lp64}
use Rattle.c_base.specs.Integers.{residue, bits_from, bits_of, in_byte_order}
use Rattle.c_memory.specs.Values.{Cell, Uninit, Dead, Bit, Provenance, nowhere, only, is_uninit, is_dead}
use Rattle.c_memory.specs.Layouts.{Layout}
use Rattle.c_memory.specs.Rows.{RowCell, AreBits, IsFlagged, AllowsSome}
use Rattle.offmap_laws.specs.Contents.{AllAlike}
use Rattle.exact_laws.specs.Laws.{OnlyReads, ReadLaws, SoleDeath}
use Rattle.ival_core.specs.declared.value.Ival.{Ival}
use Rattle.ival_core.specs.Ivals.{Holds}
use Rattle.ival_core.specs.Views.{single_of}
use Rattle.ival_bits.specs.Parts.{glued}
use Rattle.avalue_base.specs.Lists.{has_base}
use Rattle.avalue_base.specs.Numbers.{is_empty, no_numbers, concat_of, rest_in}
use Rattle.avalue_base.specs.Values.{AVal, Separate, Mixed, Cellv, bases_of, has_no_value, parts_of, row_cell}
use Rattle.avalue_base.specs.Hues.{blank, value_rest}
use Rattle.avalue_base.specs.Pieces.{no_value, glue_values, glue}
use Rattle.avalue_base.specs.Deaths.{without, value_left, forgotten}
use Rattle.avalue_base.specs.Ops.{ops, Fine}
use Rattle.avalue_base.specs.Meaning.{Allows, Gives}
use Rattle.avalue_base.specs.Singles.{SameCell}
use Rattle.avalue_base.proofs.Sets.{none_is_empty}
use Rattle.avalue_base.proofs.Slices.{bits_of_glued}
use Rattle.avalue_base.proofs.Rests.{rest_held, rest_some, single_rest}
use Rattle.avalue_base.proofs.Parting.{concat_rest}
use Rattle.avalue_base.proofs.Ordering.{nothing_parts}
use Rattle.avalue_base.proofs.Meanings.{separate_allows, some_value, by_value, from_some}
use Rattle.avalue_base.proofs.Showing.{order_is}
use Rattle.cell_contents.specs.Contents.{is_one_flag}
use Rattle.cell_contents.specs.Reading.{Reads}
use Rattle.cell_contents.specs.Soles.{is_sole_value, is_sole, is_rigid, is_settled}
use Rattle.cell_contents.proofs.Contents.{bits_cells, number_cells, length-number, number_content, all_uninit, all_dead, length-uninit, length-dead, alike_sym, alike_trans}
use Rattle.cell_contents.proofs.Soles.{not_none, by_parts, is_false, IsFlag, IsNumber, IsAddress, kind_of, blank_kind, loose_kind, known_cells, address_cells, known_some, only_one, sole_one}

-- ---- flags of lists

clash : (b : Bool) → b ≡ false → b ≡ true → ⊥
clash true e f = cc
clash false e f = cc

-- without flags
record Unflagged (xs : List Cell) : Type 0 where
  uninit : list_any is_uninit xs ≡ false
  dead : list_any is_dead xs ≡ false

bits_unflagged : (p : Provenance) (bs : List Bool) → Unflagged (bits_cells p bs)
bits_unflagged p [] = record { uninit = refl; dead = refl }
bits_unflagged p (b ∷ bs) = let r = bits_unflagged p bs in record { uninit = r.uninit; dead = r.dead }

alike_unflagged : (xs : List Cell) (p : Provenance) (bs : List Bool) → AllAlike SameCell xs (bits_cells p bs) → Unflagged xs
alike_unflagged [] p bs a = record { uninit = refl; dead = refl }
alike_unflagged (x ∷ xs) p [] a = absurd a
alike_unflagged (Uninit ∷ xs) p (b ∷ bs) a = absurd a.0
alike_unflagged (Dead ∷ xs) p (b ∷ bs) a = absurd a.0
alike_unflagged (Bit c q i ∷ xs) p (b ∷ bs) a = let r = alike_unflagged xs p bs a.1 in record { uninit = r.uninit; dead = r.dead }

unflagged_bits : (c : RowCell) (p : Provenance) (bs : List Bool) (xs : List Cell) → Unflagged xs → AreBits c p bs xs → AllAlike SameCell xs (bits_cells p bs)
unflagged_bits c p [] [] u a = tt
unflagged_bits c p [] (x ∷ xs) u a = absurd a
unflagged_bits c p (b ∷ bs) [] u a = absurd a
unflagged_bits c p (b ∷ bs) (Uninit ∷ xs) u a = absurd (let e = u.uninit in cc)
unflagged_bits c p (b ∷ bs) (Dead ∷ xs) u a = absurd (let e = u.dead in cc)
unflagged_bits c p (b ∷ bs) (Bit d q i ∷ xs) u a = (a.0, unflagged_bits c p bs xs (record { uninit = u.uninit; dead = u.dead }) a.1)

all_uninit_any : (k : ℕ) → 0 < k → list_any is_uninit (all_uninit k) ≡ true
unfolding all_uninit
all_uninit_any zero h = absurd (omega arith)
all_uninit_any (suc k) h = refl

all_dead_any : (k : ℕ) → 0 < k → list_any is_dead (all_dead k) ≡ true
unfolding all_dead
all_dead_any zero h = absurd (omega arith)
all_dead_any (suc k) h = refl

uninit_no_dead : (k : ℕ) → list_any is_dead (all_uninit k) ≡ false
unfolding all_uninit
uninit_no_dead zero = refl
uninit_no_dead (suc k) = uninit_no_dead k

dead_no_uninit : (k : ℕ) → list_any is_uninit (all_dead k) ≡ false
unfolding all_dead
dead_no_uninit zero = refl
dead_no_uninit (suc k) = dead_no_uninit k

not_both : (c : Cellv) → is_one_flag c.uninit c.dead ≡ true → c.uninit ≡ true → c.dead ≡ true → ⊥
not_both c h u d = at c.uninit c.dead h u d
  where
    at : (u d : Bool) → is_one_flag u d ≡ true → u ≡ true → d ≡ true → ⊥
    at true true h u d = cc
    at true false h u d = cc
    at false d h u e = cc

-- a cell with one flag has it in its content
flag_uninit : (c : Cellv) (ks : List Cell) → is_one_flag c.uninit c.dead ≡ true → 0 < length ks → AllByRecursion (IsFlagged (row_cell c)) ks → c.uninit ≡ true → list_any is_uninit ks ≡ true
flag_uninit c [] h w a u = absurd (omega arith)
flag_uninit c (Uninit ∷ ks) h w a u = refl
flag_uninit c (Dead ∷ ks) h w a u = absurd (not_both c h u a.0)
flag_uninit c (Bit b p i ∷ ks) h w a u = absurd a.0

flag_dead : (c : Cellv) (ks : List Cell) → is_one_flag c.uninit c.dead ≡ true → 0 < length ks → AllByRecursion (IsFlagged (row_cell c)) ks → c.dead ≡ true → list_any is_dead ks ≡ true
flag_dead c [] h w a u = absurd (omega arith)
flag_dead c (Uninit ∷ ks) h w a u = absurd (not_both c h a.0 u)
flag_dead c (Dead ∷ ks) h w a u = refl
flag_dead c (Bit b p i ∷ ks) h w a u = absurd a.0

flagged_cells : (l : Layout) (k : ℕ) (c : Cellv) (ks : List Cell) → IsFlag c → Allows l k c ks → AllByRecursion (IsFlagged (row_cell c)) ks
flagged_cells l k c ks f a = elim (by_value l c ks a.1) [ inl p ↦ p.1 | inr p ↦ absurd (some_value l (row_cell c) ks c.value p.1 f.none) ]

-- ---- a sole cell is read as its content

value_reads : (l : Layout) (k : ℕ) (c : Cellv) (ks : List Cell) → k ≤ 64 → is_sole k c ≡ true → (c.uninit ≡ true → ⊥) → (c.dead ≡ true → ⊥) → Unflagged ks → Allows l k c ks → OnlyReads (Gives l) Reads k c ks
value_reads l k c ks few s f g u a = λ ls h. record {
  uninit = λ e. absurd (f (h.uninit e));
  dead = λ e. absurd (g (h.dead e));
  value = λ e d. (u.uninit, u.dead, sole_one l k c ls ks few s (h.count, from_some l c ls (h.value e d)) a);
}

one_reads : (l : Layout) (k : ℕ) (c : Cellv) (ks : List Cell) → 0 < k → k ≤ 64 → is_sole k c ≡ true → Allows l k c ks → OnlyReads (Gives l) Reads k c ks
one_reads l k c ks p few s a =
    elim (kind_of k c few s) [
      | inl f ↦
          let b = flagged_cells l k c ks f a in
          let n = a.0 in
          λ ls h. record {
            uninit = λ e. flag_uninit c ks f.flag (omega arith) b (h.uninit e);
            dead = λ e. flag_dead c ks f.flag (omega arith) b (h.dead e);
            value = λ e d. absurd (some_value l (row_cell c) ls c.value (h.value e d) f.none);
          }
      | inr (inl n) ↦ value_reads l k c ks few s (clash c.uninit n.1.known.uninit) (clash c.dead n.1.known.dead) (alike_unflagged ks nowhere (bits_of k n.0) (known_cells l k c n.0 ks few n.1 a)) a
      | inr (inr n) ↦
          value_reads l k c ks few s n.uninit n.dead (alike_unflagged ks (only n.address.base) (bits_of k (pos (l.address n.address.base) +ℤ n.offset)) (address_cells l k c ks n a)) a
    ]

-- ---- settled cells

-- all its values are numbers with the k bits of this one
record Settles (k : ℕ) (d : Cellv) : Type 0 where
  numbers : Ival
  value : d.value ≡ Separate numbers []
  number : ℤ
  held : Holds numbers number
  rest : rest_in k numbers.shape ≡ Some (residue (2 ^ k) number)

settled_kind : (k : ℕ) (d : Cellv) → k ≤ 64 → is_settled k d ≡ true → (has_no_value d.value ≡ true) ⊎ Settles k d
settled_kind k d few h = elim (or_cases (has_no_value d.value) (is_some (value_rest k d.value)) h) [ inl n ↦ inl n | inr n ↦ inr (at d.value refl n) ]
  where
    at : (v : AVal) → d.value ≡ v → is_some (value_rest k v) ≡ true → Settles k d
    at (Separate ns []) e h = one (rest_in k ns.shape) refl h
      where
        one : (o : Option ℕ) → rest_in k ns.shape ≡ o → is_some o ≡ true → Settles k d
        one None f t = cc
        one (Some r) f t =
            let n = rest_some k ns r few f in
            record { numbers = ns; value = e; number = n.0; held = n.1; rest = f ∙ ap Some (sym (rest_held k ns r n.0 few f n.1)) }
    at (Separate ns (x ∷ xs)) e h = cc
    at (Mixed bs) e h = cc

abbrev known_is : (k : ℕ) (c : Cellv) (n : ℤ) → IsNumber k c n → Settles k c
known_is k c n h = record { numbers = h.known.numbers; value = h.known.value; number = n; held = h.held; rest = h.known.rest }

number_settled : (k : ℕ) (d : Cellv) (ns : Ival) (r : ℕ) → d.value ≡ Separate ns [] → rest_in k ns.shape ≡ Some r → is_settled k d ≡ true
number_settled k d ns r e s = or_right (has_no_value d.value) (is_some (value_rest k d.value)) (ap (λ v. is_some (value_rest k v)) e ∙ ap is_some s)

one_settled : (k : ℕ) (c : Cellv) → k ≤ 64 → is_sole k c ≡ true → is_rigid c ≡ false → is_settled k c ≡ true
one_settled k c few s r =
    elim (loose_kind k c few s r) [
      | inl f ↦ or_left (has_no_value c.value) (is_some (value_rest k c.value)) f.none
      | inr n ↦ number_settled k c n.1.known.numbers (residue (2 ^ k) n.0) n.1.known.value n.1.known.rest
    ]

-- ---- cells that are put together

glue_is : (j k : ℕ) (c d : Cellv) (h : Settles j c) (i : Settles k d) → has_no_value c.value ≡ false → has_no_value d.value ≡ false → (glue j c k d).value ≡ Separate (concat_of j h.numbers k i.numbers) []
glue_is j k c d h i m n =
    ap (λ b. cond (b || has_no_value d.value) no_value (glue_values j c.value k d.value)) m ∙ ap (λ b. cond b no_value (glue_values j c.value k d.value)) n
    ∙ ap (λ v. glue_values j v k d.value) h.value ∙ ap (λ v. glue_values j (Separate h.numbers []) k v) i.value

glue_none : (j k : ℕ) (c d : Cellv) → (has_no_value c.value ≡ true) ⊎ (has_no_value d.value ≡ true) → has_no_value (glue j c k d).value ≡ true
glue_none j k c d h =
    ap (λ b. has_no_value (cond b no_value (glue_values j c.value k d.value))) (elim h [ inl e ↦ or_left (has_no_value c.value) (has_no_value d.value) e | inr e ↦ or_right (has_no_value c.value) (has_no_value d.value) e ])
    ∙ none
  where
    none : has_no_value no_value ≡ true
    none = and_from (is_empty no_numbers.shape) true none_is_empty refl

-- the two are numbers, or nothing is read of one of them
glue_kind : (j k : ℕ) (c d : Cellv) → j ≤ 64 → k ≤ 64 → is_sole j c ≡ true → is_rigid c ≡ false → is_settled k d ≡ true →
    ((has_no_value c.value ≡ true) ⊎ (has_no_value d.value ≡ true)) ⊎ (((a : ℤ) × IsNumber j c a) × Settles k d × (has_no_value d.value ≡ false))
glue_kind j k c d few more s r t =
    elim (loose_kind j c few s r) [
      | inl f ↦ inl (inl f.none)
      | inr n ↦ elim (cases_Bool (has_no_value d.value)) [
        | inl e ↦ inl (inr e)
        | inr e ↦ elim (settled_kind k d more t) [
          | inl f ↦ inl (inr f)
          | inr i ↦ inr (n, i, e)
        ]
      ]
    ]

glue_settled : (j k : ℕ) (c d : Cellv) → 0 < k → j + k ≤ 64 → is_sole j c ≡ true → is_rigid c ≡ false → is_settled k d ≡ true → is_settled (j + k) (glue j c k d) ≡ true
glue_settled j k c d p h s r t =
    elim (glue_kind j k c d (omega arith) (omega arith) s r t) [
      | inl e ↦ or_left (has_no_value (glue j c k d).value) (is_some (value_rest (j + k) (glue j c k d).value)) (glue_none j k c d e)
      | inr n ↦
          let one = known_is j c n.0.0 n.0.1 in
          let z = glued j n.0.0 (pos (residue (2 ^ k) n.1.number)) in
          let m = concat_rest j k one.numbers n.1.numbers (residue (2 ^ j) n.0.0) (residue (2 ^ k) n.1.number) n.0.0 n.1.number h p one.rest n.1.rest one.held n.1.held in
          number_settled (j + k) (glue j c k d) (concat_of j one.numbers k n.1.numbers) (residue (2 ^ (j + k)) z) (glue_is j k c d one n.1 (known_some j c n.0.0 n.0.1) n.2)
          (single_rest (j + k) (concat_of j one.numbers k n.1.numbers) z h m)
    ]

alike_append : (xs ys vs ws : List Cell) → AllAlike SameCell xs vs → AllAlike SameCell ys ws → AllAlike SameCell (xs ++ ys) (vs ++ ws)
alike_append [] ys [] ws a b = b
alike_append [] ys (v ∷ vs) ws a b = absurd a
alike_append (x ∷ xs) ys [] ws a b = absurd a
alike_append (x ∷ xs) ys (v ∷ vs) ws a b = (a.0, alike_append xs ys vs ws a.1 b)

cells_append : (p : Provenance) (bs cs : List Bool) → bits_cells p (bs ++ cs) ≡ bits_cells p bs ++ bits_cells p cs
cells_append p [] cs = refl
cells_append p (b ∷ bs) cs = ap (λ r. Bit b p 0 ∷ r) (cells_append p bs cs)

any_left : (f : Cell → Bool) (js ks : List Cell) → list_any f js ≡ true → list_any f (js ++ ks) ≡ true
any_left f js ks h = list_any-append f js ks ∙ or_left (list_any f js) (list_any f ks) h

any_right : (f : Cell → Bool) (js ks : List Cell) → list_any f ks ≡ true → list_any f (js ++ ks) ≡ true
any_right f js ks h = list_any-append f js ks ∙ or_right (list_any f js) (list_any f ks) h

none_both : (f : Cell → Bool) (js ks : List Cell) → list_any f js ≡ false → list_any f ks ≡ false → list_any f (js ++ ks) ≡ false
none_both f js ks h i = list_any-append f js ks ∙ ap (λ b. b || list_any f ks) h ∙ i

uninit_gives : (l : Layout) (k : ℕ) (d : Cellv) → 0 < k → d.uninit ≡ true → Gives l k d (all_uninit k)
uninit_gives l k d p u = record {
  count = length-uninit k;
  uninit = λ e. u;
  dead = λ e. absurd (clash (list_any is_dead (all_uninit k)) (uninit_no_dead k) e);
  value = λ e f. absurd (clash (list_any is_uninit (all_uninit k)) e (all_uninit_any k p));
}

dead_gives : (l : Layout) (k : ℕ) (d : Cellv) → 0 < k → d.dead ≡ true → Gives l k d (all_dead k)
dead_gives l k d p u = record {
  count = length-dead k;
  uninit = λ e. absurd (clash (list_any is_uninit (all_dead k)) (dead_no_uninit k) e);
  dead = λ e. u;
  value = λ e f. absurd (clash (list_any is_dead (all_dead k)) f (all_dead_any k p));
}

-- a settled cell gives its number
number_gives : (l : Layout) (k : ℕ) (d : Cellv) (i : Settles k d) → Gives l k d (number_cells k nowhere i.number)
number_gives l k d i =
    let u = bits_unflagged nowhere (bits_of k i.number) in
    let a = number_content l k d.uninit d.dead i.numbers [] i.number i.held in
    let b : Allows l k d (number_cells k nowhere i.number) = subst (λ v. Allows l k (record { value = v; uninit = d.uninit; dead = d.dead }) (number_cells k nowhere i.number)) (sym i.value) a in
    record {
      count = length-number k nowhere i.number;
      uninit = λ e. absurd (clash (list_any is_uninit (number_cells k nowhere i.number)) u.uninit e);
      dead = λ e. absurd (clash (list_any is_dead (number_cells k nowhere i.number)) u.dead e);
      value = λ e f. elim (by_value l d (number_cells k nowhere i.number) b.1) [
        | inl p ↦ absurd (clash (has_no_value d.value) (ap has_no_value i.value ∙ not_none i.numbers i.number i.held) p.0)
        | inr p ↦ p.1
      ];
    }

glue_reads : (l : Layout) (j k : ℕ) (c d : Cellv) (js ks : List Cell) → 0 < j → 0 < k → j + k ≤ 64 → is_sole j c ≡ true → is_rigid c ≡ false → is_settled k d ≡ true → Allows l j c js → OnlyReads (Gives l) Reads k d ks →
    OnlyReads (Gives l) Reads (j + k) (glue j c k d) (js ++ ks)
glue_reads l j k c d js ks q p h s r t a o = λ ls g. record {
  uninit = λ e. elim (or_cases c.uninit d.uninit (g.uninit e)) [
    | inl u ↦ any_left is_uninit js ks (own_uninit u)
    | inr u ↦ any_right is_uninit js ks ((o (all_uninit k) (uninit_gives l k d p u)).uninit (all_uninit_any k p))
  ];
  dead = λ e. elim (or_cases c.dead d.dead (g.dead e)) [
    | inl u ↦ any_left is_dead js ks (own_dead u)
    | inr u ↦ any_right is_dead js ks ((o (all_dead k) (dead_gives l k d p u)).dead (all_dead_any k p))
  ];
  value = λ e f. by_kind ls g.count (record { uninit = e; dead = f }) (g.value e f) (glue_kind j k c d few (omega arith) s r t);
}
  where
    few : j ≤ 64
    few = omega arith

    own_uninit : c.uninit ≡ true → list_any is_uninit js ≡ true
    own_uninit u =
        elim (loose_kind j c few s r) [
          | inl f ↦ let n = a.0 in flag_uninit c js f.flag (omega arith) (flagged_cells l j c js f a) u
          | inr n ↦ absurd (clash c.uninit n.1.known.uninit u)
        ]

    own_dead : c.dead ≡ true → list_any is_dead js ≡ true
    own_dead u =
        elim (loose_kind j c few s r) [
          | inl f ↦ let n = a.0 in flag_dead c js f.flag (omega arith) (flagged_cells l j c js f a) u
          | inr n ↦ absurd (clash c.dead n.1.known.dead u)
        ]

    by_kind : (ls : List Cell) → length ls ≡ j + k → Unflagged ls → AllowsSome l (row_cell (glue j c k d)) ls (parts_of (glue j c k d).value) →
        ((has_no_value c.value ≡ true) ⊎ (has_no_value d.value ≡ true)) ⊎ (((a : ℤ) × IsNumber j c a) × Settles k d × (has_no_value d.value ≡ false)) →
        (list_any is_uninit (js ++ ks) ≡ false) × (list_any is_dead (js ++ ks) ≡ false) × AllAlike SameCell ls (js ++ ks)
    by_kind ls w u b (inl e) = absurd (some_value l (row_cell (glue j c k d)) ls (glue j c k d).value b (glue_none j k c d e))
    by_kind ls w u b (inr n) =
        let one = known_is j c n.0.0 n.0.1 in
        let z = glued j n.0.0 (pos (residue (2 ^ k) n.1.number)) in
        let v = glue_is j k c d one n.1 (known_some j c n.0.0 n.0.1) n.2 in
        let m = concat_rest j k one.numbers n.1.numbers (residue (2 ^ j) n.0.0) (residue (2 ^ k) n.1.number) n.0.0 n.1.number h p one.rest n.1.rest one.held n.1.held in
        let first = known_cells l j c n.0.0 js few n.0.1 a in
        let x = alike_unflagged js nowhere (bits_of j n.0.0) first in
        let y = (o (number_cells k nowhere n.1.number) (number_gives l k d n.1)).value (bits_unflagged nowhere (bits_of k n.1.number)).uninit (bits_unflagged nowhere (bits_of k n.1.number)).dead in
        let both = alike_append (number_cells j nowhere n.0.0) (number_cells k nowhere n.1.number) js ks (alike_sym js (number_cells j nowhere n.0.0) first) y.2 in
        let same : number_cells (j + k) nowhere z ≡ number_cells j nowhere n.0.0 ++ number_cells k nowhere n.1.number =
        ap (bits_cells nowhere) (bits_of_glued n.0.0 n.1.number j k) ∙ cells_append nowhere (bits_of j n.0.0) (bits_of k n.1.number) in
        let own = own_number ls w u z (concat_of j one.numbers k n.1.numbers) m (subst (λ t. AllowsSome l (row_cell (glue j c k d)) ls (parts_of t)) v b) in (
          none_both is_uninit js ks x.uninit y.0,
          none_both is_dead js ks x.dead y.1,
          alike_trans ls (number_cells (j + k) nowhere z) (js ++ ks) own (subst (λ t. AllAlike SameCell t (js ++ ks)) (sym same) both),
        )
      where
        own_number : (ls : List Cell) → length ls ≡ j + k → Unflagged ls → (z : ℤ) (ns : Ival) → single_of ns.shape ≡ Some z → AllowsSome l (row_cell (glue j c k d)) ls (parts_of (Separate ns [])) →
            AllAlike SameCell ls (number_cells (j + k) nowhere z)
        own_number ls w u z ns e b =
            elim (separate_allows l (row_cell (glue j c k d)) ls ns [] b) [
              | inr q ↦ absurd q.among
              | inl q ↦
                  let bits = subst (λ i. AreBits (row_cell (glue j c k d)) nowhere (in_byte_order l.machine (bits_from (residue (2 ^ i) q.number) i)) ls) w q.bits in
                  let t = unflagged_bits (row_cell (glue j c k d)) nowhere (bits_of (j + k) q.number) ls u (subst (λ bs. AreBits (row_cell (glue j c k d)) nowhere bs ls) (order_is l.machine (bits_of (j + k) q.number)) bits) in
                  subst (λ n. AllAlike SameCell ls (number_cells (j + k) nowhere n)) (only_one ns z q.number e q.held) t
            ]

pub read_laws : (l : Layout) → ReadLaws (ops Lp64) (Fine Lp64) (Allows l) (Gives l) Reads is_sole is_rigid is_settled
read_laws l = record {
  one_reads = λ k c ks f. one_reads l k c ks f.some_bits f.few_bits;
  one_settled = λ k c f. one_settled k c f.few_bits;
  glue_settled = λ j k c d f. glue_settled j k c d;
  glue_reads = λ j k c d js ks f p h s r t a g. glue_reads l j k c d js ks f.some_bits p h s r t a;
}

-- ---- when a base has died

or_none : (b : Bool) → (b || false) ≡ b
or_none true = refl
or_none false = refl

-- a value without addresses is left as it is
loose_left : (base : ℕ) (c : Cellv) (ns : Ival) → c.value ≡ Separate ns [] → forgotten base c ≡ c
loose_left base c ns e = by_parts (forgotten base c) c (ap (value_left base) e ∙ sym e) refl (ap (λ v. c.dead || has_base (bases_of v) base) e ∙ or_none c.dead)

nothing_is : (v : AVal) → has_no_value v ≡ true → (ns : Ival) × (v ≡ Separate ns [])
nothing_is (Separate ns xs) h = (ns, ap (Separate ns) (nothing_parts ns xs h).1)
nothing_is (Mixed bs) h = cc

-- a cell is as it was, or has one flag
Left : ℕ → Cellv → Type 0
Left base c = (forgotten base c ≡ c) ⊎ ((blank (forgotten base c) ≡ true) × (is_one_flag (forgotten base c).uninit (forgotten base c).dead ≡ true))

address_left : (base : ℕ) (c : Cellv) → IsAddress c → Left base c
unfolding Left
address_left base c h = at (h.address.base == base) refl
  where
    left : (b : Bool) → (h.address.base == base) ≡ b → value_left base c.value ≡ Separate h.numbers (cond (not b) (h.address ∷ []) [])
    left b e = ap (value_left base) h.value ∙ ap (λ t. Separate h.numbers (cond (not t) (h.address ∷ []) [])) e

    based : (b : Bool) → (h.address.base == base) ≡ b → has_base (bases_of c.value) base ≡ b
    based b e = ap (λ v. has_base (bases_of v) base) h.value ∙ or_none (h.address.base == base) ∙ e

    at : (b : Bool) → (h.address.base == base) ≡ b → (forgotten base c ≡ c) ⊎ ((blank (forgotten base c) ≡ true) × (is_one_flag c.uninit (c.dead || has_base (bases_of c.value) base) ≡ true))
    at true e =
        inr (
          ap has_no_value (left true e) ∙ and_from (is_empty h.numbers.shape) true h.empty refl,
          ap (λ u. is_one_flag u (c.dead || has_base (bases_of c.value) base)) (is_false c.uninit h.uninit) ∙ ap (λ d. is_one_flag false (d || has_base (bases_of c.value) base)) (is_false c.dead h.dead)
              ∙ ap (is_one_flag false) (based true e),
        )
    at false e = inl (by_parts (forgotten base c) c (left false e ∙ sym h.value) refl (ap (λ b. c.dead || b) (based false e) ∙ or_none c.dead))

left_kind : (base k : ℕ) (c : Cellv) → k ≤ 64 → is_sole k c ≡ true → Left base c
unfolding Left
left_kind base k c few s =
    elim (kind_of k c few s) [
      | inl f ↦ let n = nothing_is c.value f.none in inl (loose_left base c n.0 n.1)
      | inr (inl n) ↦ inl (loose_left base c n.1.known.numbers n.1.known.value)
      | inr (inr n) ↦ address_left base c n
    ]

flag_sole : (k : ℕ) (c : Cellv) → blank c ≡ true → is_one_flag c.uninit c.dead ≡ true → is_sole k c ≡ true
flag_sole k c b f = subst (λ t. cond t (is_one_flag c.uninit c.dead) (is_sole_value k c.value && (not c.uninit && not c.dead)) ≡ true) (sym b) f

pub sole_death : (base : ℕ) → SoleDeath (Fine Lp64) blank is_sole (forgotten base)
unfolding Left
sole_death base = record {
  left_sole = λ k c f s b. elim (left_kind base k c f.few_bits s) [
    | inl e ↦ subst (λ d. is_sole k d ≡ true) (sym e) s
    | inr e ↦ absurd (clash (blank (forgotten base c)) b e.0)
  ];
  left_blank = λ k c f s b. elim (left_kind base k c f.few_bits s) [
    | inl e ↦
        let none : blank c ≡ true = subst (λ d. blank d ≡ true) e b in
        let i = blank_kind k c f.few_bits s none in
        subst (λ d. is_sole 1 d ≡ true) (sym e) (flag_sole 1 c none i.flag)
    | inr e ↦ flag_sole 1 (forgotten base c) e.0 e.1
  ];
}
