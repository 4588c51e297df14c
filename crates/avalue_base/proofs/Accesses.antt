-- What stands where a cell is stored, parts of cells, and what loads make of them.
use Rattle.std.proofs.Common.{◌≡◌, ℕ, zero, suc, ◌+◌, ◌^◌, ◌<◌, ◌≤◌, ◌==◌, Bool, true, false, cond, ◌&&◌, ◌||◌, ℤ, pos, List, [], ◌∷◌, ◌++◌, length, map, take, drop, replicate, refl, sym, subst, ap, ◌∙◌, inl, inr, arith}
use Rattle.std.specs.Prelude.{not, filter}
use Rattle.std.specs.List.{AllByRecursion, list_any, list_all}
use Rattle.std.proofs.lemmas.List.{length-append}
use Rattle.std.proofs.lemmas.List.Folds.{list_any-append}
use Rattle.std.proofs.lemmas.Bool.{and_parts, and_from, or_cases, or_left, or_right}
use Rattle.c_base.specs.declared.integer.Machine.{Machine}
use Rattle.c_base.specs.Integers.{residue, bits_from}
use Rattle.c_memory.specs.Values.{Cell, Uninit, Dead, Bit, Provenance, nowhere, is_uninit, is_dead}
use Rattle.c_memory.specs.Layouts.{Layout}
use Rattle.c_memory.specs.Rows.{RowCell, AreBits, IsMixed, IsFlagged, AreBitsOf, AllowsSome}
use Rattle.ival_core.specs.declared.value.Ival.{Ival}
use Rattle.cell_laws.specs.Meaning.{Describes}
use Rattle.cell_laws.specs.Laws.{PartLaws, AccessLaws}
use Rattle.ival_bits.specs.Parts.{part, glued}
use Rattle.avalue_base.specs.Lists.{union_of, In}
use Rattle.avalue_base.specs.Numbers.{is_empty, is_empty_list, no_numbers, part_of, concat_of}
use Rattle.avalue_base.specs.Values.{Address, AVal, Separate, Mixed, Cellv, base_of, bases_of, has_no_value, parts_of, row_cell}
use Rattle.avalue_base.specs.Order.{value_in, leq, join}
use Rattle.avalue_base.specs.Hues.{Hue, hue, blank, pointer_bits, fits_value}
use Rattle.avalue_base.specs.Pieces.{value_piece, piece, no_value, glue_values, glue, has_offsets, fit_value, fit}
use Rattle.avalue_base.specs.Ops.{ops, Fine, have_offsets}
use Rattle.avalue_base.specs.Meaning.{AllowsBy, Allows, Gives, Tint}
use Rattle.avalue_base.proofs.Lists.{among-refl, union_left, union_right}
use Rattle.avalue_base.proofs.Sets.{none_is_empty, held_some, some_held, empty_none, part_held, concat_held}
use Rattle.avalue_base.proofs.Slices.{bits_of_part, bits_of_glued}
use Rattle.avalue_base.proofs.Ordering.{leq_parts, value_refl, nothing_parts, nothing_from}
use Rattle.avalue_base.proofs.Joins.{false_or_true, join_leq_left, join_leq_right}
use Rattle.avalue_base.proofs.Meanings.{FlagsIn, flags_in, bits_more, flagged_more, PlainIn, AddressIn, separate_allows, allows_separate, some_more, some_value, by_value, from_some}
use Rattle.avalue_base.proofs.Showing.{order_is, same_mix, mixed_tint, flagged_tint}

-- ---- stores

abbrev pub kept : List Address → List Address
kept xs = filter has_offsets xs

filter-all : (xs : List Address) → list_all has_offsets (kept xs) ≡ true
filter-all [] = refl
filter-all (x ∷ xs) = by_test (filter-all xs) (has_offsets x) refl
  where
    by_test : list_all has_offsets (kept xs) ≡ true → (b : Bool) → has_offsets x ≡ b → list_all has_offsets (cond b (x ∷ kept xs) (kept xs)) ≡ true
    by_test h true e = and_from (has_offsets x) (list_all has_offsets (kept xs)) e h
    by_test h false e = h

filter-same : (xs : List Address) → list_all has_offsets xs ≡ true → kept xs ≡ xs
filter-same [] h = refl
filter-same (x ∷ xs) h =
    let a = and_parts (has_offsets x) (list_all has_offsets xs) h in
    ap (λ b. cond b (x ∷ kept xs) (kept xs)) a.0 ∙ ap (λ ys. x ∷ ys) (filter-same xs a.1)

pub filter-in : (xs : List Address) (a : Address) → In xs a → has_offsets a ≡ true → In (kept xs) a
filter-in [] a i h = absurd i
filter-in (x ∷ xs) a (inl e) h = subst (λ b. In (cond b (x ∷ kept xs) (kept xs)) a) (sym (subst (λ z. has_offsets z ≡ true) e h)) (inl e)
filter-in (x ∷ xs) a (inr i) h = by_test (filter-in xs a i h) (has_offsets x)
  where
    by_test : In (kept xs) a → (b : Bool) → In (cond b (x ∷ kept xs) (kept xs)) a
    by_test j true = inr j
    by_test j false = j

-- what an address allows has an offset
address_kept : (l : Layout) (c : RowCell) (cells : List Cell) (xs : List Address) → AddressIn l c cells xs → AddressIn l c cells (kept xs)
address_kept l c cells xs a = record {
  address = a.address;
  among = filter-in xs a.address a.among (not_empty (is_empty a.address.offsets.shape) (held_some a.address.offsets a.offset a.held));
  count = a.count;
  offset = a.offset;
  held = a.held;
  bits = a.bits;
}
  where
    not_empty : (b : Bool) → b ≡ false → not b ≡ true
    not_empty true h = cc
    not_empty false h = refl

fit_fits : (machine : Machine) (k : ℕ) (v : AVal) → fits_value machine k (fit_value machine k v) ≡ true
fit_fits machine k (Separate ns xs) = by_test (is_empty_list (kept xs) || (k == pointer_bits machine)) refl
  where
    by_test : (b : Bool) → (is_empty_list (kept xs) || (k == pointer_bits machine)) ≡ b → fits_value machine k (cond b (Separate ns (kept xs)) (Mixed (map base_of (kept xs)))) ≡ true
    by_test true e = e
    by_test false e = refl
fit_fits machine k (Mixed bs) = refl

fit_offsets : (machine : Machine) (k : ℕ) (v : AVal) → have_offsets (fit_value machine k v) ≡ true
fit_offsets machine k (Separate ns xs) = by_test (is_empty_list (kept xs) || (k == pointer_bits machine))
  where
    by_test : (b : Bool) → have_offsets (cond b (Separate ns (kept xs)) (Mixed (map base_of (kept xs)))) ≡ true
    by_test true = filter-all xs
    by_test false = refl
fit_offsets machine k (Mixed bs) = refl

pub fit_value_same : (machine : Machine) (k : ℕ) (v : AVal) → fits_value machine k v ≡ true → have_offsets v ≡ true → fit_value machine k v ≡ v
fit_value_same machine k (Separate ns xs) f h =
    let s = filter-same xs h in
    ap (λ ys. cond (is_empty_list ys || (k == pointer_bits machine)) (Separate ns ys) (Mixed (map base_of ys))) s
    ∙ ap (λ b. cond b (Separate ns xs) (Mixed (map base_of xs))) f
fit_value_same machine k (Mixed bs) f h = refl

fit_nothing : (machine : Machine) (k : ℕ) (v : AVal) → has_no_value v ≡ true → has_no_value (fit_value machine k v) ≡ true
fit_nothing machine k (Separate ns xs) h =
    let n = nothing_parts ns xs h in
    subst (λ ys. has_no_value (cond (is_empty_list (kept ys) || (k == pointer_bits machine)) (Separate ns (kept ys)) (Mixed (map base_of (kept ys)))) ≡ true) (sym n.1)
    (nothing_from ns [] n.0 refl)
fit_nothing machine k (Mixed bs) h = cc

-- without a value it fits anywhere
nothing_fits : (machine : Machine) (k : ℕ) (v : AVal) → has_no_value v ≡ true → fits_value machine k v ≡ true
nothing_fits machine k (Separate ns xs) h = or_left (is_empty_list xs) (k == pointer_bits machine) (and_parts (is_empty ns.shape) (is_empty_list xs) h).1
nothing_fits machine k (Mixed bs) h = cc

flag_of : (u n d : Bool) → n ≡ true → ((u || (n && not d)) || d) ≡ true
flag_of true n d e = refl
flag_of false true true e = refl
flag_of false true false e = refl
flag_of false false d e = cc

flag_same : (u n d : Bool) → (n ≡ true → (u || d) ≡ true) → (u || (n && not d)) ≡ u
flag_same true n d f = refl
flag_same false true true f = refl
flag_same false true false f = let e = f refl in cc
flag_same false false d f = refl

flag_more : (u n d : Bool) → u ≡ true → (u || (n && not d)) ≡ true
flag_more u n d e = or_left u (n && not d) e

fit_flags : (machine : Machine) (k : ℕ) (c : Cellv) → FlagsIn (row_cell c) (row_cell (fit machine k c))
fit_flags machine k c = record { uninit = λ e. flag_more c.uninit (has_no_value (fit_value machine k c.value)) c.dead e; dead = λ e. e }

same_cell : (v w : AVal) (a b d : Bool) → v ≡ w → a ≡ b → ◌≡◌ {A = Cellv} (record { value = v; uninit = a; dead = d }) (record { value = w; uninit = b; dead = d })
same_cell v w a b d e f = ap (λ z. record { value = z; uninit = a; dead = d }) e ∙ ap (λ z. record { value = w; uninit = z; dead = d }) f

fit_is : (machine : Machine) (k : ℕ) (c : Cellv) → Fine machine k c → fit machine k c ≡ c
fit_is machine k c f =
    let v = fit_value_same machine k c.value f.fits f.offsets in
    same_cell (fit_value machine k c.value) c.value (c.uninit || (has_no_value (fit_value machine k c.value) && not c.dead)) c.uninit c.dead v
    (ap (λ w. c.uninit || (has_no_value w && not c.dead)) v ∙ flag_same c.uninit (has_no_value c.value) c.dead f.flag)

module _ (l : Layout) (k : ℕ) (c d : RowCell) (f : FlagsIn c d) (cells : List Cell) (e : length cells ≡ k) where
  fit_some : (v : AVal) → AllowsSome l c cells (parts_of v) → AllowsSome l d cells (parts_of (fit_value l.machine k v))
  fit_some (Mixed bs) a = some_more l c d f cells (Mixed bs) (Mixed bs) (among-refl bs) a
  fit_some (Separate ns xs) a = by_test (is_empty_list (kept xs) || (k == pointer_bits l.machine)) refl
    where
      kept_in : AllowsSome l c cells (parts_of (Separate ns (kept xs)))
      kept_in = allows_separate l c cells ns (kept xs) (elim (separate_allows l c cells ns xs a) [ inl p ↦ inl p | inr p ↦ inr (address_kept l c cells xs p) ])

      same : (v : AVal) → value_in v v ≡ true → AllowsSome l c cells (parts_of v) → AllowsSome l d cells (parts_of v)
      same v r b = some_more l c d f cells v v r b

      by_test : (b : Bool) → (is_empty_list (kept xs) || (k == pointer_bits l.machine)) ≡ b → AllowsSome l d cells (parts_of (cond b (Separate ns (kept xs)) (Mixed (map base_of (kept xs)))))
      by_test true h = same (Separate ns (kept xs)) (value_refl (Separate ns (kept xs))) kept_in
      by_test false h = some_more l c d f cells (Separate ns (kept xs)) (Mixed (map base_of (kept xs))) (among-refl (map base_of (kept xs))) kept_in

pub fit_allowed : (l : Layout) (k : ℕ) (c : Cellv) (cells : List Cell) → Allows l k c cells → Allows l k (fit l.machine k c) cells
fit_allowed l k c cells a =
    let g = fit_flags l.machine k c in
    let d = fit l.machine k c in
    elim (by_value l c cells a.1) [
      | inl b ↦ (a.0, subst (λ t. AllowsBy l d t cells) (sym (fit_nothing l.machine k c.value b.0)) (flagged_more (row_cell c) (row_cell d) g cells b.1))
      | inr b ↦ (a.0, from_some l d cells (fit_some l k (row_cell c) (row_cell d) g cells a.0 c.value b.1))
    ]

-- ---- pieces

piece_value : (low n : ℕ) (v : AVal) → low + n ≤ 64 → has_no_value v ≡ false → has_no_value (value_piece low n v) ≡ true → ⊥
piece_value low n (Separate ns []) h e f =
    let g = (nothing_parts (part_of low n ns) [] f).0 in
    let i = some_held ns (not_empty (is_empty ns.shape) e) in
    empty_none (part_of low n ns) (part low n i.0) g (part_held low n ns i.0 h i.1)
  where
    not_empty : (b : Bool) → (b && true) ≡ false → b ≡ false
    not_empty true h = cc
    not_empty false h = refl
piece_value low n (Separate ns (x ∷ xs)) h e f = cc
piece_value low n (Mixed bs) h e f = cc

piece_fits : (machine : Machine) (k low n : ℕ) (v : AVal) → fits_value machine k (value_piece low n v) ≡ true
piece_fits machine k low n (Separate ns []) = refl
piece_fits machine k low n (Separate ns (x ∷ xs)) = refl
piece_fits machine k low n (Mixed bs) = refl

piece_offsets : (low n : ℕ) (v : AVal) → have_offsets (value_piece low n v) ≡ true
piece_offsets low n (Separate ns []) = refl
piece_offsets low n (Separate ns (x ∷ xs)) = refl
piece_offsets low n (Mixed bs) = refl

AreBits-take : (c : RowCell) (p : Provenance) (n : ℕ) (bs : List Bool) (cells : List Cell) → AreBits c p bs cells → AreBits c p (take n bs) (take n cells)
AreBits-take c p zero bs cells a = tt
AreBits-take c p (suc n) [] [] a = tt
AreBits-take c p (suc n) [] (x ∷ cells) a = absurd a
AreBits-take c p (suc n) (b ∷ bs) [] a = absurd a
AreBits-take c p (suc n) (b ∷ bs) (x ∷ cells) a = (a.0, AreBits-take c p n bs cells a.1)

AreBits-drop : (c : RowCell) (p : Provenance) (n : ℕ) (bs : List Bool) (cells : List Cell) → AreBits c p bs cells → AreBits c p (drop n bs) (drop n cells)
AreBits-drop c p zero bs cells a = a
AreBits-drop c p (suc n) [] [] a = tt
AreBits-drop c p (suc n) [] (x ∷ cells) a = absurd a
AreBits-drop c p (suc n) (b ∷ bs) [] a = absurd a
AreBits-drop c p (suc n) (b ∷ bs) (x ∷ cells) a = AreBits-drop c p n bs cells a.1

AreBits-append : (c : RowCell) (p : Provenance) (bs cs : List Bool) (cells others : List Cell) → AreBits c p bs cells → AreBits c p cs others → AreBits c p (bs ++ cs) (cells ++ others)
AreBits-append c p [] cs [] others a b = b
AreBits-append c p [] cs (x ∷ cells) others a b = absurd a
AreBits-append c p (y ∷ bs) cs [] others a b = absurd a
AreBits-append c p (y ∷ bs) cs (x ∷ cells) others a b = (a.0, AreBits-append c p bs cs cells others a.1 b)

All-take : (P : Cell → Type 0) (n : ℕ) (cells : List Cell) → AllByRecursion P cells → AllByRecursion P (take n cells)
All-take P zero cells a = tt
All-take P (suc n) [] a = tt
All-take P (suc n) (x ∷ cells) a = (a.0, All-take P n cells a.1)

All-drop : (P : Cell → Type 0) (n : ℕ) (cells : List Cell) → AllByRecursion P cells → AllByRecursion P (drop n cells)
All-drop P zero cells a = a
All-drop P (suc n) [] a = tt
All-drop P (suc n) (x ∷ cells) a = All-drop P n cells a.1

All-append : (P : Cell → Type 0) (cells others : List Cell) → AllByRecursion P cells → AllByRecursion P others → AllByRecursion P (cells ++ others)
All-append P [] others a b = b
All-append P (x ∷ cells) others a b = (a.0, All-append P cells others a.1 b)

-- bits of a number, without the machine's order
plain_order : (l : Layout) (c : RowCell) (p : Provenance) (k : ℕ) (n : ℤ) (cells : List Cell) → length cells ≡ k → AreBitsOf l c p n cells → AreBits c p (bits_from (residue (2 ^ k) n) k) cells
plain_order l c p k n cells e a =
    subst (λ j. AreBits c p (bits_from (residue (2 ^ j) n) j) cells) e (subst (λ bs. AreBits c p bs cells) (order_is l.machine (bits_from (residue (2 ^ length cells) n) (length cells))) a)

pub in_order : (l : Layout) (c : RowCell) (p : Provenance) (k : ℕ) (n : ℤ) (cells : List Cell) → length cells ≡ k → AreBits c p (bits_from (residue (2 ^ k) n) k) cells → AreBitsOf l c p n cells
in_order l c p k n cells e a =
    subst (λ bs. AreBits c p bs cells) (sym (order_is l.machine (bits_from (residue (2 ^ length cells) n) (length cells)))) (subst (λ j. AreBits c p (bits_from (residue (2 ^ j) n) j) cells) (sym e) a)

length-slice : (low n : ℕ) (cells : List Cell) → low + n ≤ length cells → length (take n (drop low cells)) ≡ n
length-slice zero zero cells h = refl
length-slice zero (suc n) [] h = absurd (omega arith)
length-slice zero (suc n) (x ∷ cells) h = ap suc (length-slice zero n cells (omega arith))
length-slice (suc low) n [] h = absurd (omega arith)
length-slice (suc low) n (x ∷ cells) h = length-slice low n cells (omega arith)

piece_some : (l : Layout) (k low n : ℕ) (c : RowCell) (cells : List Cell) → length cells ≡ k → k ≤ 64 → low + n ≤ k → (v : AVal) → AllowsSome l c cells (parts_of v) →
    AllowsSome l c (take n (drop low cells)) (parts_of (value_piece low n v))
piece_some l k low n c cells e s h (Separate ns []) a =
    elim (separate_allows l c cells ns [] a) [
      | inl p ↦ allows_separate l c (take n (drop low cells)) (part_of low n ns) [] (inl (record {
        number = part low n p.number;
        held = part_held low n ns p.number (omega arith) p.held;
        bits = in_order l c nowhere n (part low n p.number) (take n (drop low cells)) (length-slice low n cells (omega arith))
            (subst (λ bs. AreBits c nowhere bs (take n (drop low cells))) (bits_of_part p.number low n k h)
            (AreBits-take c nowhere n (drop low (bits_from (residue (2 ^ k) p.number) k)) (drop low cells)
            (AreBits-drop c nowhere low (bits_from (residue (2 ^ k) p.number) k) cells (plain_order l c nowhere k p.number cells e p.bits))));
      }))
      | inr p ↦ absurd p.among
    ]
piece_some l k low n c cells e s h (Separate ns (x ∷ xs)) a =
    inl (All-take (IsMixed c (map base_of (x ∷ xs))) n (drop low cells) (All-drop (IsMixed c (map base_of (x ∷ xs))) low cells
    (elim (some_more l c c (record { uninit = λ t. t; dead = λ t. t }) cells (Separate ns (x ∷ xs)) (Mixed (map base_of (x ∷ xs))) (among-refl (map base_of (x ∷ xs))) a) [ inl b ↦ b | inr b ↦ absurd b ])))
piece_some l k low n c cells e s h (Mixed bs) a = inl (All-take (IsMixed c bs) n (drop low cells) (All-drop (IsMixed c bs) low cells (elim a [ inl b ↦ b | inr b ↦ absurd b ])))

-- ---- loads

any_uninit : (h : Hue) (cells : List Cell) → AllByRecursion (Tint h) cells → list_any is_uninit cells ≡ true → h.uninit ≡ true
any_uninit h [] a e = cc
any_uninit h (Uninit ∷ cells) a e = a.0
any_uninit h (Dead ∷ cells) a e = any_uninit h cells a.1 e
any_uninit h (Bit b p i ∷ cells) a e = any_uninit h cells a.1 e

any_dead : (h : Hue) (cells : List Cell) → AllByRecursion (Tint h) cells → list_any is_dead cells ≡ true → h.dead ≡ true
any_dead h [] a e = cc
any_dead h (Uninit ∷ cells) a e = any_dead h cells a.1 e
any_dead h (Dead ∷ cells) a e = a.0
any_dead h (Bit b p i ∷ cells) a e = any_dead h cells a.1 e

All-map : {P Q : Cell → Type 0} → ((c : Cell) → P c → Q c) → (cells : List Cell) → AllByRecursion P cells → AllByRecursion Q cells
All-map f [] a = tt
All-map f (x ∷ cells) a = (f x a.0, All-map f cells a.1)

allowed_tints : (l : Layout) (k : ℕ) (c : Cellv) (cells : List Cell) → Allows l k c cells → AllByRecursion (Tint (hue c)) cells
allowed_tints l k c cells a =
    elim (by_value l c cells a.1) [
      | inl b ↦ All-map {P = IsFlagged (row_cell c)} {Q = Tint (hue c)} (λ x f. flagged_tint c x f) cells b.1
      | inr b ↦ All-map {P = IsMixed (row_cell c) (bases_of c.value)} {Q = Tint (hue c)} (λ x f. mixed_tint c x f) cells (same_mix l c cells b.1)
    ]

no_cells : (c : RowCell) (cells : List Cell) → AllByRecursion (IsFlagged c) cells → list_any is_uninit cells ≡ false → list_any is_dead cells ≡ false → cells ≡ []
no_cells c [] a e f = refl
no_cells c (Uninit ∷ cells) a e f = cc
no_cells c (Dead ∷ cells) a e f = cc
no_cells c (Bit b p i ∷ cells) a e f = absurd a.0

one_given : (l : Layout) (k : ℕ) (c : Cellv) (cells : List Cell) → 0 < k → Allows l k c cells → Gives l k c cells
one_given l k c cells h a =
    let t = allowed_tints l k c cells a in
    record {
      count = a.0;
      uninit = λ e. any_uninit (hue c) cells t e;
      dead = λ e. any_dead (hue c) cells t e;
      value = λ e f. elim (by_value l c cells a.1) [
        | inl b ↦ absurd (let n = no_cells (row_cell c) cells b.1 e f in let z : length cells ≡ 0 = ap length n in let y = a.0 in omega arith)
        | inr b ↦ b.1
      ];
    }

or_none : (a b : Bool) → (a || b) ≡ false → (a ≡ false) × (b ≡ false)
or_none true b e = cc
or_none false b e = (refl, e)

-- a load of the first or of the second half
flag_either : (a b : List Cell) (test : Cell → Bool) (c d : Bool) → (list_any test a ≡ true → c ≡ true) → (list_any test b ≡ true → d ≡ true) → list_any test (a ++ b) ≡ true → (c || d) ≡ true
flag_either a b test c d f g e =
    elim (or_cases (list_any test a) (list_any test b) (sym (list_any-append test a b) ∙ e)) [ inl h ↦ or_left c d (f h) | inr h ↦ or_right c d (g h) ]

module _ (l : Layout) (j k : ℕ) (c d e : RowCell) (f : FlagsIn c e) (g : FlagsIn d e) (js ks : List Cell) (a : length js ≡ j) (b : length ks ≡ k) (m : j + k ≤ 64) (s : 0 < k) where
  both_mixed : (v w : AVal) → AllowsSome l c js (parts_of v) → AllowsSome l d ks (parts_of w) → AllowsSome l e (js ++ ks) (parts_of (Mixed (union_of (bases_of v) (bases_of w))))
  both_mixed v w p q =
      inl (All-append (IsMixed e (union_of (bases_of v) (bases_of w))) js ks
      (elim (some_more l c e f js v (Mixed (union_of (bases_of v) (bases_of w))) (in_left v) p) [ inl x ↦ x | inr x ↦ absurd x ])
      (elim (some_more l d e g ks w (Mixed (union_of (bases_of v) (bases_of w))) (in_right w) q) [ inl x ↦ x | inr x ↦ absurd x ]))
    where
      in_left : (u : AVal) → value_in u (Mixed (union_of (bases_of u) (bases_of w))) ≡ true
      in_left (Separate ns xs) = union_left (map base_of xs) (bases_of w)
      in_left (Mixed bs) = union_left bs (bases_of w)

      in_right : (u : AVal) → value_in u (Mixed (union_of (bases_of v) (bases_of u))) ≡ true
      in_right (Separate ns xs) = union_right (bases_of v) (map base_of xs)
      in_right (Mixed bs) = union_right (bases_of v) bs

  both_plain : (ns ms : Ival) → PlainIn l c js ns → PlainIn l d ks ms → AllowsSome l e (js ++ ks) (parts_of (Separate (concat_of j ns k ms) []))
  both_plain ns ms p q =
      let x = plain_order l c nowhere j p.number js a p.bits in
      let y = plain_order l d nowhere k q.number ks b q.bits in
      let bits = AreBits-append e nowhere (bits_from (residue (2 ^ j) p.number) j) (bits_from (residue (2 ^ k) q.number) k) js ks
      (bits_more c e f nowhere (bits_from (residue (2 ^ j) p.number) j) js x) (bits_more d e g nowhere (bits_from (residue (2 ^ k) q.number) k) ks y) in
      let n = glued j p.number (pos (residue (2 ^ k) q.number)) in
      let count : length (js ++ ks) ≡ j + k = length-append js ks ∙ ap (λ z. z + length ks) a ∙ ap (λ z. j + z) b in
      allows_separate l e (js ++ ks) (concat_of j ns k ms) [] (inl (record {
        number = n;
        held = concat_held j k ns ms p.number q.number m s p.held q.held;
        bits = in_order l e nowhere (j + k) n (js ++ ks) count (subst (λ bs. AreBits e nowhere bs (js ++ ks)) (sym (bits_of_glued p.number q.number j k)) bits);
      }))

  both_some : (v w : AVal) → AllowsSome l c js (parts_of v) → AllowsSome l d ks (parts_of w) → AllowsSome l e (js ++ ks) (parts_of (glue_values j v k w))
  both_some (Separate ns []) (Separate ms []) p q =
      elim (separate_allows l c js ns [] p) [
        | inl x ↦ elim (separate_allows l d ks ms [] q) [ inl y ↦ both_plain ns ms x y | inr y ↦ absurd y.among ]
        | inr x ↦ absurd x.among
      ]
  both_some (Separate ns []) (Separate ms (y ∷ ys)) p q = both_mixed (Separate ns []) (Separate ms (y ∷ ys)) p q
  both_some (Separate ns []) (Mixed bs) p q = both_mixed (Separate ns []) (Mixed bs) p q
  both_some (Separate ns (x ∷ xs)) w p q = both_mixed (Separate ns (x ∷ xs)) w p q
  both_some (Mixed as') w p q = both_mixed (Mixed as') w p q

glue_given : (l : Layout) (j k : ℕ) (c d : Cellv) (js ks : List Cell) → 0 < k → j + k ≤ 64 → Gives l j c js → Gives l k d ks → Gives l (j + k) (glue j c k d) (js ++ ks)
glue_given l j k c d js ks s m p q = record {
  count = length-append js ks ∙ ap (λ z. z + length ks) p.count ∙ ap (λ z. j + z) q.count;
  uninit = λ e. flag_either js ks is_uninit c.uninit d.uninit p.uninit q.uninit e;
  dead = λ e. flag_either js ks is_dead c.dead d.dead p.dead q.dead e;
  value = λ e f.
      let u = or_none (list_any is_uninit js) (list_any is_uninit ks) (sym (list_any-append is_uninit js ks) ∙ e) in
      let w = or_none (list_any is_dead js) (list_any is_dead ks) (sym (list_any-append is_dead js ks) ∙ f) in
      let x = p.value u.0 w.0 in
      let y = q.value u.1 w.1 in
      let g : (has_no_value c.value || has_no_value d.value) ≡ false = neither (has_no_value c.value) (has_no_value d.value) (some_value l (row_cell c) js c.value x) (some_value l (row_cell d) ks d.value y) in
      subst (λ t. AllowsSome l (row_cell (glue j c k d)) (js ++ ks) (parts_of (cond t no_value (glue_values j c.value k d.value)))) (sym g)
      (both_some l j k (row_cell c) (row_cell d) (row_cell (glue j c k d))
      (record { uninit = λ t. or_left c.uninit d.uninit t; dead = λ t. or_left c.dead d.dead t })
      (record { uninit = λ t. or_right c.uninit d.uninit t; dead = λ t. or_right c.dead d.dead t })
      js ks p.count q.count m s c.value d.value x y);
}
  where
    neither : (a b : Bool) → (a ≡ true → ⊥) → (b ≡ true → ⊥) → (a || b) ≡ false
    neither true b f g = absurd (f refl)
    neither false true f g = absurd (g refl)
    neither false false f g = refl

given_more : (l : Layout) (k : ℕ) (x y : Cellv) (cells : List Cell) → leq x y ≡ true → Gives l k x cells → Gives l k y cells
given_more l k x y cells h a =
    let f = flags_in x y h in
    record {
      count = a.count;
      uninit = λ e. f.uninit (a.uninit e);
      dead = λ e. f.dead (a.dead e);
      value = λ e g. some_more l (row_cell x) (row_cell y) f cells x.value y.value (leq_parts x y h).first (a.value e g);
    }

-- ---- bits without values stand alone

alone : (l : Layout) (c : Cellv) (k : ℕ) (cells : List Cell) → has_no_value c.value ≡ true → length cells ≡ k → AllByRecursion (IsFlagged (row_cell c)) cells → Describes (Allows l) (replicate k (record { bits = 1; cell = c })) cells
alone l c zero [] h e a = refl
alone l c zero (x ∷ cells) h e a = absurd (omega arith)
alone l c (suc k) [] h e a = absurd (omega arith)
alone l c (suc k) (x ∷ cells) h e a = ((refl, subst (λ t. AllowsBy l c t (x ∷ [])) (sym h) (a.0, tt)), alone l c k cells h (omega arith) a.1)

none_blank : has_no_value no_value ≡ true
none_blank = nothing_from no_numbers [] none_is_empty refl

-- ---- the laws

pub part_laws : (machine : Machine) → PartLaws (ops machine) (Fine machine)
part_laws machine = record {
  fit_fine = λ k c h m e. record {
    some_bits = h;
    few_bits = m;
    blank_bits = λ b. absurd (clash (blank (fit machine k c)) b e);
    flag = λ b. absurd (clash (blank (fit machine k c)) b e);
    fits = fit_fits machine k c.value;
    offsets = fit_offsets machine k c.value;
  };
  fit_blank = λ k c h m e. record {
    some_bits = omega arith;
    few_bits = omega arith;
    blank_bits = λ b. refl;
    flag = λ b. flag_of c.uninit (has_no_value (fit_value machine k c.value)) c.dead e;
    fits = nothing_fits machine 1 (fit_value machine k c.value) e;
    offsets = fit_offsets machine k c.value;
  };
  fit_same = λ k c f. fit_is machine k c f;
  piece_fine = λ k c low n f h i m.
      let s : low + n ≤ 64 = small k low n f.few_bits m in
      let v : has_no_value c.value ≡ false = false_or_true (has_no_value c.value) (λ e. wide k n (f.blank_bits e) h i) in
      record {
        some_bits = h;
        few_bits = less low n s;
        blank_bits = λ b. absurd (piece_value low n c.value s v b);
        flag = λ b. absurd (piece_value low n c.value s v b);
        fits = piece_fits machine n low n c.value;
        offsets = piece_offsets low n c.value;
      };
  uninit_fine = record { some_bits = omega arith; few_bits = omega arith; blank_bits = λ b. refl; flag = λ b. refl; fits = refl; offsets = refl };
  uninit_blank = none_blank;
}
  where
    clash : (b : Bool) → b ≡ true → b ≡ false → ⊥
    clash true h k = cc
    clash false h k = cc

    small : (k low n : ℕ) → k ≤ 64 → low + n ≤ k → low + n ≤ 64
    small k low n h m = omega arith

    less : (low n : ℕ) → low + n ≤ 64 → n ≤ 64
    less low n h = omega arith

    wide : (k n : ℕ) → k ≡ 1 → 0 < n → n < k → ⊥
    wide k n e h i = omega arith

pub access_laws : (l : Layout) → AccessLaws (ops l.machine) (Fine l.machine) (Allows l) (Gives l)
access_laws l = record {
  fit_allows = λ k c ks h m a. fit_allowed l k c ks a;
  blank_allows = λ k c ks f e a.
      elim (by_value l c ks a.1) [
        | inl b ↦ alone l c k ks e a.0 b.1
        | inr b ↦ absurd (some_value l (row_cell c) ks c.value b.1 e)
      ];
  piece_allows = λ k c low n ks f h i m a.
      elim (by_value l c ks a.1) [
        | inl b ↦ absurd (wide k n (f.blank_bits b.0) h i)
        | inr b ↦ (length-slice low n ks (subst (λ j. low + n ≤ j) (sym a.0) m), from_some l (piece k c low n) (take n (drop low ks)) (piece_some l k low n (row_cell c) ks a.0 f.few_bits m c.value b.1))
      ];
  one_gives = λ k c ks f a. one_given l k c ks f.some_bits a;
  glue_gives = λ j k c d js ks f s m p q. glue_given l j k c d js ks s m p q;
  join_gives_left = λ k x y ks a. given_more l k x (join x y) ks (join_leq_left x y) a;
  join_gives_right = λ k x y ks a. given_more l k y (join x y) ks (join_leq_right x y) a;
}
  where
    wide : (k n : ℕ) → k ≡ 1 → 0 < n → n < k → ⊥
    wide k n e h i = omega arith
