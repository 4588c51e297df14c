-- What bits in memory show of the cells that allow them.
use Rattle.std.proofs.Common.{◌≡◌, ℕ, zero, suc, ◌+◌, ◌^◌, ◌<◌, ◌≤◌, Bool, true, false, ◌&&◌, ℤ, List, [], ◌∷◌, length, map, refl, sym, subst, ap, ◌∙◌, inl, inr, arith}
use Rattle.std.specs.Prelude.{Option, None, Some}
use Rattle.std.specs.Ordering.{nat_cmp}
use Rattle.std.specs.FinSet.{contains, contains-empty, same_set, nat_cmp-IsAntisymmetric}
use Rattle.std.specs.Cmp.{nat_cmp_total}
use Rattle.std.specs.List.{AllByRecursion}
use Rattle.std.proofs.lemmas.Nat.{pow_pos}
use Rattle.std.proofs.lemmas.Bool.{and_parts, and_from}
use Rattle.c_base.specs.declared.integer.Machine.{Machine}
use Rattle.c_base.specs.declared.integer.Machine.TheVariants.{Lp64}
use Rattle.c_base.specs.Integers.{residue, bits_from, number_of_bits, in_byte_order}
use Rattle.c_memory.specs.Values.{Cell, Uninit, Dead, Bit, Provenance, nowhere, bit_of}
use Rattle.c_memory.specs.Layouts.{Layout}
use Rattle.c_memory.specs.Rows.{RowCell, IsBit, AreBits, IsMixed, IsFlagged, AreBitsOf, AllowsSome}
use Rattle.ival_core.specs.declared.value.Ival.{Ival}
use Rattle.cell_laws.specs.Elements.{Place, spread, bit_at}
use Rattle.cell_laws.specs.Order.{and_bit, known, is_admitted, is_bare}
use Rattle.cell_laws.specs.Meaning.{Shows, ShowsAll}
use Rattle.cell_laws.specs.Laws.{MeaningLaws}
use Rattle.avalue_base.specs.Lists.{has_base, all_among}
use Rattle.avalue_base.specs.Numbers.{is_empty_list, has_row, rest_in}
use Rattle.avalue_base.specs.Values.{AVal, Separate, Mixed, Cellv, base_of, bases_of, has_no_value, parts_of, row_cell}
use Rattle.avalue_base.specs.Order.{value_in, implies}
use Rattle.avalue_base.specs.Hues.{Hue, hue, within, blank, value_admits, admits, known_rest, bit_in, bit, value_has}
use Rattle.avalue_base.specs.Ops.{ops, Fine}
use Rattle.avalue_base.specs.Meaning.{Allows, Tint, Bare, Sure}
use Rattle.avalue_base.proofs.Lists.{among-has, among-refl}
use Rattle.avalue_base.proofs.Sets.{row_held, row_residue, residue_held}
use Rattle.avalue_base.proofs.Rests.{rest_held}
use Rattle.avalue_base.proofs.Words.{bits_from-number_of_bits, number_of_bits-below}
use Rattle.avalue_base.proofs.Ordering.{implied, within_parts, admits_parts, empty_list, Known, known_parts, known_bit}
use Rattle.avalue_base.proofs.Meanings.{Contains-has, has-Contains, nowhere_has, some_more, separate_allows, allows_separate, by_value, from_some, from_flags, allows_more}

-- ---- each bit with its index

abbrev pub EachAt : (ℕ → Cell → Type 0) → ℕ → List Cell → Type 0
EachAt P i [] = Unit {0}
EachAt P i (c ∷ cells) = P i c × EachAt P (suc i) cells

each_at : (P : Cell → Type 0) (Q : ℕ → Cell → Type 0) → ((i : ℕ) (c : Cell) → P c → Q i c) → (i : ℕ) (cells : List Cell) → AllByRecursion P cells → EachAt Q i cells
each_at P Q f i [] a = tt
each_at P Q f i (c ∷ cells) a = (f i c a.0, each_at P Q f (suc i) cells a.1)

both_at : (P Q R : ℕ → Cell → Type 0) → ((i : ℕ) (c : Cell) → P i c → Q i c → R i c) → (i : ℕ) (cells : List Cell) → EachAt P i cells → EachAt Q i cells → EachAt R i cells
both_at P Q R f i [] a b = tt
both_at P Q R f i (c ∷ cells) a b = (f i c a.0 b.0, both_at P Q R f (suc i) cells a.1 b.1)

module _ (machine : Machine) (k : ℕ) (x : Cellv) where
  abbrev ShowsAt : ℕ → Cell → Type 0
  ShowsAt i c = Shows (ops machine) Tint Bare Sure (record { at = i; bits = k; cell = x }) c

  shows_spread : (i n : ℕ) (cells : List Cell) → length cells ≡ n → EachAt ShowsAt i cells → ShowsAll (ops machine) Tint Bare Sure (spread k x i n) cells
  unfolding spread
  shows_spread i zero [] e a = tt
  shows_spread i zero (c ∷ cells) e a = absurd (omega arith)
  shows_spread i (suc n) [] e a = absurd (omega arith)
  shows_spread i (suc n) (c ∷ cells) e a = (a.0, shows_spread (suc i) n cells (omega arith) a.1)

-- ---- what a cell shows

pub mixed_tint : (x : Cellv) (c : Cell) → IsMixed (row_cell x) (bases_of x.value) c → Tint (hue x) c
mixed_tint x Uninit a = a
mixed_tint x Dead a = a
mixed_tint x (Bit b p i) a = λ q t. Contains-has (bases_of x.value) q (a q t)

pub flagged_tint : (x : Cellv) (c : Cell) → IsFlagged (row_cell x) c → Tint (hue x) c
flagged_tint x Uninit a = a
flagged_tint x Dead a = a
flagged_tint x (Bit b p i) a = absurd a

flagged_bare : (x : Cellv) (c : Cell) → IsFlagged (row_cell x) c → Bare c
flagged_bare x Uninit a = tt
flagged_bare x Dead a = tt
flagged_bare x (Bit b p i) a = absurd a

flagged_not : (k : ℕ) (x : Cellv) (c : Cell) (r : ℕ) → Known k x r → IsFlagged (row_cell x) c → ⊥
flagged_not k x Uninit r h a = let e = h.uninit in cc
flagged_not k x Dead r h a = let e = h.dead in cc
flagged_not k x (Bit b p i) r h a = a

pub same_mix : (l : Layout) (x : Cellv) (cells : List Cell) → AllowsSome l (row_cell x) cells (parts_of x.value) → AllByRecursion (IsMixed (row_cell x) (bases_of x.value)) cells
same_mix l x cells a =
    elim (some_more l (row_cell x) (row_cell x) (record { uninit = λ e. e; dead = λ e. e }) cells x.value (Mixed (bases_of x.value)) (in_mix x.value) a) [ inl b ↦ b | inr b ↦ absurd b ]
  where
    in_mix : (v : AVal) → value_in v (Mixed (bases_of v)) ≡ true
    in_mix (Separate ns xs) = among-refl (map base_of xs)
    in_mix (Mixed bs) = among-refl bs

sure_bits : (k : ℕ) (x : Cellv) (r : ℕ) → Known k x r → (all : List Bool) (i : ℕ) (bs : List Bool) → ((j : ℕ) → bit_at all (i + j) ≡ bit_at bs j) → (cells : List Cell) → AreBits (row_cell x) nowhere bs cells →
    EachAt (λ j c. (b : Bool) → bit_at all j ≡ Some b → Sure b c) i cells
unfolding bit_at
sure_bits k x r n all i [] h [] a = tt
sure_bits k x r n all i [] h (c ∷ cells) a = absurd a
sure_bits k x r n all i (b ∷ bs) h [] a = absurd a
sure_bits k x r n all i (b ∷ bs) h (c ∷ cells) a =
    (sure c a.0, sure_bits k x r n all (suc i) bs (λ j. subst (λ m. bit_at all m ≡ bit_at bs j) (next i j) (h (suc j))) cells a.1)
  where
    next : (i j : ℕ) → i + suc j ≡ suc i + j
    next i j = omega arith

    same : i + 0 ≡ i
    same = omega arith

    sure : (c : Cell) → IsBit (row_cell x) b nowhere c → (d : Bool) → bit_at all i ≡ Some d → Sure d c
    sure Uninit f d e = let u = n.uninit in cc
    sure Dead f d e = let u = n.dead in cc
    sure (Bit y p j) f d e = (f.0 ∙ some_is b d (sym (h 0) ∙ subst (λ m. bit_at all m ≡ Some d) (sym same) e), f.1)
      where
        some_is : (b d : Bool) → Some b ≡ Some d → b ≡ d
        some_is b d e = cc

pub order_is : (m : Machine) (bs : List Bool) → in_byte_order m bs ≡ bs
order_is Lp64 bs = refl

sures : (l : Layout) (k : ℕ) (x : Cellv) (cells : List Cell) → k ≤ 64 → length cells ≡ k → AllowsSome l (row_cell x) cells (parts_of x.value) → EachAt (λ j c. (b : Bool) → bit k j x ≡ Some b → Sure b c) 0 cells
sures l k x cells few e a = by_known (known_rest k x) refl
  where
    none : (i : ℕ) (cells : List Cell) → EachAt (λ j c. (b : Bool) → bit_in k j None ≡ Some b → Sure b c) i cells
    none i [] = tt
    none i (c ∷ cells) = ((λ b h. cc), none (suc i) cells)

    by_part : (r : ℕ) (ns : Ival) → x.value ≡ Separate ns [] → rest_in k ns.shape ≡ Some r → AreBits (row_cell x) nowhere (bits_from r k) cells
    by_part r ns v s =
        elim (separate_allows l (row_cell x) cells ns [] (subst (λ w. AllowsSome l (row_cell x) cells (parts_of w)) v a)) [
          | inl q ↦
              let is : residue (2 ^ k) q.number ≡ r = rest_held k ns r q.number few s q.held in
              subst (λ z. AreBits (row_cell x) nowhere (bits_from z k) cells) is
              (subst (λ j. AreBits (row_cell x) nowhere (bits_from (residue (2 ^ j) q.number) j) cells) e
              (subst (λ bs. AreBits (row_cell x) nowhere bs cells) (order_is l.machine (bits_from (residue (2 ^ length cells) q.number) (length cells))) q.bits))
          | inr q ↦ absurd q.among
        ]

    by_known : (o : Option ℕ) → known_rest k x ≡ o → EachAt (λ j c. (b : Bool) → bit k j x ≡ Some b → Sure b c) 0 cells
    by_known None h = subst (λ o. EachAt (λ j c. (b : Bool) → bit_in k j o ≡ Some b → Sure b c) 0 cells) (sym h) (none 0 cells)
    by_known (Some r) h =
        let w = known_parts k x r h in
        subst (λ o. EachAt (λ j c. (b : Bool) → bit_in k j o ≡ Some b → Sure b c) 0 cells) (sym h)
        (sure_bits k x r w (bits_from r k) 0 (bits_from r k) (λ j. ap (bit_at (bits_from r k)) (zero_plus j)) cells (by_part r w.numbers w.value w.rest))
      where
        zero_plus : (j : ℕ) → 0 + j ≡ j
        zero_plus j = omega arith

pub allows_shown : (l : Layout) (k : ℕ) (x : Cellv) (cells : List Cell) → k ≤ 64 → Allows l k x cells → ShowsAll (ops l.machine) Tint Bare Sure (spread k x 0 k) cells
allows_shown l k x cells few a =
    shows_spread l.machine k x 0 k cells a.0
    (elim (by_value l x cells a.1) [
      | inl b ↦ each_at (IsFlagged (row_cell x)) (ShowsAt l.machine k x)
          (λ i c g. record { tint = flagged_tint x c g; bare = λ e. flagged_bare x c g; sure = λ d e. let n = known_bit k i x d e in absurd (flagged_not k x c n.0 n.1 g) }) 0 cells b.1
      | inr b ↦ both_at (λ i c. Tint (hue x) c) (λ j c. (d : Bool) → bit k j x ≡ Some d → Sure d c) (ShowsAt l.machine k x)
          (λ i c t s. record { tint = t; bare = λ e. absurd (clash (has_no_value x.value) e b.0); sure = s }) 0 cells
          (each_at (IsMixed (row_cell x) (bases_of x.value)) (λ i c. Tint (hue x) c) (λ i c m. mixed_tint x c m) 0 cells (same_mix l x cells b.1))
          (sures l k x cells few a.0 b.1)
    ])
  where
    clash : (b : Bool) → b ≡ true → b ≡ false → ⊥
    clash true h k = cc
    clash false h k = cc

-- ---- what shows is allowed

tint_within : (g h : Hue) (c : Cell) → within g h ≡ true → Tint g c → Tint h c
tint_within g h Uninit w t = implied g.uninit h.uninit (within_parts g h w).second t
tint_within g h Dead w t = implied g.dead h.dead (within_parts g h w).third t
tint_within g h (Bit b p i) w t = λ q e. among-has g.bases h.bases (within_parts g h w).first q (t q e)

-- the bases of which a value allows all bits
abbrev reach : AVal → List ℕ
reach (Separate ns xs) = []
reach (Mixed bs) = bs

abbrev reached : Cellv → Hue
reached y = record { bases = reach y.value; uninit = y.uninit; dead = y.dead }

admits_within_reach : (k : ℕ) (y : Cellv) (h : Hue) → admits k y h ≡ true → within h (reached y) ≡ true
admits_within_reach k y h e =
    let q = admits_parts k y h e in
    and_from (all_among h.bases (reach y.value)) (implies h.uninit y.uninit && implies h.dead y.dead) (at y.value q.first) (and_from (implies h.uninit y.uninit) (implies h.dead y.dead) q.second q.third)
  where
    at : (v : AVal) → value_admits k v h.bases ≡ true → all_among h.bases (reach v) ≡ true
    at (Separate ns xs) e = let p = and_parts (is_empty_list h.bases) (has_row ns.shape (2 ^ k)) e in subst (λ bs. all_among bs [] ≡ true) (sym (empty_list h.bases p.0)) refl
    at (Mixed bs) e = e

module _ (machine : Machine) where
  abbrev ShowsThem : List (Place Cellv) → List Cell → Type 0
  ShowsThem = ShowsAll (ops machine) Tint Bare Sure

  admitted_tints : (k : ℕ) (y : Cellv) (ps : List (Place Cellv)) (cells : List Cell) → is_admitted (ops machine) k y ps ≡ true → ShowsThem ps cells → AllByRecursion (Tint (reached y)) cells
  unfolding is_admitted
  admitted_tints k y [] [] e s = tt
  admitted_tints k y [] (c ∷ cells) e s = absurd s
  admitted_tints k y (p ∷ ps) [] e s = absurd s
  admitted_tints k y (p ∷ ps) (c ∷ cells) e s =
      let a = and_parts (admits k y (hue p.cell)) (is_admitted (ops machine) k y ps) e in
      (tint_within (hue p.cell) (reached y) c (admits_within_reach k y (hue p.cell) a.0) s.0.tint, admitted_tints k y ps cells a.1 s.1)

  admitted_some : (k : ℕ) (y : Cellv) (ps : List (Place Cellv)) → 0 < length ps → is_admitted (ops machine) k y ps ≡ true → (bs : List ℕ) × (value_admits k y.value bs ≡ true)
  unfolding is_admitted
  admitted_some k y [] h e = absurd (omega arith)
  admitted_some k y (p ∷ ps) h e =
      let a = and_parts (admits k y (hue p.cell)) (is_admitted (ops machine) k y ps) e in
      ((hue p.cell).bases, (admits_parts k y (hue p.cell) a.0).first)

  bare_flags : (y : Cellv) (ps : List (Place Cellv)) (cells : List Cell) → is_bare (ops machine) y ps ≡ true → ShowsThem ps cells → AllByRecursion (IsFlagged (row_cell y)) cells
  unfolding is_bare
  bare_flags y [] [] e s = tt
  bare_flags y [] (c ∷ cells) e s = absurd s
  bare_flags y (p ∷ ps) [] e s = absurd s
  bare_flags y (p ∷ ps) (c ∷ cells) e s =
      let a = and_parts (blank p.cell && within (hue p.cell) (hue y)) (is_bare (ops machine) y ps) e in
      let b = and_parts (blank p.cell) (within (hue p.cell) (hue y)) a.0 in
      (flag c (tint_within (hue p.cell) (hue y) c b.1 s.0.tint) (s.0.bare b.0), bare_flags y ps cells a.1 s.1)
    where
      flag : (c : Cell) → Tint (hue y) c → Bare c → IsFlagged (row_cell y) c
      flag Uninit t b = t
      flag Dead t b = t
      flag (Bit x q i) t b = absurd b

  known_bits : (c : RowCell) (ps : List (Place Cellv)) (bs : List Bool) (cells : List Cell) → known (ops machine) ps ≡ Some bs → ShowsThem ps cells → AreBits c nowhere bs cells
  unfolding known and_bit
  known_bits c [] [] [] e s = tt
  known_bits c [] (b ∷ bs) [] e s = cc
  known_bits c [] bs (d ∷ cells) e s = absurd s
  known_bits c (p ∷ ps) bs [] e s = absurd s
  known_bits c (p ∷ ps) bs (d ∷ cells) e s = by_parts bs (bit p.bits p.at p.cell) (known (ops machine) ps) e (λ b h. s.0.sure b h) (λ cs h. known_bits c ps cs cells h s.1)
    where
      is_bit : (b : Bool) (d : Cell) → Sure b d → IsBit c b nowhere d
      is_bit b Uninit h = absurd h
      is_bit b Dead h = absurd h
      is_bit b (Bit x q i) h = h

      by_parts : (bs : List Bool) (o : Option Bool) (r : Option (List Bool)) → and_bit o r ≡ Some bs → ((b : Bool) → o ≡ Some b → Sure b d) → ((cs : List Bool) → r ≡ Some cs → AreBits c nowhere cs cells) →
          AreBits c nowhere bs (d ∷ cells)
      by_parts bs None r e f g = cc
      by_parts bs (Some b) None e f g = cc
      by_parts [] (Some b) (Some cs) e f g = cc
      by_parts (a ∷ as') (Some b) (Some cs) e f g =
          let h : Some (b ∷ cs) ≡ Some (a ∷ as') = e in
          let i : b ≡ a = cc in
          let j : cs ≡ as' = cc in
          (is_bit a d (f a (ap Some i)), g as' (ap Some j))

-- bits that were made from no address
pub plain_bits : (y : Cellv) (cells : List Cell) → AllByRecursion (Tint (record { bases = []; uninit = y.uninit; dead = y.dead })) cells → AreBits (row_cell y) nowhere (map bit_of cells) cells
plain_bits y [] a = tt
plain_bits y (Uninit ∷ cells) a = (a.0, plain_bits y cells a.1)
plain_bits y (Dead ∷ cells) a = (a.0, plain_bits y cells a.1)
plain_bits y (Bit b p i ∷ cells) a = ((refl, is_nowhere p a.0), plain_bits y cells a.1)
  where
    is_nowhere : (p : Provenance) → ((q : ℕ) → contains p q ≡ true → has_base [] q ≡ true) → p ≡ nowhere
    is_nowhere p h = same_set nat_cmp_total nat_cmp-IsAntisymmetric p nowhere (λ q. none (contains p q) (h q) ∙ sym (contains-empty nat_cmp q))
      where
        none : (b : Bool) → (b ≡ true → false ≡ true) → b ≡ false
        none true f = let e = f refl in cc
        none false f = refl

mixed_bits : (y : Cellv) (bs : List ℕ) (cells : List Cell) → AllByRecursion (Tint (record { bases = bs; uninit = y.uninit; dead = y.dead })) cells → AllByRecursion (IsMixed (row_cell y) bs) cells
mixed_bits y bs [] a = tt
mixed_bits y bs (Uninit ∷ cells) a = (a.0, mixed_bits y bs cells a.1)
mixed_bits y bs (Dead ∷ cells) a = (a.0, mixed_bits y bs cells a.1)
mixed_bits y bs (Bit b p i ∷ cells) a = ((λ q t. has-Contains bs q (a.0 q t)), mixed_bits y bs cells a.1)

pub length-map : {X Y : Type 0} (f : X → Y) (xs : List X) → length (map f xs) ≡ length xs
length-map f [] = refl
length-map f (x ∷ xs) = ap suc (length-map f xs)

length-bits : (c : RowCell) (p : Provenance) (bs : List Bool) (cells : List Cell) → AreBits c p bs cells → length bs ≡ length cells
length-bits c p [] [] a = refl
length-bits c p [] (d ∷ cells) a = absurd a
length-bits c p (b ∷ bs) [] a = absurd a
length-bits c p (b ∷ bs) (d ∷ cells) a = ap suc (length-bits c p bs cells a.1)

-- bits that a number spells are that number's
pub spelled : (l : Layout) (c : RowCell) (bs : List Bool) (cells : List Cell) (n : ℤ) → AreBits c nowhere bs cells → residue (2 ^ length cells) n ≡ number_of_bits bs → AreBitsOf l c nowhere n cells
spelled l c bs cells n a e =
    subst (λ z. AreBits c nowhere z cells)
    (sym (order_is l.machine (bits_from (residue (2 ^ length cells) n) (length cells)) ∙ ap (λ r. bits_from r (length cells)) e ∙ ap (bits_from (number_of_bits bs)) (sym (length-bits c nowhere bs cells a)) ∙ bits_from-number_of_bits bs))
    a

length-shown : (machine : Machine) (ps : List (Place Cellv)) (cells : List Cell) → ShowsAll (ops machine) Tint Bare Sure ps cells → length cells ≡ length ps
length-shown machine [] [] s = refl
length-shown machine [] (c ∷ cells) s = absurd s
length-shown machine (p ∷ ps) [] s = absurd s
length-shown machine (p ∷ ps) (c ∷ cells) s = ap suc (length-shown machine ps cells s.1)

admitted_value : (l : Layout) (k : ℕ) (y : Cellv) (cells : List Cell) → length cells ≡ k → (v : AVal) (bs : List ℕ) → value_admits k v bs ≡ true →
    AllByRecursion (Tint (record { bases = reach v; uninit = y.uninit; dead = y.dead })) cells → AllowsSome l (row_cell y) cells (parts_of v)
admitted_value l k y cells e (Separate ns xs) bs h a =
    let p = and_parts (is_empty_list bs) (has_row ns.shape (2 ^ k)) h in
    let bits = plain_bits y cells a in
    let small : number_of_bits (map bit_of cells) < 2 ^ k = subst (λ j. number_of_bits (map bit_of cells) < 2 ^ j) (length-map bit_of cells ∙ e) (number_of_bits-below (map bit_of cells)) in
    let n = row_residue ns (2 ^ k) (number_of_bits (map bit_of cells)) (pow_pos k) small (row_held ns (2 ^ k) p.1) in
    allows_separate l (row_cell y) cells ns xs (inl (record {
      number = n.0;
      held = n.1;
      bits = spelled l (row_cell y) (map bit_of cells) cells n.0 bits (subst (λ j. residue (2 ^ j) n.0 ≡ number_of_bits (map bit_of cells)) (sym e) n.2);
    }))
admitted_value l k y cells e (Mixed cs) bs h a = inl (mixed_bits y cs cells a)

had_value : (l : Layout) (k : ℕ) (y : Cellv) (cells : List Cell) → length cells ≡ k → (bs : List Bool) → AreBits (row_cell y) nowhere bs cells → (v : AVal) → value_has k v bs ≡ true → AllowsSome l (row_cell y) cells (parts_of v)
had_value l k y cells e bs a (Separate ns xs) h =
    let n = residue_held ns (2 ^ k) (number_of_bits bs) h in
    allows_separate l (row_cell y) cells ns xs (inl (record {
      number = n.0;
      held = n.1;
      bits = spelled l (row_cell y) bs cells n.0 a (subst (λ j. residue (2 ^ j) n.0 ≡ number_of_bits bs) (sym e) n.2);
    }))
had_value l k y cells e bs a (Mixed cs) h = inl (at bs cells a)
  where
    at : (bs : List Bool) (cells : List Cell) → AreBits (row_cell y) nowhere bs cells → AllByRecursion (IsMixed (row_cell y) cs) cells
    at [] [] a = tt
    at [] (c ∷ cells) a = absurd a
    at (b ∷ bs) [] a = absurd a
    at (b ∷ bs) (Uninit ∷ cells) a = (a.0, at bs cells a.1)
    at (b ∷ bs) (Dead ∷ cells) a = (a.0, at bs cells a.1)
    at (b ∷ bs) (Bit x p i ∷ cells) a = ((λ q t. absurd (nowhere_has q (subst (λ z. contains z q ≡ true) a.0.1 t))), at bs cells a.1)

pub meaning_laws : (l : Layout) → MeaningLaws (ops l.machine) (Fine l.machine) Tint Bare Sure (Allows l)
meaning_laws l = record {
  allows_length = λ k x ks a. a.0;
  allows_leq = λ k x y ks f g h a. allows_more l k x y ks g h a;
  allows_shows = λ k x ks f a. allows_shown l k x ks f.few_bits a;
  admitted = λ k y ps ks f g w h s.
      let e : length ks ≡ k = length-shown l.machine ps ks s ∙ w in
      let p : 0 < length ps = subst (λ j. 0 < j) (sym w) f.some_bits in
      let v = admitted_some l.machine k y ps p h in
      (e, from_some l y ks (admitted_value l k y ks e y.value v.0 v.1 (admitted_tints l.machine k y ps ks h s)));
  bare = λ k y ps ks f g w h s.
      let e : length ks ≡ k = length-shown l.machine ps ks s ∙ w in
      (e, from_flags l k y ks f e (bare_flags l.machine y ps ks h s));
  has = λ k y ps bs ks f g w h i s.
      let e : length ks ≡ k = length-shown l.machine ps ks s ∙ w in
      (e, from_some l y ks (had_value l k y ks e bs (known_bits l.machine (row_cell y) ps bs ks h s) y.value i));
}
