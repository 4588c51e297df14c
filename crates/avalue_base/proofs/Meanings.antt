-- What cells allow in memory: the greater one allows what the lesser one does.
use Rattle.std.proofs.Common.{◌≡◌, ◌⊎◌, ℕ, zero, suc, ◌^◌, ◌==◌, Bool, true, false, cond, ◌||◌, ℤ, pos, ◌+ℤ◌, List, [], ◌∷◌, ◌++◌, length, map, refl, sym, subst, ap, ◌∙◌, inl, inr, arith, eq-eqb}
use Rattle.std.specs.Prelude.{unsigned_abs, not, Contains}
use Rattle.std.specs.Ordering.{nat_cmp}
use Rattle.std.specs.FinSet.{contains, contains-empty, contains-insert, empty}
use Rattle.std.specs.Cmp.{nat_cmp_total, unsigned_tied}
use Rattle.std.specs.List.{AllByRecursion}
use Rattle.std.specs.Int.{int_rem_euclid}
use Rattle.std.proofs.lemmas.Bool.{or_cases, eqb-true}
use Rattle.c_base.specs.declared.integer.Machine.{Machine}
use Rattle.c_base.specs.Integers.{residue, bits_from, in_byte_order}
use Rattle.c_base.proofs.Bits.{length-bits_from}
use Rattle.c_base.specs.declared.integer.Machine.TheVariants.{Lp64}
use Rattle.c_base.proofs.Residues.{residue-rem_euclid, residue_below}
use Rattle.c_memory.specs.Values.{Cell, Uninit, Dead, Bit, Provenance, nowhere, only}
use Rattle.c_memory.specs.Layouts.{Layout}
use Rattle.c_memory.specs.Rows.{HoldsNumber, Part, Plain, RowCell, AreBits, IsMixed, IsFlagged, AreBitsOf, AllowsPart, AllowsSome}
use Rattle.ival_core.specs.declared.value.Shape.{Shape}
use Rattle.ival_core.specs.declared.value.Shape.TheVariants.{Few, Many}
use Rattle.ival_core.specs.declared.value.Ival.{Ival}
use Rattle.ival_core.specs.Sets.{Among, IsValid, Has}
use Rattle.ival_core.specs.Ivals.{Holds}
use Rattle.ival_core.proofs.Remainders.{same_leaves, leaves_same}
use Rattle.avalue_base.specs.Lists.{has_base, all_among, In}
use Rattle.avalue_base.specs.Numbers.{numbers_of, is_empty, is_empty_list}
use Rattle.avalue_base.specs.Values.{Address, AVal, Separate, Mixed, Cellv, base_of, has_no_value, address_part, plain_part, parts_of, row_cell}
use Rattle.avalue_base.specs.Order.{is_part, is_among, value_in, leq}
use Rattle.avalue_base.specs.Hues.{pointer_bits, fits_value}
use Rattle.avalue_base.specs.Pieces.{has_offsets}
use Rattle.avalue_base.specs.Ops.{Fine, have_offsets}
use Rattle.avalue_base.specs.Meaning.{AllowsBy, Allows}
use Rattle.avalue_base.proofs.Lists.{any-In, all-In, In-map, In-has, has-In, among-has}
use Rattle.avalue_base.proofs.Sets.{lies-includes, empty_none, held_some, some_held}
use Rattle.avalue_base.proofs.Ordering.{implied, leq_parts, separate_parts, part_base, part_lies, nothing_parts, nothing_from, empty_list}
use Rattle.avalue_base.proofs.Joins.{false_or_true}

-- ---- numbers of sets are those of the printed ones

Contains-Among : (xs : List ℤ) (n : ℤ) → Contains xs n → Among xs n
Contains-Among [] n (k, l, e) = absurd (omega arith)
Contains-Among (x ∷ xs) n (zero, l, e) = inl (sym e)
Contains-Among (x ∷ xs) n (suc k, l, e) = inr (Contains-Among xs n (k, omega arith, e))

Among-Contains : (xs : List ℤ) (n : ℤ) → Among xs n → Contains xs n
Among-Contains [] n m = absurd m
Among-Contains (x ∷ xs) n (inl e) = (0, omega arith, sym e)
Among-Contains (x ∷ xs) n (inr m) = let a = Among-Contains xs n m in (suc a.0, (let l = a.1 in omega arith), a.2)

pub held_number_of : (v : Ival) (n : ℤ) → Holds v n → HoldsNumber (numbers_of v.shape) n
held_number_of v n h = at v.shape v.valid h
  where
    at : (s : Shape) → IsValid s → Has s n → HoldsNumber (numbers_of s) n
    at (Few few) l m = Among-Contains few.items n m
    at (Many p) l s =
        let r = residue_below p.stride p.low l.moves in
        let e = sym (residue-rem_euclid p.stride p.low) in
        let f : int_rem_euclid n (pos p.stride) ≡ pos (residue p.stride p.low) = same_leaves p.low n p.stride (residue p.stride p.low) l.moves r s.meets e in
        (s.above, s.below, unpos (residue p.stride n) (unsigned_abs (int_rem_euclid p.low (pos p.stride))) (residue-rem_euclid p.stride n ∙ f ∙ ap (λ z. pos (unsigned_abs z)) (sym e)))
      where
        unpos : (a b : ℕ) → pos a ≡ pos b → a ≡ b
        unpos a b e = cc

pub number_of_held : (v : Ival) (n : ℤ) → HoldsNumber (numbers_of v.shape) n → Holds v n
number_of_held v n h = at v.shape v.valid h
  where
    at : (s : Shape) → IsValid s → HoldsNumber (numbers_of s) n → Has s n
    at (Few few) l m = Contains-Among few.items n m
    at (Many p) l (a, b, e) =
        let f = sym (residue-rem_euclid p.stride p.low) in
        let g : int_rem_euclid n (pos p.stride) ≡ pos (residue p.stride p.low) =
        sym (residue-rem_euclid p.stride n) ∙ ap pos e ∙ ap (λ z. pos (unsigned_abs z)) f in
        record { above = a; below = b; meets = leaves_same p.low n p.stride (residue p.stride p.low) l.moves f g }

-- ---- bases

pub Contains-has : (bs : List ℕ) (q : ℕ) → Contains bs q → has_base bs q ≡ true
Contains-has bs q c = In-has bs q (at bs q c)
  where
    at : (bs : List ℕ) (q : ℕ) → Contains bs q → In bs q
    at [] q (k, l, e) = absurd (omega arith)
    at (b ∷ bs) q (zero, l, e) = inl (sym e)
    at (b ∷ bs) q (suc k, l, e) = inr (at bs q (k, omega arith, e))

pub has-Contains : (bs : List ℕ) (q : ℕ) → has_base bs q ≡ true → Contains bs q
has-Contains bs q h = at bs q (has-In bs q h)
  where
    at : (bs : List ℕ) (q : ℕ) → In bs q → Contains bs q
    at [] q i = absurd i
    at (b ∷ bs) q (inl e) = (0, omega arith, sym e)
    at (b ∷ bs) q (inr i) = let a = at bs q i in (suc a.0, (let l = a.1 in omega arith), a.2)

pub nowhere_has : (q : ℕ) → contains nowhere q ≡ true → ⊥
nowhere_has q h = let e = contains-empty nat_cmp q in cc

pub only_has : (base q : ℕ) → contains (only base) q ≡ true → q ≡ base
only_has base q h = eqb-true q base (at (q == base) (sym (only_is base q) ∙ h))
  where
    only_is : (base other : ℕ) → contains (only base) other ≡ ((other == base) || false)
    only_is base other = rw (contains-insert nat_cmp_total empty base other, contains-empty nat_cmp other, unsigned_tied other base) refl

    at : (b : Bool) → (b || false) ≡ true → b ≡ true
    at true h = refl
    at false h = cc

-- ---- flags

-- a row's cell has the flags of another one
pub record FlagsIn (c d : RowCell) : Type 0 where
  pub uninit : c.uninit ≡ true → d.uninit ≡ true
  pub dead : c.dead ≡ true → d.dead ≡ true

pub flags_in : (x y : Cellv) → leq x y ≡ true → FlagsIn (row_cell x) (row_cell y)
flags_in x y h =
    let l = leq_parts x y h in
    record { uninit = λ e. implied x.uninit y.uninit l.second e; dead = λ e. implied x.dead y.dead l.third e }

module _ (c d : RowCell) (f : FlagsIn c d) where
  pub bits_more : (p : Provenance) (bs : List Bool) (cells : List Cell) → AreBits c p bs cells → AreBits d p bs cells
  bits_more p [] [] a = tt
  bits_more p [] (cell ∷ cells) a = absurd a
  bits_more p (b ∷ bs) [] a = absurd a
  bits_more p (b ∷ bs) (Uninit ∷ cells) a = (f.uninit a.0, bits_more p bs cells a.1)
  bits_more p (b ∷ bs) (Dead ∷ cells) a = (f.dead a.0, bits_more p bs cells a.1)
  bits_more p (b ∷ bs) (Bit e q i ∷ cells) a = (a.0, bits_more p bs cells a.1)

  pub bits_mixed : (p : Provenance) (bases : List ℕ) → ((q : ℕ) → contains p q ≡ true → has_base bases q ≡ true) →
      (bs : List Bool) (cells : List Cell) → AreBits c p bs cells → AllByRecursion (IsMixed d bases) cells
  bits_mixed p bases h [] [] a = tt
  bits_mixed p bases h [] (cell ∷ cells) a = absurd a
  bits_mixed p bases h (b ∷ bs) [] a = absurd a
  bits_mixed p bases h (b ∷ bs) (Uninit ∷ cells) a = (f.uninit a.0, bits_mixed p bases h bs cells a.1)
  bits_mixed p bases h (b ∷ bs) (Dead ∷ cells) a = (f.dead a.0, bits_mixed p bases h bs cells a.1)
  bits_mixed p bases h (b ∷ bs) (Bit e q i ∷ cells) a =
      ((λ base t. has-Contains bases base (h base (subst (λ z. contains z base ≡ true) a.0.1 t))), bits_mixed p bases h bs cells a.1)

  pub mixed_more : (bases others : List ℕ) → all_among bases others ≡ true → (cells : List Cell) → AllByRecursion (IsMixed c bases) cells → AllByRecursion (IsMixed d others) cells
  mixed_more bases others h [] a = tt
  mixed_more bases others h (Uninit ∷ cells) a = (f.uninit a.0, mixed_more bases others h cells a.1)
  mixed_more bases others h (Dead ∷ cells) a = (f.dead a.0, mixed_more bases others h cells a.1)
  mixed_more bases others h (Bit e q i ∷ cells) a =
      ((λ base t. has-Contains others base (among-has bases others h base (Contains-has bases base (a.0 base t)))), mixed_more bases others h cells a.1)

  pub flagged_more : (cells : List Cell) → AllByRecursion (IsFlagged c) cells → AllByRecursion (IsFlagged d) cells
  flagged_more [] a = tt
  flagged_more (Uninit ∷ cells) a = (f.uninit a.0, flagged_more cells a.1)
  flagged_more (Dead ∷ cells) a = (f.dead a.0, flagged_more cells a.1)
  flagged_more (Bit e q i ∷ cells) a = absurd a.0

-- ---- parts

pub plain_some : (l : Layout) (c : RowCell) (cells : List Cell) (ns : Ival) (n : ℤ) → Holds ns n → AreBitsOf l c nowhere n cells → (more : List Part) → AllowsSome l c cells (plain_part ns ++ more)
plain_some l c cells ns n h a more =
    subst (λ b. AllowsSome l c cells (cond b [] (Plain (numbers_of ns.shape) ∷ []) ++ more)) (sym (held_some ns n h)) (inl (n, held_number_of ns n h, a))

-- a part of a value that keeps its numbers apart
pub record PlainIn (l : Layout) (c : RowCell) (cells : List Cell) (ns : Ival) : Type 0 where
  pub number : ℤ
  pub held : Holds ns number
  pub bits : AreBitsOf l c nowhere number cells

pub record AddressIn (l : Layout) (c : RowCell) (cells : List Cell) (xs : List Address) : Type 0 where
  pub address : Address
  pub among : In xs address
  pub count : length cells ≡ pointer_bits l.machine
  pub offset : ℤ
  pub held : Holds address.offsets offset
  pub bits : AreBitsOf l c (only address.base) (pos (l.address address.base) +ℤ offset) cells

address_in : (l : Layout) (c : RowCell) (cells : List Cell) (xs : List Address) → AllowsSome l c cells (map address_part xs) → AddressIn l c cells xs
address_in l c cells [] a = absurd a
address_in l c cells (x ∷ xs) (inl a) = record {
  address = x;
  among = inl refl;
  count = a.0;
  offset = a.1.0;
  held = number_of_held x.offsets a.1.0 a.1.1;
  bits = a.1.2;
}
address_in l c cells (x ∷ xs) (inr a) =
    let r = address_in l c cells xs a in
    record { address = r.address; among = inr r.among; count = r.count; offset = r.offset; held = r.held; bits = r.bits }

in_address : (l : Layout) (c : RowCell) (cells : List Cell) (xs : List Address) (a : Address) → In xs a → length cells ≡ pointer_bits l.machine → (o : ℤ) → Holds a.offsets o →
    AreBitsOf l c (only a.base) (pos (l.address a.base) +ℤ o) cells → AllowsSome l c cells (map address_part xs)
in_address l c cells [] a i e o h b = absurd i
in_address l c cells (x ∷ xs) a (inl d) e o h b = inl (subst (λ z. AllowsPart l c cells (address_part z)) d (e, (o, held_number_of a.offsets o h, b)))
in_address l c cells (x ∷ xs) a (inr i) e o h b = inr (in_address l c cells xs a i e o h b)

pub separate_allows : (l : Layout) (c : RowCell) (cells : List Cell) (ns : Ival) (xs : List Address) → AllowsSome l c cells (parts_of (Separate ns xs)) → PlainIn l c cells ns ⊎ AddressIn l c cells xs
separate_allows l c cells ns xs a = by_test (is_empty ns.shape) a
  where
    by_test : (b : Bool) → AllowsSome l c cells (cond b [] (Plain (numbers_of ns.shape) ∷ []) ++ map address_part xs) → PlainIn l c cells ns ⊎ AddressIn l c cells xs
    by_test true a = inr (address_in l c cells xs a)
    by_test false (inl a) = inl (record { number = a.0; held = number_of_held ns a.0 a.1; bits = a.2 })
    by_test false (inr a) = inr (address_in l c cells xs a)

pub allows_separate : (l : Layout) (c : RowCell) (cells : List Cell) (ns : Ival) (xs : List Address) → PlainIn l c cells ns ⊎ AddressIn l c cells xs → AllowsSome l c cells (parts_of (Separate ns xs))
allows_separate l c cells ns xs (inl p) = plain_some l c cells ns p.number p.held p.bits (map address_part xs)
allows_separate l c cells ns xs (inr a) = behind (is_empty ns.shape)
  where
    behind : (b : Bool) → AllowsSome l c cells (cond b [] (Plain (numbers_of ns.shape) ∷ []) ++ map address_part xs)
    behind true = in_address l c cells xs a.address a.among a.count a.offset a.held a.bits
    behind false = inr (in_address l c cells xs a.address a.among a.count a.offset a.held a.bits)

-- ---- a greater value allows more

module _ (l : Layout) (c d : RowCell) (f : FlagsIn c d) (cells : List Cell) where
  abbrev bits_for : ℤ → List Bool
  bits_for n = in_byte_order l.machine (bits_from (residue (2 ^ length cells) n) (length cells))

  pub some_more : (v w : AVal) → value_in v w ≡ true → AllowsSome l c cells (parts_of v) → AllowsSome l d cells (parts_of w)
  some_more (Separate ns xs) (Separate ms ys) h a =
      let p = separate_parts ns ms xs ys h in
      elim (separate_allows l c cells ns xs a) [
        | inl q ↦ allows_separate l d cells ms ys (inl (record { number = q.number; held = lies-includes ns ms p.0 q.number q.held; bits = bits_more c d f nowhere (bits_for q.number) cells q.bits }))
        | inr q ↦
            let b = any-In (is_part q.address) ys (all-In (is_among ys) xs p.1 q.address q.among) in
            allows_separate l d cells ms ys (inr (record {
              address = b.0;
              among = b.1;
              count = q.count;
              offset = q.offset;
              held = lies-includes q.address.offsets b.0.offsets (part_lies q.address b.0 b.2) q.offset q.held;
              bits = subst (λ z. AreBitsOf l d (only z) (pos (l.address z) +ℤ q.offset) cells) (part_base q.address b.0 b.2)
                  (bits_more c d f (only q.address.base) (bits_for (pos (l.address q.address.base) +ℤ q.offset)) cells q.bits);
            }))
      ]
  some_more (Separate ns xs) (Mixed bs) h a =
      elim (separate_allows l c cells ns xs a) [
        | inl q ↦ inl (bits_mixed c d f nowhere bs (λ r t. absurd (nowhere_has r t)) (bits_for q.number) cells q.bits)
        | inr q ↦ inl (bits_mixed c d f (only q.address.base) bs
            (λ r t. subst (λ z. has_base bs z ≡ true) (sym (only_has q.address.base r t)) (all-In (has_base bs) (map base_of xs) h q.address.base (In-map base_of xs q.address q.among)))
            (bits_for (pos (l.address q.address.base) +ℤ q.offset)) cells q.bits)
      ]
  some_more (Mixed as') (Separate ms ys) h a = cc
  some_more (Mixed as') (Mixed bs) h (inl a) = inl (mixed_more c d f as' bs h cells a)
  some_more (Mixed as') (Mixed bs) h (inr a) = absurd a

-- what allows something has a value
pub some_value : (l : Layout) (c : RowCell) (cells : List Cell) (v : AVal) → AllowsSome l c cells (parts_of v) → has_no_value v ≡ true → ⊥
some_value l c cells (Separate ns xs) a h =
    let n = nothing_parts ns xs h in
    elim (separate_allows l c cells ns xs a) [
      | inl q ↦ empty_none ns q.number n.0 q.held
      | inr q ↦ subst (λ zs. In zs q.address) n.1 q.among
    ]
some_value l c cells (Mixed bs) a h = cc

-- ---- flags stand in place of any value that fits

flags_as_bits : (c : RowCell) (p : Provenance) (bs : List Bool) (cells : List Cell) → length bs ≡ length cells → AllByRecursion (IsFlagged c) cells → AreBits c p bs cells
flags_as_bits c p [] [] e a = tt
flags_as_bits c p [] (cell ∷ cells) e a = absurd (omega arith)
flags_as_bits c p (b ∷ bs) [] e a = absurd (omega arith)
flags_as_bits c p (b ∷ bs) (Uninit ∷ cells) e a = (a.0, flags_as_bits c p bs cells (omega arith) a.1)
flags_as_bits c p (b ∷ bs) (Dead ∷ cells) e a = (a.0, flags_as_bits c p bs cells (omega arith) a.1)
flags_as_bits c p (b ∷ bs) (Bit x q i ∷ cells) e a = absurd a.0

flags_as_mix : (c : RowCell) (bases : List ℕ) (cells : List Cell) → AllByRecursion (IsFlagged c) cells → AllByRecursion (IsMixed c bases) cells
flags_as_mix c bases [] a = tt
flags_as_mix c bases (Uninit ∷ cells) a = (a.0, flags_as_mix c bases cells a.1)
flags_as_mix c bases (Dead ∷ cells) a = (a.0, flags_as_mix c bases cells a.1)
flags_as_mix c bases (Bit x q i ∷ cells) a = absurd a.0

pub length-in_order : (m : Machine) (n k : ℕ) → length (in_byte_order m (bits_from n k)) ≡ k
length-in_order m n k = at m (length-bits_from n k)
  where
    at : (m : Machine) → length (bits_from n k) ≡ k → length (in_byte_order m (bits_from n k)) ≡ k
    at Lp64 e = e

pub flags_allowed : (l : Layout) (c : RowCell) (v : AVal) (cells : List Cell) → has_no_value v ≡ false → have_offsets v ≡ true → fits_value l.machine (length cells) v ≡ true →
    AllByRecursion (IsFlagged c) cells → AllowsSome l c cells (parts_of v)
flags_allowed l c (Separate ns xs) cells n o f a = by_numbers (is_empty ns.shape) refl
  where
    bits : (p : Provenance) (z : ℤ) → AreBitsOf l c p z cells
    bits p z = flags_as_bits c p (in_byte_order l.machine (bits_from (residue (2 ^ length cells) z) (length cells))) cells (length-in_order l.machine (residue (2 ^ length cells) z) (length cells)) a

    by_addresses : (ys : List Address) → xs ≡ ys → is_empty ns.shape ≡ true → AllowsSome l c cells (parts_of (Separate ns xs))
    by_addresses [] e h = absurd (let t = nothing_from ns xs h e in cc)
    by_addresses (y ∷ ys) e h =
        let i : In xs y = subst (λ zs. In zs y) (sym e) (inl refl) in
        let s = some_held y.offsets (held_not (is_empty y.offsets.shape) (all-In has_offsets xs o y i)) in
        let g : length cells ≡ pointer_bits l.machine = width (or_cases (is_empty_list xs) (length cells == pointer_bits l.machine) f) in
        allows_separate l c cells ns xs (inr (record {
          address = y;
          among = i;
          count = g;
          offset = s.0;
          held = s.1;
          bits = bits (only y.base) (pos (l.address y.base) +ℤ s.0);
        }))
      where
        held_not : (b : Bool) → not b ≡ true → b ≡ false
        held_not true h = cc
        held_not false h = refl

        width : (is_empty_list xs ≡ true) ⊎ ((length cells == pointer_bits l.machine) ≡ true) → length cells ≡ pointer_bits l.machine
        width (inl t) = absurd (let u = empty_list xs t in cc)
        width (inr t) = eqb-true (length cells) (pointer_bits l.machine) t

    by_numbers : (b : Bool) → is_empty ns.shape ≡ b → AllowsSome l c cells (parts_of (Separate ns xs))
    by_numbers true h = by_addresses xs refl h
    by_numbers false h =
        let s = some_held ns h in
        allows_separate l c cells ns xs (inl (record { number = s.0; held = s.1; bits = bits nowhere s.0 }))
flags_allowed l c (Mixed bs) cells n o f a = inl (flags_as_mix c bs cells a)

-- ---- a greater cell allows more

pub by_value : (l : Layout) (c : Cellv) (cells : List Cell) → AllowsBy l c (has_no_value c.value) cells →
    ((has_no_value c.value ≡ true) × AllByRecursion (IsFlagged (row_cell c)) cells) ⊎ ((has_no_value c.value ≡ false) × AllowsSome l (row_cell c) cells (parts_of c.value))
by_value l c cells a = at (has_no_value c.value) a
  where
    at : (b : Bool) → AllowsBy l c b cells → ((b ≡ true) × AllByRecursion (IsFlagged (row_cell c)) cells) ⊎ ((b ≡ false) × AllowsSome l (row_cell c) cells (parts_of c.value))
    at true a = inl (refl, a)
    at false a = inr (refl, a)

pub from_some : (l : Layout) (c : Cellv) (cells : List Cell) → AllowsSome l (row_cell c) cells (parts_of c.value) → AllowsBy l c (has_no_value c.value) cells
from_some l c cells a = subst (λ b. AllowsBy l c b cells) (sym (false_or_true (has_no_value c.value) (λ e. some_value l (row_cell c) cells c.value a e))) a

pub from_flags : (l : Layout) (k : ℕ) (c : Cellv) (cells : List Cell) → Fine l.machine k c → length cells ≡ k → AllByRecursion (IsFlagged (row_cell c)) cells → AllowsBy l c (has_no_value c.value) cells
from_flags l k c cells f e a = at (has_no_value c.value) refl
  where
    at : (b : Bool) → has_no_value c.value ≡ b → AllowsBy l c b cells
    at true h = a
    at false h = flags_allowed l (row_cell c) c.value cells h f.offsets (subst (λ j. fits_value l.machine j c.value ≡ true) (sym e) f.fits) a

pub allows_more : (l : Layout) (k : ℕ) (x y : Cellv) (cells : List Cell) → Fine l.machine k y → leq x y ≡ true → Allows l k x cells → Allows l k y cells
allows_more l k x y cells g h a =
    let f = flags_in x y h in
    elim (by_value l x cells a.1) [
      | inl b ↦ (a.0, from_flags l k y cells g a.0 (flagged_more (row_cell x) (row_cell y) f cells b.1))
      | inr b ↦ (a.0, from_some l y cells (some_more l (row_cell x) (row_cell y) f cells x.value y.value (leq_parts x y h).first b.1))
    ]

pub self_has : (own base : ℕ) → own ≡ base → contains (only own) base ≡ false → ⊥
self_has own base e h =
    let t : contains (only base) base ≡ true = rw (contains-insert nat_cmp_total empty base base, unsigned_tied base base, eq-eqb base base refl) refl in
    let u : contains (only base) base ≡ false = subst (λ z. contains (only z) base ≡ false) e h in
    cc
