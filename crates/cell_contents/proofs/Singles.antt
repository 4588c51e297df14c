-- The test for single cells is true of those alone that have one content.
use Rattle.std.proofs.Common.{◌≡◌, ◌⊎◌, ℕ, ◌^◌, ◌<◌, ◌≤◌, ◌==◌, Bool, true, false, cond, ◌&&◌, ℤ, pos, ◌+ℤ◌, List, [], ◌∷◌, length, refl, sym, subst, ap, ◌∙◌, inl, inr, arith, eq-eqb}
use Rattle.std.specs.Prelude.{not, is_some, Option, None, Some}
use Rattle.std.specs.FinSet.{contains}
use Rattle.std.specs.List.{AllByRecursion, list_all}
use Rattle.std.proofs.lemmas.Bool.{and_parts, and_from, or_cases, or_left, or_right, eqb-true}
use Rattle.std.proofs.lemmas.Nat.{pow_pos}
use Rattle.c_base.specs.declared.integer.Machine.{Machine}
use Rattle.c_base.specs.declared.integer.Machine.TheVariants.{Lp64}
use Rattle.c_base.specs.Integers.{residue, bits_of}
use Rattle.c_base.proofs.Bits.{length-bits_from}
use Rattle.c_memory.specs.Values.{Cell, Uninit, Dead, Bit, nowhere, only}
use Rattle.c_memory.specs.Layouts.{Layout}
use Rattle.c_memory.specs.Rows.{RowCell, IsFlagged, AllowsSome}
use Rattle.offmap_laws.specs.Contents.{AllAlike, SingleLaws}
use Rattle.ival_core.specs.declared.value.Ival.{Ival}
use Rattle.ival_core.specs.Ivals.{Holds}
use Rattle.avalue_base.specs.Lists.{In}
use Rattle.avalue_base.specs.Numbers.{is_empty, rest_in}
use Rattle.avalue_base.specs.Values.{Address, AVal, Separate, Mixed, Cellv, has_no_value, parts_of, row_cell}
use Rattle.avalue_base.specs.Hues.{pointer_bits}
use Rattle.avalue_base.specs.Pieces.{has_offsets}
use Rattle.avalue_base.specs.Ops.{Fine}
use Rattle.avalue_base.specs.Meaning.{Allows}
use Rattle.avalue_base.specs.Singles.{SameCell}
use Rattle.avalue_base.proofs.Lists.{all-In, In-all}
use Rattle.avalue_base.proofs.Sets.{empty_none, some_held, none_empty}
use Rattle.avalue_base.proofs.Ordering.{nothing_from}
use Rattle.avalue_base.proofs.Meanings.{nowhere_has, only_has, self_has, PlainIn, AddressIn, separate_allows, some_value, by_value}
use Rattle.cell_contents.specs.Contents.{is_rest, all_leave, is_one_value, is_one_flag, is_single}
use Rattle.avalue_base.proofs.Rests.{rest_held, held_rest, rest_plus, rest_minus, zero_one}
use Rattle.cell_contents.proofs.Contents.{number_cells, number_alike, same_rest, rest_same, alike_sym, alike_trans, alike_provenance, all_uninit, all_dead, number_content, address_content, mixed_content, uninit_content, dead_content, some_bits, some_content, bits_not_uninit, bits_not_dead, uninit_not_dead}
use Rattle.cell_contents.proofs.Worlds.{machine_is}

pub not_true : (b : Bool) → not b ≡ true → b ≡ true → ⊥
not_true true h k = cc
not_true false h k = cc

not_empty : (b : Bool) → not b ≡ true → b ≡ false
not_empty true h = cc
not_empty false h = refl

pub no_flag : (b : Bool) → (b ≡ true → ⊥) → not b ≡ true
no_flag true h = absurd (h refl)
no_flag false h = refl

-- ---- flags

pub all_unwritten : (c : RowCell) → (c.dead ≡ true → ⊥) → (xs : List Cell) → AllByRecursion (IsFlagged c) xs → AllAlike SameCell xs (all_uninit (length xs))
unfolding all_uninit
all_unwritten c g [] a = tt
all_unwritten c g (Uninit ∷ xs) a = (tt, all_unwritten c g xs a.1)
all_unwritten c g (Dead ∷ xs) a = absurd (g a.0)
all_unwritten c g (Bit b p i ∷ xs) a = absurd a.0

pub all_died : (c : RowCell) → (c.uninit ≡ true → ⊥) → (xs : List Cell) → AllByRecursion (IsFlagged c) xs → AllAlike SameCell xs (all_dead (length xs))
unfolding all_dead
all_died c g [] a = tt
all_died c g (Dead ∷ xs) a = (tt, all_died c g xs a.1)
all_died c g (Uninit ∷ xs) a = absurd (g a.0)
all_died c g (Bit b p i ∷ xs) a = absurd a.0

pub flags_alike : (c : RowCell) (k : ℕ) → is_one_flag c.uninit c.dead ≡ true → (xs ys : List Cell) → length xs ≡ k → length ys ≡ k → AllByRecursion (IsFlagged c) xs → AllByRecursion (IsFlagged c) ys → AllAlike SameCell xs ys
flags_alike c k h xs ys v w a b =
    elim (or_cases (c.uninit && not c.dead) (not c.uninit && c.dead) h) [
      | inl u ↦
          let g = not_true c.dead (and_parts c.uninit (not c.dead) u).1 in
          alike_trans xs (all_uninit k) ys (subst (λ n. AllAlike SameCell xs (all_uninit n)) v (all_unwritten c g xs a))
          (alike_sym ys (all_uninit k) (subst (λ n. AllAlike SameCell ys (all_uninit n)) w (all_unwritten c g ys b)))
      | inr u ↦
          let g = not_true c.uninit (and_parts (not c.uninit) c.dead u).0 in
          alike_trans xs (all_dead k) ys (subst (λ n. AllAlike SameCell xs (all_dead n)) v (all_died c g xs a))
          (alike_sym ys (all_dead k) (subst (λ n. AllAlike SameCell ys (all_dead n)) w (all_died c g ys b)))
    ]

-- ---- one value

leave_some : (k base r : ℕ) (o : Option ℕ) (xs : List Address) → o ≡ Some r → all_leave k base o xs ≡ list_all (λ (x : Address). (x.base == base) && is_rest r (rest_in k x.offsets.shape)) xs
leave_some k base r o xs e = ap (λ p. all_leave k base p xs) e

rest_is : (r : ℕ) (o : Option ℕ) → is_rest r o ≡ true → o ≡ Some r
rest_is r None h = cc
rest_is r (Some q) h = ap Some (sym (eqb-true r q h))

-- an address of a list whose offsets leave one rest
record Leaves (k base r : ℕ) (x : Address) : Type 0 where
  owner : x.base ≡ base
  rest : rest_in k x.offsets.shape ≡ Some r

leaves : (k base r : ℕ) (xs : List Address) → list_all (λ (x : Address). (x.base == base) && is_rest r (rest_in k x.offsets.shape)) xs ≡ true → (x : Address) → In xs x → Leaves k base r x
leaves k base r xs h x i =
    let a = and_parts (x.base == base) (is_rest r (rest_in k x.offsets.shape)) (all-In (λ (x : Address). (x.base == base) && is_rest r (rest_in k x.offsets.shape)) xs h x i) in
    record { owner = eqb-true x.base base a.0; rest = rest_is r (rest_in k x.offsets.shape) a.1 }

module _ (l : Layout) (k : ℕ) (few : k ≤ 64) (c : RowCell) (f : c.uninit ≡ true → ⊥) (g : c.dead ≡ true → ⊥) where
  numbers_alike : (ns : Ival) (r : ℕ) → rest_in k ns.shape ≡ Some r → (xs ys : List Cell) → length xs ≡ k → length ys ≡ k → PlainIn l c xs ns → PlainIn l c ys ns → AllAlike SameCell xs ys
  numbers_alike ns r e xs ys v w p q =
      let a = number_alike l c f g k nowhere p.number xs v p.bits in
      let b = number_alike l c f g k nowhere q.number ys w q.bits in
      let s = rest_same k nowhere p.number q.number (rest_held k ns r p.number few e p.held ∙ sym (rest_held k ns r q.number few e q.held)) in
      alike_trans xs (number_cells k nowhere p.number) ys a (subst (λ zs. AllAlike SameCell zs ys) (sym s) (alike_sym ys (number_cells k nowhere q.number) b))

  addresses_alike : (zs : List Address) (base r : ℕ) → ((x : Address) → In zs x → Leaves k base r x) → (xs ys : List Cell) → length xs ≡ k → length ys ≡ k → AddressIn l c xs zs → AddressIn l c ys zs → AllAlike SameCell xs ys
  addresses_alike zs base r h xs ys v w p q =
      let u = h p.address p.among in
      let t = h q.address q.among in
      let a = number_alike l c f g k (only p.address.base) (pos (l.address p.address.base) +ℤ p.offset) xs v p.bits in
      let b = number_alike l c f g k (only q.address.base) (pos (l.address q.address.base) +ℤ q.offset) ys w q.bits in
      let s = rest_plus (2 ^ k) (pos (l.address base)) p.offset q.offset (pow_pos k) (rest_held k p.address.offsets r p.offset few u.rest p.held ∙ sym (rest_held k q.address.offsets r q.offset few t.rest q.held)) in
      let one = number_cells k (only base) (pos (l.address base) +ℤ p.offset) in
      let a' : AllAlike SameCell xs one = subst (λ z. AllAlike SameCell xs (number_cells k (only z) (pos (l.address z) +ℤ p.offset))) u.owner a in
      let b' : AllAlike SameCell ys (number_cells k (only base) (pos (l.address base) +ℤ q.offset)) = subst (λ z. AllAlike SameCell ys (number_cells k (only z) (pos (l.address z) +ℤ q.offset))) t.owner b in
      alike_trans xs one ys a' (subst (λ zs. AllAlike SameCell zs ys) (sym (rest_same k (only base) (pos (l.address base) +ℤ p.offset) (pos (l.address base) +ℤ q.offset) s)) (alike_sym ys (number_cells k (only base) (pos (l.address base) +ℤ q.offset)) b'))

  values_alike : (v : AVal) → is_one_value k v ≡ true → (xs ys : List Cell) → length xs ≡ k → length ys ≡ k → AllowsSome l c xs (parts_of v) → AllowsSome l c ys (parts_of v) → AllAlike SameCell xs ys
  values_alike (Separate ns []) h xs ys v w a b =
      elim (separate_allows l c xs ns [] a) [
        | inr p ↦ absurd p.among
        | inl p ↦ elim (separate_allows l c ys ns [] b) [
          | inr q ↦ absurd q.among
          | inl q ↦ at (rest_in k ns.shape) refl h p q
        ]
      ]
    where
      at : (o : Option ℕ) → rest_in k ns.shape ≡ o → is_some o ≡ true → PlainIn l c xs ns → PlainIn l c ys ns → AllAlike SameCell xs ys
      at None e h p q = cc
      at (Some r) e h p q = numbers_alike ns r e xs ys v w p q
  values_alike (Separate ns (z ∷ zs)) h xs ys v w a b =
      let t = and_parts (is_empty ns.shape) (all_leave k z.base (rest_in k z.offsets.shape) (z ∷ zs)) h in
      elim (separate_allows l c xs ns (z ∷ zs) a) [
        | inl p ↦ absurd (empty_none ns p.number t.0 p.held)
        | inr p ↦ elim (separate_allows l c ys ns (z ∷ zs) b) [
          | inl q ↦ absurd (empty_none ns q.number t.0 q.held)
          | inr q ↦ at (rest_in k z.offsets.shape) t.1 p q
        ]
      ]
    where
      at : (o : Option ℕ) → all_leave k z.base o (z ∷ zs) ≡ true → AddressIn l c xs (z ∷ zs) → AddressIn l c ys (z ∷ zs) → AllAlike SameCell xs ys
      at None h p q = cc
      at (Some r) h p q = addresses_alike (z ∷ zs) z.base r (leaves k z.base r (z ∷ zs) h) xs ys v w p q
  values_alike (Mixed bs) h xs ys v w a b = cc

single_one : (l : Layout) (k : ℕ) (c : Cellv) (xs ys : List Cell) → Fine l.machine k c → is_single k c ≡ true → Allows l k c xs → Allows l k c ys → AllAlike SameCell xs ys
single_one l k c xs ys f h a b = at (has_no_value c.value) refl (by_value l c xs a.1) (by_value l c ys b.1)
  where
    at : (n : Bool) → has_no_value c.value ≡ n →
        ((has_no_value c.value ≡ true) × AllByRecursion (IsFlagged (row_cell c)) xs) ⊎ ((has_no_value c.value ≡ false) × AllowsSome l (row_cell c) xs (parts_of c.value)) →
        ((has_no_value c.value ≡ true) × AllByRecursion (IsFlagged (row_cell c)) ys) ⊎ ((has_no_value c.value ≡ false) × AllowsSome l (row_cell c) ys (parts_of c.value)) → AllAlike SameCell xs ys
    at true n (inl p) (inl q) =
        flags_alike (row_cell c) k (subst (λ t. cond t (is_one_flag c.uninit c.dead) (is_one_value k c.value && (not c.uninit && not c.dead)) ≡ true) n h) xs ys a.0 b.0 p.1 q.1
    at true n (inr p) q = absurd (some_value l (row_cell c) xs c.value p.1 n)
    at true n (inl p) (inr q) = absurd (some_value l (row_cell c) ys c.value q.1 n)
    at false n (inl p) q = let r = p.0 in cc
    at false n (inr p) (inl q) = let r = q.0 in cc
    at false n (inr p) (inr q) =
        let t = and_parts (is_one_value k c.value) (not c.uninit && not c.dead)
        (subst (λ t. cond t (is_one_flag c.uninit c.dead) (is_one_value k c.value && (not c.uninit && not c.dead)) ≡ true) n h) in
        let u = and_parts (not c.uninit) (not c.dead) t.1 in
        values_alike l k f.few_bits (row_cell c) (not_true c.uninit u.0) (not_true c.dead u.1) c.value t.0 xs ys a.0 b.0 p.1 q.1

-- ---- where all contents are alike, the test is true

OneContent : Layout → ℕ → Cellv → Type 0
OneContent l k c = (xs ys : List Cell) → Allows l k c xs → Allows l k c ys → AllAlike SameCell xs ys

own_base : (base : ℕ) → contains (only base) base ≡ true
own_base base = at (contains (only base) base) refl
  where
    at : (b : Bool) → contains (only base) base ≡ b → b ≡ true
    at true e = refl
    at false e = absurd (self_has base base refl e)

some_length : (k : ℕ) (n : ℤ) → 0 < k → 0 < length (bits_of k n)
some_length k n h = let e = length-bits_from (residue (2 ^ k) n) k in omega arith

one_number : (l : Layout) (k : ℕ) (u d : Bool) (ns : Ival) → k ≤ 64 → is_empty ns.shape ≡ false → OneContent l k (record { value = Separate ns []; uninit = u; dead = d }) → is_some (rest_in k ns.shape) ≡ true
unfolding OneContent
one_number l k u d ns few e h =
    let n = some_held ns e in
    let r = held_rest k ns n.0 few n.1 (λ m a. same_rest k nowhere nowhere m n.0 (h (number_cells k nowhere m) (number_cells k nowhere n.0) (number_content l k u d ns [] m a) (number_content l k u d ns [] n.0 n.1))) in
    ap is_some r

module _ (l : Layout) (k : ℕ) (u d : Bool) (ns : Ival) (z : Address) (zs : List Address) (some : 0 < k) (few : k ≤ 64) (w : k ≡ pointer_bits l.machine) (offsets : list_all has_offsets (z ∷ zs) ≡ true)
    (h : OneContent l k (record { value = Separate ns (z ∷ zs); uninit = u; dead = d })) where
  offset_of : (x : Address) → In (z ∷ zs) x → (o : ℤ) × Holds x.offsets o
  offset_of x i = some_held x.offsets (not_empty (is_empty x.offsets.shape) (all-In has_offsets (z ∷ zs) offsets x i))

  number_of : Address → ℤ → ℤ
  number_of x o = pos (l.address x.base) +ℤ o

  content : (x : Address) (o : ℤ) → In (z ∷ zs) x → Holds x.offsets o → Allows l k (record { value = Separate ns (z ∷ zs); uninit = u; dead = d }) (number_cells k (only x.base) (number_of x o))
  unfolding number_of
  content x o i a = address_content l k u d ns (z ∷ zs) x o w i a

  alike : (x y : Address) (o p : ℤ) → In (z ∷ zs) x → In (z ∷ zs) y → Holds x.offsets o → Holds y.offsets p → AllAlike SameCell (number_cells k (only x.base) (number_of x o)) (number_cells k (only y.base) (number_of y p))
  unfolding OneContent
  alike x y o p i j a b = h (number_cells k (only x.base) (number_of x o)) (number_cells k (only y.base) (number_of y p)) (content x o i a) (content y p j b)

  no_number : is_empty ns.shape ≡ true
  unfolding OneContent number_of
  no_number =
      none_empty ns (λ n a.
      let o = offset_of z (inl refl) in
      let e = alike_provenance nowhere (only z.base) (bits_of k n) (bits_of k (number_of z o.0)) (some_length k n some)
      (h (number_cells k nowhere n) (number_cells k (only z.base) (number_of z o.0)) (number_content l k u d ns (z ∷ zs) n a) (content z o.0 (inl refl) o.1)) in
      nowhere_has z.base (subst (λ p. contains p z.base ≡ true) (sym e) (own_base z.base)))

  same_base : (x : Address) → In (z ∷ zs) x → x.base ≡ z.base
  same_base x i =
      let o = offset_of x i in
      let p = offset_of z (inl refl) in
      let e = alike_provenance (only x.base) (only z.base) (bits_of k (number_of x o.0)) (bits_of k (number_of z p.0)) (some_length k (number_of x o.0) some) (alike x z o.0 p.0 i (inl refl) o.1 p.1) in
      only_has z.base x.base (subst (λ q. contains q x.base ≡ true) e (own_base x.base))

  same_offset : (x y : Address) (o p : ℤ) → In (z ∷ zs) x → In (z ∷ zs) y → Holds x.offsets o → Holds y.offsets p → residue (2 ^ k) o ≡ residue (2 ^ k) p
  unfolding number_of
  same_offset x y o p i j a b =
      let e = same_rest k (only x.base) (only y.base) (number_of x o) (number_of y p) (alike x y o p i j a b) in
      let s : y.base ≡ x.base = same_base y j ∙ sym (same_base x i) in
      rest_minus (2 ^ k) (pos (l.address x.base)) o p (pow_pos k) (e ∙ ap (λ q. residue (2 ^ k) (pos (l.address q) +ℤ p)) s)

  own_rest : (x : Address) (i : In (z ∷ zs) x) → rest_in k x.offsets.shape ≡ Some (residue (2 ^ k) (offset_of x i).0)
  own_rest x i = let o = offset_of x i in held_rest k x.offsets o.0 few o.1 (λ m a. same_offset x x m o.0 i i a o.1)

  one_address : is_one_value k (Separate ns (z ∷ zs)) ≡ true
  one_address =
      let r = residue (2 ^ k) (offset_of z (inl refl)).0 in
      and_from (is_empty ns.shape) (all_leave k z.base (rest_in k z.offsets.shape) (z ∷ zs)) no_number
      (leave_some k z.base r (rest_in k z.offsets.shape) (z ∷ zs) (own_rest z (inl refl))
      ∙ In-all (λ (x : Address). (x.base == z.base) && is_rest r (rest_in k x.offsets.shape)) (z ∷ zs)
      (λ x i. and_from (x.base == z.base) (is_rest r (rest_in k x.offsets.shape)) (eq-eqb x.base z.base (same_base x i))
      (let o = offset_of x i in let p = offset_of z (inl refl) in
      ap (is_rest r) (own_rest x i) ∙ eq-eqb r (residue (2 ^ k) o.0) (same_offset z x p.0 o.0 (inl refl) i p.1 o.1))))

one_value : (l : Layout) (k : ℕ) (v : AVal) (u d : Bool) → Fine l.machine k (record { value = v; uninit = u; dead = d }) → has_no_value v ≡ false → OneContent l k (record { value = v; uninit = u; dead = d }) → is_one_value k v ≡ true
unfolding OneContent
one_value l k (Separate ns []) u d f e h = one_number l k u d ns f.few_bits (some (is_empty ns.shape) refl) h
  where
    some : (b : Bool) → is_empty ns.shape ≡ b → b ≡ false
    some true t = let n = nothing_from ns [] t refl in cc
    some false t = refl
one_value l k (Separate ns (z ∷ zs)) u d f e h = one_address l k u d ns z zs f.some_bits f.few_bits (eqb-true k (pointer_bits l.machine) f.fits) f.offsets h
one_value l k (Mixed bs) u d f e h =
    absurd (let s = same_rest k nowhere nowhere (pos 0) (pos 1) (h (number_cells k nowhere (pos 0)) (number_cells k nowhere (pos 1)) (mixed_content l k u d bs (pos 0)) (mixed_content l k u d bs (pos 1))) in zero_one k f.some_bits s)

one_single : (l : Layout) (k : ℕ) (c : Cellv) → Fine l.machine k c → OneContent l k c → is_single k c ≡ true
unfolding OneContent
one_single l k c f h = at (has_no_value c.value) refl
  where
    from : (b : Bool) → has_no_value c.value ≡ b → cond b (is_one_flag c.uninit c.dead) (is_one_value k c.value && (not c.uninit && not c.dead)) ≡ true → is_single k c ≡ true
    from b e t = subst (λ x. cond x (is_one_flag c.uninit c.dead) (is_one_value k c.value && (not c.uninit && not c.dead)) ≡ true) (sym e) t

    no_both : c.uninit ≡ true → c.dead ≡ true → ⊥
    no_both u d = uninit_not_dead k f.some_bits (h (all_uninit k) (all_dead k) (uninit_content l k c f u) (dead_content l k c f d))

    at : (b : Bool) → has_no_value c.value ≡ b → is_single k c ≡ true
    at true e =
        from true e (elim (or_cases c.uninit c.dead (f.flag e)) [
          | inl u ↦ or_left (c.uninit && not c.dead) (not c.uninit && c.dead) (and_from c.uninit (not c.dead) u (no_flag c.dead (no_both u)))
          | inr u ↦ or_right (c.uninit && not c.dead) (not c.uninit && c.dead) (and_from (not c.uninit) c.dead (no_flag c.uninit (λ v. no_both v u)) u)
        ])
    at false e =
        let v = some_bits l k c f e in
        let n = no_flag c.uninit (λ u. bits_not_uninit k v.provenance (bits_of k v.number) f.some_bits (h (all_uninit k) (number_cells k v.provenance v.number) (uninit_content l k c f u) v.allows)) in
        let m = no_flag c.dead (λ u. bits_not_dead k v.provenance (bits_of k v.number) f.some_bits (h (all_dead k) (number_cells k v.provenance v.number) (dead_content l k c f u) v.allows)) in
        from false e (and_from (is_one_value k c.value) (not c.uninit && not c.dead) (one_value l k c.value c.uninit c.dead f e h) (and_from (not c.uninit) (not c.dead) n m))

pub single_laws : (l : Layout) → SingleLaws (Fine Lp64) (Allows l) SameCell is_single
unfolding OneContent
single_laws l = record {
  single_one = λ k c js ks f. single_one l k c js ks (fine k c f);
  one_single = λ k c f h. one_single l k c (fine k c f) h;
  some = λ k c f. some_content l k c (fine k c f);
  wide = λ k c ks a. a.0;
}
  where
    fine : (k : ℕ) (c : Cellv) → Fine Lp64 k c → Fine l.machine k c
    fine k c f = subst (λ (m : Machine). Fine m k c) (sym (machine_is l.machine)) f
