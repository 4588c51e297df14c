-- Cells that hold two cells, flags, known bits or anything.
use Rattle.std.proofs.Common.{◌≡◌, ℕ, ◌^◌, ◌<◌, ◌≤◌, ◌==◌, Bool, true, false, ◌||◌, List, [], ◌∷◌, length, map, refl, sym, subst, ap, ◌∙◌, inl, inr, arith}
use Rattle.std.specs.Prelude.{not, pos}
use Rattle.std.proofs.Math.Nat.{pow-le-pow_right, mod-eq_of_lt}
use Rattle.std.proofs.lemmas.Bool.{and_from, or_cases, or_left, or_right}
use Rattle.c_base.specs.declared.integer.Machine.{Machine}
use Rattle.c_base.specs.Integers.{number_of_bits}
use Rattle.ival_core.specs.declared.value.Ival.{Ival}
use Rattle.cell_laws.specs.Laws.{JoinLaws}
use Rattle.avalue_base.specs.Lists.{merged, all_among}
use Rattle.avalue_base.specs.Numbers.{is_empty, is_empty_list, lies_in, has_row, bit_numbers, word, join_of}
use Rattle.avalue_base.specs.Values.{Address, AVal, Separate, Mixed, Cellv, base_of, bases_of, has_no_value}
use Rattle.avalue_base.specs.Order.{is_part, is_among, value_in, implies, leq, both_addresses, united, join_values, join}
use Rattle.avalue_base.specs.Hues.{hue, unite, blank, value_admits, value_has, shade, with_number, with_bits, any_value, any, pointer_bits, fits_value}
use Rattle.avalue_base.specs.Pieces.{has_offsets}
use Rattle.avalue_base.specs.Ops.{ops, Fine, have_offsets}
use Rattle.avalue_base.proofs.Lists.{In-any, all-In, In-all, First, Second, From, merged_first, merged_second, merged_from, union_left, union_right, among-refl, among-none}
use Rattle.avalue_base.proofs.Sets.{lies-refl, join_is, join_left, join_right, join_some, held_residue, held_row, bit_row, word_held}
use Rattle.avalue_base.proofs.Words.{number_of_bits-below}
use Rattle.avalue_base.proofs.Ordering.{implies-refl, implies_left, implies_right, leq_from, within_parts, within_from, admits_from, empty_list, part_from, parts_in, parts_refl, nothing_parts, value_refl, value_nothing}

-- ---- values

united_left : (xs ys : List Address) → parts_in xs (united xs ys) ≡ true
united_left xs ys = In-all (is_among (united xs ys)) xs (λ a i. found a (merged_first base_of both_addresses xs a i ys))
  where
    found : (a : Address) → First base_of both_addresses a ys (united xs ys) → is_among (united xs ys) a ≡ true
    found a (inl j) = In-any (is_part a) (united xs ys) a j (part_from a a refl (lies-refl a.offsets))
    found a (inr b) = In-any (is_part a) (united xs ys) (both_addresses a b.0) b.3 (part_from a (both_addresses a b.0) refl (join_left a.offsets b.0.offsets))

united_right : (xs ys : List Address) → parts_in ys (united xs ys) ≡ true
united_right xs ys = In-all (is_among (united xs ys)) ys (λ b i. found b (merged_second base_of both_addresses xs ys b i))
  where
    found : (b : Address) → Second base_of both_addresses b xs (united xs ys) → is_among (united xs ys) b ≡ true
    found b (inl j) = In-any (is_part b) (united xs ys) b j (part_from b b refl (lies-refl b.offsets))
    found b (inr a) = In-any (is_part b) (united xs ys) (both_addresses a.0 b) a.3 (part_from b (both_addresses a.0 b) (sym a.2) (join_right a.0.offsets b.offsets))

pub value_join_left : (v w : AVal) → value_in v (join_values v w) ≡ true
value_join_left (Separate ns xs) (Separate ms ys) = and_from (lies_in ns.shape (join_of ns ms).shape) (parts_in xs (united xs ys)) (join_left ns ms) (united_left xs ys)
value_join_left (Separate ns xs) (Mixed bs) = union_left (map base_of xs) bs
value_join_left (Mixed bs) w = union_left bs (bases_of w)

pub value_join_right : (v w : AVal) → value_in w (join_values v w) ≡ true
value_join_right (Separate ns xs) (Separate ms ys) = and_from (lies_in ms.shape (join_of ns ms).shape) (parts_in ys (united xs ys)) (join_right ns ms) (united_right xs ys)
value_join_right (Separate ns xs) (Mixed bs) = union_right (map base_of xs) bs
value_join_right (Mixed bs) (Separate ms ys) = union_right bs (map base_of ys)
value_join_right (Mixed bs) (Mixed cs) = union_right bs cs

pub with_offsets : (a b : Address) → has_offsets a ≡ true → has_offsets (both_addresses a b) ≡ true
with_offsets a b h = not_empty (is_empty (join_of a.offsets b.offsets).shape) (join_some a.offsets b.offsets (empty_not (is_empty a.offsets.shape) h))
  where
    empty_not : (b : Bool) → not b ≡ true → b ≡ false
    empty_not true h = cc
    empty_not false h = refl

    not_empty : (b : Bool) → b ≡ false → not b ≡ true
    not_empty true h = cc
    not_empty false h = refl

pub join_offsets : (v w : AVal) → have_offsets v ≡ true → have_offsets w ≡ true → have_offsets (join_values v w) ≡ true
join_offsets (Separate ns xs) (Separate ms ys) h k = In-all has_offsets (united xs ys) (λ a i. found a (merged_from base_of both_addresses xs ys a i))
  where
    found : (a : Address) → From base_of both_addresses a xs ys → has_offsets a ≡ true
    found a (inl i) = all-In has_offsets xs h a i
    found a (inr (inl i)) = all-In has_offsets ys k a i
    found a (inr (inr p)) = subst (λ z. has_offsets z ≡ true) (sym p.5) (with_offsets p.0 p.1 (all-In has_offsets xs h p.0 p.2))
join_offsets (Separate ns xs) (Mixed bs) h k = refl
join_offsets (Mixed bs) w h k = refl

united_none : united [] [] ≡ []
unfolding merged
united_none = refl

join_fits : (machine : Machine) (k : ℕ) (v w : AVal) → fits_value machine k v ≡ true → fits_value machine k w ≡ true → fits_value machine k (join_values v w) ≡ true
join_fits machine k (Separate ns xs) (Separate ms ys) h g =
    elim (or_cases (is_empty_list xs) (k == pointer_bits machine) h) [
      | inr e ↦ or_right (is_empty_list (united xs ys)) (k == pointer_bits machine) e
      | inl e ↦ elim (or_cases (is_empty_list ys) (k == pointer_bits machine) g) [
        | inr f ↦ or_right (is_empty_list (united xs ys)) (k == pointer_bits machine) f
        | inl f ↦ or_left (is_empty_list (united xs ys)) (k == pointer_bits machine)
            (subst (λ as'. is_empty_list (united as' ys) ≡ true) (sym (empty_list xs e))
            (subst (λ bs. is_empty_list (united [] bs) ≡ true) (sym (empty_list ys f)) (ap is_empty_list united_none)))
      ]
    ]
join_fits machine k (Separate ns xs) (Mixed bs) h g = refl
join_fits machine k (Mixed bs) w h g = refl

-- ---- flags

some_flag : (a b c d : Bool) → (a || b) ≡ true → ((a || c) || (b || d)) ≡ true
some_flag true b c d h = refl
some_flag false true true d h = refl
some_flag false true false d h = refl
some_flag false false c d h = cc

or_same : (a b : Bool) → implies b a ≡ true → (a || b) ≡ a
or_same true b h = refl
or_same false true h = cc
or_same false false h = refl

nothing_bases : (v : AVal) → has_no_value v ≡ true → bases_of v ≡ []
nothing_bases (Separate ns xs) h = ap (map base_of) (nothing_parts ns xs h).1
nothing_bases (Mixed bs) h = cc

-- ---- known bits

with_number_in : (v : AVal) (n : Ival) → value_in v (with_number v n) ≡ true
with_number_in (Separate ns xs) n = and_from (lies_in ns.shape (join_of ns n).shape) (parts_in xs xs) (join_left ns n) (parts_refl xs)
with_number_in (Mixed bs) n = among-refl bs

with_number_fits : (machine : Machine) (k : ℕ) (v : AVal) (n : Ival) → fits_value machine k v ≡ true → fits_value machine k (with_number v n) ≡ true
with_number_fits machine k (Separate ns xs) n h = h
with_number_fits machine k (Mixed bs) n h = h

with_number_offsets : (v : AVal) (n : Ival) → have_offsets v ≡ true → have_offsets (with_number v n) ≡ true
with_number_offsets (Separate ns xs) n h = h
with_number_offsets (Mixed bs) n h = h

with_number_has : (k : ℕ) (v : AVal) (bits : List Bool) → k ≤ 64 → length bits ≡ k → value_has k (with_number v (word (number_of_bits bits))) bits ≡ true
with_number_has k (Separate ns xs) bits h e =
    let b = number_of_bits-below bits in
    let small : number_of_bits bits < 2 ^ k = subst (λ j. number_of_bits bits < 2 ^ j) e b in
    let two : 0 < 2 = omega arith in
    let p : 2 ^ k ≤ 2 ^ 64 = pow-le-pow_right two h in
    held_residue (join_of ns (word (number_of_bits bits))) (2 ^ k) (number_of_bits bits) (pos (number_of_bits bits))
    ((join_is ns (word (number_of_bits bits))).second (pos (number_of_bits bits)) (word_held (number_of_bits bits) (omega arith)))
    (mod-eq_of_lt small)
with_number_has k (Mixed bs) bits h e = refl

pub false_or_true : (b : Bool) → (b ≡ true → ⊥) → b ≡ false
false_or_true true f = absurd (f refl)
false_or_true false f = refl

true_false : (b : Bool) → b ≡ true → b ≡ false → ⊥
true_false true h k = cc
true_false false h k = cc

not_blank : (v w : AVal) → value_in v w ≡ true → has_no_value v ≡ false → has_no_value w ≡ true → ⊥
not_blank v w h e f = true_false (has_no_value v) (value_nothing v w h f) e

-- ---- anything

any_value_admits : (g bs : List ℕ) → all_among g bs ≡ true → value_admits 1 (any_value bs) g ≡ true
any_value_admits g [] h =
    let none : g ≡ [] = among-none g h in
    and_from (is_empty_list g) (has_row bit_numbers.shape (2 ^ 1)) (ap is_empty_list none) (held_row bit_numbers (2 ^ 1) bit_row)
any_value_admits g (b ∷ bs) h = h

any_value_fits : (machine : Machine) (bs : List ℕ) → fits_value machine 1 (any_value bs) ≡ true
any_value_fits machine [] = refl
any_value_fits machine (b ∷ bs) = refl

any_value_offsets : (bs : List ℕ) → have_offsets (any_value bs) ≡ true
any_value_offsets [] = refl
any_value_offsets (b ∷ bs) = refl

any_value_some : (bs : List ℕ) → has_no_value (any_value bs) ≡ true → ⊥
unfolding bit_numbers
any_value_some [] h = cc
any_value_some (b ∷ bs) h = cc

-- ---- the laws

pub join_leq_left : (x y : Cellv) → leq x (join x y) ≡ true
join_leq_left x y = leq_from x (join x y) (record { first = value_join_left x.value y.value; second = implies_left x.uninit y.uninit; third = implies_left x.dead y.dead })

pub join_leq_right : (x y : Cellv) → leq y (join x y) ≡ true
join_leq_right x y = leq_from y (join x y) (record { first = value_join_right x.value y.value; second = implies_right x.uninit y.uninit; third = implies_right x.dead y.dead })

shade_is : (a b c d : Bool) (v : AVal) → (a || c) ≡ a → (b || d) ≡ b →
    ◌≡◌ {A = Cellv} (record { value = v; uninit = a || c; dead = b || d }) (record { value = v; uninit = a; dead = b })
shade_is a b c d v e f = ap (λ z. record { value = v; uninit = z; dead = b || d }) e ∙ ap (λ z. record { value = v; uninit = a; dead = z }) f

pub join_laws : (machine : Machine) → JoinLaws (ops machine) (Fine machine)
join_laws machine = record {
  unite_left = λ g h. within_from g (unite g h) (record { first = union_left g.bases h.bases; second = implies_left g.uninit h.uninit; third = implies_left g.dead h.dead });
  unite_right = λ g h. within_from h (unite g h) (record { first = union_right g.bases h.bases; second = implies_right g.uninit h.uninit; third = implies_right g.dead h.dead });
  join_fine = λ k x y f g.
      let none : blank (join x y) ≡ true → blank x ≡ true = λ e. value_nothing x.value (join_values x.value y.value) (value_join_left x.value y.value) e in
      record {
        some_bits = f.some_bits;
        few_bits = f.few_bits;
        blank_bits = λ e. f.blank_bits (none e);
        flag = λ e. some_flag x.uninit x.dead y.uninit y.dead (f.flag (none e));
        fits = join_fits machine k x.value y.value f.fits g.fits;
        offsets = join_offsets x.value y.value f.offsets g.offsets;
      };
  join_left = λ k x y f g. join_leq_left x y;
  join_right = λ k x y f g. join_leq_right x y;
  shade_fine = λ k y h f e. record {
    some_bits = f.some_bits;
    few_bits = f.few_bits;
    blank_bits = λ b. f.blank_bits b;
    flag = λ b. some_flag y.uninit y.dead h.uninit h.dead (f.flag b);
    fits = f.fits;
    offsets = f.offsets;
  };
  shade_blank = λ k y h f e. e;
  shade_leq = λ k y h f e. leq_from y (shade y h) (record { first = value_refl y.value; second = implies_left y.uninit h.uninit; third = implies_left y.dead h.dead });
  shade_hue = λ j k x y f g e. within_from (hue x) (hue (shade y (hue x))) (record {
    first = subst (λ bs. all_among bs (bases_of y.value) ≡ true) (sym (nothing_bases x.value e)) refl;
    second = implies_right y.uninit x.uninit;
    third = implies_right y.dead x.dead;
  });
  shade_same = λ j k x y f g e h.
      let p = within_parts (hue x) (hue y) h in
      shade_is y.uninit y.dead x.uninit x.dead y.value (or_same y.uninit x.uninit p.second) (or_same y.dead x.dead p.third);
  with_fine = λ k y bits f e w. record {
    some_bits = f.some_bits;
    few_bits = f.few_bits;
    blank_bits = λ b. absurd (not_blank y.value (with_number y.value (word (number_of_bits bits))) (with_number_in y.value (word (number_of_bits bits))) e b);
    flag = λ b. absurd (not_blank y.value (with_number y.value (word (number_of_bits bits))) (with_number_in y.value (word (number_of_bits bits))) e b);
    fits = with_number_fits machine k y.value (word (number_of_bits bits)) f.fits;
    offsets = with_number_offsets y.value (word (number_of_bits bits)) f.offsets;
  };
  with_leq = λ k y bits f e w. leq_from y (with_bits k y bits) (record { first = with_number_in y.value (word (number_of_bits bits)); second = implies-refl y.uninit; third = implies-refl y.dead });
  with_has = λ k y bits f e w. with_number_has k y.value bits f.few_bits w;
  any_fine = λ h. record {
    some_bits = omega arith;
    few_bits = omega arith;
    blank_bits = λ e. refl;
    flag = λ e. absurd (any_value_some h.bases e);
    fits = any_value_fits machine h.bases;
    offsets = any_value_offsets h.bases;
  };
  any_admits = λ g h e.
      let p = within_parts g h e in
      admits_from 1 (any h) g (record { first = any_value_admits g.bases h.bases p.first; second = p.second; third = p.third });
}
