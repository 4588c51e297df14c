-- The order of cells, and what they tell of their bits.
use Rattle.std.proofs.Common.{◌≡◌, ℕ, ◌^◌, ◌<◌, ◌≤◌, ◌==◌, Bool, true, false, cond, ◌&&◌, ◌||◌, ℤ, pos, ◌+ℤ◌, List, [], ◌∷◌, map, refl, sym, subst, ap, ◌∙◌, inl, inr, arith, eq-eqb}
use Rattle.std.specs.Prelude.{Option, None, Some}
use Rattle.std.specs.List.{list_all}
use Rattle.std.proofs.lemmas.Bool.{and_parts, and_from, or_cases, eqb-true}
use Rattle.std.proofs.lemmas.Nat.{pow_pos}
use Rattle.std.proofs.Math.Nat.{pow-le-pow_right}
use Rattle.c_base.specs.declared.integer.Machine.{Machine}
use Rattle.c_base.specs.Integers.{residue, bits_from, number_of_bits}
use Rattle.ival_core.specs.declared.value.Ival.{Ival}
use Rattle.cell_laws.specs.Elements.{bit_at}
use Rattle.cell_laws.specs.Laws.{FineLaws, OrderLaws}
use Rattle.avalue_base.specs.Lists.{has_base, all_among, In}
use Rattle.avalue_base.specs.Numbers.{is_empty, is_empty_list, lies_in, has_row, rest_in}
use Rattle.avalue_base.specs.Values.{Address, AVal, Separate, Mixed, Cellv, base_of, bases_of, has_no_value}
use Rattle.avalue_base.specs.Order.{is_part, is_among, value_in, implies, leq}
use Rattle.avalue_base.specs.Hues.{Hue, hue, within, blank, value_admits, admits, value_rest, known_rest, bit_in, bit, value_has}
use Rattle.avalue_base.specs.Ops.{ops, Fine}
use Rattle.avalue_base.proofs.Lists.{In-any, any-In, all-In, In-all, In-map, map-In, In-has, among-refl, among-trans, among-none}
use Rattle.avalue_base.proofs.Sets.{lies-includes, lies-refl, lies-trans, lies-empty, empty_none, Row, row_held, row_included, residue_held, held_residue}
use Rattle.avalue_base.proofs.Rests.{rest_held, rest_included, rest_minus, zero_one}
use Rattle.avalue_base.proofs.Words.{bits_from-number_of_bits}

-- ---- flags

pub implies-refl : (b : Bool) → implies b b ≡ true
implies-refl true = refl
implies-refl false = refl

pub implies-trans : (a b c : Bool) → implies a b ≡ true → implies b c ≡ true → implies a c ≡ true
implies-trans true true true h k = refl
implies-trans true true false h k = cc
implies-trans true false c h k = cc
implies-trans false b c h k = refl

pub implied : (a b : Bool) → implies a b ≡ true → a ≡ true → b ≡ true
implied true true h e = refl
implied true false h e = cc
implied false b h e = cc

pub implied_not : (a b : Bool) → implies a b ≡ true → b ≡ false → a ≡ false
implied_not true true h e = cc
implied_not true false h e = cc
implied_not false b h e = refl

pub implies_false : (b : Bool) → implies false b ≡ true
implies_false b = refl

pub implies_left : (a b : Bool) → implies a (a || b) ≡ true
implies_left true b = refl
implies_left false b = refl

pub implies_right : (a b : Bool) → implies b (a || b) ≡ true
implies_right true true = refl
implies_right true false = refl
implies_right false true = refl
implies_right false false = refl

-- three tests
pub record Three (a b c : Bool) : Type 0 where
  pub first : a ≡ true
  pub second : b ≡ true
  pub third : c ≡ true

pub three : (a b c : Bool) → (a && (b && c)) ≡ true → Three a b c
three a b c h = let p = and_parts a (b && c) h in let q = and_parts b c p.1 in record { first = p.0; second = q.0; third = q.1 }

pub all_three : (a b c : Bool) → Three a b c → (a && (b && c)) ≡ true
all_three a b c t = and_from a (b && c) t.first (and_from b c t.second t.third)

pub leq_parts : (x y : Cellv) → leq x y ≡ true → Three (value_in x.value y.value) (implies x.uninit y.uninit) (implies x.dead y.dead)
leq_parts x y h = three (value_in x.value y.value) (implies x.uninit y.uninit) (implies x.dead y.dead) h

pub leq_from : (x y : Cellv) → Three (value_in x.value y.value) (implies x.uninit y.uninit) (implies x.dead y.dead) → leq x y ≡ true
leq_from x y t = all_three (value_in x.value y.value) (implies x.uninit y.uninit) (implies x.dead y.dead) t

pub within_parts : (g h : Hue) → within g h ≡ true → Three (all_among g.bases h.bases) (implies g.uninit h.uninit) (implies g.dead h.dead)
within_parts g h e = three (all_among g.bases h.bases) (implies g.uninit h.uninit) (implies g.dead h.dead) e

pub within_from : (g h : Hue) → Three (all_among g.bases h.bases) (implies g.uninit h.uninit) (implies g.dead h.dead) → within g h ≡ true
within_from g h t = all_three (all_among g.bases h.bases) (implies g.uninit h.uninit) (implies g.dead h.dead) t

pub admits_parts : (k : ℕ) (y : Cellv) (h : Hue) → admits k y h ≡ true → Three (value_admits k y.value h.bases) (implies h.uninit y.uninit) (implies h.dead y.dead)
admits_parts k y h e = three (value_admits k y.value h.bases) (implies h.uninit y.uninit) (implies h.dead y.dead) e

pub admits_from : (k : ℕ) (y : Cellv) (h : Hue) → Three (value_admits k y.value h.bases) (implies h.uninit y.uninit) (implies h.dead y.dead) → admits k y h ≡ true
admits_from k y h t = all_three (value_admits k y.value h.bases) (implies h.uninit y.uninit) (implies h.dead y.dead) t

-- ---- addresses

pub empty_list : {X : Type 0} (xs : List X) → is_empty_list xs ≡ true → xs ≡ []
empty_list [] e = refl
empty_list (x ∷ xs) e = cc

pub part_base : (a b : Address) → is_part a b ≡ true → a.base ≡ b.base
part_base a b h = eqb-true a.base b.base (and_parts (a.base == b.base) (lies_in a.offsets.shape b.offsets.shape) h).0

pub part_lies : (a b : Address) → is_part a b ≡ true → lies_in a.offsets.shape b.offsets.shape ≡ true
part_lies a b h = (and_parts (a.base == b.base) (lies_in a.offsets.shape b.offsets.shape) h).1

pub part_from : (a b : Address) → a.base ≡ b.base → lies_in a.offsets.shape b.offsets.shape ≡ true → is_part a b ≡ true
part_from a b e h = and_from (a.base == b.base) (lies_in a.offsets.shape b.offsets.shape) (eq-eqb a.base b.base e) h

pub part_trans : (a b c : Address) → is_part a b ≡ true → is_part b c ≡ true → is_part a c ≡ true
part_trans a b c h k = part_from a c (part_base a b h ∙ part_base b c k) (lies-trans a.offsets b.offsets c.offsets (part_lies a b h) (part_lies b c k))

abbrev pub parts_in : List Address → List Address → Bool
parts_in xs ys = list_all (is_among ys) xs

pub parts_refl : (xs : List Address) → parts_in xs xs ≡ true
parts_refl xs = In-all (is_among xs) xs (λ a i. In-any (is_part a) xs a i (part_from a a refl (lies-refl a.offsets)))

pub parts_trans : (xs ys zs : List Address) → parts_in xs ys ≡ true → parts_in ys zs ≡ true → parts_in xs zs ≡ true
parts_trans xs ys zs h k =
    In-all (is_among zs) xs (λ a i.
    let b = any-In (is_part a) ys (all-In (is_among ys) xs h a i) in
    let c = any-In (is_part b.0) zs (all-In (is_among zs) ys k b.0 b.1) in
    In-any (is_part a) zs c.0 c.1 (part_trans a b.0 c.0 b.2 c.2))

pub parts_among : (xs ys : List Address) → parts_in xs ys ≡ true → all_among (map base_of xs) (map base_of ys) ≡ true
parts_among xs ys h =
    In-all (has_base (map base_of ys)) (map base_of xs) (λ q i.
    let a = map-In base_of xs q i in
    let b = any-In (is_part a.0) ys (all-In (is_among ys) xs h a.0 a.1) in
    In-has (map base_of ys) q (subst (In (map base_of ys)) (sym (a.2 ∙ part_base a.0 b.0 b.2)) (In-map base_of ys b.0 b.1)))

pub parts_none : (xs : List Address) → parts_in xs [] ≡ true → xs ≡ []
parts_none [] h = refl
parts_none (x ∷ xs) h = cc

-- ---- values

pub value_refl : (v : AVal) → value_in v v ≡ true
value_refl (Separate ns xs) = and_from (lies_in ns.shape ns.shape) (parts_in xs xs) (lies-refl ns) (parts_refl xs)
value_refl (Mixed bs) = among-refl bs

pub separate_parts : (ns ms : Ival) (xs ys : List Address) → value_in (Separate ns xs) (Separate ms ys) ≡ true → (lies_in ns.shape ms.shape ≡ true) × (parts_in xs ys ≡ true)
separate_parts ns ms xs ys h = and_parts (lies_in ns.shape ms.shape) (parts_in xs ys) h

pub value_trans : (u v w : AVal) → value_in u v ≡ true → value_in v w ≡ true → value_in u w ≡ true
value_trans (Separate ns xs) (Separate ms ys) (Separate ls zs) h k =
    let a = separate_parts ns ms xs ys h in
    let b = separate_parts ms ls ys zs k in
    and_from (lies_in ns.shape ls.shape) (parts_in xs zs) (lies-trans ns ms ls a.0 b.0) (parts_trans xs ys zs a.1 b.1)
value_trans (Separate ns xs) (Separate ms ys) (Mixed cs) h k = among-trans (map base_of xs) (map base_of ys) cs (parts_among xs ys (separate_parts ns ms xs ys h).1) k
value_trans (Separate ns xs) (Mixed bs) (Separate ls zs) h k = cc
value_trans (Separate ns xs) (Mixed bs) (Mixed cs) h k = among-trans (map base_of xs) bs cs h k
value_trans (Mixed as') (Separate ms ys) w h k = cc
value_trans (Mixed as') (Mixed bs) (Separate ls zs) h k = cc
value_trans (Mixed as') (Mixed bs) (Mixed cs) h k = among-trans as' bs cs h k

pub value_bases : (v w : AVal) → value_in v w ≡ true → all_among (bases_of v) (bases_of w) ≡ true
value_bases (Separate ns xs) (Separate ms ys) h = parts_among xs ys (separate_parts ns ms xs ys h).1
value_bases (Separate ns xs) (Mixed bs) h = h
value_bases (Mixed as') (Separate ms ys) h = cc
value_bases (Mixed as') (Mixed bs) h = h

pub nothing_parts : (ns : Ival) (xs : List Address) → has_no_value (Separate ns xs) ≡ true → (is_empty ns.shape ≡ true) × (xs ≡ [])
nothing_parts ns xs h = let p = and_parts (is_empty ns.shape) (is_empty_list xs) h in (p.0, empty_list xs p.1)

pub nothing_from : (ns : Ival) (xs : List Address) → is_empty ns.shape ≡ true → xs ≡ [] → has_no_value (Separate ns xs) ≡ true
nothing_from ns xs e f = and_from (is_empty ns.shape) (is_empty_list xs) e (ap is_empty_list f)

pub value_nothing : (v w : AVal) → value_in v w ≡ true → has_no_value w ≡ true → has_no_value v ≡ true
value_nothing (Separate ns xs) (Separate ms ys) h e =
    let p = separate_parts ns ms xs ys h in
    let q = nothing_parts ms ys e in
    nothing_from ns xs (lies-empty ns ms p.0 q.0) (parts_none xs (subst (λ zs. parts_in xs zs ≡ true) q.1 p.1))
value_nothing (Separate ns xs) (Mixed bs) h e = cc
value_nothing (Mixed as') (Separate ms ys) h e = cc
value_nothing (Mixed as') (Mixed bs) h e = cc

pub value_admits_in : (k : ℕ) (v w : AVal) (bs : List ℕ) → value_in v w ≡ true → value_admits k v bs ≡ true → value_admits k w bs ≡ true
value_admits_in k (Separate ns xs) (Separate ms ys) bs h e =
    let p = and_parts (is_empty_list bs) (has_row ns.shape (2 ^ k)) e in
    and_from (is_empty_list bs) (has_row ms.shape (2 ^ k)) p.0 (row_included ns ms (2 ^ k) (lies-includes ns ms (separate_parts ns ms xs ys h).0) p.1)
value_admits_in k (Separate ns xs) (Mixed cs) bs h e =
    let p = and_parts (is_empty_list bs) (has_row ns.shape (2 ^ k)) e in
    subst (λ zs. all_among zs cs ≡ true) (sym (empty_list bs p.0)) refl
value_admits_in k (Mixed as') (Separate ms ys) bs h e = cc
value_admits_in k (Mixed as') (Mixed cs) bs h e = among-trans bs as' cs e h

pub value_admits_less : (k : ℕ) (v : AVal) (as' bs : List ℕ) → all_among as' bs ≡ true → value_admits k v bs ≡ true → value_admits k v as' ≡ true
value_admits_less k (Separate ns xs) as' bs h e =
    let p = and_parts (is_empty_list bs) (has_row ns.shape (2 ^ k)) e in
    let none : as' ≡ [] = among-none as' (subst (λ zs. all_among as' zs ≡ true) (empty_list bs p.0) h) in
    and_from (is_empty_list as') (has_row ns.shape (2 ^ k)) (ap is_empty_list none) p.1
value_admits_less k (Mixed cs) as' bs h e = among-trans as' bs cs h e

pub value_admits_bases : (k : ℕ) (v : AVal) (bs : List ℕ) → value_admits k v bs ≡ true → all_among bs (bases_of v) ≡ true
value_admits_bases k (Separate ns xs) bs e =
    let p = and_parts (is_empty_list bs) (has_row ns.shape (2 ^ k)) e in
    subst (λ zs. all_among zs (map base_of xs) ≡ true) (sym (empty_list bs p.0)) refl
value_admits_bases k (Mixed cs) bs e = e

value_admits_some : (k : ℕ) (v : AVal) (bs : List ℕ) → value_admits k v bs ≡ true → has_no_value v ≡ true → ⊥
value_admits_some k (Separate ns xs) bs e n =
    let p = and_parts (is_empty_list bs) (has_row ns.shape (2 ^ k)) e in
    let r = row_held ns (2 ^ k) p.1 in
    empty_none ns r.first (nothing_parts ns xs n).0 r.held
value_admits_some k (Mixed cs) bs e n = cc

pub value_has_in : (k : ℕ) (v w : AVal) (bits : List Bool) → value_in v w ≡ true → value_has k v bits ≡ true → value_has k w bits ≡ true
value_has_in k (Separate ns xs) (Separate ms ys) bits h e =
    let n = residue_held ns (2 ^ k) (number_of_bits bits) e in
    held_residue ms (2 ^ k) (number_of_bits bits) n.0 (lies-includes ns ms (separate_parts ns ms xs ys h).0 n.0 n.1) n.2
value_has_in k (Separate ns xs) (Mixed cs) bits h e = refl
value_has_in k (Mixed as') (Separate ms ys) bits h e = cc
value_has_in k (Mixed as') (Mixed cs) bits h e = refl

value_has_some : (k : ℕ) (v : AVal) (bits : List Bool) → value_has k v bits ≡ true → has_no_value v ≡ true → ⊥
value_has_some k (Separate ns xs) bits e n =
    let a = residue_held ns (2 ^ k) (number_of_bits bits) e in
    empty_none ns a.0 (nothing_parts ns xs n).0 a.1
value_has_some k (Mixed cs) bits e n = cc

-- ---- known numbers

-- all numbers leave r modulo 2^k, and there is nothing else
pub record Known (k : ℕ) (c : Cellv) (r : ℕ) : Type 0 where
  pub uninit : c.uninit ≡ false
  pub dead : c.dead ≡ false
  pub numbers : Ival
  pub value : c.value ≡ Separate numbers []
  pub rest : rest_in k numbers.shape ≡ Some r

known_value : (k : ℕ) (v : AVal) (r : ℕ) → value_rest k v ≡ Some r → (numbers : Ival) × (v ≡ Separate numbers []) × (rest_in k numbers.shape ≡ Some r)
known_value k (Separate ns []) r e = (ns, refl, e)
known_value k (Separate ns (x ∷ xs)) r e = cc
known_value k (Mixed bs) r e = cc

pub known_parts : (k : ℕ) (c : Cellv) (r : ℕ) → known_rest k c ≡ Some r → Known k c r
known_parts k c r e =
    let f = flags c.uninit c.dead (value_rest k c.value) e in
    let v = known_value k c.value r f.2 in
    record { uninit = f.0; dead = f.1; numbers = v.0; value = v.1; rest = v.2 }
  where
    flags : (a b : Bool) (o : Option ℕ) → cond (a || b) None o ≡ Some r → (a ≡ false) × (b ≡ false) × (o ≡ Some r)
    flags true b o e = cc
    flags false true o e = cc
    flags false false o e = (refl, refl, e)

pub known_from : (k : ℕ) (c : Cellv) (r : ℕ) → Known k c r → known_rest k c ≡ Some r
known_from k c r h = rw (h.uninit, h.dead, h.value) h.rest

pub known_bit : (k i : ℕ) (c : Cellv) (b : Bool) → bit k i c ≡ Some b → (r : ℕ) × Known k c r × (bit_at (bits_from r k) i ≡ Some b)
known_bit k i c b e = let a = at (known_rest k c) e in (a.0, known_parts k c a.0 a.1, a.2)
  where
    at : (o : Option ℕ) → bit_in k i o ≡ Some b → (r : ℕ) × (o ≡ Some r) × (bit_at (bits_from r k) i ≡ Some b)
    at None e = cc
    at (Some r) e = (r, refl, e)

pub bit_known : (k i : ℕ) (c : Cellv) (b : Bool) (r : ℕ) → Known k c r → bit_at (bits_from r k) i ≡ Some b → bit k i c ≡ Some b
bit_known k i c b r h e = ap (bit_in k i) (known_from k c r h) ∙ e

clash : (b : Bool) → b ≡ true → b ≡ false → ⊥
clash true h k = cc
clash false h k = cc

not_true : (b : Bool) → (b ≡ true → ⊥) → b ≡ false
not_true true f = absurd (f refl)
not_true false f = refl

no_flags : (c : Cellv) → c.uninit ≡ false → c.dead ≡ false → (c.uninit || c.dead) ≡ true → ⊥
no_flags c e f h = elim (or_cases c.uninit c.dead h) [ inl a ↦ clash c.uninit a e | inr b ↦ clash c.dead b f ]

pub known_leq : (k : ℕ) (x y : Cellv) (r : ℕ) → k ≤ 64 → (blank x ≡ true → (x.uninit || x.dead) ≡ true) → leq x y ≡ true → Known k y r → Known k x r
known_leq k x y r few f h n =
    let l = leq_parts x y h in
    let uninit : x.uninit ≡ false = implied_not x.uninit y.uninit l.second n.uninit in
    let dead : x.dead ≡ false = implied_not x.dead y.dead l.third n.dead in
    let v = at x.value (λ e. no_flags x uninit dead (f e)) n.numbers n.rest (subst (λ w. value_in x.value w ≡ true) n.value l.first) in
    record { uninit = uninit; dead = dead; numbers = v.0; value = v.1; rest = v.2 }
  where
    at : (v : AVal) → (has_no_value v ≡ true → ⊥) → (ms : Ival) → rest_in k ms.shape ≡ Some r → value_in v (Separate ms []) ≡ true → (ns : Ival) × (v ≡ Separate ns []) × (rest_in k ns.shape ≡ Some r)
    at (Separate ns xs) f ms s h =
        let p = separate_parts ns ms xs [] h in
        let none = parts_none xs p.1 in
        (ns, ap (Separate ns) none, rest_included k ns ms r few (lies-includes ns ms p.0) (not_true (is_empty ns.shape) (λ e. f (nothing_from ns xs e none))) s)
    at (Mixed bs) f ms s h = cc

-- two neighbours don't leave the same
two_rows : (ns : Ival) (r k : ℕ) → 0 < k → k ≤ 64 → rest_in k ns.shape ≡ Some r → Row ns (2 ^ k) → ⊥
two_rows ns r k h few s w =
    let q : 1 ≤ k = omega arith in
    let two : 0 < 2 = omega arith in
    let p : 2 ^ 1 ≤ 2 ^ k = pow-le-pow_right two q in
    let a : residue (2 ^ k) (w.first +ℤ pos 0) ≡ r = rest_held k ns r (w.first +ℤ pos 0) few s (w.next 0 (omega arith)) in
    let b : residue (2 ^ k) (w.first +ℤ pos 1) ≡ r = rest_held k ns r (w.first +ℤ pos 1) few s (w.next 1 (omega arith)) in
    zero_one k h (rest_minus (2 ^ k) w.first (pos 0) (pos 1) (pow_pos k) (a ∙ sym b))

-- ---- the laws

pub fine_laws : (machine : Machine) → FineLaws (ops machine) (Fine machine)
fine_laws machine = record {
  some_bits = λ k x f. f.some_bits;
  few_bits = λ k x f. f.few_bits;
  blank_bits = λ k x f e. f.blank_bits e;
}

pub order_laws : (machine : Machine) → OrderLaws (ops machine) (Fine machine)
order_laws machine = record {
  leq_refl = λ k x f. leq_from x x (record { first = value_refl x.value; second = implies-refl x.uninit; third = implies-refl x.dead });
  leq_trans = λ k x y z f g h a b.
      let p = leq_parts x y a in
      let q = leq_parts y z b in
      leq_from x z (record {
        first = value_trans x.value y.value z.value p.first q.first;
        second = implies-trans x.uninit y.uninit z.uninit p.second q.second;
        third = implies-trans x.dead y.dead z.dead p.third q.third;
      });
  within_refl = λ h. within_from h h (record { first = among-refl h.bases; second = implies-refl h.uninit; third = implies-refl h.dead });
  within_trans = λ g h i a b.
      let p = within_parts g h a in
      let q = within_parts h i b in
      within_from g i (record {
        first = among-trans g.bases h.bases i.bases p.first q.first;
        second = implies-trans g.uninit h.uninit i.uninit p.second q.second;
        third = implies-trans g.dead h.dead i.dead p.third q.third;
      });
  hue_leq = λ k x y f g a.
      let p = leq_parts x y a in
      within_from (hue x) (hue y) (record { first = value_bases x.value y.value p.first; second = p.second; third = p.third });
  blank_leq = λ k x y f g a e. value_nothing x.value y.value (leq_parts x y a).first e;
  bit_leq = λ k i x y b f g l a e.
      let n = known_bit k i y b e in
      bit_known k i x b n.0 (known_leq k x y n.0 f.few_bits f.flag a n.1) n.2;
  admits_leq = λ k x y h f g a e.
      let p = leq_parts x y a in
      let q = admits_parts k x h e in
      admits_from k y h (record {
        first = value_admits_in k x.value y.value h.bases p.first q.first;
        second = implies-trans h.uninit x.uninit y.uninit q.second p.second;
        third = implies-trans h.dead x.dead y.dead q.third p.third;
      });
  admits_within = λ k y g h f a e.
      let p = within_parts g h a in
      let q = admits_parts k y h e in
      admits_from k y g (record {
        first = value_admits_less k y.value g.bases h.bases p.first q.first;
        second = implies-trans g.uninit h.uninit y.uninit p.second q.second;
        third = implies-trans g.dead h.dead y.dead p.third q.third;
      });
  admits_hue = λ k y h f e.
      let q = admits_parts k y h e in
      within_from h (hue y) (record { first = value_admits_bases k y.value h.bases q.first; second = q.second; third = q.third });
  admits_blank = λ k y h f e n. value_admits_some k y.value h.bases (admits_parts k y h e).first n;
  admits_bit = λ k i y h b f l e s.
      let n = known_bit k i y b s in
      let q = subst (λ v. value_admits k v h.bases ≡ true) n.1.value (admits_parts k y h e).first in
      let p = and_parts (is_empty_list h.bases) (has_row n.1.numbers.shape (2 ^ k)) q in
      two_rows n.1.numbers n.0 k f.some_bits f.few_bits n.1.rest (row_held n.1.numbers (2 ^ k) p.1);
  bit_hue = λ k i x h b f l s.
      let n = known_bit k i x b s in
      within_from (hue x) h (record {
        first = subst (λ v. all_among (bases_of v) h.bases ≡ true) (sym n.1.value) refl;
        second = subst (λ a. implies a h.uninit ≡ true) (sym n.1.uninit) refl;
        third = subst (λ a. implies a h.dead ≡ true) (sym n.1.dead) refl;
      });
  blank_bit = λ j k i x y b f g l e a s.
      let n = known_bit k i y b s in
      let p = within_parts (hue x) (hue y) a in
      no_flags x (implied_not x.uninit y.uninit p.second n.1.uninit) (implied_not x.dead y.dead p.third n.1.dead) (f.flag e);
  has_leq = λ k x y bits f g l a e. value_has_in k x.value y.value bits (leq_parts x y a).first e;
  has_bit = λ k i y bits b f l w e s.
      let n = known_bit k i y b s in
      let q = subst (λ v. value_has k v bits ≡ true) n.1.value e in
      let a = residue_held n.1.numbers (2 ^ k) (number_of_bits bits) q in
      let is : n.0 ≡ number_of_bits bits = sym (rest_held k n.1.numbers n.0 a.0 f.few_bits n.1.rest a.1) ∙ a.2 in
      let same : bits_from n.0 k ≡ bits = ap (λ r. bits_from r k) is ∙ ap (bits_from (number_of_bits bits)) (sym w) ∙ bits_from-number_of_bits bits in
      subst (λ bs. bit_at bs i ≡ Some b) same n.2;
  has_blank = λ k y bits f l e n. value_has_some k y.value bits e n;
}
