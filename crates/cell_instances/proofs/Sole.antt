-- Sole cells are single, and single cells with near offsets are sole.
use Rattle.std.proofs.Common.{◌≡◌, ℕ, ◌^◌, Bool, true, false, cond, ◌&&◌, ℤ, pos, ◌+ℤ◌, List, [], ◌∷◌, refl, sym, ap, ◌∙◌, subst, arith, inl}
use Rattle.std.specs.Prelude.{not, neg_ℤ, int_le, Option, None, Some}
use Rattle.std.specs.List.{AllByRecursion, list_all}
use Rattle.std.proofs.lemmas.Bool.{and_parts, and_from, eqb-true}
use Rattle.std.proofs.lemmas.Int.{ints}
use Rattle.c_base.specs.Integers.{residue}
use Rattle.c_base.specs.declared.integer.Machine.TheVariants.{Lp64}
use Rattle.c_memory.specs.Layouts.{Layout}
use Rattle.ival_core.specs.Ivals.{Holds, IsOnly}
use Rattle.ival_core.specs.Views.{bounds_of, single_of}
use Rattle.ival_core.proofs.Orders.{true_le}
use Rattle.avalue_base.specs.Numbers.{is_empty, rest_in}
use Rattle.avalue_base.specs.Values.{Address, AVal, Separate, Mixed, Cellv, has_no_value}
use Rattle.avalue_base.specs.Hues.{pointer_bits, fits_value}
use Rattle.avalue_base.specs.Meets.{lies_near, has_near_offsets}
use Rattle.avalue_base.specs.Ops.{Fine, IsSound, have_offsets}
use Rattle.avalue_base.specs.Pieces.{has_offsets, no_value, unwritten}
use Rattle.avalue_base.proofs.Meets.{near_held, one_offset}
use Rattle.avalue_base.proofs.Rests.{rest_held}
use Rattle.avalue_base.proofs.Sets.{some_held, none_is_empty}
use Rattle.cell_laws.specs.Elements.{Element, AllFine}
use Rattle.run_orders.specs.Singles.{all_single}
use Rattle.cell_contents.specs.Contents.{all_leave, is_one_value, is_one_flag, is_single}
use Rattle.cell_contents.specs.Soles.{is_near_one, is_sole_value, is_sole, IsNear}
use Rattle.cell_contents.proofs.Singles.{single_laws}
use Rattle.cell_contents.proofs.Soles.{only_single, sole_one}
use Rattle.cell_instances.proofs.Many.{two_leave}

-- some layout: the test doesn't depend on it
somewhere : Layout
somewhere = record { machine = Lp64; address = λ b. 0; size = λ b. 0; readonly = λ b. false; bases = [] }

pub sole_single : (k : ℕ) (c : Cellv) → Fine Lp64 k c → is_sole k c ≡ true → is_single k c ≡ true
sole_single k c f s = (single_laws somewhere).one_single k c f (λ js ks. sole_one somewhere k c js ks f.few_bits s)

no_true : (b : Bool) → b ≡ false → b ≡ true → ⊥
no_true true e f = cc
no_true false e f = cc

not_empty : (b : Bool) → not b ≡ true → b ≡ false
not_empty true h = cc
not_empty false h = refl

-- near offsets that all leave the same modulo 2^64 are one
one_near : (a : Address) (r : ℕ) → rest_in 64 a.offsets.shape ≡ Some r → has_offsets a ≡ true → lies_near (bounds_of a.offsets.shape) ≡ true → is_near_one (single_of a.offsets.shape) ≡ true
one_near a r e h n =
    let o = some_held a.offsets (not_empty (is_empty a.offsets.shape) h) in
    let near = near_held a.offsets o.0 n o.1 in
    let only : IsOnly a.offsets o.0 = λ m. (
      (λ i. one_offset (pos 0) m o.0 (near_held a.offsets m n i) near (from_none m ∙ rest_held 64 a.offsets r m (omega arith) e i ∙ sym (rest_held 64 a.offsets r o.0 (omega arith) e o.1) ∙ sym (from_none o.0))),
      (λ i. subst (Holds a.offsets) (sym i) o.1),
    ) in
    subst (λ z. is_near_one z ≡ true) (sym (only_single a.offsets o.0 only)) (and_from (int_le (neg_ℤ (pos (2 ^ 62))) o.0) (int_le o.0 (pos (2 ^ 62))) (true_le (neg_ℤ (pos (2 ^ 62))) o.0 near.low) (true_le o.0 (pos (2 ^ 62)) near.high))
  where
    from_none : (z : ℤ) → residue (2 ^ 64) (pos 0 +ℤ z) ≡ residue (2 ^ 64) z
    from_none z = ap (residue (2 ^ 64)) (omega (arith, ints))

value_sole : (k : ℕ) (v : AVal) → fits_value Lp64 k v ≡ true → have_offsets v ≡ true → IsSound v → has_near_offsets v ≡ true → is_one_value k v ≡ true → is_sole_value k v ≡ true
value_sole k (Separate ns []) f h i n s = s
value_sole k (Separate ns (a ∷ [])) f h i n s =
    let t = and_parts (is_empty ns.shape) (all_leave k a.base (rest_in k a.offsets.shape) (a ∷ [])) s in
    and_from (is_empty ns.shape) (is_near_one (single_of a.offsets.shape)) t.0 (at (rest_in k a.offsets.shape) refl t.1)
  where
    at : (o : Option ℕ) → rest_in k a.offsets.shape ≡ o → all_leave k a.base o (a ∷ []) ≡ true → is_near_one (single_of a.offsets.shape) ≡ true
    at None e l = cc
    at (Some r) e l =
        let wide : k ≡ 64 = eqb-true k (pointer_bits Lp64) f in
        one_near a r (subst (λ j. rest_in j a.offsets.shape ≡ Some r) wide e) (and_parts (has_offsets a) true h).0 (and_parts (lies_near (bounds_of a.offsets.shape)) true n).0
value_sole k (Separate ns (a ∷ b ∷ xs)) f h i n s =
    let t = and_parts (is_empty ns.shape) (all_leave k a.base (rest_in k a.offsets.shape) (a ∷ b ∷ xs)) s in
    absurd (no_true (all_leave k a.base (rest_in k a.offsets.shape) (a ∷ b ∷ xs)) (two_leave k a b xs (rest_in k a.offsets.shape) (i.0.0 b (inl refl))) t.1)
value_sole k (Mixed bs) f h i n s = cc

pub single_sole : (k : ℕ) (c : Cellv) → Fine Lp64 k c → IsNear c → is_single k c ≡ true → is_sole k c ≡ true
single_sole k c f i s = at (has_no_value c.value) refl s
  where
    from : (b : Bool) → has_no_value c.value ≡ b → cond b (is_one_flag c.uninit c.dead) (is_sole_value k c.value && (not c.uninit && not c.dead)) ≡ true → is_sole k c ≡ true
    from b e t = subst (λ x. cond x (is_one_flag c.uninit c.dead) (is_sole_value k c.value && (not c.uninit && not c.dead)) ≡ true) (sym e) t

    at : (b : Bool) → has_no_value c.value ≡ b → cond b (is_one_flag c.uninit c.dead) (is_one_value k c.value && (not c.uninit && not c.dead)) ≡ true → is_sole k c ≡ true
    at true e t = from true e t
    at false e t =
        let p = and_parts (is_one_value k c.value) (not c.uninit && not c.dead) t in
        from false e (and_from (is_sole_value k c.value) (not c.uninit && not c.dead) (value_sole k c.value f.fits f.offsets i.sound i.near p.0) p.1)

pub singles_sole : (m : List (Element Cellv)) → AllFine (Fine Lp64) m → AllByRecursion (λ e. IsNear e.cell) m → all_single is_single m ≡ true → all_single is_sole m ≡ true
unfolding all_single
singles_sole [] f i s = refl
singles_sole (e ∷ es) f i s =
    let p = and_parts (is_single e.bits e.cell) (list_all (λ (x : Element Cellv). is_single x.bits x.cell) es) s in
    and_from (is_sole e.bits e.cell) (list_all (λ (x : Element Cellv). is_sole x.bits x.cell) es) (single_sole e.bits e.cell f.0 i.0 p.0) (singles_sole es f.1 i.1 p.1)

pub unwritten_sole : is_sole 1 unwritten ≡ true
unwritten_sole = subst (λ x. cond (x && true) true (is_sole_value 1 no_value && false) ≡ true) (sym none_is_empty) refl
