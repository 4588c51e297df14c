-- Meets hold what both values hold.
use Rattle.std.proofs.Common.{◌≡◌, ◌⊎◌, ℕ, ◌+◌, ◌*◌, ◌<◌, ◌≤◌, ◌^◌, ◌==◌, nat_lt, Bool, true, false, cond, ◌&&◌, ℤ, pos, ◌+ℤ◌, ◌-ℤ◌, List, [], ◌∷◌, map, refl, sym, subst, ap, ◌∙◌, inl, inr, arith}
use Rattle.std.specs.Prelude.{Option, None, Some, filter, neg_ℤ, int_le, ◌*ℤ◌}
use Rattle.std.specs.List.{list_all}
use Rattle.std.specs.FinSet.{contains}
use Rattle.std.proofs.lemmas.Bool.{and_parts, and_from}
use Rattle.std.proofs.lemmas.Nat.{pow_pos}
use Rattle.std.proofs.lemmas.Int.{ints}
use lib.Signed.{◌<ℤ◌, ◌≤ℤ◌}
use Rattle.c_base.specs.Integers.{residue}
use Rattle.c_base.proofs.Residues.{residue_differs}
use Rattle.c_base.specs.declared.integer.Machine.{Machine}
use Rattle.c_base.specs.declared.integer.Machine.TheVariants.{Lp64}
use Rattle.c_memory.specs.Values.{Value, nowhere, only}
use Rattle.c_memory.specs.Layouts.{Layout}
use Rattle.ival_core.specs.declared.value.Shape.{Shape}
use Rattle.ival_core.specs.declared.value.Ival.{Ival}
use Rattle.ival_core.specs.Ivals.{Holds, Includes, IsMeet}
use Rattle.ival_core.specs.Sets.{Among}
use Rattle.ival_core.specs.Views.{bounds_of}
use Rattle.ival_core.proofs.Canonical.{Includes-antisymm, same_ival}
use Rattle.ival_core.proofs.Insertion.{Holds-number}
use Rattle.ival_core.proofs.Orders.{le_true}
use Rattle.ival_arith.specs.Kinds.{holds_number}
use Rattle.ival_arith.proofs.Bounding.{number_held, held_number}
use Rattle.ival_plain.proofs.Least.{least_holds, least_least}
use Rattle.ival_plain.proofs.Widening.{bounds_is, no_bounds}
use Rattle.avalue_base.specs.Lists.{has_base, all_among, In, AreAscending}
use Rattle.avalue_base.specs.Numbers.{is_empty, is_empty_list, list_of, lies_in}
use Rattle.avalue_base.specs.Values.{Address, AVal, Separate, Mixed, base_of, bases_of}
use Rattle.avalue_base.specs.Order.{is_part, is_among, value_in}
use Rattle.avalue_base.specs.Hues.{pointer_bits}
use Rattle.avalue_base.specs.Pieces.{has_offsets}
use Rattle.avalue_base.specs.Ops.{IsSound}
use Rattle.avalue_base.specs.Meaning.{MeansAddress, MeansSome, Means}
use Rattle.avalue_base.specs.Meets.{least_of, set_of, meet_of, lies_near, met_offsets, some_offsets, met_address, kept, common_from, common, addresses_in, mix_or, meet_values}
use Rattle.avalue_base.proofs.Lists.{by_order, In-any, In-all, In-has, has-In, all-In, map-In, has-among}
use Rattle.avalue_base.proofs.Sets.{Among-In, In-Among, held_listed, listed_held, lies-includes, includes-lies, lies-refl, held_some, some_held}
use Rattle.avalue_base.proofs.Ordering.{value_refl, part_from}
use Rattle.avalue_base.proofs.Means.{means_among, among_means}
use Rattle.avalue_base.proofs.Meanings.{nowhere_has, only_has, self_has}

-- ---- sets

pub set_same : (v : Ival) (s : Shape) → v.shape ≡ s → v ≡ set_of s
unfolding set_of least_of
set_same v s e =
    subst (λ t. v ≡ set_of t) e (Includes-antisymm v (set_of v.shape)
    (λ n h. least_least (list_of v.shape) v (λ k a. listed_held v k (Among-In (list_of v.shape) k a)) n h)
    (λ n h. least_holds (list_of v.shape) n (In-Among (list_of v.shape) n (held_listed v n h)) (Holds-number v n h)))

filtered_In : (test : ℤ → Bool) (ns : List ℤ) (m : ℤ) → In (filter test ns) m → In ns m × (test m ≡ true)
filtered_In test [] m i = absurd i
filtered_In test (n ∷ ns) m i = by_test (test n) refl (filtered_In test ns m) i
  where
    by_test : (b : Bool) → test n ≡ b → (In (filter test ns) m → In ns m × (test m ≡ true)) → In (cond b (n ∷ filter test ns) (filter test ns)) m → In (n ∷ ns) m × (test m ≡ true)
    by_test true e f (inl d) = (inl d, subst (λ z. test z ≡ true) (sym d) e)
    by_test true e f (inr j) = let r = f j in (inr r.0, r.1)
    by_test false e f j = let r = f j in (inr r.0, r.1)

In_filtered : (test : ℤ → Bool) (ns : List ℤ) (m : ℤ) → In ns m → test m ≡ true → In (filter test ns) m
In_filtered test [] m i t = i
In_filtered test (n ∷ ns) m i t = by_test (test n) refl (λ j. In_filtered test ns m j t) i
  where
    no : (b : Bool) → b ≡ true → b ≡ false → ⊥
    no true t e = cc
    no false t e = cc

    by_test : (b : Bool) → test n ≡ b → (In ns m → In (filter test ns) m) → In (n ∷ ns) m → In (cond b (n ∷ filter test ns) (filter test ns)) m
    by_test true e r (inl d) = inl d
    by_test true e r (inr j) = inr (r j)
    by_test false e r (inl d) = absurd (no (test n) (subst (λ z. test z ≡ true) d t) e)
    by_test false e r (inr j) = r j

pub meet_is : (a b : Ival) → IsMeet a b (meet_of a b)
unfolding meet_of least_of
meet_is a b n = (
  (λ h. (
    least_least (filter (holds_number b.shape) (list_of a.shape)) a (λ k i. listed_held a k (filtered_In (holds_number b.shape) (list_of a.shape) k (Among-In (filter (holds_number b.shape) (list_of a.shape)) k i)).0) n h,
    least_least (filter (holds_number b.shape) (list_of a.shape)) b (λ k i. number_held b.shape k (filtered_In (holds_number b.shape) (list_of a.shape) k (Among-In (filter (holds_number b.shape) (list_of a.shape)) k i)).1) n h,
  )),
  (λ h. least_holds (filter (holds_number b.shape) (list_of a.shape)) n
      (In-Among (filter (holds_number b.shape) (list_of a.shape)) n (In_filtered (holds_number b.shape) (list_of a.shape) n (held_listed a n h.0) (held_number b.shape n h.1))) (Holds-number a n h.0)),
)

pub meet_same : (a b v : Ival) → IsMeet a b v → v ≡ meet_of a b
meet_same a b v m = Includes-antisymm v (meet_of a b) (λ n h. (m n).1 ((meet_is a b n).0 h)) (λ n h. (meet_is a b n).1 ((m n).0 h))

-- ---- near offsets

pub record Near (n : ℤ) : Type 0 where
  pub low : neg_ℤ (pos (2 ^ 62)) ≤ℤ n
  pub high : n ≤ℤ pos (2 ^ 62)

pub near_held : (v : Ival) (n : ℤ) → lies_near (bounds_of v.shape) ≡ true → Holds v n → Near n
near_held v n e h = at (bounds_of v.shape) refl e
  where
    at : (o : Option (ℤ × ℤ)) → bounds_of v.shape ≡ o → lies_near o ≡ true → Near n
    at None f t = absurd (no_bounds v n f h)
    at (Some ends) f t =
        let b = bounds_is v ends.0 ends.1 f in
        let p = and_parts (int_le (neg_ℤ (pos (2 ^ 62))) ends.0) (int_le ends.1 (pos (2 ^ 62))) t in
        let l = le_true (neg_ℤ (pos (2 ^ 62))) ends.0 p.0 in
        let u = le_true ends.1 (pos (2 ^ 62)) p.1 in
        let w = b.between n h in
        let x = w.0 in
        let y = w.1 in
        record { low = omega (arith, ints); high = omega (arith, ints) }

-- near offsets that give one address are one
pub one_offset : (a m n : ℤ) → Near m → Near n → residue (2 ^ 64) (a +ℤ m) ≡ residue (2 ^ 64) (a +ℤ n) → m ≡ n
one_offset a m n h k e =
    let x = residue_differs (2 ^ 64) (a +ℤ m) (pow_pos 64) in
    let y = residue_differs (2 ^ 64) (a +ℤ n) (pow_pos 64) in
    same m n x.times y.times (pos (residue (2 ^ 64) (a +ℤ m))) (pos (residue (2 ^ 64) (a +ℤ n))) (ap pos e) x.is y.is h.low h.high k.low k.high
  where
    same : (m n t u r s : ℤ) → r ≡ s → a +ℤ m ≡ r +ℤ t *ℤ pos (2 ^ 64) → a +ℤ n ≡ s +ℤ u *ℤ pos (2 ^ 64) → neg_ℤ (pos (2 ^ 62)) ≤ℤ m → m ≤ℤ pos (2 ^ 62) → neg_ℤ (pos (2 ^ 62)) ≤ℤ n → n ≤ℤ pos (2 ^ 62) → m ≡ n
    same m n t u r s d f g h i j k = omega (arith, ints)

-- ---- what two lists have in common

module _ {X Y : Type 0} (key : X → ℕ) (other_key : Y → ℕ) (picked : X → Y → Option X) where
  -- z comes from an element of each list
  pub record Picked (xs : List X) (ys : List Y) (z : X) : Type 0 where
    pub first : X
    pub second : Y
    pub in_first : In xs first
    pub in_second : In ys second
    pub same : key first ≡ other_key second
    pub is : picked first second ≡ Some z

  further_first : (x : X) (xs : List X) (ys : List Y) (z : X) → Picked xs ys z → Picked (x ∷ xs) ys z
  further_first x xs ys z p = record { first = p.first; second = p.second; in_first = inr p.in_first; in_second = p.in_second; same = p.same; is = p.is }

  further_second : (xs : List X) (y : Y) (ys : List Y) (z : X) → Picked xs ys z → Picked xs (y ∷ ys) z
  further_second xs y ys z p = record { first = p.first; second = p.second; in_first = p.in_first; in_second = inr p.in_second; same = p.same; is = p.is }

  pub common_picked : (xs : List X) (ys : List Y) (z : X) → In (common key other_key picked xs ys) z → Picked xs ys z
  unfolding common common_from
  common_picked [] ys z i = absurd i
  common_picked (x ∷ xs) [] z i = absurd i
  common_picked (x ∷ xs) (y ∷ ys) z i =
      by_order (λ zs. In zs z → Picked (x ∷ xs) (y ∷ ys) z) (other_key y) (key x) (common key other_key picked (x ∷ xs) ys) (common key other_key picked xs (y ∷ ys)) (kept (picked x y) (common key other_key picked xs ys))
      (λ l j. further_second (x ∷ xs) y ys z (common_picked (x ∷ xs) ys z j))
      (λ l j. further_first x xs (y ∷ ys) z (common_picked xs (y ∷ ys) z j))
      (λ e j. by_pick e (common_picked xs ys z) (picked x y) refl j) i
    where
      by_pick : other_key y ≡ key x → (In (common key other_key picked xs ys) z → Picked xs ys z) → (o : Option X) → picked x y ≡ o → In (kept o (common key other_key picked xs ys)) z → Picked (x ∷ xs) (y ∷ ys) z
      by_pick e r None f j = further_first x xs (y ∷ ys) z (further_second xs y ys z (r j))
      by_pick e r (Some w) f (inl d) = record { first = x; second = y; in_first = inl refl; in_second = inl refl; same = sym e; is = f ∙ ap Some (sym d) }
      by_pick e r (Some w) f (inr j) = further_first x xs (y ∷ ys) z (further_second xs y ys z (r j))

  In_kept : (o : Option X) (xs : List X) (z : X) → In xs z → In (kept o xs) z
  In_kept None xs z i = i
  In_kept (Some w) xs z i = inr i

  kept_In : (o : Option X) (xs : List X) (z : X) → o ≡ Some z → In (kept o xs) z
  kept_In None xs z e = cc
  kept_In (Some w) xs z e = let d : z ≡ w = cc in inl d

  pub In_common : (xs : List X) → AreAscending key xs → (ys : List Y) → AreAscending other_key ys → (x : X) → In xs x → (y : Y) → In ys y → key x ≡ other_key y → (z : X) → picked x y ≡ Some z → In (common key other_key picked xs ys) z
  unfolding common common_from
  In_common [] a ys b x i y j e z f = absurd i
  In_common (v ∷ xs) a [] b x i y j e z f = absurd j
  In_common (v ∷ xs) a (w ∷ ys) b x i y j e z f =
      by_order (λ zs. In zs z) (other_key w) (key v) (common key other_key picked (v ∷ xs) ys) (common key other_key picked xs (w ∷ ys)) (kept (picked v w) (common key other_key picked xs ys))
      (λ l. behind_second l i (λ k. In_common (v ∷ xs) a ys b.1 x i y k e z f) j)
      (λ l. behind_first l j (λ k. In_common xs a.1 (w ∷ ys) b x k y j e z f) i)
      (λ d. at_heads d (λ k m. In_common xs a.1 ys b.1 x k y m e z f) i j)
    where
      below : (p q r s : ℕ) → p < q → q ≤ r → r ≡ s → s ≤ p → ⊥
      below p q r s h k d g = omega arith

      least : (p : ℕ) → p ≤ p
      least p = omega arith

      at_least : In (v ∷ xs) x → key v ≤ key x
      at_least (inl d) = subst (λ n. key v ≤ n) (ap key (sym d)) (least (key v))
      at_least (inr k) = let l = a.0 x k in omega arith

      at_least_other : In (w ∷ ys) y → other_key w ≤ other_key y
      at_least_other (inl d) = subst (λ n. other_key w ≤ n) (ap other_key (sym d)) (least (other_key w))
      at_least_other (inr k) = let l = b.0 y k in omega arith

      behind_second : other_key w < key v → In (v ∷ xs) x → (In ys y → In (common key other_key picked (v ∷ xs) ys) z) → In (w ∷ ys) y → In (common key other_key picked (v ∷ xs) ys) z
      behind_second l i r (inl d) = absurd (below (other_key w) (key v) (key x) (other_key y) l (at_least i) e (subst (λ u. other_key u ≤ other_key w) (sym d) (least (other_key w))))
      behind_second l i r (inr k) = r k

      behind_first : key v < other_key w → In (w ∷ ys) y → (In xs x → In (common key other_key picked xs (w ∷ ys)) z) → In (v ∷ xs) x → In (common key other_key picked xs (w ∷ ys)) z
      behind_first l j r (inl d) = absurd (below (key v) (other_key w) (other_key y) (key x) l (at_least_other j) (sym e) (subst (λ u. key u ≤ key v) (sym d) (least (key v))))
      behind_first l j r (inr k) = r k

      apart : (p q : ℕ) → p < q → q ≡ p → ⊥
      apart p q h d = omega arith

      at_heads : other_key w ≡ key v → (In xs x → In ys y → In (common key other_key picked xs ys) z) → In (v ∷ xs) x → In (w ∷ ys) y → In (kept (picked v w) (common key other_key picked xs ys)) z
      at_heads d r (inl p) (inl q) = kept_In (picked v w) (common key other_key picked xs ys) z (subst (λ u. picked v u ≡ Some z) q (subst (λ u. picked u y ≡ Some z) p f))
      at_heads d r (inl p) (inr k) = absurd (apart (other_key w) (other_key y) (b.0 y k) (sym e ∙ ap key p ∙ sym d))
      at_heads d r (inr k) (inl q) = absurd (apart (key v) (key x) (a.0 x k) (e ∙ ap other_key q ∙ d))
      at_heads d r (inr k) (inr m) = In_kept (picked v w) (common key other_key picked xs ys) z (r k m)

  module _ (own : (x : X) (y : Y) (z : X) → picked x y ≡ Some z → key z ≡ key x) where
    pub common_ascending : (xs : List X) → AreAscending key xs → (ys : List Y) → AreAscending key (common key other_key picked xs ys)
    unfolding common common_from
    common_ascending [] a ys = tt
    common_ascending (x ∷ xs) a [] = tt
    common_ascending (x ∷ xs) a (y ∷ ys) =
        by_order (AreAscending key) (other_key y) (key x) (common key other_key picked (x ∷ xs) ys) (common key other_key picked xs (y ∷ ys)) (kept (picked x y) (common key other_key picked xs ys))
        (λ l. common_ascending (x ∷ xs) a ys) (λ l. common_ascending xs a.1 (y ∷ ys)) (λ e. by_pick (common_ascending xs a.1 ys) (picked x y) refl)
      where
        by_pick : AreAscending key (common key other_key picked xs ys) → (o : Option X) → picked x y ≡ o → AreAscending key (kept o (common key other_key picked xs ys))
        by_pick r None f = r
        by_pick r (Some z) f = (
          (λ w i.
              let p = common_picked xs ys w i in
              subst (λ n. key z < n) (sym (own p.first p.second w p.is)) (subst (λ n. n < key p.first) (sym (own x y z f)) (a.0 p.first p.in_first))),
          r,
        )

-- ---- addresses of both

record Met (a b z : Address) : Type 0 where
  base : z.base ≡ a.base
  offsets : z.offsets ≡ met_offsets a.offsets b.offsets
  some : is_empty z.offsets.shape ≡ false

met_parts : (a b z : Address) → met_address a b ≡ Some z → Met a b z
met_parts a b z e = by_test (is_empty (met_offsets a.offsets b.offsets).shape) refl e
  where
    by_test : (t : Bool) → is_empty (met_offsets a.offsets b.offsets).shape ≡ t → cond t None (Some (record { base = a.base; offsets = met_offsets a.offsets b.offsets })) ≡ Some z → Met a b z
    by_test true f g = cc
    by_test false f g =
        let d : record { base = a.base; offsets = met_offsets a.offsets b.offsets } ≡ z = some_same g in
        record { base = ap base_of (sym d); offsets = ap (λ (w : Address). w.offsets) (sym d); some = subst (λ (w : Address). is_empty w.offsets.shape ≡ false) d f }
      where
        some_same : {w : Address} → Some w ≡ Some z → w ≡ z
        some_same h = cc

met_found : (a b : Address) (n : ℤ) → Holds (met_offsets a.offsets b.offsets) n → met_address a b ≡ Some (record { base = a.base; offsets = met_offsets a.offsets b.offsets })
met_found a b n h = let e = held_some (met_offsets a.offsets b.offsets) n h in rw e refl

met_own : (a b z : Address) → met_address a b ≡ Some z → base_of z ≡ base_of a
met_own a b z e = (met_parts a b z e).base

some_own : {X : Type 0} (key : X → ℕ) (a z : X) → Some a ≡ Some z → key z ≡ key a
some_own key a z e = let d : z ≡ a = cc in ap key d

met_included : (a b : Ival) → lies_in (met_offsets a b).shape a.shape ≡ true
met_included a b = by_test (lies_near (bounds_of a.shape) && lies_near (bounds_of b.shape))
  where
    by_test : (t : Bool) → lies_in (cond t (meet_of a b) a).shape a.shape ≡ true
    by_test true = includes-lies (meet_of a b) a (λ n h. ((meet_is a b n).0 h).0)
    by_test false = lies-refl a

-- an offset of each that give one address: it is an offset of both, or the second ones are not told apart
met_held : (a b : Ival) (at m n : ℤ) → Holds a m → Holds b n → residue (2 ^ 64) (at +ℤ m) ≡ residue (2 ^ 64) (at +ℤ n) → Holds (met_offsets a b) m
met_held a b at m n h k e = by_test (lies_near (bounds_of a.shape)) refl (lies_near (bounds_of b.shape)) refl
  where
    by_test : (s : Bool) → lies_near (bounds_of a.shape) ≡ s → (t : Bool) → lies_near (bounds_of b.shape) ≡ t → Holds (cond (s && t) (meet_of a b) a) m
    by_test true f true g =
        let d = one_offset at m n (near_held a m f h) (near_held b n g k) e in
        (meet_is a b m).1 (h, subst (Holds b) (sym d) k)
    by_test true f false g = h
    by_test false f t g = h

-- ---- soundness

met_all : (xs ys : List Address) → list_all has_offsets (common base_of base_of met_address xs ys) ≡ true
met_all xs ys = In-all has_offsets (common base_of base_of met_address xs ys) (λ z i.
    let p = common_picked base_of base_of met_address xs ys z i in
    let m = met_parts p.first p.second z p.is in
    let s = m.some in
    rw s refl)

picked_self : (xs : List Address) (bs : List ℕ) (z : Address) → In (addresses_in xs bs) z → In xs z × In bs z.base
picked_self xs bs z i =
    let p = common_picked base_of (λ b. b) (λ a b. Some a) xs bs z i in
    let e : p.first ≡ z = same p.is in
    (subst (In xs) e p.in_first, subst (In bs) (sym p.same ∙ ap base_of e) p.in_second)
  where
    same : {w : Address} → Some w ≡ Some z → w ≡ z
    same h = cc

pub all_picked : (xs : List Address) (bs : List ℕ) → list_all has_offsets xs ≡ true → list_all has_offsets (addresses_in xs bs) ≡ true
all_picked xs bs h = In-all has_offsets (addresses_in xs bs) (λ z i. all-In has_offsets xs h z (picked_self xs bs z i).0)

pub meet_sound : (v w : AVal) → IsSound v → IsSound w → IsSound (meet_values v w)
meet_sound (Separate ns xs) (Separate ms ys) s t = (common_ascending base_of base_of met_address met_own xs s.0 ys, met_all xs ys)
meet_sound (Separate ns xs) (Mixed bs) s t = (
  common_ascending base_of (λ b. b) (λ a b. Some a) (λ a b z e. some_own base_of a z e) xs s.0 bs,
  In-all has_offsets (addresses_in xs bs) (λ z i. all-In has_offsets xs s.1 z (picked_self xs bs z i).0),
)
meet_sound (Mixed bs) (Separate ms ys) s t = (
  common_ascending base_of (λ b. b) (λ a b. Some a) (λ a b z e. some_own base_of a z e) ys t.0 bs,
  In-all has_offsets (addresses_in ys bs) (λ z i. all-In has_offsets ys t.1 z (picked_self ys bs z i).0),
)
meet_sound (Mixed bs) (Mixed cs) s t = by_test (is_empty_list (common (λ b. b) (λ b. b) (λ a b. Some a) bs cs)) refl
  where
    by_test : (e : Bool) → is_empty_list (common (λ b. b) (λ b. b) (λ a b. Some a) bs cs) ≡ e → IsSound (cond e (Mixed bs) (Mixed (common (λ b. b) (λ b. b) (λ a b. Some a) bs cs)))
    by_test true e = s
    by_test false e = (common_ascending (λ b. b) (λ b. b) (λ a b. Some a) (λ a b z f. some_own (λ n. n) a z f) bs s.0 cs, e)

-- ---- the meet lies in the first value

pub meet_first : (v w : AVal) → value_in (meet_values v w) v ≡ true
meet_first (Separate ns xs) (Separate ms ys) =
    and_from (lies_in (meet_of ns ms).shape ns.shape) (list_all (is_among xs) (common base_of base_of met_address xs ys))
    (includes-lies (meet_of ns ms) ns (λ n h. ((meet_is ns ms n).0 h).0))
    (In-all (is_among xs) (common base_of base_of met_address xs ys) (λ z i.
    let p = common_picked base_of base_of met_address xs ys z i in
    let m = met_parts p.first p.second z p.is in
    In-any (is_part z) xs p.first p.in_first (part_from z p.first m.base (subst (λ (o : Ival). lies_in o.shape p.first.offsets.shape ≡ true) (sym m.offsets) (met_included p.first.offsets p.second.offsets)))))
meet_first (Separate ns xs) (Mixed bs) =
    and_from (lies_in ns.shape ns.shape) (list_all (is_among xs) (addresses_in xs bs)) (lies-refl ns)
    (In-all (is_among xs) (addresses_in xs bs) (λ z i. In-any (is_part z) xs z (picked_self xs bs z i).0 (part_from z z refl (lies-refl z.offsets))))
meet_first (Mixed bs) (Separate ms ys) = has-among (map base_of (addresses_in ys bs)) bs (λ q h.
    let i = has-In (map base_of (addresses_in ys bs)) q h in
    let z = map-In base_of (addresses_in ys bs) q i in
    In-has bs q (subst (In bs) (sym z.2) (picked_self ys bs z.0 z.1).1))
meet_first (Mixed bs) (Mixed cs) = by_test (is_empty_list (common (λ b. b) (λ b. b) (λ a b. Some a) bs cs))
  where
    by_test : (e : Bool) → value_in (cond e (Mixed bs) (Mixed (common (λ b. b) (λ b. b) (λ a b. Some a) bs cs))) (Mixed bs) ≡ true
    by_test true = value_refl (Mixed bs)
    by_test false = has-among (common (λ b. b) (λ b. b) (λ a b. Some a) bs cs) bs (λ q h.
        let p = common_picked (λ b. b) (λ b. b) (λ a b. Some a) bs cs q (has-In (common (λ b. b) (λ b. b) (λ a b. Some a) bs cs) q h) in
        let e : p.first ≡ q = same p.is in
        In-has bs q (subst (In bs) e p.in_first))
      where
        same : {m n : ℕ} → Some m ≡ Some n → m ≡ n
        same h = cc

-- ---- and holds what both hold

bits_64 : (m : Machine) → pointer_bits m ≡ 64
bits_64 Lp64 = refl

pub only_self : (b : ℕ) → contains (only b) b ≡ true
only_self b = by_bool (contains (only b) b) (λ e. self_has b b refl e)
  where
    by_bool : (t : Bool) → (t ≡ false → ⊥) → t ≡ true
    by_bool true f = refl
    by_bool false f = absurd (f refl)

only_one : (b c : ℕ) → only b ≡ only c → b ≡ c
only_one b c e = only_has c b (subst (λ p. contains p b ≡ true) e (only_self b))

met_means : (l : Layout) (a b : Address) (x : Value) → MeansAddress l a x → MeansAddress l b x → MeansAddress l (record { base = a.base; offsets = met_offsets a.offsets b.offsets }) x
met_means l a b x m n =
    let e = only_one a.base b.base (sym m.provenance ∙ n.provenance) in
    let f : residue (2 ^ pointer_bits l.machine) (pos (l.address a.base) +ℤ m.offset) ≡ residue (2 ^ pointer_bits l.machine) (pos (l.address b.base) +ℤ n.offset) =
    unpos (residue (2 ^ pointer_bits l.machine) (pos (l.address a.base) +ℤ m.offset)) (residue (2 ^ pointer_bits l.machine) (pos (l.address b.base) +ℤ n.offset)) (sym m.number ∙ n.number) in
    let g = subst (λ q. residue (2 ^ pointer_bits l.machine) (pos (l.address a.base) +ℤ m.offset) ≡ residue (2 ^ pointer_bits l.machine) (pos (l.address q) +ℤ n.offset)) (sym e) f in
    let h = subst (λ k. residue (2 ^ k) (pos (l.address a.base) +ℤ m.offset) ≡ residue (2 ^ k) (pos (l.address a.base) +ℤ n.offset)) (bits_64 l.machine) g in
    record { offset = m.offset; held = met_held a.offsets b.offsets (pos (l.address a.base)) m.offset n.offset m.held n.held h; number = m.number; provenance = m.provenance }
  where
    unpos : (a b : ℕ) → pos a ≡ pos b → a ≡ b
    unpos a b e = cc

plain_apart : (l : Layout) (a : Address) (x : Value) → x.provenance ≡ nowhere → MeansAddress l a x → ⊥
plain_apart l a x e m = nowhere_has a.base (subst (λ p. contains p a.base ≡ true) (sym m.provenance ∙ e) (only_self a.base))

within_mix : (l : Layout) (xs : List Address) (bs : List ℕ) (x : Value) → AreAscending base_of xs → AreAscending (λ b. b) bs → MeansSome l xs x → ((q : ℕ) → contains x.provenance q ≡ true → has_base bs q ≡ true) → MeansSome l (addresses_in xs bs) x
within_mix l xs bs x a b m h =
    let r = means_among l xs x m in
    let k = has-In bs r.0.base (h r.0.base (subst (λ p. contains p r.0.base ≡ true) (sym r.2.provenance) (only_self r.0.base))) in
    among_means l (addresses_in xs bs) x r.0 (In_common base_of (λ n. n) (λ a b. Some a) xs a bs b r.0 r.1 r.0.base k refl r.0 refl) r.2

pub meet_means : (l : Layout) (v w : AVal) (x : Value) → IsSound v → IsSound w → Means l v x → Means l w x → Means l (meet_values v w) x
meet_means l (Separate ns xs) (Separate ms ys) x s t (inl m) (inl n) = inl (m.0, (meet_is ns ms x.number).1 (m.1, n.1))
meet_means l (Separate ns xs) (Separate ms ys) x s t (inl m) (inr n) = let b = means_among l ys x n in absurd (plain_apart l b.0 x m.0 b.2)
meet_means l (Separate ns xs) (Separate ms ys) x s t (inr m) (inl n) = let a = means_among l xs x m in absurd (plain_apart l a.0 x n.0 a.2)
meet_means l (Separate ns xs) (Separate ms ys) x s t (inr m) (inr n) =
    let a = means_among l xs x m in
    let b = means_among l ys x n in
    let z : Address = record { base = a.0.base; offsets = met_offsets a.0.offsets b.0.offsets } in
    let k = met_means l a.0 b.0 x a.2 b.2 in
    inr (among_means l (common base_of base_of met_address xs ys) x z
    (In_common base_of base_of met_address xs s.0 ys t.0 a.0 a.1 b.0 b.1 (only_one a.0.base b.0.base (sym a.2.provenance ∙ b.2.provenance)) z (met_found a.0 b.0 k.offset k.held)) k)
meet_means l (Separate ns xs) (Mixed bs) x s t (inl m) n = inl m
meet_means l (Separate ns xs) (Mixed bs) x s t (inr m) n = inr (within_mix l xs bs x s.0 t.0 m n)
meet_means l (Mixed bs) (Separate ms ys) x s t m (inl n) = inl n
meet_means l (Mixed bs) (Separate ms ys) x s t m (inr n) = inr (within_mix l ys bs x t.0 s.0 n m)
meet_means l (Mixed bs) (Mixed cs) x s t m n = by_test (is_empty_list (common (λ b. b) (λ b. b) (λ a b. Some a) bs cs))
  where
    by_test : (e : Bool) → Means l (cond e (Mixed bs) (Mixed (common (λ b. b) (λ b. b) (λ a b. Some a) bs cs))) x
    by_test true = m
    by_test false = λ q h. In-has (common (λ b. b) (λ b. b) (λ a b. Some a) bs cs) q
        (In_common (λ b. b) (λ b. b) (λ a b. Some a) bs s.0 cs t.0 q (has-In bs q (m q h)) q (has-In cs q (n q h)) refl q refl)
