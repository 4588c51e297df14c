-- What greater values mean, what joins are least above, and what stores of values leave.
use Rattle.std.proofs.Common.{◌≡◌, ℕ, ◌^◌, ◌<◌, true, pos, ◌+ℤ◌, List, [], ◌∷◌, map, refl, sym, subst, ap, ◌∙◌, inl, inr, arith}
use Rattle.std.specs.FinSet.{contains}
use Rattle.std.proofs.lemmas.Bool.{and_from}
use Rattle.c_base.specs.Integers.{residue}
use Rattle.c_memory.specs.Values.{Value, only}
use Rattle.c_memory.specs.Layouts.{Layout}
use Rattle.avalue_base.specs.Lists.{has_base, all_among, In, AreAscending}
use Rattle.avalue_base.specs.Numbers.{lies_in, join_of}
use Rattle.avalue_base.specs.Values.{Address, AVal, Separate, Mixed, base_of, bases_of}
use Rattle.avalue_base.specs.Order.{is_part, is_among, value_in, both_addresses, united, join_values}
use Rattle.avalue_base.specs.Hues.{pointer_bits}
use Rattle.avalue_base.specs.Ops.{IsSound}
use Rattle.avalue_base.specs.Meaning.{MeansAddress, MeansSome, Means}
use Rattle.avalue_base.proofs.Lists.{In-any, any-In, all-In, In-all, In-map, map-In, among-has, From, merged_from, union_least}
use Rattle.avalue_base.proofs.Sets.{lies-includes, join_least}
use Rattle.avalue_base.proofs.Ordering.{separate_parts, part_base, part_lies, part_from, parts_in, value_bases}
use Rattle.avalue_base.proofs.Meanings.{only_has, nowhere_has}

-- ---- a greater value means more

pub means_among : (l : Layout) (xs : List Address) (x : Value) → MeansSome l xs x → (a : Address) × In xs a × MeansAddress l a x
means_among l [] x m = absurd m
means_among l (a ∷ xs) x (inl m) = (a, inl refl, m)
means_among l (a ∷ xs) x (inr m) = let r = means_among l xs x m in (r.0, inr r.1, r.2)

pub among_means : (l : Layout) (xs : List Address) (x : Value) (a : Address) → In xs a → MeansAddress l a x → MeansSome l xs x
among_means l [] x a i m = absurd i
among_means l (b ∷ xs) x a (inl e) m = inl (subst (λ z. MeansAddress l z x) e m)
among_means l (b ∷ xs) x a (inr i) m = inr (among_means l xs x a i m)

part_means : (l : Layout) (a b : Address) (x : Value) → is_part a b ≡ true → MeansAddress l a x → MeansAddress l b x
part_means l a b x h m =
    let e = part_base a b h in
    record {
      offset = m.offset;
      held = lies-includes a.offsets b.offsets (part_lies a b h) m.offset m.held;
      number = subst (λ q. x.number ≡ pos (residue (2 ^ pointer_bits l.machine) (pos (l.address q) +ℤ m.offset))) e m.number;
      provenance = m.provenance ∙ ap only e;
    }

pub value_means : (l : Layout) (v w : AVal) (x : Value) → value_in v w ≡ true → Means l v x → Means l w x
value_means l (Separate ns xs) (Separate ms ys) x h (inl m) = inl (m.0, lies-includes ns ms (separate_parts ns ms xs ys h).0 x.number m.1)
value_means l (Separate ns xs) (Separate ms ys) x h (inr m) =
    let a = means_among l xs x m in
    let b = any-In (is_part a.0) ys (all-In (is_among ys) xs (separate_parts ns ms xs ys h).1 a.0 a.1) in
    inr (among_means l ys x b.0 b.1 (part_means l a.0 b.0 x b.2 a.2))
value_means l (Separate ns xs) (Mixed bs) x h (inl m) = λ q t. absurd (nowhere_has q (subst (λ p. contains p q ≡ true) m.0 t))
value_means l (Separate ns xs) (Mixed bs) x h (inr m) =
    let a = means_among l xs x m in
    λ q t. subst (λ z. has_base bs z ≡ true) (sym (only_has a.0.base q (subst (λ p. contains p q ≡ true) a.2.provenance t))) (all-In (has_base bs) (map base_of xs) h a.0.base (In-map base_of xs a.0 a.1))
value_means l (Mixed bs) (Separate ms ys) x h m = cc
value_means l (Mixed bs) (Mixed cs) x h m = λ q t. among-has bs cs h q (m q t)

-- ---- the join is the least value above both

same_address : (zs : List Address) → AreAscending base_of zs → (a b : Address) → In zs a → In zs b → a.base ≡ b.base → a ≡ b
same_address [] s a b i j e = absurd i
same_address (z ∷ zs) s a b (inl d) (inl f) e = d ∙ sym f
same_address (z ∷ zs) s a b (inl d) (inr j) e = absurd (apart z.base b.base (s.0 b j) (sym e ∙ ap base_of d))
  where
    apart : (m n : ℕ) → m < n → n ≡ m → ⊥
    apart m n h e = omega arith
same_address (z ∷ zs) s a b (inr i) (inl f) e = absurd (apart z.base a.base (s.0 a i) (e ∙ ap base_of f))
  where
    apart : (m n : ℕ) → m < n → n ≡ m → ⊥
    apart m n h e = omega arith
same_address (z ∷ zs) s a b (inr i) (inr j) e = same_address zs s.1 a b i j e

united_least : (xs ys zs : List Address) → AreAscending base_of zs → parts_in xs zs ≡ true → parts_in ys zs ≡ true → parts_in (united xs ys) zs ≡ true
united_least xs ys zs s h k = In-all (is_among zs) (united xs ys) (λ u i. found u (merged_from base_of both_addresses xs ys u i))
  where
    both_in : (a b : Address) → In xs a → In ys b → a.base ≡ b.base → is_among zs (both_addresses a b) ≡ true
    both_in a b i j e =
        let c = any-In (is_part a) zs (all-In (is_among zs) xs h a i) in
        let d = any-In (is_part b) zs (all-In (is_among zs) ys k b j) in
        let same : d.0 ≡ c.0 = same_address zs s d.0 c.0 d.1 c.1 (sym (part_base b d.0 d.2) ∙ sym e ∙ part_base a c.0 c.2) in
        let p = part_lies a c.0 c.2 in
        let q = subst (λ z. lies_in b.offsets.shape z.offsets.shape ≡ true) same (part_lies b d.0 d.2) in
        In-any (is_part (both_addresses a b)) zs c.0 c.1 (part_from (both_addresses a b) c.0 (part_base a c.0 c.2) (join_least a.offsets b.offsets c.0.offsets p q))

    found : (u : Address) → From base_of both_addresses u xs ys → is_among zs u ≡ true
    found u (inl i) = all-In (is_among zs) xs h u i
    found u (inr (inl i)) = all-In (is_among zs) ys k u i
    found u (inr (inr a)) = subst (λ z. is_among zs z ≡ true) (sym a.5) (both_in a.0 a.1 a.2 a.3 a.4)

united_bases : (xs ys : List Address) (bs : List ℕ) → all_among (map base_of xs) bs ≡ true → all_among (map base_of ys) bs ≡ true → all_among (map base_of (united xs ys)) bs ≡ true
united_bases xs ys bs h k = In-all (has_base bs) (map base_of (united xs ys)) (λ q i. found q (map-In base_of (united xs ys) q i))
  where
    own : (a : Address) → From base_of both_addresses a xs ys → has_base bs a.base ≡ true
    own a (inl i) = all-In (has_base bs) (map base_of xs) h a.base (In-map base_of xs a i)
    own a (inr (inl i)) = all-In (has_base bs) (map base_of ys) k a.base (In-map base_of ys a i)
    own a (inr (inr p)) = subst (λ z. has_base bs z.base ≡ true) (sym p.5) (all-In (has_base bs) (map base_of xs) h p.0.base (In-map base_of xs p.0 p.2))

    found : (q : ℕ) → (a : Address) × In (united xs ys) a × (q ≡ a.base) → has_base bs q ≡ true
    found q a = subst (λ z. has_base bs z ≡ true) (sym a.2) (own a.0 (merged_from base_of both_addresses xs ys a.0 a.1))

pub value_join_least : (v w u : AVal) → IsSound u → value_in v u ≡ true → value_in w u ≡ true → value_in (join_values v w) u ≡ true
value_join_least (Separate ns xs) (Separate ms ys) (Separate ls zs) s h k =
    let p = separate_parts ns ls xs zs h in
    let q = separate_parts ms ls ys zs k in
    and_from (lies_in (join_of ns ms).shape ls.shape) (parts_in (united xs ys) zs) (join_least ns ms ls p.0 q.0) (united_least xs ys zs s.0 p.1 q.1)
value_join_least (Separate ns xs) (Separate ms ys) (Mixed bs) s h k = united_bases xs ys bs h k
value_join_least (Separate ns xs) (Mixed cs) (Separate ls zs) s h k = cc
value_join_least (Separate ns xs) (Mixed cs) (Mixed bs) s h k = union_least (map base_of xs) cs bs h k
value_join_least (Mixed as') w (Separate ls zs) s h k = cc
value_join_least (Mixed as') w (Mixed bs) s h k = union_least as' (bases_of w) bs h (value_bases w (Mixed bs) k)
