-- Values that lie in each other are one.
use Rattle.std.proofs.Common.{◌≡◌, ℕ, ◌<◌, true, false, List, [], ◌∷◌, refl, sym, subst, ap, ◌∙◌, inl, inr, arith}
use Rattle.std.specs.List.{list_all}
use Rattle.ival_core.specs.declared.value.Ival.{Ival}
use Rattle.ival_core.proofs.Canonical.{Includes-antisymm}
use Rattle.avalue_base.specs.Lists.{has_base, In, AreAscending}
use Rattle.avalue_base.specs.Numbers.{lies_in}
use Rattle.avalue_base.specs.Values.{Address, AVal, Separate, Mixed, base_of}
use Rattle.avalue_base.specs.Order.{is_part, is_among, value_in}
use Rattle.avalue_base.specs.Ops.{IsSound}
use Rattle.avalue_base.proofs.Lists.{any-In, all-In, has-In}
use Rattle.avalue_base.proofs.Sets.{lies-includes}
use Rattle.avalue_base.proofs.Ordering.{part_base, part_lies, separate_parts, value_refl}
use Rattle.avalue_base.proofs.Sounds.{same_bases}

lies_antisymm : (a b : Ival) → lies_in a.shape b.shape ≡ true → lies_in b.shape a.shape ≡ true → a ≡ b
lies_antisymm a b h k = Includes-antisymm a b (lies-includes b a k) (lies-includes a b h)

same_address : (x y : Address) → is_part x y ≡ true → is_part y x ≡ true → x ≡ y
same_address x y h k =
    ap (λ b. record { base = b; offsets = x.offsets }) (part_base x y h)
    ∙ ap (λ o. record { base = y.base; offsets = o }) (lies_antisymm x.offsets y.offsets (part_lies x y h) (part_lies y x k))

-- an element of ys of which x is a part
Found : Address → List Address → Type 0
Found x ys = (y : Address) × In ys y × (is_part x y ≡ true)

apart : (m n : ℕ) → m < n → n ≡ m → ⊥
apart m n h e = omega arith

-- x is a part of the first element, where it has its base
first_found : (x y : Address) (ys : List Address) → ((z : Address) → In ys z → y.base < z.base) → x.base ≡ y.base → Found x (y ∷ ys) → is_part x y ≡ true
unfolding Found
first_found x y ys b e p = at p.1
  where
    at : In (y ∷ ys) p.0 → is_part x y ≡ true
    at (inl d) = subst (λ z. is_part x z ≡ true) d p.2
    at (inr i) = absurd (apart y.base p.0.base (b p.0 i) (sym (part_base x p.0 p.2) ∙ e))

-- and of one behind it, where its base is another
next_found : (x y : Address) (ys : List Address) → y.base < x.base → Found x (y ∷ ys) → Found x ys
unfolding Found
next_found x y ys l p = at p.1
  where
    at : In (y ∷ ys) p.0 → (z : Address) × In ys z × (is_part x z ≡ true)
    at (inl d) = absurd (apart y.base x.base l (part_base x p.0 p.2 ∙ ap base_of d))
    at (inr i) = (p.0, i, p.2)

heads : (x y : Address) (xs ys : List Address) → ((z : Address) → In xs z → x.base < z.base) → ((z : Address) → In ys z → y.base < z.base) → Found x (y ∷ ys) → Found y (x ∷ xs) → x.base ≡ y.base
unfolding Found
heads x y xs ys a b p q = at p.1 q.1
  where
    two : (m n k l : ℕ) → n < k → m < l → m ≡ k → n ≡ l → ⊥
    two m n k l h i e f = omega arith

    at : In (y ∷ ys) p.0 → In (x ∷ xs) q.0 → x.base ≡ y.base
    at (inl d) j = part_base x p.0 p.2 ∙ ap base_of d
    at (inr i) (inl d) = sym (part_base y q.0 q.2 ∙ ap base_of d)
    at (inr i) (inr j) = absurd (two x.base y.base p.0.base q.0.base (b p.0 i) (a q.0 j) (part_base x p.0 p.2) (part_base y q.0 q.2))

same_addresses : (xs ys : List Address) → AreAscending base_of xs → AreAscending base_of ys → ((x : Address) → In xs x → Found x ys) → ((y : Address) → In ys y → Found y xs) → xs ≡ ys
unfolding Found
same_addresses [] [] a b f g = refl
same_addresses [] (y ∷ ys) a b f g = absurd (g y (inl refl)).1
same_addresses (x ∷ xs) [] a b f g = absurd (f x (inl refl)).1
same_addresses (x ∷ xs) (y ∷ ys) a b f g =
    let e = heads x y xs ys a.0 b.0 (f x (inl refl)) (g y (inl refl)) in
    let h = first_found x y ys b.0 e (f x (inl refl)) in
    let k = first_found y x xs a.0 (sym e) (g y (inl refl)) in
    ap (λ z. z ∷ xs) (same_address x y h k)
    ∙ ap (λ zs. y ∷ zs) (same_addresses xs ys a.1 b.1
    (λ z i. next_found z y ys (subst (λ n. n < z.base) e (a.0 z i)) (f z (inr i)))
    (λ z i. next_found z x xs (subst (λ n. n < z.base) (sym e) (b.0 z i)) (g z (inr i))))

parts_found : (xs ys : List Address) → list_all (is_among ys) xs ≡ true → (x : Address) → In xs x → Found x ys
unfolding Found
parts_found xs ys h x i = any-In (is_part x) ys (all-In (is_among ys) xs h x i)

pub value_antisymm : (v w : AVal) → IsSound v → IsSound w → value_in v w ≡ true → value_in w v ≡ true → v ≡ w
value_antisymm (Separate ns xs) (Separate ms ys) s t h k =
    let p = separate_parts ns ms xs ys h in
    let q = separate_parts ms ns ys xs k in
    ap (λ n. Separate n xs) (lies_antisymm ns ms p.0 q.0) ∙ ap (Separate ms) (same_addresses xs ys s.0 t.0 (parts_found xs ys p.1) (parts_found ys xs q.1))
value_antisymm (Separate ns xs) (Mixed cs) s t h k = cc
value_antisymm (Mixed bs) (Separate ms ys) s t h k = cc
value_antisymm (Mixed bs) (Mixed cs) s t h k =
    ap Mixed (same_bases bs cs s.0 t.0 (λ q i. has-In cs q (all-In (has_base cs) bs h q i)) (λ q i. has-In bs q (all-In (has_base bs) cs k q i)))

pub not_same : (v w : AVal) → value_in v w ≡ false → v ≡ w → ⊥
not_same v w h e = let r : value_in v w ≡ true = subst (λ z. value_in v z ≡ true) e (value_refl v) in cc
