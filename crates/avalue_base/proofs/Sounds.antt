-- Joins of values keep their order.
use Rattle.std.proofs.Common.{◌≡◌, ◌⊎◌, ℕ, ◌<◌, false, List, [], ◌∷◌, ◌++◌, map, refl, sym, subst, ap, ◌∙◌, inl, inr, arith}
use Rattle.avalue_base.specs.Lists.{put, merged, union_of, gathered, In, AreAscending}
use Rattle.avalue_base.specs.Numbers.{is_empty_list}
use Rattle.avalue_base.specs.Values.{Address, AVal, Separate, Mixed, base_of, bases_of}
use Rattle.avalue_base.specs.Order.{both_addresses, join_values}
use Rattle.avalue_base.specs.Ops.{IsSound}
use Rattle.avalue_base.proofs.Lists.{by_order, merged_from, merged_first, merged_second, map-In}
use Rattle.avalue_base.proofs.Joins.{join_offsets}

module _ {X : Type 0} (key : X → ℕ) (both : X → X → X) (own : (x y : X) → key (both x y) ≡ key x) where
  merged_above : (k : ℕ) (xs ys : List X) → ((y : X) → In xs y → k < key y) → ((y : X) → In ys y → k < key y) → (z : X) → In (merged key both xs ys) z → k < key z
  merged_above k xs ys f g z i =
      elim (merged_from key both xs ys z i) [
        | inl a ↦ f z a
        | inr (inl a) ↦ g z a
        | inr (inr a) ↦
            let h = f a.0 a.2 in
            let e : key z ≡ key a.0 = ap key a.5 ∙ own a.0 a.1 in
            subst (λ n. k < n) (sym e) h
      ]

  pub merged_ascending : (xs : List X) → AreAscending key xs → (ys : List X) → AreAscending key ys → AreAscending key (merged key both xs ys)
  unfolding merged put
  merged_ascending [] a ys b = b
  merged_ascending (x ∷ xs) a [] b = ((λ z i. elim (merged_from key both xs [] z i) [ inl j ↦ a.0 z j | inr (inl j) ↦ absurd j | inr (inr j) ↦ absurd j.3 ]), merged_ascending xs a.1 [] tt)
  merged_ascending (x ∷ xs) a (y ∷ ys) b =
      by_order (AreAscending key) (key x) (key y) (x ∷ merged key both xs (y ∷ ys)) (y ∷ merged key both (x ∷ xs) ys) (both x y ∷ merged key both xs ys)
      (λ l. (merged_above (key x) xs (y ∷ ys) a.0 (λ z i. elim i [ inl e ↦ subst (λ w. key x < key w) (sym e) l | inr j ↦ further (key x) (key y) (key z) l (b.0 z j) ]), merged_ascending xs a.1 (y ∷ ys) b))
      (λ l. (merged_above (key y) (x ∷ xs) ys (λ z i. elim i [ inl e ↦ subst (λ w. key y < key w) (sym e) l | inr j ↦ further (key y) (key x) (key z) l (a.0 z j) ]) b.0, merged_ascending (x ∷ xs) a ys b.1))
      (λ e. ((λ z i. subst (λ n. n < key z) (sym (own x y)) (merged_above (key x) xs ys a.0 (λ w j. subst (λ n. n < key w) (sym e) (b.0 w j)) z i)), merged_ascending xs a.1 ys b.1))
    where
      further : (a b c : ℕ) → a < b → b < c → a < c
      further a b c h k = omega arith

pub map_ascending : (xs : List Address) → AreAscending base_of xs → AreAscending (λ b. b) (map base_of xs)
map_ascending [] a = tt
map_ascending (x ∷ xs) a = ((λ b i. let c = map-In base_of xs b i in subst (λ n. x.base < n) (sym c.2) (a.0 c.0 c.1)), map_ascending xs a.1)

pub bases_ascending : (v : AVal) → IsSound v → AreAscending (λ b. b) (bases_of v)
bases_ascending (Separate ns xs) s = map_ascending xs s.0
bases_ascending (Mixed bs) s = s.0

pub union_ascending : (xs ys : List ℕ) → AreAscending (λ b. b) xs → AreAscending (λ b. b) ys → AreAscending (λ b. b) (union_of xs ys)
union_ascending xs ys a b = merged_ascending (λ b. b) (λ x y. x) (λ x y. refl) xs a ys b

pub union_some_left : (xs ys : List ℕ) → is_empty_list xs ≡ false → is_empty_list (union_of xs ys) ≡ false
unfolding merged put
union_some_left [] ys h = cc
union_some_left (x ∷ xs) [] h = refl
union_some_left (x ∷ xs) (y ∷ ys) h = by_order (λ zs. is_empty_list zs ≡ false) x y (x ∷ union_of xs (y ∷ ys)) (y ∷ union_of (x ∷ xs) ys) (x ∷ union_of xs ys) (λ l. refl) (λ l. refl) (λ l. refl)

pub union_some_right : (xs ys : List ℕ) → is_empty_list ys ≡ false → is_empty_list (union_of xs ys) ≡ false
unfolding merged put
union_some_right [] ys h = h
union_some_right (x ∷ xs) ys h = union_some_left (x ∷ xs) ys refl

pub join_sound : (v w : AVal) → IsSound v → IsSound w → IsSound (join_values v w)
join_sound (Separate ns xs) (Separate ms ys) s t = (merged_ascending base_of both_addresses (λ a b. refl) xs s.0 ys t.0, join_offsets (Separate ns xs) (Separate ms ys) s.1 t.1)
join_sound (Separate ns xs) (Mixed bs) s t = (union_ascending (map base_of xs) bs (map_ascending xs s.0) t.0, union_some_right (map base_of xs) bs t.1)
join_sound (Mixed bs) w s t = (union_ascending bs (bases_of w) s.0 (bases_ascending w t), union_some_left bs (bases_of w) s.1)

-- ---- ascending lists with the same bases are one list

pub same_bases : (xs ys : List ℕ) → AreAscending (λ b. b) xs → AreAscending (λ b. b) ys → ((q : ℕ) → In xs q → In ys q) → ((q : ℕ) → In ys q → In xs q) → xs ≡ ys
same_bases [] [] a b f g = refl
same_bases [] (y ∷ ys) a b f g = absurd (g y (inl refl))
same_bases (x ∷ xs) [] a b f g = absurd (f x (inl refl))
same_bases (x ∷ xs) (y ∷ ys) a b f g =
    let e : x ≡ y = heads (f x (inl refl)) (g y (inl refl)) in
    ap (λ z. z ∷ xs) e ∙ ap (λ zs. y ∷ zs) (same_bases xs ys a.1 b.1
    (λ q i. elim (f q (inr i)) [ inl d ↦ absurd (apart x q (a.0 q i) (d ∙ sym e)) | inr j ↦ j ])
    (λ q i. elim (g q (inr i)) [ inl d ↦ absurd (apart y q (b.0 q i) (d ∙ e)) | inr j ↦ j ]))
  where
    apart : (m n : ℕ) → m < n → n ≡ m → ⊥
    apart m n h e = omega arith

    heads : In (y ∷ ys) x → In (x ∷ xs) y → x ≡ y
    heads (inl e) i = e
    heads (inr j) (inl e) = sym e
    heads (inr j) (inr k) = absurd (two x y (b.0 x j) (a.0 y k))
      where
        two : (m n : ℕ) → n < m → m < n → ⊥
        two m n h k = omega arith

union_In : (xs ys : List ℕ) (q : ℕ) → In (union_of xs ys) q → In xs q ⊎ In ys q
union_In xs ys q i = elim (merged_from (λ b. b) (λ x y. x) xs ys q i) [ inl j ↦ inl j | inr (inl j) ↦ inr j | inr (inr a) ↦ inl (subst (In xs) (sym a.5) a.2) ]

In_union : (xs ys : List ℕ) (q : ℕ) → In xs q ⊎ In ys q → In (union_of xs ys) q
In_union xs ys q (inl i) = elim (merged_first (λ b. b) (λ x y. x) xs q i ys) [ inl j ↦ j | inr a ↦ a.3 ]
In_union xs ys q (inr i) = elim (merged_second (λ b. b) (λ x y. x) xs ys q i) [ inl j ↦ j | inr a ↦ subst (In (union_of xs ys)) a.2 a.3 ]

pub gathered_ascending : (bs : List ℕ) → AreAscending (λ b. b) (gathered bs)
gathered_ascending [] = tt
gathered_ascending (b ∷ bs) = union_ascending (b ∷ []) (gathered bs) ((λ y i. absurd i), tt) (gathered_ascending bs)

pub gathered_In : (bs : List ℕ) (q : ℕ) → In (gathered bs) q → In bs q
gathered_In [] q i = i
gathered_In (b ∷ bs) q i = elim (union_In (b ∷ []) (gathered bs) q i) [ inl (inl e) ↦ inl e | inl (inr j) ↦ absurd j | inr j ↦ inr (gathered_In bs q j) ]

pub In_gathered : (bs : List ℕ) (q : ℕ) → In bs q → In (gathered bs) q
In_gathered (b ∷ bs) q (inl e) = In_union (b ∷ []) (gathered bs) q (inl (inl e))
In_gathered (b ∷ bs) q (inr i) = In_union (b ∷ []) (gathered bs) q (inr (In_gathered bs q i))
In_gathered [] q i = i

In_split : (xs ys : List ℕ) (q : ℕ) → In (xs ++ ys) q → In xs q ⊎ In ys q
In_split [] ys q i = inr i
In_split (x ∷ xs) ys q (inl e) = inl (inl e)
In_split (x ∷ xs) ys q (inr i) = elim (In_split xs ys q i) [ inl j ↦ inl (inr j) | inr j ↦ inr j ]

In_either : (xs ys : List ℕ) (q : ℕ) → In xs q ⊎ In ys q → In (xs ++ ys) q
In_either [] ys q (inl i) = absurd i
In_either [] ys q (inr i) = i
In_either (x ∷ xs) ys q (inl (inl e)) = inl e
In_either (x ∷ xs) ys q (inl (inr i)) = inr (In_either xs ys q (inl i))
In_either (x ∷ xs) ys q (inr i) = inr (In_either xs ys q (inr i))

pub gathered_append : (xs ys : List ℕ) → union_of (gathered xs) (gathered ys) ≡ gathered (xs ++ ys)
gathered_append xs ys =
    same_bases (union_of (gathered xs) (gathered ys)) (gathered (xs ++ ys)) (union_ascending (gathered xs) (gathered ys) (gathered_ascending xs) (gathered_ascending ys)) (gathered_ascending (xs ++ ys))
    (λ q i. In_gathered (xs ++ ys) q (In_either xs ys q (elim (union_In (gathered xs) (gathered ys) q i) [ inl j ↦ inl (gathered_In xs q j) | inr j ↦ inr (gathered_In ys q j) ])))
    (λ q i. In_union (gathered xs) (gathered ys) q (elim (In_split xs ys q (gathered_In (xs ++ ys) q i)) [ inl j ↦ inl (In_gathered xs q j) | inr j ↦ inr (In_gathered ys q j) ]))

pub gathered_some : (b : ℕ) (bs : List ℕ) → is_empty_list (gathered (b ∷ bs)) ≡ false
gathered_some b bs = union_some_left (b ∷ []) (gathered bs) refl
