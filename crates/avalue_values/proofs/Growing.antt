-- Widenings lie above joins.
use Rattle.std.proofs.Common.{◌≡◌, ℕ, Bool, true, false, cond, List, [], ◌∷◌, nat_lt, refl, sym, subst, ap, ◌∙◌, inl, inr}
use Rattle.std.specs.Prelude.{ℤ, not, Some, None, Result, Ok, Err, IfOk}
use Rattle.std.specs.List.{list_all}
use Rattle.std.proofs.lemmas.Bool.{and_parts, and_from}
use Rattle.ival_core.specs.declared.value.Ival.{Ival}
use Rattle.ival_core.specs.Widenings.{AreMarks}
use Rattle.avalue_base.specs.Lists.{put, merged, In, AreAscending}
use Rattle.avalue_base.specs.Numbers.{is_empty, is_empty_list, join_of, lies_in, no_numbers}
use Rattle.avalue_base.specs.Values.{Address, AVal, Separate, Mixed, base_of}
use Rattle.avalue_base.specs.Order.{is_part, is_among, value_in, both_addresses, united, join_values}
use Rattle.avalue_base.specs.Pieces.{has_offsets}
use Rattle.avalue_base.specs.Ops.{IsSound, have_offsets}
use Rattle.avalue_base.proofs.Lists.{In-any, In-all}
use Rattle.avalue_base.proofs.Sets.{lies-refl, lies-empty}
use Rattle.avalue_base.proofs.Sounds.{merged_ascending, join_sound}
use Rattle.avalue_base.proofs.Ordering.{part_from, part_lies, value_refl, value_trans}
use Rattle.avalue_base.proofs.Joins.{value_join_left, value_join_right, join_offsets}
use Rattle.avalue_parts.specs.Widened.{widened_set, widened_address}
use Rattle.avalue_parts.proofs.Marks.{widened_holds, widened_part}
use Rattle.avalue_values.specs.Views.{numbers_in, addresses_of}
use Rattle.avalue_values.specs.Widenings.{widened_values}
use Rattle.avalue_values.proofs.Values.{some_is}

-- ---- lists that are made alike of two

module _ (Below : Address → Address → Type 0) where
  -- each element is below the one at its place
  unfoldable pub AreBelow : List Address → List Address → Type 0
  AreBelow [] [] = Unit {0}
  AreBelow [] (y ∷ ys) = ⊥
  AreBelow (x ∷ xs) [] = ⊥
  AreBelow (x ∷ xs) (y ∷ ys) = Below x y × AreBelow xs ys

module _ (Below : Address → Address → Type 0) (f g : Address → Address → Address) (self : (x : Address) → Below x x) (both : (x y : Address) → Below (f x y) (g x y)) where
  selves : (xs : List Address) → AreBelow Below xs xs
  unfolding AreBelow
  selves [] = tt
  selves (x ∷ xs) = (self x, selves xs)

  put_below : (x : Address) (m n : List Address → List Address) → ((zs : List Address) → AreBelow Below (m zs) (n zs)) → (ys : List Address) → AreBelow Below (put base_of f x m ys) (put base_of g x n ys)
  unfolding put AreBelow
  put_below x m n h [] = (self x, h [])
  put_below x m n h (y ∷ ys) = at (put_below x m n h ys) (nat_lt x.base y.base) (nat_lt y.base x.base)
    where
      at : AreBelow Below (put base_of f x m ys) (put base_of g x n ys) → (s t : Bool) →
          AreBelow Below (cond s (x ∷ m (y ∷ ys)) (cond t (y ∷ put base_of f x m ys) (f x y ∷ m ys))) (cond s (x ∷ n (y ∷ ys)) (cond t (y ∷ put base_of g x n ys) (g x y ∷ n ys)))
      at r true t = (self x, h (y ∷ ys))
      at r false true = (self y, r)
      at r false false = (both x y, h ys)

  pub merged_below : (xs ys : List Address) → AreBelow Below (merged base_of f xs ys) (merged base_of g xs ys)
  unfolding merged
  merged_below [] ys = selves ys
  merged_below (x ∷ xs) ys = put_below x (merged base_of f xs) (merged base_of g xs) (λ zs. merged_below xs zs) ys

-- ---- what is widened lies above what is joined

abbrev pub Part : Address → Address → Type 0
Part x y = is_part x y ≡ true

module _ (size_of : ℕ → ℕ) (marks : List ℤ) (m : AreMarks marks) where
  pub grown : (xs ys : List Address) → AreBelow Part (united xs ys) (merged base_of (widened_address size_of marks) xs ys)
  grown xs ys = merged_below Part both_addresses (widened_address size_of marks) (λ x. part_from x x refl (lies-refl x.offsets)) (λ x y. widened_part size_of marks x y m) xs ys

below_In : (xs ys : List Address) → AreBelow Part xs ys → (x : Address) → In xs x → (y : Address) × In ys y × (is_part x y ≡ true)
unfolding AreBelow
below_In [] [] h x i = absurd i
below_In [] (y ∷ ys) h x i = absurd i
below_In (z ∷ xs) [] h x i = absurd h
below_In (z ∷ xs) (y ∷ ys) h x (inl e) = (y, inl refl, subst (λ w. is_part w y ≡ true) (sym e) h.0)
below_In (z ∷ xs) (y ∷ ys) h x (inr i) = let p = below_In xs ys h.1 x i in (p.0, inr p.1, p.2)

parts_below : (xs ys : List Address) → AreBelow Part xs ys → list_all (is_among ys) xs ≡ true
parts_below xs ys h = In-all (is_among ys) xs (λ x i. let p = below_In xs ys h x i in In-any (is_part x) ys p.0 p.1 p.2)

offsets_below : (xs ys : List Address) → AreBelow Part xs ys → list_all has_offsets xs ≡ true → list_all has_offsets ys ≡ true
unfolding AreBelow
offsets_below [] [] h a = refl
offsets_below [] (y ∷ ys) h a = absurd h
offsets_below (x ∷ xs) [] h a = absurd h
offsets_below (x ∷ xs) (y ∷ ys) h a =
    let p = and_parts (has_offsets x) (list_all has_offsets xs) a in
    and_from (has_offsets y) (list_all has_offsets ys) (more (is_empty y.offsets.shape) refl p.0) (offsets_below xs ys h.1 p.1)
  where
    more : (b : Bool) → is_empty y.offsets.shape ≡ b → not (is_empty x.offsets.shape) ≡ true → not b ≡ true
    more false e n = refl
    more true e n = absurd (clash (is_empty x.offsets.shape) n (lies-empty x.offsets y.offsets (part_lies x y h.0) e))
      where
        clash : (b : Bool) → not b ≡ true → b ≡ true → ⊥
        clash true n e = cc
        clash false n e = cc

pub same_length : (xs ys : List Address) → AreBelow Part xs ys → is_empty_list xs ≡ is_empty_list ys
unfolding AreBelow
same_length [] [] h = refl
same_length [] (y ∷ ys) h = absurd h
same_length (x ∷ xs) [] h = absurd h
same_length (x ∷ xs) (y ∷ ys) h = refl

-- ---- the laws

module _ (size_of : ℕ → ℕ) (marks own : List ℤ) (m : AreMarks marks) (k : AreMarks own) where
  pub joined_in : (v w : AVal) → value_in (join_values v w) (widened_values size_of marks own v w) ≡ true
  joined_in (Separate ns xs) (Separate ms ys) =
      and_from (lies_in (join_of ns ms).shape (widened_set marks own ns ms).shape) (list_all (is_among (merged base_of (widened_address size_of marks) xs ys)) (united xs ys))
      (widened_holds marks own ns ms m k)
      (parts_below (united xs ys) (merged base_of (widened_address size_of marks) xs ys) (grown size_of marks m xs ys))
  joined_in (Separate ns xs) (Mixed bs) = value_refl (join_values (Separate ns xs) (Mixed bs))
  joined_in (Mixed bs) w = value_refl (join_values (Mixed bs) w)

  pub widened_left : (v w : AVal) → value_in v (widened_values size_of marks own v w) ≡ true
  widened_left v w = value_trans v (join_values v w) (widened_values size_of marks own v w) (value_join_left v w) (joined_in v w)

  pub widened_right : (v w : AVal) → value_in w (widened_values size_of marks own v w) ≡ true
  widened_right v w = value_trans w (join_values v w) (widened_values size_of marks own v w) (value_join_right v w) (joined_in v w)

  pub widened_offsets : (v w : AVal) → have_offsets v ≡ true → have_offsets w ≡ true → have_offsets (widened_values size_of marks own v w) ≡ true
  widened_offsets (Separate ns xs) (Separate ms ys) a b = offsets_below (united xs ys) (merged base_of (widened_address size_of marks) xs ys) (grown size_of marks m xs ys) (join_offsets (Separate ns xs) (Separate ms ys) a b)
  widened_offsets (Separate ns xs) (Mixed bs) a b = refl
  widened_offsets (Mixed bs) w a b = refl

  pub widened_sound : (v w : AVal) → IsSound v → IsSound w → IsSound (widened_values size_of marks own v w)
  widened_sound (Separate ns xs) (Separate ms ys) s t =
      (merged_ascending base_of (widened_address size_of marks) (λ a b. refl) xs s.0 ys t.0, widened_offsets (Separate ns xs) (Separate ms ys) s.1 t.1)
  widened_sound (Separate ns xs) (Mixed bs) s t = join_sound (Separate ns xs) (Mixed bs) s t
  widened_sound (Mixed bs) w s t = join_sound (Mixed bs) w s t

-- ---- what the call answers

pub widened_separate : (size_of : ℕ → ℕ) (marks own : List ℤ) (v w : AVal) (n m s : Ival) (xs ys zs : List Address) → numbers_in v ≡ Some n → numbers_in w ≡ Some m → xs ≡ addresses_of v → ys ≡ addresses_of w →
    s ≡ widened_set marks own n m → zs ≡ merged base_of (widened_address size_of marks) xs ys → Separate s zs ≡ widened_values size_of marks own v w
widened_separate size_of marks own (Mixed bs) w n m s xs ys zs e f g h d i = cc
widened_separate size_of marks own (Separate ns us) (Mixed cs) n m s xs ys zs e f g h d i = cc
widened_separate size_of marks own (Separate ns us) (Separate ms vs) n m s xs ys zs e f g h d i =
    let p : n ≡ ns = sym (some_is ns n e) in
    let q : m ≡ ms = sym (some_is ms m f) in
    ap (λ z. Separate z zs) (d ∙ ap (λ z. widened_set marks own z m) p ∙ ap (widened_set marks own ns) q)
    ∙ ap (Separate (widened_set marks own ns ms)) (i ∙ ap (λ z. merged base_of (widened_address size_of marks) z ys) g ∙ ap (merged base_of (widened_address size_of marks) us) h)

pub widened_left_mix : (size_of : ℕ → ℕ) (marks own : List ℤ) (v w : AVal) → numbers_in v ≡ None → join_values v w ≡ widened_values size_of marks own v w
widened_left_mix size_of marks own (Separate ns xs) w e = cc
widened_left_mix size_of marks own (Mixed bs) w e = refl

pub widened_right_mix : (size_of : ℕ → ℕ) (marks own : List ℤ) (v w : AVal) → numbers_in w ≡ None → join_values v w ≡ widened_values size_of marks own v w
widened_right_mix size_of marks own v (Separate ns xs) e = cc
widened_right_mix size_of marks own (Separate ns xs) (Mixed cs) e = refl
widened_right_mix size_of marks own (Mixed bs) (Mixed cs) e = refl

pub widened_list : (size_of : ℕ → ℕ) (marks : List ℤ) (xs ys zs : List Address) → AreMarks marks → zs ≡ merged base_of (widened_address size_of marks) xs ys → AreAscending base_of xs → AreAscending base_of ys →
    list_all has_offsets xs ≡ true → list_all has_offsets ys ≡ true → AreAscending base_of zs × (list_all has_offsets zs ≡ true)
widened_list size_of marks xs ys zs m e a b h k =
    subst (λ us. AreAscending base_of us × (list_all has_offsets us ≡ true)) (sym e)
    (widened_sound size_of marks marks m m (Separate no_numbers xs) (Separate no_numbers ys) (a, h) (b, k))

pub widened_first : {E : Type 0} (r : Result AVal E) (size_of : ℕ → ℕ) (marks own : List ℤ) (v w : AVal) → AreMarks marks → AreMarks own → IfOk r (λ u. u ≡ widened_values size_of marks own v w) → IfOk r (λ u. value_in v u ≡ true)
widened_first (Err x) size_of marks own v w m k h = tt
widened_first (Ok u) size_of marks own v w m k h = subst (λ z. value_in v z ≡ true) (sym h) (widened_left size_of marks own m k v w)

pub widened_second : {E : Type 0} (r : Result AVal E) (size_of : ℕ → ℕ) (marks own : List ℤ) (v w : AVal) → AreMarks marks → AreMarks own → IfOk r (λ u. u ≡ widened_values size_of marks own v w) → IfOk r (λ u. value_in w u ≡ true)
widened_second (Err x) size_of marks own v w m k h = tt
widened_second (Ok u) size_of marks own v w m k h = subst (λ z. value_in w z ≡ true) (sym h) (widened_right size_of marks own m k v w)
