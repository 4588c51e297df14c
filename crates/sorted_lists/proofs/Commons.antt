-- Walks along two lists that gather what they have in common.
use Rattle.std.proofs.Common.{◌≡◌, ◌⊎◌, inl, inr, ℕ, ◌+◌, ◌<◌, ◌≤◌, true, false, cond, List, [], ◌∷◌, ◌++◌, length, drop, slice_index_or, nat_lt, refl, sym, ap, ◌∙◌, arith, append-nil}
use Rattle.std.specs.Prelude.{Option, None, Some}
use Rattle.std.proofs.lemmas.Bool.Decides.{nat_tests}
use Rattle.avalue_base.specs.Meets.{kept, common, common_from}
use Rattle.sorted_lists.proofs.Merging.{drop_next, drop_end, moved}

lt_true : (a b : ℕ) → a < b → nat_lt a b ≡ true
lt_true a b h = grind (arith, nat_tests)

lt_false : (a b : ℕ) → b ≤ a → nat_lt a b ≡ false
lt_false a b h = grind (arith, nat_tests)

module _ {X Y : Type 0} (key : X → ℕ) (other_key : Y → ℕ) (picked : X → Y → Option X) where
  module _ (xs : List X) (ys : List Y) (i j : ℕ) (x : X) (y : Y) (h : i < length xs) (e : x ≡ slice_index_or xs i x) (k : j < length ys) (f : y ≡ slice_index_or ys j y) where
    opened : common key other_key picked (drop i xs) (drop j ys) ≡
        cond (nat_lt (other_key y) (key x)) (common key other_key picked (drop i xs) (drop (j + 1) ys))
        (cond (nat_lt (key x) (other_key y)) (common key other_key picked (drop (i + 1) xs) (drop j ys)) (kept (picked x y) (common key other_key picked (drop (i + 1) xs) (drop (j + 1) ys))))
    unfolding common common_from
    opened =
        let a = drop_next xs i x h e in
        let b = drop_next ys j y k f in
        rw (a, b) refl

    pub skip_right : (list : List X) → other_key y < key x → list ++ common key other_key picked (drop i xs) (drop (j + 1) ys) ≡ list ++ common key other_key picked (drop i xs) (drop j ys)
    skip_right list l = ap (λ zs. list ++ zs) (sym (opened ∙ rw (lt_true (other_key y) (key x) l) refl))

    pub skip_left : (list : List X) → key x < other_key y → list ++ common key other_key picked (drop (i + 1) xs) (drop j ys) ≡ list ++ common key other_key picked (drop i xs) (drop j ys)
    skip_left list l =
        let m : key x ≤ other_key y = omega arith in
        ap (λ zs. list ++ zs) (sym (opened ∙ rw (lt_false (other_key y) (key x) m, lt_true (key x) (other_key y) l) refl))

    pub skip_both : (list : List X) → key x ≤ other_key y → other_key y ≤ key x → picked x y ≡ None → list ++ common key other_key picked (drop (i + 1) xs) (drop (j + 1) ys) ≡ list ++ common key other_key picked (drop i xs) (drop j ys)
    skip_both list l m t = ap (λ zs. list ++ zs) (sym (opened ∙ rw (lt_false (other_key y) (key x) l, lt_false (key x) (other_key y) m, t) refl))

    pub take_both : (old new : List X) (z : X) → key x ≤ other_key y → other_key y ≤ key x → picked x y ≡ Some z → new ≡ old ++ z ∷ [] →
        new ++ common key other_key picked (drop (i + 1) xs) (drop (j + 1) ys) ≡ old ++ common key other_key picked (drop i xs) (drop j ys)
    take_both old new z l m t n =
        moved old new (common key other_key picked (drop (i + 1) xs) (drop (j + 1) ys)) z n
        ∙ ap (λ zs. old ++ zs) (sym (opened ∙ rw (lt_false (other_key y) (key x) l, lt_false (key x) (other_key y) m, t) refl))

  none_right : (xs : List X) → common key other_key picked xs [] ≡ []
  unfolding common common_from
  none_right [] = refl
  none_right (x ∷ xs) = refl

  none_left : (ys : List Y) → common key other_key picked [] ys ≡ []
  unfolding common
  none_left ys = refl

  -- where one list is read, nothing follows
  pub all_common : (xs done : List X) (ys : List Y) (i j : ℕ) → done ++ common key other_key picked (drop i xs) (drop j ys) ≡ common key other_key picked xs ys → (length xs ≤ i) ⊎ (length ys ≤ j) → done ≡ common key other_key picked xs ys
  all_common xs done ys i j e (inl h) =
      sym (append-nil done) ∙ ap (λ zs. done ++ zs) (sym (ap (λ zs. common key other_key picked zs (drop j ys)) (drop_end xs i h) ∙ none_left (drop j ys))) ∙ e
  all_common xs done ys i j e (inr h) =
      sym (append-nil done) ∙ ap (λ zs. done ++ zs) (sym (ap (common key other_key picked (drop i xs)) (drop_end ys j h) ∙ none_right (drop i xs))) ∙ e

-- what two lists have in common so far
pub record Gathered {X Y : Type 0} (key : X → ℕ) (other_key : Y → ℕ) (picked : X → Y → Option X) (xs done : List X) (ys : List Y) (i j : ℕ) : Type 0 where
  pub same : done ++ common key other_key picked (drop i xs) (drop j ys) ≡ common key other_key picked xs ys
  pub left : i ≤ length xs
  pub right : j ≤ length ys
