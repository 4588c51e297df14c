-- Walks along two lists.
use Rattle.std.proofs.Common.{◌≡◌, ◌⊎◌, inl, inr, ℕ, zero, suc, ◌+◌, ◌<◌, ◌≤◌, Bool, true, false, cond, ◌&&◌, ◌||◌, map, List, [], ◌∷◌, ◌++◌, length, drop, slice_index_or, nat_lt, ◌==◌, refl, sym, ap, ◌∙◌, arith, append_assoc, append-nil}
use Rattle.std.proofs.lemmas.Bool.Decides.{nat_tests}
use Rattle.std.specs.Prelude.{not}
use Rattle.avalue_base.specs.Deaths.{without}
use Rattle.avalue_base.specs.Lists.{put, merged, has_base}
use Rattle.sorted_lists.specs.Walks.{find_in, all_in}

pub drop_next : {X : Type 0} (xs : List X) (i : ℕ) (x : X) → i < length xs → x ≡ slice_index_or xs i x → drop i xs ≡ x ∷ drop (i + 1) xs
drop_next [] i x h e = absurd (omega arith)
drop_next (y ∷ ys) zero x h e = ap (λ z. z ∷ ys) (sym e)
drop_next (y ∷ ys) (suc i) x h e =
    let n : suc i + 1 ≡ suc (i + 1) = omega arith in
    drop_next ys i x (omega arith) e ∙ ap (λ m. x ∷ drop m (y ∷ ys)) (sym n)

pub drop_end : {X : Type 0} (xs : List X) (i : ℕ) → length xs ≤ i → drop i xs ≡ []
drop_end [] zero h = refl
drop_end [] (suc i) h = refl
drop_end (x ∷ xs) zero h = absurd (omega arith)
drop_end (x ∷ xs) (suc i) h = drop_end xs i (omega arith)

lt_true : (a b : ℕ) → a < b → nat_lt a b ≡ true
lt_true a b h = grind (arith, nat_tests)

lt_false : (a b : ℕ) → b ≤ a → nat_lt a b ≡ false
lt_false a b h = grind (arith, nat_tests)

-- an element read from the list goes to the end of what was made
pub moved : {X : Type 0} (old new rest : List X) (x : X) → new ≡ old ++ x ∷ [] → new ++ rest ≡ old ++ x ∷ rest
moved old new rest x e = ap (λ zs. zs ++ rest) e ∙ append_assoc old (x ∷ []) rest

module _ {X : Type 0} (key : X → ℕ) (both : X → X → X) where
  merged_less : (x y : X) (xs ys : List X) → key x < key y → merged key both (x ∷ xs) (y ∷ ys) ≡ x ∷ merged key both xs (y ∷ ys)
  unfolding merged put
  merged_less x y xs ys h = rw (lt_true (key x) (key y) h) refl

  merged_more : (x y : X) (xs ys : List X) → key y < key x → merged key both (x ∷ xs) (y ∷ ys) ≡ y ∷ merged key both (x ∷ xs) ys
  unfolding merged put
  merged_more x y xs ys h =
      let a : key y ≤ key x = omega arith in
      rw (lt_false (key x) (key y) a, lt_true (key y) (key x) h) refl

  merged_both : (x y : X) (xs ys : List X) → key y ≤ key x → key x ≤ key y → merged key both (x ∷ xs) (y ∷ ys) ≡ both x y ∷ merged key both xs ys
  unfolding merged put
  merged_both x y xs ys h k = rw (lt_false (key x) (key y) h, lt_false (key y) (key x) k) refl

  pub merged_left : (ys : List X) → merged key both [] ys ≡ ys
  unfolding merged
  merged_left ys = refl

  pub merged_right : (xs : List X) → merged key both xs [] ≡ xs
  unfolding merged put
  merged_right [] = refl
  merged_right (x ∷ xs) = ap (λ zs. x ∷ zs) (merged_right xs)

  -- two cursors
  module _ (xs ys : List X) (i j : ℕ) (x y : X) (h : i < length xs) (e : x ≡ slice_index_or xs i x) (k : j < length ys) (f : y ≡ slice_index_or ys j y) where
    pub step_left : (old new : List X) → key x < key y → new ≡ old ++ x ∷ [] → new ++ merged key both (drop (i + 1) xs) (drop j ys) ≡ old ++ merged key both (drop i xs) (drop j ys)
    step_left old new l n =
        let a = drop_next xs i x h e in
        let b = drop_next ys j y k f in
        rw (a, b) (moved old new (merged key both (drop (i + 1) xs) (y ∷ drop (j + 1) ys)) x n ∙ ap (λ zs. old ++ zs) (sym (merged_less x y (drop (i + 1) xs) (drop (j + 1) ys) l)))

    pub step_right : (old new : List X) → key y < key x → new ≡ old ++ y ∷ [] → new ++ merged key both (drop i xs) (drop (j + 1) ys) ≡ old ++ merged key both (drop i xs) (drop j ys)
    step_right old new l n =
        let a = drop_next xs i x h e in
        let b = drop_next ys j y k f in
        rw (a, b) (moved old new (merged key both (x ∷ drop (i + 1) xs) (drop (j + 1) ys)) y n ∙ ap (λ zs. old ++ zs) (sym (merged_more x y (drop (i + 1) xs) (drop (j + 1) ys) l)))

    pub step_both : (old new : List X) → key y ≤ key x → key x ≤ key y → new ≡ old ++ both x y ∷ [] → new ++ merged key both (drop (i + 1) xs) (drop (j + 1) ys) ≡ old ++ merged key both (drop i xs) (drop j ys)
    step_both old new l m n =
        let a = drop_next xs i x h e in
        let b = drop_next ys j y k f in
        rw (a, b) (moved old new (merged key both (drop (i + 1) xs) (drop (j + 1) ys)) (both x y) n ∙ ap (λ zs. old ++ zs) (sym (merged_both x y (drop (i + 1) xs) (drop (j + 1) ys) l m)))

  -- where one list is read, the rest of the other one follows
  pub rests : (xs ys done middle last : List X) (i j : ℕ) → done ++ merged key both (drop i xs) (drop j ys) ≡ merged key both xs ys → middle ≡ done ++ drop i xs → last ≡ middle ++ drop j ys →
      (length xs ≤ i) ⊎ (length ys ≤ j) → last ≡ merged key both xs ys
  rests xs ys done middle last i j e m n (inl h) =
      let a = drop_end xs i h in
      let b : middle ≡ done = m ∙ ap (λ zs. done ++ zs) a ∙ append-nil done in
      let c : merged key both (drop i xs) (drop j ys) ≡ drop j ys = ap (λ zs. merged key both zs (drop j ys)) a ∙ merged_left (drop j ys) in
      n ∙ ap (λ zs. zs ++ drop j ys) b ∙ ap (λ zs. done ++ zs) (sym c) ∙ e
  rests xs ys done middle last i j e m n (inr h) =
      let a = drop_end ys j h in
      let c : merged key both (drop i xs) (drop j ys) ≡ drop i xs = ap (λ zs. merged key both (drop i xs) zs) a ∙ merged_right (drop i xs) in
      n ∙ ap (λ zs. middle ++ zs) a ∙ append-nil middle ∙ m ∙ ap (λ zs. done ++ zs) (sym c) ∙ e

module _ {X Y : Type 0} (key : X → ℕ) (other_key : Y → ℕ) (lies : X → Y → Bool) where
  module _ (xs : List X) (ys : List Y) (i j : ℕ) (x : X) (y : Y) (h : i < length xs) (e : x ≡ slice_index_or xs i x) (k : j < length ys) (f : y ≡ slice_index_or ys j y) where
    opened : all_in key other_key lies (drop i xs) (drop j ys) ≡ cond (nat_lt (other_key y) (key x)) (all_in key other_key lies (drop i xs) (drop (j + 1) ys)) (cond (nat_lt (key x) (other_key y)) false (lies x y && all_in key other_key lies (drop (i + 1) xs) (drop (j + 1) ys)))
    unfolding all_in find_in
    opened =
        let a = drop_next xs i x h e in
        let b = drop_next ys j y k f in
        rw (a, b) refl

    pub passed : other_key y < key x → all_in key other_key lies (drop i xs) (drop (j + 1) ys) ≡ all_in key other_key lies (drop i xs) (drop j ys)
    passed l = sym (opened ∙ rw (lt_true (other_key y) (key x) l) refl)

    pub missing : key x < other_key y → all_in key other_key lies (drop i xs) (drop j ys) ≡ false
    missing l = let m : key x ≤ other_key y = omega arith in opened ∙ rw (lt_false (other_key y) (key x) m, lt_true (key x) (other_key y) l) refl

    pub lying : key x ≤ other_key y → other_key y ≤ key x → lies x y ≡ true → all_in key other_key lies (drop (i + 1) xs) (drop (j + 1) ys) ≡ all_in key other_key lies (drop i xs) (drop j ys)
    lying l m t = sym (opened ∙ rw (lt_false (other_key y) (key x) l, lt_false (key x) (other_key y) m, t) refl)

    pub not_lying : key x ≤ other_key y → other_key y ≤ key x → lies x y ≡ false → all_in key other_key lies (drop i xs) (drop j ys) ≡ false
    not_lying l m t = opened ∙ rw (lt_false (other_key y) (key x) l, lt_false (key x) (other_key y) m, t) refl

  pub all_read : (xs : List X) (ys : List Y) (i j : ℕ) → length xs ≤ i → all_in key other_key lies (drop i xs) (drop j ys) ≡ true
  unfolding all_in
  all_read xs ys i j h = rw (drop_end xs i h) refl

  pub none_left : (xs : List X) (ys : List Y) (i j : ℕ) → i < length xs → length ys ≤ j → all_in key other_key lies (drop i xs) (drop j ys) ≡ false
  unfolding all_in find_in
  none_left xs ys i j h k = rw (drop_end ys j k) (at (drop i xs) (some xs i h))
    where
      some : (xs : List X) (i : ℕ) → i < length xs → 0 < length (drop i xs)
      some [] i h = absurd (omega arith)
      some (x ∷ xs) zero h = h
      some (x ∷ xs) (suc i) h = some xs i (omega arith)

      at : (zs : List X) → 0 < length zs → all_in key other_key lies zs [] ≡ false
      at [] h = absurd (omega arith)
      at (z ∷ zs) h = refl

-- a union so far
pub record Union {X : Type 0} (key : X → ℕ) (both : X → X → X) (xs ys done : List X) (i j : ℕ) : Type 0 where
  pub same : done ++ merged key both (drop i xs) (drop j ys) ≡ merged key both xs ys
  pub left : i ≤ length xs
  pub right : j ≤ length ys

-- a comparison so far
pub record Walk {X Y : Type 0} (key : X → ℕ) (other_key : Y → ℕ) (lies : X → Y → Bool) (xs : List X) (ys : List Y) (i j : ℕ) : Type 0 where
  pub same : all_in key other_key lies (drop i xs) (drop j ys) ≡ all_in key other_key lies xs ys
  pub left : i ≤ length xs
  pub right : j ≤ length ys

-- elements with other keys so far
module _ {X : Type 0} (key : X → ℕ) (base : ℕ) (xs : List X) (i : ℕ) (x : X) (h : i < length xs) (e : x ≡ slice_index_or xs i x) where
  pub left_out : (key x == base) ≡ true → without key base (drop (i + 1) xs) ≡ without key base (drop i xs)
  left_out t =
      let a = drop_next xs i x h e in
      sym (ap (without key base) a ∙ ap (λ b. cond (not b) (x ∷ without key base (drop (i + 1) xs)) (without key base (drop (i + 1) xs))) t)

  pub kept : (key x == base) ≡ false → (old new : List X) → new ≡ old ++ x ∷ [] → new ++ without key base (drop (i + 1) xs) ≡ old ++ without key base (drop i xs)
  kept t old new n =
      let a = drop_next xs i x h e in
      moved old new (without key base (drop (i + 1) xs)) x n
      ∙ ap (λ zs. old ++ zs) (sym (ap (without key base) a ∙ ap (λ b. cond (not b) (x ∷ without key base (drop (i + 1) xs)) (without key base (drop (i + 1) xs))) t))

  pub key_found : (key x == base) ≡ true → has_base (map key (drop i xs)) base ≡ true
  key_found t =
      let a = drop_next xs i x h e in
      ap (λ zs. has_base (map key zs) base) a ∙ ap (λ b. b || has_base (map key (drop (i + 1) xs)) base) t

  pub key_passed : (key x == base) ≡ false → has_base (map key (drop (i + 1) xs)) base ≡ has_base (map key (drop i xs)) base
  key_passed t =
      let a = drop_next xs i x h e in
      sym (ap (λ zs. has_base (map key zs) base) a ∙ ap (λ b. b || has_base (map key (drop (i + 1) xs)) base) t)
