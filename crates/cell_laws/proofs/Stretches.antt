-- Stretches of elements of one size, and of elements that hold whole elements of the other map.
use Rattle.std.proofs.Common.{◌≡◌, ℕ, zero, suc, ◌+◌, ◌*◌, ◌<◌, ◌≤◌, true, false, List, [], ◌∷◌, ◌++◌, take, refl, sym, ap, ◌∙◌, arith, append_assoc}
use Rattle.std.specs.Prelude.{replicate, Some}
use Rattle.std.specs.List.{flat_map}
use Rattle.std.proofs.Math.Nat.{mul-le-mul_left}
use Rattle.std.proofs.lemmas.List.{replicate_more, replicate-append-replicate, take_at}
use Rattle.std.proofs.lemmas.Bool.{ne_eqb, lt-leb, le-leb, eq-eqb}
use Rattle.cell_laws.specs.Elements.{Element, spread, places, width}
use Rattle.cell_laws.specs.Cells.{Ops}
use Rattle.cell_laws.specs.Join.{is_some_wide, whole, with_places, with_whole, more_of, one_more, with_all, or_first, join_stretch, joined_from}
use Rattle.cell_laws.proofs.Places.{length-spread}
use Rattle.cell_laws.proofs.Steps.{join_left, join_right, join_close}

-- so many times one list
abbrev pub times : {A : Type 0} → ℕ → List A → List A
times zero l = []
times (suc n) l = l ++ times n l

pub times-replicate : {A : Type 0} (n c : ℕ) (e : A) → times n (replicate c e) ≡ replicate (c * n) e
times-replicate zero c e = let z : c * zero ≡ zero = omega arith in ap (λ (m : ℕ). replicate m e) (sym z)
times-replicate (suc n) c e =
    let z : c + c * n ≡ c * suc n = omega arith in
    ap (λ l. replicate c e ++ l) (times-replicate n c e) ∙ replicate-append-replicate c (c * n) e ∙ ap (λ (m : ℕ). replicate m e) z

zero_first : (n : ℕ) → 1 ≤ suc n
zero_first n = omega arith

module _ {C : Type 0} where
  pub width-replicate : (n : ℕ) (e : Element C) → width (replicate n e) ≡ n * e.bits
  unfolding width
  width-replicate zero e = omega arith
  width-replicate (suc n) e = let r = width-replicate n e in let m : suc n * e.bits ≡ e.bits + n * e.bits = omega arith in omega arith

  pub nothing_wide : (p q : List (Element C)) → p ≡ [] → is_some_wide p q ≡ false
  unfolding is_some_wide
  nothing_wide [] q e = refl
  nothing_wide (x ∷ p) q e = cc

  pub other_wide : (p q : List (Element C)) → (width p ≡ width q → ⊥) → is_some_wide p q ≡ false
  unfolding is_some_wide
  other_wide [] q e = refl
  other_wide (x ∷ p) q e = ne_eqb (width (x ∷ p)) (width q) e

  pub both_wide : (p q : List (Element C)) → width p ≡ width q → 0 < width p → is_some_wide p q ≡ true
  unfolding is_some_wide width
  both_wide [] q e h = absurd (omega arith)
  both_wide (x ∷ p) q e h = eq-eqb (width (x ∷ p)) (width q) e

module _ {C H : Type 0} (o : Ops C H) (merge : ℕ → C → C → C) where
  whole-spread : (k : ℕ) (x : C) → 0 < k → whole k (spread k x 0 k) ≡ Some x
  unfolding whole spread
  whole-spread zero x h = absurd (omega arith)
  whole-spread (suc k) x h = rw (eq-eqb (suc k) (suc k) refl) refl

  merged_is : (k : ℕ) (x y : C) → 0 < k → with_places o merge k y (spread k x 0 k) ≡ Some (merge k x y)
  unfolding with_places with_whole
  merged_is k x y h = rw (whole-spread k x h) refl

  -- where both have one element, so has the join
  pub stretch_one : (k : ℕ) (x y : C) → 0 < k → join_stretch o merge (record { bits = k; cell = x } ∷ []) (record { bits = k; cell = y } ∷ []) ≡ record { bits = k; cell = merge k x y } ∷ []
  unfolding join_stretch with_all places or_first more_of one_more
  stretch_one k x y h =
      let t : take k (spread k x 0 k ++ []) ≡ spread k x 0 k = take_at (spread k x 0 k) [] k (length-spread k x 0 k) in
      rw (t, merged_is k x y h) refl

  pub many_same : (n : ℕ) (e x : Element C) (r : List (Element C)) → r ≡ e ∷ [] → flat_map (λ z. r) (replicate n x) ≡ replicate n e
  many_same zero e x r h = refl
  many_same (suc n) e x r h = ap (λ (l : List (Element C)). l ++ flat_map (λ z. r) (replicate n x)) h ∙ ap (λ (l : List (Element C)). e ∷ l) (many_same n e x r h)

  fine_rest : (r d : ℕ) (x y : Element C) (xs ys : List (Element C)) → 0 < x.bits → (suc d + r) * x.bits ≡ y.bits →
      joined_from o merge (replicate (suc d) x) (y ∷ []) (replicate r x ++ xs) ys ≡ join_stretch o merge (replicate (suc d + r) x) (y ∷ []) ++ joined_from o merge [] [] xs ys
  unfolding width
  fine_rest zero d x y xs ys p e =
      let w = width-replicate (suc d) x in
      let n : suc d + 0 ≡ suc d = omega arith in
      let e2 : suc d * x.bits ≡ y.bits = ap (λ (m : ℕ). m * x.bits) (sym n) ∙ e in
      let pos : 1 * x.bits ≤ suc d * x.bits = omega (arith, mul-le-mul_left x.bits (zero_first d)) in
      join_close o merge (replicate (suc d) x) (y ∷ []) xs ys (both_wide (replicate (suc d) x) (y ∷ []) (omega arith) (omega arith))
      ∙ ap (λ (m : ℕ). join_stretch o merge (replicate m x) (y ∷ []) ++ joined_from o merge [] [] xs ys) (sym n)
  fine_rest (suc r) d x y xs ys p e =
      let w = width-replicate (suc d) x in
      let more : (suc d + suc r) * x.bits ≡ suc d * x.bits + (suc r) * x.bits = omega arith in
      let pos : 1 * x.bits ≤ suc r * x.bits = omega (arith, mul-le-mul_left x.bits (zero_first r)) in
      let n : suc (suc d) + r ≡ suc d + suc r = omega arith in
      let one : suc d + 1 ≡ suc (suc d) = omega arith in
      let g : replicate (suc d) x ++ x ∷ [] ≡ replicate (suc (suc d)) x = replicate_more (suc d) x ∙ ap (λ (m : ℕ). replicate m x) one in
      join_left o merge (replicate (suc d) x) (y ∷ []) x (replicate r x ++ xs) ys (other_wide (replicate (suc d) x) (y ∷ []) (λ h. omega arith))
      (le-leb (width (replicate (suc d) x)) (y.bits + 0) (omega arith))
      ∙ ap (λ (l : List (Element C)). joined_from o merge l (y ∷ []) (replicate r x ++ xs) ys) g
      ∙ fine_rest r (suc d) x y xs ys p (ap (λ (m : ℕ). m * x.bits) n ∙ e)
      ∙ ap (λ (m : ℕ). join_stretch o merge (replicate m x) (y ∷ []) ++ joined_from o merge [] [] xs ys) n

  -- q elements of the first map in one of the second
  pub join_fine : (q : ℕ) (x y : Element C) (xs ys : List (Element C)) → 0 < x.bits → suc q * x.bits ≡ y.bits →
      joined_from o merge [] [] (replicate (suc q) x ++ xs) (y ∷ ys) ≡ join_stretch o merge (replicate (suc q) x) (y ∷ []) ++ joined_from o merge [] [] xs ys
  unfolding width
  join_fine q x y xs ys p e =
      let n : suc zero + q ≡ suc q = omega arith in
      join_left o merge [] [] x (replicate q x ++ xs) (y ∷ ys) (nothing_wide [] [] refl) (le-leb 0 0 (omega arith))
      ∙ join_right o merge (x ∷ []) [] y (replicate q x ++ xs) ys (other_wide (x ∷ []) [] (λ h. omega arith)) (lt-leb (x.bits + 0) 0 (omega arith))
      ∙ fine_rest q zero x y xs ys p (ap (λ (m : ℕ). m * x.bits) n ∙ e)
      ∙ ap (λ (m : ℕ). join_stretch o merge (replicate m x) (y ∷ []) ++ joined_from o merge [] [] xs ys) n

  -- and so for many
  pub join_fine_run : (m q : ℕ) (x y : Element C) (xs ys : List (Element C)) → 0 < x.bits → suc q * x.bits ≡ y.bits →
      joined_from o merge [] [] (replicate (m * suc q) x ++ xs) (replicate m y ++ ys) ≡ times m (join_stretch o merge (replicate (suc q) x) (y ∷ [])) ++ joined_from o merge [] [] xs ys
  join_fine_run zero q x y xs ys p e = let z : zero * suc q ≡ zero = omega arith in ap (λ (m : ℕ). joined_from o merge [] [] (replicate m x ++ xs) ys) z
  join_fine_run (suc m) q x y xs ys p e =
      let n : suc m * suc q ≡ suc q + m * suc q = omega arith in
      let g : replicate (suc m * suc q) x ++ xs ≡ replicate (suc q) x ++ (replicate (m * suc q) x ++ xs) =
      ap (λ (k : ℕ). replicate k x ++ xs) n ∙ ap (λ (l : List (Element C)). l ++ xs) (sym (replicate-append-replicate (suc q) (m * suc q) x))
      ∙ append_assoc (replicate (suc q) x) (replicate (m * suc q) x) xs in
      let s = join_stretch o merge (replicate (suc q) x) (y ∷ []) in
      ap (λ (l : List (Element C)). joined_from o merge [] [] l (replicate (suc m) y ++ ys)) g
      ∙ join_fine q x y (replicate (m * suc q) x ++ xs) (replicate m y ++ ys) p e
      ∙ ap (λ (l : List (Element C)). s ++ l) (join_fine_run m q x y xs ys p e)
      ∙ sym (append_assoc s (times m s) (joined_from o merge [] [] xs ys))

  coarse_rest : (r d : ℕ) (x y : Element C) (xs ys : List (Element C)) → 0 < y.bits → (d + suc r) * y.bits ≡ x.bits →
      joined_from o merge (x ∷ []) (replicate d y) xs (replicate (suc r) y ++ ys) ≡ join_stretch o merge (x ∷ []) (replicate (d + suc r) y) ++ joined_from o merge [] [] xs ys
  unfolding width
  coarse_rest zero d x y xs ys p e =
      let w = width-replicate d y in
      let v = width-replicate (d + 1) y in
      let more : (d + 1) * y.bits ≡ d * y.bits + y.bits = omega arith in
      let g : replicate d y ++ y ∷ [] ≡ replicate (d + 1) y = replicate_more d y in
      join_right o merge (x ∷ []) (replicate d y) y xs ys (other_wide (x ∷ []) (replicate d y) (λ h. omega arith))
      (lt-leb (x.bits + 0) (width (replicate d y)) (omega arith))
      ∙ ap (λ (l : List (Element C)). joined_from o merge (x ∷ []) l xs ys) g
      ∙ join_close o merge (x ∷ []) (replicate (d + 1) y) xs ys (both_wide (x ∷ []) (replicate (d + 1) y) (omega arith) (omega arith))
  coarse_rest (suc r) d x y xs ys p e =
      let w = width-replicate d y in
      let more : (d + suc (suc r)) * y.bits ≡ d * y.bits + (suc (suc r)) * y.bits = omega arith in
      let pos : 1 * y.bits ≤ suc (suc r) * y.bits = omega (arith, mul-le-mul_left y.bits (zero_first (suc r))) in
      let n : d + 1 + suc r ≡ d + suc (suc r) = omega arith in
      let g : replicate d y ++ y ∷ [] ≡ replicate (d + 1) y = replicate_more d y in
      join_right o merge (x ∷ []) (replicate d y) y xs (replicate (suc r) y ++ ys) (other_wide (x ∷ []) (replicate d y) (λ h. omega arith))
      (lt-leb (x.bits + 0) (width (replicate d y)) (omega arith))
      ∙ ap (λ (l : List (Element C)). joined_from o merge (x ∷ []) l xs (replicate (suc r) y ++ ys)) g
      ∙ coarse_rest r (d + 1) x y xs ys p (ap (λ (m : ℕ). m * y.bits) n ∙ e)
      ∙ ap (λ (m : ℕ). join_stretch o merge (x ∷ []) (replicate m y) ++ joined_from o merge [] [] xs ys) n

  -- q elements of the second map in one of the first
  pub join_coarse : (q : ℕ) (x y : Element C) (xs ys : List (Element C)) → 0 < y.bits → suc q * y.bits ≡ x.bits →
      joined_from o merge [] [] (x ∷ xs) (replicate (suc q) y ++ ys) ≡ join_stretch o merge (x ∷ []) (replicate (suc q) y) ++ joined_from o merge [] [] xs ys
  unfolding width
  join_coarse q x y xs ys p e =
      let n : 0 + suc q ≡ suc q = omega arith in
      join_left o merge [] [] x xs (replicate (suc q) y ++ ys) (nothing_wide [] [] refl) (le-leb 0 0 (omega arith))
      ∙ coarse_rest q zero x y xs ys p (ap (λ (m : ℕ). m * y.bits) n ∙ e)
      ∙ ap (λ (m : ℕ). join_stretch o merge (x ∷ []) (replicate m y) ++ joined_from o merge [] [] xs ys) n

  -- and so for many
  pub join_coarse_run : (m q : ℕ) (x y : Element C) (xs ys : List (Element C)) → 0 < y.bits → suc q * y.bits ≡ x.bits →
      joined_from o merge [] [] (replicate m x ++ xs) (replicate (m * suc q) y ++ ys) ≡ times m (join_stretch o merge (x ∷ []) (replicate (suc q) y)) ++ joined_from o merge [] [] xs ys
  join_coarse_run zero q x y xs ys p e = let z : zero * suc q ≡ zero = omega arith in ap (λ (m : ℕ). joined_from o merge [] [] xs (replicate m y ++ ys)) z
  join_coarse_run (suc m) q x y xs ys p e =
      let n : suc m * suc q ≡ suc q + m * suc q = omega arith in
      let g : replicate (suc m * suc q) y ++ ys ≡ replicate (suc q) y ++ (replicate (m * suc q) y ++ ys) =
      ap (λ (k : ℕ). replicate k y ++ ys) n ∙ ap (λ (l : List (Element C)). l ++ ys) (sym (replicate-append-replicate (suc q) (m * suc q) y))
      ∙ append_assoc (replicate (suc q) y) (replicate (m * suc q) y) ys in
      let s = join_stretch o merge (x ∷ []) (replicate (suc q) y) in
      ap (λ (l : List (Element C)). joined_from o merge [] [] (replicate (suc m) x ++ xs) l) g
      ∙ join_coarse q x y (replicate m x ++ xs) (replicate (m * suc q) y ++ ys) p e
      ∙ ap (λ (l : List (Element C)). s ++ l) (join_coarse_run m q x y xs ys p e)
      ∙ sym (append_assoc s (times m s) (joined_from o merge [] [] xs ys))
