-- What stands from a bit of a list of runs on.
use Rattle.std.proofs.Common.{◌≡◌, ℕ, zero, suc, ◌+◌, ◌-◌, ◌*◌, ◌<◌, ◌≤◌, List, [], ◌∷◌, ◌++◌, length, take, drop, refl, sym, ap, ◌∙◌, subst, arith, append_assoc, get_or}
use Rattle.std.specs.Prelude.{replicate, min}
use Rattle.std.proofs.lemmas.List.{drop-append-le, drop-drop, drop_all, take-append-drop}
use Rattle.cell_laws.specs.Elements.{Element, Place, spread, places, width}
use Rattle.cell_laws.proofs.Places.{place, length-places, drop-spread, drop-past}
use Rattle.cell_laws.proofs.Cuts.{places-append}
use Rattle.cell_laws.proofs.Stretches.{width-replicate}
use Rattle.cell_runs.specs.declared.runs.Run.{Run}
use Rattle.cell_runs.specs.Runs.{element_of, elements, AllSome}
use Rattle.cell_runs.proofs.Taking.{at_run, elements-first, some_drop}
use Rattle.cell_runs.proofs.Portions.{Divides}
use Rattle.run_places.specs.declared.spots.Spot.{Spot}
use Rattle.run_places.specs.Spots.{ahead, HasBit, IsSpot, IsFront}

module _ {C : Type 0} where
  abbrev pub run_places : Run C → List (Place C)
  run_places r = places (replicate r.count (element_of r))

  pub length-run : (r : Run C) → length (run_places r) ≡ r.bits * r.count
  length-run r =
      let a = length-places (replicate r.count (element_of r)) in
      let b : width (replicate r.count (element_of r)) ≡ r.count * r.bits = width-replicate r.count (element_of r) in
      omega arith

  pub spot_in : (rs : List (Run C)) (s : Spot) (r : Run C) → s.index < length rs → r ≡ get_or rs s.index r → IsSpot rs s → s.skip < r.bits * r.count
  spot_in rs s r h e q = subst (λ (x : List (Run C)). HasBit x s.skip) (at_run rs s.index r h e) q

  spot_from : (rs : List (Run C)) (i n : ℕ) (r : Run C) → i < length rs → r ≡ get_or rs i r → n < r.bits * r.count → IsSpot rs (record { index = i; skip = n })
  spot_from rs i n r h e l = subst (λ (x : List (Run C)). HasBit x n) (sym (at_run rs i r h e)) l

  first_bit : (rs : List (Run C)) → AllSome rs → HasBit rs 0
  first_bit [] s = refl
  first_bit (r ∷ rs) s = let a = s.0 in let b = s.1 in positive r.bits r.count a b
    where
      positive : (m n : ℕ) → 0 < m → 0 < n → 0 < m * n
      positive zero n p q = absurd (omega arith)
      positive (suc m) zero p q = absurd (omega arith)
      positive (suc m) (suc n) p q = let k : suc m * suc n ≡ suc n + m * suc n = omega arith in omega arith

  pub spot_next : (rs : List (Run C)) (i : ℕ) → AllSome rs → IsSpot rs (record { index = i; skip = 0 })
  spot_next rs i s = first_bit (drop i rs) (some_drop i rs s)

  pub places-run : (rs : List (Run C)) (i : ℕ) (r : Run C) → i < length rs → r ≡ get_or rs i r → places (elements (drop i rs)) ≡ run_places r ++ places (elements (drop (i + 1) rs))
  places-run rs i r h e =
      ap (λ (x : List (Run C)). places (elements x)) (at_run rs i r h e) ∙ ap places (elements-first r (drop (i + 1) rs)) ∙ places-append (replicate r.count (element_of r)) (elements (drop (i + 1) rs))

  split_front : (rs : List (Run C)) (i skip n : ℕ) (r : Run C) → i < length rs → r ≡ get_or rs i r → skip ≤ r.bits * r.count → n ≤ r.bits * r.count - skip →
      drop skip (places (elements (drop i rs))) ≡ take n (drop skip (run_places r)) ++ (drop (skip + n) (run_places r) ++ places (elements (drop (i + 1) rs)))
  split_front rs i skip n r h e l m =
      let w = length-run r in
      let P = places (elements (drop (i + 1) rs)) in
      ap (drop skip) (places-run rs i r h e) ∙ drop-append-le skip (run_places r) P (omega arith)
      ∙ ap (λ (x : List (Place C)). x ++ P) (sym (take-append-drop n (drop skip (run_places r))) ∙ ap (λ (x : List (Place C)). take n (drop skip (run_places r)) ++ x) (drop-drop n skip (run_places r)))
      ∙ append_assoc (take n (drop skip (run_places r))) (drop (skip + n) (run_places r)) P

  pub ahead_inside : (rs : List (Run C)) (i skip n : ℕ) (r : Run C) → i < length rs → r ≡ get_or rs i r → skip ≤ r.bits * r.count → n ≤ r.bits * r.count - skip →
      ahead rs (record { index = i; skip = skip }) ≡ take n (drop skip (run_places r)) ++ ahead rs (record { index = i; skip = skip + n })
  unfolding ahead
  ahead_inside rs i skip n r h e l m =
      let w = length-run r in
      let P = places (elements (drop (i + 1) rs)) in
      split_front rs i skip n r h e l m
      ∙ ap (λ (x : List (Place C)). take n (drop skip (run_places r)) ++ x)
      (sym (ap (drop (skip + n)) (places-run rs i r h e) ∙ drop-append-le (skip + n) (run_places r) P (omega arith)))

  pub ahead_past : (rs : List (Run C)) (i skip n : ℕ) (r : Run C) → i < length rs → r ≡ get_or rs i r → skip ≤ r.bits * r.count → skip + n ≡ r.bits * r.count →
      ahead rs (record { index = i; skip = skip }) ≡ take n (drop skip (run_places r)) ++ ahead rs (record { index = i + 1; skip = 0 })
  unfolding ahead
  ahead_past rs i skip n r h e l m =
      let w = length-run r in
      let P = places (elements (drop (i + 1) rs)) in
      split_front rs i skip n r h e l (omega arith)
      ∙ ap (λ (x : List (Place C)). take n (drop skip (run_places r)) ++ (x ++ P)) (drop_all (skip + n) (run_places r) (omega arith))

  pub front_past : (rs : List (Run C)) (s : Spot) (most n : ℕ) (r : Run C) → AllSome rs → s.index < length rs → r ≡ get_or rs s.index r → IsSpot rs s → n ≡ min most (r.bits * r.count - s.skip) →
      s.skip + n ≡ r.bits * r.count → IsFront rs s most (record { count = n; next = record { index = s.index + 1; skip = 0 } })
  front_past rs s most n r a h e q m z =
      let l = spot_in rs s r h e q in
      record { run = r; is = at_run rs s.index r h e; split = ahead_past rs s.index s.skip n r h e (omega arith) z; count = m; skip = l; next = spot_next rs (s.index + 1) a }

  pub front_inside : (rs : List (Run C)) (s : Spot) (most n : ℕ) (r : Run C) → s.index < length rs → r ≡ get_or rs s.index r → IsSpot rs s → n ≡ min most (r.bits * r.count - s.skip) →
      (s.skip + n ≡ r.bits * r.count → ⊥) → IsFront rs s most (record { count = n; next = record { index = s.index; skip = s.skip + n } })
  front_inside rs s most n r h e q m z =
      let l = spot_in rs s r h e q in
      record {
        run = r;
        is = at_run rs s.index r h e;
        split = ahead_inside rs s.index s.skip n r h e (omega arith) (omega arith);
        count = m;
        skip = l;
        next = spot_from rs s.index (s.skip + n) r h e (omega arith);
      }

  -- the cells of a run's places

  abbrev pub AllOf : C → List (Place C) → Type 0
  AllOf c [] = Unit {0}
  AllOf c (p ∷ ps) = (p.cell ≡ c) × AllOf c ps

  all_of_spread : (k : ℕ) (c : C) (i n : ℕ) (qs : List (Place C)) → AllOf c qs → AllOf c (spread k c i n ++ qs)
  unfolding spread
  all_of_spread k c i zero qs a = a
  all_of_spread k c i (suc n) qs a = (refl, all_of_spread k c (suc i) n qs a)

  pub all_of_run : (n : ℕ) (e : Element C) → AllOf e.cell (places (replicate n e))
  unfolding places
  all_of_run zero e = tt
  all_of_run (suc n) e = all_of_spread e.bits e.cell 0 e.bits (places (replicate n e)) (all_of_run n e)

  pub all_of_drop : (n : ℕ) (c : C) (ps : List (Place C)) → AllOf c ps → AllOf c (drop n ps)
  all_of_drop zero c ps a = a
  all_of_drop (suc n) c [] a = tt
  all_of_drop (suc n) c (p ∷ ps) a = all_of_drop n c ps a.1

  pub all_of_take : (n : ℕ) (c : C) (ps : List (Place C)) → AllOf c ps → AllOf c (take n ps)
  all_of_take zero c ps a = tt
  all_of_take (suc n) c [] a = tt
  all_of_take (suc n) c (p ∷ ps) a = (a.0, all_of_take n c ps a.1)

  -- the place of one bit of a run
  pub place_of_run : (q c : ℕ) (e : Element C) (n r : ℕ) → Divides n e.bits q r → n < e.bits * c → take 1 (drop n (places (replicate c e))) ≡ place r e.bits e.cell ∷ []
  unfolding places place
  place_of_run q zero e n r d h = absurd (omega arith)
  place_of_run zero (suc c) e n r d h =
      let s = d.sum in
      let l = d.less in
      let i : n ≡ r = omega arith in
      ap (λ (x : ℕ). take 1 (drop x (spread e.bits e.cell 0 e.bits ++ places (replicate c e)))) i
      ∙ ap (take 1) (drop-spread e.bits e.cell 0 r e.bits (places (replicate c e)) l)
      ∙ ap (λ (x : ℕ). record { at = x; bits = e.bits; cell = e.cell } ∷ []) (omega arith)
  place_of_run (suc q) (suc c) e n r d h =
      let s = d.sum in
      let l = d.less in
      let m : suc q * e.bits ≡ e.bits + q * e.bits = omega arith in
      let k : e.bits * suc c ≡ e.bits + e.bits * c = omega arith in
      ap (take 1) (drop-past e.bits e.cell n (places (replicate c e)) (omega arith)) ∙ place_of_run q c e (n - e.bits) r (record { sum = omega arith; less = l }) (omega arith)
