-- Tests of the cells of the next places, run by run.
use Rattle.std.proofs.Common.{◌≡◌, ℕ, zero, suc, ◌+◌, ◌-◌, ◌<◌, ◌≤◌, Bool, true, false, ◌&&◌, List, [], ◌∷◌, ◌++◌, length, take, drop, refl, sym, ap, ◌∙◌, subst, arith, inl, inr, get_or, length-take, length-drop}
use Rattle.std.specs.List.{list_all}
use Rattle.std.proofs.lemmas.List.{length-append, drop-append-le, take-append-le}
use Rattle.std.proofs.lemmas.Bool.{cases_lt}
use Rattle.cell_laws.specs.Elements.{Place, places}
use Rattle.cell_runs.specs.declared.runs.Run.{Run}
use Rattle.cell_runs.specs.Runs.{element_of, elements}
use Rattle.cell_runs.proofs.Taking.{at_run, none_past}
use Rattle.run_places.specs.declared.spots.Spot.{Spot}
use Rattle.run_places.specs.declared.spots.Front.{Front}
use Rattle.run_places.specs.Spots.{ahead, IsSpot, IsFront}
use Rattle.run_places.proofs.Ahead.{AllOf, spot_in, places-run, run_places, length-run, all_of_run, all_of_drop, all_of_take}

no_places : (C : Type 0) → places {C = C} (elements []) ≡ []
unfolding places elements
no_places C = refl

module _ {C : Type 0} where
  -- the places of a step along the runs
  abbrev pub front_of : (rs : List (Run C)) (s : Spot) (most : ℕ) (f : Front) → IsFront rs s most f → List (Place C)
  front_of rs s most f i = take f.count (drop s.skip (run_places i.run))

  pub front_is : (rs : List (Run C)) (s : Spot) (most : ℕ) (f : Front) (i : IsFront rs s most f) (r : Run C) → s.index < length rs → r ≡ get_or rs s.index r → i.run ≡ r
  front_is rs s most f i r h e =
      let a : i.run ∷ drop (s.index + 1) rs ≡ r ∷ drop (s.index + 1) rs = sym i.is ∙ at_run rs s.index r h e in
      cc

  pub length-front : (rs : List (Run C)) (s : Spot) (most : ℕ) (f : Front) (i : IsFront rs s most f) → length (front_of rs s most f i) ≡ f.count
  length-front rs s most f i =
      let l = length-run i.run in
      let c = i.count in
      let k = i.skip in
      simp (length-take, length-drop) (omega arith)

  pub front_cells : (rs : List (Run C)) (s : Spot) (most : ℕ) (f : Front) (i : IsFront rs s most f) → AllOf i.run.cell (front_of rs s most f i)
  front_cells rs s most f i = all_of_take f.count i.run.cell (drop s.skip (run_places i.run)) (all_of_drop s.skip i.run.cell (run_places i.run) (all_of_run i.run.count (element_of i.run)))

  -- where some places are left, there is a run
  pub in_range : (rs : List (Run C)) (s : Spot) → 0 < length (ahead rs s) → s.index < length rs
  unfolding ahead
  in_range rs s h =
      elim (cases_lt s.index (length rs)) [
        | inl l ↦ l
        | inr l ↦
            let d : drop s.skip (places (elements (drop s.index rs))) ≡ drop s.skip [] = ap (λ (x : List (Run C)). drop s.skip (places (elements x))) (none_past rs s.index l) ∙ ap (drop s.skip) (no_places C) in
            let e : drop s.skip [] ≡ [] = none_dropped s.skip in
            let n : length (drop s.skip (places (elements (drop s.index rs)))) ≡ 0 = ap length (d ∙ e) in
            absurd (omega arith)
      ]
    where
      none_dropped : (n : ℕ) → ◌≡◌ {A = List (Place C)} (drop n []) []
      none_dropped zero = refl
      none_dropped (suc n) = refl

  pub next_take : (rs : List (Run C)) (s : Spot) (most left : ℕ) (f : Front) (i : IsFront rs s most f) → f.count ≤ left → take left (ahead rs s) ≡ front_of rs s most f i ++ take (left - f.count) (ahead rs f.next)
  next_take rs s most left f i h =
      let w = length-front rs s most f i in
      ap (take left) i.split ∙ take_over left (front_of rs s most f i) (ahead rs f.next) f.count w h
    where
      take_over : (n : ℕ) (xs ys : List (Place C)) (m : ℕ) → length xs ≡ m → m ≤ n → take n (xs ++ ys) ≡ xs ++ take (n - m) ys
      take_over n [] ys m w h = let i : n ≡ n - m = omega arith in ap (λ (k : ℕ). take k ys) i
      take_over zero (x ∷ xs) ys m w h = absurd (omega arith)
      take_over (suc n) (x ∷ xs) ys m w h =
          let i : n - (m - 1) ≡ suc n - m = omega arith in
          ap (λ (l : List (Place C)). x ∷ l) (take_over n xs ys (m - 1) (omega arith) (omega arith) ∙ ap (λ (k : ℕ). xs ++ take k ys) i)

  pub next_length : (rs : List (Run C)) (s : Spot) (most : ℕ) (f : Front) (i : IsFront rs s most f) → length (ahead rs s) ≡ f.count + length (ahead rs f.next)
  next_length rs s most f i =
      let w = length-front rs s most f i in
      let a = ap length i.split ∙ length-append (front_of rs s most f i) (ahead rs f.next) in
      omega arith

module _ {A : Type 0} (f : A → Bool) where
  pub all_append : (xs ys : List A) → list_all f (xs ++ ys) ≡ (list_all f xs && list_all f ys)
  all_append [] ys = refl
  all_append (x ∷ xs) ys = three (f x) xs ys (all_append xs ys)
    where
      three : (b : Bool) (xs ys : List A) → list_all f (xs ++ ys) ≡ (list_all f xs && list_all f ys) → (b && list_all f (xs ++ ys)) ≡ ((b && list_all f xs) && list_all f ys)
      three true xs ys h = h
      three false xs ys h = refl

module _ {C : Type 0} (f : C → Bool) where
  all_same : (c : C) (ps : List (Place C)) → AllOf c ps → f c ≡ true → list_all (λ (p : Place C). f p.cell) ps ≡ true
  all_same c [] a h = refl
  all_same c (p ∷ ps) a h = let g : f p.cell ≡ true = ap f a.0 ∙ h in rw g (all_same c ps a.1 h)

  none_same : (c : C) (ps : List (Place C)) → 0 < length ps → AllOf c ps → f c ≡ false → list_all (λ (p : Place C). f p.cell) ps ≡ false
  none_same c [] n a h = absurd (omega arith)
  none_same c (p ∷ ps) n a h = let g : f p.cell ≡ false = ap f a.0 ∙ h in rw g refl

-- all places so far have passed
pub record PassesOn {C : Type 0} (f : C → Bool) (rs : List (Run C)) (first : Spot) (bits : ℕ) (at : Spot) (left : ℕ) : Type 0 where
  pub same : list_all (λ (p : Place C). f p.cell) (take left (ahead rs at)) ≡ list_all (λ (p : Place C). f p.cell) (take bits (ahead rs first))
  pub enough : left ≤ length (ahead rs at)
  pub spot : IsSpot rs at

module _ {C : Type 0} (f : C → Bool) where
  pub pass_begin : (rs : List (Run C)) (first : Spot) (bits : ℕ) → bits ≤ length (ahead rs first) → IsSpot rs first → PassesOn f rs first bits first bits
  pass_begin rs first bits h s = record { same = refl; enough = h; spot = s }

  pub pass_range : (rs : List (Run C)) (first : Spot) (bits : ℕ) (at : Spot) (left : ℕ) → 0 < left → PassesOn f rs first bits at left → at.index < length rs
  pass_range rs first bits at left h p = let e = p.enough in in_range rs at (omega arith)

  pub pass_step : (rs : List (Run C)) (first : Spot) (bits : ℕ) (at : Spot) (left : ℕ) (n : Front) (r : Run C) → at.index < length rs → r ≡ get_or rs at.index r → IsFront rs at left n → f r.cell ≡ true →
      PassesOn f rs first bits at left → PassesOn f rs first bits n.next (left - n.count)
  pass_step rs first bits at left n r h e i t p =
      let c = i.count in
      let q = front_is rs at left n i r h e in
      let u : f i.run.cell ≡ true = ap (λ (x : Run C). f x.cell) q ∙ t in
      let a = next_take rs at left left n i (omega arith) in
      let w = next_length rs at left n i in
      let g = p.enough in
      let all = all_same f i.run.cell (front_of rs at left n i) (front_cells rs at left n i) u in
      let b : list_all (λ (p : Place C). f p.cell) (take left (ahead rs at)) ≡ list_all (λ (p : Place C). f p.cell) (take (left - n.count) (ahead rs n.next)) =
      ap (list_all (λ (p : Place C). f p.cell)) a ∙ all_append (λ (p : Place C). f p.cell) (front_of rs at left n i) (take (left - n.count) (ahead rs n.next))
      ∙ ap (λ (x : Bool). x && list_all (λ (p : Place C). f p.cell) (take (left - n.count) (ahead rs n.next))) all in
      record { same = sym b ∙ p.same; enough = omega arith; spot = i.next }

  pub pass_stop : (rs : List (Run C)) (first : Spot) (bits : ℕ) (at : Spot) (left : ℕ) (c : C) → 0 < left → AllOf c (take 1 (ahead rs at)) → f c ≡ false →
      PassesOn f rs first bits at left → false ≡ list_all (λ (p : Place C). f p.cell) (take bits (ahead rs first))
  pass_stop rs first bits at left c h a t p = sym (stop left (ahead rs at) h p.enough a) ∙ p.same
    where
      stop : (n : ℕ) (ps : List (Place C)) → 0 < n → n ≤ length ps → AllOf c (take 1 ps) → list_all (λ (p : Place C). f p.cell) (take n ps) ≡ false
      stop zero ps h l a = absurd (omega arith)
      stop (suc n) [] h l a = absurd (omega arith)
      stop (suc n) (q ∷ ps) h l a = let g : f q.cell ≡ false = ap f a.0 ∙ t in rw g refl

  -- the next place has the run's cell
  pub spot_cell : (rs : List (Run C)) (s : Spot) (r : Run C) → s.index < length rs → r ≡ get_or rs s.index r → IsSpot rs s → AllOf r.cell (take 1 (ahead rs s))
  unfolding ahead
  spot_cell rs s r h e q =
      let l = spot_in rs s r h e q in
      let w = length-run r in
      let P = places (elements (drop (s.index + 1) rs)) in
      let n : 1 ≤ length (drop s.skip (run_places r)) = simp length-drop (omega arith) in
      let d : take 1 (drop s.skip (places (elements (drop s.index rs)))) ≡ take 1 (drop s.skip (run_places r)) =
      ap (λ (x : List (Place C)). take 1 (drop s.skip x)) (places-run rs s.index r h e) ∙ ap (take 1) (drop-append-le s.skip (run_places r) P (omega arith))
      ∙ take-append-le 1 (drop s.skip (run_places r)) P n in
      subst (AllOf r.cell) (sym d) (all_of_take 1 r.cell (drop s.skip (run_places r)) (all_of_drop s.skip r.cell (run_places r) (all_of_run r.count (element_of r))))
