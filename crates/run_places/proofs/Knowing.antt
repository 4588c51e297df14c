-- The next place, and known bits.
use Rattle.std.proofs.Common.{◌≡◌, ℕ, zero, suc, ◌+◌, ◌-◌, ◌<◌, ◌≤◌, Bool, true, false, cond, ◌&&◌, List, [], ◌∷◌, ◌++◌, length, take, drop, refl, sym, ap, ◌∙◌, subst, arith, append-nil, append_assoc, get_or, length-take, length-drop}
use Rattle.std.specs.Prelude.{Option, None, Some, ◌==◌, ◌/◌, ◌%◌}
use Rattle.std.proofs.lemmas.List.{drop-append-le, take-append-le, drop_at, length-append}
use Rattle.std.proofs.lemmas.Bool.{eq-eqb, ne_eqb, eqb-true, eqb-false}
use Rattle.cell_laws.specs.Elements.{Place, places}
use Rattle.cell_laws.specs.Cells.{Ops}
use Rattle.std.specs.List.{list_all}
use Rattle.cell_laws.specs.Order.{and_bit, known, has_bits, is_start, is_admitted, is_bare, is_known, is_in}
use Rattle.cell_laws.proofs.Ordering.{known_length}
use Rattle.cell_laws.specs.Join.{whole}
use Rattle.cell_laws.proofs.Places.{place}
use Rattle.cell_runs.specs.declared.runs.Run.{Run}
use Rattle.cell_runs.specs.Runs.{element_of, elements}
use Rattle.cell_runs.proofs.Taking.{at_run}
use Rattle.cell_runs.proofs.Portions.{divides}
use Rattle.run_places.specs.declared.spots.Spot.{Spot}
use Rattle.run_places.specs.declared.spots.Front.{Front}
use Rattle.run_places.specs.Spots.{ahead, IsSpot, IsFront, OnBits, OnWhole}
use Rattle.run_places.proofs.Ahead.{spot_in, places-run, run_places, length-run, place_of_run}
use Rattle.run_places.proofs.Passing.{in_range, next_length, front_of, length-front}

module _ {C : Type 0} where
  -- the place at a spot
  pub spot_place : (rs : List (Run C)) (s : Spot) (r : Run C) → s.index < length rs → r ≡ get_or rs s.index r → 0 < r.bits → IsSpot rs s → take 1 (ahead rs s) ≡ record { at = s.skip % r.bits; bits = r.bits; cell = r.cell } ∷ []
  unfolding ahead place
  spot_place rs s r h e b q =
      let l = spot_in rs s r h e q in
      let w = length-run r in
      let P = places (elements (drop (s.index + 1) rs)) in
      let n : 1 ≤ length (drop s.skip (run_places r)) = simp length-drop (omega arith) in
      ap (λ (x : List (Place C)). take 1 (drop s.skip x)) (places-run rs s.index r h e) ∙ ap (take 1) (drop-append-le s.skip (run_places r) P (omega arith))
      ∙ take-append-le 1 (drop s.skip (run_places r)) P n
      ∙ place_of_run (s.skip / r.bits) r.count (element_of r) s.skip (s.skip % r.bits) (divides s.skip r.bits b) l

  first_of : (k : ℕ) (ps : List (Place C)) (p : Place C) → 0 < k → take 1 ps ≡ p ∷ [] → whole k (take k ps) ≡ whole k (p ∷ [])
  unfolding whole
  first_of zero ps p h e = absurd (omega arith)
  first_of (suc k) [] p h e = cc
  first_of (suc k) (q ∷ ps) p h e = let g : q ≡ p = cc in ap (λ (x : Place C). whole (suc k) (x ∷ [])) g

  whole_yes : (k at bits : ℕ) (c : C) → at ≡ 0 → bits ≡ k → whole k (record { at = at; bits = bits; cell = c } ∷ []) ≡ Some c
  unfolding whole
  whole_yes k at bits c a b = rw (eq-eqb at 0 a, eq-eqb bits k b) refl

  whole_bits : (k at bits : ℕ) (c : C) → (bits ≡ k → ⊥) → whole k (record { at = at; bits = bits; cell = c } ∷ []) ≡ None
  unfolding whole
  whole_bits k at bits c b = both (at == 0) (bits == k) (ne_eqb bits k b)
    where
      both : (x y : Bool) → y ≡ false → cond (x && y) (Some c) None ≡ None
      both true y h = rw h refl
      both false y h = refl

  whole_at : (k at bits : ℕ) (c : C) → (at ≡ 0 → ⊥) → whole k (record { at = at; bits = bits; cell = c } ∷ []) ≡ None
  unfolding whole
  whole_at k at bits c b = rw (ne_eqb at 0 b) refl

  pub starts_other : (rs : List (Run C)) (s : Spot) (k : ℕ) (r : Run C) → s.index < length rs → r ≡ get_or rs s.index r → 0 < r.bits → IsSpot rs s → 0 < k → (r.bits ≡ k → ⊥) → OnWhole rs s k false
  starts_other rs s k r h e b q p n = first_of k (ahead rs s) _ p (spot_place rs s r h e b q) ∙ whole_bits k (s.skip % r.bits) r.bits r.cell n

  starts_yes : (rs : List (Run C)) (s : Spot) (k : ℕ) (r : Run C) → s.index < length rs → r ≡ get_or rs s.index r → 0 < r.bits → IsSpot rs s → 0 < k → r.bits ≡ k → s.skip % k ≡ 0 → OnWhole rs s k true
  starts_yes rs s k r h e b q p n z = λ x f.
      let g : r ∷ drop (s.index + 1) rs ≡ x ∷ drop (s.index + 1) rs = sym (at_run rs s.index r h e) ∙ f in
      let i : r ≡ x = cc in
      let a : s.skip % r.bits ≡ 0 = ap (λ (m : ℕ). s.skip % m) n ∙ z in (
        ap (λ (y : Run C). y.bits) (sym i) ∙ n,
        first_of k (ahead rs s) _ p (spot_place rs s r h e b q) ∙ whole_yes k (s.skip % r.bits) r.bits r.cell a n ∙ ap (λ (y : Run C). Some y.cell) i,
      )

  starts_cut : (rs : List (Run C)) (s : Spot) (k : ℕ) (r : Run C) → s.index < length rs → r ≡ get_or rs s.index r → 0 < r.bits → IsSpot rs s → 0 < k → r.bits ≡ k → (s.skip % k ≡ 0 → ⊥) → OnWhole rs s k false
  starts_cut rs s k r h e b q p n z =
      let a : s.skip % r.bits ≡ 0 → ⊥ = λ x. z (ap (λ (m : ℕ). s.skip % m) (sym n) ∙ x) in
      first_of k (ahead rs s) _ p (spot_place rs s r h e b q) ∙ whole_at k (s.skip % r.bits) r.bits r.cell a

  pub starts_same : (rs : List (Run C)) (s : Spot) (k : ℕ) (r : Run C) (t : Bool) → s.index < length rs → r ≡ get_or rs s.index r → 0 < r.bits → IsSpot rs s → 0 < k → r.bits ≡ k → t ≡ (s.skip % k == 0) → OnWhole rs s k t
  starts_same rs s k r true h e b q p n t = starts_yes rs s k r h e b q p n (eqb-true (s.skip % k) 0 (sym t))
  starts_same rs s k r false h e b q p n t = starts_cut rs s k r h e b q p n (eqb-false (s.skip % k) 0 (sym t))

-- bits, and then more of them
unfoldable pub with_more : List Bool → Option (List Bool) → Option (List Bool)
with_more bs None = None
with_more bs (Some cs) = Some (bs ++ cs)

-- the bits so far are known
pub record KnowsOn {C H : Type 0} (o : Ops C H) (rs : List (Run C)) (first : Spot) (bits : ℕ) (at : Spot) (left : ℕ) (out : List Bool) : Type 0 where
  pub same : with_more out (known o (take left (ahead rs at))) ≡ known o (take bits (ahead rs first))
  pub enough : left ≤ length (ahead rs at)
  pub spot : IsSpot rs at
  pub count : length out + left ≡ bits

module _ {C H : Type 0} (o : Ops C H) where
  more_none : (bs : Option (List Bool)) → with_more [] bs ≡ bs
  unfolding with_more
  more_none None = refl
  more_none (Some cs) = refl

  pub know_begin : (rs : List (Run C)) (first : Spot) (bits : ℕ) (out : List Bool) → out ≡ [] → bits ≤ length (ahead rs first) → IsSpot rs first → KnowsOn o rs first bits first bits out
  know_begin rs first bits out z h s =
      subst (λ (x : List Bool). KnowsOn o rs first bits first bits x) (sym z)
      (record { same = more_none (known o (take bits (ahead rs first))); enough = h; spot = s; count = omega arith })

  pub know_range : (rs : List (Run C)) (first : Spot) (bits : ℕ) (at : Spot) (left : ℕ) (out : List Bool) → 0 < left → KnowsOn o rs first bits at left out → at.index < length rs
  know_range rs first bits at left out h p = let e = p.enough in in_range rs at (omega arith)

  more_one : (out : List Bool) (b : Bool) (bs : Option (List Bool)) → with_more (out ++ b ∷ []) bs ≡ with_more out (and_bit (Some b) bs)
  unfolding with_more and_bit
  more_one out b None = refl
  more_one out b (Some cs) = ap Some (append_assoc out (b ∷ []) cs)

  known_first : (n : ℕ) (ps : List (Place C)) (p : Place C) → 0 < n → take 1 ps ≡ p ∷ [] → known o (take n ps) ≡ and_bit (o.bit p.bits p.at p.cell) (known o (take (n - 1) (drop 1 ps)))
  unfolding known
  known_first zero ps p h e = absurd (omega arith)
  known_first (suc n) [] p h e = cc
  known_first (suc n) (q ∷ ps) p h e =
      let g : q ≡ p = cc in
      let i : n ≡ suc n - 1 = omega arith in
      ap (λ (x : Place C). and_bit (o.bit x.bits x.at x.cell) (known o (take n ps))) g ∙ ap (λ (m : ℕ). and_bit (o.bit p.bits p.at p.cell) (known o (take m ps))) i

  pub know_stop : (rs : List (Run C)) (first : Spot) (bits : ℕ) (at : Spot) (left : ℕ) (out : List Bool) (r : Run C) → at.index < length rs → r ≡ get_or rs at.index r → 0 < r.bits → 0 < left →
      o.bit r.bits (at.skip % r.bits) r.cell ≡ None → KnowsOn o rs first bits at left out → known o (take bits (ahead rs first)) ≡ None
  unfolding with_more and_bit
  know_stop rs first bits at left out r h e b n z p =
      sym p.same ∙ ap (with_more out) (known_first left (ahead rs at) _ n (spot_place rs at r h e b p.spot) ∙ ap (λ (x : Option Bool). and_bit x (known o (take (left - 1) (drop 1 (ahead rs at))))) z)

  pub know_step : (rs : List (Run C)) (first : Spot) (bits : ℕ) (at : Spot) (left : ℕ) (out new : List Bool) (f : Front) (r : Run C) (t : Bool) → at.index < length rs → r ≡ get_or rs at.index r → 0 < r.bits →
      0 < left → IsFront rs at 1 f → Some t ≡ o.bit r.bits (at.skip % r.bits) r.cell → new ≡ out ++ t ∷ [] → KnowsOn o rs first bits at left out → KnowsOn o rs first bits f.next (left - 1) new
  know_step rs first bits at left out new f r t h e b n i z w p =
      let c = i.count in
      let k = i.skip in
      let one : f.count ≡ 1 = omega arith in
      let a = next_length rs at 1 f i in
      let g = p.enough in
      let u = length-front rs at 1 f i in
      let d : drop 1 (ahead rs at) ≡ ahead rs f.next = ap (drop 1) i.split ∙ drop_at (front_of rs at 1 f i) (ahead rs f.next) 1 (u ∙ one) in
      let q = p.count in
      let m : with_more (out ++ t ∷ []) (known o (take (left - 1) (ahead rs f.next))) ≡ with_more out (known o (take left (ahead rs at))) =
      more_one out t (known o (take (left - 1) (ahead rs f.next)))
      ∙ ap (with_more out) (sym (known_first left (ahead rs at) _ n (spot_place rs at r h e b p.spot) ∙ ap (λ (x : Option Bool). and_bit x (known o (take (left - 1) (drop 1 (ahead rs at))))) (sym z)
      ∙ ap (λ (x : List (Place C)). and_bit (Some t) (known o (take (left - 1) x))) d)) in
      let l : length new ≡ length out + 1 = ap length w ∙ length-append out (t ∷ []) in
      record { same = ap (λ (x : List Bool). with_more x (known o (take (left - 1) (ahead rs f.next)))) w ∙ m ∙ p.same; enough = omega arith; spot = i.next; count = omega arith }

  pub know_end : (rs : List (Run C)) (first : Spot) (bits : ℕ) (at : Spot) (left : ℕ) (out : List Bool) → left ≡ 0 → KnowsOn o rs first bits at left out → known o (take bits (ahead rs first)) ≡ Some out
  unfolding with_more known
  know_end rs first bits at left out z p =
      sym p.same ∙ ap (λ (n : ℕ). with_more out (known o (take n (ahead rs at)))) z ∙ ap Some (append-nil out)

module _ {C H : Type 0} (o : Ops C H) where
  first_start : (k : ℕ) (y : C) (ps : List (Place C)) (p : Place C) → 0 < k → take 1 ps ≡ p ∷ [] → is_start o k y (take k ps) ≡ ((p.at == 0) && ((p.bits == k) && o.leq p.cell y))
  unfolding is_start
  first_start zero y ps p h e = absurd (omega arith)
  first_start (suc k) y [] p h e = cc
  first_start (suc k) y (q ∷ ps) p h e = let g : q ≡ p = cc in ap (λ (x : Place C). (x.at == 0) && ((x.bits == suc k) && o.leq x.cell y)) g

  both_false : (x y : Bool) → x ≡ false → (x && y) ≡ false
  both_false x y e = rw e refl

  mid_false : (x y z : Bool) → y ≡ false → (x && (y && z)) ≡ false
  mid_false true y z e = rw e refl
  mid_false false y z e = refl

  pub start_bits : (rs : List (Run C)) (s : Spot) (k : ℕ) (y : C) (r : Run C) → s.index < length rs → r ≡ get_or rs s.index r → 0 < r.bits → IsSpot rs s → 0 < k → (r.bits ≡ k → ⊥) →
      false ≡ is_start o k y (take k (ahead rs s))
  start_bits rs s k y r h e b q p n =
      sym (first_start k y (ahead rs s) _ p (spot_place rs s r h e b q) ∙ mid_false (s.skip % r.bits == 0) (r.bits == k) (o.leq r.cell y) (ne_eqb r.bits k n))

  pub start_cut : (rs : List (Run C)) (s : Spot) (k : ℕ) (y : C) (r : Run C) → s.index < length rs → r ≡ get_or rs s.index r → 0 < r.bits → IsSpot rs s → 0 < k → r.bits ≡ k → (s.skip % k ≡ 0 → ⊥) →
      false ≡ is_start o k y (take k (ahead rs s))
  start_cut rs s k y r h e b q p n z =
      let a : s.skip % r.bits ≡ 0 → ⊥ = λ x. z (ap (λ (m : ℕ). s.skip % m) (sym n) ∙ x) in
      sym (first_start k y (ahead rs s) _ p (spot_place rs s r h e b q) ∙ both_false (s.skip % r.bits == 0) ((r.bits == k) && o.leq r.cell y) (ne_eqb (s.skip % r.bits) 0 a))

  pub start_is : (rs : List (Run C)) (s : Spot) (k : ℕ) (y : C) (r : Run C) → s.index < length rs → r ≡ get_or rs s.index r → 0 < r.bits → IsSpot rs s → 0 < k → r.bits ≡ k → s.skip % k ≡ 0 →
      o.leq r.cell y ≡ is_start o k y (take k (ahead rs s))
  start_is rs s k y r h e b q p n z =
      let a : s.skip % r.bits ≡ 0 = ap (λ (m : ℕ). s.skip % m) n ∙ z in
      sym (first_start k y (ahead rs s) _ p (spot_place rs s r h e b q)
      ∙ ap (λ (x : Bool). x && ((r.bits == k) && o.leq r.cell y)) (eq-eqb (s.skip % r.bits) 0 a) ∙ ap (λ (x : Bool). x && o.leq r.cell y) (eq-eqb r.bits k n))

  -- the four ways together

  pub in_start : (k : ℕ) (y : C) (ps : List (Place C)) → is_start o k y ps ≡ true → true ≡ is_in o k y ps
  unfolding is_in
  in_start k y ps h = sym (rw h refl)

  pub in_admitted : (k : ℕ) (y : C) (ps : List (Place C)) → is_start o k y ps ≡ false → is_admitted o k y ps ≡ true → true ≡ is_in o k y ps
  unfolding is_in
  in_admitted k y ps h g = sym (rw (h, g) refl)

  pub in_bare : (k : ℕ) (y : C) (ps : List (Place C)) → is_start o k y ps ≡ false → is_admitted o k y ps ≡ false → is_bare o y ps ≡ true → true ≡ is_in o k y ps
  unfolding is_in
  in_bare k y ps h g f = sym (rw (h, g, f) refl)

  pub in_known : (k : ℕ) (y : C) (ps : List (Place C)) → is_start o k y ps ≡ false → is_admitted o k y ps ≡ false → is_bare o y ps ≡ false → is_known o k y ps ≡ is_in o k y ps
  unfolding is_in
  in_known k y ps h g f = sym (rw (h, g, f) refl)

  pub admitted_list : (k : ℕ) (y : C) (ps : List (Place C)) → list_all (λ (p : Place C). o.admits k y (o.hue p.cell)) ps ≡ is_admitted o k y ps
  unfolding is_admitted
  admitted_list k y ps = refl

  pub bare_list : (y : C) (ps : List (Place C)) → list_all (λ (p : Place C). o.blank p.cell && o.within (o.hue p.cell) (o.hue y)) ps ≡ is_bare o y ps
  unfolding is_bare
  bare_list y ps = refl

  pub not_known : (k : ℕ) (y : C) (ps : List (Place C)) → known o ps ≡ None → false ≡ is_known o k y ps
  unfolding is_known has_bits
  not_known k y ps h = sym (rw h refl)

  pub known_is : (k : ℕ) (y : C) (ps : List (Place C)) (bs : List Bool) → known o ps ≡ Some bs → length ps ≡ k → (length bs ≡ k) × (o.has k y bs ≡ is_known o k y ps)
  unfolding is_known has_bits
  known_is k y ps bs h w = (known_length o ps bs h ∙ w, sym (rw h refl))

pub bits_known : (k : Option (List Bool)) (b : Bool) (bits : List Bool) → b ≡ true → OnBits k b bits → k ≡ Some bits
bits_known k true bits e h = h
bits_known k false bits e h = cc

pub bits_unknown : (k : Option (List Bool)) (b : Bool) (bits : List Bool) → b ≡ false → OnBits k b bits → k ≡ None
bits_unknown k true bits e h = cc
bits_unknown k false bits e h = h

module _ {C : Type 0} where
  pub length-next : (rs : List (Run C)) (s : Spot) (k : ℕ) → k ≤ length (ahead rs s) → length (take k (ahead rs s)) ≡ k
  length-next rs s k h = simp length-take (omega arith)

  pub whole_yes_at : (rs : List (Run C)) (s : Spot) (k : ℕ) (r : Run C) (b : Bool) → b ≡ true → OnWhole rs s k b → drop s.index rs ≡ r ∷ drop (s.index + 1) rs → (r.bits ≡ k) × (whole k (take k (ahead rs s)) ≡ Some r.cell)
  whole_yes_at rs s k r true e w f = w r f
  whole_yes_at rs s k r false e w f = cc

  pub whole_not : (rs : List (Run C)) (s : Spot) (k : ℕ) (b : Bool) → b ≡ false → OnWhole rs s k b → whole k (take k (ahead rs s)) ≡ None
  whole_not rs s k true e w = cc
  whole_not rs s k false e w = w
