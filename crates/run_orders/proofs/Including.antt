-- Elements that allow what stands at their places, many at once.
use Rattle.std.proofs.Common.{◌≡◌, ℕ, zero, suc, ◌+◌, ◌-◌, ◌*◌, ◌<◌, ◌≤◌, Bool, true, false, ◌&&◌, List, [], ◌∷◌, ◌++◌, length, take, drop, refl, sym, ap, ◌∙◌, subst, arith, append_assoc, get_or, length-take, length-drop}
use Rattle.std.specs.Prelude.{replicate, Option, None, Some}
use Rattle.std.proofs.Math.Nat.{mul_comm, mul_assoc}
use Rattle.std.proofs.lemmas.List.{drop-take, take-take, take-append-drop, drop-append-le, take-append-le, length-append, replicate-append-replicate}
use Rattle.cell_laws.specs.Elements.{Element, Place, width}
use Rattle.cell_laws.specs.Cells.{Ops}
use Rattle.cell_laws.specs.Order.{is_in, is_under, included}
use Rattle.cell_laws.proofs.Places.{length-places}
use Rattle.cell_laws.proofs.Cuts.{width-append}
use Rattle.cell_laws.proofs.Stretches.{width-replicate}
use Rattle.cell_runs.specs.declared.runs.Run.{Run}
use Rattle.cell_runs.specs.Runs.{element_of, elements, AllSome}
use Rattle.cell_runs.proofs.Taking.{at_run, elements-first, elements-none, none_past, width-at}
use Rattle.run_places.specs.declared.spots.Spot.{Spot}
use Rattle.run_places.specs.declared.chunks.Chunk.{Chunk}
use Rattle.run_places.specs.Spots.{ahead, IsSpot}
use Rattle.run_places.specs.Chunks.{times, IsChunk}
use Rattle.run_places.proofs.Ahead.{spot_next}
use Rattle.run_places.proofs.Repeating.{length-times, least_chunk}
use Rattle.run_places.proofs.TakingIn.{first_spot}
use Rattle.run_orders.specs.Inclusion.{Allows, OnAllowed}

and_three : (a b c : Bool) → (a && (b && c)) ≡ ((a && b) && c)
and_three true b c = refl
and_three false b c = refl

module _ {C H : Type 0} (o : Ops C H) where
  -- what stands behind some elements has no part in what these allow
  under_both : (xs ys : List (Element C)) (ps qs : List (Place C)) → length ps ≡ width xs → is_under o (ps ++ qs) (xs ++ ys) ≡ (is_under o ps xs && is_under o qs ys)
  unfolding is_under width
  under_both [] ys [] qs w = refl
  under_both [] ys (p ∷ ps) qs w = absurd (omega arith)
  under_both (x ∷ xs) ys ps qs w =
      let t : take x.bits (ps ++ qs) ≡ take x.bits ps = take-append-le x.bits ps qs (omega arith) in
      let d : drop x.bits (ps ++ qs) ≡ drop x.bits ps ++ qs = drop-append-le x.bits ps qs (omega arith) in
      let n : length (drop x.bits ps) ≡ width xs = simp length-drop (omega arith) in
      let r = under_both xs ys (drop x.bits ps) qs n in
      ap (λ (l : List (Place C)). is_in o x.bits x.cell l && is_under o (drop x.bits (ps ++ qs)) (xs ++ ys)) t
      ∙ ap (λ (l : List (Place C)). is_in o x.bits x.cell (take x.bits ps) && is_under o l (xs ++ ys)) d
      ∙ ap (λ (b : Bool). is_in o x.bits x.cell (take x.bits ps) && b) r
      ∙ and_three (is_in o x.bits x.cell (take x.bits ps)) (is_under o (drop x.bits ps) xs) (is_under o qs ys)

  first_under : (k n : ℕ) (c : C) (ps : List (Place C)) →
      is_under o (take (suc n * k) ps) (replicate (suc n) (record { bits = k; cell = c })) ≡ (is_in o k c (take k ps) && is_under o (take (n * k) (drop k ps)) (replicate n (record { bits = k; cell = c })))
  unfolding is_under
  first_under k n c ps =
      let m : suc n * k ≡ k + n * k = omega arith in
      let e : Element C = record { bits = k; cell = c } in
      let t : take k (take (suc n * k) ps) ≡ take k ps = take-take k (suc n * k) ps (omega arith) in
      let d : drop k (take (suc n * k) ps) ≡ take (n * k) (drop k ps) = ap (λ (x : ℕ). drop k (take x ps)) m ∙ drop-take k (n * k) ps in
      ap (λ (l : List (Place C)). is_in o k c l && is_under o (drop k (take (suc n * k) ps)) (replicate n e)) t
      ∙ ap (λ (l : List (Place C)). is_in o k c (take k ps) && is_under o l (replicate n e)) d

-- some elements have been found to allow their places
pub record FewOn {C H : Type 0} (o : Ops C H) (rs : List (Run C)) (first : Spot) (r : Run C) (count : ℕ) (at : Spot) (left : ℕ) : Type 0 where
  pub same : is_under o (take (left * r.bits) (ahead rs at)) (replicate left (element_of r)) ≡ is_under o (take (count * r.bits) (ahead rs first)) (replicate count (element_of r))
  pub enough : left * r.bits ≤ length (ahead rs at)
  pub spot : IsSpot rs at

module _ {C H : Type 0} (o : Ops C H) where
  pub few_begin : (rs : List (Run C)) (first : Spot) (r : Run C) (count : ℕ) → count * r.bits ≤ length (ahead rs first) → IsSpot rs first → FewOn o rs first r count first count
  few_begin rs first r count h s = record { same = refl; enough = h; spot = s }

  pub few_fits : (rs : List (Run C)) (first : Spot) (r : Run C) (count : ℕ) (at : Spot) (left : ℕ) → 0 < left → FewOn o rs first r count at left → r.bits ≤ length (ahead rs at)
  few_fits rs first r count at zero h p = absurd (omega arith)
  few_fits rs first r count at (suc n) h p = let e = p.enough in let m : suc n * r.bits ≡ r.bits + n * r.bits = omega arith in omega arith

  pub few_stop : (rs : List (Run C)) (first : Spot) (r : Run C) (count : ℕ) (at : Spot) (left : ℕ) → 0 < left → is_in o r.bits r.cell (take r.bits (ahead rs at)) ≡ false → FewOn o rs first r count at left →
      false ≡ is_under o (take (count * r.bits) (ahead rs first)) (replicate count (element_of r))
  few_stop rs first r count at zero h i p = absurd (omega arith)
  few_stop rs first r count at (suc n) h i p =
      sym (first_under o r.bits n r.cell (ahead rs at) ∙ ap (λ (b : Bool). b && is_under o (take (n * r.bits) (drop r.bits (ahead rs at))) (replicate n (element_of r))) i) ∙ p.same

  pub few_step : (rs : List (Run C)) (first : Spot) (r : Run C) (count : ℕ) (at next : Spot) (left : ℕ) → 0 < left → is_in o r.bits r.cell (take r.bits (ahead rs at)) ≡ true →
      ahead rs next ≡ drop r.bits (ahead rs at) → IsSpot rs next → FewOn o rs first r count at left → FewOn o rs first r count next (left - 1)
  few_step rs first r count at next zero h i d s p = absurd (omega arith)
  few_step rs first r count at next (suc n) h i d s p =
      let k : suc n - 1 ≡ n = omega arith in
      let e = p.enough in
      let m : suc n * r.bits ≡ r.bits + n * r.bits = omega arith in
      let l : length (drop r.bits (ahead rs at)) ≡ length (ahead rs at) - r.bits = length-drop r.bits (ahead rs at) in
      let w = ap length d in
      let g : is_under o (take (n * r.bits) (ahead rs next)) (replicate n (element_of r)) ≡ is_under o (take (suc n * r.bits) (ahead rs at)) (replicate (suc n) (element_of r)) =
      ap (λ (x : List (Place C)). is_under o (take (n * r.bits) x) (replicate n (element_of r))) d
      ∙ sym (first_under o r.bits n r.cell (ahead rs at) ∙ ap (λ (b : Bool). b && is_under o (take (n * r.bits) (drop r.bits (ahead rs at))) (replicate n (element_of r))) i) in
      subst (λ (x : ℕ). FewOn o rs first r count next x) (sym k) (record { same = g ∙ p.same; enough = omega arith; spot = s })

  pub few_end : (rs : List (Run C)) (first : Spot) (r : Run C) (count : ℕ) (at : Spot) (left : ℕ) → left ≡ 0 → FewOn o rs first r count at left →
      true ≡ is_under o (take (count * r.bits) (ahead rs first)) (replicate count (element_of r))
  unfolding is_under
  few_end rs first r count at left z p =
      sym (ap (λ (n : ℕ). is_under o (take (n * r.bits) (ahead rs at)) (replicate n (element_of r))) z) ∙ p.same

  -- ---- many at once

  under_times : (t : ℕ) (bs qs : List (Place C)) (size : ℕ) (e : Element C) (fs : List (Element C)) → length bs ≡ size * e.bits → is_under o bs (replicate size e) ≡ true →
      is_under o (times t bs ++ qs) (replicate (size * t) e ++ fs) ≡ is_under o qs fs
  unfolding times
  under_times zero bs qs size e fs w h = let z : size * zero ≡ zero = omega arith in ap (λ (n : ℕ). is_under o qs (replicate n e ++ fs)) z
  under_times (suc t) bs qs size e fs w h =
      let n : size * suc t ≡ size + size * t = omega arith in
      let v : width (replicate size e) ≡ size * e.bits = width-replicate size e in
      let g : replicate (size * suc t) e ++ fs ≡ replicate size e ++ (replicate (size * t) e ++ fs) =
      ap (λ (k : ℕ). replicate k e ++ fs) n ∙ ap (λ (l : List (Element C)). l ++ fs) (sym (replicate-append-replicate size (size * t) e)) ∙ append_assoc (replicate size e) (replicate (size * t) e) fs in
      ap (λ (l : List (Place C)). is_under o l (replicate (size * suc t) e ++ fs)) (append_assoc bs (times t bs) qs)
      ∙ ap (is_under o (bs ++ (times t bs ++ qs))) g
      ∙ under_both o (replicate size e) (replicate (size * t) e ++ fs) bs (times t bs ++ qs) (w ∙ sym v)
      ∙ ap (λ (b : Bool). b && is_under o (times t bs ++ qs) (replicate (size * t) e ++ fs)) h
      ∙ under_times t bs qs size e fs w h

  allows_none : (rs : List (Run C)) (s : Spot) → IsSpot rs s → Allows o rs (ahead rs s) [] s
  unfolding width
  allows_none rs s q = record { law = λ fs. refl; left = omega arith; spot = q }

  allows_both : (rs : List (Run C)) (ps : List (Place C)) (es fs : List (Element C)) (mid next : Spot) → Allows o rs ps es mid → Allows o rs (ahead rs mid) fs next → Allows o rs ps (es ++ fs) next
  allows_both rs ps es fs mid next a b =
      let w = width-append es fs in
      let x = a.left in
      let y = b.left in
      record { law = λ gs. ap (is_under o ps) (append_assoc es fs gs) ∙ a.law (fs ++ gs) ∙ b.law gs; left = omega arith; spot = b.spot }

  allows_chunk : (rs : List (Run C)) (s : Spot) (e : Element C) (left : ℕ) (c : Chunk) → IsChunk rs s e.bits left c → is_under o (take (c.size * e.bits) (ahead rs s)) (replicate c.size e) ≡ true →
      Allows o rs (ahead rs s) (replicate (c.size * c.repeats) e) c.next
  allows_chunk rs s e left c i h =
      let bs = take (c.size * e.bits) (ahead rs s) in
      let enough = i.enough in
      let w : length bs ≡ c.size * e.bits = simp length-take (omega arith) in
      let t = length-times c.repeats bs in
      let u : c.repeats * length bs ≡ c.repeats * (c.size * e.bits) = ap (λ (n : ℕ). c.repeats * n) w in
      let l = ap length i.same ∙ length-append (times c.repeats bs) (ahead rs c.next) in
      let v : width (replicate (c.size * c.repeats) e) ≡ c.size * c.repeats * e.bits = width-replicate (c.size * c.repeats) e in
      let turn : c.size * c.repeats * e.bits ≡ c.repeats * (c.size * e.bits) = ap (λ (n : ℕ). n * e.bits) (mul_comm c.size c.repeats) ∙ mul_assoc c.repeats c.size e.bits in
      record {
        law = λ fs. ap (λ (x : List (Place C)). is_under o x (replicate (c.size * c.repeats) e ++ fs)) i.same ∙ under_times c.repeats bs (ahead rs c.next) c.size e fs w h;
        left = omega arith;
        spot = i.next;
      }

  chunk_fails : (rs : List (Run C)) (s : Spot) (e : Element C) (left : ℕ) (c : Chunk) (fs : List (Element C)) → IsChunk rs s e.bits left c → is_under o (take (c.size * e.bits) (ahead rs s)) (replicate c.size e) ≡ false →
      is_under o (ahead rs s) (replicate c.size e ++ fs) ≡ false
  chunk_fails rs s e left c fs i h =
      let bs = take (c.size * e.bits) (ahead rs s) in
      let rest = drop (c.size * e.bits) (ahead rs s) in
      let enough = i.enough in
      let w : length bs ≡ c.size * e.bits = simp length-take (omega arith) in
      let v : width (replicate c.size e) ≡ c.size * e.bits = width-replicate c.size e in
      ap (λ (x : List (Place C)). is_under o x (replicate c.size e ++ fs)) (sym (take-append-drop (c.size * e.bits) (ahead rs s)))
      ∙ under_both o (replicate c.size e) fs bs rest (w ∙ sym v) ∙ ap (λ (b : Bool). b && is_under o rest fs) h

-- so many elements of a run are left
pub record RunOn {C H : Type 0} (o : Ops C H) (rs : List (Run C)) (first : Spot) (r : Run C) (at : Spot) (left : ℕ) : Type 0 where
  pub allowed : Allows o rs (ahead rs first) (replicate (r.count - left) (element_of r)) at
  pub some : left ≤ r.count
  pub enough : left * r.bits ≤ length (ahead rs at)

module _ {C H : Type 0} (o : Ops C H) where
  pub run_begin : (rs : List (Run C)) (first : Spot) (r : Run C) → r.count * r.bits ≤ length (ahead rs first) → IsSpot rs first → RunOn o rs first r first r.count
  run_begin rs first r h s =
      let z : r.count - r.count ≡ 0 = omega arith in
      record { allowed = subst (λ (n : ℕ). Allows o rs (ahead rs first) (replicate n (element_of r)) first) (sym z) (allows_none o rs first s); some = omega arith; enough = h }

  split_replicate : (n m : ℕ) (e : Element C) (k : ℕ) → n + m ≡ k → replicate n e ++ replicate m e ≡ replicate k e
  split_replicate n m e k h = replicate-append-replicate n m e ∙ ap (λ (x : ℕ). replicate x e) h

  pub run_step : (rs : List (Run C)) (first : Spot) (r : Run C) (at : Spot) (left : ℕ) (c : Chunk) → IsChunk rs at r.bits left c → is_under o (take (c.size * r.bits) (ahead rs at)) (replicate c.size (element_of r)) ≡ true →
      RunOn o rs first r at left → RunOn o rs first r c.next (left - c.size * c.repeats)
  run_step rs first r at left c i h p =
      let n = c.size * c.repeats in
      let most = i.most in
      let l = p.some in
      let e = p.enough in
      let a = allows_chunk o rs at (element_of r) left c i h in
      let b = allows_both o rs (ahead rs first) (replicate (r.count - left) (element_of r)) (replicate n (element_of r)) at c.next p.allowed a in
      let g = split_replicate (r.count - left) n (element_of r) (r.count - (left - n)) (omega arith) in
      let v : width (replicate n (element_of r)) ≡ n * r.bits = width-replicate n (element_of r) in
      let w = a.left in
      let d : (left - n) * r.bits + n * r.bits ≡ left * r.bits = split_times (left - n) n left r.bits (omega arith) in
      record { allowed = subst (λ (x : List (Element C)). Allows o rs (ahead rs first) x c.next) g b; some = omega arith; enough = omega arith }
    where
      split_times : (a b c k : ℕ) → a + b ≡ c → a * k + b * k ≡ c * k
      split_times a b c k h = let m : (a + b) * k ≡ a * k + b * k = omega arith in sym m ∙ ap (λ (x : ℕ). x * k) h

  pub run_fail : (rs : List (Run C)) (first : Spot) (r : Run C) (at : Spot) (left : ℕ) (c : Chunk) (fs : List (Element C)) → IsChunk rs at r.bits left c →
      is_under o (take (c.size * r.bits) (ahead rs at)) (replicate c.size (element_of r)) ≡ false → RunOn o rs first r at left → is_under o (ahead rs first) (replicate r.count (element_of r) ++ fs) ≡ false
  run_fail rs first r at left c fs i h p =
      let l = p.some in
      let s = least_chunk c.size c.repeats left i.again i.most in
      let more = replicate (left - c.size) (element_of r) ++ fs in
      let g : replicate r.count (element_of r) ++ fs ≡ replicate (r.count - left) (element_of r) ++ (replicate c.size (element_of r) ++ more) =
      ap (λ (x : List (Element C)). x ++ fs) (sym (split_replicate (r.count - left) left (element_of r) r.count (omega arith)))
      ∙ append_assoc (replicate (r.count - left) (element_of r)) (replicate left (element_of r)) fs
      ∙ ap (λ (x : List (Element C)). replicate (r.count - left) (element_of r) ++ x)
      (ap (λ (x : List (Element C)). x ++ fs) (sym (split_replicate c.size (left - c.size) (element_of r) left (omega arith)))
      ∙ append_assoc (replicate c.size (element_of r)) (replicate (left - c.size) (element_of r)) fs) in
      ap (is_under o (ahead rs first)) g ∙ p.allowed.law (replicate c.size (element_of r) ++ more) ∙ chunk_fails o rs at (element_of r) left c more i h

  pub run_end : (rs : List (Run C)) (first : Spot) (r : Run C) (at : Spot) (left : ℕ) → left ≡ 0 → RunOn o rs first r at left → Allows o rs (ahead rs first) (replicate r.count (element_of r)) at
  run_end rs first r at left z p =
      let i : r.count - left ≡ r.count = omega arith in
      subst (λ (n : ℕ). Allows o rs (ahead rs first) (replicate n (element_of r)) at) i p.allowed

-- the runs before an index have been found to allow their places
pub record AllOn {C H : Type 0} (o : Ops C H) (first second : List (Run C)) (at : Spot) (i : ℕ) : Type 0 where
  pub same : is_under o (ahead first at) (elements (drop i second)) ≡ included o (elements first) (elements second)
  pub enough : width (elements (drop i second)) ≤ length (ahead first at)
  pub spot : IsSpot first at

module _ {C H : Type 0} (o : Ops C H) where
  pub all_begin : (first second : List (Run C)) → AllSome first → width (elements first) ≡ width (elements second) → AllOn o first second (record { index = 0; skip = 0 }) 0
  unfolding included
  all_begin first second s w =
      let l = length-places (elements first) in
      let e = ap length (first_spot first) in
      record { same = ap (λ (x : List (Place C)). is_under o x (elements second)) (first_spot first); enough = omega arith; spot = spot_next first 0 s }

  pub all_fits : (first second : List (Run C)) (at : Spot) (i : ℕ) (r : Run C) → i < length second → r ≡ get_or second i r → AllOn o first second at i → r.count * r.bits ≤ length (ahead first at)
  all_fits first second at i r h e p = let w = width-at second i r h e in let g = p.enough in let m : r.bits * r.count ≡ r.count * r.bits = omega arith in omega arith

  split_at : (second : List (Run C)) (i : ℕ) (r : Run C) → i < length second → r ≡ get_or second i r → elements (drop i second) ≡ replicate r.count (element_of r) ++ elements (drop (i + 1) second)
  split_at second i r h e = ap elements (at_run second i r h e) ∙ elements-first r (drop (i + 1) second)

  pub all_step : (first second : List (Run C)) (at next : Spot) (i : ℕ) (r : Run C) → i < length second → r ≡ get_or second i r → Allows o first (ahead first at) (replicate r.count (element_of r)) next →
      AllOn o first second at i → AllOn o first second next (i + 1)
  all_step first second at next i r h e a p =
      let w = width-at second i r h e in
      let g = p.enough in
      let l = a.left in
      let v : width (replicate r.count (element_of r)) ≡ r.count * r.bits = width-replicate r.count (element_of r) in
      record { same = sym (ap (is_under o (ahead first at)) (split_at second i r h e) ∙ a.law (elements (drop (i + 1) second))) ∙ p.same; enough = omega arith; spot = a.spot }

  pub all_fail : (first second : List (Run C)) (at : Spot) (i : ℕ) (r : Run C) → i < length second → r ≡ get_or second i r →
      ((fs : List (Element C)) → is_under o (ahead first at) (replicate r.count (element_of r) ++ fs) ≡ false) → AllOn o first second at i → false ≡ included o (elements first) (elements second)
  all_fail first second at i r h e f p = sym (ap (is_under o (ahead first at)) (split_at second i r h e) ∙ f (elements (drop (i + 1) second))) ∙ p.same

  pub all_end : (first second : List (Run C)) (at : Spot) (i : ℕ) → length second ≤ i → AllOn o first second at i → true ≡ included o (elements first) (elements second)
  unfolding is_under
  all_end first second at i h p =
      let z : elements (drop i second) ≡ [] = ap elements (none_past second i h) ∙ elements-none C in
      sym (ap (is_under o (ahead first at)) z) ∙ p.same

  pub allowed_yes : (rs : List (Run C)) (ps : List (Place C)) (es : List (Element C)) (r : Option Spot) (next : Spot) → r ≡ Some next → OnAllowed o rs ps es r → Allows o rs ps es next
  allowed_yes rs ps es r next e a = subst (OnAllowed o rs ps es) e a

  pub allowed_no : (rs : List (Run C)) (ps : List (Place C)) (es : List (Element C)) (r : Option Spot) → r ≡ None → OnAllowed o rs ps es r → (fs : List (Element C)) → is_under o ps (es ++ fs) ≡ false
  allowed_no rs ps es r e a = subst (OnAllowed o rs ps es) e a
