-- Elements that take in what stands at their places.
use Rattle.std.proofs.Common.{◌≡◌, ℕ, zero, suc, ◌+◌, ◌-◌, ◌*◌, ◌<◌, ◌≤◌, Bool, true, false, List, [], ◌∷◌, ◌++◌, length, take, drop, refl, sym, ap, ◌∙◌, subst, arith, append-nil, append_assoc, get_or, length-take, length-drop}
use Rattle.std.specs.Prelude.{Option, None, Some, replicate}
use Rattle.std.proofs.Math.Nat.{mul_comm, mul_assoc}
use Rattle.std.proofs.lemmas.List.{replicate-append-replicate, drop-drop, drop_at, drop-take, take-take, length-append, take_more, take_all, take-append-drop, take-append-le, drop-append-le}
use Rattle.cell_laws.specs.Elements.{Element, Place, places, width}
use Rattle.cell_laws.specs.Cells.{Ops}
use Rattle.cell_laws.specs.Order.{is_in}
use Rattle.cell_laws.specs.Join.{whole, more_of, one_more, with_others, with_whole, with_places, with_all}
use Rattle.cell_laws.proofs.Cuts.{width-append}
use Rattle.cell_laws.proofs.Stretches.{width-replicate}
use Rattle.cell_runs.specs.declared.runs.Run.{Run}
use Rattle.cell_runs.specs.Runs.{element_of, elements, AllSome, Extends}
use Rattle.cell_runs.proofs.Pushing.{extends-both, extends-none, elements-append, elements-one}
use Rattle.cell_runs.proofs.Taking.{at_run, elements-first, elements-none, width-at}
use Rattle.cell_laws.proofs.Places.{length-places}
use Rattle.run_places.proofs.Ahead.{spot_next}
use Rattle.run_places.specs.declared.spots.Spot.{Spot}
use Rattle.run_places.specs.declared.spots.Front.{Front}
use Rattle.run_places.specs.declared.chunks.Chunk.{Chunk}
use Rattle.run_places.specs.Spots.{ahead, IsSpot, IsFront}
use Rattle.run_places.specs.Chunks.{times, IsChunk}
use Rattle.run_places.specs.Stretches.{prepend, TakesIn, OnTaken, IsDone}
use Rattle.run_places.proofs.Passing.{in_range, next_length, front_of, length-front}
use Rattle.run_places.proofs.Repeating.{length-times, least_chunk}

-- so many bits were skipped
pub record SkipsOn {C : Type 0} (rs : List (Run C)) (first : Spot) (bits : ℕ) (at : Spot) (left : ℕ) : Type 0 where
  pub same : drop left (ahead rs at) ≡ drop bits (ahead rs first)
  pub enough : left ≤ length (ahead rs at)
  pub spot : IsSpot rs at

module _ {C : Type 0} where
  pub skip_begin : (rs : List (Run C)) (first : Spot) (bits : ℕ) → bits ≤ length (ahead rs first) → IsSpot rs first → SkipsOn rs first bits first bits
  skip_begin rs first bits h s = record { same = refl; enough = h; spot = s }

  pub skip_range : (rs : List (Run C)) (first : Spot) (bits : ℕ) (at : Spot) (left : ℕ) → 0 < left → SkipsOn rs first bits at left → at.index < length rs
  skip_range rs first bits at left h p = let e = p.enough in in_range rs at (omega arith)

  pub skip_step : (rs : List (Run C)) (first : Spot) (bits : ℕ) (at : Spot) (left : ℕ) (n : Front) → IsFront rs at left n → SkipsOn rs first bits at left → SkipsOn rs first bits n.next (left - n.count)
  skip_step rs first bits at left n i p =
      let c = i.count in
      let k = i.skip in
      let w = next_length rs at left n i in
      let g = p.enough in
      let u = length-front rs at left n i in
      let m : n.count + (left - n.count) ≡ left = omega arith in
      let d : drop n.count (ahead rs at) ≡ ahead rs n.next = ap (drop n.count) i.split ∙ drop_at (front_of rs at left n i) (ahead rs n.next) n.count u in
      let e : drop (left - n.count) (ahead rs n.next) ≡ drop left (ahead rs at) =
      ap (drop (left - n.count)) (sym d) ∙ drop-drop (left - n.count) n.count (ahead rs at) ∙ ap (λ (x : ℕ). drop x (ahead rs at)) m in
      record { same = e ∙ p.same; enough = omega arith; spot = i.next }

  pub skip_end : (rs : List (Run C)) (first : Spot) (bits : ℕ) (at : Spot) (left : ℕ) → left ≡ 0 → SkipsOn rs first bits at left → ahead rs at ≡ drop bits (ahead rs first)
  skip_end rs first bits at left z p = ap (λ (n : ℕ). drop n (ahead rs at)) (sym z) ∙ p.same

module _ {C H : Type 0} (o : Ops C H) (merge : ℕ → C → C → C) where
  pub with_merged : (k : ℕ) (y x c : C) (ps : List (Place C)) → whole k ps ≡ Some x → c ≡ merge k x y → Some c ≡ with_places o merge k y ps
  unfolding with_places with_whole
  with_merged k y x c ps w e = ap Some e ∙ sym (rw w refl)

  pub with_same : (k : ℕ) (y c : C) (ps : List (Place C)) → whole k ps ≡ None → is_in o k y ps ≡ true → c ≡ y → Some c ≡ with_places o merge k y ps
  unfolding with_places with_whole
  with_same k y c ps w i e = ap Some e ∙ sym (rw (w, i) refl)

  pub with_other : (k : ℕ) (y : C) (ps : List (Place C)) → whole k ps ≡ None → is_in o k y ps ≡ false → with_others o k y ps ≡ with_places o merge k y ps
  unfolding with_places with_whole
  with_other k y ps w i = sym (rw (w, i) refl)

  prepend_none : (x : Option (List (Element C))) → x ≡ prepend [] x
  unfolding prepend
  prepend_none None = refl
  prepend_none (Some l) = refl

  prepend_both : (xs ys : List (Element C)) (x : Option (List (Element C))) → prepend xs (prepend ys x) ≡ prepend (xs ++ ys) x
  unfolding prepend
  prepend_both xs ys None = refl
  prepend_both xs ys (Some l) = ap Some (sym (append_assoc xs ys l))

  more_is : (c : C) (k : ℕ) (x : Option (List (Element C))) → more_of (Some c) k x ≡ prepend (record { bits = k; cell = c } ∷ []) x
  unfolding more_of one_more prepend
  more_is c k None = refl
  more_is c k (Some l) = refl

  more_none : (k : ℕ) (x : Option (List (Element C))) → more_of None k x ≡ None
  unfolding more_of
  more_none k x = refl

  pub takes_none : (ps : List (Place C)) (old : List (Run C)) → TakesIn o merge ps ps [] old old
  unfolding width
  takes_none ps old = record { made = []; extends = extends-none old; law = λ fs. prepend_none (with_all o merge ps fs); left = omega arith }

  pub takes_both : (ps qs rs : List (Place C)) (es fs : List (Element C)) (old mid new : List (Run C)) → TakesIn o merge ps qs es old mid → TakesIn o merge qs rs fs mid new → TakesIn o merge ps rs (es ++ fs) old new
  takes_both ps qs rs es fs old mid new a b =
      let w = width-append es fs in
      let x = a.left in
      let y = b.left in
      record {
        made = a.made ++ b.made;
        extends = extends-both old mid new a.made b.made a.extends b.extends;
        law = λ gs. ap (with_all o merge ps) (append_assoc es fs gs) ∙ a.law (fs ++ gs) ∙ ap (prepend a.made) (b.law gs) ∙ prepend_both a.made b.made (with_all o merge rs gs);
        left = omega arith;
      }

  pub takes_fail : (ps qs : List (Place C)) (es fs gs : List (Element C)) (old mid : List (Run C)) → TakesIn o merge ps qs es old mid → with_all o merge qs (fs ++ gs) ≡ None → with_all o merge ps ((es ++ fs) ++ gs) ≡ None
  unfolding prepend
  takes_fail ps qs es fs gs old mid a n = ap (with_all o merge ps) (append_assoc es fs gs) ∙ a.law (fs ++ gs) ∙ ap (prepend a.made) n

-- some elements have taken in what they can, and so many are left
pub record FewOn {C H : Type 0} (o : Ops C H) (merge : ℕ → C → C → C) (rs : List (Run C)) (first : Spot) (r : Run C) (count : ℕ) (at : Spot) (left : ℕ) (old out : List (Run C)) : Type 0 where
  pub made : List (Element C)
  pub extends : Extends old out made
  pub same : with_all o merge (take (count * r.bits) (ahead rs first)) (replicate count (element_of r)) ≡ prepend made (with_all o merge (take (left * r.bits) (ahead rs at)) (replicate left (element_of r)))
  pub enough : left * r.bits ≤ length (ahead rs at)
  pub spot : IsSpot rs at

module _ {C H : Type 0} (o : Ops C H) (merge : ℕ → C → C → C) where
  pub few_begin : (rs : List (Run C)) (first : Spot) (r : Run C) (count : ℕ) (old : List (Run C)) → count * r.bits ≤ length (ahead rs first) → IsSpot rs first → FewOn o merge rs first r count first count old old
  few_begin rs first r count old h s = record {
    made = [];
    extends = extends-none old;
    same = prepend_none o merge (with_all o merge (take (count * r.bits) (ahead rs first)) (replicate count (element_of r)));
    enough = h;
    spot = s;
  }

  pub few_fits : (rs : List (Run C)) (first : Spot) (r : Run C) (count : ℕ) (at : Spot) (left : ℕ) (old out : List (Run C)) → 0 < left → FewOn o merge rs first r count at left old out → r.bits ≤ length (ahead rs at)
  few_fits rs first r count at zero old out h p = absurd (omega arith)
  few_fits rs first r count at (suc n) old out h p = let e = p.enough in let m : suc n * r.bits ≡ r.bits + n * r.bits = omega arith in omega arith

  first_with : (k n : ℕ) (c : C) (ps : List (Place C)) →
      with_all o merge (take (suc n * k) ps) (replicate (suc n) (record { bits = k; cell = c })) ≡ more_of (with_places o merge k c (take k ps)) k (with_all o merge (take (n * k) (drop k ps)) (replicate n (record { bits = k; cell = c })))
  unfolding with_all
  first_with k n c ps =
      let m : suc n * k ≡ k + n * k = omega arith in
      let e : Element C = record { bits = k; cell = c } in
      let t : take k (take (suc n * k) ps) ≡ take k ps = take-take k (suc n * k) ps (omega arith) in
      let d : drop k (take (suc n * k) ps) ≡ take (n * k) (drop k ps) = ap (λ (x : ℕ). drop k (take x ps)) m ∙ drop-take k (n * k) ps in
      ap (λ (l : List (Place C)). more_of (with_places o merge k c l) k (with_all o merge (drop k (take (suc n * k) ps)) (replicate n e))) t
      ∙ ap (λ (l : List (Place C)). more_of (with_places o merge k c (take k ps)) k (with_all o merge l (replicate n e))) d

  pub few_step : (rs : List (Run C)) (first : Spot) (r : Run C) (count : ℕ) (at next : Spot) (left : ℕ) (old mid new : List (Run C)) (c : C) → 0 < left → Some c ≡ with_places o merge r.bits r.cell (take r.bits (ahead rs at)) →
      Extends mid new (record { bits = r.bits; cell = c } ∷ []) → ahead rs next ≡ drop r.bits (ahead rs at) → IsSpot rs next → FewOn o merge rs first r count at left old mid →
      FewOn o merge rs first r count next (left - 1) old new
  few_step rs first r count at next zero old mid new c h w x d s p = absurd (omega arith)
  few_step rs first r count at next (suc n) old mid new c h w x d s p =
      let k : suc n - 1 ≡ n = omega arith in
      let e = p.enough in
      let m : suc n * r.bits ≡ r.bits + n * r.bits = omega arith in
      let l : length (drop r.bits (ahead rs at)) ≡ length (ahead rs at) - r.bits = length-drop r.bits (ahead rs at) in
      let v = ap length d in
      let one : List (Element C) = record { bits = r.bits; cell = c } ∷ [] in
      let left_over = with_all o merge (take (n * r.bits) (ahead rs next)) (replicate n (element_of r)) in
      let g : with_all o merge (take (suc n * r.bits) (ahead rs at)) (replicate (suc n) (element_of r)) ≡ prepend one left_over =
      first_with r.bits n r.cell (ahead rs at) ∙ ap (λ (y : Option C). more_of y r.bits (with_all o merge (take (n * r.bits) (drop r.bits (ahead rs at))) (replicate n (element_of r)))) (sym w)
      ∙ ap (λ (y : List (Place C)). more_of (Some c) r.bits (with_all o merge (take (n * r.bits) y) (replicate n (element_of r)))) (sym d) ∙ more_is o merge c r.bits left_over in
      subst (λ (y : ℕ). FewOn o merge rs first r count next y old new) (sym k)
      (record {
        made = p.made ++ one;
        extends = extends-both old mid new p.made one p.extends x;
        same = p.same ∙ ap (prepend p.made) g ∙ prepend_both o merge p.made one left_over;
        enough = omega arith;
        spot = s;
      })

  pub few_stop : (rs : List (Run C)) (first : Spot) (r : Run C) (count : ℕ) (at : Spot) (left : ℕ) (old out : List (Run C)) → 0 < left → None ≡ with_places o merge r.bits r.cell (take r.bits (ahead rs at)) →
      FewOn o merge rs first r count at left old out → with_all o merge (take (count * r.bits) (ahead rs first)) (replicate count (element_of r)) ≡ None
  unfolding prepend
  few_stop rs first r count at zero old out h w p = absurd (omega arith)
  few_stop rs first r count at (suc n) old out h w p =
      let rest = with_all o merge (take (n * r.bits) (drop r.bits (ahead rs at))) (replicate n (element_of r)) in
      p.same ∙ ap (prepend p.made) (first_with r.bits n r.cell (ahead rs at) ∙ ap (λ (y : Option C). more_of y r.bits rest) (sym w) ∙ more_none o merge r.bits rest)

  pub few_end : (rs : List (Run C)) (first : Spot) (r : Run C) (count : ℕ) (at : Spot) (left : ℕ) (old out : List (Run C)) → left ≡ 0 → FewOn o merge rs first r count at left old out →
      IsDone (with_all o merge (take (count * r.bits) (ahead rs first)) (replicate count (element_of r))) old out
  unfolding prepend with_all
  few_end rs first r count at left old out z p = record {
    made = p.made;
    is = p.same ∙ ap (λ (n : ℕ). prepend p.made (with_all o merge (take (n * r.bits) (ahead rs at)) (replicate n (element_of r)))) z ∙ ap Some (append-nil p.made);
    extends = p.extends;
  }

  -- ---- many at once

  some_more : (k : ℕ) (ps qs : List (Place C)) (xs ys made : List (Element C)) (a b : Option C) (d : Option (List (Element C))) (f : Option (List (Element C))) → a ≡ b →
      ((r : List (Element C)) → d ≡ Some r → f ≡ prepend r (with_all o merge qs ys)) → more_of b k d ≡ Some made → more_of a k f ≡ prepend made (with_all o merge qs ys)
  unfolding more_of one_more
  some_more k ps qs xs ys made a None d f e h g = cc
  some_more k ps qs xs ys made a (Some c) None f e h g = cc
  some_more k ps qs xs ys made a (Some c) (Some r) f e h g =
      let i : record { bits = k; cell = c } ∷ r ≡ made = cc in
      ap (λ (y : Option C). more_of y k f) e ∙ ap (more_of (Some c) k) (h r refl) ∙ more_is o merge c k (prepend r (with_all o merge qs ys))
      ∙ prepend_both o merge (record { bits = k; cell = c } ∷ []) r (with_all o merge qs ys) ∙ ap (λ (l : List (Element C)). prepend l (with_all o merge qs ys)) i

  with_some : (xs ys : List (Element C)) (ps qs : List (Place C)) (made : List (Element C)) → length ps ≡ width xs → with_all o merge ps xs ≡ Some made →
      with_all o merge (ps ++ qs) (xs ++ ys) ≡ prepend made (with_all o merge qs ys)
  unfolding with_all width
  with_some [] ys [] qs made w h = let e : [] ≡ made = cc in prepend_none o merge (with_all o merge qs ys) ∙ ap (λ (l : List (Element C)). prepend l (with_all o merge qs ys)) e
  with_some [] ys (p ∷ ps) qs made w h = absurd (omega arith)
  with_some (x ∷ xs) ys ps qs made w h =
      let t : take x.bits (ps ++ qs) ≡ take x.bits ps = take-append-le x.bits ps qs (omega arith) in
      let d : drop x.bits (ps ++ qs) ≡ drop x.bits ps ++ qs = drop-append-le x.bits ps qs (omega arith) in
      let n : length (drop x.bits ps) ≡ width xs = simp length-drop (omega arith) in
      some_more x.bits ps qs xs ys made (with_places o merge x.bits x.cell (take x.bits (ps ++ qs))) (with_places o merge x.bits x.cell (take x.bits ps))
      (with_all o merge (drop x.bits ps) xs) (with_all o merge (drop x.bits (ps ++ qs)) (xs ++ ys)) (ap (with_places o merge x.bits x.cell) t)
      (λ r e. ap (λ (l : List (Place C)). with_all o merge l (xs ++ ys)) d ∙ with_some xs ys (drop x.bits ps) qs r n e) h

  none_more : (k : ℕ) (a b : Option C) (d f : Option (List (Element C))) → a ≡ b → (d ≡ None → f ≡ None) → more_of b k d ≡ None → more_of a k f ≡ None
  unfolding more_of one_more
  none_more k a None d f e h g = ap (λ (y : Option C). more_of y k f) e
  none_more k a (Some c) None f e h g = ap (λ (y : Option C). more_of y k f) e ∙ ap (more_of (Some c) k) (h refl)
  none_more k a (Some c) (Some r) f e h g = cc

  with_none : (xs ys : List (Element C)) (ps qs : List (Place C)) → length ps ≡ width xs → with_all o merge ps xs ≡ None → with_all o merge (ps ++ qs) (xs ++ ys) ≡ None
  unfolding with_all width
  with_none [] ys ps qs w h = cc
  with_none (x ∷ xs) ys ps qs w h =
      let t : take x.bits (ps ++ qs) ≡ take x.bits ps = take-append-le x.bits ps qs (omega arith) in
      let d : drop x.bits (ps ++ qs) ≡ drop x.bits ps ++ qs = drop-append-le x.bits ps qs (omega arith) in
      let n : length (drop x.bits ps) ≡ width xs = simp length-drop (omega arith) in
      none_more x.bits (with_places o merge x.bits x.cell (take x.bits (ps ++ qs))) (with_places o merge x.bits x.cell (take x.bits ps))
      (with_all o merge (drop x.bits ps) xs) (with_all o merge (drop x.bits (ps ++ qs)) (xs ++ ys)) (ap (with_places o merge x.bits x.cell) t)
      (λ e. ap (λ (l : List (Place C)). with_all o merge l (xs ++ ys)) d ∙ with_none xs ys (drop x.bits ps) qs n e) h

  with_times : (t : ℕ) (bs qs : List (Place C)) (size : ℕ) (e : Element C) (made fs : List (Element C)) → length bs ≡ size * e.bits → with_all o merge bs (replicate size e) ≡ Some made →
      with_all o merge (times t bs ++ qs) (replicate (size * t) e ++ fs) ≡ prepend (times t made) (with_all o merge qs fs)
  unfolding times
  with_times zero bs qs size e made fs w h = let z : size * zero ≡ zero = omega arith in ap (λ (n : ℕ). with_all o merge qs (replicate n e ++ fs)) z ∙ prepend_none o merge (with_all o merge qs fs)
  with_times (suc t) bs qs size e made fs w h =
      let n : size * suc t ≡ size + size * t = omega arith in
      let v : width (replicate size e) ≡ size * e.bits = width-replicate size e in
      let g : replicate (size * suc t) e ++ fs ≡ replicate size e ++ (replicate (size * t) e ++ fs) =
      ap (λ (k : ℕ). replicate k e ++ fs) n ∙ ap (λ (l : List (Element C)). l ++ fs) (sym (replicate-append-replicate size (size * t) e)) ∙ append_assoc (replicate size e) (replicate (size * t) e) fs in
      ap (λ (l : List (Place C)). with_all o merge l (replicate (size * suc t) e ++ fs)) (append_assoc bs (times t bs) qs)
      ∙ ap (with_all o merge (bs ++ (times t bs ++ qs))) g
      ∙ with_some (replicate size e) (replicate (size * t) e ++ fs) bs (times t bs ++ qs) made (w ∙ sym v) h
      ∙ ap (prepend made) (with_times t bs qs size e made fs w h) ∙ prepend_both o merge made (times t made) (with_all o merge qs fs)

  takes_chunk : (rs : List (Run C)) (s : Spot) (e : Element C) (left : ℕ) (c : Chunk) (made : List (Element C)) (old new : List (Run C)) → IsChunk rs s e.bits left c →
      with_all o merge (take (c.size * e.bits) (ahead rs s)) (replicate c.size e) ≡ Some made → Extends old new (times c.repeats made) →
      TakesIn o merge (ahead rs s) (ahead rs c.next) (replicate (c.size * c.repeats) e) old new
  takes_chunk rs s e left c made old new i h x =
      let bs = take (c.size * e.bits) (ahead rs s) in
      let enough = i.enough in
      let w : length bs ≡ c.size * e.bits = simp length-take (omega arith) in
      let t = length-times c.repeats bs in
      let u : c.repeats * length bs ≡ c.repeats * (c.size * e.bits) = ap (λ (n : ℕ). c.repeats * n) w in
      let l = ap length i.same ∙ length-append (times c.repeats bs) (ahead rs c.next) in
      let v : width (replicate (c.size * c.repeats) e) ≡ c.size * c.repeats * e.bits = width-replicate (c.size * c.repeats) e in
      let turn : c.size * c.repeats * e.bits ≡ c.repeats * (c.size * e.bits) = ap (λ (n : ℕ). n * e.bits) (mul_comm c.size c.repeats) ∙ mul_assoc c.repeats c.size e.bits in
      record {
        made = times c.repeats made;
        extends = x;
        law = λ fs. ap (λ (y : List (Place C)). with_all o merge y (replicate (c.size * c.repeats) e ++ fs)) i.same ∙ with_times c.repeats bs (ahead rs c.next) c.size e made fs w h;
        left = omega arith;
      }

  chunk_fails : (rs : List (Run C)) (s : Spot) (e : Element C) (left : ℕ) (c : Chunk) (fs : List (Element C)) → IsChunk rs s e.bits left c →
      with_all o merge (take (c.size * e.bits) (ahead rs s)) (replicate c.size e) ≡ None → with_all o merge (ahead rs s) (replicate c.size e ++ fs) ≡ None
  chunk_fails rs s e left c fs i h =
      let bs = take (c.size * e.bits) (ahead rs s) in
      let rest = drop (c.size * e.bits) (ahead rs s) in
      let enough = i.enough in
      let w : length bs ≡ c.size * e.bits = simp length-take (omega arith) in
      let v : width (replicate c.size e) ≡ c.size * e.bits = width-replicate c.size e in
      ap (λ (x : List (Place C)). with_all o merge x (replicate c.size e ++ fs)) (sym (take-append-drop (c.size * e.bits) (ahead rs s)))
      ∙ with_none (replicate c.size e) fs bs rest (w ∙ sym v) h

-- some elements of a run have taken in what they can, and so many are left
pub record RunsOn {C H : Type 0} (o : Ops C H) (merge : ℕ → C → C → C) (rs : List (Run C)) (first : Spot) (r : Run C) (at : Spot) (left : ℕ) (old out : List (Run C)) : Type 0 where
  pub taken : TakesIn o merge (ahead rs first) (ahead rs at) (replicate (r.count - left) (element_of r)) old out
  pub some : left ≤ r.count
  pub enough : left * r.bits ≤ length (ahead rs at)
  pub spot : IsSpot rs at

module _ {C H : Type 0} (o : Ops C H) (merge : ℕ → C → C → C) where
  pub run_begin : (rs : List (Run C)) (first : Spot) (r : Run C) (old : List (Run C)) → r.bits * r.count ≤ length (ahead rs first) → IsSpot rs first → RunsOn o merge rs first r first r.count old old
  run_begin rs first r old h s =
      let z : r.count - r.count ≡ 0 = omega arith in
      record {
        taken = subst (λ (n : ℕ). TakesIn o merge (ahead rs first) (ahead rs first) (replicate n (element_of r)) old old) (sym z) (takes_none o merge (ahead rs first) old);
        some = omega arith;
        enough = omega arith;
        spot = s;
      }

  split_replicate : (n m : ℕ) (e : Element C) (k : ℕ) → n + m ≡ k → replicate n e ++ replicate m e ≡ replicate k e
  split_replicate n m e k h = replicate-append-replicate n m e ∙ ap (λ (x : ℕ). replicate x e) h

  -- what was made of a chunk's first elements
  pub made_is : (none made slice : List (Run C)) (all : Option (List (Element C))) → none ≡ [] → slice ≡ made → IsDone all none made → all ≡ Some (elements slice)
  made_is none made slice all z s d =
      let e : elements made ≡ d.made = d.extends.elements ∙ ap (λ (l : List (Run C)). elements l ++ d.made) z ∙ ap (λ (l : List (Element C)). l ++ d.made) (elements-none C) in
      d.is ∙ ap Some (sym e) ∙ ap (λ (l : List (Run C)). Some (elements l)) (sym s)

  pub made_some : (none made slice : List (Run C)) (all : Option (List (Element C))) → none ≡ [] → slice ≡ made → IsDone all none made → AllSome slice
  made_some none made slice all z s d = subst AllSome (sym s) (d.extends.some (subst AllSome (sym z) tt))

  pub run_step : (rs : List (Run C)) (first : Spot) (r : Run C) (at : Spot) (left : ℕ) (c : Chunk) (made : List (Element C)) (old mid new : List (Run C)) → IsChunk rs at r.bits left c →
      with_all o merge (take (c.size * r.bits) (ahead rs at)) (replicate c.size (element_of r)) ≡ Some made → Extends mid new (times c.repeats made) →
      RunsOn o merge rs first r at left old mid → RunsOn o merge rs first r c.next (left - c.size * c.repeats) old new
  run_step rs first r at left c made old mid new i h x p =
      let n = c.size * c.repeats in
      let most = i.most in
      let l = p.some in
      let e = p.enough in
      let a = takes_chunk o merge rs at (element_of r) left c made mid new i h x in
      let b = takes_both o merge (ahead rs first) (ahead rs at) (ahead rs c.next) (replicate (r.count - left) (element_of r)) (replicate n (element_of r)) old mid new p.taken a in
      let g = split_replicate (r.count - left) n (element_of r) (r.count - (left - n)) (omega arith) in
      let v : width (replicate n (element_of r)) ≡ n * r.bits = width-replicate n (element_of r) in
      let w = a.left in
      let d : (left - n) * r.bits + n * r.bits ≡ left * r.bits = split_times (left - n) n left r.bits (omega arith) in
      record { taken = subst (λ (y : List (Element C)). TakesIn o merge (ahead rs first) (ahead rs c.next) y old new) g b; some = omega arith; enough = omega arith; spot = i.next }
    where
      split_times : (a b c k : ℕ) → a + b ≡ c → a * k + b * k ≡ c * k
      split_times a b c k h = let m : (a + b) * k ≡ a * k + b * k = omega arith in sym m ∙ ap (λ (x : ℕ). x * k) h

  pub run_fail : (rs : List (Run C)) (first : Spot) (r : Run C) (at : Spot) (left : ℕ) (c : Chunk) (old mid : List (Run C)) (fs : List (Element C)) → IsChunk rs at r.bits left c →
      with_all o merge (take (c.size * r.bits) (ahead rs at)) (replicate c.size (element_of r)) ≡ None → RunsOn o merge rs first r at left old mid →
      with_all o merge (ahead rs first) (replicate r.count (element_of r) ++ fs) ≡ None
  run_fail rs first r at left c old mid fs i h p =
      let l = p.some in
      let s = least_chunk c.size c.repeats left i.again i.most in
      let more = replicate (left - c.size) (element_of r) ++ fs in
      let g : replicate r.count (element_of r) ++ fs ≡ (replicate (r.count - left) (element_of r) ++ replicate c.size (element_of r)) ++ more =
      ap (λ (x : List (Element C)). x ++ fs) (sym (split_replicate (r.count - left + c.size) (left - c.size) (element_of r) r.count (omega arith)))
      ∙ append_assoc (replicate (r.count - left + c.size) (element_of r)) (replicate (left - c.size) (element_of r)) fs
      ∙ ap (λ (x : List (Element C)). x ++ more) (sym (replicate-append-replicate (r.count - left) c.size (element_of r))) in
      ap (with_all o merge (ahead rs first)) g
      ∙ takes_fail o merge (ahead rs first) (ahead rs at) (replicate (r.count - left) (element_of r)) (replicate c.size (element_of r)) more old mid p.taken
      (chunk_fails o merge rs at (element_of r) left c more i h)

  pub run_end : (rs : List (Run C)) (first : Spot) (r : Run C) (at : Spot) (left : ℕ) (old out : List (Run C)) → left ≡ 0 → RunsOn o merge rs first r at left old out →
      TakesIn o merge (ahead rs first) (ahead rs at) (replicate r.count (element_of r)) old out
  run_end rs first r at left old out z p =
      let i : r.count - left ≡ r.count = omega arith in
      subst (λ (n : ℕ). TakesIn o merge (ahead rs first) (ahead rs at) (replicate n (element_of r)) old out) i p.taken

-- the runs before an index have taken in what they can
pub record AllOn {C H : Type 0} (o : Ops C H) (merge : ℕ → C → C → C) (first second : List (Run C)) (at : Spot) (i : ℕ) (old out : List (Run C)) : Type 0 where
  pub taken : TakesIn o merge (places (elements first)) (ahead first at) (elements (take i second)) old out
  pub enough : width (elements (drop i second)) ≤ length (ahead first at)
  pub spot : IsSpot first at

pub first_spot : {C : Type 0} (rs : List (Run C)) → ahead rs (record { index = 0; skip = 0 }) ≡ places (elements rs)
unfolding ahead
first_spot rs = refl

module _ {C H : Type 0} (o : Ops C H) (merge : ℕ → C → C → C) where
  pub all_begin : (first second old : List (Run C)) → AllSome first → width (elements first) ≡ width (elements second) → AllOn o merge first second (record { index = 0; skip = 0 }) 0 old old
  unfolding elements
  all_begin first second old s w =
      let l = length-places (elements first) in
      let e = ap length (first_spot first) in
      record {
        taken = subst (λ (x : List (Place C)). TakesIn o merge (places (elements first)) x [] old old) (sym (first_spot first)) (takes_none o merge (places (elements first)) old);
        enough = omega arith;
        spot = spot_next first 0 s;
      }

  all_taken : (rs : List (Run C)) (i : ℕ) (r : Run C) → i < length rs → r ≡ get_or rs i r → elements (take (i + 1) rs) ≡ elements (take i rs) ++ replicate r.count (element_of r)
  all_taken rs i r h e =
      ap elements (take_more rs i r h ∙ ap (λ (x : Run C). take i rs ++ x ∷ []) (sym e)) ∙ elements-append (take i rs) (r ∷ []) ∙ ap (λ (x : List (Element C)). elements (take i rs) ++ x) (elements-one r)

  pub all_fits : (first second : List (Run C)) (at : Spot) (i : ℕ) (old out : List (Run C)) (r : Run C) → i < length second → r ≡ get_or second i r → AllOn o merge first second at i old out →
      r.bits * r.count ≤ length (ahead first at)
  all_fits first second at i old out r h e p = let w = width-at second i r h e in let g = p.enough in omega arith

  pub all_step : (first second : List (Run C)) (at next : Spot) (i : ℕ) (old mid new : List (Run C)) (r : Run C) → i < length second → r ≡ get_or second i r → IsSpot first next →
      TakesIn o merge (ahead first at) (ahead first next) (replicate r.count (element_of r)) mid new → AllOn o merge first second at i old mid → AllOn o merge first second next (i + 1) old new
  all_step first second at next i old mid new r h e s t p =
      let w = width-at second i r h e in
      let g = p.enough in
      let l = t.left in
      let v : width (replicate r.count (element_of r)) ≡ r.count * r.bits = width-replicate r.count (element_of r) in
      let b = takes_both o merge (places (elements first)) (ahead first at) (ahead first next) (elements (take i second)) (replicate r.count (element_of r)) old mid new p.taken t in
      record { taken = subst (λ (x : List (Element C)). TakesIn o merge (places (elements first)) (ahead first next) x old new) (sym (all_taken second i r h e)) b; enough = omega arith; spot = s }

  pub all_fail : (first second : List (Run C)) (at : Spot) (i : ℕ) (old mid : List (Run C)) (r : Run C) → i < length second → r ≡ get_or second i r →
      ((fs : List (Element C)) → with_all o merge (ahead first at) (replicate r.count (element_of r) ++ fs) ≡ None) → AllOn o merge first second at i old mid →
      with_all o merge (places (elements first)) (elements second) ≡ None
  unfolding prepend
  all_fail first second at i old mid r h e f p =
      let d : elements second ≡ elements (take i second) ++ elements (drop i second) = ap elements (sym (take-append-drop i second)) ∙ elements-append (take i second) (drop i second) in
      let g : elements (drop i second) ≡ replicate r.count (element_of r) ++ elements (drop (i + 1) second) = ap elements (at_run second i r h e) ∙ elements-first r (drop (i + 1) second) in
      ap (with_all o merge (places (elements first))) d ∙ p.taken.law (elements (drop i second))
      ∙ ap (prepend p.taken.made) (ap (with_all o merge (ahead first at)) g ∙ f (elements (drop (i + 1) second)))

  pub all_end : (first second : List (Run C)) (at : Spot) (i : ℕ) (old out : List (Run C)) → length second ≤ i → AllOn o merge first second at i old out →
      IsDone (with_all o merge (places (elements first)) (elements second)) old out
  unfolding prepend with_all
  all_end first second at i old out h p =
      let e : take i second ≡ second = take_all i second h in
      let l = p.taken.law [] in
      record {
        made = p.taken.made;
        is = ap (with_all o merge (places (elements first))) (sym (append-nil (elements second)) ∙ ap (λ (x : List (Run C)). elements x ++ []) (sym e)) ∙ l ∙ ap Some (append-nil p.taken.made);
        extends = p.taken.extends;
      }

  pub taken_yes : (ps qs : List (Place C)) (es : List (Element C)) (old new : List (Run C)) (b : Bool) → b ≡ true → OnTaken o merge ps qs es old new b → TakesIn o merge ps qs es old new
  taken_yes ps qs es old new true e t = t
  taken_yes ps qs es old new false e t = cc

  pub taken_no : (ps qs : List (Place C)) (es : List (Element C)) (old new : List (Run C)) (b : Bool) → b ≡ false → OnTaken o merge ps qs es old new b →
      (fs : List (Element C)) → with_all o merge ps (es ++ fs) ≡ None
  taken_no ps qs es old new true e t = cc
  taken_no ps qs es old new false e t = t
