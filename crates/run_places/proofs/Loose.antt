-- Bits by themselves, and the joins of stretches.
use Rattle.std.proofs.Common.{◌≡◌, ℕ, zero, suc, ◌*◌, ◌<◌, ◌≤◌, Bool, true, false, List, [], ◌∷◌, ◌++◌, length, refl, sym, ap, ◌∙◌, subst, arith, inl, inr, append-nil, append_assoc, get_or}
use Rattle.std.specs.Prelude.{Option, None, replicate}
use Rattle.std.proofs.lemmas.Bool.{cases_eq}
use Rattle.cell_laws.specs.Elements.{Element, Place, places, width}
use Rattle.cell_laws.specs.Cells.{Ops}
use Rattle.cell_laws.specs.Join.{with_all, any_bits, or_any, or_first, join_stretch}
use Rattle.cell_laws.proofs.Places.{length-places}
use Rattle.cell_runs.specs.declared.runs.Run.{Run}
use Rattle.cell_runs.specs.Runs.{elements, AllSome, Extends}
use Rattle.cell_runs.proofs.Pushing.{extends-both, extends-along, extends-none}
use Rattle.cell_runs.proofs.Taking.{elements-none}
use Rattle.run_places.specs.declared.spots.Spot.{Spot}
use Rattle.run_places.specs.declared.spots.Front.{Front}
use Rattle.run_places.specs.Spots.{ahead, IsSpot, IsFront}
use Rattle.run_places.specs.Stretches.{IsStretch, IsDone, OnDone, AreElements}
use Rattle.run_places.proofs.Ahead.{AllOf, spot_next}
use Rattle.run_places.proofs.Passing.{in_range, next_length, front_of, length-front, front_cells, front_is}
use Rattle.run_places.proofs.TakingIn.{first_spot}

-- the bits so far are added
pub record BitsOn {C H : Type 0} (o : Ops C H) (merge : ℕ → C → C → C) (a : List (Run C)) (s : Spot) (b : List (Run C)) (t : Spot) (old out : List (Run C)) : Type 0 where
  pub made : List (Element C)
  pub extends : Extends old out made
  pub same : made ++ any_bits o merge (ahead a s) (ahead b t) ≡ any_bits o merge (places (elements a)) (places (elements b))
  pub even : length (ahead a s) ≡ length (ahead b t)
  pub first : IsSpot a s
  pub second : IsSpot b t

module _ {C H : Type 0} (o : Ops C H) (merge : ℕ → C → C → C) where
  pub bits_begin : (a b old : List (Run C)) → AllSome a → AllSome b → width (elements a) ≡ width (elements b) →
      BitsOn o merge a (record { index = 0; skip = 0 }) b (record { index = 0; skip = 0 }) old old
  bits_begin a b old s t w =
      let l = length-places (elements a) in
      let m = length-places (elements b) in
      let e = ap length (first_spot a) in
      let f = ap length (first_spot b) in
      record {
        made = [];
        extends = extends-none old;
        same = ap (λ (x : List (Place C)). any_bits o merge x (ahead b (record { index = 0; skip = 0 }))) (first_spot a) ∙ ap (any_bits o merge (places (elements a))) (first_spot b);
        even = omega arith;
        first = spot_next a 0 s;
        second = spot_next b 0 t;
      }

  all_bits : (x y : C) (n : ℕ) (xs ys ps qs : List (Place C)) → length xs ≡ n → length ys ≡ n → AllOf x xs → AllOf y ys →
      any_bits o merge (xs ++ ps) (ys ++ qs) ≡ replicate n (record { bits = 1; cell = o.any (o.unite (o.hue x) (o.hue y)) }) ++ any_bits o merge ps qs
  unfolding any_bits
  all_bits x y zero [] [] ps qs l m a b = refl
  all_bits x y zero [] (q ∷ ys) ps qs l m a b = absurd (omega arith)
  all_bits x y zero (p ∷ xs) ys ps qs l m a b = absurd (omega arith)
  all_bits x y (suc n) [] ys ps qs l m a b = absurd (omega arith)
  all_bits x y (suc n) (p ∷ xs) [] ps qs l m a b = absurd (omega arith)
  all_bits x y (suc n) (p ∷ xs) (q ∷ ys) ps qs l m a b =
      ap (λ (c : C). record { bits = 1; cell = o.any (o.unite (o.hue c) (o.hue q.cell)) } ∷ any_bits o merge (xs ++ ps) (ys ++ qs)) a.0
      ∙ ap (λ (c : C). record { bits = 1; cell = o.any (o.unite (o.hue x) (o.hue c)) } ∷ any_bits o merge (xs ++ ps) (ys ++ qs)) b.0
      ∙ ap (λ (l : List (Element C)). record { bits = 1; cell = o.any (o.unite (o.hue x) (o.hue y)) } ∷ l) (all_bits x y n xs ys ps qs (omega arith) (omega arith) a.1 b.1)

  -- where the first has a bit left, so has the second
  pub bits_second : (a b : List (Run C)) (s t : Spot) (old out : List (Run C)) (f : Front) (most : ℕ) → 0 < most → IsFront a s most f → BitsOn o merge a s b t old out → t.index < length b
  bits_second a b s t old out f most m i p =
      let w = next_length a s most f i in
      let c = i.count in
      let k = i.skip in
      let e = p.even in
      in_range b t (omega arith)

  pub bits_step : (a b : List (Run C)) (s t : Spot) (old mid new : List (Run C)) (x y : Run C) (c : C) (most : ℕ) (f g h : Front) → s.index < length a → x ≡ get_or a s.index x → t.index < length b → y ≡ get_or b t.index y →
      0 < most → IsFront a s most f → IsFront b t f.count g → IsFront a s g.count h → c ≡ o.any (o.unite (o.hue x.cell) (o.hue y.cell)) →
      Extends mid new (replicate g.count (record { bits = 1; cell = c })) → BitsOn o merge a s b t old mid →
      (BitsOn o merge a h.next b g.next old new) × (length (ahead a h.next) < length (ahead a s))
  bits_step a b s t old mid new x y c most f g h ix ex iy ey m i j k d z p =
      let e = replicate g.count (record { bits = 1; cell = c }) in
      let ic = i.count in
      let is = i.skip in
      let jc = j.count in
      let js = j.skip in
      let kc = k.count in
      let same_run : i.run ≡ k.run = front_is a s most f i x ix ex ∙ sym (front_is a s g.count h k x ix ex) in
      let same_bits : i.run.bits * i.run.count ≡ k.run.bits * k.run.count = ap (λ (r : Run C). r.bits * r.count) same_run in
      let w = next_length a s g.count h k in
      let v = next_length b t f.count g j in
      let n : h.count ≡ g.count = omega arith in
      let some : 0 < g.count = omega arith in
      let u = length-front a s g.count h k in
      let u2 = length-front b t f.count g j in
      let ax : AllOf x.cell (front_of a s g.count h k) = subst (λ (r : Run C). AllOf r.cell (front_of a s g.count h k)) (front_is a s g.count h k x ix ex) (front_cells a s g.count h k) in
      let ay : AllOf y.cell (front_of b t f.count g j) = subst (λ (r : Run C). AllOf r.cell (front_of b t f.count g j)) (front_is b t f.count g j y iy ey) (front_cells b t f.count g j) in
      let q : any_bits o merge (ahead a s) (ahead b t) ≡ e ++ any_bits o merge (ahead a h.next) (ahead b g.next) =
      ap (λ (l : List (Place C)). any_bits o merge l (ahead b t)) k.split ∙ ap (any_bits o merge (front_of a s g.count h k ++ ahead a h.next)) j.split
      ∙ all_bits x.cell y.cell g.count (front_of a s g.count h k) (front_of b t f.count g j) (ahead a h.next) (ahead b g.next) (u ∙ n) u2 ax ay
      ∙ ap (λ (r : C). replicate g.count (record { bits = 1; cell = r }) ++ any_bits o merge (ahead a h.next) (ahead b g.next)) (sym d) in
      let ev = p.even in (
        record {
          made = p.made ++ e;
          extends = extends-both old mid new p.made e p.extends z;
          same = append_assoc p.made e (any_bits o merge (ahead a h.next) (ahead b g.next)) ∙ ap (λ (l : List (Element C)). p.made ++ l) (sym q) ∙ p.same;
          even = omega arith;
          first = k.next;
          second = j.next;
        },
        omega arith,
      )

  no_bits : (ps qs : List (Place C)) → length ps ≡ 0 → any_bits o merge ps qs ≡ []
  unfolding any_bits
  no_bits [] qs e = refl
  no_bits (p ∷ ps) qs e = absurd (omega arith)

  pub bits_end : (a b : List (Run C)) (s t : Spot) (old out : List (Run C)) → length a ≤ s.index → BitsOn o merge a s b t old out → Extends old out (any_bits o merge (places (elements a)) (places (elements b)))
  bits_end a b s t old out h p =
      let z : length (ahead a s) ≡ 0 = past a s h in
      extends-along old out _ _ (sym (append-nil p.made) ∙ ap (λ (l : List (Element C)). p.made ++ l) (sym (no_bits (ahead a s) (ahead b t) z)) ∙ p.same) p.extends
    where
      past : (rs : List (Run C)) (s : Spot) → length rs ≤ s.index → length (ahead rs s) ≡ 0
      past rs s h = elim (cases_eq (length (ahead rs s)) 0) [ inl z ↦ z | inr n ↦ let i = in_range rs s (omega arith) in absurd (omega arith) ]

  -- ---- what is made of stretches

  pub built_of : (none runs : List (Run C)) (es : List (Element C)) → none ≡ [] → Extends none runs es → AreElements runs es
  built_of none runs es z x = record {
    are = x.elements ∙ ap (λ (l : List (Run C)). elements l ++ es) z ∙ ap (λ (l : List (Element C)). l ++ es) (elements-none C);
    some = x.some (subst AllSome (sym z) tt);
  }

  pub done_yes : (all : Option (List (Element C))) (old new : List (Run C)) (b : Bool) → b ≡ true → OnDone all old new b → IsDone all old new
  done_yes all old new true e d = d
  done_yes all old new false e d = cc

  pub done_no : (all : Option (List (Element C))) (old new : List (Run C)) (b : Bool) → b ≡ false → OnDone all old new b → all ≡ None
  done_no all old new true e d = cc
  done_no all old new false e d = d

  pub first_made : (xs ys : List (Element C)) (none runs : List (Run C)) → none ≡ [] → IsDone (with_all o merge (places ys) xs) none runs → AreElements runs (or_any o merge xs ys (with_all o merge (places ys) xs))
  unfolding or_any
  first_made xs ys none runs z d =
      let b = built_of none runs d.made z d.extends in
      record { are = b.are ∙ sym (ap (or_any o merge xs ys) d.is); some = b.some }

  pub bits_made : (xs ys : List (Element C)) (runs : List (Run C)) → with_all o merge (places ys) xs ≡ None → AreElements runs (any_bits o merge (places xs) (places ys)) → AreElements runs (or_any o merge xs ys (with_all o merge (places ys) xs))
  unfolding or_any
  bits_made xs ys runs n b = record { are = b.are ∙ sym (ap (or_any o merge xs ys) n); some = b.some }

  pub second_made : (a b none runs : List (Run C)) → none ≡ [] → IsDone (with_all o merge (places (elements a)) (elements b)) none runs → IsStretch o merge a b runs
  unfolding join_stretch or_first
  second_made a b none runs z d =
      let e = built_of none runs d.made z d.extends in
      record { is = e.are ∙ sym (ap (or_first o merge (elements a) (elements b)) d.is); some = e.some }

  pub other_made : (a b runs : List (Run C)) → with_all o merge (places (elements a)) (elements b) ≡ None → AreElements runs (or_any o merge (elements a) (elements b) (with_all o merge (places (elements b)) (elements a))) →
      IsStretch o merge a b runs
  unfolding join_stretch or_first
  other_made a b runs n e = record { is = e.are ∙ sym (ap (or_first o merge (elements a) (elements b)) n); some = e.some }
