-- One cell of the bits of many elements, made from the last one on.
use Rattle.std.proofs.Common.{◌≡◌, ℕ, zero, suc, ◌+◌, ◌-◌, ◌*◌, ◌<◌, ◌≤◌, List, [], ◌∷◌, ◌++◌, length, drop, refl, sym, ap, ◌∙◌, subst, arith, append-nil, append_assoc, get_or}
use Rattle.std.specs.Prelude.{replicate}
use Rattle.std.proofs.lemmas.List.{drop_more, drop_all, replicate_more, get_or_default}
use Rattle.cell_laws.specs.Elements.{Element, width}
use Rattle.cell_laws.specs.Cells.{Ops}
use Rattle.cell_laws.specs.Access.{glued, loaded, loaded_all, AllWithin}
use Rattle.cell_runs.specs.declared.runs.Run.{Run}
use Rattle.cell_runs.specs.Runs.{element_of, elements, AllSome}
use Rattle.cell_runs.proofs.Taking.{at_run, elements-first, elements-none, some_at, width-at, width-drop-le, none_past}
use Rattle.offmap.specs.declared.access.Piece.{Piece}
use Rattle.run_slots.specs.Offsets.{Represent}
use Rattle.offmap.specs.Maps.{LoadsSteps, piece_of, glued_on}

-- some elements of the run were put in front, and so many are left
pub record GluesOn {C H : Type 0} (o : Ops C H) (count : ℕ) (e : Element C) (first : Piece C) (left : ℕ) (p : Piece C) : Type 0 where
  pub same : glued_on o left e (piece_of p) ≡ glued_on o count e (piece_of first)
  pub small : left * e.bits + p.bits ≤ 64

module _ {C H : Type 0} (o : Ops C H) where
  pub glue_step : (count : ℕ) (e : Element C) (first : Piece C) (left : ℕ) (p : Piece C) (cell : C) → 0 < left → cell ≡ o.glue e.bits e.cell p.bits p.cell → GluesOn o count e first left p →
      GluesOn o count e first (left - 1) (record { bits = e.bits + p.bits; cell = cell })
  unfolding glued_on
  glue_step count e first zero p cell h d g = absurd (omega arith)
  glue_step count e first (suc n) p cell h d g =
      let i : suc n - 1 ≡ n = omega arith in
      let s = g.small in
      let m : suc n * e.bits ≡ e.bits + n * e.bits = omega arith in
      subst (λ (k : ℕ). GluesOn o count e first k (record { bits = e.bits + p.bits; cell = cell })) (sym i)
      (record {
        same = ap (λ (c : C). glued_on o n e (record { bits = e.bits + p.bits; cell = c })) d ∙ g.same;
        small = omega arith;
      })

  pub glue_end : (count : ℕ) (e : Element C) (first : Piece C) (left : ℕ) (p : Piece C) → left ≡ 0 → GluesOn o count e first left p → piece_of p ≡ glued_on o count e (piece_of first)
  unfolding glued_on
  glue_end count e first left p z g = ap (λ (k : ℕ). glued_on o k e (piece_of p)) (sym z) ∙ g.same

  pub glue_fits : (count : ℕ) (e : Element C) (first : Piece C) (left : ℕ) (p : Piece C) → 0 < left → GluesOn o count e first left p → e.bits + p.bits ≤ 64
  glue_fits count e first zero p h g = absurd (omega arith)
  glue_fits count e first (suc n) p h g =
      let s = g.small in
      let m : suc n * e.bits ≡ e.bits + n * e.bits = omega arith in
      omega arith

  abbrev pub whole : List (Element C) → Element C
  whole es = record { bits = width es; cell = glued o es }

  whole_front : (e : Element C) (es : List (Element C)) → 0 < length es → whole (e ∷ es) ≡ record { bits = e.bits + width es; cell = o.glue e.bits e.cell (width es) (glued o es) }
  unfolding glued width
  whole_front e [] h = absurd (omega arith)
  whole_front e (f ∷ es) h = refl

  more_front : (n : ℕ) (e : Element C) (es : List (Element C)) → replicate n e ++ e ∷ es ≡ replicate (suc n) e ++ es
  more_front n e es =
      let i : n + 1 ≡ suc n = omega arith in
      sym (append_assoc (replicate n e) (e ∷ []) es) ∙ ap (λ (l : List (Element C)). l ++ es) (replicate_more n e ∙ ap (λ (k : ℕ). replicate k e) i)

  pub glued_whole : (n : ℕ) (e : Element C) (es : List (Element C)) → 0 < length es → glued_on o n e (whole es) ≡ whole (replicate n e ++ es)
  unfolding glued_on
  glued_whole zero e es h = refl
  glued_whole (suc n) e es h =
      ap (glued_on o n e) (sym (whole_front e es h)) ∙ glued_whole n e (e ∷ es) (omega arith) ∙ ap whole (more_front n e es)

  whole_one : (e : Element C) → e ≡ whole (e ∷ [])
  unfolding glued width
  whole_one e = let i : e.bits ≡ e.bits + 0 = omega arith in ap (λ (k : ℕ). record { bits = k; cell = e.cell }) i

  -- the last run
  pub last_whole : (rs : List (Run C)) (i : ℕ) (r : Run C) (first p : Piece C) → suc i ≡ length rs → r ≡ get_or rs i r → AllSome rs → first.bits ≡ r.bits → first.cell ≡ r.cell →
      piece_of p ≡ glued_on o (r.count - 1) (element_of r) (piece_of first) → piece_of p ≡ whole (elements (drop i rs))
  last_whole rs i r first p l e s b c h =
      let q = (some_at rs i r (omega arith) e s).1 in
      let n : r.count - 1 + 1 ≡ r.count = omega arith in
      let d : elements (drop i rs) ≡ replicate (r.count - 1) (element_of r) ++ element_of r ∷ [] =
      ap elements (at_run rs i r (omega arith) e) ∙ elements-first r (drop (i + 1) rs)
      ∙ ap (λ (x : List (Run C)). replicate r.count (element_of r) ++ elements x) (none_past rs (i + 1) (omega arith))
      ∙ ap (λ (x : List (Element C)). replicate r.count (element_of r) ++ x) (elements-none C) ∙ append-nil (replicate r.count (element_of r))
      ∙ ap (λ (k : ℕ). replicate k (element_of r)) (sym n) ∙ sym (replicate_more (r.count - 1) (element_of r)) in
      let f : piece_of first ≡ element_of r = ap (λ (k : ℕ). record { bits = k; cell = first.cell }) b ∙ ap (λ (x : C). record { bits = r.bits; cell = x }) c in
      h ∙ ap (glued_on o (r.count - 1) (element_of r)) (f ∙ whole_one (element_of r)) ∙ glued_whole (r.count - 1) (element_of r) (element_of r ∷ []) (omega arith) ∙ ap whole (sym d)

  some_elements : (rs : List (Run C)) (i : ℕ) → i < length rs → AllSome rs → 0 < length (elements (drop i rs))
  unfolding elements
  some_elements [] i h s = absurd (omega arith)
  some_elements (r ∷ rs) zero h s = some_front r.count (element_of r) (elements rs) s.1
    where
      some_front : (n : ℕ) (e : Element C) (es : List (Element C)) → 0 < n → 0 < length (replicate n e ++ es)
      some_front zero e es p = absurd (omega arith)
      some_front (suc n) e es p = omega arith
  some_elements (r ∷ rs) (suc i) h s = some_elements rs i (omega arith) s.2

  -- a run before the others
  pub more_whole : (rs : List (Run C)) (i k : ℕ) (r : Run C) (first p : Piece C) → k ≡ i + 1 → k < length rs → r ≡ get_or rs i r → AllSome rs → piece_of first ≡ whole (elements (drop k rs)) →
      piece_of p ≡ glued_on o r.count (element_of r) (piece_of first) → piece_of p ≡ whole (elements (drop i rs))
  more_whole rs i k r first p z l e s f h =
      let j : i + 1 < length rs = omega arith in
      let f2 : piece_of first ≡ whole (elements (drop (i + 1) rs)) = f ∙ ap (λ (x : ℕ). whole (elements (drop x rs))) z in
      let d : elements (drop i rs) ≡ replicate r.count (element_of r) ++ elements (drop (i + 1) rs) = ap elements (at_run rs i r (omega arith) e) ∙ elements-first r (drop (i + 1) rs) in
      h ∙ ap (glued_on o r.count (element_of r)) f2 ∙ glued_whole r.count (element_of r) (elements (drop (i + 1) rs)) (some_elements rs (i + 1) j s) ∙ ap whole (sym d)

  pub more_fits : (rs : List (Run C)) (i k : ℕ) (r : Run C) (first : Piece C) → k ≡ i + 1 → i < length rs → r ≡ get_or rs i r → width (elements rs) ≤ 64 → piece_of first ≡ whole (elements (drop k rs)) →
      r.count * r.bits + first.bits ≤ 64
  more_fits rs i k r first z l e s f =
      let w = width-at rs i r l e in
      let d = width-drop-le i rs in
      let b : first.bits ≡ width (elements (drop (i + 1) rs)) = ap (λ (x : Element C). x.bits) f ∙ ap (λ (x : ℕ). width (elements (drop x rs))) z in
      omega arith

  pub last_fits : (rs : List (Run C)) (i : ℕ) (r : Run C) (bits : ℕ) → i < length rs → r ≡ get_or rs i r → AllSome rs → width (elements rs) ≤ 64 → bits ≡ r.bits → (r.count - 1) * r.bits + bits ≤ 64
  last_fits rs i r bits l e s w b =
      let q = (some_at rs i r l e s).1 in
      let v = width-at rs i r l e in
      let d = width-drop-le i rs in
      let n : (r.count - 1 + 1) * r.bits ≡ (r.count - 1) * r.bits + r.bits = omega arith in
      let m : r.count - 1 + 1 ≡ r.count = omega arith in
      let k : r.count * r.bits ≡ (r.count - 1) * r.bits + r.bits = ap (λ (x : ℕ). x * r.bits) (sym m) ∙ n in
      omega arith

  -- ---- loads at many offsets

  pub within_at : (k n : ℕ) (ats : List ℕ) (i x : ℕ) → i < length ats → x ≡ get_or ats i x → AllWithin k n ats → x + k ≤ n
  within_at k n [] i x h e a = absurd (omega arith)
  within_at k n (at ∷ ats) zero x h e a = let b = a.0 in omega arith
  within_at k n (at ∷ ats) (suc i) x h e a = within_at k n ats i x (omega arith) e a.1

  pub number_at : (ats : List ℕ) (i x : ℕ) → i < length ats → x ≡ get_or ats i 0 → x ≡ get_or ats i x
  number_at ats i x h e = e ∙ get_or_default ats i 0 x h

  pub all_loaded : (m : List (Element C)) (ats : List ℕ) (i j k x : ℕ) (here rest new : C) → j ≡ i + 1 → i < length ats → x ≡ get_or ats i x → here ≡ loaded o m x k → rest ≡ loaded_all o m (drop j ats) k →
      new ≡ o.join here rest → new ≡ loaded_all o m (drop i ats) k
  unfolding loaded_all
  all_loaded m ats i j k x here rest new z h e f g2 n =
      let g : rest ≡ loaded_all o m (drop (i + 1) ats) k = g2 ∙ ap (λ (y : ℕ). loaded_all o m (drop y ats) k) z in
      let d : drop i ats ≡ x ∷ drop (i + 1) ats = drop_more ats i x h ∙ ap (λ (y : ℕ). y ∷ drop (i + 1) ats) (sym e) in
      n ∙ ap (λ (c : C). o.join c rest) f ∙ ap (λ (c : C). o.join (loaded o m x k) c) g ∙ sym (ap (λ (l : List ℕ). loaded_all o m l k) d)

  pub none_loaded : (m : List (Element C)) (ats : List ℕ) (k : ℕ) (c : C) (n : ℕ) → length ats ≤ n → c ≡ o.void → c ≡ loaded_all o m (drop n ats) k
  unfolding loaded_all
  none_loaded m ats k c n l e = e ∙ sym (ap (λ (x : List ℕ). loaded_all o m x k) (drop_all n ats l))

  pub none_glued : (rs : List (Run C)) → length rs ≡ 0 → o.void ≡ glued o (elements rs)
  unfolding glued elements
  none_glued [] e = refl
  none_glued (r ∷ rs) e = absurd (omega arith)

module _ {C H : Type 0} (o : Ops C H) where
  pub represented_within : (rs : List (Run C)) (m : List (Element C)) (k at step count : ℕ) (offsets slice : List ℕ) → elements rs ≡ m → slice ≡ offsets → Represent o (elements rs) k at step count offsets →
      AllWithin k (width m) slice
  represented_within rs m k at step count offsets slice v e r =
      subst (λ (l : List ℕ). AllWithin k (width m) l) (sym e) (subst (λ (x : List (Element C)). AllWithin k (width x) offsets) v r.within)

  pub steps_loaded : (rs : List (Run C)) (m : List (Element C)) (k at step count : ℕ) (offsets slice : List ℕ) (c : C) → elements rs ≡ m → slice ≡ offsets → Represent o (elements rs) k at step count offsets →
      c ≡ loaded_all o m slice k → LoadsSteps o m k at step count c
  steps_loaded rs m k at step count offsets slice c v e r l =
      record { offsets = offsets; all = subst (λ (x : List (Element C)). Represent o x k at step count offsets) v r; is = l ∙ ap (λ (x : List ℕ). loaded_all o m x k) e }
