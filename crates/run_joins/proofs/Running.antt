-- Cursors in runs.
use Rattle.std.proofs.Common.{◌≡◌, ℕ, ◌+◌, ◌-◌, ◌<◌, ◌≤◌, List, [], ◌∷◌, ◌++◌, length, drop, refl, sym, ap, ◌∙◌, subst, arith, append_assoc, get_or}
use Rattle.std.specs.Prelude.{replicate}
use Rattle.std.proofs.lemmas.List.{drop-drop, drop_at, length-replicate, replicate-append-replicate, drop-append-le, drop-replicate}
use Rattle.cell_runs.specs.declared.runs.Run.{Run}
use Rattle.run_joins.specs.declared.cursor.Cursor.{Cursor}
use Rattle.cell_laws.specs.Elements.{Element}
use Rattle.cell_runs.specs.Runs.{element_of, elements, AllSome}
use Rattle.cell_runs.proofs.Taking.{at_run, some_drop}
use Rattle.run_joins.specs.Joining.{rest, IsIn, IsCursor, HasLeft, SameBits}

module _ {C : Type 0} where
  some_in : (rs : List (Run C)) → AllSome rs → IsIn rs 0
  some_in [] s = refl
  some_in (r ∷ rs) s = s.1

  pub cursor_next : (rs : List (Run C)) (i : ℕ) → AllSome rs → IsCursor rs (record { index = i; used = 0 })
  cursor_next rs i s = some_in (drop i rs) (some_drop i rs s)

  run_end : (r : Run C) (rs : List (Run C)) → drop r.count (elements (r ∷ rs)) ≡ elements rs
  unfolding elements
  run_end r rs = drop_at (replicate r.count (element_of r)) (elements rs) r.count (length-replicate r.count (element_of r))

  pub rest_next : (rs : List (Run C)) (at : Cursor) (n : ℕ) (r : Run C) → at.index < length rs → r ≡ get_or rs at.index r → at.used + n ≡ r.count →
      rest rs (record { index = at.index + 1; used = 0 }) ≡ drop n (rest rs at)
  unfolding rest
  rest_next rs at n r h e c =
      let d = at_run rs at.index r h e in
      let f : drop (at.used + n) (elements (drop at.index rs)) ≡ elements (drop (at.index + 1) rs) =
      ap (λ (x : ℕ). drop x (elements (drop at.index rs))) c ∙ ap (λ (l : List (Run C)). drop r.count (elements l)) d ∙ run_end r (drop (at.index + 1) rs) in
      sym (drop-drop n at.used (elements (drop at.index rs)) ∙ f)

  pub rest_on : (rs : List (Run C)) (at : Cursor) (n : ℕ) → rest rs (record { index = at.index; used = at.used + n }) ≡ drop n (rest rs at)
  unfolding rest
  rest_on rs at n = sym (drop-drop n at.used (elements (drop at.index rs)))

  pub has_left : (rs : List (Run C)) (i n : ℕ) (r : Run C) → i < length rs → r ≡ get_or rs i r → HasLeft (drop i rs) n → n ≤ r.count
  has_left rs i n r h e l = subst (λ (x : List (Run C)). HasLeft x n) (at_run rs i r h e) l

  pub has_from : (rs : List (Run C)) (i n : ℕ) (r : Run C) → i < length rs → r ≡ get_or rs i r → n ≤ r.count → HasLeft (drop i rs) n
  has_from rs i n r h e l = subst (λ (x : List (Run C)). HasLeft x n) (sym (at_run rs i r h e)) l

  pub is_cursor : (rs : List (Run C)) (i n : ℕ) (r : Run C) → i < length rs → r ≡ get_or rs i r → IsIn (drop i rs) n → n < r.count
  is_cursor rs i n r h e l = subst (λ (x : List (Run C)). IsIn x n) (at_run rs i r h e) l

  pub cursor_from : (rs : List (Run C)) (i n : ℕ) (r : Run C) → i < length rs → r ≡ get_or rs i r → n < r.count → IsIn (drop i rs) n
  cursor_from rs i n r h e l = subst (λ (x : List (Run C)). IsIn x n) (sym (at_run rs i r h e)) l

  pub same_bits : (rs ss : List (Run C)) (i j : ℕ) (r s : Run C) → i < length rs → j < length ss → r ≡ get_or rs i r → s ≡ get_or ss j s → SameBits (drop i rs) (drop j ss) → r.bits ≡ s.bits
  same_bits rs ss i j r s h k e f b =
      let g : SameBits (r ∷ drop (i + 1) rs) (drop j ss) = subst (λ (x : List (Run C)). SameBits x (drop j ss)) (at_run rs i r h e) b in
      subst (λ (x : List (Run C)). SameBits (r ∷ drop (i + 1) rs) x) (at_run ss j s k f) g

  -- the next elements are those of the run
  pub rest_run : (rs : List (Run C)) (at : Cursor) (n : ℕ) (r : Run C) → at.index < length rs → r ≡ get_or rs at.index r → at.used + n ≤ r.count →
      rest rs at ≡ replicate n (element_of r) ++ drop n (rest rs at)
  unfolding rest elements
  rest_run rs at n r h e c =
      let d = at_run rs at.index r h e in
      let u = drop-append-le at.used (replicate r.count (element_of r)) (elements (drop (at.index + 1) rs)) (rw length-replicate (omega arith)) in
      let v : drop at.used (replicate r.count (element_of r)) ≡ replicate (r.count - at.used) (element_of r) = drop-replicate at.used r.count (element_of r) in
      let w : n + (r.count - at.used - n) ≡ r.count - at.used = omega arith in
      let x : replicate (r.count - at.used) (element_of r) ≡ replicate n (element_of r) ++ replicate (r.count - at.used - n) (element_of r) =
      ap (λ (m : ℕ). replicate m (element_of r)) (sym w) ∙ sym (replicate-append-replicate n (r.count - at.used - n) (element_of r)) in
      let f : drop at.used (elements (drop at.index rs)) ≡ replicate n (element_of r) ++ (replicate (r.count - at.used - n) (element_of r) ++ elements (drop (at.index + 1) rs)) =
      ap (λ (l : List (Run C)). drop at.used (elements l)) d ∙ u ∙ ap (λ (l : List (Element C)). l ++ elements (drop (at.index + 1) rs)) (v ∙ x)
      ∙ append_assoc (replicate n (element_of r)) (replicate (r.count - at.used - n) (element_of r)) (elements (drop (at.index + 1) rs)) in
      let g : drop n (drop at.used (elements (drop at.index rs))) ≡ replicate (r.count - at.used - n) (element_of r) ++ elements (drop (at.index + 1) rs) =
      ap (drop n) f ∙ drop_at (replicate n (element_of r)) (replicate (r.count - at.used - n) (element_of r) ++ elements (drop (at.index + 1) rs)) n (length-replicate n (element_of r)) in
      f ∙ ap (λ (l : List (Element C)). replicate n (element_of r) ++ l) (sym g)

  pub bits_same : (rs ss : List (Run C)) (i j : ℕ) (r s : Run C) → i < length rs → j < length ss → r ≡ get_or rs i r → s ≡ get_or ss j s → r.bits ≡ s.bits → SameBits (drop i rs) (drop j ss)
  bits_same rs ss i j r s h k e f b =
      subst (λ (x : List (Run C)). SameBits x (drop j ss)) (sym (at_run rs i r h e)) (subst (λ (x : List (Run C)). SameBits (r ∷ drop (i + 1) rs) x) (sym (at_run ss j s k f)) b)
