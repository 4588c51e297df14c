-- What is left of runs, run by run.
use Rattle.std.proofs.Common.{◌≡◌, ℕ, zero, suc, ◌+◌, ◌*◌, ◌<◌, ◌≤◌, true, false, List, [], ◌∷◌, ◌++◌, length, take, refl, sym, ap, ◌∙◌, subst, arith, append_assoc, get_or, inl, inr}
use Rattle.std.specs.Prelude.{replicate}
use Rattle.std.proofs.lemmas.List.{take_more, take_all, replicate-append-replicate}
use Rattle.std.proofs.lemmas.Bool.{cases_Bool}
use Rattle.cell_laws.specs.Elements.{Element, width, AllFine}
use Rattle.cell_laws.specs.Cells.{Ops}
use Rattle.cell_laws.specs.Access.{filled}
use Rattle.cell_laws.proofs.Cuts.{width-append}
use Rattle.cell_laws.proofs.Joins.{AllFine-append}
use Rattle.cell_laws.proofs.Stretches.{width-replicate}
use Rattle.cell_runs.specs.declared.runs.Run.{Run}
use Rattle.cell_runs.specs.Runs.{element_of, elements, Extends}
use Rattle.cell_runs.proofs.Pushing.{elements-append, elements-one, extends-both, extends-along, extends-none}
use Rattle.cell_runs.proofs.Taking.{elements-none}
use Rattle.run_orders.specs.Deaths.{left_all, LeftLaws}

module _ {C H : Type 0} (o : Ops C H) where
  pub filled_blank : (k : ℕ) (c : C) → o.blank c ≡ true → filled o k c ≡ replicate k (record { bits = 1; cell = c })
  unfolding filled
  filled_blank k c b = rw b refl

  pub filled_whole : (k : ℕ) (c : C) → o.blank c ≡ false → filled o k c ≡ record { bits = k; cell = c } ∷ []
  unfolding filled
  filled_whole k c b = rw b refl

  pub width-filled : (k : ℕ) (c : C) → width (filled o k c) ≡ k
  unfolding width
  width-filled k c =
      elim (cases_Bool (o.blank c)) [
        | inl b ↦
            let w = width-replicate k (record { bits = 1; cell = c }) in
            let one : k * 1 ≡ k = omega arith in
            ap width (filled_blank k c b) ∙ w ∙ one
        | inr b ↦ let e : k + 0 ≡ k = omega arith in ap width (filled_whole k c b) ∙ e
      ]

module _ {C H : Type 0} (o : Ops C H) (left : C → C) where
  pub left-append : (xs ys : List (Element C)) → left_all o left (xs ++ ys) ≡ left_all o left xs ++ left_all o left ys
  unfolding left_all
  left-append [] ys = refl
  left-append (x ∷ xs) ys =
      ap (λ (l : List (Element C)). filled o x.bits (left x.cell) ++ l) (left-append xs ys) ∙ sym (append_assoc (filled o x.bits (left x.cell)) (left_all o left xs) (left_all o left ys))

  pub left_width : (es : List (Element C)) → width (left_all o left es) ≡ width es
  unfolding left_all width
  left_width [] = refl
  left_width (e ∷ es) =
      let a = width-append (filled o e.bits (left e.cell)) (left_all o left es) in
      let f = width-filled o e.bits (left e.cell) in
      let r = left_width es in
      omega arith

  left_blanks : (n : ℕ) (e : Element C) (d : C) → d ≡ left e.cell → o.blank d ≡ true → left_all o left (replicate n e) ≡ replicate (e.bits * n) (record { bits = 1; cell = d })
  unfolding left_all
  left_blanks zero e d i b = let z : e.bits * zero ≡ zero = omega arith in ap (λ (m : ℕ). replicate m (record { bits = 1; cell = d })) (sym z)
  left_blanks (suc n) e d i b =
      let z : e.bits + e.bits * n ≡ e.bits * suc n = omega arith in
      let f : filled o e.bits (left e.cell) ≡ replicate e.bits (record { bits = 1; cell = d }) = ap (filled o e.bits) (sym i) ∙ filled_blank o e.bits d b in
      ap (λ (l : List (Element C)). filled o e.bits (left e.cell) ++ l) (left_blanks n e d i b)
      ∙ ap (λ (l : List (Element C)). l ++ replicate (e.bits * n) (record { bits = 1; cell = d })) f
      ∙ replicate-append-replicate e.bits (e.bits * n) (record { bits = 1; cell = d }) ∙ ap (λ (m : ℕ). replicate m (record { bits = 1; cell = d })) z

  left_wholes : (n : ℕ) (e : Element C) (d : C) → d ≡ left e.cell → o.blank d ≡ false → left_all o left (replicate n e) ≡ replicate n (record { bits = e.bits; cell = d })
  unfolding left_all
  left_wholes zero e d i b = refl
  left_wholes (suc n) e d i b =
      let f : filled o e.bits (left e.cell) ≡ record { bits = e.bits; cell = d } ∷ [] = ap (filled o e.bits) (sym i) ∙ filled_whole o e.bits d b in
      ap (λ (l : List (Element C)). filled o e.bits (left e.cell) ++ l) (left_wholes n e d i b)
      ∙ ap (λ (l : List (Element C)). l ++ replicate n (record { bits = e.bits; cell = d })) f

  pub run_blank : (r : Run C) (d : C) (old new : List (Run C)) → d ≡ left r.cell → o.blank d ≡ true → Extends old new (replicate (r.bits * r.count) (record { bits = 1; cell = d })) →
      Extends old new (left_all o left (replicate r.count (element_of r)))
  run_blank r d old new i b x = extends-along old new _ _ (sym (left_blanks r.count (element_of r) d i b)) x

  pub run_whole : (r : Run C) (d : C) (old new : List (Run C)) → d ≡ left r.cell → o.blank d ≡ false → Extends old new (replicate r.count (record { bits = r.bits; cell = d })) →
      Extends old new (left_all o left (replicate r.count (element_of r)))
  run_whole r d old new i b x = extends-along old new _ _ (sym (left_wholes r.count (element_of r) d i b)) x

  no_left : left_all o left [] ≡ []
  unfolding left_all
  no_left = refl

  pub leave_begin : (rs old : List (Run C)) → Extends old old (left_all o left (elements (take 0 rs)))
  leave_begin rs old = extends-along old old _ _ (sym (ap (left_all o left) (elements-none C) ∙ no_left)) (extends-none old)

  pub leave_step : (rs : List (Run C)) (i : ℕ) (r : Run C) (old mid new : List (Run C)) → i < length rs → r ≡ get_or rs i r → Extends mid new (left_all o left (replicate r.count (element_of r))) →
      Extends old mid (left_all o left (elements (take i rs))) → Extends old new (left_all o left (elements (take (i + 1) rs)))
  leave_step rs i r old mid new h e x p =
      let g : elements (take (i + 1) rs) ≡ elements (take i rs) ++ replicate r.count (element_of r) =
      ap elements (take_more rs i r h ∙ ap (λ (y : Run C). take i rs ++ y ∷ []) (sym e)) ∙ elements-append (take i rs) (r ∷ []) ∙ ap (λ (y : List (Element C)). elements (take i rs) ++ y) (elements-one r) in
      extends-along old new _ _ (sym (ap (left_all o left) g ∙ left-append (elements (take i rs)) (replicate r.count (element_of r))))
      (extends-both old mid new _ _ p x)

  pub leave_end : (rs : List (Run C)) (i : ℕ) (old new : List (Run C)) → length rs ≤ i → Extends old new (left_all o left (elements (take i rs))) → Extends old new (left_all o left (elements rs))
  leave_end rs i old new h x = extends-along old new _ _ (ap (λ (l : List (Run C)). left_all o left (elements l)) (take_all i rs h)) x

module _ {C H : Type 0} (o : Ops C H) (Fine : ℕ → C → Type 0) (left : C → C) (l : LeftLaws o Fine left) where
  fine_ones : (k : ℕ) (c : C) → Fine 1 c → AllFine Fine (replicate k (record { bits = 1; cell = c }))
  fine_ones zero c f = tt
  fine_ones (suc k) c f = (f, fine_ones k c f)

  fine_one : (k : ℕ) (c : C) → Fine k c → AllFine Fine (filled o k (left c))
  fine_one k c f =
      elim (cases_Bool (o.blank (left c))) [
        | inl b ↦ subst (AllFine Fine) (sym (filled_blank o k (left c) b)) (fine_ones k (left c) (l.left_blank k c f b))
        | inr b ↦ subst (AllFine Fine) (sym (filled_whole o k (left c) b)) (l.left_fine k c f b, tt)
      ]

  pub left_are_fine : (es : List (Element C)) → AllFine Fine es → AllFine Fine (left_all o left es)
  unfolding left_all
  left_are_fine [] f = tt
  left_are_fine (e ∷ es) f = AllFine-append Fine (filled o e.bits (left e.cell)) (left_all o left es) (fine_one e.bits e.cell f.0) (left_are_fine es f.1)
