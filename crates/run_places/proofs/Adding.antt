-- Runs that are added again and again.
use Rattle.std.proofs.Common.{◌≡◌, ℕ, zero, suc, ◌+◌, ◌-◌, ◌*◌, ◌<◌, ◌≤◌, List, [], ◌∷◌, ◌++◌, length, refl, sym, ap, ◌∙◌, arith, append-nil, append_assoc, get_or}
use Rattle.std.specs.Prelude.{replicate}
use Rattle.std.proofs.lemmas.List.{drop_all, replicate-append-replicate}
use Rattle.cell_runs.specs.declared.runs.Run.{Run}
use Rattle.cell_runs.specs.Runs.{element_of, elements, Extends}
use Rattle.cell_runs.proofs.Pushing.{elements-one, extends-both, extends-along, extends-none}
use Rattle.cell_runs.proofs.Taking.{at_run}
use Rattle.run_places.specs.Chunks.{times}

module _ {A : Type 0} where
  pub times_more : (n : ℕ) (l : List A) → times n l ++ l ≡ times (suc n) l
  unfolding times
  times_more zero l = sym (append-nil l)
  times_more (suc n) l = append_assoc l (times n l) l ∙ ap (λ (x : List A). l ++ x) (times_more n l)

  pub times_none : (l : List A) → times 0 l ≡ []
  unfolding times
  times_none l = refl

  pub times-replicate : (n c : ℕ) (e : A) → times n (replicate c e) ≡ replicate (c * n) e
  unfolding times
  times-replicate zero c e = let z : c * zero ≡ zero = omega arith in ap (λ (m : ℕ). replicate m e) (sym z)
  times-replicate (suc n) c e =
      let z : c + c * n ≡ c * suc n = omega arith in
      ap (λ (l : List A). replicate c e ++ l) (times-replicate n c e) ∙ replicate-append-replicate c (c * n) e ∙ ap (λ (m : ℕ). replicate m e) z

-- all but `left` of the copies have been added
pub record AddsOn {C : Type 0} (rs : List (Run C)) (count left : ℕ) (old out : List (Run C)) : Type 0 where
  pub extends : Extends old out (times (count - left) (elements rs))
  pub some : left ≤ count

module _ {C : Type 0} where
  pub add_begin : (rs old : List (Run C)) (count : ℕ) → AddsOn rs count count old old
  add_begin rs old count =
      let z : 0 ≡ count - count = omega arith in
      record { extends = extends-along old old _ _ (sym (times_none (elements rs)) ∙ ap (λ (n : ℕ). times n (elements rs)) z) (extends-none old); some = omega arith }

  pub add_step : (rs old mid new : List (Run C)) (count left : ℕ) → 0 < left → Extends mid new (elements rs) → AddsOn rs count left old mid → AddsOn rs count (left - 1) old new
  add_step rs old mid new count left h x p =
      let s = p.some in
      let n : suc (count - left) ≡ count - (left - 1) = omega arith in
      record {
        extends = extends-along old new _ _ (times_more (count - left) (elements rs) ∙ ap (λ (m : ℕ). times m (elements rs)) n)
            (extends-both old mid new (times (count - left) (elements rs)) (elements rs) p.extends x);
        some = omega arith;
      }

  pub add_end : (rs old out : List (Run C)) (count left : ℕ) → left ≡ 0 → AddsOn rs count left old out → Extends old out (times count (elements rs))
  add_end rs old out count left z p =
      let n : count - left ≡ count = omega arith in
      extends-along old out _ _ (ap (λ (m : ℕ). times m (elements rs)) n) p.extends

  pub one_run : (rs : List (Run C)) (r : Run C) (count all : ℕ) (old new : List (Run C)) → length rs ≡ 1 → r ≡ get_or rs 0 r → all ≡ r.count * count → Extends old new (replicate all (element_of r)) →
      Extends old new (times count (elements rs))
  one_run rs r count all old new n e m x =
      let g : rs ≡ r ∷ [] = at_run rs 0 r (omega arith) e ∙ ap (λ (l : List (Run C)). r ∷ l) (drop_all 1 rs (omega arith)) in
      let f : times count (elements rs) ≡ replicate all (element_of r) =
      ap (λ (l : List (Run C)). times count (elements l)) g ∙ ap (times count) (elements-one r) ∙ times-replicate count r.count (element_of r) ∙ ap (λ (k : ℕ). replicate k (element_of r)) (sym m) in
      extends-along old new _ _ (sym f) x
