-- Runs that allow one content alone, run by run.
use Rattle.std.proofs.Common.{◌≡◌, ℕ, zero, suc, ◌+◌, ◌<◌, ◌≤◌, Bool, true, false, ◌&&◌, List, [], ◌++◌, length, drop, refl, sym, ap, ◌∙◌, arith, get_or}
use Rattle.std.specs.Prelude.{replicate}
use Rattle.std.specs.List.{list_all}
use Rattle.cell_laws.specs.Elements.{Element}
use Rattle.cell_runs.specs.declared.runs.Run.{Run}
use Rattle.cell_runs.specs.Runs.{element_of, elements, AllSome}
use Rattle.cell_runs.proofs.Taking.{at_run, elements-first, elements-none, none_past, some_at}
use Rattle.run_places.proofs.Passing.{all_append}
use Rattle.run_orders.specs.Singles.{all_single}

module _ {C : Type 0} (single : ℕ → C → Bool) where
  singles-append : (xs ys : List (Element C)) → all_single single (xs ++ ys) ≡ (all_single single xs && all_single single ys)
  unfolding all_single
  singles-append xs ys = all_append (λ (e : Element C). single e.bits e.cell) xs ys

  many_single : (n : ℕ) (e : Element C) → single e.bits e.cell ≡ true → all_single single (replicate n e) ≡ true
  unfolding all_single
  many_single zero e h = refl
  many_single (suc n) e h = ap (λ (b : Bool). b && list_all (λ (x : Element C). single x.bits x.cell) (replicate n e)) h ∙ many_single n e h

  not_single : (n : ℕ) (e : Element C) → 0 < n → single e.bits e.cell ≡ false → all_single single (replicate n e) ≡ false
  unfolding all_single
  not_single zero e p h = absurd (omega arith)
  not_single (suc n) e p h = ap (λ (b : Bool). b && list_all (λ (x : Element C). single x.bits x.cell) (replicate n e)) h

  from_run : (rs : List (Run C)) (i : ℕ) (r : Run C) → i < length rs → r ≡ get_or rs i r →
      all_single single (elements (drop i rs)) ≡ (all_single single (replicate r.count (element_of r)) && all_single single (elements (drop (i + 1) rs)))
  from_run rs i r h e =
      ap (all_single single) (ap elements (at_run rs i r h e) ∙ elements-first r (drop (i + 1) rs)) ∙ singles-append (replicate r.count (element_of r)) (elements (drop (i + 1) rs))

  pub single_step : (rs : List (Run C)) (i : ℕ) (r : Run C) → i < length rs → r ≡ get_or rs i r → single r.bits r.cell ≡ true → all_single single (elements (drop i rs)) ≡ all_single single (elements rs) →
      all_single single (elements (drop (i + 1) rs)) ≡ all_single single (elements rs)
  single_step rs i r h e s p =
      sym (from_run rs i r h e ∙ ap (λ (b : Bool). b && all_single single (elements (drop (i + 1) rs))) (many_single r.count (element_of r) s)) ∙ p

  pub single_stop : (rs : List (Run C)) (i : ℕ) (r : Run C) → AllSome rs → i < length rs → r ≡ get_or rs i r → single r.bits r.cell ≡ false → all_single single (elements (drop i rs)) ≡ all_single single (elements rs) →
      false ≡ all_single single (elements rs)
  single_stop rs i r a h e s p =
      sym (from_run rs i r h e ∙ ap (λ (b : Bool). b && all_single single (elements (drop (i + 1) rs))) (not_single r.count (element_of r) (some_at rs i r h e a).1 s)) ∙ p

  pub single_end : (rs : List (Run C)) (i : ℕ) → length rs ≤ i → all_single single (elements (drop i rs)) ≡ all_single single (elements rs) → true ≡ all_single single (elements rs)
  unfolding all_single
  single_end rs i h p =
      let z : elements (drop i rs) ≡ [] = ap elements (none_past rs i h) ∙ elements-none C in
      sym (ap (list_all (λ (x : Element C). single x.bits x.cell)) z) ∙ p
