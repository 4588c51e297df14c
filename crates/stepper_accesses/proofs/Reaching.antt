-- The first number that passes a test, found among a few.
use Rattle.std.proofs.Common.{true≢false, ◌≡◌, ◌≢◌, ◌⊎◌, inl, inr, ⊎_elim, ℕ, zero, suc, ◌+◌, ◌<◌, ◌≤◌, Bool, true, false, cond, ◌||◌, List, [], ◌∷◌, ◌++◌, take, length, get_or, Option, None, Some, refl, sym, ◌∙◌, ap, subst, arith}
use Rattle.std.specs.Prelude.{find, nat_eq, nat_le}
use Rattle.std.specs.List.{list_any}
use Rattle.std.proofs.lemmas.Bool.Decides.{eqb_tells, leb_tells}
use Rattle.std.proofs.lemmas.List.{take_all, take_more}
use Rattle.c_program.specs.Syntax.{numbers_from}
use Rattle.stepper_accesses.specs.Firsts.{first_of}

-- ---- what a search finds

find_none : (p : ℕ → Bool) (from count : ℕ) → ((n : ℕ) → from ≤ n → n < from + count → p n ≡ false) → find p (numbers_from from count) ≡ None
find_none p from zero none = refl
find_none p from (suc count) none =
    ap (λ t. cond t (Some from) (find p (numbers_from (suc from) count))) (none from (omega arith) (omega arith))
    ∙ find_none p (suc from) count (λ n h k. none n (omega arith) (omega arith))

find_first : (p : ℕ → Bool) (from count n : ℕ) → from ≤ n → n < from + count → p n ≡ true → ((m : ℕ) → from ≤ m → m < n → p m ≡ false) →
    find p (numbers_from from count) ≡ Some n
find_first p from zero n h k passes fails = absurd (omega arith)
find_first p from (suc count) n h k passes fails =
    ⊎_elim
    (λ e. ap (λ t. cond t (Some from) (find p (numbers_from (suc from) count))) (ap p e.1 ∙ passes) ∙ ap Some e.1)
    (λ e. let d = e.1 in
    ap (λ t. cond t (Some from) (find p (numbers_from (suc from) count))) (fails from (omega arith) (omega arith))
    ∙ find_first p (suc from) count n (omega arith) (omega arith) passes (λ m i j. fails m (omega arith) (omega arith)))
    (eqb_tells from n)

-- ---- the least of a few

abbrev pub among : List ℕ → ℕ → Bool
among listed n = list_any (λ y. nat_eq y n) listed

pub record LeastOf (p : ℕ → Bool) (count : ℕ) (listed : List ℕ) (n : ℕ) : Type 0 where
  pub below : n < count
  pub passes : p n ≡ true
  pub least : (m : ℕ) → among listed m ≡ true → m < n → p m ≡ false

-- what is found is the least of those that pass, and nothing where none passes
abbrev pub IsLeast : (ℕ → Bool) → ℕ → List ℕ → Option ℕ → Type 0
IsLeast p count listed None = (n : ℕ) → among listed n ≡ true → n < count → p n ≡ false
IsLeast p count listed (Some n) = LeastOf p count listed n

among_more : (listed : List ℕ) (b n : ℕ) → among (listed ++ b ∷ []) n ≡ true → (among listed n ≡ true) ⊎ (b ≡ n)
among_more [] b n e = ⊎_elim (λ h. inr h.1) (λ h. absurd (true≢false (sym e ∙ ap (λ t. t || false) h.0))) (eqb_tells b n)
among_more (x ∷ listed) b n e = by (nat_eq x n) refl (among_more listed b n)
  where
    by : (t : Bool) → nat_eq x n ≡ t → (among (listed ++ b ∷ []) n ≡ true → (among listed n ≡ true) ⊎ (b ≡ n)) → (among (x ∷ listed) n ≡ true) ⊎ (b ≡ n)
    by true h rest = inl (ap (λ t. t || among listed n) h)
    by false h rest =
        ⊎_elim (λ k. inl (ap (λ t. t || among listed n) h ∙ k)) (λ k. inr k) (rest (sym (ap (λ t. t || among (listed ++ b ∷ []) n) h) ∙ e))

module _ (p : ℕ → Bool) (count : ℕ) where
  pub least_of_none : IsLeast p count [] None
  least_of_none n e h = absurd (true≢false (sym e))

  passed_over : (listed : List ℕ) (b : ℕ) (found : Option ℕ) → (b < count → p b ≡ false) → IsLeast p count listed found → IsLeast p count (listed ++ b ∷ []) found
  passed_over listed b None fails inv = λ n e h. ⊎_elim (λ k. inv n k h) (λ k. ap p (sym k) ∙ fails (omega (arith, k))) (among_more listed b n e)
  passed_over listed b (Some n) fails inv = record {
    below = inv.below;
    passes = inv.passes;
    least = λ m e h. ⊎_elim (λ k. inv.least m k h) (λ k. let low = inv.below in ap p (sym k) ∙ fails (omega (arith, k))) (among_more listed b m e);
  }

  taken : (listed : List ℕ) (b : ℕ) (found : Option ℕ) → b < count → p b ≡ true → IsLeast p count listed found → IsLeast p count (listed ++ b ∷ []) (first_of found b)
  taken listed b None low ok inv = record {
    below = low;
    passes = ok;
    least = λ m e h. ⊎_elim (λ k. inv m k (omega arith)) (λ k. absurd (omega (arith, k))) (among_more listed b m e);
  }
  taken listed b (Some n) low ok inv = ⊎_elim before behind (leb_tells n b)
    where
      before : (nat_le n b ≡ true) × (n ≤ b) → IsLeast p count (listed ++ b ∷ []) (cond (nat_le n b) (Some n) (Some b))
      before h = subst (λ t. IsLeast p count (listed ++ b ∷ []) (cond t (Some n) (Some b))) (sym h.0) (record {
        below = inv.below;
        passes = inv.passes;
        least = λ m e k. let ord = h.1 in ⊎_elim (λ j. inv.least m j k) (λ j. absurd (omega (arith, j))) (among_more listed b m e);
      })

      behind : (nat_le n b ≡ false) × (b < n) → IsLeast p count (listed ++ b ∷ []) (cond (nat_le n b) (Some n) (Some b))
      behind h = subst (λ t. IsLeast p count (listed ++ b ∷ []) (cond t (Some n) (Some b))) (sym h.0) (record {
        below = low;
        passes = ok;
        least = λ m e k. let ord = h.1 in ⊎_elim (λ j. inv.least m j (omega arith)) (λ j. absurd (omega (arith, j))) (among_more listed b m e);
      })

  pub least_passes : (bs : List ℕ) (i b : ℕ) (found : Option ℕ) → i < length bs → b ≡ get_or bs i 0 → b < count → p b ≡ true → IsLeast p count (take i bs) found →
      IsLeast p count (take (i + 1) bs) (first_of found b)
  least_passes bs i b found h e low passes inv = subst (λ l. IsLeast p count l (first_of found b)) (sym (take_more bs i 0 h ∙ ap (λ x. take i bs ++ x ∷ []) (sym e))) (taken (take i bs) b found low passes inv)

  pub least_stays : (bs : List ℕ) (i b : ℕ) (found : Option ℕ) → i < length bs → b ≡ get_or bs i 0 → (b < count → p b ≡ false) → IsLeast p count (take i bs) found →
      IsLeast p count (take (i + 1) bs) found
  least_stays bs i b found h e fails inv = subst (λ l. IsLeast p count l found) (sym (take_more bs i 0 h ∙ ap (λ x. take i bs ++ x ∷ []) (sym e))) (passed_over (take i bs) b found fails inv)

  -- only what is listed may pass
  either : (listed : List ℕ) → ((n : ℕ) → among listed n ≡ false → p n ≡ false) → (n : ℕ) → (among listed n ≡ true → p n ≡ false) → p n ≡ false
  either listed others n h = by (among listed n) refl
    where
      by : (t : Bool) → among listed n ≡ t → p n ≡ false
      by true e = h e
      by false e = others n e

  pub found_is : (listed : List ℕ) → ((n : ℕ) → among listed n ≡ false → p n ≡ false) → (found : Option ℕ) → IsLeast p count listed found →
      found ≡ find p (numbers_from 0 count)
  found_is listed others None inv = sym (find_none p 0 count (λ n h k. either listed others n (λ e. inv n e (omega arith))))
  found_is listed others (Some n) inv =
      let low = inv.below in
      sym (find_first p 0 count n (omega arith) (omega arith) inv.passes (λ m h k. either listed others m (λ e. inv.least m e k)))

pub least_done : (p : ℕ → Bool) (count : ℕ) (bs : List ℕ) (i : ℕ) (found : Option ℕ) → length bs ≤ i → IsLeast p count (take i bs) found → IsLeast p count bs found
least_done p count bs i found h inv = subst (λ l. IsLeast p count l found) (take_all i bs h) inv
