-- Turns of slots so far.
use Rattle.std.proofs.Common.{◌≡◌, ℕ, zero, suc, ◌+◌, ◌-◌, ◌*◌, ◌/◌, ◌<◌, ◌≤◌, List, [], ◌++◌, map, ℤ, refl, sym, ap, ◌∙◌, subst, arith}
use Rattle.std.specs.Prelude.{None, Some}
use Rattle.std.proofs.lemmas.Bool.{lt-ltb, le-ltb}
use Rattle.arrayvec.specs.ArrayVec.{ArrayVec}
use Rattle.cell_laws.specs.Elements.{Element, width, AllFine}
use Rattle.cell_laws.specs.Cells.{Ops}
use Rattle.cell_laws.specs.Laws.{FineLaws, OrderLaws, JoinLaws, PartLaws}
use Rattle.cell_laws.specs.Access.{put, loaded, loaded_all, weakened, AllWithin}
use Rattle.cell_runs.specs.declared.runs.Run.{Run}
use Rattle.ival_core.specs.declared.value.Progression.{Progression}
use Rattle.ival_core.specs.declared.value.Shape.{Shape}
use Rattle.ival_core.specs.declared.value.Shape.TheVariants.{Few, Many}
use Rattle.ival_core.specs.Sets.{Among}
use Rattle.ival_core.specs.Views.{single_of}
use Rattle.run_slots.specs.Offsets.{steps_from}
use Rattle.run_slots.specs.Repeats.{told_once}
use Rattle.run_slots.specs.Slots.{slots_weakened}
use Rattle.run_slots.proofs.Widths.{weakened_width, weakened_fine}
use Rattle.run_slots.proofs.Representing.{within_steps}
use Rattle.map_accesses.specs.Accesses.{bit_at, Fits, more_in, loaded_among, loaded_or, loaded_at, turns, after_turns, weakened_by, weakened_at}
use Rattle.map_accesses.proofs.Fitting.{TurnsFit, turns_fit, turn_inside, few_within}

-- what the map is after n turns
pub record Turned {C H : Type 0} (o : Ops C H) (m : List (Element C)) (k first step more : ℕ) (es : List (Element C)) (n : ℕ) (now : List (Element C)) : Type 0 where
  pub same : now ≡ after_turns o m k first step more es n
  pub wide : width now ≡ width m
  pub begun : 0 < n
  pub most : n ≤ turns k step

module _ {C H : Type 0} (o : Ops C H) (Fine : ℕ → C → Type 0) (nl : FineLaws o Fine) (ol : OrderLaws o Fine) (jl : JoinLaws o Fine) (pl : PartLaws o Fine)
    (m : List (Element C)) (k first step more : ℕ) (es : List (Element C)) (g : AllFine Fine es) (w : width es ≡ k) (fit : TurnsFit k step) (h : first + more * step + k ≤ width m) where
  pub after_turn : (n : ℕ) (now next : List (Element C)) (t gap : ℕ) → n ≤ more → t ≡ turns k step → gap ≡ t * step - k → AllFine Fine now → width now ≡ width m → now ≡ after_turns o m k first step more es n →
      next ≡ slots_weakened o now (first + n * step) k gap ((more - n) / t) es → n < turns k step → Turned o m k first step more es (n + 1) next
  unfolding after_turns
  after_turn n now next t gap l et eg f v e d r =
      let s : suc n ≡ n + 1 = omega arith in
      let gap_is : gap ≡ turns k step * step - k = eg ∙ ap (λ (x : ℕ). x * step - k) et in
      let inside = turn_inside first step more (turns k step) n k (width now) fit.some l (omega arith) fit.wide in
      let d2 : next ≡ slots_weakened o now (first + n * step) k (turns k step * step - k) ((more - n) / turns k step) es =
      d ∙ ap (λ (x : ℕ). slots_weakened o now (first + n * step) k x ((more - n) / t) es) gap_is
      ∙ ap (λ (x : ℕ). slots_weakened o now (first + n * step) k (turns k step * step - k) ((more - n) / x) es) et in
      let wide : width next ≡ width m = ap width d2 ∙ weakened_width o Fine nl ol jl pl now es k (turns k step * step - k) f g w (first + n * step) ((more - n) / turns k step) inside ∙ v in
      let same : next ≡ after_turns o m k first step more es (suc n) =
      d2 ∙ ap (λ (x : List (Element C)). slots_weakened o x (first + n * step) k (turns k step * step - k) ((more - n) / turns k step) es) e in
      record { same = same ∙ ap (after_turns o m k first step more es) s; wide = wide; begun = omega arith; most = omega arith }

  pub no_turn : m ≡ after_turns o m k first step more es 0
  unfolding after_turns
  no_turn = refl

  pub first_turn : (next : List (Element C)) (t gap : ℕ) → t ≡ turns k step → gap ≡ t * step - k → AllFine Fine m → next ≡ slots_weakened o m first k gap (more / t) es → Turned o m k first step more es 1 next
  first_turn next t gap et eg f d =
      let z : more - 0 ≡ more = omega arith in
      let u : first + 0 * step ≡ first = omega arith in
      let p = fit.some in
      let e : next ≡ slots_weakened o m (first + 0 * step) k gap ((more - 0) / t) es =
      d ∙ ap (λ (x : ℕ). slots_weakened o m x k gap (more / t) es) (sym u) ∙ ap (λ (x : ℕ). slots_weakened o m (first + 0 * step) k gap (x / t) es) (sym z) in
      let one : 0 + 1 ≡ 1 = omega arith in
      subst (λ (n : ℕ). Turned o m k first step more es n next) one (after_turn 0 m next t gap (omega arith) et eg f refl no_turn e p)

module _ {C H : Type 0} (o : Ops C H) where
  pub all_turns : (m now : List (Element C)) (k first step more t n : ℕ) (es : List (Element C)) → t ≡ turns k step → t ≤ n → Turned o m k first step more es n now → now ≡ after_turns o m k first step more es (turns k step)
  all_turns m now k first step more t n es e l r =
      let a = r.most in
      let d : n ≡ turns k step = omega arith in
      r.same ∙ ap (after_turns o m k first step more es) d

  pub by_turns : (m : List (Element C)) (unit k first step more : ℕ) (p : Progression) (c : C) → first ≡ bit_at unit p.low → step ≡ unit * p.stride → more ≡ more_in p → 200 ≤ more →
      after_turns o m k first step more (put o k c) (turns k step) ≡ weakened_by o m unit k p c
  unfolding weakened_by
  by_turns m unit k first step more p c a b d h =
      let l = le-ltb (more_in p) 200 (omega arith) in
      ap (λ (x : ℕ). after_turns o m k x step more (put o k c) (turns k step)) a
      ∙ ap (λ (x : ℕ). after_turns o m k (bit_at unit p.low) x more (put o k c) (turns k x)) b
      ∙ ap (λ (x : ℕ). after_turns o m k (bit_at unit p.low) (unit * p.stride) x (put o k c) (turns k (unit * p.stride))) d
      ∙ (rw l refl)

  pub by_each : (m : List (Element C)) (unit k first step more : ℕ) (p : Progression) (c : C) (slice now old : List ℕ) → first ≡ bit_at unit p.low → step ≡ unit * p.stride → more ≡ more_in p → more < 200 →
      slice ≡ now → now ≡ old ++ steps_from first step (more + 1) → old ≡ [] → weakened o m slice k c ≡ weakened_by o m unit k p c
  unfolding weakened_by
  by_each m unit k first step more p c slice now old a b d h e f z =
      let l = lt-ltb (more_in p) 200 (omega arith) in
      let i : more + 1 ≡ suc more = omega arith in
      ap (λ (x : List ℕ). weakened o m x k c)
      (e ∙ f ∙ ap (λ (x : List ℕ). x ++ steps_from first step (more + 1)) z ∙ ap (steps_from first step) i ∙ ap (λ (x : ℕ). steps_from x step (suc more)) a
      ∙ ap (λ (x : ℕ). steps_from (bit_at unit p.low) x (suc more)) b ∙ ap (λ (x : ℕ). steps_from (bit_at unit p.low) (unit * p.stride) (suc x)) d)
      ∙ (rw l refl)

  pub each_within : (k w first step n : ℕ) (slice now old : List ℕ) → slice ≡ now → now ≡ old ++ steps_from first step n → old ≡ [] → first + (n - 1) * step + k ≤ w → AllWithin k w slice
  each_within k w first step n slice now old e f z h =
      subst (AllWithin k w) (sym (e ∙ f ∙ ap (λ (x : List ℕ). x ++ steps_from first step n) z)) (within_steps n k w first step h)

  -- ---- what code loads and stores at the numbers of a set

  pub few_offsets : (unit k w : ℕ) (xs : List ℤ) (slice offsets : List ℕ) → slice ≡ offsets → offsets ≡ map (bit_at unit) xs → ((z : ℤ) → Among xs z → Fits unit k w z) → AllWithin k w slice
  few_offsets unit k w xs slice offsets e f h = subst (AllWithin k w) (sym (e ∙ f)) (few_within unit k w xs h)

  pub loads_few : (m : List (Element C)) (unit : ℕ) (rs : List (Run C)) (k : ℕ) (s now : Shape) (v : ArrayVec ℤ) (xs : List ℤ) (slice offsets : List ℕ) → now ≡ s → now ≡ Few v → xs ≡ v.items → slice ≡ offsets → offsets ≡ map (bit_at unit) xs →
      loaded_all o m slice k ≡ loaded_among o m unit rs k s
  unfolding loaded_among
  loads_few m unit rs k s now v xs slice offsets e f g h i =
      ap (λ (x : List ℕ). loaded_all o m x k) (h ∙ i ∙ ap (map (bit_at unit)) g) ∙ ap (loaded_among o m unit rs k) (sym f ∙ e)

  pub loads_run : (m : List (Element C)) (unit : ℕ) (rs : List (Run C)) (k first step more : ℕ) (s now : Shape) (p : Progression) → now ≡ s → now ≡ Many p → first ≡ bit_at unit p.low → step ≡ unit * p.stride → more ≡ more_in p →
      loaded_all o m (told_once rs k first step (suc more)) k ≡ loaded_among o m unit rs k s
  unfolding loaded_among
  loads_run m unit rs k first step more s now p e f a b d =
      ap (λ (x : List ℕ). loaded_all o m x k)
      (ap (λ (x : ℕ). told_once rs k x step (suc more)) a ∙ ap (λ (x : ℕ). told_once rs k (bit_at unit p.low) x (suc more)) b ∙ ap (λ (x : ℕ). told_once rs k (bit_at unit p.low) (unit * p.stride) (suc x)) d)
      ∙ ap (loaded_among o m unit rs k) (sym f ∙ e)

  pub loads_none : (m : List (Element C)) (unit : ℕ) (rs : List (Run C)) (k : ℕ) (s : Shape) → single_of s ≡ None → loaded_among o m unit rs k s ≡ loaded_at o m unit rs k s
  unfolding loaded_at loaded_or
  loads_none m unit rs k s e = sym (ap (loaded_or o m unit (loaded_among o m unit rs k s) k) e)

  pub loads_one : (m : List (Element C)) (unit : ℕ) (rs : List (Run C)) (k n : ℕ) (s : Shape) (z : ℤ) → single_of s ≡ Some z → n ≡ bit_at unit z → loaded o m n k ≡ loaded_at o m unit rs k s
  unfolding loaded_at loaded_or
  loads_one m unit rs k n s z e f = ap (λ (x : ℕ). loaded o m x k) f ∙ sym (ap (loaded_or o m unit (loaded_among o m unit rs k s) k) e)

  pub stores_few : (m : List (Element C)) (unit k : ℕ) (c : C) (s now : Shape) (v : ArrayVec ℤ) (xs : List ℤ) (slice offsets : List ℕ) → now ≡ s → now ≡ Few v → xs ≡ v.items → slice ≡ offsets → offsets ≡ map (bit_at unit) xs →
      weakened o m slice k c ≡ weakened_at o m unit k s c
  unfolding weakened_at
  stores_few m unit k c s now v xs slice offsets e f g h i =
      ap (λ (x : List ℕ). weakened o m x k c) (h ∙ i ∙ ap (map (bit_at unit)) g) ∙ ap (λ (t : Shape). weakened_at o m unit k t c) (sym f ∙ e)

  pub stores_run : (m : List (Element C)) (unit k : ℕ) (c : C) (s now : Shape) (p : Progression) → now ≡ s → now ≡ Many p → weakened_by o m unit k p c ≡ weakened_at o m unit k s c
  unfolding weakened_at
  stores_run m unit k c s now p e f = ap (λ (t : Shape). weakened_at o m unit k t c) (sym f ∙ e)
