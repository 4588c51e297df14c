-- What loads and weak stores at the numbers of a set mean.
use Rattle.std.proofs.Common.{◌≡◌, ℕ, zero, suc, ◌+◌, ◌-◌, ◌*◌, ◌/◌, ◌%◌, ◌<◌, ◌≤◌, List, [], ◌∷◌, ◌++◌, map, length, take, drop, Bool, ℤ, pos, ◌+ℤ◌, refl, sym, ap, ◌∙◌, subst, arith, inl, inr}
use Rattle.std.specs.Prelude.{◌⊎◌, unsigned_abs, nat_lt, Option, None, Some}
use Rattle.std.proofs.lemmas.Bool.{cases_Bool, cases_lt, ltb-true, ltb-false}
use Rattle.std.proofs.lemmas.Int.{ints}
use Rattle.std.proofs.Math.Nat.{mul-le-mul_right, mul_assoc, mul_comm, mul-add, div-mul_cancel}
use lib.Signed.{◌≤ℤ◌}
use Rattle.cell_laws.specs.Elements.{Element, width, AllFine}
use Rattle.cell_laws.specs.Cells.{Ops}
use Rattle.cell_laws.specs.Laws.{FineLaws, OrderLaws, JoinLaws, MeaningLaws, PartLaws, AccessLaws}
use Rattle.cell_laws.specs.Meaning.{Describes}
use Rattle.cell_laws.specs.Access.{put, loaded, loaded_all, weakened, IsSize, AllWithin}
use Rattle.cell_laws.proofs.Accesses.{Among as AmongOffsets, width-put, fine_put, loaded_gives, loaded_all_gives, weakened_old, weakened_new, weakened_width, weakened_fine}
use Rattle.cell_runs.specs.declared.runs.Run.{Run}
use Rattle.cell_runs.specs.Runs.{elements, AllSome}
use Rattle.cell_runs.proofs.Portions.{divides}
use Rattle.ival_core.specs.declared.value.Progression.{Progression}
use Rattle.ival_core.specs.declared.value.Shape.{Shape}
use Rattle.ival_core.specs.declared.value.Shape.TheVariants.{Few, Many}
use Rattle.ival_core.specs.Sets.{Has, Among, IsValid, IsLongRun, Steps, apart}
use Rattle.ival_core.specs.Views.{one_of}
use Rattle.ival_core.proofs.Distances.{apart_is}
use Rattle.ival_core.proofs.Hulls.{Spans-run}
use Rattle.offmap.specs.Maps.{AreRanges}
use Rattle.offmap_laws.proofs.Slots.{slots_describe, steps_give}
use Rattle.run_slots.specs.Offsets.{steps_from, Represent}
use Rattle.run_slots.specs.Repeats.{told_once}
use Rattle.run_slots.specs.Slots.{slots_weakened}
use Rattle.run_slots.proofs.Representing.{within_steps}
use Rattle.run_slots.proofs.Telling.{told_represent}
use Rattle.run_slots.proofs.Widths.{weakened_width as slots_width, weakened_fine as slots_fine}
use Rattle.map_accesses.specs.Accesses.{bit_at, Fits, AllFit, more_in, loaded_among, loaded_or, loaded_at, turns, after_turns, weakened_by, weakened_at}
use Rattle.map_accesses.proofs.Fitting.{RunFits, run_fits, few_within, TurnsFit, turns_fit, turn_inside}
use Rattle.map_accesses.proofs.Widths.{keeps, fits_turn, set_fits}
use Rattle.map_accesses.proofs.Overwriting.{long, one_stored, all_old, before}

-- the number has a place in the run
pub record IsStep (unit : ℕ) (p : Progression) (z : ℤ) : Type 0 where
  pub place : ℕ
  pub within : place ≤ more_in p
  pub bit : bit_at unit z ≡ bit_at unit p.low + place * (unit * p.stride)

pub step_of : (unit : ℕ) (p : Progression) (z : ℤ) → IsLongRun p → pos 0 ≤ℤ p.low → Steps p z → IsStep unit p z
step_of unit p z l zero_low s =
    let up = s.above in
    let down = s.below in
    let e = apart_is p.low z up in
    let f = apart_is p.low p.high (order p z s) in
    let i = apart p.low z / p.stride in
    let cancel : i * p.stride ≡ apart p.low z = div-mul_cancel p.stride s.meets in
    let d = divides (apart p.low p.high) p.stride l.moves in
    let sum = d.sum in
    let rest = l.meets in
    let all : more_in p * p.stride ≡ apart p.low p.high = omega arith in
    let far : apart p.low z ≤ apart p.low p.high = omega (arith, ints) in
    let inside : i ≤ more_in p = at_most i (more_in p) p.stride l.moves (omega arith) in
    let at : unsigned_abs z ≡ unsigned_abs p.low + i * p.stride = let a : unsigned_abs z ≡ unsigned_abs p.low + apart p.low z = omega (arith, ints) in omega arith in
    let turn : unit * (i * p.stride) ≡ i * (unit * p.stride) = sym (mul_assoc unit i p.stride) ∙ ap (λ (x : ℕ). x * p.stride) (mul_comm unit i) ∙ mul_assoc i unit p.stride in
    record {
      place = i;
      within = inside;
      bit = ap (λ (x : ℕ). unit * x) at ∙ mul-add unit (unsigned_abs p.low) (i * p.stride) ∙ ap (λ (x : ℕ). bit_at unit p.low + x) turn;
    }
  where
    order : (p : Progression) (z : ℤ) → Steps p z → p.low ≤ℤ p.high
    order p z s = let a = s.above in let b = s.below in omega (arith, ints)

    at_most : (a b s : ℕ) → 0 < s → a * s ≤ b * s → a ≤ b
    at_most zero b s p h = omega arith
    at_most (suc a) zero s p h = let x : suc a * s ≡ s + a * s = omega arith in let y : 0 * s ≡ 0 = omega arith in absurd (omega arith)
    at_most (suc a) (suc b) s p h =
        let x : suc a * s ≡ s + a * s = omega arith in
        let y : suc b * s ≡ s + b * s = omega arith in
        let r = at_most a b s p (omega arith) in
        omega arith

among_map : (unit : ℕ) (xs : List ℤ) (z : ℤ) → Among xs z → AmongOffsets (map (bit_at unit) xs) (bit_at unit z)
among_map unit [] z a = absurd a
among_map unit (x ∷ xs) z (inl e) = inl (ap (bit_at unit) e)
among_map unit (x ∷ xs) z (inr a) = inr (among_map unit xs z a)

among_steps : (n first step i : ℕ) → i < n → AmongOffsets (steps_from first step n) (first + i * step)
unfolding steps_from
among_steps zero first step i h = absurd (omega arith)
among_steps (suc n) first step zero h = inl (omega arith)
among_steps (suc n) first step (suc i) h =
    let e : first + step + i * step ≡ first + suc i * step = omega arith in
    inr (subst (AmongOffsets (steps_from (first + step) step n)) e (among_steps n (first + step) step i (omega arith)))

-- the only one of some numbers
record IsOne (xs : List ℤ) : Type 0 where
  pub number : ℤ
  pub is : one_of xs ≡ Some number
  pub held : Among xs number
  pub only : (z : ℤ) → Among xs z → z ≡ number

one_or_none : (xs : List ℤ) → (one_of xs ≡ None) ⊎ IsOne xs
one_or_none [] = inl refl
one_or_none (x ∷ []) = inr (record { number = x; is = refl; held = inl refl; only = only x })
  where
    only : (x z : ℤ) → Among (x ∷ []) z → z ≡ x
    only x z (inl e) = e
    only x z (inr a) = absurd a
one_or_none (x ∷ y ∷ xs) = inl refl

module _ {C H K : Type 0} (o : Ops C H) (Fine : ℕ → C → Type 0) (Tint : H → K → Type 0) (Bare : K → Type 0) (Sure : Bool → K → Type 0) (Allows Gives : ℕ → C → List K → Type 0)
    (nl : FineLaws o Fine) (ol : OrderLaws o Fine) (jl : JoinLaws o Fine) (ml : MeaningLaws o Fine Tint Bare Sure Allows) (pl : PartLaws o Fine) (al : AccessLaws o Fine Allows Gives) where
  -- ---- loads

  among_gives : (m : List (Element C)) (unit : ℕ) (rs : List (Run C)) (k : ℕ) (s : Shape) (z : ℤ) (ks : List K) → IsSize k → 0 < unit → AllFine Fine m → AreRanges m rs → IsValid s → AllFit unit k (width m) s →
      length ks ≡ width m → Describes Allows m ks → Has s z → Gives k (loaded_among o m unit rs k s) (take k (drop (bit_at unit z) ks))
  unfolding loaded_among
  among_gives m unit rs k (Few v) z ks size u f r valid fit w d h =
      loaded_all_gives o Fine Allows Gives pl al m (map (bit_at unit) v.items) (bit_at unit z) k ks nl size f (few_within unit k (width m) v.items fit) w d (among_map unit v.items z h)
  among_gives m unit rs k (Many p) z ks size u f r valid fit w d h =
      let a = run_fits unit k (width m) p u valid fit in
      let low = (fit p.low (first_of p z valid h)).low in
      let s = step_of unit p z valid low h in
      let within = s.within in
      let inside = a.inside in
      let up : s.place * (unit * p.stride) ≤ more_in p * (unit * p.stride) = mul-le-mul_right (unit * p.stride) within in
      let v = r.view in
      let t = told_represent o rs k (bit_at unit p.low) (unit * p.stride) (more_in p) r.some size.some (subst (λ (x : List (Element C)). bit_at unit p.low + more_in p * (unit * p.stride) + k ≤ width x) (sym v) inside) in
      let t2 = subst (λ (x : List (Element C)). Represent o x k (bit_at unit p.low) (unit * p.stride) (suc (more_in p)) (told_once rs k (bit_at unit p.low) (unit * p.stride) (suc (more_in p)))) v t in
      subst (λ (x : ℕ). Gives k (loaded_all o m (told_once rs k (bit_at unit p.low) (unit * p.stride) (suc (more_in p))) k) (take k (drop x ks))) (sym s.bit)
      (steps_give o Fine Allows Gives nl pl al m k (bit_at unit p.low) (unit * p.stride) (suc (more_in p)) s.place _ ks size f (omega arith) w d t2 (omega arith))
    where
      first_of : (p : Progression) (z : ℤ) → IsLongRun p → Steps p z → Steps p p.low
      first_of p z l s = (Spans-run p l).first

  pub load_gives : (m : List (Element C)) (unit : ℕ) (rs : List (Run C)) (k : ℕ) (s : Shape) (z : ℤ) (ks : List K) → IsSize k → 0 < unit → AllFine Fine m → AreRanges m rs → IsValid s → AllFit unit k (width m) s →
      length ks ≡ width m → Describes Allows m ks → Has s z → Gives k (loaded_at o m unit rs k s) (take k (drop (bit_at unit z) ks))
  unfolding loaded_at loaded_or
  load_gives m unit rs k (Few v) z ks size u f r valid fit w d h =
      elim (one_or_none v.items) [
        | inl e ↦
            subst (λ (y : Option ℤ). Gives k (loaded_or o m unit (loaded_among o m unit rs k (Few v)) k y) (take k (drop (bit_at unit z) ks))) (sym e)
            (among_gives m unit rs k (Few v) z ks size u f r valid fit w d h)
        | inr x ↦
            subst (λ (y : Option ℤ). Gives k (loaded_or o m unit (loaded_among o m unit rs k (Few v)) k y) (take k (drop (bit_at unit z) ks))) (sym x.is)
            (subst (λ (y : ℤ). Gives k (loaded o m (bit_at unit x.number) k) (take k (drop (bit_at unit y) ks))) (sym (x.only z h))
            (loaded_gives o Fine Allows Gives pl al m (bit_at unit x.number) k ks nl size f (fit x.number x.held).high w d))
      ]
  load_gives m unit rs k (Many p) z ks size u f r valid fit w d h = among_gives m unit rs k (Many p) z ks size u f r valid fit w d h

  -- ---- weak stores turn by turn

  module _ (m : List (Element C)) (k first step more : ℕ) (c : C) (size : IsSize k) (p : 0 < step) (many : 64 ≤ more) (f : AllFine Fine m) (inside : first + more * step + k ≤ width m) where
    abbrev state : ℕ → List (Element C)
    state n = after_turns o m k first step more (put o k c) n

    -- a turn keeps what was possible
    turn_old : (n : ℕ) (ks : List K) → n < turns k step → length ks ≡ width m → Describes Allows (state n) ks → Describes Allows (state (suc n)) ks
    unfolding after_turns
    turn_old n ks l w d =
        let g = keeps o Fine nl ol jl pl m k first step more c size p many f inside n (omega arith) in
        let e = w ∙ sym g.wide in
        slots_describe o Fine Tint Bare Sure Allows Gives nl ol jl ml pl al (state n) k (turns k step * step - k) c ks ks size g.fine d e e ((more - n) / turns k step) (first + n * step) (fits_turn o Fine nl ol jl pl m k first step more c size p many f inside n l g) refl
        (all_old Allows k (turns k step * step - k) c ks ((more - n) / turns k step) (first + n * step))

    turns_old : (d n : ℕ) (ks : List K) → n + d ≤ turns k step → length ks ≡ width m → Describes Allows (state n) ks → Describes Allows (state (n + d)) ks
    turns_old zero n ks l w h = let e : n ≡ n + 0 = omega arith in subst (λ (x : ℕ). Describes Allows (state x) ks) e h
    turns_old (suc d) n ks l w h =
        let e : suc n + d ≡ n + suc d = omega arith in
        subst (λ (x : ℕ). Describes Allows (state x) ks) e (turns_old d (suc n) ks (omega arith) w (turn_old n ks (omega arith) w h))

    pub all_turns_old : (ks : List K) → length ks ≡ width m → Describes Allows m ks → Describes Allows (state (turns k step)) ks
    unfolding after_turns
    all_turns_old ks w d = let e : 0 + turns k step ≡ turns k step = omega arith in subst (λ (x : ℕ). Describes Allows (state x) ks) e (turns_old (turns k step) 0 ks (omega arith) w d)

    -- its turn comes for each number
    pub all_turns_new : (i : ℕ) (ks cs : List K) → i ≤ more → length ks ≡ width m → Describes Allows m ks → Allows k c cs →
        Describes Allows (state (turns k step)) (take (first + i * step) ks ++ (cs ++ drop (first + i * step + k) ks))
    unfolding after_turns
    all_turns_new i ks cs l w d a =
        let t = turns_fit k step size.some p in
        let ts = t.some in
        let v = divides i (turns k step) t.some in
        let sum = v.sum in
        let n = i % turns k step in
        let q = i / turns k step in
        let less = v.less in
        let gap = turns k step * step - k in
        let wide = t.wide in
        let long_k = ml.allows_length k c cs a in
        let at = first + i * step in
        let up : i * step ≤ more * step = mul-le-mul_right step l in
        let fits : at + k ≤ length ks = omega arith in
        let js = take at ks ++ (cs ++ drop (at + k) ks) in
        let old = turns_old n 0 ks (omega arith) w d in
        let z : 0 + n ≡ n = omega arith in
        let here = subst (λ (x : ℕ). Describes Allows (state x) ks) z old in
        let g = keeps o Fine nl ol jl pl m k first step more c size p many f inside n (omega arith) in
        let wj : length js ≡ width m = long ks cs at k long_k fits ∙ w in
        let place : at ≡ first + n * step + q * (k + gap) = placed i q n (turns k step) step k first sum (omega arith) in
        let most : q ≤ (more - n) / turns k step = quotient_most i q n (turns k step) more t.some sum l in
        let n_small : n * step ≤ i * step = mul-le-mul_right step (rest_most i q n (turns k step) sum) in
        let new = slots_describe o Fine Tint Bare Sure Allows Gives nl ol jl ml pl al (state n) k gap c ks js size g.fine here (w ∙ sym g.wide) (wj ∙ sym g.wide) ((more - n) / turns k step) (first + n * step)
        (fits_turn o Fine nl ol jl pl m k first step more c size p many f inside n less g) (before ks cs at k long_k fits 0 (first + n * step) (omega arith))
        (one_stored ks cs at k long_k fits Allows gap c a ((more - n) / turns k step) q (first + n * step) most place) in
        let j : suc n + (turns k step - suc n) ≡ turns k step = omega arith in
        subst (λ (x : ℕ). Describes Allows (state x) js) j (turns_old (turns k step - suc n) (suc n) js (omega arith) wj new)
      where
        rest_most : (i q n t : ℕ) → i ≡ q * t + n → n ≤ i
        rest_most i q n t e = omega arith

        placed : (i q n t step k first : ℕ) → i ≡ q * t + n → k ≤ t * step → first + i * step ≡ first + n * step + q * (k + (t * step - k))
        placed i q n t step k first e h =
            let a : k + (t * step - k) ≡ t * step = omega arith in
            let b : q * (k + (t * step - k)) ≡ q * (t * step) = ap (λ (x : ℕ). q * x) a in
            let d : q * t * step ≡ q * (t * step) = mul_assoc q t step in
            let s : (q * t + n) * step ≡ q * t * step + n * step = omega arith in
            let r : i * step ≡ (q * t + n) * step = ap (λ (x : ℕ). x * step) e in
            omega arith

        below : (a b s : ℕ) → a * s < b * s + s → a ≤ b
        below zero b s h = omega arith
        below (suc a) zero s h = let x : suc a * s ≡ s + a * s = omega arith in let y : 0 * s ≡ 0 = omega arith in absurd (omega arith)
        below (suc a) (suc b) s h =
            let x : suc a * s ≡ s + a * s = omega arith in
            let y : suc b * s ≡ s + b * s = omega arith in
            let r = below a b s (omega arith) in
            omega arith

        quotient_most : (i q n t more : ℕ) → 0 < t → i ≡ q * t + n → i ≤ more → q ≤ (more - n) / t
        quotient_most i q n t more p e l =
            let d = divides (more - n) t p in
            let sum = d.sum in
            let less = d.less in
            below q ((more - n) / t) t (omega arith)

  -- ---- weak stores

  pub weak_old : (m : List (Element C)) (unit k : ℕ) (s : Shape) (c : C) (ks : List K) → IsSize k → 0 < unit → AllFine Fine m → IsValid s → AllFit unit k (width m) s → length ks ≡ width m → Describes Allows m ks →
      Describes Allows (weakened_at o m unit k s c) ks
  unfolding weakened_at weakened_by
  weak_old m unit k (Few v) c ks size u f valid fit w d =
      weakened_old o Fine Tint Bare Sure Allows Gives nl ol jl ml pl al m (map (bit_at unit) v.items) k c ks size f (few_within unit k (width m) v.items fit) d
  weak_old m unit k (Many p) c ks size u f valid fit w d =
      let a = set_fits o m unit k p u valid fit in
      elim (cases_Bool (nat_lt (more_in p) 200)) [
        | inl e ↦ rw e (weakened_old o Fine Tint Bare Sure Allows Gives nl ol jl ml pl al m (steps_from (bit_at unit p.low) (unit * p.stride) (suc (more_in p))) k c ks size f a.each d)
        | inr e ↦
            let h = ltb-false (more_in p) 200 e in
            rw e (all_turns_old m k (bit_at unit p.low) (unit * p.stride) (more_in p) c size a.fits.some (omega arith) f a.fits.inside ks w d)
      ]

  pub weak_new : (m : List (Element C)) (unit k : ℕ) (s : Shape) (z : ℤ) (c : C) (ks cs : List K) → IsSize k → 0 < unit → AllFine Fine m → IsValid s → AllFit unit k (width m) s → length ks ≡ width m → Describes Allows m ks →
      Allows k c cs → Has s z → Describes Allows (weakened_at o m unit k s c) (take (bit_at unit z) ks ++ (cs ++ drop (bit_at unit z + k) ks))
  unfolding weakened_at weakened_by
  weak_new m unit k (Few v) z c ks cs size u f valid fit w d n h =
      weakened_new o Fine Tint Bare Sure Allows Gives nl ol jl ml pl al m (map (bit_at unit) v.items) k c ks cs (bit_at unit z) size f (few_within unit k (width m) v.items fit) w d n (among_map unit v.items z h)
  weak_new m unit k (Many p) z c ks cs size u f valid fit w d n h =
      let a = set_fits o m unit k p u valid fit in
      let low = (fit p.low (Spans-run p valid).first).low in
      let s = step_of unit p z valid low h in
      let within = s.within in
      elim (cases_Bool (nat_lt (more_in p) 200)) [
        | inl e ↦ rw e (weakened_new o Fine Tint Bare Sure Allows Gives nl ol jl ml pl al m (steps_from (bit_at unit p.low) (unit * p.stride) (suc (more_in p))) k c ks cs (bit_at unit z) size f a.each w d n
            (subst (AmongOffsets (steps_from (bit_at unit p.low) (unit * p.stride) (suc (more_in p)))) (sym s.bit) (among_steps (suc (more_in p)) (bit_at unit p.low) (unit * p.stride) s.place (omega arith))))
        | inr e ↦
            let h2 = ltb-false (more_in p) 200 e in
            rw e (subst (λ (x : ℕ). Describes Allows (after_turns o m k (bit_at unit p.low) (unit * p.stride) (more_in p) (put o k c) (turns k (unit * p.stride))) (take x ks ++ (cs ++ drop (x + k) ks))) (sym s.bit)
            (all_turns_new m k (bit_at unit p.low) (unit * p.stride) (more_in p) c size a.fits.some (omega arith) f a.fits.inside s.place ks cs within w d n))
      ]
