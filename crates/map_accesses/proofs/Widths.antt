-- Weak stores at the numbers of a set keep a map's length, and its cells fine.
use Rattle.std.proofs.Common.{◌≡◌, ℕ, zero, suc, ◌+◌, ◌-◌, ◌*◌, ◌/◌, ◌<◌, ◌≤◌, List, [], ◌∷◌, map, Bool, refl, sym, ap, ◌∙◌, subst, arith, inl, inr}
use Rattle.std.specs.Prelude.{nat_lt}
use Rattle.std.proofs.lemmas.Bool.{cases_Bool, ltb-false}
use Rattle.cell_laws.specs.Elements.{Element, width, AllFine}
use Rattle.cell_laws.specs.Cells.{Ops}
use Rattle.cell_laws.specs.Laws.{FineLaws, OrderLaws, JoinLaws, PartLaws}
use Rattle.cell_laws.specs.Join.{joined, joined_cell}
use Rattle.cell_laws.specs.Access.{put, stored, weakened, IsSize, AllWithin}
use Rattle.cell_laws.proofs.Joins.{IsAbove, joined_above, joined_cell_laws}
use Rattle.cell_laws.proofs.Accesses.{width-put, width-stored, fine_put, fine_stored}
use Rattle.ival_core.specs.declared.value.Progression.{Progression}
use Rattle.ival_core.specs.declared.value.Shape.{Shape}
use Rattle.ival_core.specs.declared.value.Shape.TheVariants.{Few, Many}
use Rattle.ival_core.specs.Sets.{IsValid, IsLongRun}
use Rattle.run_slots.specs.Offsets.{steps_from}
use Rattle.run_slots.proofs.Representing.{within_steps}
use Rattle.run_slots.proofs.Widths.{weakened_width as slots_width, weakened_fine as slots_fine}
use Rattle.map_accesses.specs.Accesses.{bit_at, AllFit, more_in, turns, after_turns, weakened_by, weakened_at}
use Rattle.map_accesses.proofs.Fitting.{RunFits, run_fits, few_within, turns_fit, turn_inside}

-- what a weak store keeps of a map
pub record Kept {C : Type 0} (Fine : ℕ → C → Type 0) (m now : List (Element C)) : Type 0 where
  pub wide : width now ≡ width m
  pub fine : AllFine Fine now

module _ {C H : Type 0} (o : Ops C H) where
  pub record SetFits (m : List (Element C)) (unit k : ℕ) (p : Progression) : Type 0 where
    pub fits : RunFits unit k (width m) p
    pub each : AllWithin k (width m) (steps_from (bit_at unit p.low) (unit * p.stride) (suc (more_in p)))

  pub set_fits : (m : List (Element C)) (unit k : ℕ) (p : Progression) → 0 < unit → IsLongRun p → AllFit unit k (width m) (Many p) → SetFits m unit k p
  set_fits m unit k p u l fit =
      let a = run_fits unit k (width m) p u l fit in
      let e : suc (more_in p) - 1 ≡ more_in p = omega arith in
      record { fits = a; each = within_steps (suc (more_in p)) k (width m) (bit_at unit p.low) (unit * p.stride) (subst (λ (n : ℕ). bit_at unit p.low + n * (unit * p.stride) + k ≤ width m) (sym e) a.inside) }

module _ {C H : Type 0} (o : Ops C H) (Fine : ℕ → C → Type 0) (nl : FineLaws o Fine) (ol : OrderLaws o Fine) (jl : JoinLaws o Fine) (pl : PartLaws o Fine) where
  each_kept : (m : List (Element C)) (ats : List ℕ) (k : ℕ) (c : C) → IsSize k → AllFine Fine m → AllWithin k (width m) ats → Kept Fine m (weakened o m ats k c)
  unfolding weakened
  each_kept m [] k c size f a = record { wide = refl; fine = f }
  each_kept m (at ∷ ats) k c size f a =
      let v = width-stored o m at k c a.0 in
      let b = joined_above o Fine (joined_cell o) nl ol jl (joined_cell_laws o Fine nl ol jl) m (stored o m at k c) (record { first = f; second = fine_stored o Fine pl m at k c size f }) (sym v) in
      let w : width (joined o (joined_cell o) m (stored o m at k c)) ≡ width m = b.wide ∙ v in
      let r = each_kept (joined o (joined_cell o) m (stored o m at k c)) ats k c size b.fine (subst (λ (n : ℕ). AllWithin k n ats) (sym w) a.1) in
      record { wide = r.wide ∙ w; fine = r.fine }

  module _ (m : List (Element C)) (k first step more : ℕ) (c : C) (size : IsSize k) (p : 0 < step) (many : 64 ≤ more) (f : AllFine Fine m) (inside : first + more * step + k ≤ width m) where
    abbrev state : ℕ → List (Element C)
    state n = after_turns o m k first step more (put o k c) n

    pub fits_turn : (n : ℕ) → n < turns k step → Kept Fine m (state n) → first + n * step + (more - n) / turns k step * (k + (turns k step * step - k)) + k ≤ width (state n)
    fits_turn n l g =
        let t = turns_fit k step size.some p in
        let few = t.few in
        let s = size.few in
        let w = g.wide in
        turn_inside first step more (turns k step) n k (width (state n)) t.some (omega arith) (omega arith) t.wide

    pub keeps : (n : ℕ) → n ≤ turns k step → Kept Fine m (state n)
    unfolding after_turns
    keeps zero l = record { wide = refl; fine = f }
    keeps (suc n) l =
        let g = keeps n (omega arith) in
        let i = fits_turn n (omega arith) g in
        record {
          wide = slots_width o Fine nl ol jl pl (state n) (put o k c) k (turns k step * step - k) g.fine (fine_put o Fine pl k c size) (width-put o k c) (first + n * step) ((more - n) / turns k step) i ∙ g.wide;
          fine = slots_fine o Fine nl ol jl pl (state n) (put o k c) k (turns k step * step - k) g.fine (fine_put o Fine pl k c size) (width-put o k c) (first + n * step) ((more - n) / turns k step) i;
        }

  -- the map stays as wide, and its cells fine
  pub weak_kept : (m : List (Element C)) (unit k : ℕ) (s : Shape) (c : C) → IsSize k → 0 < unit → AllFine Fine m → IsValid s → AllFit unit k (width m) s → Kept Fine m (weakened_at o m unit k s c)
  unfolding weakened_at weakened_by
  weak_kept m unit k (Few v) c size u f valid fit = each_kept m (map (bit_at unit) v.items) k c size f (few_within unit k (width m) v.items fit)
  weak_kept m unit k (Many p) c size u f valid fit =
      let a = set_fits o m unit k p u valid fit in
      elim (cases_Bool (nat_lt (more_in p) 200)) [
        | inl e ↦ rw e (each_kept m (steps_from (bit_at unit p.low) (unit * p.stride) (suc (more_in p))) k c size f a.each)
        | inr e ↦
            let h = ltb-false (more_in p) 200 e in
            rw e (keeps m k (bit_at unit p.low) (unit * p.stride) (more_in p) c size a.fits.some (omega arith) f a.fits.inside (turns k (unit * p.stride)) (omega arith))
      ]
