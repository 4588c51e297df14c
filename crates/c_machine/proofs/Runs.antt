-- What each step keeps, and runs that meet a table: generic in what covers a memory at a statement and in what an alarm is.
use Rattle.std.proofs.Common.{◌≡◌, ℕ, zero, suc, List, [], ◌∷◌, length, None, Some, refl}
use Rattle.c_base.specs.declared.kind.Kind.{Kind}
use Rattle.c_memory.specs.Layouts.{Layout}
use Rattle.c_memory.specs.Memories.{Memory}
use Rattle.c_program.specs.Syntax.{Program}
use Rattle.c_machine.specs.Machine.{Held, State, Outcome, Goes, Stops, Step, IsRun, last_of, arrival, sites_of}

-- what each step keeps holds at the end of a run
pub kept_along : (p : Program) (P : State → Type 0) (l : Layout) → ((s t : State) → P s → Step p l s (Goes t) → P t) → (s : State) (ts : List State) → P s →
    IsRun p l s ts → P (last_of s ts)
kept_along p P l kept s [] h run = h
kept_along p P l kept s (t ∷ ts) h run = kept_along p P l kept t ts (kept s t h run.0) run.1

module _ (program : Program) (l : Layout) (Covered : ℕ → List ℕ → Memory → Type 0) (Alarmed : Kind → ℕ → List ℕ → Type 0) where
  -- a memory at a statement is covered, and a stop has its alarm
  pub record Meets (s : State) : Type 0 where
    pub rows : (id : ℕ) → arrival s.control ≡ Some id → Covered id (sites_of s.control) s.memory
    pub stops : (kind : Kind) (id : ℕ) (sites : List ℕ) → Step program l s (Stops kind id sites) → Alarmed kind id sites

  -- so do all states that fewer than n steps reach
  abbrev pub Good : ℕ → State → Type 0
  Good zero s = Unit {0}
  Good (suc n) s = Meets s × ((t : State) → Step program l s (Goes t) → Good n t)

  pub good_less : (n : ℕ) (s : State) → Good (suc n) s → Good n s
  good_less zero s g = tt
  good_less (suc n) s g = (g.0, λ t step. good_less n t (g.1 t step))

  pub good_run : (s : State) (ts : List State) → ((n : ℕ) → Good n s) → IsRun program l s ts → Meets (last_of s ts)
  good_run s ts good run = along (suc (length ts)) s ts refl (good (suc (length ts))) run
    where
      along : (n : ℕ) (s : State) (ts : List State) → n ≡ suc (length ts) → Good n s → IsRun program l s ts → Meets (last_of s ts)
      along zero s ts e g run = absurd (cc)
      along (suc n) s [] e g run = g.0
      along (suc n) s (t ∷ ts) e g run = let f : n ≡ suc (length ts) = cc in along n t ts f (g.1 t run.0) run.1

  goes_same : (s t : State) → Goes s ≡ Goes t → s ≡ t
  goes_same s t e = cc

  -- a state that only leads to a good one, and is at no statement
  pub lead : (s t : State) → arrival s.control ≡ None → ((out : Outcome) → Step program l s out → out ≡ Goes t) → (n : ℕ) → Good n t → Good n s
  lead s t silent only zero g = tt
  lead s t silent only (suc n) g = (
    record {
      rows = λ id e. absurd (cc);
      stops = λ kind id sites step. let e : Stops kind id sites ≡ Goes t = only (Stops kind id sites) step in absurd (cc);
    },
    λ u step. let e : u ≡ t = goes_same u t (only (Goes u) step) in rw e (good_less n t g),
  )

  -- the same of a state at a statement
  pub lead_from : (s t : State) (id : ℕ) → arrival s.control ≡ Some id → Covered id (sites_of s.control) s.memory →
      ((out : Outcome) → Step program l s out → out ≡ Goes t) → (n : ℕ) → Good n t → Good (suc n) s
  lead_from s t id here covered only n g = (
    record {
      rows = λ other e. let same : other ≡ id = cc in rw same covered;
      stops = λ kind other sites step. let e : Stops kind other sites ≡ Goes t = only (Stops kind other sites) step in absurd (cc);
    },
    λ u step. let e : u ≡ t = goes_same u t (only (Goes u) step) in rw e g,
  )

  -- a state that stops, with its alarm
  pub stop : (s : State) (kind : Kind) (id : ℕ) (sites : List ℕ) → arrival s.control ≡ None → Alarmed kind id sites →
      ((out : Outcome) → Step program l s out → out ≡ Stops kind id sites) → (n : ℕ) → Good n s
  stop s kind id sites silent alarmed only zero = tt
  stop s kind id sites silent alarmed only (suc n) = (
    record {
      rows = λ other e. absurd (cc);
      stops = λ k other at step.
          let e : Stops k other at ≡ Stops kind id sites = only (Stops k other at) step in
          let a : k ≡ kind = cc in let b : other ≡ id = cc in let c : at ≡ sites = cc in rw (a, b, c) alarmed;
    },
    λ u step. let e : Goes u ≡ Stops kind id sites = only (Goes u) step in absurd (cc),
  )

  -- a state with no work left
  pub halt : (held : List Held) (m : Memory) (n : ℕ) → Good n (record { control = []; held = held; memory = m })
  halt held m zero = tt
  halt held m (suc n) = (
    record { rows = λ id e. absurd (cc); stops = λ kind id sites step. absurd step },
    λ t step. absurd step,
  )
