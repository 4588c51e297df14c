-- The machine on programs whose objects are variables of type int, without the cells: what a variable holds is a number, or nothing yet.
use Rattle.std.proofs.Common.{◌≡◌, ℕ, zero, suc, ◌<◌, ◌==◌, Bool, true, false, cond, List, [], ◌∷◌, Option, None, Some, Result, Ok, Err, refl, ◌∙◌, ap, arith}
use Rattle.std.specs.Prelude.{ℤ, MatchResult}
use Rattle.std.specs.Ordering.{nat_cmp}
use Rattle.std.specs.Cmp.{nat_cmp_total}
use Rattle.std.specs.FinSet.{union, same_set, contains-union, contains-empty, nat_cmp-IsAntisymmetric}
use Rattle.c_base.specs.declared.integer.IntKind.TheVariants.{Int}
use Rattle.c_base.specs.declared.integer.Machine.TheVariants.{Lp64}
use Rattle.c_memory.specs.declared.scalar.Scalar.TheVariants.{Integer}
use Rattle.c_memory.specs.Operations.{provenance_after, is_comparison}
use Rattle.c_base.specs.declared.kind.Kind.{Kind}
use Rattle.c_base.specs.declared.kind.Kind.TheVariants.{Initialization}
use Rattle.c_base.specs.Integers.{fits_kind}
use Rattle.c_memory.specs.Values.{Value, nowhere, plain}
use Rattle.c_memory.specs.Layouts.{Layout}
use Rattle.c_memory.specs.Memories.{Memory, address_of, loaded, stored, with_base, died}
use Rattle.c_base.specs.declared.operators.BinOp.{BinOp}
use Rattle.c_base.specs.Operators.{applied}
use Rattle.c_program.specs.Syntax.{ResultType, Variable, Pointed, Temporary, Member, Element, ElementOf, Expr, Number, Load, Binary, Assign, LoadCells, AssignCells, Address, Unary, Convert, OnPointers, Logic, Conditional, Compound, Step as StepExpr, Comma, Call, Program}
use Rattle.c_base.proofs.Tests.{other_test}
use Rattle.c_memory.proofs.IntMemory.{IsInt, int_cells, FitsContent, loaded_content, loaded_int, stored_int}
use Rattle.first_analysis.specs.Evaluation.{Env, set, IsVariable, IsPlain, value, combined, content_value}
use Rattle.c_machine.specs.Machine.{Work, Evaluate, Locate, Fetch, Store, Apply, Deliver, Brace, Exit, fallen, Held, Usable, State, Outcome, Goes, Step, arrival, sites_of, statement_in, exit_of, handed}
use Rattle.c_machine.specs.Unfolding.{is_volatile}
use Rattle.c_machine.proofs.Runs.{Good, lead, lead_from, stop, halt}

pub record Shows (count : ℕ) (env : Env) (m : Memory) : Type 0 where
  pub live : (base : ℕ) → IsVariable count base → m base ≡ Some (int_cells (env base))
  pub fits : (base : ℕ) → FitsContent (env base)
  pub none : m 0 ≡ None
  pub beyond : (base : ℕ) → count < base → m base ≡ None

-- the layout has all variables, each with the size of int
pub record HasVariables (l : Layout) (count : ℕ) : Type 0 where
  pub machine : l.machine ≡ Lp64
  pub each : (base : ℕ) → IsVariable count base → IsInt l base

-- no variable is volatile
abbrev pub AreStill : Program → ℕ → Type 0
AreStill program count = (base : ℕ) → IsVariable count base → is_volatile program (Variable base) ≡ false

-- a store to a variable
pub shows_set : (count : ℕ) (env : Env) (m : Memory) (base : ℕ) (n : ℤ) → IsVariable count base → fits_kind Int Lp64 n ≡ true → Shows count env m →
    Shows count (set env base n) (with_base m base (Some (int_cells (Some n))))
shows_set count env m base n v fits s = record {
  live = λ other w. by_test other w (other == base) refl;
  fits = λ other. fits_by_test other (other == base);
  none = let low = v.low in let t : (0 == base) ≡ false = other_test 0 base (λ e. absurd (omega arith)) in rw t s.none;
  beyond = λ other h. let high = v.high in let t : (other == base) ≡ false = other_test other base (λ e. absurd (omega arith)) in rw t (s.beyond other h);
}
  where
    by_test : (other : ℕ) → IsVariable count other → (t : Bool) → (other == base) ≡ t →
        cond (other == base) (Some (int_cells (Some n))) (m other) ≡ Some (int_cells (cond (other == base) (Some n) (env other)))
    by_test other w true e = rw e refl
    by_test other w false e = rw e (s.live other w)

    fits_by_test : (other : ℕ) (t : Bool) → FitsContent (cond t (Some n) (env other))
    fits_by_test other true = fits
    fits_by_test other false = s.fits other

-- operators on numbers that were made from no address give such numbers
no_provenance : (op : BinOp) → provenance_after op nowhere nowhere ≡ nowhere
no_provenance op = by_test (is_comparison op)
  where
    by_test : (b : Bool) → cond b nowhere (union nowhere nowhere) ≡ nowhere
    by_test true = refl
    by_test false = same_set nat_cmp_total nat_cmp-IsAntisymmetric (union nowhere nowhere) nowhere
        (λ q. rw (contains-union nat_cmp_total nowhere nowhere q, contains-empty nat_cmp q) refl)

module _ (program : Program) (l : Layout) (Covered : ℕ → List ℕ → Memory → Type 0) (Alarmed : Kind → ℕ → List ℕ → Type 0) (count : ℕ) (has : HasVariables l count) (still : AreStill program count) where
  abbrev at : List Work → List Held → Memory → State
  at control held m = record { control = control; held = held; memory = m }

  abbrev Fine : ℕ → State → Type 0
  Fine n s = Good program l Covered Alarmed n s

  -- a number is held
  pub number_held : (v : ℤ) (rest : List Work) (held : List Held) (m : Memory) (n : ℕ) → Fine n (at rest (Usable (plain v) ∷ held) m) →
      Fine n (at (Evaluate (Number Int v) ∷ rest) held m)
  number_held v rest held m n g = lead program l Covered Alarmed (at (Evaluate (Number Int v) ∷ rest) held m) (at rest (Usable (plain v) ∷ held) m) refl (λ out step. step) n g

  -- a variable is loaded, or the step stops since it holds nothing yet
  pub variable_held : (env : Env) (base : ℕ) (rest : List Work) (held : List Held) (m : Memory) (n : ℕ) → IsVariable count base → Shows count env m →
      MatchResult (loaded_content (env base)) (λ v. Fine n (at rest (Usable v ∷ held) m)) (λ kind. Alarmed kind (statement_in rest) (sites_of rest)) →
      Fine n (at (Evaluate (Load (Integer Int) (Variable base)) ∷ rest) held m)
  variable_held env base rest held m n v s after =
      lead program l Covered Alarmed (at (Evaluate (Load (Integer Int) (Variable base)) ∷ rest) held m) (at (Locate (Variable base) ∷ Fetch (Integer Int) ∷ rest) held m) refl (λ out step. rw (still base v) at step) n
      (lead program l Covered Alarmed (at (Locate (Variable base) ∷ Fetch (Integer Int) ∷ rest) held m) (at (Fetch (Integer Int) ∷ rest) (Usable (address_of l base) ∷ held) m) refl (λ out step. step) n
      (fetched (env base) refl after))
    where
      fetched : (content : Option ℤ) → env base ≡ content →
          MatchResult (loaded_content content) (λ v. Fine n (at rest (Usable v ∷ held) m)) (λ kind. Alarmed kind (statement_in rest) (sites_of rest)) →
          Fine n (at (Fetch (Integer Int) ∷ rest) (Usable (address_of l base) ∷ held) m)
      fetched None e after =
          let read : loaded l m (Integer Int) (address_of l base) ≡ Err Initialization = loaded_int l m base (env base) (has.each base v) (s.fits base) (s.live base v) ∙ ap loaded_content e in
          stop program l Covered Alarmed (at (Fetch (Integer Int) ∷ rest) (Usable (address_of l base) ∷ held) m) Initialization (statement_in rest) (sites_of rest) refl after
          (λ out step. rw read at step) n
      fetched (Some w) e after =
          let read : loaded l m (Integer Int) (address_of l base) ≡ Ok (plain w) = loaded_int l m base (env base) (has.each base v) (s.fits base) (s.live base v) ∙ ap loaded_content e in
          lead program l Covered Alarmed (at (Fetch (Integer Int) ∷ rest) (Usable (address_of l base) ∷ held) m) (at rest (Usable (plain w) ∷ held) m) refl (λ out step. rw read at step) n after

  -- a held number is stored in a variable whose address is held below it
  pub number_stored : (env : Env) (base : ℕ) (v : ℤ) (rest : List Work) (held : List Held) (m : Memory) (n : ℕ) → IsVariable count base → Shows count env m →
      Fine n (at rest (Usable (plain v) ∷ held) (with_base m base (Some (int_cells (Some v))))) →
      Fine n (at (Store (Integer Int) ∷ rest) (Usable (plain v) ∷ Usable (address_of l base) ∷ held) m)
  number_stored env base v rest held m n is s after =
      let write : stored l m (Integer Int) (address_of l base) (plain v) ≡ Ok (with_base m base (Some (int_cells (Some v)))) =
      stored_int l m base (env base) v (has.each base is) (s.live base is) in
      lead program l Covered Alarmed (at (Store (Integer Int) ∷ rest) (Usable (plain v) ∷ Usable (address_of l base) ∷ held) m)
      (at rest (Usable (plain v) ∷ held) (with_base m base (Some (int_cells (Some v))))) refl (λ out step. rw write at step) n after

  -- a function that has no caller returns: the run ends
  abbrev after : Exit → Held → List Held → Memory → State
  after e h held m = at e.rest (handed e.dying h ∷ held) (died e.dying m)

  pub ends_at : (work : Work) (rest : List Work) (held left : List Held) (m : Memory) (h : Held) (e : Exit) (n : ℕ) → arrival (work ∷ rest) ≡ None → e.rest ≡ [] →
      ((out : Outcome) → Step program l (at (work ∷ rest) held m) out → out ≡ Goes (after e h left m)) → Fine n (at (work ∷ rest) held m)
  ends_at work rest held left m h e n silent last step =
      lead program l Covered Alarmed (at (work ∷ rest) held m) (after e h left m) silent step n
      (rw last (halt program l Covered Alarmed (handed e.dying h ∷ left) (died e.dying m) n))

  -- a value is handed to the caller of the first function
  pub delivered : (id : ℕ) (rest : List Work) (held : List Held) (m : Memory) (v : Value) (e : Exit) (n : ℕ) → exit_of [] rest ≡ Some e → e.rest ≡ [] →
      Fine n (at (Deliver id ∷ rest) (Usable v ∷ held) m)
  delivered id rest held m v e n out last =
      ends_at (Deliver id) rest (Usable v ∷ held) held m (Usable v) e n refl last (λ o step. rw out at step)

  -- the closing brace of the first function is reached
  pub brace_reached : (id : ℕ) (result : ResultType) (rest : List Work) (held : List Held) (m : Memory) (e : Exit) (n : ℕ) → exit_of [] rest ≡ Some e → e.rest ≡ [] →
      Covered id (sites_of rest) m → Fine n (at (Brace id result ∷ rest) held m)
  brace_reached id result rest held m e zero out last covered = tt
  brace_reached id result rest held m e (suc n) out last covered =
      lead_from program l Covered Alarmed (at (Brace id result ∷ rest) held m) (after e (fallen result (Some e)) held m) id refl covered
      (λ o step. rw out at step) n (rw last (halt program l Covered Alarmed (handed e.dying (fallen result (Some e)) ∷ held) (died e.dying m) n))

  -- an expression without effects is evaluated: its number is held, or its evaluation stops with an alarm
  pub evaluated : (env : Env) (e : Expr) (rest : List Work) (held : List Held) (m : Memory) (n : ℕ) → IsPlain count e → Shows count env m →
      MatchResult (value env e) (λ v. Fine n (at rest (Usable (plain v) ∷ held) m)) (λ kind. Alarmed kind (statement_in rest) (sites_of rest)) →
      Fine n (at (Evaluate e ∷ rest) held m)
  evaluated env (Number kind v) rest held m n is s after = rw is (number_held v rest held m n after)
  evaluated env (Load kind (Variable base)) rest held m n is s after =
      rw is.0 (variable_held env base rest held m n is.1 s (by_content (env base) after))
    where
      by_content : (content : Option ℤ) → MatchResult (content_value content) (λ v. Fine n (at rest (Usable (plain v) ∷ held) m)) (λ kind. Alarmed kind (statement_in rest) (sites_of rest)) →
          MatchResult (loaded_content content) (λ v. Fine n (at rest (Usable v ∷ held) m)) (λ kind. Alarmed kind (statement_in rest) (sites_of rest))
      by_content None h = h
      by_content (Some v) h = h
  evaluated env (Binary op kind a b) rest held m n is s after =
      lead program l Covered Alarmed (at (Evaluate (Binary op kind a b) ∷ rest) held m) (at (Evaluate a ∷ Evaluate b ∷ Apply op kind ∷ rest) held m) refl (λ out step. step) n
      (evaluated env a (Evaluate b ∷ Apply op kind ∷ rest) held m n is.1 s (left (value env a) (value env b) after (λ h. evaluated env b (Apply op kind ∷ rest) h m n is.2 s)))
    where
      operated : (x y : ℤ) (r : Result ℤ Kind) → applied op kind Lp64 x y ≡ r → MatchResult r (λ v. Fine n (at rest (Usable (plain v) ∷ held) m)) (λ k. Alarmed k (statement_in rest) (sites_of rest)) →
          Fine n (at (Apply op kind ∷ rest) (Usable (plain y) ∷ Usable (plain x) ∷ held) m)
      operated x y (Ok v) e h =
          lead program l Covered Alarmed (at (Apply op kind ∷ rest) (Usable (plain y) ∷ Usable (plain x) ∷ held) m) (at rest (Usable (plain v) ∷ held) m) refl
          (λ out step. rw (has.machine, e, no_provenance op) at step) n h
      operated x y (Err k) e h =
          stop program l Covered Alarmed (at (Apply op kind ∷ rest) (Usable (plain y) ∷ Usable (plain x) ∷ held) m) k (statement_in rest) (sites_of rest) refl h
          (λ out step. rw (has.machine, e) at step) n

      right : (x : ℤ) (y : Result ℤ Kind) → MatchResult (combined op kind (Ok x) y) (λ v. Fine n (at rest (Usable (plain v) ∷ held) m)) (λ k. Alarmed k (statement_in rest) (sites_of rest)) →
          MatchResult y (λ w. Fine n (at (Apply op kind ∷ rest) (Usable (plain w) ∷ Usable (plain x) ∷ held) m)) (λ k. Alarmed k (statement_in rest) (sites_of rest))
      right x (Ok y) h = operated x y (applied op kind Lp64 x y) refl h
      right x (Err k) h = h

      left : (x y : Result ℤ Kind) → MatchResult (combined op kind x y) (λ v. Fine n (at rest (Usable (plain v) ∷ held) m)) (λ k. Alarmed k (statement_in rest) (sites_of rest)) →
          ((h : List Held) → MatchResult y (λ v. Fine n (at (Apply op kind ∷ rest) (Usable (plain v) ∷ h) m)) (λ k. Alarmed k (statement_in rest) (sites_of rest)) →
          Fine n (at (Evaluate b ∷ Apply op kind ∷ rest) h m)) →
          MatchResult x (λ v. Fine n (at (Evaluate b ∷ Apply op kind ∷ rest) (Usable (plain v) ∷ held) m)) (λ k. Alarmed k (statement_in rest) (sites_of rest))
      left (Ok x) y h next = next (Usable (plain x) ∷ held) (right x y h)
      left (Err k) y h next = h
  evaluated env (Load kind (Pointed e t volatile)) rest held m n is s after = absurd is
  evaluated env (Load kind (Temporary e t)) rest held m n is s after = absurd is
  evaluated env (Load kind (Member q c k)) rest held m n is s after = absurd is
  evaluated env (Load kind (Element q e t k end)) rest held m n is s after = absurd is
  evaluated env (Load kind (ElementOf e q t k end)) rest held m n is s after = absurd is
  evaluated env (Assign kind p e) rest held m n is s after = absurd is
  evaluated env (LoadCells t p) rest held m n is s after = absurd is
  evaluated env (AssignCells t p e) rest held m n is s after = absurd is
  evaluated env (Address t p) rest held m n is s after = absurd is
  evaluated env (Unary op kind e) rest held m n is s after = absurd is
  evaluated env (Convert t e) rest held m n is s after = absurd is
  evaluated env (OnPointers op left right a b) rest held m n is s after = absurd is
  evaluated env (Logic is_and a b) rest held m n is s after = absurd is
  evaluated env (Conditional t a b c) rest held m n is s after = absurd is
  evaluated env (Compound op t left right p e) rest held m n is s after = absurd is
  evaluated env (StepExpr up behind t p) rest held m n is s after = absurd is
  evaluated env (Comma a b) rest held m n is s after = absurd is
  evaluated env (Call site t p arguments) rest held m n is s after = absurd is
