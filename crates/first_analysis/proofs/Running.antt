-- Rows that flow cover every run of the statements.
use Rattle.std.proofs.Common.{◌≡◌, ℕ, zero, suc, ◌+◌, ◌≤◌, Bool, true, false, IsTrue, cond, List, [], ◌∷◌, map, take, drop, None, Some, Result, Ok, Err, ℤ, refl, ap, ◌∙◌, arith}
use Rattle.std.specs.Prelude.{slice_get, MatchResult}
use Rattle.c_base.specs.declared.kind.Kind.{Kind}
use Rattle.first_program.specs.Source.{Sum}
use Rattle.first_program.specs.Source.{Test}
use Rattle.c_memory.specs.Values.{Cell, Uninit, Dead, Bit, plain, wither}
use Rattle.c_memory.specs.Layouts.{Layout}
use Rattle.c_memory.specs.Memories.{Memory, address_of, with_base, died, withered}
use Rattle.c_program.specs.Syntax.{Expr, Variable, Assign, Stmt, Expression, Return, Block, Nothing, Stmts, Done, Next, Program}
use Rattle.first_program.specs.Source as source
use Rattle.first_program.specs.Source.{count}
use Rattle.first_program.specs.SourceViews.{IsSumShaped, IsTestShaped, IsStmtShaped, AreStmtsShaped}
use Rattle.first_program.specs.Meaning.{int_type, sum_expr, test_expr, stmt_of, stmts_of}
use Rattle.c_memory.proofs.IntMemory.{int_cells}
use Rattle.first_analysis.specs.Evaluation.{Env, set, IsVariable, IsPlain, value, is_true}
use Rattle.c_machine.specs.Machine.{Work, Do, Evaluate, Locate, Store, Discard, Choose, Loop, Turn, Deliver, Close, Held, Usable, State, Outcome, Goes, Exit, Step, arrival, queued, sites_of, exit_of, statement_in}
use Rattle.c_machine.proofs.Runs.{Good, lead, lead_from}
use Rattle.first_analysis.proofs.IntMachine.{Shows, HasVariables, AreStill, shows_set, evaluated, number_stored, delivered}
use Rattle.first_analysis.specs.Flow.{Spot, Below, IsAlarmed, IsAssigned, IsBranch, Flow, FlowAll}
use Rattle.first_analysis.proofs.Soundness.{sum_plain, test_plain, sum_fits}

-- ---- a block without objects leaves memories as they show

withered_none : (cells : List Cell) → map (wither []) cells ≡ cells
withered_none [] = refl
withered_none (Uninit ∷ cells) = ap (λ cs. Uninit ∷ cs) (withered_none cells)
withered_none (Dead ∷ cells) = ap (λ cs. Dead ∷ cs) (withered_none cells)
withered_none (Bit b p i ∷ cells) = ap (λ cs. Bit b p i ∷ cs) (withered_none cells)

died_none : (count : ℕ) (env : Env) (m : Memory) → Shows count env m → Shows count env (died [] m)
died_none count env m s = record {
  live = λ base v. ap (withered []) (s.live base v) ∙ ap Some (withered_none (int_cells (env base)));
  fits = s.fits;
  none = ap (withered []) s.none;
  beyond = λ base out. ap (withered []) (s.beyond base out);
}

-- ---- spots and their numbers

module _ (program : Program) (Row : Type 0) (Holds : Row → Env → Type 0) (l : Layout) (Covered : ℕ → List ℕ → Memory → Type 0) (Alarmed : Kind → ℕ → List ℕ → Type 0) (variables : ℕ) (has : HasVariables l variables) (still : AreStill program variables) where
  -- the spots stand at the statements from a number on: their rows cover, and their alarms are alarms
  pub record Stands (id : ℕ) (spots : List (Spot Row Holds)) : Type 0 where
    pub covers : (k : ℕ) (s : Spot Row Holds) → slice_get spots k ≡ Some s → (env : Env) (m : Memory) → Shows variables env m → Holds s.row env → Covered (id + k) [] m
    pub alarms : (k : ℕ) (s : Spot Row Holds) → slice_get spots k ≡ Some s → (kind : Kind) → IsTrue (s.alarms kind) → Alarmed kind (id + k) []

  get_take : (spots : List (Spot Row Holds)) (n k : ℕ) (s : Spot Row Holds) → slice_get (take n spots) k ≡ Some s → slice_get spots k ≡ Some s
  get_take [] zero k s e = e
  get_take [] (suc n) k s e = e
  get_take (x ∷ spots) zero k s e = absurd (cc)
  get_take (x ∷ spots) (suc n) zero s e = e
  get_take (x ∷ spots) (suc n) (suc k) s e = get_take spots n k s e

  get_drop : (spots : List (Spot Row Holds)) (n k : ℕ) (s : Spot Row Holds) → slice_get (drop n spots) k ≡ Some s → slice_get spots (n + k) ≡ Some s
  get_drop spots zero k s e = let same : 0 + k ≡ k = omega arith in rw same e
  get_drop [] (suc n) k s e = absurd (cc)
  get_drop (x ∷ spots) (suc n) k s e = let same : suc n + k ≡ suc (n + k) = omega arith in rw same (get_drop spots n k s e)

  stands_take : (id n : ℕ) (spots : List (Spot Row Holds)) → Stands id spots → Stands id (take n spots)
  stands_take id n spots h = record { covers = λ k s e. h.covers k s (get_take spots n k s e); alarms = λ k s e. h.alarms k s (get_take spots n k s e) }

  stands_drop : (id n : ℕ) (spots : List (Spot Row Holds)) → Stands id spots → Stands (id + n) (drop n spots)
  stands_drop id n spots h = record {
    covers = λ k s e env m show held. let same : (id + n) + k ≡ id + (n + k) = omega arith in rw same (h.covers (n + k) s (get_drop spots n k s e) env m show held);
    alarms = λ k s e kind is. let same : (id + n) + k ≡ id + (n + k) = omega arith in rw same (h.alarms (n + k) s (get_drop spots n k s e) kind is);
  }

  stands_rest : (id : ℕ) (s : Spot Row Holds) (spots : List (Spot Row Holds)) → Stands id (s ∷ spots) → Stands (suc id) spots
  stands_rest id s spots h = record {
    covers = λ k t e env m show held. let same : suc id + k ≡ id + suc k = omega arith in rw same (h.covers (suc k) t e env m show held);
    alarms = λ k t e kind is. let same : suc id + k ≡ id + suc k = omega arith in rw same (h.alarms (suc k) t e kind is);
  }

  here_covers : (id : ℕ) (s : Spot Row Holds) (spots : List (Spot Row Holds)) → Stands id (s ∷ spots) → (env : Env) (m : Memory) → Shows variables env m → Holds s.row env → Covered id [] m
  here_covers id s spots h env m show held = let same : id + 0 ≡ id = omega arith in rw same at (h.covers 0 s refl env m show held)

  here_alarms : (id : ℕ) (s : Spot Row Holds) (spots : List (Spot Row Holds)) → Stands id (s ∷ spots) → (kind : Kind) → IsTrue (s.alarms kind) → Alarmed kind id []
  here_alarms id s spots h kind is = let same : id + 0 ≡ id = omega arith in rw same at (h.alarms 0 s refl kind is)

  -- ---- work

  abbrev at : List Work → List Held → Memory → State
  at control held m = record { control = control; held = held; memory = m }

  abbrev Fine : ℕ → State → Type 0
  Fine n s = Good program l Covered Alarmed n s

  -- work behind which the function that was entered first ends
  pub record IsEnding (rest : List Work) : Type 0 where
    pub sites : sites_of rest ≡ []
    pub exit : Exit
    pub out : exit_of [] rest ≡ Some exit
    pub last : exit.rest ≡ []

  queued_ending : (stmts : Stmts) (rest : List Work) → IsEnding rest → IsEnding (queued stmts rest)
  queued_ending stmts rest h = record { sites = queued_sites stmts ∙ h.sites; exit = h.exit; out = queued_exit stmts ∙ h.out; last = h.last }
    where
      queued_sites : (stmts : Stmts) → sites_of (queued stmts rest) ≡ sites_of rest
      queued_sites Done = refl
      queued_sites (Next s more) = queued_sites more

      queued_exit : (stmts : Stmts) → exit_of [] (queued stmts rest) ≡ exit_of [] rest
      queued_exit Done = refl
      queued_exit (Next s more) = queued_exit more

  -- work goes on well for fewer than n steps from whatever the row holds
  pub record GoesOn (n : ℕ) (rest : List Work) (row : Row) : Type 0 where
    pub each : (k : ℕ) → k ≤ n → (env : Env) (m : Memory) → Shows variables env m → Holds row env → Fine k (at rest [] m)

  less : (n k : ℕ) (rest : List Work) (row : Row) → k ≤ n → GoesOn n rest row → GoesOn k rest row
  less n k rest row h g = record { each = λ j i. g.each j (omega arith) }

  -- a statement at which the run arrives, and how it goes on
  arrive : (s : source.Stmt) (id : ℕ) (rest next : List Work) (m : Memory) → arrival (Do (stmt_of id s) ∷ rest) ≡ Some id → Covered id [] m → sites_of rest ≡ [] →
      ((out : Outcome) → Step program l (at (Do (stmt_of id s) ∷ rest) [] m) out → out ≡ Goes (at next [] m)) → (n : ℕ) → ((k : ℕ) → k ≤ n → Fine k (at next [] m)) → Fine n (at (Do (stmt_of id s) ∷ rest) [] m)
  arrive s id rest next m here covered none step zero later = tt
  arrive s id rest next m here covered none step (suc n) later =
      lead_from program l Covered Alarmed (at (Do (stmt_of id s) ∷ rest) [] m) (at next [] m) id here (rw none covered) step n (later n (omega arith))

  -- an expression of the statement is evaluated, and its number leads on
  module _ (id : ℕ) (s : Spot Row Holds) (spots : List (Spot Row Holds)) (stands : Stands id (s ∷ spots)) where
    expression_held : (e : Expr) (rest : List Work) (held : List Held) (env : Env) (m : Memory) (n : ℕ) → statement_in rest ≡ id → sites_of rest ≡ [] →
        IsPlain variables e → IsAlarmed Row Holds s e → Shows variables env m → Holds s.row env →
        ((v : ℤ) → value env e ≡ Ok v → Fine n (at rest (Usable (plain v) ∷ held) m)) → Fine n (at (Evaluate e ∷ rest) held m)
    expression_held e rest held env m n named none is alarmed show inside later =
        evaluated program l Covered Alarmed variables has still env e rest held m n is show (by_result (value env e) refl (alarmed.each env inside))
      where
        by_result : (x : Result ℤ Kind) → value env e ≡ x → MatchResult x (λ v. Unit {0}) (λ kind. IsTrue (s.alarms kind)) →
            MatchResult x (λ v. Fine n (at rest (Usable (plain v) ∷ held) m)) (λ kind. Alarmed kind (statement_in rest) (sites_of rest))
        by_result (Ok v) e h = later v e
        by_result (Err kind) e h = rw (named, none) (here_alarms id s spots stands kind h)

    -- a test leads to the branch of its truth
    branch_held : (e : Expr) (rest when_true when_false : List Work) (turn other : Row) (env : Env) (m : Memory) (n : ℕ) → statement_in rest ≡ id → sites_of rest ≡ [] →
        IsPlain variables e → IsAlarmed Row Holds s e → IsBranch Row Holds s e true turn → IsBranch Row Holds s e false other → Shows variables env m → Holds s.row env →
        arrival rest ≡ None →
        ((v : ℤ) (out : Outcome) → Step program l (at rest (Usable (plain v) ∷ []) m) out → out ≡ Goes (at (cond (is_true v) when_true when_false) [] m)) →
        (Holds turn env → Fine n (at when_true [] m)) → (Holds other env → Fine n (at when_false [] m)) → Fine n (at (Evaluate e ∷ rest) [] m)
    branch_held e rest when_true when_false turn other env m n named none is alarmed turned otherwise show inside silent step left right =
        expression_held e rest [] env m n named none is alarmed show inside
        (λ v is_v. by_truth v (is_true v) refl (rw is_v at (turned.each env inside)) (rw is_v at (otherwise.each env inside)))
      where
        by_truth : (v : ℤ) (b : Bool) → is_true v ≡ b → (is_true v ≡ true → Holds turn env) → (is_true v ≡ false → Holds other env) → Fine n (at rest (Usable (plain v) ∷ []) m)
        by_truth v true e y z =
            lead program l Covered Alarmed (at rest (Usable (plain v) ∷ []) m) (at when_true [] m) silent (λ out t. let u = step v out t in rw e at u) n (left (y e))
        by_truth v false e y z =
            lead program l Covered Alarmed (at rest (Usable (plain v) ∷ []) m) (at when_false [] m) silent (λ out t. let u = step v out t in rw e at u) n (right (z e))

    assignment_good : (target : ℕ) (sum : Sum) (rest : List Work) (before after : Row) (env : Env) (m : Memory) (n : ℕ) → IsVariable variables target → IsSumShaped variables sum →
        Below Row Holds before s.row → IsAlarmed Row Holds s (sum_expr sum) → IsAssigned Row Holds s target (sum_expr sum) after → IsEnding rest → GoesOn n rest after →
        Shows variables env m → Holds before env → Fine n (at (Do (Expression id (Assign int_type (Variable target) (sum_expr sum))) ∷ rest) [] m)
    assignment_good target sum rest before after env m n is shaped below alarmed assigned ending goes show inside =
        arrive (source.Assign (record { 0 = target }) sum) id rest (Evaluate assign ∷ Discard id ∷ rest) m refl (here_covers id s spots stands env m show held) ending.sites (λ out step. step) n
        (λ k less_n.
        lead program l Covered Alarmed (at (Evaluate assign ∷ Discard id ∷ rest) [] m) (at (Locate (Variable target) ∷ Evaluate (sum_expr sum) ∷ Store int_type ∷ Discard id ∷ rest) [] m) refl (λ out step. step) k
        (lead program l Covered Alarmed (at (Locate (Variable target) ∷ Evaluate (sum_expr sum) ∷ Store int_type ∷ Discard id ∷ rest) [] m)
        (at (Evaluate (sum_expr sum) ∷ Store int_type ∷ Discard id ∷ rest) (Usable (address_of l target) ∷ []) m) refl (λ out step. step) k
        (expression_held (sum_expr sum) (Store int_type ∷ Discard id ∷ rest) (Usable (address_of l target) ∷ []) env m k refl ending.sites (sum_plain variables sum shaped) alarmed show held
        (λ v is_v.
        let fits = sum_fits variables env show.fits sum shaped v is_v in
        number_stored program l Covered Alarmed variables has still env target v (Discard id ∷ rest) [] m k is show
        (lead program l Covered Alarmed (at (Discard id ∷ rest) (Usable (plain v) ∷ []) (stored v)) (at rest [] (stored v)) refl (λ out step. step) k
        (goes.each k less_n (set env target v) (stored v) (shows_set variables env m target v is fits show) ((rw is_v at (assigned.each env held)) fits)))))))
      where
        held : Holds s.row env
        held = below.each env inside

        assign : Expr
        assign = Assign int_type (Variable target) (sum_expr sum)

        stored : ℤ → Memory
        stored v = with_base m target (Some (int_cells (Some v)))

    return_good : (sum : Sum) (rest : List Work) (before : Row) (env : Env) (m : Memory) (n : ℕ) → IsSumShaped variables sum →
        Below Row Holds before s.row → IsAlarmed Row Holds s (sum_expr sum) → IsEnding rest → Shows variables env m → Holds before env → Fine n (at (Do (Return id (sum_expr sum)) ∷ rest) [] m)
    return_good sum rest before env m n shaped below alarmed ending show inside =
        arrive (source.Return sum) id rest (Evaluate (sum_expr sum) ∷ Deliver id ∷ rest) m refl (here_covers id s spots stands env m show held) ending.sites (λ out step. step) n
        (λ k less_n. expression_held (sum_expr sum) (Deliver id ∷ rest) [] env m k refl ending.sites (sum_plain variables sum shaped) alarmed show held
        (λ v is_v. delivered program l Covered Alarmed variables has still id rest [] m (plain v) ending.exit k ending.out ending.last))
      where
        held : Holds s.row env
        held = below.each env inside

    choice_good : (test : Test) (then other : source.Stmt) (rest : List Work) (before turn turned after : Row) (env : Env) (m : Memory) (n : ℕ) → IsTestShaped variables test →
        Below Row Holds before s.row → IsAlarmed Row Holds s (test_expr test) → IsBranch Row Holds s (test_expr test) true turn → IsBranch Row Holds s (test_expr test) false turned → IsEnding rest →
        ((k : ℕ) → k ≤ n → Holds turn env → Fine k (at (Do (stmt_of (suc id) then) ∷ rest) [] m)) →
        ((k : ℕ) → k ≤ n → Holds turned env → Fine k (at (Do (stmt_of (suc id + count then) other) ∷ rest) [] m)) →
        Shows variables env m → Holds before env → Fine n (at (Do (stmt_of id (source.If test then other)) ∷ rest) [] m)
    choice_good test then other rest before turn turned after env m n shaped below alarmed left right ending goes_left goes_right show inside =
        arrive (source.If test then other) id rest (Evaluate (test_expr test) ∷ choose ∷ rest) m refl (here_covers id s spots stands env m show held) ending.sites (λ out step. step) n
        (λ k less_n. branch_held (test_expr test) (choose ∷ rest) (Do (stmt_of (suc id) then) ∷ rest) (Do (stmt_of (suc id + count then) other) ∷ rest) turn turned env m k refl ending.sites
        (test_plain variables test shaped) alarmed left right show held refl (λ v out step. step) (goes_left k less_n) (goes_right k less_n))
      where
        held : Holds s.row env
        held = below.each env inside

        choose : Work
        choose = Choose id (stmt_of (suc id) then) (stmt_of (suc id + count then) other)

    -- a loop: its body goes on well to the head, as long as the head goes on well
    module _ (test : Test) (body : source.Stmt) (rest : List Work) (turn back after : Row) (shaped : IsTestShaped variables test) (returns : Below Row Holds back s.row)
        (alarmed : IsAlarmed Row Holds s (test_expr test)) (left : IsBranch Row Holds s (test_expr test) true turn) (right : IsBranch Row Holds s (test_expr test) false after) (ending : IsEnding rest)
        (around : (k : ℕ) (tail : List Work) → IsEnding tail → GoesOn k tail back → (env : Env) (m : Memory) → Shows variables env m → Holds turn env →
        Fine k (at (Do (stmt_of (suc id) body) ∷ tail) [] m)) where
      abbrev head : Work
      head = Loop id (test_expr test) (stmt_of (suc id) body)

      loop_good : (n k : ℕ) → k ≤ n → GoesOn n rest after → (env : Env) (m : Memory) → Shows variables env m → Holds s.row env → Fine k (at (head ∷ rest) [] m)
      loop_good n zero h goes env m show inside = tt
      loop_good zero (suc k) h goes env m show inside = absurd (omega arith)
      loop_good (suc n) (suc k) h goes env m show inside =
          lead_from program l Covered Alarmed (at (head ∷ rest) [] m) (at (Evaluate (test_expr test) ∷ Turn id (test_expr test) (stmt_of (suc id) body) ∷ rest) [] m) id refl
          (rw ending.sites (here_covers id s spots stands env m show inside)) (λ out step. step) k
          (branch_held (test_expr test) (Turn id (test_expr test) (stmt_of (suc id) body) ∷ rest) (Do (stmt_of (suc id) body) ∷ head ∷ rest) rest turn after env m k refl ending.sites
          (test_plain variables test shaped) alarmed left right show inside refl (λ v out step. step)
          (λ holds. around k (head ∷ rest) (record { sites = ending.sites; exit = ending.exit; out = ending.out; last = ending.last })
          (record { each = λ j i e c sh b. loop_good n j (omega arith) (less (suc n) n rest after (omega arith) goes) e c sh (returns.each e b) }) env m show holds)
          (λ holds. goes.each k (omega arith) env m show holds))

  mutual
    -- a statement through which rows flow goes on well from whatever the row before it holds
    pub statement_good : (stmt : source.Stmt) (id : ℕ) (spots : List (Spot Row Holds)) (before after : Row) (rest : List Work) → IsStmtShaped variables stmt → Flow Row Holds stmt spots before after →
        Stands id spots → IsEnding rest → (n : ℕ) → GoesOn n rest after → (env : Env) (m : Memory) → Shows variables env m → Holds before env → Fine n (at (Do (stmt_of id stmt) ∷ rest) [] m)
    statement_good (source.Assign target sum) id [] before after rest shaped f stands ending n goes env m show inside = absurd f
    statement_good (source.Assign target sum) id (s ∷ []) before after rest shaped f stands ending n goes env m show inside =
        assignment_good id s [] stands target.0 sum rest before after env m n (record { low = shaped.0; high = shaped.1 }) shaped.2 f.0 f.1 f.2 ending goes show inside
    statement_good (source.Assign target sum) id (s ∷ t ∷ spots) before after rest shaped f stands ending n goes env m show inside = absurd f
    statement_good (source.Return sum) id [] before after rest shaped f stands ending n goes env m show inside = absurd f
    statement_good (source.Return sum) id (s ∷ []) before after rest shaped f stands ending n goes env m show inside =
        return_good id s [] stands sum rest before env m n shaped f.0 f.1 ending show inside
    statement_good (source.Return sum) id (s ∷ t ∷ spots) before after rest shaped f stands ending n goes env m show inside = absurd f
    statement_good (source.If test then other) id [] before after rest shaped f stands ending n goes env m show inside = absurd f
    statement_good (source.If test then other) id (s ∷ spots) before after rest shaped f stands ending n goes env m show inside =
        let later = stands_rest id s spots stands in
        choice_good id s spots stands test then other rest before f.2.0 f.2.1 after env m n shaped.0 f.0 f.1 f.2.4 f.2.5 ending
        (λ k h holds. statement_good then (suc id) (take (count then) spots) f.2.0 f.2.2 rest shaped.1 f.2.6 (stands_take (suc id) (count then) spots later) ending k
        (record { each = λ j i e c sh b. goes.each j (omega arith) e c sh (f.2.8.each e b) }) env m show holds)
        (λ k h holds. statement_good other (suc id + count then) (drop (count then) spots) f.2.1 f.2.3 rest shaped.2 f.2.7 (stands_drop (suc id) (count then) spots later) ending k
        (record { each = λ j i e c sh b. goes.each j (omega arith) e c sh (f.2.9.each e b) }) env m show holds)
        show inside
    statement_good (source.While test body) id [] before after rest shaped f stands ending n goes env m show inside = absurd f
    statement_good (source.While test body) id (s ∷ spots) before after rest shaped f stands ending n goes env m show inside =
        lead program l Covered Alarmed (at (Do (stmt_of id (source.While test body)) ∷ rest) [] m) (at (Loop id (test_expr test) (stmt_of (suc id) body) ∷ rest) [] m) refl (λ out step. step) n
        (loop_good id s spots stands test body rest f.2.0 f.2.1 after shaped.0 f.2.5 f.1 f.2.2 f.2.3 ending
        (λ k tail ends on e c sh h. statement_good body (suc id) spots f.2.0 f.2.1 tail shaped.1 f.2.4 (stands_rest id s spots stands) ends k on e c sh h)
        n n (omega arith) goes env m show (f.0.each env inside))
    statement_good (source.Block stmts) id spots before after rest shaped f stands ending n goes env m show inside =
        lead program l Covered Alarmed (at (Do (Block [] (stmts_of id stmts)) ∷ rest) [] m) (at (queued (stmts_of id stmts) (Close [] (stmts_of id stmts) ∷ rest)) [] m) refl (λ out step. step) n
        (statements_good stmts id spots before after (Close [] (stmts_of id stmts) ∷ rest) shaped f stands
        (record { sites = ending.sites; exit = ending.exit; out = ending.out; last = ending.last }) n
        (record {
          each = λ k h e c sh b. lead program l Covered Alarmed (at (Close [] (stmts_of id stmts) ∷ rest) [] c) (at rest [] (died [] c)) refl (λ out step. step) k
              (goes.each k h e (died [] c) (died_none variables e c sh) b);
        }) env m show inside)
    statement_good source.Nothing id [] before after rest shaped f stands ending n goes env m show inside =
        lead program l Covered Alarmed (at (Do Nothing ∷ rest) [] m) (at rest [] m) refl (λ out step. step) n (goes.each n (omega arith) env m show (f.each env inside))
    statement_good source.Nothing id (s ∷ spots) before after rest shaped f stands ending n goes env m show inside = absurd f

    pub statements_good : (stmts : source.Stmts) (id : ℕ) (spots : List (Spot Row Holds)) (before after : Row) (rest : List Work) → AreStmtsShaped variables stmts →
        FlowAll Row Holds stmts spots before after → Stands id spots → IsEnding rest → (n : ℕ) → GoesOn n rest after → (env : Env) (m : Memory) → Shows variables env m → Holds before env →
        Fine n (at (queued (stmts_of id stmts) rest) [] m)
    statements_good source.Done id [] before after rest shaped f stands ending n goes env m show inside = goes.each n (omega arith) env m show (f.each env inside)
    statements_good source.Done id (s ∷ spots) before after rest shaped f stands ending n goes env m show inside = absurd f
    statements_good (source.Next stmt more) id spots before after rest shaped f stands ending n goes env m show inside =
        statement_good stmt id (take (count stmt) spots) before f.0 (queued (stmts_of (id + count stmt) more) rest) shaped.0 f.1 (stands_take id (count stmt) spots stands)
        (queued_ending (stmts_of (id + count stmt) more) rest ending) n
        (record {
          each = λ k h e c sh b. statements_good more (id + count stmt) (drop (count stmt) spots) f.0 after rest shaped.1 f.2 (stands_drop id (count stmt) spots stands) ending k
              (less n k rest after h goes) e c sh b;
        }) env m show inside
