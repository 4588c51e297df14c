-- The report of a program covers its runs.
use Rattle.std.proofs.Common.{◌≡◌, ℕ, zero, suc, ◌+◌, ◌<◌, ◌≤◌, Bool, true, false, IsTrue, List, [], ◌∷◌, ◌++◌, length, get_or, map, Option, None, Some, ℤ, refl, inl, inr, arith}
use Rattle.std.specs.Prelude.{slice_get}
use Rattle.std.proofs.lemmas.Int.{ints}
use Rattle.c_base.specs.declared.kind.Kind.{Kind}
use Rattle.c_base.specs.declared.kind.Kind.TheVariants.{SignedOverflow, Initialization}
use Rattle.c_base.specs.declared.number.Span.{Span}
use Rattle.c_memory.specs.Layouts.{Layout}
use Rattle.c_memory.specs.Memories.{Memory, born}
use Rattle.c_program.specs.Syntax.{is_shown, numbers_from, Stmts, Done, Returns}
use Rattle.first_program.specs.Source.{Program, count_all}
use Rattle.first_program.specs.SourceViews.{IsShaped}
use Rattle.first_program.specs.Meaning.{meaning_of, stmts_of, int_type}
use Rattle.first_analysis.specs.Evaluation.{Env}
use Rattle.c_machine.specs.Machine.{Work, Body, Brace, Close, Frame, State, Exit, queued, initial_memory}
use Rattle.c_machine.proofs.Runs.{Good, good_run, lead}
use Rattle.first_analysis.proofs.IntMachine.{HasVariables, Shows, brace_reached}
use Rattle.first_analysis.specs.declared.content.Content.{Content}
use Rattle.first_analysis.specs.declared.place.Place.{Place}
use Rattle.first_analysis.specs.declared.evaluation.Kinds.{Kinds}
use Rattle.first_analysis.specs.declared.range.Range.{Range}
use Rattle.first_analysis.specs.Contents.{Row, IsWithin, HoldsRow, HoldsReached, Holds, FitsInt}
use Rattle.first_analysis.specs.Values.{has_kind}
use Rattle.first_analysis.specs.Tables.{Reached, PlaceSpot, spot_of, IsAnalysis}
use Rattle.first_analysis.proofs.Running.{Stands, IsEnding, GoesOn, statements_good}
use Rattle.eva_claim.specs.Numbering.{IsIn}
use Rattle.eva_claim.specs.Claims.{IsCovered, IsAlarmed, IsSound, names_of}
use Rattle.first_report.specs.Rows.{bounds_of, shown_of, shown_or, shown_all, anything, row_from, line_of, lines_from, alarm_if, place_alarms, alarms_from, report_of}
use Rattle.first_report.proofs.Entries.{length-shown, shown_at}
use Rattle.first_report.proofs.Placing.{has_variables, still, shows_born, nothing_before}
use Rattle.first_report.proofs.Describing.{Allows, AreBounds, row_describes}

-- ---- what stands in the report

in_right : {X : Type 0} (x : X) (xs ys : List X) → IsIn x ys → IsIn x (xs ++ ys)
in_right x [] ys h = h
in_right x (y ∷ xs) ys h = inr (in_right x xs ys h)

in_left : {X : Type 0} (x : X) (xs ys : List X) → IsIn x xs → IsIn x (xs ++ ys)
in_left x [] ys h = absurd h
in_left x (y ∷ xs) ys (inl e) = inl e
in_left x (y ∷ xs) ys (inr h) = inr (in_left x xs ys h)

-- the line of a place
line_in : (names : ℕ → List ℕ) (count id : ℕ) (places : List Place) (spans : List Span) (k : ℕ) (p : Place) → length places ≤ length spans → slice_get places k ≡ Some p →
    (span : Span) × IsIn (line_of names count (id + k) p span) (lines_from names count id places spans)
line_in names count id [] spans k p long e = absurd (cc)
line_in names count id (q ∷ places) [] k p long e = absurd (omega arith)
line_in names count id (q ∷ places) (span ∷ spans) zero p long e =
    let same : q ≡ p = cc in let here : id + 0 ≡ id = omega arith in (span, rw (here, same) (inl refl))
line_in names count id (q ∷ places) (span ∷ spans) (suc k) p long e =
    let found = line_in names count (suc id) places spans k p (omega arith) e in
    let next : suc id + k ≡ id + suc k = omega arith in (found.0, inr (rw next at found.1))

-- the alarms of a place
if_in : (b : Bool) (kind : Kind) (id : ℕ) → IsTrue b → IsIn (record { kind = kind; at = id; sites = [] }) (alarm_if b kind id)
if_in true kind id h = inl refl
if_in false kind id h = absurd (cc)

kinds_in : (id : ℕ) (ks : Kinds) (kind : Kind) → IsTrue (has_kind ks kind) → IsIn (record { kind = kind; at = id; sites = [] }) (place_alarms id ks)
kinds_in id ks SignedOverflow h = in_left _ (alarm_if ks.overflow SignedOverflow id) (alarm_if ks.initialization Initialization id) (if_in ks.overflow SignedOverflow id h)
kinds_in id ks Initialization h = in_right _ (alarm_if ks.overflow SignedOverflow id) (alarm_if ks.initialization Initialization id) (if_in ks.initialization Initialization id h)
kinds_in id ks other h = absurd (cc)

alarm_in : (id : ℕ) (places : List Place) (k : ℕ) (p : Place) (kind : Kind) → slice_get places k ≡ Some p → IsTrue (has_kind p.kinds kind) →
    IsIn (record { kind = kind; at = id + k; sites = [] }) (alarms_from id places)
alarm_in id [] k p kind e h = absurd (cc)
alarm_in id (q ∷ places) zero p kind e h =
    let same : q ≡ p = cc in let here : id + 0 ≡ id = omega arith in rw (here, same) (in_left _ (place_alarms id p.kinds) (alarms_from (suc id) places) (kinds_in id p.kinds kind h))
alarm_in id (q ∷ places) (suc k) p kind e h =
    let next : id + suc k ≡ suc id + k = omega arith in
    rw next (in_right _ (place_alarms id q.kinds) (alarms_from (suc id) places) (alarm_in (suc id) places k p kind e h))

-- ---- work behind the statements

module _ (body : Stmts) (end : ℕ) (locals : List ℕ) where
  abbrev brace : List Work
  brace = Brace end (Returns int_type) ∷ Close ([] ++ locals) Done ∷ Frame 0 None ∷ []

  abbrev ending : List Work
  ending = Body body ∷ brace

  abbrev exit : Exit
  exit = record { dying = [] ++ ([] ++ locals); function = 0; site = None; rest = [] }

-- ---- the run of a program

get_front : {X : Type 0} (xs ys : List X) (k : ℕ) (x : X) → slice_get xs k ≡ Some x → slice_get (xs ++ ys) k ≡ Some x
get_front [] ys k x e = absurd (cc)
get_front (y ∷ xs) ys zero x e = e
get_front (y ∷ xs) ys (suc k) x e = get_front xs ys k x e

get_behind : {X : Type 0} (xs ys : List X) (k : ℕ) → slice_get (xs ++ ys) (length xs + k) ≡ slice_get ys k
get_behind [] ys k = let same : 0 + k ≡ k = omega arith in rw same refl
get_behind (x ∷ xs) ys k = let same : suc (length xs) + k ≡ suc (length xs + k) = omega arith in rw same (get_behind xs ys k)

get_map : (places : List Place) (k : ℕ) (s : PlaceSpot) → slice_get (map spot_of places) k ≡ Some s → (p : Place) × (slice_get places k ≡ Some p) × (spot_of p ≡ s)
get_map [] k s e = absurd (cc)
get_map (p ∷ places) zero s e = (p, refl, cc)
get_map (p ∷ places) (suc k) s e = get_map places k s e

-- what is shown of a content allows what the content holds, and its bounds are in order
shown_allows : (c : Content) (x : Option ℤ) → Holds c x → AreBounds (shown_of c).bounds × Allows (shown_of c) x
shown_allows c x h = by_range c.range refl x h
  where
    by_range : (range : Option Range) → c.range ≡ range → (x : Option ℤ) → Holds c x → AreBounds (bounds_of range) × Allows (record { bounds = bounds_of range; uninit = c.uninit }) x
    by_range None e None h = (tt, h)
    by_range None e (Some n) h = absurd (rw e at h)
    by_range (Some r) e None h = (r.some, h)
    by_range (Some r) e (Some n) h = let within : IsWithin r n = rw e at h in (r.some, (within.above, within.below))

any_allows : (x : Option ℤ) → FitsInt x → AreBounds anything.bounds × Allows anything x
any_allows None h = (omega (arith, ints), refl)
any_allows (Some n) h = (omega (arith, ints), (grind (arith, ints, h), grind (arith, ints, h)))

row_allows : (count : ℕ) (row : Row) (env : Env) → HoldsRow row env → (i : ℕ) → i < length (shown_all count row) →
    AreBounds (get_or (shown_all count row) i anything).bounds × Allows (get_or (shown_all count row) i anything) (env (suc i))
row_allows count row env h i within =
    let many = length-shown count row in
    rw (← shown_at count row i anything (omega arith)) (by_content (slice_get row i) refl)
  where
    by_content : (c : Option Content) → slice_get row i ≡ c → AreBounds (shown_or c).bounds × Allows (shown_or c) (env (suc i))
    by_content None e = any_allows (env (suc i)) (h.fits (suc i))
    by_content (Some c) e = shown_allows c (env (suc i)) (h.each i c e)

module _ (p : Program) (places : List Place) (l : Layout) (has : HasVariables l (length p.variables)) (long : length places ≤ length p.spans) where
  abbrev Cover : ℕ → List ℕ → Memory → Type 0
  Cover id sites m = IsCovered (meaning_of p) (report_of p places) l id sites m

  abbrev Alarm : Kind → ℕ → List ℕ → Type 0
  Alarm kind id sites = IsAlarmed (report_of p places) kind id sites

  -- the line of a place covers the memories that its row holds
  place_covers : (k : ℕ) (place : Place) → slice_get places k ≡ Some place → (env : Env) (m : Memory) → Shows (length p.variables) env m → HoldsReached place.row env → Cover (1 + k) [] m
  place_covers k place here env m show holds = by_row place.row refl holds
    where
      by_row : (row : Reached) → place.row ≡ row → HoldsReached row env → Cover (1 + k) [] m
      by_row None e h = absurd h
      by_row (Some row) e h =
          let names = names_of (meaning_of p) in
          let found = line_in names (length p.variables) 1 places p.spans k place long here in
          let ss = shown_all (length p.variables) row in
          let many : length ss ≡ length p.variables = length-shown (length p.variables) row in
          record {
            stmt = line_of names (length p.variables) (1 + k) place found.0;
            string = record { sites = []; rows = row_from names 1 ss ∷ [] };
            row = row_from names 1 ss;
            has_stmt = found.1;
            has_string = rw e (inl refl);
            has_row = inl refl;
            same_id = refl;
            same_sites = refl;
            describes = row_describes l (is_shown (meaning_of p)) names ss anything env m (rw many has) (rw many show) (row_allows (length p.variables) row env h);
          }

  place_alarms_in : (k : ℕ) (place : Place) → slice_get places k ≡ Some place → (kind : Kind) → IsTrue (has_kind place.kinds kind) → Alarm kind (1 + k) []
  place_alarms_in k place here kind h = alarm_in 1 places k place kind here h

  module _ (inner : List Place) (last : Place) (whole : places ≡ inner ++ last ∷ []) where
    stands : Stands (meaning_of p) Reached HoldsReached l Cover Alarm (length p.variables) has (still p) 1 (map spot_of inner)
    stands = record {
      covers = λ k s e env m show held.
          let found = get_map inner k s e in
          let here : slice_get places k ≡ Some found.0 = rw whole (get_front inner (last ∷ []) k found.0 found.1) in
          place_covers k found.0 here env m show (rw (← found.2) at held);
      alarms = λ k s e kind is.
          let found = get_map inner k s e in
          let here : slice_get places k ≡ Some found.0 = rw whole (get_front inner (last ∷ []) k found.0 found.1) in
          place_alarms_in k found.0 here kind (rw (← found.2) at is);
    }

    last_at : slice_get places (length inner) ≡ Some last
    last_at = let none : length inner + 0 ≡ length inner = omega arith in rw (whole, ← none) (get_behind inner (last ∷ []) 0)

-- the report covers every run
pub sound : (p : Program) (places : List Place) → IsShaped p → IsAnalysis p places → length places ≤ length p.spans → IsSound (meaning_of p) (report_of p places)
sound p places shaped an long l is s init ts run =
    let has = has_variables p l is in
    let count = length p.variables in
    let t = an.table in
    let end = suc (count_all p.body) in
    let body = stmts_of 1 p.body in
    let locals = numbers_from 1 count in
    let memory = born l locals (initial_memory (meaning_of p) l) in
    let first : State = record { control = queued body (ending body end locals); held = []; memory = memory } in
    let shows : Shows count (λ base. None) memory = shows_born l count (initial_memory (meaning_of p) l) has (nothing_before p l) in
    let cover = Cover p places l has long in
    let alarm = Alarm p places l has long in
    let ends : IsEnding (meaning_of p) Reached HoldsReached l cover alarm count has (still p) (ending body end locals) = record { sites = refl; exit = exit body end locals; out = refl; last = refl } in
    let number : 1 + length t.inner ≡ end = let m = t.many in omega arith in
    let closes : (n : ℕ) → GoesOn (meaning_of p) Reached HoldsReached l cover alarm count has (still p) n (ending body end locals) t.after = λ n. record {
      each = λ k h env m show holds.
          lead (meaning_of p) l cover alarm (record { control = ending body end locals; held = []; memory = m }) (record { control = brace body end locals; held = []; memory = m }) refl (λ out step. step) k
          (brace_reached (meaning_of p) l cover alarm count has (still p) end (Returns int_type) (Close ([] ++ locals) Done ∷ Frame 0 None ∷ []) [] m (exit body end locals) k refl refl
          (rw number at (place_covers p places l has long (length t.inner) t.last (last_at p places l has long t.inner t.last t.whole) env m show (t.ends.each env holds))));
    } in
    let good : (n : ℕ) → Good (meaning_of p) l cover alarm n first = λ n.
    statements_good (meaning_of p) Reached HoldsReached l cover alarm count has (still p) p.body 1 (map spot_of t.inner) an.start t.after (ending body end locals) shaped.stmts t.flows
    (stands p places l has long t.inner t.last t.whole) ends n (closes n) (λ base. None) memory shows an.begins in
    let same : s ≡ first = let e : Some first ≡ Some s = init in cc in
    let met = good_run (meaning_of p) l cover alarm first ts good (rw same at run) in
    rw same (record { rows = met.rows; stops = met.stops })
