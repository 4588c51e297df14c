-- The rule of expressions finds each expression at the front of the tokens, or a longer one where what follows goes on.
use Rattle.std.proofs.Common.{◌≡◌, ℕ, zero, suc, ◌<◌, ◌≤◌, inl, inr, max, Bool, true, false, cond, ◌&&◌, List, [], ◌∷◌, ◌++◌, length, Option, None, Some, refl, sym, ◌∙◌, ap, subst, arith}
use Rattle.std.specs.Prelude.{nat_le}
use Rattle.std.proofs.lemmas.Bool.{cond_both, cond-true, cond-false, le-leb, lt-leb, leb-true, leb-false, and_from}
use Rattle.std.proofs.lemmas.Option.{none-some}
use Rattle.c_base.specs.declared.number.Span.{Span}
use Rattle.c_base.specs.declared.token.Punctuator.TheVariants as mark
use Rattle.c_base.specs.declared.token.Token.{Token}
use Rattle.c_tree.specs.declared.operator.AssignmentOperator.{AssignmentOperator}
use Rattle.c_tree.specs.Nesting.{nest}
use Rattle.c_tree.specs.Spelling.{sign, mark_of_assignment, pieces, pieces_of_all, pieces_with_commas}
use Rattle.c_tree.specs.Trees.{Tree, Run, Conditional, Assignment, Comma, Trees, Nil, Next}
use Rattle.c_tree.specs.WellFormed.{Names, after, level_of, IsExpr, AreThere, AreExprs}
use Rattle.c_parse_rules.specs.Found.{Fronts, IsFront}
use Rattle.c_parse_rules.proofs.Laws.{ExprsSound, ExprsReached, TypesSound, TypesReached}
use Rattle.c_parse_rules.specs.Rules.{Found, Several, Inner, Types, or_else, levels, behind_commas, runs, branches_at, conditional_at, value_at, assigned, assignment_at, comma_of, comma_at, unary_of, expr_behind, expr_rule}
use Rattle.c_parse_rules.specs.Tokens.{◌>>=◌, behind_mark, assigning_at}
use Rattle.c_parse_rules.proofs.exprs.Beginnings.{expr_begins}
use Rattle.c_parse_rules.proofs.exprs.Collecting.{Meets}
use Rattle.c_parse_rules.proofs.exprs.ExprSound.{levels_descend}
use Rattle.c_parse_rules.proofs.exprs.Follows.{Goes, goes_weaker, goes_front, front_goes, assignment_binding}
use Rattle.c_parse_rules.proofs.exprs.Fronts.{fronts_split, fronts_left, fronts_less, mark_read, mark_alone, mark_less, assigning_read, assigning_found, assigning_front}
use Rattle.c_parse_rules.proofs.exprs.Listing.{AllStand}
use Rattle.c_parse_rules.proofs.exprs.Loops.{bind_some, moved, comma_pieces}
use Rattle.c_parse_rules.proofs.exprs.Meeting.{meets_of, reached_of, meets_weaker, exactly, Grown, grown_none, grown_on, joined, joined_grown, joined_meets}
use Rattle.c_parse_rules.proofs.exprs.PartsReached.{commas_gathered, commas_end}
use Rattle.c_parse_rules.proofs.exprs.PartsSound.{commas_sound}
use Rattle.c_parse_rules.proofs.exprs.PrimariesReached.{run_between, empty_same}
use Rattle.c_parse_rules.proofs.exprs.StagesReached.{Reads, reads_at, stage, first_found, first_place, runs_read, runs_grown}
use Rattle.c_parse_rules.proofs.exprs.UnaryReached.{TypesBegin, unary_reached}

module _ (depth : ℕ) (inner : Inner) (types : Types) (inner_sound : ExprsSound depth inner) (inner_reached : ExprsReached depth inner) where
  abbrev Has : ℕ → Names → Token → List Token → Found → Type 0
  Has level names t tokens found = Reads depth inner types inner_sound inner_reached level names t tokens found

  -- what the inner reader left behind a word is less than what was before it
  left_behind : (names : Names) (least : ℕ) (tokens : List Token) (found : Found) → least ≤ 14 → inner names least tokens ≡ Some found → length found.1 ≤ length tokens
  left_behind names least tokens found low same = let f = inner_sound names least tokens found low same in fronts_left (pieces found.0) tokens found.1 f.words

  -- ---- `?:`

  record Longer (level : ℕ) (found later : Found) : Type 0 where
    pub less : length later.1 < length found.1
    pub goes : Goes level found.1

  branches_longer : (names : Names) (span : Span) (found result : Found) → branches_at depth inner types span names found ≡ Some result → Longer 2 found result
  unfolding branches_at
  branches_longer names span found result same =
      let first = after names found.0 in
      let a = bind_some (behind_mark mark.Question found.1)
      (λ inside. inner first 0 inside >>= (λ (x : Found). behind_mark mark.Colon x.1 >>= (λ rest. inner (after first x.0) 2 rest
      >>= (λ (y : Found). Some (Conditional span found.0 x.0 y.0, y.1))))) result same in
      let b = bind_some (inner first 0 a.value)
      (λ (x : Found). behind_mark mark.Colon x.1 >>= (λ rest. inner (after first x.0) 2 rest >>= (λ (y : Found). Some (Conditional span found.0 x.0 y.0, y.1)))) result a.then in
      let x = b.value in
      let c = bind_some (behind_mark mark.Colon x.1) (λ rest. inner (after first x.0) 2 rest >>= (λ (y : Found). Some (Conditional span found.0 x.0 y.0, y.1))) result b.then in
      let d = bind_some (inner (after first x.0) 2 c.value) (λ (y : Found). Some (Conditional span found.0 x.0 y.0, y.1)) result c.then in
      let y = d.value in
      let l_a = mark_less mark.Question found.1 a.value a.is in
      let l_b = left_behind first 0 a.value x (omega arith) b.is in
      let l_c = mark_less mark.Colon x.1 c.value c.is in
      let l_d = left_behind (after first x.0) 2 c.value y (omega arith) d.is in
      record {
        less = moved (λ (r : Found). length r.1 < length found.1) (Conditional span found.0 x.0 y.0, y.1) result d.then (omega arith);
        goes = front_goes 2 (sign mark.Question) [] found.1 a.value (mark_alone mark.Question found.1 a.value a.is) (omega arith);
      }

  branches_grown : (found : Found) (o : Option Found) → ((result : Found) → o ≡ Some result → Longer 2 found result) → Grown 2 found (or_else found o)
  branches_grown found None f = grown_none 2 found
  branches_grown found (Some result) f = let l = f result refl in inr (l.less, l.goes)

  conditional_grown : (least : ℕ) (names : Names) (span : Span) (found : Found) → Grown 2 found (conditional_at depth inner types least span names found)
  unfolding conditional_at
  conditional_grown least names span found =
      cond_both (nat_le least 2 && nat_le (nest found.0) depth) (or_else found (branches_at depth inner types span names found)) found (Grown 2 found)
      (λ both. branches_grown found (branches_at depth inner types span names found) (branches_longer names span found)) (λ other. grown_none 2 found)

  branches_is : (names : Names) (span : Span) (condition when_true : Tree) (mid inside colon behind : List Token) → behind_mark mark.Question mid ≡ Some inside →
      inner (after names condition) 0 inside ≡ Some (when_true, colon) → behind_mark mark.Colon colon ≡ Some behind →
      branches_at depth inner types span names (condition, mid)
      ≡ (inner (after (after names condition) when_true) 2 behind >>= (λ (y : Found). Some (Conditional span condition when_true y.0, y.1)))
  unfolding branches_at
  branches_is names span condition when_true mid inside colon behind a b c = rw (a, b, c) refl

  conditional_is : (least : ℕ) (names : Names) (span : Span) (found : Found) → least ≤ 2 → nest found.0 ≤ depth →
      conditional_at depth inner types least span names found ≡ or_else found (branches_at depth inner types span names found)
  unfolding conditional_at
  conditional_is least names span found low small =
      cond-true (nat_le least 2 && nat_le (nest found.0) depth) (or_else found (branches_at depth inner types span names found)) found
      (and_from (nat_le least 2) (nat_le (nest found.0) depth) (le-leb least 2 low) (le-leb (nest found.0) depth small))

  conditional_found : (span : Span) (condition when_true : Tree) (o : Option Found) (e : Tree) (rest : List Token) → Meets (Goes 2) o e rest →
      Meets (Goes 2) (o >>= (λ (y : Found). Some (Conditional span condition when_true y.0, y.1))) (Conditional span condition when_true e) rest
  conditional_found span condition when_true None e rest h = h
  conditional_found span condition when_true (Some found) e rest (inl same) = inl (ap (λ (y : Found). (Conditional span condition when_true y.0, y.1)) same)
  conditional_found span condition when_true (Some found) e rest (inr h) = inr h

  or_else_meets : (level : ℕ) (found : Found) (o : Option Found) (e : Tree) (rest : List Token) → Meets (Goes level) o e rest → Meets (Goes level) (Some (or_else found o)) e rest
  or_else_meets level found None e rest h = absurd h
  or_else_meets level found (Some later) e rest h = h

  conditional_new : (least : ℕ) → least ≤ 2 → (names : Names) (t : Token) (tokens : List Token) (found : Found) → Has 3 names t tokens found →
      (e : Tree) (rest : List Token) → IsFront names 2 (suc depth) (t ∷ tokens) e rest → level_of e ≡ 2 → Meets (Goes 2) (Some (conditional_at depth inner types least t.span names found)) e rest
  conditional_new least low names t tokens found reads (Conditional span condition when_true when_false) rest f same =
      let within = f.within in
      let shape = within.shape in
      let deep = within.shallow in
      let o = fronts_split (pieces condition ++ sign mark.Question ∷ pieces when_true) (sign mark.Colon ∷ pieces when_false) (t ∷ tokens) rest f.words in
      let s = fronts_split (pieces condition) (sign mark.Question ∷ pieces when_true) (t ∷ tokens) o.mid o.front in
      let a = mark_read mark.Question (pieces when_true) s.mid o.mid s.back in
      let c = mark_read mark.Colon (pieces when_false) o.mid rest o.back in
      let is = first_found depth inner types inner_sound inner_reached 3 3 names t tokens found span condition s.mid reads shape.0 (omega arith) shape.1 (omega arith) s.front
      (λ g. let l = goes_front 3 (sign mark.Question) (pieces when_true) s.mid o.mid s.back g in absurd (omega arith)) in
      let place = first_place depth inner types inner_sound inner_reached 3 names t tokens span condition s.mid shape.0 shape.1 s.front in
      let first = after names condition in
      let b = exactly 0 (inner first 0 a.left) when_true o.mid
      (meets_of 0 (inner first 0 a.left) when_true o.mid
      (inner_reached first 0 a.left when_true o.mid (omega arith) (record { within = record { shape = shape.2; tight = omega arith; shallow = omega arith }; words = a.back })))
      (λ g. let l = goes_front 0 (sign mark.Colon) (pieces when_false) o.mid rest o.back g in absurd (omega arith)) in
      let second = after first when_true in
      let m = meets_of 2 (inner second 2 c.left) when_false rest
      (inner_reached second 2 c.left when_false rest (omega arith) (record { within = record { shape = shape.4; tight = shape.3; shallow = omega arith }; words = c.back })) in
      let whole = conditional_is least names t.span (condition, s.mid) low (omega arith) ∙ ap (or_else (condition, s.mid)) (branches_is names t.span condition when_true s.mid a.left o.mid c.left a.is b c.is) in
      subst (λ (x : Found). Meets (Goes 2) (Some (conditional_at depth inner types least t.span names x)) (Conditional span condition when_true when_false) rest) (sym is)
      (subst (λ (x : Span). Meets (Goes 2) (Some (conditional_at depth inner types least t.span names (condition, s.mid))) (Conditional x condition when_true when_false) rest) place
      (subst (λ (x : Found). Meets (Goes 2) (Some x) (Conditional t.span condition when_true when_false) rest) (sym whole)
      (or_else_meets 2 (condition, s.mid) (inner second 2 c.left >>= (λ (y : Found). Some (Conditional t.span condition when_true y.0, y.1))) (Conditional t.span condition when_true when_false) rest
      (conditional_found t.span condition when_true (inner second 2 c.left) when_false rest m))))
  conditional_new least low names t tokens found reads (Run span first more) rest f same =
      let within = f.within in let shape = within.shape in let b = (run_between (after names first) more shape.2 shape.3).0 in absurd (omega arith)
  conditional_new least low names t tokens found reads _ rest f same = absurd (omega arith)

  conditional_high : (least : ℕ) (names : Names) (span : Span) (found : Found) → 2 < least → conditional_at depth inner types least span names found ≡ found
  unfolding conditional_at
  conditional_high least names span found high =
      cond-false (nat_le least 2 && nat_le (nest found.0) depth) (or_else found (branches_at depth inner types span names found)) found
      (ap (λ (b : Bool). b && nat_le (nest found.0) depth) (lt-leb least 2 high))

  conditional_by : (least : ℕ) (names : Names) (t : Token) (tokens : List Token) (found : Found) (low : Bool) → nat_le least 2 ≡ low → Has (max least 3) names t tokens found →
      Has (max least 2) names t tokens (conditional_at depth inner types least t.span names found)
  conditional_by least names t tokens found true e reads =
      let low = leb-true least 2 e in
      let at_three = reads_at depth inner types inner_sound inner_reached (max least 3) 3 names t tokens found (omega arith) reads in
      let later = conditional_at depth inner types least t.span names found in
      reads_at depth inner types inner_sound inner_reached 2 (max least 2) names t tokens later (omega arith)
      (stage depth inner types inner_sound inner_reached 2 names t tokens found later at_three (conditional_grown least names t.span found)
      (conditional_new least low names t tokens found at_three))
  conditional_by least names t tokens found false e reads =
      let high = leb-false least 2 e in
      subst (Has (max least 2) names t tokens) (sym (conditional_high least names t.span found (omega arith)))
      (reads_at depth inner types inner_sound inner_reached (max least 3) (max least 2) names t tokens found (omega arith) reads)

  -- runs and `?:`
  abbrev Tight : ℕ → Span → Names → Found → Found
  Tight least span names found = conditional_at depth inner types least span names (runs depth inner types levels least span names found)

  tight_reads : (least : ℕ) (names : Names) (t : Token) (tokens : List Token) (found : Found) → Has (max least 13) names t tokens found → Has (max least 2) names t tokens (Tight least t.span names found)
  tight_reads least names t tokens found reads =
      conditional_by least names t tokens (runs depth inner types levels least t.span names found) (nat_le least 2) refl
      (runs_read depth inner types inner_sound inner_reached levels 13 least levels_descend names t tokens found reads)

  tight_grown : (least : ℕ) (names : Names) (span : Span) (found : Found) → Grown 2 found (Tight least span names found)
  tight_grown least names span found =
      let later = runs depth inner types levels least span names found in
      grown_on 2 found later (conditional_at depth inner types least span names later) (runs_grown depth inner types inner_sound inner_reached levels 13 least levels_descend names span found)
      (conditional_grown least names span later)

  -- ---- assignments

  -- an assignment behind what was found, where it may stand there
  abbrev Value : ℕ → Span → Names → Found → Option Found
  Value least span names found =
      cond (nat_le least 1 && (nat_le 14 (level_of found.0) && nat_le (nest found.0) depth)) (value_at depth inner types span names found) None

  value_there : (least : ℕ) (span : Span) (names : Names) (found : Found) → least ≤ 1 → 14 ≤ level_of found.0 → nest found.0 ≤ depth →
      Value least span names found ≡ value_at depth inner types span names found
  value_there least span names found low tight small =
      cond-true (nat_le least 1 && (nat_le 14 (level_of found.0) && nat_le (nest found.0) depth)) (value_at depth inner types span names found) None
      (and_from (nat_le least 1) (nat_le 14 (level_of found.0) && nat_le (nest found.0) depth) (le-leb least 1 low)
      (and_from (nat_le 14 (level_of found.0)) (nat_le (nest found.0) depth) (le-leb 14 (level_of found.0) tight) (le-leb (nest found.0) depth small)))

  value_some : (least : ℕ) (span : Span) (names : Names) (found result : Found) (b c : Bool) → nat_le least 1 ≡ b →
      cond (b && c) (value_at depth inner types span names found) None ≡ Some result → (least ≤ 1) × (value_at depth inner types span names found ≡ Some result)
  value_some least span names found result true true e same = (leb-true least 1 e, same)
  value_some least span names found result true false e same = absurd (none-some result same)
  value_some least span names found result false c e same = absurd (none-some result same)

  record ValueFound (found result : Found) : Type 0 where
    pub less : length result.1 < length found.1
    pub goes : Goes 1 found.1
    pub stops : Goes 2 found.1 → ⊥

  value_longer : (names : Names) (span : Span) (found result : Found) → value_at depth inner types span names found ≡ Some result → ValueFound found result
  unfolding value_at
  value_longer names span found result same =
      let first = after names found.0 in
      let a = bind_some (assigning_at found.1) (λ o. inner first 1 o.1 >>= (λ (v : Found). Some (Assignment span found.0 o.0 v.0, v.1))) result same in
      let o = a.value in
      let b = bind_some (inner first 1 o.1) (λ (v : Found). Some (Assignment span found.0 o.0 v.0, v.1)) result a.then in
      let v = b.value in
      let front = assigning_front o [] found.1 o.1 (assigning_found o found.1 a.is) refl in
      let l_a = fronts_less (sign (mark_of_assignment o.0)) [] found.1 o.1 front in
      let l_b = left_behind first 1 o.1 v (omega arith) b.is in
      let two = assignment_binding o.0 in
      record {
        less = moved (λ (r : Found). length r.1 < length found.1) (Assignment span found.0 o.0 v.0, v.1) result b.then (omega arith);
        goes = front_goes 1 (sign (mark_of_assignment o.0)) [] found.1 o.1 front (rw two (omega arith));
        stops = λ g. let l = rw two at (goes_front 2 (sign (mark_of_assignment o.0)) [] found.1 o.1 front g) in absurd (omega arith);
      }

  value_is : (names : Names) (span : Span) (target : Tree) (mid left : List Token) (operator : AssignmentOperator) → assigning_at mid ≡ Some (operator, left) →
      value_at depth inner types span names (target, mid) ≡ (inner (after names target) 1 left >>= (λ (v : Found). Some (Assignment span target operator v.0, v.1)))
  unfolding value_at
  value_is names span target mid left operator a = rw a refl

  assignment_found : (span : Span) (target : Tree) (operator : AssignmentOperator) (o : Option Found) (e : Tree) (rest : List Token) → Meets (Goes 1) o e rest →
      Meets (Goes 1) (o >>= (λ (v : Found). Some (Assignment span target operator v.0, v.1))) (Assignment span target operator e) rest
  assignment_found span target operator None e rest h = h
  assignment_found span target operator (Some found) e rest (inl same) = inl (ap (λ (v : Found). (Assignment span target operator v.0, v.1)) same)
  assignment_found span target operator (Some found) e rest (inr h) = inr h

  assignment_new : (least : ℕ) → least ≤ 1 → (names : Names) (t : Token) (tokens : List Token) (found : Found) → Has 13 names t tokens found →
      (e : Tree) (rest : List Token) → IsFront names 1 (suc depth) (t ∷ tokens) e rest → level_of e ≡ 1 → Meets (Goes 1) (Value least t.span names found) e rest
  assignment_new least low names t tokens found reads (Assignment span target operator value) rest f same =
      let within = f.within in
      let shape = within.shape in
      let deep = within.shallow in
      let is_first = shape.0 in
      let two = assignment_binding operator in
      let s = fronts_split (pieces target) (sign (mark_of_assignment operator) ∷ pieces value) (t ∷ tokens) rest f.words in
      let a = assigning_read operator (pieces value) s.mid rest s.back in
      let is = first_found depth inner types inner_sound inner_reached 13 14 names t tokens found span target s.mid reads is_first (omega arith) shape.1 (omega arith) s.front
      (λ g. let l = rw two at (goes_front 13 (sign (mark_of_assignment operator)) (pieces value) s.mid rest s.back g) in absurd (omega arith)) in
      let place = first_place depth inner types inner_sound inner_reached 14 names t tokens span target s.mid is_first shape.1 s.front in
      let first = after names target in
      let m = meets_of 1 (inner first 1 a.left) value rest
      (inner_reached first 1 a.left value rest (omega arith) (record { within = record { shape = shape.3; tight = shape.2; shallow = omega arith }; words = a.back })) in
      let whole = value_there least t.span names (target, s.mid) low is_first.tight (omega arith) ∙ value_is names t.span target s.mid a.left operator a.is in
      subst (λ (x : Found). Meets (Goes 1) (Value least t.span names x) (Assignment span target operator value) rest) (sym is)
      (subst (λ (x : Span). Meets (Goes 1) (Value least t.span names (target, s.mid)) (Assignment x target operator value) rest) place
      (subst (λ (x : Option Found). Meets (Goes 1) x (Assignment t.span target operator value) rest) (sym whole)
      (assignment_found t.span target operator (inner first 1 a.left) value rest m)))
  assignment_new least low names t tokens found reads (Run span first more) rest f same =
      let within = f.within in let shape = within.shape in let b = (run_between (after names first) more shape.2 shape.3).0 in absurd (omega arith)
  assignment_new least low names t tokens found reads _ rest f same = absurd (omega arith)

  unassigned_by : (least : ℕ) (names : Names) (t : Token) (tokens : List Token) (found : Found) (low : Bool) → nat_le least 1 ≡ low → Value least t.span names found ≡ None →
      Has (max least 13) names t tokens found → Has (max least 1) names t tokens (Tight least t.span names found)
  unassigned_by least names t tokens found true e none reads =
      let small = leb-true least 1 e in
      let later = Tight least t.span names found in
      let at_thirteen = reads_at depth inner types inner_sound inner_reached (max least 13) 13 names t tokens found (omega arith) reads in
      let at_two = reads_at depth inner types inner_sound inner_reached (max least 2) 2 names t tokens later (omega arith) (tight_reads least names t tokens found reads) in
      reads_at depth inner types inner_sound inner_reached 1 (max least 1) names t tokens later (omega arith)
      (stage depth inner types inner_sound inner_reached 1 names t tokens later later at_two (grown_none 1 later)
      (λ x rest f same. absurd (subst (λ (o : Option Found). Meets (Goes 1) o x rest) none (assignment_new least small names t tokens found at_thirteen x rest f same))))
  unassigned_by least names t tokens found false e none reads =
      let high = leb-false least 1 e in
      reads_at depth inner types inner_sound inner_reached (max least 2) (max least 1) names t tokens (Tight least t.span names found) (omega arith) (tight_reads least names t tokens found reads)

  unchanged : (level : ℕ) (found later : Found) → Grown level found later → (Goes level found.1 → ⊥) → later ≡ found
  unchanged level found later (inl e) stops = e
  unchanged level found later (inr h) stops = absurd (stops h.1)

  assigned_reads : (least : ℕ) (names : Names) (t : Token) (tokens : List Token) (found : Found) (o : Option Found) → Value least t.span names found ≡ o → Has (max least 13) names t tokens found →
      Has (max least 1) names t tokens (assigned depth inner types least t.span names found o)
  assigned_reads least names t tokens found None e reads = unassigned_by least names t tokens found (nat_le least 1) refl e reads
  assigned_reads least names t tokens found (Some result) e reads =
      let there = value_some least t.span names found result (nat_le least 1) (nat_le 14 (level_of found.0) && nat_le (nest found.0) depth) refl e in
      let low = there.0 in
      let v = value_longer names t.span found result there.1 in
      let later = Tight least t.span names found in
      let at_thirteen = reads_at depth inner types inner_sound inner_reached (max least 13) 13 names t tokens found (omega arith) reads in
      let at_two = reads_at depth inner types inner_sound inner_reached (max least 2) 2 names t tokens later (omega arith) (tight_reads least names t tokens found reads) in
      let found_two = subst (Has 2 names t tokens) (unchanged 2 found later (tight_grown least names t.span found) v.stops) at_two in
      reads_at depth inner types inner_sound inner_reached 1 (max least 1) names t tokens result (omega arith)
      (stage depth inner types inner_sound inner_reached 1 names t tokens found result found_two (inr (v.less, v.goes))
      (λ x rest f same. subst (λ (o : Option Found). Meets (Goes 1) o x rest) e (assignment_new least low names t tokens found at_thirteen x rest f same)))

  assignment_reads : (least : ℕ) (names : Names) (t : Token) (tokens : List Token) (found : Found) → Has (max least 13) names t tokens found →
      Has (max least 1) names t tokens (assignment_at depth inner types least t.span names found)
  unfolding assignment_at
  assignment_reads least names t tokens found reads = assigned_reads least names t tokens found (Value least t.span names found) refl reads

  -- ---- commas

  same_comma : (span : Span) (found : Found) (several : Several) → joined (Comma span) found several ≡ comma_of depth inner types span found several
  same_comma span found ([], rest) = refl
  same_comma span found (t ∷ more, rest) = refl

  abbrev Listed : Names → Found → Several
  Listed names found = behind_commas depth inner types (suc (length found.1)) [] (after names found.0) found.1

  comma_is : (names : Names) (span : Span) (found : Found) → nest found.0 ≤ depth → joined (Comma span) found (Listed names found) ≡ comma_at depth inner types 0 span names found
  unfolding comma_at
  comma_is names span found small =
      same_comma span found (Listed names found)
      ∙ sym (cond-true (nat_le 0 0 && nat_le (nest found.0) depth) (comma_of depth inner types span found (Listed names found)) found
      (and_from (nat_le 0 0) (nat_le (nest found.0) depth) refl (le-leb (nest found.0) depth small)))

  comma_grown : (names : Names) (span : Span) (found : Found) → Grown 0 found (comma_at depth inner types 0 span names found)
  unfolding comma_at
  comma_grown names span found =
      cond_both (nat_le 0 0 && nat_le (nest found.0) depth) (comma_of depth inner types span found (Listed names found)) found (Grown 0 found)
      (λ small.
      subst (Grown 0 found) (same_comma span found (Listed names found))
      (joined_grown 0 (Comma span) found (Listed names found) (commas_end depth inner types inner_sound inner_reached (suc (length found.1)) [] (after names found.0) found.1)))
      (λ big. grown_none 0 found)

  comma_meets : (names : Names) (span : Span) (first : Tree) (more : Trees) (mid rest : List Token) → nest first ≤ depth → AreThere more →
      AllStand AreExprs (pieces_with_commas true) depth (after names first) more mid rest → Meets (Goes 0) (Some (comma_at depth inner types 0 span names (first, mid))) (Comma span first more) rest
  comma_meets names span first more mid rest small there all =
      let several = Listed names (first, mid) in
      subst (λ (x : Found). Meets (Goes 0) (Some x) (Comma span first more) rest) (comma_is names span (first, mid) small)
      (joined_meets 0 (Comma span) first more mid rest several there (fronts_left (pieces_with_commas true more) mid rest all.words)
      (empty_same AreExprs (pieces_with_commas true) depth (after names first) several mid refl (commas_sound depth inner types inner_sound (suc (length mid)) (after names first) mid))
      (commas_gathered depth inner types inner_sound inner_reached (suc (length mid)) (after names first) more mid rest (omega arith) all))

  commas_stop : (names : Names) (more : Trees) (tokens rest : List Token) → AreThere more → AllStand AreExprs (pieces_with_commas true) depth names more tokens rest → Goes 1 tokens → ⊥
  commas_stop names Nil tokens rest there all g = absurd there
  commas_stop names (Next t more) tokens rest there all g =
      let words = all.words in
      let s = fronts_split (comma_pieces t) (pieces_with_commas true more) tokens rest words in
      let l = goes_front 1 (sign mark.Comma) (pieces t) tokens s.mid s.front g in absurd (omega arith)

  comma_new : (names : Names) (t : Token) (tokens : List Token) (found : Found) → Has 1 names t tokens found →
      (e : Tree) (rest : List Token) → IsFront names 0 (suc depth) (t ∷ tokens) e rest → level_of e ≡ 0 → Meets (Goes 0) (Some (comma_at depth inner types 0 t.span names found)) e rest
  comma_new names t tokens found reads (Comma span first more) rest f same =
      let within = f.within in
      let shape = within.shape in
      let deep = within.shallow in
      let s = fronts_split (pieces first) (pieces_with_commas true more) (t ∷ tokens) rest f.words in
      let all : AllStand AreExprs (pieces_with_commas true) depth (after names first) more s.mid rest = record { shapes = shape.3; shallow = omega arith; words = s.back } in
      let is = first_found depth inner types inner_sound inner_reached 1 1 names t tokens found span first s.mid reads shape.0 (omega arith) shape.1 (omega arith) s.front
      (commas_stop (after names first) more s.mid rest shape.2 all) in
      let place = first_place depth inner types inner_sound inner_reached 1 names t tokens span first s.mid shape.0 shape.1 s.front in
      let meets = comma_meets names t.span first more s.mid rest (omega arith) shape.2 all in
      subst (λ (x : Found). Meets (Goes 0) (Some (comma_at depth inner types 0 t.span names x)) (Comma span first more) rest) (sym is)
      (subst (λ (x : Span). Meets (Goes 0) (Some (comma_at depth inner types 0 t.span names (first, s.mid))) (Comma x first more) rest) place meets)
  comma_new names t tokens found reads (Run span first more) rest f same =
      let within = f.within in let shape = within.shape in let b = (run_between (after names first) more shape.2 shape.3).0 in absurd (omega arith)
  comma_new names t tokens found reads _ rest f same = absurd (omega arith)

  comma_high : (least : ℕ) (names : Names) (span : Span) (found : Found) → comma_at depth inner types (suc least) span names found ≡ found
  unfolding comma_at
  comma_high least names span found =
      cond-false (nat_le (suc least) 0 && nat_le (nest found.0) depth) (comma_of depth inner types span found (Listed names found)) found
      (ap (λ (b : Bool). b && nat_le (nest found.0) depth) (lt-leb (suc least) 0 (omega arith)))

  comma_reads : (least : ℕ) (names : Names) (t : Token) (tokens : List Token) (found : Found) → Has (max least 1) names t tokens found →
      Has least names t tokens (comma_at depth inner types least t.span names found)
  comma_reads zero names t tokens found reads =
      let at_one = reads_at depth inner types inner_sound inner_reached (max 0 1) 1 names t tokens found (omega arith) reads in
      stage depth inner types inner_sound inner_reached 0 names t tokens found (comma_at depth inner types 0 t.span names found) at_one (comma_grown names t.span found)
      (comma_new names t tokens found at_one)
  comma_reads (suc least) names t tokens found reads =
      subst (Has (suc least) names t tokens) (sym (comma_high least names t.span found))
      (reads_at depth inner types inner_sound inner_reached (max (suc least) 1) (suc least) names t tokens found (omega arith) reads)

-- ---- the rule

-- the first unary expression or cast of an expression
record Heads (names : Names) (least depth : ℕ) (tokens : List Token) : Type 0 where
  pub tree : Tree
  pub rest : List Token
  pub front : IsFront names (max least 13) depth tokens tree rest

itself : (names : Names) (least depth : ℕ) (e : Tree) (tokens rest : List Token) → IsExpr names e → max least 13 ≤ level_of e → nest e ≤ depth → Fronts (pieces e) tokens rest →
    Heads names least depth tokens
itself names least depth e tokens rest shape tight small h =
    record { tree = e; rest = rest; front = record { within = record { shape = shape; tight = tight; shallow = small }; words = h } }

heads : (names : Names) (least depth : ℕ) → least ≤ 14 → (e : Tree) (tokens rest : List Token) → IsExpr names e → least ≤ level_of e → nest e ≤ depth → Fronts (pieces e) tokens rest →
    Heads names least depth tokens
heads names least depth low (Run span first more) tokens rest shape tight small h =
    let is_first = shape.0 in let above = is_first.tight in
    let s = fronts_split (pieces first) (pieces_of_all more) tokens rest h in heads names least depth low first tokens s.mid shape.1 (omega arith) (omega arith) s.front
heads names least depth low (Conditional span condition when_true when_false) tokens rest shape tight small h =
    let is_first = shape.0 in let above = is_first.tight in
    let o = fronts_split (pieces condition ++ sign mark.Question ∷ pieces when_true) (sign mark.Colon ∷ pieces when_false) tokens rest h in
    let s = fronts_split (pieces condition) (sign mark.Question ∷ pieces when_true) tokens o.mid o.front in
    heads names least depth low condition tokens s.mid shape.1 (omega arith) (omega arith) s.front
heads names least depth low (Assignment span target operator value) tokens rest shape tight small h =
    let is_first = shape.0 in let above = is_first.tight in
    let s = fronts_split (pieces target) (sign (mark_of_assignment operator) ∷ pieces value) tokens rest h in
    heads names least depth low target tokens s.mid shape.1 (omega arith) (omega arith) s.front
heads names least depth low (Comma span first more) tokens rest shape tight small h =
    let is_first = shape.0 in let above = is_first.tight in
    let s = fronts_split (pieces first) (pieces_with_commas true more) tokens rest h in heads names least depth low first tokens s.mid shape.1 (omega arith) (omega arith) s.front
heads names least depth low e tokens rest shape tight small h = itself names least depth e tokens rest shape (omega arith) small h

module _ (depth : ℕ) (inner : Inner) (types : Types) (inner_sound : ExprsSound depth inner) (inner_reached : ExprsReached depth inner) (types_sound : TypesSound depth types)
    (types_reached : TypesReached depth types) (types_begin : TypesBegin) where
  abbrev Behind : ℕ → Names → Token → List Token → Option Found → Option Found
  Behind least names t tokens o = o >>= (λ (x : Found). Some (comma_at depth inner types least t.span names (assignment_at depth inner types least t.span names x)))

  behind_meets : (least : ℕ) → least ≤ 14 → (names : Names) (t : Token) (tokens : List Token) (o : Option Found) →
      ((e : Tree) (rest : List Token) → IsFront names (max least 13) (suc depth) (t ∷ tokens) e rest → Meets (Goes 15) o e rest) →
      (e : Tree) (rest : List Token) → IsFront names least (suc depth) (t ∷ tokens) e rest → Meets (Goes least) (Behind least names t tokens o) e rest
  behind_meets least low names t tokens None reads e rest f =
      let within = f.within in
      let h = heads names least (suc depth) low e (t ∷ tokens) rest within.shape within.tight within.shallow f.words in absurd (reads h.tree h.rest h.front)
  behind_meets least low names t tokens (Some found) reads e rest f =
      comma_reads depth inner types inner_sound inner_reached least names t tokens (assignment_at depth inner types least t.span names found)
      (assignment_reads depth inner types inner_sound inner_reached least names t tokens found
      (λ x left g. meets_weaker (max least 13) 15 (Some found) x left (λ goes. goes_weaker (max least 13) 15 left (omega arith) goes) (reads x left g))) e rest f

  expr_behind_meets : (least : ℕ) → least ≤ 14 → (names : Names) (t : Token) (tokens : List Token) (e : Tree) (rest : List Token) → IsFront names least (suc depth) (t ∷ tokens) e rest →
      Meets (Goes least) (expr_behind depth inner types least names t tokens) e rest
  unfolding expr_behind
  expr_behind_meets least low names t tokens e rest f =
      behind_meets least low names t tokens (unary_of depth inner types least t.span names tokens t.word)
      (λ x left g. unary_reached depth inner types inner_sound inner_reached types_reached types_begin least names t tokens left x g) e rest f

  pub expr_reached : ExprsReached (suc depth) (λ (names : Names) (least : ℕ) (tokens : List Token). expr_rule depth inner types least names tokens)
  expr_reached names least [] e rest low f =
      let within = f.within in
      let b = expr_begins names e [] rest within.shape f.words in
      let same = b.same in absurd (cc)
  expr_reached names least (t ∷ tokens) e rest low f =
      reached_of least (expr_behind depth inner types least names t tokens) e rest (expr_behind_meets least low names t tokens e rest f)
