-- All that the rule of expressions finds is there.
use Rattle.std.proofs.Common.{◌≡◌, ℕ, suc, ◌≤◌, max, Bool, true, false, cond, ◌&&◌, List, [], ◌∷◌, ◌++◌, length, Option, None, Some, refl, sym, subst, arith}
use Rattle.std.specs.Prelude.{nat_le}
use Rattle.std.proofs.lemmas.Bool.{cond_both, leb-true, and_parts}
use Rattle.std.proofs.lemmas.Option.{none-some}
use Rattle.c_base.specs.declared.token.Punctuator.TheVariants as mark
use Rattle.c_base.specs.declared.token.Token.{Token}
use Rattle.c_tree.specs.Nesting.{nest}
use Rattle.c_tree.specs.Spelling.{sign, mark_of_assignment, pieces, pieces_of_all, pieces_with_commas}
use Rattle.c_tree.specs.Trees.{Tree, Conditional, Assignment, Operand, Trees, Next}
use Rattle.c_tree.specs.Views.{listed}
use Rattle.c_tree.specs.WellFormed.{Names, after, level_of, level_of_run, AreOperands, AreExprs}
use Rattle.c_parse_rules.specs.Found.{IsFront}
use Rattle.c_parse_rules.proofs.Laws.{ExprsSound, TypesSound}
use Rattle.c_parse_rules.specs.Rules.{Found, Several, Inner, Types, or_else, levels, behind_commas, operands, run_of, run_at, runs, branches_at, conditional_at, value_at, assigned, assignment_at, comma_of, comma_at, unary_of, expr_behind, expr_rule}
use Rattle.c_parse_rules.specs.Tokens.{◌>>=◌, behind_mark, assigning_at}
use Rattle.c_parse_rules.proofs.exprs.Fronts.{fronts_join, mark_found, assigning_found, assigning_front}
use Rattle.c_parse_rules.proofs.exprs.Listing.{AllStand}
use Rattle.c_parse_rules.proofs.exprs.Loops.{bind_some, moved}
use Rattle.c_parse_rules.proofs.exprs.PartsSound.{operands_sound, commas_sound}
use Rattle.c_parse_rules.proofs.exprs.UnarySound.{place_here, front_looser, unary_sound}

-- the first operator of a run of a level has the level
run_level : (level : ℕ) (names : Names) (t : Tree) (more : Trees) → AreOperands level names (Next t more) → level_of_run (Next t more) ≡ level
run_level level names (Operand operator operand) more all = all.0.0
run_level level names _ more all = absurd all.0

-- levels that come down one by one from below this one, to 3
abbrev pub Descend : ℕ → List ℕ → Type 0
Descend above [] = above ≡ 3
Descend above (level ∷ more) = (above ≡ suc level) × (level ≤ 12) × Descend level more

pub levels_descend : Descend 13 levels
levels_descend =
    (refl, omega arith, (refl, omega arith, (refl, omega arith, (refl, omega arith, (refl, omega arith, (refl, omega arith, (refl, omega arith, (refl, omega arith, (refl, omega arith, (refl, omega arith, refl))))))))))

module _ (depth : ℕ) (inner : Inner) (types : Types) (inner_sound : ExprsSound depth inner) (types_sound : TypesSound depth types) where
  abbrev Holds : ℕ → Names → Token → List Token → Found → Type 0
  Holds least names t tokens found = IsFront names least (suc depth) (t ∷ tokens) found.0 found.1

  looser : (j k : ℕ) (names : Names) (t : Token) (tokens : List Token) (found : Found) → j ≤ k → Holds k names t tokens found → Holds j names t tokens found
  looser j k names t tokens found le f = front_looser names j k (suc depth) (t ∷ tokens) found.0 found.1 le f

  -- ---- runs of operators

  run_by : (level : ℕ) (names : Names) (t : Token) (tokens : List Token) (found : Found) (several : Several) → nest found.0 ≤ depth → Holds (suc level) names t tokens found →
      AllStand (AreOperands level) pieces_of_all depth (after names found.0) (listed several.0) found.1 several.1 → Holds level names t tokens (run_of depth inner types t.span found several)
  run_by level names t tokens found ([], rest) small f all = looser level (suc level) names t tokens found (omega arith) f
  run_by level names t tokens found (operand ∷ more, rest) small f all =
      let within = f.within in
      let deep = all.shallow in
      let tight = within.tight in
      let same = run_level level (after names found.0) operand (listed more) all.shapes in
      record {
        within = record {
          shape = (
            record { place = place_here names found.0 t tokens found.1 within.shape f.words; tight = omega arith },
            within.shape,
            tt {0},
            subst (λ (l : ℕ). AreOperands l (after names found.0) (listed (operand ∷ more))) (sym same) all.shapes,
          );
          tight = omega arith;
          shallow = omega arith;
        };
        words = fronts_join (pieces found.0) (pieces_of_all (listed (operand ∷ more))) (t ∷ tokens) found.1 rest f.words all.words;
      }

  run_sound : (level : ℕ) → level ≤ 12 → (names : Names) (t : Token) (tokens : List Token) (found : Found) → Holds (suc level) names t tokens found →
      Holds level names t tokens (run_at depth inner types level t.span names found)
  unfolding run_at
  run_sound level low names t tokens found f =
      cond_both (nat_le (nest found.0) depth) (run_of depth inner types t.span found (operands depth inner types (suc (length found.1)) level [] (after names found.0) found.1)) found
      (Holds level names t tokens)
      (λ small.
      run_by level names t tokens found (operands depth inner types (suc (length found.1)) level [] (after names found.0) found.1) (leb-true (nest found.0) depth small) f
      (operands_sound depth inner types inner_sound level low (suc (length found.1)) (after names found.0) found.1))
      (λ big. looser level (suc level) names t tokens found (omega arith) f)

  level_sound : (least above level : ℕ) → above ≡ suc level → level ≤ 12 → (names : Names) (t : Token) (tokens : List Token) (found : Found) → Holds (max least above) names t tokens found →
      Holds (max least level) names t tokens (cond (nat_le least level) (run_at depth inner types level t.span names found) found)
  level_sound least above level e low names t tokens found f =
      cond_both (nat_le least level) (run_at depth inner types level t.span names found) found (Holds (max least level) names t tokens)
      (λ here.
      let small = leb-true least level here in
      looser (max least level) level names t tokens (run_at depth inner types level t.span names found) (omega arith)
      (run_sound level low names t tokens found (looser (suc level) (max least above) names t tokens found (omega arith) f)))
      (λ not_here. looser (max least level) (max least above) names t tokens found (omega arith) f)

  runs_sound : (ls : List ℕ) (above least : ℕ) → Descend above ls → (names : Names) (t : Token) (tokens : List Token) (found : Found) → Holds (max least above) names t tokens found →
      Holds (max least 3) names t tokens (runs depth inner types ls least t.span names found)
  runs_sound [] above least d names t tokens found f = looser (max least 3) (max least above) names t tokens found (omega arith) f
  runs_sound (level ∷ more) above least d names t tokens found f =
      runs_sound more level least d.2 names t tokens (cond (nat_le least level) (run_at depth inner types level t.span names found) found)
      (level_sound least above level d.0 d.1 names t tokens found f)

  -- ---- `?:`

  branches_sound : (names : Names) (t : Token) (tokens : List Token) (found : Found) (result : Found) → nest found.0 ≤ depth → Holds 3 names t tokens found →
      branches_at depth inner types t.span names found ≡ Some result → Holds 2 names t tokens result
  unfolding branches_at
  branches_sound names t tokens found result small f same =
      let first = after names found.0 in
      let a = bind_some (behind_mark mark.Question found.1)
      (λ inside. inner first 0 inside >>= (λ (x : Found). behind_mark mark.Colon x.1 >>= (λ rest. inner (after first x.0) 2 rest
      >>= (λ (y : Found). Some (Conditional t.span found.0 x.0 y.0, y.1))))) result same in
      let b = bind_some (inner first 0 a.value)
      (λ (x : Found). behind_mark mark.Colon x.1 >>= (λ rest. inner (after first x.0) 2 rest >>= (λ (y : Found). Some (Conditional t.span found.0 x.0 y.0, y.1)))) result a.then in
      let x = b.value in
      let c = bind_some (behind_mark mark.Colon x.1) (λ rest. inner (after first x.0) 2 rest >>= (λ (y : Found). Some (Conditional t.span found.0 x.0 y.0, y.1))) result b.then in
      let d = bind_some (inner (after first x.0) 2 c.value) (λ (y : Found). Some (Conditional t.span found.0 x.0 y.0, y.1)) result c.then in
      let y = d.value in
      let g = inner_sound first 0 a.value x (omega arith) b.is in
      let h = inner_sound (after first x.0) 2 c.value y (omega arith) d.is in
      let within = f.within in
      let within_x = g.within in let deep_x = within_x.shallow in
      let within_y = h.within in let deep_y = within_y.shallow in
      let question = mark_found mark.Question (pieces x.0) found.1 a.value x.1 a.is g.words in
      let front = fronts_join (pieces found.0) (sign mark.Question ∷ pieces x.0) (t ∷ tokens) found.1 x.1 f.words question in
      let colon = mark_found mark.Colon (pieces y.0) x.1 c.value y.1 c.is h.words in
      moved (Holds 2 names t tokens) (Conditional t.span found.0 x.0 y.0, y.1) result d.then (record {
        within = record {
          shape = (record { place = place_here names found.0 t tokens found.1 within.shape f.words; tight = within.tight }, within.shape, within_x.shape, within_y.tight, within_y.shape);
          tight = omega arith;
          shallow = omega arith;
        };
        words = fronts_join (pieces found.0 ++ sign mark.Question ∷ pieces x.0) (sign mark.Colon ∷ pieces y.0) (t ∷ tokens) x.1 y.1 front colon;
      })

  branches_by : (least : ℕ) → least ≤ 2 → (names : Names) (t : Token) (tokens : List Token) (found : Found) (o : Option Found) → nest found.0 ≤ depth → Holds (max least 3) names t tokens found →
      branches_at depth inner types t.span names found ≡ o → Holds (max least 2) names t tokens (or_else found o)
  branches_by least low names t tokens found None small f same = looser (max least 2) (max least 3) names t tokens found (omega arith) f
  branches_by least low names t tokens found (Some result) small f same =
      looser (max least 2) 2 names t tokens result (omega arith)
      (branches_sound names t tokens found result small (looser 3 (max least 3) names t tokens found (omega arith) f) same)

  conditional_sound : (least : ℕ) (names : Names) (t : Token) (tokens : List Token) (found : Found) → Holds (max least 3) names t tokens found →
      Holds (max least 2) names t tokens (conditional_at depth inner types least t.span names found)
  unfolding conditional_at
  conditional_sound least names t tokens found f =
      cond_both (nat_le least 2 && nat_le (nest found.0) depth) (or_else found (branches_at depth inner types t.span names found)) found (Holds (max least 2) names t tokens)
      (λ both.
      let p = and_parts (nat_le least 2) (nat_le (nest found.0) depth) both in
      branches_by least (leb-true least 2 p.0) names t tokens found (branches_at depth inner types t.span names found) (leb-true (nest found.0) depth p.1) f refl)
      (λ other. looser (max least 2) (max least 3) names t tokens found (omega arith) f)

  -- ---- assignments

  value_sound : (names : Names) (t : Token) (tokens : List Token) (found : Found) (result : Found) → nest found.0 ≤ depth → Holds 14 names t tokens found →
      value_at depth inner types t.span names found ≡ Some result → Holds 1 names t tokens result
  unfolding value_at
  value_sound names t tokens found result small f same =
      let first = after names found.0 in
      let a = bind_some (assigning_at found.1) (λ o. inner first 1 o.1 >>= (λ (v : Found). Some (Assignment t.span found.0 o.0 v.0, v.1))) result same in
      let o = a.value in
      let b = bind_some (inner first 1 o.1) (λ (v : Found). Some (Assignment t.span found.0 o.0 v.0, v.1)) result a.then in
      let v = b.value in
      let g = inner_sound first 1 o.1 v (omega arith) b.is in
      let within = f.within in
      let within_v = g.within in let deep = within_v.shallow in
      moved (Holds 1 names t tokens) (Assignment t.span found.0 o.0 v.0, v.1) result b.then (record {
        within = record {
          shape = (record { place = place_here names found.0 t tokens found.1 within.shape f.words; tight = within.tight }, within.shape, within_v.tight, within_v.shape);
          tight = omega arith;
          shallow = omega arith;
        };
        words = fronts_join (pieces found.0) (sign (mark_of_assignment o.0) ∷ pieces v.0) (t ∷ tokens) found.1 v.1 f.words
            (assigning_front o (pieces v.0) found.1 v.1 (assigning_found o found.1 a.is) g.words);
      })

  assigned_sound : (least : ℕ) (names : Names) (t : Token) (tokens : List Token) (found : Found) (o : Option Found) → Holds (max least 13) names t tokens found →
      cond (nat_le least 1 && (nat_le 14 (level_of found.0) && nat_le (nest found.0) depth)) (value_at depth inner types t.span names found) None ≡ o →
      Holds (max least 1) names t tokens (assigned depth inner types least t.span names found o)
  assigned_sound least names t tokens found None f same =
      looser (max least 1) (max least 2) names t tokens (conditional_at depth inner types least t.span names (runs depth inner types levels least t.span names found)) (omega arith)
      (conditional_sound least names t tokens (runs depth inner types levels least t.span names found)
      (runs_sound levels 13 least levels_descend names t tokens found f))
  assigned_sound least names t tokens found (Some result) f same =
      by (nat_le least 1) (nat_le 14 (level_of found.0)) (nat_le (nest found.0) depth) refl refl refl same
    where
      by : (a b c : Bool) → nat_le least 1 ≡ a → nat_le 14 (level_of found.0) ≡ b → nat_le (nest found.0) depth ≡ c →
          cond (a && (b && c)) (value_at depth inner types t.span names found) None ≡ Some result → Holds (max least 1) names t tokens result
      by true true true low tight small same =
          let l = leb-true least 1 low in
          let within = f.within in
          let tighter = leb-true 14 (level_of found.0) tight in
          looser (max least 1) 1 names t tokens result (omega arith)
          (value_sound names t tokens found result (leb-true (nest found.0) depth small)
          (record { within = record { shape = within.shape; tight = tighter; shallow = within.shallow }; words = f.words }) same)
      by true true false low tight small same = absurd (none-some result same)
      by true false c low tight small same = absurd (none-some result same)
      by false b c low tight small same = absurd (none-some result same)

  assignment_sound : (least : ℕ) (names : Names) (t : Token) (tokens : List Token) (found : Found) → Holds (max least 13) names t tokens found →
      Holds (max least 1) names t tokens (assignment_at depth inner types least t.span names found)
  unfolding assignment_at
  assignment_sound least names t tokens found f =
      assigned_sound least names t tokens found
      (cond (nat_le least 1 && (nat_le 14 (level_of found.0) && nat_le (nest found.0) depth)) (value_at depth inner types t.span names found) None) f refl

  -- ---- commas

  comma_by : (names : Names) (t : Token) (tokens : List Token) (found : Found) (several : Several) → nest found.0 ≤ depth → Holds 1 names t tokens found →
      AllStand AreExprs (pieces_with_commas true) depth (after names found.0) (listed several.0) found.1 several.1 → Holds 0 names t tokens (comma_of depth inner types t.span found several)
  comma_by names t tokens found ([], rest) small f all = looser 0 1 names t tokens found (omega arith) f
  comma_by names t tokens found (e ∷ more, rest) small f all =
      let within = f.within in
      let deep = all.shallow in
      record {
        within = record {
          shape = (record { place = place_here names found.0 t tokens found.1 within.shape f.words; tight = within.tight }, within.shape, tt {0}, all.shapes);
          tight = omega arith;
          shallow = omega arith;
        };
        words = fronts_join (pieces found.0) (pieces_with_commas true (listed (e ∷ more))) (t ∷ tokens) found.1 rest f.words all.words;
      }

  comma_sound : (least : ℕ) (names : Names) (t : Token) (tokens : List Token) (found : Found) → Holds (max least 1) names t tokens found →
      Holds least names t tokens (comma_at depth inner types least t.span names found)
  unfolding comma_at
  comma_sound least names t tokens found f =
      cond_both (nat_le least 0 && nat_le (nest found.0) depth)
      (comma_of depth inner types t.span found (behind_commas depth inner types (suc (length found.1)) [] (after names found.0) found.1)) found (Holds least names t tokens)
      (λ both.
      let p = and_parts (nat_le least 0) (nat_le (nest found.0) depth) both in
      let low = leb-true least 0 p.0 in
      looser least 0 names t tokens (comma_of depth inner types t.span found (behind_commas depth inner types (suc (length found.1)) [] (after names found.0) found.1)) (omega arith)
      (comma_by names t tokens found (behind_commas depth inner types (suc (length found.1)) [] (after names found.0) found.1) (leb-true (nest found.0) depth p.1)
      (looser 1 (max least 1) names t tokens found (omega arith) f)
      (commas_sound depth inner types inner_sound (suc (length found.1)) (after names found.0) found.1)))
      (λ other. looser least (max least 1) names t tokens found (omega arith) f)

  -- ---- the rule

  behind_sound : (least : ℕ) → least ≤ 14 → (names : Names) (t : Token) (tokens : List Token) (found : Found) → expr_behind depth inner types least names t tokens ≡ Some found →
      Holds least names t tokens found
  unfolding expr_behind
  behind_sound least low names t tokens found same =
      let b = bind_some (unary_of depth inner types least t.span names tokens t.word)
      (λ (x : Found). Some (comma_at depth inner types least t.span names (assignment_at depth inner types least t.span names x))) found same in
      let x = b.value in
      moved (Holds least names t tokens) (comma_at depth inner types least t.span names (assignment_at depth inner types least t.span names x)) found b.then
      (comma_sound least names t tokens (assignment_at depth inner types least t.span names x)
      (assignment_sound least names t tokens x (unary_sound depth inner types inner_sound types_sound least low names t tokens x b.is)))

  pub expr_sound : ExprsSound (suc depth) (λ (names : Names) (least : ℕ) (tokens : List Token). expr_rule depth inner types least names tokens)
  expr_sound names least [] found low same = absurd (none-some found same)
  expr_sound names least (t ∷ tokens) found low same = behind_sound least low names t tokens found same
