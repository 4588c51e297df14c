-- Each stage of the rule of expressions finds the trees of its level, where the tighter stages find theirs.
use Rattle.std.proofs.Common.{◌≡◌, ℕ, suc, ◌<◌, ◌≤◌, ◌⊎◌, inl, inr, max, cond, List, [], ◌∷◌, length, Option, Some, refl, sym, ◌∙◌, ap, subst, arith, eq-or-lt_of_le}
use Rattle.std.specs.Prelude.{nat_le}
use Rattle.std.proofs.lemmas.Bool.{cond_both, cond-true, le-leb, leb-true, leb-false}
use Rattle.std.proofs.lemmas.Option.{same_Some}
use Rattle.c_base.specs.declared.number.Span.{Span}
use Rattle.c_base.specs.declared.token.Token.{Token}
use Rattle.c_tree.specs.Nesting.{nest}
use Rattle.c_tree.specs.Spelling.{pieces, pieces_of_all}
use Rattle.c_tree.specs.Trees.{Tree, Run, Trees, Nil, Next}
use Rattle.c_tree.specs.WellFormed.{Names, after, level_of, level_of_run, place_of, IsFirst, IsExpr, AreThere, AreOperands}
use Rattle.c_parse_rules.specs.Found.{Fronts, IsFront}
use Rattle.c_parse_rules.proofs.Laws.{ExprsSound, ExprsReached}
use Rattle.c_parse_rules.specs.Rules.{Found, Several, Inner, Types, operands, run_of, run_at, runs}
use Rattle.c_parse_rules.proofs.exprs.Collecting.{Meets}
use Rattle.c_parse_rules.proofs.exprs.ExprSound.{Descend}
use Rattle.c_parse_rules.proofs.exprs.Follows.{Goes}
use Rattle.c_parse_rules.proofs.exprs.Fronts.{fronts_split, fronts_left}
use Rattle.c_parse_rules.proofs.exprs.Listing.{AllStand}
use Rattle.c_parse_rules.proofs.exprs.Meeting.{exactly, Grown, grown_none, grown_weaker, grown_on, meets_grown, joined, joined_grown, joined_meets}
use Rattle.c_parse_rules.proofs.exprs.PartsReached.{operand_opens, operands_gathered, operands_end}
use Rattle.c_parse_rules.proofs.exprs.PartsSound.{operands_sound}
use Rattle.c_parse_rules.proofs.exprs.PrimariesReached.{empty_same}
use Rattle.c_parse_rules.proofs.exprs.UnarySound.{place_here}

descend_high : (ls : List ℕ) (above : ℕ) → Descend above ls → 3 ≤ above
descend_high [] above d = omega arith
descend_high (level ∷ more) above d = let h = descend_high more level d.2 in let e = d.0 in omega arith

-- two places of one tree
same_place : (o : Option Span) (x y : Span) → o ≡ Some x → o ≡ Some y → x ≡ y
same_place o x y e f = same_Some x y (sym e ∙ f)

module _ (depth : ℕ) (inner : Inner) (types : Types) (inner_sound : ExprsSound depth inner) (inner_reached : ExprsReached depth inner) where
  -- each tree of at least this level in front of the tokens is what was found, or what was found is longer
  abbrev pub Reads : ℕ → Names → Token → List Token → Found → Type 0
  Reads level names t tokens found = (e : Tree) (rest : List Token) → IsFront names level (suc depth) (t ∷ tokens) e rest → Meets (Goes level) (Some found) e rest

  pub reads_at : (j k : ℕ) (names : Names) (t : Token) (tokens : List Token) (found : Found) → j ≡ k → Reads j names t tokens found → Reads k names t tokens found
  reads_at j k names t tokens found e reads = subst (λ (l : ℕ). Reads l names t tokens found) e reads

  -- a stage adds the trees of its own level
  pub stage : (level : ℕ) (names : Names) (t : Token) (tokens : List Token) (found later : Found) → Reads (suc level) names t tokens found → Grown level found later →
      ((e : Tree) (rest : List Token) → IsFront names level (suc depth) (t ∷ tokens) e rest → level_of e ≡ level → Meets (Goes level) (Some later) e rest) → Reads level names t tokens later
  stage level names t tokens found later reads grown new = λ e rest f. let within = f.within in by e rest f (eq-or-lt_of_le within.tight)
    where
      by : (e : Tree) (rest : List Token) → IsFront names level (suc depth) (t ∷ tokens) e rest → (level ≡ level_of e) ⊎ (level < level_of e) → Meets (Goes level) (Some later) e rest
      by e rest f (inl same) = new e rest f (sym same)
      by e rest f (inr higher) =
          let within = f.within in
          meets_grown level (suc level) found later e rest (omega arith)
          (reads e rest (record { within = record { shape = within.shape; tight = higher; shallow = within.shallow }; words = f.words })) grown

  -- the first operand of a tree is just what was found, where what is behind it does not go on
  pub first_found : (level above : ℕ) (names : Names) (t : Token) (tokens : List Token) (found : Found) (span : Span) (first : Tree) (mid : List Token) → Reads level names t tokens found →
      IsFirst span above first → level ≤ above → IsExpr names first → nest first ≤ depth → Fronts (pieces first) (t ∷ tokens) mid → (Goes level mid → ⊥) → found ≡ (first, mid)
  first_found level above names t tokens found span first mid reads is_first le shape small words stops =
      let tight = is_first.tight in
      same_Some found (first, mid)
      (exactly level (Some found) first mid
      (reads first mid (record { within = record { shape = shape; tight = omega arith; shallow = omega arith }; words = words })) stops)

  pub first_place : (above : ℕ) (names : Names) (t : Token) (tokens : List Token) (span : Span) (first : Tree) (mid : List Token) → IsFirst span above first → IsExpr names first →
      Fronts (pieces first) (t ∷ tokens) mid → t.span ≡ span
  first_place above names t tokens span first mid is_first shape words = same_place (place_of first) t.span span (place_here names first t tokens mid shape words) is_first.place

  -- ---- runs of operators

  same_run : (span : Span) (found : Found) (several : Several) → joined (Run span) found several ≡ run_of depth inner types span found several
  same_run span found ([], rest) = refl
  same_run span found (t ∷ more, rest) = refl

  run_grown : (level : ℕ) → level ≤ 12 → (names : Names) (span : Span) (found : Found) → Grown level found (run_at depth inner types level span names found)
  unfolding run_at
  run_grown level low names span found =
      let several = operands depth inner types (suc (length found.1)) level [] (after names found.0) found.1 in
      cond_both (nat_le (nest found.0) depth) (run_of depth inner types span found several) found (Grown level found)
      (λ small.
      subst (Grown level found) (same_run span found several)
      (joined_grown level (Run span) found several (operands_end depth inner types inner_sound inner_reached level low (suc (length found.1)) (after names found.0) found.1)))
      (λ big. grown_none level found)

  run_is : (level : ℕ) (names : Names) (span : Span) (found : Found) → nest found.0 ≤ depth →
      joined (Run span) found (operands depth inner types (suc (length found.1)) level [] (after names found.0) found.1) ≡ run_at depth inner types level span names found
  unfolding run_at
  run_is level names span found small =
      same_run span found (operands depth inner types (suc (length found.1)) level [] (after names found.0) found.1)
      ∙ sym (cond-true (nat_le (nest found.0) depth) (run_of depth inner types span found (operands depth inner types (suc (length found.1)) level [] (after names found.0) found.1)) found
      (le-leb (nest found.0) depth small))

  run_meets : (level : ℕ) → level ≤ 12 → (names : Names) (span : Span) (first : Tree) (more : Trees) (mid rest : List Token) → nest first ≤ depth → AreThere more →
      AllStand (AreOperands level) pieces_of_all depth (after names first) more mid rest → Meets (Goes level) (Some (run_at depth inner types level span names (first, mid))) (Run span first more) rest
  run_meets level low names span first more mid rest small there all =
      let several = operands depth inner types (suc (length mid)) level [] (after names first) mid in
      subst (λ (x : Found). Meets (Goes level) (Some x) (Run span first more) rest) (run_is level names span (first, mid) small)
      (joined_meets level (Run span) first more mid rest several there (fronts_left (pieces_of_all more) mid rest all.words)
      (empty_same (AreOperands level) pieces_of_all depth (after names first) several mid refl (operands_sound depth inner types inner_sound level low (suc (length mid)) (after names first) mid))
      (operands_gathered depth inner types inner_sound inner_reached level low (suc (length mid)) (after names first) more mid rest (omega arith) all))

  operands_stop : (level : ℕ) (names : Names) (more : Trees) (tokens rest : List Token) → AreThere more → AllStand (AreOperands level) pieces_of_all depth names more tokens rest →
      Goes (suc level) tokens → ⊥
  operands_stop level names Nil tokens rest there all g = absurd there
  operands_stop level names (Next t more) tokens rest there all g =
      let words = all.words in
      let shapes = all.shapes in
      let deep = all.shallow in
      let s = fronts_split (pieces t) (pieces_of_all more) tokens rest words in
      let o = operand_opens level depth names t tokens s.mid (record { shape = shapes.0; shallow = omega arith; words = s.front }) in o.stops g

  run_new : (level : ℕ) → 3 ≤ level → level ≤ 12 → (names : Names) (t : Token) (tokens : List Token) (found : Found) → Reads (suc level) names t tokens found →
      (e : Tree) (rest : List Token) → IsFront names level (suc depth) (t ∷ tokens) e rest → level_of e ≡ level → Meets (Goes level) (Some (run_at depth inner types level t.span names found)) e rest
  run_new level high low names t tokens found reads (Run span first more) rest f same =
      let within = f.within in
      let shape = within.shape in
      let deep = within.shallow in
      let is_first = shape.0 in
      let s = fronts_split (pieces first) (pieces_of_all more) (t ∷ tokens) rest f.words in
      let operands_are = subst (λ (l : ℕ). AreOperands l (after names first) more) same shape.3 in
      let all : AllStand (AreOperands level) pieces_of_all depth (after names first) more s.mid rest = record { shapes = operands_are; shallow = omega arith; words = s.back } in
      let is = first_found (suc level) (suc (level_of_run more)) names t tokens found span first s.mid reads is_first (omega arith) shape.1 (omega arith) s.front
      (operands_stop level (after names first) more s.mid rest shape.2 all) in
      let place = first_place (suc (level_of_run more)) names t tokens span first s.mid is_first shape.1 s.front in
      let meets = run_meets level low names t.span first more s.mid rest (omega arith) shape.2 all in
      subst (λ (x : Found). Meets (Goes level) (Some (run_at depth inner types level t.span names x)) (Run span first more) rest) (sym is)
      (subst (λ (x : Span). Meets (Goes level) (Some (run_at depth inner types level t.span names (first, s.mid))) (Run x first more) rest) place meets)
  run_new level high low names t tokens found reads _ rest f same = absurd (omega arith)

  run_reads : (level : ℕ) → 3 ≤ level → level ≤ 12 → (names : Names) (t : Token) (tokens : List Token) (found : Found) → Reads (suc level) names t tokens found →
      Reads level names t tokens (run_at depth inner types level t.span names found)
  run_reads level high low names t tokens found reads =
      stage level names t tokens found (run_at depth inner types level t.span names found) reads (run_grown level low names t.span found) (run_new level high low names t tokens found reads)

  level_reads : (least above level : ℕ) → above ≡ suc level → 3 ≤ level → level ≤ 12 → (names : Names) (t : Token) (tokens : List Token) (found : Found) → Reads (max least above) names t tokens found →
      Reads (max least level) names t tokens (cond (nat_le least level) (run_at depth inner types level t.span names found) found)
  level_reads least above level e high low names t tokens found reads =
      cond_both (nat_le least level) (run_at depth inner types level t.span names found) found (Reads (max least level) names t tokens)
      (λ here.
      let small = leb-true least level here in
      reads_at level (max least level) names t tokens (run_at depth inner types level t.span names found) (omega arith)
      (run_reads level high low names t tokens found (reads_at (max least above) (suc level) names t tokens found (omega arith) reads)))
      (λ not_here. let big = leb-false least level not_here in reads_at (max least above) (max least level) names t tokens found (omega arith) reads)

  pub runs_read : (ls : List ℕ) (above least : ℕ) → Descend above ls → (names : Names) (t : Token) (tokens : List Token) (found : Found) → Reads (max least above) names t tokens found →
      Reads (max least 3) names t tokens (runs depth inner types ls least t.span names found)
  runs_read [] above least d names t tokens found reads = reads_at (max least above) (max least 3) names t tokens found (ap (max least) d) reads
  runs_read (level ∷ more) above least d names t tokens found reads =
      runs_read more level least d.2 names t tokens (cond (nat_le least level) (run_at depth inner types level t.span names found) found)
      (level_reads least above level d.0 (descend_high more level d.2) d.1 names t tokens found reads)

  pub runs_grown : (ls : List ℕ) (above least : ℕ) → Descend above ls → (names : Names) (span : Span) (found : Found) → Grown 2 found (runs depth inner types ls least span names found)
  runs_grown [] above least d names span found = grown_none 2 found
  runs_grown (level ∷ more) above least d names span found =
      let next = cond (nat_le least level) (run_at depth inner types level span names found) found in
      let high = descend_high more level d.2 in
      grown_on 2 found next (runs depth inner types more least span names next)
      (cond_both (nat_le least level) (run_at depth inner types level span names found) found (Grown 2 found)
      (λ here. grown_weaker 2 level found (run_at depth inner types level span names found) (omega arith) (run_grown level d.1 names span found)) (λ not_here. grown_none 2 found))
      (runs_grown more level least d.2 names span next)
