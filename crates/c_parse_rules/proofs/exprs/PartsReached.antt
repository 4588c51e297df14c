-- What stands behind commas, operators and an operand is found.
use Rattle.std.proofs.Common.{◌≡◌, ℕ, suc, ◌<◌, ◌≤◌, ◌⊎◌, inl, inr, true, false, List, [], ◌∷◌, ◌++◌, length, Option, None, Some, refl, sym, ◌∙◌, ap, subst, arith}
use Rattle.c_base.specs.declared.number.Span.{Span}
use Rattle.c_base.specs.declared.token.Punctuator.TheVariants as mark
use Rattle.c_base.specs.declared.token.Token.{Token}
use Rattle.c_base.specs.declared.token.Word.TheVariants as word
use Rattle.c_tree.specs.declared.operator.BinaryOperator.{BinaryOperator}
use Rattle.c_tree.specs.Spelling.{Piece, at, plain, sign, mark_of_binary, pieces, pieces_of_all, pieces_with_commas}
use Rattle.c_tree.specs.Trees.{Tree, Index, Call, Dot, Arrow, Increment, Decrement, Operand, Trees, Nil, Next}
use Rattle.c_tree.specs.Views.{listed}
use Rattle.c_tree.specs.WellFormed.{Names, after, level_of_operator, IsPart, AreParts, IsOperand, AreOperands, AreExprs}
use Rattle.c_parse_rules.specs.Found.{Fronts}
use Rattle.c_parse_rules.proofs.Laws.{ExprsSound, ExprsReached}
use Rattle.c_parse_rules.specs.Rules.{Found, Several, Inner, Types, behind_commas, operands, arguments_at, index_at, call_at, dot_at, arrow_at, part_at, parts}
use Rattle.c_parse_rules.specs.Tokens.{◌>>=◌, behind_mark, name_at}
use Rattle.c_parse_rules.proofs.exprs.Beginnings.{expr_begins}
use Rattle.c_parse_rules.proofs.exprs.Collecting.{Meets, collect_ends, collect_reached}
use Rattle.c_parse_rules.proofs.exprs.Follows.{Goes, goes_weaker, goes_front, front_goes, binary_binding}
use Rattle.c_parse_rules.proofs.exprs.Fronts.{fronts_split, fronts_less, fronts_first, mark_read, name_read, operator_read}
use Rattle.c_parse_rules.proofs.exprs.Listing.{Stands, AllStand, plain_list, listed_plain, chain_of}
use Rattle.c_parse_rules.proofs.exprs.Loops.{comma_step, operand_step, same_commas, same_operands, same_parts, IsArgument, comma_pieces, commas_list, operands_list, parts_list}
use Rattle.c_parse_rules.proofs.exprs.Meeting.{meets_of, exactly}
use Rattle.c_parse_rules.proofs.exprs.PartsSound.{comma_sound, operand_sound, part_sound}

-- trees of a list stand where the trees stand
stand_plain : (Are : Names → Trees → Type 0) (spell : Trees → List Piece) (depth : ℕ) (names : Names) (ts : Trees) (tokens rest : List Token) →
    AllStand Are spell depth names ts tokens rest → AllStand Are spell depth names (listed (plain_list ts)) tokens rest
stand_plain Are spell depth names ts tokens rest h = subst (λ (x : Trees). AllStand Are spell depth names x tokens rest) (sym (listed_plain ts)) h

-- ---- how an operand and a part begin

pub record Opens (level : ℕ) (tokens rest : List Token) : Type 0 where
  pub less : length rest < length tokens
  pub goes : Goes level tokens
  pub stops : Goes (suc level) tokens → ⊥

opens_with : (level : ℕ) (x : Piece) (p : List Piece) (tokens rest : List Token) → Fronts (x ∷ p) tokens rest → (b : ℕ) → b ≡ suc level →
    ((least : ℕ) → Goes least tokens → least < b) → ((least : ℕ) → least < b → Goes least tokens) → Opens level tokens rest
opens_with level x p tokens rest h b e above below =
    record { less = fronts_less x p tokens rest h; goes = below level (omega arith); stops = λ g. let l = above (suc level) g in absurd (omega arith) }

pub comma_opens : (depth : ℕ) (names : Names) (t : Tree) (tokens rest : List Token) → Stands IsArgument comma_pieces depth names t tokens rest → Opens 0 tokens rest
comma_opens depth names t tokens rest h =
    opens_with 0 (sign mark.Comma) (pieces t) tokens rest h.words 1 refl (λ least g. goes_front least (sign mark.Comma) (pieces t) tokens rest h.words g)
    (λ least l. front_goes least (sign mark.Comma) (pieces t) tokens rest h.words l)

pub operand_opens : (level depth : ℕ) (names : Names) (t : Tree) (tokens rest : List Token) → Stands (IsOperand level) pieces depth names t tokens rest → Opens level tokens rest
operand_opens level depth names (Operand operator operand) tokens rest h =
    let shape = h.shape in
    let b = binary_binding operator in
    let e = shape.0 in
    opens_with level (sign (mark_of_binary operator)) (pieces operand) tokens rest h.words (suc (level_of_operator operator)) (omega arith)
    (λ least g. rw b at (goes_front least (sign (mark_of_binary operator)) (pieces operand) tokens rest h.words g))
    (λ least l. front_goes least (sign (mark_of_binary operator)) (pieces operand) tokens rest h.words (rw b l))
operand_opens level depth names _ tokens rest h = absurd h.shape

pub part_opens : (depth : ℕ) (names : Names) (t : Tree) (tokens rest : List Token) → Stands IsPart pieces depth names t tokens rest → Opens 15 tokens rest
part_opens depth names (Index index) tokens rest h =
    let p = pieces index ++ sign mark.CloseBracket ∷ [] in
    opens_with 15 (sign mark.OpenBracket) p tokens rest h.words 16 refl (λ least g. goes_front least (sign mark.OpenBracket) p tokens rest h.words g)
    (λ least l. front_goes least (sign mark.OpenBracket) p tokens rest h.words l)
part_opens depth names (Call opening arguments) tokens rest h =
    let x = at opening (word.Punctuator mark.OpenParenthesis) in
    let p = pieces_with_commas false arguments ++ sign mark.CloseParenthesis ∷ [] in
    opens_with 15 x p tokens rest h.words 16 refl (λ least g. goes_front least x p tokens rest h.words g) (λ least l. front_goes least x p tokens rest h.words l)
part_opens depth names (Dot name) tokens rest h =
    let p = plain (word.Identifier name) ∷ [] in
    opens_with 15 (sign mark.Dot) p tokens rest h.words 16 refl (λ least g. goes_front least (sign mark.Dot) p tokens rest h.words g)
    (λ least l. front_goes least (sign mark.Dot) p tokens rest h.words l)
part_opens depth names (Arrow name) tokens rest h =
    let p = plain (word.Identifier name) ∷ [] in
    opens_with 15 (sign mark.Arrow) p tokens rest h.words 16 refl (λ least g. goes_front least (sign mark.Arrow) p tokens rest h.words g)
    (λ least l. front_goes least (sign mark.Arrow) p tokens rest h.words l)
part_opens depth names Increment tokens rest h =
    opens_with 15 (sign mark.Increment) [] tokens rest h.words 16 refl (λ least g. goes_front least (sign mark.Increment) [] tokens rest h.words g)
    (λ least l. front_goes least (sign mark.Increment) [] tokens rest h.words l)
part_opens depth names Decrement tokens rest h =
    opens_with 15 (sign mark.Decrement) [] tokens rest h.words 16 refl (λ least g. goes_front least (sign mark.Decrement) [] tokens rest h.words g)
    (λ least l. front_goes least (sign mark.Decrement) [] tokens rest h.words l)
part_opens depth names _ tokens rest h = absurd h.shape

module _ (depth : ℕ) (inner : Inner) (types : Types) (inner_sound : ExprsSound depth inner) (inner_reached : ExprsReached depth inner) where
  -- what a loop collects from nothing: these, or more where what is behind them goes on
  abbrev pub Gathered : ℕ → Trees → List Token → Several → Type 0
  Gathered level ts rest several = (several ≡ (plain_list ts, rest)) ⊎ ((length several.1 < length rest) × Goes level rest)

  -- ---- behind commas

  comma_steps : (names : Names) (tokens : List Token) (e : Found) → comma_step depth inner types names tokens ≡ Some e → (length e.1 < length tokens) × Goes 0 tokens
  comma_steps names tokens e same =
      let o = comma_opens depth names e.0 tokens e.1 (comma_sound depth inner types inner_sound names tokens e same) in (o.less, o.goes)

  comma_meets : (names : Names) (t : Tree) (tokens mid : List Token) → Stands IsArgument comma_pieces depth names t tokens mid → Meets (Goes 1) (comma_step depth inner types names tokens) t mid
  comma_meets names t tokens mid h =
      let r = mark_read mark.Comma (pieces t) tokens mid h.words in
      let shape = h.shape in
      let m = meets_of 1 (inner names 1 r.left) t mid
      (inner_reached names 1 r.left t mid (omega arith) (record { within = record { shape = shape.1; tight = shape.0; shallow = h.shallow }; words = r.back })) in
      rw r.is m

  pub commas_reached : (n : ℕ) (found : List Tree) (names : Names) (ts : List Tree) (tokens rest : List Token) → length tokens < n →
      AllStand AreExprs (pieces_with_commas true) depth names (listed ts) tokens rest →
      (behind_commas depth inner types n found names tokens ≡ (found ++ ts, rest)) ⊎ ((length (behind_commas depth inner types n found names tokens).1 < length rest) × Goes 0 rest)
  commas_reached n found names ts tokens rest l h =
      subst (λ (r : Several). (r ≡ (found ++ ts, rest)) ⊎ ((length r.1 < length rest) × Goes 0 rest)) (sym (same_commas depth inner types n found names tokens))
      (collect_reached (comma_step depth inner types) after (Goes 0) comma_steps (Goes 1) (λ x g. goes_weaker 0 1 x (omega arith) g) (Stands IsArgument comma_pieces depth)
      (λ s x tokens mid p. let o = comma_opens depth s x tokens mid p in o.less) comma_meets (λ s x tokens mid p g. let o = comma_opens depth s x tokens mid p in o.stops g)
      n found names ts tokens rest l (chain_of IsArgument AreExprs comma_pieces (pieces_with_commas true) commas_list depth ts names tokens rest h))

  pub commas_end : (n : ℕ) (found : List Tree) (names : Names) (tokens : List Token) →
      (behind_commas depth inner types n found names tokens ≡ (found, tokens)) ⊎ ((length (behind_commas depth inner types n found names tokens).1 < length tokens) × Goes 0 tokens)
  commas_end n found names tokens =
      subst (λ (r : Several). (r ≡ (found, tokens)) ⊎ ((length r.1 < length tokens) × Goes 0 tokens)) (sym (same_commas depth inner types n found names tokens))
      (collect_ends (comma_step depth inner types) after (Goes 0) comma_steps n found names tokens)

  pub commas_gathered : (n : ℕ) (names : Names) (ts : Trees) (tokens rest : List Token) → length tokens < n → AllStand AreExprs (pieces_with_commas true) depth names ts tokens rest →
      Gathered 0 ts rest (behind_commas depth inner types n [] names tokens)
  commas_gathered n names ts tokens rest l h =
      commas_reached n [] names (plain_list ts) tokens rest l (stand_plain AreExprs (pieces_with_commas true) depth names ts tokens rest h)

  -- ---- operands of a level

  operand_steps : (level : ℕ) → level ≤ 12 → (names : Names) (tokens : List Token) (e : Found) → operand_step depth inner types level names tokens ≡ Some e →
      (length e.1 < length tokens) × Goes level tokens
  operand_steps level low names tokens e same =
      let o = operand_opens level depth names e.0 tokens e.1 (operand_sound depth inner types inner_sound level low names tokens e same) in (o.less, o.goes)

  operand_found : (level : ℕ) (operator : BinaryOperator) (o : Option Found) (t : Tree) (mid : List Token) → Meets (Goes level) o t mid →
      Meets (Goes level) (o >>= (λ (e : Found). Some (Operand operator e.0, e.1))) (Operand operator t) mid
  operand_found level operator None t mid h = h
  operand_found level operator (Some e) t mid (inl same) = inl (ap (λ (x : Found). (Operand operator x.0, x.1)) same)
  operand_found level operator (Some e) t mid (inr h) = inr h

  operand_meets : (level : ℕ) → level ≤ 12 → (names : Names) (t : Tree) (tokens mid : List Token) → Stands (IsOperand level) pieces depth names t tokens mid →
      Meets (Goes (suc level)) (operand_step depth inner types level names tokens) t mid
  operand_meets level low names (Operand operator operand) tokens mid h =
      let shape = h.shape in
      let r = operator_read level operator (pieces operand) tokens mid shape.0 h.words in
      let m = meets_of (suc level) (inner names (suc level) r.left) operand mid
      (inner_reached names (suc level) r.left operand mid (omega arith)
      (record { within = record { shape = shape.2; tight = shape.1; shallow = h.shallow }; words = r.back })) in
      rw r.is (operand_found (suc level) operator (inner names (suc level) r.left) operand mid m)
  operand_meets level low names _ tokens mid h = absurd h.shape

  pub operands_gathered : (level : ℕ) → level ≤ 12 → (n : ℕ) (names : Names) (ts : Trees) (tokens rest : List Token) → length tokens < n →
      AllStand (AreOperands level) pieces_of_all depth names ts tokens rest → Gathered level ts rest (operands depth inner types n level [] names tokens)
  operands_gathered level low n names ts tokens rest l h =
      subst (Gathered level ts rest) (sym (same_operands depth inner types level n [] names tokens))
      (collect_reached (operand_step depth inner types level) after (Goes level) (operand_steps level low) (Goes (suc level)) (λ x g. goes_weaker level (suc level) x (omega arith) g)
      (Stands (IsOperand level) pieces depth)
      (λ s x tokens mid p. let o = operand_opens level depth s x tokens mid p in o.less) (operand_meets level low)
      (λ s x tokens mid p g. let o = operand_opens level depth s x tokens mid p in o.stops g)
      n [] names (plain_list ts) tokens rest l
      (chain_of (IsOperand level) (AreOperands level) pieces pieces_of_all (operands_list level) depth (plain_list ts) names tokens rest
      (stand_plain (AreOperands level) pieces_of_all depth names ts tokens rest h)))

  pub operands_end : (level : ℕ) → level ≤ 12 → (n : ℕ) (names : Names) (tokens : List Token) →
      (operands depth inner types n level [] names tokens ≡ ([], tokens)) ⊎ ((length (operands depth inner types n level [] names tokens).1 < length tokens) × Goes level tokens)
  operands_end level low n names tokens =
      subst (λ (r : Several). (r ≡ ([], tokens)) ⊎ ((length r.1 < length tokens) × Goes level tokens)) (sym (same_operands depth inner types level n [] names tokens))
      (collect_ends (operand_step depth inner types level) after (Goes level) (operand_steps level low) n [] names tokens)

  -- ---- arguments

  none_before_close : (names : Names) (tokens rest : List Token) (o : Option Found) → inner names 1 tokens ≡ o → Fronts (sign mark.CloseParenthesis ∷ []) tokens rest → o ≡ None
  none_before_close names tokens rest None same h = refl
  none_before_close names tokens rest (Some e) same h =
      let f = inner_sound names 1 tokens e (omega arith) same in
      let within = f.within in
      let b = expr_begins names e.0 tokens e.1 within.shape f.words in
      let c = fronts_first (sign mark.CloseParenthesis) [] tokens rest h in
      let first = b.token in let other = c.token in
      let same_tokens : first ∷ b.left ≡ other ∷ c.left = sym b.same ∙ c.same in
      let same_token : first ≡ other = cc in
      let begins = b.begins in
      let closes = c.word in
      let closed = rw (same_token, closes) at begins in absurd (cc closed)

  -- behind an argument stands a comma or the end
  argument_stops : (names : Names) (ts : Trees) (tokens rest : List Token) → AllStand AreExprs (pieces_with_commas true) depth names ts tokens rest → (Goes 1 rest → ⊥) → Goes 1 tokens → ⊥
  argument_stops names Nil tokens rest h stops g = stops (subst (Goes 1) h.words g)
  argument_stops names (Next t more) tokens rest h stops g =
      let words = h.words in
      let s = fronts_split (comma_pieces t) (pieces_with_commas true more) tokens rest words in
      let l = goes_front 1 (sign mark.Comma) (pieces t) tokens s.mid s.front g in absurd (omega arith)

  close_stops : (least : ℕ) (tokens rest : List Token) → Fronts (sign mark.CloseParenthesis ∷ []) tokens rest → Goes least tokens → ⊥
  close_stops least tokens rest h g = let l = goes_front least (sign mark.CloseParenthesis) [] tokens rest h g in absurd (omega arith)

  arguments_none : (names : Names) (tokens : List Token) (o : Option Found) → inner names 1 tokens ≡ o → o ≡ None → arguments_at depth inner types names tokens ≡ ([], tokens)
  unfolding arguments_at
  arguments_none names tokens o same e = rw (same, e) refl

  arguments_some : (names : Names) (tokens : List Token) (e : Found) → inner names 1 tokens ≡ Some e →
      arguments_at depth inner types names tokens ≡ behind_commas depth inner types (suc (length e.1)) (e.0 ∷ []) (after names e.0) e.1
  unfolding arguments_at
  arguments_some names tokens e same = rw same refl

  just : (level : ℕ) (several : Several) (ts : List Tree) (rest : List Token) → (several ≡ (ts, rest)) ⊎ ((length several.1 < length rest) × Goes level rest) → (Goes level rest → ⊥) →
      several ≡ (ts, rest)
  just level several ts rest (inl e) stops = e
  just level several ts rest (inr h) stops = absurd (stops h.1)

  arguments_read : (names : Names) (ts : Trees) (tokens mid rest : List Token) → AllStand AreExprs (pieces_with_commas false) depth names ts tokens mid →
      Fronts (sign mark.CloseParenthesis ∷ []) mid rest → arguments_at depth inner types names tokens ≡ (plain_list ts, mid)
  arguments_read names Nil tokens mid rest h close =
      let same = h.words in
      arguments_none names tokens (inner names 1 tokens) refl
      (none_before_close names tokens rest (inner names 1 tokens) refl (subst (λ (x : List Token). Fronts (sign mark.CloseParenthesis ∷ []) x rest) (sym same) close))
      ∙ ap (λ (x : List Token). ([], x)) same
  arguments_read names (Next t more) tokens mid rest h close =
      let words = h.words in
      let shapes = h.shapes in
      let deep = h.shallow in
      let s = fronts_split (pieces t) (pieces_with_commas true more) tokens mid words in
      let others : AllStand AreExprs (pieces_with_commas true) depth (after names t) more s.mid mid = record { shapes = shapes.2; shallow = omega arith; words = s.back } in
      let first = exactly 1 (inner names 1 tokens) t s.mid
      (meets_of 1 (inner names 1 tokens) t s.mid
      (inner_reached names 1 tokens t s.mid (omega arith) (record { within = record { shape = shapes.1; tight = shapes.0; shallow = omega arith }; words = s.front })))
      (argument_stops (after names t) more s.mid mid others (close_stops 1 mid rest close)) in
      arguments_some names tokens (t, s.mid) first
      ∙ just 0 (behind_commas depth inner types (suc (length s.mid)) (t ∷ []) (after names t) s.mid) (t ∷ plain_list more) mid
      (commas_reached (suc (length s.mid)) (t ∷ []) (after names t) (plain_list more) s.mid mid (omega arith)
      (stand_plain AreExprs (pieces_with_commas true) depth (after names t) more s.mid mid others))
      (close_stops 0 mid rest close)

  -- ---- parts

  index_is : (names : Names) (t : Token) (tokens mid rest : List Token) (e : Tree) → t.word ≡ word.Punctuator mark.OpenBracket → inner names 0 tokens ≡ Some (e, mid) →
      behind_mark mark.CloseBracket mid ≡ Some rest → part_at depth inner types names (t ∷ tokens) ≡ Some (Index e, rest)
  unfolding index_at
  index_is names t tokens mid rest e w f g = rw (w, f, g) refl

  call_is : (names : Names) (t : Token) (tokens mid rest : List Token) (ts : List Tree) → t.word ≡ word.Punctuator mark.OpenParenthesis →
      arguments_at depth inner types names tokens ≡ (ts, mid) → behind_mark mark.CloseParenthesis mid ≡ Some rest → part_at depth inner types names (t ∷ tokens) ≡ Some (Call t.span (listed ts), rest)
  unfolding call_at
  call_is names t tokens mid rest ts w f g = rw (w, f, g) refl

  dot_is : (names : Names) (t : Token) (tokens rest : List Token) (name : List ℕ) → t.word ≡ word.Punctuator mark.Dot → name_at tokens ≡ Some (name, rest) →
      part_at depth inner types names (t ∷ tokens) ≡ Some (Dot name, rest)
  unfolding dot_at
  dot_is names t tokens rest name w f = rw (w, f) refl

  arrow_is : (names : Names) (t : Token) (tokens rest : List Token) (name : List ℕ) → t.word ≡ word.Punctuator mark.Arrow → name_at tokens ≡ Some (name, rest) →
      part_at depth inner types names (t ∷ tokens) ≡ Some (Arrow name, rest)
  unfolding arrow_at
  arrow_is names t tokens rest name w f = rw (w, f) refl

  increment_is : (names : Names) (t : Token) (tokens : List Token) → t.word ≡ word.Punctuator mark.Increment → part_at depth inner types names (t ∷ tokens) ≡ Some (Increment, tokens)
  increment_is names t tokens w = rw w refl

  decrement_is : (names : Names) (t : Token) (tokens : List Token) → t.word ≡ word.Punctuator mark.Decrement → part_at depth inner types names (t ∷ tokens) ≡ Some (Decrement, tokens)
  decrement_is names t tokens w = rw w refl

  at_rest : (o : Option Found) (e : Tree) (left rest : List Token) → left ≡ rest → o ≡ Some (e, left) → o ≡ Some (e, rest)
  at_rest o e left rest same h = h ∙ ap (λ (x : List Token). Some (e, x)) same

  part_read : (names : Names) (e : Tree) (tokens rest : List Token) → Stands IsPart pieces depth names e tokens rest → part_at depth inner types names tokens ≡ Some (e, rest)
  part_read names (Index index) [] rest h = absurd h.words
  part_read names (Index index) (t ∷ tokens) rest h =
      let words = h.words in
      let piece = words.0 in
      let s = fronts_split (pieces index) (sign mark.CloseBracket ∷ []) tokens rest words.1 in
      let c = mark_read mark.CloseBracket [] s.mid rest s.back in
      let found = exactly 0 (inner names 0 tokens) index s.mid
      (meets_of 0 (inner names 0 tokens) index s.mid
      (inner_reached names 0 tokens index s.mid (omega arith) (record { within = record { shape = h.shape; tight = omega arith; shallow = h.shallow }; words = s.front })))
      (λ g. let l = goes_front 0 (sign mark.CloseBracket) [] s.mid rest s.back g in absurd (omega arith)) in
      at_rest (part_at depth inner types names (t ∷ tokens)) (Index index) c.left rest c.back
      (index_is names t tokens s.mid c.left index piece.word found c.is)
  part_read names (Call opening arguments) [] rest h = absurd h.words
  part_read names (Call opening arguments) (t ∷ tokens) rest h =
      let words = h.words in
      let piece = words.0 in
      let s = fronts_split (pieces_with_commas false arguments) (sign mark.CloseParenthesis ∷ []) tokens rest words.1 in
      let c = mark_read mark.CloseParenthesis [] s.mid rest s.back in
      let all = arguments_read names arguments tokens s.mid rest (record { shapes = h.shape; shallow = h.shallow; words = s.front }) s.back in
      at_rest (part_at depth inner types names (t ∷ tokens)) (Call opening arguments) c.left rest c.back
      (call_is names t tokens s.mid c.left (plain_list arguments) piece.word all c.is
      ∙ ap (λ (x : Trees). Some (Call t.span x, c.left)) (listed_plain arguments) ∙ ap (λ (x : Span). Some (Call x arguments, c.left)) (sym piece.place))
  part_read names (Dot name) [] rest h = absurd h.words
  part_read names (Dot name) (t ∷ tokens) rest h =
      let words = h.words in
      let piece = words.0 in
      let n = name_read name [] tokens rest words.1 in
      at_rest (part_at depth inner types names (t ∷ tokens)) (Dot name) n.left rest n.back (dot_is names t tokens n.left name piece.word n.is)
  part_read names (Arrow name) [] rest h = absurd h.words
  part_read names (Arrow name) (t ∷ tokens) rest h =
      let words = h.words in
      let piece = words.0 in
      let n = name_read name [] tokens rest words.1 in
      at_rest (part_at depth inner types names (t ∷ tokens)) (Arrow name) n.left rest n.back (arrow_is names t tokens n.left name piece.word n.is)
  part_read names Increment [] rest h = absurd h.words
  part_read names Increment (t ∷ tokens) rest h =
      let words = h.words in
      let piece = words.0 in
      at_rest (part_at depth inner types names (t ∷ tokens)) Increment tokens rest words.1 (increment_is names t tokens piece.word)
  part_read names Decrement [] rest h = absurd h.words
  part_read names Decrement (t ∷ tokens) rest h =
      let words = h.words in
      let piece = words.0 in
      at_rest (part_at depth inner types names (t ∷ tokens)) Decrement tokens rest words.1 (decrement_is names t tokens piece.word)
  part_read names _ tokens rest h = absurd h.shape

  part_steps : (names : Names) (tokens : List Token) (e : Found) → part_at depth inner types names tokens ≡ Some e → (length e.1 < length tokens) × Goes 15 tokens
  part_steps names tokens e same =
      let o = part_opens depth names e.0 tokens e.1 (part_sound depth inner types inner_sound names tokens e same) in (o.less, o.goes)

  part_meets : (names : Names) (t : Tree) (tokens mid : List Token) → Stands IsPart pieces depth names t tokens mid → Meets (λ (x : List Token). ⊥) (part_at depth inner types names tokens) t mid
  part_meets names t tokens mid h = rw (part_read names t tokens mid h) (inl refl)

  pub parts_gathered : (n : ℕ) (names : Names) (ts : Trees) (tokens rest : List Token) → length tokens < n →
      AllStand AreParts pieces_of_all depth names ts tokens rest → Gathered 15 ts rest (parts depth inner types n [] names tokens)
  parts_gathered n names ts tokens rest l h =
      subst (Gathered 15 ts rest) (sym (same_parts depth inner types n [] names tokens))
      (collect_reached (part_at depth inner types) after (Goes 15) part_steps (λ (x : List Token). ⊥) (λ x g. absurd g) (Stands IsPart pieces depth)
      (λ s x tokens mid p. let o = part_opens depth s x tokens mid p in o.less) part_meets (λ s x tokens mid p g. g)
      n [] names (plain_list ts) tokens rest l
      (chain_of IsPart AreParts pieces pieces_of_all parts_list depth (plain_list ts) names tokens rest (stand_plain AreParts pieces_of_all depth names ts tokens rest h)))

  pub parts_end : (n : ℕ) (names : Names) (tokens : List Token) →
      (parts depth inner types n [] names tokens ≡ ([], tokens)) ⊎ ((length (parts depth inner types n [] names tokens).1 < length tokens) × Goes 15 tokens)
  parts_end n names tokens =
      subst (λ (r : Several). (r ≡ ([], tokens)) ⊎ ((length r.1 < length tokens) × Goes 15 tokens)) (sym (same_parts depth inner types n [] names tokens))
      (collect_ends (part_at depth inner types) after (Goes 15) part_steps n [] names tokens)
