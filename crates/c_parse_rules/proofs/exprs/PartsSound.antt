-- What is found behind an operand, and what stands behind commas and operators, is there.
use Rattle.std.proofs.Common.{◌≡◌, ℕ, suc, ◌≤◌, true, false, List, [], ◌∷◌, length, Option, None, Some, refl, sym, subst, arith}
use Rattle.std.proofs.lemmas.Option.{none-some}
use Rattle.c_base.specs.declared.token.Punctuator.TheVariants as mark
use Rattle.c_base.specs.declared.token.Token.{Token}
use Rattle.c_base.specs.declared.token.Word.{Word}
use Rattle.c_base.specs.declared.token.Word.TheVariants as word
use Rattle.c_tree.specs.Spelling.{sign, pieces, pieces_of_all, pieces_with_commas}
use Rattle.c_tree.specs.Trees.{Tree, Index, Call, Dot, Arrow, Increment, Decrement, Operand, Next}
use Rattle.c_tree.specs.Views.{listed}
use Rattle.c_tree.specs.WellFormed.{Names, after, IsPart, AreParts, IsOperand, AreOperands, AreExprs}
use Rattle.c_parse_rules.proofs.Laws.{ExprsSound}
use Rattle.c_parse_rules.specs.Rules.{Found, Inner, Types, behind_commas, operands, arguments_with, arguments_at, index_at, call_at, dot_at, arrow_at, part_of, part_at, parts}
use Rattle.c_parse_rules.specs.Tokens.{◌>>=◌, behind_mark, name_at, operator_at}
use Rattle.c_parse_rules.proofs.exprs.Collecting.{Collected, collect_sound}
use Rattle.c_parse_rules.proofs.exprs.Fronts.{fronts_join, mark_found, mark_alone, name_found, operator_found, operator_front}
use Rattle.c_parse_rules.proofs.exprs.Listing.{Stands, AllStand, stand_of, stand_collected}
use Rattle.c_parse_rules.proofs.exprs.Loops.{bind_some, moved, comma_step, operand_behind, operand_step, same_commas, same_operands, same_parts, IsArgument, comma_pieces, commas_list, operands_list, parts_list}

module _ (depth : ℕ) (inner : Inner) (types : Types) (inner_sound : ExprsSound depth inner) where
  -- ---- behind commas

  pub comma_sound : (names : Names) (tokens : List Token) (e : Found) → comma_step depth inner types names tokens ≡ Some e →
      Stands IsArgument comma_pieces depth names e.0 tokens e.1
  comma_sound names tokens e same =
      let b = bind_some (behind_mark mark.Comma tokens) (λ rest. inner names 1 rest) e same in
      let f = inner_sound names 1 b.value e (omega arith) b.then in
      let within = f.within in
      record { shape = (within.tight, within.shape); shallow = within.shallow; words = mark_found mark.Comma (pieces e.0) tokens b.value e.1 b.is f.words }

  commas_collected : (n : ℕ) (found : List Tree) (names : Names) (tokens : List Token) →
      Collected (Stands IsArgument comma_pieces depth) after found names tokens (behind_commas depth inner types n found names tokens)
  commas_collected n found names tokens =
      subst (Collected (Stands IsArgument comma_pieces depth) after found names tokens) (sym (same_commas depth inner types n found names tokens))
      (collect_sound (comma_step depth inner types) after (Stands IsArgument comma_pieces depth) comma_sound n found names tokens)

  pub commas_sound : (n : ℕ) (names : Names) (tokens : List Token) →
      AllStand AreExprs (pieces_with_commas true) depth names (listed (behind_commas depth inner types n [] names tokens).0) tokens
      (behind_commas depth inner types n [] names tokens).1
  commas_sound n names tokens =
      stand_collected IsArgument AreExprs comma_pieces (pieces_with_commas true) commas_list depth names tokens (behind_commas depth inner types n [] names tokens)
      (commas_collected n [] names tokens)

  -- ---- operands of a level

  pub operand_sound : (level : ℕ) → level ≤ 12 → (names : Names) (tokens : List Token) (e : Found) → operand_step depth inner types level names tokens ≡ Some e →
      Stands (IsOperand level) pieces depth names e.0 tokens e.1
  operand_sound level low names tokens e same =
      let b = bind_some (operator_at level tokens) (operand_behind depth inner types level names) e same in
      let o = b.value in
      let c = bind_some (inner names (suc level) o.1) (λ (x : Found). Some (Operand o.0 x.0, x.1)) e b.then in
      let x = c.value in
      let d = operator_found level o tokens b.is in
      let f = inner_sound names (suc level) o.1 x (omega arith) c.is in
      let within = f.within in
      let found : Stands (IsOperand level) pieces depth names (Operand o.0 x.0) tokens x.1 = record {
        shape = (d.leveled, within.tight, within.shape);
        shallow = within.shallow;
        words = operator_front level o (pieces x.0) tokens x.1 d f.words;
      } in
      moved (λ (y : Found). Stands (IsOperand level) pieces depth names y.0 tokens y.1) (Operand o.0 x.0, x.1) e c.then found

  pub operands_sound : (level : ℕ) → level ≤ 12 → (n : ℕ) (names : Names) (tokens : List Token) →
      AllStand (AreOperands level) pieces_of_all depth names (listed (operands depth inner types n level [] names tokens).0) tokens
      (operands depth inner types n level [] names tokens).1
  operands_sound level low n names tokens =
      stand_collected (IsOperand level) (AreOperands level) pieces pieces_of_all (operands_list level) depth names tokens (operands depth inner types n level [] names tokens)
      (subst (Collected (Stands (IsOperand level) pieces depth) after [] names tokens) (sym (same_operands depth inner types level n [] names tokens))
      (collect_sound (operand_step depth inner types level) after (Stands (IsOperand level) pieces depth) (operand_sound level low) n [] names tokens))

  -- ---- arguments

  arguments_by : (names : Names) (tokens : List Token) (o : Option Found) → inner names 1 tokens ≡ o →
      AllStand AreExprs (pieces_with_commas false) depth names (listed (arguments_with depth inner types tokens names o).0) tokens (arguments_with depth inner types tokens names o).1
  arguments_by names tokens None same = record { shapes = tt {0}; shallow = omega arith; words = refl }
  arguments_by names tokens (Some e) same =
      let f = inner_sound names 1 tokens e (omega arith) same in
      let within = f.within in
      let c = commas_collected (suc (length e.1)) (e.0 ∷ []) (after names e.0) e.1 in
      let left = (behind_commas depth inner types (suc (length e.1)) (e.0 ∷ []) (after names e.0) e.1).1 in
      let more = stand_of IsArgument AreExprs comma_pieces (pieces_with_commas true) commas_list depth c.more (after names e.0) e.1 left c.chain in
      let deep = within.shallow in let deeper = more.shallow in
      let all : AllStand AreExprs (pieces_with_commas false) depth names (Next e.0 (listed c.more)) tokens left = record {
        shapes = (within.tight, within.shape, more.shapes);
        shallow = omega arith;
        words = fronts_join (pieces e.0) (pieces_with_commas true (listed c.more)) tokens e.1 left f.words more.words;
      } in
      subst (λ (ts : List Tree). AllStand AreExprs (pieces_with_commas false) depth names (listed ts) tokens left) (sym c.is) all

  arguments_sound : (names : Names) (tokens : List Token) →
      AllStand AreExprs (pieces_with_commas false) depth names (listed (arguments_at depth inner types names tokens).0) tokens (arguments_at depth inner types names tokens).1
  unfolding arguments_at
  arguments_sound names tokens = arguments_by names tokens (inner names 1 tokens) refl

  -- ---- parts

  abbrev pub PartFound : Names → List Token → Found → Type 0
  PartFound names tokens e = Stands IsPart pieces depth names e.0 tokens e.1

  index_sound : (names : Names) (t : Token) (tokens : List Token) (e : Found) → t.word ≡ word.Punctuator mark.OpenBracket → index_at depth inner types names tokens ≡ Some e →
      PartFound names (t ∷ tokens) e
  unfolding index_at
  index_sound names t tokens e w same =
      let b = bind_some (inner names 0 tokens) (λ (x : Found). behind_mark mark.CloseBracket x.1 >>= (λ rest. Some (Index x.0, rest))) e same in
      let x = b.value in
      let c = bind_some (behind_mark mark.CloseBracket x.1) (λ rest. Some (Index x.0, rest)) e b.then in
      let f = inner_sound names 0 tokens x (omega arith) b.is in
      let within = f.within in
      moved (PartFound names (t ∷ tokens)) (Index x.0, c.value) e c.then (record {
        shape = within.shape;
        shallow = within.shallow;
        words = (
          record { word = w; place = tt {0} },
          fronts_join (pieces x.0) (sign mark.CloseBracket ∷ []) tokens x.1 c.value f.words (mark_alone mark.CloseBracket x.1 c.value c.is),
        );
      })

  call_sound : (names : Names) (t : Token) (tokens : List Token) (e : Found) → t.word ≡ word.Punctuator mark.OpenParenthesis → call_at depth inner types t.span names tokens ≡ Some e →
      PartFound names (t ∷ tokens) e
  unfolding call_at
  call_sound names t tokens e w same =
      let all = arguments_at depth inner types names tokens in
      let c = bind_some (behind_mark mark.CloseParenthesis all.1) (λ rest. Some (Call t.span (listed all.0), rest)) e same in
      let a = arguments_sound names tokens in
      moved (PartFound names (t ∷ tokens)) (Call t.span (listed all.0), c.value) e c.then (record {
        shape = a.shapes;
        shallow = a.shallow;
        words = (
          record { word = w; place = refl },
          fronts_join (pieces_with_commas false (listed all.0)) (sign mark.CloseParenthesis ∷ []) tokens all.1 c.value a.words
              (mark_alone mark.CloseParenthesis all.1 c.value c.is),
        );
      })

  dot_sound : (names : Names) (t : Token) (tokens : List Token) (e : Found) → t.word ≡ word.Punctuator mark.Dot → dot_at depth inner types tokens ≡ Some e → PartFound names (t ∷ tokens) e
  unfolding dot_at
  dot_sound names t tokens e w same =
      let c = bind_some (name_at tokens) (λ name. Some (Dot name.0, name.1)) e same in
      moved (PartFound names (t ∷ tokens)) (Dot c.value.0, c.value.1) e c.then (record {
        shape = tt {0};
        shallow = omega arith;
        words = (record { word = w; place = tt {0} }, name_found c.value [] tokens c.value.1 c.is refl);
      })

  arrow_sound : (names : Names) (t : Token) (tokens : List Token) (e : Found) → t.word ≡ word.Punctuator mark.Arrow → arrow_at depth inner types tokens ≡ Some e → PartFound names (t ∷ tokens) e
  unfolding arrow_at
  arrow_sound names t tokens e w same =
      let c = bind_some (name_at tokens) (λ name. Some (Arrow name.0, name.1)) e same in
      moved (PartFound names (t ∷ tokens)) (Arrow c.value.0, c.value.1) e c.then (record {
        shape = tt {0};
        shallow = omega arith;
        words = (record { word = w; place = tt {0} }, name_found c.value [] tokens c.value.1 c.is refl);
      })

  part_by : (names : Names) (t : Token) (tokens : List Token) (w : Word) (e : Found) → t.word ≡ w → part_of depth inner types names t tokens w ≡ Some e → PartFound names (t ∷ tokens) e
  part_by names t tokens (word.Punctuator mark.OpenBracket) e w same = index_sound names t tokens e w same
  part_by names t tokens (word.Punctuator mark.OpenParenthesis) e w same = call_sound names t tokens e w same
  part_by names t tokens (word.Punctuator mark.Dot) e w same = dot_sound names t tokens e w same
  part_by names t tokens (word.Punctuator mark.Arrow) e w same = arrow_sound names t tokens e w same
  part_by names t tokens (word.Punctuator mark.Increment) e w same =
      moved (PartFound names (t ∷ tokens)) (Increment, tokens) e same (record { shape = tt {0}; shallow = omega arith; words = (record { word = w; place = tt {0} }, refl) })
  part_by names t tokens (word.Punctuator mark.Decrement) e w same =
      moved (PartFound names (t ∷ tokens)) (Decrement, tokens) e same (record { shape = tt {0}; shallow = omega arith; words = (record { word = w; place = tt {0} }, refl) })
  part_by names t tokens _ e w same = absurd (none-some e same)

  pub part_sound : (names : Names) (tokens : List Token) (e : Found) → part_at depth inner types names tokens ≡ Some e → PartFound names tokens e
  part_sound names [] e same = absurd (none-some e same)
  part_sound names (t ∷ tokens) e same = part_by names t tokens t.word e refl same

  pub parts_sound : (n : ℕ) (names : Names) (tokens : List Token) →
      AllStand AreParts pieces_of_all depth names (listed (parts depth inner types n [] names tokens).0) tokens (parts depth inner types n [] names tokens).1
  parts_sound n names tokens =
      stand_collected IsPart AreParts pieces pieces_of_all parts_list depth names tokens (parts depth inner types n [] names tokens)
      (subst (Collected (Stands IsPart pieces depth) after [] names tokens) (sym (same_parts depth inner types n [] names tokens))
      (collect_sound (part_at depth inner types) after (Stands IsPart pieces depth) part_sound n [] names tokens))
