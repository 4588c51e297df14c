-- The rules of expressions (C11 6.5), as functions: what is found at the front of a list of tokens, and what is left. Each goes on while
-- something is found; an operator without its operand is left to what follows. A node's operands nest less deep than it, so that `inner`
-- reads what stands a node below and `types` the type names there; `depth` is how deep these may be.
use Rattle.std.specs.Prelude.{ℕ, zero, suc, nat_le, Bool, false, cond, ◌&&◌, List, [], ◌∷◌, ◌++◌, length, Option, None, Some}
use Rattle.c_base.specs.declared.number.Span.{Span}
use Rattle.c_base.specs.declared.token.Keyword.TheVariants as key
use Rattle.c_base.specs.declared.token.Punctuator.TheVariants as mark
use Rattle.c_base.specs.declared.token.Token.{Token}
use Rattle.c_base.specs.declared.token.Word.{Word}
use Rattle.c_base.specs.declared.token.Word.TheVariants as word
use Rattle.c_tree.specs.declared.operator.BinaryOperator.{BinaryOperator}
use Rattle.c_tree.specs.declared.operator.PrefixOperator.{PrefixOperator}
use Rattle.c_tree.specs.declared.operator.PrefixOperator.TheVariants as prefix
use Rattle.c_tree.specs.declared.operator.TypeOperator.{TypeOperator}
use Rattle.c_tree.specs.declared.operator.TypeOperator.TheVariants as type_operator
use Rattle.c_tree.specs.Nesting.{nest}
use Rattle.c_tree.specs.Trees.{Tree, Name, Integer, Floating, Character, Text, Parenthesised, Postfix, Prefix, OfType, Offsetof, Cast, Run, Conditional, Assignment, Comma, Index, Call, Dot, Arrow, Increment, Decrement, Operand}
use Rattle.c_tree.specs.Views.{listed}
use Rattle.c_tree.specs.WellFormed.{Names, is_typedef, after, level_of, level_behind}
use Rattle.c_parse_rules.specs.Tokens.{◌>>=◌, behind_mark, name_at, literal_at, operator_at, assigning_at, prefix_of, is_type_at}

-- a tree, and what is left
abbrev pub Found : Type 0
Found = Tree × List Token

-- some trees, and what is left
abbrev pub Several : Type 0
Several = List Tree × List Token

-- what reads an expression of at least some level
abbrev pub Inner : Type 0
Inner = Names → ℕ → List Token → Option Found

-- what reads a type name
abbrev pub Types : Type 0
Types = Names → List Token → Option Found

-- what is found first, or else this
abbrev pub or_else : Found → Option Found → Found
or_else other None = other
or_else other (Some found) = found

-- neighbouring string literals, one after the other
abbrev pub literals_with : (List (List ℕ) → List Token → List (List ℕ) × List Token) → List (List ℕ) → List Token → Option (List ℕ × List Token) → List (List ℕ) × List Token
literals_with again found tokens None = (found, tokens)
literals_with again found tokens (Some bytes) = again (found ++ bytes.0 ∷ []) bytes.1

abbrev pub literals : ℕ → List (List ℕ) → List Token → List (List ℕ) × List Token
literals zero found tokens = (found, tokens)
literals (suc n) found tokens = literals_with (literals n) found tokens (literal_at tokens)

-- the levels of operators, from the tightest (C11 6.5.5 to 6.5.14)
abbrev pub levels : List ℕ
levels = 12 ∷ 11 ∷ 10 ∷ 9 ∷ 8 ∷ 7 ∷ 6 ∷ 5 ∷ 4 ∷ 3 ∷ []

module _ (depth : ℕ) (inner : Inner) (types : Types) where
  -- ---- lists; `again` reads what is behind what was found, and each loop has a number of rounds that it may take

  -- expressions behind commas
  abbrev pub listed_with : (List Tree → Names → List Token → Several) → List Tree → Names → List Token → Option Found → Several
  listed_with again found names tokens None = (found, tokens)
  listed_with again found names tokens (Some e) = again (found ++ e.0 ∷ []) (after names e.0) e.1

  abbrev pub listed_behind : (List Tree → Names → List Token → Several) → List Tree → Names → List Token → Option (List Token) → Several
  listed_behind again found names tokens None = (found, tokens)
  listed_behind again found names tokens (Some rest) = listed_with again found names tokens (inner names 1 rest)

  abbrev pub behind_commas : ℕ → List Tree → Names → List Token → Several
  behind_commas zero found names tokens = (found, tokens)
  behind_commas (suc n) found names tokens = listed_behind (behind_commas n) found names tokens (behind_mark mark.Comma tokens)

  abbrev pub arguments_with : List Token → Names → Option Found → Several
  arguments_with tokens names None = ([], tokens)
  arguments_with tokens names (Some e) = behind_commas (suc (length e.1)) (e.0 ∷ []) (after names e.0) e.1

  unfoldable pub arguments_at : Names → List Token → Several
  arguments_at names tokens = arguments_with tokens names (inner names 1 tokens)

  -- operators of one level, each with its operand
  abbrev pub operands_with : (List Tree → Names → List Token → Several) → List Tree → BinaryOperator → Names → List Token → Option Found → Several
  operands_with again found operator names tokens None = (found, tokens)
  operands_with again found operator names tokens (Some e) = again (found ++ Operand operator e.0 ∷ []) (after names e.0) e.1

  abbrev pub operands_behind : (List Tree → Names → List Token → Several) → ℕ → List Tree → Names → List Token → Option (BinaryOperator × List Token) → Several
  operands_behind again level found names tokens None = (found, tokens)
  operands_behind again level found names tokens (Some o) = operands_with again found o.0 names tokens (inner names (suc level) o.1)

  abbrev pub operands : ℕ → ℕ → List Tree → Names → List Token → Several
  operands zero level found names tokens = (found, tokens)
  operands (suc n) level found names tokens = operands_behind (operands n level) level found names tokens (operator_at level tokens)

  -- ---- what stands behind an operand (C11 6.5.2)

  unfoldable pub index_at : Names → List Token → Option Found
  index_at names tokens = do
    e ← inner names 0 tokens
    rest ← behind_mark mark.CloseBracket e.1
    Some (Index e.0, rest)

  unfoldable pub call_at : Span → Names → List Token → Option Found
  call_at opening names tokens = do
    rest ← behind_mark mark.CloseParenthesis (arguments_at names tokens).1
    Some (Call opening (listed (arguments_at names tokens).0), rest)

  unfoldable pub dot_at : List Token → Option Found
  dot_at tokens = do
    name ← name_at tokens
    Some (Dot name.0, name.1)

  unfoldable pub arrow_at : List Token → Option Found
  arrow_at tokens = do
    name ← name_at tokens
    Some (Arrow name.0, name.1)

  abbrev pub part_of : Names → Token → List Token → Word → Option Found
  part_of names t tokens (word.Punctuator mark.OpenBracket) = index_at names tokens
  part_of names t tokens (word.Punctuator mark.OpenParenthesis) = call_at t.span names tokens
  part_of names t tokens (word.Punctuator mark.Dot) = dot_at tokens
  part_of names t tokens (word.Punctuator mark.Arrow) = arrow_at tokens
  part_of names t tokens (word.Punctuator mark.Increment) = Some (Increment, tokens)
  part_of names t tokens (word.Punctuator mark.Decrement) = Some (Decrement, tokens)
  part_of names t tokens _ = None

  abbrev pub part_at : Names → List Token → Option Found
  part_at names [] = None
  part_at names (t ∷ tokens) = part_of names t tokens t.word

  abbrev pub parts_with : (List Tree → Names → List Token → Several) → List Tree → Names → List Token → Option Found → Several
  parts_with again found names tokens None = (found, tokens)
  parts_with again found names tokens (Some part) = again (found ++ part.0 ∷ []) (after names part.0) part.1

  abbrev pub parts : ℕ → List Tree → Names → List Token → Several
  parts zero found names tokens = (found, tokens)
  parts (suc n) found names tokens = parts_with (parts n) found names tokens (part_at names tokens)

  abbrev pub postfix_of : Span → Found → Several → Found
  postfix_of span found ([], rest) = found
  postfix_of span found (part ∷ more, rest) = (Postfix span found.0 (listed (part ∷ more)), rest)

  -- behind a primary expression
  unfoldable pub postfix_at : Span → Names → Found → Found
  postfix_at span names found =
      cond (nat_le (nest found.0) depth) (postfix_of span found (parts (suc (length found.1)) [] (after names found.0) found.1)) found

  -- ---- primary expressions (C11 6.5.1)

  unfoldable pub parenthesised_at : Span → Names → List Token → Option Found
  parenthesised_at span names tokens = do
    e ← inner names 0 tokens
    rest ← behind_mark mark.CloseParenthesis e.1
    Some (Parenthesised span e.0, rest)

  -- a type name in parentheses
  unfoldable pub type_at : Names → List Token → Option Found
  type_at names tokens = do
    open_rest ← behind_mark mark.OpenParenthesis tokens
    t ← types names open_rest
    rest ← behind_mark mark.CloseParenthesis t.1
    Some (t.0, rest)

  unfoldable pub offsetof_at : Span → Names → List Token → Option Found
  offsetof_at span names tokens = do
    open_rest ← behind_mark mark.OpenParenthesis tokens
    t ← types names open_rest
    comma ← behind_mark mark.Comma t.1
    member ← name_at comma
    rest ← behind_mark mark.CloseParenthesis member.1
    Some (Offsetof span t.0 member.0, rest)

  abbrev pub text_of_literals : Span → List (List ℕ) × List Token → Found
  text_of_literals span several = (Text span several.0, several.1)

  abbrev pub primary_of : Span → Names → List Token → Word → Option Found
  primary_of span names tokens (word.Identifier name) = cond (is_typedef names name) None (Some (Name span name, tokens))
  primary_of span names tokens (word.Integer constant) = Some (Integer span constant, tokens)
  primary_of span names tokens word.Floating = Some (Floating span, tokens)
  primary_of span names tokens (word.Character byte) = Some (Character span byte, tokens)
  primary_of span names tokens (word.Text bytes) = Some (text_of_literals span (literals (suc (length tokens)) (bytes ∷ []) tokens))
  primary_of span names tokens (word.Punctuator mark.OpenParenthesis) = parenthesised_at span names tokens
  primary_of span names tokens (word.Keyword key.BuiltinOffsetof) = offsetof_at span names tokens
  primary_of span names tokens _ = None

  unfoldable pub primary_at : Span → Names → List Token → Word → Option Found
  primary_at span names tokens w = do
    found ← primary_of span names tokens w
    Some (postfix_at span names found)

  -- ---- prefix operators and casts (C11 6.5.3 and 6.5.4)

  unfoldable pub prefix_at : Span → PrefixOperator → Names → List Token → Option Found
  prefix_at span operator names tokens = do
    e ← inner names (level_behind operator) tokens
    Some (Prefix span operator e.0, e.1)

  unfoldable pub of_type_at : Span → TypeOperator → Names → List Token → Option Found
  of_type_at span operator names tokens = do
    t ← type_at names tokens
    Some (OfType span operator t.0, t.1)

  -- a `(` with a type behind it
  abbrev pub opens_type : Names → Option (List Token) → Bool
  opens_type names None = false
  opens_type names (Some rest) = is_type_at names rest

  unfoldable pub sizeof_at : Span → Names → List Token → Option Found
  sizeof_at span names tokens =
      cond (opens_type names (behind_mark mark.OpenParenthesis tokens)) (of_type_at span type_operator.Sizeof names tokens)
      (prefix_at span prefix.Sizeof names tokens)

  -- behind the `(`
  unfoldable pub cast_at : Span → Names → List Token → Option Found
  cast_at span names tokens = do
    t ← types names tokens
    rest ← behind_mark mark.CloseParenthesis t.1
    e ← inner (after names t.0) 13 rest
    Some (Cast span t.0 e.0, e.1)

  abbrev pub prefixed : Span → Names → List Token → Option PrefixOperator → Option Found → Option Found
  prefixed span names tokens None other = other
  prefixed span names tokens (Some operator) other = prefix_at span operator names tokens

  -- a cast where the level allows it, a prefix form, or a postfix run
  abbrev pub unary_of : ℕ → Span → Names → List Token → Word → Option Found
  unary_of least span names tokens (word.Keyword key.Sizeof) = sizeof_at span names tokens
  unary_of least span names tokens (word.Keyword key.Alignof) = of_type_at span type_operator.Alignof names tokens
  unary_of least span names tokens (word.Punctuator mark.OpenParenthesis) =
      cond (is_type_at names tokens) (cond (nat_le least 13) (cast_at span names tokens) None)
      (primary_at span names tokens (word.Punctuator mark.OpenParenthesis))
  unary_of least span names tokens (word.Punctuator p) =
      prefixed span names tokens (prefix_of p) (primary_at span names tokens (word.Punctuator p))
  unary_of least span names tokens w = primary_at span names tokens w

  -- ---- what goes on from there, as far as the level allows it (C11 6.5.5 to 6.5.17)

  abbrev pub run_of : Span → Found → Several → Found
  run_of span found ([], rest) = found
  run_of span found (operand ∷ more, rest) = (Run span found.0 (listed (operand ∷ more)), rest)

  unfoldable pub run_at : ℕ → Span → Names → Found → Found
  run_at level span names found =
      cond (nat_le (nest found.0) depth) (run_of span found (operands (suc (length found.1)) level [] (after names found.0) found.1)) found

  abbrev pub runs : List ℕ → ℕ → Span → Names → Found → Found
  runs [] least span names found = found
  runs (level ∷ more) least span names found = runs more least span names (cond (nat_le least level) (run_at level span names found) found)

  unfoldable pub branches_at : Span → Names → Found → Option Found
  branches_at span names found = do
    inside ← behind_mark mark.Question found.1
    when_true ← inner (after names found.0) 0 inside
    rest ← behind_mark mark.Colon when_true.1
    when_false ← inner (after (after names found.0) when_true.0) 2 rest
    Some (Conditional span found.0 when_true.0 when_false.0, when_false.1)

  unfoldable pub conditional_at : ℕ → Span → Names → Found → Found
  conditional_at least span names found =
      cond (nat_le least 2 && nat_le (nest found.0) depth) (or_else found (branches_at span names found)) found

  unfoldable pub value_at : Span → Names → Found → Option Found
  value_at span names found = do
    operator ← assigning_at found.1
    value ← inner (after names found.0) 1 operator.1
    Some (Assignment span found.0 operator.0 value.0, value.1)

  -- an assignment, else runs and `?:`
  abbrev pub assigned : ℕ → Span → Names → Found → Option Found → Found
  assigned least span names found (Some assignment) = assignment
  assigned least span names found None = conditional_at least span names (runs levels least span names found)

  unfoldable pub assignment_at : ℕ → Span → Names → Found → Found
  assignment_at least span names found =
      assigned least span names found
      (cond (nat_le least 1 && (nat_le 14 (level_of found.0) && nat_le (nest found.0) depth)) (value_at span names found) None)

  abbrev pub comma_of : Span → Found → Several → Found
  comma_of span found ([], rest) = found
  comma_of span found (e ∷ more, rest) = (Comma span found.0 (listed (e ∷ more)), rest)

  unfoldable pub comma_at : ℕ → Span → Names → Found → Found
  comma_at least span names found =
      cond (nat_le least 0 && nat_le (nest found.0) depth) (comma_of span found (behind_commas (suc (length found.1)) [] (after names found.0) found.1)) found

  unfoldable pub expr_behind : ℕ → Names → Token → List Token → Option Found
  expr_behind least names t tokens = do
    found ← unary_of least t.span names tokens t.word
    Some (comma_at least t.span names (assignment_at least t.span names found))

  -- an expression of at least this level, whose operands are read by `inner`
  abbrev pub expr_rule : ℕ → Names → List Token → Option Found
  expr_rule least names [] = None
  expr_rule least names (t ∷ tokens) = expr_behind least names t tokens
