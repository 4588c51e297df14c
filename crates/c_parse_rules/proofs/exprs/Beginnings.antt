-- How an expression begins: with a word that begins one and that is no type, at its place.
use Rattle.std.proofs.Common.{◌≡◌, ℕ, ◌≤◌, true, false, List, [], ◌∷◌, ◌++◌, Some, refl, sym, ◌∙◌, ap, arith, IsTrue}
use Rattle.c_base.specs.declared.number.Span.{Span}
use Rattle.c_base.specs.declared.token.Keyword.TheVariants as key
use Rattle.c_base.specs.declared.token.Punctuator.TheVariants as mark
use Rattle.c_base.specs.declared.token.Token.{Token}
use Rattle.c_base.specs.declared.token.Word.{Word}
use Rattle.c_base.specs.declared.token.Word.TheVariants as word
use Rattle.c_tree.specs.declared.operator.PrefixOperator.{PrefixOperator}
use Rattle.c_tree.specs.declared.operator.PrefixOperator.TheVariants as prefix
use Rattle.c_tree.specs.declared.operator.TypeOperator.{TypeOperator}
use Rattle.c_tree.specs.declared.operator.TypeOperator.TheVariants as type_operator
use Rattle.c_tree.specs.Nesting.{nest}
use Rattle.c_tree.specs.Spelling.{Piece, at, plain, sign, word_of_prefix, word_of_type_operator, pieces, pieces_of_all, pieces_with_commas}
use Rattle.c_tree.specs.Trees.{Tree, Name, Integer, Floating, Character, Text, Parenthesised, Postfix, Prefix, OfType, Offsetof, Cast, Run, Conditional, Assignment, Comma}
use Rattle.c_tree.specs.WellFormed.{Names, IsExpr, IsFirst, place_of}
use Rattle.c_parse_rules.specs.Found.{Fronts}
use Rattle.c_parse_rules.specs.Tokens.{begins_type, is_type_at}
use Rattle.c_parse_rules.proofs.Laws.{begins_expr}
use Rattle.c_parse_rules.proofs.exprs.Fronts.{fronts_split, fronts_first}

pub record Begins (names : Names) (t : Tree) (tokens : List Token) : Type 0 where
  pub token : Token
  pub left : List Token
  pub same : tokens ≡ token ∷ left
  pub begins : IsTrue (begins_expr token.word)
  pub untyped : begins_type names token.word ≡ false
  pub place : place_of t ≡ Some token.span
  pub deep : 1 ≤ nest t

begins_with : (names : Names) (t : Tree) (span : Span) (w : Word) (p : List Piece) (tokens rest : List Token) → Fronts (at span w ∷ p) tokens rest →
    begins_expr w ≡ true → begins_type names w ≡ false → place_of t ≡ Some span → 1 ≤ nest t → Begins names t tokens
begins_with names t span w p tokens rest h begins untyped place deep =
    let f = fronts_first (at span w) p tokens rest h in
    record {
      token = f.token;
      left = f.left;
      same = f.same;
      begins = rw f.word begins;
      untyped = rw f.word untyped;
      place = place ∙ ap Some f.place;
      deep = deep;
    }

-- the first operand begins where the node does
begins_first : (names : Names) (t first : Tree) (span : Span) (level : ℕ) (tokens : List Token) → Begins names first tokens → IsFirst span level first →
    place_of t ≡ Some span → 1 ≤ nest t → Begins names t tokens
begins_first names t first span level tokens b f place deep =
    record {
      token = b.token;
      left = b.left;
      same = b.same;
      begins = b.begins;
      untyped = b.untyped;
      place = place ∙ sym f.place ∙ b.place;
      deep = deep;
    }

prefix_begins : (operator : PrefixOperator) → begins_expr (word_of_prefix operator) ≡ true
prefix_begins prefix.Increment = refl
prefix_begins _ = refl

prefix_untyped : (names : Names) (operator : PrefixOperator) → begins_type names (word_of_prefix operator) ≡ false
prefix_untyped names prefix.Increment = refl
prefix_untyped names _ = refl

type_operator_begins : (operator : TypeOperator) → begins_expr (word_of_type_operator operator) ≡ true
type_operator_begins type_operator.Sizeof = refl
type_operator_begins type_operator.Alignof = refl

type_operator_untyped : (names : Names) (operator : TypeOperator) → begins_type names (word_of_type_operator operator) ≡ false
type_operator_untyped names type_operator.Sizeof = refl
type_operator_untyped names type_operator.Alignof = refl

pub expr_begins : (names : Names) (t : Tree) (tokens rest : List Token) → IsExpr names t → Fronts (pieces t) tokens rest → Begins names t tokens
expr_begins names (Name span name) tokens rest e h = begins_with names (Name span name) span (word.Identifier name) [] tokens rest h refl e refl (omega arith)
expr_begins names (Integer span constant) tokens rest e h = begins_with names (Integer span constant) span (word.Integer constant) [] tokens rest h refl refl refl (omega arith)
expr_begins names (Floating span) tokens rest e h = begins_with names (Floating span) span word.Floating [] tokens rest h refl refl refl (omega arith)
expr_begins names (Character span byte) tokens rest e h = begins_with names (Character span byte) span (word.Character byte) [] tokens rest h refl refl refl (omega arith)
expr_begins names (Text span []) tokens rest e h = absurd e
expr_begins names (Text span (bytes ∷ more)) tokens rest e h = begins_with names (Text span (bytes ∷ more)) span (word.Text bytes) _ tokens rest h refl refl refl (omega arith)
expr_begins names (Parenthesised span inner) tokens rest e h =
    begins_with names (Parenthesised span inner) span (word.Punctuator mark.OpenParenthesis) (pieces inner ++ sign mark.CloseParenthesis ∷ []) tokens rest h refl refl refl (omega arith)
expr_begins names (Postfix span first parts) tokens rest e h =
    let s = fronts_split (pieces first) (pieces_of_all parts) tokens rest h in
    begins_first names (Postfix span first parts) first span 16 tokens (expr_begins names first tokens s.mid e.1 s.front) e.0 refl (omega arith)
expr_begins names (Prefix span operator operand) tokens rest e h =
    begins_with names (Prefix span operator operand) span (word_of_prefix operator) (pieces operand) tokens rest h (prefix_begins operator) (prefix_untyped names operator) refl (omega arith)
expr_begins names (OfType span operator type_name) tokens rest e h =
    begins_with names (OfType span operator type_name) span (word_of_type_operator operator) (sign mark.OpenParenthesis ∷ pieces type_name ++ sign mark.CloseParenthesis ∷ []) tokens rest h
    (type_operator_begins operator) (type_operator_untyped names operator) refl (omega arith)
expr_begins names (Offsetof span type_name member) tokens rest e h =
    begins_with names (Offsetof span type_name member) span (word.Keyword key.BuiltinOffsetof)
    (sign mark.OpenParenthesis ∷ pieces type_name ++ sign mark.Comma ∷ plain (word.Identifier member) ∷ sign mark.CloseParenthesis ∷ []) tokens rest h refl refl refl (omega arith)
expr_begins names (Cast span type_name operand) tokens rest e h =
    begins_with names (Cast span type_name operand) span (word.Punctuator mark.OpenParenthesis) (pieces type_name ++ sign mark.CloseParenthesis ∷ pieces operand) tokens rest h refl refl refl (omega arith)
expr_begins names (Run span first more) tokens rest e h =
    let s = fronts_split (pieces first) (pieces_of_all more) tokens rest h in
    begins_first names (Run span first more) first span _ tokens (expr_begins names first tokens s.mid e.1 s.front) e.0 refl (omega arith)
expr_begins names (Conditional span condition when_true when_false) tokens rest e h =
    let o = fronts_split (pieces condition ++ sign mark.Question ∷ pieces when_true) (sign mark.Colon ∷ pieces when_false) tokens rest h in
    let s = fronts_split (pieces condition) (sign mark.Question ∷ pieces when_true) tokens o.mid o.front in
    begins_first names (Conditional span condition when_true when_false) condition span 3 tokens (expr_begins names condition tokens s.mid e.1 s.front) e.0 refl (omega arith)
expr_begins names (Assignment span target operator value) tokens rest e h =
    let s = fronts_split (pieces target) _ tokens rest h in
    begins_first names (Assignment span target operator value) target span 14 tokens (expr_begins names target tokens s.mid e.1 s.front) e.0 refl (omega arith)
expr_begins names (Comma span first more) tokens rest e h =
    let s = fronts_split (pieces first) (pieces_with_commas true more) tokens rest h in
    begins_first names (Comma span first more) first span 1 tokens (expr_begins names first tokens s.mid e.1 s.front) e.0 refl (omega arith)
expr_begins names _ tokens rest e h = absurd e

pub expr_untyped : (names : Names) (t : Tree) (tokens rest : List Token) → IsExpr names t → Fronts (pieces t) tokens rest → is_type_at names tokens ≡ false
expr_untyped names t tokens rest e h = let b = expr_begins names t tokens rest e h in rw b.same b.untyped

pub expr_deep : (names : Names) (t : Tree) → IsExpr names t → 1 ≤ nest t
expr_deep names (Name span name) e = omega arith
expr_deep names (Integer span constant) e = omega arith
expr_deep names (Floating span) e = omega arith
expr_deep names (Character span byte) e = omega arith
expr_deep names (Text span literals) e = omega arith
expr_deep names (Parenthesised span inner) e = omega arith
expr_deep names (Postfix span first parts) e = omega arith
expr_deep names (Prefix span operator operand) e = omega arith
expr_deep names (OfType span operator type_name) e = omega arith
expr_deep names (Offsetof span type_name member) e = omega arith
expr_deep names (Cast span type_name operand) e = omega arith
expr_deep names (Run span first more) e = omega arith
expr_deep names (Conditional span condition when_true when_false) e = omega arith
expr_deep names (Assignment span target operator value) e = omega arith
expr_deep names (Comma span first more) e = omega arith
expr_deep names _ e = absurd e
