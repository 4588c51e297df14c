-- The words that a tree spells, in order, and the places that it has of them.
use Rattle.std.specs.Prelude.{ℕ, Bool, true, false, List, [], ◌∷◌, ◌++◌, map, Option, None, Some}
use Rattle.c_base.specs.declared.number.Span.{Span}
use Rattle.c_base.specs.declared.token.Keyword.{Keyword}
use Rattle.c_base.specs.declared.token.Keyword.TheVariants as key
use Rattle.c_base.specs.declared.token.Punctuator.{Punctuator}
use Rattle.c_base.specs.declared.token.Punctuator.TheVariants as mark
use Rattle.c_base.specs.declared.token.Word.{Word}
use Rattle.c_base.specs.declared.token.Word.TheVariants as word
use Rattle.c_tree.specs.declared.operator.AssignmentOperator.{AssignmentOperator}
use Rattle.c_tree.specs.declared.operator.AssignmentOperator.TheVariants as assignment
use Rattle.c_tree.specs.declared.operator.BinaryOperator.{BinaryOperator}
use Rattle.c_tree.specs.declared.operator.BinaryOperator.TheVariants as binary
use Rattle.c_tree.specs.declared.operator.PrefixOperator.{PrefixOperator}
use Rattle.c_tree.specs.declared.operator.PrefixOperator.TheVariants as prefix
use Rattle.c_tree.specs.declared.operator.TypeOperator.{TypeOperator}
use Rattle.c_tree.specs.declared.operator.TypeOperator.TheVariants as type_operator
use Rattle.c_tree.specs.declared.tree.Attribute.{Attribute as CodeAttribute}
use Rattle.c_tree.specs.declared.tree.CompositeSort.{CompositeSort}
use Rattle.c_tree.specs.declared.tree.CompositeSort.TheVariants as sort
use Rattle.c_tree.specs.declared.tree.Pointer.{Pointer}
use Rattle.c_tree.specs.declared.tree.Qualifier.{Qualifier}
use Rattle.c_tree.specs.declared.tree.Qualifier.TheVariants as qualifier
use Rattle.c_tree.specs.Trees.{Tree, Name, Integer, Floating, Character, Text, Parenthesised, Postfix, Prefix, OfType, Offsetof, Cast, Run, Conditional, Assignment, Comma, Index, Call, Dot, Arrow, Increment, Decrement, Operand, TypeName, Key, Typedef, Attribute, CompositeTag, Composite, EnumTag, Enum, Enumerator, Fields, Assertion, Field, Padding, Declarator, Absent, Declared, Group, Array, Function, Trees, Nil, Next}

-- a word, and its place where the tree has it
pub record Piece : Type 0 where
  pub word : Word
  pub place : Option Span

abbrev pub at : Span → Word → Piece
at span w = record { word = w; place = Some span }

abbrev pub plain : Word → Piece
plain w = record { word = w; place = None }

abbrev pub sign : Punctuator → Piece
sign p = plain (word.Punctuator p)

-- ---- operators (C11 6.5.2 to 6.5.16)

abbrev pub word_of_prefix : PrefixOperator → Word
word_of_prefix prefix.Increment = word.Punctuator mark.Increment
word_of_prefix prefix.Decrement = word.Punctuator mark.Decrement
word_of_prefix prefix.Address = word.Punctuator mark.Ampersand
word_of_prefix prefix.Indirection = word.Punctuator mark.Star
word_of_prefix prefix.Plus = word.Punctuator mark.Plus
word_of_prefix prefix.Minus = word.Punctuator mark.Minus
word_of_prefix prefix.Complement = word.Punctuator mark.Tilde
word_of_prefix prefix.Not = word.Punctuator mark.Exclamation
word_of_prefix prefix.Sizeof = word.Keyword key.Sizeof

abbrev pub word_of_type_operator : TypeOperator → Word
word_of_type_operator type_operator.Sizeof = word.Keyword key.Sizeof
word_of_type_operator type_operator.Alignof = word.Keyword key.Alignof

abbrev pub mark_of_binary : BinaryOperator → Punctuator
mark_of_binary binary.Multiply = mark.Star
mark_of_binary binary.Divide = mark.Slash
mark_of_binary binary.Remainder = mark.Percent
mark_of_binary binary.Add = mark.Plus
mark_of_binary binary.Subtract = mark.Minus
mark_of_binary binary.ShiftLeft = mark.ShiftLeft
mark_of_binary binary.ShiftRight = mark.ShiftRight
mark_of_binary binary.Less = mark.Less
mark_of_binary binary.Greater = mark.Greater
mark_of_binary binary.LessEqual = mark.LessEqual
mark_of_binary binary.GreaterEqual = mark.GreaterEqual
mark_of_binary binary.Equal = mark.Equal
mark_of_binary binary.NotEqual = mark.NotEqual
mark_of_binary binary.BitAnd = mark.Ampersand
mark_of_binary binary.BitXor = mark.Caret
mark_of_binary binary.BitOr = mark.Bar
mark_of_binary binary.And = mark.AndAnd
mark_of_binary binary.Or = mark.OrOr

abbrev pub mark_of_assignment : AssignmentOperator → Punctuator
mark_of_assignment assignment.Plain = mark.Assign
mark_of_assignment assignment.Multiply = mark.StarAssign
mark_of_assignment assignment.Divide = mark.SlashAssign
mark_of_assignment assignment.Remainder = mark.PercentAssign
mark_of_assignment assignment.Add = mark.PlusAssign
mark_of_assignment assignment.Subtract = mark.MinusAssign
mark_of_assignment assignment.ShiftLeft = mark.ShiftLeftAssign
mark_of_assignment assignment.ShiftRight = mark.ShiftRightAssign
mark_of_assignment assignment.BitAnd = mark.AmpersandAssign
mark_of_assignment assignment.BitXor = mark.CaretAssign
mark_of_assignment assignment.BitOr = mark.BarAssign

-- ---- parts without trees

abbrev pub pieces_of_literals : List (List ℕ) → List Piece
pieces_of_literals [] = []
pieces_of_literals (bytes ∷ more) = plain (word.Text bytes) ∷ pieces_of_literals more

-- neighbouring string literals, of which the first has a place
abbrev pub pieces_of_text : Span → List (List ℕ) → List Piece
pieces_of_text span [] = []
pieces_of_text span (bytes ∷ more) = at span (word.Text bytes) ∷ pieces_of_literals more

abbrev pub pieces_of_words : List Word → List Piece
pieces_of_words [] = []
pieces_of_words (w ∷ more) = plain w ∷ pieces_of_words more

abbrev pub pieces_of_attribute : CodeAttribute → List Piece
pieces_of_attribute a =
    at a.span (word.Keyword key.Attribute) ∷ sign mark.OpenParenthesis ∷ sign mark.OpenParenthesis
    ∷ pieces_of_words a.words ++ sign mark.CloseParenthesis ∷ sign mark.CloseParenthesis ∷ []

abbrev pub pieces_of_attributes : List CodeAttribute → List Piece
pieces_of_attributes [] = []
pieces_of_attributes (a ∷ more) = pieces_of_attribute a ++ pieces_of_attributes more

abbrev pub pieces_of_keywords : List Keyword → List Piece
pieces_of_keywords [] = []
pieces_of_keywords (k ∷ more) = plain (word.Keyword k) ∷ pieces_of_keywords more

abbrev pub pieces_of_qualifier : Qualifier → List Piece
pieces_of_qualifier (qualifier.Keyword k) = plain (word.Keyword k) ∷ []
pieces_of_qualifier (qualifier.Attribute a) = pieces_of_attribute a

abbrev pub pieces_of_qualifiers : List Qualifier → List Piece
pieces_of_qualifiers [] = []
pieces_of_qualifiers (q ∷ more) = pieces_of_qualifier q ++ pieces_of_qualifiers more

abbrev pub pieces_of_pointer : Pointer → List Piece
pieces_of_pointer p = at p.span (word.Punctuator mark.Star) ∷ pieces_of_qualifiers p.qualifiers

abbrev pub pieces_of_pointers : List Pointer → List Piece
pieces_of_pointers [] = []
pieces_of_pointers (p ∷ more) = pieces_of_pointer p ++ pieces_of_pointers more

abbrev pub keyword_of_sort : CompositeSort → Keyword
keyword_of_sort sort.Struct = key.Struct
keyword_of_sort sort.Union = key.Union

abbrev pub pieces_of_tag : Option (List ℕ) → List Piece
pieces_of_tag None = []
pieces_of_tag (Some name) = plain (word.Identifier name) ∷ []

-- a word that may stand there
abbrev pub pieces_where : Bool → List Piece → List Piece
pieces_where true pieces = pieces
pieces_where false pieces = []

-- ---- trees

abbrev mutual
  pub pieces : Tree → List Piece
  pieces (Name span name) = at span (word.Identifier name) ∷ []
  pieces (Integer span constant) = at span (word.Integer constant) ∷ []
  pieces (Floating span) = at span word.Floating ∷ []
  pieces (Character span byte) = at span (word.Character byte) ∷ []
  pieces (Text span literals) = pieces_of_text span literals
  pieces (Parenthesised span inner) = at span (word.Punctuator mark.OpenParenthesis) ∷ pieces inner ++ sign mark.CloseParenthesis ∷ []
  pieces (Postfix span first parts) = pieces first ++ pieces_of_all parts
  pieces (Prefix span operator operand) = at span (word_of_prefix operator) ∷ pieces operand
  pieces (OfType span operator type_name) =
      at span (word_of_type_operator operator) ∷ sign mark.OpenParenthesis ∷ pieces type_name ++ sign mark.CloseParenthesis ∷ []
  pieces (Offsetof span type_name member) =
      at span (word.Keyword key.BuiltinOffsetof) ∷ sign mark.OpenParenthesis ∷ pieces type_name
      ++ sign mark.Comma ∷ plain (word.Identifier member) ∷ sign mark.CloseParenthesis ∷ []
  pieces (Cast span type_name operand) =
      at span (word.Punctuator mark.OpenParenthesis) ∷ pieces type_name ++ sign mark.CloseParenthesis ∷ pieces operand
  pieces (Run span first more) = pieces first ++ pieces_of_all more
  pieces (Conditional span condition when_true when_false) =
      pieces condition ++ sign mark.Question ∷ pieces when_true ++ sign mark.Colon ∷ pieces when_false
  pieces (Assignment span target operator value) = pieces target ++ sign (mark_of_assignment operator) ∷ pieces value
  pieces (Comma span first more) = pieces first ++ pieces_with_commas true more
  pieces (Index index) = sign mark.OpenBracket ∷ pieces index ++ sign mark.CloseBracket ∷ []
  pieces (Call opening arguments) =
      at opening (word.Punctuator mark.OpenParenthesis) ∷ pieces_with_commas false arguments ++ sign mark.CloseParenthesis ∷ []
  pieces (Dot name) = sign mark.Dot ∷ plain (word.Identifier name) ∷ []
  pieces (Arrow name) = sign mark.Arrow ∷ plain (word.Identifier name) ∷ []
  pieces Increment = sign mark.Increment ∷ []
  pieces Decrement = sign mark.Decrement ∷ []
  pieces (Operand operator operand) = sign (mark_of_binary operator) ∷ pieces operand
  pieces (TypeName span specifiers declarator) = pieces_of_all specifiers ++ pieces_of_all declarator
  pieces (Key span keyword) = at span (word.Keyword keyword) ∷ []
  pieces (Typedef span name) = at span (word.Identifier name) ∷ []
  pieces (Attribute attribute) = pieces_of_attribute attribute
  pieces (CompositeTag span sort attributes tag) =
      at span (word.Keyword (keyword_of_sort sort)) ∷ pieces_of_attributes attributes ++ plain (word.Identifier tag) ∷ []
  pieces (Composite span sort attributes tag members trailing) =
      at span (word.Keyword (keyword_of_sort sort)) ∷ pieces_of_attributes attributes ++ pieces_of_tag tag
      ++ sign mark.OpenBrace ∷ pieces_of_all members ++ sign mark.CloseBrace ∷ pieces_of_attributes trailing
  pieces (EnumTag span tag) = at span (word.Keyword key.Enum) ∷ plain (word.Identifier tag) ∷ []
  pieces (Enum span tag enumerators comma) =
      at span (word.Keyword key.Enum) ∷ pieces_of_tag tag ++ sign mark.OpenBrace ∷ pieces_with_commas false enumerators
      ++ pieces_where comma (sign mark.Comma ∷ []) ++ sign mark.CloseBrace ∷ []
  pieces (Enumerator span name value) = at span (word.Identifier name) ∷ pieces_behind mark.Assign value
  pieces (Fields span specifiers fields) = pieces_of_all specifiers ++ pieces_with_commas false fields ++ sign mark.Semicolon ∷ []
  pieces (Assertion span condition literals) =
      at span (word.Keyword key.StaticAssert) ∷ sign mark.OpenParenthesis ∷ pieces condition
      ++ sign mark.Comma ∷ pieces_of_literals literals ++ sign mark.CloseParenthesis ∷ sign mark.Semicolon ∷ []
  pieces (Field span declarator width attributes) = pieces declarator ++ pieces_behind mark.Colon width ++ pieces_of_attributes attributes
  pieces (Padding span width) = at span (word.Punctuator mark.Colon) ∷ pieces width
  pieces (Declarator span pointers core suffixes) = pieces_of_pointers pointers ++ pieces core ++ pieces_of_all suffixes
  pieces Absent = []
  pieces (Declared span name) = at span (word.Identifier name) ∷ []
  pieces (Group span inner) = at span (word.Punctuator mark.OpenParenthesis) ∷ pieces inner ++ sign mark.CloseParenthesis ∷ []
  pieces (Array span qualifiers bound) =
      at span (word.Punctuator mark.OpenBracket) ∷ pieces_of_keywords qualifiers ++ pieces_of_all bound ++ sign mark.CloseBracket ∷ []
  pieces (Function span parameters variadic) =
      at span (word.Punctuator mark.OpenParenthesis) ∷ pieces_with_commas false parameters
      ++ pieces_where variadic (sign mark.Comma ∷ sign mark.Ellipsis ∷ []) ++ sign mark.CloseParenthesis ∷ []

  -- one after the other
  pub pieces_of_all : Trees → List Piece
  pieces_of_all Nil = []
  pieces_of_all (Next t more) = pieces t ++ pieces_of_all more

  -- each behind a punctuator
  pub pieces_behind : Punctuator → Trees → List Piece
  pieces_behind p Nil = []
  pieces_behind p (Next t more) = sign p ∷ pieces t ++ pieces_behind p more

  -- with commas between them, and before the first where `behind`
  pub pieces_with_commas : Bool → Trees → List Piece
  pieces_with_commas behind Nil = []
  pieces_with_commas behind (Next t more) = pieces_where behind (sign mark.Comma ∷ []) ++ pieces t ++ pieces_with_commas true more

abbrev pub words_of : List Piece → List Word
words_of = map (λ (p : Piece). p.word)

-- the words that a tree spells
abbrev pub spell : Tree → List Word
spell t = words_of (pieces t)
