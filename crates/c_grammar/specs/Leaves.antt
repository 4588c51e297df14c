-- What the grammar takes as given: expressions, specifiers, declarators, string literals and attributes, and what reads them.
use Rattle.std.specs.Prelude.{ℕ, suc, ◌≡◌, ◌≤◌, Bool, true, false, List, [], ◌∷◌, length, Option, None, Some}
use Rattle.c_base.specs.declared.token.Keyword.TheVariants as key
use Rattle.c_base.specs.declared.token.Token.{Token}
use Rattle.c_base.specs.declared.token.Word.{Word}
use Rattle.c_base.specs.declared.token.Word.TheVariants as word
use Rattle.c_tree.specs.declared.tree.Attribute.{Attribute as CodeAttribute}
use Rattle.c_tree.specs.Nesting.{nest, nest_all}
use Rattle.c_tree.specs.Spelling.{Piece, pieces, pieces_of_all, pieces_of_attribute, pieces_of_attributes, pieces_of_literals}
use Rattle.c_tree.specs.Trees.{Tree, Trees}
use Rattle.c_tree.specs.Views.{listed}
use Rattle.c_tree.specs.WellFormed.{Names, Before, Untyped, before_end, ForName, after, after_all, level_of, AreThere, AreSpecifiers, IsDeclarator, IsExpr, IsText, IsAttribute, AreAttributes}
use Rattle.c_parse_rules.specs.Declaring.{starts, EndsDeclarator, goes_on_specifiers}
use Rattle.c_parse_rules.specs.Following.{goes_on}
use Rattle.c_parse_rules.specs.Found.{Fronts}
use Rattle.c_parse_rules.specs.Measured.{declarator_within, specifiers_within}
use Rattle.c_parse_rules.specs.Parsers.{expr_at}
use Rattle.c_parse_rules.specs.Rules.{Found, Several, literals}
use Rattle.c_parse_rules.specs.Tokens.{is_key, literal_at}
use Rattle.c_parse_rules.specs.TypeRules.{attribute_at, attributes_at}
use Rattle.grammar.specs.Forms.{Language}
use Rattle.c_grammar.specs.declared.rule.Rule.{Rule}
use Rattle.c_grammar.specs.declared.rule.Sort.{Sort}

-- what is read: an expression, one without commas, and a constant one (C11 6.5.17, 6.5.16 and 6.6); specifiers; a declarator with a name,
-- behind specifiers that leave this before it; string literals, one at least; attributes, and one of them
pub data Reader : Type 0 where
  Expression : Reader
  Assignment : Reader
  Constant : Reader
  SpecifierList : Reader
  NamedDeclarator : Before → Reader
  StringLiterals : Reader
  AttributeList : Reader
  OneAttribute : Reader

pub data Leaf : Type 0 where
  AnExpr : Tree → Leaf
  Specifiers : Trees → Leaf
  ADeclarator : Tree → Leaf
  Literals : List (List ℕ) → Leaf
  Attributes : List CodeAttribute → Leaf
  AnAttribute : CodeAttribute → Leaf

-- ---- what it is that tokens begin with them

-- these pieces stand there, and the names behind them
pub record Stands (all : List Piece) (tokens rest : List Token) (behind new : Names) : Type 0 where
  pub words : Fronts all tokens rest
  pub names : new ≡ behind

abbrev pub IsExprThere : ℕ → Tree → Names → List Token → Names → List Token → Type 0
IsExprThere least t names tokens new rest = Stands (pieces t) tokens rest (after names t) new × IsExpr names t × (least ≤ level_of t)

abbrev pub IsFront : Reader → Leaf → Names → List Token → Names → List Token → Type 0
IsFront Expression (AnExpr t) names tokens new rest = IsExprThere 0 t names tokens new rest
IsFront Assignment (AnExpr t) names tokens new rest = IsExprThere 1 t names tokens new rest
IsFront Constant (AnExpr t) names tokens new rest = IsExprThere 2 t names tokens new rest
IsFront SpecifierList (Specifiers all) names tokens new rest =
    Stands (pieces_of_all all) tokens rest (after_all names all) new × AreThere all × AreSpecifiers ForName names Untyped all
IsFront (NamedDeclarator before) (ADeclarator t) names tokens new rest =
    Stands (pieces t) tokens rest (after names t) new × IsDeclarator ForName names before t
IsFront StringLiterals (Literals all) names tokens new rest = Stands (pieces_of_literals all) tokens rest names new × IsText all
IsFront AttributeList (Attributes all) names tokens new rest = Stands (pieces_of_attributes all) tokens rest names new × AreAttributes all
IsFront OneAttribute (AnAttribute a) names tokens new rest = Stands (pieces_of_attribute a) tokens rest names new × IsAttribute a
IsFront _ _ names tokens new rest = ⊥

abbrev pub deep : Leaf → ℕ
deep (AnExpr t) = nest t
deep (Specifiers all) = nest_all all
deep (ADeclarator t) = nest t
deep _ = 0

abbrev pub C : Language
C = record { Rule = Rule; Sort = Sort; Reader = Reader; Leaf = Leaf; Scope = Names; IsFront = IsFront; deep = deep }

-- ---- what can't go on with them

abbrev pub is_literal : Word → Bool
is_literal (word.Text bytes) = true
is_literal _ = false

abbrev pub Ends : Reader → Leaf → Names → List Token → Type 0
Ends Expression leaf names rest = goes_on 0 rest ≡ false
Ends Assignment leaf names rest = goes_on 1 rest ≡ false
Ends Constant leaf names rest = goes_on 2 rest ≡ false
Ends SpecifierList (Specifiers all) names rest = starts (goes_on_specifiers names (before_end Untyped all)) rest ≡ false
Ends (NamedDeclarator before) leaf names rest = EndsDeclarator ForName rest
Ends StringLiterals leaf names rest = starts is_literal rest ≡ false
Ends AttributeList leaf names rest = starts (is_key key.Attribute) rest ≡ false
Ends _ leaf names rest = Unit {0}

-- ---- what reads them

-- a leaf, the names behind it, and what is left
abbrev pub Taken : Type 0
Taken = Leaf × Names × List Token

abbrev pub expr_taken : Names → Option Found → Option Taken
expr_taken names None = None
expr_taken names (Some f) = Some (AnExpr f.0, after names f.0, f.1)

abbrev pub specifiers_taken : Names → Option Several → Option Taken
specifiers_taken names None = None
specifiers_taken names (Some f) = Some (Specifiers (listed f.0), after_all names (listed f.0), f.1)

abbrev pub declarator_taken : Names → Option Found → Option Taken
declarator_taken names None = None
declarator_taken names (Some f) = Some (ADeclarator f.0, after names f.0, f.1)

abbrev pub more_literals : Names → List (List ℕ) × List Token → Taken
more_literals names all = (Literals all.0, names, all.1)

abbrev pub literals_taken : Names → Option (List ℕ × List Token) → Option Taken
literals_taken names None = None
literals_taken names (Some bytes) = Some (more_literals names (literals (suc (length bytes.1)) (bytes.0 ∷ []) bytes.1))

abbrev pub attributes_taken : Names → List CodeAttribute × List Token → Taken
attributes_taken names all = (Attributes all.0, names, all.1)

abbrev pub attribute_taken : Names → Option (CodeAttribute × List Token) → Option Taken
attribute_taken names None = None
attribute_taken names (Some a) = Some (AnAttribute a.0, names, a.1)

-- that nests no deeper
abbrev pub read : ℕ → Reader → Names → List Token → Option Taken
read depth Expression names tokens = expr_taken names (expr_at depth names 0 tokens)
read depth Assignment names tokens = expr_taken names (expr_at depth names 1 tokens)
read depth Constant names tokens = expr_taken names (expr_at depth names 2 tokens)
read depth SpecifierList names tokens = specifiers_taken names (specifiers_within depth ForName names tokens)
read depth (NamedDeclarator before) names tokens = declarator_taken names (declarator_within depth ForName names before tokens)
read depth StringLiterals names tokens = literals_taken names (literal_at tokens)
read depth AttributeList names tokens = Some (attributes_taken names (attributes_at tokens))
read depth OneAttribute names tokens = attribute_taken names (attribute_at tokens)
