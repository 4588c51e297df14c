-- What the parsers of specifiers and of declarators promise their callers (C11 6.7.2 to 6.7.6).
use Rattle.std.specs.Prelude.{ℕ, ◌≤◌, ◌≡◌, Bool, true, false, ◌&&◌, List, [], ◌∷◌, Option, None, Some}
use Rattle.c_base.specs.declared.token.Keyword.TheVariants as key
use Rattle.c_base.specs.declared.token.Punctuator.TheVariants as mark
use Rattle.c_base.specs.declared.token.Token.{Token}
use Rattle.c_base.specs.declared.token.Word.{Word}
use Rattle.c_base.specs.declared.token.Word.TheVariants as word
use Rattle.c_tree.specs.Nesting.{nest, nest_all}
use Rattle.c_tree.specs.Spelling.{pieces, pieces_of_all}
use Rattle.c_tree.specs.Trees.{Tree, Trees}
use Rattle.c_tree.specs.WellFormed.{Names, Purpose, ForName, Before, Untyped, before_end, after, after_all, is_typedef, is_qualifier, AreSpecifiers, AreThere, IsDeclarator}
use Rattle.c_parse_rules.specs.Found.{Fronts}
use Rattle.c_parse_rules.specs.Rules.{Found}
use Rattle.c_parse_rules.specs.TypeRules.{is_untyped}

-- ---- what goes on with specifiers, and what with a declarator

-- the first word of the tokens is such a word
abbrev pub starts : (Word → Bool) → List Token → Bool
starts is [] = false
starts is (t ∷ tokens) = is t.word

-- a word that goes on with specifiers, behind which these names are declared
abbrev pub goes_on_specifiers : Names → Before → Word → Bool
goes_on_specifiers names before (word.Keyword k) = true
goes_on_specifiers names before (word.Punctuator mark.OpenBrace) = true
goes_on_specifiers names before (word.Identifier name) = is_untyped before && is_typedef names name
goes_on_specifiers names before _ = false

abbrev pub begins_qualifier : Word → Bool
begins_qualifier (word.Keyword key.Attribute) = true
begins_qualifier (word.Keyword k) = is_qualifier k
begins_qualifier _ = false

-- a word that goes on with pointers
abbrev pub goes_on_pointers : Word → Bool
goes_on_pointers (word.Punctuator mark.Star) = true
goes_on_pointers w = begins_qualifier w

-- a word that goes on with suffixes
abbrev pub begins_suffix : Word → Bool
begins_suffix (word.Punctuator mark.OpenBracket) = true
begins_suffix (word.Punctuator mark.OpenParenthesis) = true
begins_suffix _ = false

-- a word that goes on with a declarator that may lack its name
abbrev pub goes_on_nameless : Word → Bool
goes_on_nameless (word.Identifier name) = true
goes_on_nameless (word.Punctuator mark.OpenBracket) = true
goes_on_nameless (word.Punctuator mark.OpenParenthesis) = true
goes_on_nameless w = goes_on_pointers w

abbrev pub goes_on_declarator : Purpose → Word → Bool
goes_on_declarator ForName w = begins_suffix w
goes_on_declarator _ w = goes_on_nameless w

-- ---- specifiers

-- the tokens begin with these specifiers, one or more and none too deep, and this is left
pub record AreSpecifiersFront (purpose : Purpose) (names : Names) (depth : ℕ) (tokens : List Token) (all : Trees) (rest : List Token) : Type 0 where
  pub there : AreThere all
  pub shape : AreSpecifiers purpose names Untyped all
  pub shallow : nest_all all ≤ depth
  pub words : Fronts (pieces_of_all all) tokens rest

-- what is left behind these specifiers can't go on with them
abbrev pub EndSpecifiers : Names → Trees → List Token → Type 0
EndSpecifiers names all rest = starts (goes_on_specifiers (after_all names all) (before_end Untyped all)) rest ≡ false

-- specifiers at the front; and where what is left behind specifiers can't go on with them, those alone
pub record AreSpecifiersParsed (purpose : Purpose) (names : Names) (depth : ℕ) (tokens : List Token) (all : Trees) (rest : List Token) : Type 0 where
  pub front : AreSpecifiersFront purpose names depth tokens all rest
  pub only : (others : Trees) (left : List Token) → AreSpecifiersFront purpose names depth tokens others left → EndSpecifiers names others left → (all ≡ others) × (rest ≡ left)

-- what is read of specifiers, and the names behind them
abbrev pub AreSpecifiersRead : Purpose → ℕ → Names → Names → List Token → Option (Trees × List Token) → Type 0
AreSpecifiersRead purpose depth old new tokens None =
    ((others : Trees) (left : List Token) → AreSpecifiersFront purpose old depth tokens others left → EndSpecifiers old others left → ⊥) × (new ≡ old)
AreSpecifiersRead purpose depth old new tokens (Some f) = AreSpecifiersParsed purpose old depth tokens f.0 f.1 × (new ≡ after_all old f.0)

-- ---- declarators

-- behind specifiers that leave this before them, the tokens begin with this declarator, at most so deep, and this is left
pub record IsDeclaratorFront (purpose : Purpose) (names : Names) (depth : ℕ) (before : Before) (tokens : List Token) (tree : Tree) (rest : List Token) : Type 0 where
  pub shape : IsDeclarator purpose names before tree
  pub shallow : nest tree ≤ depth
  pub words : Fronts (pieces tree) tokens rest

-- what is left behind a declarator can't go on with it
abbrev pub EndsDeclarator : Purpose → List Token → Type 0
EndsDeclarator purpose rest = starts (goes_on_declarator purpose) rest ≡ false

-- a declarator at the front; and where what is left behind a declarator can't go on with it, that one alone
pub record IsDeclaratorParsed (purpose : Purpose) (names : Names) (depth : ℕ) (before : Before) (tokens : List Token) (tree : Tree) (rest : List Token) : Type 0 where
  pub front : IsDeclaratorFront purpose names depth before tokens tree rest
  pub only : (other : Tree) (left : List Token) → IsDeclaratorFront purpose names depth before tokens other left → EndsDeclarator purpose left → (tree ≡ other) × (rest ≡ left)

-- what is read of a declarator, and the names behind it
abbrev pub IsDeclaratorRead : Purpose → ℕ → Before → Names → Names → List Token → Option Found → Type 0
IsDeclaratorRead purpose depth before old new tokens None =
    ((other : Tree) (left : List Token) → IsDeclaratorFront purpose old depth before tokens other left → EndsDeclarator purpose left → ⊥) × (new ≡ old)
IsDeclaratorRead purpose depth before old new tokens (Some f) = IsDeclaratorParsed purpose old depth before tokens f.0 f.1 × (new ≡ after old f.0)
