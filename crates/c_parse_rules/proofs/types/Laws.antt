-- What the readers of specifiers and of declarators promise: all that they find is there, and what is there they find, where what
-- follows does not go on with it.
use Rattle.std.specs.Prelude.{ℕ, ◌≤◌, ◌<◌, ◌≡◌, Bool, false, List, Some}
use Rattle.c_base.specs.declared.token.Keyword.TheVariants as key
use Rattle.c_base.specs.declared.token.Punctuator.TheVariants as mark
use Rattle.c_base.specs.declared.token.Token.{Token}
use Rattle.c_base.specs.declared.token.Word.{Word}
use Rattle.c_tree.specs.Nesting.{nest}
use Rattle.c_tree.specs.Spelling.{pieces}
use Rattle.c_tree.specs.Trees.{Tree, CompositeTag, Composite, EnumTag}
use Rattle.c_tree.specs.WellFormed.{Names, Before, Purpose, IsSpecifier, IsDeclarator}
use Rattle.c_parse_rules.specs.Declaring.{starts, goes_on_declarator}
use Rattle.c_parse_rules.specs.Rules.{Found}
use Rattle.c_parse_rules.specs.Tokens.{is_key, is_mark}
use Rattle.c_parse_rules.specs.TypeRules.{Specifiers, Declarators}
use Rattle.c_parse_rules.proofs.types.Words.{Fit}

-- ---- specifiers

-- the tokens begin with this specifier, and this is left
pub record IsSpecifierFront (purpose : Purpose) (names : Names) (before : Before) (tokens : List Token) (tree : Tree) (rest : List Token) : Type 0 where
  pub shape : IsSpecifier purpose names before tree
  pub words : Fit (pieces tree) tokens rest

-- a tag goes on with a `{`, and what ends in a brace with an attribute
abbrev pub goes_on_specifier : Tree → Word → Bool
goes_on_specifier (CompositeTag span sort attributes tag) w = is_mark mark.OpenBrace w
goes_on_specifier (EnumTag span tag) w = is_mark mark.OpenBrace w
goes_on_specifier (Composite span sort attributes tag members trailing) w = is_key key.Attribute w
goes_on_specifier _ w = false

abbrev pub SpecifiersSound : Specifiers → Type 0
SpecifiersSound specifiers = (purpose : Purpose) (names : Names) (before : Before) (tokens : List Token) (found : Found)
    → specifiers purpose names before tokens ≡ Some found → IsSpecifierFront purpose names before tokens found.0 found.1

abbrev pub SpecifiersReached : ℕ → Specifiers → Type 0
SpecifiersReached depth specifiers = (purpose : Purpose) (names : Names) (before : Before) (tokens : List Token) (tree : Tree) (rest : List Token)
    → IsSpecifierFront purpose names before tokens tree rest → nest tree < depth → starts (goes_on_specifier tree) rest ≡ false
    → specifiers purpose names before tokens ≡ Some (tree, rest)

-- ---- declarators

pub record IsDeclaratorFront (purpose : Purpose) (names : Names) (before : Before) (tokens : List Token) (tree : Tree) (rest : List Token) : Type 0 where
  pub shape : IsDeclarator purpose names before tree
  pub words : Fit (pieces tree) tokens rest

abbrev pub DeclaratorsSound : Declarators → Type 0
DeclaratorsSound declarators = (purpose : Purpose) (names : Names) (before : Before) (tokens : List Token) (found : Found)
    → declarators purpose names before tokens ≡ Some found → IsDeclaratorFront purpose names before tokens found.0 found.1

abbrev pub DeclaratorsReached : ℕ → Declarators → Type 0
DeclaratorsReached depth declarators = (purpose : Purpose) (names : Names) (before : Before) (tokens : List Token) (tree : Tree) (rest : List Token)
    → IsDeclaratorFront purpose names before tokens tree rest → nest tree ≤ depth → starts (goes_on_declarator purpose) rest ≡ false
    → declarators purpose names before tokens ≡ Some (tree, rest)
