-- The grammar of declarations, statements and external declarations, rule by rule (C11 6.7 to 6.9).
use Rattle.std.specs.Prelude.{ℕ, Bool, true, false, ◌&&◌, ◌||◌, not, List, [], ◌∷◌, drop, Option, None, Some}
use denote.Enum.Bare.{sameb}
use Rattle.c_base.specs.contracts.token.Keyword.{the_type as key_type}
use Rattle.c_base.specs.declared.token.Keyword.{Keyword}
use Rattle.c_base.specs.declared.token.Keyword.TheVariants as key
use Rattle.c_base.specs.declared.token.Punctuator.{Punctuator}
use Rattle.c_base.specs.declared.token.Punctuator.TheVariants as mark
use Rattle.c_base.specs.declared.token.Token.{Token}
use Rattle.c_base.specs.declared.token.Word.{Word}
use Rattle.c_base.specs.declared.token.Word.TheVariants as word
use Rattle.c_tree.specs.declared.tree.Attribute.{Attribute as CodeAttribute}
use Rattle.c_tree.specs.declared.tree.Pointer.{Pointer}
use Rattle.c_tree.specs.Trees.{Tree, Key as KeySpecifier, Declarator, Declared, Group as Grouped, Function, Trees, Nil, Next}
use Rattle.c_tree.specs.WellFormed.{Names, Before, Untyped, after_parameter, before_end, declared_name}
use Rattle.c_parse_rules.specs.Declaring.{starts}
use Rattle.c_parse_rules.specs.Tokens.{is_key, is_mark, begins_type}
use Rattle.c_parse_rules.specs.TypeRules.{attribute_at}
use Rattle.grammar.specs.Forms.{Test, Form, Done, Here, Key, Mark, AName, Given, Sub, Part, Scoped, Either, Many, Listed, Declare, Unless, Grammar}
use Rattle.c_grammar.specs.declared.rule.Rule.{Rule}
use Rattle.c_grammar.specs.declared.rule.Rule.TheVariants as rule
use Rattle.c_grammar.specs.declared.rule.Sort.{Sort}
use Rattle.c_grammar.specs.declared.rule.Sort.TheVariants as sort
use Rattle.c_grammar.specs.Leaves.{C, Leaf, Specifiers, ADeclarator, Expression, Assignment, Constant, SpecifierList, NamedDeclarator, StringLiterals, AttributeList, OneAttribute}

-- ---- names

-- `typedef` is among the specifiers (C11 6.7.1)
abbrev pub has_typedef : Trees → Bool
has_typedef Nil = false
has_typedef (Next (KeySpecifier span k) more) = sameb key_type k key.Typedef || has_typedef more
has_typedef (Next t more) = has_typedef more

abbrev pub makes_typedef : Leaf → Bool
makes_typedef (Specifiers all) = has_typedef all
makes_typedef _ = false

abbrev pub before_of : Leaf → Before
before_of (Specifiers all) = before_end Untyped all
before_of _ = Untyped

abbrev pub declare_as : Bool → Option (List ℕ) → Names → Names
declare_as typedef None names = names
declare_as typedef (Some name) names = record { name = name; is_typedef = typedef } ∷ names

-- what a declarator declares behind such specifiers, from its end on (C11 6.2.1p7)
abbrev pub declaring : Leaf → Leaf → Names → Names
declaring specifiers (ADeclarator t) names = declare_as (makes_typedef specifiers) (declared_name t) names
declaring specifiers _ names = names

abbrev pub after_parameters : Names → Trees → Names
after_parameters names Nil = names
after_parameters names (Next t more) = after_parameters (after_parameter names t) more

abbrev pub parameters_at : Trees → Trees
parameters_at (Next (Function span parameters variadic) more) = parameters
parameters_at _ = Nil

abbrev pub suffixes_or : Trees → List Pointer → Trees → Trees
suffixes_or Nil [] outer = outer
suffixes_or own pointers outer = own

-- What stands directly behind the name of a declarator; `outer` is what stands behind the declarator. Pointers around the name and its own
-- suffixes end it.
abbrev pub behind_name : Tree → Trees → Trees
behind_name (Declarator span pointers core suffixes) outer = behind_name core (suffixes_or suffixes pointers outer)
behind_name (Grouped span inner) outer = behind_name inner outer
behind_name (Declared span name) outer = outer
behind_name _ outer = Nil

-- The formals of a function definition and the constants that they declare: those of the function suffix directly behind its name, in the
-- block of its body (C11 6.2.1p4).
abbrev pub with_formals : Leaf → Names → Names
with_formals (ADeclarator t) names = after_parameters names (parameters_at (behind_name t Nil))
with_formals _ names = names

-- ---- tests

abbrev pub on_key : Keyword → Test C
on_key k names tokens = starts (is_key k) tokens

abbrev pub on_mark : Punctuator → Test C
on_mark p names tokens = starts (is_mark p) tokens

abbrev pub until_mark : Punctuator → Test C
until_mark p names tokens = not (starts (is_mark p) tokens)

abbrev pub on_else_if : Test C
on_else_if names tokens = starts (is_key key.Else) tokens && starts (is_key key.If) (drop 1 tokens)

abbrev pub begins_designator : Word → Bool
begins_designator (word.Punctuator mark.OpenBracket) = true
begins_designator (word.Punctuator mark.Dot) = true
begins_designator _ = false

abbrev pub on_designator : Test C
on_designator names tokens = starts begins_designator tokens

-- a comma before a `}` is the last
abbrev pub on_next_item : Test C
on_next_item names tokens = starts (is_mark mark.Comma) tokens && not (starts (is_mark mark.CloseBrace) (drop 1 tokens))

-- a specifier, a typedef name or `_Static_assert`
abbrev pub begins_declaration : Names → Word → Bool
begins_declaration names w = begins_type names w || is_key key.StaticAssert w

abbrev pub on_declaration : Test C
on_declaration names tokens = starts (begins_declaration names) tokens

abbrev pub is_name : Word → Bool
is_name (word.Identifier name) = true
is_name _ = false

-- a name directly before a `:`, which is a label, also where it is a typedef name
abbrev pub on_label : Test C
on_label names tokens = starts is_name tokens && starts (is_mark mark.Colon) (drop 1 tokens)

abbrev pub before_semicolon : Option (CodeAttribute × List Token) → Bool
before_semicolon None = false
before_semicolon (Some a) = starts (is_mark mark.Semicolon) a.1

-- one attribute and `;` alone, which in a block are a statement
abbrev pub on_attribute : Test C
on_attribute names tokens = before_semicolon (attribute_at tokens)

abbrev pub on_block_declaration : Test C
on_block_declaration names tokens = on_declaration names tokens && not (on_label names tokens || on_attribute names tokens)

-- ---- parts of rules

-- "(" expression ")"
abbrev pub parenthesised : Form C → Form C
parenthesised more = Mark mark.OpenParenthesis (Given Expression (λ e. Mark mark.CloseParenthesis more))

-- [ expression ] before this mark
abbrev pub optional_before : Punctuator → Form C → Form C
optional_before p more = Either (until_mark p) (Given Expression (λ e. Done)) Done (Mark p more)

-- a substatement, which is a block of its own (C11 6.8.4p3 and 6.8.5p5)
abbrev pub branch : Form C → Form C
branch more = Scoped (Sub sort.Statement Done) more

-- expression without commas | braces (C11 6.7.9)
unfoldable pub initialiser : Form C
initialiser = Either (on_mark mark.OpenBrace) (Sub sort.Braces Done) (Given Assignment (λ e. Done)) Done

-- "[" constant "]" | "." name
unfoldable pub designator : Form C
designator = Either (on_mark mark.OpenBracket) (Mark mark.OpenBracket (Given Constant (λ e. Mark mark.CloseBracket Done))) (Mark mark.Dot (AName Done)) Done

-- designator { designator } "="
unfoldable pub designation : Form C
designation = Listed on_designator designator designator (Mark mark.Assign Done)

-- [ designation ] initialiser
unfoldable pub item : Form C
item = Either on_designator designation Done initialiser

-- "," string ")" ";"
unfoldable pub message : Form C
message = Mark mark.Comma (Given StringLiterals (λ s. Mark mark.CloseParenthesis (Mark mark.Semicolon Done)))

-- [ "," ] "}"
unfoldable pub last_comma : Form C
last_comma = Either (on_mark mark.Comma) (Mark mark.Comma Done) Done (Mark mark.CloseBrace Done)

-- "__asm__" "(" string ")"
unfoldable pub assembly : Form C
assembly = Key key.Asm (Mark mark.OpenParenthesis (Given StringLiterals (λ s. Mark mark.CloseParenthesis Done)))

-- [ "=" initialiser ]
unfoldable pub with_initialiser : Form C
with_initialiser = Either (on_mark mark.Assign) (Mark mark.Assign initialiser) Done Done

-- { attribute } [ "=" initialiser ]
unfoldable pub with_attributes : Form C
with_attributes = Given AttributeList (λ a. with_initialiser)

-- [ "__asm__" "(" string ")" ] { attribute } [ "=" initialiser ]
unfoldable pub declarator_rest : Form C
declarator_rest = Either (on_key key.Asm) assembly Done with_attributes

-- declarator rest, of which the name is declared before its own initialiser
unfoldable pub init_declarator : Leaf → Form C
init_declarator specifiers = Given (NamedDeclarator (before_of specifiers)) (λ d. Declare (declaring specifiers d) declarator_rest)

-- declarator ( body | rest { "," init_declarator } ";" )
unfoldable pub external_declarator : Leaf → Form C
external_declarator specifiers = Given (NamedDeclarator (before_of specifiers)) (λ d. Declare (declaring specifiers d)
    (Either (on_mark mark.OpenBrace) (Scoped (Declare (with_formals d) (Sub sort.Body Done)) Done)
    (Listed (on_mark mark.Comma) declarator_rest (Mark mark.Comma (init_declarator specifiers)) (Mark mark.Semicolon Done)) Done))

-- declaration | statement
unfoldable pub block_item : Form C
block_item = Either on_block_declaration (Unless on_attribute (Sub sort.Declaration Done)) (Sub sort.Statement Done) Done

-- "else" "if" "(" expression ")" statement
unfoldable pub arm : Form C
arm = Key key.Else (Here (Key key.If (parenthesised (branch Done))))

-- [ "else" statement that is no `if` ]; an `else` belongs to the nearest `if` (C11 6.8.4.1p3)
unfoldable pub last : Form C
last = Either (on_key key.Else) (Key key.Else (Scoped (Sub sort.Other Done) Done)) (Unless (on_key key.Else) Done) Done

-- ( declaration | [ expression ] ";" ), the first part of a `for`
unfoldable pub for_first : Form C
for_first = Either on_declaration (Sub sort.Declaration Done) (optional_before mark.Semicolon Done) Done

-- ---- rules

abbrev pub form : Rule → Form C
form rule.Empty = Here (Mark mark.Semicolon Done)
form rule.Assertion = Here (Key key.StaticAssert (Mark mark.OpenParenthesis (Given Constant (λ e. message))))
form rule.External =
    Here (Given SpecifierList (λ s. Either (until_mark mark.Semicolon) (external_declarator s) (Mark mark.Semicolon Done) Done))
form rule.Declaration =
    Here (Given SpecifierList (λ s.
    Either (until_mark mark.Semicolon) (Listed (on_mark mark.Comma) (init_declarator s) (Mark mark.Comma (init_declarator s)) Done) Done (Mark mark.Semicolon Done)))
form rule.Braces = Here (Mark mark.OpenBrace (Listed on_next_item item (Mark mark.Comma item) last_comma))
form rule.Body = Here (Mark mark.OpenBrace (Many (until_mark mark.CloseBrace) block_item (Here (Mark mark.CloseBrace Done))))
form rule.Block = Here (Scoped (Mark mark.OpenBrace (Many (until_mark mark.CloseBrace) block_item (Mark mark.CloseBrace Done))) Done)
form rule.Expression = Here (optional_before mark.Semicolon Done)
form rule.Attribute = Here (Given OneAttribute (λ a. Mark mark.Semicolon Done))
form rule.If = Here (Scoped (Key key.If (parenthesised (branch (Many on_else_if arm last)))) Done)
form rule.Switch = Here (Scoped (Key key.Switch (parenthesised (branch Done))) Done)
form rule.While = Here (Scoped (Key key.While (parenthesised (branch Done))) Done)
form rule.Do = Here (Scoped (Key key.Do (branch (Here (Key key.While (parenthesised (Mark mark.Semicolon Done)))))) Done)
form rule.For =
    Here (Scoped (Key key.For (Mark mark.OpenParenthesis (Part for_first
    (optional_before mark.Semicolon (optional_before mark.CloseParenthesis (branch Done)))))) Done)
form rule.Goto = Here (Key key.Goto (AName (Mark mark.Semicolon Done)))
form rule.Continue = Here (Key key.Continue (Mark mark.Semicolon Done))
form rule.Break = Here (Key key.Break (Mark mark.Semicolon Done))
form rule.Return = Here (Key key.Return (optional_before mark.Semicolon Done))
form rule.Label = Here (AName (Mark mark.Colon (Sub sort.Statement Done)))
form rule.Case = Here (Key key.Case (Given Constant (λ e. Mark mark.Colon (Sub sort.Statement Done))))
form rule.Default = Here (Key key.Default (Mark mark.Colon (Sub sort.Statement Done)))

-- which rules read a sort
abbrev pub belongs : Sort → Rule → Bool
belongs sort.External rule.Empty = true
belongs sort.External rule.Assertion = true
belongs sort.External rule.External = true
belongs sort.External _ = false
belongs sort.Declaration rule.Assertion = true
belongs sort.Declaration rule.Declaration = true
belongs sort.Declaration _ = false
belongs sort.Braces rule.Braces = true
belongs sort.Braces _ = false
belongs sort.Body rule.Body = true
belongs sort.Body _ = false
belongs s rule.Empty = false
belongs s rule.Assertion = false
belongs s rule.External = false
belongs s rule.Declaration = false
belongs s rule.Braces = false
belongs s rule.Body = false
belongs sort.Other rule.If = false
belongs s r = true

abbrev pub table : Grammar C
table = record { form = form; belongs = belongs }
