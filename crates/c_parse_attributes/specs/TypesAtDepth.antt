-- The rules of what type names reach, for parts that are at most so deep.
use Rattle.std.specs.Prelude.{ℕ, suc, Bool, cond, List, [], ◌∷◌, length, Option, None, Some}
use Rattle.c_base.specs.declared.number.Span.{Span}
use Rattle.c_base.specs.declared.token.Keyword.{Keyword}
use Rattle.c_base.specs.declared.token.Punctuator.TheVariants as mark
use Rattle.c_base.specs.declared.token.Token.{Token}
use Rattle.c_base.specs.declared.token.Word.{Word}
use Rattle.c_tree.specs.declared.tree.Attribute.{Attribute as CodeAttribute}
use Rattle.c_tree.specs.declared.tree.CompositeSort.{CompositeSort}
use Rattle.c_tree.specs.declared.tree.Pointer.{Pointer}
use Rattle.c_tree.specs.Trees.{Tree, Trees, Array, Assertion, Enum, Function}
use Rattle.c_tree.specs.Views.{listed}
use Rattle.c_tree.specs.WellFormed.{Names, Purpose, ForParameter, Before, Untyped, before_end}
use Rattle.c_parse_rules.specs.Parsers.{declarator_at, expr_at, specifier_at, typing_at}
use Rattle.c_parse_rules.specs.Rules.{Found, Several, literals}
use Rattle.c_parse_rules.specs.Tokens.{◌>>=◌, behind_mark, literal_at, name_at}
use Rattle.c_parse_rules.specs.TypeRules as types
use Rattle.c_parse_rules.specs.TypeRules.{Specifiers, array_words, attribute_behind, is_braced}

abbrev pub bound_of : ℕ → Span → List Keyword → List Token → Option Found → Option Found
bound_of d = types.bound_of d (expr_at d) (typing_at d) (specifier_at d) (declarator_at d)

abbrev pub array_of : ℕ → Span → Names → List Keyword × List Token → Option Found
array_of d = types.array_of d (expr_at d) (typing_at d) (specifier_at d) (declarator_at d)

abbrev pub parameters : ℕ → ℕ → List Tree → Names → List Token → Several
parameters d = types.parameters d (expr_at d) (typing_at d) (specifier_at d) (declarator_at d)

abbrev pub ellipsis_at : ℕ → List Token → Option (List Token)
ellipsis_at d = types.ellipsis_at d (expr_at d) (typing_at d) (specifier_at d) (declarator_at d)

abbrev pub function_end : ℕ → Span → List Tree → List Token → Option (List Token) → Option Found
function_end d = types.function_end d (expr_at d) (typing_at d) (specifier_at d) (declarator_at d)

abbrev pub function_of : ℕ → Span → Several → Option Found
function_of d = types.function_of d (expr_at d) (typing_at d) (specifier_at d) (declarator_at d)

abbrev pub function_with : ℕ → Span → Names → List Token → Option Found → Option Found
function_with d = types.function_with d (expr_at d) (typing_at d) (specifier_at d) (declarator_at d)

abbrev pub suffix_of : ℕ → Names → Span → List Token → Word → Option Found
suffix_of d = types.suffix_of d (expr_at d) (typing_at d) (specifier_at d) (declarator_at d)

abbrev pub suffix_at : ℕ → Names → List Token → Option Found
suffix_at d = types.suffix_at d (expr_at d) (typing_at d) (specifier_at d) (declarator_at d)

abbrev pub suffixes : ℕ → ℕ → List Tree → Names → List Token → Several
suffixes d = types.suffixes d (expr_at d) (typing_at d) (specifier_at d) (declarator_at d)

abbrev pub group_at : ℕ → Purpose → Names → Before → Span → List Token → Option Found
group_at d = types.group_at d (expr_at d) (typing_at d) (specifier_at d) (declarator_at d)

abbrev pub core_of : ℕ → Purpose → Names → Before → Span → List Token → Word → Option Found
core_of d = types.core_of d (expr_at d) (typing_at d) (specifier_at d) (declarator_at d)

abbrev pub core_at : ℕ → Purpose → Names → Before → List Token → Option Found
core_at d = types.core_at d (expr_at d) (typing_at d) (specifier_at d) (declarator_at d)

abbrev pub core_or_none : ℕ → Purpose → List Token → Option Found → Option Found
core_or_none d = types.core_or_none d (expr_at d) (typing_at d) (specifier_at d) (declarator_at d)

abbrev pub declarator_of : ℕ → Span → List Pointer → Tree → Several → Found
declarator_of d = types.declarator_of d (expr_at d) (typing_at d) (specifier_at d) (declarator_at d)

abbrev pub where_some : ℕ → List Token → Found → Option Found
where_some d = types.where_some d (expr_at d) (typing_at d) (specifier_at d) (declarator_at d)

abbrev pub declarator_behind : ℕ → Purpose → Names → Before → List Token → List Pointer × List Token → Option Found
declarator_behind d = types.declarator_behind d (expr_at d) (typing_at d) (specifier_at d) (declarator_at d)

abbrev pub declarator_rule : ℕ → Purpose → Names → Before → List Token → Option Found
declarator_rule d = types.declarator_rule d (expr_at d) (typing_at d) (specifier_at d) (declarator_at d)

abbrev pub field_end : ℕ → Span → Tree → Trees → List CodeAttribute × List Token → Found
field_end d = types.field_end d (expr_at d) (typing_at d) (specifier_at d) (declarator_at d)

abbrev pub width_of : ℕ → Span → Found → Names → Option (List Token) → Option Found
width_of d = types.width_of d (expr_at d) (typing_at d) (specifier_at d) (declarator_at d)

abbrev pub named_field_at : ℕ → Names → Before → List Token → Option Found
named_field_at d = types.named_field_at d (expr_at d) (typing_at d) (specifier_at d) (declarator_at d)

abbrev pub padding_at : ℕ → Span → Names → List Token → Option Found
padding_at d = types.padding_at d (expr_at d) (typing_at d) (specifier_at d) (declarator_at d)

abbrev pub field_at : ℕ → Names → Before → List Token → Option Found
field_at d = types.field_at d (expr_at d) (typing_at d) (specifier_at d) (declarator_at d)

abbrev pub fields : ℕ → ℕ → Before → List Tree → Names → List Token → Several
fields d = types.fields d (expr_at d) (typing_at d) (specifier_at d) (declarator_at d)

abbrev pub fields_with : ℕ → Before → Names → List Token → Option Found → Several
fields_with d = types.fields_with d (expr_at d) (typing_at d) (specifier_at d) (declarator_at d)

abbrev pub fields_of : ℕ → Span → Several → Several → Option Found
fields_of d = types.fields_of d (expr_at d) (typing_at d) (specifier_at d) (declarator_at d)

abbrev pub fields_after : ℕ → Span → Several → Before → Names → Option Found
fields_after d = types.fields_after d (expr_at d) (typing_at d) (specifier_at d) (declarator_at d)

abbrev pub fields_at : ℕ → Span → Names → List Token → Option Found
fields_at d = types.fields_at d (expr_at d) (typing_at d) (specifier_at d) (declarator_at d)

abbrev pub assertion_at : ℕ → Span → Names → List Token → Option Found
assertion_at d = types.assertion_at d (expr_at d) (typing_at d) (specifier_at d) (declarator_at d)

abbrev pub member_at : ℕ → Names → List Token → Option Found
member_at d = types.member_at d (expr_at d) (typing_at d) (specifier_at d) (declarator_at d)

abbrev pub members : ℕ → ℕ → List Tree → Names → List Token → Several
members d = types.members d (expr_at d) (typing_at d) (specifier_at d) (declarator_at d)

abbrev pub trailing_of : ℕ → Span → CompositeSort → List CodeAttribute → Option (List ℕ) → List Tree → List CodeAttribute × List Token → Found
trailing_of d = types.trailing_of d (expr_at d) (typing_at d) (specifier_at d) (declarator_at d)

abbrev pub body_of : ℕ → Span → CompositeSort → List CodeAttribute → Option (List ℕ) → Several → Option Found
body_of d = types.body_of d (expr_at d) (typing_at d) (specifier_at d) (declarator_at d)

abbrev pub body_at : ℕ → Span → CompositeSort → List CodeAttribute → Option (List ℕ) → Names → List Token → Option Found
body_at d = types.body_at d (expr_at d) (typing_at d) (specifier_at d) (declarator_at d)

abbrev pub tagged : ℕ → Span → CompositeSort → List CodeAttribute → Names → List ℕ × List Token → Option (List Token) → Option Found
tagged d = types.tagged d (expr_at d) (typing_at d) (specifier_at d) (declarator_at d)

abbrev pub untagged_at : ℕ → Span → CompositeSort → List CodeAttribute → Names → List Token → Option Found
untagged_at d = types.untagged_at d (expr_at d) (typing_at d) (specifier_at d) (declarator_at d)

abbrev pub composite_with : ℕ → Span → CompositeSort → List CodeAttribute → Names → List Token → Option (List ℕ × List Token) → Option Found
composite_with d = types.composite_with d (expr_at d) (typing_at d) (specifier_at d) (declarator_at d)

abbrev pub composite_of : ℕ → Span → CompositeSort → Names → List CodeAttribute × List Token → Option Found
composite_of d = types.composite_of d (expr_at d) (typing_at d) (specifier_at d) (declarator_at d)

abbrev pub composite_at : ℕ → Span → CompositeSort → Names → List Token → Option Found
composite_at d = types.composite_at d (expr_at d) (typing_at d) (specifier_at d) (declarator_at d)

abbrev pub value_of : ℕ → Span → List ℕ × List Token → Names → Option (List Token) → Option Found
value_of d = types.value_of d (expr_at d) (typing_at d) (specifier_at d) (declarator_at d)

abbrev pub enumerator_at : ℕ → Names → List Token → Option Found
enumerator_at d = types.enumerator_at d (expr_at d) (typing_at d) (specifier_at d) (declarator_at d)

abbrev pub enumerators : ℕ → ℕ → List Tree → Names → List Token → Several
enumerators d = types.enumerators d (expr_at d) (typing_at d) (specifier_at d) (declarator_at d)

abbrev pub enum_end : ℕ → Span → Option (List ℕ) → Several → Option (List Token) → Option Found
enum_end d = types.enum_end d (expr_at d) (typing_at d) (specifier_at d) (declarator_at d)

abbrev pub enum_of : ℕ → Span → Option (List ℕ) → Several → Option Found
enum_of d = types.enum_of d (expr_at d) (typing_at d) (specifier_at d) (declarator_at d)

abbrev pub constants_at : ℕ → Span → Option (List ℕ) → Names → List Token → Option Found
constants_at d = types.constants_at d (expr_at d) (typing_at d) (specifier_at d) (declarator_at d)

abbrev pub enum_tagged : ℕ → Span → Names → List ℕ × List Token → Option (List Token) → Option Found
enum_tagged d = types.enum_tagged d (expr_at d) (typing_at d) (specifier_at d) (declarator_at d)

abbrev pub enum_untagged_at : ℕ → Span → Names → List Token → Option Found
enum_untagged_at d = types.enum_untagged_at d (expr_at d) (typing_at d) (specifier_at d) (declarator_at d)

abbrev pub enum_with : ℕ → Span → Names → List Token → Option (List ℕ × List Token) → Option Found
enum_with d = types.enum_with d (expr_at d) (typing_at d) (specifier_at d) (declarator_at d)

abbrev pub specifier_of : ℕ → Purpose → Names → Before → Span → List Token → Word → Option Found
specifier_of d = types.specifier_of d (expr_at d) (typing_at d) (specifier_at d) (declarator_at d)

abbrev pub specifier_rule : ℕ → Purpose → Names → Before → List Token → Option Found
specifier_rule d = types.specifier_rule d (expr_at d) (typing_at d) (specifier_at d) (declarator_at d)

abbrev pub measured : ℕ → Tree → List Token → Option Found
measured d = types.measured d (expr_at d) (typing_at d) (specifier_at d) (declarator_at d)

abbrev pub type_of : ℕ → Span → Several → Option Found → Option Found
type_of d = types.type_of d (expr_at d) (typing_at d) (specifier_at d) (declarator_at d)

abbrev pub type_rule : ℕ → Purpose → Names → List Token → Option Found
type_rule d = types.type_rule d (expr_at d) (typing_at d) (specifier_at d) (declarator_at d)

abbrev pub specifiers : ℕ → Specifiers → ℕ → Purpose → Before → List Tree → Names → List Token → Several
specifiers d = types.specifiers d (expr_at d) (typing_at d) (specifier_at d) (declarator_at d)

abbrev pub some_specifiers : ℕ → Specifiers → Several → Option Several
some_specifiers d = types.some_specifiers d (expr_at d) (typing_at d) (specifier_at d) (declarator_at d)

-- ---- the loops from their beginnings

-- parameters behind those that were found before
unfoldable pub all_parameters : ℕ → List Tree → Names → List Token → Several
all_parameters d found names tokens = parameters d (suc (length tokens)) found names tokens

unfoldable pub all_suffixes : ℕ → Names → List Token → Several
all_suffixes d names tokens = suffixes d (suc (length tokens)) [] names tokens

-- fields behind those that were found before
unfoldable pub all_fields : ℕ → Before → List Tree → Names → List Token → Several
all_fields d before found names tokens = fields d (suc (length tokens)) before found names tokens

unfoldable pub all_members : ℕ → Names → List Token → Several
all_members d names tokens = members d (suc (length tokens)) [] names tokens

-- enumerators behind those that were found before
unfoldable pub all_enumerators : ℕ → List Tree → Names → List Token → Several
all_enumerators d found names tokens = enumerators d (suc (length tokens)) found names tokens

unfoldable pub all_specifiers : ℕ → Specifiers → Purpose → Names → List Token → Several
all_specifiers d read purpose names tokens = specifiers d read (suc (length tokens)) purpose Untyped [] names tokens

-- ---- what the next round of a loop reads

abbrev pub behind_parameter : ℕ → Names → Option (List Token) → Option Found
behind_parameter d names None = None
behind_parameter d names (Some rest) = typing_at d ForParameter names rest

-- a parameter behind a comma
abbrev pub next_parameter : ℕ → Names → List Token → Option Found
next_parameter d names tokens = behind_parameter d names (behind_mark mark.Comma tokens)

abbrev pub behind_field : ℕ → Before → Names → Option (List Token) → Option Found
behind_field d before names None = None
behind_field d before names (Some rest) = field_at d names before rest

-- a field behind a comma
abbrev pub next_field : ℕ → Before → Names → List Token → Option Found
next_field d before names tokens = behind_field d before names (behind_mark mark.Comma tokens)

abbrev pub behind_enumerator : ℕ → Names → Option (List Token) → Option Found
behind_enumerator d names None = None
behind_enumerator d names (Some rest) = enumerator_at d names rest

-- an enumerator behind a comma
abbrev pub next_enumerator : ℕ → Names → List Token → Option Found
next_enumerator d names tokens = behind_enumerator d names (behind_mark mark.Comma tokens)

-- the loop of specifiers, where those that are found say what stands before the next
abbrev pub specifiers_from : ℕ → Specifiers → Purpose → ℕ → List Tree → Names → List Token → Several
specifiers_from d read purpose n found names tokens = specifiers d read n purpose (before_end Untyped (listed found)) found names tokens

-- ---- tests, which are the same at every depth

abbrev pub is_close_at : List Token → Bool
is_close_at = types.is_close_at 0 (expr_at 0) (typing_at 0) (specifier_at 0) (declarator_at 0)

abbrev pub begins_parameters : Purpose → Names → List Token → Bool
begins_parameters = types.begins_parameters 0 (expr_at 0) (typing_at 0) (specifier_at 0) (declarator_at 0)

abbrev pub may_declare : Purpose → Before → Bool → Bool
may_declare = types.may_declare 0 (expr_at 0) (typing_at 0) (specifier_at 0) (declarator_at 0)

-- an attribute behind its first word, where no closing brace stands before it
abbrev pub attribute_of : Before → Span → List Token → Option Found
attribute_of before span tokens =
    cond (is_braced before) None (types.attribute_found 0 (expr_at 0) (typing_at 0) (specifier_at 0) (declarator_at 0) (attribute_behind span tokens))

-- ---- what stands behind a first token

-- the end of an enum
abbrev pub enum_closed : Span → Option (List ℕ) → List Tree → Bool → List Token → Option Found
enum_closed span tag found comma tokens = do
  rest ← behind_mark mark.CloseBrace tokens
  Some (Enum span tag (listed found) comma, rest)

-- behind the word `enum`
abbrev pub enum_at : ℕ → Span → Names → List Token → Option Found
enum_at d span names tokens = enum_with d span names tokens (name_at tokens)

-- behind the condition of an assertion
abbrev pub assertion_end : Span → Tree → List Token → Option Found
assertion_end span condition tokens = do
  comma ← behind_mark mark.Comma tokens
  bytes ← literal_at comma
  closing ← behind_mark mark.CloseParenthesis (literals (suc (length bytes.1)) (bytes.0 ∷ []) bytes.1).1
  rest ← behind_mark mark.Semicolon closing
  Some (Assertion span condition (literals (suc (length bytes.1)) (bytes.0 ∷ []) bytes.1).0, rest)

-- fields behind their specifiers
abbrev pub fields_from : ℕ → Before → Names → List Token → Several
fields_from d before names tokens = fields_with d before names tokens (field_at d names before tokens)

-- the end of an array's suffix
abbrev pub array_end : Span → List Keyword → Trees → List Token → Option Found
array_end span words bound tokens = do
  rest ← behind_mark mark.CloseBracket tokens
  Some (Array span words bound, rest)

-- behind the `[` of an array
abbrev pub array_at : ℕ → Span → Names → List Token → Option Found
array_at d span names tokens = array_of d span names (array_words (suc (length tokens)) [] tokens)

-- the end of a function's suffix
abbrev pub closed_at : Span → List Tree → Bool → List Token → Option Found
closed_at span found variadic tokens = do
  rest ← behind_mark mark.CloseParenthesis tokens
  Some (Function span (listed found) variadic, rest)

-- behind the `(` of parameters
abbrev pub function_at : ℕ → Span → Names → List Token → Option Found
function_at d span names tokens = function_with d span names tokens (typing_at d ForParameter names tokens)
