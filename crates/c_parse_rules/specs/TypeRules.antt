-- The rules of what type names reach (C11 6.7.2 to 6.7.7), as functions. All of it stands between brackets or before a `;`, so that one
-- tree at most has given tokens: what is read inside may nest too deep, and the whole is measured where it ends.
use Rattle.std.specs.Prelude.{ℕ, zero, suc, nat_le, nat_lt, Bool, true, false, cond, ◌&&◌, ◌||◌, not, List, [], ◌∷◌, ◌++◌, length, Option, None, Some}
use Rattle.c_base.specs.declared.number.Span.{Span}
use Rattle.c_base.specs.declared.token.Keyword.{Keyword}
use Rattle.c_base.specs.declared.token.Keyword.TheVariants as key
use Rattle.c_base.specs.declared.token.Punctuator.TheVariants as mark
use Rattle.c_base.specs.declared.token.Token.{Token}
use Rattle.c_base.specs.declared.token.Word.{Word}
use Rattle.c_base.specs.declared.token.Word.TheVariants as word
use Rattle.c_tree.specs.declared.tree.Attribute.{Attribute as CodeAttribute}
use Rattle.c_tree.specs.declared.tree.CompositeSort.{CompositeSort}
use Rattle.c_tree.specs.declared.tree.CompositeSort.TheVariants as sort
use Rattle.c_tree.specs.declared.tree.Pointer.{Pointer}
use Rattle.c_tree.specs.declared.tree.Qualifier.{Qualifier}
use Rattle.c_tree.specs.declared.tree.Qualifier.TheVariants as qualifier
use Rattle.c_tree.specs.Nesting.{nest}
use Rattle.c_tree.specs.Trees.{Tree, Trees, TypeName, Key, Typedef, Attribute, CompositeTag, Composite, EnumTag, Enum, Enumerator, Fields, Assertion, Field, Padding, Declarator, Absent, Declared, Group, Array, Function}
use Rattle.c_tree.specs.Views.{listed, optional}
use Rattle.c_tree.specs.WellFormed.{Names, is_typedef, after, after_all, after_parameter, Purpose, ForType, ForParameter, ForName, Before, Untyped, Braced, before_next, before_end, may_specify, is_qualifier, is_array_word, Open, open_behind}
use Rattle.c_parse_rules.specs.Tokens.{◌>>=◌, first, behind_mark, is_key, is_mark, name_at, literal_at, is_type_at}
use Rattle.c_parse_rules.specs.Rules.{Found, Several, Inner, literals}

-- what reads a specifier behind others
abbrev pub Specifiers : Type 0
Specifiers = Purpose → Names → Before → List Token → Option Found

-- what reads a declarator behind specifiers
abbrev pub Declarators : Type 0
Declarators = Purpose → Names → Before → List Token → Option Found

-- what reads a type name or a parameter
abbrev pub Typings : Type 0
Typings = Purpose → Names → List Token → Option Found

-- ---- parts without trees

-- a word before others
abbrev pub with_word : Word → Option (List Word × List Token) → Option (List Word × List Token)
with_word w None = None
with_word w (Some more) = Some (w ∷ more.0, more.1)

-- a `)` ends the words where none of them is open
abbrev pub ends_words : Open → Word → Bool
ends_words [] (word.Punctuator mark.CloseParenthesis) = true
ends_words unclosed w = false

-- the words from this one on, where this is open behind it
abbrev pub words_from : (Open → Option (List Word × List Token)) → Word → Option Open → Option (List Word × List Token)
words_from again w None = None
words_from again w (Some unclosed) = with_word w (again unclosed)

abbrev pub balanced_with : (Open → Option (List Word × List Token)) → Open → Word → List Token → Option (List Word × List Token)
balanced_with again unclosed w tokens = cond (ends_words unclosed w) (Some ([], tokens)) (words_from again w (open_behind unclosed w))

-- the words up to the first `)` that closes none of their brackets, and what is behind it
abbrev pub balanced : Open → List Token → Option (List Word × List Token)
balanced unclosed [] = None
balanced unclosed (t ∷ tokens) = balanced_with (λ left. balanced left tokens) unclosed t.word tokens

unfoldable pub attribute_behind : Span → List Token → Option (CodeAttribute × List Token)
attribute_behind span tokens = do
  outer ← behind_mark mark.OpenParenthesis tokens
  inside ← behind_mark mark.OpenParenthesis outer
  words ← balanced [] inside
  rest ← behind_mark mark.CloseParenthesis words.1
  Some (record { span = span; words = words.0 }, rest)

abbrev pub attribute_at : List Token → Option (CodeAttribute × List Token)
attribute_at [] = None
attribute_at (t ∷ tokens) = cond (is_key key.Attribute t.word) (attribute_behind t.span tokens) None

abbrev pub attributes_with : (List CodeAttribute → List Token → List CodeAttribute × List Token) → List CodeAttribute → List Token → Option (CodeAttribute × List Token) → List CodeAttribute × List Token
attributes_with again found tokens None = (found, tokens)
attributes_with again found tokens (Some a) = again (found ++ a.0 ∷ []) a.1

abbrev pub attributes : ℕ → List CodeAttribute → List Token → List CodeAttribute × List Token
attributes zero found tokens = (found, tokens)
attributes (suc n) found tokens = attributes_with (attributes n) found tokens (attribute_at tokens)

unfoldable pub attributes_at : List Token → List CodeAttribute × List Token
attributes_at tokens = attributes (suc (length tokens)) [] tokens

-- a keyword that passes a test
abbrev pub keyword_of : (Keyword → Bool) → Word → Option Keyword
keyword_of is (word.Keyword k) = cond (is k) (Some k) None
keyword_of is _ = None

unfoldable pub keyword_at : (Keyword → Bool) → List Token → Option (Keyword × List Token)
keyword_at is tokens = first (keyword_of is) tokens

abbrev pub keywords_with : (List Keyword → List Token → List Keyword × List Token) → List Keyword → List Token → Option (Keyword × List Token) → List Keyword × List Token
keywords_with again found tokens None = (found, tokens)
keywords_with again found tokens (Some k) = again (found ++ k.0 ∷ []) k.1

-- the words in the brackets of an array declarator
abbrev pub array_words : ℕ → List Keyword → List Token → List Keyword × List Token
array_words zero found tokens = (found, tokens)
array_words (suc n) found tokens = keywords_with (array_words n) found tokens (keyword_at is_array_word tokens)

abbrev pub qualifier_or : Option (Keyword × List Token) → Option (CodeAttribute × List Token) → Option (Qualifier × List Token)
qualifier_or (Some k) other = Some (qualifier.Keyword k.0, k.1)
qualifier_or None None = None
qualifier_or None (Some a) = Some (qualifier.Attribute a.0, a.1)

unfoldable pub qualifier_at : List Token → Option (Qualifier × List Token)
qualifier_at tokens = qualifier_or (keyword_at is_qualifier tokens) (attribute_at tokens)

abbrev pub qualifiers_with : (List Qualifier → List Token → List Qualifier × List Token) → List Qualifier → List Token → Option (Qualifier × List Token) → List Qualifier × List Token
qualifiers_with again found tokens None = (found, tokens)
qualifiers_with again found tokens (Some q) = again (found ++ q.0 ∷ []) q.1

abbrev pub qualifiers : ℕ → List Qualifier → List Token → List Qualifier × List Token
qualifiers zero found tokens = (found, tokens)
qualifiers (suc n) found tokens = qualifiers_with (qualifiers n) found tokens (qualifier_at tokens)

abbrev pub pointer_of : Span → List Qualifier × List Token → Pointer × List Token
pointer_of span several = (record { span = span; qualifiers = several.0 }, several.1)

abbrev pub pointer_at : List Token → Option (Pointer × List Token)
pointer_at [] = None
pointer_at (t ∷ tokens) = cond (is_mark mark.Star t.word) (Some (pointer_of t.span (qualifiers (suc (length tokens)) [] tokens))) None

abbrev pub pointers_with : (List Pointer → List Token → List Pointer × List Token) → List Pointer → List Token → Option (Pointer × List Token) → List Pointer × List Token
pointers_with again found tokens None = (found, tokens)
pointers_with again found tokens (Some p) = again (found ++ p.0 ∷ []) p.1

abbrev pub pointers : ℕ → List Pointer → List Token → List Pointer × List Token
pointers zero found tokens = (found, tokens)
pointers (suc n) found tokens = pointers_with (pointers n) found tokens (pointer_at tokens)

abbrev pub is_untyped : Before → Bool
is_untyped Untyped = true
is_untyped _ = false

abbrev pub is_braced : Before → Bool
is_braced Braced = true
is_braced _ = false

abbrev pub first_span : Span → List Token → Span
first_span other [] = other
first_span other (t ∷ tokens) = t.span

module _ (depth : ℕ) (inner : Inner) (typings : Typings) (specifiers_below : Specifiers) (declarators_below : Declarators) where
  -- ---- loops; `again` reads what is behind what was found

  abbrev pub each_with : (List Tree → Names → List Token → Several) → List Tree → Names → List Token → Option Found → Several
  each_with again found names tokens None = (found, tokens)
  each_with again found names tokens (Some e) = again (found ++ e.0 ∷ []) (after names e.0) e.1

  -- ---- suffixes and declarators (C11 6.7.6)

  abbrev pub bound_of : Span → List Keyword → List Token → Option Found → Option Found
  bound_of span words tokens None = do
    rest ← behind_mark mark.CloseBracket tokens
    Some (Array span words (optional None), rest)
  bound_of span words tokens (Some e) = do
    rest ← behind_mark mark.CloseBracket e.1
    Some (Array span words (optional (Some e.0)), rest)

  abbrev pub array_of : Span → Names → List Keyword × List Token → Option Found
  array_of span names several = bound_of span several.0 several.1 (inner names 1 several.1)

  abbrev pub parameters_with : (List Tree → Names → List Token → Several) → List Tree → Names → List Token → Option Found → Several
  parameters_with again found names tokens None = (found, tokens)
  parameters_with again found names tokens (Some t) = again (found ++ t.0 ∷ []) (after_parameter names t.0) t.1

  abbrev pub parameters_behind : (List Tree → Names → List Token → Several) → List Tree → Names → List Token → Option (List Token) → Several
  parameters_behind again found names tokens None = (found, tokens)
  parameters_behind again found names tokens (Some rest) = parameters_with again found names tokens (typings ForParameter names rest)

  abbrev pub parameters : ℕ → List Tree → Names → List Token → Several
  parameters zero found names tokens = (found, tokens)
  parameters (suc n) found names tokens = parameters_behind (parameters n) found names tokens (behind_mark mark.Comma tokens)

  unfoldable pub ellipsis_at : List Token → Option (List Token)
  ellipsis_at tokens = do
    rest ← behind_mark mark.Comma tokens
    behind_mark mark.Ellipsis rest

  abbrev pub function_end : Span → List Tree → List Token → Option (List Token) → Option Found
  function_end span found tokens None = do
    rest ← behind_mark mark.CloseParenthesis tokens
    Some (Function span (listed found) false, rest)
  function_end span found tokens (Some variadic) = do
    rest ← behind_mark mark.CloseParenthesis variadic
    Some (Function span (listed found) true, rest)

  abbrev pub function_of : Span → Several → Option Found
  function_of span several = function_end span several.0 several.1 (ellipsis_at several.1)

  -- behind the `(`
  abbrev pub function_with : Span → Names → List Token → Option Found → Option Found
  function_with span names tokens None = function_end span [] tokens None
  function_with span names tokens (Some t) = function_of span (parameters (suc (length t.1)) (t.0 ∷ []) (after_parameter names t.0) t.1)

  abbrev pub suffix_of : Names → Span → List Token → Word → Option Found
  suffix_of names span tokens (word.Punctuator mark.OpenBracket) = array_of span names (array_words (suc (length tokens)) [] tokens)
  suffix_of names span tokens (word.Punctuator mark.OpenParenthesis) = function_with span names tokens (typings ForParameter names tokens)
  suffix_of names span tokens _ = None

  abbrev pub suffix_at : Names → List Token → Option Found
  suffix_at names [] = None
  suffix_at names (t ∷ tokens) = suffix_of names t.span tokens t.word

  abbrev pub suffixes : ℕ → List Tree → Names → List Token → Several
  suffixes zero found names tokens = (found, tokens)
  suffixes (suc n) found names tokens = each_with (suffixes n) found names tokens (suffix_at names tokens)

  unfoldable pub group_at : Purpose → Names → Before → Span → List Token → Option Found
  group_at purpose names before span tokens = do
    d ← declarators_below purpose names before tokens
    rest ← behind_mark mark.CloseParenthesis d.1
    Some (Group span d.0, rest)

  abbrev pub is_close_at : List Token → Bool
  is_close_at [] = false
  is_close_at (t ∷ tokens) = is_mark mark.CloseParenthesis t.word

  -- where a declarator may lack its name, a `(` before a type or a `)` begins its parameters
  abbrev pub begins_parameters : Purpose → Names → List Token → Bool
  begins_parameters ForName names tokens = false
  begins_parameters _ names tokens = is_type_at names tokens || is_close_at tokens

  abbrev pub may_declare : Purpose → Before → Bool → Bool
  may_declare ForType before known = false
  may_declare _ Untyped known = not known
  may_declare _ before known = true

  -- what the pointers stand before: a name, a declarator in parentheses, or nothing; `tokens` are behind the first word
  abbrev pub core_of : Purpose → Names → Before → Span → List Token → Word → Option Found
  core_of purpose names before span tokens (word.Identifier name) =
      cond (may_declare purpose before (is_typedef names name)) (Some (Declared span name, tokens)) None
  core_of purpose names before span tokens (word.Punctuator mark.OpenParenthesis) =
      cond (begins_parameters purpose names tokens) None (group_at purpose names before span tokens)
  core_of purpose names before span tokens _ = None

  abbrev pub core_at : Purpose → Names → Before → List Token → Option Found
  core_at purpose names before [] = None
  core_at purpose names before (t ∷ tokens) = core_of purpose names before t.span tokens t.word

  abbrev pub core_or_none : Purpose → List Token → Option Found → Option Found
  core_or_none purpose tokens (Some core) = Some core
  core_or_none ForName tokens None = None
  core_or_none _ tokens None = Some (Absent, tokens)

  abbrev pub declarator_of : Span → List Pointer → Tree → Several → Found
  declarator_of span stars core several = (Declarator span stars core (listed several.0), several.1)

  -- a declarator has at least one token
  abbrev pub where_some : List Token → Found → Option Found
  where_some tokens found = cond (nat_lt (length found.1) (length tokens)) (Some found) None

  unfoldable pub declarator_behind : Purpose → Names → Before → List Token → List Pointer × List Token → Option Found
  declarator_behind purpose names before tokens stars = do
    core ← core_or_none purpose stars.1 (core_at purpose names before stars.1)
    where_some tokens
        (declarator_of (first_span (record { line = 0; col = 0 }) tokens) stars.0 core.0
        (suffixes (suc (length core.1)) [] (after names core.0) core.1))

  unfoldable pub declarator_rule : Purpose → Names → Before → List Token → Option Found
  declarator_rule purpose names before tokens = declarator_behind purpose names before tokens (pointers (suc (length tokens)) [] tokens)

  -- ---- members (C11 6.7.2.1)

  abbrev pub field_end : Span → Tree → Trees → List CodeAttribute × List Token → Found
  field_end span d width kept = (Field span d width kept.0, kept.1)

  abbrev pub width_of : Span → Found → Names → Option (List Token) → Option Found
  width_of span d names None = Some (field_end span d.0 (optional None) (attributes_at d.1))
  width_of span d names (Some rest) = do
    width ← inner (after names d.0) 2 rest
    Some (field_end span d.0 (optional (Some width.0)) (attributes_at width.1))

  unfoldable pub named_field_at : Names → Before → List Token → Option Found
  named_field_at names before tokens = do
    d ← declarators_below ForName names before tokens
    width_of (first_span (record { line = 0; col = 0 }) tokens) d names (behind_mark mark.Colon d.1)

  unfoldable pub padding_at : Span → Names → List Token → Option Found
  padding_at span names tokens = do
    width ← inner names 2 tokens
    Some (Padding span width.0, width.1)

  abbrev pub field_at : Names → Before → List Token → Option Found
  field_at names before [] = None
  field_at names before (t ∷ tokens) = cond (is_mark mark.Colon t.word) (padding_at t.span names tokens) (named_field_at names before (t ∷ tokens))

  abbrev pub fields_behind : (List Tree → Names → List Token → Several) → Before → List Tree → Names → List Token → Option (List Token) → Several
  fields_behind again before found names tokens None = (found, tokens)
  fields_behind again before found names tokens (Some rest) = each_with again found names tokens (field_at names before rest)

  abbrev pub fields : ℕ → Before → List Tree → Names → List Token → Several
  fields zero before found names tokens = (found, tokens)
  fields (suc n) before found names tokens = fields_behind (fields n before) before found names tokens (behind_mark mark.Comma tokens)

  abbrev pub fields_with : Before → Names → List Token → Option Found → Several
  fields_with before names tokens None = ([], tokens)
  fields_with before names tokens (Some f) = fields (suc (length f.1)) before (f.0 ∷ []) (after names f.0) f.1

  -- specifiers, one after the other; `read` reads one
  module _ (read : Specifiers) where
    abbrev pub specifiers_with : (Before → List Tree → Names → List Token → Several) → Before → List Tree → Names → List Token → Option Found → Several
    specifiers_with again before found names tokens None = (found, tokens)
    specifiers_with again before found names tokens (Some s) = again (before_next before s.0) (found ++ s.0 ∷ []) (after names s.0) s.1

    abbrev pub specifiers : ℕ → Purpose → Before → List Tree → Names → List Token → Several
    specifiers zero purpose before found names tokens = (found, tokens)
    specifiers (suc n) purpose before found names tokens =
        specifiers_with (specifiers n purpose) before found names tokens (read purpose names before tokens)

    -- at least one
    abbrev pub some_specifiers : Several → Option Several
    some_specifiers ([], tokens) = None
    some_specifiers (s ∷ more, tokens) = Some (s ∷ more, tokens)

    unfoldable pub specifiers_at : Purpose → Names → List Token → Option Several
    specifiers_at purpose names tokens = some_specifiers (specifiers (suc (length tokens)) purpose Untyped [] names tokens)

  abbrev pub fields_of : Span → Several → Several → Option Found
  fields_of span found several = do
    rest ← behind_mark mark.Semicolon several.1
    Some (Fields span (listed found.0) (listed several.0), rest)

  -- fields behind their specifiers, where these names are declared
  abbrev pub fields_after : Span → Several → Before → Names → Option Found
  fields_after span found before names = fields_of span found (fields_with before names found.1 (field_at names before found.1))

  unfoldable pub fields_at : Span → Names → List Token → Option Found
  fields_at span names tokens = do
    found ← specifiers_at specifiers_below ForName names tokens
    fields_after span found (before_end Untyped (listed found.0)) (after_all names (listed found.0))

  -- behind the word `_Static_assert` (C11 6.7.10)
  unfoldable pub assertion_at : Span → Names → List Token → Option Found
  assertion_at span names tokens = do
    inside ← behind_mark mark.OpenParenthesis tokens
    condition ← inner names 2 inside
    comma ← behind_mark mark.Comma condition.1
    bytes ← literal_at comma
    closing ← behind_mark mark.CloseParenthesis (literals (suc (length bytes.1)) (bytes.0 ∷ []) bytes.1).1
    rest ← behind_mark mark.Semicolon closing
    Some (Assertion span condition.0 (literals (suc (length bytes.1)) (bytes.0 ∷ []) bytes.1).0, rest)

  abbrev pub member_at : Names → List Token → Option Found
  member_at names [] = None
  member_at names (t ∷ tokens) = cond (is_key key.StaticAssert t.word) (assertion_at t.span names tokens) (fields_at t.span names (t ∷ tokens))

  abbrev pub members : ℕ → List Tree → Names → List Token → Several
  members zero found names tokens = (found, tokens)
  members (suc n) found names tokens = each_with (members n) found names tokens (member_at names tokens)

  -- ---- structs and unions

  abbrev pub trailing_of : Span → CompositeSort → List CodeAttribute → Option (List ℕ) → List Tree → List CodeAttribute × List Token → Found
  trailing_of span which kept tag found trailing = (Composite span which kept tag (listed found) trailing.0, trailing.1)

  abbrev pub body_of : Span → CompositeSort → List CodeAttribute → Option (List ℕ) → Several → Option Found
  body_of span which kept tag several = do
    rest ← behind_mark mark.CloseBrace several.1
    Some (trailing_of span which kept tag several.0 (attributes_at rest))

  -- behind the `{`
  unfoldable pub body_at : Span → CompositeSort → List CodeAttribute → Option (List ℕ) → Names → List Token → Option Found
  body_at span which kept tag names tokens = body_of span which kept tag (members (suc (length tokens)) [] names tokens)

  abbrev pub tagged : Span → CompositeSort → List CodeAttribute → Names → List ℕ × List Token → Option (List Token) → Option Found
  tagged span which kept names name None = Some (CompositeTag span which kept name.0, name.1)
  tagged span which kept names name (Some rest) = body_at span which kept (Some name.0) names rest

  unfoldable pub untagged_at : Span → CompositeSort → List CodeAttribute → Names → List Token → Option Found
  untagged_at span which kept names tokens = do
    rest ← behind_mark mark.OpenBrace tokens
    body_at span which kept None names rest

  abbrev pub composite_with : Span → CompositeSort → List CodeAttribute → Names → List Token → Option (List ℕ × List Token) → Option Found
  composite_with span which kept names tokens None = untagged_at span which kept names tokens
  composite_with span which kept names tokens (Some name) = tagged span which kept names name (behind_mark mark.OpenBrace name.1)

  abbrev pub composite_of : Span → CompositeSort → Names → List CodeAttribute × List Token → Option Found
  composite_of span which names kept = composite_with span which kept.0 names kept.1 (name_at kept.1)

  -- behind the word `struct` or `union`
  unfoldable pub composite_at : Span → CompositeSort → Names → List Token → Option Found
  composite_at span which names tokens = composite_of span which names (attributes_at tokens)

  -- ---- enums (C11 6.7.2.2)

  abbrev pub value_of : Span → List ℕ × List Token → Names → Option (List Token) → Option Found
  value_of span name names None = Some (Enumerator span name.0 (optional None), name.1)
  value_of span name names (Some rest) = do
    value ← inner names 2 rest
    Some (Enumerator span name.0 (optional (Some value.0)), value.1)

  unfoldable pub enumerator_at : Names → List Token → Option Found
  enumerator_at names tokens = do
    name ← name_at tokens
    value_of (first_span (record { line = 0; col = 0 }) tokens) name names (behind_mark mark.Assign name.1)

  abbrev pub enumerators_behind : (List Tree → Names → List Token → Several) → List Tree → Names → List Token → Option (List Token) → Several
  enumerators_behind again found names tokens None = (found, tokens)
  enumerators_behind again found names tokens (Some rest) = each_with again found names tokens (enumerator_at names rest)

  abbrev pub enumerators : ℕ → List Tree → Names → List Token → Several
  enumerators zero found names tokens = (found, tokens)
  enumerators (suc n) found names tokens = enumerators_behind (enumerators n) found names tokens (behind_mark mark.Comma tokens)

  abbrev pub enum_end : Span → Option (List ℕ) → Several → Option (List Token) → Option Found
  enum_end span tag several None = do
    rest ← behind_mark mark.CloseBrace several.1
    Some (Enum span tag (listed several.0) false, rest)
  enum_end span tag several (Some comma) = do
    rest ← behind_mark mark.CloseBrace comma
    Some (Enum span tag (listed several.0) true, rest)

  abbrev pub enum_of : Span → Option (List ℕ) → Several → Option Found
  enum_of span tag several = enum_end span tag several (behind_mark mark.Comma several.1)

  -- behind the `{`
  unfoldable pub constants_at : Span → Option (List ℕ) → Names → List Token → Option Found
  constants_at span tag names tokens = do
    e ← enumerator_at names tokens
    enum_of span tag (enumerators (suc (length e.1)) (e.0 ∷ []) (after names e.0) e.1)

  abbrev pub enum_tagged : Span → Names → List ℕ × List Token → Option (List Token) → Option Found
  enum_tagged span names name None = Some (EnumTag span name.0, name.1)
  enum_tagged span names name (Some rest) = constants_at span (Some name.0) names rest

  unfoldable pub enum_untagged_at : Span → Names → List Token → Option Found
  enum_untagged_at span names tokens = do
    rest ← behind_mark mark.OpenBrace tokens
    constants_at span None names rest

  abbrev pub enum_with : Span → Names → List Token → Option (List ℕ × List Token) → Option Found
  enum_with span names tokens None = enum_untagged_at span names tokens
  enum_with span names tokens (Some name) = enum_tagged span names name (behind_mark mark.OpenBrace name.1)

  -- ---- specifiers and type names

  abbrev pub attribute_tree : CodeAttribute × List Token → Found
  attribute_tree a = (Attribute a.0, a.1)

  abbrev pub attribute_found : Option (CodeAttribute × List Token) → Option Found
  attribute_found None = None
  attribute_found (Some a) = Some (attribute_tree a)

  abbrev pub specifier_of : Purpose → Names → Before → Span → List Token → Word → Option Found
  specifier_of purpose names before span tokens (word.Keyword key.Struct) = composite_at span sort.Struct names tokens
  specifier_of purpose names before span tokens (word.Keyword key.Union) = composite_at span sort.Union names tokens
  specifier_of purpose names before span tokens (word.Keyword key.Enum) = enum_with span names tokens (name_at tokens)
  specifier_of purpose names before span tokens (word.Keyword key.Attribute) =
      cond (is_braced before) None (attribute_found (attribute_behind span tokens))
  specifier_of purpose names before span tokens (word.Keyword k) = cond (may_specify purpose k) (Some (Key span k, tokens)) None
  specifier_of purpose names before span tokens (word.Identifier name) =
      cond (is_untyped before && is_typedef names name) (Some (Typedef span name, tokens)) None
  specifier_of purpose names before span tokens _ = None

  abbrev pub specifier_rule : Purpose → Names → Before → List Token → Option Found
  specifier_rule purpose names before [] = None
  specifier_rule purpose names before (t ∷ tokens) = specifier_of purpose names before t.span tokens t.word

  -- the type name is measured where it ends
  abbrev pub measured : Tree → List Token → Option Found
  measured t rest = cond (nat_le (nest t) (suc depth)) (Some (t, rest)) None

  abbrev pub type_of : Span → Several → Option Found → Option Found
  type_of span found None = measured (TypeName span (listed found.0) (optional None)) found.1
  type_of span found (Some d) = measured (TypeName span (listed found.0) (optional (Some d.0))) d.1

  unfoldable pub type_rule : Purpose → Names → List Token → Option Found
  type_rule purpose names tokens = do
    found ← specifiers_at specifier_rule purpose names tokens
    type_of (first_span (record { line = 0; col = 0 }) tokens) found
        (declarators_below purpose (after_all names (listed found.0)) (before_end Untyped (listed found.0)) found.1)
