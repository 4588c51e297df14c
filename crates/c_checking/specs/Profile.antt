-- What this tool's subset of C leaves out in expressions and type names. Of all faults of a tree the one that stands first is named, and of
-- those of one place that of the least rule.
use Rattle.std.specs.Prelude.{ℕ, suc, pred, ◌==◌, nat_lt, nat_le, Bool, true, false, cond, not, ◌&&◌, ◌||◌, List, [], ◌∷◌, ◌++◌, map, Option, None, Some, Result, Ok, Err, bytes_eq}
use Rattle.std.specs.List.{list_any}
use lib.Chars.{codes}
use Rattle.c_base.specs.declared.number.Span.{Span}
use Rattle.c_base.specs.declared.token.Keyword.{Keyword}
use Rattle.c_base.specs.declared.token.Keyword.TheVariants as key
use Rattle.c_base.specs.declared.token.Punctuator.TheVariants as mark
use Rattle.c_base.specs.declared.token.Word.{Word}
use Rattle.c_base.specs.declared.token.Word.TheVariants as word
use Rattle.c_tree.specs.declared.operator.PrefixOperator.TheVariants as prefix
use Rattle.c_tree.specs.declared.tree.Attribute.{Attribute as CodeAttribute}
use Rattle.c_tree.specs.declared.tree.Pointer.{Pointer as Star}
use Rattle.c_tree.specs.declared.tree.Qualifier.{Qualifier}
use Rattle.c_tree.specs.declared.tree.Qualifier.TheVariants as qualifier
use Rattle.c_tree.specs.Trees.{Tree, Name, Integer, Floating, Character, Text, Parenthesised, Postfix, Prefix, OfType, Offsetof, Cast, Run, Conditional, Assignment, Comma, Index, Call, Dot, Arrow, Increment, Decrement, Operand, TypeName, Key, Typedef, Attribute, CompositeTag, Composite, EnumTag, Enum, Enumerator, Fields, Assertion, Field, Padding, Declarator, Absent, Declared, Group, Array, Function, Trees, Nil, Next}
use Rattle.c_tree.specs.WellFormed.{place_of}
use Rattle.c_checking.specs.Faults.{Fault, Profile, Typing}
use Rattle.c_checking.specs.Scopes.{Named, Meaning, Object, Constant, TypeName as TypeNamed}
use Rattle.c_checking.specs.Checking.{named_by, name_of}

-- ---- which names are enumerators

-- the newest stands first
pub record Known : Type 0 where
  pub name : List ℕ
  pub is_enumerator : Bool

abbrev pub is_constant : Meaning → Bool
is_constant (Object base q) = false
is_constant (Constant n) = true
is_constant (TypeNamed q) = false

abbrev pub known_from : List Named → List Known
known_from all = map (λ (n : Named). record { name = n.name; is_enumerator = is_constant n.meaning }) all

abbrev pub is_enumerator : List Known → List ℕ → Bool
is_enumerator [] name = false
is_enumerator (k ∷ more) name = cond (bytes_eq k.name name) k.is_enumerator (is_enumerator more name)

abbrev pub knowing : List ℕ → Bool → List Known → List Known
knowing name b names = record { name = name; is_enumerator = b } ∷ names

abbrev pub with_parameter : Option (List ℕ) → List Known → List Known
with_parameter None names = names
with_parameter (Some name) names = knowing name false names

-- What is known behind a tree: its enumerators. What a parameter list declares ends with it (C11 6.2.1p4).
abbrev mutual
  pub after : List Known → Tree → List Known
  after names (Parenthesised span inner) = after names inner
  after names (Postfix span first parts) = after_all (after names first) parts
  after names (Prefix span operator operand) = after names operand
  after names (OfType span operator type_name) = after names type_name
  after names (Offsetof span type_name member) = after names type_name
  after names (Cast span type_name operand) = after (after names type_name) operand
  after names (Run span first more) = after_all (after names first) more
  after names (Conditional span condition when_true when_false) = after (after (after names condition) when_true) when_false
  after names (Assignment span target operator value) = after (after names target) value
  after names (Comma span first more) = after_all (after names first) more
  after names (Index index) = after names index
  after names (Call opening arguments) = after_all names arguments
  after names (Operand operator operand) = after names operand
  after names (TypeName span specifiers declarator) = after_all (after_all names specifiers) declarator
  after names (Composite span sort attributes tag members trailing) = after_all names members
  after names (Enum span tag enumerators comma) = after_all names enumerators
  after names (Enumerator span name value) = knowing name true (after_all names value)
  after names (Fields span specifiers fields) = after_all (after_all names specifiers) fields
  after names (Assertion span condition literals) = after names condition
  after names (Field span declarator width attributes) = after_all (after names declarator) width
  after names (Padding span width) = after names width
  after names (Declarator span pointers core suffixes) = after_all (after names core) suffixes
  after names (Group span inner) = after names inner
  after names (Array span qualifiers bound) = after_all names bound
  after names _ = names

  pub after_all : List Known → Trees → List Known
  after_all names Nil = names
  after_all names (Next t more) = after_all (after names t) more

abbrev pub after_parameter : List Known → Tree → List Known
after_parameter names (TypeName span specifiers declarator) = with_parameter (name_of declarator) (after_all (after_all names specifiers) declarator)
after_parameter names _ = names

-- ---- the first of some faults

abbrev pub is_before : Span → Span → Bool
is_before a b = nat_lt a.line b.line || ((a.line == b.line) && nat_lt a.col b.col)

abbrev pub is_same_place : Span → Span → Bool
is_same_place a b = (a.line == b.line) && (a.col == b.col)

-- a rule that is broken, at a place
pub record Broken : Type 0 where
  pub rule : ℕ
  pub at : Span

abbrev pub goes_first : Broken → Broken → Bool
goes_first a b = is_before a.at b.at || (is_same_place a.at b.at && nat_le a.rule b.rule)

abbrev pub earlier : Broken → Option Broken → Option Broken
earlier a None = Some a
earlier a (Some b) = cond (goes_first a b) (Some a) (Some b)

abbrev pub earliest : List Broken → Option Broken
earliest [] = None
earliest (a ∷ more) = earlier a (earliest more)

abbrev broken : ℕ → Span → List Broken
broken rule at = record { rule = rule; at = at } ∷ []

abbrev pub where_so : Bool → ℕ → Span → List Broken
where_so true rule at = broken rule at
where_so false rule at = []

-- ---- rules 1 and 2: words

abbrev pub of_word : Span → Keyword → List Broken
of_word at key.Float = broken 1 at
of_word at key.Double = broken 1 at
of_word at key.Complex = broken 1 at
of_word at key.BuiltinVaList = broken 1 at
of_word at key.Atomic = broken 2 at
of_word at key.ThreadLocal = broken 2 at
of_word at _ = []

-- ---- rule 12: attributes that change what an object takes or what a declaration means

abbrev pub left_out : List (List ℕ)
left_out = codes "packed" ∷ codes "aligned" ∷ codes "mode" ∷ codes "vector_size" ∷ codes "scalar_storage_order" ∷ codes "cleanup" ∷ []

-- a name with two underscores on either side too
abbrev pub is_spelled : List ℕ → List ℕ → Bool
is_spelled name known = bytes_eq name known || bytes_eq name (codes "__" ++ (known ++ codes "__"))

abbrev pub is_left_out : List ℕ → Bool
is_left_out name = list_any (is_spelled name) left_out

-- the attributes' names stand outside of parentheses
abbrev pub names_left_out : ℕ → List Word → Bool
names_left_out depth [] = false
names_left_out depth (word.Punctuator mark.OpenParenthesis ∷ more) = names_left_out (suc depth) more
names_left_out depth (word.Punctuator mark.CloseParenthesis ∷ more) = names_left_out (pred depth) more
names_left_out depth (word.Identifier name ∷ more) = ((depth == 0) && is_left_out name) || names_left_out depth more
names_left_out depth (w ∷ more) = names_left_out depth more

abbrev pub of_attribute : CodeAttribute → List Broken
of_attribute a = where_so (names_left_out 0 a.words) 12 a.span

abbrev pub of_attributes : List CodeAttribute → List Broken
of_attributes [] = []
of_attributes (a ∷ more) = of_attribute a ++ of_attributes more

abbrev pub of_qualifier : Span → Qualifier → List Broken
of_qualifier at (qualifier.Keyword k) = of_word at k
of_qualifier at (qualifier.Attribute a) = of_attribute a

abbrev pub of_qualifiers : Span → List Qualifier → List Broken
of_qualifiers at [] = []
of_qualifiers at (q ∷ more) = of_qualifier at q ++ of_qualifiers at more

abbrev pub of_stars : List Star → List Broken
of_stars [] = []
of_stars (s ∷ more) = of_qualifiers s.span s.qualifiers ++ of_stars more

abbrev pub of_words : Span → List Keyword → List Broken
of_words at [] = []
of_words at (k ∷ more) = of_word at k ++ of_words at more

-- ---- rule 3: bounds are made of constants, enumerators, sizes, casts and operators

abbrev mutual
  pub is_bound : List Known → Tree → Bool
  is_bound names (Name span name) = is_enumerator names name
  is_bound names (Text span literals) = false
  is_bound names (Parenthesised span inner) = is_bound names inner
  is_bound names (Postfix span first parts) = is_bound names first && are_bounds (after names first) parts
  is_bound names (Prefix span prefix.Sizeof operand) = true
  is_bound names (Prefix span operator operand) = is_bound names operand
  is_bound names (Cast span type_name operand) = is_bound (after names type_name) operand
  is_bound names (Run span first more) = is_bound names first && are_bounds (after names first) more
  is_bound names (Conditional span condition when_true when_false) =
      is_bound names condition && (is_bound (after names condition) when_true && is_bound (after (after names condition) when_true) when_false)
  is_bound names (Assignment span target operator value) = is_bound names target && is_bound (after names target) value
  is_bound names (Comma span first more) = is_bound names first && are_bounds (after names first) more
  is_bound names (Index index) = is_bound names index
  is_bound names (Call opening arguments) = are_bounds names arguments
  is_bound names (Operand operator operand) = is_bound names operand
  is_bound names _ = true

  pub are_bounds : List Known → Trees → Bool
  are_bounds names Nil = true
  are_bounds names (Next t more) = is_bound names t && are_bounds (after names t) more

abbrev pub place_or : Span → Option Span → Span
place_or at None = at
place_or at (Some there) = there

abbrev pub of_bound : List Known → Span → Tree → List Broken
of_bound names at t = where_so (not (is_bound names t)) 3 (place_or at (place_of t))

-- ---- rule 4: a member that is declared as an array without a bound

pub data Nearest : Type 0 where
  Unbounded : Nearest
  Another : Nearest
  Itself : Nearest

abbrev pub or_else : Nearest → Nearest → Nearest
or_else Itself outer = outer
or_else n outer = n

abbrev pub nearest_suffix : Trees → Nearest
nearest_suffix Nil = Itself
nearest_suffix (Next (Array span words Nil) more) = Unbounded
nearest_suffix (Next t more) = Another

abbrev pub nearest_star : List Star → Nearest
nearest_star [] = Itself
nearest_star (s ∷ more) = Another

-- what stands nearest to the name of a declarator
abbrev pub nearest : Tree → Nearest
nearest (Declarator span pointers core suffixes) = or_else (nearest core) (or_else (nearest_suffix suffixes) (nearest_star pointers))
nearest (Group span inner) = nearest inner
nearest _ = Itself

abbrev pub is_unbounded : Nearest → Bool
is_unbounded Unbounded = true
is_unbounded Another = false
is_unbounded Itself = false

-- ---- rule 8: bit-fields

abbrev pub has_width : Trees → Bool
has_width Nil = false
has_width (Next t more) = true

-- ---- trees

abbrev mutual
  pub faults : List Known → Tree → List Broken
  faults names (Floating span) = broken 1 span
  faults names (Parenthesised span inner) = faults names inner
  faults names (Postfix span first parts) = faults names first ++ faults_in (after names first) parts
  faults names (Prefix span operator operand) = faults names operand
  faults names (OfType span operator type_name) = faults names type_name
  faults names (Offsetof span type_name member) = faults names type_name
  faults names (Cast span type_name operand) = faults names type_name ++ faults (after names type_name) operand
  faults names (Run span first more) = faults names first ++ faults_in (after names first) more
  faults names (Conditional span condition when_true when_false) =
      faults names condition ++ (faults (after names condition) when_true ++ faults (after (after names condition) when_true) when_false)
  faults names (Assignment span target operator value) = faults names target ++ faults (after names target) value
  faults names (Comma span first more) = faults names first ++ faults_in (after names first) more
  faults names (Index index) = faults names index
  faults names (Call opening arguments) = faults_in names arguments
  faults names (Operand operator operand) = faults names operand
  faults names (TypeName span specifiers declarator) = faults_in names specifiers ++ faults_in (after_all names specifiers) declarator
  faults names (Key span k) = of_word span k
  faults names (Attribute a) = of_attribute a
  faults names (CompositeTag span sort attributes tag) = of_attributes attributes
  faults names (Composite span sort attributes tag members trailing) = of_attributes attributes ++ (faults_in names members ++ of_attributes trailing)
  faults names (Enum span tag enumerators comma) = faults_in names enumerators
  faults names (Enumerator span name value) = faults_in names value
  faults names (Fields span specifiers fields) = faults_in names specifiers ++ faults_in (after_all names specifiers) fields
  faults names (Assertion span condition literals) = faults names condition
  faults names (Field span declarator width attributes) =
      where_so (is_unbounded (nearest declarator)) 4 span ++ (where_so (has_width width) 8 span
      ++ (faults names declarator ++ (faults_in (after names declarator) width ++ of_attributes attributes)))
  faults names (Padding span width) = broken 8 span ++ faults names width
  faults names (Declarator span pointers core suffixes) = of_stars pointers ++ (faults names core ++ faults_in (after names core) suffixes)
  faults names (Group span inner) = faults names inner
  faults names (Array span words bound) = of_words span words ++ faults_of_bound names span bound
  faults names (Function span parameters variadic) = faults_of_parameters names parameters
  faults names _ = []

  pub faults_in : List Known → Trees → List Broken
  faults_in names Nil = []
  faults_in names (Next t more) = faults names t ++ faults_in (after names t) more

  pub faults_of_bound : List Known → Span → Trees → List Broken
  faults_of_bound names at Nil = []
  faults_of_bound names at (Next t more) = of_bound names at t ++ faults names t

  pub faults_of_parameters : List Known → Trees → List Broken
  faults_of_parameters names Nil = []
  faults_of_parameters names (Next t more) = faults names t ++ faults_of_parameters (after_parameter names t) more
