-- Which trees are expressions. Each operand has at least the level that its place asks for, no operand of a run is a run of the same
-- level, and a name stands as a typedef name exactly where C says so. How deep a tree may be is stated apart, in `IsWithin`.
use Rattle.std.specs.Prelude.{ℕ, zero, suc, ◌≤◌, ◌≡◌, Bool, true, false, cond, ◌||◌, IsTrue, List, [], ◌∷◌, Option, None, Some, bytes_eq}
use Rattle.std.specs.List.{AllByRecursion}
use denote.Enum.Bare.{sameb}
use Rattle.c_base.specs.contracts.token.Punctuator.{the_type as mark_type}
use Rattle.c_base.specs.declared.number.Span.{Span}
use Rattle.c_base.specs.declared.token.Keyword.{Keyword}
use Rattle.c_base.specs.declared.token.Keyword.TheVariants as key
use Rattle.c_base.specs.declared.token.Punctuator.{Punctuator}
use Rattle.c_base.specs.declared.token.Punctuator.TheVariants as mark
use Rattle.c_base.specs.declared.token.Word.{Word}
use Rattle.c_base.specs.declared.token.Word.TheVariants as word
use Rattle.c_tree.specs.declared.operator.BinaryOperator.{BinaryOperator}
use Rattle.c_tree.specs.declared.operator.BinaryOperator.TheVariants as binary
use Rattle.c_tree.specs.declared.operator.PrefixOperator.{PrefixOperator}
use Rattle.c_tree.specs.declared.operator.PrefixOperator.TheVariants as prefix
use Rattle.c_tree.specs.declared.tree.Attribute.{Attribute as CodeAttribute}
use Rattle.c_tree.specs.declared.tree.Pointer.{Pointer}
use Rattle.c_tree.specs.declared.tree.Qualifier.{Qualifier}
use Rattle.c_tree.specs.declared.tree.Qualifier.TheVariants as qualifier
use Rattle.c_tree.specs.Nesting.{nest}
use Rattle.c_tree.specs.Trees.{Tree, Name, Integer, Floating, Character, Text, Parenthesised, Postfix, Prefix, OfType, Offsetof, Cast, Run, Conditional, Assignment, Comma, Index, Call, Dot, Arrow, Increment, Decrement, Operand, TypeName, Key, Typedef, Attribute, CompositeTag, Composite, EnumTag, Enum, Enumerator, Fields, Assertion, Field, Padding, Declarator, Absent, Declared, Group, Array, Function, Trees, Nil, Next}

-- ---- names

-- what a name is since its declaration: a typedef name, or an ordinary one (a variable, a function or an enumeration constant)
pub record NameUse : Type 0 where
  pub name : List ℕ
  pub is_typedef : Bool

-- The names that are declared, the newest first, so that an inner scope hides the outer ones (C11 6.2.1p4). To leave a scope is to go
-- back to the names before it.
abbrev pub Names : Type 0
Names = List NameUse

-- the name is a typedef name there (C11 6.7.8)
abbrev pub is_typedef : Names → List ℕ → Bool
is_typedef [] name = false
is_typedef (known ∷ more) name = cond (bytes_eq known.name name) known.is_typedef (is_typedef more name)

abbrev pub ordinary : List ℕ → Names → Names
ordinary name names = record { name = name; is_typedef = false } ∷ names

-- The names behind a tree: enumeration constants are declared where they stand, for what follows (C11 6.2.1p7). What a parameter list
-- declares ends with it (C11 6.2.1p4); members, tags and labels have name spaces of their own (C11 6.2.3).
abbrev mutual
  pub after : Names → Tree → Names
  after names (Parenthesised span inner) = after names inner
  after names (Postfix span first parts) = after_all (after names first) parts
  after names (Prefix span operator operand) = after names operand
  after names (OfType span operator type_name) = after names type_name
  after names (Offsetof span type_name member) = after names type_name
  after names (Cast span type_name operand) = after (after names type_name) operand
  after names (Run span first more) = after_all (after names first) more
  after names (Conditional span condition when_true when_false) = after (after (after names condition) when_true) when_false
  after names (Assignment span target operator value) = after (after names target) value
  after names (Comma span first more) = after_all (after names first) more
  after names (Index index) = after names index
  after names (Call opening arguments) = after_all names arguments
  after names (Operand operator operand) = after names operand
  after names (TypeName span specifiers declarator) = after_all (after_all names specifiers) declarator
  after names (Composite span sort attributes tag members trailing) = after_all names members
  after names (Enum span tag enumerators comma) = after_all names enumerators
  after names (Enumerator span name value) = ordinary name (after_all names value)
  after names (Fields span specifiers fields) = after_all (after_all names specifiers) fields
  after names (Assertion span condition literals) = after names condition
  after names (Field span declarator width attributes) = after_all (after names declarator) width
  after names (Padding span width) = after names width
  after names (Declarator span pointers core suffixes) = after_all (after names core) suffixes
  after names (Group span inner) = after names inner
  after names (Array span qualifiers bound) = after_all names bound
  after names _ = names

  pub after_all : Names → Trees → Names
  after_all names Nil = names
  after_all names (Next t more) = after_all (after names t) more

-- the name that a declarator declares
abbrev pub declared_name : Tree → Option (List ℕ)
declared_name (Declarator span pointers core suffixes) = declared_name core
declared_name (Declared span name) = Some name
declared_name (Group span inner) = declared_name inner
declared_name _ = None

abbrev pub declare : Option (List ℕ) → Names → Names
declare None names = names
declare (Some name) names = ordinary name names

abbrev pub declare_all : Trees → Names → Names
declare_all Nil names = names
declare_all (Next t more) names = declare_all more (declare (declared_name t) names)

-- A parameter is declared behind its declarator, for the parameters that follow (C11 6.2.1p7).
abbrev pub after_parameter : Names → Tree → Names
after_parameter names (TypeName span specifiers declarator) = declare_all declarator (after_all (after_all names specifiers) declarator)
after_parameter names _ = names

-- ---- levels

-- Levels of expressions, the loosest first: a comma list 0, assignment 1, `?:` 2, the ten levels of operators from `||` 3 to `*` 12, a
-- cast 13, a prefix operator 14, a postfix run 15, a primary expression 16 (C11 6.5.1 to 6.5.17).
abbrev pub level_of_operator : BinaryOperator → ℕ
level_of_operator binary.Multiply = 12
level_of_operator binary.Divide = 12
level_of_operator binary.Remainder = 12
level_of_operator binary.Add = 11
level_of_operator binary.Subtract = 11
level_of_operator binary.ShiftLeft = 10
level_of_operator binary.ShiftRight = 10
level_of_operator binary.Less = 9
level_of_operator binary.Greater = 9
level_of_operator binary.LessEqual = 9
level_of_operator binary.GreaterEqual = 9
level_of_operator binary.Equal = 8
level_of_operator binary.NotEqual = 8
level_of_operator binary.BitAnd = 7
level_of_operator binary.BitXor = 6
level_of_operator binary.BitOr = 5
level_of_operator binary.And = 4
level_of_operator binary.Or = 3

-- a run has the level of its first operator
abbrev pub level_of_run : Trees → ℕ
level_of_run (Next (Operand operator operand) more) = level_of_operator operator
level_of_run _ = 0

abbrev pub level_of : Tree → ℕ
level_of (Comma span first more) = 0
level_of (Assignment span target operator value) = 1
level_of (Conditional span condition when_true when_false) = 2
level_of (Run span first more) = level_of_run more
level_of (Cast span type_name operand) = 13
level_of (Prefix span operator operand) = 14
level_of (OfType span operator type_name) = 14
level_of (Postfix span first parts) = 15
level_of _ = 16

-- the level that a prefix operator asks of its operand (C11 6.5.3): `++`, `--` and `sizeof` take no cast
abbrev pub level_behind : PrefixOperator → ℕ
level_behind prefix.Increment = 14
level_behind prefix.Decrement = 14
level_behind prefix.Sizeof = 14
level_behind _ = 13

-- ---- places

-- the place of the first token
abbrev pub place_of : Tree → Option Span
place_of (Name span name) = Some span
place_of (Integer span constant) = Some span
place_of (Floating span) = Some span
place_of (Character span byte) = Some span
place_of (Text span literals) = Some span
place_of (Parenthesised span inner) = Some span
place_of (Postfix span first parts) = Some span
place_of (Prefix span operator operand) = Some span
place_of (OfType span operator type_name) = Some span
place_of (Offsetof span type_name member) = Some span
place_of (Cast span type_name operand) = Some span
place_of (Run span first more) = Some span
place_of (Conditional span condition when_true when_false) = Some span
place_of (Assignment span target operator value) = Some span
place_of (Comma span first more) = Some span
place_of (Call opening arguments) = Some opening
place_of (TypeName span specifiers declarator) = Some span
place_of (Key span keyword) = Some span
place_of (Typedef span name) = Some span
place_of (Attribute attribute) = Some attribute.span
place_of (CompositeTag span sort attributes tag) = Some span
place_of (Composite span sort attributes tag members trailing) = Some span
place_of (EnumTag span tag) = Some span
place_of (Enum span tag enumerators comma) = Some span
place_of (Enumerator span name value) = Some span
place_of (Fields span specifiers fields) = Some span
place_of (Assertion span condition literals) = Some span
place_of (Field span declarator width attributes) = Some span
place_of (Padding span width) = Some span
place_of (Declarator span pointers core suffixes) = Some span
place_of (Declared span name) = Some span
place_of (Group span inner) = Some span
place_of (Array span qualifiers bound) = Some span
place_of (Function span parameters variadic) = Some span
place_of _ = None

abbrev pub first_place : Trees → Option Span
first_place Nil = None
first_place (Next t more) = place_of t

abbrev pub place_of_core : Tree → Trees → Option Span
place_of_core Absent suffixes = first_place suffixes
place_of_core core suffixes = place_of core

-- a declarator begins with its first `*`, else with what it stands around, else with its first suffix; one of them is there
abbrev pub place_of_declarator : List Pointer → Tree → Trees → Option Span
place_of_declarator [] core suffixes = place_of_core core suffixes
place_of_declarator (p ∷ more) core suffixes = Some p.span

-- the first operand begins where the node begins, and has at least this level
pub record IsFirst (span : Span) (level : ℕ) (first : Tree) : Type 0 where
  pub place : place_of first ≡ Some span
  pub tight : level ≤ level_of first

abbrev pub AreThere : Trees → Type 0
AreThere Nil = ⊥
AreThere (Next t more) = Unit {0}

abbrev pub IsText : List (List ℕ) → Type 0
IsText [] = ⊥
IsText (bytes ∷ more) = Unit {0}

-- ---- parts without trees

-- the brackets that are open, the innermost first: each by the mark that closes it
abbrev pub Open : Type 0
Open = List Punctuator

-- what is open behind a mark that closes; none where it does not close the innermost
abbrev pub open_without : Punctuator → Open → Option Open
open_without p [] = None
open_without p (innermost ∷ more) = cond (sameb mark_type innermost p) (Some more) None

-- what is open behind a word of an attribute; none where the word can't stand there, as the brackets and words of an annotation
abbrev pub open_behind : Open → Word → Option Open
open_behind unclosed (word.Punctuator mark.OpenParenthesis) = Some (mark.CloseParenthesis ∷ unclosed)
open_behind unclosed (word.Punctuator mark.OpenBracket) = Some (mark.CloseBracket ∷ unclosed)
open_behind unclosed (word.Punctuator mark.OpenBrace) = Some (mark.CloseBrace ∷ unclosed)
open_behind unclosed (word.Punctuator mark.CloseParenthesis) = open_without mark.CloseParenthesis unclosed
open_behind unclosed (word.Punctuator mark.CloseBracket) = open_without mark.CloseBracket unclosed
open_behind unclosed (word.Punctuator mark.CloseBrace) = open_without mark.CloseBrace unclosed
open_behind unclosed word.OpenAnnotation = None
open_behind unclosed word.CloseAnnotation = None
open_behind unclosed (word.AnnotationWord name) = None
open_behind unclosed w = Some unclosed

abbrev pub nothing_open : Open → Bool
nothing_open [] = true
nothing_open (innermost ∷ more) = false

abbrev pub balances_where : (Open → Bool) → Option Open → Bool
balances_where again None = false
balances_where again (Some unclosed) = again unclosed

-- each bracket among the words is closed by its own, where these are open before them
abbrev pub balances : Open → List Word → Bool
balances unclosed [] = nothing_open unclosed
balances unclosed (w ∷ more) = balances_where (λ left. balances left more) (open_behind unclosed w)

abbrev pub IsAttribute : CodeAttribute → Type 0
IsAttribute a = IsTrue (balances [] a.words)

abbrev pub AreAttributes : List CodeAttribute → Type 0
AreAttributes = AllByRecursion IsAttribute

-- a type qualifier (C11 6.7.3)
abbrev pub is_qualifier : Keyword → Bool
is_qualifier key.Const = true
is_qualifier key.Volatile = true
is_qualifier key.Restrict = true
is_qualifier key.Atomic = true
is_qualifier _ = false

-- a type specifier that is one word (C11 6.7.2)
abbrev pub is_type_word : Keyword → Bool
is_type_word key.Void = true
is_type_word key.Char = true
is_type_word key.Short = true
is_type_word key.Int = true
is_type_word key.Long = true
is_type_word key.Float = true
is_type_word key.Double = true
is_type_word key.Signed = true
is_type_word key.Unsigned = true
is_type_word key.Bool = true
is_type_word key.Complex = true
is_type_word key.BuiltinVaList = true
is_type_word _ = false

-- a storage class or function specifier (C11 6.7.1 and 6.7.4)
abbrev pub is_storage_word : Keyword → Bool
is_storage_word key.Typedef = true
is_storage_word key.Extern = true
is_storage_word key.Static = true
is_storage_word key.ThreadLocal = true
is_storage_word key.Auto = true
is_storage_word key.Register = true
is_storage_word key.Inline = true
is_storage_word key.Noreturn = true
is_storage_word _ = false

abbrev pub IsQualifier : Qualifier → Type 0
IsQualifier (qualifier.Keyword k) = IsTrue (is_qualifier k)
IsQualifier (qualifier.Attribute a) = IsAttribute a

abbrev pub IsPointer : Pointer → Type 0
IsPointer p = AllByRecursion IsQualifier p.qualifiers

-- what stands in the brackets of an array declarator before its bound (C11 6.7.6.2)
abbrev pub is_array_word : Keyword → Bool
is_array_word key.Static = true
is_array_word k = is_qualifier k

-- ---- type names

-- what specifiers and a declarator are for: a type name, whose declarator has no name (C11 6.7.7); a parameter, whose declarator may
-- have one (C11 6.7.6); or a member, whose declarator has one (C11 6.7.2.1)
pub data Purpose : Type 0 where
  ForType : Purpose
  ForParameter : Purpose
  ForName : Purpose

-- what stands before a specifier, among its own: no type specifier; one; or one whose closing brace is just before
pub data Before : Type 0 where
  Untyped : Before
  Typed : Before
  Braced : Before

-- another word or an attribute follows
abbrev pub still : Before → Before
still Untyped = Untyped
still Typed = Typed
still Braced = Typed

abbrev pub before_next : Before → Tree → Before
before_next before (Key span keyword) = cond (is_type_word keyword) Typed (still before)
before_next before (Attribute attribute) = still before
before_next before (Composite span sort attributes tag members trailing) = Braced
before_next before _ = Typed

abbrev pub before_end : Before → Trees → Before
before_end before Nil = before
before_end before (Next t more) = before_end (before_next before t) more

abbrev pub IsUntyped : Before → Type 0
IsUntyped Untyped = Unit {0}
IsUntyped _ = ⊥

-- an attribute directly behind a composite's closing brace belongs to the composite
abbrev pub IsUnbraced : Before → Type 0
IsUnbraced Braced = ⊥
IsUnbraced _ = Unit {0}

-- the specifiers of a type name have no storage class and are no function specifiers (C11 6.7.7 and 6.7.2.1)
abbrev pub may_specify : Purpose → Keyword → Bool
may_specify ForType k = is_qualifier k || is_type_word k
may_specify _ k = is_qualifier k || is_type_word k || is_storage_word k

-- A typedef name is declared as an ordinary name only behind a type specifier among its own specifiers; else it is that specifier.
abbrev pub IsDeclarable : Before → Bool → Type 0
IsDeclarable Untyped known = known ≡ false
IsDeclarable _ known = Unit {0}

-- the declarator begins with its name, and that is a typedef name
abbrev pub begins_typedef : Names → Tree → Bool
begins_typedef names (Declarator span [] (Declared place name) suffixes) = is_typedef names name
begins_typedef names _ = false

-- directly behind a `(` in a parameter's declarator a typedef name begins a parameter list (C11 6.7.6.3p11)
abbrev pub IsGroup : Purpose → Names → Tree → Type 0
IsGroup ForParameter names inner = begins_typedef names inner ≡ false
IsGroup _ names inner = Unit {0}

-- `...` stands behind a parameter (C11 6.7.6)
abbrev pub IsVariadic : Bool → Trees → Type 0
IsVariadic true parameters = AreThere parameters
IsVariadic false parameters = Unit {0}

-- ---- trees, where these names are declared

abbrev mutual
  pub IsExpr : Names → Tree → Type 0
  IsExpr names (Name span name) = is_typedef names name ≡ false
  IsExpr names (Integer span constant) = Unit {0}
  IsExpr names (Floating span) = Unit {0}
  IsExpr names (Character span byte) = Unit {0}
  IsExpr names (Text span literals) = IsText literals
  IsExpr names (Parenthesised span inner) = IsExpr names inner
  IsExpr names (Postfix span first parts) = IsFirst span 16 first × IsExpr names first × AreThere parts × AreParts (after names first) parts
  IsExpr names (Prefix span operator operand) = (level_behind operator ≤ level_of operand) × IsExpr names operand
  IsExpr names (OfType span operator type_name) = IsTypeName names type_name
  IsExpr names (Offsetof span type_name member) = IsTypeName names type_name
  IsExpr names (Cast span type_name operand) = IsTypeName names type_name × (13 ≤ level_of operand) × IsExpr (after names type_name) operand
  IsExpr names (Run span first more) =
      IsFirst span (suc (level_of_run more)) first × IsExpr names first × AreThere more × AreOperands (level_of_run more) (after names first) more
  IsExpr names (Conditional span condition when_true when_false) =
      IsFirst span 3 condition × IsExpr names condition × IsExpr (after names condition) when_true
      × (2 ≤ level_of when_false) × IsExpr (after (after names condition) when_true) when_false
  IsExpr names (Assignment span target operator value) =
      IsFirst span 14 target × IsExpr names target × (1 ≤ level_of value) × IsExpr (after names target) value
  IsExpr names (Comma span first more) = IsFirst span 1 first × IsExpr names first × AreThere more × AreExprs (after names first) more
  IsExpr names _ = ⊥

  -- arguments, or what stands behind the first comma: each has at least the level of an assignment (C11 6.5.2 and 6.5.17)
  pub AreExprs : Names → Trees → Type 0
  AreExprs names Nil = Unit {0}
  AreExprs names (Next t more) = (1 ≤ level_of t) × IsExpr names t × AreExprs (after names t) more

  -- an expression of at least this level, or none
  pub IsOptional : ℕ → Names → Trees → Type 0
  IsOptional level names Nil = Unit {0}
  IsOptional level names (Next t Nil) = (level ≤ level_of t) × IsExpr names t
  IsOptional level names (Next t (Next u more)) = ⊥

  pub AreParts : Names → Trees → Type 0
  AreParts names Nil = Unit {0}
  AreParts names (Next t more) = IsPart names t × AreParts (after names t) more

  pub IsPart : Names → Tree → Type 0
  IsPart names (Index index) = IsExpr names index
  IsPart names (Call opening arguments) = AreExprs names arguments
  IsPart names (Dot name) = Unit {0}
  IsPart names (Arrow name) = Unit {0}
  IsPart names Increment = Unit {0}
  IsPart names Decrement = Unit {0}
  IsPart names _ = ⊥

  -- the operators of a run are of its level, and its operands of tighter ones
  pub AreOperands : ℕ → Names → Trees → Type 0
  AreOperands level names Nil = Unit {0}
  AreOperands level names (Next t more) = IsOperand level names t × AreOperands level (after names t) more

  pub IsOperand : ℕ → Names → Tree → Type 0
  IsOperand level names (Operand operator operand) = (level_of_operator operator ≡ level) × (suc level ≤ level_of operand) × IsExpr names operand
  IsOperand level names _ = ⊥

  pub IsTypeName : Names → Tree → Type 0
  IsTypeName names (TypeName span specifiers declarator) =
      (first_place specifiers ≡ Some span) × AreSpecifiers ForType names Untyped specifiers
      × IsOptionalDeclarator ForType (after_all names specifiers) (before_end Untyped specifiers) declarator
  IsTypeName names _ = ⊥

  pub AreParameters : Names → Trees → Type 0
  AreParameters names Nil = Unit {0}
  AreParameters names (Next t more) = IsParameter names t × AreParameters (after_parameter names t) more

  pub IsParameter : Names → Tree → Type 0
  IsParameter names (TypeName span specifiers declarator) =
      (first_place specifiers ≡ Some span) × AreSpecifiers ForParameter names Untyped specifiers
      × IsOptionalDeclarator ForParameter (after_all names specifiers) (before_end Untyped specifiers) declarator
  IsParameter names _ = ⊥

  pub AreSpecifiers : Purpose → Names → Before → Trees → Type 0
  AreSpecifiers purpose names before Nil = Unit {0}
  AreSpecifiers purpose names before (Next t more) =
      IsSpecifier purpose names before t × AreSpecifiers purpose (after names t) (before_next before t) more

  pub IsSpecifier : Purpose → Names → Before → Tree → Type 0
  IsSpecifier purpose names before (Key span keyword) = IsTrue (may_specify purpose keyword)
  IsSpecifier purpose names before (Typedef span name) = IsUntyped before × (is_typedef names name ≡ true)
  IsSpecifier purpose names before (Attribute attribute) = IsUnbraced before × IsAttribute attribute
  IsSpecifier purpose names before (CompositeTag span sort attributes tag) = AreAttributes attributes
  IsSpecifier purpose names before (Composite span sort attributes tag members trailing) =
      AreAttributes attributes × AreMembers names members × AreAttributes trailing
  IsSpecifier purpose names before (EnumTag span tag) = Unit {0}
  IsSpecifier purpose names before (Enum span tag enumerators comma) = AreThere enumerators × AreEnumerators names enumerators
  IsSpecifier purpose names before _ = ⊥

  -- the value of an enumerator is a constant expression (C11 6.6)
  pub AreEnumerators : Names → Trees → Type 0
  AreEnumerators names Nil = Unit {0}
  AreEnumerators names (Next t more) = IsEnumerator names t × AreEnumerators (after names t) more

  pub IsEnumerator : Names → Tree → Type 0
  IsEnumerator names (Enumerator span name value) = IsOptional 2 names value
  IsEnumerator names _ = ⊥

  pub AreMembers : Names → Trees → Type 0
  AreMembers names Nil = Unit {0}
  AreMembers names (Next t more) = IsMember names t × AreMembers (after names t) more

  pub IsMember : Names → Tree → Type 0
  IsMember names (Fields span specifiers fields) =
      (first_place specifiers ≡ Some span) × AreSpecifiers ForName names Untyped specifiers
      × AreFields (after_all names specifiers) (before_end Untyped specifiers) fields
  IsMember names (Assertion span condition literals) = (2 ≤ level_of condition) × IsExpr names condition × IsText literals
  IsMember names _ = ⊥

  pub AreFields : Names → Before → Trees → Type 0
  AreFields names before Nil = Unit {0}
  AreFields names before (Next t more) = IsField names before t × AreFields (after names t) before more

  -- a width is a constant expression (C11 6.6)
  pub IsField : Names → Before → Tree → Type 0
  IsField names before (Field span declarator width attributes) =
      (place_of declarator ≡ Some span) × IsDeclarator ForName names before declarator
      × IsOptional 2 (after names declarator) width × AreAttributes attributes
  IsField names before (Padding span width) = (2 ≤ level_of width) × IsExpr names width
  IsField names before _ = ⊥

  pub IsOptionalDeclarator : Purpose → Names → Before → Trees → Type 0
  IsOptionalDeclarator purpose names before Nil = Unit {0}
  IsOptionalDeclarator purpose names before (Next t Nil) = IsDeclarator purpose names before t
  IsOptionalDeclarator purpose names before (Next t (Next u more)) = ⊥

  -- behind specifiers of which `before` says whether a type specifier is among them
  pub IsDeclarator : Purpose → Names → Before → Tree → Type 0
  IsDeclarator purpose names before (Declarator span pointers core suffixes) =
      (place_of_declarator pointers core suffixes ≡ Some span) × AllByRecursion IsPointer pointers
      × IsCore purpose names before core × AreSuffixes (after names core) suffixes
  IsDeclarator purpose names before _ = ⊥

  pub IsCore : Purpose → Names → Before → Tree → Type 0
  IsCore ForName names before Absent = ⊥
  IsCore purpose names before Absent = Unit {0}
  IsCore ForType names before (Declared span name) = ⊥
  IsCore purpose names before (Declared span name) = IsDeclarable before (is_typedef names name)
  IsCore purpose names before (Group span inner) = IsGroup purpose names inner × IsDeclarator purpose names before inner
  IsCore purpose names before _ = ⊥

  pub AreSuffixes : Names → Trees → Type 0
  AreSuffixes names Nil = Unit {0}
  AreSuffixes names (Next t more) = IsSuffix names t × AreSuffixes (after names t) more

  -- an array's bound has at least the level of an assignment (C11 6.7.6.2)
  pub IsSuffix : Names → Tree → Type 0
  IsSuffix names (Array span qualifiers bound) = AllByRecursion (λ (k : Keyword). IsTrue (is_array_word k)) qualifiers × IsOptional 1 names bound
  IsSuffix names (Function span parameters variadic) = IsVariadic variadic parameters × AreParameters names parameters
  IsSuffix names _ = ⊥

-- An expression where these names are declared, of at least this level, and at most so many nodes deep. An expression by itself has
-- level 0; a constant expression (C11 6.6) has level 2.
pub record IsWithin (names : Names) (least depth : ℕ) (t : Tree) : Type 0 where
  pub shape : IsExpr names t
  pub tight : least ≤ level_of t
  pub shallow : nest t ≤ depth
