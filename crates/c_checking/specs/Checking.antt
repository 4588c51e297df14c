-- The typed form of a tree, or the first fault: each rule stands behind the parts that it asks for. What type names declare is in scope from
-- there on, so that what is declared goes from part to part, in the order in which they are written (C11 6.2.1p7).
use Rattle.std.specs.Prelude.{ℕ, zero, suc, ◌+◌, ◌==◌, ◌&&◌, ◌||◌, ◌++◌, Bool, true, false, cond, not, ℤ, pos, negsuc, int_le, int_lt, List, [], ◌∷◌, length, map, Option, None, Some, Result, Ok, Err, unsigned_abs}
use Rattle.c_base.specs.declared.integer.IntKind.{IntKind}
use Rattle.c_base.specs.declared.integer.IntKind.TheVariants as kind
use Rattle.c_base.specs.declared.number.Span.{Span}
use Rattle.c_base.specs.declared.token.Keyword.{Keyword}
use Rattle.c_base.specs.Integers.{number_in}
use Rattle.c_base.specs.Operators.{is_zero}
use Rattle.c_types.specs.Sizes.{offset}
use Rattle.c_typed_expr.specs.Trees as typed_tree
use Rattle.c_typed_expr.specs.Trees.{Exprs, NoExpr, NextExpr}
use Rattle.c_conversions.specs.Kinds.{kind_of_constant}
use Rattle.c_tree.specs.Trees.{Tree, Name, Integer, Floating, Character, Text, Parenthesised, Postfix, Prefix, OfType, Offsetof, Cast, Run, Conditional, Assignment, Comma, Index, Call, Dot, Arrow, Increment, Decrement, Operand as RightOperand, TypeName, Key, Typedef, Attribute, CompositeTag, Composite as Braces, EnumTag, Enum, Enumerator, Fields, Assertion, Field, Padding, Declarator, Absent, Declared, Group, Array as Bounds, Function as Parameters, Trees, Nil, Next}
use Rattle.c_checking.specs.Faults.{Fault, Profile, fault, ◌>>=◌}
use Rattle.c_checking.specs.Qualified.{QType, QTypes, Nil as NoType, Next as NextType, Void, Integer as IntegerType, Array, Composite, Function, Qualified, Q, type_in, plain, is_void}
use Rattle.c_checking.specs.Constants.{Known, Varying, Constant, Undefined, known}
use Rattle.c_checking.specs.Scopes.{Scopes, Checked, with, Named, Meaning, Object, Constant as ConstantName, TypeName as TypeNamed, newest, entered, left, with_name, declared_once, is_declared_here, with_text, with_site, is_complete, body_of, member_of, Path, erased_body}
use Rattle.c_checking.specs.Operands.{Value, Place, Operand, Of, At, value, place, at_of, begun, valued, tested, modifiable}
use Rattle.c_checking.specs.Operators.{int, prefixed, asked, cast, left_operand, joined, conditional, operator_of, assigned, behind_comma, stepped}
use Rattle.c_checking.specs.Parts.{indexed, subscript, dot, arrow, called, gives, takes, first_of, behind_first, passed_to, call}
use Rattle.c_checking.specs.Specifiers.{Named as NamedType, ByWords, ByOther, named_type, any_key, is_storage_class, is_register, is_of_function, with_qualifiers, Layer, ArrayOf, FunctionOf, stars, declared_as, parameter_as}
use Rattle.c_checking.specs.Bodies.{by_tag, enum_tag, opened, Contents, nothing, member_added, nameless, closed_body, enum_opened, enum_closed, enumerator, next_number}

-- ---- names and constants (C11 6.5.1)

-- rule 1
abbrev pub named_as : Span → Option Named → Result Operand Fault
named_as at None = fault 1 at
named_as at (Some n) = meant n.meaning
  where
    meant : Meaning → Result Operand Fault
    meant (Object base q) = Ok (At (place at q (typed_tree.Variable base) 1))
    meant (ConstantName n) = Ok (Of (value at int (typed_tree.Number kind.Int n) 1))
    meant (TypeNamed q) = fault 1 at

-- rule 11 (C11 6.4.4.1p6)
abbrev pub constant_as : Span → ℕ → Option IntKind → Result Operand Fault
constant_as at n None = fault 11 at
constant_as at n (Some k) = Ok (Of (value at (IntegerType k) (typed_tree.Number k (pos n)) 1))

-- a character constant is an int, with the number of its char (C11 6.4.4.4p10)
abbrev pub character : Scopes → Span → ℕ → Operand
character s at byte = Of (value at int (typed_tree.Number kind.Int (number_in kind.Char s.machine byte)) 1)

-- neighbouring string literals are one (C11 5.1.1.2p1)
abbrev pub joined_bytes : List (List ℕ) → List ℕ
joined_bytes [] = []
joined_bytes (bytes ∷ more) = bytes ++ joined_bytes more

-- an array of char, with a zero byte at its end (C11 6.4.5p6)
abbrev pub text : Scopes → Span → List ℕ → Operand
text s at bytes = At (place at (plain (Array (plain (IntegerType kind.Char)) (suc (length bytes)))) (typed_tree.Variable s.next_base) 1)

-- ---- constant expressions (C11 6.6)

-- rule 9
abbrev pub number_as : Span → Known → Result ℤ Fault
number_as at (Constant n) = Ok n
number_as at _ = fault 9 at

abbrev pub needed_as : Scopes → Value → QType → Result ℤ Fault
needed_as s v (IntegerType k) = number_as v.at (known s.machine v.tree)
needed_as s v _ = fault 9 v.at

-- the number of an integer constant expression
abbrev pub needed : Scopes → Operand → Result (Span × ℤ) Fault
needed s x = do
  v ← valued s x
  n ← needed_as s v v.qtype
  Ok (v.at, n)

-- rule 7: an array has elements (C11 6.7.6.2p1)
abbrev pub positive : Span × ℤ → Result ℕ Fault
positive n = cond (int_lt (pos 0) n.1) (Ok (unsigned_abs n.1)) (fault 7 n.0)

-- rule 10 (C11 6.7.10p2)
abbrev pub holds : Span → ℤ → Scopes → Result Scopes Fault
holds at n s = cond (is_zero n) (fault 10 at) (Ok s)

-- ---- offsets of members (C11 7.19p3)

abbrev pub offset_along : Scopes → List (ℕ × ℕ) → ℕ
offset_along s [] = 0
offset_along s (step ∷ more) = offset (map erased_body s.bodies) s.machine step.0 step.1 + offset_along s more

-- rule 23
abbrev pub offset_to : Scopes → Span → Option Path → Result Operand Fault
offset_to s at None = fault 23 at
offset_to s at (Some p) = Ok (Of (value at (IntegerType kind.ULong) (typed_tree.Number kind.ULong (pos (offset_along s p.steps))) 1))

-- rule 5 where the struct or union isn't complete
abbrev pub offset_of : Scopes → Span → List ℕ → QType → Result Operand Fault
offset_of s at name (Composite number) = cond (is_complete s (Composite number)) (offset_to s at (member_of s number name)) (fault 5 at)
offset_of s at name _ = fault 23 at

-- ---- specifiers

-- rule 4
abbrev pub is_named : Span → Option NamedType → Result NamedType Fault
is_named at None = fault 4 at
is_named at (Some n) = Ok n

-- what the words of a list name; what its other specifier names takes its place
abbrev pub begun_with : NamedType → Qualified
begun_with (ByWords t) = plain t
begun_with ByOther = plain Void

abbrev pub typedef_as : Span → Option Named → Result Qualified Fault
typedef_as at None = fault 1 at
typedef_as at (Some n) = meant n.meaning
  where
    meant : Meaning → Result Qualified Fault
    meant (TypeNamed q) = Ok q
    meant (Object base q) = fault 1 at
    meant (ConstantName n) = fault 1 at

-- rule 4: members have no storage class (C11 6.7.2.1p1)
abbrev pub is_plain_word : Span → Trees → Result Trees Fault
is_plain_word at all = cond (any_key is_storage_class all || any_key is_of_function all) (fault 4 at) (Ok all)

-- rule 35: parameters have none but `register` (C11 6.7.6.3p2)
abbrev pub is_forbidden : Keyword → Bool
is_forbidden k = is_of_function k || (is_storage_class k && not (is_register k))

abbrev pub is_parameter_word : Span → Trees → Result Trees Fault
is_parameter_word at all = cond (any_key is_forbidden all) (fault 35 at) (Ok all)

-- ---- parameters

-- a parameter's type, and how it is named
pub record Parameter : Type 0 where
  pub qualified : Qualified
  pub name : Option (List ℕ)
  pub at : Span

abbrev pub named_by : Tree → Option (List ℕ)
named_by (Declarator at pointers core suffixes) = named_by core
named_by (Declared at name) = Some name
named_by (Group at inner) = named_by inner
named_by _ = None

abbrev pub name_of : Trees → Option (List ℕ)
name_of Nil = None
name_of (Next t more) = named_by t

-- the place of a declarator that is there
abbrev pub place_or : Span → Trees → Span
place_or at (Next (Declarator start pointers core suffixes) more) = start
place_or at _ = at

abbrev pub is_none : Trees → Bool
is_none Nil = true
is_none _ = false

-- `void` alone stands for no parameters (C11 6.7.6.3p10)
abbrev pub stands_for_none : Bool → Trees → Qualified → Bool
stands_for_none alone declarator (Q false false Void) = alone && is_none declarator
stands_for_none alone declarator _ = false

-- A parameter's name is known behind its declarator, up to the end of its list (C11 6.2.1p4). It has no number of its own: it is of use for its
-- type alone.
abbrev pub with_parameter : Span → Option (List ℕ) → Qualified → Scopes → Result Scopes Fault
with_parameter at None q s = Ok s
with_parameter at (Some name) q s = declared_once at name (Object s.next_base q) s

-- rule 5: no parameter is of type void
abbrev pub parameter_added : Bool → Span → Trees → Qualified → Scopes → Checked (Option QType)
parameter_added alone at declarator q s =
    cond (stands_for_none alone declarator q) (Ok (None, s))
    (cond (is_void (type_in q)) (fault 5 at) (do
      t ← with_parameter (place_or at declarator) (name_of declarator) q s
      Ok (Some (type_in q), t)))

abbrev pub with_first : Option QType → QTypes → QTypes
with_first None ts = ts
with_first (Some t) ts = NextType t ts

abbrev pub is_alone : Trees → Bool
is_alone (Next t Nil) = true
is_alone _ = false

abbrev pub count_of : Trees → ℕ
count_of Nil = 0
count_of (Next t more) = suc (count_of more)

-- ---- members

abbrev pub name_or : Option (List ℕ) → List ℕ
name_or None = []
name_or (Some name) = name

-- rule 2 of an enumerator, before its value is looked at
abbrev pub is_free : Span → List ℕ → Scopes → Result Scopes Fault
is_free at name s = cond (is_declared_here s name) (fault 2 at) (Ok s)

abbrev pub nowhere : Span
nowhere = record { line = 0; col = 0 }

-- ---- trees

abbrev mutual
  pub typed : Tree → Scopes → Checked Operand
  typed (Name at name) s = with s (named_as at (newest s.names name))
  typed (Integer at c) s = with s (constant_as at c.value (kind_of_constant s.machine c))
  typed (Floating at) s = Err (Profile 1 at)
  typed (Character at byte) s = Ok (character s at byte, s)
  typed (Text at literals) s = Ok (text s at (joined_bytes literals), with_text (joined_bytes literals) s)
  typed (Parenthesised at inner) s = do
    r ← typed inner s
    Ok (begun at r.0, r.1)
  typed (Postfix at first parts) s = do
    r ← typed first s
    behind r.0 parts r.1
  typed (Prefix at operator operand) s = do
    r ← typed operand s
    with r.1 (prefixed r.1 operator at r.0)
  typed (OfType at operator type_name) s = do
    t ← type_named type_name s
    with t.1 (asked t.1 operator at (type_in t.0))
  typed (Offsetof at type_name wanted) s = do
    t ← type_named type_name s
    with t.1 (offset_of t.1 at wanted (type_in t.0))
  typed (Cast at type_name operand) s = do
    t ← type_named type_name s
    r ← typed operand t.1
    v ← valued r.1 r.0
    with r.1 (cast at (type_in t.0) v)
  typed (Run at first more) s = do
    r ← typed first s
    v ← valued r.1 r.0
    q ← run v more r.1
    Ok (Of q.0, q.1)
  typed (Conditional at condition when_true when_false) s = do
    r ← typed condition s
    c ← valued r.1 r.0
    e ← tested c
    p ← typed when_true r.1
    v ← valued p.1 p.0
    q ← typed when_false p.1
    w ← valued q.1 q.0
    with q.1 (conditional q.1 at e c.nodes v w)
  typed (Assignment at target operator source) s = do
    r ← typed target s
    p ← modifiable r.1 18 at r.0
    q ← typed source r.1
    v ← valued q.1 q.0
    with q.1 (assigned q.1 at (operator_of operator) p v)
  typed (Comma at first more) s = do
    r ← typed first s
    v ← valued r.1 r.0
    q ← commas v more r.1
    Ok (Of q.0, q.1)
  typed _ s = fault 0 nowhere

  -- operators of one level, which group from the left
  pub run : Value → Trees → Scopes → Checked Value
  run v Nil s = Ok (v, s)
  run v (Next t more) s = do
    r ← right v t s
    run r.0 more r.1

  -- an operator and the operand on its right
  pub right : Value → Tree → Scopes → Checked Value
  right v (RightOperand operator operand) s = do
    l ← left_operand operator v
    r ← typed operand s
    w ← valued r.1 r.0
    with r.1 (joined r.1 operator l w)
  right v _ s = fault 0 v.at

  -- what is discarded, and what follows
  pub commas : Value → Trees → Scopes → Checked Value
  commas v Nil s = Ok (v, s)
  commas v (Next t more) s = do
    r ← typed t s
    w ← valued r.1 r.0
    q ← commas w more r.1
    Ok (behind_comma v q.0, q.1)

  -- what stands behind an operand
  pub behind : Operand → Trees → Scopes → Checked Operand
  behind x Nil s = Ok (x, s)
  behind x (Next t more) s = do
    r ← part x t s
    behind r.0 more r.1

  pub part : Operand → Tree → Scopes → Checked Operand
  part x (Index index) s = do
    i ← indexed s x
    r ← typed index s
    j ← indexed r.1 r.0
    with r.1 (subscript r.1 i j)
  part x (Call opening arguments) s = do
    c ← called s x
    d ← gives s c
    e ← takes d (count_of arguments)
    q ← passed e.parameters arguments (with_site s)
    Ok (call e s.next_site q.0.0 q.0.1, q.1)
  part x (Dot name) s = with s (dot s name x)
  part x (Arrow name) s = with s (arrow s name x)
  part x Increment s = with s (stepped s (at_of x) true true x)
  part x Decrement s = with s (stepped s (at_of x) false true x)
  part x _ s = fault 0 (at_of x)

  -- arguments, and how many nodes they have
  pub passed : QTypes → Trees → Scopes → Checked (Exprs × ℕ)
  passed params Nil s = Ok ((NoExpr, 0), s)
  passed params (Next t more) s = do
    r ← typed t s
    v ← valued r.1 r.0
    e ← passed_to r.1 (first_of params) v
    q ← passed (behind_first params) more r.1
    Ok ((NextExpr e q.0.0, v.nodes + q.0.1), q.1)

  -- ---- type names (C11 6.7.7)

  pub type_named : Tree → Scopes → Checked Qualified
  type_named (TypeName at specifiers declarator) s = do
    n ← is_named at (named_type specifiers)
    q ← specified_by (begun_with n) specifiers s
    l ← shaped_any declarator q.1
    with l.1 (declared_as l.1 l.0 (with_qualifiers specifiers q.0))
  type_named _ s = fault 0 nowhere

  -- what a list of specifiers names, specifier by specifier
  pub specified_by : Qualified → Trees → Scopes → Checked Qualified
  specified_by q Nil s = Ok (q, s)
  specified_by q (Next t more) s = do
    r ← specifier q t s
    specified_by r.0 more r.1

  pub specifier : Qualified → Tree → Scopes → Checked Qualified
  specifier q (Typedef at name) s = with s (typedef_as at (newest s.names name))
  specifier q (CompositeTag at sort attributes tag) s = by_tag at sort tag s
  specifier q (Braces at sort attributes tag all trailing) s = do
    o ← opened at sort tag s
    c ← members o.0 nothing all o.1
    closed_body at sort o.0 c.0 c.1
  specifier q (EnumTag at tag) s = with s (enum_tag at tag s)
  specifier q (Enum at tag all comma) s = do
    o ← enum_opened at tag s
    e ← enumerators (pos 0) all o
    Ok (plain int, enum_closed tag e)
  specifier q _ s = Ok (q, s)

  -- what stands in the braces of a struct or union
  pub members : ℕ → Contents → Trees → Scopes → Checked Contents
  members number c Nil s = Ok (c, s)
  members number c (Next t more) s = do
    r ← member number c t s
    members number r.0 more r.1

  pub member : ℕ → Contents → Tree → Scopes → Checked Contents
  member number c (Fields at specifiers all) s = do
    n ← is_named at (named_type specifiers)
    w ← is_plain_word at specifiers
    q ← specified_by (begun_with n) specifiers s
    fields_or number c at specifiers (with_qualifiers specifiers q.0) all q.1
  member number c (Assertion at condition literals) s = do
    r ← typed condition s
    n ← needed r.1 r.0
    t ← holds at n.1 r.1
    Ok (c, t)
  member number c _ s = fault 0 nowhere

  pub fields_or : ℕ → Contents → Span → Trees → Qualified → Trees → Scopes → Checked Contents
  fields_or number c at specifiers q Nil s = with s (nameless s number at specifiers q c)
  fields_or number c at specifiers q (Next t more) s = do
    r ← field number c q t s
    fields number r.0 q more r.1

  pub fields : ℕ → Contents → Qualified → Trees → Scopes → Checked Contents
  fields number c q Nil s = Ok (c, s)
  fields number c q (Next t more) s = do
    r ← field number c q t s
    fields number r.0 q more r.1

  pub field : ℕ → Contents → Qualified → Tree → Scopes → Checked Contents
  field number c q (Field at declarator width attributes) s = do
    l ← shaped declarator s
    t ← declared_as l.1 l.0 q
    with l.1 (member_added l.1 number at (name_or (named_by declarator)) t c)
  field number c q _ s = fault 0 nowhere

  -- enumerators, each one more than the one before it where it has no value of its own (C11 6.7.2.2p3)
  pub enumerators : ℤ → Trees → Scopes → Result Scopes Fault
  enumerators n Nil s = Ok s
  enumerators n (Next t more) s = do
    r ← enumerated n t s
    enumerators (next_number r.0) more r.1

  pub enumerated : ℤ → Tree → Scopes → Checked ℤ
  enumerated n (Enumerator at name values) s = do
    f ← is_free at name s
    r ← value_or n values f
    t ← enumerator at name r.0 r.1
    Ok (r.0, t)
  enumerated n _ s = fault 0 nowhere

  pub value_or : ℤ → Trees → Scopes → Checked ℤ
  value_or n Nil s = Ok (n, s)
  value_or n (Next t more) s = do
    r ← typed t s
    m ← needed r.1 r.0
    Ok (m.1, r.1)

  -- ---- declarators (C11 6.7.6)

  pub shaped_any : Trees → Scopes → Checked (List Layer)
  shaped_any Nil s = Ok ([], s)
  shaped_any (Next t more) s = shaped t s

  -- the layers of a declarator, from its name outwards
  pub shaped : Tree → Scopes → Checked (List Layer)
  shaped (Declarator at pointers core suffixes) s = do
    i ← shaped core s
    o ← suffixed suffixes i.1
    Ok (i.0 ++ (o.0 ++ stars pointers), o.1)
  shaped (Group at inner) s = shaped inner s
  shaped _ s = Ok ([], s)

  pub suffixed : Trees → Scopes → Checked (List Layer)
  suffixed Nil s = Ok ([], s)
  suffixed (Next t more) s = do
    l ← suffix t s
    r ← suffixed more l.1
    Ok (l.0 ∷ r.0, r.1)

  pub suffix : Tree → Scopes → Checked Layer
  suffix (Bounds at words bound) s = do
    b ← bounded bound s
    Ok (ArrayOf at b.0 words, b.1)
  suffix (Parameters at all variadic) s = do
    ps ← parameters (is_alone all) all (entered s)
    Ok (FunctionOf at ps.0 variadic, left s ps.1)
  suffix _ s = fault 0 nowhere

  pub bounded : Trees → Scopes → Checked (Option ℕ)
  bounded Nil s = Ok (None, s)
  bounded (Next t more) s = do
    r ← typed t s
    n ← needed r.1 r.0
    m ← positive n
    Ok (Some m, r.1)

  pub parameters : Bool → Trees → Scopes → Checked QTypes
  parameters alone Nil s = Ok (NoType, s)
  parameters alone (Next t more) s = do
    p ← parameter alone t s
    r ← parameters alone more p.1
    Ok (with_first p.0 r.0, r.1)

  pub parameter : Bool → Tree → Scopes → Checked (Option QType)
  parameter alone (TypeName at specifiers declarator) s = do
    n ← is_named at (named_type specifiers)
    w ← is_parameter_word at specifiers
    q ← specified_by (begun_with n) specifiers s
    l ← shaped_any declarator q.1
    t ← parameter_as l.1 l.0 (with_qualifiers specifiers q.0)
    parameter_added alone at declarator t l.1
  parameter alone _ s = fault 0 nowhere
