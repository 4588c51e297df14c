-- The trees of expressions and of what type names reach, as plain trees. An optional part is a list of at most one.
use Rattle.std.specs.Prelude.{ℕ, Bool, List, Option}
use Rattle.c_base.specs.declared.number.Span.{Span}
use Rattle.c_base.specs.declared.token.IntegerConstant.{IntegerConstant}
use Rattle.c_base.specs.declared.token.Keyword.{Keyword}
use Rattle.c_tree.specs.declared.operator.AssignmentOperator.{AssignmentOperator}
use Rattle.c_tree.specs.declared.operator.BinaryOperator.{BinaryOperator}
use Rattle.c_tree.specs.declared.operator.PrefixOperator.{PrefixOperator}
use Rattle.c_tree.specs.declared.operator.TypeOperator.{TypeOperator}
use Rattle.c_tree.specs.declared.tree.Attribute.{Attribute as CodeAttribute}
use Rattle.c_tree.specs.declared.tree.CompositeSort.{CompositeSort}
use Rattle.c_tree.specs.declared.tree.Pointer.{Pointer}

mutual
  pub data Tree : Type 0 where
    -- expressions (C11 6.5)
    Name : Span → List ℕ → Tree
    Integer : Span → IntegerConstant → Tree
    Floating : Span → Tree
    Character : Span → ℕ → Tree
    Text : Span → List (List ℕ) → Tree
    Parenthesised : Span → Tree → Tree
    Postfix : Span → Tree → Trees → Tree
    Prefix : Span → PrefixOperator → Tree → Tree
    OfType : Span → TypeOperator → Tree → Tree
    Offsetof : Span → Tree → List ℕ → Tree
    Cast : Span → Tree → Tree → Tree
    Run : Span → Tree → Trees → Tree
    Conditional : Span → Tree → Tree → Tree → Tree
    Assignment : Span → Tree → AssignmentOperator → Tree → Tree
    Comma : Span → Tree → Trees → Tree
    -- what stands behind an operand (C11 6.5.2)
    Index : Tree → Tree
    Call : Span → Trees → Tree
    Dot : List ℕ → Tree
    Arrow : List ℕ → Tree
    Increment : Tree
    Decrement : Tree
    -- an operator of a run and the operand on its right
    Operand : BinaryOperator → Tree → Tree
    -- a type name or parameter: its specifiers and its declarator (C11 6.7.6 and 6.7.7)
    TypeName : Span → Trees → Trees → Tree
    -- specifiers (C11 6.7.1 to 6.7.4)
    Key : Span → Keyword → Tree
    Typedef : Span → List ℕ → Tree
    Attribute : CodeAttribute → Tree
    CompositeTag : Span → CompositeSort → List CodeAttribute → List ℕ → Tree
    Composite : Span → CompositeSort → List CodeAttribute → Option (List ℕ) → Trees → List CodeAttribute → Tree
    EnumTag : Span → List ℕ → Tree
    Enum : Span → Option (List ℕ) → Trees → Bool → Tree
    Enumerator : Span → List ℕ → Trees → Tree
    -- what stands in the braces of a struct or union (C11 6.7.2.1): specifiers and fields, or an assertion
    Fields : Span → Trees → Trees → Tree
    Assertion : Span → Tree → List (List ℕ) → Tree
    -- a member or bit-field: its declarator, its width and its attributes; and a bit-field without a name
    Field : Span → Tree → Trees → List CodeAttribute → Tree
    Padding : Span → Tree → Tree
    -- a declarator (C11 6.7.6), what it stands around, and what follows that
    Declarator : Span → List Pointer → Tree → Trees → Tree
    Absent : Tree
    Declared : Span → List ℕ → Tree
    Group : Span → Tree → Tree
    Array : Span → List Keyword → Trees → Tree
    Function : Span → Trees → Bool → Tree

  pub data Trees : Type 0 where
    Nil : Trees
    Next : Tree → Trees → Trees
