-- How many nodes the longest path into a tree has. A run of operators, a run of postfix parts and a list with commas are one node each;
-- lists of arguments, parameters, fields and enumerators are part of the node that has them.
use Rattle.std.specs.Prelude.{ℕ, suc, ◌+◌, max, length}
use Rattle.c_tree.specs.Trees.{Tree, Name, Integer, Floating, Character, Text, Parenthesised, Postfix, Prefix, OfType, Offsetof, Cast, Run, Conditional, Assignment, Comma, Index, Call, Dot, Arrow, Increment, Decrement, Operand, TypeName, Key, Typedef, Attribute, CompositeTag, Composite, EnumTag, Enum, Enumerator, Fields, Assertion, Field, Padding, Declarator, Absent, Declared, Group, Array, Function, Trees, Nil, Next}

-- A declarator in parentheses is the node of these: what stands in them counts as part of it, and what is behind them as below it.
abbrev pub nodes_of_core : Tree → ℕ
nodes_of_core (Group span inner) = 1
nodes_of_core _ = 0

abbrev mutual
  -- What is part of a node counts only what stands in it: operands, postfix parts, keywords, names, enumerators and fields.
  pub nest : Tree → ℕ
  nest (Name span name) = 1
  nest (Integer span constant) = 1
  nest (Floating span) = 1
  nest (Character span byte) = 1
  nest (Text span literals) = 1
  nest (Parenthesised span inner) = suc (nest inner)
  nest (Postfix span first parts) = suc (max (nest first) (nest_all parts))
  nest (Prefix span operator operand) = suc (nest operand)
  nest (OfType span operator type_name) = suc (nest type_name)
  nest (Offsetof span type_name member) = suc (nest type_name)
  nest (Cast span type_name operand) = suc (max (nest type_name) (nest operand))
  nest (Run span first more) = suc (max (nest first) (nest_all more))
  nest (Conditional span condition when_true when_false) = suc (max (nest condition) (max (nest when_true) (nest when_false)))
  nest (Assignment span target operator value) = suc (max (nest target) (nest value))
  nest (Comma span first more) = suc (max (nest first) (nest_all more))
  nest (Index index) = nest index
  nest (Call opening arguments) = nest_all arguments
  nest (Dot name) = 0
  nest (Arrow name) = 0
  nest Increment = 0
  nest Decrement = 0
  nest (Operand operator operand) = nest operand
  nest (TypeName span specifiers declarator) = suc (max (nest_all specifiers) (nest_all declarator))
  nest (Key span keyword) = 0
  nest (Typedef span name) = 0
  nest (Attribute attribute) = 0
  nest (CompositeTag span sort attributes tag) = 1
  nest (Composite span sort attributes tag members trailing) = suc (nest_all members)
  nest (EnumTag span tag) = 1
  nest (Enum span tag enumerators comma) = suc (nest_all enumerators)
  nest (Enumerator span name value) = nest_all value
  nest (Fields span specifiers fields) = suc (max (nest_all specifiers) (nest_all fields))
  nest (Assertion span condition literals) = suc (nest condition)
  nest (Field span declarator width attributes) = max (nest declarator) (nest_all width)
  nest (Padding span width) = nest width
  nest (Declarator span pointers core suffixes) = suc (length pointers + max (nest core) (nodes_of_core core + nest_below suffixes))
  nest Absent = 0
  nest (Declared span name) = 0
  nest (Group span inner) = nest inner
  nest (Array span qualifiers bound) = nest_all bound
  nest (Function span parameters variadic) = nest_all parameters

  -- the deepest of some trees side by side
  pub nest_all : Trees → ℕ
  nest_all Nil = 0
  nest_all (Next t more) = max (nest t) (nest_all more)

  -- suffixes of a declarator: each is a node, and the next is below it
  pub nest_below : Trees → ℕ
  nest_below Nil = 0
  nest_below (Next t more) = suc (max (nest t) (nest_below more))
