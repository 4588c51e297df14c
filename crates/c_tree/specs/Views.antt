-- The plain trees that the code's trees stand for.
use Rattle.std.specs.Prelude.{List, [], ◌∷◌, map, option_map, Option, None, Some}
use Rattle.c_tree.specs.Trees as plain
use Rattle.c_tree.specs.Trees.{Tree, Trees, Nil, Next}
use Rattle.c_tree.specs.declared.tree.Core.{Core, fold-Core}
use Rattle.c_tree.specs.declared.tree.Core.TheOpen.{Core-F, Expr-F, Field-F, Member-F, PostfixPart-F, Specifier-F, Suffix-F, Declarator-F, Enumerator-F, Operand-F, TypeName-F}
use Rattle.c_tree.specs.declared.tree.Declarator.{Declarator, fold-Declarator}
use Rattle.c_tree.specs.declared.tree.Enumerator.{Enumerator, fold-Enumerator}
use Rattle.c_tree.specs.declared.tree.Expr.{Expr, fold-Expr}
use Rattle.c_tree.specs.declared.tree.Field.{Field, fold-Field}
use Rattle.c_tree.specs.declared.tree.Member.{Member, fold-Member}
use Rattle.c_tree.specs.declared.tree.Operand.{Operand, fold-Operand}
use Rattle.c_tree.specs.declared.tree.PostfixPart.{PostfixPart, fold-PostfixPart}
use Rattle.c_tree.specs.declared.tree.Specifier.{Specifier, fold-Specifier}
use Rattle.c_tree.specs.declared.tree.Suffix.{Suffix, fold-Suffix}
use Rattle.c_tree.specs.declared.tree.TypeName.{TypeName, fold-TypeName}

abbrev pub listed : List Tree → Trees
listed [] = Nil
listed (t ∷ more) = Next t (listed more)

abbrev pub optional : Option Tree → Trees
optional None = Nil
optional (Some t) = Next t Nil

-- one level of each type, with what is below it already seen as its tree
abbrev pub expr_step : Expr-F Tree Tree Tree Tree Tree Tree Tree Tree Tree Tree Tree → Tree
expr_step (Expr-F.Name span name) = plain.Name span name
expr_step (Expr-F.Integer span constant) = plain.Integer span constant
expr_step (Expr-F.Floating span) = plain.Floating span
expr_step (Expr-F.Character span byte) = plain.Character span byte
expr_step (Expr-F.Text span literals) = plain.Text span literals
expr_step (Expr-F.Parenthesised span inner) = plain.Parenthesised span inner
expr_step (Expr-F.Postfix span first parts) = plain.Postfix span first (listed parts)
expr_step (Expr-F.Prefix span operator operand) = plain.Prefix span operator operand
expr_step (Expr-F.OfType span operator type_name) = plain.OfType span operator type_name
expr_step (Expr-F.Offsetof span type_name member) = plain.Offsetof span type_name member
expr_step (Expr-F.Cast span type_name operand) = plain.Cast span type_name operand
expr_step (Expr-F.Run span first more) = plain.Run span first (listed more)
expr_step (Expr-F.Conditional span condition when_true when_false) = plain.Conditional span condition when_true when_false
expr_step (Expr-F.Assignment span target operator value) = plain.Assignment span target operator value
expr_step (Expr-F.Comma span first more) = plain.Comma span first (listed more)

abbrev pub part_step : PostfixPart-F Tree Tree Tree Tree Tree Tree Tree Tree Tree Tree Tree → Tree
part_step (PostfixPart-F.Index index) = plain.Index index
part_step (PostfixPart-F.Call opening arguments) = plain.Call opening (listed arguments)
part_step (PostfixPart-F.Member name) = plain.Dot name
part_step (PostfixPart-F.Arrow name) = plain.Arrow name
part_step PostfixPart-F.Increment = plain.Increment
part_step PostfixPart-F.Decrement = plain.Decrement

abbrev pub operand_step : Operand-F Tree Tree Tree Tree Tree Tree Tree Tree Tree Tree Tree → Tree
operand_step o = plain.Operand o.operator o.operand

abbrev pub type_name_step : TypeName-F Tree Tree Tree Tree Tree Tree Tree Tree Tree Tree Tree → Tree
type_name_step t = plain.TypeName t.span (listed t.specifiers) (optional t.declarator)

abbrev pub specifier_step : Specifier-F Tree Tree Tree Tree Tree Tree Tree Tree Tree Tree Tree → Tree
specifier_step (Specifier-F.Keyword span keyword) = plain.Key span keyword
specifier_step (Specifier-F.Typedef span name) = plain.Typedef span name
specifier_step (Specifier-F.Attribute attribute) = plain.Attribute attribute
specifier_step (Specifier-F.CompositeTag span sort attributes tag) = plain.CompositeTag span sort attributes tag
specifier_step (Specifier-F.Composite span sort attributes tag members trailing) = plain.Composite span sort attributes tag (listed members) trailing
specifier_step (Specifier-F.EnumTag span tag) = plain.EnumTag span tag
specifier_step (Specifier-F.Enum span tag enumerators comma) = plain.Enum span tag (listed enumerators) comma

abbrev pub enumerator_step : Enumerator-F Tree Tree Tree Tree Tree Tree Tree Tree Tree Tree Tree → Tree
enumerator_step e = plain.Enumerator e.span e.name (optional e.value)

abbrev pub member_step : Member-F Tree Tree Tree Tree Tree Tree Tree Tree Tree Tree Tree → Tree
member_step (Member-F.Fields span specifiers fields) = plain.Fields span (listed specifiers) (listed fields)
member_step (Member-F.Assertion span condition literals) = plain.Assertion span condition literals

abbrev pub field_step : Field-F Tree Tree Tree Tree Tree Tree Tree Tree Tree Tree Tree → Tree
field_step (Field-F.Declared span declarator width attributes) = plain.Field span declarator (optional width) attributes
field_step (Field-F.Padding span width) = plain.Padding span width

abbrev pub declarator_step : Declarator-F Tree Tree Tree Tree Tree Tree Tree Tree Tree Tree Tree → Tree
declarator_step d = plain.Declarator d.span d.pointers d.core (listed d.suffixes)

abbrev pub core_step : Core-F Tree Tree Tree Tree Tree Tree Tree Tree Tree Tree Tree → Tree
core_step Core-F.Absent = plain.Absent
core_step (Core-F.Named span name) = plain.Declared span name
core_step (Core-F.Group span inner) = plain.Group span inner

abbrev pub suffix_step : Suffix-F Tree Tree Tree Tree Tree Tree Tree Tree Tree Tree Tree → Tree
suffix_step (Suffix-F.Array span qualifiers bound) = plain.Array span qualifiers (optional bound)
suffix_step (Suffix-F.Function span parameters variadic) = plain.Function span (listed parameters) variadic

abbrev pub tree_of : Expr → Tree
tree_of =
    fold-Expr Tree Tree Tree Tree Tree Tree Tree Tree Tree Tree Tree core_step expr_step field_step member_step part_step specifier_step suffix_step declarator_step enumerator_step operand_step type_name_step

abbrev pub part_tree : PostfixPart → Tree
part_tree =
    fold-PostfixPart Tree Tree Tree Tree Tree Tree Tree Tree Tree Tree Tree core_step expr_step field_step member_step part_step specifier_step suffix_step declarator_step enumerator_step operand_step type_name_step

abbrev pub operand_tree : Operand → Tree
operand_tree =
    fold-Operand Tree Tree Tree Tree Tree Tree Tree Tree Tree Tree Tree core_step expr_step field_step member_step part_step specifier_step suffix_step declarator_step enumerator_step operand_step type_name_step

abbrev pub type_name_tree : TypeName → Tree
type_name_tree =
    fold-TypeName Tree Tree Tree Tree Tree Tree Tree Tree Tree Tree Tree core_step expr_step field_step member_step part_step specifier_step suffix_step declarator_step enumerator_step operand_step type_name_step

abbrev pub specifier_tree : Specifier → Tree
specifier_tree =
    fold-Specifier Tree Tree Tree Tree Tree Tree Tree Tree Tree Tree Tree core_step expr_step field_step member_step part_step specifier_step suffix_step declarator_step enumerator_step operand_step type_name_step

abbrev pub enumerator_tree : Enumerator → Tree
enumerator_tree =
    fold-Enumerator Tree Tree Tree Tree Tree Tree Tree Tree Tree Tree Tree core_step expr_step field_step member_step part_step specifier_step suffix_step declarator_step enumerator_step operand_step type_name_step

abbrev pub member_tree : Member → Tree
member_tree =
    fold-Member Tree Tree Tree Tree Tree Tree Tree Tree Tree Tree Tree core_step expr_step field_step member_step part_step specifier_step suffix_step declarator_step enumerator_step operand_step type_name_step

abbrev pub field_tree : Field → Tree
field_tree =
    fold-Field Tree Tree Tree Tree Tree Tree Tree Tree Tree Tree Tree core_step expr_step field_step member_step part_step specifier_step suffix_step declarator_step enumerator_step operand_step type_name_step

abbrev pub declarator_tree : Declarator → Tree
declarator_tree =
    fold-Declarator Tree Tree Tree Tree Tree Tree Tree Tree Tree Tree Tree core_step expr_step field_step member_step part_step specifier_step suffix_step declarator_step enumerator_step operand_step type_name_step

abbrev pub core_tree : Core → Tree
core_tree =
    fold-Core Tree Tree Tree Tree Tree Tree Tree Tree Tree Tree Tree core_step expr_step field_step member_step part_step specifier_step suffix_step declarator_step enumerator_step operand_step type_name_step

abbrev pub suffix_tree : Suffix → Tree
suffix_tree =
    fold-Suffix Tree Tree Tree Tree Tree Tree Tree Tree Tree Tree Tree core_step expr_step field_step member_step part_step specifier_step suffix_step declarator_step enumerator_step operand_step type_name_step

-- lists of them, and parts that may be missing
abbrev pub exprs_of : List Expr → Trees
exprs_of all = listed (map tree_of all)

abbrev pub parts_of : List PostfixPart → Trees
parts_of all = listed (map part_tree all)

abbrev pub operands_of : List Operand → Trees
operands_of all = listed (map operand_tree all)

abbrev pub specifiers_of : List Specifier → Trees
specifiers_of all = listed (map specifier_tree all)

abbrev pub enumerators_of : List Enumerator → Trees
enumerators_of all = listed (map enumerator_tree all)

abbrev pub members_of : List Member → Trees
members_of all = listed (map member_tree all)

abbrev pub fields_of : List Field → Trees
fields_of all = listed (map field_tree all)

abbrev pub suffixes_of : List Suffix → Trees
suffixes_of all = listed (map suffix_tree all)

abbrev pub parameters_of : List TypeName → Trees
parameters_of all = listed (map type_name_tree all)

abbrev pub optional_expr : Option Expr → Trees
optional_expr o = optional (option_map tree_of o)

abbrev pub optional_declarator : Option Declarator → Trees
optional_declarator o = optional (option_map declarator_tree o)
