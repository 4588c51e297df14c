-- The rules, for parts that are at most so deep.
use Rattle.std.specs.Prelude.{ℕ, suc, List, [], length, Option, None, Some}
use Rattle.c_base.specs.declared.number.Span.{Span}
use Rattle.c_base.specs.declared.token.Token.{Token}
use Rattle.c_base.specs.declared.token.Word.{Word}
use Rattle.c_base.specs.declared.token.Punctuator.TheVariants as mark
use Rattle.c_tree.specs.declared.operator.BinaryOperator.{BinaryOperator}
use Rattle.c_tree.specs.declared.operator.PrefixOperator.{PrefixOperator}
use Rattle.c_tree.specs.declared.operator.TypeOperator.{TypeOperator}
use Rattle.c_tree.specs.Trees.{Tree, Operand}
use Rattle.c_tree.specs.WellFormed.{Names, ForType}
use Rattle.c_parse_rules.specs.Tokens.{behind_mark, operator_at}
use Rattle.c_parse_rules.specs.Rules as rules
use Rattle.c_parse_rules.specs.Rules.{Found, Several}
use Rattle.c_parse_rules.specs.Parsers.{expr_at, typing_at}

abbrev pub behind_commas : ℕ → ℕ → List Tree → Names → List Token → Several
behind_commas d = rules.behind_commas d (expr_at d) (typing_at d ForType)

abbrev pub arguments_at : ℕ → Names → List Token → Several
arguments_at d = rules.arguments_at d (expr_at d) (typing_at d ForType)

abbrev pub operands : ℕ → ℕ → ℕ → List Tree → Names → List Token → Several
operands d = rules.operands d (expr_at d) (typing_at d ForType)

abbrev pub index_at : ℕ → Names → List Token → Option Found
index_at d = rules.index_at d (expr_at d) (typing_at d ForType)

abbrev pub call_at : ℕ → Span → Names → List Token → Option Found
call_at d = rules.call_at d (expr_at d) (typing_at d ForType)

abbrev pub dot_at : ℕ → List Token → Option Found
dot_at d = rules.dot_at d (expr_at d) (typing_at d ForType)

abbrev pub arrow_at : ℕ → List Token → Option Found
arrow_at d = rules.arrow_at d (expr_at d) (typing_at d ForType)

abbrev pub part_of : ℕ → Names → Token → List Token → Word → Option Found
part_of d = rules.part_of d (expr_at d) (typing_at d ForType)

abbrev pub part_at : ℕ → Names → List Token → Option Found
part_at d = rules.part_at d (expr_at d) (typing_at d ForType)

abbrev pub parts : ℕ → ℕ → List Tree → Names → List Token → Several
parts d = rules.parts d (expr_at d) (typing_at d ForType)

abbrev pub postfix_of : ℕ → Span → Found → Several → Found
postfix_of d = rules.postfix_of d (expr_at d) (typing_at d ForType)

abbrev pub postfix_at : ℕ → Span → Names → Found → Found
postfix_at d = rules.postfix_at d (expr_at d) (typing_at d ForType)

abbrev pub parenthesised_at : ℕ → Span → Names → List Token → Option Found
parenthesised_at d = rules.parenthesised_at d (expr_at d) (typing_at d ForType)

abbrev pub type_at : ℕ → Names → List Token → Option Found
type_at d = rules.type_at d (expr_at d) (typing_at d ForType)

abbrev pub offsetof_at : ℕ → Span → Names → List Token → Option Found
offsetof_at d = rules.offsetof_at d (expr_at d) (typing_at d ForType)

abbrev pub primary_of : ℕ → Span → Names → List Token → Word → Option Found
primary_of d = rules.primary_of d (expr_at d) (typing_at d ForType)

abbrev pub primary_at : ℕ → Span → Names → List Token → Word → Option Found
primary_at d = rules.primary_at d (expr_at d) (typing_at d ForType)

abbrev pub prefix_at : ℕ → Span → PrefixOperator → Names → List Token → Option Found
prefix_at d = rules.prefix_at d (expr_at d) (typing_at d ForType)

abbrev pub of_type_at : ℕ → Span → TypeOperator → Names → List Token → Option Found
of_type_at d = rules.of_type_at d (expr_at d) (typing_at d ForType)

abbrev pub sizeof_at : ℕ → Span → Names → List Token → Option Found
sizeof_at d = rules.sizeof_at d (expr_at d) (typing_at d ForType)

abbrev pub cast_at : ℕ → Span → Names → List Token → Option Found
cast_at d = rules.cast_at d (expr_at d) (typing_at d ForType)

abbrev pub unary_of : ℕ → ℕ → Span → Names → List Token → Word → Option Found
unary_of d = rules.unary_of d (expr_at d) (typing_at d ForType)

abbrev pub run_of : ℕ → Span → Found → Several → Found
run_of d = rules.run_of d (expr_at d) (typing_at d ForType)

abbrev pub run_at : ℕ → ℕ → Span → Names → Found → Found
run_at d = rules.run_at d (expr_at d) (typing_at d ForType)

abbrev pub runs : ℕ → List ℕ → ℕ → Span → Names → Found → Found
runs d = rules.runs d (expr_at d) (typing_at d ForType)

abbrev pub branches_at : ℕ → Span → Names → Found → Option Found
branches_at d = rules.branches_at d (expr_at d) (typing_at d ForType)

abbrev pub conditional_at : ℕ → ℕ → Span → Names → Found → Found
conditional_at d = rules.conditional_at d (expr_at d) (typing_at d ForType)

abbrev pub value_at : ℕ → Span → Names → Found → Option Found
value_at d = rules.value_at d (expr_at d) (typing_at d ForType)

abbrev pub assignment_at : ℕ → ℕ → Span → Names → Found → Found
assignment_at d = rules.assignment_at d (expr_at d) (typing_at d ForType)

abbrev pub comma_of : ℕ → Span → Found → Several → Found
comma_of d = rules.comma_of d (expr_at d) (typing_at d ForType)

abbrev pub comma_at : ℕ → ℕ → Span → Names → Found → Found
comma_at d = rules.comma_at d (expr_at d) (typing_at d ForType)

abbrev pub expr_behind : ℕ → ℕ → Names → Token → List Token → Option Found
expr_behind d = rules.expr_behind d (expr_at d) (typing_at d ForType)

abbrev pub expr_rule : ℕ → ℕ → Names → List Token → Option Found
expr_rule d = rules.expr_rule d (expr_at d) (typing_at d ForType)

-- ---- the loops from their beginnings

unfoldable pub all_listed : ℕ → List Tree → Names → List Token → Several
all_listed d found names tokens = behind_commas d (suc (length tokens)) found names tokens

unfoldable pub all_operands : ℕ → ℕ → Names → List Token → Several
all_operands d level names tokens = operands d (suc (length tokens)) level [] names tokens

unfoldable pub all_parts : ℕ → Names → List Token → Several
all_parts d names tokens = parts d (suc (length tokens)) [] names tokens

-- ---- what the next round of a loop reads

abbrev pub behind_comma : ℕ → Names → Option (List Token) → Option Found
behind_comma d names None = None
behind_comma d names (Some rest) = expr_at d names 1 rest

-- an expression behind a comma
abbrev pub next_listed : ℕ → Names → List Token → Option Found
next_listed d names tokens = behind_comma d names (behind_mark mark.Comma tokens)

abbrev pub operand_of : BinaryOperator → Option Found → Option Found
operand_of operator None = None
operand_of operator (Some e) = Some (Operand operator e.0, e.1)

abbrev pub behind_operator : ℕ → ℕ → Names → Option (BinaryOperator × List Token) → Option Found
behind_operator d level names None = None
behind_operator d level names (Some o) = operand_of o.0 (expr_at d names (suc level) o.1)

-- an operator of this level and its operand
abbrev pub next_operand : ℕ → ℕ → Names → List Token → Option Found
next_operand d level names tokens = behind_operator d level names (operator_at level tokens)
