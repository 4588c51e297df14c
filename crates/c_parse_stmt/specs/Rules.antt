-- The rules of the statements with which what is declared in them ends.
use Rattle.c_grammar.specs.declared.rule.Rule.{Rule}
use Rattle.c_grammar.specs.declared.rule.Rule.TheVariants as rule
use Rattle.c_parse_stmt.specs.declared.rules.Scope.{Scope}
use Rattle.c_parse_stmt.specs.declared.rules.Scope.TheVariants as scope

abbrev pub rule_of : Scope → Rule
rule_of scope.Block = rule.Block
rule_of scope.If = rule.If
rule_of scope.Switch = rule.Switch
rule_of scope.While = rule.While
rule_of scope.Do = rule.Do
rule_of scope.For = rule.For
