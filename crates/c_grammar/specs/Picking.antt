-- Which rule it is, by the next word or two.
use Rattle.std.specs.Prelude.{cond, List, [], ◌∷◌, Option, None, Some}
use Rattle.c_base.specs.declared.token.Keyword.TheVariants as key
use Rattle.c_base.specs.declared.token.Punctuator.TheVariants as mark
use Rattle.c_base.specs.declared.token.Token.{Token}
use Rattle.c_base.specs.declared.token.Word.{Word}
use Rattle.c_base.specs.declared.token.Word.TheVariants as word
use Rattle.c_tree.specs.WellFormed.{Names}
use Rattle.c_parse_rules.specs.Declaring.{starts}
use Rattle.c_parse_rules.specs.Tokens.{is_key, is_mark}
use Rattle.grammar.specs.Reading.{Readers}
use Rattle.c_grammar.specs.declared.rule.Rule.{Rule}
use Rattle.c_grammar.specs.declared.rule.Rule.TheVariants as rule
use Rattle.c_grammar.specs.declared.rule.Sort.{Sort}
use Rattle.c_grammar.specs.declared.rule.Sort.TheVariants as sort
use Rattle.c_grammar.specs.Leaves.{C, read}

-- a statement, by its first word and what is behind it
abbrev pub statement_rule : Word → List Token → Rule
statement_rule (word.Keyword key.Attribute) rest = rule.Attribute
statement_rule (word.Keyword key.If) rest = rule.If
statement_rule (word.Keyword key.Switch) rest = rule.Switch
statement_rule (word.Keyword key.While) rest = rule.While
statement_rule (word.Keyword key.Do) rest = rule.Do
statement_rule (word.Keyword key.For) rest = rule.For
statement_rule (word.Keyword key.Goto) rest = rule.Goto
statement_rule (word.Keyword key.Continue) rest = rule.Continue
statement_rule (word.Keyword key.Break) rest = rule.Break
statement_rule (word.Keyword key.Return) rest = rule.Return
statement_rule (word.Keyword key.Case) rest = rule.Case
statement_rule (word.Keyword key.Default) rest = rule.Default
statement_rule (word.Punctuator mark.OpenBrace) rest = rule.Block
statement_rule (word.Identifier name) rest = cond (starts (is_mark mark.Colon) rest) rule.Label rule.Expression
statement_rule _ rest = rule.Expression

abbrev pub external_rule : Word → Rule
external_rule (word.Punctuator mark.Semicolon) = rule.Empty
external_rule (word.Keyword key.StaticAssert) = rule.Assertion
external_rule _ = rule.External

abbrev pub declaration_rule : Word → Rule
declaration_rule (word.Keyword key.StaticAssert) = rule.Assertion
declaration_rule _ = rule.Declaration

abbrev pub pick : Sort → Names → List Token → Option Rule
pick s names [] = None
pick sort.External names (t ∷ tokens) = Some (external_rule t.word)
pick sort.Declaration names (t ∷ tokens) = Some (declaration_rule t.word)
pick sort.Braces names (t ∷ tokens) = Some rule.Braces
pick sort.Body names (t ∷ tokens) = Some rule.Body
pick sort.Statement names (t ∷ tokens) = Some (statement_rule t.word tokens)
pick sort.Other names (t ∷ tokens) = cond (is_key key.If t.word) None (Some (statement_rule t.word tokens))

abbrev pub readers : Readers C
readers = record { read = read; pick = pick }
