-- The laws of the readers of what type names reach, all of a depth, and how they follow from those of the depth below.
use Rattle.std.proofs.Common.{ℕ, suc, ◌≤◌, List, arith}
use Rattle.std.proofs.lemmas.Option.{none-some}
use Rattle.c_base.specs.declared.token.Token.{Token}
use Rattle.c_tree.specs.Nesting.{nest}
use Rattle.c_tree.specs.Trees.{Tree, TypeName, Declarator}
use Rattle.c_tree.specs.WellFormed.{Names, Before, Purpose, ForType, ForParameter, ForName}
use Rattle.c_parse_rules.specs.Following.{IsTypingFront}
use Rattle.c_parse_rules.proofs.Laws.{ExprsSound, ExprsReached, TypesSound, TypesReached, TypingsSound, TypingsReached}
use Rattle.c_parse_rules.specs.Parsers.{expr_at, typing_at, specifier_at, declarator_at}
use Rattle.c_parse_rules.specs.Rules.{Inner}
use Rattle.c_parse_rules.specs.TypeRules.{Specifiers, Declarators, Typings, type_rule, specifier_rule, declarator_rule}
use Rattle.c_parse_rules.proofs.types.DeclaratorsReach.{declarator_rule_reached}
use Rattle.c_parse_rules.proofs.types.DeclaratorsSound.{declarator_rule_sound}
use Rattle.c_parse_rules.proofs.types.Laws.{IsDeclaratorFront, SpecifiersSound, SpecifiersReached, DeclaratorsSound, DeclaratorsReached}
use Rattle.c_parse_rules.proofs.types.SpecifiersReach.{specifier_rule_reached}
use Rattle.c_parse_rules.proofs.types.SpecifiersSound.{specifier_rule_sound}
use Rattle.c_parse_rules.proofs.types.TypesReach.{typing_reached}
use Rattle.c_parse_rules.proofs.types.TypesSound.{typing_sound}

pub record TypeLaws (depth : ℕ) (typings : Typings) (specifiers : Specifiers) (declarators : Declarators) : Type 0 where
  pub typings_sound : TypingsSound depth typings
  pub typings_reached : TypingsReached depth typings
  pub specifiers_sound : SpecifiersSound specifiers
  pub specifiers_reached : SpecifiersReached depth specifiers
  pub declarators_sound : DeclaratorsSound declarators
  pub declarators_reached : DeclaratorsReached depth declarators

-- the laws of what stands a node below, and of expressions there, give those of the rules
pub type_laws : (depth : ℕ) (inner : Inner) (typings : Typings) (specifiers : Specifiers) (declarators : Declarators) → ExprsSound depth inner → ExprsReached depth inner →
    TypeLaws depth typings specifiers declarators →
    TypeLaws (suc depth) (type_rule depth inner typings specifiers declarators) (specifier_rule depth inner typings specifiers declarators)
    (declarator_rule depth inner typings specifiers declarators)
type_laws depth inner typings specifiers declarators inner_sound inner_reached laws = record {
  typings_sound = typing_sound depth inner typings specifiers declarators inner_sound laws.specifiers_sound laws.declarators_sound;
  typings_reached = typing_reached depth inner typings specifiers declarators inner_sound inner_reached laws.specifiers_sound laws.specifiers_reached laws.declarators_sound laws.declarators_reached;
  specifiers_sound = specifier_rule_sound depth inner typings specifiers declarators inner_sound laws.specifiers_sound laws.declarators_sound;
  specifiers_reached = specifier_rule_reached depth inner typings specifiers declarators inner_sound inner_reached laws.specifiers_sound laws.specifiers_reached laws.declarators_sound laws.declarators_reached;
  declarators_sound = declarator_rule_sound depth inner typings specifiers declarators inner_sound laws.typings_sound laws.declarators_sound;
  declarators_reached = declarator_rule_reached depth inner typings specifiers declarators inner_sound inner_reached laws.typings_sound laws.typings_reached laws.declarators_reached;
}

-- ---- no tree nests so little

typing_nests : (purpose : Purpose) (names : Names) (tokens : List Token) (t : Tree) (rest : List Token) → IsTypingFront purpose names 0 tokens t rest → ⊥
typing_nests ForType names tokens (TypeName span all declared) rest front = let small = front.shallow in absurd (omega arith)
typing_nests ForParameter names tokens (TypeName span all declared) rest front = let small = front.shallow in absurd (omega arith)
typing_nests ForName names tokens _ rest front = absurd front.shape
typing_nests ForType names tokens _ rest front = absurd front.shape
typing_nests ForParameter names tokens _ rest front = absurd front.shape

declarator_nests : (purpose : Purpose) (names : Names) (before : Before) (tokens : List Token) (t : Tree) (rest : List Token) →
    IsDeclaratorFront purpose names before tokens t rest → nest t ≤ 0 → ⊥
declarator_nests purpose names before tokens (Declarator span stars core suffixes) rest front small = absurd (omega arith)
declarator_nests purpose names before tokens _ rest front small = absurd front.shape

-- the readers of depth zero
pub none_laws : TypeLaws 0 (typing_at 0) (specifier_at 0) (declarator_at 0)
none_laws = record {
  typings_sound = λ purpose names tokens found other e. absurd (none-some found e);
  typings_reached = λ purpose names tokens t rest front end. absurd (typing_nests purpose names tokens t rest front);
  specifiers_sound = λ purpose names before tokens found e. absurd (none-some found e);
  specifiers_reached = λ purpose names before tokens t rest front shallow end. absurd (omega arith);
  declarators_sound = λ purpose names before tokens found e. absurd (none-some found e);
  declarators_reached = λ purpose names before tokens t rest front shallow end. absurd (declarator_nests purpose names before tokens t rest front shallow);
}

-- the parsers' own step
pub next_laws : (depth : ℕ) → ExprsSound depth (expr_at depth) → ExprsReached depth (expr_at depth) → TypeLaws depth (typing_at depth) (specifier_at depth) (declarator_at depth) →
    TypeLaws (suc depth) (typing_at (suc depth)) (specifier_at (suc depth)) (declarator_at (suc depth))
next_laws depth inner_sound inner_reached laws = type_laws depth (expr_at depth) (typing_at depth) (specifier_at depth) (declarator_at depth) inner_sound inner_reached laws

-- what expressions need of them
pub types_sound : (depth : ℕ) (typings : Typings) → TypingsSound depth typings → TypesSound depth (typings ForType)
types_sound depth typings sound names tokens found e = sound ForType names tokens found (λ x. cc) e

pub types_reached : (depth : ℕ) (typings : Typings) → TypingsReached depth typings → TypesReached depth (typings ForType)
types_reached depth typings reached names tokens tree rest front end = reached ForType names tokens tree rest front end
