-- The parsers of trees that nest at most so deep.
use Rattle.std.specs.Prelude.{ℕ, zero, suc, List, Option, None}
use Rattle.c_base.specs.declared.token.Token.{Token}
use Rattle.c_tree.specs.WellFormed.{Names, Purpose, ForType, Before}
use Rattle.c_parse_rules.specs.Rules.{Found, Several, expr_rule}
use Rattle.c_parse_rules.specs.TypeRules as types
use Rattle.c_parse_rules.specs.TypeRules.{Specifiers, type_rule, specifier_rule, declarator_rule}

abbrev mutual
  pub expr_at : ℕ → Names → ℕ → List Token → Option Found
  expr_at zero names least tokens = None
  expr_at (suc depth) names least tokens = expr_rule depth (expr_at depth) (typing_at depth ForType) least names tokens

  pub typing_at : ℕ → Purpose → Names → List Token → Option Found
  typing_at zero purpose names tokens = None
  typing_at (suc depth) purpose names tokens =
      type_rule depth (expr_at depth) (typing_at depth) (specifier_at depth) (declarator_at depth) purpose names tokens

  pub specifier_at : ℕ → Purpose → Names → Before → List Token → Option Found
  specifier_at zero purpose names before tokens = None
  specifier_at (suc depth) purpose names before tokens =
      specifier_rule depth (expr_at depth) (typing_at depth) (specifier_at depth) (declarator_at depth) purpose names before tokens

  pub declarator_at : ℕ → Purpose → Names → Before → List Token → Option Found
  declarator_at zero purpose names before tokens = None
  declarator_at (suc depth) purpose names before tokens =
      declarator_rule depth (expr_at depth) (typing_at depth) (specifier_at depth) (declarator_at depth) purpose names before tokens

-- at least one specifier, as many as there are; `read` reads one
abbrev pub specifiers_at : ℕ → Specifiers → Purpose → Names → List Token → Option Several
specifiers_at d = types.specifiers_at d (expr_at d) (typing_at d) (specifier_at d) (declarator_at d)
