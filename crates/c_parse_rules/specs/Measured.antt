-- What the parser of declarations reads: specifiers and a declarator, which are measured where they end.
use Rattle.std.specs.Prelude.{ℕ, suc, nat_le, cond, List, Option, None, Some}
use Rattle.c_base.specs.declared.token.Token.{Token}
use Rattle.c_tree.specs.Nesting.{nest, nest_all}
use Rattle.c_tree.specs.Views.{listed}
use Rattle.c_tree.specs.WellFormed.{Names, Purpose, Before}
use Rattle.c_parse_rules.specs.Parsers.{declarator_at, specifier_at, specifiers_at}
use Rattle.c_parse_rules.specs.Rules.{Found, Several}

abbrev pub where_shallow : ℕ → Option Found → Option Found
where_shallow depth None = None
where_shallow depth (Some found) = cond (nat_le (nest found.0) depth) (Some found) None

abbrev pub where_all_shallow : ℕ → Option Several → Option Several
where_all_shallow depth None = None
where_all_shallow depth (Some found) = cond (nat_le (nest_all (listed found.0)) depth) (Some found) None

-- the specifiers of a declaration, of which none nests deeper
unfoldable pub specifiers_within : ℕ → Purpose → Names → List Token → Option Several
specifiers_within depth purpose names tokens = where_all_shallow depth (specifiers_at (suc depth) (specifier_at (suc depth)) purpose names tokens)

-- a declarator that nests no deeper
unfoldable pub declarator_within : ℕ → Purpose → Names → Before → List Token → Option Found
declarator_within depth purpose names before tokens = where_shallow depth (declarator_at depth purpose names before tokens)
