-- What the code's reader of trees is asked for, and what it answers.
use Rattle.std.specs.Prelude.{ℕ, ◌≡◌, List, Option, Result, IfOk, IfSome, IfNone, ⊤}
use Rattle.c_base.specs.declared.token.Token.{Token}
use Rattle.c_tree.specs.Trees.{Tree}
use Rattle.c_tree.specs.Views.{declarator_tree, specifier_tree, tree_of, type_name_tree}
use Rattle.c_tree.specs.WellFormed.{Names}
use Rattle.c_parse_base.specs.KnownNames.{Known, kept}
use Rattle.c_parse_rules.specs.Parsers.{declarator_at, expr_at, specifier_at, typing_at}
use Rattle.c_parse_base.specs.Purposes.{before_of, purpose_of}
use Rattle.c_parse_base.specs.Reads.{IsFound}
use Rattle.c_parse_rules.specs.Rules.{Found}
use Rattle.c_parse_expr.specs.declared.asking.Answer.{Answer}
use Rattle.c_parse_expr.specs.declared.asking.Answer.TheVariants as answer
use Rattle.c_parse_expr.specs.declared.asking.Ask.{Ask}
use Rattle.c_parse_expr.specs.declared.asking.Ask.TheVariants as ask
use Rattle.c_parse_base.specs.declared.found.Found.{Found as CodeFound}

abbrev pub ask_at : ℕ → Ask → Names → List Token → Option Found
ask_at d (ask.Expr least) names tokens = expr_at d names least tokens
ask_at d (ask.Typing purpose) names tokens = typing_at d (purpose_of purpose) names tokens
ask_at d (ask.Specifier purpose before) names tokens = specifier_at d (purpose_of purpose) names (before_of before) tokens
ask_at d (ask.Declarator purpose before) names tokens = declarator_at d (purpose_of purpose) names (before_of before) tokens

abbrev pub answer_tree : Answer → Tree
answer_tree (answer.Expr e) = tree_of e
answer_tree (answer.Typing t) = type_name_tree t
answer_tree (answer.Specifier s) = specifier_tree s
answer_tree (answer.Declarator d) = declarator_tree d

-- the answer is of the sort that was asked for
abbrev pub Suits : Ask → Answer → Type 0
Suits (ask.Expr least) (answer.Expr e) = ⊤
Suits (ask.Typing purpose) (answer.Typing t) = ⊤
Suits (ask.Specifier purpose before) (answer.Specifier s) = ⊤
Suits (ask.Declarator purpose before) (answer.Declarator d) = ⊤
Suits _ _ = ⊥

-- what a reader of trees that are at most d deep answers
pub record IsAsked {E : Type 0} (d : ℕ) (asked : Ask) (old new : Known) (tokens : List Token) (result : Result (Option (CodeFound Answer)) E) : Type 0 where
  pub found : IfOk result (λ r. IsFound answer_tree (ask_at d asked old.names tokens) old.names new.names tokens r)
  pub suits : IfOk result (λ r. IfSome r (λ f. Suits asked f.tree))
  pub unchanged : IfOk result (λ r. IfNone r (new.names ≡ old.names))
  pub same : kept new ≡ kept old
