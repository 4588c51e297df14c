-- What stands behind a condition, and behind the target of an assignment.
use Rattle.std.specs.Prelude.{ℕ, max, ◌≡◌, ◌<◌, List, length, Option, None, Some, option_map, IfSome, ⊤}
use Rattle.c_base.specs.declared.number.Span.{Span}
use Rattle.c_base.specs.declared.token.Punctuator.TheVariants as mark
use Rattle.c_base.specs.declared.token.Token.{Token}
use Rattle.c_tree.specs.declared.operator.AssignmentOperator.{AssignmentOperator}
use Rattle.c_tree.specs.Nesting.{nest}
use Rattle.c_tree.specs.Trees.{Tree, Conditional}
use Rattle.c_tree.specs.Views.{tree_of}
use Rattle.c_tree.specs.WellFormed.{Names, after}
use Rattle.c_parse_base.specs.Heights.{capped}
use Rattle.c_parse_rules.specs.Parsers.{expr_at}
use Rattle.c_parse_rules.specs.Rules.{Found}
use Rattle.c_parse_rules.specs.Tokens.{◌>>=◌, behind_mark, assigning_at}
use Rattle.c_parse_operators.specs.declared.expression.Branches.{Branches as CodeBranches}
use Rattle.c_parse_operators.specs.declared.expression.Value.{Value as CodeValue}
use Rattle.c_parse_base.specs.declared.found.Found.{Found as CodeFound}

-- ---- branches of a condition (C11 6.5.15)

abbrev pub Branches : Type 0
Branches = (Tree × Tree) × List Token

unfoldable pub branches_behind : ℕ → Names → List Token → Option Branches
branches_behind d names tokens = do
  inside ← behind_mark mark.Question tokens
  when_true ← expr_at d names 0 inside
  colon ← behind_mark mark.Colon when_true.1
  when_false ← expr_at d (after names when_true.0) 2 colon
  Some ((when_true.0, when_false.0), when_false.1)

abbrev pub with_branches : Span → Found → Option Branches → Found
with_branches span found None = found
with_branches span found (Some b) = (Conditional span found.0 b.0.0 b.0.1, b.1)

abbrev pub branches_of : CodeFound CodeBranches → Branches
branches_of f = ((tree_of f.tree.when_true, tree_of f.tree.when_false), f.rest.now)

abbrev pub AreMeasuredBranches : Option (CodeFound CodeBranches) → Type 0
AreMeasuredBranches None = ⊤
AreMeasuredBranches (Some f) = f.height ≡ capped (max (nest (tree_of f.tree.when_true)) (nest (tree_of f.tree.when_false)))

abbrev pub AreAfterBranches : Names → Names → Option Branches → Type 0
AreAfterBranches old new None = ⊤
AreAfterBranches old new (Some b) = new ≡ after (after old b.0.0) b.0.1

pub record AreBranches (plain : Option Branches) (old new : Names) (tokens : List Token) (found : Option (CodeFound CodeBranches)) : Type 0 where
  pub same : option_map branches_of found ≡ plain
  pub height : AreMeasuredBranches found
  pub names : AreAfterBranches old new plain
  pub shorter : IfSome found (λ f. length f.rest.now < length tokens)

-- ---- the value of an assignment (C11 6.5.16)

abbrev pub Value : Type 0
Value = (AssignmentOperator × Tree) × List Token

unfoldable pub value_behind : ℕ → Names → List Token → Option Value
value_behind d names tokens = do
  operator ← assigning_at tokens
  value ← expr_at d names 1 operator.1
  Some ((operator.0, value.0), value.1)

abbrev pub value_of : CodeFound CodeValue → Value
value_of f = ((f.tree.operator, tree_of f.tree.value), f.rest.now)

abbrev pub IsMeasuredValue : Option (CodeFound CodeValue) → Type 0
IsMeasuredValue None = ⊤
IsMeasuredValue (Some f) = f.height ≡ capped (nest (tree_of f.tree.value))

abbrev pub IsAfterValue : Names → Names → Option Value → Type 0
IsAfterValue old new None = ⊤
IsAfterValue old new (Some v) = new ≡ after old v.0.1

pub record IsValue (plain : Option Value) (old new : Names) (tokens : List Token) (found : Option (CodeFound CodeValue)) : Type 0 where
  pub same : option_map value_of found ≡ plain
  pub height : IsMeasuredValue found
  pub names : IsAfterValue old new plain
  pub shorter : IfSome found (λ f. length f.rest.now < length tokens)
