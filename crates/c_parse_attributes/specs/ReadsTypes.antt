-- What the code's readers of type names answer, where it is not `IsFound` or `AreFound`.
use Rattle.std.specs.Prelude.{◌≡◌, ◌<◌, ◌≤◌, List, length, map, Option, None, Some, option_map, IfSome, ⊤}
use Rattle.c_base.specs.declared.token.Token.{Token}
use Rattle.c_tree.specs.Nesting.{nest_all, nest_below}
use Rattle.c_tree.specs.Trees.{Tree}
use Rattle.c_tree.specs.Views.{listed}
use Rattle.c_tree.specs.WellFormed.{Names, after_all, after_parameter}
use Rattle.c_parse_base.specs.Heights.{capped}
use Rattle.c_parse_base.specs.Reads.{found_of, Measured, AreAfter}
use Rattle.c_parse_rules.specs.Rules.{Found, Several}
use Rattle.c_parse_base.specs.declared.found.Found.{Found as CodeFound}
use Rattle.c_parse_base.specs.declared.found.Several.{Several as CodeSeveral}

-- the names behind a parameter, which is declared
abbrev pub AreDeclared : Names → Names → Option Found → Type 0
AreDeclared old new None = ⊤
AreDeclared old new (Some f) = new ≡ after_parameter old f.0

-- the code's answer is the parameter that the plain parser finds, and it is declared
pub record IsDeclared {T : Type 0} (view : T → Tree) (plain : Option Found) (old new : Names) (tokens : List Token) (found : Option (CodeFound T)) : Type 0 where
  pub same : option_map (found_of view) found ≡ plain
  pub height : Measured view found
  pub names : AreDeclared old new plain
  pub shorter : IfSome found (λ f. length f.rest.now < length tokens)

-- the code's answer is some trees that the plain parser finds, whose names are forgotten
pub record AreListed {T : Type 0} (view : T → Tree) (plain : Several) (tokens : List Token) (found : CodeSeveral T) : Type 0 where
  pub same : (map view found.trees, found.rest.now) ≡ plain
  pub height : found.height ≡ capped (nest_all (listed (map view found.trees)))
  pub shorter : length found.rest.now ≤ length tokens

-- the code's answer is the suffixes that the plain parser finds; each counts as a node above the next
pub record AreStacked {T : Type 0} (view : T → Tree) (plain : Several) (old new : Names) (tokens : List Token) (found : CodeSeveral T) : Type 0 where
  pub same : (map view found.trees, found.rest.now) ≡ plain
  pub height : found.height ≡ capped (nest_below (listed (map view found.trees)))
  pub names : new ≡ after_all old (listed (map view found.trees))
  pub shorter : length found.rest.now ≤ length tokens

-- the code's answer is what the plain parser finds, which may have no tokens
pub record IsPart {T : Type 0} (view : T → Tree) (plain : Option Found) (old new : Names) (tokens : List Token) (found : Option (CodeFound T)) : Type 0 where
  pub same : option_map (found_of view) found ≡ plain
  pub height : Measured view found
  pub names : AreAfter old new plain
  pub shorter : IfSome found (λ f. length f.rest.now ≤ length tokens)
