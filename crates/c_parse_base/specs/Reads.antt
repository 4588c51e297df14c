-- What the code's readers answer.
use Rattle.std.specs.Prelude.{◌≡◌, ◌<◌, ◌≤◌, List, length, map, Option, None, Some, Result, Ok, option_map, IfSome, ⊤}
use Rattle.c_base.specs.declared.token.Token.{Token}
use Rattle.c_tree.specs.Nesting.{nest, nest_all}
use Rattle.c_tree.specs.Trees.{Tree}
use Rattle.c_tree.specs.Views.{listed}
use Rattle.c_tree.specs.WellFormed.{Names, after, after_all}
use Rattle.c_parse_base.specs.Heights.{capped}
use Rattle.c_parse_base.specs.KnownNames.{Known, kept}
use Rattle.c_parse_rules.specs.Rules.{Found, Several}
use Rattle.c_parse_base.specs.declared.found.Found.{Found as CodeFound}
use Rattle.c_parse_base.specs.declared.found.Several.{Several as CodeSeveral}

-- a tree that the code found, and what is left
abbrev pub found_of : {T : Type 0} → (T → Tree) → CodeFound T → Found
found_of view f = (view f.tree, f.rest.now)

abbrev pub Measured : {T : Type 0} → (T → Tree) → Option (CodeFound T) → Type 0
Measured view None = ⊤
Measured view (Some f) = f.height ≡ capped (nest (view f.tree))

-- the names behind what is found
abbrev pub AreAfter : Names → Names → Option Found → Type 0
AreAfter old new None = ⊤
AreAfter old new (Some f) = new ≡ after old f.0

-- the code's answer is what the plain parser finds; its height is exact, and the names are those behind it
pub record IsFound {T : Type 0} (view : T → Tree) (plain : Option Found) (old new : Names) (tokens : List Token) (found : Option (CodeFound T)) : Type 0 where
  pub same : option_map (found_of view) found ≡ plain
  pub height : Measured view found
  pub names : AreAfter old new plain
  pub shorter : IfSome found (λ f. length f.rest.now < length tokens)

-- the code's answer is some trees that the plain parser finds, behind these that were found before
pub record AreFound {T : Type 0} (view : T → Tree) (before : List T) (plain : Several) (old new : Names) (tokens : List Token) (found : CodeSeveral T) : Type 0 where
  pub same : (map view found.trees, found.rest.now) ≡ plain
  pub height : found.height ≡ capped (nest_all (listed (map view found.trees)))
  pub names : (first : Names) → old ≡ after_all first (listed (map view before)) → new ≡ after_all first (listed (map view found.trees))
  pub shorter : length found.rest.now ≤ length tokens

-- the code's answer is what the plain parser makes of a tree that is found already; `before` are the names before that tree
pub record IsGrown {T U : Type 0} (view : T → Tree) (seen : U → Tree) (plain : Found) (before new : Names) (first : CodeFound U) (found : CodeFound T) : Type 0 where
  pub same : found_of view found ≡ plain
  pub height : found.height ≡ capped (nest (view found.tree))
  pub names : new ≡ after before (view found.tree)
  pub shorter : length found.rest.now ≤ length first.rest.now

-- what closing a scope leaves: what was declared in it only where something was found
abbrev pub closed : {T E : Type 0} → Known → Result (Option T) E → Names
closed k (Ok (Some x)) = k.names
closed k _ = (kept k).names
