-- An enum from its constants.
use Rattle.std.proofs.Common.{◌≡◌, ℕ, ◌<◌, ◌≤◌, false, true, List, [], ◌∷◌, length, map, Option, None, Some, refl, sym, ap, ◌∙◌, arith}
use Rattle.c_base.specs.declared.number.Span.{Span}
use Rattle.c_base.specs.declared.token.Punctuator.TheVariants as mark
use Rattle.c_base.specs.declared.token.Token.{Token}
use Rattle.c_tree.specs.declared.tree.Enumerator.{Enumerator}
use Rattle.c_tree.specs.declared.tree.Specifier.{Specifier}
use Rattle.c_tree.specs.Trees.{Tree}
use Rattle.c_tree.specs.Views.{enumerator_tree, enumerators_of, specifier_tree}
use Rattle.c_tree.specs.WellFormed.{Names, after, after_all}
use Rattle.c_parse_attributes.proofs.code.Narrowing.{named, narrowed}
use Rattle.c_parse_base.specs.Reads.{AreFound, IsFound}
use Rattle.c_parse_rules.specs.Rules.{Found}
use Rattle.c_parse_rules.specs.Tokens.{behind_mark}
use Rattle.c_parse_rules.specs.TypeRules as types
use Rattle.c_parse_attributes.specs.TypesAtDepth.{all_enumerators, constants_at, enum_closed, enum_of, enumerator_at}
use Rattle.c_parse_base.specs.declared.found.Found.{Found as CodeFound}
use Rattle.c_parse_base.specs.declared.found.Several.{Several as CodeSeveral}

pub enum_plain : (d : ℕ) (span : Span) (tag : Option (List ℕ)) (found : List Tree) (rest : List Token) → None ≡ behind_mark mark.Comma rest →
    enum_of d span tag (found, rest) ≡ enum_closed span tag found false rest
enum_plain d span tag found rest e = rw (← e) refl

pub enum_comma : (d : ℕ) (span : Span) (tag : Option (List ℕ)) (found : List Tree) (rest behind : List Token) → Some behind ≡ behind_mark mark.Comma rest →
    enum_of d span tag (found, rest) ≡ enum_closed span tag found true behind
enum_comma d span tag found rest behind e = rw (← e) refl

constants_some : (d : ℕ) (span : Span) (tag : Option (List ℕ)) (names : Names) (tokens : List Token) (e : Found) → Some e ≡ enumerator_at d names tokens →
    constants_at d span tag names tokens ≡ enum_of d span tag (all_enumerators d (e.0 ∷ []) (after names e.0) e.1)
unfolding types.constants_at all_enumerators
constants_some d span tag names tokens e h = rw (← h) refl

pub constants_none : (d : ℕ) (span : Span) (tag : Option (List ℕ)) (names : Names) (tokens : List Token) → None ≡ enumerator_at d names tokens →
    constants_at d span tag names tokens ≡ None
unfolding types.constants_at
constants_none d span tag names tokens h = rw (← h) refl

pub constants_read : (d : ℕ) (span : Span) (tag : Option (List ℕ)) (names names' new : Names) (tokens : List Token) (first : CodeFound Enumerator)
    (all : CodeSeveral Enumerator) (items : List Enumerator) (r : Option (CodeFound Specifier)) →
    IsFound enumerator_tree (enumerator_at d names tokens) names names' tokens (Some first) → items ≡ first.tree ∷ [] →
    AreFound enumerator_tree items (all_enumerators d (map enumerator_tree items) names' first.rest.now) names' new first.rest.now all →
    IsFound specifier_tree (enum_of d span tag (map enumerator_tree all.trees, all.rest.now)) names (after_all names (enumerators_of all.trees)) all.rest.now r →
    IsFound specifier_tree (constants_at d span tag names tokens) names new tokens r
constants_read d span tag names names' new tokens first all items r one single more f =
    let known : names' ≡ after names (enumerator_tree first.tree) = named enumerator_tree _ _ _ _ first one in
    let same : (map enumerator_tree all.trees, all.rest.now) ≡ all_enumerators d (enumerator_tree first.tree ∷ []) (after names (enumerator_tree first.tree)) first.rest.now =
    rw (single, known) at more.same in
    let short : length first.rest.now < length tokens = one.shorter in
    let shorter : length all.rest.now ≤ length first.rest.now = more.shorter in
    let first_known : names' ≡ after_all names (enumerators_of items) = rw single known in
    narrowed specifier_tree _ _ names _ _ _ _ r f
    (constants_some d span tag names tokens (enumerator_tree first.tree, first.rest.now) one.same ∙ ap (enum_of d span tag) (sym same))
    (more.names names first_known) (omega arith)
