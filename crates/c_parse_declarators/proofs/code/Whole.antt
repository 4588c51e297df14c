-- A declarator from its parts.
use Rattle.std.proofs.Common.{◌≡◌, ℕ, suc, ◌<◌, nat_lt, true, List, [], length, map, Some, refl, sym, ap, ◌∙◌, subst, rules}
use Rattle.c_base.specs.declared.number.Span.{Span}
use Rattle.c_base.specs.declared.token.Token.{Token}
use Rattle.c_tree.specs.declared.tree.Core.{Core}
use Rattle.c_tree.specs.declared.tree.Declarator.{Declarator}
use Rattle.c_tree.specs.declared.tree.Pointer.{Pointer}
use Rattle.c_tree.specs.declared.tree.Suffix.{Suffix}
use Rattle.c_tree.specs.Nesting.{nest}
use Rattle.c_tree.specs.Views.{core_tree, declarator_tree, suffix_tree, suffixes_of}
use Rattle.c_tree.specs.WellFormed.{Names, Purpose, Before, after, after_all}
use Rattle.c_parse_base.specs.Heights.{capped}
use Rattle.c_parse_base.specs.Reads.{found_of, AreAfter, IsFound}
use Rattle.c_parse_attributes.specs.ReadsTypes.{AreStacked, IsPart}
use Rattle.c_parse_rules.specs.Rules.{Found}
use Rattle.c_parse_rules.specs.TypeRules as types
use Rattle.c_parse_rules.specs.TypeRules.{first_span, pointers}
use Rattle.c_parse_attributes.specs.TypesAtDepth.{all_suffixes, core_at, core_or_none, declarator_of, declarator_rule, where_some}
use Rattle.c_parse_base.specs.declared.found.Found.{Found as CodeFound}
use Rattle.c_parse_base.specs.declared.found.Several.{Several as CodeSeveral}

some_there : (d : ℕ) (tokens : List Token) (f : Found) → length f.1 < length tokens → where_some d tokens f ≡ Some f
some_there d tokens f less = let t : nat_lt (length f.1) (length tokens) ≡ true = search (rules, less) in rw t refl

rule_is : (d : ℕ) (purpose : Purpose) (before : Before) (names : Names) (tokens behind : List Token) (stars : List Pointer) (core : Found) →
    (stars, behind) ≡ pointers (suc (length tokens)) [] tokens → Some core ≡ core_or_none d purpose behind (core_at d purpose names before behind) →
    declarator_rule d purpose names before tokens
    ≡ where_some d tokens (declarator_of d (first_span (record { line = 0; col = 0 }) tokens) stars core.0 (all_suffixes d (after names core.0) core.1))
unfolding types.declarator_rule types.declarator_behind all_suffixes
rule_is d purpose before names tokens behind stars core e h = rw (← e, ← h) refl

pub declarator_whole : (d : ℕ) (purpose : Purpose) (before : Before) (names known new : Names) (tokens behind : List Token) (stars : List Pointer) (span : Span)
    (core : CodeFound Core) (all : CodeSeveral Suffix) (r : CodeFound Declarator) →
    (stars, behind) ≡ pointers (suc (length tokens)) [] tokens →
    IsPart core_tree (core_or_none d purpose behind (core_at d purpose names before behind)) names known behind (Some core) →
    AreStacked suffix_tree (all_suffixes d known core.rest.now) known new core.rest.now all →
    span ≡ first_span (record { line = 0; col = 0 }) tokens →
    found_of declarator_tree r ≡ declarator_of d span stars (core_tree core.tree) (map suffix_tree all.trees, all.rest.now) →
    r.height ≡ capped (nest (declarator_tree r.tree)) →
    ((old : Names) → after old (declarator_tree r.tree) ≡ after_all (after old (core_tree core.tree)) (suffixes_of all.trees)) →
    length r.rest.now < length tokens →
    IsFound declarator_tree (declarator_rule d purpose names before tokens) names new tokens (Some r)
declarator_whole d purpose before names known new tokens behind stars span core all r e part stack place same high names_are less =
    let known_is : known ≡ after names (core_tree core.tree) = subst (λ p. AreAfter names known p) (sym part.same) part.names in
    let stacked : (map suffix_tree all.trees, all.rest.now) ≡ all_suffixes d (after names (core_tree core.tree)) core.rest.now = rw known_is at stack.same in
    let whole : declarator_of d (first_span (record { line = 0; col = 0 }) tokens) stars (core_tree core.tree) (all_suffixes d (after names (core_tree core.tree)) core.rest.now)
    ≡ found_of declarator_tree r = rw (← stacked, ← place) (sym same) in
    let rule : declarator_rule d purpose names before tokens ≡ Some (found_of declarator_tree r) =
    rule_is d purpose before names tokens behind stars (core_tree core.tree, core.rest.now) e part.same
    ∙ ap (where_some d tokens) whole ∙ some_there d tokens (found_of declarator_tree r) less in
    let new_is : new ≡ after names (declarator_tree r.tree) = stack.names ∙ rw known_is (sym (names_are names)) in
    record {
      same = sym rule;
      height = high;
      names = subst (λ p. AreAfter names new p) (sym rule) new_is;
      shorter = less;
    }
