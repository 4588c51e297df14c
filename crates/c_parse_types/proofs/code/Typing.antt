-- A type name from its parts.
use Rattle.std.proofs.Common.{◌≡◌, ℕ, ◌+◌, ◌<◌, ◌≤◌, List, [], ◌∷◌, length, map, Option, None, Some, option_map, refl, sym, ◌∙◌, subst, arith}
use Rattle.std.specs.Prelude.{IfSome}
use Rattle.c_base.specs.declared.number.Span.{Span}
use Rattle.c_base.specs.declared.token.Token.{Token}
use Rattle.c_tree.specs.declared.tree.Declarator.{Declarator}
use Rattle.c_tree.specs.declared.tree.Specifier.{Specifier}
use Rattle.c_tree.specs.declared.tree.TypeName.{TypeName}
use Rattle.c_tree.specs.Trees.{Tree}
use Rattle.c_tree.specs.Trees as plain
use Rattle.c_tree.specs.Views.{declarator_tree, listed, optional_declarator, specifier_tree, specifiers_of, type_name_tree}
use Rattle.c_tree.specs.WellFormed.{Names, Before, Untyped, Purpose, after, after_all, before_end}
use Rattle.c_parse_attributes.proofs.code.Membership.{specifiers_are}
use Rattle.c_parse_attributes.proofs.code.Narrowing.{absent, named}
use Rattle.c_parse_rules.specs.Parsers.{declarator_at, specifiers_at}
use Rattle.c_parse_base.specs.Reads.{found_of, AreAfter, AreFound, IsFound, Measured}
use Rattle.c_parse_rules.specs.Rules.{Found, Several}
use Rattle.c_parse_rules.specs.TypeRules as types
use Rattle.c_parse_rules.specs.TypeRules.{first_span}
use Rattle.c_parse_attributes.specs.TypesAtDepth.{all_specifiers, measured, some_specifiers, specifier_rule, type_of, type_rule}
use Rattle.c_parse_base.specs.declared.found.Found.{Found as CodeFound}
use Rattle.c_parse_base.specs.declared.found.Several.{Several as CodeSeveral}

pub type_none : (d : ℕ) (purpose : Purpose) (names : Names) (tokens : List Token) → specifiers_at d (specifier_rule d) purpose names tokens ≡ None → type_rule d purpose names tokens ≡ None
unfolding types.type_rule
type_none d purpose names tokens h = rw h refl

-- what the code measures, from what it found
measured_is : (view : TypeName → Tree) (plain : Option Found) (old new : Names) (tokens rest : List Token) (parts : Names) (r : Option (CodeFound TypeName)) →
    option_map (found_of view) r ≡ plain → Measured view r → IfSome r (λ f. f.rest.now ≡ rest) → IfSome r (λ f. after old (view f.tree) ≡ parts) →
    new ≡ parts → length rest < length tokens → IsFound view plain old new tokens r
measured_is view plain old new tokens rest parts None same high left names known less = absent view plain old new tokens (sym same)
measured_is view plain old new tokens rest parts (Some f) same high left names known less = record {
  same = same;
  height = high;
  names = subst (λ p. AreAfter old new p) same (known ∙ sym names);
  shorter = rw left less;
}

type_is : (d : ℕ) (purpose : Purpose) (before : Before) (names : Names) (tokens : List Token) (s : Several) → specifiers_at d (specifier_rule d) purpose names tokens ≡ Some s →
    before ≡ before_end Untyped (listed s.0) →
    type_rule d purpose names tokens
    ≡ type_of d (first_span (record { line = 0; col = 0 }) tokens) s (declarator_at d purpose (after_all names (listed s.0)) before s.1)
unfolding types.type_rule
type_is d purpose before names tokens s h b = rw (h, b) refl

not_all : (d : ℕ) (found : List Specifier) (rest tokens : List Token) →
    some_specifiers d (specifier_rule d) (map specifier_tree found, rest) ≡ Some (map specifier_tree found, rest) → length rest + length found ≤ length tokens → length rest < length tokens
not_all d [] rest tokens some few = cc
not_all d (x ∷ found) rest tokens some few = omega arith

-- what stands behind specifiers is no declarator
pub type_without : (d : ℕ) (purpose : Purpose) (before : Before) (span : Span) (names known new : Names) (tokens : List Token) (found : CodeSeveral Specifier)
    (r : Option (CodeFound TypeName)) →
    AreFound specifier_tree [] (all_specifiers d (specifier_rule d) purpose names tokens) names known tokens found →
    some_specifiers d (specifier_rule d) (map specifier_tree found.trees, found.rest.now) ≡ Some (map specifier_tree found.trees, found.rest.now) →
    before ≡ before_end Untyped (specifiers_of found.trees) → length found.rest.now + length found.trees ≤ length tokens →
    span ≡ first_span (record { line = 0; col = 0 }) tokens →
    IsFound declarator_tree (declarator_at d purpose known before found.rest.now) known new found.rest.now None → new ≡ known →
    option_map (found_of type_name_tree) r ≡ measured d (plain.TypeName span (specifiers_of found.trees) (optional_declarator None)) found.rest.now →
    Measured type_name_tree r → IfSome r (λ f. f.rest.now ≡ found.rest.now) →
    IfSome r (λ f. (old : Names) → after old (type_name_tree f.tree) ≡ after_all (after_all old (specifiers_of found.trees)) (optional_declarator None)) →
    IsFound type_name_tree (type_rule d purpose names tokens) names new tokens r
type_without d purpose before span names known new tokens found r f some b few place none same_names same high left behind =
    let known_is : known ≡ after_all names (specifiers_of found.trees) = f.names names refl in
    let whole : type_rule d purpose names tokens ≡ measured d (plain.TypeName span (specifiers_of found.trees) (optional_declarator None)) found.rest.now =
    type_is d purpose before names tokens (map specifier_tree found.trees, found.rest.now) (specifiers_are d (specifier_rule d) purpose names known tokens found _ f some) b
    ∙ rw (← known_is, ← none.same, ← place) refl in
    measured_is type_name_tree _ names new tokens found.rest.now (after_all (after_all names (specifiers_of found.trees)) (optional_declarator None)) r
    (same ∙ sym whole) high left (at_names r behind) (same_names ∙ known_is) (not_all d found.trees found.rest.now tokens some few) where
      at_names : (r : Option (CodeFound TypeName)) →
          IfSome r (λ f. (old : Names) → after old (type_name_tree f.tree) ≡ after_all (after_all old (specifiers_of found.trees)) (optional_declarator None)) →
          IfSome r (λ f. after names (type_name_tree f.tree) ≡ after_all (after_all names (specifiers_of found.trees)) (optional_declarator None))
      at_names None h = tt
      at_names (Some f) h = h names

-- a declarator
pub type_with : (d : ℕ) (purpose : Purpose) (before : Before) (span : Span) (names known new : Names) (tokens : List Token) (found : CodeSeveral Specifier)
    (declarator : CodeFound Declarator) (r : Option (CodeFound TypeName)) →
    AreFound specifier_tree [] (all_specifiers d (specifier_rule d) purpose names tokens) names known tokens found →
    some_specifiers d (specifier_rule d) (map specifier_tree found.trees, found.rest.now) ≡ Some (map specifier_tree found.trees, found.rest.now) →
    before ≡ before_end Untyped (specifiers_of found.trees) →
    span ≡ first_span (record { line = 0; col = 0 }) tokens →
    IsFound declarator_tree (declarator_at d purpose known before found.rest.now) known new found.rest.now (Some declarator) →
    option_map (found_of type_name_tree) r ≡ measured d (plain.TypeName span (specifiers_of found.trees) (optional_declarator (Some declarator.tree))) declarator.rest.now →
    Measured type_name_tree r → IfSome r (λ f. f.rest.now ≡ declarator.rest.now) →
    IfSome r (λ f. (old : Names) → after old (type_name_tree f.tree) ≡ after_all (after_all old (specifiers_of found.trees)) (optional_declarator (Some declarator.tree))) →
    IsFound type_name_tree (type_rule d purpose names tokens) names new tokens r
type_with d purpose before span names known new tokens found declarator r f some b place one same high left behind =
    let known_is : known ≡ after_all names (specifiers_of found.trees) = f.names names refl in
    let new_is : new ≡ after known (declarator_tree declarator.tree) = named declarator_tree _ _ _ _ declarator one in
    let whole : type_rule d purpose names tokens ≡ measured d (plain.TypeName span (specifiers_of found.trees) (optional_declarator (Some declarator.tree))) declarator.rest.now =
    type_is d purpose before names tokens (map specifier_tree found.trees, found.rest.now) (specifiers_are d (specifier_rule d) purpose names known tokens found _ f some) b
    ∙ rw (← known_is, ← one.same, ← place) refl in
    let short : length found.rest.now ≤ length tokens = f.shorter in
    let shorter : length declarator.rest.now < length found.rest.now = one.shorter in
    measured_is type_name_tree _ names new tokens declarator.rest.now (after_all (after_all names (specifiers_of found.trees)) (optional_declarator (Some declarator.tree))) r
    (same ∙ sym whole) high left (at_names r behind) (new_is ∙ rw known_is refl) (omega arith) where
      at_names : (r : Option (CodeFound TypeName)) →
          IfSome r (λ f. (old : Names) → after old (type_name_tree f.tree) ≡ after_all (after_all old (specifiers_of found.trees)) (optional_declarator (Some declarator.tree))) →
          IfSome r (λ f. after names (type_name_tree f.tree) ≡ after_all (after_all names (specifiers_of found.trees)) (optional_declarator (Some declarator.tree)))
      at_names None h = tt
      at_names (Some f) h = h names
