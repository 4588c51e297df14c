-- Members from their parts.
use Rattle.std.proofs.Common.{◌≡◌, ℕ, ◌<◌, ◌≤◌, List, [], length, map, Option, None, Some, Result, Ok, Err, IfOk, refl, sym, ap, ◌∙◌, arith}
use Rattle.c_base.specs.declared.number.Span.{Span}
use Rattle.c_base.specs.declared.token.Punctuator.TheVariants as mark
use Rattle.c_base.specs.declared.token.Token.{Token}
use Rattle.c_tree.specs.declared.tree.Expr.{Expr}
use Rattle.c_tree.specs.declared.tree.Field.{Field}
use Rattle.c_tree.specs.declared.tree.Member.{Member}
use Rattle.c_tree.specs.declared.tree.Specifier.{Specifier}
use Rattle.c_tree.specs.Views.{field_tree, fields_of, listed, member_tree, specifier_tree, specifiers_of, tree_of}
use Rattle.c_tree.specs.WellFormed.{Names, Before, Untyped, Purpose, ForName, after, after_all, before_end}
use Rattle.c_parse_attributes.proofs.code.Narrowing.{named, narrowed}
use Rattle.c_parse_rules.specs.Parsers.{expr_at, specifier_at, specifiers_at}
use Rattle.c_parse_base.specs.Reads.{AreFound, IsFound}
use Rattle.c_parse_rules.specs.Rules.{Found, Several}
use Rattle.c_parse_rules.specs.Tokens.{behind_mark}
use Rattle.c_parse_rules.specs.TypeRules as types
use Rattle.c_parse_rules.specs.TypeRules.{Specifiers}
use Rattle.c_parse_attributes.specs.TypesAtDepth.{all_specifiers, assertion_at, assertion_end, fields_at, fields_from, some_specifiers}
use Rattle.c_parse_attributes.specs.TypesAtDepth.{fields_of as fields_end}
use Rattle.c_parse_base.specs.declared.found.Found.{Found as CodeFound}
use Rattle.c_parse_base.specs.declared.found.Several.{Several as CodeSeveral}

-- specifiers, where there is one
pub specifiers_are : (d : ℕ) (read : Specifiers) (purpose : Purpose) (names known : Names) (tokens : List Token) (found : CodeSeveral Specifier) (answer : Option Several) →
    AreFound specifier_tree [] (all_specifiers d read purpose names tokens) names known tokens found →
    some_specifiers d read (map specifier_tree found.trees, found.rest.now) ≡ answer → specifiers_at d read purpose names tokens ≡ answer
unfolding types.specifiers_at all_specifiers
specifiers_are d read purpose names known tokens found answer f h = rw (sym f.same) h

pub fields_none : (d : ℕ) (span : Span) (names : Names) (tokens : List Token) → specifiers_at d (specifier_at d) ForName names tokens ≡ None → fields_at d span names tokens ≡ None
unfolding types.fields_at
fields_none d span names tokens h = rw h refl

fields_some : (d : ℕ) (span : Span) (names : Names) (tokens : List Token) (s : Several) (before : Before) → specifiers_at d (specifier_at d) ForName names tokens ≡ Some s →
    before ≡ before_end Untyped (listed s.0) → fields_at d span names tokens ≡ fields_end d span s (fields_from d before (after_all names (listed s.0)) s.1)
unfolding types.fields_at
fields_some d span names tokens s before h b = rw (h, b) refl

pub fields_read : (d : ℕ) (span : Span) (before : Before) (names known new : Names) (tokens : List Token) (found : CodeSeveral Specifier) (fields : CodeSeveral Field)
    (r : Option (CodeFound Member)) →
    AreFound specifier_tree [] (all_specifiers d (specifier_at d) ForName names tokens) names known tokens found →
    some_specifiers d (specifier_at d) (map specifier_tree found.trees, found.rest.now) ≡ Some (map specifier_tree found.trees, found.rest.now) →
    before ≡ before_end Untyped (specifiers_of found.trees) →
    AreFound field_tree [] (fields_from d before known found.rest.now) known new found.rest.now fields →
    IsFound member_tree (fields_end d span (map specifier_tree found.trees, found.rest.now) (map field_tree fields.trees, fields.rest.now)) names
    (after_all (after_all names (specifiers_of found.trees)) (fields_of fields.trees)) fields.rest.now r →
    IsFound member_tree (fields_at d span names tokens) names new tokens r
fields_read d span before names known new tokens found fields r f some b more end =
    let known_is : known ≡ after_all names (specifiers_of found.trees) = f.names names refl in
    let same : (map field_tree fields.trees, fields.rest.now) ≡ fields_from d before (after_all names (specifiers_of found.trees)) found.rest.now = rw known_is at more.same in
    let short : length found.rest.now ≤ length tokens = f.shorter in
    let shorter : length fields.rest.now ≤ length found.rest.now = more.shorter in
    narrowed member_tree _ _ names _ _ _ _ r end
    (fields_some d span names tokens (map specifier_tree found.trees, found.rest.now) before
    (specifiers_are d (specifier_at d) ForName names known tokens found _ f some) b
    ∙ ap (fields_end d span (map specifier_tree found.trees, found.rest.now)) (sym same))
    (more.names (after_all names (specifiers_of found.trees)) known_is) (omega arith)

assertion_some : (d : ℕ) (span : Span) (names : Names) (tokens inside : List Token) (c : Found) → Some inside ≡ behind_mark mark.OpenParenthesis tokens →
    Some c ≡ expr_at d names 2 inside → assertion_at d span names tokens ≡ assertion_end span c.0 c.1
unfolding types.assertion_at
assertion_some d span names tokens inside c e h = rw (← e, ← h) refl

pub assertion_read : {E : Type 0} (d : ℕ) (span : Span) (names new : Names) (tokens inside : List Token) (condition : CodeFound Expr)
    (result : Result (Option (CodeFound Member)) E) →
    Some inside ≡ behind_mark mark.OpenParenthesis tokens → length inside < length tokens →
    IsFound tree_of (expr_at d names 2 inside) names new inside (Some condition) →
    IfOk result (λ r. IsFound member_tree (assertion_end span (tree_of condition.tree) condition.rest.now) names (after names (tree_of condition.tree)) condition.rest.now r) →
    IfOk result (λ r. IsFound member_tree (assertion_at d span names tokens) names new tokens r)
assertion_read d span names new tokens inside condition (Err e) at less one end = tt
assertion_read d span names new tokens inside condition (Ok r) at less one end =
    let shorter : length condition.rest.now < length inside = one.shorter in
    narrowed member_tree _ _ names _ _ _ _ r end
    (assertion_some d span names tokens inside (tree_of condition.tree, condition.rest.now) at one.same) (named tree_of _ _ _ _ condition one) (omega arith)
