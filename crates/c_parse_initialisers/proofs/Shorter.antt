-- What stands in no rule takes a token at least.
use Rattle.std.proofs.Common.{◌≡◌, ℕ, ◌<◌, ◌≤◌, List, length, Option, None, Some, Result, Ok, Err, Bor}
use Rattle.std.specs.Prelude.{IfOk, IfSome, map, option_map}
use Rattle.c_base.specs.declared.token.Token.{Token}
use Rattle.c_tree.specs.declared.tree.Declarator.{Declarator}
use Rattle.c_tree.specs.declared.tree.Expr.{Expr}
use Rattle.c_tree.specs.declared.tree.Specifier.{Specifier}
use Rattle.c_tree.specs.Spelling.{pieces, pieces_of_all}
use Rattle.c_tree.specs.Views.{declarator_tree, specifiers_of, tree_of}
use Rattle.c_tree.specs.WellFormed.{ForName, Names, Before, Untyped}
use Rattle.c_parse_rules.specs.Declaring.{AreSpecifiersRead, IsDeclaratorRead}
use Rattle.c_parse_rules.specs.Promises.{IsExprRead}
use Rattle.c_parse_rules.proofs.types.Begins.{begins_declarator, declarator_words}
use Rattle.c_parse_rules.proofs.types.Words.{Fit, shorter}
use Rattle.c_parse_base.specs.declared.purpose.Before.{Before as CodeBefore}
use Rattle.c_grammar.proofs.Words.{expr_start, specifiers_start}

pub expr_shorter : {E : Type 0} (least depth : ℕ) (old new : Names) (tokens : List Token) (result : Result (Option (Expr × Bor (List Token))) E) →
    IfOk result (λ r. IsExprRead least depth old new tokens (option_map (λ f. (tree_of f.0, f.1.now)) r)) → IfOk result (λ r. IfSome r (λ f. length f.1.now < length tokens))
expr_shorter least depth old new tokens (Ok None) h = tt
expr_shorter least depth old new tokens (Ok (Some f)) h =
    let front = h.0.longest.front in let within = front.within in
    let b = expr_start old (tree_of f.0) {tokens = tokens} {rest = f.1.now} within.shape (record { is = front.words }) in b.less
expr_shorter least depth old new tokens (Err e) h = tt

pub specifiers_shorter : {E : Type 0} (depth : ℕ) (old new : Names) (tokens : List Token) (result : Result (Option (List Specifier × CodeBefore × Bor (List Token))) E) →
    IfOk result (λ r. AreSpecifiersRead ForName depth old new tokens (option_map (λ f. (specifiers_of f.0, f.2.now)) r)) → IfOk result (λ r. IfSome r (λ f. length f.2.now < length tokens))
specifiers_shorter depth old new tokens (Ok None) h = tt
specifiers_shorter depth old new tokens (Ok (Some f)) h =
    let front = h.0.front in
    (specifiers_start old Untyped (specifiers_of f.0) {tokens = tokens} {rest = f.2.now} front.there front.shape (record { is = front.words })).1
specifiers_shorter depth old new tokens (Err e) h = tt

pub declarator_shorter : {E : Type 0} (depth : ℕ) (before : Before) (old new : Names) (tokens : List Token) (result : Result (Option (Declarator × Bor (List Token))) E) →
    IfOk result (λ r. IsDeclaratorRead ForName depth before old new tokens (option_map (λ f. (declarator_tree f.0, f.1.now)) r)) →
    IfOk result (λ r. IfSome r (λ f. length f.1.now < length tokens))
declarator_shorter depth before old new tokens (Ok None) h = tt
declarator_shorter depth before old new tokens (Ok (Some f)) h =
    let front = h.0.front in
    let fit : Fit (pieces (declarator_tree f.0)) tokens f.1.now = record { is = front.words } in
    shorter begins_declarator (declarator_words ForName old before (declarator_tree f.0) front.shape) fit
declarator_shorter depth before old new tokens (Err e) h = tt
