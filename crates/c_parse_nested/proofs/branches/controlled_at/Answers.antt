use Rattle.std.proofs.Common.{[], ◌∷◌, None, Some, ◌∙◌, ap, refl}
use Rattle.grammar.specs.Forms.{Form, Key}
use Rattle.grammar.specs.Reading.{with_kid}
use Rattle.c_grammar.specs.Leaves.{C}
use Rattle.c_grammar.specs.Table.{branch, parenthesised}
use Rattle.c_unit_tree.specs.Views.{expr_value}
use Rattle.c_tree.specs.declared.tree.Expr.{Expr}
use Rattle.c_parse_nested.proofs.Steps.{ahead_as}
use Rattle.c_parse_nested.proofs.branches.controlled_at.Goals as goal

pub returns-in-None-clause-found : goal.returns-in-None-clause-found
returns-in-None-clause-found g c = λ more.
    ahead_as {T = Expr} (λ e. expr_value e ∷ []) (λ (f : Form C). Key c.args.keyword (parenthesised f)) {old = c.args.names.now.names} {before = c.args.names.now.names} c.args.names.now.names c.args.tokens.now None
    c.depth.ensures.same refl (rw c.in-None.is at c.in_ok-tested_at.ensures.found) (branch more)

pub returns-in-None-2-clause-found : goal.returns-in-None-2-clause-found
returns-in-None-2-clause-found g c = λ more.
    ap (with_kid C (expr_value c.in-Some.control)) ((rw c.in-None-2.is at c.in_ok-branch_at-in-Some.ensures.found) more)
    ∙ ahead_as {T = Expr} (λ e. expr_value e ∷ []) (λ (f : Form C). Key c.args.keyword (parenthesised f)) {old = c.args.names.now.names} {before = c.args.names.now.names} c.tested_at.new.names.names c.args.tokens.now
    (Some (c.in-Some.control, c.in-Some.behind)) c.depth.ensures.same refl (rw c.in-Some.is at c.in_ok-tested_at.ensures.found) (branch more)

pub returns-in-Some-2-clause-found : goal.returns-in-Some-2-clause-found
returns-in-Some-2-clause-found g c = λ more.
    rw c.branch_at.ensures.same
    (ap (with_kid C (expr_value c.in-Some.control)) ((rw c.in-Some-2.is at c.in_ok-branch_at-in-Some.ensures.found) more)
    ∙ ahead_as {T = Expr} (λ e. expr_value e ∷ []) (λ (f : Form C). Key c.args.keyword (parenthesised f)) {old = c.args.names.now.names} {before = c.args.names.now.names} c.tested_at.new.names.names c.args.tokens.now
    (Some (c.in-Some.control, c.in-Some.behind)) c.depth.ensures.same refl (rw c.in-Some.is at c.in_ok-tested_at.ensures.found) (branch more))
