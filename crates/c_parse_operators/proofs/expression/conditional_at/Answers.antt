use Rattle.c_tree.specs.Views.{tree_of}
use Rattle.c_parse_base.specs.Reads.{found_of}
use Rattle.c_parse_operators.proofs.code.Extending.{loose, no_branches, no_room, put_conditional, unchanged}
use Rattle.c_parse_postfix.proofs.code.Growing.{tested}
use Rattle.c_parse_operators.proofs.expression.conditional_at.Goals as goal

pub returns-then-least-gt2-clause-found : goal.returns-then-least-gt2-clause-found
returns-then-least-gt2-clause-found g c = λ before known.
    unchanged _ before _ c.args.first (no_branches _ _ _ before (found_of tree_of c.args.first) c.if-least-gt2.true) c.requires.height known

pub returns-then-not-within-clause-found : goal.returns-then-not-within-clause-found
returns-then-not-within-clause-found g c = λ before known.
    unchanged _ before _ c.args.first
    (no_room _ _ _ before (found_of tree_of c.args.first) (loose _ _ c.if-least-gt2.false)
    (tested _ _ _ _ _ _ c.within.ensures.exact c.depth.ensures.same c.requires.height c.if-not-within.true)) c.requires.height known

pub returns-clause-found : goal.returns-clause-found
returns-clause-found g c =
    put_conditional c.conditional_of.result _ _ c.args.span c.args.first c.in_ok-branches.branches _ _ c.conditional_of.ensures.same c.conditional_of.ensures.height
    c.in_ok-branches.ensures.found c.in_ok-branches.ensures.unchanged (loose _ _ c.if-least-gt2.false)
    (tested _ _ _ _ _ _ c.within.ensures.exact c.depth.ensures.same c.requires.height c.if-not-within.false)
