use Rattle.c_tree.specs.Views.{tree_of}
use Rattle.c_parse_postfix.specs.AtDepth.{comma_at, comma_of}
use Rattle.c_parse_base.specs.Reads.{found_of}
use Rattle.c_parse_operators.proofs.code.Extending.{loose, no_commas, no_depth, with_commas, unchanged}
use Rattle.c_parse_postfix.proofs.code.Growing.{put_together, tested}
use Rattle.c_parse_operators.proofs.expression.comma_at.Goals as goal

pub returns-then-least-gt0-clause-found : goal.returns-then-least-gt0-clause-found
returns-then-least-gt0-clause-found g c = λ before known.
    unchanged _ before _ c.args.first (no_commas _ _ _ before (found_of tree_of c.args.first) c.if-least-gt0.true) c.requires.height known

pub returns-then-not-within-clause-found : goal.returns-then-not-within-clause-found
returns-then-not-within-clause-found g c = λ before known.
    unchanged _ before _ c.args.first
    (no_depth _ _ _ before (found_of tree_of c.args.first) (loose _ _ c.if-least-gt0.false)
    (tested _ _ _ _ _ _ c.within.ensures.exact c.depth.ensures.same c.requires.height c.if-not-within.true)) c.requires.height known

pub returns-clause-found : goal.returns-clause-found
returns-clause-found g c =
    put_together tree_of tree_of c.comma_of.result c.args.first c.in_ok-more.more
    (comma_of (g.B.Below.depth c.args.below.now) c.args.span) _
    (λ before. comma_at (g.B.Below.depth c.args.below.now) c.args.least c.args.span before (found_of tree_of c.args.first)) _ _
    (c.comma_of.ensures.same (g.B.Below.depth c.args.below.now)) c.comma_of.ensures.height c.comma_of.ensures.names c.comma_of.ensures.shorter
    (rw c.new.ensures.items at c.in_ok-more.ensures.found)
    (λ before known. with_commas _ _ c.args.span _ _ before (loose _ _ c.if-least-gt0.false)
    (tested _ _ _ _ _ _ c.within.ensures.exact c.depth.ensures.same c.requires.height c.if-not-within.false) known)
