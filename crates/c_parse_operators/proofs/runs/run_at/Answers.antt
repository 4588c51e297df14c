use Rattle.c_tree.specs.Views.{tree_of, operand_tree}
use Rattle.c_parse_postfix.specs.AtDepth.{run_at, run_of}
use Rattle.c_parse_base.specs.Reads.{found_of}
use Rattle.c_parse_postfix.proofs.code.Growing.{put_together, tested, with_operands}
use Rattle.c_parse_operators.proofs.runs.run_at.Goals as goal

pub returns-clause-found : goal.returns-clause-found
returns-clause-found g c =
    put_together tree_of operand_tree c.run_of.result c.args.first c.in_ok-more.more
    (run_of (g.B.Below.depth c.args.below.now) c.args.span) _
    (λ before. run_at (g.B.Below.depth c.args.below.now) c.args.level c.args.span before (found_of tree_of c.args.first)) _ _
    (c.run_of.ensures.same (g.B.Below.depth c.args.below.now)) c.run_of.ensures.height c.run_of.ensures.names c.run_of.ensures.shorter c.in_ok-more.ensures.found
    (λ before known. with_operands _ c.args.level c.args.span _ _ before (tested _ _ _ _ _ _ c.within.ensures.exact c.depth.ensures.same c.requires.height c.if-not-within.false) known)
