use Rattle.c_tree.specs.Views.{tree_of, part_tree}
use Rattle.c_parse_postfix.specs.AtDepth.{postfix_at, postfix_of}
use Rattle.c_parse_base.specs.Reads.{found_of}
use Rattle.c_parse_postfix.proofs.code.Growing.{put_together, tested, with_parts}
use Rattle.c_parse_postfix.proofs.postfix.postfix_at.Goals as goal

pub returns-clause-found : goal.returns-clause-found
returns-clause-found g c =
    put_together tree_of part_tree c.postfix_of.result c.args.first c.in_ok-parts.parts
    (postfix_of (g.B.Below.depth c.args.below.now) c.args.span) _
    (λ before. postfix_at (g.B.Below.depth c.args.below.now) c.args.span before (found_of tree_of c.args.first)) _ _
    (c.postfix_of.ensures.same (g.B.Below.depth c.args.below.now)) c.postfix_of.ensures.height c.postfix_of.ensures.names c.postfix_of.ensures.shorter c.in_ok-parts.ensures.found
    (λ before known. with_parts _ c.args.span _ _ before (tested _ _ _ _ _ _ c.within.ensures.exact c.depth.ensures.same c.requires.height c.if-not-within.false) known)
