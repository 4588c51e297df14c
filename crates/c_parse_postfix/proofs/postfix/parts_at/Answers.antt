use Rattle.std.proofs.Common.{◌∙◌, refl}
use Rattle.c_tree.specs.Views.{part_tree}
use Rattle.c_parse_postfix.specs.AtDepth.{all_parts}
use Rattle.c_parse_base.proofs.code.Loops.{begun, read_on, read_end}
use Rattle.c_parse_postfix.proofs.code.Rounds.{parts_go_on, parts_stop}
use Rattle.c_parse_postfix.proofs.postfix.parts_at.Goals as goal

pub reading-init : goal.reading-init
unfolding all_parts
reading-init g c = (refl, rw c.new-found.ensures.items (begun part_tree _ _ _ _ _ c.flat-height.ensures.exact))

pub reading-preserved : goal.reading-preserved
reading-preserved g c =
    let i = c.reading.invariant in (
      c.in_ok-next.ensures.kept ∙ i.0,
      read_on part_tree _ _ _ _ _ _ _ _ _ _ _ _ c.in-Some.next _ i.1 (rw c.in-Some.is at c.in_ok-next.ensures.found)
          (parts_go_on _ _ _ _) c.in_ok-push.ensures.items c.deeper-height.ensures.exact,
    )

pub returns-clause-found : goal.returns-clause-found
returns-clause-found g c =
    let i = c.reading.invariant in
    read_end part_tree _ _ _ _ _ _ _ _ _ _ _ _ i.1 (rw c.in_default.is at c.in_ok-next.ensures.found)
    (rw c.in_default.is at c.in_ok-next.ensures.unchanged) (parts_stop _ _ _ _) c.from_vec.ensures refl refl
