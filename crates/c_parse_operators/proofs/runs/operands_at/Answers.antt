use Rattle.std.proofs.Common.{◌∙◌, refl}
use Rattle.c_tree.specs.Views.{operand_tree}
use Rattle.c_parse_postfix.specs.AtDepth.{all_operands}
use Rattle.c_parse_base.proofs.code.Loops.{begun, read_on, read_end}
use Rattle.c_parse_postfix.proofs.code.Rounds.{operands_go_on, operands_stop}
use Rattle.c_parse_operators.proofs.runs.operands_at.Goals as goal

pub reading-init : goal.reading-init
unfolding all_operands
reading-init g c = (refl, rw c.new-found.ensures.items (begun operand_tree _ _ _ _ _ c.flat-height.ensures.exact))

pub reading-preserved : goal.reading-preserved
reading-preserved g c =
    let i = c.reading.invariant in (
      c.in_ok-next.ensures.kept ∙ i.0,
      read_on operand_tree _ _ _ _ _ _ _ _ _ _ _ _ c.in-Some.next _ i.1 (rw c.in-Some.is at c.in_ok-next.ensures.found)
          (operands_go_on _ _ _ _ _) c.in_ok-push.ensures.items c.deeper-height.ensures.exact,
    )

pub returns-clause-found : goal.returns-clause-found
returns-clause-found g c =
    let i = c.reading.invariant in
    read_end operand_tree _ _ _ _ _ _ _ _ _ _ _ _ i.1 (rw c.in_default.is at c.in_ok-next.ensures.found)
    (rw c.in_default.is at c.in_ok-next.ensures.unchanged) (operands_stop _ _ _ _ _) c.from_vec.ensures refl refl
