use Rattle.std.proofs.Common.{◌∙◌, refl}
use Rattle.c_tree.specs.Views.{enumerator_tree}
use Rattle.c_parse_attributes.specs.TypesAtDepth.{all_enumerators}
use Rattle.c_parse_base.proofs.code.Loops.{begun, read_on, read_end}
use Rattle.c_parse_attributes.proofs.code.TypeRounds.{enumerators_go_on, enumerators_stop}
use Rattle.c_parse_members.proofs.enums.more_enumerators.Goals as goal

pub reading-init : goal.reading-init
unfolding all_enumerators
reading-init g c = (refl, begun enumerator_tree _ _ _ _ _ c.requires.height)

pub reading-preserved : goal.reading-preserved
reading-preserved g c =
    let i = c.reading.invariant in (
      c.in_ok-next.ensures.kept ∙ i.0,
      read_on enumerator_tree _ _ _ _ _ _ _ _ _ _ _ _ c.in-Some.next _ i.1 (rw c.in-Some.is at c.in_ok-next.ensures.found)
          (enumerators_go_on _ _ _ _) c.in_ok-push.ensures.items c.deeper-height.ensures.exact,
    )

pub returns-clause-found : goal.returns-clause-found
returns-clause-found g c =
    let i = c.reading.invariant in
    read_end enumerator_tree _ _ _ _ _ _ _ _ _ _ _ _ i.1 (rw c.in_default.is at c.in_ok-next.ensures.found)
    (rw c.in_default.is at c.in_ok-next.ensures.unchanged) (enumerators_stop _ _ _ _) c.from_vec.ensures refl refl
