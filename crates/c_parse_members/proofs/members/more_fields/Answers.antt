use Rattle.std.proofs.Common.{◌∙◌, refl}
use Rattle.c_tree.specs.Views.{field_tree}
use Rattle.c_parse_base.specs.Purposes.{before_of}
use Rattle.c_parse_attributes.specs.TypesAtDepth.{all_fields}
use Rattle.c_parse_base.proofs.code.Loops.{begun, read_on, read_end}
use Rattle.c_parse_attributes.proofs.code.TypeRounds.{fields_go_on, fields_stop}
use Rattle.c_parse_members.proofs.members.more_fields.Goals as goal

pub reading-init : goal.reading-init
unfolding all_fields
reading-init g c = (refl, begun field_tree _ _ _ _ _ c.requires.height)

pub reading-preserved : goal.reading-preserved
reading-preserved g c =
    let i = c.reading.invariant in (
      c.in_ok-next.ensures.kept ∙ i.0,
      read_on field_tree _ _ _ _ _ _ _ _ _ _ _ _ c.in-Some.next _ i.1 (rw c.in-Some.is at c.in_ok-next.ensures.found)
          (fields_go_on _ (before_of c.args.before) _ _ _) c.in_ok-push.ensures.items c.deeper-height.ensures.exact,
    )

pub returns-clause-found : goal.returns-clause-found
returns-clause-found g c =
    let i = c.reading.invariant in
    read_end field_tree _ _ _ _ _ _ _ _ _ _ _ _ i.1 (rw c.in_default.is at c.in_ok-next.ensures.found)
    (rw c.in_default.is at c.in_ok-next.ensures.unchanged) (fields_stop _ (before_of c.args.before) _ _ _) c.from_vec.ensures refl refl
