use Rattle.std.proofs.Common.{◌∙◌, refl}
use Rattle.c_tree.specs.Views.{type_name_tree}
use Rattle.c_parse_attributes.specs.TypesAtDepth.{all_parameters}
use Rattle.c_parse_declarators.proofs.code.Declaring.{listed_begins, listed_goes_on, listed_ends}
use Rattle.c_parse_attributes.proofs.code.TypeRounds.{parameters_go_on, parameters_stop}
use Rattle.c_parse_declarators.proofs.suffixes.more_parameters.Goals as goal

pub reading-init : goal.reading-init
unfolding all_parameters
reading-init g c = (refl, listed_begins type_name_tree _ _ _ _ _ c.requires.height)

pub reading-preserved : goal.reading-preserved
reading-preserved g c =
    let i = c.reading.invariant in (
      c.in_ok-next.ensures.kept ∙ i.0,
      listed_goes_on type_name_tree _ _ _ _ _ _ _ _ _ _ c.in-Some.next _ i.1 (rw c.in-Some.is at c.in_ok-next.ensures.found)
          (parameters_go_on _ _ _ _) c.in_ok-push.ensures.items c.deeper-height.ensures.exact,
    )

pub returns-clause-found : goal.returns-clause-found
returns-clause-found g c =
    let i = c.reading.invariant in
    listed_ends type_name_tree _ _ _ _ _ _ _ _ _ _ i.1 (rw c.in_default.is at c.in_ok-next.ensures.found)
    (parameters_stop _ _ _ _) c.from_vec.ensures refl refl
