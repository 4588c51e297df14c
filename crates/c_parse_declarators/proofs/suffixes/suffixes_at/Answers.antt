use Rattle.std.proofs.Common.{◌∙◌, refl}
use Rattle.c_tree.specs.Views.{suffix_tree}
use Rattle.c_parse_attributes.specs.TypesAtDepth.{all_suffixes}
use Rattle.c_parse_declarators.proofs.code.Stacks.{stack_begins, stack_goes_on, stack_ends}
use Rattle.c_parse_attributes.proofs.code.TypeRounds.{suffixes_go_on, suffixes_stop}
use Rattle.c_parse_declarators.proofs.suffixes.suffixes_at.Goals as goal

pub reading-init : goal.reading-init
unfolding all_suffixes
reading-init g c = (refl, rw c.new-found.ensures.items (stack_begins suffix_tree _ _ _ _ _ c.flat-height.ensures.exact c.flat-count.ensures.exact))

pub reading-preserved : goal.reading-preserved
reading-preserved g c =
    let i = c.reading.invariant in (
      c.in_ok-next.ensures.kept ∙ i.0,
      stack_goes_on suffix_tree _ _ _ _ _ _ _ _ _ _ _ _ _ c.in-Some.next _ i.1 (rw c.in-Some.is at c.in_ok-next.ensures.found)
          (suffixes_go_on _ _ _ _) c.in_ok-push.ensures.items c.stacked-height.ensures.exact c.above-count.ensures.exact,
    )

pub returns-clause-found : goal.returns-clause-found
returns-clause-found g c =
    let i = c.reading.invariant in
    stack_ends suffix_tree _ _ _ _ _ _ _ _ _ _ _ _ i.1 (rw c.in_default.is at c.in_ok-next.ensures.found)
    (rw c.in_default.is at c.in_ok-next.ensures.unchanged) (suffixes_stop _ _ _ _) c.from_vec.ensures refl refl
