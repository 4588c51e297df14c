use Rattle.std.proofs.Common.{◌∙◌, refl}
use Rattle.c_tree.specs.Views.{tree_of}
use Rattle.c_parse_postfix.specs.AtDepth.{all_listed}
use Rattle.c_parse_base.proofs.code.Loops.{begun, read_on, read_end}
use Rattle.c_parse_postfix.proofs.code.Rounds.{listed_goes_on, listed_stops}
use Rattle.c_parse_postfix.proofs.postfix.behind_commas.Goals as goal

pub reading-init : goal.reading-init
unfolding all_listed
reading-init g c = (refl, begun tree_of _ _ _ _ _ c.requires.height)

pub reading-preserved : goal.reading-preserved
reading-preserved g c =
    let i = c.reading.invariant in (
      c.in_ok-next.ensures.kept ∙ i.0,
      read_on tree_of _ _ _ _ _ _ _ _ _ _ _ _ c.in-Some.next _ i.1 (rw c.in-Some.is at c.in_ok-next.ensures.found)
          (listed_goes_on _ _ _ _) c.in_ok-push.ensures.items c.deeper-height.ensures.exact,
    )

pub returns-clause-found : goal.returns-clause-found
returns-clause-found g c =
    let i = c.reading.invariant in
    read_end tree_of _ _ _ _ _ _ _ _ _ _ _ _ i.1 (rw c.in_default.is at c.in_ok-next.ensures.found)
    (rw c.in_default.is at c.in_ok-next.ensures.unchanged) (listed_stops _ _ _ _) c.from_vec.ensures refl refl
