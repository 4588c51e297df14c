use Rattle.std.proofs.Common.{◌∙◌, map, refl, arith}
use Rattle.c_tree.specs.Views.{specifier_tree}
use Rattle.c_parse_base.specs.Purposes.{purpose_of}
use Rattle.c_parse_attributes.specs.TypesAtDepth.{all_specifiers, specifier_rule}
use Rattle.c_parse_base.proofs.code.Loops.{begun, read_on, read_end}
use Rattle.c_parse_members.proofs.code.Specifying.{before_grown, fewer_left, specifiers_go_on, specifiers_stop}
use Rattle.c_parse_types.proofs.type_names.specifiers_at.Goals as goal

pub reading-init : goal.reading-init
unfolding all_specifiers
reading-init g c = (refl, rw c.new-found.ensures.items (begun specifier_tree _ _ _ _ _ c.flat-height.ensures.exact), rw c.new-found.ensures.items refl, rw c.new-found.ensures.items (omega arith))

pub reading-preserved : goal.reading-preserved
reading-preserved g c =
    let i = c.reading.invariant in
    let some = rw c.in-Some.is at c.in_ok-next.ensures.found in (
      c.in_ok-next.ensures.kept ∙ i.0,
      read_on specifier_tree _ _ _ _ _ _ _ _ _ _ _ _ c.in-Some.next _ i.1 (rw i.2 at rw c.in-Some.is at c.in_ok-next.ensures.found)
          (specifiers_go_on (g.B.Below.depth c.args.below.now) (specifier_rule (g.B.Below.depth c.args.below.now)) (purpose_of c.args.purpose) (map specifier_tree c.reading.found.items) _ c.reading.rest.now) c.in_ok-push.ensures.items c.deeper-height.ensures.exact,
      before_grown _ _ _ _ _ i.2 c.in_ok-push.ensures.items c.before_next-before.ensures,
      fewer_left c.args.tokens.now c.reading.rest.now _ c.reading.found.items _ c.in-Some.next.tree i.3 some.shorter c.in_ok-push.ensures.items,
    )

pub returns-clause-found : goal.returns-clause-found
returns-clause-found g c =
    let i = c.reading.invariant in
    read_end specifier_tree _ _ _ _ _ _ _ _ _ _ _ _ i.1 (rw i.2 at rw c.in_default.is at c.in_ok-next.ensures.found)
    (rw c.in_default.is at c.in_ok-next.ensures.unchanged) (specifiers_stop (g.B.Below.depth c.args.below.now) (specifier_rule (g.B.Below.depth c.args.below.now)) (purpose_of c.args.purpose) (map specifier_tree c.reading.found.items) _ c.reading.rest.now) c.from_vec.ensures refl refl
