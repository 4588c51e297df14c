use Rattle.std.proofs.Common.{rules, ◌<◌, length}
use Rattle.grammar.proofs.Loops.{midst_on, midst_end, midst_none}
use Rattle.c_grammar.specs.Leaves.{C}
use Rattle.c_unit_tree.specs.Views.{external_kids}
use Rattle.c_parse_nested.proofs.Steps.{several_started}
use Rattle.c_parse_unit.proofs.Units.{all_read}
use Rattle.c_parse_unit.proofs.parse.externals_at.Goals as goal

pub reading-init : goal.reading-init
reading-init c = several_started external_kids _ _ _ _ _ c.new-found.ensures.items

pub reading-preserved : goal.reading-preserved
reading-preserved c =
    let less : length c.in-Some.next.now < length c.reading.rest.now = rw c.in-Some.is at c.in_ok-next_external.ensures.shorter in
    midst_on C external_kids _ _ _ _ c.reading.invariant (search rules) (rw c.in-Some.is at c.in_ok-next_external.ensures.found) less c.in_ok-push-in-Some.ensures.items

pub returns-in-None : goal.returns-in-None
returns-in-None c = record { found = midst_none C external_kids _ _ _ c.reading.invariant (search rules) (rw c.in-None.is at c.in_ok-next_external.ensures.found) }

pub returns : goal.returns
returns c =
    record {
      found = rw c.from_vec.ensures
          (all_read _ c.reading.names.names c.reading.rest.now _ (search rules) (midst_end C external_kids _ _ _ c.reading.invariant (search rules)));
    }
