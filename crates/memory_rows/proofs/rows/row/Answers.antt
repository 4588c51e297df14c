use Rattle.std.proofs.Common.{◌∙◌, ap}
use Rattle.std.specs.Prelude.{map}
use Rattle.ptree.specs.Entries.{entries_from}
use Rattle.map_rows.specs.Entries.{plain_entry}
use Rattle.memory_rows.proofs.Shapes.{row_is}
use Rattle.memory_rows.proofs.Gathering.{gathers_begin, next_number, gathers_next, gathers_end}
use Rattle.memory_rows.proofs.Meaning.{is_sound, is_exact}
use Rattle.memory_rows.proofs.rows.row.Goals as goal

pub loop-key-init : goal.loop-key-init
loop-key-init g c = (
  tt,
  tt,
  gathers_begin (g.P.Shown.shown c.args.shown.now) c.args.memory.now.0 c.into_iter-key-iterator.result (map plain_entry c.new-all.result) c.facts.ensures.2
      (c.into_iter-key-iterator.ensures.into_iter_gives ∙ c.walk-key-items.ensures ∙ ap (λ m. entries_from m 0) c.bases.ensures.value) (ap (map plain_entry) c.new-all.ensures),
)

pub add_entries-requires : goal.add_entries-requires
add_entries-requires g c =
    next_number (g.P.Shown.shown c.args.shown.now) c.args.memory.now.0 c.in-Some.key c.in-Some.object.now c.loop-key.key-iterator c.next.new.self (map plain_entry c.loop-key.all) c.in-Some.ensures.steps c.loop-key.invariant.2

pub loop-key-preserved : goal.loop-key-preserved
loop-key-preserved g c = (
  tt,
  tt,
  gathers_next (g.P.Shown.shown c.args.shown.now) c.args.memory.now.0 c.in-Some.key c.in-Some.object.now c.loop-key.key-iterator c.next.new.self (map plain_entry c.loop-key.all) c.in-Some.ensures.steps c.loop-key.invariant.2 _
      c.add_entries.ensures.ranges c.in_ok-add_entries.ensures.entries,
)

pub returns-clause-value : goal.returns-clause-value
returns-clause-value g c = λ ranges h.
    row_is (g.P.Shown.shown c.args.shown.now) ranges c.args.memory.now.0 (map plain_entry c.loop-key.all)
    (gathers_end (g.P.Shown.shown c.args.shown.now) c.args.memory.now.0 c.loop-key.key-iterator (map plain_entry c.loop-key.all) c.in-None.ensures.steps.0 c.loop-key.invariant.2) h

pub returns-clause-sound : goal.returns-clause-sound
returns-clause-sound g c =
    is_sound (g.P.Shown.shown c.args.shown.now) c.args.memory.now (map plain_entry c.loop-key.all) c.facts.ensures c.bases.ensures.map.ascending
    (gathers_end (g.P.Shown.shown c.args.shown.now) c.args.memory.now.0 c.loop-key.key-iterator (map plain_entry c.loop-key.all) c.in-None.ensures.steps.0 c.loop-key.invariant.2)

pub returns-clause-exact : goal.returns-clause-exact
returns-clause-exact g c =
    is_exact (g.P.Shown.shown c.args.shown.now) c.args.memory.now (map plain_entry c.loop-key.all) c.facts.ensures c.bases.ensures.map.ascending
    (gathers_end (g.P.Shown.shown c.args.shown.now) c.args.memory.now.0 c.loop-key.key-iterator (map plain_entry c.loop-key.all) c.in-None.ensures.steps.0 c.loop-key.invariant.2)
