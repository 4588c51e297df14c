use Rattle.std.proofs.Common.{◌∙◌, sym, ap, refl}
use Rattle.std.specs.Prelude.{map}
use Rattle.std.proofs.lemmas.List.{map-append}
use Rattle.std.proofs.lemmas.Result.{IfOk-weaker}
use Rattle.map_rows.specs.Entries.{plain_entry}
use Rattle.memory_rows.proofs.Gathering.{adds_none, adds_part}
use Rattle.memory_rows.proofs.rows.add_entries.Goals as goal

pub returns-then-not-is_shown-clause-entries : goal.returns-then-not-is_shown-clause-entries
returns-then-not-is_shown-clause-entries g c = λ ranges h.
    adds_none _ _ c.args.key ranges (g.P.Shown.shown c.args.shown.now c.args.key) (sym c.is_shown.ensures ∙ c.if-not-is_shown.true) refl

pub returns-clause-entries : goal.returns-clause-entries
returns-clause-entries g c =
    IfOk-weaker c.append.result _ _
    (λ d n ranges h.
    let s = sym c.is_shown.ensures ∙ c.if-not-is_shown.false in
    adds_part _ _ c.args.key ranges (g.P.Shown.shown c.args.shown.now c.args.key) (map plain_entry c.in_ok-part.part.0) s
    (c.in_ok-part.ensures.ranges ranges (h s)) (ap (map plain_entry) n ∙ map-append plain_entry _ c.in_ok-part.part.0)) c.append.ensures
