use Rattle.std.proofs.Common.{rules, arith, ◌≡◌, ◌+◌, ◌<◌, ◌≤◌, ◌∙◌, ℕ, List, [], get_or, length, ap, sym}
use Rattle.first_program.specs.Meaning.{meaning_of}
use Rattle.first_program.specs.SourceViews.{program_of}
use Rattle.eva_claim.specs.Claims.{names_of}
use Rattle.first_report.specs.Rows.{shown_all, shown_of, anything}
use Rattle.eva_report.specs.Views.{entry_of}
use Rattle.std.specs.Prelude.{map}
use Rattle.first_report.proofs.Entries.{row_step, row_end, item_default, shown_at, length-shown, variable_named}
use Rattle.first_report.proofs.build.make_row.Goals as goal

pub loop-index-preserved : goal.loop-index-preserved
loop-index-preserved c =
    let same = c.as_slice-variables.ensures in
    let i = c.loop-index.index in
    let vs = c.args.program.now.variables in
    let within : i < length vs = search rules in
    let item : c.index-variables-index.result ≡ get_or vs i c.index-variables-index.result =
    c.index-variables-index.is ∙ ap (λ (xs : List (List ℕ)). get_or xs i c.index-variables-index.result) same in
    let name : c.index-variables-index.result ≡ names_of (meaning_of (program_of c.args.program.now)) (i + 1) =
    item ∙ item_default vs i c.index-variables-index.result [] within ∙ sym (variable_named (program_of c.args.program.now) i) in
    let all = shown_all (length vs) c.args.row.now in
    let many = length-shown (length vs) c.args.row.now in
    let shown = shown_of c.content_at.result in
    row_step (names_of (meaning_of (program_of c.args.program.now))) all i shown c.index-variables-index.result (map entry_of c.loop-index.entries) (map entry_of c.push_entry.new.entries) _ (omega (arith, many)) name
    (c.content_at.ensures ∙ shown_at (length vs) c.args.row.now i shown within) c.in_ok-push_entry.ensures c.loop-index.invariant

pub returns : goal.returns
returns c =
    let all = shown_all (length c.args.program.now.variables) c.args.row.now in
    let many = length-shown (length c.args.program.now.variables) c.args.row.now in
    let beyond : length c.args.program.now.variables ≤ c.loop-index.index = search rules in
    row_end (names_of (meaning_of (program_of c.args.program.now))) all c.loop-index.index _ (map entry_of c.loop-index.entries) _ (omega (arith, many)) c.loop-index.invariant
