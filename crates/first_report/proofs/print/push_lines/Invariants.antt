use Rattle.std.proofs.Common.{◌≡◌, ◌+◌, ◌++◌, drop, length}
use Rattle.first_program.specs.Meaning.{meaning_of}
use Rattle.first_program.specs.SourceViews.{program_of}
use Rattle.eva_report.specs.Report.{all_texts, stmt_text}
use Rattle.eva_claim.specs.Claims.{names_of}
use Rattle.first_report.specs.Rows.{lines_from}
use Rattle.first_report.proofs.print.push_lines.Given as goal

-- what was written, and the lines that are still to come, are the whole
abbrev pub invariant-loop-index : goal.invariant-loop-index
invariant-loop-index l =
    l.text.items ++ all_texts stmt_text (lines_from (names_of (meaning_of (program_of l.program))) (length l.program.variables) (l.index + 1) (drop l.index l.places) (drop l.index l.program.spans))
    ≡ l.initial.text.items ++ all_texts stmt_text (lines_from (names_of (meaning_of (program_of l.program))) (length l.program.variables) 1 l.places l.program.spans)
