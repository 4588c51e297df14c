use Rattle.std.proofs.Common.{◌≡◌, ◌+◌, ◌++◌, drop, length, map}
use Rattle.first_program.specs.Meaning.{meaning_of}
use Rattle.first_program.specs.SourceViews.{program_of}
use Rattle.eva_report.specs.Views.{entry_of}
use Rattle.eva_claim.specs.Claims.{names_of}
use Rattle.first_report.specs.Rows.{row_from, shown_all}
use Rattle.first_report.proofs.build.make_row.Given as goal

-- the entries so far, and those that are still to come, are the row
abbrev pub invariant-loop-index : goal.invariant-loop-index
invariant-loop-index l =
    map entry_of l.entries ++ row_from (names_of (meaning_of (program_of l.program))) (l.index + 1) (drop l.index (shown_all (length l.program.variables) l.row))
    ≡ row_from (names_of (meaning_of (program_of l.program))) 1 (shown_all (length l.program.variables) l.row)
