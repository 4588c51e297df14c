use Rattle.std.proofs.Common.{◌≡◌, ◌+◌, drop}
use Rattle.first_report.specs.Rows.{alarms_from}
use Rattle.first_report.proofs.print.is_alarmed.Given as goal

abbrev pub invariant-loop-place : goal.invariant-loop-place
invariant-loop-place l = alarms_from 1 l.places ≡ alarms_from (l.place-index + 1) (drop l.place-index l.places)
