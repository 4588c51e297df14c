use Rattle.std.proofs.Common.{◌≡◌, ◌+◌, ◌++◌, drop}
use Rattle.eva_report.specs.Report.{all_texts, alarm_text}
use Rattle.first_report.specs.Rows.{alarms_from}
use Rattle.first_report.proofs.print.push_alarms.Given as goal

-- what was written, and the alarms that are still to come, are the whole
abbrev pub invariant-loop-index : goal.invariant-loop-index
invariant-loop-index l =
    l.text.items ++ all_texts alarm_text (alarms_from (l.index + 1) (drop l.index l.places)) ≡ l.initial.text.items ++ all_texts alarm_text (alarms_from 1 l.places)
