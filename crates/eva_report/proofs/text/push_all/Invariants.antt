use Rattle.std.proofs.Common.{◌≡◌, ◌++◌, drop}
use Rattle.eva_report.specs.Report.{all_texts}
use Rattle.eva_report.proofs.text.push_all.Given as goal

-- what was written, and the texts that are still to come, are the whole
abbrev pub invariant-loop-item : goal.invariant-loop-item
invariant-loop-item g l =
    l.out.items ++ all_texts g.T.Line.text (drop l.item-index l.items) ≡ l.fn.out.items ++ all_texts g.T.Line.text l.items
