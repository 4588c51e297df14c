use Rattle.std.proofs.Common.{◌≡◌, ◌++◌, drop, map}
use Rattle.eva_report.specs.Report.{joined, all_texts}
use Rattle.eva_report.proofs.text.push_joined.Given as goal

-- what was written, and the texts that are still to come, each behind a separator, are the whole
abbrev pub invariant-loop-index : goal.invariant-loop-index
invariant-loop-index g l =
    l.out.items ++ all_texts (λ x. l.separator ++ g.T.Line.text x) (drop l.index l.items) ≡ l.fn.out.items ++ joined l.separator (map g.T.Line.text l.items)
