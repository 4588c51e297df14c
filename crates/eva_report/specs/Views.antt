-- The plain reports that the code's reports stand for.
use Rattle.std.specs.Prelude.{ℕ, List, map, Option, None, Some, pos, unsigned_abs}
use Rattle.std.specs.Int.{int_rem_euclid}
use Rattle.c_base.specs.declared.number.SiteId.{SiteId}
use Rattle.c_memory.specs.Rows.{Numbers, Few, Many}
use Rattle.ival_core.specs.declared.value.Ival.{Ival}
use Rattle.ival_core.specs.declared.value.Shape.{Shape}
use Rattle.ival_core.specs.declared.value.Shape.TheVariants.{Few as FewShape, Many as ManyShape}
use Rattle.eva_report.specs.declared.report.ReportBase.{ReportBase as CodeBase}
use Rattle.eva_report.specs.declared.report.ReportPart.{ReportPart as CodePart}
use Rattle.eva_report.specs.declared.report.ReportPart.TheVariants.{Number as CodeNumber, Address as CodeAddress, Mix as CodeMix, Uninit as CodeUninit, Dead as CodeDead}
use Rattle.eva_report.specs.declared.report.ReportEntry.{ReportEntry as CodeEntry}
use Rattle.eva_report.specs.declared.report.ReportRow.{ReportRow as CodeRow}
use Rattle.eva_report.specs.declared.report.ReportString.{ReportString as CodeString}
use Rattle.eva_report.specs.declared.report.ReportStmt.{ReportStmt as CodeStmt}
use Rattle.eva_report.specs.declared.report.ReportAlarm.{ReportAlarm as CodeAlarm}
use Rattle.eva_report.specs.declared.report.Report.{Report as CodeReport}
use Rattle.eva_report.specs.Report.{ReportBase, ReportPart, Number, Address, Mix, Uninit, Dead, ReportEntry, ReportString, ReportStmt, ReportAlarm, Report}

-- at most 8 numbers, or bounds with the remainder that all numbers leave
abbrev pub numbers_of : Shape → Numbers
numbers_of (FewShape few) = Few few.items
numbers_of (ManyShape run) = Many run.low run.high (unsigned_abs (int_rem_euclid run.low (pos run.stride))) run.stride

abbrev pub base_of : CodeBase → ReportBase
base_of b = record { name = b.name; id = b.id.0 }

abbrev pub part_of : CodePart → ReportPart
part_of (CodeNumber v) = Number (numbers_of v.shape)
part_of (CodeAddress base v) = Address (base_of base) (numbers_of v.shape)
part_of (CodeMix bases) = Mix (map base_of bases)
part_of CodeUninit = Uninit
part_of CodeDead = Dead

abbrev pub entry_of : CodeEntry → ReportEntry
entry_of e = record { base = base_of e.base; low = e.low; high = e.high; size = e.size; parts = map part_of e.parts }

abbrev pub row_of : CodeRow → List ReportEntry
row_of row = map entry_of row.0

abbrev pub sites_of : List SiteId → List ℕ
sites_of sites = map (λ site. site.0) sites

abbrev pub string_of : CodeString → ReportString
string_of s = record { sites = sites_of s.sites; rows = map row_of s.rows }

abbrev pub stmt_of : CodeStmt → ReportStmt
stmt_of s = record { id = s.id.0; span = s.span; function = s.function; strings = map string_of s.strings }

abbrev pub alarm_of : CodeAlarm → ReportAlarm
alarm_of a = record { kind = a.kind; at = a.at.0; sites = sites_of a.sites }

abbrev pub report_of : CodeReport → Report
report_of r = record { hyps = r.hyps; stmts = map stmt_of r.stmts; alarms = map alarm_of r.alarms }
