use Rattle.std.proofs.Common.{◌≡◌, ◌≤◌, length, arith}
use Rattle.first_program.specs.SourceViews.{program_of}
use Rattle.first_report.specs.Rows.{alarms_from}
use Rattle.first_report.proofs.Lines.{clean_none}
use Rattle.first_report.proofs.Claiming.{claimed, places_counted}
use Rattle.first_report.proofs.print.print_report.Goals as goal

pub make_text-requires : goal.make_text-requires
make_text-requires c =
    let shaped = c.requires.shaped in
    let many = places_counted (program_of c.args.program.now) c.args.places.now shaped c.requires.places in
    let few = shaped.few in
    let all = shaped.places in
    record { variables = shaped.variables; spans = many; few = omega arith; flag = c.is_alarmed-alarmed.ensures }

pub returns : goal.returns
returns c =
    claimed (program_of c.args.program.now) c.args.places.now c.in_ok-text.text.items c.is_alarmed-alarmed.result c.requires.shaped c.requires.places c.in_ok-text.ensures
    (clean_none (alarms_from 1 c.args.places.now) c.is_alarmed-alarmed.result c.is_alarmed-alarmed.ensures)
