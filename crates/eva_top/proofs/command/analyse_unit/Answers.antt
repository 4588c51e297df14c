use Rattle.std.proofs.Common.{◌≡◌, None, Some, refl, sym}
use Rattle.c_unit_tree.specs.Views.{unit_kids}
use Rattle.first_program.specs.SourceViews.{program_of}
use Rattle.first_units.specs.Language.{program_in}
use Rattle.eva_top.specs.declared.status.Status.TheVariants.{Memory}
use Rattle.eva_top.proofs.Answering.{untouched, noted}
use Rattle.eva_top.proofs.command.analyse_unit.Goals as goal

pub returns-in-Err : goal.returns-in-Err
returns-in-Err g c = λ call bytes read cut plain unit out notes. noted call _ _ _ Memory c.note_memory.result notes refl (untouched call.out _ out) c.note_memory.ensures

pub returns-in-Ok-None : goal.returns-in-Ok-None
returns-in-Ok-None g c = λ call bytes read cut plain unit out notes.
    let none = rw c.in-Ok-None.field-0-is at c.in-Ok-None.ensures.found in
    c.refuse_unit.ensures call bytes read cut
    (record { kids = unit_kids c.args.unit; names = unit.names; unit = unit.unit; shallow = unit.shallow; program = sym none }) (untouched call.out _ out) notes

pub returns-in-Ok-Some : goal.returns-in-Ok-Some
returns-in-Ok-Some g c = λ call bytes read cut plain unit out notes.
    let some = rw c.in-Ok-Some.field-0-is at c.in-Ok-Some.ensures.found in
    c.report_program.ensures call bytes c.args.tokens.now read cut
    (record { kids = unit_kids c.args.unit; names = unit.names; unit = unit.unit; shallow = unit.shallow; plain = plain; program = sym some }) out notes
