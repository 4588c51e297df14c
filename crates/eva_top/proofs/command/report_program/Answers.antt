use Rattle.std.proofs.Common.{◌≡◌, refl}
use Rattle.first_program.specs.SourceViews.{program_of}
use Rattle.eva_top.specs.declared.status.Status.TheVariants.{Memory}
use Rattle.eva_top.proofs.Answering.{untouched, noted, reported}
use Rattle.eva_top.proofs.command.report_program.Goals as goal

pub returns-in-Err : goal.returns-in-Err
returns-in-Err g c = λ call bytes tokens read cut spells out notes. noted call _ _ _ Memory c.note_memory.result notes refl (untouched call.out _ out) c.note_memory.ensures

pub returns-in-Ok : goal.returns-in-Ok
returns-in-Ok g c = λ call bytes tokens read cut spells out notes.
    reported call c.in-Ok.printed.text.items _ _ c.in-Ok.printed.alarmed c.put_text.result out
    (record {
      bytes = bytes;
      program = program_of c.args.program.now;
      read = read;
      source = record { tokens = tokens; cut = cut; spells = spells };
      report = c.in-Ok.ensures;
    })
    (untouched call.notes _ notes) (rw (c.report_status.ensures, c.as_slice.ensures.value) at c.put_text.ensures)
