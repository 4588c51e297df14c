use Rattle.std.proofs.Common.{rules, refl}
use Rattle.eva_top.specs.declared.status.Status.TheVariants.{Unread, TooLong, Memory}
use Rattle.eva_top.proofs.Answering.{untouched, note_put, noted}
use Rattle.eva_top.proofs.command.analyse_file.Goals as goal

pub returns-in-Err-Failed-clause-answer : goal.returns-in-Err-Failed-clause-answer
returns-in-Err-Failed-clause-answer g c = λ call words told before after out notes.
    let rose = rw c.in-Err-Failed.field-0-is at c.in-Err-Failed.ensures.counted in
    note_put call Unread _ _ _ c.note.result notes (untouched call.out _ out)
    (c.args.name.now, record { word = words; rose = rw (before, after) rose }, refl) (c.note.ensures _ c.make_named_text-text.ensures)

pub returns-in-Err-TooLong-clause-answer : goal.returns-in-Err-TooLong-clause-answer
returns-in-Err-TooLong-clause-answer g c = λ call words told before after out notes.
    let long = rw c.in-Err-TooLong.field-0-is at c.in-Err-TooLong.ensures.too_long in
    note_put call TooLong _ _ _ c.note-in-Err-TooLong.result notes (untouched call.out _ out)
    (c.args.name.now, record { word = words; long = rw told long }, refl) (c.note-in-Err-TooLong.ensures _ c.make_named_text-text-in-Err-TooLong.ensures)

pub returns-in-Err-Memory-clause-answer : goal.returns-in-Err-Memory-clause-answer
returns-in-Err-Memory-clause-answer g c = λ call words told before after out notes.
    noted call _ _ _ Memory c.note_memory.result notes refl (untouched call.out _ out) c.note_memory.ensures

pub returns-in-Ok-clause-answer : goal.returns-in-Ok-clause-answer
returns-in-Ok-clause-answer g c = λ call words told before after out notes.
    c.analyse_bytes.ensures call
    (record { name = c.args.name.now; word = words; held = rw (told, c.as_slice.ensures.value) c.in-Ok.ensures.content; small = search rules }) out notes
