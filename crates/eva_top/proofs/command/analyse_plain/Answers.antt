use Rattle.std.proofs.Common.{◌≡◌, Err, ap, refl}
use Rattle.eva_top.specs.declared.status.Status.TheVariants.{Memory}
use Rattle.eva_top.proofs.Answering.{untouched, noted}
use Rattle.eva_top.proofs.command.analyse_plain.Goals as goal

pub returns-in-Err-Memory : goal.returns-in-Err-Memory
returns-in-Err-Memory g c = λ call bytes read cut plain out notes. noted call _ _ _ Memory c.note_memory.result notes refl (untouched call.out _ out) c.note_memory.ensures

pub returns-in-Err-Syntax : goal.returns-in-Err-Syntax
returns-in-Err-Syntax g c = λ call bytes read cut plain out notes.
    let e = ap Err c.in-Err-Syntax.field-0-is in
    c.refuse_syntax.ensures call bytes c.args.tokens.now read cut plain (c.in-Err-Syntax.ensures.none c.in-Err-Syntax.at e) (c.in-Err-Syntax.ensures.place c.in-Err-Syntax.at e) (untouched call.out _ out) notes

pub returns-in-Ok : goal.returns-in-Ok
returns-in-Ok g c = λ call bytes read cut plain out notes. c.analyse_unit.ensures call bytes read cut plain c.in-Ok.ensures.parsed out notes
