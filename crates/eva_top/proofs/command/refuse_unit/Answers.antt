use Rattle.std.proofs.Common.{inr, refl}
use Rattle.eva_top.specs.declared.status.Status.TheVariants.{Memory}
use Rattle.eva_top.proofs.Answering.{noted}
use Rattle.eva_top.proofs.command.refuse_unit.Goals as goal

pub returns-in-Err : goal.returns-in-Err
returns-in-Err g c = λ call bytes read cut another out notes. noted call _ _ _ Memory c.note_memory.result notes refl out c.note_memory.ensures

pub returns-in-Ok : goal.returns-in-Ok
returns-in-Ok g c = λ call bytes read cut another out notes. c.refuse_form.ensures call bytes c.args.tokens.now read cut (inr another) c.in-Ok.ensures out notes
