use Rattle.std.proofs.Common.{refl}
use Rattle.eva_top.specs.declared.status.Refusal.TheVariants.{Form}
use Rattle.eva_top.specs.declared.status.Status.TheVariants.{Refused}
use Rattle.eva_top.proofs.Answering.{note_put}
use Rattle.eva_top.proofs.command.refuse_form.Goals as goal

pub returns : goal.returns
returns g c = λ call bytes tokens read cut other place out notes.
    note_put call (Refused (Form c.args.at)) _ _ _ c.note.result notes out
    (record { bytes = bytes; tokens = tokens; read = read; cut = cut; other = other; place = place }, refl) (c.note.ensures _ c.make_form_text-text.ensures)
