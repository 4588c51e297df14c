use Rattle.std.proofs.Common.{refl}
use Rattle.eva_top.specs.declared.status.Refusal.TheVariants.{Syntax}
use Rattle.eva_top.specs.declared.status.Status.TheVariants.{Refused}
use Rattle.eva_top.proofs.Answering.{note_put}
use Rattle.eva_top.proofs.command.refuse_syntax.Goals as goal

pub returns : goal.returns
returns g c = λ call bytes tokens read cut plain none place out notes.
    note_put call (Refused (Syntax c.args.at)) _ _ _ c.note.result notes out
    (record { bytes = bytes; tokens = tokens; read = read; cut = cut; plain = plain; none = none; place = place }, refl) (c.note.ensures _ c.make_syntax_text-text.ensures)
