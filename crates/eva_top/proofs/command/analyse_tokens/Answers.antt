use Rattle.std.proofs.Common.{inl, sym}
use Rattle.eva_top.proofs.Answering.{untouched}
use Rattle.eva_top.proofs.command.analyse_tokens.Goals as goal

pub returns-in-Some : goal.returns-in-Some
returns-in-Some g c = λ call bytes read cut out notes.
    c.refuse_form.ensures call bytes c.args.tokens.now read cut (inl (sym (rw c.in-Some.is at c.annotation_in.ensures.found))) (rw c.in-Some.is at c.annotation_in.ensures.place)
    (untouched call.out _ out) notes

pub returns-in-None : goal.returns-in-None
returns-in-None g c = λ call bytes read cut out notes. c.analyse_plain.ensures call bytes read cut (sym (rw c.in-None.is at c.annotation_in.ensures.found)) out notes
