use Rattle.c_lex.proofs.Stepping.{step_is}
use Rattle.c_lex.proofs.cut.advance.Goals as goal

pub returns : goal.returns
returns c =
    rw c.step_over.ensures
    (step_is c.args.bytes.now c.args.cursor.now c.longest_front-front.result.length c.longest_front-front.result.state c.text-text.result.now c.before-piece.result.now
    c.in_ok-meaning.meaning c.requires.valid c.text-text.ensures c.longest_front-front.ensures.longest c.longest_front-front.ensures.some c.before-piece.ensures
    c.in_ok-meaning.ensures.value)
