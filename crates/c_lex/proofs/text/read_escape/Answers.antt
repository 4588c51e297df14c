use Rattle.std.proofs.Common.{◌≡◌, get_or, Some}
use Rattle.c_lex.specs.Texts.{simple}
use Rattle.c_lex.proofs.Contents.{escape_within}
use Rattle.c_lex.proofs.text.read_escape.Goals as goal

pub returns-in-Some-clause-within : goal.returns-in-Some-clause-within
returns-in-Some-clause-within c =
    let e : simple (get_or c.args.text.now 0 0) ≡ Some c.in-Some.value = cc in escape_within c.args.text.now c.in-Some.value e
