use Rattle.std.proofs.Common.{◌∙◌, ap, Ok}
use Rattle.c_parse_expr.proofs.Promised.{is_no_member, typing_found, typing_missing}
use Rattle.c_parse_expr.proofs.parse.typing_within.Goals as goal

pub returns-in-None-clause-read : goal.returns-in-None-clause-read
returns-in-None-clause-read c =
    typing_missing _ _ _ _ _ _ c.read_at.ensures (c.in_ok-read_at.was ∙ ap Ok c.in-None.is) (is_no_member c.args.purpose c.requires.purpose)

pub returns-in-Some-clause-read : goal.returns-in-Some-clause-read
returns-in-Some-clause-read c =
    typing_found _ _ _ _ _ _ c.in-Some.found _ c.read_at.ensures (c.in_ok-read_at.was ∙ ap Ok c.in-Some.is) c.as_typing.ensures
    (is_no_member c.args.purpose c.requires.purpose)
