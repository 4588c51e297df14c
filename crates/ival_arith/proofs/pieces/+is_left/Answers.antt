use Rattle.std.proofs.Common.{pos, ◌∙◌, arith}
use Rattle.ival_arith.proofs.Codes.{is_left-none, is_left-here, is_left-later}
use Rattle.ival_arith.proofs.pieces.+is_left.Goals as goal

pub returns-then-count-eq0 : goal.returns-then-count-eq0
returns-then-count-eq0 t c = is_left-none c.args.m c.args.first c.args.stride c.args.count (pos c.args.n) c.if-count-eq0.true

pub returns-then-n-first : goal.returns-then-n-first
returns-then-n-first t c = is_left-here c.args.m c.args.first c.args.stride c.args.count c.args.n (omega arith) c.if-n-first.true

pub returns : goal.returns
returns t c = c.is_left.ensures ∙ is_left-later c.args.m c.args.first c.args.stride c.args.count c.args.n (omega arith) c.if-n-first.false
