use Rattle.c_lex.proofs.Moves.{cutting_begun, cutting_blank, cutting_token, cutting_refuses, cutting_ends, cut_answers, cut_too_many}
use Rattle.c_lex.proofs.lex.Goals as goal

pub cutting-init : goal.cutting-init
cutting-init c = rw (c.new-tokens.ensures.items, c.at_start-cursor.ensures) (cutting_begun c.args.bytes.now)

pub returns-in-Fault : goal.returns-in-Fault
returns-in-Fault c =
    cutting_refuses c.args.bytes.now c.cutting.tokens.items c.cutting.count c.cutting.cursor c.in-Fault.fault c.cutting.invariant
    (rw c.in-Fault.is at c.in_ok-advance.ensures)

pub cutting-preserved-in-Skip : goal.cutting-preserved-in-Skip
cutting-preserved-in-Skip c =
    cutting_blank c.args.bytes.now c.cutting.tokens.items c.cutting.count c.cutting.cursor c.in-Skip.next c.cutting.invariant
    (rw c.in-Skip.is at c.in_ok-advance.ensures)

pub cutting-preserved : goal.cutting-preserved
cutting-preserved c =
    cutting_token c.args.bytes.now c.cutting.tokens.items c.keep.new.tokens.items c.cutting.count c.cutting.cursor c.in-Give.next c.in-Give.token c.cutting.invariant
    (rw c.in-Give.is at c.in_ok-advance.ensures) c.in_ok-keep-in-Give.ensures

pub returns-then-count-gt-MOST_TOKENS : goal.returns-then-count-gt-MOST_TOKENS
returns-then-count-gt-MOST_TOKENS c =
    cut_too_many c.args.bytes.now c.cutting.tokens.items c.cutting.count
    (cutting_ends c.args.bytes.now c.cutting.tokens.items c.cutting.count c.cutting.cursor c.cutting.invariant (rw c.in-End.is at c.in_ok-advance.ensures))
    c.if-count-gt-MOST_TOKENS.true

pub returns : goal.returns
returns c =
    cut_answers c.args.bytes.now c.cutting.tokens.items c.cutting.count
    (cutting_ends c.args.bytes.now c.cutting.tokens.items c.cutting.count c.cutting.cursor c.cutting.invariant (rw c.in-End.is at c.in_ok-advance.ensures))
    c.if-count-gt-MOST_TOKENS.false
