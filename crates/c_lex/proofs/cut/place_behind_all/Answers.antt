use Rattle.c_lex.proofs.Places.{place_step, place_end}
use Rattle.c_lex.proofs.cut.place_behind_all.Goals as goal

pub loop-byte-preserved : goal.loop-byte-preserved
loop-byte-preserved c =
    place_step c.args.at c.args.piece.now c.loop-byte.byte-index c.loop-byte.place c.place_behind-place.result c.loop-byte-test.true c.place_behind-place.ensures
    c.loop-byte.invariant

pub returns-clause-place : goal.returns-clause-place
returns-clause-place c = place_end c.args.at c.args.piece.now c.loop-byte.byte-index c.loop-byte.place c.loop-byte-test.false c.loop-byte.invariant
