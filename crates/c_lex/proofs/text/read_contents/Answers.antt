use Rattle.std.proofs.Common.{rules, ◌≡◌, ◌==◌, true, false, get_or}
use Rattle.c_lex.proofs.Contents.{begun, escape_step, escape_wrong, reads_plain, reads_all}
use Rattle.c_lex.proofs.text.read_contents.Goals as goal

pub reading-init : goal.reading-init
reading-init c = rw c.new-bytes.ensures.items (begun c.args.text.now)

pub returns-in-None-clause-value : goal.returns-in-None-clause-value
returns-in-None-clause-value c =
    let slash : (get_or c.args.text.now c.reading.next 0 == 92) ≡ true = search rules in
    escape_wrong c.args.text.now c.reading.bytes.items c.reading.next c.behind.result.now c.reading-test.true slash c.behind.ensures
    c.in-None.ensures.value c.reading.invariant

pub reading-preserved-in-Some : goal.reading-preserved-in-Some
reading-preserved-in-Some c =
    let slash : (get_or c.args.text.now c.reading.next 0 == 92) ≡ true = search rules in
    rw c.in_ok-push-in-Some.ensures.items
    (escape_step c.args.text.now c.reading.bytes.items c.reading.next c.in-Some.escaped c.behind.result.now c.reading-test.true slash c.behind.ensures
    c.in-Some.ensures.value c.in-Some.ensures.within c.reading.invariant)

pub reading-preserved : goal.reading-preserved
reading-preserved c =
    let plain : (get_or c.args.text.now c.reading.next 0 == 92) ≡ false = search rules in
    rw c.in_ok-push.ensures.items (reads_plain c.args.text.now c.reading.bytes.items c.reading.next c.reading-test.true plain c.reading.invariant)

pub returns-clause-value : goal.returns-clause-value
returns-clause-value c = rw c.from_vec.ensures (reads_all c.args.text.now c.reading.bytes.items c.reading.next c.reading-test.false c.reading.invariant)
