use Rattle.std.proofs.Common.{◌≡◌, ◌<◌, length, arith}
use Rattle.std.proofs.lemmas.Bool.Decides.{nat_tests}
use Rattle.eva_report.proofs.Lists.{joined_start}
use Rattle.eva_report.proofs.text.push_joined.Goals as goal

pub loop-index-init : goal.loop-index-init
loop-index-init g c =
    let items = c.args.items.now in
    let none = c.if-is_empty.false in
    let tested = c.is_empty.ensures in
    let some : 0 < length items = grind (arith, nat_tests) in
    joined_start c.args.separator.now g.T.Line.text items c.index-items-0.result c.args.out.now.items c.push_to.new.out.items some c.index-items-0.is c.in_ok-push_to.ensures
