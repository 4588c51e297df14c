use Rattle.std.proofs.Common.{arith}
use Rattle.run_slots.proofs.Representing.{push_none, push_step}
use Rattle.run_slots.proofs.offsets.push_steps.Goals as goal

pub loop-i-init : goal.loop-i-init
loop-i-init c = record { items = push_none c.args.first c.args.step c.args.out.now.items; most = omega arith }

pub loop-i-preserved : goal.loop-i-preserved
loop-i-preserved c = record {
  items = push_step c.args.first c.args.step c.loop-i.i c.args.out.now.items c.loop-i.out.items c.push.new.self.items c.loop-i.invariant.items c.in_ok-push.ensures.items;
  most = omega arith;
}
