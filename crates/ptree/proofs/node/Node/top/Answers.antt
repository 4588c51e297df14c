use Rattle.ptree.proofs.Tops.{depth_bound}
use Rattle.ptree.proofs.node.Node.top.Goals as goal

pub returns-in-Fork-clause-depth : goal.returns-in-Fork-clause-depth
returns-in-Fork-clause-depth g c =
    let deep = depth_bound c.args.self.now c.requires in
    rw c.in-Fork.is (rw c.in-Fork.is at deep)
