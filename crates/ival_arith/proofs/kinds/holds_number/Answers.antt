use Rattle.std.proofs.Common.{rules, ◌≡◌, FitsSigned, to_z, of_z}
use Rattle.ival_arith.proofs.kinds.holds_number.Goals as goal
use Rattle.ival_arith.proofs.KindCodes.{is_holds_number}
use Rattle.std.specs.Int.{w128}
use Rattle.std.proofs.lemmas.Int.{to_z-of_z}
use Rattle.std.proofs.Common.{refl, subst, IsTrue, ◌↔◌}
use Rattle.ival_core.specs.Sets.{Has}

-- src/kinds.rt:18:1
pub returns : goal.returns
returns c =
    let f : FitsSigned w128 c.args.n = search rules in
    let e : to_z w128 (of_z w128 c.args.n) ≡ c.args.n = simp to_z-of_z refl in
    is_holds_number c.contains.result c.args.set.now.shape c.args.n (subst (λ z. IsTrue c.contains.result ↔ Has c.args.set.now.shape z) e c.contains.ensures)
