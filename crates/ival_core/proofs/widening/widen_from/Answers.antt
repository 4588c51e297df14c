use Rattle.std.proofs.Common.{inr, rules}
use Rattle.std.specs.Int.{w128}
use Rattle.std.specs.Prelude.{FitsSigned}
use Rattle.std.proofs.lemmas.Int.{to_z-of_z}
use Rattle.ival_core.specs.Ivals.{IsBounds}
use Rattle.ival_core.proofs.Insertion.{Holds-number}
use Rattle.ival_core.proofs.widening.widen_from.Goals as goal

pub move_bounds-requires-then-high-greatest-clause-greatest :
    goal.move_bounds-requires-then-high-greatest-clause-greatest
move_bounds-requires-then-high-greatest-clause-greatest c =
    let f : FitsSigned w128 c.in-Some.greatest = search rules in
    let b : IsBounds c.args.joined c.in-Some.least c.in-Some.greatest = c.in-Some.ensures.some in
    simp to_z-of_z (Holds-number c.args.joined c.in-Some.greatest b.last)

pub returns-then-least-low-clause-how : goal.returns-then-least-low-clause-how
returns-then-least-low-clause-how c =
    let f : FitsSigned w128 c.args.low = c.ranges.low in
    let g : FitsSigned w128 c.args.high = c.ranges.high in
    inr (simp to_z-of_z at c.move_bounds.ensures.how)

pub returns-then-high-greatest-clause-how : goal.returns-then-high-greatest-clause-how
returns-then-high-greatest-clause-how c =
    let f : FitsSigned w128 c.args.low = c.ranges.low in
    let g : FitsSigned w128 c.args.high = c.ranges.high in
    inr (simp to_z-of_z at c.move_bounds-then-high-greatest.ensures.how)
