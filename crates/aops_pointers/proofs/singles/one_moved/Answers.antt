use Rattle.std.proofs.Common.{sym, ◌∙◌, ◌≡◌, pos, ◌∷◌, [], ap, arith, FitsSigned, rules}
use Rattle.std.specs.Int.{w128}
use Rattle.std.proofs.lemmas.Int.{to_z-of_z, to_z_pos}
use Rattle.ival_core.specs.declared.value.Shape.TheVariants.{Few}
use Rattle.aops_pointers.proofs.Lone.{one_is}
use Rattle.aops_pointers.proofs.singles.one_moved.Goals as goal

pub returns-in-Some-Some : goal.returns-in-Some-Some
returns-in-Some-Some c =
    let b = c.moved_number.ensures.below in
    let f : FitsSigned w128 c.in-Some-Some.n = search (rules) in
    let g : FitsSigned w128 c.in-Some-Some.count = search (rules) in
    one_is c.args.back c.args.m c.args.size c.args.a.now c.args.counts.now c.in-Some-Some.n c.in-Some-Some.count c.single.result c.moved_number.result (sym c.lone_number.ensures ∙ c.in-Some-Some.is-0) (sym c.lone_number-2.ensures ∙ c.in-Some-Some.is-1)
    (c.single.ensures.value ∙ ap (λ z. Few (record { items = z ∷ [] })) (to_z_pos w128 c.moved_number.result (omega arith))) (simp to_z-of_z at c.moved_number.ensures.value)
