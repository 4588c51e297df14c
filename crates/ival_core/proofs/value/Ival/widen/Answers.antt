use Rattle.std.proofs.Common.{◌≡◌, ap, ◌∙◌, rules}
use Rattle.std.specs.Int.{w128}
use Rattle.std.specs.Prelude.{FitsSigned}
use Rattle.std.proofs.lemmas.Int.{to_z-of_z}
use Rattle.ival_core.specs.Views.{bounds_of}
use Rattle.ival_core.specs.Widenings.{between, widened_from}
use Rattle.ival_core.proofs.Canonical.{IsJoin-same}
use Rattle.ival_core.proofs.Chains.{widening_none, widening_some, widening_falls}
use Rattle.ival_core.proofs.value.Ival.widen.Goals as goal

pub returns-in-None-clause-value : goal.returns-in-None-clause-value
returns-in-None-clause-value c joined h =
    let e : c.join-joined.result ≡ joined = IsJoin-same c.args.self.now c.args.o.now c.join-joined.result joined c.join-joined.ensures h in
    ap (λ v. v.shape) e ∙ ap (widened_from c.args.marks.now joined.shape) c.in-None.ensures.value

pub returns-in-Some-clause-value : goal.returns-in-Some-clause-value
returns-in-Some-clause-value c joined h =
    let f : FitsSigned w128 c.in-Some.low = search rules in
    let g : FitsSigned w128 c.in-Some.high = search rules in
    let e : c.join-joined.result ≡ joined = IsJoin-same c.args.self.now c.args.o.now c.join-joined.result joined c.join-joined.ensures h in
    (simp to_z-of_z at c.widen_from.ensures.value)
    ∙ ap (λ v. between c.args.marks.now c.in-Some.low c.in-Some.high v.shape (bounds_of v.shape)) e
    ∙ ap (widened_from c.args.marks.now joined.shape) c.in-Some.ensures.value

pub returns-in-None-clause-meaning : goal.returns-in-None-clause-meaning
returns-in-None-clause-meaning c = widening_none c.args.self.now c.args.o.now c.args.marks.now c.join-joined.result c.join-joined.ensures c.in-None.ensures.none

pub returns-in-None-clause-falls : goal.returns-in-None-clause-falls
returns-in-None-clause-falls c =
    widening_falls c.args.marks.now c.args.self.now c.args.o.now c.join-joined.result (returns-in-None-clause-meaning c)

pub returns-in-Some-clause-meaning : goal.returns-in-Some-clause-meaning
returns-in-Some-clause-meaning c =
    let f : FitsSigned w128 c.in-Some.low = search rules in
    let g : FitsSigned w128 c.in-Some.high = search rules in
    widening_some c.args.self.now c.args.o.now c.args.marks.now c.join-joined.result c.widen_from.result c.in-Some.low c.in-Some.high
    c.join-joined.ensures c.widen_from.ensures.holds c.in-Some.ensures.some (simp to_z-of_z at c.widen_from.ensures.how)

pub returns-in-Some-clause-falls : goal.returns-in-Some-clause-falls
returns-in-Some-clause-falls c =
    widening_falls c.args.marks.now c.args.self.now c.args.o.now c.widen_from.result (returns-in-Some-clause-meaning c)
