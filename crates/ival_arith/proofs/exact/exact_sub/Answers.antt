use Rattle.std.proofs.Common.{◌+ℤ◌, ◌-ℤ◌, Option, Some, None}
use Rattle.std.specs.Prelude.{IfSome, IfNone}
use Rattle.ival_core.specs.declared.value.Ival.{Ival}
use Rattle.ival_core.specs.Sets.{IsLeast}
use Rattle.ival_core.proofs.Insertion.{Holds-number}
use Rattle.ival_arith.specs.Promises.{Outcome, Leaves, Stays}
use Rattle.ival_arith.proofs.Exacting.{number_negated, negates, stays_negated, leaves_negated, least_negated}
use Rattle.ival_arith.proofs.exact.exact_sub.Goals as goal

pub changed-requires-clause-numbers : goal.changed-requires-clause-numbers
changed-requires-clause-numbers c n h = number_negated n (Holds-number c.args.b.now n h)

in_some : (r : Option Ival) (P Q : Ival → Type 0) → ((v : Ival) → P v → Q v) → IfSome r P → IfSome r Q
in_some None P Q f h = h
in_some (Some v) P Q f h = f v h

in_none : (r : Option Ival) (P Q : Type 0) → (P → Q) → IfNone r P → IfNone r Q
in_none None P Q f h = f h
in_none (Some v) P Q f h = h

pub returns-clause-stays : goal.returns-clause-stays
returns-clause-stays c =
    let n = negates c.args.b.now c.changed.result (λ n h. Holds-number c.args.b.now n h) c.changed.ensures in
    in_some c.exact_add.result (λ v. Stays (λ x y. x +ℤ y) c.args.a.now c.changed.result) (λ v. Stays (λ x y. x -ℤ y) c.args.a.now c.args.b.now)
    (λ v h. stays_negated c.args.a.now c.args.b.now c.changed.result n h) c.exact_add.ensures.stays

pub returns-clause-least : goal.returns-clause-least
returns-clause-least c =
    let n = negates c.args.b.now c.changed.result (λ n h. Holds-number c.args.b.now n h) c.changed.ensures in
    in_some c.exact_add.result (λ v. IsLeast (Outcome (λ x y. x +ℤ y) c.args.a.now c.changed.result) v.shape) (λ v. IsLeast (Outcome (λ x y. x -ℤ y) c.args.a.now c.args.b.now) v.shape)
    (λ v h. least_negated c.args.a.now c.args.b.now c.changed.result v.shape n h) c.exact_add.ensures.least

pub returns-clause-leaves : goal.returns-clause-leaves
returns-clause-leaves c =
    let n = negates c.args.b.now c.changed.result (λ n h. Holds-number c.args.b.now n h) c.changed.ensures in
    in_none c.exact_add.result (Leaves (λ x y. x +ℤ y) c.args.a.now c.changed.result) (Leaves (λ x y. x -ℤ y) c.args.a.now c.args.b.now)
    (λ l. leaves_negated c.args.a.now c.args.b.now c.changed.result n l) c.exact_add.ensures.leaves
