use Rattle.std.proofs.Common.{◌≡◌, ◌^◌, ◌*◌, pos, unsigned_abs, cond, min, false, FitsSigned}
use Rattle.ival_core.specs.Views.{bounds_of}
use Rattle.ival_arith.specs.Pieces.{all_changed}
use Rattle.ival_arith.specs.Values.{extent}
use Rattle.ival_arith.specs.Terms.{around}
use Rattle.ival_arith.proofs.terms.scaled.Goals as goal
use Rattle.std.proofs.Common.{FitsSigned, ap, sym, ◌∙◌, ◌^◌}
use Rattle.std.specs.Prelude.{int_lt}
use Rattle.std.specs.Int.{w128}
use Rattle.std.proofs.lemmas.Int.{to_z-of_z}
use Rattle.ival_core.proofs.Insertion.{Holds-number}
use Rattle.ival_arith.specs.declared.pieces.Change.TheVariants.{Negative, Times}
use Rattle.ival_arith.proofs.ProductCodes.{zero_bits, some_bits}
use Rattle.ival_arith.proofs.TermCodes.{scaled_zero, scaled_small, scaled_far, scaled_sizes, turned_numbers, lt_small, lt_far}

-- src/terms.rt:110:9
pub returns-then-y-eq0 : goal.returns-then-y-eq0
returns-then-y-eq0 c = c.single.ensures.value ∙ sym (scaled_zero c.args.y c.args.set.now.shape (zero_bits c.args.y c.ranges.y c.if-y-eq0.true))

-- src/terms.rt:114:9
pub changed-requires-clause-numbers : goal.changed-requires-clause-numbers
changed-requires-clause-numbers c =
    let y = c.args.y in
    let f : FitsSigned w128 y = c.ranges.y in
    let e : c.unsigned_abs-size.result ≡ unsigned_abs y = simp to_z-of_z at c.unsigned_abs-size.ensures.value in
    let t : c.turned.result.shape ≡ cond (int_lt y (pos 0)) (all_changed Negative c.args.set.now.shape) c.args.set.now.shape = simp to_z-of_z at c.turned.ensures in
    turned_numbers c.args.set.now.shape c.turned.result.shape y c.unsigned_abs-size.result c.args.set.now.valid (λ n h. Holds-number c.args.set.now n h) t e c.requires

-- src/terms.rt:105:1
pub returns-then-size : goal.returns-then-size
returns-then-size c =
    let y = c.args.y in
    let f : FitsSigned w128 y = c.ranges.y in
    let e : c.unsigned_abs-size.result ≡ unsigned_abs y = simp to_z-of_z at c.unsigned_abs-size.ensures.value in
    let t : c.turned.result.shape ≡ cond (int_lt y (pos 0)) (all_changed Negative c.args.set.now.shape) c.args.set.now.shape = simp to_z-of_z at c.turned.ensures in
    c.changed.ensures ∙ ap (λ s. all_changed (Times c.unsigned_abs-size.result) s) t ∙ ap (λ k. all_changed (Times k) (cond (int_lt y (pos 0)) (all_changed Negative c.args.set.now.shape) c.args.set.now.shape)) e
    ∙ sym (scaled_small y c.args.set.now.shape (some_bits y c.if-y-eq0.false) (sym (scaled_sizes y c.unsigned_abs-size.result e) ∙ lt_small c.unsigned_abs-size.result c.if-size.true))

-- src/terms.rt:105:1
pub returns-else-size : goal.returns-else-size
returns-else-size c =
    let y = c.args.y in
    let f : FitsSigned w128 y = c.ranges.y in
    let e : c.unsigned_abs-size.result ≡ unsigned_abs y = simp to_z-of_z at c.unsigned_abs-size.ensures.value in
    c.around.ensures ∙ ap (around false) (c.far.ensures.value ∙ ap (λ x. min (x * c.unsigned_abs-size.result) (2 ^ 120)) c.extent.ensures ∙ ap (λ k. min (extent (bounds_of c.args.set.now.shape) * k) (2 ^ 120)) e)
    ∙ sym (scaled_far y c.args.set.now.shape (some_bits y c.if-y-eq0.false) (sym (scaled_sizes y c.unsigned_abs-size.result e) ∙ lt_far c.unsigned_abs-size.result c.if-size.false))
