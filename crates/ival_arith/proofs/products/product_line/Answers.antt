use Rattle.std.proofs.Common.{◌≡◌, ◌/◌, cond, pos, FitsSigned, sym, subst, ap, ◌∙◌}
use Rattle.std.specs.Prelude.{neg_ℤ, int_lt, unsigned_abs}
use Rattle.std.specs.Int.{w128}
use Rattle.std.proofs.lemmas.Int.{to_z-of_z}
use Rattle.ival_core.specs.declared.value.Shape.{Shape}
use Rattle.ival_core.specs.declared.value.Shape.TheVariants.{Many}
use Rattle.ival_core.specs.Sets.{Has}
use Rattle.ival_arith.specs.declared.pieces.Change.TheVariants.{Times}
use Rattle.ival_arith.specs.Pieces.{clipped, all_changed, run_negated}
use Rattle.ival_arith.proofs.ProductCodes.{line_zero, line_else, lower_is, upper_is, cut_numbers, zero_bits, some_bits, same_clip}
use Rattle.ival_arith.proofs.products.product_line.Goals as goal

pub returns-then-y-eq0 : goal.returns-then-y-eq0
returns-then-y-eq0 c = c.single.ensures.value ∙ sym (line_zero c.args.below c.args.above c.args.run c.args.y (zero_bits c.args.y c.ranges.y c.if-y-eq0.true))

cut_is : (c : goal.After-cut-1) → c.clipped-cut.result.shape ≡ clipped (neg_ℤ (pos (c.args.below / c.unsigned_abs-size.result))) (pos (c.args.above / c.unsigned_abs-size.result)) c.turned-all.result.shape
cut_is c = c.clipped-cut.ensures ∙ same_clip _ _ _ _ c.turned-all.result.shape (lower_is c.args.below c.unsigned_abs-size.result c.requires.below) (upper_is c.args.above c.unsigned_abs-size.result c.requires.above)

pub changed-requires-clause-numbers : goal.changed-requires-clause-numbers
changed-requires-clause-numbers c n m =
    cut_numbers c.args.below c.args.above c.unsigned_abs-size.result c.turned-all.result.shape c.requires.below c.requires.above c.turned-all.result.valid n
    (subst (λ (s : Shape). Has s n) (cut_is c) m)

pub returns : goal.returns
returns c =
    let y = c.args.y in
    let f : FitsSigned w128 y = c.ranges.y in
    let k = c.unsigned_abs-size.result in
    let e : k ≡ unsigned_abs y = simp to_z-of_z at c.unsigned_abs-size.ensures.value in
    let t : c.turned-all.result.shape ≡ cond (int_lt y (pos 0)) (run_negated c.args.run) (Many c.args.run) = simp to_z-of_z at c.turned-all.ensures in
    let cut : c.clipped-cut.result.shape ≡ clipped (neg_ℤ (pos (c.args.below / k))) (pos (c.args.above / k)) c.turned-all.result.shape =
    c.clipped-cut.ensures ∙ same_clip _ _ _ _ c.turned-all.result.shape (lower_is c.args.below k c.requires.below) (upper_is c.args.above k c.requires.above) in
    c.changed.ensures ∙ ap (all_changed (Times k)) cut
    ∙ ap (λ s. all_changed (Times k) (clipped (neg_ℤ (pos (c.args.below / k))) (pos (c.args.above / k)) s)) t
    ∙ ap (λ j. all_changed (Times j) (clipped (neg_ℤ (pos (c.args.below / j))) (pos (c.args.above / j)) (cond (int_lt y (pos 0)) (run_negated c.args.run) (Many c.args.run)))) e
    ∙ sym (line_else c.args.below c.args.above c.args.run y (some_bits y c.if-y-eq0.false))
