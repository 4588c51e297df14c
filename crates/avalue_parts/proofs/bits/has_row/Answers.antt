use Rattle.std.proofs.Common.{◌≡◌, ◌+◌, ◌-◌, ◌^◌, ap, sym, ◌∙◌, arith, rules}
use Rattle.std.specs.Int.{w128}
use Rattle.std.specs.List.{list_any}
use Rattle.std.specs.Option.{option_copied}
use Rattle.std.specs.Prelude.{FitsSigned}
use Rattle.std.proofs.lemmas.Int.{to_z-of_z}
use Rattle.avalue_base.specs.Numbers.{has_all_from}
use Rattle.avalue_parts.proofs.Rows.{row_far, row_few, row_many}
use Rattle.avalue_parts.proofs.bits.has_row.Goals as goal

pub returns-then-bits-gt121 : goal.returns-then-bits-gt121
returns-then-bits-gt121 c = row_far c.args.numbers.now c.args.bits c.if-bits-gt121.true

pub returns-in-Some : goal.returns-in-Some
returns-in-Some c =
    let v = c.two_to-more.ensures.value in
    let s = c.two_to-more.ensures.some in
    let e : c.two_to-more.result - 1 + 1 ≡ 2 ^ c.args.bits = omega arith in
    row_few c.args.numbers.now c.in-Some.few.now (2 ^ c.args.bits) c.has_run.result (sym c.numbers.ensures.value ∙ ap option_copied c.in-Some.is)
    (c.has_run.ensures ∙ ap (λ k. list_any (has_all_from c.args.numbers.now.shape k) c.in-Some.few.now) e)

pub returns-in-Some-bounds : goal.returns-in-Some-bounds
returns-in-Some-bounds c =
    let v = c.two_to-more.ensures.value in
    let s = c.two_to-more.ensures.some in
    let e : c.two_to-more.result - 1 + 1 ≡ 2 ^ c.args.bits = omega arith in
    let f : FitsSigned w128 c.in-Some-bounds.low = search rules in
    row_many c.args.numbers.now c.in-Some-bounds.low c.in-Some-bounds.field-0-1 (2 ^ c.args.bits) c.has_all_from.result (sym c.numbers.ensures.value ∙ ap option_copied c.in-None.is) (sym c.bounds.ensures.value ∙ c.in-Some-bounds.is)
    ((simp to_z-of_z at c.has_all_from.ensures) ∙ ap (λ k. has_all_from c.args.numbers.now.shape k c.in-Some-bounds.low) e)
