use Rattle.std.proofs.Common.{rules, ◌≡◌}
use Rattle.ival_core.specs.Sets.{IsNumber}
use Rattle.ival_arith.proofs.terms.products.Goals as goal
use Rattle.std.proofs.Common.{ap, sym, subst, ◌∙◌}
use lib.IntN.{*ℤ_comm}
use Rattle.ival_core.specs.declared.value.Shape.TheVariants as Shape
use Rattle.ival_core.specs.Sets.{Has}
use Rattle.ival_arith.proofs.TermCodes.{product_few}

-- src/terms.rt:162:28
pub scaled_by-requires : goal.scaled_by-requires
scaled_by-requires c =
    let e : Shape.Few (record { items = c.as_slice.result.now }) ≡ c.args.a.now.shape = ap (λ xs. Shape.Few (record { items = xs })) (search rules) ∙ sym c.in-Few.is ∙ (search rules) in
    λ x y h m. subst IsNumber (*ℤ_comm y x) (c.requires y x (subst (λ s. Has s y) e m) h)

-- src/terms.rt:157:1
pub returns-in-Few : goal.returns-in-Few
returns-in-Few c = product_few c.args.a.now.shape c.args.b.now.shape c.shape.result.now c.scaled_by.result.shape c.in-Few.few c.as_slice.result.now (search rules) c.in-Few.is (search rules) c.scaled_by.ensures
