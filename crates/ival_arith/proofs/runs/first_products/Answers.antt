use Rattle.std.proofs.Common.{◌≡◌, ap, ◌∙◌, subst, FitsSigned, rules}
use Rattle.std.specs.Int.{w128}
use Rattle.std.proofs.lemmas.Int.{to_z-of_z}
use Rattle.c_base.specs.declared.operators.BinOp.TheVariants.{Mul}
use Rattle.ival_core.specs.declared.value.Shape.{Shape}
use Rattle.ival_core.specs.declared.value.Shape.TheVariants.{Few}
use Rattle.ival_core.specs.Sets.{Has}
use Rattle.ival_arith.specs.Sums.{firsts}
use Rattle.ival_arith.specs.Values.{few_value}
use Rattle.ival_arith.proofs.Adding.{firsts-steps}
use Rattle.ival_arith.proofs.runs.first_products.Goals as goal

pub few_products-requires-clause-left : goal.few_products-requires-clause-left
few_products-requires-clause-left c =
    let p = c.args.p in
    let f : FitsSigned w128 p.low = search rules in
    let e : c.eight.result.shape ≡ Few (record { items = firsts p }) = simp to_z-of_z at c.eight.ensures in
    record { fits = λ n h. c.requires.first n (firsts-steps p c.requires.left n (subst (λ (s : Shape). Has s n) e h)) }

pub few_products-requires-clause-right : goal.few_products-requires-clause-right
few_products-requires-clause-right c =
    let q = c.args.q in
    let f : FitsSigned w128 q.low = search rules in
    let e : c.eight-2.result.shape ≡ Few (record { items = firsts q }) = simp to_z-of_z at c.eight-2.ensures in
    record { fits = λ n h. c.requires.second n (firsts-steps q c.requires.right n (subst (λ (s : Shape). Has s n) e h)) }

pub returns : goal.returns
returns c =
    let o = c.args.format in
    let p = c.args.p in
    let q = c.args.q in
    let f : FitsSigned w128 p.low = search rules in
    let g : FitsSigned w128 q.low = search rules in
    let d : c.eight.result.shape ≡ Few (record { items = firsts p }) = simp to_z-of_z at c.eight.ensures in
    let e : c.eight-2.result.shape ≡ Few (record { items = firsts q }) = simp to_z-of_z at c.eight-2.ensures in
    c.few_products.ensures ∙ ap (λ (s : Shape). few_value Mul o.signed o.width s c.eight-2.result.shape) d ∙ ap (few_value Mul o.signed o.width (Few (record { items = firsts p }))) e
