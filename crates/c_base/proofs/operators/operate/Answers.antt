use Rattle.std.proofs.Common.{ap, subst, ◌∙◌, sym, ◌+ℤ◌, ◌-ℤ◌, FitsSigned, arith}
use Rattle.std.specs.Int.{w128}
use Rattle.std.proofs.lemmas.Int.{ints}
use Rattle.c_base.specs.Operators.{arithmetic, operated, OnRight}
use Rattle.c_base.specs.Wide.{IsWide}
use Rattle.c_base.proofs.Singles.{passed_add, passed_sub}
use Rattle.c_base.proofs.operators.operate.Goals as goal

pub returns-in-Add : goal.returns-in-Add
returns-in-Add c =
    let s = c.args.format.signed in
    let w = c.args.format.width in
    let a = c.args.a in
    let b = c.args.b in
    let h : IsWide b = subst (λ op. OnRight op (λ n. IsWide n) b) c.in-Add.is c.requires.right in
    let f : FitsSigned w128 (a +ℤ b) = omega (arith, ints) in
    c.in_type.ensures ∙ passed_add (arithmetic s w) a b c.ranges.a c.ranges.b f ∙ ap (λ op. operated op s w a b) (sym c.in-Add.is)

pub returns-in-Sub : goal.returns-in-Sub
returns-in-Sub c =
    let s = c.args.format.signed in
    let w = c.args.format.width in
    let a = c.args.a in
    let b = c.args.b in
    let h : IsWide b = subst (λ op. OnRight op (λ n. IsWide n) b) c.in-Sub.is c.requires.right in
    let f : FitsSigned w128 (a -ℤ b) = omega (arith, ints) in
    c.in_type-in-Sub.ensures ∙ passed_sub (arithmetic s w) a b c.ranges.a c.ranges.b f ∙ ap (λ op. operated op s w a b) (sym c.in-Sub.is)
