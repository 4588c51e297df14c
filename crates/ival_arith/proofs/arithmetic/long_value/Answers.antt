use Rattle.std.proofs.Common.{sym, ap, ◌∙◌}
use Rattle.ival_arith.specs.Values.{added, long_value}
use Rattle.ival_arith.proofs.TableCodes.{long_add, long_sub, long_mul, long_div, long_rem, negated_sums, long_rest, rest_of_five, rest_of_six}
use Rattle.c_base.specs.declared.operators.BinOp.TheVariants.{And, Or, Xor, Shl, Shr, Lt, Le, Gt, Ge, Eq, Ne}
use Rattle.ival_arith.proofs.arithmetic.long_value.Goals as goal

pub returns-in-Add : goal.returns-in-Add
returns-in-Add c = let o = c.args.format in let a = c.args.a.now.shape in let b = c.args.b.now.shape in
    c.added.ensures ∙ long_add o.signed o.width a b ∙ ap (λ op. long_value op o.signed o.width a b) (sym c.in-Add.is)

pub returns-in-Sub : goal.returns-in-Sub
returns-in-Sub c = let o = c.args.format in let a = c.args.a.now.shape in let b = c.args.b.now.shape in
    c.added-in-Sub.ensures ∙ ap (added o.signed o.width a) c.changed.ensures ∙ long_sub o.signed o.width a b ∙ ap (λ op. long_value op o.signed o.width a b) (sym c.in-Sub.is)

pub returns-in-Mul : goal.returns-in-Mul
returns-in-Mul c = let o = c.args.format in let a = c.args.a.now.shape in let b = c.args.b.now.shape in
    c.multiplied.ensures ∙ long_mul o.signed o.width a b ∙ ap (λ op. long_value op o.signed o.width a b) (sym c.in-Mul.is)

pub returns-in-Div : goal.returns-in-Div
returns-in-Div c = let o = c.args.format in let a = c.args.a.now.shape in let b = c.args.b.now.shape in
    c.divided.ensures ∙ long_div o.signed o.width a b ∙ ap (λ op. long_value op o.signed o.width a b) (sym c.in-Div.is)

pub returns-in-Rem : goal.returns-in-Rem
returns-in-Rem c = let o = c.args.format in let a = c.args.a.now.shape in let b = c.args.b.now.shape in
    c.divided-in-Rem.ensures ∙ long_rem o.signed o.width a b ∙ ap (λ op. long_value op o.signed o.width a b) (sym c.in-Rem.is)

pub returns-in-And : goal.returns-in-And
returns-in-And c =
    let o = c.args.format in
    c.empty.ensures.value ∙ long_rest c.args.op o.signed o.width c.args.a.now.shape c.args.b.now.shape (rest_of_five c.args.op And Or Xor Shl Shr tt tt tt tt tt c.in-And.is)

pub returns-in-Lt : goal.returns-in-Lt
returns-in-Lt c =
    let o = c.args.format in
    c.empty-in-Lt.ensures.value ∙ long_rest c.args.op o.signed o.width c.args.a.now.shape c.args.b.now.shape (rest_of_six c.args.op Lt Le Gt Ge Eq Ne tt tt tt tt tt tt c.in-Lt.is)

pub added-requires-in-Sub : goal.added-requires-in-Sub
added-requires-in-Sub c x y h k =
    let o = c.args.format in
    negated_sums o.signed o.width c.args.a.now c.args.b.now c.changed.result o.some o.room c.requires.left c.requires.right c.changed.ensures x y h k
