use Rattle.std.proofs.Common.{sym, ◌∙◌}
use Rattle.std.proofs.lemmas.Result.{IfOk-weaker}
use Rattle.aops_pointers.proofs.Moving.{plain_bases, mixed_bases, bases_hold}
use Rattle.aops_pointers.proofs.moves.of_bases.Goals as goal

pub returns-then-is_plain-clause-holds : goal.returns-then-is_plain-clause-holds
returns-then-is_plain-clause-holds c l x n m =
    bases_hold l c.args.a.now c.number.result x n (plain_bases c.args.a.now c.number.result c.words.result (sym c.is_plain.ensures ∙ c.if-is_plain.true) c.number.ensures c.words.ensures) m

pub returns-clause-holds : goal.returns-clause-holds
returns-clause-holds c =
    IfOk-weaker c.as_mix.result _ _
    (λ v e. λ l x n m. bases_hold l c.args.a.now v x n (e ∙ mixed_bases c.args.a.now (sym c.is_plain.ensures ∙ c.if-is_plain.false)) m) c.as_mix.ensures
