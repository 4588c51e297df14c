use Rattle.std.proofs.Common.{◌≡◌, ◌<◌, ◌^◌, subst, sym, ap, ◌∙◌, None, Some}
use Rattle.std.specs.Prelude.{MatchOption}
use Rattle.c_typed_stmt.specs.Weights.{counted}
use Rattle.c_program.specs.Weights.{found_in, function_weight}
use Rattle.c_weights.specs.Flags.{flagged, flagged_weight}
use Rattle.c_weights.proofs.weights.flagged_weight.Goals as goal

pub returns-in-Some : goal.returns-in-Some
returns-in-Some c small =
    let p = c.args.p.now in let base = c.args.f.0 in let f = c.in-Some.function.now in
    let found : found_in p.functions base ≡ Some f =
    subst (λ r. MatchOption r (found_in p.functions base ≡ None) (λ g. found_in p.functions base ≡ Some g.now)) c.in-Some.is c.function_of.ensures in
    let bases : c.table_of.result.bases.now ≡ p.bases = c.table_of.ensures in
    let whole : flagged_weight p base ≡ function_weight (flagged c.table_of.result.bases.now) f =
    ap (counted (function_weight (flagged p.bases))) found ∙ ap (λ bs. function_weight (flagged bs) f) (sym bases) in
    c.function.ensures (subst (λ w. w < 2 ^ 62) whole small) ∙ sym whole
