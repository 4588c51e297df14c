use Rattle.std.proofs.Common.{ℕ, ◌≡◌, ◌⊎◌, ◌↔◌, ◌*◌, ◌%◌, ◌^◌, IsTrue, ap, ◌∙◌, sym, subst, arith}
use Rattle.std.specs.Prelude.{bit_or}
use Rattle.std.proofs.lemmas.Nat.{one_shl}
use Rattle.c_base.specs.KindSets.{number_of_kind, allowed}
use Rattle.c_base.proofs.KindSets.{with_kind-allows}
use Rattle.c_base.proofs.kind.KindSet.with.Goals as goal

pub returns-clause-kinds : goal.returns-clause-kinds
returns-clause-kinds c l =
    let e : 1 * 2 ^ c.number.result % 65536 ≡ 2 ^ number_of_kind c.args.k =
    one_shl c.number.result 16 (omega (arith, c.number.ensures.small)) ∙ ap (λ n. 2 ^ n) c.number.ensures.value in
    let made = λ (n : ℕ). record c.args.self { bits = bit_or c.args.self.bits n } in
    subst (λ (n : ℕ). IsTrue (allowed (made n) l) ↔ (IsTrue (allowed c.args.self l) ⊎ (l ≡ c.args.k))) (sym e) (with_kind-allows c.args.self c.args.k l)
