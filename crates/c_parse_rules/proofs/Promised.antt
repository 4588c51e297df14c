-- What the parsers of expressions and of type names find is what they promise.
use Rattle.std.proofs.Common.{◌≡◌, ℕ, ◌≤◌, inl, inr, false, true, List, Option, None, Some, refl, sym, ap, subst, ◌∙◌}
use Rattle.std.proofs.lemmas.Option.{none-some}
use Rattle.c_base.specs.declared.token.Token.{Token}
use Rattle.c_tree.specs.Trees.{Tree}
use Rattle.c_tree.specs.WellFormed.{Names, Purpose, ForName, after}
use Rattle.c_parse_rules.specs.Following.{goes_on}
use Rattle.c_parse_rules.specs.Parsers.{expr_at, typing_at}
use Rattle.c_parse_rules.specs.Promises.{IsExprRead, IsParsed, IsTypingRead}
use Rattle.c_parse_rules.specs.Rules.{Found}
use Rattle.c_parse_rules.proofs.Knot.{laws}
use Rattle.c_parse_rules.proofs.Laws.{Reached}
use Rattle.c_parse_rules.proofs.exprs.Readers.{found_longest, none_there}

-- what can't go on is found itself
alone : (least : ℕ) (found : Found) (tree : Tree) (rest : List Token) → Reached least (Some found) tree rest → goes_on least rest ≡ false → (found.0 ≡ tree) × (found.1 ≡ rest)
alone least found tree rest (inl e) stops = (ap (λ (x : Found). x.0) e, ap (λ (x : Found). x.1) e)
alone least found tree rest (inr h) stops = let goes : goes_on least rest ≡ true = h.1 in cc

pub expr_parsed : (depth least : ℕ) (names : Names) (tokens : List Token) (found : Found) → least ≤ 14 → expr_at depth names least tokens ≡ Some found →
    IsParsed names least depth tokens found.0 found.1
expr_parsed depth least names tokens found low same = record {
  longest = found_longest depth (expr_at depth) (laws depth).sound (laws depth).reached names least tokens found low same;
  exact = λ other left front stops.
      alone least found other left (subst (λ (o : Option Found). Reached least o other left) same ((laws depth).reached names least tokens other left low front)) stops;
}

pub expr_read : (depth least : ℕ) (names new : Names) (tokens : List Token) (plain : Option Found) → least ≤ 14 → expr_at depth names least tokens ≡ plain →
    (plain ≡ None → new ≡ names) → ((f : Found) → plain ≡ Some f → new ≡ after names f.0) → IsExprRead least depth names new tokens plain
expr_read depth least names new tokens None low same none some =
    (none_there depth (expr_at depth) (laws depth).sound (laws depth).reached names least tokens low same, none refl)
expr_read depth least names new tokens (Some f) low same none some = (expr_parsed depth least names tokens f low same, some f refl)

pub typing_read : (purpose : Purpose) (depth : ℕ) (names new : Names) (tokens : List Token) (plain : Option Found) → (purpose ≡ ForName → ⊥) →
    typing_at depth purpose names tokens ≡ plain → (plain ≡ None → new ≡ names) → ((f : Found) → plain ≡ Some f → new ≡ after names f.0) →
    IsTypingRead purpose depth names new tokens plain
typing_read purpose depth names new tokens None plainly same none some =
    ((λ other left front ends. none-some (other, left) (sym same ∙ (laws depth).types.typings_reached purpose names tokens other left front ends)), none refl)
typing_read purpose depth names new tokens (Some f) plainly same none some = (
  record {
    front = (laws depth).types.typings_sound purpose names tokens f plainly same;
    only = λ other left front ends.
        let h : Some f ≡ Some (other, left) = sym same ∙ (laws depth).types.typings_reached purpose names tokens other left front ends in
        let e : f ≡ (other, left) = cc in
        (ap (λ (x : Found). x.0) e, ap (λ (x : Found). x.1) e);
  },
  some f refl,
)
