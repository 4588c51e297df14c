-- A reader that is sound and reaches each expression finds the longest one and no other; and nothing nests no deeper than 0.
use Rattle.std.proofs.Common.{◌≡◌, ℕ, zero, ◌≤◌, inl, inr, List, length, Option, None, Some, sym, ap, subst, arith}
use Rattle.std.proofs.lemmas.Option.{none-some}
use Rattle.c_base.specs.declared.token.Token.{Token}
use Rattle.c_tree.specs.Trees.{Tree}
use Rattle.c_tree.specs.WellFormed.{Names}
use Rattle.c_parse_rules.specs.Found.{IsLongest, HasNone}
use Rattle.c_parse_rules.proofs.Laws.{Reached, ExprsSound, ExprsReached}
use Rattle.c_parse_rules.specs.Rules.{Found, Inner}
use Rattle.c_parse_rules.proofs.exprs.Beginnings.{expr_deep}

not_longer : (least : ℕ) (found : Found) (tree : Tree) (rest : List Token) → Reached least (Some found) tree rest → length found.1 ≤ length rest
not_longer least found tree rest (inl e) = let same = ap (λ (x : Found). length x.1) e in omega arith
not_longer least found tree rest (inr h) = let less = h.0 in omega arith

same_tree : (least : ℕ) (found : Found) (tree : Tree) → Reached least (Some found) tree found.1 → tree ≡ found.0
same_tree least found tree (inl e) = sym (ap (λ (x : Found). x.0) e)
same_tree least found tree (inr h) = let less = h.0 in absurd (omega arith)

module _ (depth : ℕ) (inner : Inner) (sound : ExprsSound depth inner) (reached : ExprsReached depth inner) where
  pub found_longest : (names : Names) (least : ℕ) (tokens : List Token) (found : Found) → least ≤ 14 → inner names least tokens ≡ Some found →
      IsLongest names least depth tokens found.0 found.1
  found_longest names least tokens found low same = record {
    front = sound names least tokens found low same;
    longest = λ other left f.
        not_longer least found other left (subst (λ (o : Option Found). Reached least o other left) same (reached names least tokens other left low f));
    only = λ other f. same_tree least found other (subst (λ (o : Option Found). Reached least o other found.1) same (reached names least tokens other found.1 low f));
  }

  pub none_there : (names : Names) (least : ℕ) (tokens : List Token) → least ≤ 14 → inner names least tokens ≡ None → HasNone names least depth tokens
  none_there names least tokens low same = λ tree rest f. subst (λ (o : Option Found). Reached least o tree rest) same (reached names least tokens tree rest low f)

-- what reads nothing reads all that nests no deeper than 0
pub nothing_sound : ExprsSound zero (λ (names : Names) (least : ℕ) (tokens : List Token). None)
nothing_sound names least tokens found low same = absurd (none-some found same)

pub nothing_reached : ExprsReached zero (λ (names : Names) (least : ℕ) (tokens : List Token). None)
nothing_reached names least tokens tree rest low f =
    let within = f.within in let deep = expr_deep names tree within.shape in let shallow = within.shallow in absurd (omega arith)
