-- Neighbouring string literals.
use Rattle.std.proofs.Common.{◌≡◌, ℕ, zero, suc, ◌<◌, ◌≤◌, List, [], ◌∷◌, ◌++◌, length, None, Some, refl, sym, ◌∙◌, arith}
use Rattle.c_base.specs.declared.token.Token.{Token}
use Rattle.c_parse_rules.specs.Rules.{literals}
use Rattle.c_parse_rules.specs.Tokens.{literal_at}

pub record MoreLiterals (total : List (List ℕ) × List Token) (tokens : List Token) (found : List (List ℕ)) (rest : List Token) : Type 0 where
  pub rounds : ℕ
  pub enough : length rest ≤ rounds
  pub same : total ≡ literals (suc rounds) found rest
  pub shorter : length rest ≤ length tokens

pub literals_begin : (found : List (List ℕ)) (tokens : List Token) → MoreLiterals (literals (suc (length tokens)) found tokens) tokens found tokens
literals_begin found tokens = record { rounds = length tokens; enough = omega arith; same = refl; shorter = omega arith }

fewer : (total : List (List ℕ) × List Token) (tokens : List Token) (found : List (List ℕ)) (rest next : List Token) (bytes : List ℕ) (n : ℕ) → length rest ≤ n →
    total ≡ literals (suc n) found rest → length rest ≤ length tokens → Some (bytes, next) ≡ literal_at rest → length next < length rest →
    MoreLiterals total tokens (found ++ bytes ∷ []) next
fewer total tokens found rest next bytes zero enough same short e shorter = absurd (omega arith)
fewer total tokens found rest next bytes (suc n) enough same short e shorter =
    record { rounds = n; enough = omega arith; same = same ∙ rw (← e) refl; shorter = omega arith }

pub literals_more : (total : List (List ℕ) × List Token) (tokens : List Token) (found found' : List (List ℕ)) (rest next : List Token) (bytes : List ℕ) →
    MoreLiterals total tokens found rest → Some (bytes, next) ≡ literal_at rest → length next < length rest → found' ≡ found ++ bytes ∷ [] →
    MoreLiterals total tokens found' next
literals_more total tokens found found' rest next bytes m e shorter all = rw all (fewer total tokens found rest next bytes m.rounds m.enough m.same m.shorter e shorter)

pub literals_end : (total : List (List ℕ) × List Token) (tokens : List Token) (found : List (List ℕ)) (rest : List Token) →
    MoreLiterals total tokens found rest → None ≡ literal_at rest → (found, rest) ≡ total
literals_end total tokens found rest m e = sym (m.same ∙ rw (← e) refl)
