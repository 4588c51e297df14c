-- Loops that read one thing after the other, where no names are declared.
use Rattle.std.proofs.Common.{◌≡◌, ℕ, zero, suc, ◌<◌, ◌≤◌, List, [], ◌∷◌, ◌++◌, length, refl, sym, ◌∙◌, arith}
use Rattle.c_base.specs.declared.token.Token.{Token}

-- the plain loop, with rounds that are left, from what is found so far
abbrev pub Listing : Type 0 → Type 0
Listing A = ℕ → List A → List Token → List A × List Token

-- in the midst of a loop
pub record MidList {A : Type 0} (loop : Listing A) (total : List A × List Token) (tokens : List Token) (found : List A) (rest : List Token) : Type 0 where
  pub rounds : ℕ
  pub enough : length rest ≤ rounds
  pub same : total ≡ loop (suc rounds) found rest
  pub shorter : length rest ≤ length tokens

pub list_begins : {A : Type 0} (loop : Listing A) (found : List A) (tokens : List Token) →
    MidList loop (loop (suc (length tokens)) found tokens) tokens found tokens
list_begins loop found tokens = record { rounds = length tokens; enough = omega arith; same = refl; shorter = omega arith }

fewer : {A : Type 0} (loop : Listing A) (total : List A × List Token) (tokens : List Token) (found : List A) (rest next : List Token) (x : A) (n : ℕ) →
    length rest ≤ n → total ≡ loop (suc n) found rest → length rest ≤ length tokens → length next < length rest →
    ((m : ℕ) → loop (suc m) found rest ≡ loop m (found ++ x ∷ []) next) → MidList loop total tokens (found ++ x ∷ []) next
fewer loop total tokens found rest next x zero enough same short less round = absurd (omega arith)
fewer loop total tokens found rest next x (suc n) enough same short less round =
    record { rounds = n; enough = omega arith; same = same ∙ round (suc n); shorter = omega arith }

-- a round that finds something
pub list_goes_on : {A : Type 0} (loop : Listing A) (total : List A × List Token) (tokens : List Token) (found found' : List A) (rest next : List Token) (x : A) →
    MidList loop total tokens found rest → length next < length rest → found' ≡ found ++ x ∷ [] →
    ((m : ℕ) → loop (suc m) found rest ≡ loop m (found ++ x ∷ []) next) → MidList loop total tokens found' next
list_goes_on loop total tokens found found' rest next x m less all round =
    rw all (fewer loop total tokens found rest next x m.rounds m.enough m.same m.shorter less round)

-- the round that finds nothing
pub list_ends : {A : Type 0} (loop : Listing A) (total : List A × List Token) (tokens : List Token) (found : List A) (rest : List Token) →
    MidList loop total tokens found rest → ((m : ℕ) → loop (suc m) found rest ≡ (found, rest)) → (found, rest) ≡ total
list_ends loop total tokens found rest m stop = sym (m.same ∙ stop m.rounds)
