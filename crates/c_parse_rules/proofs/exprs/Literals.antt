-- Neighbouring string literals.
use Rattle.std.proofs.Common.{◌≡◌, ℕ, zero, suc, ◌<◌, ◌⊎◌, inl, List, [], ◌∷◌, ◌++◌, length, Option, None, Some, refl, sym, ap, subst, arith}
use Rattle.c_base.specs.declared.token.Token.{Token}
use Rattle.c_base.specs.declared.token.Word.TheVariants as word
use Rattle.c_tree.specs.Spelling.{plain, pieces_of_literals}
use Rattle.c_parse_rules.specs.Found.{Fronts}
use Rattle.c_parse_rules.specs.Tokens.{literal_at}
use Rattle.c_parse_rules.specs.Rules.{literals_with, literals}
use Rattle.c_parse_rules.proofs.exprs.Collecting.{collect_with, collect, Chain, collect_sound, Meets, collect_reached}
use Rattle.c_parse_rules.proofs.exprs.Follows.{Goes, goes_by}
use Rattle.c_parse_rules.proofs.exprs.Fronts.{fronts_less, literal_read, literal_found}

-- nothing changes from one literal to the next
abbrev Still : Type 0
Still = Unit {0}

abbrev literal_step : Still → List Token → Option (List ℕ × List Token)
literal_step s tokens = literal_at tokens

abbrev next_literal : Still → List ℕ → Still
next_literal s bytes = s

abbrev Literal : Still → List ℕ → List Token → List Token → Type 0
Literal s bytes tokens mid = Fronts (plain (word.Text bytes) ∷ []) tokens mid

by_rounds : (again : List (List ℕ) → List Token → List (List ℕ) × List Token) (other : List (List ℕ) → Still → List Token → List (List ℕ) × List Token)
    (found : List (List ℕ)) (tokens : List Token) (o : Option (List ℕ × List Token)) →
    ((found : List (List ℕ)) (tokens : List Token) → again found tokens ≡ other found (tt {0}) tokens) →
    literals_with again found tokens o ≡ collect_with literal_step next_literal other found (tt {0}) tokens o
by_rounds again other found tokens None same = refl
by_rounds again other found tokens (Some bytes) same = same (found ++ bytes.0 ∷ []) bytes.1

same_literals : (n : ℕ) (found : List (List ℕ)) (tokens : List Token) → literals n found tokens ≡ collect literal_step next_literal n found (tt {0}) tokens
same_literals zero found tokens = refl
same_literals (suc n) found tokens = by_rounds (literals n) (collect literal_step next_literal n) found tokens (literal_at tokens) (same_literals n)

literal_chain : (more : List (List ℕ)) (s : Still) (tokens rest : List Token) → Fronts (pieces_of_literals more) tokens rest → Chain Literal next_literal s more tokens rest
literal_chain [] s tokens rest h = h
literal_chain (bytes ∷ more) s [] rest h = absurd h
literal_chain (bytes ∷ more) s (t ∷ tokens) rest h = (tokens, (h.0, refl), literal_chain more s tokens rest h.1)

literal_words : (more : List (List ℕ)) (s : Still) (tokens rest : List Token) → Chain Literal next_literal s more tokens rest → Fronts (pieces_of_literals more) tokens rest
literal_words [] s tokens rest c = c
literal_words (bytes ∷ more) s [] rest c = absurd c.1
literal_words (bytes ∷ more) s (t ∷ tokens) rest c =
    let front = c.1 in (front.0, literal_words more s tokens rest (subst (λ (x : List Token). Chain Literal next_literal s more x rest) (sym front.1) c.2))

-- what is found behind others
pub record LiteralsFound (found : List (List ℕ)) (tokens : List Token) (result : List (List ℕ) × List Token) : Type 0 where
  pub more : List (List ℕ)
  pub is : result.0 ≡ found ++ more
  pub words : Fronts (pieces_of_literals more) tokens result.1

pub literals_sound : (n : ℕ) (found : List (List ℕ)) (tokens : List Token) → LiteralsFound found tokens (literals n found tokens)
literals_sound n found tokens =
    let c = collect_sound literal_step next_literal Literal (λ s tokens e same. literal_found e [] tokens e.1 same refl) n found (tt {0}) tokens in
    subst (LiteralsFound found tokens) (sym (same_literals n found tokens))
    (record { more = c.more; is = c.is; words = literal_words c.more (tt {0}) tokens (collect literal_step next_literal n found (tt {0}) tokens).1 c.chain })

literal_goes : (bytes : List ℕ) (tokens rest : List Token) → Fronts (plain (word.Text bytes) ∷ []) tokens rest → Goes 16 tokens
literal_goes bytes [] rest h = absurd h
literal_goes bytes (t ∷ tokens) rest h = let piece = h.0 in goes_by 16 t tokens (rw piece.word (omega arith))

literal_steps : (s : Still) (tokens : List Token) (e : List ℕ × List Token) → literal_at tokens ≡ Some e → (length e.1 < length tokens) × Goes 16 tokens
literal_steps s tokens e same =
    let front = literal_found e [] tokens e.1 same refl in
    (fronts_less (plain (word.Text e.0)) [] tokens e.1 front, literal_goes e.0 tokens e.1 front)

literal_meets : (s : Still) (bytes : List ℕ) (tokens mid : List Token) → Literal s bytes tokens mid → Meets (λ (x : List Token). ⊥) (literal_at tokens) bytes mid
literal_meets s bytes tokens mid h =
    let r = literal_read bytes [] tokens mid h in
    rw r.is (inl (ap (λ (x : List Token). (bytes, x)) r.back))

-- the literals are found, or more where another follows
pub literals_reached : (n : ℕ) (found more : List (List ℕ)) (tokens rest : List Token) → length tokens < n → Fronts (pieces_of_literals more) tokens rest →
    (literals n found tokens ≡ (found ++ more, rest)) ⊎ ((length (literals n found tokens).1 < length rest) × Goes 16 rest)
literals_reached n found more tokens rest h words =
    rw (same_literals n found tokens)
    (collect_reached literal_step next_literal (Goes 16) literal_steps (λ (x : List Token). ⊥) (λ tokens e. absurd e) Literal
    (λ s bytes tokens mid front. fronts_less (plain (word.Text bytes)) [] tokens mid front) literal_meets (λ s bytes tokens mid front e. e)
    n found (tt {0}) more tokens rest h (literal_chain more (tt {0}) tokens rest words))
