-- Loops that read parameters, each of which is declared for those that follow.
use Rattle.std.proofs.Common.{◌≡◌, ℕ, zero, suc, max, ◌<◌, ◌≤◌, List, [], ◌∷◌, ◌++◌, length, map, Option, None, Some, refl, sym, ap, ◌∙◌, subst, arith}
use Rattle.c_base.specs.declared.token.Token.{Token}
use Rattle.c_tree.specs.Nesting.{nest, nest_all}
use Rattle.c_tree.specs.Trees.{Tree}
use Rattle.c_tree.specs.Views.{listed}
use Rattle.c_tree.specs.WellFormed.{Names, after_parameter}
use Rattle.c_parse_base.proofs.code.Loops.{Loop, mapped_more, deepest_more}
use Rattle.c_parse_base.specs.Heights.{capped}
use Rattle.c_parse_base.specs.Reads.{found_of}
use Rattle.c_parse_attributes.specs.ReadsTypes.{AreDeclared, AreListed, IsDeclared}
use Rattle.c_parse_rules.specs.Rules.{Found, Several}
use Rattle.c_parse_base.specs.declared.found.Found.{Found as CodeFound}
use Rattle.c_parse_base.specs.declared.found.Several.{Several as CodeSeveral}

-- in the midst of a loop
pub record MidListed {T : Type 0} (view : T → Tree) (loop : Loop) (total : Several) (tokens : List Token) (found : List T) (deepest : ℕ) (known : Names) (rest : List Token) : Type 0 where
  pub rounds : ℕ
  pub enough : length rest < suc rounds
  pub same : total ≡ loop (suc rounds) (map view found) known rest
  pub height : deepest ≡ capped (nest_all (listed (map view found)))
  pub shorter : length rest ≤ length tokens

pub listed_begins : {T : Type 0} (view : T → Tree) (loop : Loop) (before : List T) (height : ℕ) (names : Names) (tokens : List Token) →
    height ≡ capped (nest_all (listed (map view before))) → MidListed view loop (loop (suc (length tokens)) (map view before) names tokens) tokens before height names tokens
listed_begins view loop before height names tokens h = record { rounds = length tokens; enough = omega arith; same = refl; height = h; shorter = omega arith }

fewer : {T : Type 0} (view : T → Tree) (loop : Loop) (total : Several) (found found' : List T) (tokens rest rest' : List Token)
    (height' : ℕ) (names names' : Names) (x : T) (rounds : ℕ) → length rest < suc rounds → total ≡ loop (suc rounds) (map view found) names rest →
    length rest ≤ length tokens →
    ((n : ℕ) → loop (suc n) (map view found) names rest ≡ loop n (map view found ++ view x ∷ []) names' rest') →
    map view found' ≡ map view found ++ view x ∷ [] → height' ≡ capped (max (nest_all (listed (map view found))) (nest (view x))) →
    length rest' < length rest → MidListed view loop total tokens found' height' names' rest'
fewer view loop total found found' tokens rest rest' height' names names' x zero enough same short' round all high short = absurd (omega arith)
fewer view loop total found found' tokens rest rest' height' names names' x (suc n) enough same short' round all high short = record {
  rounds = n;
  enough = omega arith;
  same = same ∙ rw all (round (suc n));
  height = high ∙ rw all (ap capped (sym (deepest_more (map view found) (view x))));
  shorter = omega arith;
}

-- a round that finds a parameter
pub listed_goes_on : {T : Type 0} (view : T → Tree) (loop : Loop) (total : Several) (found found' : List T) (tokens rest : List Token)
    (height height' : ℕ) (names names' : Names) (x : CodeFound T) (plain : Option Found) →
    MidListed view loop total tokens found height names rest → IsDeclared view plain names names' rest (Some x) →
    ((f : Found) → plain ≡ Some f → (n : ℕ) → loop (suc n) (map view found) names rest ≡ loop n (map view found ++ f.0 ∷ []) (after_parameter names f.0) f.1) →
    found' ≡ found ++ x.tree ∷ [] → ((m n : ℕ) → height ≡ capped m → x.height ≡ capped n → height' ≡ capped (max m n)) →
    MidListed view loop total tokens found' height' names' x.rest.now
listed_goes_on view loop total found found' tokens rest height height' names names' x plain m r round more high =
    let behind : names' ≡ after_parameter names (view x.tree) = subst (λ p. AreDeclared names names' p) (sym r.same) r.names in
    let all : map view found' ≡ map view found ++ view x.tree ∷ [] = rw more (mapped_more view found x.tree) in
    fewer view loop total found found' tokens rest x.rest.now height' names names' x.tree m.rounds m.enough m.same m.shorter
    (λ n. rw behind (round (found_of view x) (sym r.same) n)) all (high (nest_all (listed (map view found))) (nest (view x.tree)) m.height r.height) r.shorter

-- the round that finds none
pub listed_ends : {T : Type 0} (view : T → Tree) (loop : Loop) (total : Several) (found : List T) (tokens rest : List Token)
    (height : ℕ) (names names' : Names) (plain : Option Found) (several : CodeSeveral T) →
    MidListed view loop total tokens found height names rest → IsDeclared view plain names names' rest None →
    (plain ≡ None → (n : ℕ) → loop (suc n) (map view found) names rest ≡ (map view found, rest)) →
    several.trees ≡ found → several.height ≡ height → several.rest.now ≡ rest → AreListed view total tokens several
listed_ends view loop total found tokens rest height names names' plain several m r stop trees high left =
    let all : map view several.trees ≡ map view found = ap (map view) trees in
    record {
      same = rw (all, left) (sym (m.same ∙ stop (sym r.same) m.rounds));
      height = rw (all, high) m.height;
      shorter = rw left m.shorter;
    }
