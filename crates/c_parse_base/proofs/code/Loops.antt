-- Loops that read one tree after the other.
use Rattle.std.proofs.Common.{◌≡◌, ℕ, zero, suc, max, ◌<◌, ◌≤◌, List, [], ◌∷◌, ◌++◌, length, map, Option, None, Some, refl, sym, ap, ◌∙◌, subst, arith}
use Rattle.c_base.specs.declared.token.Token.{Token}
use Rattle.c_tree.specs.Nesting.{nest, nest_all}
use Rattle.c_tree.specs.Trees.{Tree}
use Rattle.c_tree.specs.Views.{listed}
use Rattle.c_tree.specs.WellFormed.{Names, after, after_all}
use Rattle.c_parse_base.specs.Heights.{capped}
use Rattle.c_parse_rules.specs.Rules.{Found, Several}
use Rattle.c_parse_base.specs.Reads.{found_of, IsFound, AreAfter, AreFound}
use Rattle.c_parse_base.specs.declared.found.Found.{Found as CodeFound}
use Rattle.c_parse_base.specs.declared.found.Several.{Several as CodeSeveral}

pub mapped_more : {A B : Type 0} (f : A → B) (xs : List A) (x : A) → map f (xs ++ x ∷ []) ≡ map f xs ++ f x ∷ []
mapped_more f [] x = refl
mapped_more f (y ∷ xs) x = ap (λ more. f y ∷ more) (mapped_more f xs x)

pub deepest_more : (xs : List Tree) (x : Tree) → nest_all (listed (xs ++ x ∷ [])) ≡ max (nest_all (listed xs)) (nest x)
deepest_more [] x = omega arith
deepest_more (y ∷ xs) x = let e : nest_all (listed (xs ++ x ∷ [])) ≡ max (nest_all (listed xs)) (nest x) = deepest_more xs x in omega arith

pub after_more : (names : Names) (xs : List Tree) (x : Tree) → after_all names (listed (xs ++ x ∷ [])) ≡ after (after_all names (listed xs)) x
after_more names [] x = refl
after_more names (y ∷ xs) x = after_more (after names y) xs x

-- the plain loop, with rounds that are left, from what is found so far
abbrev pub Loop : Type 0
Loop = ℕ → List Tree → Names → List Token → Several

-- in the midst of a loop
pub record Midst {T : Type 0} (view : T → Tree) (loop : Loop) (total : Several) (old : Names) (before : List T) (tokens : List Token)
    (found : List T) (deepest : ℕ) (known : Names) (rest : List Token) : Type 0 where
  pub rounds : ℕ
  pub enough : length rest < suc rounds
  pub same : total ≡ loop (suc rounds) (map view found) known rest
  pub height : deepest ≡ capped (nest_all (listed (map view found)))
  pub names : (first : Names) → old ≡ after_all first (listed (map view before)) → known ≡ after_all first (listed (map view found))
  pub shorter : length rest ≤ length tokens

pub begun : {T : Type 0} (view : T → Tree) (loop : Loop) (before : List T) (height : ℕ) (names : Names) (tokens : List Token) →
    height ≡ capped (nest_all (listed (map view before))) →
    Midst view loop (loop (suc (length tokens)) (map view before) names tokens) names before tokens before height names tokens
begun view loop before height names tokens h =
    record { rounds = length tokens; enough = omega arith; same = refl; height = h; names = λ first e. e; shorter = omega arith }

pub one_more : {T : Type 0} (view : T → Tree) (loop : Loop) (total : Several) (old : Names) (before found found' : List T) (tokens rest rest' : List Token)
    (height height' : ℕ) (names names' : Names) (x : T) →
    Midst view loop total old before tokens found height names rest →
    ((n : ℕ) → loop (suc n) (map view found) names rest ≡ loop n (map view found ++ view x ∷ []) (after names (view x)) rest') →
    found' ≡ found ++ x ∷ [] → height' ≡ capped (max (nest_all (listed (map view found))) (nest (view x))) → names' ≡ after names (view x) →
    length rest' < length rest → Midst view loop total old before tokens found' height' names' rest'
one_more view loop total old before found found' tokens rest rest' height height' names names' x m round more high behind short =
    let all : map view found' ≡ map view found ++ view x ∷ [] = rw more (mapped_more view found x) in
    fewer view loop total old before found found' tokens rest rest' height height' names names' x m.rounds m.enough m.same m.names m.shorter round all high behind short where
      fewer : {T : Type 0} (view : T → Tree) (loop : Loop) (total : Several) (old : Names) (before found found' : List T) (tokens rest rest' : List Token)
          (height height' : ℕ) (names names' : Names) (x : T) (rounds : ℕ) → length rest < suc rounds → total ≡ loop (suc rounds) (map view found) names rest →
          ((first : Names) → old ≡ after_all first (listed (map view before)) → names ≡ after_all first (listed (map view found))) → length rest ≤ length tokens →
          ((n : ℕ) → loop (suc n) (map view found) names rest ≡ loop n (map view found ++ view x ∷ []) (after names (view x)) rest') →
          map view found' ≡ map view found ++ view x ∷ [] → height' ≡ capped (max (nest_all (listed (map view found))) (nest (view x))) → names' ≡ after names (view x) →
          length rest' < length rest → Midst view loop total old before tokens found' height' names' rest'
      fewer view loop total old before found found' tokens rest rest' height height' names names' x zero enough same known short' round all high behind short = absurd (omega arith)
      fewer view loop total old before found found' tokens rest rest' height height' names names' x (suc n) enough same known short' round all high behind short = record {
        rounds = n;
        enough = omega arith;
        same = same ∙ rw (all, behind) (round (suc n));
        height = high ∙ rw all (ap capped (sym (deepest_more (map view found) (view x))));
        names = λ first e. behind ∙ rw all (ap (λ n. after n (view x)) (known first e) ∙ sym (after_more first (map view found) (view x)));
        shorter = omega arith;
      }

pub ended : {T : Type 0} (view : T → Tree) (loop : Loop) (total : Several) (old : Names) (before : List T) (tokens rest : List Token)
    (names : Names) (several : CodeSeveral T) →
    Midst view loop total old before tokens several.trees several.height names rest →
    ((n : ℕ) → loop (suc n) (map view several.trees) names rest ≡ (map view several.trees, rest)) →
    several.rest.now ≡ rest → AreFound view before total old names tokens several
ended view loop total old before tokens rest names several m none left =
    record { same = rw left (sym (m.same ∙ none m.rounds)); height = m.height; names = m.names; shorter = rw left m.shorter }

-- a round that finds a tree
pub read_on : {T : Type 0} (view : T → Tree) (loop : Loop) (total : Several) (old : Names) (before found found' : List T) (tokens rest : List Token)
    (height height' : ℕ) (names names' : Names) (x : CodeFound T) (plain : Option Found) →
    Midst view loop total old before tokens found height names rest → IsFound view plain names names' rest (Some x) →
    ((f : Found) → plain ≡ Some f → (n : ℕ) → loop (suc n) (map view found) names rest ≡ loop n (map view found ++ f.0 ∷ []) (after names f.0) f.1) →
    found' ≡ found ++ x.tree ∷ [] → ((m n : ℕ) → height ≡ capped m → x.height ≡ capped n → height' ≡ capped (max m n)) →
    Midst view loop total old before tokens found' height' names' x.rest.now
read_on view loop total old before found found' tokens rest height height' names names' x plain m r round more high =
    one_more view loop total old before found found' tokens rest x.rest.now height height' names names' x.tree m
    (round (found_of view x) (sym r.same)) more (high (nest_all (listed (map view found))) (nest (view x.tree)) m.height r.height)
    (subst (λ p. AreAfter names names' p) (sym r.same) r.names) r.shorter

-- the round that finds none
pub read_end : {T : Type 0} (view : T → Tree) (loop : Loop) (total : Several) (old : Names) (before found : List T) (tokens rest : List Token)
    (height : ℕ) (names names' : Names) (plain : Option Found) (several : CodeSeveral T) →
    Midst view loop total old before tokens found height names rest → IsFound view plain names names' rest None → names' ≡ names →
    (plain ≡ None → (n : ℕ) → loop (suc n) (map view found) names rest ≡ (map view found, rest)) →
    several.trees ≡ found → several.height ≡ height → several.rest.now ≡ rest → AreFound view before total old names' tokens several
read_end view loop total old before found tokens rest height names names' plain several m r same_names stop trees high left =
    let all : map view several.trees ≡ map view found = ap (map view) trees in
    record {
      same = rw (all, left) (sym (m.same ∙ stop (sym r.same) m.rounds));
      height = rw (all, high) m.height;
      names = λ first e. same_names ∙ rw all (m.names first e);
      shorter = rw left m.shorter;
    }
