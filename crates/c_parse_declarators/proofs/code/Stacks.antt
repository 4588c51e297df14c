-- Loops that read suffixes, each of which is a node above the next.
use Rattle.std.proofs.Common.{◌≡◌, ℕ, suc, max, ◌+◌, List, [], ◌∷◌, ◌++◌, length, map, Option, None, Some, refl, sym, ap, ◌∙◌, subst, arith}
use Rattle.c_base.specs.declared.token.Token.{Token}
use Rattle.c_tree.specs.Nesting.{nest, nest_all, nest_below}
use Rattle.c_tree.specs.Trees.{Tree}
use Rattle.c_tree.specs.Views.{listed}
use Rattle.c_tree.specs.WellFormed.{Names, after}
use Rattle.c_parse_base.proofs.code.Loops.{Loop, Midst, mapped_more, deepest_more, begun, one_more}
use Rattle.c_parse_base.specs.Heights.{capped}
use Rattle.c_parse_base.specs.Reads.{found_of, AreAfter, IsFound}
use Rattle.c_parse_attributes.specs.ReadsTypes.{AreStacked}
use Rattle.c_parse_rules.specs.Rules.{Found, Several}
use Rattle.c_parse_base.specs.declared.found.Found.{Found as CodeFound}
use Rattle.c_parse_base.specs.declared.found.Several.{Several as CodeSeveral}

pub below_more : (xs : List Tree) (x : Tree) → nest_below (listed (xs ++ x ∷ [])) ≡ max (nest_below (listed xs)) (suc (length xs + nest x))
below_more [] x = omega arith
below_more (y ∷ xs) x =
    let e : nest_below (listed (xs ++ x ∷ [])) ≡ max (nest_below (listed xs)) (suc (length xs + nest x)) = below_more xs x in omega arith

-- in the midst of a loop
pub record MidStack {T : Type 0} (view : T → Tree) (loop : Loop) (total : Several) (old : Names) (tokens : List Token)
    (found : List T) (height count : ℕ) (known : Names) (rest : List Token) : Type 0 where
  pub midst : Midst view loop total old [] tokens found (capped (nest_all (listed (map view found)))) known rest
  pub high : height ≡ capped (nest_below (listed (map view found)))
  pub long : count ≡ capped (length (map view found))

pub stack_begins : {T : Type 0} (view : T → Tree) (loop : Loop) (height count : ℕ) (names : Names) (tokens : List Token) →
    height ≡ capped 0 → count ≡ capped 0 → MidStack view loop (loop (suc (length tokens)) [] names tokens) names tokens [] height count names tokens
stack_begins view loop height count names tokens h k =
    record { midst = begun view loop [] (capped 0) names tokens refl; high = h; long = k }

-- a round that finds a suffix
pub stack_goes_on : {T : Type 0} (view : T → Tree) (loop : Loop) (total : Several) (old : Names) (found found' : List T) (tokens rest : List Token)
    (height height' count count' : ℕ) (names names' : Names) (x : CodeFound T) (plain : Option Found) →
    MidStack view loop total old tokens found height count names rest → IsFound view plain names names' rest (Some x) →
    ((f : Found) → plain ≡ Some f → (n : ℕ) → loop (suc n) (map view found) names rest ≡ loop n (map view found ++ f.0 ∷ []) (after names f.0) f.1) →
    found' ≡ found ++ x.tree ∷ [] → ((h m n : ℕ) → height ≡ capped h → count ≡ capped m → x.height ≡ capped n → height' ≡ capped (max h (suc (m + n)))) →
    ((n : ℕ) → count ≡ capped n → count' ≡ capped (suc n)) →
    MidStack view loop total old tokens found' height' count' names' x.rest.now
stack_goes_on view loop total old found found' tokens rest height height' count count' names names' x plain m r round more high counts =
    let all : map view found' ≡ map view found ++ view x.tree ∷ [] = rw more (mapped_more view found x.tree) in
    let long : length (map view found ++ view x.tree ∷ []) ≡ suc (length (map view found)) = longer (map view found) (view x.tree) in
    record {
      midst = one_more view loop total old [] found found' tokens rest x.rest.now (capped (nest_all (listed (map view found)))) (capped (nest_all (listed (map view found'))))
          names names' x.tree m.midst (round (found_of view x) (sym r.same)) more (rw all (ap capped (deepest_more (map view found) (view x.tree))))
          (subst (λ p. AreAfter names names' p) (sym r.same) r.names) r.shorter;
      high = high (nest_below (listed (map view found))) (length (map view found)) (nest (view x.tree)) m.high m.long r.height
          ∙ rw all (ap capped (sym (below_more (map view found) (view x.tree))));
      long = counts (length (map view found)) m.long ∙ rw all (ap capped (sym long));
    } where
      longer : (xs : List Tree) (x : Tree) → length (xs ++ x ∷ []) ≡ suc (length xs)
      longer [] x = refl
      longer (y ∷ xs) x = ap suc (longer xs x)

-- the round that finds none
pub stack_ends : {T : Type 0} (view : T → Tree) (loop : Loop) (total : Several) (old : Names) (found : List T) (tokens rest : List Token)
    (height count : ℕ) (names names' : Names) (plain : Option Found) (several : CodeSeveral T) →
    MidStack view loop total old tokens found height count names rest → IsFound view plain names names' rest None → names' ≡ names →
    (plain ≡ None → (n : ℕ) → loop (suc n) (map view found) names rest ≡ (map view found, rest)) →
    several.trees ≡ found → several.height ≡ height → several.rest.now ≡ rest → AreStacked view total old names' tokens several
stack_ends view loop total old found tokens rest height count names names' plain several m r same_names stop trees high left =
    let all : map view several.trees ≡ map view found = ap (map view) trees in
    record {
      same = rw (all, left) (sym (m.midst.same ∙ stop (sym r.same) m.midst.rounds));
      height = rw (all, high) m.high;
      names = same_names ∙ rw all (m.midst.names old refl);
      shorter = rw left m.midst.shorter;
    }
