-- Loops that read specifiers, each of which says what stands before the next.
use Rattle.std.proofs.Common.{◌≡◌, ℕ, suc, ◌+◌, ◌<◌, ◌≤◌, List, [], ◌∷◌, ◌++◌, length, map, None, Some, refl, sym, ap, ◌∙◌, length-append, arith}
use Rattle.c_base.specs.declared.token.Token.{Token}
use Rattle.c_tree.specs.declared.tree.Specifier.{Specifier}
use Rattle.c_tree.specs.Trees.{Tree}
use Rattle.c_tree.specs.Views.{listed, specifier_tree, specifiers_of}
use Rattle.c_tree.specs.WellFormed.{Names, Before, Untyped, Purpose, after, before_end, before_next}
use Rattle.c_parse_base.proofs.code.Loops.{mapped_more}
use Rattle.c_parse_base.specs.Purposes.{before_of}
use Rattle.c_parse_rules.specs.Rules.{Found}
use Rattle.c_parse_rules.specs.TypeRules.{Specifiers}
use Rattle.c_parse_attributes.specs.TypesAtDepth.{specifiers_from}
use Rattle.c_parse_base.specs.declared.purpose.Before.{Before as CodeBefore}

before_more : (before : Before) (xs : List Tree) (x : Tree) → before_end before (listed (xs ++ x ∷ [])) ≡ before_next (before_end before (listed xs)) x
before_more before [] x = refl
before_more before (y ∷ xs) x = before_more (before_next before y) xs x

pub specifiers_go_on : (d : ℕ) (read : Specifiers) (purpose : Purpose) (found : List Tree) (names : Names) (tokens : List Token) (e : Found) →
    read purpose names (before_end Untyped (listed found)) tokens ≡ Some e → (n : ℕ) →
    specifiers_from d read purpose (suc n) found names tokens ≡ specifiers_from d read purpose n (found ++ e.0 ∷ []) (after names e.0) e.1
specifiers_go_on d read purpose found names tokens e h n = rw (h, before_more Untyped found e.0) refl

pub specifiers_stop : (d : ℕ) (read : Specifiers) (purpose : Purpose) (found : List Tree) (names : Names) (tokens : List Token) →
    read purpose names (before_end Untyped (listed found)) tokens ≡ None → (n : ℕ) → specifiers_from d read purpose (suc n) found names tokens ≡ (found, tokens)
specifiers_stop d read purpose found names tokens h n = rw h refl

pub before_grown : (before before' : CodeBefore) (found found' : List Specifier) (x : Specifier) → before_of before ≡ before_end Untyped (specifiers_of found) →
    found' ≡ found ++ x ∷ [] → before_of before' ≡ before_next (before_of before) (specifier_tree x) → before_of before' ≡ before_end Untyped (specifiers_of found')
before_grown before before' found found' x known more next =
    let all : map specifier_tree found' ≡ map specifier_tree found ++ specifier_tree x ∷ [] = rw more (mapped_more specifier_tree found x) in
    next ∙ rw all (ap (λ b. before_next b (specifier_tree x)) known ∙ sym (before_more Untyped (map specifier_tree found) (specifier_tree x)))

-- each has at least one token
pub fewer_left : (tokens rest rest' : List Token) (found found' : List Specifier) (x : Specifier) → length rest + length found ≤ length tokens →
    length rest' < length rest → found' ≡ found ++ x ∷ [] → length rest' + length found' ≤ length tokens
fewer_left tokens rest rest' found found' x few less more = let long : length found' ≡ length found + 1 = rw more (length-append found (x ∷ [])) in omega arith
