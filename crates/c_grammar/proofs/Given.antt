-- The readers of the parts that have no rule keep their promises.
use Rattle.std.proofs.Common.{◌≡◌, ℕ, suc, ◌≤◌, List, [], ◌∷◌, length, Option, None, Some, refl, subst, arith}
use Rattle.std.proofs.lemmas.Option.{none-some, same_Some}
use Rattle.c_base.specs.declared.token.Token.{Token}
use Rattle.c_tree.specs.declared.tree.Attribute.{Attribute as CodeAttribute}
use Rattle.c_tree.specs.Nesting.{nest}
use Rattle.c_tree.specs.Spelling.{pieces, pieces_of_all, pieces_of_attribute, pieces_of_attributes, pieces_of_literals}
use Rattle.c_tree.specs.Trees.{Tree}
use Rattle.c_tree.specs.WellFormed.{Names, Before, ForName, after}
use Rattle.c_parse_rules.specs.Measured.{declarator_within, specifiers_within}
use Rattle.c_parse_rules.specs.Parsers.{expr_at}
use Rattle.c_parse_rules.specs.Rules.{Found, Several, literals}
use Rattle.c_parse_rules.specs.Tokens.{literal_at}
use Rattle.c_parse_rules.specs.TypeRules.{attribute_at}
use Rattle.c_parse_rules.proofs.Knot.{laws}
use Rattle.c_parse_rules.proofs.Promised.{expr_parsed}
use Rattle.c_parse_rules.proofs.PromisedTypes.{declarator_within_reached, declarator_within_sound, specifiers_within_reached, specifiers_within_sound}
use Rattle.c_parse_rules.proofs.exprs.Fronts.{fronts_left}
use Rattle.c_parse_rules.proofs.types.Parts.{attribute_reach, attribute_sound, attributes_reach, attributes_sound, literals_reach, literals_sound}
use Rattle.c_parse_rules.proofs.types.SuffixesReach.{expr_exact, listed_plain}
use Rattle.c_parse_rules.proofs.types.Words.{Fit, fit_literal, take_literal}
use Rattle.grammar.proofs.Lengths.{NoLonger}
use Rattle.grammar.proofs.Sound.{ReadersSound}
use Rattle.grammar.proofs.Telling.{ReadersReach}
use Rattle.c_grammar.specs.Leaves.{C, Reader, Expression, Assignment, Constant, SpecifierList, NamedDeclarator, StringLiterals, AttributeList, OneAttribute, AnExpr, Specifiers, ADeclarator, Literals, Attributes, AnAttribute, Ends, IsExprThere, IsFront, Taken, deep, read, expr_taken, specifiers_taken, declarator_taken, literals_taken, more_literals, attribute_taken}
use Rattle.c_grammar.specs.Picking.{readers}

-- ---- what is read stands there

-- a leaf is read where it stands, and nests so deep at most
abbrev Right : ℕ → Reader → Names → List Token → Taken → Type 0
Right d g names tokens t = IsFront g t.0 names tokens t.1 t.2 × (deep t.0 ≤ d)

module _ (d : ℕ) (g : Reader) (names : Names) (tokens : List Token) (t : Taken) where
  expr_right : (least : ℕ) (o : Option Found) → least ≤ 14 → expr_at d names least tokens ≡ o → expr_taken names o ≡ Some t →
      ((f : Found) → IsExprThere least f.0 names tokens (after names f.0) f.1 → nest f.0 ≤ d → Right d g names tokens (AnExpr f.0, after names f.0, f.1)) → Right d g names tokens t
  expr_right least None low same e k = absurd (none-some t e)
  expr_right least (Some f) low same e k =
      let front = (expr_parsed d least names tokens f low same).longest.front in
      let within = front.within in
      subst (Right d g names tokens) (same_Some _ t e) (k f (record { words = front.words; names = refl }, within.shape, within.tight) within.shallow)

specifiers_right : (d : ℕ) (names : Names) (tokens : List Token) (t : Taken) (o : Option Several) → specifiers_within d ForName names tokens ≡ o → specifiers_taken names o ≡ Some t →
    Right d SpecifierList names tokens t
specifiers_right d names tokens t None same e = absurd (none-some t e)
specifiers_right d names tokens t (Some f) same e =
    let front = (specifiers_within_sound ForName d names tokens f same).front in
    subst (Right d SpecifierList names tokens) (same_Some _ t e) ((record { words = front.words; names = refl }, front.there, front.shape), front.shallow)

declarator_right : (d : ℕ) (before : Before) (names : Names) (tokens : List Token) (t : Taken) (o : Option Found) → declarator_within d ForName names before tokens ≡ o →
    declarator_taken names o ≡ Some t → Right d (NamedDeclarator before) names tokens t
declarator_right d before names tokens t None same e = absurd (none-some t e)
declarator_right d before names tokens t (Some f) same e =
    let front = (declarator_within_sound ForName d before names tokens f same).front in
    subst (Right d (NamedDeclarator before) names tokens) (same_Some _ t e) ((record { words = front.words; names = refl }, front.shape), front.shallow)

more_literals_right : (d : ℕ) (names : Names) (tokens : List Token) (bytes : List ℕ × List Token) → literal_at tokens ≡ Some bytes →
    Right d StringLiterals names tokens (more_literals names (literals (suc (length bytes.1)) (bytes.0 ∷ []) bytes.1))
more_literals_right d names tokens bytes e =
    let s = literals_sound (suc (length bytes.1)) (bytes.0 ∷ []) bytes.1 in
    let all : Fit (pieces_of_literals (bytes.0 ∷ s.more)) tokens (literals (suc (length bytes.1)) (bytes.0 ∷ []) bytes.1).1 = fit_literal bytes e s.back in
    rw s.same ((record { words = all.is; names = refl }, tt), omega arith)

literals_right : (d : ℕ) (names : Names) (tokens : List Token) (t : Taken) (o : Option (List ℕ × List Token)) → literal_at tokens ≡ o → literals_taken names o ≡ Some t →
    Right d StringLiterals names tokens t
literals_right d names tokens t None same e = absurd (none-some t e)
literals_right d names tokens t (Some bytes) same e = subst (Right d StringLiterals names tokens) (same_Some _ t e) (more_literals_right d names tokens bytes same)

attribute_right : (d : ℕ) (names : Names) (tokens : List Token) (t : Taken) (o : Option (CodeAttribute × List Token)) → attribute_at tokens ≡ o → attribute_taken names o ≡ Some t →
    Right d OneAttribute names tokens t
attribute_right d names tokens t None same e = absurd (none-some t e)
attribute_right d names tokens t (Some a) same e =
    let s = attribute_sound tokens a same in let back = s.back in
    subst (Right d OneAttribute names tokens) (same_Some _ t e) ((record { words = back.is; names = refl }, s.balanced), omega arith)

pub sound : ReadersSound C readers
sound d Expression names tokens t e = expr_right d Expression names tokens t 0 _ (omega arith) refl e (λ f h small. (h, small))
sound d Assignment names tokens t e = expr_right d Assignment names tokens t 1 _ (omega arith) refl e (λ f h small. (h, small))
sound d Constant names tokens t e = expr_right d Constant names tokens t 2 _ (omega arith) refl e (λ f h small. (h, small))
sound d SpecifierList names tokens t e = specifiers_right d names tokens t _ refl e
sound d (NamedDeclarator before) names tokens t e = declarator_right d before names tokens t _ refl e
sound d StringLiterals names tokens t e = literals_right d names tokens t _ refl e
sound d AttributeList names tokens t e =
    let s = attributes_sound tokens in let back = s.back in
    subst (Right d AttributeList names tokens) (same_Some _ t e) ((record { words = back.is; names = refl }, s.all), omega arith)
sound d OneAttribute names tokens t e = attribute_right d names tokens t _ refl e

-- ---- what stands there is read

expr_reached : (d least : ℕ) (tree : Tree) (names : Names) (tokens : List Token) (new : Names) (rest : List Token) → least ≤ 14 → IsExprThere least tree names tokens new rest →
    nest tree ≤ d → expr_at d names least tokens ≡ Some (tree, rest) → expr_taken names (expr_at d names least tokens) ≡ Some (AnExpr tree, new, rest)
expr_reached d least tree names tokens new rest low h small e = rw (e, h.0.names) refl

literals_reached : (d : ℕ) (all : List (List ℕ)) (names : Names) (tokens : List Token) (new : Names) (rest : List Token) → IsFront StringLiterals (Literals all) names tokens new rest →
    Ends StringLiterals (Literals all) new rest → read d StringLiterals names tokens ≡ Some (Literals all, new, rest)
literals_reached d [] names tokens new rest h ends = absurd h.1
literals_reached d (bytes ∷ more) names tokens new rest h ends =
    let fit : Fit (pieces_of_literals (bytes ∷ more)) tokens rest = record { is = h.0.words } in
    let first = take_literal bytes fit in
    let e = literals_reach (suc (length first.left)) (bytes ∷ []) more first.left rest (omega arith) first.back ends in
    rw (first.is, e, h.0.names) refl

pub reached : ReadersReach C Ends readers
reached d Expression (AnExpr t) names tokens new rest h small ends =
    expr_reached d 0 t names tokens new rest (omega arith) h small (expr_exact d (expr_at d) (laws d).reached 0 names t tokens rest (omega arith) (h.2, h.1) small (record { is = h.0.words }) ends)
reached d Assignment (AnExpr t) names tokens new rest h small ends =
    expr_reached d 1 t names tokens new rest (omega arith) h small (expr_exact d (expr_at d) (laws d).reached 1 names t tokens rest (omega arith) (h.2, h.1) small (record { is = h.0.words }) ends)
reached d Constant (AnExpr t) names tokens new rest h small ends =
    expr_reached d 2 t names tokens new rest (omega arith) h small (expr_exact d (expr_at d) (laws d).reached 2 names t tokens rest (omega arith) (h.2, h.1) small (record { is = h.0.words }) ends)
reached d SpecifierList (Specifiers all) names tokens new rest h small ends =
    let e = specifiers_within_reached ForName d names tokens all rest (record { there = h.1; shape = h.2; shallow = small; words = h.0.words }) (rw h.0.names at ends) in
    rw (e, listed_plain all, h.0.names) refl
reached d (NamedDeclarator before) (ADeclarator t) names tokens new rest h small ends =
    let e = declarator_within_reached ForName d before names tokens t rest (record { shape = h.1; shallow = small; words = h.0.words }) ends in
    rw (e, h.0.names) refl
reached d StringLiterals (Literals all) names tokens new rest h small ends = literals_reached d all names tokens new rest h ends
reached d AttributeList (Attributes all) names tokens new rest h small ends =
    let e = attributes_reach all tokens rest h.1 (record { is = h.0.words }) ends in rw (e, h.0.names) refl
reached d OneAttribute (AnAttribute a) names tokens new rest h small ends =
    let e = attribute_reach a tokens rest h.1 (record { is = h.0.words }) in rw (e, h.0.names) refl
reached d _ _ names tokens new rest h small ends = absurd h

-- ---- and takes no more than the tokens

pub no_longer : NoLonger C
no_longer Expression (AnExpr t) names tokens new rest h = fronts_left (pieces t) tokens rest h.0.words
no_longer Assignment (AnExpr t) names tokens new rest h = fronts_left (pieces t) tokens rest h.0.words
no_longer Constant (AnExpr t) names tokens new rest h = fronts_left (pieces t) tokens rest h.0.words
no_longer SpecifierList (Specifiers all) names tokens new rest h = fronts_left (pieces_of_all all) tokens rest h.0.words
no_longer (NamedDeclarator before) (ADeclarator t) names tokens new rest h = fronts_left (pieces t) tokens rest h.0.words
no_longer StringLiterals (Literals all) names tokens new rest h = fronts_left (pieces_of_literals all) tokens rest h.0.words
no_longer AttributeList (Attributes all) names tokens new rest h = fronts_left (pieces_of_attributes all) tokens rest h.0.words
no_longer OneAttribute (AnAttribute a) names tokens new rest h = fronts_left (pieces_of_attribute a) tokens rest h.0.words
no_longer _ _ names tokens new rest h = absurd h
