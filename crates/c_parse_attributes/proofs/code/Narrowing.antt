-- What is found behind some tokens, seen from before them.
use Rattle.std.proofs.Common.{◌≡◌, ℕ, suc, ◌<◌, ◌≤◌, false, true, List, [], ◌∷◌, length, map, Option, None, Some, refl, sym, ap, ◌∙◌, subst, arith}
use Rattle.std.specs.Prelude.{IfSome}
use Rattle.c_base.specs.declared.number.Span.{Span}
use Rattle.c_base.specs.declared.token.Keyword.{Keyword}
use Rattle.c_base.specs.declared.token.Token.{Token}
use Rattle.c_tree.specs.Trees.{Tree}
use Rattle.c_tree.specs.declared.tree.TypeName.{TypeName}
use Rattle.c_tree.specs.Views.{optional, suffix_tree, type_name_tree}
use Rattle.c_tree.specs.WellFormed.{Names, ForParameter, after, after_parameter}
use Rattle.c_parse_rules.specs.Parsers.{expr_at, typing_at}
use Rattle.c_parse_base.specs.Reads.{AreAfter, IsFound}
use Rattle.c_parse_attributes.specs.ReadsTypes.{AreDeclared, AreListed, IsDeclared}
use Rattle.c_parse_rules.specs.Rules.{Found}
use Rattle.c_parse_rules.specs.TypeRules.{array_words}
use Rattle.c_parse_attributes.specs.TypesAtDepth.{all_parameters, array_at, array_end, closed_at, ellipsis_at, function_at, function_of}
use Rattle.c_parse_base.specs.declared.found.Found.{Found as CodeFound}
use Rattle.c_parse_base.specs.declared.found.Several.{Several as CodeSeveral}
use Rattle.c_tree.specs.declared.tree.Suffix.{Suffix}

shorter_still : {T : Type 0} (tokens tokens' : List Token) (r : Option (CodeFound T)) → IfSome r (λ f. length f.rest.now < length tokens) →
    length tokens ≤ length tokens' → IfSome r (λ f. length f.rest.now < length tokens')
shorter_still tokens tokens' None short le = tt
shorter_still tokens tokens' (Some f) short le = omega (arith, short, le)

pub narrowed : {T : Type 0} (view : T → Tree) (plain plain' : Option Found) (old new new' : Names) (tokens tokens' : List Token) (r : Option (CodeFound T)) →
    IsFound view plain old new tokens r → plain' ≡ plain → new' ≡ new → length tokens ≤ length tokens' → IsFound view plain' old new' tokens' r
narrowed view plain plain' old new new' tokens tokens' r f same names le = record {
  same = f.same ∙ sym same;
  height = f.height;
  names = rw names (subst (λ p. AreAfter old new p) (sym same) f.names);
  shorter = shorter_still tokens tokens' r f.shorter le;
}

-- the names behind what is found
pub named : {T : Type 0} (view : T → Tree) (plain : Option Found) (old new : Names) (tokens : List Token) (x : CodeFound T) →
    IsFound view plain old new tokens (Some x) → new ≡ after old (view x.tree)
named view plain old new tokens x f = subst (λ p. AreAfter old new p) (sym f.same) f.names

pub array_none : (d : ℕ) (span : Span) (names : Names) (tokens inside : List Token) (words : List Keyword) →
    (words, inside) ≡ array_words (suc (length tokens)) [] tokens → None ≡ expr_at d names 1 inside →
    array_at d span names tokens ≡ array_end span words (optional None) inside
array_none d span names tokens inside words e h = rw (← e, ← h) refl

pub array_some : (d : ℕ) (span : Span) (names : Names) (tokens inside : List Token) (words : List Keyword) (b : Found) →
    (words, inside) ≡ array_words (suc (length tokens)) [] tokens → Some b ≡ expr_at d names 1 inside →
    array_at d span names tokens ≡ array_end span words (optional (Some b.0)) b.1
array_some d span names tokens inside words b e h = rw (← e, ← h) refl

pub function_plain : (d : ℕ) (span : Span) (found : List Tree) (rest : List Token) → None ≡ ellipsis_at d rest →
    function_of d span (found, rest) ≡ closed_at span found false rest
function_plain d span found rest e = rw (← e) refl

pub function_variadic : (d : ℕ) (span : Span) (found : List Tree) (rest behind : List Token) → Some behind ≡ ellipsis_at d rest →
    function_of d span (found, rest) ≡ closed_at span found true behind
function_variadic d span found rest behind e = rw (← e) refl

pub function_none : (d : ℕ) (span : Span) (names : Names) (tokens : List Token) → None ≡ typing_at d ForParameter names tokens →
    function_at d span names tokens ≡ closed_at span [] false tokens
function_none d span names tokens e = rw (← e) refl

function_some : (d : ℕ) (span : Span) (names : Names) (tokens : List Token) (t : Found) → Some t ≡ typing_at d ForParameter names tokens →
    function_at d span names tokens ≡ function_of d span (all_parameters d (t.0 ∷ []) (after_parameter names t.0) t.1)
unfolding all_parameters
function_some d span names tokens t e = rw (← e) refl

pub function_read : (d : ℕ) (span : Span) (names names' : Names) (tokens : List Token) (first : CodeFound TypeName) (all : CodeSeveral TypeName) (items : List TypeName)
    (r : Option (CodeFound Suffix)) →
    IsDeclared type_name_tree (typing_at d ForParameter names tokens) names names' tokens (Some first) → items ≡ first.tree ∷ [] →
    AreListed type_name_tree (all_parameters d (map type_name_tree items) names' first.rest.now) first.rest.now all →
    IsFound suffix_tree (function_of d span (map type_name_tree all.trees, all.rest.now)) names names all.rest.now r →
    IsFound suffix_tree (function_at d span names tokens) names names tokens r
function_read d span names names' tokens first all items r declared one more f =
    let known : names' ≡ after_parameter names (type_name_tree first.tree) = subst (λ p. AreDeclared names names' p) (sym declared.same) declared.names in
    let same : (map type_name_tree all.trees, all.rest.now) ≡ all_parameters d (type_name_tree first.tree ∷ []) (after_parameter names (type_name_tree first.tree)) first.rest.now =
    rw (one, known) at more.same in
    let short : length first.rest.now < length tokens = declared.shorter in
    let shorter : length all.rest.now ≤ length first.rest.now = more.shorter in
    narrowed suffix_tree _ _ names names names _ _ r f
    (function_some d span names tokens (type_name_tree first.tree, first.rest.now) declared.same ∙ ap (function_of d span) (sym same)) refl (omega arith)

-- nothing is found
pub absent : {T : Type 0} (view : T → Tree) (plain : Option Found) (old new : Names) (tokens : List Token) → plain ≡ None → IsFound view plain old new tokens None
absent view plain old new tokens h = record { same = sym h; height = tt; names = subst (λ p. AreAfter old new p) (sym h) tt; shorter = tt }
