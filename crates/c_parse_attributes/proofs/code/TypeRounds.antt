-- One round of each loop of the plain parser of type names.
use Rattle.std.proofs.Common.{◌≡◌, ℕ, suc, List, [], ◌∷◌, ◌++◌, Option, None, Some, refl}
use Rattle.c_base.specs.declared.token.Punctuator.TheVariants as mark
use Rattle.c_base.specs.declared.token.Token.{Token}
use Rattle.c_tree.specs.Trees.{Tree}
use Rattle.c_tree.specs.WellFormed.{Names, Before, after, after_parameter}
use Rattle.c_parse_rules.specs.Parsers.{declarator_at, expr_at, specifier_at, typing_at}
use Rattle.c_parse_rules.specs.Rules.{Found}
use Rattle.c_parse_rules.specs.Tokens.{behind_mark}
use Rattle.c_parse_rules.specs.TypeRules.{enumerators_behind, fields_behind, parameters_behind}
use Rattle.c_parse_attributes.specs.TypesAtDepth.{behind_enumerator, behind_field, behind_parameter, enumerators, fields, member_at, members, next_enumerator, next_field, next_parameter, parameters, suffix_at, suffixes}

pub suffixes_go_on : (d : ℕ) (found : List Tree) (names : Names) (tokens : List Token) (e : Found) → suffix_at d names tokens ≡ Some e → (n : ℕ) →
    suffixes d (suc n) found names tokens ≡ suffixes d n (found ++ e.0 ∷ []) (after names e.0) e.1
suffixes_go_on d found names tokens e h n = rw h refl

pub suffixes_stop : (d : ℕ) (found : List Tree) (names : Names) (tokens : List Token) → suffix_at d names tokens ≡ None → (n : ℕ) →
    suffixes d (suc n) found names tokens ≡ (found, tokens)
suffixes_stop d found names tokens h n = rw h refl

pub members_go_on : (d : ℕ) (found : List Tree) (names : Names) (tokens : List Token) (e : Found) → member_at d names tokens ≡ Some e → (n : ℕ) →
    members d (suc n) found names tokens ≡ members d n (found ++ e.0 ∷ []) (after names e.0) e.1
members_go_on d found names tokens e h n = rw h refl

pub members_stop : (d : ℕ) (found : List Tree) (names : Names) (tokens : List Token) → member_at d names tokens ≡ None → (n : ℕ) →
    members d (suc n) found names tokens ≡ (found, tokens)
members_stop d found names tokens h n = rw h refl

parameter_goes_on : (d n : ℕ) (found : List Tree) (names : Names) (tokens : List Token) (e : Found) (behind : Option (List Token)) → behind_parameter d names behind ≡ Some e →
    parameters_behind d (expr_at d) (typing_at d) (specifier_at d) (declarator_at d) (parameters d n) found names tokens behind
    ≡ parameters d n (found ++ e.0 ∷ []) (after_parameter names e.0) e.1
parameter_goes_on d n found names tokens e None h = cc
parameter_goes_on d n found names tokens e (Some rest) h = rw h refl

pub parameters_go_on : (d : ℕ) (found : List Tree) (names : Names) (tokens : List Token) (e : Found) → next_parameter d names tokens ≡ Some e → (n : ℕ) →
    parameters d (suc n) found names tokens ≡ parameters d n (found ++ e.0 ∷ []) (after_parameter names e.0) e.1
parameters_go_on d found names tokens e h n = parameter_goes_on d n found names tokens e (behind_mark mark.Comma tokens) h

parameter_stops : (d n : ℕ) (found : List Tree) (names : Names) (tokens : List Token) (behind : Option (List Token)) → behind_parameter d names behind ≡ None →
    parameters_behind d (expr_at d) (typing_at d) (specifier_at d) (declarator_at d) (parameters d n) found names tokens behind ≡ (found, tokens)
parameter_stops d n found names tokens None h = refl
parameter_stops d n found names tokens (Some rest) h = rw h refl

pub parameters_stop : (d : ℕ) (found : List Tree) (names : Names) (tokens : List Token) → next_parameter d names tokens ≡ None → (n : ℕ) →
    parameters d (suc n) found names tokens ≡ (found, tokens)
parameters_stop d found names tokens h n = parameter_stops d n found names tokens (behind_mark mark.Comma tokens) h

field_goes_on : (d n : ℕ) (before : Before) (found : List Tree) (names : Names) (tokens : List Token) (e : Found) (behind : Option (List Token)) →
    behind_field d before names behind ≡ Some e →
    fields_behind d (expr_at d) (typing_at d) (specifier_at d) (declarator_at d) (fields d n before) before found names tokens behind
    ≡ fields d n before (found ++ e.0 ∷ []) (after names e.0) e.1
field_goes_on d n before found names tokens e None h = cc
field_goes_on d n before found names tokens e (Some rest) h = rw h refl

pub fields_go_on : (d : ℕ) (before : Before) (found : List Tree) (names : Names) (tokens : List Token) (e : Found) → next_field d before names tokens ≡ Some e → (n : ℕ) →
    fields d (suc n) before found names tokens ≡ fields d n before (found ++ e.0 ∷ []) (after names e.0) e.1
fields_go_on d before found names tokens e h n = field_goes_on d n before found names tokens e (behind_mark mark.Comma tokens) h

field_stops : (d n : ℕ) (before : Before) (found : List Tree) (names : Names) (tokens : List Token) (behind : Option (List Token)) →
    behind_field d before names behind ≡ None →
    fields_behind d (expr_at d) (typing_at d) (specifier_at d) (declarator_at d) (fields d n before) before found names tokens behind ≡ (found, tokens)
field_stops d n before found names tokens None h = refl
field_stops d n before found names tokens (Some rest) h = rw h refl

pub fields_stop : (d : ℕ) (before : Before) (found : List Tree) (names : Names) (tokens : List Token) → next_field d before names tokens ≡ None → (n : ℕ) →
    fields d (suc n) before found names tokens ≡ (found, tokens)
fields_stop d before found names tokens h n = field_stops d n before found names tokens (behind_mark mark.Comma tokens) h

enumerator_goes_on : (d n : ℕ) (found : List Tree) (names : Names) (tokens : List Token) (e : Found) (behind : Option (List Token)) → behind_enumerator d names behind ≡ Some e →
    enumerators_behind d (expr_at d) (typing_at d) (specifier_at d) (declarator_at d) (enumerators d n) found names tokens behind
    ≡ enumerators d n (found ++ e.0 ∷ []) (after names e.0) e.1
enumerator_goes_on d n found names tokens e None h = cc
enumerator_goes_on d n found names tokens e (Some rest) h = rw h refl

pub enumerators_go_on : (d : ℕ) (found : List Tree) (names : Names) (tokens : List Token) (e : Found) → next_enumerator d names tokens ≡ Some e → (n : ℕ) →
    enumerators d (suc n) found names tokens ≡ enumerators d n (found ++ e.0 ∷ []) (after names e.0) e.1
enumerators_go_on d found names tokens e h n = enumerator_goes_on d n found names tokens e (behind_mark mark.Comma tokens) h

enumerator_stops : (d n : ℕ) (found : List Tree) (names : Names) (tokens : List Token) (behind : Option (List Token)) → behind_enumerator d names behind ≡ None →
    enumerators_behind d (expr_at d) (typing_at d) (specifier_at d) (declarator_at d) (enumerators d n) found names tokens behind ≡ (found, tokens)
enumerator_stops d n found names tokens None h = refl
enumerator_stops d n found names tokens (Some rest) h = rw h refl

pub enumerators_stop : (d : ℕ) (found : List Tree) (names : Names) (tokens : List Token) → next_enumerator d names tokens ≡ None → (n : ℕ) →
    enumerators d (suc n) found names tokens ≡ (found, tokens)
enumerators_stop d found names tokens h n = enumerator_stops d n found names tokens (behind_mark mark.Comma tokens) h
