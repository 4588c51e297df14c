-- One round of each loop of the plain parser.
use Rattle.std.proofs.Common.{◌≡◌, ℕ, suc, List, [], ◌∷◌, ◌++◌, Option, None, Some, refl}
use Rattle.c_base.specs.declared.token.Punctuator.TheVariants as mark
use Rattle.c_base.specs.declared.token.Token.{Token}
use Rattle.c_tree.specs.declared.operator.BinaryOperator.{BinaryOperator}
use Rattle.c_tree.specs.Trees.{Tree, Operand}
use Rattle.c_tree.specs.WellFormed.{Names, ForType, after}
use Rattle.c_parse_postfix.specs.AtDepth.{behind_commas, behind_comma, next_listed, operands, operand_of, behind_operator, next_operand, parts, part_at}
use Rattle.c_parse_rules.specs.Parsers.{expr_at, typing_at}
use Rattle.c_parse_rules.specs.Rules.{Found, listed_behind, operands_with, operands_behind}
use Rattle.c_parse_rules.specs.Tokens.{behind_mark, operator_at}

comma_goes_on : (d n : ℕ) (found : List Tree) (names : Names) (tokens : List Token) (e : Found) (behind : Option (List Token)) → behind_comma d names behind ≡ Some e →
    listed_behind d (expr_at d) (typing_at d ForType) (behind_commas d n) found names tokens behind ≡ behind_commas d n (found ++ e.0 ∷ []) (after names e.0) e.1
comma_goes_on d n found names tokens e None h = cc
comma_goes_on d n found names tokens e (Some rest) h = rw h refl

pub listed_goes_on : (d : ℕ) (found : List Tree) (names : Names) (tokens : List Token) (e : Found) → next_listed d names tokens ≡ Some e → (n : ℕ) →
    behind_commas d (suc n) found names tokens ≡ behind_commas d n (found ++ e.0 ∷ []) (after names e.0) e.1
listed_goes_on d found names tokens e h n = comma_goes_on d n found names tokens e (behind_mark mark.Comma tokens) h

comma_stops : (d n : ℕ) (found : List Tree) (names : Names) (tokens : List Token) (behind : Option (List Token)) → behind_comma d names behind ≡ None →
    listed_behind d (expr_at d) (typing_at d ForType) (behind_commas d n) found names tokens behind ≡ (found, tokens)
comma_stops d n found names tokens None h = refl
comma_stops d n found names tokens (Some rest) h = rw h refl

pub listed_stops : (d : ℕ) (found : List Tree) (names : Names) (tokens : List Token) → next_listed d names tokens ≡ None → (n : ℕ) →
    behind_commas d (suc n) found names tokens ≡ (found, tokens)
listed_stops d found names tokens h n = comma_stops d n found names tokens (behind_mark mark.Comma tokens) h

pub parts_go_on : (d : ℕ) (found : List Tree) (names : Names) (tokens : List Token) (e : Found) → part_at d names tokens ≡ Some e → (n : ℕ) →
    parts d (suc n) found names tokens ≡ parts d n (found ++ e.0 ∷ []) (after names e.0) e.1
parts_go_on d found names tokens e h n = rw h refl

pub parts_stop : (d : ℕ) (found : List Tree) (names : Names) (tokens : List Token) → part_at d names tokens ≡ None → (n : ℕ) →
    parts d (suc n) found names tokens ≡ (found, tokens)
parts_stop d found names tokens h n = rw h refl

operator_goes_on : (d n level : ℕ) (found : List Tree) (names : Names) (tokens : List Token) (operator : BinaryOperator) (e : Found) (operand : Option Found) →
    operand_of operator operand ≡ Some e →
    operands_with d (expr_at d) (typing_at d ForType) (λ more known rest. operands d n level more known rest) found operator names tokens operand
    ≡ operands d n level (found ++ e.0 ∷ []) (after names e.0) e.1
operator_goes_on d n level found names tokens operator e None h = cc
operator_goes_on d n level found names tokens operator e (Some o) h = let f : e ≡ (Operand operator o.0, o.1) = cc in rw f refl

behind_goes_on : (d n level : ℕ) (found : List Tree) (names : Names) (tokens : List Token) (e : Found) (o : Option (BinaryOperator × List Token)) →
    behind_operator d level names o ≡ Some e →
    operands_behind d (expr_at d) (typing_at d ForType) (λ more known rest. operands d n level more known rest) level found names tokens o
    ≡ operands d n level (found ++ e.0 ∷ []) (after names e.0) e.1
behind_goes_on d n level found names tokens e None h = cc
behind_goes_on d n level found names tokens e (Some o) h = operator_goes_on d n level found names tokens o.0 e (expr_at d names (suc level) o.1) h

pub operands_go_on : (d level : ℕ) (found : List Tree) (names : Names) (tokens : List Token) (e : Found) → next_operand d level names tokens ≡ Some e → (n : ℕ) →
    operands d (suc n) level found names tokens ≡ operands d n level (found ++ e.0 ∷ []) (after names e.0) e.1
operands_go_on d level found names tokens e h n = behind_goes_on d n level found names tokens e (operator_at level tokens) h

operator_stops : (d n level : ℕ) (found : List Tree) (names : Names) (tokens : List Token) (operator : BinaryOperator) (operand : Option Found) →
    operand_of operator operand ≡ None →
    operands_with d (expr_at d) (typing_at d ForType) (λ more known rest. operands d n level more known rest) found operator names tokens operand ≡ (found, tokens)
operator_stops d n level found names tokens operator None h = refl
operator_stops d n level found names tokens operator (Some o) h = cc

behind_stops : (d n level : ℕ) (found : List Tree) (names : Names) (tokens : List Token) (o : Option (BinaryOperator × List Token)) →
    behind_operator d level names o ≡ None →
    operands_behind d (expr_at d) (typing_at d ForType) (λ more known rest. operands d n level more known rest) level found names tokens o ≡ (found, tokens)
behind_stops d n level found names tokens None h = refl
behind_stops d n level found names tokens (Some o) h = operator_stops d n level found names tokens o.0 (expr_at d names (suc level) o.1) h

pub operands_stop : (d level : ℕ) (found : List Tree) (names : Names) (tokens : List Token) → next_operand d level names tokens ≡ None → (n : ℕ) →
    operands d (suc n) level found names tokens ≡ (found, tokens)
operands_stop d level found names tokens h n = behind_stops d n level found names tokens (operator_at level tokens) h
