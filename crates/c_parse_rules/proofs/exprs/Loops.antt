-- The loops of the rules of expressions collect what a step finds.
use Rattle.std.proofs.Common.{◌≡◌, ℕ, zero, suc, ◌≤◌, true, List, [], ◌∷◌, ◌++◌, Option, None, Some, refl, subst}
use Rattle.std.proofs.lemmas.Option.{none-some, same_Some}
use Rattle.c_base.specs.declared.token.Punctuator.TheVariants as mark
use Rattle.c_base.specs.declared.token.Token.{Token}
use Rattle.c_tree.specs.declared.operator.BinaryOperator.{BinaryOperator}
use Rattle.c_tree.specs.Spelling.{Piece, sign, pieces, pieces_of_all, pieces_with_commas}
use Rattle.c_tree.specs.Trees.{Tree, Operand}
use Rattle.c_tree.specs.WellFormed.{Names, after, level_of, IsExpr, IsPart, AreParts, IsOperand, AreOperands, AreExprs}
use Rattle.c_parse_rules.specs.Tokens.{◌>>=◌, behind_mark, operator_at}
use Rattle.c_parse_rules.specs.Rules.{Found, Several, Inner, Types, listed_with, listed_behind, behind_commas, operands_with, operands_behind, operands, part_at, parts_with, parts}
use Rattle.c_parse_rules.proofs.exprs.Collecting.{collect_with, collect}
use Rattle.c_parse_rules.proofs.exprs.Listing.{IsListing}

-- ---- what is found first, and what is found behind it

pub record Bound {A B : Type 0} (o : Option A) (f : A → Option B) (y : B) : Type 0 where
  pub value : A
  pub is : o ≡ Some value
  pub then : f value ≡ Some y

pub bind_some : {A B : Type 0} (o : Option A) (f : A → Option B) (y : B) → (o >>= f) ≡ Some y → Bound o f y
bind_some None f y e = absurd (none-some y e)
bind_some (Some x) f y e = record { value = x; is = refl; then = e }

pub bind_is : {A B : Type 0} (o : Option A) (f : A → Option B) (x : A) (r : Option B) → o ≡ Some x → f x ≡ r → (o >>= f) ≡ r
bind_is o f x r e g = rw e g

-- what holds of what a last step answers holds of what is found
pub moved : {A : Type 0} (P : A → Type 0) (x y : A) → Some x ≡ Some y → P x → P y
moved P x y e h = subst P (same_Some x y e) h

-- ---- steps

module _ (depth : ℕ) (inner : Inner) (types : Types) where
  -- an expression behind a comma
  abbrev pub comma_step : Names → List Token → Option Found
  comma_step names tokens = behind_mark mark.Comma tokens >>= (λ rest. inner names 1 rest)

  abbrev pub operand_behind : ℕ → Names → BinaryOperator × List Token → Option Found
  operand_behind level names o = inner names (suc level) o.1 >>= (λ e. Some (Operand o.0 e.0, e.1))

  -- an operator of the level and its operand
  abbrev pub operand_step : ℕ → Names → List Token → Option Found
  operand_step level names tokens = operator_at level tokens >>= operand_behind level names

  abbrev Loop : Type 0
  Loop = List Tree → Names → List Token → Several

  abbrev Same : Loop → Loop → Type 0
  Same again other = (found : List Tree) (names : Names) (tokens : List Token) → again found names tokens ≡ other found names tokens

  commas_found : (again other : Loop) (found : List Tree) (names : Names) (tokens : List Token) (o : Option Found) → Same again other →
      listed_with depth inner types again found names tokens o ≡ collect_with comma_step after other found names tokens o
  commas_found again other found names tokens None same = refl
  commas_found again other found names tokens (Some e) same = same (found ++ e.0 ∷ []) (after names e.0) e.1

  commas_by : (again other : Loop) (found : List Tree) (names : Names) (tokens : List Token) (o : Option (List Token)) → Same again other →
      listed_behind depth inner types again found names tokens o ≡ collect_with comma_step after other found names tokens (o >>= (λ rest. inner names 1 rest))
  commas_by again other found names tokens None same = refl
  commas_by again other found names tokens (Some rest) same = commas_found again other found names tokens (inner names 1 rest) same

  pub same_commas : (n : ℕ) → Same (behind_commas depth inner types n) (collect comma_step after n)
  same_commas zero found names tokens = refl
  same_commas (suc n) found names tokens =
      commas_by (behind_commas depth inner types n) (collect comma_step after n) found names tokens (behind_mark mark.Comma tokens) (same_commas n)

  operands_found : (level : ℕ) (again other : Loop) (found : List Tree) (names : Names) (tokens : List Token) (operator : BinaryOperator) (o : Option Found) → Same again other →
      operands_with depth inner types again found operator names tokens o
      ≡ collect_with (operand_step level) after other found names tokens (o >>= (λ e. Some (Operand operator e.0, e.1)))
  operands_found level again other found names tokens operator None same = refl
  operands_found level again other found names tokens operator (Some e) same = same (found ++ Operand operator e.0 ∷ []) (after names e.0) e.1

  operands_by : (level : ℕ) (again other : Loop) (found : List Tree) (names : Names) (tokens : List Token) (o : Option (BinaryOperator × List Token)) → Same again other →
      operands_behind depth inner types again level found names tokens o ≡ collect_with (operand_step level) after other found names tokens (o >>= operand_behind level names)
  operands_by level again other found names tokens None same = refl
  operands_by level again other found names tokens (Some o) same = operands_found level again other found names tokens o.0 (inner names (suc level) o.1) same

  pub same_operands : (level n : ℕ) → Same (operands depth inner types n level) (collect (operand_step level) after n)
  same_operands level zero found names tokens = refl
  same_operands level (suc n) found names tokens =
      operands_by level (operands depth inner types n level) (collect (operand_step level) after n) found names tokens (operator_at level tokens) (same_operands level n)

  parts_by : (again other : Loop) (found : List Tree) (names : Names) (tokens : List Token) (o : Option Found) → Same again other →
      parts_with depth inner types again found names tokens o ≡ collect_with (part_at depth inner types) after other found names tokens o
  parts_by again other found names tokens None same = refl
  parts_by again other found names tokens (Some e) same = same (found ++ e.0 ∷ []) (after names e.0) e.1

  pub same_parts : (n : ℕ) → Same (parts depth inner types n) (collect (part_at depth inner types) after n)
  same_parts zero found names tokens = refl
  same_parts (suc n) found names tokens =
      parts_by (parts depth inner types n) (collect (part_at depth inner types) after n) found names tokens (part_at depth inner types names tokens) (same_parts n)

-- ---- what they list

abbrev pub IsArgument : Names → Tree → Type 0
IsArgument names t = (1 ≤ level_of t) × IsExpr names t

-- behind a comma
abbrev pub comma_pieces : Tree → List Piece
comma_pieces t = sign mark.Comma ∷ pieces t

pub commas_list : IsListing IsArgument AreExprs comma_pieces (pieces_with_commas true)
commas_list = record {
  none = λ names. tt {0};
  next = λ names t more one all. (one.0, one.1, all);
  first = λ names t more all. (all.0, all.1);
  others = λ names t more all. all.2;
  no_pieces = refl;
  more_pieces = λ t more. refl;
}

pub operands_list : (level : ℕ) → IsListing (IsOperand level) (AreOperands level) pieces pieces_of_all
operands_list level = record {
  none = λ names. tt {0};
  next = λ names t more one all. (one, all);
  first = λ names t more all. all.0;
  others = λ names t more all. all.1;
  no_pieces = refl;
  more_pieces = λ t more. refl;
}

pub parts_list : IsListing IsPart AreParts pieces pieces_of_all
parts_list = record {
  none = λ names. tt {0};
  next = λ names t more one all. (one, all);
  first = λ names t more all. all.0;
  others = λ names t more all. all.1;
  no_pieces = refl;
  more_pieces = λ t more. refl;
}
