-- What goes on with an expression of a level.
use Rattle.std.proofs.Common.{◌≡◌, ℕ, suc, ◌<◌, ◌≤◌, ◌⊎◌, inl, inr, List, [], ◌∷◌, Option, None, Some, refl, arith, IsTrue}
use Rattle.std.proofs.lemmas.Bool.{ltb-true, lt-ltb}
use Rattle.c_base.specs.declared.token.Punctuator.TheVariants as mark
use Rattle.c_base.specs.declared.token.Token.{Token}
use Rattle.c_base.specs.declared.token.Word.{Word}
use Rattle.c_base.specs.declared.token.Word.TheVariants as word
use Rattle.c_tree.specs.declared.operator.AssignmentOperator.{AssignmentOperator}
use Rattle.c_tree.specs.declared.operator.AssignmentOperator.TheVariants as assignment
use Rattle.c_tree.specs.declared.operator.BinaryOperator.{BinaryOperator}
use Rattle.c_tree.specs.declared.operator.BinaryOperator.TheVariants as binary
use Rattle.c_tree.specs.Spelling.{Piece, mark_of_binary, mark_of_assignment}
use Rattle.c_tree.specs.WellFormed.{level_of_operator}
use Rattle.c_parse_rules.specs.Found.{Fronts}
use Rattle.c_parse_rules.specs.Tokens.{binary_of, assignment_of}
use Rattle.c_parse_rules.specs.Following.{past_operator, binding, goes_on}

abbrev pub Goes : ℕ → List Token → Type 0
Goes least tokens = IsTrue (goes_on least tokens)

pub goes_by : (least : ℕ) (t : Token) (tokens : List Token) → least < binding t.word → Goes least (t ∷ tokens)
goes_by least t tokens h = lt-ltb least (binding t.word) h

pub goes_bound : (least : ℕ) (t : Token) (tokens : List Token) → Goes least (t ∷ tokens) → least < binding t.word
goes_bound least t tokens h = ltb-true least (binding t.word) h

pub goes_weaker : (j k : ℕ) (tokens : List Token) → j ≤ k → Goes k tokens → Goes j tokens
goes_weaker j k [] le h = h
goes_weaker j k (t ∷ tokens) le h = let b = goes_bound k t tokens h in goes_by j t tokens (omega arith)

pub binary_binding : (operator : BinaryOperator) → binding (word.Punctuator (mark_of_binary operator)) ≡ suc (level_of_operator operator)
binary_binding binary.Multiply = refl
binary_binding _ = refl

pub assignment_binding : (operator : AssignmentOperator) → binding (word.Punctuator (mark_of_assignment operator)) ≡ 2
assignment_binding assignment.Plain = refl
assignment_binding _ = refl

pub operator_level : (operator : BinaryOperator) → (3 ≤ level_of_operator operator) × (level_of_operator operator ≤ 12)
operator_level binary.Multiply = omega arith
operator_level _ = omega arith

past_gap : (o : Option BinaryOperator) (other : Option AssignmentOperator) → past_operator o other ≤ 13
past_gap (Some operator) other = let l = (operator_level operator).1 in omega arith
past_gap None (Some operator) = omega arith
past_gap None None = omega arith

binding_gap : (w : Word) → (binding w ≤ 13) ⊎ (16 ≤ binding w)
binding_gap (word.Text bytes) = inr (omega arith)
binding_gap (word.Punctuator mark.OpenBracket) = inr (omega arith)
binding_gap (word.Punctuator mark.OpenParenthesis) = inr (omega arith)
binding_gap (word.Punctuator mark.Dot) = inr (omega arith)
binding_gap (word.Punctuator mark.Arrow) = inr (omega arith)
binding_gap (word.Punctuator mark.Increment) = inr (omega arith)
binding_gap (word.Punctuator mark.Decrement) = inr (omega arith)
binding_gap (word.Punctuator mark.Question) = inl (omega arith)
binding_gap (word.Punctuator mark.Comma) = inl (omega arith)
binding_gap (word.Punctuator p) = inl (past_gap (binary_of p) (assignment_of p))
binding_gap _ = inl (omega arith)

-- behind a cast's or a prefix operator's operand nothing else goes on than behind a postfix run
pub goes_tighter : (tokens : List Token) → Goes 13 tokens → Goes 15 tokens
goes_tighter [] h = h
goes_tighter (t ∷ tokens) h = let b = goes_bound 13 t tokens h in goes_by 15 t tokens (by (binding_gap t.word) b)
  where
    by : (binding t.word ≤ 13) ⊎ (16 ≤ binding t.word) → 13 < binding t.word → 15 < binding t.word
    by (inl l) b = absurd (omega arith)
    by (inr l) b = omega arith

-- where a piece is first, its word says whether the tokens go on
pub goes_front : (least : ℕ) (x : Piece) (p : List Piece) (tokens rest : List Token) → Fronts (x ∷ p) tokens rest → Goes least tokens → least < binding x.word
goes_front least x p [] rest h g = absurd h
goes_front least x p (t ∷ tokens) rest h g = let piece = h.0 in let b = goes_bound least t tokens g in rw piece.word at b

pub front_goes : (least : ℕ) (x : Piece) (p : List Piece) (tokens rest : List Token) → Fronts (x ∷ p) tokens rest → least < binding x.word → Goes least tokens
front_goes least x p [] rest h b = absurd h
front_goes least x p (t ∷ tokens) rest h b = let piece = h.0 in goes_by least t tokens (rw piece.word b)
