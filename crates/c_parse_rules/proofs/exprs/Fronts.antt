-- Pieces at the front of tokens: they split and join, and what is left is shorter; and the words that are read there.
use Rattle.std.proofs.Common.{◌≡◌, ℕ, ◌<◌, ◌≤◌, true, false, List, [], ◌∷◌, ◌++◌, length, Option, None, Some, refl, ap, arith, option_map, nat_eq}
use Rattle.std.proofs.lemmas.Option.{cond_some, none-some, same_Some}
use Rattle.std.proofs.lemmas.Bool.{cond-true, eqb-true, eq-eqb}
use denote.Enum.Bare.{true_same, same_true}
use Rattle.c_base.specs.contracts.token.Punctuator.{the_type as mark_type}
use Rattle.c_base.specs.declared.token.Punctuator.{Punctuator}
use Rattle.c_base.specs.declared.token.Punctuator.TheVariants as mark
use Rattle.c_base.specs.declared.token.Token.{Token}
use Rattle.c_base.specs.declared.token.Word.{Word}
use Rattle.c_base.specs.declared.token.Word.TheVariants as word
use Rattle.c_tree.specs.declared.operator.AssignmentOperator.{AssignmentOperator}
use Rattle.c_tree.specs.declared.operator.AssignmentOperator.TheVariants as assignment
use Rattle.c_tree.specs.declared.operator.BinaryOperator.{BinaryOperator}
use Rattle.c_tree.specs.declared.operator.BinaryOperator.TheVariants as binary
use Rattle.c_tree.specs.Spelling.{Piece, plain, sign, mark_of_binary, mark_of_assignment}
use Rattle.c_tree.specs.WellFormed.{level_of_operator}
use Rattle.c_parse_rules.specs.Found.{IsPlaced, Fronts}
use Rattle.c_parse_rules.specs.Tokens.{is_mark, behind_mark, first, text_of, name_at, bytes_of, literal_at, binary_of, of_level, operator_of, operator_at, assignment_of, assigning_of, assigning_at}

-- ---- fronts

-- the fronts of two lists of pieces, one behind the other
pub record Split (p q : List Piece) (tokens rest : List Token) : Type 0 where
  pub mid : List Token
  pub front : Fronts p tokens mid
  pub back : Fronts q mid rest

pub fronts_split : (p q : List Piece) (tokens rest : List Token) → Fronts (p ++ q) tokens rest → Split p q tokens rest
fronts_split [] q tokens rest h = record { mid = tokens; front = refl; back = h }
fronts_split (x ∷ p) q [] rest h = absurd h
fronts_split (x ∷ p) q (t ∷ tokens) rest h =
    let s = fronts_split p q tokens rest h.1 in record { mid = s.mid; front = (h.0, s.front); back = s.back }

pub fronts_join : (p q : List Piece) (tokens mid rest : List Token) → Fronts p tokens mid → Fronts q mid rest → Fronts (p ++ q) tokens rest
fronts_join [] q tokens mid rest f g = rw f g
fronts_join (x ∷ p) q [] mid rest f g = absurd f
fronts_join (x ∷ p) q (t ∷ tokens) mid rest f g = (f.0, fronts_join p q tokens mid rest f.1 g)

-- what is left is not longer
pub fronts_left : (p : List Piece) (tokens rest : List Token) → Fronts p tokens rest → length rest ≤ length tokens
fronts_left [] tokens rest h = rw h (omega arith)
fronts_left (x ∷ p) [] rest h = absurd h
fronts_left (x ∷ p) (t ∷ tokens) rest h = let l = fronts_left p tokens rest h.1 in omega arith

pub fronts_less : (x : Piece) (p : List Piece) (tokens rest : List Token) → Fronts (x ∷ p) tokens rest → length rest < length tokens
fronts_less x p [] rest h = absurd h
fronts_less x p (t ∷ tokens) rest h = let l = fronts_left p tokens rest h.1 in omega arith

-- the first token
pub record First (x : Piece) (p : List Piece) (tokens rest : List Token) : Type 0 where
  pub token : Token
  pub left : List Token
  pub same : tokens ≡ token ∷ left
  pub word : token.word ≡ x.word
  pub place : IsPlaced x.place token.span
  pub back : Fronts p left rest

pub fronts_first : (x : Piece) (p : List Piece) (tokens rest : List Token) → Fronts (x ∷ p) tokens rest → First x p tokens rest
fronts_first x p [] rest h = absurd h
fronts_first x p (t ∷ tokens) rest h =
    let piece = h.0 in record { token = t; left = tokens; same = refl; word = piece.word; place = piece.place; back = h.1 }

-- ---- words that are read

-- what is left behind the first token, on which the further pieces stand
pub record Behind (p : List Piece) (tokens rest : List Token) (found : Option (List Token)) : Type 0 where
  pub left : List Token
  pub is : found ≡ Some left
  pub back : Fronts p left rest
  pub less : length left < length tokens

pub mark_read : (m : Punctuator) (p : List Piece) (tokens rest : List Token) → Fronts (sign m ∷ p) tokens rest → Behind p tokens rest (behind_mark m tokens)
unfolding behind_mark
mark_read m p [] rest h = absurd h
mark_read m p (t ∷ tokens) rest h =
    let piece = h.0 in
    let yes : is_mark m t.word ≡ true = rw piece.word (true_same mark_type m m refl) in
    record { left = tokens; is = cond-true (is_mark m t.word) (Some tokens) None yes; back = h.1; less = omega arith }

is_mark_says : (m : Punctuator) (w : Word) → is_mark m w ≡ true → w ≡ word.Punctuator m
is_mark_says m (word.Punctuator found) e = ap word.Punctuator (same_true mark_type tt found m e)
is_mark_says m _ e = absurd (cc)

pub mark_found : (m : Punctuator) (p : List Piece) (tokens left rest : List Token) → behind_mark m tokens ≡ Some left → Fronts p left rest → Fronts (sign m ∷ p) tokens rest
unfolding behind_mark
mark_found m p [] left rest e h = absurd (none-some left e)
mark_found m p (t ∷ tokens) left rest e h =
    let s = cond_some (is_mark m t.word) tokens left e in
    (record { word = is_mark_says m t.word s.0; place = tt {0} }, rw s.1 h)

pub mark_alone : (m : Punctuator) (tokens left : List Token) → behind_mark m tokens ≡ Some left → Fronts (sign m ∷ []) tokens left
mark_alone m tokens left e = mark_found m [] tokens left left e refl

pub mark_less : (m : Punctuator) (tokens left : List Token) → behind_mark m tokens ≡ Some left → length left < length tokens
mark_less m tokens left e = fronts_less (sign m) [] tokens left (mark_alone m tokens left e)

pub mark_missing : (m : Punctuator) (t : Token) (tokens : List Token) → is_mark m t.word ≡ false → behind_mark m (t ∷ tokens) ≡ None
unfolding behind_mark
mark_missing m t tokens e = rw e refl

-- an item that the first token stands for
pub record Item (A : Type 0) (item : A) (p : List Piece) (tokens rest : List Token) (found : Option (A × List Token)) : Type 0 where
  pub left : List Token
  pub is : found ≡ Some (item, left)
  pub back : Fronts p left rest
  pub less : length left < length tokens

first_read : (A : Type 0) (f : Word → Option A) (item : A) (x : Piece) (p : List Piece) (tokens rest : List Token) → f x.word ≡ Some item →
    Fronts (x ∷ p) tokens rest → Item A item p tokens rest (first f tokens)
first_read A f item x p [] rest e h = absurd h
first_read A f item x p (t ∷ tokens) rest e h =
    let piece = h.0 in
    let yes : f t.word ≡ Some item = rw piece.word e in
    record { left = tokens; is = rw yes refl; back = h.1; less = omega arith }

pub record FirstFound (A : Type 0) (f : Word → Option A) (found : A × List Token) (tokens : List Token) : Type 0 where
  pub token : Token
  pub same : tokens ≡ token ∷ found.1
  pub is : f token.word ≡ Some found.0

mapped : (A : Type 0) (o : Option A) (tokens : List Token) (found : A × List Token) → option_map (λ (x : A). (x, tokens)) o ≡ Some found →
    (o ≡ Some found.0) × (tokens ≡ found.1)
mapped A None tokens found e = absurd (none-some found e)
mapped A (Some x) tokens found e = let s = same_Some (x, tokens) found e in (ap (λ (y : A × List Token). Some y.0) s, ap (λ (y : A × List Token). y.1) s)

pub first_found : (A : Type 0) (f : Word → Option A) (found : A × List Token) (tokens : List Token) → first f tokens ≡ Some found → FirstFound A f found tokens
first_found A f found [] e = absurd (none-some found e)
first_found A f found (t ∷ tokens) e =
    let m = mapped A (f t.word) tokens found e in
    record { token = t; same = rw m.1 refl; is = m.0 }

pub name_read : (name : List ℕ) (p : List Piece) (tokens rest : List Token) → Fronts (plain (word.Identifier name) ∷ p) tokens rest →
    Item (List ℕ) name p tokens rest (name_at tokens)
unfolding name_at
name_read name p tokens rest h = first_read (List ℕ) text_of name (plain (word.Identifier name)) p tokens rest refl h

text_says : (w : Word) (name : List ℕ) → text_of w ≡ Some name → w ≡ word.Identifier name
text_says (word.Identifier found) name e = ap word.Identifier (same_Some found name e)
text_says _ name e = absurd (none-some name e)

one_front : (A : Type 0) (f : Word → Option A) (found : A × List Token) (tokens : List Token) (w : Word) (p : List Piece) (rest : List Token) →
    (d : FirstFound A f found tokens) → d.token.word ≡ w → Fronts p found.1 rest → Fronts (plain w ∷ p) tokens rest
one_front A f found tokens w p rest d e h = rw d.same (record { word = e; place = tt {0} }, h)

pub name_found : (found : List ℕ × List Token) (p : List Piece) (tokens rest : List Token) → name_at tokens ≡ Some found → Fronts p found.1 rest →
    Fronts (plain (word.Identifier found.0) ∷ p) tokens rest
unfolding name_at
name_found found p tokens rest e h =
    let d = first_found (List ℕ) text_of found tokens e in
    one_front (List ℕ) text_of found tokens (word.Identifier found.0) p rest d (text_says d.token.word found.0 d.is) h

pub literal_read : (bytes : List ℕ) (p : List Piece) (tokens rest : List Token) → Fronts (plain (word.Text bytes) ∷ p) tokens rest →
    Item (List ℕ) bytes p tokens rest (literal_at tokens)
unfolding literal_at
literal_read bytes p tokens rest h = first_read (List ℕ) bytes_of bytes (plain (word.Text bytes)) p tokens rest refl h

bytes_say : (w : Word) (bytes : List ℕ) → bytes_of w ≡ Some bytes → w ≡ word.Text bytes
bytes_say (word.Text found) bytes e = ap word.Text (same_Some found bytes e)
bytes_say _ bytes e = absurd (none-some bytes e)

pub literal_found : (found : List ℕ × List Token) (p : List Piece) (tokens rest : List Token) → literal_at tokens ≡ Some found → Fronts p found.1 rest →
    Fronts (plain (word.Text found.0) ∷ p) tokens rest
unfolding literal_at
literal_found found p tokens rest e h =
    let d = first_found (List ℕ) bytes_of found tokens e in
    one_front (List ℕ) bytes_of found tokens (word.Text found.0) p rest d (bytes_say d.token.word found.0 d.is) h

-- ---- operators that are read

level_found : (level : ℕ) (o : Option BinaryOperator) (operator : BinaryOperator) → of_level level o ≡ Some operator →
    (o ≡ Some operator) × (level_of_operator operator ≡ level)
level_found level None operator e = absurd (none-some operator e)
level_found level (Some found) operator e =
    let s = cond_some (nat_eq (level_of_operator found) level) found operator e in
    let same = s.1 in (ap Some same, rw (← same) (eqb-true (level_of_operator found) level s.0))

binary_own : (operator : BinaryOperator) → binary_of (mark_of_binary operator) ≡ Some operator
binary_own binary.Multiply = refl
binary_own _ = refl

binary_says : (p : Punctuator) (operator : BinaryOperator) → binary_of p ≡ Some operator → p ≡ mark_of_binary operator
binary_says mark.Star operator e = rw (← same_Some binary.Multiply operator e) refl
binary_says mark.Slash operator e = rw (← same_Some binary.Divide operator e) refl
binary_says mark.Percent operator e = rw (← same_Some binary.Remainder operator e) refl
binary_says mark.Plus operator e = rw (← same_Some binary.Add operator e) refl
binary_says mark.Minus operator e = rw (← same_Some binary.Subtract operator e) refl
binary_says mark.ShiftLeft operator e = rw (← same_Some binary.ShiftLeft operator e) refl
binary_says mark.ShiftRight operator e = rw (← same_Some binary.ShiftRight operator e) refl
binary_says mark.Less operator e = rw (← same_Some binary.Less operator e) refl
binary_says mark.Greater operator e = rw (← same_Some binary.Greater operator e) refl
binary_says mark.LessEqual operator e = rw (← same_Some binary.LessEqual operator e) refl
binary_says mark.GreaterEqual operator e = rw (← same_Some binary.GreaterEqual operator e) refl
binary_says mark.Equal operator e = rw (← same_Some binary.Equal operator e) refl
binary_says mark.NotEqual operator e = rw (← same_Some binary.NotEqual operator e) refl
binary_says mark.Ampersand operator e = rw (← same_Some binary.BitAnd operator e) refl
binary_says mark.Caret operator e = rw (← same_Some binary.BitXor operator e) refl
binary_says mark.Bar operator e = rw (← same_Some binary.BitOr operator e) refl
binary_says mark.AndAnd operator e = rw (← same_Some binary.And operator e) refl
binary_says mark.OrOr operator e = rw (← same_Some binary.Or operator e) refl
binary_says _ operator e = absurd (none-some operator e)

assignment_own : (operator : AssignmentOperator) → assignment_of (mark_of_assignment operator) ≡ Some operator
assignment_own assignment.Plain = refl
assignment_own _ = refl

assignment_says : (p : Punctuator) (operator : AssignmentOperator) → assignment_of p ≡ Some operator → p ≡ mark_of_assignment operator
assignment_says mark.Assign operator e = rw (← same_Some assignment.Plain operator e) refl
assignment_says mark.StarAssign operator e = rw (← same_Some assignment.Multiply operator e) refl
assignment_says mark.SlashAssign operator e = rw (← same_Some assignment.Divide operator e) refl
assignment_says mark.PercentAssign operator e = rw (← same_Some assignment.Remainder operator e) refl
assignment_says mark.PlusAssign operator e = rw (← same_Some assignment.Add operator e) refl
assignment_says mark.MinusAssign operator e = rw (← same_Some assignment.Subtract operator e) refl
assignment_says mark.ShiftLeftAssign operator e = rw (← same_Some assignment.ShiftLeft operator e) refl
assignment_says mark.ShiftRightAssign operator e = rw (← same_Some assignment.ShiftRight operator e) refl
assignment_says mark.AmpersandAssign operator e = rw (← same_Some assignment.BitAnd operator e) refl
assignment_says mark.CaretAssign operator e = rw (← same_Some assignment.BitXor operator e) refl
assignment_says mark.BarAssign operator e = rw (← same_Some assignment.BitOr operator e) refl
assignment_says _ operator e = absurd (none-some operator e)

level_own : (level : ℕ) (operator : BinaryOperator) → level_of_operator operator ≡ level →
    operator_of level (word.Punctuator (mark_of_binary operator)) ≡ Some operator
level_own level operator e = rw (binary_own operator) (cond-true (nat_eq (level_of_operator operator) level) (Some operator) None (eq-eqb (level_of_operator operator) level e))

pub operator_read : (level : ℕ) (operator : BinaryOperator) (p : List Piece) (tokens rest : List Token) → level_of_operator operator ≡ level →
    Fronts (sign (mark_of_binary operator) ∷ p) tokens rest → Item BinaryOperator operator p tokens rest (operator_at level tokens)
unfolding operator_at
operator_read level operator p tokens rest e h =
    first_read BinaryOperator (operator_of level) operator (sign (mark_of_binary operator)) p tokens rest (level_own level operator e) h

operator_says : (level : ℕ) (w : Word) (operator : BinaryOperator) → operator_of level w ≡ Some operator →
    (w ≡ word.Punctuator (mark_of_binary operator)) × (level_of_operator operator ≡ level)
operator_says level (word.Punctuator p) operator e =
    let s = level_found level (binary_of p) operator e in (ap word.Punctuator (binary_says p operator s.0), s.1)
operator_says level _ operator e = absurd (none-some operator e)

-- an operator of the level that is found
pub record OperatorFound (level : ℕ) (found : BinaryOperator × List Token) (tokens : List Token) : Type 0 where
  pub token : Token
  pub same : tokens ≡ token ∷ found.1
  pub word : token.word ≡ word.Punctuator (mark_of_binary found.0)
  pub leveled : level_of_operator found.0 ≡ level

pub operator_found : (level : ℕ) (found : BinaryOperator × List Token) (tokens : List Token) → operator_at level tokens ≡ Some found → OperatorFound level found tokens
unfolding operator_at
operator_found level found tokens e =
    let d = first_found BinaryOperator (operator_of level) found tokens e in
    let s = operator_says level d.token.word found.0 d.is in record { token = d.token; same = d.same; word = s.0; leveled = s.1 }

pub assigning_read : (operator : AssignmentOperator) (p : List Piece) (tokens rest : List Token) → Fronts (sign (mark_of_assignment operator) ∷ p) tokens rest →
    Item AssignmentOperator operator p tokens rest (assigning_at tokens)
unfolding assigning_at
assigning_read operator p tokens rest h =
    first_read AssignmentOperator assigning_of operator (sign (mark_of_assignment operator)) p tokens rest (assignment_own operator) h

assigning_says : (w : Word) (operator : AssignmentOperator) → assigning_of w ≡ Some operator → w ≡ word.Punctuator (mark_of_assignment operator)
assigning_says (word.Punctuator p) operator e = ap word.Punctuator (assignment_says p operator e)
assigning_says _ operator e = absurd (none-some operator e)

pub record AssigningFound (found : AssignmentOperator × List Token) (tokens : List Token) : Type 0 where
  pub token : Token
  pub same : tokens ≡ token ∷ found.1
  pub word : token.word ≡ word.Punctuator (mark_of_assignment found.0)

pub assigning_found : (found : AssignmentOperator × List Token) (tokens : List Token) → assigning_at tokens ≡ Some found → AssigningFound found tokens
unfolding assigning_at
assigning_found found tokens e =
    let d = first_found AssignmentOperator assigning_of found tokens e in
    record { token = d.token; same = d.same; word = assigning_says d.token.word found.0 d.is }

sign_front : (m : Punctuator) (p : List Piece) (t : Token) (tokens left rest : List Token) → tokens ≡ t ∷ left → t.word ≡ word.Punctuator m → Fronts p left rest →
    Fronts (sign m ∷ p) tokens rest
sign_front m p t tokens left rest e w h = rw e (record { word = w; place = tt {0} }, h)

pub operator_front : (level : ℕ) (found : BinaryOperator × List Token) (p : List Piece) (tokens rest : List Token) → OperatorFound level found tokens → Fronts p found.1 rest →
    Fronts (sign (mark_of_binary found.0) ∷ p) tokens rest
operator_front level found p tokens rest d h = sign_front (mark_of_binary found.0) p d.token tokens found.1 rest d.same d.word h

pub assigning_front : (found : AssignmentOperator × List Token) (p : List Piece) (tokens rest : List Token) → AssigningFound found tokens → Fronts p found.1 rest →
    Fronts (sign (mark_of_assignment found.0) ∷ p) tokens rest
assigning_front found p tokens rest d h = sign_front (mark_of_assignment found.0) p d.token tokens found.1 rest d.same d.word h
