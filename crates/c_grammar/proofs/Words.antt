-- The first words of expressions, specifiers and declarators, and what stands behind a first name.
use Rattle.std.proofs.Common.{◌≡◌, ℕ, ◌<◌, Bool, true, false, ◌&&◌, List, [], ◌∷◌, ◌++◌, length, refl}
use Rattle.c_base.specs.declared.token.Keyword.TheVariants as key
use Rattle.c_base.specs.declared.token.Punctuator.TheVariants as mark
use Rattle.c_base.specs.declared.token.Token.{Token}
use Rattle.c_base.specs.declared.token.Word.{Word}
use Rattle.c_base.specs.declared.token.Word.TheVariants as word
use Rattle.c_tree.specs.declared.operator.AssignmentOperator.{AssignmentOperator}
use Rattle.c_tree.specs.declared.operator.AssignmentOperator.TheVariants as assignment
use Rattle.c_tree.specs.declared.operator.BinaryOperator.{BinaryOperator}
use Rattle.c_tree.specs.declared.operator.BinaryOperator.TheVariants as binary
use Rattle.c_tree.specs.declared.operator.PrefixOperator.{PrefixOperator}
use Rattle.c_tree.specs.declared.operator.PrefixOperator.TheVariants as prefix
use Rattle.c_tree.specs.declared.operator.TypeOperator.TheVariants as type_operator
use Rattle.c_tree.specs.Spelling.{Piece, at, sign, pieces, pieces_of_all, pieces_with_commas, mark_of_assignment, mark_of_binary, word_of_prefix}
use Rattle.c_tree.specs.Trees.{Tree, Name, Integer, Floating, Character, Text, Parenthesised, Postfix, Prefix, OfType, Offsetof, Cast, Run, Conditional, Assignment, Comma, Index, Call, Dot, Arrow, Increment, Decrement, Operand, Key, Typedef, Attribute, CompositeTag, Composite, EnumTag, Enum, Trees, Nil, Next}
use Rattle.c_tree.specs.WellFormed.{Names, Before, ForName, after, before_next, AreOperands, AreParts, AreSpecifiers, AreThere, IsExpr, level_of_run}
use Rattle.c_parse_rules.specs.Declaring.{starts, goes_on_specifiers}
use Rattle.c_parse_rules.specs.Tokens.{begins_type, is_key, is_mark}
use Rattle.c_parse_rules.proofs.Laws.{begins_expr}
use Rattle.c_parse_rules.proofs.exprs.Beginnings.{expr_begins}
use Rattle.c_parse_rules.proofs.types.Begins.{expr_begins as pieces_begin, specifier_goes_on, specifier_type}
use Rattle.c_parse_rules.proofs.types.Words.{Fit, begins, begins_joined, fit_first, fit_next, fit_absurd, fit_split, shorter, starts_not, starts_with}
use Rattle.c_grammar.specs.Table.{begins_declaration, is_name, on_label}

-- ---- what is no label

no_colon : (b : Bool) → b && false ≡ false
no_colon true = refl
no_colon false = refl

-- a first word that is no name
not_named : (names : Names) {tokens rest : List Token} (p : Piece) (more : List Piece) → is_name p.word ≡ false → Fit (p ∷ more) tokens rest → on_label names tokens ≡ false
not_named names {tokens} {rest} p more e h = go tokens h
  where
    go : (tokens : List Token) → Fit (p ∷ more) tokens rest → on_label names tokens ≡ false
    go [] h = fit_absurd h
    go (t ∷ tokens) h = let piece = fit_first h in rw (piece.word, e) refl

-- one first word, and no colon behind it
one_named : (names : Names) {tokens rest : List Token} (p : Piece) → Fit (p ∷ []) tokens rest → starts (is_mark mark.Colon) rest ≡ false → on_label names tokens ≡ false
one_named names {tokens} {rest} p h end = go tokens h
  where
    go : (tokens : List Token) → Fit (p ∷ []) tokens rest → on_label names tokens ≡ false
    go [] h = fit_absurd h
    go (t ∷ tokens) h = let next = (fit_next h).is in rw (next, end) (no_colon (is_name t.word))

-- a mark that is no colon
abbrev other_mark : Word → Bool
other_mark (word.Punctuator mark.Colon) = false
other_mark (word.Punctuator p) = true
other_mark _ = false

other_colon : (w : Word) → other_mark w ≡ true → is_mark mark.Colon w ≡ false
other_colon (word.Punctuator mark.Colon) h = absurd (cc)
other_colon (word.Punctuator p) h = refl
other_colon _ h = refl

binary_mark : (o : BinaryOperator) → other_mark (word.Punctuator (mark_of_binary o)) ≡ true
binary_mark binary.Multiply = refl
binary_mark _ = refl

assignment_mark : (o : AssignmentOperator) → other_mark (word.Punctuator (mark_of_assignment o)) ≡ true
assignment_mark assignment.Plain = refl
assignment_mark _ = refl

prefix_name : (o : PrefixOperator) → is_name (word_of_prefix o) ≡ false
prefix_name prefix.Increment = refl
prefix_name _ = refl

parts_mark : (names : Names) (parts : Trees) → AreThere parts → AreParts names parts → begins other_mark (pieces_of_all parts) ≡ true
parts_mark names Nil there ok = absurd there
parts_mark names (Next (Index index) more) there ok = refl
parts_mark names (Next (Call opening arguments) more) there ok = refl
parts_mark names (Next (Dot name) more) there ok = refl
parts_mark names (Next (Arrow name) more) there ok = refl
parts_mark names (Next Increment more) there ok = refl
parts_mark names (Next Decrement more) there ok = refl
parts_mark names (Next _ more) there ok = absurd ok.0

operands_mark : (level : ℕ) (names : Names) (more : Trees) → AreThere more → AreOperands level names more → begins other_mark (pieces_of_all more) ≡ true
operands_mark level names Nil there ok = absurd there
operands_mark level names (Next (Operand operator operand) more) there ok = binary_mark operator
operands_mark level names (Next _ more) there ok = absurd ok.0

commas_mark : (more : Trees) → AreThere more → begins other_mark (pieces_with_commas true more) ≡ true
commas_mark Nil there = absurd there
commas_mark (Next t more) there = refl

-- what begins like this part, before a mark that is no colon
joined : (names : Names) (p q : List Piece) {tokens rest : List Token} →
    ((mid : List Token) → Fit p tokens mid → starts (is_mark mark.Colon) mid ≡ false → on_label names tokens ≡ false) → begins other_mark q ≡ true → Fit (p ++ q) tokens rest →
    on_label names tokens ≡ false
joined names p q k b h =
    let s = fit_split p q h in k s.mid s.front (starts_not other_mark (is_mark mark.Colon) s.mid (λ w o. other_colon w o) (starts_with other_mark b s.back))

-- no expression that no colon follows begins with a name before a colon
pub expr_no_label : (names : Names) (t : Tree) {tokens rest : List Token} → IsExpr names t → Fit (pieces t) tokens rest → starts (is_mark mark.Colon) rest ≡ false →
    on_label names tokens ≡ false
expr_no_label names (Name span name) ok h end = one_named names (at span (word.Identifier name)) h end
expr_no_label names (Integer span constant) ok h end = not_named names _ _ refl h
expr_no_label names (Floating span) ok h end = not_named names _ _ refl h
expr_no_label names (Character span byte) ok h end = not_named names _ _ refl h
expr_no_label names (Text span []) ok h end = absurd ok
expr_no_label names (Text span (bytes ∷ more)) ok h end = not_named names _ _ refl h
expr_no_label names (Parenthesised span inner) ok h end = not_named names _ _ refl h
expr_no_label names (Postfix span first parts) ok h end =
    joined names (pieces first) (pieces_of_all parts) (λ mid f stop. expr_no_label names first ok.1 f stop) (parts_mark (after names first) parts ok.2 ok.3) h
expr_no_label names (Prefix span operator operand) ok h end = not_named names _ _ (prefix_name operator) h
expr_no_label names (OfType span type_operator.Sizeof type_name) ok h end = not_named names _ _ refl h
expr_no_label names (OfType span type_operator.Alignof type_name) ok h end = not_named names _ _ refl h
expr_no_label names (Offsetof span type_name member) ok h end = not_named names _ _ refl h
expr_no_label names (Cast span type_name operand) ok h end = not_named names _ _ refl h
expr_no_label names (Run span first more) ok h end =
    joined names (pieces first) (pieces_of_all more) (λ mid f stop. expr_no_label names first ok.1 f stop) (operands_mark (level_of_run more) (after names first) more ok.2 ok.3) h
expr_no_label names (Conditional span condition when_true when_false) ok h end =
    let o = fit_split (pieces condition ++ sign mark.Question ∷ pieces when_true) (sign mark.Colon ∷ pieces when_false) h in
    joined names (pieces condition) (sign mark.Question ∷ pieces when_true) (λ mid f stop. expr_no_label names condition ok.1 f stop) refl o.front
expr_no_label names (Assignment span target operator value) ok h end =
    joined names (pieces target) (sign (mark_of_assignment operator) ∷ pieces value) (λ mid f stop. expr_no_label names target ok.1 f stop) (assignment_mark operator) h
expr_no_label names (Comma span first more) ok h end =
    joined names (pieces first) (pieces_with_commas true more) (λ mid f stop. expr_no_label names first ok.1 f stop) (commas_mark more ok.2) h
expr_no_label names _ ok h end = absurd ok

-- ---- specifiers

specifying_colon : (names : Names) (before : Before) (w : Word) → goes_on_specifiers names before w ≡ true → is_mark mark.Colon w ≡ false
specifying_colon names before (word.Punctuator mark.Colon) h = absurd (cc)
specifying_colon names before (word.Punctuator p) h = refl
specifying_colon names before _ h = refl

more_no_colon : (names : Names) (before : Before) (more : Trees) {tokens rest : List Token} → AreSpecifiers ForName names before more → Fit (pieces_of_all more) tokens rest →
    starts (is_mark mark.Colon) rest ≡ false → starts (is_mark mark.Colon) tokens ≡ false
more_no_colon names before Nil ok h end = rw h.is end
more_no_colon names before (Next t more) {tokens} ok h end =
    let s = fit_split (pieces t) (pieces_of_all more) h in
    starts_not (goes_on_specifiers names before) (is_mark mark.Colon) tokens (λ w o. specifying_colon names before w o)
    (starts_with (goes_on_specifiers names before) (specifier_goes_on ForName names before t ok.0) s.front)

-- nor do specifiers that no colon follows
pub specifiers_no_label : (names : Names) (before : Before) (all : Trees) {tokens rest : List Token} → AreThere all → AreSpecifiers ForName names before all →
    Fit (pieces_of_all all) tokens rest → starts (is_mark mark.Colon) rest ≡ false → on_label names tokens ≡ false
specifiers_no_label names before Nil there ok h end = absurd there
specifiers_no_label names before (Next (Key span k) more) there ok h end = not_named names _ _ refl h
specifiers_no_label names before (Next (Typedef span name) more) there ok h end =
    let s = fit_split (at span (word.Identifier name) ∷ []) (pieces_of_all more) h in
    one_named names (at span (word.Identifier name)) s.front (more_no_colon names (before_next before (Typedef span name)) more ok.1 s.back end)
specifiers_no_label names before (Next (Attribute a) more) there ok h end = not_named names _ _ refl h
specifiers_no_label names before (Next (CompositeTag span which attributes tag) more) there ok h end = not_named names _ _ refl h
specifiers_no_label names before (Next (Composite span which attributes tag members trailing) more) there ok h end = not_named names _ _ refl h
specifiers_no_label names before (Next (EnumTag span tag) more) there ok h end = not_named names _ _ refl h
specifiers_no_label names before (Next (Enum span tag enumerators comma) more) there ok h end = not_named names _ _ refl h
specifiers_no_label names before (Next _ more) there ok h end = absurd ok.0

specifiers_begin : (names : Names) (before : Before) (all : Trees) → AreThere all → AreSpecifiers ForName names before all → begins (begins_type names) (pieces_of_all all) ≡ true
specifiers_begin names before Nil there ok = absurd there
specifiers_begin names before (Next t more) there ok = begins_joined (begins_type names) (pieces t) (pieces_of_all more) (specifier_type ForName names before t ok.0)

pub specifiers_start : (names : Names) (before : Before) (all : Trees) {tokens rest : List Token} → AreThere all → AreSpecifiers ForName names before all →
    Fit (pieces_of_all all) tokens rest → (starts (begins_type names) tokens ≡ true) × (length rest < length tokens)
specifiers_start names before all there ok h =
    let b = specifiers_begin names before all there ok in (starts_with (begins_type names) b h, shorter (begins_type names) b h)

-- ---- what begins a declaration, and what an expression

no_assertion : (w : Word) → begins_expr w ≡ true → is_key key.StaticAssert w ≡ false
no_assertion (word.Keyword key.StaticAssert) h = absurd (cc)
no_assertion (word.Keyword k) h = refl
no_assertion _ h = refl

no_declaration : (names : Names) (w : Word) → begins_type names w ≡ false → begins_expr w ≡ true → begins_declaration names w ≡ false
no_declaration names w u e = rw (u, no_assertion w e) refl

-- how an expression begins
pub record Begins (names : Names) (tokens rest : List Token) : Type 0 where
  pub token : Token
  pub left : List Token
  pub same : tokens ≡ token ∷ left
  pub begins : begins_expr token.word ≡ true
  pub undeclared : begins_declaration names token.word ≡ false
  pub less : length rest < length tokens

pub expr_start : (names : Names) (t : Tree) {tokens rest : List Token} → IsExpr names t → Fit (pieces t) tokens rest → Begins names tokens rest
expr_start names t {tokens} {rest} ok h =
    let b = expr_begins names t tokens rest ok h.is in
    record {
      token = b.token;
      left = b.left;
      same = b.same;
      begins = b.begins;
      undeclared = no_declaration names b.token.word b.untyped b.begins;
      less = shorter begins_expr (pieces_begin names t ok) h;
    }

-- what is so of no word that begins an expression is not so of the first of one
pub expr_not : (is : Word → Bool) → ((w : Word) → begins_expr w ≡ true → is w ≡ false) → (names : Names) (tokens rest : List Token) → Begins names tokens rest → starts is tokens ≡ false
expr_not is f names tokens rest b = rw b.same (f b.token.word b.begins)
