-- The first words of expressions, specifiers, declarators and type names, and their places.
use Rattle.std.proofs.Common.{◌≡◌, ℕ, ◌<◌, Bool, true, false, ◌||◌, IsTrue, List, [], ◌∷◌, ◌++◌, length, Some, refl, sym, ◌∙◌, ap, arith}
use Rattle.std.proofs.lemmas.Option.{none-some}
use Rattle.c_base.specs.declared.number.Span.{Span}
use Rattle.c_base.specs.declared.token.Keyword.{Keyword}
use Rattle.c_base.specs.declared.token.Keyword.TheVariants as key
use Rattle.c_base.specs.declared.token.Punctuator.TheVariants as mark
use Rattle.c_base.specs.declared.token.Token.{Token}
use Rattle.c_base.specs.declared.token.Word.{Word}
use Rattle.c_base.specs.declared.token.Word.TheVariants as word
use Rattle.c_tree.specs.declared.operator.PrefixOperator.{PrefixOperator}
use Rattle.c_tree.specs.declared.operator.PrefixOperator.TheVariants as prefix
use Rattle.c_tree.specs.declared.operator.TypeOperator.TheVariants as type_operator
use Rattle.c_tree.specs.declared.tree.CompositeSort.TheVariants as sort
use Rattle.c_tree.specs.declared.tree.Pointer.{Pointer}
use Rattle.c_tree.specs.Spelling.{Piece, sign, pieces, pieces_of_all, pieces_with_commas, pieces_of_pointers, word_of_prefix, mark_of_assignment}
use Rattle.c_tree.specs.Trees.{Tree, Name, Integer, Floating, Character, Text, Parenthesised, Postfix, Prefix, OfType, Offsetof, Cast, Run, Conditional, Assignment, Comma, TypeName, Key, Typedef, Attribute, CompositeTag, Composite, EnumTag, Enum, Declarator, Absent, Declared, Group, Array, Function, Trees, Nil, Next}
use Rattle.c_tree.specs.WellFormed.{Names, Before, Untyped, Typed, Braced, Purpose, ForType, ForParameter, ForName, IsExpr, IsTypeName, IsParameter, IsSpecifier, AreSpecifiers, IsDeclarator, IsCore, IsSuffix, AreSuffixes, begins_typedef, is_typedef, after, place_of, place_of_declarator, first_place, may_specify, is_qualifier, is_type_word, is_storage_word, before_next}
use Rattle.c_parse_rules.specs.Declaring.{starts, goes_on_specifiers, begins_suffix}
use Rattle.c_parse_rules.specs.Found.{Fronts}
use Rattle.c_parse_rules.proofs.Laws.{begins_expr}
use Rattle.c_parse_rules.specs.Tokens.{is_key, is_mark, specifies, begins_type, is_type_at}
use Rattle.c_parse_rules.specs.TypeRules.{first_span}
use Rattle.c_parse_rules.proofs.types.Words.{Fit, fit_first, fit_split, begins, begins_joined, starts_with, shorter}
use Rattle.c_parse_rules.proofs.types.Laws.{goes_on_specifier}

-- ---- expressions

prefix_begins : (operator : PrefixOperator) → begins_expr (word_of_prefix operator) ≡ true
prefix_begins prefix.Increment = refl
prefix_begins _ = refl

pub expr_begins : (names : Names) (t : Tree) → IsExpr names t → begins begins_expr (pieces t) ≡ true
expr_begins names (Name span name) ok = refl
expr_begins names (Integer span constant) ok = refl
expr_begins names (Floating span) ok = refl
expr_begins names (Character span byte) ok = refl
expr_begins names (Text span []) ok = absurd ok
expr_begins names (Text span (bytes ∷ more)) ok = refl
expr_begins names (Parenthesised span inner) ok = refl
expr_begins names (Postfix span first parts) ok = begins_joined begins_expr (pieces first) (pieces_of_all parts) (expr_begins names first ok.1)
expr_begins names (Prefix span operator operand) ok = prefix_begins operator
expr_begins names (OfType span type_operator.Sizeof type_name) ok = refl
expr_begins names (OfType span type_operator.Alignof type_name) ok = refl
expr_begins names (Offsetof span type_name member) ok = refl
expr_begins names (Cast span type_name operand) ok = refl
expr_begins names (Run span first more) ok = begins_joined begins_expr (pieces first) (pieces_of_all more) (expr_begins names first ok.1)
expr_begins names (Conditional span condition when_true when_false) ok =
    begins_joined begins_expr (pieces condition ++ sign mark.Question ∷ pieces when_true) (sign mark.Colon ∷ pieces when_false)
    (begins_joined begins_expr (pieces condition) (sign mark.Question ∷ pieces when_true) (expr_begins names condition ok.1))
expr_begins names (Assignment span target operator value) ok =
    begins_joined begins_expr (pieces target) (sign (mark_of_assignment operator) ∷ pieces value) (expr_begins names target ok.1)
expr_begins names (Comma span first more) ok = begins_joined begins_expr (pieces first) (pieces_with_commas true more) (expr_begins names first ok.1)
expr_begins names _ ok = absurd ok

-- ---- specifiers

more_true : (a b c : Bool) → a || b ≡ true → a || b || c ≡ true
more_true true b c h = refl
more_true false true c h = refl
more_true false false c h = absurd (cc)

pub word_true : (purpose : Purpose) (k : Keyword) → IsTrue (may_specify purpose k) → is_qualifier k || is_type_word k || is_storage_word k ≡ true
word_true ForType k h = more_true (is_qualifier k) (is_type_word k) (is_storage_word k) h
word_true ForParameter k h = h
word_true ForName k h = h

specifies_true : (k : Keyword) → is_qualifier k || is_type_word k || is_storage_word k ≡ true → specifies k ≡ true
specifies_true key.Struct h = refl
specifies_true key.Union h = refl
specifies_true key.Enum h = refl
specifies_true key.Attribute h = refl
specifies_true k h = h

pub specifier_type : (purpose : Purpose) (names : Names) (before : Before) (t : Tree) → IsSpecifier purpose names before t → begins (begins_type names) (pieces t) ≡ true
specifier_type purpose names before (Key span k) ok = specifies_true k (word_true purpose k ok)
specifier_type purpose names before (Typedef span name) ok = ok.1
specifier_type purpose names before (Attribute attribute) ok = refl
specifier_type purpose names before (CompositeTag span sort.Struct attributes tag) ok = refl
specifier_type purpose names before (CompositeTag span sort.Union attributes tag) ok = refl
specifier_type purpose names before (Composite span sort.Struct attributes tag members trailing) ok = refl
specifier_type purpose names before (Composite span sort.Union attributes tag members trailing) ok = refl
specifier_type purpose names before (EnumTag span tag) ok = refl
specifier_type purpose names before (Enum span tag enumerators comma) ok = refl
specifier_type purpose names before _ ok = absurd ok

pub specifier_goes_on : (purpose : Purpose) (names : Names) (before : Before) (t : Tree) → IsSpecifier purpose names before t →
    begins (goes_on_specifiers names before) (pieces t) ≡ true
specifier_goes_on purpose names before (Key span k) ok = refl
specifier_goes_on purpose names Untyped (Typedef span name) ok = ok.1
specifier_goes_on purpose names Typed (Typedef span name) ok = absurd ok.0
specifier_goes_on purpose names Braced (Typedef span name) ok = absurd ok.0
specifier_goes_on purpose names before (Attribute attribute) ok = refl
specifier_goes_on purpose names before (CompositeTag span sort attributes tag) ok = refl
specifier_goes_on purpose names before (Composite span sort attributes tag members trailing) ok = refl
specifier_goes_on purpose names before (EnumTag span tag) ok = refl
specifier_goes_on purpose names before (Enum span tag enumerators comma) ok = refl
specifier_goes_on purpose names before _ ok = absurd ok

braceless : (names : Names) (w : Word) → begins_type names w ≡ true → is_mark mark.OpenBrace w ≡ false
braceless names (word.Punctuator p) h = absurd (cc)
braceless names _ h = refl

begins_other : (is other : Word → Bool) (all : List Piece) → ((w : Word) → is w ≡ true → other w ≡ false) → begins is all ≡ true → begins other all ≡ false
begins_other is other [] f h = refl
begins_other is other (p ∷ more) f h = f p.word h

unbraced : (purpose : Purpose) (names : Names) (t : Tree) → IsSpecifier purpose names Braced t → begins (is_key key.Attribute) (pieces t) ≡ false
unbraced purpose names (Key span k) ok = is_other k ok
  where
    is_other : (k : Keyword) → IsTrue (may_specify purpose k) → is_key key.Attribute (word.Keyword k) ≡ false
    is_other key.Attribute ok = let no = word_true purpose key.Attribute ok in absurd (cc)
    is_other _ ok = refl
unbraced purpose names (Typedef span name) ok = refl
unbraced purpose names (Attribute attribute) ok = absurd ok.0
unbraced purpose names (CompositeTag span sort.Struct attributes tag) ok = refl
unbraced purpose names (CompositeTag span sort.Union attributes tag) ok = refl
unbraced purpose names (Composite span sort.Struct attributes tag members trailing) ok = refl
unbraced purpose names (Composite span sort.Union attributes tag members trailing) ok = refl
unbraced purpose names (EnumTag span tag) ok = refl
unbraced purpose names (Enum span tag enumerators comma) ok = refl
unbraced purpose names _ ok = absurd ok

constant_false : (all : List Piece) → begins (λ w. false) all ≡ false
constant_false [] = refl
constant_false (p ∷ more) = refl

-- no specifier goes on with the one before it
pub specifier_next : (purpose : Purpose) (names : Names) (before : Before) (t u : Tree) → IsSpecifier purpose names (before_next before t) u →
    begins (goes_on_specifier t) (pieces u) ≡ false
specifier_next purpose names before (CompositeTag span sort attributes tag) u ok =
    begins_other (begins_type names) (is_mark mark.OpenBrace) (pieces u) (braceless names) (specifier_type purpose names Typed u ok)
specifier_next purpose names before (EnumTag span tag) u ok =
    begins_other (begins_type names) (is_mark mark.OpenBrace) (pieces u) (braceless names) (specifier_type purpose names Typed u ok)
specifier_next purpose names before (Composite span sort attributes tag members trailing) u ok = unbraced purpose names u ok
specifier_next purpose names before _ u ok = constant_false (pieces u)

not_brace : (names : Names) (before : Before) (w : Word) → goes_on_specifiers names before w ≡ false → is_mark mark.OpenBrace w ≡ false
not_brace names before (word.Punctuator mark.OpenBrace) h = absurd (cc)
not_brace names before (word.Punctuator _) h = refl
not_brace names before _ h = refl

not_attribute : (names : Names) (before : Before) (w : Word) → goes_on_specifiers names before w ≡ false → is_key key.Attribute w ≡ false
not_attribute names before (word.Keyword k) h = absurd (cc)
not_attribute names before _ h = refl

-- what does not go on with specifiers does not go on with the last
pub goes_on_last : (names : Names) (before : Before) (t : Tree) (w : Word) → goes_on_specifiers names before w ≡ false → goes_on_specifier t w ≡ false
goes_on_last names before (CompositeTag span sort attributes tag) w h = not_brace names before w h
goes_on_last names before (EnumTag span tag) w h = not_brace names before w h
goes_on_last names before (Composite span sort attributes tag members trailing) w h = not_attribute names before w h
goes_on_last names before _ w h = refl

pub specifier_place : (purpose : Purpose) (names : Names) (before : Before) (t : Tree) (other : Span) (tokens rest : List Token) → IsSpecifier purpose names before t →
    Fit (pieces t) tokens rest → place_of t ≡ Some (first_span other tokens)
specifier_place purpose names before t other [] rest ok h =
    let first = starts_with (begins_type names) (specifier_type purpose names before t ok) h in absurd (cc)
specifier_place purpose names before (Key span k) other (t ∷ tokens) rest ok h = let piece = fit_first h in ap Some piece.place
specifier_place purpose names before (Typedef span name) other (t ∷ tokens) rest ok h = let piece = fit_first h in ap Some piece.place
specifier_place purpose names before (Attribute attribute) other (t ∷ tokens) rest ok h = let piece = fit_first h in ap Some piece.place
specifier_place purpose names before (CompositeTag span sort attributes tag) other (t ∷ tokens) rest ok h = let piece = fit_first h in ap Some piece.place
specifier_place purpose names before (Composite span sort attributes tag members trailing) other (t ∷ tokens) rest ok h = let piece = fit_first h in ap Some piece.place
specifier_place purpose names before (EnumTag span tag) other (t ∷ tokens) rest ok h = let piece = fit_first h in ap Some piece.place
specifier_place purpose names before (Enum span tag enumerators comma) other (t ∷ tokens) rest ok h = let piece = fit_first h in ap Some piece.place
specifier_place purpose names before _ other (t ∷ tokens) rest ok h = absurd ok

-- ---- declarators

pub suffix_begins : (names : Names) (t : Tree) → IsSuffix names t → begins begins_suffix (pieces t) ≡ true
suffix_begins names (Array span qualifiers bound) ok = refl
suffix_begins names (Function span parameters variadic) ok = refl
suffix_begins names _ ok = absurd ok

-- a declarator that begins with this name
pub record BeginsName (purpose : Purpose) (names : Names) (before : Before) (t : Tree) (name : List ℕ) : Type 0 where
  pub place : Span
  pub core : IsCore purpose names before (Declared place name)
  pub known : begins_typedef names t ≡ is_typedef names name

-- what is so of the words that a declarator may begin with is so of its first word
pub declarator_begins : (is : Word → Bool) (b : Bool) (purpose : Purpose) (names : Names) (before : Before) (t : Tree) → is (word.Punctuator mark.Star) ≡ b →
    is (word.Punctuator mark.OpenBracket) ≡ b → is (word.Punctuator mark.OpenParenthesis) ≡ b →
    ((name : List ℕ) → BeginsName purpose names before t name → is (word.Identifier name) ≡ b) → IsDeclarator purpose names before t → begins is (pieces t) ≡ b
declarator_begins is b purpose names before (Declarator span (p ∷ more) core suffixes) star bracket group named ok = star
declarator_begins is b purpose names before (Declarator span [] Absent Nil) star bracket group named ok = absurd (none-some span ok.0)
declarator_begins is b purpose names before (Declarator span [] Absent (Next (Array place qualifiers bound) more)) star bracket group named ok = bracket
declarator_begins is b purpose names before (Declarator span [] Absent (Next (Function place parameters variadic) more)) star bracket group named ok = group
declarator_begins is b purpose names before (Declarator span [] Absent (Next _ more)) star bracket group named ok = absurd ok.3.0
declarator_begins is b purpose names before (Declarator span [] (Declared place name) suffixes) star bracket group named ok =
    named name (record { place = place; core = ok.2; known = refl })
declarator_begins is b purpose names before (Declarator span [] (Group place inner) suffixes) star bracket group named ok = group
declarator_begins is b ForType names before (Declarator span [] _ suffixes) star bracket group named ok = absurd ok.2
declarator_begins is b ForParameter names before (Declarator span [] _ suffixes) star bracket group named ok = absurd ok.2
declarator_begins is b ForName names before (Declarator span [] _ suffixes) star bracket group named ok = absurd ok.2
declarator_begins is b purpose names before _ star bracket group named ok = absurd ok

-- a declarator begins where its first `*`, what it stands around or its first suffix begins
pub head_place : (purpose : Purpose) (names names' : Names) (before : Before) (stars : List Pointer) (core : Tree) (suffixes : Trees) (other : Span) (tokens rest : List Token) →
    IsCore purpose names before core → AreSuffixes names' suffixes → length rest < length tokens →
    Fit (pieces_of_pointers stars ++ pieces core ++ pieces_of_all suffixes) tokens rest → place_of_declarator stars core suffixes ≡ Some (first_span other tokens)
head_place purpose names names' before stars core suffixes other [] rest c ok less h = absurd (omega arith)
head_place purpose names names' before (p ∷ more) core suffixes other (t ∷ tokens) rest c ok less h = let piece = fit_first h in ap Some piece.place
head_place purpose names names' before [] Absent Nil other (t ∷ tokens) rest c ok less h = let same = ap length h.is in absurd (omega arith)
head_place purpose names names' before [] Absent (Next (Array place qualifiers bound) more) other (t ∷ tokens) rest c ok less h = let piece = fit_first h in ap Some piece.place
head_place purpose names names' before [] Absent (Next (Function place parameters variadic) more) other (t ∷ tokens) rest c ok less h = let piece = fit_first h in ap Some piece.place
head_place purpose names names' before [] Absent (Next _ more) other (t ∷ tokens) rest c ok less h = absurd ok.0
head_place purpose names names' before [] (Declared place name) suffixes other (t ∷ tokens) rest c ok less h = let piece = fit_first h in ap Some piece.place
head_place purpose names names' before [] (Group place inner) suffixes other (t ∷ tokens) rest c ok less h = let piece = fit_first h in ap Some piece.place
head_place ForType names names' before [] _ suffixes other (t ∷ tokens) rest c ok less h = absurd c
head_place ForParameter names names' before [] _ suffixes other (t ∷ tokens) rest c ok less h = absurd c
head_place ForName names names' before [] _ suffixes other (t ∷ tokens) rest c ok less h = absurd c

abbrev pub begins_declarator : Word → Bool
begins_declarator (word.Identifier name) = true
begins_declarator (word.Punctuator mark.Star) = true
begins_declarator w = begins_suffix w

pub declarator_words : (purpose : Purpose) (names : Names) (before : Before) (t : Tree) → IsDeclarator purpose names before t → begins begins_declarator (pieces t) ≡ true
declarator_words purpose names before t ok = declarator_begins begins_declarator true purpose names before t refl refl refl (λ name n. refl) ok

pub declarator_place : (purpose : Purpose) (names : Names) (before : Before) (t : Tree) (other : Span) (tokens rest : List Token) → IsDeclarator purpose names before t →
    Fit (pieces t) tokens rest → place_of t ≡ Some (first_span other tokens)
declarator_place purpose names before (Declarator span stars core suffixes) other tokens rest ok h =
    let less = shorter begins_declarator (declarator_words purpose names before (Declarator span stars core suffixes) ok) h in
    sym ok.0 ∙ head_place purpose names (after names core) before stars core suffixes other tokens rest ok.2 ok.3 less h
declarator_place purpose names before _ other tokens rest ok h = absurd ok

-- ---- several specifiers, and type names

pub specifiers_type : (purpose : Purpose) (names : Names) (before : Before) (span : Span) (ts : Trees) → first_place ts ≡ Some span → AreSpecifiers purpose names before ts →
    begins (begins_type names) (pieces_of_all ts) ≡ true
specifiers_type purpose names before span Nil e ok = absurd (none-some span e)
specifiers_type purpose names before span (Next t more) e ok =
    begins_joined (begins_type names) (pieces t) (pieces_of_all more) (specifier_type purpose names before t ok.0)

pub specifiers_place : (purpose : Purpose) (names : Names) (before : Before) (span : Span) (ts : Trees) (other : Span) (tokens rest : List Token) → first_place ts ≡ Some span →
    AreSpecifiers purpose names before ts → Fit (pieces_of_all ts) tokens rest → first_place ts ≡ Some (first_span other tokens)
specifiers_place purpose names before span Nil other tokens rest e ok h = absurd (none-some span e)
specifiers_place purpose names before span (Next t more) other tokens rest e ok h =
    let s = fit_split (pieces t) (pieces_of_all more) h in specifier_place purpose names before t other tokens s.mid ok.0 s.front

typed_at : (names : Names) (tokens : List Token) → starts (begins_type names) tokens ≡ true → is_type_at names tokens ≡ true
typed_at names [] h = h
typed_at names (t ∷ tokens) h = h

pub type_begins : (names : Names) (t : Tree) → IsTypeName names t → begins (begins_type names) (pieces t) ≡ true
type_begins names (TypeName span specifiers declarator) ok =
    begins_joined (begins_type names) (pieces_of_all specifiers) (pieces_of_all declarator) (specifiers_type ForType names Untyped span specifiers ok.0 ok.1)
type_begins names _ ok = absurd ok

pub parameter_begins : (names : Names) (t : Tree) → IsParameter names t → begins (begins_type names) (pieces t) ≡ true
parameter_begins names (TypeName span specifiers declarator) ok =
    begins_joined (begins_type names) (pieces_of_all specifiers) (pieces_of_all declarator) (specifiers_type ForParameter names Untyped span specifiers ok.0 ok.1)
parameter_begins names _ ok = absurd ok

pub types_begin : (names : Names) (tree : Tree) (tokens rest : List Token) → IsTypeName names tree → Fronts (pieces tree) tokens rest → is_type_at names tokens ≡ true
types_begin names tree tokens rest ok h =
    let fit : Fit (pieces tree) tokens rest = record { is = h } in typed_at names tokens (starts_with (begins_type names) (type_begins names tree ok) fit)

pub parameters_begin : (names : Names) (tree : Tree) (tokens rest : List Token) → IsParameter names tree → Fronts (pieces tree) tokens rest → is_type_at names tokens ≡ true
parameters_begin names tree tokens rest ok h =
    let fit : Fit (pieces tree) tokens rest = record { is = h } in typed_at names tokens (starts_with (begins_type names) (parameter_begins names tree ok) fit)
