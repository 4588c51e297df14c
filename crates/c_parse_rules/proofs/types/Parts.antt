-- Parts without trees: attributes, qualifiers, pointers, the words of an array declarator and literals. What is read is spelled there,
-- and what is spelled is read.
use Rattle.std.proofs.Common.{◌≡◌, ℕ, zero, suc, ◌<◌, Bool, true, false, cond, IsTrue, List, [], ◌∷◌, ◌++◌, length, Option, None, Some, refl, sym, ◌∙◌, ap, arith}
use Rattle.std.specs.List.{AllByRecursion}
use Rattle.std.proofs.lemmas.Option.{cond_some, none-some, same_Some}
use denote.Enum.Bare.{true_same, same_true}
use Rattle.c_base.specs.contracts.token.Keyword.{the_type as key_type}
use Rattle.c_base.specs.contracts.token.Punctuator.{the_type as mark_type}
use Rattle.c_base.specs.declared.number.Span.{Span}
use Rattle.c_base.specs.declared.token.Keyword.{Keyword}
use Rattle.c_base.specs.declared.token.Keyword.TheVariants as key
use Rattle.c_base.specs.declared.token.Punctuator.{Punctuator}
use Rattle.c_base.specs.declared.token.Punctuator.TheVariants as mark
use Rattle.c_base.specs.declared.token.Token.{Token}
use Rattle.c_base.specs.declared.token.Word.{Word}
use Rattle.c_base.specs.declared.token.Word.TheVariants as word
use Rattle.c_tree.specs.declared.tree.Attribute.{Attribute as CodeAttribute}
use Rattle.c_tree.specs.declared.tree.Pointer.{Pointer}
use Rattle.c_tree.specs.declared.tree.Qualifier.{Qualifier}
use Rattle.c_tree.specs.declared.tree.Qualifier.TheVariants as qualifier
use Rattle.c_tree.specs.Spelling.{Piece, plain, sign, pieces_of_literals, pieces_of_words, pieces_of_attribute, pieces_of_attributes, pieces_of_keywords, pieces_of_qualifier, pieces_of_qualifiers, pieces_of_pointer, pieces_of_pointers}
use Rattle.c_tree.specs.WellFormed.{Open, open_behind, balances_where, balances, IsAttribute, AreAttributes, is_qualifier, IsQualifier, IsPointer, is_array_word}
use Rattle.c_parse_rules.specs.Declaring.{starts, begins_qualifier, goes_on_pointers}
use Rattle.c_parse_rules.specs.Tokens.{is_key, is_mark, behind_mark, literal_at}
use Rattle.c_parse_rules.specs.Rules.{literals_with, literals}
use Rattle.c_parse_rules.specs.TypeRules.{with_word, ends_words, words_from, balanced_with, balanced, attribute_behind, attribute_at, attributes_with, attributes, attributes_at, keyword_of, keyword_at, keywords_with, array_words, qualifier_or, qualifier_at, qualifiers_with, qualifiers, pointer_of, pointer_at, pointers_with, pointers}
use Rattle.c_parse_rules.proofs.exprs.Fronts.{first_found}
use Rattle.c_parse_rules.proofs.types.Words.{bound, Fit, fit_none, fit_join, fit_split, fit_first, fit_next, fit_absurd, fit_piece, fit_mark, fit_literal, take_mark, take_literal, begins, starts_as, starts_with, starts_not, starts_neither, shorter, is_literal, literal_none}
use Rattle.c_parse_rules.proofs.types.Loops.{loop, loop_with, loop_sound, Reads, loop_reach}

-- ---- words in parentheses

-- the words that are read, and the `)` behind them
record BalancedFound (unclosed : Open) (tokens : List Token) (found : List Word × List Token) : Type 0 where
  pub balanced : IsTrue (balances unclosed found.0)
  pub back : {more : List Piece} {rest : List Token} → Fit more found.1 rest → Fit (pieces_of_words found.0 ++ sign mark.CloseParenthesis ∷ more) tokens rest

with_word_found : (w : Word) (o : Option (List Word × List Token)) (found : List Word × List Token) → with_word w o ≡ Some found →
    (more : List Word × List Token) × (o ≡ Some more) × (found ≡ (w ∷ more.0, more.1))
with_word_found w None found e = absurd (none-some found e)
with_word_found w (Some more) found e = (more, refl, sym (same_Some (w ∷ more.0, more.1) found e))

word_before : (unclosed before : Open) (w : Word) (o : Option (List Word × List Token)) (found : List Word × List Token) (t : Token) (tokens : List Token) →
    ((more : List Word) → balances before more ≡ true → balances unclosed (w ∷ more) ≡ true) → t.word ≡ w →
    ((more : List Word × List Token) → o ≡ Some more → BalancedFound before tokens more) → with_word w o ≡ Some found → BalancedFound unclosed (t ∷ tokens) found
word_before unclosed before w o found t tokens f same sound e =
    let m = with_word_found w o found e in
    let s = sound m.0 m.1 in
    rw m.2 (record {
      balanced = f m.0.0 s.balanced;
      back = λ h. fit_piece (record { word = same; place = tt {0} }) (s.back h);
    })

-- only a `)` ends the words, where nothing is open
ended : (unclosed : Open) (w : Word) → ends_words unclosed w ≡ true → (unclosed ≡ []) × (w ≡ word.Punctuator mark.CloseParenthesis)
ended [] (word.Punctuator mark.CloseParenthesis) e = (refl, refl)
ended _ _ e = absurd (cc)

from_some : (again : Open → Option (List Word × List Token)) (w : Word) (o : Option Open) (found : List Word × List Token) → words_from again w o ≡ Some found →
    (left : Open) × (o ≡ Some left) × (with_word w (again left) ≡ Some found)
from_some again w None found e = absurd (none-some found e)
from_some again w (Some left) found e = (left, refl, e)

-- what is open behind a word decides whether the words from it on balance
balances_from : (unclosed left : Open) (w : Word) (more : List Word) → open_behind unclosed w ≡ Some left → balances left more ≡ true → balances unclosed (w ∷ more) ≡ true
balances_from unclosed left w more e h = rw e h

balanced_step : (again : Open → Option (List Word × List Token)) (unclosed : Open) (w : Word) (t : Token) (tokens : List Token) (found : List Word × List Token) (b : Bool) →
    t.word ≡ w → ((left : Open) (more : List Word × List Token) → again left ≡ Some more → BalancedFound left tokens more) → ends_words unclosed w ≡ b →
    cond b (Some ([], tokens)) (words_from again w (open_behind unclosed w)) ≡ Some found → BalancedFound unclosed (t ∷ tokens) found
balanced_step again unclosed w t tokens found true same sound k e =
    let d = ended unclosed w k in
    let none : balances unclosed [] ≡ true = rw d.0 refl in
    rw (← same_Some ([], tokens) found e) (record { balanced = none; back = λ h. fit_piece (record { word = same ∙ d.1; place = tt {0} }) h })
balanced_step again unclosed w t tokens found false same sound k e =
    let r = from_some again w (open_behind unclosed w) found e in
    word_before unclosed r.0 w (again r.0) found t tokens (λ more h. balances_from unclosed r.0 w more r.1 h) same (sound r.0) r.2

balanced_sound : (unclosed : Open) (tokens : List Token) (found : List Word × List Token) → balanced unclosed tokens ≡ Some found → BalancedFound unclosed tokens found
balanced_sound unclosed [] found e = absurd (none-some found e)
balanced_sound unclosed (t ∷ tokens) found e =
    balanced_step (λ left. balanced left tokens) unclosed t.word t tokens found (ends_words unclosed t.word) refl (λ left more. balanced_sound left tokens more) refl e

record BalancedRead (unclosed : Open) (words : List Word) (more : List Piece) (tokens rest : List Token) : Type 0 where
  pub left : List Token
  pub is : balanced unclosed tokens ≡ Some (words, left)
  pub back : Fit more left rest

balanced_at : (unclosed : Open) (t : Token) (w : Word) (tokens : List Token) (result : Option (List Word × List Token)) → t.word ≡ w →
    balanced_with (λ left. balanced left tokens) unclosed w tokens ≡ result → balanced unclosed (t ∷ tokens) ≡ result
balanced_at unclosed t w tokens result e h = rw e h

balances_then : (again : Open → Bool) (o : Option Open) → balances_where again o ≡ true → (left : Open) × (o ≡ Some left) × (again left ≡ true)
balances_then again None b = absurd (cc)
balances_then again (Some left) b = (left, refl, b)

-- a word behind which something balances does not end the words
not_ended : (unclosed : Open) (w : Word) (left : Open) → open_behind unclosed w ≡ Some left → ends_words unclosed w ≡ false
not_ended [] (word.Punctuator mark.CloseParenthesis) left e = absurd (none-some left e)
not_ended _ _ left e = refl

word_read : (unclosed left : Open) (w : Word) (words : List Word) (more : List Piece) (tokens rest : List Token) → open_behind unclosed w ≡ Some left →
    (r : BalancedRead left words more tokens rest) → balanced_with (λ left. balanced left tokens) unclosed w tokens ≡ Some (w ∷ words, r.left)
word_read unclosed left w words more tokens rest e r = rw (not_ended unclosed w left e, e, r.is) refl

balanced_reach : (unclosed : Open) (words : List Word) (more : List Piece) (tokens rest : List Token) → IsTrue (balances unclosed words) →
    Fit (pieces_of_words words ++ sign mark.CloseParenthesis ∷ more) tokens rest → BalancedRead unclosed words more tokens rest
balanced_reach unclosed [] more [] rest b h = fit_absurd h
balanced_reach [] [] more (t ∷ tokens) rest b h =
    let piece = fit_first h in record { left = tokens; is = balanced_at [] t _ tokens _ piece.word refl; back = fit_next h }
balanced_reach (innermost ∷ unclosed) [] more (t ∷ tokens) rest b h = absurd (cc)
balanced_reach unclosed (w ∷ words) more [] rest b h = fit_absurd h
balanced_reach unclosed (w ∷ words) more (t ∷ tokens) rest b h =
    let piece = fit_first h in
    let s = balances_then (λ left. balances left words) (open_behind unclosed w) b in
    let r = balanced_reach s.0 words more tokens rest s.2 (fit_next h) in
    record { left = r.left; is = balanced_at unclosed t _ tokens _ piece.word (word_read unclosed s.0 w words more tokens rest s.1 r); back = r.back }

-- ---- attributes

pub key_says : (k : Keyword) (w : Word) → is_key k w ≡ true → w ≡ word.Keyword k
key_says k (word.Keyword found) e = ap word.Keyword (same_true key_type tt found k e)
key_says k _ e = absurd (cc)

pub key_own : (k : Keyword) (w : Word) → w ≡ word.Keyword k → is_key k w ≡ true
key_own k w e = rw e (true_same key_type k k refl)

-- the pieces of an attribute behind its first word
abbrev pub pieces_inside : List Word → List Piece
pieces_inside words =
    sign mark.OpenParenthesis ∷ sign mark.OpenParenthesis ∷ pieces_of_words words ++ sign mark.CloseParenthesis ∷ sign mark.CloseParenthesis ∷ []

pub record BehindFound (span : Span) (tokens : List Token) (found : CodeAttribute × List Token) : Type 0 where
  pub place : found.0.span ≡ span
  pub balanced : IsAttribute found.0
  pub back : Fit (pieces_inside found.0.words) tokens found.1

behind_of : (span : Span) (tokens outer inside closing rest : List Token) (words : List Word) → behind_mark mark.OpenParenthesis tokens ≡ Some outer →
    behind_mark mark.OpenParenthesis outer ≡ Some inside → BalancedFound [] inside (words, closing) → behind_mark mark.CloseParenthesis closing ≡ Some rest →
    BehindFound span tokens (record { span = span; words = words }, rest)
behind_of span tokens outer inside closing rest words e f b g =
    let closed : Fit (sign mark.CloseParenthesis ∷ []) closing rest = fit_mark mark.CloseParenthesis g fit_none in
    record {
      place = refl;
      balanced = b.balanced;
      back = fit_mark mark.OpenParenthesis e (fit_mark mark.OpenParenthesis f (b.back closed));
    }

pub behind_sound : (span : Span) (tokens : List Token) (found : CodeAttribute × List Token) → attribute_behind span tokens ≡ Some found → BehindFound span tokens found
unfolding attribute_behind
behind_sound span tokens found e =
    bound (behind_mark mark.OpenParenthesis tokens) _ found e (λ outer f e2.
    bound (behind_mark mark.OpenParenthesis outer) _ found e2 (λ inside g e3.
    bound (balanced [] inside) _ found e3 (λ words h e4.
    bound (behind_mark mark.CloseParenthesis words.1) _ found e4 (λ rest k e5.
    rw (← same_Some _ found e5) (behind_of span tokens outer inside words.1 rest words.0 f g (balanced_sound [] inside words h) k)))))

pub record AttributeFound (tokens : List Token) (a : CodeAttribute) (rest : List Token) : Type 0 where
  pub balanced : IsAttribute a
  pub back : Fit (pieces_of_attribute a) tokens rest

attribute_of : (t : Token) (tokens : List Token) (found : CodeAttribute × List Token) (b : Bool) → is_key key.Attribute t.word ≡ b →
    cond b (attribute_behind t.span tokens) None ≡ Some found → AttributeFound (t ∷ tokens) found.0 found.1
attribute_of t tokens found true k f =
    let b = behind_sound t.span tokens found f in
    record { balanced = b.balanced; back = fit_piece (record { word = key_says key.Attribute t.word k; place = b.place }) b.back }
attribute_of t tokens found false k f = absurd (none-some found f)

pub attribute_sound : (tokens : List Token) (found : CodeAttribute × List Token) → attribute_at tokens ≡ Some found → AttributeFound tokens found.0 found.1
attribute_sound [] found e = absurd (none-some found e)
attribute_sound (t ∷ tokens) found e = attribute_of t tokens found (is_key key.Attribute t.word) refl e

pub behind_reach : (span : Span) (words : List Word) (tokens rest : List Token) → IsTrue (balances [] words) → Fit (pieces_inside words) tokens rest →
    attribute_behind span tokens ≡ Some (record { span = span; words = words }, rest)
unfolding attribute_behind
behind_reach span words tokens rest ok h =
    let outer = take_mark mark.OpenParenthesis h in
    let inside = take_mark mark.OpenParenthesis outer.back in
    let b = balanced_reach [] words (sign mark.CloseParenthesis ∷ []) inside.left rest ok inside.back in
    let closing = take_mark mark.CloseParenthesis b.back in
    rw (outer.is, inside.is, b.is, closing.is) (ap (λ (left : List Token). Some (record { 0 = record { span = span; words = words }; 1 = left })) closing.back.is)

pub attribute_reach : (a : CodeAttribute) (tokens rest : List Token) → IsAttribute a → Fit (pieces_of_attribute a) tokens rest → attribute_at tokens ≡ Some (a, rest)
attribute_reach a [] rest ok h = fit_absurd h
attribute_reach a (t ∷ tokens) rest ok h =
    let piece = fit_first h in
    let yes = key_own key.Attribute t.word piece.word in
    let place : a.span ≡ t.span = piece.place in
    rw (yes, ← place) (behind_reach a.span a.words tokens rest ok (fit_next h))

pub attribute_none : (tokens : List Token) → starts (is_key key.Attribute) tokens ≡ false → attribute_at tokens ≡ None
attribute_none [] h = refl
attribute_none (t ∷ tokens) h = rw h refl

pub record AttributesFound (tokens : List Token) (found : List CodeAttribute) (rest : List Token) : Type 0 where
  pub all : AreAttributes found
  pub back : Fit (pieces_of_attributes found) tokens rest

-- a loop without a state
abbrev pub plain_loop : (A : Type 0) (read : List Token → Option (A × List Token)) → ℕ → List A → List Token → List A × List Token
plain_loop A read n found tokens = loop (Unit {0}) A (λ s. read) (λ s a. s) n found (tt {0}) tokens

abbrev pub plain_with : (A : Type 0) (read : List Token → Option (A × List Token)) → ℕ → List A → List Token → Option (A × List Token) → List A × List Token
plain_with A read n found tokens o = loop_with (Unit {0}) A (λ s. read) (λ s a. s) (loop (Unit {0}) A (λ s. read) (λ s a. s) n) found (tt {0}) tokens o

abbrev pub PlainReads : (A : Type 0) (read : List Token → Option (A × List Token)) → List A → List Token → List Token → Type 0
PlainReads A read all tokens rest = Reads (Unit {0}) A (λ s. read) (λ s a. s) (tt {0}) all tokens rest

attributes_step : (n : ℕ) → ((found : List CodeAttribute) (tokens : List Token) → attributes n found tokens ≡ plain_loop CodeAttribute attribute_at n found tokens) →
    (found : List CodeAttribute) (tokens : List Token) (o : Option (CodeAttribute × List Token)) →
    attributes_with (attributes n) found tokens o ≡ plain_with CodeAttribute attribute_at n found tokens o
attributes_step n same found tokens None = refl
attributes_step n same found tokens (Some a) = same (found ++ a.0 ∷ []) a.1

attributes_loop : (n : ℕ) (found : List CodeAttribute) (tokens : List Token) → attributes n found tokens ≡ plain_loop CodeAttribute attribute_at n found tokens
attributes_loop zero found tokens = refl
attributes_loop (suc n) found tokens = attributes_step n (λ f ts. attributes_loop n f ts) found tokens (attribute_at tokens)

attributes_cons : (a : CodeAttribute) (more : List CodeAttribute) (tokens mid rest : List Token) → AttributeFound tokens a mid → AttributesFound mid more rest →
    AttributesFound tokens (a ∷ more) rest
attributes_cons a more tokens mid rest f r = record { all = (f.balanced, r.all); back = fit_join f.back r.back }

pub attributes_sound : (tokens : List Token) → AttributesFound tokens (attributes_at tokens).0 (attributes_at tokens).1
unfolding attributes_at
attributes_sound tokens =
    let r = loop_sound (Unit {0}) CodeAttribute (λ s. attribute_at) (λ s a. s) (λ s found start rest. AttributesFound start found rest)
    (λ s start. record { all = tt; back = fit_none }) (λ s a more start mid rest e k. attributes_cons a more start mid rest (attribute_sound start (a, mid) e) k)
    (suc (length tokens)) [] (tt {0}) tokens in
    let found : AttributesFound tokens (plain_loop CodeAttribute attribute_at (suc (length tokens)) [] tokens).0
    (plain_loop CodeAttribute attribute_at (suc (length tokens)) [] tokens).1 =
    rw r.same r.holds in
    rw (attributes_loop (suc (length tokens)) [] tokens) found

attributes_read : (all : List CodeAttribute) (tokens rest : List Token) → AreAttributes all → Fit (pieces_of_attributes all) tokens rest →
    starts (is_key key.Attribute) rest ≡ false → PlainReads CodeAttribute attribute_at all tokens rest
attributes_read [] tokens rest ok h end = (h.is, rw h.is (attribute_none rest end))
attributes_read (a ∷ more) tokens rest ok h end =
    let s = fit_split (pieces_of_attribute a) (pieces_of_attributes more) h in
    (s.mid, attribute_reach a tokens s.mid ok.0 s.front, shorter (is_key key.Attribute) refl s.front, attributes_read more s.mid rest ok.1 s.back end)

pub attributes_reach : (all : List CodeAttribute) (tokens rest : List Token) → AreAttributes all → Fit (pieces_of_attributes all) tokens rest →
    starts (is_key key.Attribute) rest ≡ false → attributes_at tokens ≡ (all, rest)
unfolding attributes_at
attributes_reach all tokens rest ok h end =
    attributes_loop (suc (length tokens)) [] tokens
    ∙ loop_reach (Unit {0}) CodeAttribute (λ s. attribute_at) (λ s a. s) (suc (length tokens)) [] (tt {0}) all tokens rest (omega arith) (attributes_read all tokens rest ok h end)

-- ---- keywords that pass a test

abbrev pub is_keyword : (Keyword → Bool) → Word → Bool
is_keyword is (word.Keyword k) = is k
is_keyword is _ = false

keyword_says : (is : Keyword → Bool) (w : Word) (k : Keyword) → keyword_of is w ≡ Some k → (w ≡ word.Keyword k) × (is k ≡ true)
keyword_says is (word.Keyword found) k e = let s = cond_some (is found) found k e in (ap word.Keyword s.1, rw s.1 at s.0)
keyword_says is _ k e = absurd (none-some k e)

pub record KeywordFound (is : Keyword → Bool) (tokens : List Token) (k : Keyword) (rest : List Token) : Type 0 where
  pub passes : IsTrue (is k)
  pub back : Fit (plain (word.Keyword k) ∷ []) tokens rest

pub keyword_sound : (is : Keyword → Bool) (tokens : List Token) (found : Keyword × List Token) → keyword_at is tokens ≡ Some found → KeywordFound is tokens found.0 found.1
unfolding keyword_at
keyword_sound is tokens found e =
    let d = first_found Keyword (keyword_of is) found tokens e in
    let s = keyword_says is d.token.word found.0 d.is in
    record { passes = s.1; back = rw d.same (fit_piece (record { word = s.0; place = tt {0} }) fit_none) }

keyword_own : (is : Keyword → Bool) (k : Keyword) (w : Word) → w ≡ word.Keyword k → is k ≡ true → keyword_of is w ≡ Some k
keyword_own is k w e h = rw (e, h) refl

pub keyword_reach : (is : Keyword → Bool) (k : Keyword) (tokens rest : List Token) → is k ≡ true → Fit (plain (word.Keyword k) ∷ []) tokens rest →
    keyword_at is tokens ≡ Some (k, rest)
unfolding keyword_at
keyword_reach is k [] rest ok h = fit_absurd h
keyword_reach is k (t ∷ tokens) rest ok h =
    let piece = fit_first h in
    let yes = keyword_own is k t.word piece.word ok in
    let same = (fit_next h).is in rw (yes, same) refl

no_keyword : (is : Keyword → Bool) (w : Word) → is_keyword is w ≡ false → keyword_of is w ≡ None
no_keyword is (word.Keyword k) e = rw e refl
no_keyword is _ e = refl

pub keyword_none : (is : Keyword → Bool) (tokens : List Token) → starts (is_keyword is) tokens ≡ false → keyword_at is tokens ≡ None
unfolding keyword_at
keyword_none is [] h = refl
keyword_none is (t ∷ tokens) h = rw (no_keyword is t.word h) refl

abbrev pub AreArrayWords : List Keyword → Type 0
AreArrayWords = AllByRecursion (λ (k : Keyword). IsTrue (is_array_word k))

pub record KeywordsFound (tokens : List Token) (found : List Keyword) (rest : List Token) : Type 0 where
  pub all : AreArrayWords found
  pub back : Fit (pieces_of_keywords found) tokens rest

words_step : (n : ℕ) → ((found : List Keyword) (tokens : List Token) → array_words n found tokens ≡ plain_loop Keyword (keyword_at is_array_word) n found tokens) →
    (found : List Keyword) (tokens : List Token) (o : Option (Keyword × List Token)) →
    keywords_with (array_words n) found tokens o ≡ plain_with Keyword (keyword_at is_array_word) n found tokens o
words_step n same found tokens None = refl
words_step n same found tokens (Some a) = same (found ++ a.0 ∷ []) a.1

words_loop : (n : ℕ) (found : List Keyword) (tokens : List Token) → array_words n found tokens ≡ plain_loop Keyword (keyword_at is_array_word) n found tokens
words_loop zero found tokens = refl
words_loop (suc n) found tokens = words_step n (λ f ts. words_loop n f ts) found tokens (keyword_at is_array_word tokens)

words_cons : (k : Keyword) (more : List Keyword) (tokens mid rest : List Token) → KeywordFound is_array_word tokens k mid → KeywordsFound mid more rest →
    KeywordsFound tokens (k ∷ more) rest
words_cons k more tokens mid rest f r = record { all = (f.passes, r.all); back = fit_join f.back r.back }

pub array_words_sound : (n : ℕ) (tokens : List Token) → KeywordsFound tokens (array_words n [] tokens).0 (array_words n [] tokens).1
array_words_sound n tokens =
    let r = loop_sound (Unit {0}) Keyword (λ s. keyword_at is_array_word) (λ s a. s) (λ s found start rest. KeywordsFound start found rest)
    (λ s start. record { all = tt; back = fit_none }) (λ s a more start mid rest e k. words_cons a more start mid rest (keyword_sound is_array_word start (a, mid) e) k)
    n [] (tt {0}) tokens in
    let found : KeywordsFound tokens (plain_loop Keyword (keyword_at is_array_word) n [] tokens).0 (plain_loop Keyword (keyword_at is_array_word) n [] tokens).1 = rw r.same r.holds in
    rw (words_loop n [] tokens) found

words_read : (all : List Keyword) (tokens rest : List Token) → AreArrayWords all → Fit (pieces_of_keywords all) tokens rest →
    starts (is_keyword is_array_word) rest ≡ false → PlainReads Keyword (keyword_at is_array_word) all tokens rest
words_read [] tokens rest ok h end = (h.is, rw h.is (keyword_none is_array_word rest end))
words_read (k ∷ more) tokens rest ok h end =
    let s = fit_split (plain (word.Keyword k) ∷ []) (pieces_of_keywords more) h in
    (s.mid, keyword_reach is_array_word k tokens s.mid ok.0 s.front, shorter (is_key k) (key_own k (word.Keyword k) refl) s.front, words_read more s.mid rest ok.1 s.back end)

pub array_words_reach : (n : ℕ) (all : List Keyword) (tokens rest : List Token) → length tokens < n → AreArrayWords all → Fit (pieces_of_keywords all) tokens rest →
    starts (is_keyword is_array_word) rest ≡ false → array_words n [] tokens ≡ (all, rest)
array_words_reach n all tokens rest enough ok h end =
    words_loop n [] tokens
    ∙ loop_reach (Unit {0}) Keyword (λ s. keyword_at is_array_word) (λ s a. s) n [] (tt {0}) all tokens rest enough (words_read all tokens rest ok h end)

-- ---- qualifiers and pointers

-- a word that begins a qualifier
no_qualifier : (w : Word) → begins_qualifier w ≡ false → (is_keyword is_qualifier w ≡ false) × (is_key key.Attribute w ≡ false)
no_qualifier (word.Keyword key.Attribute) e = absurd (cc)
no_qualifier (word.Keyword k) e = (e, refl)
no_qualifier _ e = (refl, refl)

pub qualifier_none : (tokens : List Token) → starts begins_qualifier tokens ≡ false → qualifier_at tokens ≡ None
unfolding qualifier_at
qualifier_none tokens h =
    let a = attribute_none tokens (starts_neither begins_qualifier (is_key key.Attribute) tokens (λ w e. (no_qualifier w e).1) h) in
    let k = keyword_none is_qualifier tokens (starts_neither begins_qualifier (is_keyword is_qualifier) tokens (λ w e. (no_qualifier w e).0) h) in rw (k, a) refl

pub record QualifierFound (tokens : List Token) (q : Qualifier) (rest : List Token) : Type 0 where
  pub holds : IsQualifier q
  pub back : Fit (pieces_of_qualifier q) tokens rest

qualifier_of : (tokens : List Token) (found : Qualifier × List Token) (k : Option (Keyword × List Token)) (a : Option (CodeAttribute × List Token)) →
    keyword_at is_qualifier tokens ≡ k → attribute_at tokens ≡ a → qualifier_or k a ≡ Some found → QualifierFound tokens found.0 found.1
qualifier_of tokens found (Some k) a f g e =
    let s = keyword_sound is_qualifier tokens k f in
    rw (← same_Some (record { 0 = qualifier.Keyword k.0; 1 = k.1 }) found e) (record { holds = s.passes; back = s.back })
qualifier_of tokens found None None f g e = absurd (none-some found e)
qualifier_of tokens found None (Some a) f g e =
    let s = attribute_sound tokens a g in
    rw (← same_Some (record { 0 = qualifier.Attribute a.0; 1 = a.1 }) found e) (record { holds = s.balanced; back = s.back })

pub qualifier_sound : (tokens : List Token) (found : Qualifier × List Token) → qualifier_at tokens ≡ Some found → QualifierFound tokens found.0 found.1
unfolding qualifier_at
qualifier_sound tokens found e = qualifier_of tokens found (keyword_at is_qualifier tokens) (attribute_at tokens) refl refl e

attribute_unqualified : (w : Word) → is_key key.Attribute w ≡ true → is_keyword is_qualifier w ≡ false
attribute_unqualified (word.Keyword key.Attribute) e = refl
attribute_unqualified (word.Keyword _) e = absurd (cc)
attribute_unqualified _ e = refl

pub qualifier_reach : (q : Qualifier) (tokens rest : List Token) → IsQualifier q → Fit (pieces_of_qualifier q) tokens rest → qualifier_at tokens ≡ Some (q, rest)
unfolding qualifier_at
qualifier_reach (qualifier.Keyword k) tokens rest ok h = rw (keyword_reach is_qualifier k tokens rest ok h) refl
qualifier_reach (qualifier.Attribute a) tokens rest ok h =
    let first = starts_with (is_key key.Attribute) refl h in
    let none = keyword_none is_qualifier tokens (starts_not (is_key key.Attribute) (is_keyword is_qualifier) tokens attribute_unqualified first) in
    rw (none, attribute_reach a tokens rest ok h) refl

pub record QualifiersFound (tokens : List Token) (found : List Qualifier) (rest : List Token) : Type 0 where
  pub all : AllByRecursion IsQualifier found
  pub back : Fit (pieces_of_qualifiers found) tokens rest

qualifiers_step : (n : ℕ) → ((found : List Qualifier) (tokens : List Token) → qualifiers n found tokens ≡ plain_loop Qualifier qualifier_at n found tokens) →
    (found : List Qualifier) (tokens : List Token) (o : Option (Qualifier × List Token)) →
    qualifiers_with (qualifiers n) found tokens o ≡ plain_with Qualifier qualifier_at n found tokens o
qualifiers_step n same found tokens None = refl
qualifiers_step n same found tokens (Some a) = same (found ++ a.0 ∷ []) a.1

qualifiers_loop : (n : ℕ) (found : List Qualifier) (tokens : List Token) → qualifiers n found tokens ≡ plain_loop Qualifier qualifier_at n found tokens
qualifiers_loop zero found tokens = refl
qualifiers_loop (suc n) found tokens = qualifiers_step n (λ f ts. qualifiers_loop n f ts) found tokens (qualifier_at tokens)

qualifiers_cons : (q : Qualifier) (more : List Qualifier) (tokens mid rest : List Token) → QualifierFound tokens q mid → QualifiersFound mid more rest →
    QualifiersFound tokens (q ∷ more) rest
qualifiers_cons q more tokens mid rest f r = record { all = (f.holds, r.all); back = fit_join f.back r.back }

qualifiers_sound : (n : ℕ) (tokens : List Token) → QualifiersFound tokens (qualifiers n [] tokens).0 (qualifiers n [] tokens).1
qualifiers_sound n tokens =
    let r = loop_sound (Unit {0}) Qualifier (λ s. qualifier_at) (λ s a. s) (λ s found start rest. QualifiersFound start found rest)
    (λ s start. record { all = tt; back = fit_none }) (λ s a more start mid rest e k. qualifiers_cons a more start mid rest (qualifier_sound start (a, mid) e) k)
    n [] (tt {0}) tokens in
    let found : QualifiersFound tokens (plain_loop Qualifier qualifier_at n [] tokens).0 (plain_loop Qualifier qualifier_at n [] tokens).1 = rw r.same r.holds in
    rw (qualifiers_loop n [] tokens) found

qualifier_begins : (q : Qualifier) → IsQualifier q → begins begins_qualifier (pieces_of_qualifier q) ≡ true
qualifier_begins (qualifier.Keyword key.Attribute) ok = refl
qualifier_begins (qualifier.Keyword k) ok = ok
qualifier_begins (qualifier.Attribute a) ok = refl

qualifiers_read : (all : List Qualifier) (tokens rest : List Token) → AllByRecursion IsQualifier all → Fit (pieces_of_qualifiers all) tokens rest →
    starts begins_qualifier rest ≡ false → PlainReads Qualifier qualifier_at all tokens rest
qualifiers_read [] tokens rest ok h end = (h.is, rw h.is (qualifier_none rest end))
qualifiers_read (q ∷ more) tokens rest ok h end =
    let s = fit_split (pieces_of_qualifier q) (pieces_of_qualifiers more) h in
    (s.mid, qualifier_reach q tokens s.mid ok.0 s.front, shorter begins_qualifier (qualifier_begins q ok.0) s.front, qualifiers_read more s.mid rest ok.1 s.back end)

qualifiers_reach : (n : ℕ) (all : List Qualifier) (tokens rest : List Token) → length tokens < n → AllByRecursion IsQualifier all → Fit (pieces_of_qualifiers all) tokens rest →
    starts begins_qualifier rest ≡ false → qualifiers n [] tokens ≡ (all, rest)
qualifiers_reach n all tokens rest enough ok h end =
    qualifiers_loop n [] tokens
    ∙ loop_reach (Unit {0}) Qualifier (λ s. qualifier_at) (λ s a. s) n [] (tt {0}) all tokens rest enough (qualifiers_read all tokens rest ok h end)

pub record PointerFound (tokens : List Token) (p : Pointer) (rest : List Token) : Type 0 where
  pub holds : IsPointer p
  pub back : Fit (pieces_of_pointer p) tokens rest

pub mark_says : (m : Punctuator) (w : Word) → is_mark m w ≡ true → w ≡ word.Punctuator m
mark_says m (word.Punctuator found) e = ap word.Punctuator (same_true mark_type tt found m e)
mark_says m _ e = absurd (cc)

pub mark_own : (m : Punctuator) (w : Word) → w ≡ word.Punctuator m → is_mark m w ≡ true
mark_own m w e = rw e (true_same mark_type m m refl)

pointer_sound_of : (t : Token) (tokens : List Token) (found : Pointer × List Token) (b : Bool) → is_mark mark.Star t.word ≡ b →
    cond b (Some (pointer_of t.span (qualifiers (suc (length tokens)) [] tokens))) None ≡ Some found → PointerFound (t ∷ tokens) found.0 found.1
pointer_sound_of t tokens found true k e =
    let q = qualifiers_sound (suc (length tokens)) tokens in
    rw (← same_Some (pointer_of t.span (qualifiers (suc (length tokens)) [] tokens)) found e)
    (record { holds = q.all; back = fit_piece (record { word = mark_says mark.Star t.word k; place = refl }) q.back })
pointer_sound_of t tokens found false k e = absurd (none-some found e)

pub pointer_sound : (tokens : List Token) (found : Pointer × List Token) → pointer_at tokens ≡ Some found → PointerFound tokens found.0 found.1
pointer_sound [] found e = absurd (none-some found e)
pointer_sound (t ∷ tokens) found e = pointer_sound_of t tokens found (is_mark mark.Star t.word) refl e

pub pointer_reach : (p : Pointer) (tokens rest : List Token) → IsPointer p → Fit (pieces_of_pointer p) tokens rest → starts begins_qualifier rest ≡ false →
    pointer_at tokens ≡ Some (p, rest)
pointer_reach p [] rest ok h end = fit_absurd h
pointer_reach p (t ∷ tokens) rest ok h end =
    let piece = fit_first h in
    let yes = mark_own mark.Star t.word piece.word in
    let place : p.span ≡ t.span = piece.place in
    let all = qualifiers_reach (suc (length tokens)) p.qualifiers tokens rest (omega arith) ok (fit_next h) end in
    rw (yes, ← place, all) refl

pub pointer_none : (tokens : List Token) → starts (is_mark mark.Star) tokens ≡ false → pointer_at tokens ≡ None
pointer_none [] h = refl
pointer_none (t ∷ tokens) h = rw h refl

pub record PointersFound (tokens : List Token) (found : List Pointer) (rest : List Token) : Type 0 where
  pub all : AllByRecursion IsPointer found
  pub back : Fit (pieces_of_pointers found) tokens rest

pointers_step : (n : ℕ) → ((found : List Pointer) (tokens : List Token) → pointers n found tokens ≡ plain_loop Pointer pointer_at n found tokens) →
    (found : List Pointer) (tokens : List Token) (o : Option (Pointer × List Token)) → pointers_with (pointers n) found tokens o ≡ plain_with Pointer pointer_at n found tokens o
pointers_step n same found tokens None = refl
pointers_step n same found tokens (Some a) = same (found ++ a.0 ∷ []) a.1

pointers_loop : (n : ℕ) (found : List Pointer) (tokens : List Token) → pointers n found tokens ≡ plain_loop Pointer pointer_at n found tokens
pointers_loop zero found tokens = refl
pointers_loop (suc n) found tokens = pointers_step n (λ f ts. pointers_loop n f ts) found tokens (pointer_at tokens)

pointers_cons : (p : Pointer) (more : List Pointer) (tokens mid rest : List Token) → PointerFound tokens p mid → PointersFound mid more rest → PointersFound tokens (p ∷ more) rest
pointers_cons p more tokens mid rest f r = record { all = (f.holds, r.all); back = fit_join f.back r.back }

pub pointers_sound : (n : ℕ) (tokens : List Token) → PointersFound tokens (pointers n [] tokens).0 (pointers n [] tokens).1
pointers_sound n tokens =
    let r = loop_sound (Unit {0}) Pointer (λ s. pointer_at) (λ s a. s) (λ s found start rest. PointersFound start found rest)
    (λ s start. record { all = tt; back = fit_none }) (λ s a more start mid rest e k. pointers_cons a more start mid rest (pointer_sound start (a, mid) e) k)
    n [] (tt {0}) tokens in
    let found : PointersFound tokens (plain_loop Pointer pointer_at n [] tokens).0 (plain_loop Pointer pointer_at n [] tokens).1 = rw r.same r.holds in
    rw (pointers_loop n [] tokens) found

no_pointer : (w : Word) → goes_on_pointers w ≡ false → (is_mark mark.Star w ≡ false) × (begins_qualifier w ≡ false)
no_pointer (word.Punctuator mark.Star) e = absurd (cc)
no_pointer (word.Punctuator _) e = (refl, refl)
no_pointer (word.Keyword k) e = (refl, e)
no_pointer _ e = (refl, refl)

-- what follows a pointer does not go on with its qualifiers
pointers_end : (more : List Pointer) (tokens rest : List Token) → Fit (pieces_of_pointers more) tokens rest → starts goes_on_pointers rest ≡ false →
    starts begins_qualifier tokens ≡ false
pointers_end [] tokens rest h end = rw h.is (starts_neither goes_on_pointers begins_qualifier rest (λ w e. (no_pointer w e).1) end)
pointers_end (p ∷ more) tokens rest h end = starts_as (is_mark mark.Star) begins_qualifier refl h

pointers_read : (all : List Pointer) (tokens rest : List Token) → AllByRecursion IsPointer all → Fit (pieces_of_pointers all) tokens rest →
    starts goes_on_pointers rest ≡ false → PlainReads Pointer pointer_at all tokens rest
pointers_read [] tokens rest ok h end =
    (h.is, rw h.is (pointer_none rest (starts_neither goes_on_pointers (is_mark mark.Star) rest (λ w e. (no_pointer w e).0) end)))
pointers_read (p ∷ more) tokens rest ok h end =
    let s = fit_split (pieces_of_pointer p) (pieces_of_pointers more) h in
    (s.mid, pointer_reach p tokens s.mid ok.0 s.front (pointers_end more s.mid rest s.back end), shorter (is_mark mark.Star) refl s.front, pointers_read more s.mid rest ok.1 s.back end)

pub pointers_reach : (n : ℕ) (all : List Pointer) (tokens rest : List Token) → length tokens < n → AllByRecursion IsPointer all → Fit (pieces_of_pointers all) tokens rest →
    starts goes_on_pointers rest ≡ false → pointers n [] tokens ≡ (all, rest)
pointers_reach n all tokens rest enough ok h end =
    pointers_loop n [] tokens
    ∙ loop_reach (Unit {0}) Pointer (λ s. pointer_at) (λ s a. s) n [] (tt {0}) all tokens rest enough (pointers_read all tokens rest ok h end)

-- ---- literals

literals_step : (n : ℕ) → ((found : List (List ℕ)) (tokens : List Token) → literals n found tokens ≡ plain_loop (List ℕ) literal_at n found tokens) →
    (found : List (List ℕ)) (tokens : List Token) (o : Option (List ℕ × List Token)) → literals_with (literals n) found tokens o ≡ plain_with (List ℕ) literal_at n found tokens o
literals_step n same found tokens None = refl
literals_step n same found tokens (Some a) = same (found ++ a.0 ∷ []) a.1

literals_loop : (n : ℕ) (found : List (List ℕ)) (tokens : List Token) → literals n found tokens ≡ plain_loop (List ℕ) literal_at n found tokens
literals_loop zero found tokens = refl
literals_loop (suc n) found tokens = literals_step n (λ f ts. literals_loop n f ts) found tokens (literal_at tokens)

-- further literals that are found behind others
pub record LiteralsFound (found : List (List ℕ)) (tokens : List Token) (all : List (List ℕ)) (rest : List Token) : Type 0 where
  pub more : List (List ℕ)
  pub same : all ≡ found ++ more
  pub back : Fit (pieces_of_literals more) tokens rest

literals_cons : (bytes : List ℕ) (more : List (List ℕ)) (tokens mid rest : List Token) → literal_at tokens ≡ Some (bytes, mid) → Fit (pieces_of_literals more) mid rest →
    Fit (pieces_of_literals (bytes ∷ more)) tokens rest
literals_cons bytes more tokens mid rest e h = fit_literal (bytes, mid) e h

pub literals_sound : (n : ℕ) (found : List (List ℕ)) (tokens : List Token) → LiteralsFound found tokens (literals n found tokens).0 (literals n found tokens).1
literals_sound n found tokens =
    let r = loop_sound (Unit {0}) (List ℕ) (λ s. literal_at) (λ s a. s) (λ s all start rest. Fit (pieces_of_literals all) start rest)
    (λ s start. fit_none) (λ s a more start mid rest e k. literals_cons a more start mid rest e k)
    n found (tt {0}) tokens in
    rw (literals_loop n found tokens) (record { more = r.more; same = r.same; back = r.holds })

literals_read : (all : List (List ℕ)) (tokens rest : List Token) → Fit (pieces_of_literals all) tokens rest → starts is_literal rest ≡ false →
    PlainReads (List ℕ) literal_at all tokens rest
literals_read [] tokens rest h end = (h.is, rw h.is (literal_none rest end))
literals_read (bytes ∷ more) tokens rest h end =
    let t = take_literal bytes h in (t.left, t.is, t.less, literals_read more t.left rest t.back end)

pub literals_reach : (n : ℕ) (found all : List (List ℕ)) (tokens rest : List Token) → length tokens < n → Fit (pieces_of_literals all) tokens rest → starts is_literal rest ≡ false →
    literals n found tokens ≡ (found ++ all, rest)
literals_reach n found all tokens rest enough h end =
    literals_loop n found tokens
    ∙ loop_reach (Unit {0}) (List ℕ) (λ s. literal_at) (λ s a. s) n found (tt {0}) all tokens rest enough (literals_read all tokens rest h end)
