-- One round of each loop over parts without trees, and the words of an attribute.
use Rattle.std.proofs.Common.{◌≡◌, ℕ, suc, ◌≤◌, Bool, true, false, cond, List, length, arith, [], ◌∷◌, ◌++◌, Option, None, Some, reverse, refl, sym, ap, ◌∙◌, append_assoc}
use Rattle.std.proofs.lemmas.List.{reverse-append}
use denote.Enum.Bare.{sameb}
use Rattle.c_base.specs.contracts.token.Punctuator.{the_type as mark_type}
use Rattle.c_base.specs.declared.token.Keyword.{Keyword}
use Rattle.c_base.specs.declared.token.Punctuator.{Punctuator}
use Rattle.c_base.specs.declared.token.Token.{Token}
use Rattle.c_base.specs.declared.token.Word.{Word}
use Rattle.c_tree.specs.declared.tree.Attribute.{Attribute as CodeAttribute}
use Rattle.c_tree.specs.declared.tree.Pointer.{Pointer}
use Rattle.c_tree.specs.declared.tree.Qualifier.{Qualifier}
use Rattle.c_tree.specs.WellFormed.{is_array_word, Open, open_behind, open_without}
use Rattle.c_parse_attributes.specs.Balance.{open_where, with_words}
use Rattle.c_parse_rules.specs.TypeRules.{array_words, attribute_at, attributes, balanced, ends_words, keyword_at, pointer_at, pointers, qualifier_at, qualifiers, with_word}

pub attribute_goes_on : (found : List CodeAttribute) (rest next : List Token) (x : CodeAttribute) → Some (x, next) ≡ attribute_at rest → (n : ℕ) →
    attributes (suc n) found rest ≡ attributes n (found ++ x ∷ []) next
attribute_goes_on found rest next x e n = rw (← e) refl

pub attribute_stops : (found : List CodeAttribute) (rest : List Token) → None ≡ attribute_at rest → (n : ℕ) → attributes (suc n) found rest ≡ (found, rest)
attribute_stops found rest e n = rw (← e) refl

pub word_goes_on : (found : List Keyword) (rest next : List Token) (x : Keyword) → Some (x, next) ≡ keyword_at is_array_word rest → (n : ℕ) →
    array_words (suc n) found rest ≡ array_words n (found ++ x ∷ []) next
word_goes_on found rest next x e n = rw (← e) refl

pub word_stops : (found : List Keyword) (rest : List Token) → None ≡ keyword_at is_array_word rest → (n : ℕ) → array_words (suc n) found rest ≡ (found, rest)
word_stops found rest e n = rw (← e) refl

pub qualifier_goes_on : (found : List Qualifier) (rest next : List Token) (x : Qualifier) → Some (x, next) ≡ qualifier_at rest → (n : ℕ) →
    qualifiers (suc n) found rest ≡ qualifiers n (found ++ x ∷ []) next
qualifier_goes_on found rest next x e n = rw (← e) refl

pub qualifier_stops : (found : List Qualifier) (rest : List Token) → None ≡ qualifier_at rest → (n : ℕ) → qualifiers (suc n) found rest ≡ (found, rest)
qualifier_stops found rest e n = rw (← e) refl

pub pointer_goes_on : (found : List Pointer) (rest next : List Token) (x : Pointer) → Some (x, next) ≡ pointer_at rest → (n : ℕ) →
    pointers (suc n) found rest ≡ pointers n (found ++ x ∷ []) next
pointer_goes_on found rest next x e n = rw (← e) refl

pub pointer_stops : (found : List Pointer) (rest : List Token) → None ≡ pointer_at rest → (n : ℕ) → pointers (suc n) found rest ≡ (found, rest)
pointer_stops found rest e n = rw (← e) refl

-- ---- the words of an attribute

with_more : (words : List Word) (w : Word) (more : Option (List Word × List Token)) → with_words (words ++ w ∷ []) more ≡ with_words words (with_word w more)
with_more words w None = refl
with_more words w (Some m) = rw (append_assoc words (w ∷ []) m.0) refl

-- in the midst of the words, where this is open
pub record MidWords (tokens : List Token) (words : List Word) (unclosed : Open) (rest : List Token) : Type 0 where
  pub same : with_words words (balanced unclosed rest) ≡ balanced [] tokens
  pub few : length rest ≤ length tokens

without : (more : Option (List Word × List Token)) → with_words [] more ≡ more
without None = refl
without (Some m) = refl

pub words_begin : (tokens : List Token) → MidWords tokens [] [] tokens
words_begin tokens = record { same = without (balanced [] tokens); few = omega arith }

pub words_go_on : (tokens : List Token) (words words' : List Word) (unclosed left : Open) (rest : List Token) (t : Token) (next : List Token) →
    MidWords tokens words unclosed rest → rest ≡ t ∷ next → ends_words unclosed t.word ≡ false → Some left ≡ open_behind unclosed t.word →
    words' ≡ words ++ t.word ∷ [] → MidWords tokens words' left next
words_go_on tokens words words' unclosed left rest t next m is ends stands all =
    let e : balanced unclosed rest ≡ with_word t.word (balanced left next) = rw (is, ends, ← stands) refl in
    let short : length rest ≤ length tokens = m.few in
    let one : length rest ≡ suc (length next) = ap length is in
    record { same = rw all (with_more words t.word (balanced left next) ∙ ap (with_words words) (sym e) ∙ m.same); few = omega arith }

pub words_end : (tokens : List Token) (words : List Word) (unclosed : Open) (rest : List Token) (t : Token) (next : List Token) →
    MidWords tokens words unclosed rest → rest ≡ t ∷ next → ends_words unclosed t.word ≡ true → Some (words ++ [], next) ≡ balanced [] tokens
words_end tokens words unclosed rest t next m is ends =
    let e : balanced unclosed rest ≡ Some ([], next) = rw (is, ends) refl in
    rw e at m.same

pub words_refused : (tokens : List Token) (words : List Word) (unclosed : Open) (rest : List Token) (t : Token) (next : List Token) →
    MidWords tokens words unclosed rest → rest ≡ t ∷ next → ends_words unclosed t.word ≡ false → None ≡ open_behind unclosed t.word → None ≡ balanced [] tokens
words_refused tokens words unclosed rest t next m is ends stands =
    let e : balanced unclosed rest ≡ None = rw (is, ends, ← stands) refl in
    rw e at m.same

pub words_none : (tokens : List Token) (words : List Word) (unclosed : Open) (rest : List Token) → MidWords tokens words unclosed rest → rest ≡ [] → None ≡ balanced [] tokens
words_none tokens words unclosed rest m is = rw is at m.same

-- ---- what is open

where_same : (b : Bool) (marks : List Punctuator) → open_where b marks ≡ cond b (Some (reverse marks)) None
where_same true marks = refl
where_same false marks = refl

pub closed : (marks marks' : List Punctuator) (innermost p : Punctuator) (b : Bool) → marks ≡ marks' ++ innermost ∷ [] → b ≡ sameb mark_type innermost p →
    open_where b marks' ≡ open_without p (reverse marks)
closed marks marks' innermost p b e k = rw (k, e, reverse-append marks' (innermost ∷ [])) (where_same (sameb mark_type innermost p) marks')

pub opened : (marks marks' : List Punctuator) (p : Punctuator) → marks' ≡ marks ++ p ∷ [] → reverse marks' ≡ p ∷ reverse marks
opened marks marks' p e = rw e (reverse-append marks (p ∷ []))
