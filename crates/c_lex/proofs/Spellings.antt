-- Looking a name up in a table of spellings.
use Rattle.std.proofs.Common.{◌≡◌, ℕ, ◌+◌, ◌<◌, ◌≤◌, ◌==◌, Bool, true, false, cond, ◌&&◌, ◌||◌, List, [], ◌∷◌, length, get_or, drop, map, Some, None, refl, sym, ap, ◌∙◌, arith, add-one, drop-cons, drop_of_length-le, bytes_eq}
use Rattle.std.specs.Bool.{Decides}
use Rattle.std.proofs.lemmas.Bool.Decides.{nat_tests}
use Rattle.std.proofs.lemmas.Slice.Eq.{bytes_eq-Decides}
use Rattle.c_base.specs.declared.token.Keyword.{Keyword}
use Rattle.c_lex.specs.declared.word.KeywordSpelling.{KeywordSpelling}
use Rattle.c_lex.specs.Words.{keyword_in, keywords, kept, of_length, row}

abbrev pub LooksFor : List KeywordSpelling → List ℕ → ℕ → Type 0
LooksFor table text next = keyword_in (map row (drop next table)) text ≡ keyword_in (map row table) text

at_front : (table : List KeywordSpelling) (text : List ℕ) (next : ℕ) (d : KeywordSpelling) → next < length table →
    keyword_in (map row (drop next table)) text ≡ cond (bytes_eq text (get_or table next d).text.now) (Some (get_or table next d).keyword) (keyword_in (map row (drop (next + 1) table)) text)
unfolding keyword_in
at_front table text next d h = rw (drop-cons table next d, add-one) refl

pub looks_on : (table : List KeywordSpelling) (text : List ℕ) (next : ℕ) (d : KeywordSpelling) → next < length table → bytes_eq text (get_or table next d).text.now ≡ false →
    LooksFor table text next → LooksFor table text (next + 1)
looks_on table text next d h e k = let f = at_front table text next d h in sym (sym k ∙ f ∙ rw e refl)

pub looks_found : (table : List KeywordSpelling) (text : List ℕ) (next : ℕ) (d : KeywordSpelling) → next < length table → bytes_eq text (get_or table next d).text.now ≡ true →
    LooksFor table text next → Some (get_or table next d).keyword ≡ keyword_in (map row table) text
looks_found table text next d h e k = let f = at_front table text next d h in sym (sym k ∙ f ∙ rw e refl)

pub looks_none : (table : List KeywordSpelling) (text : List ℕ) (next : ℕ) → length table ≤ next → LooksFor table text next → None ≡ keyword_in (map row table) text
unfolding keyword_in
looks_none table text next h k = rw (drop_of_length-le table {i = next} h) at k

-- ---- spellings of one length

unequal : (a b : List ℕ) → (length b == length a) ≡ false → bytes_eq a b ≡ false
unequal a b e = by_test (bytes_eq a b) (bytes_eq-Decides a b)
  where
    clash : length b ≡ length a → (length b == length a) ≡ false → ⊥
    clash f e = let g : (length b == length a) ≡ true = grind (arith, nat_tests) in cc

    by_test : (t : Bool) → Decides t (a ≡ b) → t ≡ false
    by_test true h = absurd (clash (ap length (sym (h.0 refl))) e)
    by_test false h = refl

pub by_length : (table : List (List ℕ × Keyword)) (text : List ℕ) → keyword_in table text ≡ keyword_in (of_length (length text) table) text
unfolding keyword_in
by_length [] text = refl
by_length (s ∷ table) text = by_test (length s.0 == length text) refl (by_length table text)
  where
    by_test : (t : Bool) → (length s.0 == length text) ≡ t → keyword_in table text ≡ keyword_in (of_length (length text) table) text →
        keyword_in (s ∷ table) text ≡ keyword_in (kept t s (of_length (length text) table)) text
    by_test true e k = ap (cond (bytes_eq text s.0) (Some s.1)) k
    by_test false e k = ap (λ b. cond b (Some s.1) (keyword_in table text)) (unequal text s.0 e) ∙ k

-- ---- other lengths

abbrev pub IsOther : ℕ → List ℕ → Type 0
IsOther n [] = Unit {0}
IsOther n (k ∷ ks) = (n ≡ k → ⊥) × IsOther n ks

abbrev is_in : ℕ → List ℕ → Bool
is_in m [] = false
is_in m (k ∷ ks) = m == k || is_in m ks

abbrev all_in : List ℕ → List (List ℕ × Keyword) → Bool
all_in ks [] = true
all_in ks (s ∷ table) = is_in (length s.0) ks && all_in ks table

apart : (n m k : ℕ) → (n ≡ k → ⊥) → (m == k) ≡ true → (m == n) ≡ false
apart n m k h e = grind (arith, nat_tests)

other : (n m : ℕ) (ks : List ℕ) → IsOther n ks → is_in m ks ≡ true → (m == n) ≡ false
other n m [] h e = cc
other n m (k ∷ ks) h e = by_test (m == k) (λ f. apart n m k h.0 f) (λ f. other n m ks h.1 f) e
  where
    by_test : (t : Bool) → (t ≡ true → (m == n) ≡ false) → (is_in m ks ≡ true → (m == n) ≡ false) → (t || is_in m ks) ≡ true → (m == n) ≡ false
    by_test true f g e = f refl
    by_test false f g e = g e

none_of : (n : ℕ) (ks : List ℕ) (table : List (List ℕ × Keyword)) → IsOther n ks → all_in ks table ≡ true → of_length n table ≡ []
none_of n ks [] h e = refl
none_of n ks (s ∷ table) h e = by_test (is_in (length s.0) ks) (λ f. other n (length s.0) ks h f) (λ f. none_of n ks table h f) e
  where
    by_test : (t : Bool) → (t ≡ true → (length s.0 == n) ≡ false) → (all_in ks table ≡ true → of_length n table ≡ []) → (t && all_in ks table) ≡ true → of_length n (s ∷ table) ≡ []
    by_test true f g e = ap (λ t. kept t s (of_length n table)) (f refl) ∙ g e
    by_test false f g e = cc

-- the lengths of keywords
abbrev pub lengths : List ℕ
lengths = 2 ∷ 3 ∷ 4 ∷ 5 ∷ 6 ∷ 7 ∷ 8 ∷ 9 ∷ 10 ∷ 11 ∷ 12 ∷ 13 ∷ 14 ∷ 17 ∷ 18 ∷ []

pub no_keyword : (n : ℕ) → IsOther n lengths → of_length n keywords ≡ []
unfolding keywords
no_keyword n h = none_of n lengths keywords h refl
