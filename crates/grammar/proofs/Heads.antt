-- First words of tokens.
use Rattle.std.proofs.Common.{◌≡◌, ℕ, ◌<◌, Bool, true, false, cond, drop, List, [], ◌∷◌, length, None, Some, option_map, refl, ap, arith}
use Rattle.std.proofs.lemmas.Option.{none-some, same_Some}
use denote.Enum.Bare.{same_true}
use Rattle.c_base.specs.contracts.token.Keyword.{the_type as key_type}
use Rattle.c_base.specs.contracts.token.Punctuator.{the_type as mark_type}
use Rattle.c_base.specs.declared.token.Keyword.{Keyword}
use Rattle.c_base.specs.declared.token.Punctuator.{Punctuator}
use Rattle.c_base.specs.declared.token.Token.{Token}
use Rattle.c_base.specs.declared.token.Word.{Word}
use Rattle.c_base.specs.declared.token.Word.TheVariants as word
use Rattle.c_parse_rules.specs.Declaring.{starts}
use Rattle.c_parse_rules.specs.Tokens.{behind, behind_key, behind_mark, is_key, is_mark, name_at, text_of}

is_key_word : (k : Keyword) (w : Word) → is_key k w ≡ true → w ≡ word.Keyword k
is_key_word k (word.Keyword found) e = ap word.Keyword (same_true key_type tt found k e)
is_key_word k _ e = absurd (cc)

is_mark_word : (p : Punctuator) (w : Word) → is_mark p w ≡ true → w ≡ word.Punctuator p
is_mark_word p (word.Punctuator found) e = ap word.Punctuator (same_true mark_type tt found p e)
is_mark_word p _ e = absurd (cc)

-- the tokens are a first one with this word, and the rest
pub record Front (w : Word) (tokens rest : List Token) : Type 0 where
  pub starts_as : (is : Word → Bool) → starts is tokens ≡ is w
  pub less : length rest < length tokens
  pub next : drop 1 tokens ≡ rest
  pub token : Token
  pub same : tokens ≡ token ∷ rest
  pub word : token.word ≡ w

pub one_word : (w : Word) (t : Token) (tokens rest : List Token) → t.word ≡ w → tokens ≡ rest → Front w (t ∷ tokens) rest
one_word w t tokens rest s e =
    record { starts_as = λ other. ap other s; less = rw (← e) (omega arith); next = e; token = t; same = ap (λ (ts : List Token). t ∷ ts) e; word = s }

chosen : (b : Bool) (x y : List Token) → cond b (Some x) None ≡ Some y → (b ≡ true) × (x ≡ y)
chosen true x y e = (refl, same_Some x y e)
chosen false x y e = absurd (none-some y e)

behind_front : (is : Word → Bool) (w : Word) → ((found : Word) → is found ≡ true → found ≡ w) → (tokens rest : List Token) → behind is tokens ≡ Some rest → Front w tokens rest
behind_front is w only [] rest e = absurd (none-some rest e)
behind_front is w only (t ∷ tokens) rest e = let c = chosen (is t.word) tokens rest e in one_word w t tokens rest (only t.word c.0) c.1

pub key_front : (k : Keyword) (tokens rest : List Token) → behind_key k tokens ≡ Some rest → Front (word.Keyword k) tokens rest
unfolding behind_key
key_front k tokens rest e = behind_front (is_key k) (word.Keyword k) (λ w h. is_key_word k w h) tokens rest e

pub mark_front : (p : Punctuator) (tokens rest : List Token) → behind_mark p tokens ≡ Some rest → Front (word.Punctuator p) tokens rest
unfolding behind_mark
mark_front p tokens rest e = behind_front (is_mark p) (word.Punctuator p) (λ w h. is_mark_word p w h) tokens rest e

word_text : (w : Word) (tokens rest : List Token) (n : List ℕ) → option_map {U = List ℕ × List Token} (λ x. (x, tokens)) (text_of w) ≡ Some (n, rest) →
    (w ≡ word.Identifier n) × (tokens ≡ rest)
word_text (word.Identifier m) tokens rest n e =
    let s : (m, tokens) ≡ (n, rest) = same_Some _ _ e in (ap (λ (x : List ℕ × List Token). word.Identifier x.0) s, ap (λ (x : List ℕ × List Token). x.1) s)
word_text _ tokens rest n e = absurd (none-some _ e)

pub name_front : (n : List ℕ) (tokens rest : List Token) → name_at tokens ≡ Some (n, rest) → Front (word.Identifier n) tokens rest
unfolding name_at
name_front n [] rest e = absurd (none-some _ e)
name_front n (t ∷ tokens) rest e = let c = word_text t.word tokens rest n e in one_word (word.Identifier n) t tokens rest c.0 c.1
