-- First words of pieces and of tokens, and readers that find nothing there.
use Rattle.std.proofs.Common.{◌≡◌, ℕ, ◌<◌, Bool, true, false, List, [], ◌∷◌, ◌++◌, length, Option, None, Some, refl, ◌∙◌, ap}
use Rattle.std.proofs.lemmas.Option.{none-some}
use Rattle.c_base.specs.declared.number.Span.{Span}
use Rattle.c_base.specs.declared.token.Punctuator.{Punctuator}
use Rattle.c_base.specs.declared.token.Token.{Token}
use Rattle.c_base.specs.declared.token.Word.{Word}
use Rattle.c_base.specs.declared.token.Word.TheVariants as word
use Rattle.c_tree.specs.Spelling.{Piece, at, plain, sign}
use Rattle.c_parse_rules.specs.Declaring.{starts}
use Rattle.c_parse_rules.specs.Found.{IsPiece, Fronts}
use Rattle.c_parse_rules.specs.Tokens.{◌>>=◌, is_mark, behind_mark, text_of, name_at, bytes_of, literal_at}
use Rattle.c_parse_rules.proofs.exprs.Fronts.{fronts_split, fronts_join, fronts_less, mark_read, mark_found, mark_missing, name_read, name_found, literal_read, literal_found}

-- ---- steps of a reader

pub bound : {A B P : Type 0} (o : Option A) (f : A → Option B) (y : B) → o >>= f ≡ Some y → ((x : A) → o ≡ Some x → f x ≡ Some y → P) → P
bound None f y e k = absurd (none-some y e)
bound (Some x) f y e k = k x refl e

-- ---- fronts as facts

-- the tokens begin with these pieces, and this is left
pub record Fit (pieces : List Piece) (tokens rest : List Token) : Type 0 where
  pub is : Fronts pieces tokens rest

pub fit_none : {tokens : List Token} → Fit [] tokens tokens
fit_none {tokens} = record { is = refl }

pub fit_join : {a b : List Piece} {tokens mid rest : List Token} → Fit a tokens mid → Fit b mid rest → Fit (a ++ b) tokens rest
fit_join {a} {b} {tokens} {mid} {rest} f g = record { is = fronts_join a b tokens mid rest f.is g.is }

pub record Parted (a b : List Piece) (tokens rest : List Token) : Type 0 where
  pub mid : List Token
  pub front : Fit a tokens mid
  pub back : Fit b mid rest

pub fit_split : (a b : List Piece) {tokens rest : List Token} → Fit (a ++ b) tokens rest → Parted a b tokens rest
fit_split a b {tokens} {rest} h =
    let s = fronts_split a b tokens rest h.is in record { mid = s.mid; front = record { is = s.front }; back = record { is = s.back } }

-- a first token
pub fit_first : {p : Piece} {more : List Piece} {t : Token} {tokens rest : List Token} → Fit (p ∷ more) (t ∷ tokens) rest → IsPiece p t
fit_first h = h.is.0

pub fit_next : {p : Piece} {more : List Piece} {t : Token} {tokens rest : List Token} → Fit (p ∷ more) (t ∷ tokens) rest → Fit more tokens rest
fit_next h = record { is = h.is.1 }

pub fit_absurd : {p : Piece} {more : List Piece} {rest : List Token} {C : Type 0} → Fit (p ∷ more) [] rest → C
fit_absurd h = absurd h.is

pub fit_token : {more : List Piece} {tokens rest : List Token} (t : Token) → Fit more tokens rest → Fit (at t.span t.word ∷ more) (t ∷ tokens) rest
fit_token t h = record { is = (record { word = refl; place = refl }, h.is) }

pub fit_piece : {p : Piece} {more : List Piece} {t : Token} {tokens rest : List Token} → IsPiece p t → Fit more tokens rest → Fit (p ∷ more) (t ∷ tokens) rest
fit_piece e h = record { is = (e, h.is) }

-- words that are read
pub fit_mark : (m : Punctuator) {more : List Piece} {tokens left rest : List Token} → behind_mark m tokens ≡ Some left → Fit more left rest → Fit (sign m ∷ more) tokens rest
fit_mark m {more} {tokens} {left} {rest} e h = record { is = mark_found m more tokens left rest e h.is }

pub fit_name : (found : List ℕ × List Token) {more : List Piece} {tokens rest : List Token} → name_at tokens ≡ Some found → Fit more found.1 rest →
    Fit (plain (word.Identifier found.0) ∷ more) tokens rest
fit_name found {more} {tokens} {rest} e h = record { is = name_found found more tokens rest e h.is }

pub fit_literal : (found : List ℕ × List Token) {more : List Piece} {tokens rest : List Token} → literal_at tokens ≡ Some found → Fit more found.1 rest →
    Fit (plain (word.Text found.0) ∷ more) tokens rest
fit_literal found {more} {tokens} {rest} e h = record { is = literal_found found more tokens rest e h.is }

pub record TakenMark (more : List Piece) (tokens rest : List Token) (found : Option (List Token)) : Type 0 where
  pub left : List Token
  pub is : found ≡ Some left
  pub back : Fit more left rest
  pub less : length left < length tokens

pub take_mark : (m : Punctuator) {more : List Piece} {tokens rest : List Token} → Fit (sign m ∷ more) tokens rest → TakenMark more tokens rest (behind_mark m tokens)
take_mark m {more} {tokens} {rest} h =
    let r = mark_read m more tokens rest h.is in record { left = r.left; is = r.is; back = record { is = r.back }; less = r.less }

-- a mark behind which nothing more is taken
pub last_mark : (m : Punctuator) {tokens rest : List Token} → Fit (sign m ∷ []) tokens rest → behind_mark m tokens ≡ Some rest
last_mark m h = let t = take_mark m h in t.is ∙ ap Some t.back.is

pub record TakenItem (A : Type 0) (item : A) (more : List Piece) (tokens rest : List Token) (found : Option (A × List Token)) : Type 0 where
  pub left : List Token
  pub is : found ≡ Some (item, left)
  pub back : Fit more left rest
  pub less : length left < length tokens

pub take_name : (name : List ℕ) {more : List Piece} {tokens rest : List Token} → Fit (plain (word.Identifier name) ∷ more) tokens rest →
    TakenItem (List ℕ) name more tokens rest (name_at tokens)
take_name name {more} {tokens} {rest} h =
    let r = name_read name more tokens rest h.is in record { left = r.left; is = r.is; back = record { is = r.back }; less = r.less }

pub last_name : (name : List ℕ) {tokens rest : List Token} → Fit (plain (word.Identifier name) ∷ []) tokens rest → name_at tokens ≡ Some (name, rest)
last_name name h = let t = take_name name h in t.is ∙ ap (λ (left : List Token). Some (record { 0 = name; 1 = left })) t.back.is

pub take_literal : (bytes : List ℕ) {more : List Piece} {tokens rest : List Token} → Fit (plain (word.Text bytes) ∷ more) tokens rest →
    TakenItem (List ℕ) bytes more tokens rest (literal_at tokens)
take_literal bytes {more} {tokens} {rest} h =
    let r = literal_read bytes more tokens rest h.is in record { left = r.left; is = r.is; back = record { is = r.back }; less = r.less }

-- ---- first words

abbrev pub begins : (Word → Bool) → List Piece → Bool
begins is [] = false
begins is (p ∷ more) = is p.word

pub begins_joined : (is : Word → Bool) (a b : List Piece) → begins is a ≡ true → begins is (a ++ b) ≡ true
begins_joined is [] b h = absurd (cc)
begins_joined is (p ∷ a) b h = h

-- pieces that begin with some word, and the tokens that they front
pub starts_as : (some is : Word → Bool) {pieces : List Piece} {tokens rest : List Token} → begins some pieces ≡ true → Fit pieces tokens rest →
    starts is tokens ≡ begins is pieces
starts_as some is {pieces} {tokens} {rest} h f = go pieces tokens h f.is
  where
    go : (pieces : List Piece) (tokens : List Token) → begins some pieces ≡ true → Fronts pieces tokens rest → starts is tokens ≡ begins is pieces
    go [] tokens h f = absurd (cc)
    go (p ∷ more) [] h f = absurd f
    go (p ∷ more) (t ∷ tokens) h f = let piece = f.0 in ap is piece.word

pub starts_with : (is : Word → Bool) {pieces : List Piece} {tokens rest : List Token} → begins is pieces ≡ true → Fit pieces tokens rest → starts is tokens ≡ true
starts_with is h f = starts_as is is h f ∙ h

pub shorter : (is : Word → Bool) {pieces : List Piece} {tokens rest : List Token} → begins is pieces ≡ true → Fit pieces tokens rest → length rest < length tokens
shorter is {pieces} {tokens} {rest} h f = go pieces h f.is
  where
    go : (pieces : List Piece) → begins is pieces ≡ true → Fronts pieces tokens rest → length rest < length tokens
    go [] h f = absurd (cc)
    go (p ∷ more) h f = fronts_less p more tokens rest f

pub starts_not : (is other : Word → Bool) (tokens : List Token) → ((w : Word) → is w ≡ true → other w ≡ false) → starts is tokens ≡ true → starts other tokens ≡ false
starts_not is other [] f h = refl
starts_not is other (t ∷ tokens) f h = f t.word h

pub starts_also : (is other : Word → Bool) (tokens : List Token) → ((w : Word) → is w ≡ true → other w ≡ true) → starts is tokens ≡ true → starts other tokens ≡ true
starts_also is other [] f h = absurd (cc)
starts_also is other (t ∷ tokens) f h = f t.word h

pub starts_neither : (is other : Word → Bool) (tokens : List Token) → ((w : Word) → is w ≡ false → other w ≡ false) → starts is tokens ≡ false → starts other tokens ≡ false
starts_neither is other [] f h = refl
starts_neither is other (t ∷ tokens) f h = f t.word h

pub begins_also : (is other : Word → Bool) (pieces : List Piece) → ((w : Word) → is w ≡ true → other w ≡ true) → begins is pieces ≡ true → begins other pieces ≡ true
begins_also is other [] f h = absurd (cc)
begins_also is other (p ∷ more) f h = f p.word h

-- ---- readers that find nothing

pub mark_none : (m : Punctuator) (tokens : List Token) → starts (is_mark m) tokens ≡ false → behind_mark m tokens ≡ None
unfolding behind_mark
mark_none m [] h = refl
mark_none m (t ∷ tokens) h = mark_missing m t tokens h

abbrev pub is_name : Word → Bool
is_name (word.Identifier name) = true
is_name _ = false

abbrev pub is_literal : Word → Bool
is_literal (word.Text bytes) = true
is_literal _ = false

no_text : (w : Word) → is_name w ≡ false → text_of w ≡ None
no_text (word.Identifier name) e = absurd (cc)
no_text _ e = refl

pub name_none : (tokens : List Token) → starts is_name tokens ≡ false → name_at tokens ≡ None
unfolding name_at
name_none [] h = refl
name_none (t ∷ tokens) h = rw (no_text t.word h) refl

no_bytes : (w : Word) → is_literal w ≡ false → bytes_of w ≡ None
no_bytes (word.Text bytes) e = absurd (cc)
no_bytes _ e = refl

pub literal_none : (tokens : List Token) → starts is_literal tokens ≡ false → literal_at tokens ≡ None
unfolding literal_at
literal_none [] h = refl
literal_none (t ∷ tokens) h = rw (no_bytes t.word h) refl

-- ---- a first token that is taken

-- pieces that begin with this token's word at its place, and the further ones
pub record BeginsAt (span : Span) (w : Word) (tokens : List Token) (pieces : List Piece) (rest : List Token) : Type 0 where
  pub more : List Piece
  pub same : pieces ≡ at span w ∷ more
  pub back : Fit more tokens rest

pub begun : {t : Token} {tokens : List Token} {pieces : List Piece} {rest : List Token} → BeginsAt t.span t.word tokens pieces rest → Fit pieces (t ∷ tokens) rest
begun {t} b = rw b.same (fit_token t b.back)
