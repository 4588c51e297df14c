-- A file's outcome is one, and moves of the lexer lead to it.
use Rattle.std.proofs.Common.{◌≡◌, ℕ, zero, suc, ◌+◌, ◌-◌, ◌*◌, ◌<◌, ◌≤◌, Bool, List, [], ◌∷◌, ◌++◌, length, take, drop, Some, refl, sym, ◌∙◌, ap, subst, arith, append-nil, length-append, take_all, drop_of_length-le}
use Rattle.c_base.specs.declared.token.Token.{Token}
use Rattle.c_lex.specs.declared.cut.Cursor.{Cursor}
use Rattle.c_base.specs.declared.token.LexSort.TheVariants.{BadByte as BadByteSort, OpenComment as OpenCommentSort, OpenString as OpenStringSort, BadNumber as BadNumberSort}
use Rattle.c_lex.specs.declared.fault.LexFault.{LexFault}
use Rattle.c_lex.specs.declared.fault.LexFault.TheVariants.{BadByte, OpenComment, OpenString, BadNumber, TooMany, Memory}
use Rattle.c_lex.specs.declared.state.Context.{Context}
use Rattle.c_lex.specs.declared.state.Context.TheVariants.{Code, LineAnnotation, BlockAnnotation}
use Rattle.c_lex.specs.declared.meaning.Meaning.{Meaning}
use Rattle.c_lex.specs.declared.meaning.Meaning.TheVariants.{Blank, Gives, Annotates, Wrong}
use Rattle.c_lex.specs.declared.state.State.{State}
use Rattle.c_lex.specs.Pieces.{reached, IsLongest}
use Rattle.c_lex.specs.Meanings.{meaning}
use Rattle.c_lex.specs.Tokens.{Left, Move, ends, fails, gives, skips, move_over, move_at_end, IsMove, IsMoveBy, Outcome, tokens, fault, before, Onward, Comes, start, AreTokensOf, HasFault}
use Rattle.c_lex.specs.Lexing.{AreTheTokensOf, AreAnswered, IsRefusedFor, AreTooMany, IsRefusal}
use Rattle.c_lex.specs.Cursors.{start_cursor, left_of, IsCursor, moves_left, IsNext}

-- ---- one move, one outcome

pub record SamePiece (n m : ℕ) (s t : State) : Type 0 where
  pub length : n ≡ m
  pub state : s ≡ t

longest_same : (c : Context) (fresh : Bool) (bytes : List ℕ) (n m : ℕ) (s t : State) → IsLongest c fresh bytes n s → IsLongest c fresh bytes m t → SamePiece n m s t
longest_same c fresh bytes n m s t h k = by_order (n - m) (m - n) refl refl
  where
    by_order : (a b : ℕ) → n - m ≡ a → m - n ≡ b → SamePiece n m s t
    by_order zero zero p q =
        let same : n ≡ m = omega arith in
        let made : reached c fresh bytes m ≡ Some s = rw same at h.piece.made in
        let made' : reached c fresh bytes m ≡ Some t = k.piece.made in
        record { length = same; state = cc }
    by_order (suc a) b p q = absurd (k.longest n s (omega arith) h.piece)
    by_order zero (suc b) p q = absurd (h.longest m t (omega arith) k.piece)

move_same : (l : Left) (a b : Move) → IsMove l a → IsMove l b → a ≡ b
move_same l a b h k = by_text l.text h k
  where
    by_text : (text : List ℕ) → IsMoveBy l text a → IsMoveBy l text b → a ≡ b
    by_text [] h k = h ∙ sym k
    by_text (x ∷ xs) h k =
        let same : SamePiece h.length k.length h.state k.state = longest_same l.context l.fresh l.text h.length k.length h.state k.state h.longest k.longest in
        h.is ∙ (λ i. move_over l (same.length i) (same.state i) (meaning l.context (same.state i) (take (same.length i) l.text))) ∙ sym k.is

pub comes_same : (n m : ℕ) (l : Left) (a b : Outcome) → Comes n l a → Comes m l b → a ≡ b
comes_same zero m l a b h k = absurd h
comes_same (suc n) zero l a b h k = absurd k
comes_same (suc n) (suc m) l a b h k =
    let same : h.0 ≡ k.0 = move_same l h.0 k.0 h.1 k.1 in
    let on : Onward (Comes n) k.0 a = rw same at h.2 in
    onward (λ l' a b. comes_same n m l' a b) k.0 on k.2
  where
    onward : ((l' : Left) (a b : Outcome) → Comes n l' a → Comes m l' b → a ≡ b) → (x : Move) → Onward (Comes n) x a → Onward (Comes m) x b → a ≡ b
    onward same ends p q = p ∙ sym q
    onward same (fails f) p q = p ∙ sym q
    onward same (gives t l') p q =
        let more : p.0 ≡ q.0 = same l' p.0 q.0 p.1 q.1 in p.2 ∙ ap (before t) more ∙ sym q.2
    onward same (skips l') p q = same l' a b p q

-- ---- on the way

-- tokens before what comes
unfoldable pub all_before : List Token → Outcome → Outcome
all_before [] out = out
all_before (t ∷ ts) out = before t (all_before ts out)

all_before-tokens : (ts more : List Token) → all_before ts (tokens more) ≡ tokens (ts ++ more)
unfolding all_before
all_before-tokens [] more = refl
all_before-tokens (t ∷ ts) more = ap (before t) (all_before-tokens ts more)

all_before-fault : (ts : List Token) (f : LexFault) → all_before ts (fault f) ≡ fault f
unfolding all_before
all_before-fault [] f = refl
all_before-fault (t ∷ ts) f = ap (before t) (all_before-fault ts f)

all_before-one : (ts : List Token) (t : Token) (out : Outcome) → all_before ts (before t out) ≡ all_before (ts ++ t ∷ []) out
unfolding all_before
all_before-one [] t out = refl
all_before-one (u ∷ ts) t out = ap (before u) (all_before-one ts t out)

-- the tokens `done` have been cut, and this is left
pub record Reaches (bytes : List ℕ) (done : List Token) (l : Left) : Type 0 where
  pub on : (n : ℕ) (out : Outcome) → Comes n l out → (k : ℕ) × Comes k (start bytes) (all_before done out)

reaches_begun : (bytes : List ℕ) → Reaches bytes [] (start bytes)
unfolding all_before
reaches_begun bytes = record { on = λ n out h. (n, h) }

reaches_token : (bytes : List ℕ) (done : List Token) (l next : Left) (t : Token) → IsMove l (gives t next) → Reaches bytes done l → Reaches bytes (done ++ t ∷ []) next
reaches_token bytes done l next t move r = record {
  on = λ n out h.
      let o = r.on (suc n) (before t out) (gives t next, move, (out, h, refl)) in
      (o.0, rw (all_before-one done t out) at o.1);
}

reaches_blank : (bytes : List ℕ) (done : List Token) (l next : Left) → IsMove l (skips next) → Reaches bytes done l → Reaches bytes done next
reaches_blank bytes done l next move r = record { on = λ n out h. r.on (suc n) out (skips next, move, h) }

reaches_end : (bytes : List ℕ) (done : List Token) (l : Left) → IsMove l ends → Reaches bytes done l → AreTokensOf bytes done
reaches_end bytes done l move r =
    let o = r.on 1 (tokens []) (ends, move, refl) in
    let e : all_before done (tokens []) ≡ tokens done = all_before-tokens done [] ∙ ap tokens (append-nil done) in
    record { moves = o.0; come = rw e at o.1 }

reaches_fault : (bytes : List ℕ) (done : List Token) (l : Left) (f : LexFault) → IsMove l (fails f) → Reaches bytes done l → HasFault bytes f
reaches_fault bytes done l f move r =
    let o = r.on 1 (fault f) (fails f, move, refl) in
    record { moves = o.0; come = rw (all_before-fault done f) at o.1 }

tokens_same : (a b : List Token) → tokens a ≡ tokens b → a ≡ b
tokens_same a b e = cc

fault_same : (a b : LexFault) → fault a ≡ fault b → a ≡ b
fault_same a b e = cc

are_the_tokens : (bytes : List ℕ) (ts : List Token) → AreTokensOf bytes ts → AreTheTokensOf bytes ts
are_the_tokens bytes ts h = record {
  cut = h;
  only = λ others k. tokens_same others ts (comes_same k.moves h.moves (start bytes) (tokens others) (tokens ts) k.come h.come);
}

is_refused : (bytes : List ℕ) (f : LexFault) → HasFault bytes f → IsRefusedFor bytes f
is_refused bytes f h = record {
  fault = h;
  only = λ other k. fault_same other f (comes_same k.moves h.moves (start bytes) (fault other) (fault f) k.come h.come);
  none = λ ts k. let e : tokens ts ≡ fault f = comes_same k.moves h.moves (start bytes) (tokens ts) (fault f) k.come h.come in cc;
}

-- ---- the loop

-- tokens are kept while there are at most 2,000,000, and counted
pub record Cutting (bytes : List ℕ) (kept : List Token) (count : ℕ) (c : Cursor) : Type 0 where
  pub done : List Token
  pub reaches : Reaches bytes done (left_of bytes c)
  pub counted : count ≡ length done
  pub keeps : count ≤ 2000000 → kept ≡ done
  pub valid : IsCursor bytes c
  pub few : count + moves_left bytes c ≤ 2 * length bytes

left_same : (l r : Left) → l.context ≡ r.context → l.fresh ≡ r.fresh → l.at ≡ r.at → l.text ≡ r.text → l.rest ≡ r.rest → l ≡ r
left_same l r a b c d e = λ i. record { context = a i; fresh = b i; at = c i; text = d i; rest = e i }

pub cutting_begun : (bytes : List ℕ) → Cutting bytes [] 0 (start_cursor (length bytes))
cutting_begun bytes = record {
  done = [];
  reaches = subst (λ (l : Left). Reaches bytes [] l) (sym whole) (reaches_begun bytes);
  counted = refl;
  keeps = λ h. refl;
  valid = record { ordered = omega arith; within = omega arith; code = λ h. refl; line = omega arith; col = omega arith };
  few = omega arith;
}
  where
    whole : left_of bytes (start_cursor (length bytes)) ≡ start bytes
    whole = left_same _ _ refl refl refl (take_all (length bytes - 0) bytes (omega arith)) (nothing (length bytes + 0) (omega arith))
      where
        nothing : (k : ℕ) → length bytes ≤ k → drop k bytes ≡ []
        nothing k h = drop_of_length-le bytes {i = k} h

pub cutting_blank : (bytes : List ℕ) (kept : List Token) (count : ℕ) (c next : Cursor) → Cutting bytes kept count c →
    IsNext bytes c next (skips (left_of bytes next)) → Cutting bytes kept count next
cutting_blank bytes kept count c next g n = record {
  done = g.done;
  reaches = reaches_blank bytes g.done (left_of bytes c) (left_of bytes next) n.move g.reaches;
  counted = g.counted;
  keeps = g.keeps;
  valid = n.valid;
  few = let a = g.few in let b = n.less in omega arith;
}

pub cutting_token : (bytes : List ℕ) (kept more : List Token) (count : ℕ) (c next : Cursor) (t : Token) → Cutting bytes kept count c →
    IsNext bytes c next (gives t (left_of bytes next)) → (count < 2000000 → more ≡ kept ++ t ∷ []) → Cutting bytes more (count + 1) next
cutting_token bytes kept more count c next t g n k = record {
  done = g.done ++ t ∷ [];
  reaches = reaches_token bytes g.done (left_of bytes c) (left_of bytes next) t n.move g.reaches;
  counted = let e = g.counted in omega (arith, length-append g.done (t ∷ []));
  keeps = λ h. k (omega arith) ∙ ap (λ ts. ts ++ t ∷ []) (g.keeps (omega arith));
  valid = n.valid;
  few = let a = g.few in let b = n.less in omega arith;
}

pub cutting_fault : (bytes : List ℕ) (kept : List Token) (count : ℕ) (c : Cursor) (f : LexFault) → Cutting bytes kept count c → IsMove (left_of bytes c) (fails f) →
    IsRefusedFor bytes f
cutting_fault bytes kept count c f g move = is_refused bytes f (reaches_fault bytes g.done (left_of bytes c) f move g.reaches)

-- the whole file has been cut
pub record IsCut (bytes : List ℕ) (kept : List Token) (count : ℕ) : Type 0 where
  pub done : List Token
  pub all : AreTheTokensOf bytes done
  pub counted : count ≡ length done
  pub keeps : count ≤ 2000000 → kept ≡ done

pub cutting_ends : (bytes : List ℕ) (kept : List Token) (count : ℕ) (c : Cursor) → Cutting bytes kept count c → IsMove (left_of bytes c) ends → IsCut bytes kept count
cutting_ends bytes kept count c g move = record {
  done = g.done;
  all = are_the_tokens bytes g.done (reaches_end bytes g.done (left_of bytes c) move g.reaches);
  counted = g.counted;
  keeps = g.keeps;
}

pub cut_answers : (bytes : List ℕ) (kept : List Token) (count : ℕ) → IsCut bytes kept count → count ≤ 2000000 → AreAnswered bytes kept
cut_answers bytes kept count c few =
    let same : kept ≡ c.done = c.keeps few in
    let e = c.counted in
    record { all = rw same c.all; few = rw same (omega arith) }

pub cut_too_many : (bytes : List ℕ) (kept : List Token) (count : ℕ) → IsCut bytes kept count → 2000000 < count → AreTooMany bytes count
cut_too_many bytes kept count c many = record { ts = c.done; all = c.all; so_many = sym c.counted; many = many }

-- no piece is one too many
never_too_many : (l : Left) (count : ℕ) → IsMove l (fails (TooMany count)) → ⊥
never_too_many l count h = by_text l.text h
  where
    by_context : (c : Context) → fails (TooMany count) ≡ move_at_end c l → ⊥
    by_context Code e = cc
    by_context LineAnnotation e = cc
    by_context BlockAnnotation e = cc

    by_meaning : (n : ℕ) (s : State) (m : Meaning) → fails (TooMany count) ≡ move_over l n s m → ⊥
    by_meaning n s Blank e = cc
    by_meaning n s (Gives w) e = cc
    by_meaning n s (Annotates a) e = cc
    by_meaning n s (Wrong BadByteSort k) e = cc
    by_meaning n s (Wrong OpenCommentSort k) e = cc
    by_meaning n s (Wrong OpenStringSort k) e = cc
    by_meaning n s (Wrong BadNumberSort k) e = cc

    by_text : (text : List ℕ) → IsMoveBy l text (fails (TooMany count)) → ⊥
    by_text [] e = by_context l.context e
    by_text (b ∷ bs) o = by_meaning o.length o.state _ o.is

pub cutting_refuses : (bytes : List ℕ) (kept : List Token) (count : ℕ) (c : Cursor) (f : LexFault) → Cutting bytes kept count c → IsMove (left_of bytes c) (fails f) →
    IsRefusal bytes f
cutting_refuses bytes kept count c (BadByte at) g move = cutting_fault bytes kept count c (BadByte at) g move
cutting_refuses bytes kept count c (OpenComment at) g move = cutting_fault bytes kept count c (OpenComment at) g move
cutting_refuses bytes kept count c (OpenString at) g move = cutting_fault bytes kept count c (OpenString at) g move
cutting_refuses bytes kept count c (BadNumber at) g move = cutting_fault bytes kept count c (BadNumber at) g move
cutting_refuses bytes kept count c (TooMany n) g move = absurd (never_too_many (left_of bytes c) n move)
cutting_refuses bytes kept count c Memory g move = tt
