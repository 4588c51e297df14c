-- What comes next, at the lexer's place in the bytes.
use Rattle.std.proofs.Common.{◌≡◌, ℕ, zero, suc, ◌+◌, ◌-◌, ◌<◌, ◌≤◌, ◌==◌, nat_lt, Bool, true, false, cond, List, [], ◌∷◌, length, get_or, take, drop, Option, Some, None, refl, sym, ◌∙◌, ap, arith, length-drop, length-take-le, drop-drop, drop_of_length-le}
use Rattle.std.proofs.lemmas.List.{drop-take, take_rest}
use Rattle.std.proofs.lemmas.Bool.Decides.{nat_tests}
use Rattle.c_base.specs.declared.number.Span.{Span}
use Rattle.c_base.specs.declared.token.Word.TheVariants.{OpenAnnotation, CloseAnnotation, Character as CharacterWord}
use Rattle.c_base.specs.declared.token.Keyword.{Keyword}
use Rattle.c_base.specs.declared.token.IntegerConstant.{IntegerConstant}
use Rattle.c_lex.specs.declared.cut.Cursor.{Cursor}
use Rattle.c_lex.specs.declared.meaning.Meaning.{Meaning}
use Rattle.c_lex.specs.declared.meaning.Meaning.TheVariants.{Blank, Gives, Annotates, Wrong}
use Rattle.c_lex.specs.declared.state.Context.{Context}
use Rattle.c_lex.specs.declared.state.Context.TheVariants.{Code, LineAnnotation, BlockAnnotation}
use Rattle.c_lex.specs.declared.state.Quote.TheVariants.{Character, Text}
use Rattle.c_lex.specs.declared.state.State.{State}
use Rattle.c_lex.specs.declared.state.State.TheVariants.{Start, White, Name, Backslash, AnnotationName, Number, Exponent, Mark, LessEqualEqual, LineComment, BlockComment, BlockStar, Comment, SkippedLine, Quoted, Escape, Closed, Other}
use Rattle.c_lex.specs.Meanings.{closing, fault_of, meaning, comment_meaning, name_meaning, keyword_or_name, integer_or, number_meaning, string_with, text_meaning, single, single_escape, character_in, character_meaning}
use Rattle.c_lex.specs.Numbers.{integer_of, is_floating}
use Rattle.c_lex.specs.Texts.{escape, contents, inner}
use Rattle.c_lex.specs.declared.text.Contents.{Contents}
use Rattle.c_lex.specs.declared.text.Contents.TheVariants.{Bytes, WrongAt}
use Rattle.c_lex.specs.declared.text.Escaped.{Escaped}
use Rattle.c_base.specs.declared.token.LexSort.TheVariants.{BadByte}
use Rattle.c_lex.specs.Words.{keyword_of, is_dropped}
use Rattle.c_lex.specs.Pieces.{is_inside, IsLongest}
use Rattle.c_lex.specs.Tokens.{Left, Move, ends, fails, gives, skips, IsMove, IsMoveBy, move_at_end, IsOver, behind, inside, outside, annotated, token, further, after, after_all, move_over}
use Rattle.c_lex.specs.Cursors.{over_cursor, inside_cursor, outside_cursor, step_of, step_at_end, left_of, IsCursor, moves_left, IsNext, IsStep}
use Rattle.c_lex.proofs.Places.{within_line}

-- ---- annotations

-- a piece that gives an annotation stands in the code, and has room for what opens and closes it
pub record FitsAnnotation (c : Context) (text : List ℕ) (a : Context) : Type 0 where
  pub code : is_inside c ≡ false
  pub annotation : is_inside a ≡ true
  pub room : 3 + length (closing a) ≤ length text

name_never : (text : List ℕ) (a : Context) → name_meaning text ≡ Annotates a → ⊥
unfolding name_meaning
name_never text a e = by_cases (is_dropped text) (keyword_of text) e
  where
    by_cases : (d : Bool) (k : Option Keyword) → cond d Blank (keyword_or_name text k) ≡ Annotates a → ⊥
    by_cases true k e = cc
    by_cases false None e = cc
    by_cases false (Some k) e = cc

number_never : (text : List ℕ) (a : Context) → number_meaning text ≡ Annotates a → ⊥
unfolding number_meaning
number_never text a e = by_cases (integer_of text) (is_floating text) e
  where
    by_cases : (o : Option IntegerConstant) (f : Bool) → integer_or o f ≡ Annotates a → ⊥
    by_cases (Some n) f e = cc
    by_cases None true e = cc
    by_cases None false e = cc

text_never : (text : List ℕ) (a : Context) → text_meaning text ≡ Annotates a → ⊥
unfolding text_meaning
text_never text a e = by_cases (contents 0 0 (inner text)) e
  where
    by_cases : (o : Contents) → string_with o ≡ Annotates a → ⊥
    by_cases (WrongAt n) e = cc
    by_cases (Bytes bytes) e = cc

single_never : (v n size : ℕ) (a : Context) → single v n size ≡ Annotates a → ⊥
single_never v n size a e = by_test (n == size) e
  where
    by_test : (b : Bool) → cond b (Gives (CharacterWord v)) (Wrong BadByte (1 + n)) ≡ Annotates a → ⊥
    by_test true e = cc
    by_test false e = cc

escape_never : (o : Option Escaped) (size : ℕ) (a : Context) → single_escape o size ≡ Annotates a → ⊥
escape_never None size a e = cc
escape_never (Some x) size a e = single_never x.value (1 + x.length) size a e

character_never : (text : List ℕ) (a : Context) → character_meaning text ≡ Annotates a → ⊥
unfolding character_meaning character_in
character_never text a e =
    by_tests (length (inner text) == 0) (get_or (inner text) 0 0 == 92) (nat_lt (get_or (inner text) 0 0) 128) (single_escape (escape (drop 1 (inner text))) (length (inner text)))
    (single (get_or (inner text) 0 0) 1 (length (inner text))) (escape_never (escape (drop 1 (inner text))) (length (inner text)) a)
    (single_never (get_or (inner text) 0 0) 1 (length (inner text)) a) e
  where
    by_tests : (none slash small : Bool) (m n : Meaning) → (m ≡ Annotates a → ⊥) → (n ≡ Annotates a → ⊥) →
        cond none (Wrong BadByte 1) (cond slash m (cond small n (Wrong BadByte 1))) ≡ Annotates a → ⊥
    by_tests true slash small m n h k e = cc
    by_tests false true small m n h k e = h e
    by_tests false false true m n h k e = k e
    by_tests false false false m n h k e = cc

comment_fits : (c a : Context) (text : List ℕ) (b : Context) → is_inside a ≡ true → comment_meaning c a text ≡ Annotates b → FitsAnnotation c text b
unfolding comment_meaning
comment_fits c a text b annotation e = by_tests (is_inside c) (nat_lt (length text) (3 + length (closing a))) (get_or text 2 0 == 64) refl refl e
  where
    by_tests : (i s t : Bool) → is_inside c ≡ i → nat_lt (length text) (3 + length (closing a)) ≡ s →
        cond i Blank (cond s Blank (cond t (Annotates a) Blank)) ≡ Annotates b → FitsAnnotation c text b
    by_tests true s t p q e = absurd (cc)
    by_tests false true t p q e = absurd (cc)
    by_tests false false false p q e = absurd (cc)
    by_tests false false true p q e =
        let same : a ≡ b = cc in
        let room : 3 + length (closing a) ≤ length text = grind (arith, nat_tests) in
        record { code = p; annotation = rw (← same) annotation; room = rw (← same) room }

annotation_fits : (c : Context) (s : State) (text : List ℕ) (a : Context) → meaning c s text ≡ Annotates a → FitsAnnotation c text a
annotation_fits c (Start fresh) text a e = absurd (cc)
annotation_fits c White text a e = absurd (cc)
annotation_fits c Name text a e = absurd (name_never text a e)
annotation_fits c Backslash text a e = absurd (cc)
annotation_fits c AnnotationName text a e = absurd (cc)
annotation_fits c Number text a e = absurd (number_never text a e)
annotation_fits c Exponent text a e = absurd (number_never text a e)
annotation_fits c (Mark p) text a e = absurd (cc)
annotation_fits c LessEqualEqual text a e = absurd (cc)
annotation_fits c LineComment text a e = comment_fits c LineAnnotation text a refl e
annotation_fits c BlockComment text a e = absurd (cc)
annotation_fits c BlockStar text a e = absurd (cc)
annotation_fits c Comment text a e = comment_fits c BlockAnnotation text a refl e
annotation_fits c SkippedLine text a e = absurd (cc)
annotation_fits c (Quoted q) text a e = absurd (cc)
annotation_fits c (Escape q) text a e = absurd (cc)
annotation_fits c (Closed Text) text a e = absurd (text_never text a e)
annotation_fits c (Closed Character) text a e = absurd (character_never text a e)
annotation_fits c Other text a e = absurd (cc)

-- ---- parts of the bytes

left_same : (l r : Left) → l.context ≡ r.context → l.fresh ≡ r.fresh → l.at ≡ r.at → l.text ≡ r.text → l.rest ≡ r.rest → l ≡ r
left_same l r a b c d e = λ i. record { context = a i; fresh = b i; at = c i; text = d i; rest = e i }

drop_of_take : (n m : ℕ) (xs : List ℕ) → n ≤ m → drop n (take m xs) ≡ take (m - n) (drop n xs)
drop_of_take n m xs h = let e : m ≡ n + (m - n) = omega arith in ap (λ k. drop n (take k xs)) e ∙ drop-take n (m - n) xs

take_of_take : (n m : ℕ) (xs : List ℕ) → n ≤ m → take n (take m xs) ≡ take n xs
take_of_take zero m xs h = refl
take_of_take (suc n) zero xs h = absurd (omega arith)
take_of_take (suc n) (suc m) [] h = refl
take_of_take (suc n) (suc m) (x ∷ xs) h = ap (λ ys. x ∷ ys) (take_of_take n m xs (omega arith))

length_of_text : (bytes : List ℕ) (c : Cursor) → IsCursor bytes c → length (take (c.end - c.next) (drop c.next bytes)) ≡ c.end - c.next
length_of_text bytes c v =
    let o : c.next ≤ c.end = v.ordered in
    let w : c.end + length (closing c.context) ≤ length bytes = v.within in
    length-take-le (c.end - c.next) (drop c.next bytes) (omega (arith, length-drop c.next bytes))

weight_few : (b : Bool) → cond b 1 0 ≤ 1
weight_few true = omega arith
weight_few false = omega arith

-- ---- moves

is_move : (l : Left) (m : Move) → 0 < length l.text → IsOver l m → IsMove l m
is_move l m some over = by_text l.text some
  where
    by_text : (text : List ℕ) → 0 < length text → IsMoveBy l text m
    by_text [] some = absurd (omega arith)
    by_text (b ∷ bs) some = over

is_end : (l : Left) (m : Move) → l.text ≡ [] → m ≡ move_at_end l.context l → IsMove l m
is_end l m e h = by_text l.text e
  where
    by_text : (text : List ℕ) → text ≡ [] → IsMoveBy l text m
    by_text [] e = h
    by_text (b ∷ bs) e = absurd (cc)

-- ---- behind a piece

-- the longest piece at the front of the text that is left
pub record AtFront (bytes : List ℕ) (c : Cursor) (n : ℕ) (s : State) : Type 0 where
  pub valid : IsCursor bytes c
  pub longest : IsLongest c.context c.fresh (take (c.end - c.next) (drop c.next bytes)) n s
  pub some : 0 < n

piece_of : List ℕ → Cursor → ℕ → List ℕ
piece_of bytes c n = take n (take (c.end - c.next) (drop c.next bytes))

front_fits : (bytes : List ℕ) (c : Cursor) (n : ℕ) (s : State) → AtFront bytes c n s → c.next + n ≤ c.end
front_fits bytes c n s f =
    let k : n ≤ length (take (c.end - c.next) (drop c.next bytes)) = f.longest.piece.within in
    let o : c.next ≤ c.end = f.valid.ordered in
    omega (arith, length_of_text bytes c f.valid)

front_length : (bytes : List ℕ) (c : Cursor) (n : ℕ) (s : State) → AtFront bytes c n s → length (take n (take (c.end - c.next) (drop c.next bytes))) ≡ n
front_length bytes c n s f = length-take-le n (take (c.end - c.next) (drop c.next bytes)) f.longest.piece.within

after_all_within : (at : Span) (bytes : List ℕ) → ((after_all at bytes).line ≤ at.line + length bytes) × ((after_all at bytes).col ≤ at.col + length bytes)
unfolding after_all
after_all_within at [] = (omega arith, omega arith)
after_all_within at (b ∷ bs) =
    let w = within_line at b at.line at.col (omega arith) (omega arith) in
    let h = after_all_within (after at b) bs in
    let p : (after at b).line ≤ at.line + 1 = w.0 in
    let q : (after at b).col ≤ at.col + 1 = w.1 in
    let r : (after_all (after at b) bs).line ≤ (after at b).line + length bs = h.0 in
    let t : (after_all (after at b) bs).col ≤ (after at b).col + length bs = h.1 in
    (omega arith, omega arith)

over_valid : (bytes : List ℕ) (c : Cursor) (n : ℕ) (s : State) → AtFront bytes c n s → IsCursor bytes (over_cursor c s (take n (take (c.end - c.next) (drop c.next bytes))))
over_valid bytes c n s f =
    let piece : List ℕ = take n (take (c.end - c.next) (drop c.next bytes)) in
    let long : length piece ≡ n = front_length bytes c n s f in
    let fits : c.next + n ≤ c.end = front_fits bytes c n s f in
    let w = after_all_within c.at piece in
    let l : (after_all c.at piece).line ≤ c.at.line + length piece = w.0 in
    let k : (after_all c.at piece).col ≤ c.at.col + length piece = w.1 in
    let a : c.at.line ≤ c.next + 1 = f.valid.line in
    let b : c.at.col ≤ c.next + 1 = f.valid.col in
    record {
      ordered = omega arith;
      within = f.valid.within;
      code = f.valid.code;
      line = omega arith;
      col = omega arith;
    }

over_left : (bytes : List ℕ) (c : Cursor) (n : ℕ) (s : State) → AtFront bytes c n s →
    left_of bytes (over_cursor c s (take n (take (c.end - c.next) (drop c.next bytes)))) ≡ behind (left_of bytes c) n s
over_left bytes c n s f = left_same _ _ refl refl refl text refl
  where
    piece : List ℕ
    piece = take n (take (c.end - c.next) (drop c.next bytes))

    long : length (take n (take (c.end - c.next) (drop c.next bytes))) ≡ n
    long = front_length bytes c n s f

    fits : c.next + n ≤ c.end
    fits = front_fits bytes c n s f

    size : c.end - (c.next + n) ≡ c.end - c.next - n
    size = omega (arith, fits)

    few : n ≤ c.end - c.next
    few = omega (arith, fits)

    text : take (c.end - (c.next + length (take n (take (c.end - c.next) (drop c.next bytes))))) (drop (c.next + length (take n (take (c.end - c.next) (drop c.next bytes)))) bytes) ≡
        drop n (take (c.end - c.next) (drop c.next bytes))
    text =
        ap (λ k. take (c.end - (c.next + k)) (drop (c.next + k) bytes)) long ∙ ap (λ k. take k (drop (c.next + n) bytes)) size
        ∙ ap (take (c.end - c.next - n)) (sym (drop-drop n c.next bytes)) ∙ sym (drop_of_take n (c.end - c.next) (drop c.next bytes) few)

over_less : (bytes : List ℕ) (c : Cursor) (n : ℕ) (s : State) → AtFront bytes c n s →
    moves_left bytes (over_cursor c s (take n (take (c.end - c.next) (drop c.next bytes)))) < moves_left bytes c
over_less bytes c n s f =
    let long : length (take n (take (c.end - c.next) (drop c.next bytes))) ≡ n = front_length bytes c n s f in
    let fits : c.next + n ≤ c.end = front_fits bytes c n s f in
    let within : c.end + length (closing c.context) ≤ length bytes = f.valid.within in
    let some : 0 < n = f.some in
    let w : ℕ = cond (is_inside c.context) 1 0 in
    omega arith

-- ---- at the inside of an annotation

inside_valid : (bytes : List ℕ) (c : Cursor) (n : ℕ) (s : State) (a : Context) → AtFront bytes c n s → 3 + length (closing a) ≤ n → is_inside a ≡ true →
    IsCursor bytes (inside_cursor c a (length (take n (take (c.end - c.next) (drop c.next bytes)))))
inside_valid bytes c n s a f room annotation =
    let long : length (take n (take (c.end - c.next) (drop c.next bytes))) ≡ n = front_length bytes c n s f in
    let fits : c.next + n ≤ c.end = front_fits bytes c n s f in
    let within : c.end + length (closing c.context) ≤ length bytes = f.valid.within in
    let line : c.at.line ≤ c.next + 1 = f.valid.line in
    let col : c.at.col ≤ c.next + 1 = f.valid.col in
    record {
      ordered = omega arith;
      within = omega arith;
      code = λ h. absurd (cc (h, annotation));
      line = omega arith;
      col = omega arith;
    }

inside_less : (bytes : List ℕ) (c : Cursor) (n : ℕ) (s : State) (a : Context) → AtFront bytes c n s → 3 + length (closing a) ≤ n →
    moves_left bytes (inside_cursor c a (length (take n (take (c.end - c.next) (drop c.next bytes))))) < moves_left bytes c
inside_less bytes c n s a f room =
    let fits : c.next + n ≤ c.end = front_fits bytes c n s f in
    let within : c.end + length (closing c.context) ≤ length bytes = f.valid.within in
    let w : cond (is_inside a) 1 0 ≤ 1 = weight_few (is_inside a) in
    omega arith

inside_left : (bytes : List ℕ) (c : Cursor) (n : ℕ) (s : State) (a : Context) → AtFront bytes c n s → 3 + length (closing a) ≤ n → is_inside c.context ≡ false →
    left_of bytes (inside_cursor c a (length (take n (take (c.end - c.next) (drop c.next bytes))))) ≡ inside (left_of bytes c) n a
inside_left bytes c n s a f room code = left_same _ _ refl refl refl text rest
  where
    long : length (take n (take (c.end - c.next) (drop c.next bytes))) ≡ n
    long = front_length bytes c n s f

    fits : c.next + n ≤ c.end
    fits = front_fits bytes c n s f

    piece : take n (take (c.end - c.next) (drop c.next bytes)) ≡ take n (drop c.next bytes)
    piece = take_of_take n (c.end - c.next) (drop c.next bytes) (omega (arith, fits))

    behind_opening : drop 3 (take n (drop c.next bytes)) ≡ take (n - 3) (drop (c.next + 3) bytes)
    behind_opening = drop_of_take 3 n (drop c.next bytes) (omega (arith, room)) ∙ ap (take (n - 3)) (drop-drop 3 c.next bytes)

    -- both sides, with the number of bytes of the piece and of what closes it
    by_length : (size close : ℕ) → size ≡ n → 3 + close ≤ n →
        take (c.next + size - close - (c.next + 3)) (drop (c.next + 3) bytes) ≡ take (size - (3 + close)) (drop 3 (take n (take (c.end - c.next) (drop c.next bytes))))
    by_length size close e room =
        let left : c.next + size - close - (c.next + 3) ≡ n - (3 + close) = omega arith in
        let right : size - (3 + close) ≡ n - (3 + close) = omega arith in
        ap (λ k. take k (drop (c.next + 3) bytes)) left
        ∙ sym (take_of_take (n - (3 + close)) (n - 3) (drop (c.next + 3) bytes) (omega arith))
        ∙ ap (take (n - (3 + close))) (sym (ap (drop 3) piece ∙ behind_opening))
        ∙ ap (λ k. take k (drop 3 (take n (take (c.end - c.next) (drop c.next bytes))))) (sym right)

    text : take (c.next + length (take n (take (c.end - c.next) (drop c.next bytes))) - length (closing a) - (c.next + 3)) (drop (c.next + 3) bytes) ≡
        annotated a (take n (take (c.end - c.next) (drop c.next bytes)))
    text = by_length (length (take n (take (c.end - c.next) (drop c.next bytes)))) (length (closing a)) long room

    all : take (c.end - c.next) (drop c.next bytes) ≡ drop c.next bytes
    all = ap (λ k. take (k - c.next) (drop c.next bytes)) (f.valid.code code) ∙ take_rest bytes c.next

    rest_by : (size close : ℕ) → size ≡ n → 3 + close ≤ n → drop (c.next + size - close + close) bytes ≡ drop n (take (c.end - c.next) (drop c.next bytes))
    rest_by size close e room =
        let sum : c.next + size - close + close ≡ c.next + n = omega arith in
        ap (λ k. drop k bytes) sum ∙ sym (ap (drop n) all ∙ drop-drop n c.next bytes)

    rest : drop (c.next + length (take n (take (c.end - c.next) (drop c.next bytes))) - length (closing a) + length (closing a)) bytes ≡
        drop n (take (c.end - c.next) (drop c.next bytes))
    rest = rest_by (length (take n (take (c.end - c.next) (drop c.next bytes)))) (length (closing a)) long room

-- ---- what comes next

step_at_front : (bytes : List ℕ) (c : Cursor) (n : ℕ) (s : State) (m : Meaning) → AtFront bytes c n s →
    m ≡ meaning c.context s (take n (take (c.end - c.next) (drop c.next bytes))) →
    IsStep bytes c (step_of c s (take n (take (c.end - c.next) (drop c.next bytes))) m)
step_at_front bytes c n s m f e = by_meaning m e
  where
    some : 0 < length (take (c.end - c.next) (drop c.next bytes))
    some =
        let k : n ≤ length (take (c.end - c.next) (drop c.next bytes)) = f.longest.piece.within in let h : 0 < n = f.some in omega arith

    moves : (m : Meaning) (x : Move) → m ≡ meaning c.context s (take n (take (c.end - c.next) (drop c.next bytes))) → x ≡ move_over (left_of bytes c) n s m → IsMove (left_of bytes c) x
    moves m x e h =
        is_move (left_of bytes c) x some
        (record { length = n; state = s; longest = f.longest; is = h ∙ ap (move_over (left_of bytes c) n s) e })

    by_meaning : (m : Meaning) → m ≡ meaning c.context s (take n (take (c.end - c.next) (drop c.next bytes))) →
        IsStep bytes c (step_of c s (take n (take (c.end - c.next) (drop c.next bytes))) m)
    by_meaning Blank e = record {
      move = moves Blank _ e (ap skips (over_left bytes c n s f));
      valid = over_valid bytes c n s f;
      less = over_less bytes c n s f;
    }
    by_meaning (Gives w) e = record {
      move = moves (Gives w) _ e (ap (gives (token w c.at)) (over_left bytes c n s f));
      valid = over_valid bytes c n s f;
      less = over_less bytes c n s f;
    }
    by_meaning (Annotates a) e =
        let fit : FitsAnnotation c.context (take n (take (c.end - c.next) (drop c.next bytes))) a = annotation_fits c.context s _ a (sym e) in
        let long : length (take n (take (c.end - c.next) (drop c.next bytes))) ≡ n = front_length bytes c n s f in
        let room : 3 + length (closing a) ≤ n = rw long at fit.room in
        record {
          move = moves (Annotates a) _ e (ap (gives (token OpenAnnotation c.at)) (inside_left bytes c n s a f room fit.code));
          valid = inside_valid bytes c n s a f room fit.annotation;
          less = inside_less bytes c n s a f room;
        }
    by_meaning (Wrong sort k) e = moves (Wrong sort k) (fails (fault_of sort (further c.at k))) e refl

pub step_is : (bytes : List ℕ) (c : Cursor) (n : ℕ) (s : State) (text piece : List ℕ) (m : Meaning) → IsCursor bytes c →
    text ≡ take (c.end - c.next) (drop c.next bytes) → IsLongest c.context c.fresh text n s → 0 < n → piece ≡ take n text →
    m ≡ meaning c.context s piece → IsStep bytes c (step_of c s piece m)
step_is bytes c n s text piece m v e longest some h k =
    let whole : piece ≡ take n (take (c.end - c.next) (drop c.next bytes)) = h ∙ ap (take n) e in
    let front : AtFront bytes c n s = record { valid = v; longest = rw e at longest; some = some } in
    let given : m ≡ meaning c.context s (take n (take (c.end - c.next) (drop c.next bytes))) = k ∙ ap (meaning c.context s) whole in
    rw whole (step_at_front bytes c n s m front given)

outside_left : (bytes : List ℕ) (c : Cursor) → left_of bytes (outside_cursor c (length bytes)) ≡ outside (left_of bytes c)
outside_left bytes c =
    left_same _ _ refl refl refl (take_rest bytes (c.end + length (closing c.context))) (drop_of_length-le bytes {i = length bytes + 0} (omega arith))

outside_valid : (bytes : List ℕ) (c : Cursor) → IsCursor bytes c → c.next ≡ c.end → IsCursor bytes (outside_cursor c (length bytes))
outside_valid bytes c v e =
    let within : c.end + length (closing c.context) ≤ length bytes = v.within in
    let line : c.at.line ≤ c.next + 1 = v.line in
    let col : c.at.col ≤ c.next + 1 = v.col in
    record { ordered = within; within = omega arith; code = λ h. refl; line = omega arith; col = omega arith }

outside_less : (bytes : List ℕ) (c : Cursor) → c.next ≡ c.end → is_inside c.context ≡ true → moves_left bytes (outside_cursor c (length bytes)) < moves_left bytes c
outside_less bytes c e i =
    let w : cond {A = ℕ} (is_inside c.context) 1 0 ≡ 1 = ap (λ b. cond b 1 0) i in omega arith

pub step_at_end_is : (bytes : List ℕ) (c : Cursor) → IsCursor bytes c → c.next ≡ c.end → IsStep bytes c (step_at_end c (length bytes))
step_at_end_is bytes c v e = by_context c.context c.fresh c.at c.next c.end v e
  where
    nothing : (c : Cursor) → c.next ≡ c.end → take (c.end - c.next) (drop c.next bytes) ≡ []
    nothing c e = let none : c.end - c.next ≡ 0 = omega arith in rw none refl

    closes : (c : Cursor) → IsCursor bytes c → c.next ≡ c.end → is_inside c.context ≡ true →
        gives (token CloseAnnotation c.at) (outside (left_of bytes c)) ≡ move_at_end c.context (left_of bytes c) →
        IsNext bytes c (outside_cursor c (length bytes)) (gives (token CloseAnnotation c.at) (left_of bytes (outside_cursor c (length bytes))))
    closes c v e i h = record {
      move = is_end (left_of bytes c) _ (nothing c e) (ap (gives (token CloseAnnotation c.at)) (outside_left bytes c) ∙ h);
      valid = outside_valid bytes c v e;
      less = outside_less bytes c e i;
    }

    by_context : (x : Context) (fresh : Bool) (at : Span) (next end : ℕ) → IsCursor bytes (record { context = x; fresh = fresh; at = at; next = next; end = end }) →
        next ≡ end → IsStep bytes (record { context = x; fresh = fresh; at = at; next = next; end = end })
        (step_at_end (record { context = x; fresh = fresh; at = at; next = next; end = end }) (length bytes))
    by_context Code fresh at next end v e =
        is_end (left_of bytes (record { context = Code; fresh = fresh; at = at; next = next; end = end })) ends
        (nothing (record { context = Code; fresh = fresh; at = at; next = next; end = end }) e) refl
    by_context LineAnnotation fresh at next end v e = closes (record { context = LineAnnotation; fresh = fresh; at = at; next = next; end = end }) v e refl refl
    by_context BlockAnnotation fresh at next end v e = closes (record { context = BlockAnnotation; fresh = fresh; at = at; next = next; end = end }) v e refl refl
