-- Reading what stands between quotes, from the left.
use Rattle.std.proofs.Common.{◌≡◌, ℕ, zero, suc, ◌+◌, ◌<◌, ◌≤◌, ◌==◌, true, false, List, [], ◌∷◌, ◌++◌, length, get_or, drop, Some, None, refl, sym, ◌∙◌, ap, arith, drop-cons, drop-drop, length-drop, drop_of_length-le, append_assoc, append-nil}
use Rattle.c_lex.specs.declared.text.Contents.{Contents}
use Rattle.c_lex.specs.declared.text.Contents.TheVariants.{Bytes, WrongAt}
use Rattle.c_lex.specs.declared.text.Escaped.{Escaped}
use Rattle.c_lex.specs.Texts.{simple, escape, prepend, with_escape, contents}

contents_skip : (k at : ℕ) (bs : List ℕ) → contents k at bs ≡ contents 0 (at + k) (drop k bs)
unfolding contents
contents_skip zero at [] = refl
contents_skip zero at (b ∷ bs) = let same : at ≡ at + 0 = omega arith in ap (λ n. contents 0 n (b ∷ bs)) same
contents_skip (suc k) at [] = refl
contents_skip (suc k) at (b ∷ bs) =
    let same : suc at + k ≡ at + suc k = omega arith in contents_skip k (suc at) bs ∙ ap (λ n. contents 0 n (drop k bs)) same

-- bytes before what comes
unfoldable pub prepend_all : List ℕ → Contents → Contents
prepend_all done (Bytes more) = Bytes (done ++ more)
prepend_all done (WrongAt n) = WrongAt n

-- `done` has been read of the text, and the bytes from an index on are left
pub record ReadsContents (text done : List ℕ) (next : ℕ) : Type 0 where
  pub within : next ≤ length text
  pub reads : (whole : Contents) → prepend_all done (contents 0 next (drop next text)) ≡ whole → contents 0 0 text ≡ whole

all_one : (done : List ℕ) (b : ℕ) (o : Contents) → prepend_all done (prepend b o) ≡ prepend_all (done ++ b ∷ []) o
unfolding prepend_all
all_one done b (Bytes more) = ap Bytes (sym (append_assoc done (b ∷ []) more))
all_one done b (WrongAt n) = refl

at_front : (text : List ℕ) (next : ℕ) → next < length text → contents 0 next (drop next text) ≡ contents 0 next (get_or text next 0 ∷ drop (next + 1) text)
at_front text next h = let one : next + 1 ≡ suc next = omega arith in rw (one, drop-cons text next 0) refl

plain_front : (at b : ℕ) (bs : List ℕ) → (b == 92) ≡ false → contents 0 at (b ∷ bs) ≡ prepend b (contents 0 (suc at) bs)
unfolding contents
plain_front at b bs h = rw h refl

escape_front : (at b : ℕ) (bs : List ℕ) → (b == 92) ≡ true → contents 0 at (b ∷ bs) ≡ with_escape at (λ n. contents n (suc at) bs) (escape bs)
unfolding contents
escape_front at b bs h = rw h refl

pub reads_plain : (text done : List ℕ) (next : ℕ) → next < length text → (get_or text next 0 == 92) ≡ false → ReadsContents text done next →
    ReadsContents text (done ++ get_or text next 0 ∷ []) (next + 1)
reads_plain text done next h plain k = record {
  within = omega arith;
  reads = λ whole e.
      let one : suc next ≡ next + 1 = omega arith in
      k.reads whole
      (ap (prepend_all done) (at_front text next h ∙ plain_front next (get_or text next 0) (drop (next + 1) text) plain ∙ ap (λ n. prepend (get_or text next 0) (contents 0 n (drop (next + 1) text))) one)
      ∙ all_one done (get_or text next 0) (contents 0 (next + 1) (drop (next + 1) text)) ∙ e);
}

pub escape_step : (text done : List ℕ) (next : ℕ) (e : Escaped) (behind : List ℕ) → next < length text → (get_or text next 0 == 92) ≡ true →
    behind ≡ drop (next + 1) text → Some e ≡ escape behind → e.length ≤ length behind → ReadsContents text done next →
    ReadsContents text (done ++ e.value ∷ []) (next + (1 + e.length))
escape_step text done next e behind h slash same f fit k =
    let fits : e.length ≤ length (drop (next + 1) text) = rw (← same) fit in
    let is : escape (drop (next + 1) text) ≡ Some e = ap escape (sym same) ∙ sym f in
    let front = at_front text next h ∙ escape_front next (get_or text next 0) (drop (next + 1) text) slash in
    let found : contents 0 next (drop next text) ≡ prepend e.value (contents e.length (suc next) (drop (next + 1) text)) = front ∙ rw is refl in
    let sum : suc next + e.length ≡ next + (1 + e.length) = omega arith in
    let sum' : next + 1 + e.length ≡ next + (1 + e.length) = omega arith in
    let rest : contents e.length (suc next) (drop (next + 1) text) ≡ contents 0 (next + (1 + e.length)) (drop (next + (1 + e.length)) text) =
    contents_skip e.length (suc next) (drop (next + 1) text) ∙ ap (λ n. contents 0 n (drop e.length (drop (next + 1) text))) sum
    ∙ ap (contents 0 (next + (1 + e.length))) (drop-drop e.length (next + 1) text ∙ ap (λ n. drop n text) sum') in
    record {
      within = omega (arith, length-drop (next + 1) text);
      reads = λ whole w.
          k.reads whole
          (ap (prepend_all done) (found ∙ ap (prepend e.value) rest) ∙ all_one done e.value (contents 0 (next + (1 + e.length)) (drop (next + (1 + e.length)) text)) ∙ w);
    }

pub escape_wrong : (text done : List ℕ) (next : ℕ) (behind : List ℕ) → next < length text → (get_or text next 0 == 92) ≡ true →
    behind ≡ drop (next + 1) text → None ≡ escape behind → ReadsContents text done next → WrongAt next ≡ contents 0 0 text
unfolding prepend_all
escape_wrong text done next behind h slash same f k =
    let is : escape (drop (next + 1) text) ≡ None = ap escape (sym same) ∙ sym f in
    let front = at_front text next h ∙ escape_front next (get_or text next 0) (drop (next + 1) text) slash in
    let found : contents 0 next (drop next text) ≡ WrongAt next = front ∙ rw is refl in
    sym (k.reads (WrongAt next) (ap (prepend_all done) found))

pub reads_all : (text done : List ℕ) (next : ℕ) → length text ≤ next → ReadsContents text done next → Bytes done ≡ contents 0 0 text
unfolding contents prepend_all
reads_all text done next h k =
    let none : drop next text ≡ [] = drop_of_length-le text {i = next} h in
    let found : contents 0 next (drop next text) ≡ Bytes [] = rw none refl in
    sym (k.reads (Bytes done) (ap (prepend_all done) found ∙ ap Bytes (append-nil done)))

pub begun : (text : List ℕ) → ReadsContents text [] 0
unfolding prepend_all
begun text = record { within = omega arith; reads = λ whole e. same (contents 0 0 text) ∙ e }
  where
    same : (o : Contents) → o ≡ prepend_all [] o
    same (Bytes more) = refl
    same (WrongAt n) = refl

pub escape_within : (text : List ℕ) (v : ℕ) → simple (get_or text 0 0) ≡ Some v → 1 ≤ length text
unfolding simple
escape_within [] v e = absurd (cc)
escape_within (b ∷ bs) v e = omega arith
