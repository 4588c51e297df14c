-- What a text makes of a state, byte by byte, and where a piece is longest.
use Rattle.std.proofs.Common.{◌≡◌, ℕ, zero, suc, ◌+◌, ◌==◌, Bool, IsTrue, List, [], ◌∷◌, ◌++◌, length, get_or, take, drop, Option, Some, None, option_and_then, refl, ◌∙◌, ap, arith, length-append}
use Rattle.c_lex.specs.declared.state.Context.{Context}
use Rattle.c_lex.specs.declared.state.State.{State}
use Rattle.c_lex.specs.declared.state.State.TheVariants.{Start}
use Rattle.c_lex.specs.Pieces.{step, accepts, reached}
use Rattle.c_lex.specs.Laws.{IsFront}
use Rattle.c_lex.proofs.Longest.{never_after}

-- what the bytes of a text, before a rest, make of a state
abbrev pub walk : Context → State → List ℕ → List ℕ → Option State
walk c s [] rest = Some s
walk c s (b ∷ bs) rest = option_and_then (λ t. walk c t bs rest) (step c s b (get_or (bs ++ rest) 0 0 == 46))

pub at_drop : (bytes : List ℕ) (n : ℕ) → get_or bytes n 0 ≡ get_or (drop n bytes) 0 0
at_drop [] zero = refl
at_drop [] (suc n) = refl
at_drop (b ∷ bs) zero = refl
at_drop (b ∷ bs) (suc n) = at_drop bs n

drop_next : (bytes : List ℕ) (n b : ℕ) (more : List ℕ) → drop n bytes ≡ b ∷ more → drop (suc n) bytes ≡ more
drop_next [] zero b more e = absurd (cc)
drop_next [] (suc n) b more e = absurd (cc)
drop_next (x ∷ xs) zero b more e = cc
drop_next (x ∷ xs) (suc n) b more e = drop_next xs n b more e

at_next : (bytes : List ℕ) (n b : ℕ) (more : List ℕ) → drop n bytes ≡ b ∷ more → get_or bytes n 0 ≡ b
at_next bytes n b more e = at_drop bytes n ∙ ap (λ xs. get_or xs 0 0) e

-- the state behind one byte more
one_more : (c : Context) (fresh : Bool) (bytes : List ℕ) (n b : ℕ) (more : List ℕ) (s : State) → drop n bytes ≡ b ∷ more → reached c fresh bytes n ≡ Some s →
    reached c fresh bytes (suc n) ≡ step c s b (get_or more 0 0 == 46)
one_more c fresh bytes n b more s e h =
    let x : get_or bytes n 0 ≡ b = at_next bytes n b more e in
    let y : get_or bytes (suc n) 0 ≡ get_or more 0 0 = at_drop bytes (suc n) ∙ ap (λ xs. get_or xs 0 0) (drop_next bytes n b more e) in
    ap (option_and_then (λ s. step c s (get_or bytes n 0) (get_or bytes (suc n) 0 == 46))) h ∙ ap (λ b. step c s b (get_or bytes (suc n) 0 == 46)) x ∙ ap (λ d. step c s b (d == 46)) y

walked : (c : Context) (fresh : Bool) (bytes : List ℕ) (n : ℕ) (text rest : List ℕ) (s t : State) → drop n bytes ≡ text ++ rest → reached c fresh bytes n ≡ Some s →
    walk c s text rest ≡ Some t → reached c fresh bytes (length text + n) ≡ Some t
walked c fresh bytes n [] rest s t e h w = let z : 0 + n ≡ n = omega arith in rw z (h ∙ w)
walked c fresh bytes n (b ∷ bs) rest s t e h w =
    by_step (step c s b (get_or (bs ++ rest) 0 0 == 46)) (one_more c fresh bytes n b (bs ++ rest) s e h) w
    (λ u f w. walked c fresh bytes (suc n) bs rest u t (drop_next bytes n b (bs ++ rest) e) f w)
  where
    by_step : (o : Option State) → reached c fresh bytes (suc n) ≡ o → option_and_then (λ t. walk c t bs rest) o ≡ Some t →
        ((u : State) → reached c fresh bytes (suc n) ≡ Some u → walk c u bs rest ≡ Some t → reached c fresh bytes (length bs + suc n) ≡ Some t) →
        reached c fresh bytes (suc (length bs) + n) ≡ Some t
    by_step None f w k = cc
    by_step (Some u) f w k = let z : length bs + suc n ≡ suc (length bs) + n = omega arith in rw z at (k u f w)

pub walk_reaches : (c : Context) (fresh : Bool) (text rest : List ℕ) (t : State) → walk c (Start fresh) text rest ≡ Some t →
    reached c fresh (text ++ rest) (length text) ≡ Some t
walk_reaches c fresh text rest t w =
    let z : length text + 0 ≡ length text = omega arith in
    rw z at (walked c fresh (text ++ rest) 0 text rest (Start fresh) t refl refl w)

pub take_front : (text rest : List ℕ) → take (length text) (text ++ rest) ≡ text
take_front [] rest = refl
take_front (b ∷ bs) rest = ap (λ xs. b ∷ xs) (take_front bs rest)

pub drop_front : (text rest : List ℕ) → drop (length text) (text ++ rest) ≡ rest
drop_front [] rest = refl
drop_front (b ∷ bs) rest = drop_front bs rest

-- no byte comes with which the piece goes on
abbrev pub Ends : Context → State → List ℕ → Type 0
Ends c s [] = Unit {0}
Ends c s (b ∷ bs) = step c s b (get_or bs 0 0 == 46) ≡ None

pub is_front : (c : Context) (fresh : Bool) (text rest : List ℕ) (s : State) → reached c fresh (text ++ rest) (length text) ≡ Some s → IsTrue (accepts c s) → Ends c s rest →
    IsFront c fresh text rest s
is_front c fresh text [] s h a e = record {
  piece = record { within = omega (arith, length-append text []); made = h; whole = a };
  longest = λ more t l p. let w = p.within in omega (arith, length-append text []);
}
is_front c fresh text (b ∷ bs) s h a e = record {
  piece = record { within = omega (arith, length-append text (b ∷ bs)); made = h; whole = a };
  longest = λ more t l p.
      let none : reached c fresh (text ++ b ∷ bs) (suc (length text)) ≡ None = one_more c fresh (text ++ b ∷ bs) (length text) b bs s (drop_front text (b ∷ bs)) h ∙ e in
      let later : reached c fresh (text ++ b ∷ bs) more ≡ None = never_after c fresh (text ++ b ∷ bs) (suc (length text)) more (omega arith) none in
      let made = p.made in cc;
}

-- the longest piece does not go on to another piece
pub front_ends : (c : Context) (fresh : Bool) (text : List ℕ) (b : ℕ) (bs : List ℕ) (s t : State) → IsFront c fresh text (b ∷ bs) s → step c s b (get_or bs 0 0 == 46) ≡ Some t →
    IsTrue (accepts c t) → ⊥
front_ends c fresh text b bs s t h e a =
    h.longest (suc (length text)) t (omega arith) (record {
      within = omega (arith, length-append text (b ∷ bs));
      made = one_more c fresh (text ++ b ∷ bs) (length text) b bs s (drop_front text (b ∷ bs)) h.piece.made ∙ e;
      whole = a;
    })
