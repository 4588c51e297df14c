-- Places behind bytes.
use Rattle.std.proofs.Common.{◌≡◌, ℕ, suc, ◌+◌, ◌<◌, ◌≤◌, ◌==◌, Bool, true, false, cond, List, length, get_or, drop, refl, sym, ◌∙◌, arith, drop-cons, drop_of_length-le}
use Rattle.c_base.specs.declared.number.Span.{Span}
use Rattle.c_lex.specs.Tokens.{after, after_all}

-- the place behind the bytes up to an index, which is no further than that
pub record IsPlace (at : Span) (bytes : List ℕ) (next : ℕ) (place : Span) : Type 0 where
  pub left : after_all place (drop next bytes) ≡ after_all at bytes
  pub line : place.line ≤ at.line + next
  pub col : place.col ≤ at.col + next

pub place_begun : (at : Span) (bytes : List ℕ) → IsPlace at bytes 0 at
place_begun at bytes = record { left = refl; line = omega arith; col = omega arith }

at_front : (place : Span) (bytes : List ℕ) (i : ℕ) → i < length bytes →
    after_all place (drop i bytes) ≡ after_all (after place (get_or bytes i 0)) (drop (i + 1) bytes)
unfolding after_all
at_front place bytes i h = let one : i + 1 ≡ suc i = omega arith in rw (one, drop-cons bytes i 0) refl

pub within_line : (at : Span) (b line col : ℕ) → at.line ≤ line → at.col ≤ col → ((after at b).line ≤ line + 1) × ((after at b).col ≤ col + 1)
within_line at b line col h k = cases (b == 10)
  where
    place : Bool → Span
    place feed = cond feed (record { line = at.line + 1; col = 1 }) (record { line = at.line; col = at.col + 1 })

    cases : (feed : Bool) → ((place feed).line ≤ line + 1) × ((place feed).col ≤ col + 1)
    cases true = (omega arith, omega arith)
    cases false = (omega arith, omega arith)

pub place_step : (at : Span) (bytes : List ℕ) (i : ℕ) (place there : Span) → i < length bytes → there ≡ after place (get_or bytes i 0) →
    IsPlace at bytes i place → IsPlace at bytes (i + 1) there
place_step at bytes i place there h e p =
    let w = within_line place (get_or bytes i 0) (at.line + i) (at.col + i) p.line p.col in
    let line : (after place (get_or bytes i 0)).line ≤ at.line + i + 1 = w.0 in
    let col : (after place (get_or bytes i 0)).col ≤ at.col + i + 1 = w.1 in
    rw e (record {
      left = sym (at_front place bytes i h) ∙ p.left;
      line = omega arith;
      col = omega arith;
    })

pub place_end : (at : Span) (bytes : List ℕ) (i : ℕ) (place : Span) → length bytes ≤ i → IsPlace at bytes i place → place ≡ after_all at bytes
unfolding after_all
place_end at bytes i place h p = rw (drop_of_length-le bytes {i = i} h) at p.left
