-- The longest piece at the front of some bytes.
use Rattle.std.proofs.Common.{◌≡◌, ℕ, zero, suc, ◌+◌, ◌-◌, ◌<◌, ◌≤◌, ◌==◌, Bool, true, false, cond, IsTrue, List, length, get_or, Option, Some, None, refl, sym, ap, arith, add-one}
use Rattle.c_lex.specs.declared.state.Context.{Context}
use Rattle.c_lex.specs.declared.state.State.{State}
use Rattle.c_lex.specs.declared.cut.Front.{Front}
use Rattle.c_lex.specs.Pieces.{begin, step, accepts, reached, IsPiece, IsLongest}

-- no piece goes on from where none did
never : (c : Context) (fresh : Bool) (bytes : List ℕ) (n more : ℕ) → reached c fresh bytes n ≡ None → reached c fresh bytes (more + n) ≡ None
never c fresh bytes n zero e = let z : 0 + n ≡ n = omega arith in rw z e
never c fresh bytes n (suc more) e =
    let z : suc more + n ≡ suc (more + n) = omega arith in let before = never c fresh bytes n more e in rw z (rw before refl)

pub never_after : (c : Context) (fresh : Bool) (bytes : List ℕ) (n more : ℕ) → n ≤ more → reached c fresh bytes n ≡ None → reached c fresh bytes more ≡ None
never_after c fresh bytes n more h e = let z : (more - n) + n ≡ more = omega arith in rw z at (never c fresh bytes n (more - n) e)

-- `next` bytes have been read and make `state`; the longest piece among the fronts so far is `found`
pub record Going (c : Context) (fresh : Bool) (bytes : List ℕ) (next : ℕ) (state : State) (found : Front) : Type 0 where
  pub within : next ≤ length bytes
  pub made : reached c fresh bytes next ≡ Some state
  pub piece : IsPiece c fresh bytes found.length found.state
  pub some : 0 < found.length
  pub latest : (more : ℕ) (t : State) → found.length < more → more ≤ next → IsPiece c fresh bytes more t → ⊥

pub going_begun : (c : Context) (fresh : Bool) (bytes : List ℕ) (s : State) → 0 < length bytes → s ≡ begin c fresh (get_or bytes 0 0) → IsTrue (accepts c s) →
    Going c fresh bytes 1 s (record { length = 1; state = s })
going_begun c fresh bytes s some e whole = record {
  within = omega arith;
  made = ap Some (sym e);
  piece = record { within = omega arith; made = ap Some (sym e); whole = whole };
  some = omega arith;
  latest = λ more t h k p. absurd (omega arith);
}

-- what the next byte makes
made_next : (c : Context) (fresh : Bool) (bytes : List ℕ) (next : ℕ) (s : State) (o : Option State) → reached c fresh bytes next ≡ Some s →
    o ≡ step c s (get_or bytes next 0) (get_or bytes (next + 1) 0 == 46) → reached c fresh bytes (suc next) ≡ o
made_next c fresh bytes next s o e f = let one : next + 1 ≡ suc next = omega arith in rw e (sym (rw one at f))

pub going_stops : (c : Context) (fresh : Bool) (bytes : List ℕ) (next : ℕ) (s : State) (found : Front) →
    None ≡ step c s (get_or bytes next 0) (get_or bytes (next + 1) 0 == 46) → Going c fresh bytes next s found → IsLongest c fresh bytes found.length found.state
going_stops c fresh bytes next s found e g = record {
  piece = g.piece;
  longest = λ more t h p. by_place more t h p (not_further more t p);
}
  where
    not_further : (more : ℕ) (t : State) → IsPiece c fresh bytes more t → more ≤ next
    not_further more t p =
        let none : reached c fresh bytes (suc next) ≡ None = made_next c fresh bytes next s None g.made e in
        by_order more t p none (suc next - more) (refl)
      where
        by_order : (more : ℕ) (t : State) → IsPiece c fresh bytes more t → reached c fresh bytes (suc next) ≡ None → (d : ℕ) → suc next - more ≡ d → more ≤ next
        by_order more t p none zero q = let later : reached c fresh bytes more ≡ None = never_after c fresh bytes (suc next) more (omega arith) none in
            let made = p.made in absurd (cc)
        by_order more t p none (suc d) q = omega arith

    by_place : (more : ℕ) (t : State) → found.length < more → IsPiece c fresh bytes more t → more ≤ next → ⊥
    by_place more t h p k = g.latest more t h k p

pub going_ends : (c : Context) (fresh : Bool) (bytes : List ℕ) (next : ℕ) (s : State) (found : Front) → length bytes ≤ next →
    Going c fresh bytes next s found → IsLongest c fresh bytes found.length found.state
going_ends c fresh bytes next s found e g = record {
  piece = g.piece;
  longest = λ more t h p. g.latest more t h (let w : more ≤ length bytes = p.within in omega arith) p;
}

pub going_on : (c : Context) (fresh : Bool) (bytes : List ℕ) (next : ℕ) (s t : State) (found then : Front) → next < length bytes →
    Some t ≡ step c s (get_or bytes next 0) (get_or bytes (next + 1) 0 == 46) →
    then ≡ cond (accepts c t) (record { length = next + 1; state = t }) found → Going c fresh bytes next s found → Going c fresh bytes (next + 1) t then
going_on c fresh bytes next s t found then h e f g = rw f (by_test (accepts c t) refl)
  where
    made : reached c fresh bytes (next + 1) ≡ Some t
    made = rw add-one (made_next c fresh bytes next s (Some t) g.made e)

    by_test : (b : Bool) → accepts c t ≡ b → Going c fresh bytes (next + 1) t (cond b (record { length = next + 1; state = t }) found)
    by_test true q = record {
      within = omega arith;
      made = made;
      piece = record { within = omega arith; made = made; whole = rw q refl };
      some = omega arith;
      latest = λ more u a b p. absurd (omega arith);
    }
    by_test false q = record {
      within = omega arith;
      made = made;
      piece = g.piece;
      some = g.some;
      latest = λ more u a b p. by_end more u a b p (next + 1 - more) refl;
    }
      where
        by_end : (more : ℕ) (u : State) → found.length < more → more ≤ next + 1 → IsPiece c fresh bytes more u → (d : ℕ) → next + 1 - more ≡ d → ⊥
        by_end more u a b p zero k =
            let same : more ≡ next + 1 = omega arith in
            let there : reached c fresh bytes (next + 1) ≡ Some u = rw same at p.made in
            let one : t ≡ u = cc (made, there) in
            let w : IsTrue (accepts c t) = rw one p.whole in cc
        by_end more u a b p (suc d) k = g.latest more u a (omega arith) p
