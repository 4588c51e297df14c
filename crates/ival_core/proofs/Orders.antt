-- What a comparison of integers that is true or false says.
use Rattle.std.proofs.Common.{◌≡◌, Bool, true, false, ℤ, refl, sym, subst, arith}
use Rattle.std.specs.Prelude.{int_lt, int_le}
use Rattle.std.proofs.lemmas.Int.{ints, by_lt_z}
use lib.Dec.{T}
use lib.Signed.{◌<ℤ◌, ◌≤ℤ◌}

t_from : (b : Bool) → b ≡ true → T b
t_from true e = tt
t_from false e = cc

from_t : (b : Bool) → T b → b ≡ true
from_t true h = refl
from_t false h = absurd h

pub lt_true : (a b : ℤ) → int_lt a b ≡ true → a <ℤ b
lt_true a b e = record { lt = t_from (int_lt a b) e }

pub le_true : (a b : ℤ) → int_le a b ≡ true → a ≤ℤ b
le_true a b e = record { le = t_from (int_le a b) e }

pub true_lt : (a b : ℤ) → a <ℤ b → int_lt a b ≡ true
true_lt a b h = from_t (int_lt a b) h.lt

pub true_le : (a b : ℤ) → a ≤ℤ b → int_le a b ≡ true
true_le a b h = from_t (int_le a b) h.le

clash : (b : Bool) → b ≡ true → b ≡ false → ⊥
clash b e f = cc

pub lt_false : (a b : ℤ) → int_lt a b ≡ false → b ≤ℤ a
lt_false a b e = by_lt_z a b (λ h. absurd (clash (int_lt a b) (true_lt a b h) e)) (λ h. h)

pub le_false : (a b : ℤ) → int_le a b ≡ false → b <ℤ a
le_false a b e = by_lt_z b a (λ h. h) (λ h. absurd (clash (int_le a b) (true_le a b h) e))

pub false_lt : (a b : ℤ) → b ≤ℤ a → int_lt a b ≡ false
false_lt a b h = at (int_lt a b) (λ e. let l = lt_true a b e in omega (arith, ints))
  where
    at : (t : Bool) → (t ≡ true → ⊥) → t ≡ false
    at true f = absurd (f refl)
    at false f = refl

pub false_le : (a b : ℤ) → b <ℤ a → int_le a b ≡ false
false_le a b h = at (int_le a b) (λ e. let l = le_true a b e in omega (arith, ints))
  where
    at : (t : Bool) → (t ≡ true → ⊥) → t ≡ false
    at true f = absurd (f refl)
    at false f = refl
