-- What the answers `true` and `false` decide.
use Rattle.std.proofs.Common.{◌↔◌, ℤ, true, false, IsTrue, refl}

pub untrue : IsTrue false → ⊥
untrue e = cc

pub always : (P : Type 0) → P → IsTrue true ↔ P
always P p = ((λ _. p), (λ _. refl))

pub never : (P : Type 0) → (P → ⊥) → IsTrue false ↔ P
never P h = ((λ e. absurd (untrue e)), (λ p. absurd (h p)))

-- what P, Q and R hold of the same numbers
pub both_ways : (P Q R : ℤ → Type 0) → ((n : ℤ) → P n ↔ Q n) → ((n : ℤ) → Q n ↔ R n) → (n : ℤ) → P n ↔ R n
both_ways P Q R f g n = ((λ p. (g n).0 ((f n).0 p)), (λ r. (f n).1 ((g n).1 r)))

pub neither : (P Q : ℤ → Type 0) → ((n : ℤ) → P n → ⊥) → ((n : ℤ) → Q n → ⊥) → (n : ℤ) → P n ↔ Q n
neither P Q f g n = ((λ p. absurd (f n p)), (λ q. absurd (g n q)))
