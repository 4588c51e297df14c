use Rattle.first_analysis.proofs.Truths.{le_possible, eq_possible, ne_possible}
use Rattle.first_analysis.proofs.evaluation.comparison.Goals as goal

pub returns-in-Le : goal.returns-in-Le
returns-in-Le c = rw c.in-Le.is (λ m n in_a in_b. le_possible _ _ m n c.negation.ensures (c.order-in-Le.ensures n m in_b in_a))

pub returns-in-Ge : goal.returns-in-Ge
returns-in-Ge c = rw c.in-Ge.is (λ m n in_a in_b. le_possible _ _ n m c.negation-in-Ge.ensures (c.order-in-Ge.ensures m n in_a in_b))

pub returns-in-Eq : goal.returns-in-Eq
returns-in-Eq c = rw c.in-Eq.is (λ m n in_a in_b. eq_possible _ m n (λ e. c.equality.ensures.equal m in_a (rw e in_b)) (λ apart. c.equality.ensures.apart m n in_a in_b apart))

pub returns-in-Ne : goal.returns-in-Ne
returns-in-Ne c = rw c.in-Ne.is (λ m n in_a in_b. ne_possible _ _ m n c.negation-in-Ne.ensures (λ e. c.equality-in-Ne.ensures.equal m in_a (rw e in_b)) (λ apart. c.equality-in-Ne.ensures.apart m n in_a in_b apart))
