use Rattle.std.proofs.Common.{◌≡◌, true, false, sym, subst}
use Rattle.c_base.specs.Operators.{reduced}
use Rattle.avalue_base.specs.Numbers.{is_empty}
use Rattle.c_pointers.specs.Conversions.{address_number}
use Rattle.ival_core.specs.Ivals.{Holds, IsOnly}
use Rattle.aops_pointers.specs.Moves.{summed}
use Rattle.aops_pointers.proofs.Moving.{words_hold}
use Rattle.aops_pointers.proofs.Sole.{sum_single, sum_none, not_none, same_set}
use Rattle.aops_pointers.proofs.moves.moved_numbers.Goals as goal

pub returns-in-None-clause-holds : goal.returns-in-None-clause-holds
returns-in-None-clause-holds c n k h i = subst (λ w. Holds w (address_number c.args.m (summed c.args.back n k))) (sym c.words.ensures) (words_hold c.args.m (summed c.args.back n k))

pub returns-in-None-clause-single : goal.returns-in-None-clause-single
returns-in-None-clause-single c n k p q h = let s = sum_single c.args.back c.args.numbers.now c.args.steps.now c.sum_of.result n k c.sum_of.ensures.value p q h in absurd (not_none c.sum_of.result s.0 c.in-None.is s.1)

pub returns-in-None-clause-none : goal.returns-in-None-clause-none
returns-in-None-clause-none c h = let s = sum_none c.args.back c.args.numbers.now c.args.steps.now c.sum_of.result c.sum_of.ensures.value h in absurd (not_none c.sum_of.result s.0 c.in-None.is s.1)

pub returns-in-Some-clause-single : goal.returns-in-Some-clause-single
returns-in-Some-clause-single c n k p q h =
    let s = sum_single c.args.back c.args.numbers.now c.args.steps.now c.sum_of.result n k c.sum_of.ensures.value p q h in
    subst (λ b. IsOnly c.wrapped.result (reduced false b (summed c.args.back n k))) c.pointer_bits.ensures.value
    (c.wrapped.ensures.single (summed c.args.back n k) (subst (λ z. IsOnly z (summed c.args.back n k)) (same_set c.sum_of.result s.0 c.in-Some.sum c.in-Some.is s.1) s.2))

pub returns-in-Some-clause-none : goal.returns-in-Some-clause-none
returns-in-Some-clause-none c h =
    let s = sum_none c.args.back c.args.numbers.now c.args.steps.now c.sum_of.result c.sum_of.ensures.value h in
    c.wrapped.ensures.none (subst (λ z. is_empty z.shape ≡ true) (same_set c.sum_of.result s.0 c.in-Some.sum c.in-Some.is s.1) s.2)
