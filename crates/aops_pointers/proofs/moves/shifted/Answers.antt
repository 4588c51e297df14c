use Rattle.std.proofs.Common.{sym, subst, ◌∙◌, ap, map, ℤ}
use Rattle.std.specs.Option.{option_copied}
use Rattle.std.proofs.lemmas.Result.{IfOk-weaker}
use Rattle.aops.specs.Soles.{IsAlone}
use Rattle.c_pointers.specs.Conversions.{address_number}
use Rattle.ival_core.specs.Ivals.{Holds}
use Rattle.avalue_base.specs.Meaning.{Means}
use Rattle.aops_pointers.specs.Moves.{at_number, moved_address, summed}
use Rattle.aops_pointers.proofs.Moving.{moved_sound, separate_means}
use Rattle.aops_pointers.proofs.Sole.{stay_single, separate_alone}
use Rattle.aops_pointers.proofs.moves.shifted.Goals as goal

pub separate-requires : goal.separate-requires
separate-requires c = record {
  sound = moved_sound c.args.back c.args.steps.now c.addresses.result.now c.addresses-in-Some.result.now c.in_ok-addresses-in-Some.addresses.items (c.addresses-in-Some.ensures.value ∙ sym c.addresses.ensures.value) c.in_ok-addresses-in-Some.ensures
      c.addresses.ensures.order c.addresses.ensures.offsets (sym c.stay_near.ensures ∙ c.if-not-stay_near.false) c.requires.some;
}

pub returns-in_ok-addresses-in-Some-clause-holds : goal.returns-in_ok-addresses-in-Some-clause-holds
returns-in_ok-addresses-in-Some-clause-holds c l x k h m i =
    subst (λ z. Means l z (at_number l.machine (summed c.args.back x.number k) x)) (sym c.separate.ensures)
    (separate_means c.args.back c.args.steps.now l c.args.a.now c.in-Some.numbers.now c.moved_numbers.result c.addresses.result.now c.in_ok-addresses-in-Some.addresses.items x k
    (sym c.numbers.ensures ∙ ap option_copied c.in-Some.is) c.addresses.ensures.value (c.in_ok-addresses-in-Some.ensures ∙ ap (map (moved_address c.args.back c.args.steps.now)) (c.addresses-in-Some.ensures.value ∙ sym c.addresses.ensures.value)) (sym c.stay_near.ensures ∙ c.if-not-stay_near.false)
    (subst (λ z. (n : ℤ) → Holds c.in-Some.numbers.now n → Holds c.moved_numbers.result (address_number z (summed c.args.back n k))) (sym h) (λ n j. c.moved_numbers.ensures.holds n k j i)) i m)

pub returns-then-not-stay_near-clause-alone : goal.returns-then-not-stay_near-clause-alone
returns-then-not-stay_near-clause-alone c =
    IfOk-weaker c.of_bases.result _ _
    (λ v e. λ l k s o n.
    absurd (stay_single c.args.back c.args.steps.now k o c.args.a.now c.in-Some.numbers.now c.addresses.result.now (sym c.numbers.ensures ∙ ap option_copied c.in-Some.is) c.addresses.ensures.value s n (sym c.stay_near.ensures ∙ c.if-not-stay_near.true)))
    c.of_bases.ensures.value

pub returns-in_ok-addresses-in-Some-clause-alone : goal.returns-in_ok-addresses-in-Some-clause-alone
returns-in_ok-addresses-in-Some-clause-alone c l k s o n =
    subst (IsAlone l) (sym c.separate.ensures)
    (separate_alone c.args.back c.args.steps.now k o c.args.m l c.args.a.now c.in-Some.numbers.now c.moved_numbers.result c.addresses.result.now c.in_ok-addresses-in-Some.addresses.items
    (sym c.numbers.ensures ∙ ap option_copied c.in-Some.is) c.addresses.ensures.value (c.in_ok-addresses-in-Some.ensures ∙ ap (map (moved_address c.args.back c.args.steps.now)) (c.addresses-in-Some.ensures.value ∙ sym c.addresses.ensures.value)) s n
    (λ i p h. c.moved_numbers.ensures.single i k p o h) c.moved_numbers.ensures.none)
