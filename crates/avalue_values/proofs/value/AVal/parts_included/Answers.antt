use Rattle.std.proofs.Common.{sym, ◌∙◌, ap}
use Rattle.std.specs.Option.{option_copied}
use Rattle.avalue_values.proofs.Values.{mixes, in_mix, separates}
use Rattle.avalue_values.proofs.value.AVal.parts_included.Goals as goal

pub returns-in-None-numbers : goal.returns-in-None-numbers
returns-in-None-numbers c =
    mixes c.args.self.now c.args.o.now c.is_all_in.result c.members.result.now c.members-in-None-numbers.result.now
    (sym c.numbers.ensures ∙ ap option_copied c.in-None.is) (sym c.numbers-in-None.ensures ∙ ap option_copied c.in-None-numbers.is)
    c.members.ensures.value c.members-in-None-numbers.ensures.value c.members.ensures.order c.members-in-None-numbers.ensures.order c.is_all_in.ensures

pub returns-in-None-numbers-2 : goal.returns-in-None-numbers-2
returns-in-None-numbers-2 c =
    in_mix c.args.self.now c.args.o.now c.is_all_in-in-None-numbers-2.result c.in-Some.numbers.now c.addresses.result.now c.members-in-None-numbers-2.result.now
    (sym c.numbers.ensures ∙ ap option_copied c.in-Some.is) (sym c.numbers-in-Some.ensures ∙ ap option_copied c.in-None-numbers-2.is)
    c.addresses.ensures.value c.members-in-None-numbers-2.ensures.value c.addresses.ensures.order c.members-in-None-numbers-2.ensures.order c.is_all_in-in-None-numbers-2.ensures

pub returns-else-not-is_included : goal.returns-else-not-is_included
returns-else-not-is_included c =
    separates c.args.self.now c.args.o.now c.is_all_in-in-Some-numbers-2.result c.is_included.result c.in-Some.numbers.now c.in-Some-numbers-2.others.now
    c.addresses-in-Some-numbers-2.result.now c.addresses-in-Some-numbers-2-2.result.now
    (sym c.numbers.ensures ∙ ap option_copied c.in-Some.is) (sym c.numbers-in-Some.ensures ∙ ap option_copied c.in-Some-numbers-2.is)
    c.addresses-in-Some-numbers-2.ensures.value c.addresses-in-Some-numbers-2-2.ensures.value c.addresses-in-Some-numbers-2.ensures.order c.addresses-in-Some-numbers-2-2.ensures.order
    c.is_included.ensures c.if-not-is_included.false c.is_all_in-in-Some-numbers-2.ensures
