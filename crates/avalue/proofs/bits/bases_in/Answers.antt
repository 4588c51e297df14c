use Rattle.std.proofs.Common.{sym, ◌∙◌, ap}
use Rattle.std.specs.Option.{option_copied}
use Rattle.avalue.proofs.BitParts.{mixes_in, mix_in_addresses, addresses_in_mix, addresses_in_addresses}
use Rattle.avalue.proofs.bits.bases_in.Goals as goal

pub returns-in-None-numbers : goal.returns-in-None-numbers
returns-in-None-numbers c =
    mixes_in c.args.a.now c.args.b.now c.is_all_in.result c.members.result.now c.members-in-None-numbers.result.now
    (sym c.numbers.ensures ∙ ap option_copied c.in-None.is) (sym c.numbers-in-None.ensures ∙ ap option_copied c.in-None-numbers.is)
    c.members.ensures.value c.members-in-None-numbers.ensures.value c.members.ensures.order c.members-in-None-numbers.ensures.order c.is_all_in.ensures

pub returns-in-Some-numbers : goal.returns-in-Some-numbers
returns-in-Some-numbers c =
    mix_in_addresses c.args.a.now c.args.b.now c.is_all_in-in-Some-numbers.result c.in-Some-numbers.field-0.now c.members-in-Some-numbers.result.now c.addresses.result.now
    (sym c.numbers.ensures ∙ ap option_copied c.in-None.is) (sym c.numbers-in-None.ensures ∙ ap option_copied c.in-Some-numbers.is)
    c.members-in-Some-numbers.ensures.value c.addresses.ensures.value c.members-in-Some-numbers.ensures.order c.addresses.ensures.order c.is_all_in-in-Some-numbers.ensures

pub returns-in-None-numbers-2 : goal.returns-in-None-numbers-2
returns-in-None-numbers-2 c =
    addresses_in_mix c.args.a.now c.args.b.now c.is_all_in-in-None-numbers-2.result c.in-Some.field-0.now c.addresses-in-None-numbers-2.result.now c.members-in-None-numbers-2.result.now
    (sym c.numbers.ensures ∙ ap option_copied c.in-Some.is) (sym c.numbers-in-Some.ensures ∙ ap option_copied c.in-None-numbers-2.is)
    c.addresses-in-None-numbers-2.ensures.value c.members-in-None-numbers-2.ensures.value c.addresses-in-None-numbers-2.ensures.order c.members-in-None-numbers-2.ensures.order
    c.is_all_in-in-None-numbers-2.ensures

pub returns-in-Some-numbers-2 : goal.returns-in-Some-numbers-2
returns-in-Some-numbers-2 c =
    addresses_in_addresses c.args.a.now c.args.b.now c.is_all_in-in-Some-numbers-2.result c.in-Some.field-0.now c.in-Some-numbers-2.field-0.now
    c.addresses-in-Some-numbers-2.result.now c.addresses-in-Some-numbers-2-2.result.now
    (sym c.numbers.ensures ∙ ap option_copied c.in-Some.is) (sym c.numbers-in-Some.ensures ∙ ap option_copied c.in-Some-numbers-2.is)
    c.addresses-in-Some-numbers-2.ensures.value c.addresses-in-Some-numbers-2-2.ensures.value c.addresses-in-Some-numbers-2.ensures.order c.addresses-in-Some-numbers-2-2.ensures.order
    c.is_all_in-in-Some-numbers-2.ensures
