use Rattle.std.proofs.Common.{ap, sym, ◌∙◌}
use Rattle.avalue_base.specs.Values.{base_of}
use Rattle.avalue_base.specs.Deaths.{without as left_out}
use Rattle.avalue_values.specs.Views.{value_of}
use Rattle.avalue_values.proofs.Values.{without_sound, without_mix, left_same}
use Rattle.avalue_values.proofs.value.AVal.left_of.Goals as goal

pub separate-requires : goal.separate-requires
separate-requires c = record {
  sound = without_sound c.in-Addresses.numbers c.copy-in-Addresses.result c.args.base.0 c.in-Addresses.list.items c.in_ok-without-in-Addresses.field-0.items (value_of c.self.inside.content) c.self.invariant
      (ap value_of c.in-Addresses.is) (c.in_ok-without-in-Addresses.ensures ∙ ap (left_out base_of c.args.base.0) c.as_slice.ensures);
}

pub mix_or_words-requires : goal.mix_or_words-requires
mix_or_words-requires c =
    without_mix c.args.base.0 c.in-Mix.list.items c.in_ok-without-in-Mix.field-0.items (value_of c.self.inside.content) c.self.invariant
    (ap value_of c.in-Mix.is) (c.in_ok-without-in-Mix.ensures ∙ ap (left_out (λ b. b) c.args.base.0) c.as_slice-in-Mix.ensures)

pub returns-in_ok-without-in-Addresses : goal.returns-in_ok-without-in-Addresses
returns-in_ok-without-in-Addresses c =
    left_same c.args.base.0 c.args.self.now c.separate.result c.in-Addresses.numbers c.copy-in-Addresses.result c.in-Addresses.list.items c.as_slice.result.now c.in_ok-without-in-Addresses.field-0.items
    (sym c.self.view_is ∙ ap value_of c.in-Addresses.is) c.copy-in-Addresses.ensures c.as_slice.ensures c.in_ok-without-in-Addresses.ensures c.separate.ensures
