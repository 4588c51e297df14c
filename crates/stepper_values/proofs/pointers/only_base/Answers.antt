use Rattle.std.proofs.Common.{◌∙◌, refl, sym, ap, length, arith}
use Rattle.stepper_values.specs.Views.{bases_of, layout_of, value_of}
use Rattle.stepper_values.proofs.Bases.{slice_empty, slice_more, slice_far, slice_one}
use Rattle.stepper_values.proofs.pointers.only_base.Goals as goal

pub returns-then-is_empty : goal.returns-then-is_empty
returns-then-is_empty c =
    slice_empty (layout_of c.args.layout.now) (length c.args.layout.now.objects) refl (value_of c.args.value.now) c.as_slice-bases.result.now
    (sym (ap bases_of c.as_slice-bases.ensures)) (sym c.is_empty.ensures ∙ c.if-is_empty.true)

pub returns-then-has_others : goal.returns-then-has_others
returns-then-has_others c =
    slice_more (layout_of c.args.layout.now) (length c.args.layout.now.objects) refl (value_of c.args.value.now) c.as_slice-bases.result.now
    (sym (ap bases_of c.as_slice-bases.ensures)) (sym c.is_empty.ensures ∙ c.if-is_empty.false) (sym c.has_others.ensures ∙ c.if-has_others.true)

pub returns-then-first-len : goal.returns-then-first-len
returns-then-first-len c =
    slice_far (layout_of c.args.layout.now) (length c.args.layout.now.objects) refl (value_of c.args.value.now) c.as_slice-bases.result.now
    (sym (ap bases_of c.as_slice-bases.ensures)) (sym c.is_empty.ensures ∙ c.if-is_empty.false) (sym c.has_others.ensures ∙ c.if-has_others.false) (omega (arith, c.len.ensures))

pub returns : goal.returns
returns c =
    slice_one (layout_of c.args.layout.now) (length c.args.layout.now.objects) refl (value_of c.args.value.now) c.as_slice-bases.result.now
    (sym (ap bases_of c.as_slice-bases.ensures)) (sym c.is_empty.ensures ∙ c.if-is_empty.false) (sym c.has_others.ensures ∙ c.if-has_others.false) (omega (arith, c.len.ensures))
