use Rattle.std.proofs.Common.{◌≡◌, drop}
use Rattle.c_effects.specs.Images.{pasted}
use Rattle.stepper_values.specs.Views.{layout_of}
use Rattle.stepper_memory.specs.Views.{plain}
use Rattle.stepper_accesses.proofs.scopes.paste.Given as goal

abbrev pub invariant-loop-n : goal.invariant-loop-n
invariant-loop-n l =
    pasted (layout_of l.fn.layout) l.base (drop l.n l.image) (plain l.memory) ≡ pasted (layout_of l.fn.layout) l.base l.image (plain l.initial.memory)
