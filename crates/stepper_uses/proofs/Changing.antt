-- Conversions of what is held, by whether the type is a scalar one.
use Rattle.std.proofs.Common.{◌≡◌, Option, None, Some, refl}
use mathlib.Core.Path.{fun_ext}
use Rattle.c_memory.specs.declared.scalar.Scalar.{Scalar}
use Rattle.c_memory.specs.Layouts.{Layout}
use Rattle.c_types.specs.Types.{CType, Void, Integer, Pointer, Array, Composite, Function, scalar_of}
use Rattle.c_machine.specs.Machine.{State, Held, Outcome, Goes, holding, used, with_change_of_type, with_conversion}
use Rattle.stepper_uses.specs.Changes.{kept_as}

by_scalar : (l : Layout) (t : CType) (type : Scalar) (h : Held) (s : State) → Some type ≡ scalar_of t → with_conversion l t s (used h) ≡ with_change_of_type l t s h
by_scalar l Void type h s e = absurd (cc)
by_scalar l (Integer kind) type h s e = refl
by_scalar l (Pointer to) type h s e = refl
by_scalar l (Array of n) type h s e = absurd (cc)
by_scalar l (Composite n) type h s e = absurd (cc)
by_scalar l (Function result params variadic) type h s e = absurd (cc)

by_other : (l : Layout) (t : CType) (h : Held) (s : State) → None ≡ scalar_of t → Goes (holding (kept_as t h) s) ≡ with_change_of_type l t s h
by_other l Void h s e = refl
by_other l (Integer kind) h s e = absurd (cc)
by_other l (Pointer to) h s e = absurd (cc)
by_other l (Array of n) h s e = refl
by_other l (Composite n) h s e = refl
by_other l (Function result params variadic) h s e = refl

pub scalar_changes : (l : Layout) (t : CType) (type : Scalar) (h : Held) → Some type ≡ scalar_of t → ◌≡◌ {A = State → Outcome} (λ s. with_conversion l t s (used h)) (λ s. with_change_of_type l t s h)
scalar_changes l t type h e = fun_ext (λ s. by_scalar l t type h s e)

pub other_changes : (l : Layout) (t : CType) (h k : Held) → None ≡ scalar_of t → k ≡ kept_as t h → ◌≡◌ {A = State → Outcome} (λ s. Goes (holding k s)) (λ s. with_change_of_type l t s h)
other_changes l t h k e same = rw same (fun_ext (λ s. by_other l t h s e))
