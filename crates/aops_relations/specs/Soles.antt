-- What verdicts on single values tell.
use Rattle.std.specs.Prelude.{◌≡◌, ◌↔◌, IsTrue, IsFalse, [], Result, Ok, Err}
use Rattle.c_base.specs.declared.kind.Kind.{Kind}
use Rattle.c_memory.specs.Layouts.{Layout}
use Rattle.c_memory.specs.Values.{Value}
use Rattle.avalue_base.specs.Values.{Separate}
use Rattle.avalue_base.specs.Meaning.{Means}
use Rattle.aops_relations.specs.declared.comparisons.Verdict.{Verdict}

-- the verdict on one step alone: its result, if it has one, and sure exactly then
pub record IsSoleVerdict (l : Layout) (r : Result Value Kind) (d : Verdict) : Type 0 where
  pub value : (z : Value) → Means l (Separate d.set []) z ↔ (r ≡ Ok z)
  pub sure : IsTrue d.sure → (kind : Kind) → r ≡ Err kind → ⊥
  pub unsure : IsFalse d.sure → (kind : Kind) × (r ≡ Err kind)
