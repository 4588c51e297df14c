-- What the results of sums and tests may be.
use Rattle.std.specs.Prelude.{Bool, true, false, IsTrue, ℤ, Result, Ok, Err}
use Rattle.c_base.specs.declared.kind.Kind.{Kind}
use Rattle.c_base.specs.declared.kind.Kind.TheVariants.{SignedOverflow, Initialization}
use Rattle.first_analysis.specs.Evaluation.{is_true}
use Rattle.first_analysis.specs.declared.evaluation.Kinds.{Kinds}
use Rattle.first_analysis.specs.declared.evaluation.Evaluated.{Evaluated}
use Rattle.first_analysis.specs.declared.evaluation.Truths.{Truths}
use Rattle.first_analysis.specs.declared.evaluation.Tested.{Tested}
use Rattle.first_analysis.specs.Contents.{HoldsNumber}

-- the kind is one of these; int variables, sums and tests have no others
abbrev pub has_kind : Kinds → Kind → Bool
has_kind ks SignedOverflow = ks.overflow
has_kind ks Initialization = ks.initialization
has_kind ks other = false

-- a result is one of the numbers, or the kind of its stop is one of the kinds
abbrev pub Gives : Evaluated → Result ℤ Kind → Type 0
Gives v (Ok n) = HoldsNumber v.range n
Gives v (Err kind) = IsTrue (has_kind v.kinds kind)

-- a truth is one of these
abbrev pub is_possible : Truths → Bool → Bool
is_possible t true = t.may_be_true
is_possible t false = t.may_be_false

-- the same of a test, by its truth
abbrev pub GivesTruth : Tested → Result ℤ Kind → Type 0
GivesTruth t (Ok n) = IsTrue (is_possible t.truths (is_true n))
GivesTruth t (Err kind) = IsTrue (has_kind t.kinds kind)
