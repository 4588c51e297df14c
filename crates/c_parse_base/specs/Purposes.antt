-- What the code's readers of types are asked for.
use Rattle.c_tree.specs.WellFormed.{Purpose, ForType, ForParameter, ForName, Before, Untyped, Typed, Braced}
use Rattle.c_parse_base.specs.declared.purpose.Before.{Before as CodeBefore}
use Rattle.c_parse_base.specs.declared.purpose.Before.TheVariants as stands
use Rattle.c_parse_base.specs.declared.purpose.Purpose.{Purpose as CodePurpose}
use Rattle.c_parse_base.specs.declared.purpose.Purpose.TheVariants as asked

abbrev pub purpose_of : CodePurpose → Purpose
purpose_of asked.TypeName = ForType
purpose_of asked.Parameter = ForParameter
purpose_of asked.Member = ForName

abbrev pub before_of : CodeBefore → Before
before_of stands.Untyped = Untyped
before_of stands.Typed = Typed
before_of stands.Braced = Braced
