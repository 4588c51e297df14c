use Rattle.std.proofs.Common.{◌<◌, length, refl, arith}
use Rattle.c_tree.specs.Views.{specifier_tree}
use Rattle.c_parse_members.proofs.code.Constants.{enum_plain, enum_comma}
use Rattle.c_parse_attributes.proofs.code.Narrowing.{narrowed}
use Rattle.c_parse_members.proofs.enums.enum_of.Goals as goal

pub returns-in-None : goal.returns-in-None
returns-in-None c = record {
  found = λ d old. narrowed specifier_tree _ _ old _ _ _ _ _ (c.enum_closed.ensures.found old)
      (enum_plain d c.args.span _ _ _ c.in-None.ensures.found) refl (omega arith);
}

pub returns-in-Some : goal.returns-in-Some
returns-in-Some c =
    let shorter : length c.in-Some.rest.now < length c.args.enumerators.rest.now = c.in-Some.ensures.shorter in record {
      found = λ d old. narrowed specifier_tree _ _ old _ _ _ _ _ (c.enum_closed-in-Some.ensures.found old)
          (enum_comma d c.args.span _ _ _ _ c.in-Some.ensures.found) refl (omega arith);
    }
