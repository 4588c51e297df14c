use Rattle.std.proofs.Common.{◌<◌, length, refl, arith}
use Rattle.c_tree.specs.Views.{suffix_tree}
use Rattle.c_parse_attributes.proofs.code.Narrowing.{narrowed, function_plain, function_variadic}
use Rattle.c_parse_declarators.proofs.suffixes.function_of.Goals as goal

pub returns-in-None : goal.returns-in-None
returns-in-None c = record {
  found = λ d known. narrowed suffix_tree _ _ known known known _ _ _ (c.closed_at.ensures.found known)
      (function_plain d c.args.span _ _ (c.in-None.ensures.found d)) refl (omega arith);
}

pub returns-in-Some : goal.returns-in-Some
returns-in-Some c =
    let shorter : length c.in-Some.rest.now < length c.args.parameters.rest.now = c.in-Some.ensures.shorter in record {
      found = λ d known. narrowed suffix_tree _ _ known known known _ _ _ (c.closed_at-in-Some.ensures.found known)
          (function_variadic d c.args.span _ _ _ (c.in-Some.ensures.found d)) refl (omega arith);
    }
