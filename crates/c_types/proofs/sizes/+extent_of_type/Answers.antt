use Rattle.std.proofs.Common.{◌≡◌, ap, sym, ◌∙◌}
use Rattle.c_types.specs.Types as plain
use Rattle.c_types.specs.Sizes as sizes
use Rattle.c_types.specs.Agreeing.{extent_option}
use Rattle.c_types.specs.Views.{type_of, composites_of}
use Rattle.c_types.proofs.Extents.{array_step}
use Rattle.c_types.proofs.Views.{type-Array}
use Rattle.c_types.proofs.sizes.+extent_of_type.Goals as goal

pub returns-in-Array : goal.returns-in-Array
returns-in-Array t c =
    let e : type_of c.args.t.now ≡ plain.Array (type_of c.get.result.now) c.in-Array.count =
    ap type_of c.in-Array.is ∙ type-Array c.in-Array.of c.in-Array.count ∙ ap (λ x. plain.Array (type_of x) c.in-Array.count) (sym c.get.ensures) in
    rw e (array_step c.in-Array.count (sizes.extent (composites_of c.args.c.now) c.args.m (type_of c.get.result.now)) (extent_option c.extent_of_type.result) (extent_option c.repeated.result)
    c.extent_of_type.ensures c.repeated.ensures.value)
