use Rattle.stepper_places.specs.Depths.{depth}
use Rattle.stepper_shapes.specs.Views.{place_of}
use Rattle.stepper_places.proofs.natures.+is_temporary.Given as goal

abbrev pub decreases-is_temporary : goal.decreases-is_temporary
decreases-is_temporary l = depth (place_of l.place)
