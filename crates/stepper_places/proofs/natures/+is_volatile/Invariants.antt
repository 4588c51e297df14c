use Rattle.stepper_places.specs.Depths.{depth}
use Rattle.stepper_shapes.specs.Views.{place_of}
use Rattle.stepper_places.proofs.natures.+is_volatile.Given as goal

abbrev pub decreases-is_volatile : goal.decreases-is_volatile
decreases-is_volatile l = depth (place_of l.place)
