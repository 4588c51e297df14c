-- Where bases are placed, and what they hold before a run.
use Rattle.std.specs.Prelude.{ℕ, ◌+◌, ◌*◌, false, cond, List, [], ◌∷◌, replicate, Option, None, Some}
use Rattle.c_memory.specs.Layouts.{Layout}
use Rattle.c_memory.specs.Memories.{Memory, with_base}
use Rattle.c_memory.specs.Values.{Cell, Bit, nowhere}
use Rattle.c_program.specs.Syntax.{Base, is_static, Program, IsLayout}
use Rattle.c_program.specs.Packing.{HasRoom}
use Rattle.c_effects.specs.Images.{pasted}
use Rattle.c_typed_stmt.specs.declared.init.ImageItem.{ImageItem}
use Rattle.c_machine.specs.Machine.{first_cells, imaged, image_at}
use Rattle.c_program.specs.declared.program.Base.{Base as CodeBase}
use Rattle.c_program.specs.Views.{base_of}
use Rattle.stepper_values.specs.declared.layout.Object.{Object}
use Rattle.stepper_values.specs.declared.layout.Layout.{Layout as CodeLayout}
use Rattle.stepper_values.specs.Views.{layout_of}

-- the objects of bases one behind the other, from an address on
abbrev pub objects_from : ℕ → List CodeBase → List Object
objects_from at [] = []
objects_from at (b ∷ bs) = record { address = at; size = b.size; readonly = b.readonly } ∷ objects_from (at + b.size) bs

-- a layout of the program, or none where its bases have no room
abbrev pub Packs : Program → Option CodeLayout → Type 0
Packs p None = HasRoom p → ⊥
Packs p (Some l) = IsLayout p (layout_of l)

-- what a base holds before the run
abbrev pub content_of : Layout → Option Base → Option (List Cell)
content_of l b = imaged l (image_at b) (first_cells b)

-- an object that lives as long as the run is 0
abbrev pub zeroed : ℕ → CodeBase → Memory → Memory
zeroed n b m = cond (is_static b.sort) (with_base m n (Some (replicate (8 * b.size) (Bit false nowhere 0)))) m

abbrev pub with_image : Layout → ℕ → Option (List ImageItem) → Memory → Memory
with_image l n None m = m
with_image l n (Some image) m = pasted l n image m

-- the memory in which the base holds what it holds before the run
abbrev pub with_first : Layout → ℕ → CodeBase → Memory → Memory
with_first l n b m = with_image l n b.image (zeroed n b m)
