-- Extents that are equal where they are small: the code's numbers stay where they are greatest, and those of types end at 2^62.
use Rattle.std.specs.Prelude.{ℕ, ◌≡◌, ◌≤◌, ◌^◌, Option, None, Some, option_map}
use Rattle.c_types.specs.Types.{Extent}
use Rattle.c_types.specs.Views.{extent_of}
use Rattle.c_types.specs.declared.ctype.Extent.{Extent as CodeExtent}

abbrev pub extent_option : Option CodeExtent → Option Extent
extent_option e = option_map extent_of e

-- an alignment that a type may have
pub record IsAlignment (n : ℕ) : Type 0 where
  pub least : 1 ≤ n
  pub greatest : n ≤ 8

abbrev pub AllAligned : Option Extent → Type 0
AllAligned None = Unit {0}
AllAligned (Some e) = IsAlignment e.align

-- f is e, where e's size is at most 2^62
pub record AgreesExtent (e f : Extent) : Type 0 where
  pub align : f.align ≡ e.align
  pub size : e.size ≤ 2 ^ 62 → f.size ≡ e.size

abbrev pub Agrees : Option Extent → Option Extent → Type 0
Agrees None None = Unit {0}
Agrees None (Some f) = ⊥
Agrees (Some e) None = ⊥
Agrees (Some e) (Some f) = AgreesExtent e f
