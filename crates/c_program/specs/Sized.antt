-- Each object has the size of its type, at most 2^30 bytes, and a function has one byte.
use Rattle.std.specs.Prelude.{ℕ, ◌^◌, ◌≤◌, ◌≡◌, Option, None, Some}
use Rattle.std.specs.List.{AllByRecursion}
use Rattle.c_types.specs.Types.{Composite', Extent}
use Rattle.c_types.specs.Sizes.{extent, AreSized}
use Rattle.c_program.specs.declared.base.BaseSort.{BaseSort}
use Rattle.c_program.specs.declared.base.BaseSort.TheVariants.{Func}
use Rattle.c_program.specs.Syntax.{Base, Program}

abbrev pub HasSize : Program → Base → Type 0
HasSize p b = by_sort b.sort
  where
    by_extent : Option Extent → Type 0
    by_extent None = ⊥
    by_extent (Some e) = (b.size ≡ e.size) × (b.size ≤ 2 ^ 30)

    by_sort : BaseSort → Type 0
    by_sort Func = b.size ≡ 1
    by_sort sort = by_extent (extent p.composites p.machine b.ctype)

-- no type takes more than 2^60 bytes
abbrev pub IsBounded : Composite' → Type 0
IsBounded c = by_extent c.extent
  where
    by_extent : Option Extent → Type 0
    by_extent None = Unit {0}
    by_extent (Some e) = e.size ≤ 2 ^ 60

pub record IsSized (p : Program) : Type 0 where
  pub composites : AreSized p.composites p.machine
  pub bounded : AllByRecursion IsBounded p.composites
  pub bases : AllByRecursion (HasSize p) p.bases
