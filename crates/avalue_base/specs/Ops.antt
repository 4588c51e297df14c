-- Cells as the elements of maps have them.
use Rattle.std.specs.Prelude.{ℕ, ◌≡◌, ◌<◌, ◌≤◌, Bool, true, false, ◌||◌}
use Rattle.std.specs.List.{list_all}
use Rattle.c_base.specs.declared.integer.Machine.{Machine}
use Rattle.cell_laws.specs.Cells.{Ops}
use Rattle.avalue_base.specs.Lists.{AreAscending}
use Rattle.avalue_base.specs.Numbers.{is_empty_list}
use Rattle.avalue_base.specs.Values.{AVal, Separate, Mixed, Cellv, base_of}
use Rattle.avalue_base.specs.Order.{leq, join}
use Rattle.avalue_base.specs.Hues.{Hue, hue, within, unite, blank, admits, bit, has, shade, with_bits, any, fits as fits_in}
use Rattle.avalue_base.specs.Pieces.{piece, glue, has_offsets, fit, void, unwritten}

abbrev pub ops : Machine → Ops Cellv Hue
ops machine = record {
  leq = leq;
  hue = hue;
  within = within;
  unite = unite;
  blank = blank;
  admits = admits;
  bit = bit;
  has = has;
  join = join;
  shade = shade;
  with_bits = with_bits;
  any = any;
  fit = fit machine;
  piece = piece;
  glue = glue;
  void = void;
  uninit = unwritten;
}

abbrev pub have_offsets : AVal → Bool
have_offsets (Separate numbers addresses) = list_all has_offsets addresses
have_offsets (Mixed bases) = true

-- bases ascend, each address has an offset, and a mix has a base
abbrev pub IsSound : AVal → Type 0
IsSound (Separate numbers addresses) = AreAscending base_of addresses × (list_all has_offsets addresses ≡ true)
IsSound (Mixed bases) = AreAscending (λ b. b) bases × (is_empty_list bases ≡ false)

-- the cell may stand in an element of k bits
pub record Fine (machine : Machine) (k : ℕ) (c : Cellv) : Type 0 where
  pub some_bits : 0 < k
  pub few_bits : k ≤ 64
  -- without a value it stands at one bit, and has a flag
  pub blank_bits : blank c ≡ true → k ≡ 1
  pub flag : blank c ≡ true → (c.uninit || c.dead) ≡ true
  -- addresses stand in pointers alone, and each has an offset
  pub fits : fits_in machine k c ≡ true
  pub offsets : have_offsets c.value ≡ true
