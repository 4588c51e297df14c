-- Pieces of cells, cells made of two, and what a store leaves.
use Rattle.std.specs.Prelude.{ℕ, ◌==◌, Bool, true, false, cond, ◌&&◌, ◌||◌, not, [], ◌∷◌, map, filter}
use Rattle.c_base.specs.declared.integer.Machine.{Machine}
use Rattle.avalue_base.specs.Lists.{union_of}
use Rattle.avalue_base.specs.Numbers.{is_empty, is_empty_list, no_numbers, part_of, concat_of}
use Rattle.avalue_base.specs.Values.{Address, AVal, Separate, Mixed, Cellv, base_of, bases_of, has_no_value}
use Rattle.avalue_base.specs.Hues.{pointer_bits}

-- bits of an address alone tell only from where they come
abbrev pub value_piece : ℕ → ℕ → AVal → AVal
value_piece low n (Separate numbers []) = Separate (part_of low n numbers) []
value_piece low n (Separate numbers (a ∷ addresses)) = Mixed (map base_of (a ∷ addresses))
value_piece low n (Mixed bases) = Mixed bases

-- n bits of an element of k, from bit `low` on
abbrev pub piece : ℕ → Cellv → ℕ → ℕ → Cellv
piece k c low n = record { value = value_piece low n c.value; uninit = c.uninit; dead = c.dead }

abbrev pub no_value : AVal
no_value = Separate no_numbers []

abbrev pub glue_values : ℕ → AVal → ℕ → AVal → AVal
glue_values j (Separate ns []) k (Separate ms []) = Separate (concat_of j ns k ms) []
glue_values j v k w = Mixed (union_of (bases_of v) (bases_of w))

-- the j bits of c below the k bits of d, as a load reads them: it reads no value where one of them has none
abbrev pub glue : ℕ → Cellv → ℕ → Cellv → Cellv
glue j c k d = record {
  value = cond (has_no_value c.value || has_no_value d.value) no_value (glue_values j c.value k d.value);
  uninit = c.uninit || d.uninit;
  dead = c.dead || d.dead;
}

abbrev pub has_offsets : Address → Bool
has_offsets a = not (is_empty a.offsets.shape)

-- addresses stand in pointers alone, and each has an offset
abbrev pub fit_value : Machine → ℕ → AVal → AVal
fit_value machine k (Separate numbers addresses) =
    cond (is_empty_list (filter has_offsets addresses) || (k == pointer_bits machine))
    (Separate numbers (filter has_offsets addresses))
    (Mixed (map base_of (filter has_offsets addresses)))
fit_value machine k (Mixed bases) = Mixed bases

-- with a flag, if nothing is allowed
abbrev pub flagged : Cellv → Cellv
flagged c = record { value = c.value; uninit = c.uninit || (has_no_value c.value && not c.dead); dead = c.dead }

-- what a store of k bits leaves
abbrev pub fit : Machine → ℕ → Cellv → Cellv
fit machine k c = flagged (record { value = fit_value machine k c.value; uninit = c.uninit; dead = c.dead })

-- it allows nothing
abbrev pub void : Cellv
void = record { value = no_value; uninit = false; dead = false }

-- it is not written
abbrev pub unwritten : Cellv
unwritten = record { value = no_value; uninit = true; dead = false }
