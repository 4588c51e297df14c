-- What two values have in common.
use Rattle.std.specs.Prelude.{ℕ, ◌^◌, nat_lt, Bool, true, cond, ◌&&◌, List, [], ◌∷◌, ◌++◌, filter, ℤ, pos, neg_ℤ, int_le, Option, None, Some}
use Rattle.std.specs.List.{list_all}
use Rattle.ival_core.specs.declared.value.Shape.{Shape}
use Rattle.ival_core.specs.declared.value.Ival.{Ival}
use Rattle.ival_core.specs.Views.{bounds_of}
use Rattle.ival_arith.specs.Kinds.{holds_number}
use Rattle.ival_plain.specs.Least.{least_shape}
use Rattle.ival_plain.proofs.Least.{least_valid}
use Rattle.avalue_base.specs.Numbers.{is_empty, is_empty_list, list_of}
use Rattle.avalue_base.specs.Values.{Address, AVal, Separate, Mixed, Cellv, base_of}

-- the least set of given numbers
unfoldable pub least_of : List ℤ → Ival
least_of ns = record { shape = least_shape ns; valid = least_valid ns }

-- the numbers of a shape, as a set
unfoldable pub set_of : Shape → Ival
set_of s = least_of (list_of s)

-- the numbers of both
unfoldable pub meet_of : Ival → Ival → Ival
meet_of a b = least_of (filter (holds_number b.shape) (list_of a.shape))

-- all lie from -2^62 to 2^62
abbrev pub lies_near : Option (ℤ × ℤ) → Bool
lies_near None = true
lies_near (Some ends) = int_le (neg_ℤ (pos (2 ^ 62))) ends.0 && int_le ends.1 (pos (2 ^ 62))

-- so do all offsets of a value
abbrev pub has_near_offsets : AVal → Bool
has_near_offsets (Separate numbers addresses) = list_all (λ (a : Address). lies_near (bounds_of a.offsets.shape)) addresses
has_near_offsets (Mixed bases) = true

-- The offsets of both. Two offsets give one address where they differ by a multiple of the pointer's range, so far ones are not told apart.
abbrev pub met_offsets : Ival → Ival → Ival
met_offsets a b = cond (lies_near (bounds_of a.shape) && lies_near (bounds_of b.shape)) (meet_of a b) a

-- the addresses of both, which have one base, if there are any
abbrev pub some_offsets : ℕ → Ival → Option Address
some_offsets base offsets = cond (is_empty offsets.shape) None (Some (record { base = base; offsets = offsets }))

abbrev pub met_address : Address → Address → Option Address
met_address a b = some_offsets a.base (met_offsets a.offsets b.offsets)

abbrev pub kept : {X : Type 0} → Option X → List X → List X
kept None xs = xs
kept (Some x) xs = x ∷ xs

module _ {X Y : Type 0} (key : X → ℕ) (other_key : Y → ℕ) (picked : X → Y → Option X) where
  -- what x and the element of ys with its key have in common, and more behind that one
  unfoldable pub common_from : X → (List Y → List X) → List Y → List X
  common_from x more [] = []
  common_from x more (y ∷ ys) = cond (nat_lt (other_key y) (key x)) (common_from x more ys) (cond (nat_lt (key x) (other_key y)) (more (y ∷ ys)) (kept (picked x y) (more ys)))

  -- what two ascending lists have in common
  unfoldable pub common : List X → List Y → List X
  common [] ys = []
  common (x ∷ xs) ys = common_from x (common xs) ys

-- the addresses with one of the bases
abbrev pub addresses_in : List Address → List ℕ → List Address
addresses_in addresses bases = common base_of (λ b. b) (λ a b. Some a) addresses bases

-- a mix of bases, where there are any
abbrev pub mix_or : AVal → List ℕ → AVal
mix_or v bases = cond (is_empty_list bases) v (Mixed bases)

-- A mix allows all numbers that were made from no address. What two mixes without a common base have in common are these alone, which only a
-- mix tells: the first one stays.
abbrev pub meet_values : AVal → AVal → AVal
meet_values (Separate ns addresses) (Separate ms bs) = Separate (meet_of ns ms) (common base_of base_of met_address addresses bs)
meet_values (Separate ns addresses) (Mixed bases) = Separate ns (addresses_in addresses bases)
meet_values (Mixed bases) (Separate ms bs) = Separate ms (addresses_in bs bases)
meet_values (Mixed bases) (Mixed others) = mix_or (Mixed bases) (common (λ b. b) (λ b. b) (λ a b. Some a) bases others)

-- the values of both, and the flags of both
abbrev pub meet : Cellv → Cellv → Cellv
meet c d = record { value = meet_values c.value d.value; uninit = c.uninit && d.uninit; dead = c.dead && d.dead }
