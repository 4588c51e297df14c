-- The order of values and cells, and what is least above two of them.
use Rattle.std.specs.Prelude.{◌==◌, Bool, false, ◌&&◌, ◌||◌, not, List, map}
use Rattle.std.specs.List.{list_any, list_all}
use Rattle.avalue_base.specs.Lists.{merged, union_of, all_among}
use Rattle.avalue_base.specs.Numbers.{lies_in, join_of}
use Rattle.avalue_base.specs.Values.{Address, AVal, Separate, Mixed, Cellv, base_of, bases_of}

-- an address with the base of b and no offset that b lacks
abbrev pub is_part : Address → Address → Bool
is_part a b = (a.base == b.base) && lies_in a.offsets.shape b.offsets.shape

abbrev pub is_among : List Address → Address → Bool
is_among bs a = list_any (is_part a) bs

-- each value of the first is one of the second
abbrev pub value_in : AVal → AVal → Bool
value_in (Separate ns addresses) (Separate ms bs) = lies_in ns.shape ms.shape && list_all (is_among bs) addresses
value_in (Separate ns addresses) (Mixed bases) = all_among (map base_of addresses) bases
value_in (Mixed bases) (Separate ms bs) = false
value_in (Mixed bases) (Mixed others) = all_among bases others

-- a flag of the first is one of the second
abbrev pub implies : Bool → Bool → Bool
implies a b = not a || b

-- the second cell allows what the first one does
abbrev pub leq : Cellv → Cellv → Bool
leq c d = value_in c.value d.value && (implies c.uninit d.uninit && implies c.dead d.dead)

abbrev pub both_addresses : Address → Address → Address
both_addresses a b = record { base = a.base; offsets = join_of a.offsets b.offsets }

abbrev pub united : List Address → List Address → List Address
united addresses bs = merged base_of both_addresses addresses bs

abbrev pub join_values : AVal → AVal → AVal
join_values (Separate ns addresses) (Separate ms bs) = Separate (join_of ns ms) (united addresses bs)
join_values (Separate ns addresses) (Mixed bases) = Mixed (union_of (map base_of addresses) bases)
join_values (Mixed bases) w = Mixed (union_of bases (bases_of w))

abbrev pub join : Cellv → Cellv → Cellv
join c d = record { value = join_values c.value d.value; uninit = c.uninit || d.uninit; dead = c.dead || d.dead }
