-- Sums of the numbers of two sets.
use Rattle.std.specs.Prelude.{◌*◌, Bool, cond, ◌&&◌, ℤ, pos, neg_ℤ, ◌+ℤ◌, int_le, int_lt, List, [], ◌∷◌}
use Rattle.ival_core.specs.declared.value.Progression.{Progression}
use Rattle.ival_core.specs.declared.value.Shape.{Shape}
use Rattle.ival_core.specs.declared.value.Shape.TheVariants.{Few, Many}
use Rattle.ival_core.specs.Sets.{steps_from}
use Rattle.ival_core.specs.Joined.{gcd, joined}
use Rattle.ival_arith.specs.declared.pieces.Change.TheVariants.{Plus}
use Rattle.ival_arith.specs.Pieces.{none, all_changed, clipped, run_clipped}

-- with the sums of the numbers of s and each of ys that lie from lo to hi
unfoldable pub sums_onto : ℤ → ℤ → Shape → Shape → List ℤ → Shape
sums_onto lo hi all s [] = all
sums_onto lo hi all s (y ∷ ys) = sums_onto lo hi (joined all (clipped lo hi (all_changed (Plus y) s))) s ys

-- the least run round all sums of two runs
unfoldable pub sum_hull : Progression → Progression → Progression
sum_hull p q = record { low = p.low +ℤ q.low; high = p.high +ℤ q.high; stride = gcd p.stride q.stride }

-- only the first 8 numbers of each run have sums up to hi, and none is below lo
abbrev pub starts_low : ℤ → ℤ → Progression → Progression → Bool
starts_low lo hi p q =
    int_le lo (p.low +ℤ q.low) && (int_lt hi ((p.low +ℤ q.low) +ℤ pos (8 * p.stride)) && int_lt hi ((p.low +ℤ q.low) +ℤ pos (8 * q.stride)))

-- the first 8 numbers and the last 8 numbers
abbrev pub firsts : Progression → List ℤ
firsts p = steps_from p.low p.stride 8

abbrev pub lasts : Progression → List ℤ
lasts p = steps_from (p.high +ℤ neg_ℤ (pos (7 * p.stride))) p.stride 8

-- only the last 8 numbers of each run have sums from lo on, and none is above hi
abbrev pub ends_high : ℤ → ℤ → Progression → Progression → Bool
ends_high lo hi p q =
    int_le (p.high +ℤ q.high) hi && (int_lt (p.high +ℤ q.high) (lo +ℤ pos (8 * p.stride)) && int_lt (p.high +ℤ q.high) (lo +ℤ pos (8 * q.stride)))

unfoldable pub run_sums : ℤ → ℤ → Progression → Progression → Shape
run_sums lo hi p q =
    cond (starts_low lo hi p q) (sums_onto lo hi none (Few (record { items = firsts p })) (firsts q))
    (cond (ends_high lo hi p q) (sums_onto lo hi none (Few (record { items = lasts p })) (lasts q))
    (run_clipped lo hi (sum_hull p q)))

-- the sums of the numbers of two sets that lie from lo to hi
unfoldable pub sums : ℤ → ℤ → Shape → Shape → Shape
sums lo hi s (Few w) = sums_onto lo hi none s w.items
sums lo hi (Few v) (Many q) = sums_onto lo hi none (Many q) v.items
sums lo hi (Many p) (Many q) = run_sums lo hi p q
