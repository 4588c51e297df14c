-- What `join` answers, as a plain function.
use Rattle.std.specs.Prelude.{◌≡◌, ℕ, zero, suc, ◌+◌, ◌%◌, ◌==◌, ◌&&◌, ◌||◌, nat_lt, Bool, true, false, cond, ℤ, int_le, int_lt, List, [], ◌∷◌, length}
use Rattle.std.specs.Int.{int_min, int_max}
use Rattle.ival_core.specs.declared.value.Progression.{Progression}
use Rattle.ival_core.specs.declared.value.Shape.{Shape}
use Rattle.ival_core.specs.declared.value.Shape.TheVariants.{Few, Many}
use Rattle.ival_core.specs.Sets.{apart}

-- the greatest common divisor by Euclid's steps, at most as many as fuel
unfoldable pub gcd_from : ℕ → ℕ → ℕ → ℕ
gcd_from zero a b = a
gcd_from (suc fuel) a b = cond (b == 0) a (gcd_from fuel b (a % b))

unfoldable pub gcd : ℕ → ℕ → ℕ
gcd a b = gcd_from b a b

-- the least progression round two
unfoldable pub hull : Progression → Progression → Progression
hull p q = record {
  low = int_min p.low q.low;
  high = int_max p.high q.high;
  stride = gcd (gcd p.stride q.stride) (apart p.low q.low);
}

abbrev pub point : ℤ → Progression
point n = record { low = n; high = n; stride = 0 }

-- the least progression round x and xs
unfoldable pub hull_of : ℤ → List ℤ → Progression
hull_of x [] = point x
hull_of x (y ∷ ys) = hull (point x) (hull_of y ys)

unfoldable pub inserted : ℤ → List ℤ → List ℤ
inserted x [] = x ∷ []
inserted x (y ∷ ys) = cond (int_lt x y) (x ∷ y ∷ ys) (cond (int_lt y x) (y ∷ inserted x ys) (y ∷ ys))

-- at most 8 numbers, or the least progression round them
unfoldable pub few_or_hull : List ℤ → Shape
few_or_hull [] = Few (record { items = [] })
few_or_hull (x ∷ xs) = cond (nat_lt 8 (length (x ∷ xs))) (Many (hull_of x xs)) (Few (record { items = x ∷ xs }))

-- a set with one number more
unfoldable pub with_number : Shape → ℤ → Shape
with_number (Few v) x = few_or_hull (inserted x v.items)
with_number (Many p) x = Many (hull p (point x))

unfoldable pub with_numbers : Shape → List ℤ → Shape
with_numbers s [] = s
with_numbers s (x ∷ xs) = with_numbers (with_number s x) xs

-- the least set that holds both
unfoldable pub joined : Shape → Shape → Shape
joined s (Few w) = with_numbers s w.items
joined (Few v) (Many q) = with_numbers (Many q) v.items
joined (Many p) (Many q) = Many (hull p q)
