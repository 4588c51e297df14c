-- Lists that are kept in ascending order of a key, each key once.
use Rattle.std.specs.Prelude.{◌≡◌, ◌⊎◌, ℕ, ◌==◌, nat_lt, ◌<◌, Bool, cond, List, [], ◌∷◌}
use Rattle.std.specs.List.{list_any, list_all}

module _ {X : Type 0} (key : X → ℕ) (both : X → X → X) where
  -- x with more and with ys, where more is what goes on behind x
  unfoldable pub put : X → (List X → List X) → List X → List X
  put x more [] = x ∷ more []
  put x more (y ∷ ys) =
      cond (nat_lt (key x) (key y)) (x ∷ more (y ∷ ys))
      (cond (nat_lt (key y) (key x)) (y ∷ put x more ys) (both x y ∷ more ys))

  -- the elements of two lists; of two elements with one key, both
  unfoldable pub merged : List X → List X → List X
  merged [] ys = ys
  merged (x ∷ xs) ys = put x (merged xs) ys

-- the union of two lists of bases
abbrev pub union_of : List ℕ → List ℕ → List ℕ
union_of xs ys = merged (λ x. x) (λ x y. x) xs ys

abbrev pub has_base : List ℕ → ℕ → Bool
has_base bases b = list_any (λ x. x == b) bases

-- each of xs is one of ys
abbrev pub all_among : List ℕ → List ℕ → Bool
all_among xs ys = list_all (has_base ys) xs

-- x is one of the elements
abbrev pub In : {X : Type 0} → List X → X → Type 0
In [] x = ⊥
In (y ∷ ys) x = (x ≡ y) ⊎ In ys x

-- each key is below all behind it
abbrev pub AreAscending : {X : Type 0} → (X → ℕ) → List X → Type 0
AreAscending {X = X} key [] = Unit {0}
AreAscending {X = X} key (x ∷ xs) = ((y : X) → In xs y → key x < key y) × AreAscending key xs

-- the bases of a list, in ascending order
abbrev pub gathered : List ℕ → List ℕ
gathered [] = []
gathered (b ∷ bs) = union_of (b ∷ []) (gathered bs)
