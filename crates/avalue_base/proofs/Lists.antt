-- Lists in order of their keys, and what they have.
use Rattle.std.proofs.Common.{◌≡◌, ◌⊎◌, ℕ, ◌<◌, ◌==◌, Bool, true, false, cond, List, [], ◌∷◌, map, refl, sym, subst, ap, ◌∙◌, inl, inr, arith, eq-eqb}
use Rattle.std.specs.Prelude.{nat_lt}
use Rattle.std.specs.List.{list_any, list_all}
use Rattle.std.proofs.lemmas.Bool.{and_parts, and_from, or_cases, or_left, or_right, eqb-true}
use Rattle.std.proofs.lemmas.Bool.Decides.{nat_tests}
use Rattle.avalue_base.specs.Lists.{put, merged, union_of, has_base, all_among, In}

-- ---- elements and tests

pub In-any : {X : Type 0} (test : X → Bool) (xs : List X) (x : X) → In xs x → test x ≡ true → list_any test xs ≡ true
In-any test [] x i t = absurd i
In-any test (y ∷ ys) x (inl e) t = or_left (test y) (list_any test ys) (subst (λ z. test z ≡ true) e t)
In-any test (y ∷ ys) x (inr i) t = or_right (test y) (list_any test ys) (In-any test ys x i t)

pub any-In : {X : Type 0} (test : X → Bool) (xs : List X) → list_any test xs ≡ true → (x : X) × In xs x × (test x ≡ true)
any-In test [] h = cc
any-In test (y ∷ ys) h =
    elim (or_cases (test y) (list_any test ys) h) [
      | inl t ↦ (y, inl refl, t)
      | inr r ↦ let a = any-In test ys r in (a.0, inr a.1, a.2)
    ]

pub all-In : {X : Type 0} (test : X → Bool) (xs : List X) → list_all test xs ≡ true → (x : X) → In xs x → test x ≡ true
all-In test [] h x i = absurd i
all-In test (y ∷ ys) h x (inl e) = subst (λ z. test z ≡ true) (sym e) (and_parts (test y) (list_all test ys) h).0
all-In test (y ∷ ys) h x (inr i) = all-In test ys (and_parts (test y) (list_all test ys) h).1 x i

pub In-all : {X : Type 0} (test : X → Bool) (xs : List X) → ((x : X) → In xs x → test x ≡ true) → list_all test xs ≡ true
In-all test [] h = refl
In-all test (y ∷ ys) h = and_from (test y) (list_all test ys) (h y (inl refl)) (In-all test ys (λ x i. h x (inr i)))

pub In-map : {X Y : Type 0} (f : X → Y) (xs : List X) (x : X) → In xs x → In (map f xs) (f x)
In-map f [] x i = absurd i
In-map f (y ∷ ys) x (inl e) = inl (ap f e)
In-map f (y ∷ ys) x (inr i) = inr (In-map f ys x i)

pub map-In : {X Y : Type 0} (f : X → Y) (xs : List X) (y : Y) → In (map f xs) y → (x : X) × In xs x × (y ≡ f x)
map-In f [] y i = absurd i
map-In f (x ∷ xs) y (inl e) = (x, inl refl, e)
map-In f (x ∷ xs) y (inr i) = let a = map-In f xs y i in (a.0, inr a.1, a.2)

-- ---- bases

pub In-has : (xs : List ℕ) (q : ℕ) → In xs q → has_base xs q ≡ true
In-has xs q i = In-any (λ x. x == q) xs q i (eq-eqb q q refl)

pub has-In : (xs : List ℕ) (q : ℕ) → has_base xs q ≡ true → In xs q
has-In xs q h = let a = any-In (λ x. x == q) xs h in subst (In xs) (eqb-true a.0 q a.2) a.1

pub among-has : (xs ys : List ℕ) → all_among xs ys ≡ true → (q : ℕ) → has_base xs q ≡ true → has_base ys q ≡ true
among-has xs ys h q i = all-In (has_base ys) xs h q (has-In xs q i)

pub has-among : (xs ys : List ℕ) → ((q : ℕ) → has_base xs q ≡ true → has_base ys q ≡ true) → all_among xs ys ≡ true
has-among xs ys h = In-all (has_base ys) xs (λ q i. h q (In-has xs q i))

pub among-refl : (xs : List ℕ) → all_among xs xs ≡ true
among-refl xs = has-among xs xs (λ q h. h)

pub among-trans : (xs ys zs : List ℕ) → all_among xs ys ≡ true → all_among ys zs ≡ true → all_among xs zs ≡ true
among-trans xs ys zs h k = has-among xs zs (λ q i. among-has ys zs k q (among-has xs ys h q i))

pub among-none : (xs : List ℕ) → all_among xs [] ≡ true → xs ≡ []
among-none [] h = refl
among-none (x ∷ xs) h = cc

-- ---- merged lists

pub by_order : {X : Type 0} (P : X → Type 0) (a b : ℕ) (x y z : X) → (a < b → P x) → (b < a → P y) → (a ≡ b → P z) → P (cond (nat_lt a b) x (cond (nat_lt b a) y z))
by_order P a b x y z f g h =
    by_tests P x y z (nat_lt a b) (nat_lt b a) (λ e. f (below a b e)) (λ e. g (below b a e)) (λ d e. h (same a b d e))
  where
    below : (a b : ℕ) → nat_lt a b ≡ true → a < b
    below a b e = grind (arith, nat_tests)

    same : (a b : ℕ) → nat_lt a b ≡ false → nat_lt b a ≡ false → a ≡ b
    same a b d e = grind (arith, nat_tests)

    by_tests : {X : Type 0} (P : X → Type 0) (x y z : X) (s t : Bool) → (s ≡ true → P x) → (t ≡ true → P y) → (s ≡ false → t ≡ false → P z) → P (cond s x (cond t y z))
    by_tests P x y z true t f g h = f refl
    by_tests P x y z false true f g h = g refl
    by_tests P x y z false false f g h = h refl refl

module _ {X : Type 0} (key : X → ℕ) (both : X → X → X) where
  -- an element of the first list stands in the merged one, alone or with one of the second
  abbrev pub First : X → List X → List X → Type 0
  First x ys zs = In zs x ⊎ ((y : X) × In ys y × (key x ≡ key y) × In zs (both x y))

  first_more : (w y z : X) (ys zs : List X) → First w ys zs → First w (y ∷ ys) (z ∷ zs)
  first_more w y z ys zs (inl i) = inl (inr i)
  first_more w y z ys zs (inr a) = inr (a.0, inr a.1, a.2, inr a.3)

  first_behind : (w z : X) (ys zs : List X) → First w ys zs → First w ys (z ∷ zs)
  first_behind w z ys zs (inl i) = inl (inr i)
  first_behind w z ys zs (inr a) = inr (a.0, a.1, a.2, inr a.3)

  put_head : (x : X) (more : List X → List X) (ys : List X) → First x ys (put key both x more ys)
  unfolding put
  put_head x more [] = inl (inl refl)
  put_head x more (y ∷ ys) =
      by_order (First x (y ∷ ys)) (key x) (key y) (x ∷ more (y ∷ ys)) (y ∷ put key both x more ys) (both x y ∷ more ys)
      (λ l. inl (inl refl))
      (λ l. first_more x y y ys (put key both x more ys) (put_head x more ys))
      (λ e. inr (y, inl refl, e, inl refl))

  put_first : (w x : X) (more : List X → List X) → ((zs : List X) → First w zs (more zs)) → (ys : List X) → First w ys (put key both x more ys)
  unfolding put
  put_first w x more h [] = first_behind w x [] (more []) (h [])
  put_first w x more h (y ∷ ys) =
      by_order (First w (y ∷ ys)) (key x) (key y) (x ∷ more (y ∷ ys)) (y ∷ put key both x more ys) (both x y ∷ more ys)
      (λ l. first_behind w x (y ∷ ys) (more (y ∷ ys)) (h (y ∷ ys)))
      (λ l. first_more w y y ys (put key both x more ys) (put_first w x more h ys))
      (λ e. first_more w y (both x y) ys (more ys) (h ys))

  pub merged_first : (xs : List X) (w : X) → In xs w → (ys : List X) → First w ys (merged key both xs ys)
  unfolding merged
  merged_first [] w i ys = absurd i
  merged_first (x ∷ xs) w (inl e) ys = subst (λ z. First z ys (put key both x (merged key both xs) ys)) (sym e) (put_head x (merged key both xs) ys)
  merged_first (x ∷ xs) w (inr i) ys = put_first w x (merged key both xs) (λ zs. merged_first xs w i zs) ys

  -- and one of the second
  abbrev pub Second : X → List X → List X → Type 0
  Second y xs zs = In zs y ⊎ ((x : X) × In xs x × (key x ≡ key y) × In zs (both x y))

  second_more : (w x z : X) (xs zs : List X) → Second w xs zs → Second w (x ∷ xs) (z ∷ zs)
  second_more w x z xs zs (inl i) = inl (inr i)
  second_more w x z xs zs (inr a) = inr (a.0, inr a.1, a.2, inr a.3)

  second_behind : (w z : X) (xs zs : List X) → Second w xs zs → Second w xs (z ∷ zs)
  second_behind w z xs zs (inl i) = inl (inr i)
  second_behind w z xs zs (inr a) = inr (a.0, a.1, a.2, inr a.3)

  put_second : (w x : X) (xs : List X) (more : List X → List X) → ((zs : List X) → In zs w → Second w xs (more zs)) → (ys : List X) → In ys w → Second w (x ∷ xs) (put key both x more ys)
  unfolding put
  put_second w x xs more h [] i = absurd i
  put_second w x xs more h (y ∷ ys) i =
      by_order (Second w (x ∷ xs)) (key x) (key y) (x ∷ more (y ∷ ys)) (y ∷ put key both x more ys) (both x y ∷ more ys)
      (λ l. second_more w x x xs (more (y ∷ ys)) (h (y ∷ ys) i))
      (λ l. elim i [ inl e ↦ inl (inl e) | inr j ↦ second_behind w y (x ∷ xs) (put key both x more ys) (put_second w x xs more h ys j) ])
      (λ e. elim i [
        | inl d ↦ inr (x, inl refl, e ∙ ap key (sym d), inl (ap (both x) d))
        | inr j ↦ second_more w x (both x y) xs (more ys) (h ys j)
      ])

  pub merged_second : (xs ys : List X) (w : X) → In ys w → Second w xs (merged key both xs ys)
  unfolding merged
  merged_second [] ys w i = inl i
  merged_second (x ∷ xs) ys w i = put_second w x xs (merged key both xs) (λ zs j. merged_second xs zs w j) ys i

  -- and no others
  abbrev pub From : X → List X → List X → Type 0
  From z xs ys = In xs z ⊎ (In ys z ⊎ ((x : X) × (y : X) × In xs x × In ys y × (key x ≡ key y) × (z ≡ both x y)))

  from_more : (z x : X) (xs ys : List X) → From z xs ys → From z (x ∷ xs) ys
  from_more z x xs ys (inl i) = inl (inr i)
  from_more z x xs ys (inr (inl i)) = inr (inl i)
  from_more z x xs ys (inr (inr a)) = inr (inr (a.0, a.1, inr a.2, a.3, a.4, a.5))

  from_behind : (z y : X) (xs ys : List X) → From z xs ys → From z xs (y ∷ ys)
  from_behind z y xs ys (inl i) = inl i
  from_behind z y xs ys (inr (inl i)) = inr (inl (inr i))
  from_behind z y xs ys (inr (inr a)) = inr (inr (a.0, a.1, a.2, inr a.3, a.4, a.5))

  put_from : (z x : X) (xs : List X) (more : List X → List X) → ((zs : List X) → In (more zs) z → From z xs zs) → (ys : List X) → In (put key both x more ys) z → From z (x ∷ xs) ys
  unfolding put
  put_from z x xs more h [] i = elim i [ inl e ↦ inl (inl e) | inr j ↦ from_more z x xs [] (h [] j) ]
  put_from z x xs more h (y ∷ ys) i =
      by_order (λ zs. In zs z → From z (x ∷ xs) (y ∷ ys)) (key x) (key y) (x ∷ more (y ∷ ys)) (y ∷ put key both x more ys) (both x y ∷ more ys)
      (λ l i. elim i [ inl e ↦ inl (inl e) | inr j ↦ from_more z x xs (y ∷ ys) (h (y ∷ ys) j) ])
      (λ l i. elim i [ inl e ↦ inr (inl (inl e)) | inr j ↦ from_behind z y (x ∷ xs) ys (put_from z x xs more h ys j) ])
      (λ e i. elim i [ inl d ↦ inr (inr (x, y, inl refl, inl refl, e, d)) | inr j ↦ from_more z x xs (y ∷ ys) (from_behind z y xs ys (h ys j)) ])
      i

  pub merged_from : (xs ys : List X) (z : X) → In (merged key both xs ys) z → From z xs ys
  unfolding merged
  merged_from [] ys z i = inr (inl i)
  merged_from (x ∷ xs) ys z i = put_from z x xs (merged key both xs) (λ zs j. merged_from xs zs z j) ys i

-- ---- unions of bases

pub union_left : (xs ys : List ℕ) → all_among xs (union_of xs ys) ≡ true
union_left xs ys = In-all (has_base (union_of xs ys)) xs (λ q i. In-has (union_of xs ys) q (elim (merged_first (λ x. x) (λ x y. x) xs q i ys) [ inl j ↦ j | inr a ↦ a.3 ]))

pub union_right : (xs ys : List ℕ) → all_among ys (union_of xs ys) ≡ true
union_right xs ys = In-all (has_base (union_of xs ys)) ys (λ q i. In-has (union_of xs ys) q (found q (merged_second (λ x. x) (λ x y. x) xs ys q i)))
  where
    found : (q : ℕ) → Second (λ x. x) (λ x y. x) q xs (union_of xs ys) → In (union_of xs ys) q
    found q (inl j) = j
    found q (inr a) = subst (In (union_of xs ys)) a.2 a.3

-- the union has nothing else
pub union_least : (xs ys zs : List ℕ) → all_among xs zs ≡ true → all_among ys zs ≡ true → all_among (union_of xs ys) zs ≡ true
union_least xs ys zs h k = In-all (has_base zs) (union_of xs ys) (λ q i. found q (merged_from (λ x. x) (λ x y. x) xs ys q i))
  where
    found : (q : ℕ) → From (λ x. x) (λ x y. x) q xs ys → has_base zs q ≡ true
    found q (inl i) = all-In (has_base zs) xs h q i
    found q (inr (inl i)) = all-In (has_base zs) ys k q i
    found q (inr (inr a)) = subst (λ x. has_base zs x ≡ true) (sym a.5) (all-In (has_base zs) xs h a.0 a.2)
