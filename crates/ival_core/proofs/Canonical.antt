-- Two sets that hold the same numbers are one `Ival`.
use Rattle.std.proofs.Common.{◌≡◌, ℤ, List, [], ◌∷◌, refl, sym, subst, ap, ◌∙◌, inl, inr, arith}
use Rattle.std.proofs.lemmas.Int.{ints}
use Rattle.std.proofs.lemmas.Nat.Gcd.{dvd_antisymm}
use lib.Signed.{◌<ℤ◌}
use Rattle.ival_core.specs.declared.value.Progression.{Progression}
use Rattle.ival_core.specs.declared.value.Shape.{Shape}
use Rattle.ival_core.specs.declared.value.Shape.TheVariants.{Few, Many}
use Rattle.ival_core.specs.declared.value.Ival.{Ival}
use Rattle.ival_core.specs.Sets.{Among, AllAbove, IsAscending, IsValid, IsValid-prop, Has}
use Rattle.ival_core.specs.Ivals.{Includes, IsJoin}
use Rattle.ival_core.proofs.Counting.{Inside, AllAbove-among, not_head}
use Rattle.ival_core.proofs.Inclusion.{Wider, Wider-from, run_outside}

-- two ascending lists of the same numbers are one list
pub same_list : (xs ys : List ℤ) → IsAscending xs → IsAscending ys → Inside xs ys → Inside ys xs → xs ≡ ys
same_list [] [] a b h k = refl
same_list [] (y ∷ ys) a b h k = absurd (k.has y (inl refl))
same_list (x ∷ xs) [] a b h k = absurd (h.has x (inl refl))
same_list (x ∷ xs) (y ∷ ys) a b h k =
    let e : x ≡ y = heads x y xs ys a.0 b.0 (h.has x (inl refl)) (k.has y (inl refl)) in
    let above_y : (n : ℤ) → Among xs n → y <ℤ n = λ n m. subst (λ z. z <ℤ n) e (AllAbove-among x xs a.0 n m) in
    let above_x : (n : ℤ) → Among ys n → x <ℤ n = λ n m. subst (λ z. z <ℤ n) (sym e) (AllAbove-among y ys b.0 n m) in
    let f : Inside xs ys = not_head xs y ys above_y (record { has = λ n m. h.has n (inr m) }) in
    let g : Inside ys xs = not_head ys x xs above_x (record { has = λ n m. k.has n (inr m) }) in
    ap (λ z. z ∷ xs) e ∙ ap (λ zs. y ∷ zs) (same_list xs ys a.1 b.1 f g)
  where
    heads : (x y : ℤ) (xs ys : List ℤ) → AllAbove x xs → AllAbove y ys → Among (y ∷ ys) x → Among (x ∷ xs) y → x ≡ y
    heads x y xs ys a b (inl e) k = e
    heads x y xs ys a b (inr m) (inl e) = sym e
    heads x y xs ys a b (inr m) (inr n) =
        let p : y <ℤ x = AllAbove-among y ys b x m in
        let q : x <ℤ y = AllAbove-among x xs a y n in
        absurd (omega (arith, ints))

-- two long runs of the same numbers are one progression
pub same_run : (p q : Progression) → Wider p q → Wider q p → p ≡ q
same_run p q h k =
    let low : p.low ≡ q.low = (let a = h.low in let b = k.low in omega (arith, ints)) in
    let high : p.high ≡ q.high = (let a = h.high in let b = k.high in omega (arith, ints)) in
    let stride : p.stride ≡ q.stride = dvd_antisymm h.stride k.stride in
    ap (λ x. record { low = x; high = p.high; stride = p.stride }) low
    ∙ ap (λ x. record { low = q.low; high = x; stride = p.stride }) high
    ∙ ap (λ x. record { low = q.low; high = q.high; stride = x }) stride

pub same_shape : (s t : Shape) → IsValid s → IsValid t → ((n : ℤ) → Has s n → Has t n) → ((n : ℤ) → Has t n → Has s n) → s ≡ t
same_shape (Few v) (Few w) a b f g = ap (λ xs. Few (record { items = xs })) (same_list v.items w.items a.ascending b.ascending (record { has = f }) (record { has = g }))
same_shape (Few v) (Many q) a b f g = absurd (run_outside q v.items b a g)
same_shape (Many p) (Few w) a b f g = absurd (run_outside p w.items a b f)
same_shape (Many p) (Many q) a b f g = ap Many (same_run p q (Wider-from p q b g) (Wider-from q p a f))

-- an `Ival` is its shape
pub same_ival : (u v : Ival) → u.shape ≡ v.shape → u ≡ v
same_ival u v e = go u.shape v.shape u.valid v.valid e
  where
    go : (s t : Shape) (a : IsValid s) (b : IsValid t) → s ≡ t → ◌≡◌ {A = Ival} (record { shape = s; valid = a }) (record { shape = t; valid = b })
    go s t a b e =
        let at : (t' : Shape) → Type 0 = λ t'. (b' : IsValid t') → ◌≡◌ {A = Ival} (record { shape = s; valid = a }) (record { shape = t'; valid = b' }) in
        subst at e (λ b'. ap (λ x. record { shape = s; valid = x }) (IsValid-prop s a b')) b

-- the law: sets that include each other are equal
pub Includes-antisymm : (u v : Ival) → Includes u v → Includes v u → u ≡ v
Includes-antisymm u v f g = same_ival u v (same_shape u.shape v.shape u.valid v.valid g f)

-- two joins of the same sets are equal
pub IsJoin-same : (a b u v : Ival) → IsJoin a b u → IsJoin a b v → u ≡ v
IsJoin-same a b u v h k = Includes-antisymm u v (k.least u h.first h.second) (h.least v k.first k.second)
