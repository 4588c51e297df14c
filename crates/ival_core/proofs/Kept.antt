-- The numbers of an ascending list that have a property.
use Rattle.std.proofs.Common.{◌≡◌, ℕ, suc, ◌+◌, ◌<◌, ◌≤◌, ℤ, List, [], ◌∷◌, ◌++◌, length, take, get_or, refl, sym, subst, inl, inr, arith, length-append, length-take}
use lib.Signed.{◌<ℤ◌}
use Rattle.ival_core.specs.Sets.{Among, IsAscending, IsSmallSet}
use Rattle.ival_core.proofs.Counting.{AllAbove-among, AllAbove-from_among, Among-left, Among-right, Among-one, Among-take_more, Among-take_left}
use Rattle.ival_core.proofs.Insertion.{take_below, AllNumbers-among, AllNumbers-from_among}

-- kept has, ascending, the numbers of all that have P
pub record Kept (P : ℤ → Type 0) (all kept : List ℤ) : Type 0 where
  pub short : length kept ≤ length all
  pub ascending : IsAscending kept
  pub has : (n : ℤ) → Among kept n → Among all n × P n
  pub keeps : (n : ℤ) → Among all n → P n → Among kept n

pub ascending_push : (xs : List ℤ) (x : ℤ) → IsAscending xs → ((n : ℤ) → Among xs n → n <ℤ x) → IsAscending (xs ++ x ∷ [])
ascending_push [] x a h = (tt, tt)
ascending_push (y ∷ ys) x a h = (
  AllAbove-from_among y (ys ++ x ∷ []) (λ n m. elim (Among-one ys x n m) [ inl k ↦ AllAbove-among y ys a.0 n k | inr e ↦ subst (λ z. y <ℤ z) (sym e) (h y (inl refl)) ]),
  ascending_push ys x a.1 (λ n m. h n (inr m)),
)

longer : (xs : List ℤ) (i : ℕ) → i < length xs → length (take (i + 1) xs) ≡ suc (length (take i xs))
longer xs i h = omega (arith, length-take {A = ℤ})

pub Kept-taken : (P : ℤ → Type 0) (xs kept : List ℤ) (i : ℕ) (d : ℤ) → i < length xs → IsAscending xs → Kept P (take i xs) kept → P (get_or xs i d) → Kept P (take (i + 1) xs) (kept ++ get_or xs i d ∷ [])
Kept-taken P xs kept i d h a k p = record {
  short = let e = longer xs i h in let s = k.short in omega (arith, length-append {A = ℤ});
  ascending = ascending_push kept (get_or xs i d) k.ascending (λ n m. take_below xs i d n a h (k.has n m).0);
  has = λ n m. elim (Among-one kept (get_or xs i d) n m) [
    | inl q ↦ (Among-take_left xs i d n h (inl (k.has n q).0), (k.has n q).1)
    | inr e ↦ (Among-take_left xs i d n h (inr e), subst P (sym e) p)
  ];
  keeps = λ n m q. elim (Among-take_more xs i d n h m) [
    | inl b ↦ Among-left kept (get_or xs i d ∷ []) n (k.keeps n b q)
    | inr e ↦ Among-right kept (get_or xs i d ∷ []) n (inl e)
  ];
}

pub Kept-left : (P : ℤ → Type 0) (xs kept : List ℤ) (i : ℕ) (d : ℤ) → i < length xs → Kept P (take i xs) kept → (P (get_or xs i d) → ⊥) → Kept P (take (i + 1) xs) kept
Kept-left P xs kept i d h k p = record {
  short = let e = longer xs i h in let s = k.short in omega arith;
  ascending = k.ascending;
  has = λ n m. (Among-take_left xs i d n h (inl (k.has n m).0), (k.has n m).1);
  keeps = λ n m q. elim (Among-take_more xs i d n h m) [ inl b ↦ k.keeps n b q | inr e ↦ absurd (p (subst P e q)) ];
}

pub Kept-small : (P : ℤ → Type 0) (xs kept : List ℤ) → IsSmallSet xs → Kept P xs kept → IsSmallSet kept
Kept-small P xs kept h k = record {
  small = let s = k.short in let t = h.small in omega arith;
  ascending = k.ascending;
  numbers = AllNumbers-from_among kept (λ n m. AllNumbers-among xs h.numbers n (k.has n m).0);
}
