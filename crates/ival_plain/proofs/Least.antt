-- What the least set of given numbers holds.
use Rattle.std.proofs.Common.{◌≡◌, ◌⊎◌, ◌^◌, Bool, true, false, cond, ◌&&◌, ℤ, pos, List, [], ◌∷◌, refl, sym, subst, ap, ◌∙◌, inl, inr}
use Rattle.std.specs.Prelude.{neg_ℤ, int_le, filter}
use Rattle.std.proofs.lemmas.Bool.{and_parts, and_from}
use Rattle.ival_core.specs.declared.value.Shape.TheVariants.{Few}
use Rattle.ival_core.specs.declared.value.Ival.{Ival}
use Rattle.ival_core.specs.Ivals.{Holds, Includes}
use Rattle.ival_core.specs.Sets.{IsNumber, IsValid, AllNumbers, Among, Has}
use Rattle.ival_core.proofs.Insertion.{Holds-number}
use Rattle.ival_core.proofs.Joined.{Makes, with_numbers-makes}
use Rattle.ival_core.proofs.Orders.{le_true, true_le}
use Rattle.ival_plain.specs.Least.{is_number, least_shape}
use Rattle.ival_plain.proofs.Sound.{few_valid}

tested_number : (n : ℤ) → is_number n ≡ true → IsNumber n
tested_number n h =
    let p = and_parts (int_le (neg_ℤ (pos (2 ^ 120))) n) (int_le n (pos (2 ^ 120))) h in
    record { least = le_true (neg_ℤ (pos (2 ^ 120))) n p.0; greatest = le_true n (pos (2 ^ 120)) p.1 }

number_tested : (n : ℤ) → IsNumber n → is_number n ≡ true
number_tested n h = and_from (int_le (neg_ℤ (pos (2 ^ 120))) n) (int_le n (pos (2 ^ 120))) (true_le (neg_ℤ (pos (2 ^ 120))) n h.least) (true_le n (pos (2 ^ 120)) h.greatest)

all_numbers : (ns : List ℤ) → AllNumbers (filter is_number ns)
all_numbers [] = tt
all_numbers (n ∷ ns) = by_test (is_number n) refl (all_numbers ns)
  where
    by_test : (b : Bool) → is_number n ≡ b → AllNumbers (filter is_number ns) → AllNumbers (cond b (n ∷ filter is_number ns) (filter is_number ns))
    by_test true e r = (tested_number n e, r)
    by_test false e r = r

among_kept : (ns : List ℤ) (m : ℤ) → Among ns m → IsNumber m → Among (filter is_number ns) m
among_kept [] m a h = absurd a
among_kept (n ∷ ns) m a h = by_test (is_number n) refl (λ i. among_kept ns m i h) a
  where
    by_test : (b : Bool) → is_number n ≡ b → (Among ns m → Among (filter is_number ns) m) → Among (n ∷ ns) m → Among (cond b (n ∷ filter is_number ns) (filter is_number ns)) m
    by_test true e r (inl d) = inl d
    by_test true e r (inr i) = inr (r i)
    by_test false e r (inl d) = let t : is_number n ≡ true = subst (λ z. is_number z ≡ true) d (number_tested m h) in absurd (no (is_number n) t e)
      where
        no : (b : Bool) → b ≡ true → b ≡ false → ⊥
        no true t e = cc
        no false t e = cc
    by_test false e r (inr i) = r i

kept_among : (ns : List ℤ) (m : ℤ) → Among (filter is_number ns) m → Among ns m
kept_among [] m a = a
kept_among (n ∷ ns) m a = by_test (is_number n) (kept_among ns m) a
  where
    by_test : (b : Bool) → (Among (filter is_number ns) m → Among ns m) → Among (cond b (n ∷ filter is_number ns) (filter is_number ns)) m → Among (n ∷ ns) m
    by_test true r (inl d) = inl d
    by_test true r (inr i) = inr (r i)
    by_test false r i = inr (r i)

least_makes : (ns : List ℤ) → Makes (λ n. Has (Few (record { items = [] })) n ⊎ Among (filter is_number ns) n) (least_shape ns)
unfolding least_shape
least_makes ns = with_numbers-makes (Few (record { items = [] })) (filter is_number ns) few_valid (all_numbers ns)

pub least_valid : (ns : List ℤ) → IsValid (least_shape ns)
least_valid ns = (least_makes ns).valid

pub least_holds : (ns : List ℤ) (n : ℤ) → Among ns n → IsNumber n → Has (least_shape ns) n
least_holds ns n a h = (least_makes ns).least.holds n (inr (among_kept ns n a h))

pub least_least : (ns : List ℤ) (u : Ival) → ((n : ℤ) → Among ns n → Holds u n) → (n : ℤ) → Has (least_shape ns) n → Holds u n
least_least ns u f n h = (least_makes ns).least.least u.shape u.valid (λ k i. elim i [ inl e ↦ absurd e | inr a ↦ f k (kept_among ns k a) ]) n h
