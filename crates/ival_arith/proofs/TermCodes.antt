-- How terms are computed.
use Rattle.std.proofs.Common.{◌≡◌, ℕ, zero, suc, ◌+◌, ◌-◌, ◌*◌, ◌<◌, ◌≤◌, ◌^◌, Bool, true, false, cond, ℤ, pos, negsuc, List, [], ◌∷◌, ◌++◌, length, drop, get_or, Option, Some, None, min, drop-cons, add-one, refl, sym, subst, ap, ◌∙◌, arith}
use Rattle.std.specs.Prelude.{neg_ℤ, ◌*ℤ◌, ◌&&◌, int_lt, nat_lt, unsigned_abs, IfSome, IfNone}
use Rattle.std.proofs.lemmas.List.{drop_all}
use Rattle.std.proofs.lemmas.Bool.{lt-ltb, le-ltb}
use Rattle.arrayvec.specs.ArrayVec.{ArrayVec}
use Rattle.c_base.specs.Operators.{is_zero}
use Rattle.ival_core.specs.declared.value.Progression.{Progression}
use Rattle.ival_core.specs.declared.value.Shape.{Shape}
use Rattle.ival_core.specs.declared.value.Shape.TheVariants.{Few, Many}
use Rattle.ival_core.specs.Joined.{with_number, with_numbers, joined}
use Rattle.ival_core.specs.Views.{bounds_of}
use Rattle.ival_arith.specs.declared.terms.Term.{Term}
use Rattle.ival_arith.specs.declared.terms.Term.TheVariants.{Product, Quotient, Remainder}
use Rattle.ival_arith.specs.declared.pieces.Change.TheVariants.{Negative, Times}
use Rattle.ival_arith.specs.Pieces.{none, gathered, run, all_changed}
use Rattle.ival_arith.specs.Values.{extent, is_natural}
use Rattle.ival_arith.specs.Terms.{term, terms, crossed, around, scaled, scaled_onto, long_term, term_value, lacks, exact_term, IsDefined, AllDefined, Lacks}
use Rattle.ival_core.specs.declared.value.Ival.{Ival}
use Rattle.ival_core.specs.Ivals.{Holds, IsOnly}
use Rattle.ival_arith.specs.Exact.{shape_option}
use Rattle.ival_arith.specs.Promises.{Outcome}
use Rattle.ival_core.specs.Sets.{IsNumber, IsValid, Has}
use Rattle.ival_arith.proofs.TermSets.{turned-exactly, turned_times, term_value-covers, sets, single-only}
use Rattle.ival_arith.proofs.Codes.{with_one, with_no}
use Rattle.ival_arith.proofs.ValueCodes.{with_both}

terms_here : (op : Term) (x y : ℤ) (ys : List ℤ) → terms op x (y ∷ ys) ≡ term op x y ∷ terms op x ys
unfolding terms
terms_here op x y ys = refl

terms_end : (op : Term) (x : ℤ) → terms op x [] ≡ []
unfolding terms
terms_end op x = refl

from_place : (ys : List ℤ) (i : ℕ) (d : ℤ) → i < length ys → drop i ys ≡ get_or ys i d ∷ drop (i + 1) ys
from_place ys i d h = drop-cons ys i d h ∙ ap (λ k. get_or ys i d ∷ drop k ys) (sym (add-one i))

pub terms_step : (op : Term) (x : ℤ) (ys : List ℤ) (i : ℕ) (d : ℤ) (s t u : Shape) → i < length ys → with_numbers s (terms op x (drop i ys)) ≡ u → t ≡ with_number s (term op x (get_or ys i d)) →
    with_numbers t (terms op x (drop (i + 1) ys)) ≡ u
terms_step op x ys i d s t u h e f =
    ap (λ z. with_numbers z (terms op x (drop (i + 1) ys))) f
    ∙ sym (with_one s (term op x (get_or ys i d)) (terms op x (drop (i + 1) ys)))
    ∙ ap (with_numbers s) (sym (terms_here op x (get_or ys i d) (drop (i + 1) ys)))
    ∙ ap (λ zs. with_numbers s (terms op x zs)) (sym (from_place ys i d h)) ∙ e

pub terms_done : (op : Term) (x : ℤ) (ys : List ℤ) (i : ℕ) (s u : Shape) → length ys ≤ i → with_numbers s (terms op x (drop i ys)) ≡ u → s ≡ u
terms_done op x ys i s u h e = sym (ap (λ zs. with_numbers s (terms op x zs)) (drop_all i ys h) ∙ ap (with_numbers s) (terms_end op x) ∙ with_no s) ∙ e

crossed_here : (op : Term) (x : ℤ) (xs ys : List ℤ) → crossed op (x ∷ xs) ys ≡ terms op x ys ++ crossed op xs ys
unfolding crossed
crossed_here op x xs ys = refl

crossed_end : (op : Term) (ys : List ℤ) → crossed op [] ys ≡ []
unfolding crossed
crossed_end op ys = refl

pub crossed_step : (op : Term) (xs ys : List ℤ) (i : ℕ) (d : ℤ) (s t u : Shape) → i < length xs → with_numbers s (crossed op (drop i xs) ys) ≡ u → t ≡ with_numbers s (terms op (get_or xs i d) ys) →
    with_numbers t (crossed op (drop (i + 1) xs) ys) ≡ u
crossed_step op xs ys i d s t u h e f =
    ap (λ z. with_numbers z (crossed op (drop (i + 1) xs) ys)) f
    ∙ sym (with_both s (terms op (get_or xs i d) ys) (crossed op (drop (i + 1) xs) ys))
    ∙ ap (with_numbers s) (sym (crossed_here op (get_or xs i d) (drop (i + 1) xs) ys))
    ∙ ap (λ zs. with_numbers s (crossed op zs ys)) (sym (from_place xs i d h)) ∙ e

pub crossed_done : (op : Term) (xs ys : List ℤ) (i : ℕ) (s u : Shape) → length xs ≤ i → with_numbers s (crossed op (drop i xs) ys) ≡ u → s ≡ u
crossed_done op xs ys i s u h e = sym (ap (λ zs. with_numbers s (crossed op zs ys)) (drop_all i xs h) ∙ ap (with_numbers s) (crossed_end op ys) ∙ with_no s) ∙ e

scaled_more : (all s : Shape) (y : ℤ) (ys : List ℤ) → scaled_onto all s (y ∷ ys) ≡ scaled_onto (joined all (scaled y s)) s ys
unfolding scaled_onto
scaled_more all s y ys = refl

scaled_none : (all s : Shape) → scaled_onto all s [] ≡ all
unfolding scaled_onto
scaled_none all s = refl

pub scaled_step : (all t u s : Shape) (ys : List ℤ) (i : ℕ) (d : ℤ) → i < length ys → scaled_onto all s (drop i ys) ≡ u → t ≡ joined all (scaled (get_or ys i d) s) → scaled_onto t s (drop (i + 1) ys) ≡ u
scaled_step all t u s ys i d h e f =
    ap (λ x. scaled_onto x s (drop (i + 1) ys)) f ∙ sym (scaled_more all s (get_or ys i d) (drop (i + 1) ys)) ∙ sym (ap (scaled_onto all s) (from_place ys i d h)) ∙ e

pub scaled_end : (all u s : Shape) (ys : List ℤ) (i : ℕ) → length ys ≤ i → scaled_onto all s (drop i ys) ≡ u → all ≡ u
scaled_end all u s ys i h e = sym (scaled_none all s) ∙ ap (scaled_onto all s) (sym (drop_all i ys h)) ∙ e

pub around_is : (natural : Bool) (m : ℕ) (a b : ℤ) → a ≡ cond natural (pos 0) (neg_ℤ (pos m)) → b ≡ pos m → run a b 1 ≡ around natural m
unfolding around
around_is natural m a b e f = ap (λ x. run x b 1) e ∙ ap (λ x. run (cond natural (pos 0) (neg_ℤ (pos m))) x 1) f

pub scaled_zero : (y : ℤ) (s : Shape) → is_zero y ≡ true → scaled y s ≡ Few (record { items = pos 0 ∷ [] })
unfolding scaled
scaled_zero y s e =
    ap (λ b. cond b (Few (record { items = pos 0 ∷ [] })) (cond (nat_lt (unsigned_abs y) (2 ^ 64)) (all_changed (Times (unsigned_abs y)) (cond (int_lt y (pos 0)) (all_changed Negative s) s)) (around false (min (extent (bounds_of s) * unsigned_abs y) (2 ^ 120))))) e

pub scaled_small : (y : ℤ) (s : Shape) → is_zero y ≡ false → nat_lt (unsigned_abs y) (2 ^ 64) ≡ true → scaled y s ≡ all_changed (Times (unsigned_abs y)) (cond (int_lt y (pos 0)) (all_changed Negative s) s)
unfolding scaled
scaled_small y s e f =
    ap (λ b. cond b (Few (record { items = pos 0 ∷ [] })) (cond (nat_lt (unsigned_abs y) (2 ^ 64)) (all_changed (Times (unsigned_abs y)) (cond (int_lt y (pos 0)) (all_changed Negative s) s)) (around false (min (extent (bounds_of s) * unsigned_abs y) (2 ^ 120))))) e
    ∙ ap (λ b. cond b (all_changed (Times (unsigned_abs y)) (cond (int_lt y (pos 0)) (all_changed Negative s) s)) (around false (min (extent (bounds_of s) * unsigned_abs y) (2 ^ 120)))) f

pub scaled_far : (y : ℤ) (s : Shape) → is_zero y ≡ false → nat_lt (unsigned_abs y) (2 ^ 64) ≡ false → scaled y s ≡ around false (min (extent (bounds_of s) * unsigned_abs y) (2 ^ 120))
unfolding scaled
scaled_far y s e f =
    ap (λ b. cond b (Few (record { items = pos 0 ∷ [] })) (cond (nat_lt (unsigned_abs y) (2 ^ 64)) (all_changed (Times (unsigned_abs y)) (cond (int_lt y (pos 0)) (all_changed Negative s) s)) (around false (min (extent (bounds_of s) * unsigned_abs y) (2 ^ 120))))) e
    ∙ ap (λ b. cond b (all_changed (Times (unsigned_abs y)) (cond (int_lt y (pos 0)) (all_changed Negative s) s)) (around false (min (extent (bounds_of s) * unsigned_abs y) (2 ^ 120)))) f

pub quotient_here : (s t r : Shape) (natural : Bool) (m : ℕ) → natural ≡ (is_natural (bounds_of s) && is_natural (bounds_of t)) → m ≡ extent (bounds_of s) → r ≡ around natural m → r ≡ long_term Quotient s t
unfolding long_term
quotient_here s t r natural m e f g = g ∙ ap (λ n. around n m) e ∙ ap (around (is_natural (bounds_of s) && is_natural (bounds_of t))) f

pub remainder_here : (s t r : Shape) (natural : Bool) (m : ℕ) → natural ≡ is_natural (bounds_of s) → m ≡ min (extent (bounds_of s)) (extent (bounds_of t) - 1) → r ≡ around natural m → r ≡ long_term Remainder s t
unfolding long_term
remainder_here s t r natural m e f g = g ∙ ap (λ n. around n m) e ∙ ap (around (is_natural (bounds_of s))) f

pub scaled_sizes : (y : ℤ) (size : ℕ) → size ≡ unsigned_abs y → nat_lt size (2 ^ 64) ≡ nat_lt (unsigned_abs y) (2 ^ 64)
scaled_sizes y size e = ap (λ k. nat_lt k (2 ^ 64)) e

pub times_numbers : (negative : Bool) (x y : ℤ) → int_lt y (pos 0) ≡ negative → IsNumber (x *ℤ y) → IsNumber (cond negative (neg_ℤ x) x *ℤ pos (unsigned_abs y))
times_numbers negative x y e n = subst IsNumber (sym (turned_times negative x y e)) n

pub turned_numbers : (s t : Shape) (y : ℤ) (k : ℕ) → IsValid s → ((x : ℤ) → Has s x → IsNumber x) → t ≡ cond (int_lt y (pos 0)) (all_changed Negative s) s → k ≡ unsigned_abs y → ((x : ℤ) → Has s x → IsNumber (x *ℤ y)) →
    (n : ℤ) → Has t n → IsNumber (n *ℤ pos k)
turned_numbers s t y k v h e f g n i =
    let x = turned-exactly s (int_lt y (pos 0)) v h in
    let j = x.only n (subst (λ u. Has u n) e i) in
    subst IsNumber (sym (ap (λ z. z *ℤ pos k) j.is ∙ ap (λ l. cond (int_lt y (pos 0)) (neg_ℤ j.from) j.from *ℤ pos l) f)) (times_numbers (int_lt y (pos 0)) j.from y refl (g j.from j.has))

pub lt_small : (n : ℕ) → n < 2 ^ 64 → nat_lt n (2 ^ 64) ≡ true
lt_small n h = lt-ltb n (2 ^ 64) h

pub lt_far : (n : ℕ) → 2 ^ 64 ≤ n → nat_lt n (2 ^ 64) ≡ false
lt_far n h = le-ltb n (2 ^ 64) h

-- ---- terms by the shapes of the sets

pub product_few : (s t at r : Shape) (v : ArrayVec ℤ) (xs : List ℤ) → at ≡ s → at ≡ Few v → xs ≡ v.items → r ≡ scaled_onto none t xs → r ≡ long_term Product s t
unfolding long_term
product_few s t at r v xs e f g h = h ∙ ap (scaled_onto none t) g ∙ ap (λ x. long_term Product x t) (sym f ∙ e)

pub product_run_few : (s t at r : Shape) (p : Progression) (u : ArrayVec ℤ) (ys : List ℤ) → s ≡ Many p → at ≡ t → at ≡ Few u → ys ≡ u.items → r ≡ scaled_onto none s ys → r ≡ long_term Product s t
unfolding long_term
product_run_few s t at r p u ys e f g i h = h ∙ ap (scaled_onto none s) i ∙ ap (λ x. scaled_onto none x u.items) e ∙ ap (λ x. long_term Product x (Few u)) (sym e) ∙ ap (long_term Product s) (sym g ∙ f)

both_runs : (p q : Progression) → around (is_natural (bounds_of (Many p)) && is_natural (bounds_of (Many q))) (min (extent (bounds_of (Many p)) * extent (bounds_of (Many q))) (2 ^ 120)) ≡ long_term Product (Many p) (Many q)
unfolding long_term
both_runs p q = refl

pub product_runs : (s t at r : Shape) (p q : Progression) → s ≡ Many p → at ≡ t → at ≡ Many q →
    r ≡ around (is_natural (bounds_of s) && is_natural (bounds_of t)) (min (extent (bounds_of s) * extent (bounds_of t)) (2 ^ 120)) → r ≡ long_term Product s t
product_runs s t at r p q e f g h = h ∙ ap (λ x. hull x t) e ∙ ap (hull (Many p)) (sym f ∙ g) ∙ both_runs p q ∙ ap (λ x. long_term Product x (Many q)) (sym e) ∙ ap (long_term Product s) (sym g ∙ f)
  where
    hull : Shape → Shape → Shape
    hull x y = around (is_natural (bounds_of x) && is_natural (bounds_of y)) (min (extent (bounds_of x) * extent (bounds_of y)) (2 ^ 120))

pub term_few : (op : Term) (s t at r : Shape) (u : ArrayVec ℤ) (xs ys : List ℤ) → s ≡ Few (record { items = xs }) → at ≡ t → at ≡ Few u → ys ≡ u.items → r ≡ gathered (crossed op xs ys) → r ≡ term_value op s t
unfolding term_value
term_few op s t at r u xs ys e f g h i = i ∙ ap (λ zs. gathered (crossed op xs zs)) h ∙ ap (λ x. term_value op x (Few u)) (sym e) ∙ ap (term_value op s) (sym g ∙ f)

pub term_few_run : (op : Term) (s t at r : Shape) (xs : List ℤ) (q : Progression) → s ≡ Few (record { items = xs }) → at ≡ t → at ≡ Many q → r ≡ long_term op s t → r ≡ term_value op s t
unfolding term_value
term_few_run op s t at r xs q e f g h = h ∙ ap (λ x. long_term op x t) e ∙ ap (long_term op (Few (record { items = xs }))) (sym f ∙ g) ∙ ap (λ x. term_value op x (Many q)) (sym e) ∙ ap (term_value op s) (sym g ∙ f)

pub term_run : (op : Term) (s t at r : Shape) (p : Progression) → at ≡ s → at ≡ Many p → r ≡ long_term op s t → r ≡ term_value op s t
unfolding term_value
term_run op s t at r p e f h = h ∙ ap (λ x. long_term op x t) (sym e ∙ f) ∙ ap (λ x. term_value op x t) (sym f ∙ e)

pub exact_lacks : (op : Term) (s t : Shape) → lacks op s t ≡ true → None ≡ exact_term op s t
unfolding exact_term
exact_lacks op s t e = sym (ap (λ b. cond b None (Some (term_value op s t))) e)

pub exact_has : (op : Term) (s t r : Shape) → lacks op s t ≡ false → r ≡ term_value op s t → Some r ≡ exact_term op s t
unfolding exact_term
exact_has op s t r e f = ap Some f ∙ sym (ap (λ b. cond b None (Some (term_value op s t))) e)

has_exact : (op : Term) (s t r : Shape) → Some r ≡ exact_term op s t → r ≡ term_value op s t
unfolding exact_term
has_exact op s t r e = by_test (lacks op s t) e
  where
    by_test : (b : Bool) → Some r ≡ cond b None (Some (term_value op s t)) → r ≡ term_value op s t
    by_test true e = cc
    by_test false e = cc

pub term_holds : (op : Term) (a b : Ival) (r : Option Ival) → shape_option r ≡ exact_term op a.shape b.shape → IfSome r (λ v. AllDefined op a b) → IfSome r (λ v. (n : ℤ) → Outcome (term op) a b n → Holds v n)
term_holds op a b None e d = tt
term_holds op a b (Some v) e d = λ n o.
    subst (λ s. Has s n) (sym (has_exact op a.shape b.shape v.shape e))
    ((term_value-covers op a.shape b.shape (sets op a b d)).holds n (record { left = o.left; right = o.right; has_left = o.in_left; has_right = o.in_right; is = o.is }))

pub term_single : (op : Term) (a b : Ival) (r : Option Ival) → shape_option r ≡ exact_term op a.shape b.shape → IfSome r (λ v. AllDefined op a b) → (x y : ℤ) → IsOnly a x → IsOnly b y → IfSome r (λ v. IsOnly v (term op x y))
term_single op a b None e d x y h k = tt
term_single op a b (Some v) e d x y h k = single-only op a b v d (has_exact op a.shape b.shape v.shape e) x y h k

no_zero_divisor : (op : Term) (a b : Ival) → AllDefined op a b → ((x y : ℤ) → IsDefined op x y → 0 < unsigned_abs y) → (x : ℤ) → Holds a x → Holds b (pos 0) → ⊥
no_zero_divisor op a b d f x h k = let c : 0 < 0 = f x (pos 0) (d x (pos 0) h k) in omega arith

pub term_divided : (op : Term) (a b : Ival) (r : Option Ival) → ((x y : ℤ) → IsDefined op x y → 0 < unsigned_abs y) → IfSome r (λ v. AllDefined op a b) → IfSome r (λ v. (x : ℤ) → Holds a x → Holds b (pos 0) → ⊥)
term_divided op a b None f d = tt
term_divided op a b (Some v) f d = no_zero_divisor op a b d f

pub zero_divisor : (op : Term) (a b : Ival) → ((x y : ℤ) → 0 < unsigned_abs y → IsDefined op x y) → Lacks op a b → (x : ℤ) × Holds a x × Holds b (pos 0)
zero_divisor op a b f l = (l.left, l.in_left, subst (Holds b) (only l.right (λ h. l.undefined (f l.left l.right h))) l.in_right)
  where
    only : (y : ℤ) → (0 < unsigned_abs y → ⊥) → y ≡ pos 0
    only (pos zero) h = refl
    only (pos (suc n)) h = absurd (h (omega arith))
    only (negsuc n) h = absurd (h (omega arith))

pub term_undivided : (op : Term) (a b : Ival) (r : Option Ival) → ((x y : ℤ) → 0 < unsigned_abs y → IsDefined op x y) → IfNone r (Lacks op a b) → IfNone r ((x : ℤ) × Holds a x × Holds b (pos 0))
term_undivided op a b None f l = zero_divisor op a b f l
term_undivided op a b (Some v) f l = tt
