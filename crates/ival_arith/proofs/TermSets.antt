-- What products, quotients and remainders without wrap hold.
use Rattle.std.proofs.Common.{◌≡◌, ◌⊎◌, ℕ, zero, suc, ◌-◌, ◌*◌, ◌<◌, ◌≤◌, ◌^◌, Bool, true, false, cond, ℤ, pos, negsuc, List, [], ◌∷◌, Option, Some, None, min, refl, sym, subst, ap, ◌∙◌, inl, inr, arith}
use Rattle.std.specs.Prelude.{neg_ℤ, ◌*ℤ◌, ◌&&◌, int_div, int_lt, nat_lt, unsigned_abs}
use Rattle.std.proofs.lemmas.Int.{ints, unsigned_abs-mul, rem_below}
use Rattle.std.proofs.lemmas.Nat.{mul-le}
use Rattle.std.proofs.Math.Nat.{one-dvd}
use lib.IntN.{*ℤ_comm, *ℤ-zero}
use lib.Signed.{◌≤ℤ◌}
use Rattle.c_base.specs.Operators.{is_zero}
use Rattle.ival_core.specs.declared.value.Progression.{Progression}
use Rattle.ival_core.specs.declared.value.Ival.{Ival}
use Rattle.ival_core.specs.declared.value.Shape.{Shape}
use Rattle.ival_core.specs.declared.value.Shape.TheVariants.{Few, Many}
use Rattle.ival_core.specs.Sets.{apart, Among, IsNumber, IsValid, Has, Steps}
use Rattle.ival_core.specs.Ivals.{Holds, IsOnly}
use Rattle.ival_core.specs.Joined.{joined}
use Rattle.ival_core.specs.Views.{bounds_of}
use Rattle.ival_core.proofs.Counting.{Among-left, Among-right, Among-split}
use Rattle.ival_core.proofs.Insertion.{AllNumbers-from_among, Holds-number}
use Rattle.ival_core.proofs.Joined.{Makes, joined-makes}
use Rattle.ival_core.proofs.Orders.{lt_true, lt_false}
use Rattle.ival_arith.specs.declared.terms.Term.{Term}
use Rattle.ival_arith.specs.declared.terms.Term.TheVariants.{Product, Quotient, Remainder}
use Rattle.ival_arith.specs.declared.pieces.Change.TheVariants.{Negative, Times}
use Rattle.ival_arith.specs.Pieces.{none, gathered, all_changed}
use Rattle.ival_arith.specs.Values.{extent, is_natural}
use Rattle.ival_arith.specs.Kinds.{holds_number, holds_some, is_out}
use Rattle.ival_arith.specs.Terms.{term, IsDefined, terms, crossed, around, scaled, scaled_onto, long_term, term_value, lacks, AllDefined, Lacks}
use Rattle.ival_arith.proofs.Singling.{single_shape}
use Rattle.ival_arith.proofs.Fits.{Makes-same, Exactly, gathered-makes, gathered-exactly, none-exactly}
use Rattle.ival_arith.proofs.Parts.{Image, all_changed-exactly, run-exactly}
use Rattle.ival_arith.proofs.Multiplying.{zero_is, not_zero, turn_product, keep_product}
use Rattle.ival_arith.proofs.Spreading.{Covers, Bounded, bounded, quotient_near, quotient_natural, natural_product, both_true, rest_is}
use Rattle.ival_arith.proofs.Exacting.{number_negated}
use Rattle.ival_arith.proofs.Bounding.{BoundsAre, bounds_are}
use Rattle.ival_arith.proofs.Bounding.{number_held, held_number}
use Rattle.ival_arith.proofs.Failing.{Out, SomeOut, not_out, out_false, products_out, out_true}
use Rattle.ival_arith.proofs.Making.{FitsEnds}

-- n is the term of a number with P and one with Q
pub record TermOf (op : Term) (P Q : ℤ → Type 0) (n : ℤ) : Type 0 where
  pub left : ℤ
  pub right : ℤ
  pub has_left : P left
  pub has_right : Q right
  pub is : n ≡ term op left right

-- ---- numbers of terms

pub quotient_number : (x y : ℤ) → IsNumber x → IsNumber (int_div x y)
quotient_number x y h =
    let q = quotient_near x y in let a = h.least in let b = h.greatest in
    record { least = omega (arith, ints); greatest = omega (arith, ints) }

pub term_number : (op : Term) (x y : ℤ) → IsNumber x → IsNumber y → IsDefined op x y → IsNumber (term op x y)
term_number Product x y h k d = d
term_number Quotient x y h k d = quotient_number x y h
term_number Remainder x y h k d =
    let r = rem_below x y d in let a = k.least in let b = k.greatest in
    record { least = omega (arith, ints); greatest = omega (arith, ints) }

-- ---- few numbers

terms_among : (op : Term) (x : ℤ) (ys : List ℤ) (n : ℤ) → Among (terms op x ys) n → (y : ℤ) × Among ys y × (n ≡ term op x y)
unfolding terms
terms_among op x [] n m = absurd m
terms_among op x (y ∷ ys) n (inl e) = (y, inl refl, e)
terms_among op x (y ∷ ys) n (inr m) = let r = terms_among op x ys n m in (r.0, inr r.1, r.2)

among_terms : (op : Term) (x : ℤ) (ys : List ℤ) (y : ℤ) → Among ys y → Among (terms op x ys) (term op x y)
unfolding terms
among_terms op x [] y m = absurd m
among_terms op x (z ∷ ys) y (inl e) = inl (ap (term op x) e)
among_terms op x (z ∷ ys) y (inr m) = inr (among_terms op x ys y m)

crossed_among : (op : Term) (xs ys : List ℤ) (n : ℤ) → Among (crossed op xs ys) n → TermOf op (Among xs) (Among ys) n
unfolding crossed
crossed_among op [] ys n m = absurd m
crossed_among op (x ∷ xs) ys n m = elim (Among-split (terms op x ys) (crossed op xs ys) n m) [
  | inl k ↦ let r = terms_among op x ys n k in record { left = x; right = r.0; has_left = inl refl; has_right = r.1; is = r.2 }
  | inr k ↦ let r = crossed_among op xs ys n k in record { left = r.left; right = r.right; has_left = inr r.has_left; has_right = r.has_right; is = r.is }
]

among_crossed : (op : Term) (xs ys : List ℤ) (x y : ℤ) → Among xs x → Among ys y → Among (crossed op xs ys) (term op x y)
unfolding crossed
among_crossed op [] ys x y a b = absurd a
among_crossed op (z ∷ xs) ys x y (inl e) b = Among-left (terms op z ys) (crossed op xs ys) (term op x y) (subst (λ k. Among (terms op z ys) (term op k y)) (sym e) (among_terms op z ys y b))
among_crossed op (z ∷ xs) ys x y (inr a) b = Among-right (terms op z ys) (crossed op xs ys) (term op x y) (among_crossed op xs ys x y a b)

-- each two numbers have a term, which a set may hold
pub record Defined (op : Term) (P Q : ℤ → Type 0) : Type 0 where
  pub defined : (x y : ℤ) → P x → Q y → IsDefined op x y
  pub left : (x : ℤ) → P x → IsNumber x
  pub right : (y : ℤ) → Q y → IsNumber y

few_makes : (op : Term) (xs ys : List ℤ) → Defined op (Among xs) (Among ys) → Makes (TermOf op (Among xs) (Among ys)) (gathered (crossed op xs ys))
few_makes op xs ys d =
    Makes-same (Among (crossed op xs ys)) (TermOf op (Among xs) (Among ys)) (gathered (crossed op xs ys))
    (λ n m. crossed_among op xs ys n m)
    (λ n r. subst (Among (crossed op xs ys)) (sym r.is) (among_crossed op xs ys r.left r.right r.has_left r.has_right))
    (gathered-makes (crossed op xs ys) (AllNumbers-from_among (crossed op xs ys) (λ n m.
    let r = crossed_among op xs ys n m in
    subst IsNumber (sym r.is) (term_number op r.left r.right (d.left r.left r.has_left) (d.right r.right r.has_right) (d.defined r.left r.right r.has_left r.has_right)))))

-- ---- numbers near 0

-- n is at most m away from 0, and not negative where natural says so
pub record Near (natural : Bool) (m : ℕ) (n : ℤ) : Type 0 where
  pub near : unsigned_abs n ≤ m
  pub above : natural ≡ true → pos 0 ≤ℤ n

pub around-covers : (natural : Bool) (m : ℕ) → m ≤ 2 ^ 120 → Covers (Near natural m) (around natural m)
unfolding around
around-covers true m h =
    let x = run-exactly (pos 0) (pos m) 1 (record { least = omega (arith, ints); greatest = omega (arith, ints) }) (record { least = omega (arith, ints); greatest = omega (arith, ints) }) (omega (arith, ints)) (omega arith) in
    record { valid = x.valid; holds = λ n s. let a = s.near in x.holds n (record { above = s.above refl; below = omega (arith, ints); meets = one-dvd (apart (pos 0) n) }) }
around-covers false m h =
    let x = run-exactly (neg_ℤ (pos m)) (pos m) 1 (record { least = omega (arith, ints); greatest = omega (arith, ints) }) (record { least = omega (arith, ints); greatest = omega (arith, ints) }) (omega (arith, ints)) (omega arith) in
    record { valid = x.valid; holds = λ n s. let a = s.near in x.holds n (record { above = omega (arith, ints); below = omega (arith, ints); meets = one-dvd (apart (neg_ℤ (pos m)) n) }) }

-- ---- a set times one number

-- the numbers with P, each y times, are numbers that a set may hold
pub record Scales (P : ℤ → Type 0) (y : ℤ) : Type 0 where
  pub product : (x : ℤ) → P x → IsNumber (x *ℤ y)
  pub number : (x : ℤ) → P x → IsNumber x

pub turned-exactly : (s : Shape) (negative : Bool) → IsValid s → ((x : ℤ) → Has s x → IsNumber x) → Exactly (Image (Has s) (λ x. cond negative (neg_ℤ x) x)) (cond negative (all_changed Negative s) s)
turned-exactly s true v h = all_changed-exactly Negative s tt v (λ n i. number_negated n (h n i))
turned-exactly s false v h = record { valid = v; holds = λ n i. subst (Has s) (sym i.is) i.has; only = λ n i. record { from = n; has = i; is = refl } }

pub turned_times : (negative : Bool) (x y : ℤ) → int_lt y (pos 0) ≡ negative → cond negative (neg_ℤ x) x *ℤ pos (unsigned_abs y) ≡ x *ℤ y
turned_times true x y e = turn_product x y (lt_true y (pos 0) e)
turned_times false x y e = keep_product x y (lt_false y (pos 0) e)

small_scaled : (s : Shape) (y : ℤ) (negative : Bool) → int_lt y (pos 0) ≡ negative → 0 < unsigned_abs y → IsValid s → Scales (Has s) y →
    Covers (Image (Has s) (λ x. x *ℤ y)) (all_changed (Times (unsigned_abs y)) (cond negative (all_changed Negative s) s))
small_scaled s y negative e some v h =
    let t = turned-exactly s negative v h.number in
    let u = cond negative (all_changed Negative s) s in
    let x = all_changed-exactly (Times (unsigned_abs y)) u some t.valid (λ n i.
    let k = t.only n i in
    subst IsNumber (sym (ap (λ z. z *ℤ pos (unsigned_abs y)) k.is ∙ turned_times negative k.from y e)) (h.product k.from k.has)) in
    record {
      valid = x.valid;
      holds = λ n i. x.holds n (record {
        from = cond negative (neg_ℤ i.from) i.from;
        has = t.holds (cond negative (neg_ℤ i.from) i.from) (record { from = i.from; has = i.has; is = refl });
        is = i.is ∙ sym (turned_times negative i.from y e);
      });
    }

far_product : (s : Shape) (b : Bounded s) (x y : ℤ) → Has s x → IsNumber (x *ℤ y) → unsigned_abs (x *ℤ y) ≤ min (extent (bounds_of s) * unsigned_abs y) (2 ^ 120)
far_product s b x y h n =
    let e = unsigned_abs-mul x y in
    let m = mul-le (unsigned_abs x) (unsigned_abs y) (extent (bounds_of s)) (unsigned_abs y) (b.near x h) (omega arith) in
    let c = n.least in let d = n.greatest in
    let f : unsigned_abs (x *ℤ y) ≤ 2 ^ 120 = omega (arith, ints) in
    omega arith

far_small : (a b : ℕ) → min (a * b) (2 ^ 120) ≤ 2 ^ 120
far_small a b = omega arith

pub scaled-covers : (s : Shape) (y : ℤ) → IsValid s → Scales (Has s) y → Covers (Image (Has s) (λ x. x *ℤ y)) (scaled y s)
unfolding scaled
scaled-covers s y v h = by_tests (is_zero y) (nat_lt (unsigned_abs y) (2 ^ 64)) (λ e. zero_is y e) (λ e. not_zero y e)
  where
    by_tests : (z l : Bool) → (z ≡ true → y ≡ pos 0) → (z ≡ false → 0 < unsigned_abs y) → Covers (Image (Has s) (λ x. x *ℤ y))
        (cond z (Few (record { items = pos 0 ∷ [] })) (cond l (all_changed (Times (unsigned_abs y)) (cond (int_lt y (pos 0)) (all_changed Negative s) s)) (around false (min (extent (bounds_of s) * unsigned_abs y) (2 ^ 120)))))
    by_tests true l f g = record {
      valid = record { small = omega arith; ascending = (tt, tt); numbers = (record { least = omega (arith, ints); greatest = omega (arith, ints) }, tt) };
      holds = λ n i. inl (i.is ∙ ap (λ z. i.from *ℤ z) (f refl) ∙ *ℤ-zero i.from);
    }
    by_tests false true f g = small_scaled s y (int_lt y (pos 0)) refl (g refl) v h
    by_tests false false f g =
        let c = around-covers false (min (extent (bounds_of s) * unsigned_abs y) (2 ^ 120)) (far_small (extent (bounds_of s)) (unsigned_abs y)) in
        record { valid = c.valid; holds = λ n i. c.holds n (record { near = subst (λ z. unsigned_abs z ≤ min (extent (bounds_of s) * unsigned_abs y) (2 ^ 120)) (sym i.is) (far_product s (bounded s v) i.from y i.has (h.product i.from i.has)); above = λ e. cc }) }

-- ---- long sets

Covers-joined : (P Q : ℤ → Type 0) (s t : Shape) → Covers P s → Covers Q t → Covers (λ n. P n ⊎ Q n) (joined s t)
Covers-joined P Q s t a b =
    let j = joined-makes s t a.valid b.valid in
    record { valid = j.valid; holds = λ n h. j.least.holds n (elim h [ inl p ↦ inl (a.holds n p) | inr q ↦ inr (b.holds n q) ]) }

scaled_onto-covers : (R : ℤ → Type 0) (all s : Shape) (ys : List ℤ) → Covers R all → IsValid s → ((y : ℤ) → Among ys y → Scales (Has s) y) →
    Covers (λ n. R n ⊎ TermOf Product (Has s) (Among ys) n) (scaled_onto all s ys)
unfolding scaled_onto
scaled_onto-covers R all s [] c v h = record { valid = c.valid; holds = λ n i. elim i [ inl r ↦ c.holds n r | inr t ↦ absurd (t.has_right) ] }
scaled_onto-covers R all s (y ∷ ys) c v h =
    let j = Covers-joined R (Image (Has s) (λ x. x *ℤ y)) all (scaled y s) c (scaled-covers s y v (h y (inl refl))) in
    let k = scaled_onto-covers (λ n. R n ⊎ Image (Has s) (λ x. x *ℤ y) n) (joined all (scaled y s)) s ys j v (λ z m. h z (inr m)) in
    record { valid = k.valid; holds = λ n i. k.holds n (elim i [ inl r ↦ inl (inl r) | inr t ↦ apart_of n t t.has_right ]) }
  where
    apart_of : (n : ℤ) (t : TermOf Product (Has s) (Among (y ∷ ys)) n) → (t.right ≡ y) ⊎ Among ys t.right → (R n ⊎ Image (Has s) (λ x. x *ℤ y) n) ⊎ TermOf Product (Has s) (Among ys) n
    apart_of n t (inl e) = inl (inr (record { from = t.left; has = t.has_left; is = t.is ∙ ap (λ z. t.left *ℤ z) e }))
    apart_of n t (inr m) = inr (record { left = t.left; right = t.right; has_left = t.has_left; has_right = m; is = t.is })

none-covers : Covers (λ n. ⊥) none
none-covers = let e = none-exactly in record { valid = e.valid; holds = e.holds }

scaled_by-covers : (s : Shape) (ys : List ℤ) → IsValid s → ((y : ℤ) → Among ys y → Scales (Has s) y) → Covers (TermOf Product (Has s) (Among ys)) (scaled_onto none s ys)
scaled_by-covers s ys v h =
    let c = scaled_onto-covers (λ n. ⊥) none s ys none-covers v h in
    record { valid = c.valid; holds = λ n t. c.holds n (inr t) }

-- two sets of numbers, all terms of which are defined
pub record Sets (op : Term) (s t : Shape) : Type 0 where
  pub left : IsValid s
  pub right : IsValid t
  pub defined : Defined op (Has s) (Has t)

swapped : (s t : Shape) → Sets Product s t → (y : ℤ) → Has s y → Scales (Has t) y
swapped s t k y h = record { product = λ x i. subst IsNumber (*ℤ_comm y x) (k.defined.defined y x h i); number = λ x i. k.defined.right x i }

turned_term : (s t : Shape) (n : ℤ) → TermOf Product (Has s) (Has t) n → TermOf Product (Has t) (Has s) n
turned_term s t n r = record { left = r.right; right = r.left; has_left = r.has_right; has_right = r.has_left; is = r.is ∙ *ℤ_comm r.left r.right }

hull-covers : (p q : Progression) → Sets Product (Many p) (Many q) → Covers (TermOf Product (Steps p) (Steps q)) (long_term Product (Many p) (Many q))
unfolding long_term
hull-covers p q k =
    let a = bounded (Many p) k.left in
    let b = bounded (Many q) k.right in
    let e = extent (bounds_of (Many p)) in
    let f = extent (bounds_of (Many q)) in
    let natural = is_natural (bounds_of (Many p)) && is_natural (bounds_of (Many q)) in
    let c = around-covers natural (min (e * f) (2 ^ 120)) (far_small e f) in
    record {
      valid = c.valid;
      holds = λ n t. c.holds n (subst (Near natural (min (e * f) (2 ^ 120))) (sym t.is) (record {
        near =
            let m = mul-le (unsigned_abs t.left) (unsigned_abs t.right) e f (a.near t.left t.has_left) (b.near t.right t.has_right) in
            near_limits (t.left *ℤ t.right) (e * f) (k.defined.defined t.left t.right t.has_left t.has_right) (subst (λ z. z ≤ e * f) (sym (unsigned_abs-mul t.left t.right)) m);
        above = λ h. let g = both_true (is_natural (bounds_of (Many p))) (is_natural (bounds_of (Many q))) h in natural_product t.left t.right (a.natural g.0 t.left t.has_left) (b.natural g.1 t.right t.has_right);
      }));
    }
  where
    near_limits : (z : ℤ) (m : ℕ) → IsNumber z → unsigned_abs z ≤ m → unsigned_abs z ≤ min m (2 ^ 120)
    near_limits z m n h = let c = n.least in let d = n.greatest in let f : unsigned_abs z ≤ 2 ^ 120 = omega (arith, ints) in omega arith

product-covers : (s t : Shape) → Sets Product s t → Covers (TermOf Product (Has s) (Has t)) (long_term Product s t)
unfolding long_term
product-covers (Few v) t k =
    let c = scaled_by-covers t v.items k.right (λ y m. swapped (Few v) t k y m) in
    record { valid = c.valid; holds = λ n r. c.holds n (turned_term (Few v) t n r) }
product-covers (Many p) (Few u) k = scaled_by-covers (Many p) u.items k.left (λ y m. record { product = λ x i. k.defined.defined x y i m; number = λ x i. k.defined.left x i })
product-covers (Many p) (Many q) k = hull-covers p q k

pub numbers_near : (s : Shape) → IsValid s → ((x : ℤ) → Has s x → IsNumber x) → extent (bounds_of s) ≤ 2 ^ 120
numbers_near s v h = by_bounds (bounds_of s) (bounds_are s v)
  where
    near : (n : ℤ) → IsNumber n → unsigned_abs n ≤ 2 ^ 120
    near n k = let a = k.least in let b = k.greatest in omega (arith, ints)

    by_bounds : (b : Option (ℤ × ℤ)) → BoundsAre s b → extent b ≤ 2 ^ 120
    by_bounds None i = omega arith
    by_bounds (Some b) i = let x = near b.0 (h b.0 i.first) in let y = near b.1 (h b.1 i.last) in omega arith

quotient-covers : (s t : Shape) → Sets Quotient s t → Covers (TermOf Quotient (Has s) (Has t)) (long_term Quotient s t)
unfolding long_term
quotient-covers s t k =
    let a = bounded s k.left in
    let b = bounded t k.right in
    let natural = is_natural (bounds_of s) && is_natural (bounds_of t) in
    let c = around-covers natural (extent (bounds_of s)) (numbers_near s k.left k.defined.left) in
    record {
      valid = c.valid;
      holds = λ n r. c.holds n (subst (Near natural (extent (bounds_of s))) (sym r.is) (record {
        near = let x = quotient_near r.left r.right in let y = a.near r.left r.has_left in omega arith;
        above = λ h. let g = both_true (is_natural (bounds_of s)) (is_natural (bounds_of t)) h in quotient_natural r.left r.right (a.natural g.0 r.left r.has_left) (b.natural g.1 r.right r.has_right);
      }));
    }

remainder-covers : (s t : Shape) → Sets Remainder s t → Covers (TermOf Remainder (Has s) (Has t)) (long_term Remainder s t)
unfolding long_term
remainder-covers s t k =
    let a = bounded s k.left in
    let b = bounded t k.right in
    let m = min (extent (bounds_of s)) (extent (bounds_of t) - 1) in
    let l = numbers_near s k.left k.defined.left in
    let c = around-covers (is_natural (bounds_of s)) m (omega arith) in
    record {
      valid = c.valid;
      holds = λ n r. c.holds n (subst (Near (is_natural (bounds_of s)) m) (sym r.is) (
          let z = rest_is r.left r.right (k.defined.defined r.left r.right r.has_left r.has_right) in
          record {
            near = let x = a.near r.left r.has_left in let y = b.near r.right r.has_right in let u = z.near in let w = z.below in omega arith;
            above = λ h. (z.up (a.natural h r.left r.has_left)).0;
          }));
    }

long-covers : (op : Term) (s t : Shape) → Sets op s t → Covers (TermOf op (Has s) (Has t)) (long_term op s t)
long-covers Product s t k = product-covers s t k
long-covers Quotient s t k = quotient-covers s t k
long-covers Remainder s t k = remainder-covers s t k

pub term_value-covers : (op : Term) (s t : Shape) → Sets op s t → Covers (TermOf op (Has s) (Has t)) (term_value op s t)
unfolding term_value
term_value-covers op (Few v) (Few u) k = let m = few_makes op v.items u.items k.defined in record { valid = m.valid; holds = m.least.holds }
term_value-covers op (Few v) (Many q) k = long-covers op (Few v) (Many q) k
term_value-covers op (Many p) t k = long-covers op (Many p) t k

-- ---- where some term is not defined

not_number : (z : ℤ) → Out (neg_ℤ (pos (2 ^ 120))) (pos (2 ^ 120)) z → IsNumber z → ⊥
not_number z o n = not_out (neg_ℤ (pos (2 ^ 120))) (pos (2 ^ 120)) z (record { above = n.least; below = n.greatest }) o

by_test : (b : Bool) {P Q : Type 0} → (b ≡ true → P) → (b ≡ false → Q) → (b ≡ true → P) × (b ≡ false → Q)
by_test b f g = (f, g)

some_zero : (a b : Ival) → (holds_some (bounds_of a.shape) && holds_number b.shape (pos 0)) ≡ true → (x : ℤ) × Holds a x × Holds b (pos 0)
some_zero a b e = let g = both_true (holds_some (bounds_of a.shape)) (holds_number b.shape (pos 0)) e in first (bounds_of a.shape) (bounds_are a.shape a.valid) g.0 (number_held b.shape (pos 0) g.1)
  where
    first : (c : Option (ℤ × ℤ)) → BoundsAre a.shape c → holds_some c ≡ true → Holds b (pos 0) → (x : ℤ) × Holds a x × Holds b (pos 0)
    first None h e z = cc
    first (Some c) h e z = (c.0, h.first, z)

no_zero : (a b : Ival) → (holds_some (bounds_of a.shape) && holds_number b.shape (pos 0)) ≡ false → (x y : ℤ) → Holds a x → Holds b y → 0 < unsigned_abs y
no_zero a b e x y h k = positive y (λ i. clash (ap (λ t. t && holds_number b.shape (pos 0)) (held (bounds_of a.shape) (bounds_are a.shape a.valid)) ∙ held_number b.shape (pos 0) (subst (Holds b) i k)) e)
  where
    held : (c : Option (ℤ × ℤ)) → BoundsAre a.shape c → holds_some c ≡ true
    held None f = absurd (f x h)
    held (Some c) f = refl

    clash : {b : Bool} → b ≡ true → b ≡ false → ⊥
    clash e f = cc

    positive : (y : ℤ) → (y ≡ pos 0 → ⊥) → 0 < unsigned_abs y
    positive (pos zero) f = absurd (f refl)
    positive (pos (suc n)) f = omega arith
    positive (negsuc n) f = omega arith

pub lacks_true : (op : Term) (a b : Ival) → lacks op a.shape b.shape ≡ true → Lacks op a b
lacks_true Product a b e =
    let o = (products_out (neg_ℤ (pos (2 ^ 120))) (pos (2 ^ 120)) a.shape b.shape (bounds_of a.shape) (bounds_of b.shape) (bounds_are a.shape a.valid) (bounds_are b.shape b.valid)).0 e in
    record { left = o.left; right = o.right; in_left = o.has_left; in_right = o.has_right; undefined = λ n. not_number (o.left *ℤ o.right) o.out n }
lacks_true Quotient a b e = let z = some_zero a b e in record { left = z.0; right = pos 0; in_left = z.1; in_right = z.2; undefined = λ h. omega arith }
lacks_true Remainder a b e = let z = some_zero a b e in record { left = z.0; right = pos 0; in_left = z.1; in_right = z.2; undefined = λ h. omega arith }

pub lacks_false : (op : Term) (a b : Ival) → lacks op a.shape b.shape ≡ false → AllDefined op a b
lacks_false Product a b e x y h k = inside (out_false (neg_ℤ (pos (2 ^ 120))) (pos (2 ^ 120)) (x *ℤ y))
  where
    leave : SomeOut (λ x y. x *ℤ y) (neg_ℤ (pos (2 ^ 120))) (pos (2 ^ 120)) a.shape b.shape → ⊥
    leave o = clash ((products_out (neg_ℤ (pos (2 ^ 120))) (pos (2 ^ 120)) a.shape b.shape (bounds_of a.shape) (bounds_of b.shape) (bounds_are a.shape a.valid) (bounds_are b.shape b.valid)).1 o) e
      where
        clash : {b : Bool} → b ≡ true → b ≡ false → ⊥
        clash e f = cc

    inside : (is_out (neg_ℤ (pos (2 ^ 120))) (pos (2 ^ 120)) (x *ℤ y) ≡ false → FitsEnds (neg_ℤ (pos (2 ^ 120))) (pos (2 ^ 120)) (x *ℤ y)) → IsNumber (x *ℤ y)
    inside f = by_truth (is_out (neg_ℤ (pos (2 ^ 120))) (pos (2 ^ 120)) (x *ℤ y)) (λ t. leave (record { left = x; right = y; has_left = h; has_right = k; out = out_true (neg_ℤ (pos (2 ^ 120))) (pos (2 ^ 120)) (x *ℤ y) t })) f
      where
        by_truth : (b : Bool) → (b ≡ true → ⊥) → (b ≡ false → FitsEnds (neg_ℤ (pos (2 ^ 120))) (pos (2 ^ 120)) (x *ℤ y)) → IsNumber (x *ℤ y)
        by_truth true g f = absurd (g refl)
        by_truth false g f = let e = f refl in record { least = e.above; greatest = e.below }
lacks_false Quotient a b e x y h k = no_zero a b e x y h k
lacks_false Remainder a b e x y h k = no_zero a b e x y h k

pub sets : (op : Term) (a b : Ival) → AllDefined op a b → Sets op a.shape b.shape
sets op a b d = record { left = a.valid; right = b.valid; defined = record { defined = d; left = λ x h. Holds-number a x h; right = λ y h. Holds-number b y h } }

-- ---- single numbers

pub only_shape : (v : Ival) (x : ℤ) → IsOnly v x → v.shape ≡ Few (record { items = x ∷ [] })
only_shape v x h = single_shape v.shape x v.valid h

single_crossed : (op : Term) (x y : ℤ) → crossed op (x ∷ []) (y ∷ []) ≡ term op x y ∷ []
unfolding crossed terms
single_crossed op x y = refl

single_value : (op : Term) (x y : ℤ) → term_value op (Few (record { items = x ∷ [] })) (Few (record { items = y ∷ [] })) ≡ gathered (term op x y ∷ [])
unfolding term_value
single_value op x y = ap gathered (single_crossed op x y)

pub single-only : (op : Term) (a b v : Ival) → AllDefined op a b → v.shape ≡ term_value op a.shape b.shape → (x y : ℤ) → IsOnly a x → IsOnly b y → IsOnly v (term op x y)
single-only op a b v d e x y h k =
    let f : v.shape ≡ gathered (term op x y ∷ []) = e ∙ ap (λ s. term_value op s b.shape) (only_shape a x h) ∙ ap (term_value op (Few (record { items = x ∷ [] }))) (only_shape b y k) ∙ single_value op x y in
    let n = term_number op x y (Holds-number a x ((h x).1 refl)) (Holds-number b y ((k y).1 refl)) (d x y ((h x).1 refl) ((k y).1 refl)) in
    let g = gathered-exactly (term op x y ∷ []) (n, tt) (omega arith) in
    λ z. (
      (λ i. elim (g.only z (subst (λ s. Has s z) f i)) [ inl j ↦ j | inr j ↦ absurd j ]),
      (λ i. subst (λ s. Has s z) (sym f) (g.holds z (inl i))),
    )
