-- Sums that stay, and the sets of all of them.
use Rattle.std.proofs.Common.{◌≡◌, ◌^◌, Bool, true, false, cond, ℤ, pos, ◌+ℤ◌, ◌-ℤ◌, Option, Some, None, refl, sym, subst, ap, ◌∙◌, arith}
use Rattle.std.specs.Prelude.{◌&&◌, int_le, neg_ℤ}
use Rattle.std.proofs.lemmas.Int.{ints}
use lib.Signed.{◌<ℤ◌, ◌≤ℤ◌}
use Rattle.ival_core.specs.declared.value.Shape.{Shape}
use Rattle.ival_core.specs.declared.value.Ival.{Ival}
use Rattle.ival_core.specs.Sets.{IsNumber, IsLeast, Has}
use Rattle.ival_core.specs.Ivals.{Holds, IsBounds}
use Rattle.ival_core.specs.Views.{bounds_of}
use Rattle.ival_core.proofs.Insertion.{IsLeast-same}
use Rattle.ival_core.proofs.Orders.{true_le, false_le}
use Rattle.ival_arith.specs.declared.pieces.Change.TheVariants.{Negative}
use Rattle.ival_arith.specs.Pieces.{all_changed}
use Rattle.ival_arith.specs.Sums.{sums}
use Rattle.ival_arith.specs.Promises.{Outcome, Leaves, Stays}
use Rattle.ival_arith.specs.Exact.{sums_stay, exact_sum}
use Rattle.ival_arith.proofs.Parts.{all_changed-exactly}
use Rattle.ival_arith.proofs.Adding.{Sum, sums-makes}

pub stays_none : (f : ℤ → ℤ → ℤ) (a b : Ival) → ((n : ℤ) → Holds a n → ⊥) → Stays f a b
stays_none f a b h x y i j = absurd (h x i)

pub stays_none_right : (f : ℤ → ℤ → ℤ) (a b : Ival) → ((n : ℤ) → Holds b n → ⊥) → Stays f a b
stays_none_right f a b h x y i j = absurd (h y j)

pub stays_between : (a b : Ival) (la ha lb hb : ℤ) → IsBounds a la ha → IsBounds b lb hb → neg_ℤ (pos (2 ^ 120)) ≤ℤ (la +ℤ lb) → (ha +ℤ hb) ≤ℤ pos (2 ^ 120) → Stays (λ x y. x +ℤ y) a b
stays_between a b la ha lb hb h k l m x y i j =
    let p = h.between x i in
    let q = k.between y j in
    let c = p.0 in let d = p.1 in let e = q.0 in let f = q.1 in
    record { least = omega (arith, ints); greatest = omega (arith, ints) }

pub leaves_low : (a b : Ival) (la ha lb hb : ℤ) → IsBounds a la ha → IsBounds b lb hb → (la +ℤ lb) <ℤ neg_ℤ (pos (2 ^ 120)) → Leaves (λ x y. x +ℤ y) a b
leaves_low a b la ha lb hb h k l = record { left = la; right = lb; in_left = h.first; in_right = k.first; leaves = λ n. under la lb n l }
  where
    under : (x y : ℤ) → IsNumber (x +ℤ y) → (x +ℤ y) <ℤ neg_ℤ (pos (2 ^ 120)) → ⊥
    under x y n l = let a = n.least in omega (arith, ints)

pub leaves_high : (a b : Ival) (la ha lb hb : ℤ) → IsBounds a la ha → IsBounds b lb hb → pos (2 ^ 120) <ℤ (ha +ℤ hb) → Leaves (λ x y. x +ℤ y) a b
leaves_high a b la ha lb hb h k l = record { left = ha; right = hb; in_left = h.last; in_right = k.last; leaves = λ n. over ha hb n l }
  where
    over : (x y : ℤ) → IsNumber (x +ℤ y) → pos (2 ^ 120) <ℤ (x +ℤ y) → ⊥
    over x y n l = let a = n.greatest in omega (arith, ints)

pub stay_else : (la ha lb hb : ℤ) → neg_ℤ (pos (2 ^ 120)) ≤ℤ (la +ℤ lb) → int_le (ha +ℤ hb) (pos (2 ^ 120)) ≡ sums_stay (Some (la, ha)) (Some (lb, hb))
stay_else la ha lb hb h = sym (ap (λ b. b && int_le (ha +ℤ hb) (pos (2 ^ 120))) (true_le (neg_ℤ (pos (2 ^ 120))) (la +ℤ lb) h))

pub stay_not : (la ha lb hb : ℤ) → (la +ℤ lb) <ℤ neg_ℤ (pos (2 ^ 120)) → false ≡ sums_stay (Some (la, ha)) (Some (lb, hb))
stay_not la ha lb hb h = sym (ap (λ b. b && int_le (ha +ℤ hb) (pos (2 ^ 120))) (false_le (neg_ℤ (pos (2 ^ 120))) (la +ℤ lb) h))

pub stay_same : (s t : Option (ℤ × ℤ)) (a b : Option (ℤ × ℤ)) (r : Bool) → a ≡ s → b ≡ t → r ≡ sums_stay a b → r ≡ sums_stay s t
stay_same s t a b r e f g = g ∙ ap (λ x. sums_stay x b) e ∙ ap (sums_stay s) f

pub exact_some : (s t r : Shape) → sums_stay (bounds_of s) (bounds_of t) ≡ true → r ≡ sums (neg_ℤ (pos (2 ^ 120))) (pos (2 ^ 120)) s t → Some r ≡ exact_sum s t
unfolding exact_sum
exact_some s t r e f = ap Some f ∙ sym (ap (λ b. cond b (Some (sums (neg_ℤ (pos (2 ^ 120))) (pos (2 ^ 120)) s t)) None) e)

pub exact_none : (s t : Shape) → sums_stay (bounds_of s) (bounds_of t) ≡ false → None ≡ exact_sum s t
unfolding exact_sum
exact_none s t e = sym (ap (λ b. cond b (Some (sums (neg_ℤ (pos (2 ^ 120))) (pos (2 ^ 120)) s t)) None) e)

limits : (n : ℤ) → n ≡ neg_ℤ (pos (2 ^ 120)) → IsNumber n
limits n e = record { least = omega (arith, ints); greatest = omega (arith, ints) }

limit : (n : ℤ) → n ≡ pos (2 ^ 120) → IsNumber n
limit n e = record { least = omega (arith, ints); greatest = omega (arith, ints) }

pub exact_least : (a b : Ival) (r : Shape) → Stays (λ x y. x +ℤ y) a b → r ≡ sums (neg_ℤ (pos (2 ^ 120))) (pos (2 ^ 120)) a.shape b.shape → IsLeast (Outcome (λ x y. x +ℤ y) a b) r
exact_least a b r h e =
    let m = sums-makes (neg_ℤ (pos (2 ^ 120))) (pos (2 ^ 120)) a.shape b.shape
    (record { left = a.valid; right = b.valid; least = limits (neg_ℤ (pos (2 ^ 120))) refl; greatest = limit (pos (2 ^ 120)) refl; sums = h })
    (record { above = λ x y i j. let n = h x y i j in n.least; below = λ x y i j. let n = h x y i j in n.greatest }) in
    subst (IsLeast (Outcome (λ x y. x +ℤ y) a b)) (sym e)
    (IsLeast-same (Sum (Holds a) (Holds b)) (Outcome (λ x y. x +ℤ y) a b) (sums (neg_ℤ (pos (2 ^ 120))) (pos (2 ^ 120)) a.shape b.shape)
    (λ n s. record { left = s.left; right = s.right; in_left = s.has_left; in_right = s.has_right; is = s.is })
    (λ n s. record { left = s.left; right = s.right; has_left = s.in_left; has_right = s.in_right; is = s.is }) m.least)

-- ---- differences, as sums with negated numbers

pub number_negated : (n : ℤ) → IsNumber n → IsNumber (neg_ℤ n)
number_negated n h = let a = h.least in let b = h.greatest in record { least = omega (arith, ints); greatest = omega (arith, ints) }

-- v has the negated numbers of b
pub record Negates (b v : Ival) : Type 0 where
  pub onto : (n : ℤ) → Holds b n → Holds v (neg_ℤ n)
  pub back : (n : ℤ) → Holds v n → Holds b (neg_ℤ n)

pub negates : (b v : Ival) → ((n : ℤ) → Holds b n → IsNumber n) → v.shape ≡ all_changed Negative b.shape → Negates b v
negates b v h e =
    let x = all_changed-exactly Negative b.shape tt b.valid (λ n i. number_negated n (h n i)) in
    record {
      onto = λ n i. subst (λ s. Has s (neg_ℤ n)) (sym e) (x.holds (neg_ℤ n) (record { from = n; has = i; is = refl }));
      back = λ n i. let k = x.only n (subst (λ s. Has s n) e i) in subst (Holds b) (twice n k.from k.is) k.has;
    }
  where
    twice : (n m : ℤ) → n ≡ neg_ℤ m → m ≡ neg_ℤ n
    twice n m e = omega (arith, ints)

turn : (x y : ℤ) → x +ℤ y ≡ x -ℤ neg_ℤ y
turn x y = omega (arith, ints)

pub stays_negated : (a b v : Ival) → Negates b v → Stays (λ x y. x +ℤ y) a v → Stays (λ x y. x -ℤ y) a b
stays_negated a b v n h x y i j = h x (neg_ℤ y) i (n.onto y j)

pub leaves_negated : (a b v : Ival) → Negates b v → Leaves (λ x y. x +ℤ y) a v → Leaves (λ x y. x -ℤ y) a b
leaves_negated a b v n l = record {
  left = l.left;
  right = neg_ℤ l.right;
  in_left = l.in_left;
  in_right = n.back l.right l.in_right;
  leaves = λ h. l.leaves (subst IsNumber (sym (turn l.left l.right)) h);
}

pub least_negated : (a b v : Ival) (s : Shape) → Negates b v → IsLeast (Outcome (λ x y. x +ℤ y) a v) s → IsLeast (Outcome (λ x y. x -ℤ y) a b) s
least_negated a b v s n h =
    IsLeast-same (Outcome (λ x y. x +ℤ y) a v) (Outcome (λ x y. x -ℤ y) a b) s
    (λ k o. record { left = o.left; right = neg_ℤ o.right; in_left = o.in_left; in_right = n.back o.right o.in_right; is = o.is ∙ turn o.left o.right })
    (λ k o. record { left = o.left; right = neg_ℤ o.right; in_left = o.in_left; in_right = n.onto o.right o.in_right; is = o.is }) h
