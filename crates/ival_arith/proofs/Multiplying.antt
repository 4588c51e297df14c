-- Products of the numbers of a run with one number.
use Rattle.std.proofs.Common.{◌≡◌, ℕ, zero, suc, ◌*◌, ◌/◌, ◌%◌, ◌<◌, ◌≤◌, ◌^◌, Bool, true, false, cond, ℤ, pos, negsuc, ◌+ℤ◌, [], ◌∷◌, refl, sym, subst, ap, ◌∙◌, inl, inr, arith}
use Rattle.std.specs.Prelude.{neg_ℤ, ◌*ℤ◌, int_lt, int_le, unsigned_abs, ◌&&◌}
use Rattle.std.proofs.lemmas.Int.{ints}
use Rattle.std.proofs.lemmas.Nat.{mul-le, le-div}
use Rattle.std.proofs.Math.Nat.{div-mul-le_self, div-le_self}
use lib.IntN.{*ℤ_comm, *ℤ-zero, *ℤ-negsuc}
use lib.Signed.{◌<ℤ◌, ◌≤ℤ◌}
use Rattle.c_base.specs.Integers.{residue}
use Rattle.c_base.specs.Operators.{is_zero}
use Rattle.c_base.proofs.Products.{mul-neg}
use Rattle.ival_core.specs.declared.value.Progression.{Progression}
use Rattle.ival_core.specs.declared.value.Shape.{Shape}
use Rattle.ival_core.specs.declared.value.Shape.TheVariants.{Few, Many}
use Rattle.ival_core.specs.Sets.{apart, IsNumber, IsLongRun, Steps}
use Rattle.ival_core.proofs.Runs.{Steps-low}
use Rattle.ival_core.proofs.Orders.{lt_true, lt_false, le_true}
use Rattle.ival_arith.specs.declared.pieces.Change.TheVariants.{Times}
use Rattle.ival_arith.specs.Pieces.{all_changed, clipped, run_negated, cycle}
use Rattle.ival_arith.specs.Values.{product_line}
use Rattle.ival_arith.proofs.Fits.{Fits, Fits-same, Exactly, Exactly-same}
use Rattle.ival_arith.proofs.Parts.{Image, Between, clipped-exactly, all_changed-exactly, run_negated-exactly, at_place, from_place, scaled_place}
use Rattle.ival_arith.proofs.Cycles.{Left, cycle-fits}
use Rattle.ival_arith.proofs.Reducing.{long, after_is}

-- where a factor puts a product between -below and above
record Cut (below above k : ℕ) (x : ℤ) : Type 0 where
  low : neg_ℤ (pos (below / k)) ≤ℤ x
  high : x ≤ℤ pos (above / k)

record Stays (below above k : ℕ) (x : ℤ) : Type 0 where
  low : neg_ℤ (pos below) ≤ℤ (x *ℤ pos k)
  high : (x *ℤ pos k) ≤ℤ pos above

quotient_bound : (a b k : ℕ) → 0 < k → a * k ≤ b → a ≤ b / k
quotient_bound a b k h l = le-div a b k h l

product_bound : (a b k : ℕ) → a ≤ b / k → a * k ≤ b
product_bound a b k l = let e : b / k * k ≤ b = div-mul-le_self b k in let f : a * k ≤ b / k * k = mul-le a k (b / k) k l (omega arith) in omega arith

cut : (below above k : ℕ) (x : ℤ) → 0 < k → Stays below above k x → Cut below above k x
cut below above k (pos a) h s =
    let b = s.high in
    let q : a ≤ above / k = quotient_bound a above k h (omega (arith, ints)) in
    record { low = omega (arith, ints); high = omega (arith, ints) }
cut below above k (negsuc a) h s =
    let b = s.low in
    let q : suc a ≤ below / k = quotient_bound (suc a) below k h (omega (arith, ints)) in
    record { low = omega (arith, ints); high = omega (arith, ints) }

stay : (below above k : ℕ) (x : ℤ) → Cut below above k x → Stays below above k x
stay below above k (pos a) c =
    let b = c.high in
    let q : a * k ≤ above = product_bound a above k (omega (arith, ints)) in
    record { low = omega (arith, ints); high = omega (arith, ints) }
stay below above k (negsuc a) c =
    let b = c.low in
    let q : suc a * k ≤ below = product_bound (suc a) below k (omega (arith, ints)) in
    record { low = omega (arith, ints); high = omega (arith, ints) }

-- a set of numbers, each k times
times-exactly : (below above k : ℕ) (P : ℤ → Type 0) (s : Shape) → 0 < k → below ≤ 2 ^ 64 → above ≤ 2 ^ 64 → Exactly P s →
    Exactly (Between (Image P (λ x. x *ℤ pos k)) (neg_ℤ (pos below)) (pos above)) (all_changed (Times k) (clipped (neg_ℤ (pos (below / k))) (pos (above / k)) s))
times-exactly below above k P s h b a e =
    let p : below / k ≤ below = div-le_self below k in
    let q : above / k ≤ above = div-le_self above k in
    let c = clipped-exactly (neg_ℤ (pos (below / k))) (pos (above / k)) s e.valid (record { least = omega (arith, ints); greatest = omega (arith, ints) }) (record { least = omega (arith, ints); greatest = omega (arith, ints) }) in
    let t = all_changed-exactly (Times k) (clipped (neg_ℤ (pos (below / k))) (pos (above / k)) s) h c.valid
    (λ n i. let j = c.only n i in number below above k n b a (stay below above k n (record { low = j.above; high = j.below }))) in
    record {
      valid = t.valid;
      holds = λ n i. t.holds n (let j = cut below above k i.has.from h (record { low = subst (λ z. neg_ℤ (pos below) ≤ℤ z) i.has.is i.above; high = subst (λ z. z ≤ℤ pos above) i.has.is i.below }) in
          record { from = i.has.from; has = c.holds i.has.from (record { has = e.holds i.has.from i.has.has; above = j.low; below = j.high }); is = i.has.is });
      only = λ n i.
          let j = t.only n i in
          let l = c.only j.from j.has in
          let m = stay below above k j.from (record { low = l.above; high = l.below }) in
          record { has = record { from = j.from; has = e.only j.from l.has; is = j.is }; above = subst (λ z. neg_ℤ (pos below) ≤ℤ z) (sym j.is) m.low; below = subst (λ z. z ≤ℤ pos above) (sym j.is) m.high };
    }
  where
    number : (below above k : ℕ) (x : ℤ) → below ≤ 2 ^ 64 → above ≤ 2 ^ 64 → Stays below above k x → IsNumber (x *ℤ pos k)
    number below above k x b a s = let c = s.low in let d = s.high in record { least = omega (arith, ints); greatest = omega (arith, ints) }

pub times_number : (below above k : ℕ) (x : ℤ) → below ≤ 2 ^ 64 → above ≤ 2 ^ 64 → neg_ℤ (pos (below / k)) ≤ℤ x → x ≤ℤ pos (above / k) → IsNumber (x *ℤ pos k)
times_number below above k x b a h l =
    let s = stay below above k x (record { low = h; high = l }) in
    let c = s.low in let d = s.high in record { least = omega (arith, ints); greatest = omega (arith, ints) }

pub zero_is : (y : ℤ) → is_zero y ≡ true → y ≡ pos 0
zero_is y e = by_tests (int_le y (pos 0)) (int_le (pos 0) y) (λ h. le_true y (pos 0) h) (λ h. le_true (pos 0) y h) e
  where
    by_tests : (s t : Bool) → (s ≡ true → y ≤ℤ pos 0) → (t ≡ true → pos 0 ≤ℤ y) → (s && t) ≡ true → y ≡ pos 0
    by_tests true true f g e = let a = f refl in let b = g refl in omega (arith, ints)
    by_tests true false f g e = cc
    by_tests false t f g e = cc

pub not_zero : (y : ℤ) → is_zero y ≡ false → 0 < unsigned_abs y
not_zero (pos zero) e = cc
not_zero (pos (suc n)) e = omega arith
not_zero (negsuc n) e = omega arith

pub turn_product : (x : ℤ) (y : ℤ) → y <ℤ pos 0 → neg_ℤ x *ℤ pos (unsigned_abs y) ≡ x *ℤ y
turn_product x (pos n) h = absurd (omega (arith, ints))
turn_product x (negsuc n) h =
    *ℤ_comm (neg_ℤ x) (pos (suc n)) ∙ mul-neg (pos (suc n)) x ∙ ap neg_ℤ (*ℤ_comm (pos (suc n)) x) ∙ sym (*ℤ-negsuc x n)

pub keep_product : (x : ℤ) (y : ℤ) → pos 0 ≤ℤ y → x *ℤ pos (unsigned_abs y) ≡ x *ℤ y
keep_product x (pos n) h = refl
keep_product x (negsuc n) h = absurd (omega (arith, ints))

pub product_line-exactly : (below above : ℕ) (p : Progression) (y : ℤ) → below ≤ 2 ^ 64 → above ≤ 2 ^ 64 → IsLongRun p →
    Exactly (Between (Image (Steps p) (λ x. x *ℤ y)) (neg_ℤ (pos below)) (pos above)) (product_line below above p y)
unfolding product_line
product_line-exactly below above p y b a l = by_tests (is_zero y) (int_lt y (pos 0)) (λ e. zero_is y e) (λ e. not_zero y e) (λ e. lt_true y (pos 0) e) (λ e. lt_false y (pos 0) e)
  where
    zeros : y ≡ pos 0 → Exactly (Between (Image (Steps p) (λ x. x *ℤ y)) (neg_ℤ (pos below)) (pos above)) (Few (record { items = pos 0 ∷ [] }))
    zeros e = record {
      valid = record { small = omega arith; ascending = (tt, tt); numbers = (record { least = omega (arith, ints); greatest = omega (arith, ints) }, tt) };
      holds = λ n i. inl (i.has.is ∙ ap (λ z. i.has.from *ℤ z) e ∙ *ℤ-zero i.has.from);
      only = λ n m. elim m [
        | inl i ↦ record {
          has = record { from = p.low; has = Steps-low p l; is = i ∙ sym (ap (λ z. p.low *ℤ z) e ∙ *ℤ-zero p.low) };
          above = subst (λ z. neg_ℤ (pos below) ≤ℤ z) (sym i) (omega (arith, ints));
          below = subst (λ z. z ≤ℤ pos above) (sym i) (omega (arith, ints));
        }
        | inr f ↦ absurd f
      ];
    }

    own : Exactly (Steps p) (Many p)
    own = record { valid = l; holds = λ n h. h; only = λ n h. h }

    down : 0 < unsigned_abs y → y <ℤ pos 0 → Exactly (Between (Image (Steps p) (λ x. x *ℤ y)) (neg_ℤ (pos below)) (pos above)) (all_changed (Times (unsigned_abs y)) (clipped (neg_ℤ (pos (below / unsigned_abs y))) (pos (above / unsigned_abs y)) (run_negated p)))
    down h m =
        Exactly-same (Between (Image (Image (Steps p) neg_ℤ) (λ x. x *ℤ pos (unsigned_abs y))) (neg_ℤ (pos below)) (pos above)) (Between (Image (Steps p) (λ x. x *ℤ y)) (neg_ℤ (pos below)) (pos above)) (all_changed (Times (unsigned_abs y)) (clipped (neg_ℤ (pos (below / unsigned_abs y))) (pos (above / unsigned_abs y)) (run_negated p)))
        (λ n i. record { has = record { from = i.has.has.from; has = i.has.has.has; is = i.has.is ∙ ap (λ z. z *ℤ pos (unsigned_abs y)) i.has.has.is ∙ turn_product i.has.has.from y m }; above = i.above; below = i.below })
        (λ n i. record { has = record { from = neg_ℤ i.has.from; has = record { from = i.has.from; has = i.has.has; is = refl }; is = i.has.is ∙ sym (turn_product i.has.from y m) }; above = i.above; below = i.below })
        (times-exactly below above (unsigned_abs y) (Image (Steps p) neg_ℤ) (run_negated p) h b a (run_negated-exactly p l))

    up : 0 < unsigned_abs y → pos 0 ≤ℤ y → Exactly (Between (Image (Steps p) (λ x. x *ℤ y)) (neg_ℤ (pos below)) (pos above)) (all_changed (Times (unsigned_abs y)) (clipped (neg_ℤ (pos (below / unsigned_abs y))) (pos (above / unsigned_abs y)) (Many p)))
    up h m =
        Exactly-same (Between (Image (Steps p) (λ x. x *ℤ pos (unsigned_abs y))) (neg_ℤ (pos below)) (pos above)) (Between (Image (Steps p) (λ x. x *ℤ y)) (neg_ℤ (pos below)) (pos above)) (all_changed (Times (unsigned_abs y)) (clipped (neg_ℤ (pos (below / unsigned_abs y))) (pos (above / unsigned_abs y)) (Many p)))
        (λ n i. record { has = record { from = i.has.from; has = i.has.has; is = i.has.is ∙ keep_product i.has.from y m }; above = i.above; below = i.below })
        (λ n i. record { has = record { from = i.has.from; has = i.has.has; is = i.has.is ∙ sym (keep_product i.has.from y m) }; above = i.above; below = i.below })
        (times-exactly below above (unsigned_abs y) (Steps p) (Many p) h b a own)

    by_tests : (s t : Bool) → (s ≡ true → y ≡ pos 0) → (s ≡ false → 0 < unsigned_abs y) → (t ≡ true → y <ℤ pos 0) → (t ≡ false → pos 0 ≤ℤ y) →
        Exactly (Between (Image (Steps p) (λ x. x *ℤ y)) (neg_ℤ (pos below)) (pos above))
        (cond s (Few (record { items = pos 0 ∷ [] })) (all_changed (Times (unsigned_abs y)) (clipped (neg_ℤ (pos (below / unsigned_abs y))) (pos (above / unsigned_abs y)) (cond t (run_negated p) (Many p)))))
    by_tests true t f g h k = zeros (f refl)
    by_tests false true f g h k = down (g refl) (h refl)
    by_tests false false f g h k = up (g refl) (k refl)

-- products modulo m
pub product_cycle-fits : (m : ℕ) (p : Progression) (k : ℕ) → 0 < m → m ≤ 2 ^ 64 → IsLongRun p →
    Fits (Image (Image (Steps p) (λ x. x *ℤ pos k)) (λ n. pos (residue m n))) (cycle m (residue m (p.low *ℤ pos k)) ((p.stride * k) % m) (apart p.low p.high / p.stride))
product_cycle-fits m p k h j l =
    let g = long p l in
    let n = apart p.low p.high / p.stride in
    Fits-same (Left m (residue m (p.low *ℤ pos k)) ((p.stride * k) % m) n) (Image (Image (Steps p) (λ x. x *ℤ pos k)) (λ n. pos (residue m n))) (cycle m (residue m (p.low *ℤ pos k)) ((p.stride * k) % m) n)
    (λ r q. record {
      from = (p.low +ℤ pos (q.steps * p.stride)) *ℤ pos k;
      has = record { from = p.low +ℤ pos (q.steps * p.stride); has = from_place p (p.low +ℤ pos (q.steps * p.stride)) q.steps refl (g.inside q.steps q.within); is = refl };
      is = q.is ∙ ap pos (after_is m (p.low *ℤ pos k) (p.stride * k) q.steps h) ∙ ap (λ z. pos (residue m z)) (sym (scaled_place p.low q.steps p.stride k));
    })
    (λ r i.
    let q = at_place p i.has.from i.has.has in
    record {
      steps = q.0;
      within = g.last q.0 (subst (λ z. z ≤ℤ p.high) q.1 i.has.has.below);
      is = i.is ∙ ap (λ z. pos (residue m z)) (i.has.is ∙ ap (λ z. z *ℤ pos k) q.1 ∙ scaled_place p.low q.0 p.stride k) ∙ ap pos (sym (after_is m (p.low *ℤ pos k) (p.stride * k) q.0 h));
    })
    (cycle-fits m (residue m (p.low *ℤ pos k)) ((p.stride * k) % m) n h j g.more)
