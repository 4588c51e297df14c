-- Elements of two sizes that meet again and again.
use Rattle.std.proofs.Common.{◌≡◌, ℕ, zero, suc, ◌+◌, ◌-◌, ◌*◌, ◌<◌, ◌≤◌, ◌^◌, List, [], ◌∷◌, ◌++◌, length, drop, refl, sym, ap, ◌∙◌, subst, arith, append_assoc, get_or}
use Rattle.std.specs.Prelude.{replicate, min, ◌/◌, ◌%◌}
use Rattle.std.proofs.Math.Nat.{mul-le-mul_left, mul-le-mul_right, mul_assoc, mul_comm}
use Rattle.std.proofs.lemmas.List.{length-append, length-replicate, replicate-append-replicate}
use Rattle.cell_laws.specs.Elements.{Element, width, AllFine}
use Rattle.cell_laws.specs.Cells.{Ops}
use Rattle.cell_laws.specs.Join.{joined_from, joined}
use Rattle.cell_laws.proofs.Cuts.{width-append}
use Rattle.cell_laws.proofs.Stretches.{width-replicate}
use Rattle.cell_laws.proofs.Steps.{work}
use Rattle.cell_laws.proofs.Splits.{AllBits, AreReady, none_even, join_split}
use Rattle.cell_runs.specs.declared.runs.Run.{Run}
use Rattle.cell_runs.specs.Runs.{element_of, elements, AllSome, Extends}
use Rattle.cell_runs.proofs.Pushing.{elements-one}
use Rattle.cell_runs.proofs.Taking.{at_run, bits_at, elements-none}
use Rattle.run_places.specs.Chunks.{times, IsPeriod}
use Rattle.run_places.proofs.Repeating.{whole_times}
use Rattle.run_joins.specs.declared.cursor.Cursor.{Cursor}
use Rattle.run_joins.specs.declared.periods.Periods.{Periods}
use Rattle.run_joins.specs.Joining.{rest, IsCursor, AreEven, AreMaps, Steps}
use Rattle.run_joins.specs.Periods.{ArePeriods, HavePeriods}
use Rattle.run_joins.proofs.Running.{rest_run, is_cursor}

-- ---- how many elements meet

exact : (k w : ℕ) → 0 < k → w % k ≡ 0 → w / k * k ≡ w
exact k w p r = let e : k * (w / k) + w % k ≡ w = grind arith in let f : w / k * k ≡ k * (w / k) = mul_comm (w / k) k in omega arith

factor : (n k w : ℕ) → n * k ≡ w → 0 < w → 0 < n
factor zero k w e p = absurd (omega arith)
factor (suc n) k w e p = omega arith

some_product : (n k : ℕ) → 0 < n → 0 < k → 0 < n * k
some_product zero k p q = absurd (omega arith)
some_product (suc n) k p q = let m : suc n * k ≡ k + n * k = omega arith in omega arith

pub second_some : (x y first : ℕ) → 0 < x → 0 < y → IsPeriod y x first → 0 < first * x / y
second_some x y first p q i = factor (first * x / y) y (first * x) (exact y (first * x) q i.multiple) (some_product first x i.some p)

pub periods_are : (x left y right first second t : ℕ) → 0 < x → 0 < y → IsPeriod y x first → second ≡ first * x / y → t ≡ min (left / first) (right / second) →
    ArePeriods x left y right (record { first = first; second = second; repeats = t })
periods_are x left y right first second t p q i e m =
    let w = exact y (first * x) q i.multiple in
    let v : second * y ≡ first * x = ap (λ (n : ℕ). n * y) e ∙ w in
    let a = whole_times left first t (omega arith) in
    let b = whole_times right second t (omega arith) in
    let c : first * t ≡ t * first = mul_comm first t in
    let d : second * t ≡ t * second = mul_comm second t in
    record {
      even = sym v;
      some_first = i.some;
      some_second = subst (λ (n : ℕ). 0 < n) (sym e) (second_some x y first p q i);
      fits_first = omega arith;
      fits_second = omega arith;
    }

module _ {C : Type 0} where
  pub periods_at : (a b : List (Run C)) (i j k l : ℕ) (x y : Run C) (p : Periods) → i < length a → x ≡ get_or a i x → j < length b → y ≡ get_or b j y → HavePeriods (drop i a) k (drop j b) l p →
      ArePeriods x.bits (x.count - k) y.bits (y.count - l) p
  periods_at a b i j k l x y p h e g f v =
      let u : HavePeriods (x ∷ drop (i + 1) a) k (drop j b) l p = subst (λ (s : List (Run C)). HavePeriods s k (drop j b) l p) (at_run a i x h e) v in
      subst (λ (s : List (Run C)). HavePeriods (x ∷ drop (i + 1) a) k s l p) (at_run b j y g f) u

  pub periods_from : (a b : List (Run C)) (i j k l : ℕ) (x y : Run C) (p : Periods) → i < length a → x ≡ get_or a i x → j < length b → y ≡ get_or b j y →
      ArePeriods x.bits (x.count - k) y.bits (y.count - l) p → HavePeriods (drop i a) k (drop j b) l p
  periods_from a b i j k l x y p h e g f v =
      subst (λ (s : List (Run C)). HavePeriods s k (drop j b) l p) (sym (at_run a i x h e))
      (subst (λ (s : List (Run C)). HavePeriods (x ∷ drop (i + 1) a) k s l p) (sym (at_run b j y g f)) v)

  all_bits : (n : ℕ) (e : Element C) → 0 < e.bits → AllBits (replicate n e)
  all_bits zero e p = tt
  all_bits (suc n) e p = (p, all_bits n e p)

  fine_many : (Fine : ℕ → C → Type 0) (n : ℕ) (e : Element C) → Fine e.bits e.cell → AllFine Fine (replicate n e)
  fine_many Fine zero e f = tt
  fine_many Fine (suc n) e f = (f, fine_many Fine n e f)

  pub front_is : (slice runs : List (Run C)) (r : Run C) → slice ≡ runs → runs ≡ r ∷ [] → elements slice ≡ replicate r.count (element_of r)
  front_is slice runs r e f = ap elements (e ∙ f) ∙ elements-one r

  -- the elements that meet, as two maps
  pub front_maps : (Fine : ℕ → C → Type 0) (p q : List (Run C)) (x y : Run C) → p ≡ x ∷ [] → q ≡ y ∷ [] → 0 < x.bits → 0 < x.count → 0 < y.bits → 0 < y.count → Fine x.bits x.cell → Fine y.bits y.cell →
      AreMaps Fine p q
  front_maps Fine p q x y e f xb xc yb yc fx fy = record {
    some_first = subst AllSome (sym e) (xb, xc, tt);
    some_second = subst AllSome (sym f) (yb, yc, tt);
    fine_first = subst (AllFine Fine) (sym (front_is p p x refl e)) (fine_many Fine x.count (element_of x) fx);
    fine_second = subst (AllFine Fine) (sym (front_is q q y refl f)) (fine_many Fine y.count (element_of y) fy);
  }

  pub front_wide : (p : List (Run C)) (x : Run C) → p ≡ x ∷ [] → width (elements p) ≡ x.count * x.bits
  front_wide p x e = ap width (front_is p p x refl e) ∙ width-replicate x.count (element_of x)

turned : (n t k : ℕ) → n * t * k ≡ t * (n * k)
turned n t k = ap (λ (m : ℕ). m * k) (mul_comm n t) ∙ mul_assoc t n k

at_most : (n t : ℕ) → 0 < t → n ≤ n * t
at_most n t p = let m : n * 1 ≤ n * t = mul-le-mul_left n p in let i : n * 1 ≡ n = omega arith in omega arith

-- numbers of elements and bits that fit
pub record AreSmall (x : ℕ) (n : Periods) : Type 0 where
  pub wide : n.first * x < 2 ^ 64
  pub first : n.first * n.repeats < 2 ^ 64
  pub second : n.second * n.repeats < 2 ^ 64

module _ {C : Type 0} where
  pub many_small : (a b : List (Run C)) (i j : Cursor) (x y : Run C) (n : Periods) → i.index < length a → x ≡ get_or a i.index x → j.index < length b → y ≡ get_or b j.index y → AllSome a → AllSome b →
      AreEven a i b j → ArePeriods x.bits (x.count - i.used) y.bits (y.count - j.used) n → 0 < n.repeats → AreSmall x.bits n
  many_small a b i j x y n h e g f s t v ps some =
      let xb = bits_at a i.index x h e s in
      let yb = bits_at b j.index y g f t in
      let iu = is_cursor a i.index i.used x h e v.left in
      let c = n.first * n.repeats in
      let d = n.second * n.repeats in
      let fc = ps.fits_first in
      let ra = rest_run a i c x h e (omega arith) in
      let wa = ap width ra ∙ width-append (replicate c (element_of x)) (drop c (rest a i)) ∙ ap (λ (m : ℕ). m + width (drop c (rest a i))) (width-replicate c (element_of x)) in
      let same : c * x.bits ≡ d * y.bits = turned n.first n.repeats x.bits ∙ ap (λ (m : ℕ). n.repeats * m) ps.even ∙ sym (turned n.second n.repeats y.bits) in
      let small = v.small in
      let less : n.first * x.bits ≤ c * x.bits = mul-le-mul_right x.bits (at_most n.first n.repeats some) in
      let up = at_most c x.bits xb in
      let vp = at_most d y.bits yb in
      record { wide = omega arith; first = omega arith; second = omega arith }

  pub made_view : (none made slice : List (Run C)) (xs : List (Element C)) → none ≡ [] → slice ≡ made → Extends none made xs → elements slice ≡ xs
  made_view none made slice xs z e x = ap elements e ∙ x.elements ∙ ap (λ (l : List (Run C)). elements l ++ xs) z ∙ ap (λ (l : List (Element C)). l ++ xs) (elements-none C)

-- ---- what they make, again and again

module _ {C H : Type 0} (o : Ops C H) (merge : ℕ → C → C → C) where
  joined_times : (t n m : ℕ) (x y : Element C) (vs ws : List (Element C)) → 0 < x.bits → 0 < y.bits → n * x.bits ≡ m * y.bits →
      joined_from o merge [] [] (replicate (n * t) x ++ vs) (replicate (m * t) y ++ ws) ≡ times t (joined_from o merge [] [] (replicate n x) (replicate m y)) ++ joined_from o merge [] [] vs ws
  unfolding times
  joined_times zero n m x y vs ws p q e =
      let zn : n * zero ≡ zero = omega arith in
      let zm : m * zero ≡ zero = omega arith in
      ap (λ (k : ℕ). joined_from o merge [] [] (replicate k x ++ vs) (replicate (m * zero) y ++ ws)) zn ∙ ap (λ (k : ℕ). joined_from o merge [] [] vs (replicate k y ++ ws)) zm
  joined_times (suc t) n m x y vs ws p q e =
      let sn : n * suc t ≡ n + n * t = omega arith in
      let sm : m * suc t ≡ m + m * t = omega arith in
      let xs = replicate n x in
      let ys = replicate m y in
      let more_xs = replicate (n * t) x ++ vs in
      let more_ys = replicate (m * t) y ++ ws in
      let gx : replicate (n * suc t) x ++ vs ≡ xs ++ more_xs =
      ap (λ (k : ℕ). replicate k x ++ vs) sn ∙ ap (λ (l : List (Element C)). l ++ vs) (sym (replicate-append-replicate n (n * t) x)) ∙ append_assoc xs (replicate (n * t) x) vs in
      let gy : replicate (m * suc t) y ++ ws ≡ ys ++ more_ys =
      ap (λ (k : ℕ). replicate k y ++ ws) sm ∙ ap (λ (l : List (Element C)). l ++ ws) (sym (replicate-append-replicate m (m * t) y)) ∙ append_assoc ys (replicate (m * t) y) ws in
      let even : width xs ≡ width ys = width-replicate n x ∙ e ∙ sym (width-replicate m y) in
      let ready : AreReady {C = C} [] [] xs ys = record { even = none_even xs ys even; first = tt; second = tt; left = all_bits n x p; right = all_bits m y q } in
      ap (λ (l : List (Element C)). joined_from o merge [] [] l (replicate (m * suc t) y ++ ws)) gx ∙ ap (joined_from o merge [] [] (xs ++ more_xs)) gy
      ∙ join_split o merge (suc (work {C = C} [] [] xs ys)) [] [] xs ys more_xs more_ys (omega arith) ready
      ∙ ap (λ (l : List (Element C)). joined_from o merge [] [] xs ys ++ l) (joined_times t n m x y vs ws p q e)
      ∙ sym (append_assoc (joined_from o merge [] [] xs ys) (times t (joined_from o merge [] [] xs ys)) (joined_from o merge [] [] vs ws))

  pub repeat_steps : (a b : List (Run C)) (i k j l : Cursor) (x y : Run C) (n : Periods) (first second all : List (Element C)) (old new : List (Run C)) →
      i.index < length a → x ≡ get_or a i.index x → j.index < length b → y ≡ get_or b j.index y → AllSome a → AllSome b → AreEven a i b j →
      ArePeriods x.bits (x.count - i.used) y.bits (y.count - j.used) n → 0 < n.repeats →
      first ≡ replicate n.first (element_of x) → second ≡ replicate n.second (element_of y) → all ≡ joined o merge first second → Extends old new (times n.repeats all) →
      rest a k ≡ drop (n.first * n.repeats) (rest a i) → IsCursor a k → rest b l ≡ drop (n.second * n.repeats) (rest b j) → IsCursor b l → Steps o merge a i k b j l old new
  unfolding joined
  repeat_steps a b i k j l x y n first second all old new h e g f s t v ps some ep eq em w u cu z cz =
      let xb = bits_at a i.index x h e s in
      let yb = bits_at b j.index y g f t in
      let iu = is_cursor a i.index i.used x h e v.left in
      let ju = is_cursor b j.index j.used y g f v.right in
      let c = n.first * n.repeats in
      let d = n.second * n.repeats in
      let fc = ps.fits_first in
      let fd = ps.fits_second in
      let pos = some_product n.first n.repeats ps.some_first some in
      let ra = rest_run a i c x h e (omega arith) ∙ ap (λ (r : List (Element C)). replicate c (element_of x) ++ r) (sym u) in
      let rb = rest_run b j d y g f (omega arith) ∙ ap (λ (r : List (Element C)). replicate d (element_of y) ++ r) (sym z) in
      let one : all ≡ joined_from o merge [] [] (replicate n.first (element_of x)) (replicate n.second (element_of y)) =
      em ∙ ap (λ (r : List (Element C)). joined_from o merge [] [] r second) ep ∙ ap (joined_from o merge [] [] (replicate n.first (element_of x))) eq in
      let go : joined_from o merge [] [] (rest a i) (rest b j) ≡ times n.repeats all ++ joined_from o merge [] [] (rest a k) (rest b l) =
      ap (λ (r : List (Element C)). joined_from o merge [] [] r (rest b j)) ra
      ∙ ap (joined_from o merge [] [] (replicate c (element_of x) ++ rest a k)) rb
      ∙ joined_times n.repeats n.first n.second (element_of x) (element_of y) (rest a k) (rest b l) xb yb ps.even
      ∙ ap (λ (r : List (Element C)). times n.repeats r ++ joined_from o merge [] [] (rest a k) (rest b l)) (sym one) in
      let wa = ap width ra ∙ width-append (replicate c (element_of x)) (rest a k) ∙ ap (λ (m : ℕ). m + width (rest a k)) (width-replicate c (element_of x)) in
      let wb = ap width rb ∙ width-append (replicate d (element_of y)) (rest b l) ∙ ap (λ (m : ℕ). m + width (rest b l)) (width-replicate d (element_of y)) in
      let same : c * x.bits ≡ d * y.bits = turned n.first n.repeats x.bits ∙ ap (λ (m : ℕ). n.repeats * m) ps.even ∙ sym (turned n.second n.repeats y.bits) in
      let even = v.even in
      let small = v.small in
      let la = ap length ra ∙ length-append (replicate c (element_of x)) (rest a k) ∙ ap (λ (m : ℕ). m + length (rest a k)) (length-replicate c (element_of x)) in
      record {
        more = times n.repeats all;
        extends = w;
        same = sym go;
        still = record { left = cu; right = cz; even = omega arith; small = omega arith };
        less = omega arith;
      }
