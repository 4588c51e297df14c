-- What an operator gives on two sets of numbers of a type.
use Rattle.std.proofs.Common.{◌≡◌, ℕ, suc, ◌*◌, ◌<◌, ◌≤◌, ◌^◌, Bool, true, cond, ℤ, pos, ◌+ℤ◌, ◌-ℤ◌, List, Option, Some, None, Result, Ok, Err, refl, sym, subst, ap, ◌∙◌, arith}
use Rattle.std.specs.Prelude.{neg_ℤ, ◌*ℤ◌}
use Rattle.std.proofs.lemmas.Int.{ints}
use Rattle.std.proofs.lemmas.Nat.{mul-le}
use Rattle.c_base.specs.declared.kind.Kind.{Kind}
use Rattle.c_base.specs.declared.kind.Kind.TheVariants.{SignedOverflow}
use Rattle.c_base.specs.declared.operators.BinOp.{BinOp}
use Rattle.c_base.specs.declared.operators.BinOp.TheVariants.{Add, Sub, Mul, Div, Rem}
use Rattle.c_base.specs.Integers.{fits_bits, residue, least_of, greatest_of}
use Rattle.c_base.specs.Operators.{operated, arithmetic}
use Rattle.ival_core.specs.declared.value.Progression.{Progression}
use Rattle.ival_core.specs.declared.value.Shape.{Shape}
use Rattle.ival_core.specs.declared.value.Shape.TheVariants.{Few, Many}
use Rattle.ival_core.specs.Sets.{Among, IsNumber, IsLongRun, IsValid, IsLeast, Has, Steps, HoldsNine}
use Rattle.ival_core.proofs.Insertion.{IsLeast-same}
use Rattle.ival_arith.specs.declared.pieces.Change.TheVariants.{Negative}
use Rattle.ival_arith.specs.Pieces.{none, gathered, all_changed}
use Rattle.ival_arith.specs.Values.{rows, added, runs_multiplied, multiplied, part_lines, part_spread, op_of, numbers_divided, or_else, divided, long_value, value}
use Rattle.ival_arith.specs.Promises.{IsArithmetic, IsSharp}
use Rattle.ival_arith.proofs.Fits.{Fits, Fits-same, Fits-nine, Makes-fits, few_not_nine}
use Rattle.ival_arith.proofs.Parts.{all_changed-exactly}
use Rattle.ival_arith.proofs.Adding.{Sum, at_first}
use Rattle.ival_arith.proofs.Making.{Made, Typed, IsWidth, FitsEnds, true_fits, rows-makes}
use Rattle.ival_arith.proofs.Wrapping.{InType, OneLong, added-fits, added-least, own_operand, negated_operand}
use Rattle.ival_arith.proofs.Words.{fits_operand, operand_number}
use Rattle.ival_arith.proofs.Exacting.{number_negated}
use Rattle.ival_arith.proofs.Distinct.{nine_values}
use Rattle.ival_core.proofs.Runs.{Steps-number}
use Rattle.arrayvec.specs.ArrayVec.{ArrayVec}
use Rattle.ival_arith.specs.declared.divisions.Part.{Part}
use Rattle.ival_arith.specs.declared.divisions.Part.TheVariants.{Quotient, Remainder}
use Rattle.ival_arith.proofs.Crossing.{all_fit, runs_cover}
use Rattle.ival_arith.proofs.Dividing.{part_lines-fits}
use Rattle.ival_arith.proofs.Trying.{Tried, numbers_divided-tried}
use Rattle.ival_arith.proofs.Spreading.{Covers, Fits-covers, OneShort, Product, Word, multiplied-fits, quotient_spread, remainder_spread, unok}

-- ---- the table

sums_are : (op : BinOp) (signed : Bool) (width : ℕ) (P Q : ℤ → Type 0) (f : ℤ → ℤ → ℤ) (Z : ℤ → Type 0) → ((x y : ℤ) → operated op signed width x y ≡ arithmetic signed width (f x y)) →
    ((x y : ℤ) → P x → Q y → Z (f x y)) → ((z : ℤ) → Z z → (x : ℤ) × (y : ℤ) × P x × Q y × (z ≡ f x y)) → (n : ℤ) →
    (InType signed width Z n → Made op signed width P Q n) × (Made op signed width P Q n → InType signed width Z n)
sums_are op signed width P Q f Z same onto back n = (
  (λ i. let b = back i.whole i.has in record { left = b.0; right = b.1; has_left = b.2; has_right = b.3; is = same b.0 b.1 ∙ ap (arithmetic signed width) (sym b.4) ∙ i.is }),
  (λ m. record { whole = f m.left m.right; has = onto m.left m.right m.has_left m.has_right; is = sym (same m.left m.right) ∙ m.is }),
)

add_made : (signed : Bool) (width : ℕ) (P Q : ℤ → Type 0) (n : ℤ) → (InType signed width (Sum P Q) n → Made Add signed width P Q n) × (Made Add signed width P Q n → InType signed width (Sum P Q) n)
add_made signed width P Q n =
    sums_are Add signed width P Q (λ x y. x +ℤ y) (Sum P Q) (λ x y. refl) (λ x y h k. record { left = x; right = y; has_left = h; has_right = k; is = refl })
    (λ z s. (s.left, s.right, s.has_left, s.has_right, s.is)) n

mul_made : (signed : Bool) (width : ℕ) (P Q : ℤ → Type 0) (n : ℤ) → (InType signed width (Product P Q) n → Made Mul signed width P Q n) × (Made Mul signed width P Q n → InType signed width (Product P Q) n)
mul_made signed width P Q n =
    sums_are Mul signed width P Q (λ x y. x *ℤ y) (Product P Q) (λ x y. refl) (λ x y h k. record { left = x; right = y; has_left = h; has_right = k; is = refl })
    (λ z s. (s.left, s.right, s.has_left, s.has_right, s.is)) n

-- u has the negated numbers of t
pub record Turned (t u : Shape) : Type 0 where
  pub onto : (n : ℤ) → Has t n → Has u (neg_ℤ n)
  pub back : (n : ℤ) → Has u n → Has t (neg_ℤ n)

turn_twice : (x y : ℤ) → x +ℤ y ≡ x -ℤ neg_ℤ y
turn_twice x y = omega (arith, ints)

turned : (t : Shape) → IsValid t → ((n : ℤ) → Has t n → IsNumber n) → Turned t (all_changed Negative t)
turned t v h =
    let x = all_changed-exactly Negative t tt v (λ n i. number_negated n (h n i)) in
    record {
      onto = λ n i. x.holds (neg_ℤ n) (record { from = n; has = i; is = refl });
      back = λ n i. let k = x.only n i in subst (Has t) (twice n k.from k.is) k.has;
    }
  where
    twice : (n m : ℤ) → n ≡ neg_ℤ m → m ≡ neg_ℤ n
    twice n m e = omega (arith, ints)

sub_made : (signed : Bool) (width : ℕ) (s t u : Shape) → Turned t u → (n : ℤ) → (InType signed width (Sum (Has s) (Has u)) n → Made Sub signed width (Has s) (Has t) n) × (Made Sub signed width (Has s) (Has t) n → InType signed width (Sum (Has s) (Has u)) n)
sub_made signed width s t u d n =
    sums_are Sub signed width (Has s) (Has t) (λ x y. x -ℤ y) (Sum (Has s) (Has u)) (λ x y. refl) (λ x y h k. record { left = x; right = neg_ℤ y; has_left = h; has_right = d.onto y k; is = refl })
    (λ z s. (s.left, neg_ℤ s.right, s.has_left, d.back s.right s.has_right, s.is ∙ turn_twice s.left s.right)) n

word_numbers : (signed : Bool) (width : ℕ) (t : Shape) → IsWidth width → Word signed width t → (n : ℤ) → Has t n → IsNumber n
word_numbers signed width t w b n h = operand_number n (fits_operand signed width n w.some w.room (b.typed.fits n h))

shape_long : (u : Shape) → IsValid u → HoldsNine (Has u) → (r : Progression) × (u ≡ Many r)
shape_long (Few v) l h = absurd (few_not_nine v.items l.small h)
shape_long (Many r) l h = (r, refl)

negated_nine : (q : Progression) → IsLongRun q → HoldsNine (Has (all_changed Negative (Many q)))
negated_nine q l =
    let d = turned (Many q) l (λ n h. Steps-number q n l h) in
    nine_values (Has (all_changed Negative (Many q))) (λ k. neg_ℤ (q.low +ℤ pos (k * q.stride))) (λ i j a b e. other q.low i j q.stride l.moves a e) (λ k b. d.onto (q.low +ℤ pos (k * q.stride)) (at_first q l k b))
  where
    other : (low : ℤ) (i j s : ℕ) → 0 < s → suc i ≤ j → neg_ℤ (low +ℤ pos (j * s)) ≡ neg_ℤ (low +ℤ pos (i * s)) → ⊥
    other low i j s m a e = let d : suc i * s ≤ j * s = mul-le (suc i) s j s a (omega arith) in omega (arith, ints)

one_long_negated : (s t : Shape) → IsValid t → OneLong s t → OneLong s (all_changed Negative t)
one_long_negated (Many p) t v o = tt
one_long_negated (Few w) (Few u) v o = absurd o
one_long_negated (Few w) (Many q) v o =
    let d = all_changed-exactly Negative (Many q) tt v (λ n i. number_negated n (Steps-number q n v i)) in
    let r = shape_long (all_changed Negative (Many q)) d.valid (negated_nine q v) in
    subst (OneLong (Few w)) (sym r.1) tt

-- what a table may be asked
pub record Asked (op : BinOp) (signed : Bool) (width : ℕ) (s t : Shape) : Type 0 where
  pub arithmetic : IsArithmetic op
  pub room : IsWidth width
  pub left : Word signed width s
  pub right : Word signed width t

add_fits : (signed : Bool) (width : ℕ) (s t : Shape) → OneLong s t → IsWidth width → Word signed width s → Word signed width t → Fits (Made Add signed width (Has s) (Has t)) (added signed width s t)
add_fits signed width s t o w a b =
    Fits-same (InType signed width (Sum (Has s) (Has t))) (Made Add signed width (Has s) (Has t)) (added signed width s t)
    (λ n. (add_made signed width (Has s) (Has t) n).0) (λ n. (add_made signed width (Has s) (Has t) n).1)
    (added-fits signed width s t w o (own_operand signed width s w a.valid a.typed) (own_operand signed width t w b.valid b.typed))

sub_fits : (signed : Bool) (width : ℕ) (s t : Shape) → OneLong s t → IsWidth width → Word signed width s → Word signed width t → Fits (Made Sub signed width (Has s) (Has t)) (added signed width s (all_changed Negative t))
sub_fits signed width s t o w a b =
    let d = turned t b.valid (word_numbers signed width t w b) in
    Fits-same (InType signed width (Sum (Has s) (Has (all_changed Negative t)))) (Made Sub signed width (Has s) (Has t)) (added signed width s (all_changed Negative t))
    (λ n. (sub_made signed width s t (all_changed Negative t) d n).0) (λ n. (sub_made signed width s t (all_changed Negative t) d n).1)
    (added-fits signed width s (all_changed Negative t) w (one_long_negated s t b.valid o) (own_operand signed width s w a.valid a.typed) (negated_operand signed width t w b.valid b.typed))

mul_fits : (signed : Bool) (width : ℕ) (s t : Shape) → OneShort s t → IsWidth width → Word signed width s → Word signed width t → Fits (Made Mul signed width (Has s) (Has t)) (multiplied signed width s t)
mul_fits signed width s t o w a b =
    Fits-same (InType signed width (Product (Has s) (Has t))) (Made Mul signed width (Has s) (Has t)) (multiplied signed width s t)
    (λ n. (mul_made signed width (Has s) (Has t) n).0) (λ n. (mul_made signed width (Has s) (Has t) n).1)
    (multiplied-fits signed width s t w o a b)

mul_covers : (signed : Bool) (width : ℕ) (p q : Progression) → IsWidth width → Word signed width (Many p) → Word signed width (Many q) → Covers (Made Mul signed width (Steps p) (Steps q)) (multiplied signed width (Many p) (Many q))
unfolding multiplied
mul_covers signed width p q w a b =
    let c = runs_cover signed width p q w a b in
    record { valid = c.valid; holds = λ n m. c.holds n ((mul_made signed width (Steps p) (Steps q) n).1 m) }

runs_product : (signed : Bool) (width : ℕ) (p q : Progression) → IsWidth width → Word signed width (Many p) → Word signed width (Many q) → Fits (Made Mul signed width (Steps p) (Steps q)) (multiplied signed width (Many p) (Many q))
unfolding multiplied
runs_product signed width p q w a b =
    Fits-same (InType signed width (Product (Steps p) (Steps q))) (Made Mul signed width (Steps p) (Steps q)) (runs_multiplied signed width p q)
    (λ n. (mul_made signed width (Steps p) (Steps q) n).0) (λ n. (mul_made signed width (Steps p) (Steps q) n).1)
    (all_fit signed width p q w a b)

spread_covers : (part : Part) (signed : Bool) (width : ℕ) (s t : Shape) → IsWidth width → Word signed width s → Word signed width t → Covers (Made (op_of part) signed width (Has s) (Has t)) (part_spread part signed width s t)
unfolding part_spread
spread_covers Quotient signed width s t w a b = quotient_spread signed width s t w a b
spread_covers Remainder signed width s t w a b = remainder_spread signed width s t w a b

tried_fits : (part : Part) (signed : Bool) (width : ℕ) (v : ArrayVec ℤ) (q : Progression) → IsWidth width → Word signed width (Few v) → Word signed width (Many q) → Fits (Made (op_of part) signed width (Among v.items) (Steps q)) (divided part signed width (Few v) (Many q))
unfolding divided
tried_fits part signed width v q w a b =
    by_tries (numbers_divided part signed width (Many q) (Some none) v.items) (numbers_divided-tried part signed width (Many q) v.items w b.valid b.typed a.typed)
  where
    by_tries : (o : Option Shape) → Tried (Made (op_of part) signed width (Among v.items) (Steps q)) o → Fits (Made (op_of part) signed width (Among v.items) (Steps q)) (or_else o (part_spread part signed width (Few v) (Many q)))
    by_tries (Some r) t = t
    by_tries None t = let c = spread_covers part signed width (Few v) (Many q) w a b in Fits-nine (Made (op_of part) signed width (Among v.items) (Steps q)) (part_spread part signed width (Few v) (Many q)) c.valid c.holds t

divided_covers : (part : Part) (signed : Bool) (width : ℕ) (s t : Shape) → IsWidth width → Word signed width s → Word signed width t → Covers (Made (op_of part) signed width (Has s) (Has t)) (divided part signed width s t)
unfolding divided
divided_covers part signed width s (Few u) w a b = Fits-covers (Made (op_of part) signed width (Has s) (Among u.items)) (part_lines part signed width none s u.items) (part_lines-fits part signed width s u.items w a.valid a.typed b.typed)
divided_covers part signed width (Few v) (Many q) w a b = Fits-covers (Made (op_of part) signed width (Among v.items) (Steps q)) (divided part signed width (Few v) (Many q)) (tried_fits part signed width v q w a b)
divided_covers part signed width (Many p) (Many q) w a b = spread_covers part signed width (Many p) (Many q) w a b

divided_fits : (part : Part) (signed : Bool) (width : ℕ) (s : Shape) (u : ArrayVec ℤ) → IsWidth width → Word signed width s → Word signed width (Few u) → Fits (Made (op_of part) signed width (Has s) (Among u.items)) (divided part signed width s (Few u))
unfolding divided
divided_fits part signed width s u w a b = part_lines-fits part signed width s u.items w a.valid a.typed b.typed

-- one of the sets is long
pub long_covers : (op : BinOp) (signed : Bool) (width : ℕ) (s t : Shape) → OneLong s t → Asked op signed width s t → Covers (Made op signed width (Has s) (Has t)) (long_value op signed width s t)
unfolding long_value
long_covers Add signed width s t o k = Fits-covers (Made Add signed width (Has s) (Has t)) (added signed width s t) (add_fits signed width s t o k.room k.left k.right)
long_covers Sub signed width s t o k = Fits-covers (Made Sub signed width (Has s) (Has t)) (added signed width s (all_changed Negative t)) (sub_fits signed width s t o k.room k.left k.right)
long_covers Mul signed width (Many p) (Few u) o k = Fits-covers (Made Mul signed width (Steps p) (Among u.items)) (multiplied signed width (Many p) (Few u)) (mul_fits signed width (Many p) (Few u) tt k.room k.left k.right)
long_covers Mul signed width (Few v) (Many q) o k = Fits-covers (Made Mul signed width (Among v.items) (Steps q)) (multiplied signed width (Few v) (Many q)) (mul_fits signed width (Few v) (Many q) tt k.room k.left k.right)
long_covers Mul signed width (Few v) (Few u) o k = absurd o
long_covers Mul signed width (Many p) (Many q) o k = mul_covers signed width p q k.room k.left k.right
long_covers Div signed width s t o k = divided_covers Quotient signed width s t k.room k.left k.right
long_covers Rem signed width s t o k = divided_covers Remainder signed width s t k.room k.left k.right
long_covers op signed width s t o k = absurd (k.arithmetic)

few_fits : (op : BinOp) (signed : Bool) (width : ℕ) (xs ys : List ℤ) → IsWidth width → Typed signed width (Among xs) → Fits (Made op signed width (Among xs) (Among ys)) (gathered (rows op signed width xs ys))
few_fits op signed width xs ys w t = Makes-fits (Made op signed width (Among xs) (Among ys)) (gathered (rows op signed width xs ys)) (rows-makes op signed width xs ys w t)

pub value-covers : (op : BinOp) (signed : Bool) (width : ℕ) (s t : Shape) → Asked op signed width s t → Covers (Made op signed width (Has s) (Has t)) (value op signed width s t)
unfolding value
value-covers op signed width (Few v) (Few u) k = Fits-covers (Made op signed width (Among v.items) (Among u.items)) (gathered (rows op signed width v.items u.items)) (few_fits op signed width v.items u.items k.room k.left.typed)
value-covers op signed width (Few v) (Many q) k = long_covers op signed width (Few v) (Many q) tt k
value-covers op signed width (Many p) t k = long_covers op signed width (Many p) t tt k

pub value-fits : (op : BinOp) (signed : Bool) (width : ℕ) (s t : Shape) → IsSharp op signed width s t → Asked op signed width s t → Fits (Made op signed width (Has s) (Has t)) (value op signed width s t)
unfolding value long_value
value-fits op signed width (Few v) (Few u) h k = few_fits op signed width v.items u.items k.room k.left.typed
value-fits Add signed width (Few v) (Many q) h k = add_fits signed width (Few v) (Many q) tt k.room k.left k.right
value-fits Sub signed width (Few v) (Many q) h k = sub_fits signed width (Few v) (Many q) tt k.room k.left k.right
value-fits Mul signed width (Few v) (Many q) h k = mul_fits signed width (Few v) (Many q) tt k.room k.left k.right
value-fits Add signed width (Many p) t h k = add_fits signed width (Many p) t tt k.room k.left k.right
value-fits Sub signed width (Many p) t h k = sub_fits signed width (Many p) t tt k.room k.left k.right
value-fits Mul signed width (Many p) (Few u) h k = mul_fits signed width (Many p) (Few u) tt k.room k.left k.right
value-fits Mul signed width (Many p) (Many q) h k = runs_product signed width p q k.room k.left k.right
value-fits Div signed width (Few v) (Many q) h k = tried_fits Quotient signed width v q k.room k.left k.right
value-fits Rem signed width (Few v) (Many q) h k = tried_fits Remainder signed width v q k.room k.left k.right
value-fits Div signed width (Many p) (Few u) h k = divided_fits Quotient signed width (Many p) u k.room k.left k.right
value-fits Rem signed width (Many p) (Few u) h k = divided_fits Remainder signed width (Many p) u k.room k.left k.right
value-fits op signed width s t h k = absurd h

-- ---- least sets

-- f of each two numbers of the sets is a number of the type
pub record AllFit (f : ℤ → ℤ → ℤ) (signed : Bool) (width : ℕ) (s t : Shape) : Type 0 where
  pub fit : (x y : ℤ) → Has s x → Has t y → FitsEnds (least_of signed width) (greatest_of signed width) (f x y)

whole_result : (signed : Bool) (width : ℕ) (z : ℤ) → FitsEnds (least_of signed width) (greatest_of signed width) z → arithmetic signed width z ≡ Ok z
whole_result signed width z f = by_test (fits_bits signed width z) (true_fits signed width z f.above f.below)
  where
    by_test : (t : Bool) → t ≡ true → ◌≡◌ {A = Result ℤ Kind} (cond t (Ok z) (cond signed (Err SignedOverflow) (Ok (pos (residue (2 ^ width) z))))) (Ok z)
    by_test t e = ap (λ b. cond b (Ok z) (cond signed (Err SignedOverflow) (Ok (pos (residue (2 ^ width) z))))) e

made_whole : (signed : Bool) (width : ℕ) (s t : Shape) → AllFit (λ x y. x +ℤ y) signed width s t → (n : ℤ) → Sum (Has s) (Has t) n → InType signed width (Sum (Has s) (Has t)) n
made_whole signed width s t a n h = record { whole = n; has = h; is = whole_result signed width n (subst (FitsEnds (least_of signed width) (greatest_of signed width)) (sym h.is) (a.fit h.left h.right h.has_left h.has_right)) }

whole_made : (signed : Bool) (width : ℕ) (s t : Shape) → AllFit (λ x y. x +ℤ y) signed width s t → (n : ℤ) → InType signed width (Sum (Has s) (Has t)) n → Sum (Has s) (Has t) n
whole_made signed width s t a n h =
    let e = whole_result signed width h.whole (subst (FitsEnds (least_of signed width) (greatest_of signed width)) (sym h.has.is) (a.fit h.has.left h.has.right h.has.has_left h.has.has_right)) in
    subst (Sum (Has s) (Has t)) (unok h.whole n (sym e ∙ h.is)) h.has

least_in_type : (signed : Bool) (width : ℕ) (s t : Shape) → AllFit (λ x y. x +ℤ y) signed width s t → (r : Shape) → IsLeast (Sum (Has s) (Has t)) r → IsLeast (InType signed width (Sum (Has s) (Has t))) r
least_in_type signed width s t a r h = IsLeast-same (Sum (Has s) (Has t)) (InType signed width (Sum (Has s) (Has t))) r (λ n k. made_whole signed width s t a n k) (λ n k. whole_made signed width s t a n k) h

add_least : (signed : Bool) (width : ℕ) (s t : Shape) → IsWidth width → Word signed width s → Word signed width t → AllFit (λ x y. x +ℤ y) signed width s t → IsLeast (Made Add signed width (Has s) (Has t)) (added signed width s t)
add_least signed width s t w a b f =
    IsLeast-same (InType signed width (Sum (Has s) (Has t))) (Made Add signed width (Has s) (Has t)) (added signed width s t)
    (λ n. (add_made signed width (Has s) (Has t) n).0) (λ n. (add_made signed width (Has s) (Has t) n).1)
    (least_in_type signed width s t f (added signed width s t)
    (added-least signed width s t w (own_operand signed width s w a.valid a.typed) (own_operand signed width t w b.valid b.typed)
    (record { above = λ x y h k. (f.fit x y h k).above; below = λ x y h k. (f.fit x y h k).below })))

sub_least : (signed : Bool) (width : ℕ) (s t : Shape) → IsWidth width → Word signed width s → Word signed width t → AllFit (λ x y. x -ℤ y) signed width s t → IsLeast (Made Sub signed width (Has s) (Has t)) (added signed width s (all_changed Negative t))
sub_least signed width s t w a b f =
    let u = all_changed Negative t in
    let d = turned t b.valid (word_numbers signed width t w b) in
    let g : AllFit (λ x y. x +ℤ y) signed width s u = record { fit = λ x y h k. subst (FitsEnds (least_of signed width) (greatest_of signed width)) (sym (turn_twice x y)) (f.fit x (neg_ℤ y) h (d.back y k)) } in
    IsLeast-same (InType signed width (Sum (Has s) (Has u))) (Made Sub signed width (Has s) (Has t)) (added signed width s u)
    (λ n. (sub_made signed width s t u d n).0) (λ n. (sub_made signed width s t u d n).1)
    (least_in_type signed width s u g (added signed width s u)
    (added-least signed width s u w (own_operand signed width s w a.valid a.typed) (negated_operand signed width t w b.valid b.typed)
    (record { above = λ x y h k. (g.fit x y h k).above; below = λ x y h k. (g.fit x y h k).below })))

-- the least set of sums, and of differences
pub value-least_add : (signed : Bool) (width : ℕ) (s t : Shape) → Asked Add signed width s t → AllFit (λ x y. x +ℤ y) signed width s t → IsLeast (Made Add signed width (Has s) (Has t)) (value Add signed width s t)
unfolding value long_value
value-least_add signed width (Few v) (Few u) k f = (rows-makes Add signed width v.items u.items k.room k.left.typed).least
value-least_add signed width (Few v) (Many q) k f = add_least signed width (Few v) (Many q) k.room k.left k.right f
value-least_add signed width (Many p) t k f = add_least signed width (Many p) t k.room k.left k.right f

pub value-least_sub : (signed : Bool) (width : ℕ) (s t : Shape) → Asked Sub signed width s t → AllFit (λ x y. x -ℤ y) signed width s t → IsLeast (Made Sub signed width (Has s) (Has t)) (value Sub signed width s t)
unfolding value long_value
value-least_sub signed width (Few v) (Few u) k f = (rows-makes Sub signed width v.items u.items k.room k.left.typed).least
value-least_sub signed width (Few v) (Many q) k f = sub_least signed width (Few v) (Many q) k.room k.left k.right f
value-least_sub signed width (Many p) t k f = sub_least signed width (Many p) t k.room k.left k.right f
