-- Quotients and remainders of the numbers of a set by single numbers.
use Rattle.std.proofs.Common.{◌≡◌, ◌⊎◌, ℕ, zero, suc, ◌-◌, ◌*◌, ◌/◌, ◌<◌, ◌≤◌, ◌^◌, Bool, true, false, cond, ℤ, pos, negsuc, List, [], ◌∷◌, Ok, Err, refl, sym, subst, ap, ◌∙◌, inl, inr, arith}
use Rattle.std.specs.Prelude.{neg_ℤ, int_le, int_lt, int_div, int_rem, unsigned_abs}
use Rattle.std.proofs.lemmas.Int.{ints, by_lt_z}
use Rattle.std.proofs.lemmas.Nat.{pow_pos, mul-le, div_below}
use Rattle.std.proofs.Math.Nat.{div-le_self, div-one, zero-div}
use lib.Signed.{◌<ℤ◌, ◌≤ℤ◌}
use Rattle.c_base.specs.declared.kind.Kind.TheVariants.{DivisionByZero, SignedOverflow}
use Rattle.c_base.specs.Integers.{FitsBits, fits_bits, residue, least_of, greatest_of}
use Rattle.c_base.specs.Operators.{operated, is_zero, floor}
use Rattle.ival_core.specs.declared.value.Shape.{Shape}
use Rattle.ival_core.specs.declared.value.Shape.TheVariants.{Few, Many}
use Rattle.ival_core.proofs.Insertion.{AllNumbers-among}
use Rattle.ival_core.proofs.Runs.{Steps-number}
use Rattle.ival_core.specs.Sets.{Among, IsNumber, IsValid, Has}
use Rattle.ival_core.specs.Joined.{joined}
use Rattle.ival_core.proofs.Orders.{lt_true, lt_false, le_true}
use Rattle.ival_arith.specs.declared.divisions.Part.{Part}
use Rattle.ival_arith.specs.declared.divisions.Part.TheVariants.{Quotient, Remainder}
use Rattle.ival_arith.specs.declared.pieces.Change.TheVariants.{Negative}
use Rattle.ival_arith.specs.Pieces.{none, all_changed, clipped}
use Rattle.ival_arith.specs.Values.{natural_part, parts, is_minus_one, dividends, oriented, part_line, part_lines, op_of}
use Rattle.ival_arith.proofs.Exacting.{number_negated}
use Rattle.ival_arith.proofs.Fits.{Fits, Fits-same, Fits-joined, Exactly, Exactly-makes, Makes-fits, none-exactly}
use Rattle.ival_arith.proofs.FloorSets.{Separates, Fits-image, floored-fits}
use Rattle.ival_arith.proofs.Making.{Made, Typed, IsWidth, FitsEnds, true_fits}
use Rattle.ival_arith.proofs.Parts.{Image, clipped-exactly, all_changed-exactly}
use Rattle.ival_arith.proofs.Reducing.{residues-fits}
use Rattle.ival_arith.proofs.Spreading.{quotient_is, remainder_is, both_true}
use Rattle.ival_arith.proofs.Words.{ends}
use Rattle.ival_arith.proofs.Multiplying.{not_zero}

-- what a division gives
abbrev pub part_of : Part → ℤ → ℤ → ℤ
part_of Quotient x y = int_div x y
part_of Remainder x y = int_rem x y

abbrev natural_of : Part → ℕ → ℤ → ℤ
natural_of Quotient d x = floor x d
natural_of Remainder d x = pos (residue d x)

-- a divisor
pub record IsDivisor (d : ℕ) : Type 0 where
  pub some : 0 < d
  pub room : d ≤ 2 ^ 64

natural-fits : (part : Part) (d : ℕ) (u : Shape) → IsDivisor d → IsValid u → Fits (Image (Has u) (natural_of part d)) (natural_part part d u)
natural-fits Quotient d u i v = floored-fits d u i.some v
natural-fits Remainder d u i v = residues-fits d u i.some i.room v

negative_separates : Separates neg_ℤ
negative_separates = record { separates = λ a b e. omega (arith, ints) }

-- the numbers of a set, each negated
negative_exactly : (s : Shape) → IsValid s → ((n : ℤ) → Has s n → IsNumber n) → Exactly (Image (Has s) neg_ℤ) (all_changed Negative s)
negative_exactly s v h = all_changed-exactly Negative s tt v (λ n i. number_negated n (h n i))

limit : IsNumber (pos (2 ^ 120))
limit = record { least = omega (arith, ints); greatest = omega (arith, ints) }

low : (k : ℕ) → k ≤ 1 → IsNumber (pos k)
low k h = record { least = omega (arith, ints); greatest = omega (arith, ints) }

-- parts of numbers that are not negative, and of negative ones
up_part : (part : Part) (d : ℕ) (x : ℤ) → pos 0 ≤ℤ x → part_of part x (pos d) ≡ natural_of part d x
up_part Quotient d (pos a) h = refl
up_part Remainder d (pos a) h = refl
up_part part d (negsuc a) h = absurd (omega (arith, ints))

down_part : (part : Part) (d : ℕ) (x : ℤ) → x <ℤ pos 0 → part_of part x (pos d) ≡ neg_ℤ (natural_of part d (neg_ℤ x))
down_part part d (pos a) h = absurd (omega (arith, ints))
down_part Quotient d (negsuc a) h = refl
down_part Remainder d (negsuc a) h = refl

-- the numbers of a set as machine numbers
valid_numbers : (s : Shape) → IsValid s → (n : ℤ) → Has s n → IsNumber n
valid_numbers (Few v) l n h = AllNumbers-among v.items l.numbers n h
valid_numbers (Many p) l n h = Steps-number p n l h

pub parts-fits : (part : Part) (d : ℕ) (s : Shape) → IsDivisor d → IsValid s → Fits (Image (Has s) (λ x. part_of part x (pos d))) (parts part d s)
unfolding parts
parts-fits part d s i v =
    let a = clipped-exactly (pos 0) (pos (2 ^ 120)) s v (low 0 (omega arith)) limit in
    let up = clipped (pos 0) (pos (2 ^ 120)) s in
    let b = negative_exactly s v (valid_numbers s v) in
    let c = clipped-exactly (pos 1) (pos (2 ^ 120)) (all_changed Negative s) b.valid (low 1 (omega arith)) limit in
    let down = clipped (pos 1) (pos (2 ^ 120)) (all_changed Negative s) in
    let f = natural-fits part d up i a.valid in
    let g = natural-fits part d down i c.valid in
    let h = Fits-image (Image (Has down) (natural_of part d)) neg_ℤ (natural_part part d down) (all_changed Negative (natural_part part d down)) negative_separates g (negative_exactly (natural_part part d down) g.valid (valid_numbers (natural_part part d down) g.valid)) in
    Fits-same (λ n. Image (Has up) (natural_of part d) n ⊎ Image (Image (Has down) (natural_of part d)) neg_ℤ n) (Image (Has s) (λ x. part_of part x (pos d))) (joined (natural_part part d up) (all_changed Negative (natural_part part d down)))
    (λ n r. elim r [
      | inl k ↦ let q = a.only k.from k.has in record { from = k.from; has = q.has; is = k.is ∙ sym (up_part part d k.from q.above) }
      | inr k ↦
          let q = c.only k.has.from k.has.has in
          let p = b.only k.has.from q.has in
          record { from = p.from; has = p.has; is = k.is ∙ ap neg_ℤ (k.has.is ∙ ap (natural_of part d) p.is) ∙ sym (down_part part d p.from (below p.from k.has.from p.is q.above)) }
    ])
    (λ n k. by_lt_z k.from (pos 0)
    (λ l. inr (record {
      from = natural_of part d (neg_ℤ k.from);
      has = record {
        from = neg_ℤ k.from;
        has = c.holds (neg_ℤ k.from) (record { has = b.holds (neg_ℤ k.from) (record { from = k.from; has = k.has; is = refl }); above = over k.from l; below = (number_negated k.from (valid_numbers s v k.from k.has)).greatest });
        is = refl;
      };
      is = k.is ∙ down_part part d k.from l;
    }))
    (λ l. inl (record { from = k.from; has = a.holds k.from (record { has = k.has; above = l; below = (valid_numbers s v k.from k.has).greatest }); is = k.is ∙ up_part part d k.from l })))
    (Fits-joined (Image (Has up) (natural_of part d)) (Image (Image (Has down) (natural_of part d)) neg_ℤ) (natural_part part d up) (all_changed Negative (natural_part part d down)) f h)
  where
    below : (x m : ℤ) → m ≡ neg_ℤ x → pos 1 ≤ℤ m → x <ℤ pos 0
    below x m e l = omega (arith, ints)

    over : (x : ℤ) → x <ℤ pos 0 → pos 1 ≤ℤ neg_ℤ x
    over x l = omega (arith, ints)

-- ---- quotients and remainders in a type

minus_one_is : (y : ℤ) → is_minus_one y ≡ true → y ≡ negsuc 0
minus_one_is y e =
    let r = both_true (int_lt y (pos 0)) (int_le (negsuc 0) y) e in
    let a = lt_true y (pos 0) r.0 in let b = le_true (negsuc 0) y r.1 in
    omega (arith, ints)

small_quotient : (a b : ℕ) → suc a / suc (suc b) ≤ a
small_quotient a b =
    let l : suc a * 2 ≤ suc a * suc (suc b) = mul-le (suc a) 2 (suc a) (suc (suc b)) (omega arith) (omega arith) in
    let h : suc a / suc (suc b) < suc a = div_below (suc a) (suc (suc b)) (suc a) (omega arith) (omega arith) in
    omega arith

-- only the least number divided by -1 leaves a type
quotient_within : (signed : Bool) (width : ℕ) (x y : ℤ) → FitsBits signed width x → FitsBits signed width y → (is_minus_one y ≡ true → neg_ℤ (greatest_of signed width) ≤ℤ x) → FitsEnds (least_of signed width) (greatest_of signed width) (int_div x y)
quotient_within false width (pos a) (pos b) f g h = let c = f.greatest in let d = div-le_self a b in record { above = omega (arith, ints); below = omega (arith, ints) }
quotient_within false width (pos a) (negsuc b) f g h = let c = g.least in absurd (omega (arith, ints))
quotient_within false width (negsuc a) y f g h = let c = f.least in absurd (omega (arith, ints))
quotient_within true width (pos a) (pos b) f g h = let c = f.greatest in let d = div-le_self a b in record { above = omega (arith, ints); below = omega (arith, ints) }
quotient_within true width (pos a) (negsuc b) f g h = let c = f.greatest in let d = div-le_self a (suc b) in let p = pow_pos (width - 1) in record { above = omega (arith, ints); below = omega (arith, ints) }
quotient_within true width (negsuc a) (pos b) f g h = let c = f.least in let d = div-le_self (suc a) b in let p = pow_pos (width - 1) in record { above = omega (arith, ints); below = omega (arith, ints) }
quotient_within true width (negsuc a) (negsuc (suc b)) f g h = let c = f.least in let d = small_quotient a b in let p = pow_pos (width - 1) in record { above = omega (arith, ints); below = omega (arith, ints) }
quotient_within true width (negsuc a) (negsuc zero) f g h =
    let k : neg_ℤ (greatest_of true width) ≤ℤ negsuc a = h refl in
    let d = div-le_self (suc a) 1 in
    record { above = omega (arith, ints); below = omega (arith, ints) }

within_dividend : (signed : Bool) (width : ℕ) (x y : ℤ) → IsWidth width → FitsEnds (least_of signed width) (greatest_of signed width) (int_div x y) → is_minus_one y ≡ true → neg_ℤ (greatest_of signed width) ≤ℤ x
within_dividend signed width x y w f e = by_number x (subst (λ z. int_div x z ≤ℤ greatest_of signed width) (minus_one_is y e) f.below)
  where
    by_number : (x : ℤ) → int_div x (negsuc 0) ≤ℤ greatest_of signed width → neg_ℤ (greatest_of signed width) ≤ℤ x
    by_number (pos a) h = let k = ends signed width w.some w.room in let g = k.above in omega (arith, ints)
    by_number (negsuc a) h = let d = div-one (suc a) in omega (arith, ints)

-- a defined division
pub record Divided (part : Part) (signed : Bool) (width : ℕ) (x y n : ℤ) : Type 0 where
  pub divisor : is_zero y ≡ false
  pub fits : FitsEnds (least_of signed width) (greatest_of signed width) (int_div x y)
  pub is : n ≡ part_of part x y

pub divided_is : (part : Part) (signed : Bool) (width : ℕ) (x y n : ℤ) → operated (op_of part) signed width x y ≡ Ok n → Divided part signed width x y n
divided_is Quotient signed width x y n e = let q = quotient_is signed width x y n e in record { divisor = q.divisor; fits = q.fits; is = q.is }
divided_is Remainder signed width x y n e = let q = remainder_is signed width x y n e in record { divisor = q.divisor; fits = q.fits; is = q.is }

pub is_divided : (part : Part) (signed : Bool) (width : ℕ) (x y : ℤ) → is_zero y ≡ false → FitsEnds (least_of signed width) (greatest_of signed width) (int_div x y) → operated (op_of part) signed width x y ≡ Ok (part_of part x y)
is_divided Quotient signed width x y e f =
    ap (λ t. cond t (Err DivisionByZero) (cond (fits_bits signed width (int_div x y)) (Ok (int_div x y)) (Err SignedOverflow))) e ∙ ap (λ t. cond t (Ok (int_div x y)) (Err SignedOverflow)) (true_fits signed width (int_div x y) f.above f.below)
is_divided Remainder signed width x y e f =
    ap (λ t. cond t (Err DivisionByZero) (cond (fits_bits signed width (int_div x y)) (Ok (int_rem x y)) (Err SignedOverflow))) e ∙ ap (λ t. cond t (Ok (int_rem x y)) (Err SignedOverflow)) (true_fits signed width (int_div x y) f.above f.below)

-- the sets that are divided

-- x is in the set, and its quotient by y is of the type
record Dividend (signed : Bool) (width : ℕ) (s : Shape) (y x : ℤ) : Type 0 where
  has : Has s x
  above : is_minus_one y ≡ true → neg_ℤ (greatest_of signed width) ≤ℤ x

dividends_exactly : (signed : Bool) (width : ℕ) (s : Shape) (y : ℤ) → IsWidth width → IsValid s → Typed signed width (Has s) → Exactly (Dividend signed width s y) (dividends signed width y s)
dividends_exactly signed width s y w v t = by_test (is_minus_one y) refl
  where
    by_test : (b : Bool) → is_minus_one y ≡ b → Exactly (Dividend signed width s y) (cond b (clipped (neg_ℤ (greatest_of signed width)) (greatest_of signed width) s) s)
    by_test true e =
        let k = ends signed width w.some w.room in
        let a = k.greatest in let b = k.above in
        let x = clipped-exactly (neg_ℤ (greatest_of signed width)) (greatest_of signed width) s v (record { least = omega (arith, ints); greatest = omega (arith, ints) }) (record { least = omega (arith, ints); greatest = omega (arith, ints) }) in
        record {
          valid = x.valid;
          holds = λ n d. x.holds n (record { has = d.has; above = d.above e; below = (t.fits n d.has).greatest });
          only = λ n h. let c = x.only n h in record { has = c.has; above = λ f. c.above };
        }
    by_test false e = record { valid = v; holds = λ n d. d.has; only = λ n h. record { has = h; above = λ f. absurd (clash (sym f ∙ e)) } }
      where
        clash : true ≡ false → ⊥
        clash e = cc

-- divisors with a sign, by those without
turned_part : (y x : ℤ) → y <ℤ pos 0 → part_of Quotient x y ≡ part_of Quotient (neg_ℤ x) (pos (unsigned_abs y))
turned_part (pos b) x l = absurd (omega (arith, ints))
turned_part (negsuc b) (pos zero) l = ap (λ k. neg_ℤ (pos k)) (zero-div (suc b)) ∙ sym (ap pos (zero-div (suc b)))
turned_part (negsuc b) (pos (suc a)) l = refl
turned_part (negsuc b) (negsuc a) l = refl

kept_part : (y x : ℤ) → pos 0 ≤ℤ y → part_of Quotient x y ≡ part_of Quotient x (pos (unsigned_abs y))
kept_part (pos b) x l = refl
kept_part (negsuc b) x l = absurd (omega (arith, ints))

rest_part : (y x : ℤ) → part_of Remainder x y ≡ part_of Remainder x (pos (unsigned_abs y))
rest_part y (pos a) = refl
rest_part y (negsuc a) = refl

oriented_fits : (part : Part) (s : Shape) (y : ℤ) → IsDivisor (unsigned_abs y) → IsValid s → Fits (Image (Has s) (λ x. part_of part x y)) (parts part (unsigned_abs y) (oriented part y s))
oriented_fits Remainder s y i v =
    Fits-same (Image (Has s) (λ x. part_of Remainder x (pos (unsigned_abs y)))) (Image (Has s) (λ x. part_of Remainder x y)) (parts Remainder (unsigned_abs y) s)
    (λ n k. record { from = k.from; has = k.has; is = k.is ∙ sym (rest_part y k.from) }) (λ n k. record { from = k.from; has = k.has; is = k.is ∙ rest_part y k.from })
    (parts-fits Remainder (unsigned_abs y) s i v)
oriented_fits Quotient s y i v = by_sign (int_lt y (pos 0)) (λ e. lt_true y (pos 0) e) (λ e. lt_false y (pos 0) e)
  where
    by_sign : (b : Bool) → (b ≡ true → y <ℤ pos 0) → (b ≡ false → pos 0 ≤ℤ y) → Fits (Image (Has s) (λ x. part_of Quotient x y)) (parts Quotient (unsigned_abs y) (cond b (all_changed Negative s) s))
    by_sign true f g =
        let b = negative_exactly s v (valid_numbers s v) in
        Fits-same (Image (Has (all_changed Negative s)) (λ x. part_of Quotient x (pos (unsigned_abs y)))) (Image (Has s) (λ x. part_of Quotient x y)) (parts Quotient (unsigned_abs y) (all_changed Negative s))
        (λ n k. let p = b.only k.from k.has in record { from = p.from; has = p.has; is = k.is ∙ ap (λ z. part_of Quotient z (pos (unsigned_abs y))) p.is ∙ sym (turned_part y p.from (f refl)) })
        (λ n k. record { from = neg_ℤ k.from; has = b.holds (neg_ℤ k.from) (record { from = k.from; has = k.has; is = refl }); is = k.is ∙ turned_part y k.from (f refl) })
        (parts-fits Quotient (unsigned_abs y) (all_changed Negative s) i b.valid)
    by_sign false f g =
        Fits-same (Image (Has s) (λ x. part_of Quotient x (pos (unsigned_abs y)))) (Image (Has s) (λ x. part_of Quotient x y)) (parts Quotient (unsigned_abs y) s)
        (λ n k. record { from = k.from; has = k.has; is = k.is ∙ sym (kept_part y k.from (g refl)) }) (λ n k. record { from = k.from; has = k.has; is = k.is ∙ kept_part y k.from (g refl) })
        (parts-fits Quotient (unsigned_abs y) s i v)

-- n is what the division of a number of s by y gives
record ByOne (part : Part) (signed : Bool) (width : ℕ) (s : Shape) (y n : ℤ) : Type 0 where
  from : ℤ
  has : Has s from
  is : operated (op_of part) signed width from y ≡ Ok n

divisor_of : (signed : Bool) (width : ℕ) (y : ℤ) → IsWidth width → FitsBits signed width y → is_zero y ≡ false → IsDivisor (unsigned_abs y)
divisor_of signed width y w f e =
    let k = ends signed width w.some w.room in
    let a = k.least in let b = k.greatest in let c = f.least in let d = f.greatest in
    record { some = not_zero y e; room = omega (arith, ints) }

part_line-fits : (part : Part) (signed : Bool) (width : ℕ) (s : Shape) (y : ℤ) → IsWidth width → IsValid s → Typed signed width (Has s) → FitsBits signed width y → Fits (ByOne part signed width s y) (part_line part signed width s y)
unfolding part_line
part_line-fits part signed width s y w v t f = by_zero (is_zero y) refl
  where
    by_zero : (b : Bool) → is_zero y ≡ b → Fits (ByOne part signed width s y) (cond b none (parts part (unsigned_abs y) (oriented part y (dividends signed width y s))))
    by_zero true e =
        Fits-same (λ n. ⊥) (ByOne part signed width s y) none (λ n k. absurd k) (λ n k. absurd (clash (sym e ∙ (divided_is part signed width k.from y n k.is).divisor)))
        (Makes-fits (λ n. ⊥) none (Exactly-makes (λ n. ⊥) none none-exactly))
      where
        clash : true ≡ false → ⊥
        clash e = cc
    by_zero false e =
        let u = dividends signed width y s in
        let d = dividends_exactly signed width s y w v t in
        Fits-same (Image (Has u) (λ x. part_of part x y)) (ByOne part signed width s y) (parts part (unsigned_abs y) (oriented part y u))
        (λ n k. let h = d.only k.from k.has in record { from = k.from; has = h.has; is = is_divided part signed width k.from y e (quotient_within signed width k.from y (t.fits k.from h.has) f h.above) ∙ ap Ok (sym k.is) })
        (λ n k. let h = divided_is part signed width k.from y n k.is in record { from = k.from; has = d.holds k.from (record { has = k.has; above = within_dividend signed width k.from y w h.fits }); is = h.is })
        (oriented_fits part u y (divisor_of signed width y w f e) d.valid)

part_lines_onto : (part : Part) (signed : Bool) (width : ℕ) (R : ℤ → Type 0) (all s : Shape) (ys : List ℤ) → IsWidth width → IsValid s → Typed signed width (Has s) → Typed signed width (Among ys) → Fits R all →
    Fits (λ n. R n ⊎ Made (op_of part) signed width (Has s) (Among ys) n) (part_lines part signed width all s ys)
unfolding part_lines
part_lines_onto part signed width R all s [] w v t u f =
    Fits-same R (λ n. R n ⊎ Made (op_of part) signed width (Has s) (Among []) n) all (λ n r. inl r) (λ n h. elim h [ inl r ↦ r | inr m ↦ absurd m.has_right ]) f
part_lines_onto part signed width R all s (y ∷ ys) w v t u f =
    let j = Fits-joined R (ByOne part signed width s y) all (part_line part signed width s y) f (part_line-fits part signed width s y w v t (u.fits y (inl refl))) in
    let k = part_lines_onto part signed width (λ n. R n ⊎ ByOne part signed width s y n) (joined all (part_line part signed width s y)) s ys w v t (record { fits = λ n m. u.fits n (inr m) }) j in
    Fits-same (λ n. (R n ⊎ ByOne part signed width s y n) ⊎ Made (op_of part) signed width (Has s) (Among ys) n) (λ n. R n ⊎ Made (op_of part) signed width (Has s) (Among (y ∷ ys)) n) (part_lines part signed width (joined all (part_line part signed width s y)) s ys)
    (λ n h. elim h [ inl i ↦ elim i [ inl r ↦ inl r | inr b ↦ inr (record { left = b.from; right = y; has_left = b.has; has_right = inl refl; is = b.is }) ] | inr m ↦ inr (record { left = m.left; right = m.right; has_left = m.has_left; has_right = inr m.has_right; is = m.is }) ])
    (λ n h. elim h [ inl r ↦ inl (inl r) | inr m ↦ back n m m.has_right ]) k
  where
    back : (n : ℤ) (m : Made (op_of part) signed width (Has s) (Among (y ∷ ys)) n) → (m.right ≡ y) ⊎ Among ys m.right → (R n ⊎ ByOne part signed width s y n) ⊎ Made (op_of part) signed width (Has s) (Among ys) n
    back n m (inl e) = inl (inr (record { from = m.left; has = m.has_left; is = ap (operated (op_of part) signed width m.left) (sym e) ∙ m.is }))
    back n m (inr a) = inr (record { left = m.left; right = m.right; has_left = m.has_left; has_right = a; is = m.is })

pub part_lines-fits : (part : Part) (signed : Bool) (width : ℕ) (s : Shape) (ys : List ℤ) → IsWidth width → IsValid s → Typed signed width (Has s) → Typed signed width (Among ys) → Fits (Made (op_of part) signed width (Has s) (Among ys)) (part_lines part signed width none s ys)
part_lines-fits part signed width s ys w v t u =
    Fits-same (λ n. ⊥ ⊎ Made (op_of part) signed width (Has s) (Among ys) n) (Made (op_of part) signed width (Has s) (Among ys)) (part_lines part signed width none s ys)
    (λ n h. elim h [ inl f ↦ absurd f | inr m ↦ m ]) (λ n m. inr m)
    (part_lines_onto part signed width (λ n. ⊥) none s ys w v t u (Makes-fits (λ n. ⊥) none (Exactly-makes (λ n. ⊥) none none-exactly)))
