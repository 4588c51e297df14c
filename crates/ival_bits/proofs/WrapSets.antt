-- What sets of wrapped numbers hold.
use Rattle.std.proofs.Common.{◌≡◌, ◌⊎◌, ℕ, ◌-◌, ◌<◌, ◌≤◌, ◌^◌, Bool, true, false, cond, ℤ, pos, ◌+ℤ◌, refl, sym, subst, ap, ◌∙◌, inl, inr, arith}
use Rattle.std.specs.Prelude.{neg_ℤ, nat_lt, int_le}
use Rattle.std.proofs.lemmas.Int.{ints}
use Rattle.std.proofs.lemmas.Nat.{pow_pos}
use Rattle.std.proofs.lemmas.Bool.{ltb-true, ltb-false}
use lib.Signed.{◌≤ℤ◌}
use Rattle.c_base.specs.Integers.{FitsBits, residue, signed_number, greatest_of}
use Rattle.c_base.specs.Operators.{reduced}
use Rattle.c_base.proofs.Residues.{residue_below}
use Rattle.ival_core.specs.declared.value.Progression.{Progression}
use Rattle.ival_core.specs.declared.value.Ival.{Ival}
use Rattle.ival_core.specs.declared.value.Shape.{Shape}
use Rattle.ival_core.specs.declared.value.Shape.TheVariants.{Few, Many}
use Rattle.ival_core.specs.Sets.{apart, IsNumber, IsLongRun, IsValid, Has, Steps}
use Rattle.ival_core.specs.Ivals.{Holds, IsOnly}
use Rattle.ival_core.specs.Joined.{joined}
use Rattle.ival_core.proofs.Runs.{Steps-low}
use Rattle.ival_core.proofs.Distances.{apart_is, apart_onto}
use Rattle.std.specs.Int.{◌∣◌}
use Rattle.arrayvec.specs.ArrayVec.{ArrayVec}
use Rattle.ival_core.proofs.Orders.{le_true}
use Rattle.ival_arith.specs.declared.pieces.Change.TheVariants.{Plus}
use Rattle.ival_arith.specs.Pieces.{run, all_changed, clipped}
use Rattle.ival_arith.specs.Values.{residues}
use Rattle.ival_arith.proofs.Fits.{Fits, Fits-joined, Makes-fits, Exactly, Exactly-makes}
use Rattle.ival_arith.proofs.Parts.{Image, Between, clipped-exactly, all_changed-exactly, run-exactly}
use Rattle.ival_arith.proofs.Reducing.{residues-fits}
use Rattle.ival_arith.proofs.Singling.{fits_single}
use Rattle.ival_arith.proofs.TermSets.{only_shape}
use Rattle.ival_arith.proofs.Words.{half, powers, fits_operand, operand_number}
use Rattle.ival_bits.specs.Wraps.{resigned, run_wrapped, wrapped}
use Rattle.ival_bits.proofs.PartSets.{list_of, residues_single, shape_only}
use Rattle.ival_bits.proofs.Wrapped.{pattern_number, reduced_fits, reduced_further}

-- a width of an integer type
pub record IsBits (bits : ℕ) : Type 0 where
  pub some : 0 < bits
  pub room : bits ≤ 64

small : (bits : ℕ) (z : ℤ) → IsBits bits → neg_ℤ (pos (2 ^ bits)) ≤ℤ z → z ≤ℤ pos (2 ^ bits) → IsNumber z
small bits z w a b = let p = powers bits w.room in record { least = omega (arith, ints); greatest = omega (arith, ints) }

low_exactly : (bits : ℕ) (s : Shape) → IsBits bits → IsValid s → Exactly (Between (Has s) (pos 0) (pos (2 ^ (bits - 1) - 1))) (clipped (pos 0) (pos (2 ^ (bits - 1) - 1)) s)
low_exactly bits s w v =
    let e = half bits w.some in
    clipped-exactly (pos 0) (pos (2 ^ (bits - 1) - 1)) s v (small bits (pos 0) w (omega (arith, ints)) (omega (arith, ints))) (small bits (pos (2 ^ (bits - 1) - 1)) w (omega (arith, ints)) (omega (arith, ints)))

pub high_exactly : (bits : ℕ) (s : Shape) → IsBits bits → IsValid s → Exactly (Between (Has s) (pos (2 ^ (bits - 1))) (pos (2 ^ bits - 1))) (clipped (pos (2 ^ (bits - 1))) (pos (2 ^ bits - 1)) s)
high_exactly bits s w v =
    let e = half bits w.some in
    clipped-exactly (pos (2 ^ (bits - 1))) (pos (2 ^ bits - 1)) s v (small bits (pos (2 ^ (bits - 1))) w (omega (arith, ints)) (omega (arith, ints))) (small bits (pos (2 ^ bits - 1)) w (omega (arith, ints)) (omega (arith, ints)))

pub high_number : (bits : ℕ) (s : Shape) → IsBits bits → IsValid s → (n : ℤ) → Has (clipped (pos (2 ^ (bits - 1))) (pos (2 ^ bits - 1)) s) n → IsNumber (n +ℤ neg_ℤ (pos (2 ^ bits)))
high_number bits s w v n h =
    let b = (high_exactly bits s w v).only n h in
    let c : pos (2 ^ (bits - 1)) ≤ℤ n = b.above in let d : n ≤ℤ pos (2 ^ bits - 1) = b.below in
    let p = pow_pos bits in
    small bits (n +ℤ neg_ℤ (pos (2 ^ bits))) w (omega (arith, ints)) (omega (arith, ints))

negatives_exactly : (bits : ℕ) (s : Shape) → IsBits bits → IsValid s →
    Exactly (Image (Has (clipped (pos (2 ^ (bits - 1))) (pos (2 ^ bits - 1)) s)) (λ n. n +ℤ neg_ℤ (pos (2 ^ bits)))) (all_changed (Plus (neg_ℤ (pos (2 ^ bits)))) (clipped (pos (2 ^ (bits - 1))) (pos (2 ^ bits - 1)) s))
negatives_exactly bits s w v =
    all_changed-exactly (Plus (neg_ℤ (pos (2 ^ bits)))) (clipped (pos (2 ^ (bits - 1))) (pos (2 ^ bits - 1)) s) tt (high_exactly bits s w v).valid (high_number bits s w v)

-- the numbers of patterns, low or high
abbrev Numbers : ℕ → Shape → ℤ → Type 0
Numbers bits s n =
    Between (Has s) (pos 0) (pos (2 ^ (bits - 1) - 1)) n ⊎ Image (Has (clipped (pos (2 ^ (bits - 1))) (pos (2 ^ bits - 1)) s)) (λ n. n +ℤ neg_ℤ (pos (2 ^ bits))) n

resigned-fits : (bits : ℕ) (s : Shape) → IsBits bits → IsValid s → Fits (Numbers bits s) (resigned true bits s)
unfolding resigned
resigned-fits bits s w v =
    Fits-joined (Between (Has s) (pos 0) (pos (2 ^ (bits - 1) - 1))) (Image (Has (clipped (pos (2 ^ (bits - 1))) (pos (2 ^ bits - 1)) s)) (λ n. n +ℤ neg_ℤ (pos (2 ^ bits))))
    (clipped (pos 0) (pos (2 ^ (bits - 1) - 1)) s) (all_changed (Plus (neg_ℤ (pos (2 ^ bits)))) (clipped (pos (2 ^ (bits - 1))) (pos (2 ^ bits - 1)) s))
    (exact_fits (Between (Has s) (pos 0) (pos (2 ^ (bits - 1) - 1))) (clipped (pos 0) (pos (2 ^ (bits - 1) - 1)) s) (low_exactly bits s w v))
    (exact_fits (Image (Has (clipped (pos (2 ^ (bits - 1))) (pos (2 ^ bits - 1)) s)) (λ n. n +ℤ neg_ℤ (pos (2 ^ bits)))) (all_changed (Plus (neg_ℤ (pos (2 ^ bits)))) (clipped (pos (2 ^ (bits - 1))) (pos (2 ^ bits - 1)) s)) (negatives_exactly bits s w v))
  where
    exact_fits : (P : ℤ → Type 0) (s : Shape) → Exactly P s → Fits P s
    exact_fits P s e = Makes-fits P s (Exactly-makes P s e)

-- a pattern among them gives its number
pattern_in : (bits : ℕ) (s : Shape) (r : ℕ) → IsBits bits → IsValid s → r < 2 ^ bits → Has s (pos r) → Numbers bits s (signed_number true bits r)
pattern_in bits s r w v l h = subst (Numbers bits s) (sym (pattern_number bits r w.some l)) (by_test (nat_lt r (2 ^ (bits - 1))) (λ e. ltb-true r (2 ^ (bits - 1)) e) (λ e. ltb-false r (2 ^ (bits - 1)) e))
  where
    by_test : (t : Bool) → (t ≡ true → r < 2 ^ (bits - 1)) → (t ≡ false → 2 ^ (bits - 1) ≤ r) → Numbers bits s (cond t (pos r) (pos r +ℤ neg_ℤ (pos (2 ^ bits))))
    by_test true f g = let a = f refl in inl (record { has = h; above = omega (arith, ints); below = omega (arith, ints) })
    by_test false f g =
        let a = g refl in
        inr (record { from = pos r; has = (high_exactly bits s w v).holds (pos r) (record { has = h; above = omega (arith, ints); below = omega (arith, ints) }); is = refl })

-- and each is that of a pattern
pattern_of : (bits : ℕ) (s : Shape) (r : ℕ) → IsBits bits → IsValid s → r < 2 ^ bits → ((n : ℤ) → Has s n → n ≡ pos r) → (n : ℤ) → Numbers bits s n → n ≡ signed_number true bits r
pattern_of bits s r w v l only n i = by_test (nat_lt r (2 ^ (bits - 1))) (λ e. ltb-true r (2 ^ (bits - 1)) e) (λ e. ltb-false r (2 ^ (bits - 1)) e) i ∙ sym (pattern_number bits r w.some l)
  where
    by_test : (t : Bool) → (t ≡ true → r < 2 ^ (bits - 1)) → (t ≡ false → 2 ^ (bits - 1) ≤ r) → Numbers bits s n → n ≡ cond t (pos r) (pos r +ℤ neg_ℤ (pos (2 ^ bits)))
    by_test true f g (inl b) = only n b.has
    by_test true f g (inr i) =
        let b = (high_exactly bits s w v).only i.from i.has in
        let e = only i.from b.has in let c : pos (2 ^ (bits - 1)) ≤ℤ i.from = b.above in let a = f refl in absurd (omega (arith, ints))
    by_test false f g (inl b) = let e = only n b.has in let c : n ≤ℤ pos (2 ^ (bits - 1) - 1) = b.below in let a = g refl in let p = pow_pos (bits - 1) in absurd (omega (arith, ints))
    by_test false f g (inr i) = i.is ∙ ap (λ z. z +ℤ neg_ℤ (pos (2 ^ bits))) (only i.from ((high_exactly bits s w v).only i.from i.has).has)

unsigned_patterns : (bits : ℕ) (s : Shape) → resigned false bits s ≡ s
unfolding resigned
unsigned_patterns bits s = refl

pub resigned_valid : (signed : Bool) (bits : ℕ) (s : Shape) → IsBits bits → IsValid s → IsValid (resigned signed bits s)
resigned_valid false bits s w v = subst IsValid (sym (unsigned_patterns bits s)) v
resigned_valid true bits s w v = (resigned-fits bits s w v).valid

pub resigned_holds : (signed : Bool) (bits : ℕ) (s : Shape) (r : ℕ) → IsBits bits → IsValid s → r < 2 ^ bits → Has s (pos r) → Has (resigned signed bits s) (signed_number signed bits r)
resigned_holds false bits s r w v l h = subst (λ t. Has t (pos r)) (sym (unsigned_patterns bits s)) h
resigned_holds true bits s r w v l h = (resigned-fits bits s w v).holds (signed_number true bits r) (pattern_in bits s r w v l h)

list_only : (x n : ℤ) → Has (list_of x) n → n ≡ x
list_only x n (inl e) = e
list_only x n (inr f) = absurd f

pub resigned_single : (signed : Bool) (bits : ℕ) (s : Shape) (r : ℕ) → IsBits bits → IsValid s → r < 2 ^ bits → s ≡ list_of (pos r) → resigned signed bits s ≡ list_of (signed_number signed bits r)
resigned_single false bits s r w v l e = unsigned_patterns bits s ∙ e
resigned_single true bits s r w v l e =
    fits_single (Numbers bits s) (resigned true bits s) (signed_number true bits r) (resigned-fits bits s w v)
    (pattern_in bits s r w v l (subst (λ t. Has t (pos r)) (sym e) (inl refl)))
    (pattern_of bits s r w v l (λ n h. list_only (pos r) n (subst (λ t. Has t n) e h)))

-- ---- sets of any numbers

patterns : (bits : ℕ) (s : Shape) → IsBits bits → IsValid s → Fits (Image (Has s) (λ n. pos (residue (2 ^ bits) n))) (residues (2 ^ bits) s)
patterns bits s w v = residues-fits (2 ^ bits) s (pow_pos bits) (powers bits w.room) v

pub through_patterns : (signed : Bool) (bits : ℕ) (s : Shape) → IsBits bits → IsValid s → (n : ℤ) → Has s n → Has (resigned signed bits (residues (2 ^ bits) s)) (reduced signed bits n)
through_patterns signed bits s w v n h =
    let f = patterns bits s w v in
    resigned_holds signed bits (residues (2 ^ bits) s) (residue (2 ^ bits) n) w f.valid (residue_below (2 ^ bits) n (pow_pos bits)) (f.holds (pos (residue (2 ^ bits) n)) (record { from = n; has = h; is = refl }))

pub moved_number : (signed : Bool) (bits : ℕ) (n : ℤ) → IsBits bits → FitsBits signed bits n → IsNumber n
moved_number signed bits n w f = operand_number n (fits_operand signed bits n w.some w.room f)

-- the bounds of a run that has moved
pub record Moved (signed : Bool) (bits : ℕ) (p : Progression) : Type 0 where
  pub first : IsNumber (reduced signed bits p.low)
  pub last : IsNumber (reduced signed bits p.low +ℤ pos (apart p.low p.high))
  pub order : reduced signed bits p.low ≤ℤ (reduced signed bits p.low +ℤ pos (apart p.low p.high))

pub moved : (signed : Bool) (bits : ℕ) (p : Progression) → IsBits bits → (reduced signed bits p.low +ℤ pos (apart p.low p.high)) ≤ℤ greatest_of signed bits → Moved signed bits p
moved signed bits p w l =
    let f = reduced_fits signed bits p.low w.some in
    let a : reduced signed bits p.low ≤ℤ (reduced signed bits p.low +ℤ pos (apart p.low p.high)) = further (reduced signed bits p.low) (apart p.low p.high) in
    let b = f.least in
    record {
      first = moved_number signed bits (reduced signed bits p.low) w f;
      last = moved_number signed bits (reduced signed bits p.low +ℤ pos (apart p.low p.high)) w (record { least = omega (arith, ints); greatest = l });
      order = a;
    }
  where
    further : (z : ℤ) (k : ℕ) → z ≤ℤ (z +ℤ pos k)
    further z k = omega (arith, ints)

run_holds : (signed : Bool) (bits : ℕ) (p : Progression) → IsBits bits → IsLongRun p → (n : ℤ) → Steps p n → Has (run_wrapped signed bits p) (reduced signed bits n)
unfolding run_wrapped
run_holds signed bits p w l n h =
    by_test (int_le (reduced signed bits p.low +ℤ pos (apart p.low p.high)) (greatest_of signed bits)) (λ e. le_true (reduced signed bits p.low +ℤ pos (apart p.low p.high)) (greatest_of signed bits) e)
  where
    within : (reduced signed bits p.low +ℤ pos (apart p.low p.high)) ≤ℤ greatest_of signed bits → Has (run (reduced signed bits p.low) (reduced signed bits p.low +ℤ pos (apart p.low p.high)) p.stride) (reduced signed bits n)
    within m =
        let v = moved signed bits p w m in
        let x = run-exactly (reduced signed bits p.low) (reduced signed bits p.low +ℤ pos (apart p.low p.high)) p.stride v.first v.last v.order l.moves in
        let a : n ≡ p.low +ℤ pos (apart p.low n) = apart_is p.low n h.above in
        let b : p.high ≡ p.low +ℤ pos (apart p.low p.high) = apart_is p.low p.high (Steps-low p l).below in
        let c : apart p.low n ≤ apart p.low p.high = nearer p.low n p.high (apart p.low n) (apart p.low p.high) a b h.below in
        let d : reduced signed bits n ≡ reduced signed bits p.low +ℤ pos (apart p.low n) =
        ap (reduced signed bits) a ∙ reduced_further signed bits p.low (apart p.low n) w.some (less (reduced signed bits p.low) (apart p.low n) (apart p.low p.high) (greatest_of signed bits) c m) in
        subst (Has (run (reduced signed bits p.low) (reduced signed bits p.low +ℤ pos (apart p.low p.high)) p.stride)) (sym d)
        (x.holds (reduced signed bits p.low +ℤ pos (apart p.low n)) (record {
          above = upward (reduced signed bits p.low) (apart p.low n);
          below = under (reduced signed bits p.low) (apart p.low n) (apart p.low p.high) c;
          meets = subst (λ z. p.stride ∣ z) (sym (apart_onto (reduced signed bits p.low) (apart p.low n))) h.meets;
        }))
      where
        nearer : (low n high : ℤ) (j k : ℕ) → n ≡ low +ℤ pos j → high ≡ low +ℤ pos k → n ≤ℤ high → j ≤ k
        nearer low n high j k e f g = omega (arith, ints)

        less : (z : ℤ) (j k : ℕ) (g : ℤ) → j ≤ k → (z +ℤ pos k) ≤ℤ g → (z +ℤ pos j) ≤ℤ g
        less z j k g h l = omega (arith, ints)

        upward : (z : ℤ) (j : ℕ) → z ≤ℤ (z +ℤ pos j)
        upward z j = omega (arith, ints)

        under : (z : ℤ) (j k : ℕ) → j ≤ k → (z +ℤ pos j) ≤ℤ (z +ℤ pos k)
        under z j k h = omega (arith, ints)

    by_test : (t : Bool) → (t ≡ true → (reduced signed bits p.low +ℤ pos (apart p.low p.high)) ≤ℤ greatest_of signed bits) →
        Has (cond t (run (reduced signed bits p.low) (reduced signed bits p.low +ℤ pos (apart p.low p.high)) p.stride) (resigned signed bits (residues (2 ^ bits) (Many p)))) (reduced signed bits n)
    by_test true f = within (f refl)
    by_test false f = through_patterns signed bits (Many p) w l n h

pub wrapped_holds : (signed : Bool) (bits : ℕ) (s : Shape) → IsBits bits → IsValid s → (n : ℤ) → Has s n → Has (wrapped signed bits s) (reduced signed bits n)
unfolding wrapped
wrapped_holds signed bits (Few v) w l n h = through_patterns signed bits (Few v) w l n h
wrapped_holds signed bits (Many p) w l n h = run_holds signed bits p w l n h

wrapped_list : (signed : Bool) (bits : ℕ) (x : ℤ) → wrapped signed bits (list_of x) ≡ resigned signed bits (residues (2 ^ bits) (list_of x))
unfolding wrapped
wrapped_list signed bits x = refl

pub wrap_holds : (signed : Bool) (bits : ℕ) (a v : Ival) → IsBits bits → v.shape ≡ wrapped signed bits a.shape → (n : ℤ) → Holds a n → Holds v (reduced signed bits n)
wrap_holds signed bits a v w e n h = subst (λ s. Has s (reduced signed bits n)) (sym e) (wrapped_holds signed bits a.shape w a.valid n h)

pub wrap_single : (signed : Bool) (bits : ℕ) (a v : Ival) → IsBits bits → v.shape ≡ wrapped signed bits a.shape → (n : ℤ) → IsOnly a n → IsOnly v (reduced signed bits n)
wrap_single signed bits a v w e n o =
    let s = only_shape a n o in
    let f = patterns bits a.shape w a.valid in
    shape_only v (reduced signed bits n)
    (e ∙ ap (wrapped signed bits) s ∙ wrapped_list signed bits n ∙ ap (λ t. resigned signed bits (residues (2 ^ bits) t)) (sym s)
    ∙ resigned_single signed bits (residues (2 ^ bits) a.shape) (residue (2 ^ bits) n) w f.valid (residue_below (2 ^ bits) n (pow_pos bits))
    (ap (residues (2 ^ bits)) s ∙ residues_single (2 ^ bits) n (pow_pos bits) (powers bits w.room)))

-- ---- how they are computed

pub resigned_signed : (signed : Bool) (bits : ℕ) (s a b r : Shape) → signed ≡ true → a ≡ clipped (pos 0) (pos (2 ^ (bits - 1) - 1)) s →
    b ≡ all_changed (Plus (neg_ℤ (pos (2 ^ bits)))) (clipped (pos (2 ^ (bits - 1))) (pos (2 ^ bits - 1)) s) → r ≡ joined a b → r ≡ resigned signed bits s
unfolding resigned
resigned_signed false bits s a b r e f g h = cc
resigned_signed true bits s a b r e f g h = h ∙ ap (λ x. joined x b) f ∙ ap (joined (clipped (pos 0) (pos (2 ^ (bits - 1) - 1)) s)) g

pub resigned_unsigned : (signed : Bool) (bits : ℕ) (s r : Shape) → signed ≡ false → r ≡ s → r ≡ resigned signed bits s
unfolding resigned
resigned_unsigned false bits s r e f = f
resigned_unsigned true bits s r e f = cc

pub run_moved : (signed : Bool) (bits : ℕ) (p : Progression) (r : Shape) → int_le (reduced signed bits p.low +ℤ pos (apart p.low p.high)) (greatest_of signed bits) ≡ true →
    r ≡ run (reduced signed bits p.low) (reduced signed bits p.low +ℤ pos (apart p.low p.high)) p.stride → r ≡ run_wrapped signed bits p
unfolding run_wrapped
run_moved signed bits p r e f = f ∙ sym (ap (λ t. cond t (run (reduced signed bits p.low) (reduced signed bits p.low +ℤ pos (apart p.low p.high)) p.stride) (resigned signed bits (residues (2 ^ bits) (Many p)))) e)

pub run_turned : (signed : Bool) (bits : ℕ) (p : Progression) (r : Shape) → int_le (reduced signed bits p.low +ℤ pos (apart p.low p.high)) (greatest_of signed bits) ≡ false →
    r ≡ resigned signed bits (residues (2 ^ bits) (Many p)) → r ≡ run_wrapped signed bits p
unfolding run_wrapped
run_turned signed bits p r e f = f ∙ sym (ap (λ t. cond t (run (reduced signed bits p.low) (reduced signed bits p.low +ℤ pos (apart p.low p.high)) p.stride) (resigned signed bits (residues (2 ^ bits) (Many p)))) e)

pub wrapped_few : (signed : Bool) (bits : ℕ) (s at r : Shape) (v : ArrayVec ℤ) → at ≡ s → at ≡ Few v → r ≡ resigned signed bits (residues (2 ^ bits) s) → r ≡ wrapped signed bits s
unfolding wrapped
wrapped_few signed bits s at r v e f g = g ∙ ap (λ x. resigned signed bits (residues (2 ^ bits) x)) (sym e ∙ f) ∙ ap (wrapped signed bits) (sym f ∙ e)

pub wrapped_run : (signed : Bool) (bits : ℕ) (s at r : Shape) (p : Progression) → at ≡ s → at ≡ Many p → r ≡ run_wrapped signed bits p → r ≡ wrapped signed bits s
unfolding wrapped
wrapped_run signed bits s at r p e f g = g ∙ ap (wrapped signed bits) (sym f ∙ e)
