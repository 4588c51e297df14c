-- What stores leave of values, and values that are made of two.
use Rattle.std.proofs.Common.{◌≡◌, ◌⊎◌, ℕ, ◌^◌, ◌==◌, Bool, true, false, ◌||◌, List, [], ◌∷◌, length, refl, sym, subst, ap, ◌∙◌, inl, inr, arith, eq-eqb}
use Rattle.std.specs.Prelude.{None, Some, filter}
use Rattle.std.specs.List.{list_all}
use Rattle.std.proofs.lemmas.Bool.{and_parts, eqb-true}
use Rattle.c_base.specs.declared.integer.Machine.TheVariants.{Lp64}
use Rattle.ival_core.specs.declared.value.Ival.{Ival}
use Rattle.avalue_base.specs.Lists.{all_among, union_of}
use Rattle.avalue_base.specs.Numbers.{is_empty_list, has_row, rest_in, bit_numbers, join_of, concat_of}
use Rattle.avalue_base.specs.Values.{Address, AVal, Separate, Mixed, bases_of}
use Rattle.avalue_base.specs.Hues.{any_value, value_admits, value_rest, value_has, with_number}
use Rattle.avalue_base.specs.Pieces.{has_offsets, fit_value, glue_values}
use Rattle.avalue_base.proofs.Accesses.{fit_value_same}
use Rattle.avalue_values.specs.Views.{numbers_in, numbers_alone, addresses_of}
use Rattle.avalue_values.proofs.Values.{some_is}

-- ---- what a value tells of bits

pub admits_mixed : (v : AVal) (k : ℕ) (bs : List ℕ) (r : Bool) → numbers_in v ≡ None → r ≡ all_among bs (bases_of v) → r ≡ value_admits k v bs
admits_mixed (Separate ns xs) k bs r e h = cc
admits_mixed (Mixed cs) k bs r e h = h

pub admits_none : (v : AVal) (n : Ival) (k : ℕ) (bs : List ℕ) → numbers_in v ≡ Some n → is_empty_list bs ≡ false → false ≡ value_admits k v bs
admits_none (Separate ns xs) n k bs e h = rw h refl
admits_none (Mixed cs) n k bs e h = cc

pub admits_row : (v : AVal) (n : Ival) (k : ℕ) (bs : List ℕ) (r : Bool) → numbers_in v ≡ Some n → is_empty_list bs ≡ true → r ≡ has_row n.shape (2 ^ k) → r ≡ value_admits k v bs
admits_row (Separate ns xs) n k bs r e h f = rw h (f ∙ ap (λ (m : Ival). has_row m.shape (2 ^ k)) (sym (some_is ns n e)))
admits_row (Mixed cs) n k bs r e h f = cc

pub rest_none : (k : ℕ) (v : AVal) → numbers_alone v ≡ None → value_rest k v ≡ None
rest_none k (Separate ns []) e = cc
rest_none k (Separate ns (x ∷ xs)) e = refl
rest_none k (Mixed bs) e = refl

pub rest_alone : (k : ℕ) (v : AVal) (n : Ival) → numbers_alone v ≡ Some n → value_rest k v ≡ rest_in k n.shape
rest_alone k (Separate ns []) n e = ap (λ (m : Ival). rest_in k m.shape) (some_is ns n e)
rest_alone k (Separate ns (x ∷ xs)) n e = cc
rest_alone k (Mixed bs) n e = cc

pub has_mixed : (v : AVal) (k : ℕ) (bits : List Bool) → numbers_in v ≡ None → true ≡ value_has k v bits
has_mixed (Separate ns xs) k bits e = cc
has_mixed (Mixed bs) k bits e = refl

-- ---- one number more

pub with_separate : (v : AVal) (n m : Ival) (xs : List Address) → numbers_in v ≡ Some n → xs ≡ addresses_of v → Separate (join_of n m) xs ≡ with_number v m
with_separate (Separate ns ys) n m xs e f = ap (λ z. Separate (join_of z m) xs) (sym (some_is ns n e)) ∙ ap (Separate (join_of ns m)) f
with_separate (Mixed bs) n m xs e f = cc

pub with_mixed : (v : AVal) (m : Ival) → numbers_in v ≡ None → v ≡ with_number v m
with_mixed (Separate ns xs) m e = cc
with_mixed (Mixed bs) m e = refl

-- ---- any bit

pub any_none : (bs : List ℕ) → length bs ≡ 0 → Separate bit_numbers [] ≡ any_value bs
any_none [] h = refl
any_none (b ∷ bs) h = absurd (omega arith)

pub any_some : (bs : List ℕ) → (length bs ≡ 0 → ⊥) → Mixed bs ≡ any_value bs
any_some [] h = absurd (h refl)
any_some (b ∷ bs) h = refl

-- ---- stores

kept_all : (xs : List Address) → list_all has_offsets xs ≡ true → filter has_offsets xs ≡ xs
kept_all [] h = refl
kept_all (x ∷ xs) h =
    let p = and_parts (has_offsets x) (list_all has_offsets xs) h in
    rw p.0 (ap (λ zs. x ∷ zs) (kept_all xs p.1))

or_right : (a b : Bool) → b ≡ true → (a || b) ≡ true
or_right true b h = refl
or_right false b h = h

pub fit_kept : (v : AVal) (k : ℕ) (xs : List Address) → xs ≡ addresses_of v → list_all has_offsets xs ≡ true → (length xs ≡ 0) ⊎ (k ≡ 64) → v ≡ fit_value Lp64 k v
fit_kept (Mixed bs) k xs e h c = refl
fit_kept (Separate ns ys) k xs e h c = sym (fit_value_same Lp64 k (Separate ns ys) (fits c) (subst (λ zs. list_all has_offsets zs ≡ true) e h))
  where
    none : (zs : List Address) → length zs ≡ 0 → is_empty_list zs ≡ true
    none [] h = refl
    none (z ∷ zs) h = absurd (omega arith)

    fits : (length xs ≡ 0) ⊎ (k ≡ 64) → (is_empty_list ys || (k == 64)) ≡ true
    fits (inl z) = let n = none ys (ap length (sym e) ∙ z) in rw n refl
    fits (inr f) = or_right (is_empty_list ys) (k == 64) (eq-eqb k 64 f)

pub fit_mixed : (v : AVal) (k : ℕ) (xs : List Address) (bs : List ℕ) → xs ≡ addresses_of v → list_all has_offsets xs ≡ true → (length xs ≡ 0 → ⊥) → (k ≡ 64 → ⊥) → bs ≡ bases_of v → Mixed bs ≡ fit_value Lp64 k v
fit_mixed (Mixed cs) k xs bs e h n d f = ap Mixed f
fit_mixed (Separate ns []) k xs bs e h n d f = absurd (n (ap length e))
fit_mixed (Separate ns (y ∷ ys)) k xs bs e h n d f =
    let a = kept_all (y ∷ ys) (subst (λ zs. list_all has_offsets zs ≡ true) e h) in
    let b : (k == 64) ≡ false = other k 64 d in
    ap Mixed f ∙ rw (a, b) refl
  where
    other : (m n : ℕ) → (m ≡ n → ⊥) → (m == n) ≡ false
    other m n g = at (m == n) (λ t. g (eqb-true m n t))
      where
        at : (b : Bool) → (b ≡ true → ⊥) → b ≡ false
        at true f = absurd (f refl)
        at false f = refl

pub bases_some : (v : AVal) (xs : List Address) (bs : List ℕ) → xs ≡ addresses_of v → (length xs ≡ 0 → ⊥) → bs ≡ bases_of v → is_empty_list bs ≡ false
bases_some (Mixed cs) xs bs e n f = absurd (n (ap length e))
bases_some (Separate ns []) xs bs e n f = absurd (n (ap length e))
bases_some (Separate ns (y ∷ ys)) xs bs e n f = ap is_empty_list f

-- ---- values that are made of two

pub glue_numbers : (v w : AVal) (n m g : Ival) (j k : ℕ) → numbers_alone v ≡ Some n → numbers_alone w ≡ Some m → g ≡ concat_of j n k m → Separate g [] ≡ glue_values j v k w
glue_numbers (Separate ns []) (Separate ms []) n m g j k e f h =
    ap (λ z. Separate z []) (h ∙ ap (λ z. concat_of j z k m) (sym (some_is ns n e)) ∙ ap (λ z. concat_of j ns k z) (sym (some_is ms m f)))
glue_numbers (Separate ns []) (Separate ms (y ∷ ys)) n m g j k e f h = cc
glue_numbers (Separate ns []) (Mixed cs) n m g j k e f h = cc
glue_numbers (Separate ns (x ∷ xs)) w n m g j k e f h = cc
glue_numbers (Mixed bs) w n m g j k e f h = cc

pub glue_left : (v w : AVal) (j k : ℕ) → numbers_alone v ≡ None → Mixed (union_of (bases_of v) (bases_of w)) ≡ glue_values j v k w
glue_left (Separate ns []) w j k e = cc
glue_left (Separate ns (x ∷ xs)) w j k e = refl
glue_left (Mixed bs) w j k e = refl

pub glue_right : (v w : AVal) (n : Ival) (j k : ℕ) → numbers_alone v ≡ Some n → numbers_alone w ≡ None → Mixed (union_of (bases_of v) (bases_of w)) ≡ glue_values j v k w
glue_right (Separate ns []) (Separate ms []) n j k e f = cc
glue_right (Separate ns []) (Separate ms (y ∷ ys)) n j k e f = refl
glue_right (Separate ns []) (Mixed cs) n j k e f = refl
glue_right (Separate ns (x ∷ xs)) w n j k e f = cc
glue_right (Mixed bs) w n j k e f = cc

pub not_zero : (n : ℕ) (b : Bool) → b ≡ (n == 0) → b ≡ false → n ≡ 0 → ⊥
not_zero n b e f z = let t = eq-eqb n 0 z in cc
