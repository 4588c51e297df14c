-- Sets of bases that have one base, as lists have them.
use Rattle.std.proofs.Common.{◌≡◌, ◌≢◌, ◌⊎◌, ⊎_elim, ℕ, zero, suc, ◌+◌, ◌-◌, ◌<◌, ◌≤◌, ◌==◌, Bool, true, false, not, cond, ◌||◌, ◌&&◌, List, [], ◌∷◌, length, get_or, None, Some, refl, sym, ◌∙◌, ap, arith}
use Rattle.std.proofs.Common.{true≢false}
use Rattle.std.specs.Prelude.{find, nat_eq}
use Rattle.std.specs.List.{list_any}
use Rattle.std.specs.Ordering.{nat_cmp, eq_by_cmp}
use Rattle.std.specs.FinSet.{empty, insert, remove, contains, len, empty_of_len, contains-empty, contains-insert, contains-remove, contains-from_list_nat, len-empty, len-insert, len-remove, same_set, nat_cmp-IsAntisymmetric}
use Rattle.std.specs.Cmp.{nat_cmp_total}
use Rattle.std.proofs.lemmas.Bool.Decides.{eqb_tells}
use Rattle.c_memory.specs.Layouts.{Layout}
use Rattle.c_memory.specs.Values.{Value, Provenance, only}
use Rattle.c_pointers.specs.Addresses.{only_base}
use Rattle.c_program.specs.Syntax.{numbers_from}
use Rattle.stepper_values.specs.Views.{bases_of}
use Rattle.stepper_values.proofs.Cells.{insert-not-empty}

same_number : (a b : ℕ) → nat_eq a b ≡ true → a ≡ b
same_number a b e = ⊎_elim (λ h. h.1) (λ h. absurd (true≢false (sym e ∙ h.0))) (eqb_tells a b)

other_number : (a b : ℕ) → nat_eq a b ≡ false → a ≢ b
other_number a b e = ⊎_elim (λ h. absurd (true≢false (sym h.0 ∙ e))) (λ h. h.1) (eqb_tells a b)

unlike : (a b : ℕ) → a ≢ b → nat_eq a b ≡ false
unlike a b h = ⊎_elim (λ k. absurd (h k.1)) (λ k. k.0) (eqb_tells a b)

alike : (a : ℕ) → nat_eq a a ≡ true
alike a = ⊎_elim (λ k. k.0) (λ k. absurd (k.1 refl)) (eqb_tells a a)

pub plain_is : (bs : List ℕ) → (length bs == 0) ≡ (len (bases_of bs) == 0)
plain_is [] = sym (ap (λ n. n == 0) (len-empty nat_cmp))
plain_is (b ∷ bs) = unlike (suc (length bs)) 0 (λ e. omega arith) ∙ sym (unlike (len (insert (bases_of bs) b)) 0 (insert-not-empty (bases_of bs) b))

has_only : (b q : ℕ) → contains (only b) q ≡ (nat_eq b q || false)
has_only b q = contains-from_list_nat (b ∷ []) q

or_false : (b : Bool) → (b || false) ≡ b
or_false true = refl
or_false false = refl

-- a list of one base alone
any_same : (b q : ℕ) (bs : List ℕ) → list_any (λ x. not (x == b)) bs ≡ false → nat_eq b q ≡ false → list_any (λ y. nat_eq y q) bs ≡ false
any_same b q [] e d = refl
any_same b q (x ∷ xs) e d = by (any_same b q xs) (x == b) refl
  where
    by : (list_any (λ z. not (z == b)) xs ≡ false → nat_eq b q ≡ false → list_any (λ y. nat_eq y q) xs ≡ false) → (t : Bool) → (x == b) ≡ t → list_any (λ y. nat_eq y q) (x ∷ xs) ≡ false
    by more true t =
        ap (λ y. nat_eq y q || list_any (λ z. nat_eq z q) xs) (same_number x b t)
        ∙ ap (λ u. u || list_any (λ z. nat_eq z q) xs) d ∙ more (sym (ap (λ u. not u || list_any (λ z. not (z == b)) xs) t) ∙ e) d
    by more false t = absurd (true≢false (sym (ap (λ u. not u || list_any (λ z. not (z == b)) xs) t) ∙ e))

pub all_same : (b : ℕ) (bs : List ℕ) → list_any (λ x. not (x == b)) (b ∷ bs) ≡ false → bases_of (b ∷ bs) ≡ only b
all_same b bs e =
    same_set nat_cmp_total nat_cmp-IsAntisymmetric _ _ (λ q. contains-from_list_nat (b ∷ bs) q ∙ by q (nat_eq b q) refl ∙ sym (has_only b q))
  where
    rest : list_any (λ x. not (x == b)) bs ≡ false
    rest = sym (ap (λ u. not u || list_any (λ z. not (z == b)) bs) (alike b)) ∙ e

    by : (q : ℕ) (t : Bool) → nat_eq b q ≡ t → (nat_eq b q || list_any (λ y. nat_eq y q) bs) ≡ (nat_eq b q || false)
    by q true t = ap (λ u. u || list_any (λ y. nat_eq y q) bs) t ∙ sym (ap (λ u. u || false) t)
    by q false t = ap (λ u. nat_eq b q || u) (any_same b q bs rest t)

-- a list with another base
pub record HasOther (b : ℕ) (bs : List ℕ) : Type 0 where
  pub base : ℕ
  pub has : contains (bases_of bs) base ≡ true
  pub other : b ≢ base

pub some_other : (b : ℕ) (bs : List ℕ) → list_any (λ x. not (x == b)) bs ≡ true → HasOther b bs
some_other b [] e = absurd (true≢false (sym e))
some_other b (x ∷ xs) e = by (some_other b xs) (x == b) refl
  where
    or_true : (u : Bool) → (u || true) ≡ true
    or_true true = refl
    or_true false = refl

    by : (list_any (λ z. not (z == b)) xs ≡ true → HasOther b xs) → (t : Bool) → (x == b) ≡ t → HasOther b (x ∷ xs)
    by behind true t =
        let more = behind (sym (ap (λ u. not u || list_any (λ z. not (z == b)) xs) t) ∙ e) in
        record {
          base = more.base;
          has = contains-from_list_nat (x ∷ xs) more.base ∙ ap (λ u. nat_eq x more.base || u) (sym (contains-from_list_nat xs more.base) ∙ more.has)
              ∙ or_true (nat_eq x more.base);
          other = more.other;
        }
    by behind false t = record {
      base = x;
      has = contains-from_list_nat (x ∷ xs) x ∙ ap (λ u. u || list_any (λ y. nat_eq y x) xs) (alike x);
      other = λ h. other_number x b t (sym h);
    }

-- a set that has two bases has more than one
cmp_other : (b c : ℕ) → b ≢ c → eq_by_cmp nat_cmp c b ≡ false
cmp_other b c h =
    let both : (eq_by_cmp nat_cmp c b || contains (empty {R = nat_cmp}) c) ≡ (nat_eq b c || false) = sym (contains-insert nat_cmp_total empty b c) ∙ has_only b c in
    sym (or_false (eq_by_cmp nat_cmp c b)) ∙ ap (λ u. eq_by_cmp nat_cmp c b || u) (sym (contains-empty nat_cmp c)) ∙ both ∙ or_false (nat_eq b c) ∙ unlike b c h

two_bases : (s : Provenance) (b c : ℕ) → contains s b ≡ true → contains s c ≡ true → b ≢ c → len s ≢ 1
two_bases s b c has too h one =
    let gone : len (remove s b) ≡ 0 = len-remove nat_cmp_total s b ∙ ap (λ t. cond t (len s - 1) (len s)) has ∙ ap (λ n. n - 1) one in
    let none : remove s b ≡ empty = empty_of_len (remove s b) gone in
    let left : contains (remove s b) c ≡ true =
    contains-remove nat_cmp_total s b c ∙ ap (λ t. not t && contains s c) (cmp_other b c h) ∙ too in
    true≢false (sym left ∙ ap (λ t. contains t c) none ∙ contains-empty nat_cmp c)

-- ---- the only base of a value

find_at : (b base count : ℕ) → base ≤ b → b < base + count → find (contains (only b)) (numbers_from base count) ≡ Some b
find_at b base zero h k = absurd (omega arith)
find_at b base (suc n) h k = by (find_at b (suc base) n) (nat_eq b base) refl
  where
    at : (t : Bool) → nat_eq b base ≡ t → find (contains (only b)) (numbers_from base (suc n)) ≡ cond t (Some base) (find (contains (only b)) (numbers_from (suc base) n))
    at t e = ap (λ u. cond u (Some base) (find (contains (only b)) (numbers_from (suc base) n))) (has_only b base ∙ or_false (nat_eq b base) ∙ e)

    by : (suc base ≤ b → b < suc base + n → find (contains (only b)) (numbers_from (suc base) n) ≡ Some b) → (t : Bool) → nat_eq b base ≡ t →
        find (contains (only b)) (numbers_from base (suc n)) ≡ Some b
    by more true e = at true e ∙ ap Some (sym (same_number b base e))
    by more false e = let d = other_number b base e in at false e ∙ more (omega arith) (omega arith)

find_beyond : (b base count : ℕ) → base + count ≤ b → find (contains (only b)) (numbers_from base count) ≡ None
find_beyond b base zero h = refl
find_beyond b base (suc n) h =
    ap (λ u. cond u (Some base) (find (contains (only b)) (numbers_from (suc base) n))) (has_only b base ∙ or_false (nat_eq b base) ∙ unlike b base (λ e. omega arith))
    ∙ find_beyond b (suc base) n (omega arith)

module _ (l : Layout) (n : ℕ) (all : l.bases ≡ numbers_from 0 n) (v : Value) where
  pub no_base : v.provenance ≡ bases_of [] → only_base l v ≡ None
  no_base e = ap (λ s. cond (len s == 1) (find (contains v.provenance) l.bases) None) e ∙ ap (λ k. cond (k == 1) (find (contains v.provenance) l.bases) None) (len-empty nat_cmp)

  pub more_bases : (b : ℕ) (bs : List ℕ) → v.provenance ≡ bases_of (b ∷ bs) → list_any (λ x. not (x == b)) (b ∷ bs) ≡ true → only_base l v ≡ None
  more_bases b bs e t =
      let o = some_other b (b ∷ bs) t in
      let first : contains (bases_of (b ∷ bs)) b ≡ true = contains-from_list_nat (b ∷ bs) b ∙ ap (λ u. u || list_any (λ y. nat_eq y b) bs) (alike b) in
      ap (λ s. cond (len s == 1) (find (contains v.provenance) l.bases) None) e
      ∙ ap (λ u. cond u (find (contains v.provenance) l.bases) None) (unlike (len (bases_of (b ∷ bs))) 1 (two_bases (bases_of (b ∷ bs)) b o.base first o.has o.other))

  one_base : (b : ℕ) (bs : List ℕ) → v.provenance ≡ bases_of (b ∷ bs) → list_any (λ x. not (x == b)) (b ∷ bs) ≡ false →
      only_base l v ≡ find (contains (only b)) (numbers_from 0 n)
  one_base b bs e t =
      let one : v.provenance ≡ only b = e ∙ all_same b bs t in
      let count : len (only b) ≡ 1 = len-insert nat_cmp_total empty b ∙ ap (λ u. cond u (len (empty {R = nat_cmp})) (len (empty {R = nat_cmp}) + 1)) (contains-empty nat_cmp b) ∙ ap (λ k. k + 1) (len-empty nat_cmp) in
      ap (λ s. cond (len s == 1) (find (contains s) l.bases) None) one ∙ ap (λ k. cond (k == 1) (find (contains (only b)) l.bases) None) count ∙ ap (find (contains (only b))) all

  pub far_base : (b : ℕ) (bs : List ℕ) → v.provenance ≡ bases_of (b ∷ bs) → list_any (λ x. not (x == b)) (b ∷ bs) ≡ false → n ≤ b → only_base l v ≡ None
  far_base b bs e t h = one_base b bs e t ∙ find_beyond b 0 n (omega arith)

  pub this_base : (b : ℕ) (bs : List ℕ) → v.provenance ≡ bases_of (b ∷ bs) → list_any (λ x. not (x == b)) (b ∷ bs) ≡ false → b < n → only_base l v ≡ Some b
  this_base b bs e t h = one_base b bs e t ∙ find_at b 0 n (omega arith) (omega arith)

-- ---- the same of a slice, by its first item

abbrev pub others : List ℕ → Bool
others bs = list_any (λ x. not (x == get_or bs 0 0)) bs

module _ (l : Layout) (n : ℕ) (all : l.bases ≡ numbers_from 0 n) (v : Value) where
  pub slice_empty : (bs : List ℕ) → v.provenance ≡ bases_of bs → (length bs == 0) ≡ true → None ≡ only_base l v
  slice_empty [] e h = sym (no_base l n all v e)
  slice_empty (b ∷ bs) e h = absurd (true≢false (sym h ∙ unlike (suc (length bs)) 0 (λ x. omega arith)))

  pub slice_more : (bs : List ℕ) → v.provenance ≡ bases_of bs → (length bs == 0) ≡ false → others bs ≡ true → None ≡ only_base l v
  slice_more [] e h t = absurd (true≢false (sym t))
  slice_more (b ∷ bs) e h t = sym (more_bases l n all v b bs e t)

  pub slice_far : (bs : List ℕ) → v.provenance ≡ bases_of bs → (length bs == 0) ≡ false → others bs ≡ false → n ≤ get_or bs 0 0 → None ≡ only_base l v
  slice_far [] e h t far = absurd (true≢false (sym (alike 0) ∙ h))
  slice_far (b ∷ bs) e h t far = sym (far_base l n all v b bs e t far)

  pub slice_one : (bs : List ℕ) → v.provenance ≡ bases_of bs → (length bs == 0) ≡ false → others bs ≡ false → get_or bs 0 0 < n → Some (get_or bs 0 0) ≡ only_base l v
  slice_one [] e h t near = absurd (true≢false (sym (alike 0) ∙ h))
  slice_one (b ∷ bs) e h t near = sym (this_base l n all v b bs e t near)
