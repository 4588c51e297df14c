-- What rows hold, variable by variable.
use Rattle.std.proofs.Common.{◌≡◌, ◌≢◌, ℕ, zero, suc, ◌-◌, ◌<◌, ◌≤◌, ◌==◌, Bool, true, false, cond, List, length, get_or, set, Option, Some, ℤ, refl, arith, length-set, get_or-set_same, get_or-set_other, [], ◌∷◌, ◌++◌, ◌+◌, sym, ◌∙◌, ap}
use Rattle.std.proofs.lemmas.List.{get_or_push, get_or_append_left}
use Rattle.std.proofs.lemmas.Bool.Decides.{nat_tests}
use Rattle.std.proofs.lemmas.Option.{slice_get_within, get_or_from_slice_get, slice_get-get_or}
use Rattle.c_base.specs.declared.integer.IntKind.TheVariants.{Int}
use Rattle.c_base.specs.declared.integer.Machine.TheVariants.{Lp64}
use Rattle.c_base.specs.Integers.{fits_kind}
use Rattle.c_base.proofs.Tests.{test_same, same_test}
use Rattle.first_analysis.specs.Evaluation.{Env, set as set_env}
use Rattle.first_analysis.specs.declared.content.Content.{Content}
use Rattle.first_analysis.specs.Contents.{Holds, Includes, HoldsRow, FitsInt}

pub from_gets : (row : List Content) (env : Env) → ((base : ℕ) → FitsInt (env base)) → ((k : ℕ) (d : Content) → k < length row → Holds (get_or row k d) (env (suc k))) → HoldsRow row env
from_gets row env fits each = record {
  fits = fits;
  each = λ k c is.
      let within = slice_get_within row k c is in
      let here : get_or row k c ≡ c = get_or_from_slice_get row k c c is in
      let held = each k c within in rw here at held;
}

pub to_get : (row : List Content) (env : Env) → HoldsRow row env → (k : ℕ) (d : Content) → k < length row → Holds (get_or row k d) (env (suc k))
to_get row env h k d within = h.each k (get_or row k d) (slice_get-get_or row k d within)

-- a row whose contents include those of another
pub held : (row other : List Content) (env : Env) → length row ≤ length other → ((k : ℕ) (d : Content) → k < length row → Includes (get_or row k d) (get_or other k d)) →
    HoldsRow other env → HoldsRow row env
held row other env long each h = from_gets row env h.fits (λ k d within. each k d within (env (suc k)) (to_get other env h k d (omega arith)))

-- a row whose contents hold whatever fits
pub held_all : (row : List Content) → ((k : ℕ) (d : Content) (x : Option ℤ) → k < length row → FitsInt x → Holds (get_or row k d) x) →
    (other : List Content) (env : Env) → HoldsRow other env → HoldsRow row env
held_all row all other env h = from_gets row env h.fits (λ k d within. all k d (env (suc k)) within (h.fits (suc k)))

fits_set : (env : Env) (base : ℕ) (n : ℤ) → ((other : ℕ) → FitsInt (env other)) → fits_kind Int Lp64 n ≡ true → (other : ℕ) → FitsInt (set_env env base n other)
fits_set env base n fits new other = by_test (other == base)
  where
    by_test : (t : Bool) → FitsInt (cond t (Some n) (env other))
    by_test true = new
    by_test false = fits other

-- a store to a variable that the row has
pub assigned : (row : List Content) (base : ℕ) (c : Content) (env : Env) (n : ℤ) → 0 < base → base ≤ length row → HoldsRow row env → fits_kind Int Lp64 n ≡ true → Holds c (Some n) →
    HoldsRow (set row (base - 1) c) (set_env env base n)
assigned row zero c env n low high h fits new = absurd (omega arith)
assigned row (suc i) c env n low high h fits new =
    let same : suc i - 1 ≡ i = omega arith in rw same
    (from_gets (set row i c) (set_env env (suc i) n) (fits_set env (suc i) n h.fits fits) (λ k d within. by_test k d (simp length-set at within) (suc k == suc i) refl))
  where
    by_test : (k : ℕ) (d : Content) → k < length row → (t : Bool) → (suc k == suc i) ≡ t → Holds (get_or (set row i c) k d) (cond (suc k == suc i) (Some n) (env (suc k)))
    by_test k d within true e =
        let at : k ≡ i = let f = test_same (suc k) (suc i) e in omega arith in
        rw (e, at, get_or-set_same row i c d (omega arith)) new
    by_test k d within false e =
        let apart : k ≢ i = λ f. let g : (suc k == suc i) ≡ true = rw f (same_test (suc i)) in cc in
        rw (e, get_or-set_other row i k c d apart) (to_get row env h k d within)

-- a store to what the row doesn't have
pub untouched : (row : List Content) (base : ℕ) (env : Env) (n : ℤ) → (0 < base → length row < base) → HoldsRow row env → fits_kind Int Lp64 n ≡ true → HoldsRow row (set_env env base n)
untouched row base env n out h fits = from_gets row (set_env env base n) (fits_set env base n h.fits fits) (λ k d within.
    let none : (suc k == base) ≡ false = by_test k within (suc k == base) refl in rw none (to_get row env h k d within))
  where
    by_test : (k : ℕ) → k < length row → (t : Bool) → (suc k == base) ≡ t → (suc k == base) ≡ false
    by_test k within true e = let at = test_same (suc k) base e in let far = out (omega arith) in absurd (omega arith)
    by_test k within false e = e

same_default : (xs : List Content) (i : ℕ) (d e : Content) → i < length xs → get_or xs i d ≡ get_or xs i e
same_default [] i d e h = absurd (omega arith)
same_default (x ∷ xs) zero d e h = refl
same_default (x ∷ xs) (suc i) d e h = same_default xs i d e (omega arith)

not_last : (k i : ℕ) → (k == i) ≡ false → k < i + 1 → k < i
not_last k i e h = grind (arith, nat_tests)

-- one content more that includes that of another row
pub includes_more : (merged source : List Content) (i : ℕ) (m c : Content) → length merged ≡ i → i < length source → c ≡ get_or source i c → Includes m c →
    ((k : ℕ) (d : Content) → k < i → Includes (get_or merged k d) (get_or source k d)) →
    (k : ℕ) (d : Content) → k < i + 1 → Includes (get_or (merged ++ m ∷ []) k d) (get_or source k d)
includes_more merged source i m c long within here more so_far k d h = by_test (k == i) refl
  where
    by_test : (t : Bool) → (k == i) ≡ t → Includes (get_or (merged ++ m ∷ []) k d) (get_or source k d)
    by_test true e =
        let at : k ≡ i = test_same k i e in
        let read : get_or source i d ≡ c = same_default source i d c within ∙ sym here in
        rw (at, get_or_push merged m d i long, read) more
    by_test false e = let apart : k < i = not_last k i e h in rw (get_or_append_left merged (m ∷ []) d k (omega arith)) (so_far k d apart)
