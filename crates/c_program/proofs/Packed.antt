-- Bases one behind the other are a layout.
use Rattle.std.proofs.Common.{◌≡◌, ◌≢◌, ℕ, zero, suc, ◌+◌, ◌<◌, ◌≤◌, Bool, true, false, List, [], ◌∷◌, take, refl, ap, inl, inr, arith}
use Rattle.std.specs.Prelude.{nat_lt}
use Rattle.std.proofs.lemmas.Bool.Decides.{nat_tests}
use Rattle.c_program.specs.Syntax.{Base, base_at, Program, AreApart, IsLayout}
use Rattle.c_program.specs.Packing.{bytes_of, size_at, is_readonly_at, packed, HasRoom, HasLayout}

pub within : (bs : List Base) (n : ℕ) → bytes_of (take n bs) + size_at (base_at bs n) ≤ bytes_of bs
within [] zero = omega arith
within [] (suc n) = omega arith
within (b ∷ bs) zero = omega arith
within (b ∷ bs) (suc n) = let h = within bs n in omega arith

behind : (bs : List Base) (n k : ℕ) → n < k → bytes_of (take n bs) + size_at (base_at bs n) ≤ bytes_of (take k bs)
behind [] zero zero h = omega arith
behind [] zero (suc k) h = omega arith
behind [] (suc n) zero h = omega arith
behind [] (suc n) (suc k) h = omega arith
behind (b ∷ bs) n zero h = absurd (omega arith)
behind (b ∷ bs) zero (suc k) h = omega arith
behind (b ∷ bs) (suc n) (suc k) h = let i = behind bs n k (omega arith) in omega arith

pub packed_layout : (p : Program) → HasRoom p → IsLayout p (packed p)
packed_layout p room = record {
  machine = refl;
  all = refl;
  known = λ n b e. (ap size_at e, ap is_readonly_at e);
  low = λ n h. omega arith;
  high = λ n h. let i = within p.bases n in omega arith;
  apart = λ n k h i other. by_order n k other (nat_lt n k) refl;
}
  where
    by_order : (n k : ℕ) → n ≢ k → (t : Bool) → nat_lt n k ≡ t → AreApart (packed p) n k
    by_order n k other true e =
        let less : n < k = grind (arith, nat_tests) in
        let h = behind p.bases n k less in inl (omega arith)
    by_order n k other false e =
        let most : k ≤ n = grind (arith, nat_tests) in
        let h = behind p.bases k n (omega arith) in inr (omega arith)

pub has_layout : (p : Program) → HasRoom p → HasLayout p
has_layout p room = record { layout = packed p; is = packed_layout p room }
