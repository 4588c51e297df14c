-- What the shape of an `Ival` says of its numbers.
use Rattle.std.proofs.Common.{◌≡◌, ℤ, pos, ◌+ℤ◌, List, [], ◌∷◌, length, Bool, IsTrue, ◌↔◌, ap, ◌∙◌, IfNone, refl, sym, subst, inl, inr, arith}
use Rattle.std.proofs.lemmas.Int.{ints}
use Rattle.std.specs.Prelude.{Option, Some, None}
use lib.Signed.{◌<ℤ◌}
use Rattle.arrayvec.specs.ArrayVec.{ArrayVec}
use Rattle.ival_core.specs.declared.value.Progression.{Progression}
use Rattle.ival_core.specs.declared.value.Shape.TheVariants.{Few, Many}
use Rattle.ival_core.specs.declared.value.Ival.{Ival}
use Rattle.ival_core.specs.Sets.{Has, IsValid, IsLongRun, IsSmallSet, Among, IsAscending, Steps, steps_from}
use Rattle.ival_core.specs.Ivals.{Holds, IsOnly, IsBounds, HoldsMany}
use Rattle.ival_core.proofs.Runs.{Steps-low, Steps-high, Steps-second, Steps-nine, length-steps_from, steps_from-ascending}

pub long_run : (v : Ival) (p : Progression) → v.shape ≡ Many p → IsLongRun p
long_run v p e = subst IsValid e v.valid

pub small_set : (v : Ival) (few : ArrayVec ℤ) → v.shape ≡ Few few → IsSmallSet few.items
small_set v few e = subst IsValid e v.valid

pub HoldsMany-many : (v : Ival) (p : Progression) → v.shape ≡ Many p → HoldsMany v
HoldsMany-many v p e =
    let l : IsLongRun p = long_run v p e in
    record {
      some = steps_from p.low p.stride 9;
      nine = length-steps_from p.low p.stride 9;
      ascending = steps_from-ascending p.low p.stride 9 l.moves;
      held = λ n m. subst (λ s. Has s n) (sym e) (Steps-nine p l n m);
    }

pub IsBounds-many : (v : Ival) (p : Progression) → v.shape ≡ Many p → IsBounds v p.low p.high
IsBounds-many v p e =
    let l : IsLongRun p = long_run v p e in
    record {
      first = subst (λ s. Has s p.low) (sym e) (Steps-low p l);
      last = subst (λ s. Has s p.high) (sym e) (Steps-high p l);
      between = λ n m. let s : Steps p n = subst (λ s. Has s n) e m in (s.above, s.below);
    }

-- a set with two numbers has no only number
pub two_numbers : (v : Ival) (a b n : ℤ) → Holds v a → Holds v b → a <ℤ b → IsOnly v n → ⊥
two_numbers v a b n h k l o =
    let x : a ≡ n = (o a).0 h in
    let y : b ≡ n = (o b).0 k in
    absurd (omega (arith, ints))

pub not_only-many : (v : Ival) (p : Progression) → v.shape ≡ Many p → (n : ℤ) → IsOnly v n → ⊥
not_only-many v p e n o =
    let l : IsLongRun p = long_run v p e in
    let h = l.moves in
    two_numbers v p.low (p.low +ℤ pos p.stride) n
    (subst (λ s. Has s p.low) (sym e) (Steps-low p l))
    (subst (λ s. Has s (p.low +ℤ pos p.stride)) (sym e) (Steps-second p l))
    (omega (arith, ints)) o

pub not_only-few : (v : Ival) (few : ArrayVec ℤ) → v.shape ≡ Few few → (length few.items ≡ 1 → ⊥) → (n : ℤ) → IsOnly v n → ⊥
not_only-few v few e h n o = inner few.items (small_set v few e).ascending h (λ k. ((λ m. (o k).0 (subst (λ s. Has s k) (sym e) m)), (λ m. subst (λ s. Has s k) e ((o k).1 m))))
  where
    inner : (xs : List ℤ) → IsAscending xs → (length xs ≡ 1 → ⊥) → ((k : ℤ) → (Among xs k → k ≡ n) × (k ≡ n → Among xs k)) → ⊥
    inner [] a h o = (o n).1 refl
    inner (x ∷ []) a h o = h refl
    inner (x ∷ y ∷ ys) a h o =
        let p : x ≡ n = (o x).0 (inl refl) in
        let q : y ≡ n = (o y).0 (inr (inl refl)) in
        let l : x <ℤ y = a.0.0 in
        absurd (omega (arith, ints))

pub not_only-option : (v : Ival) (few : ArrayVec ℤ) (xs : List ℤ) (r : Option ℤ) → v.shape ≡ Few few → xs ≡ few.items → IfNone r (length xs ≡ 1 → ⊥) → IfNone r ((n : ℤ) → IsOnly v n → ⊥)
not_only-option v few xs None e f h = not_only-few v few e (λ l. h (ap length f ∙ l))
not_only-option v few xs (Some x) e f h = h

pub Holds-many : (v : Ival) (p : Progression) (n : ℤ) (b : Bool) → v.shape ≡ Many p → IsTrue b ↔ Steps p n → IsTrue b ↔ Holds v n
Holds-many v p n b e h = ((λ t. subst (λ s. Has s n) (sym e) (h.0 t)), (λ m. h.1 (subst (λ s. Has s n) e m)))
