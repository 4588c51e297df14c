-- A kind put into a set.
use Rattle.std.proofs.Common.{◌≡◌, ◌⊎◌, ◌↔◌, ℕ, zero, suc, ◌^◌, ◌==◌, max, false, IsTrue, refl, sym, ap, ◌∙◌, inl, inr, arith, eq-eqb}
use Rattle.std.specs.Prelude.{bit_or}
use Rattle.std.specs.Int.{bit_at}
use Rattle.std.proofs.lemmas.Nat.Bits.{bit_at_or, bit_at-pow_same, bit_at-pow_other, bit_at-zero, bit_at-lt}
use Rattle.std.proofs.lemmas.Bool.{cases_eq}
use Rattle.c_base.specs.declared.kind.Kind.{Kind}
use Rattle.c_base.specs.declared.kind.Kind.TheVariants.{DivisionByZero, SignedOverflow, Shift, MemAccess, IndexBound, Initialization, DanglingPointer, PtrComparison, DifferingBlocks, Overlap, FunctionPointer, Assertion, Precondition, Postcondition}
use Rattle.c_base.specs.declared.kind.KindSet.{KindSet}
use Rattle.c_base.specs.KindSets.{number_of_kind, allowed, no_kinds, with_kind}

kind_at : ℕ → Kind
kind_at zero = DivisionByZero
kind_at (suc zero) = SignedOverflow
kind_at (suc (suc zero)) = Shift
kind_at (suc (suc (suc zero))) = MemAccess
kind_at (suc (suc (suc (suc zero)))) = IndexBound
kind_at (suc (suc (suc (suc (suc zero))))) = Initialization
kind_at (suc (suc (suc (suc (suc (suc zero)))))) = DanglingPointer
kind_at (suc (suc (suc (suc (suc (suc (suc zero))))))) = PtrComparison
kind_at (suc (suc (suc (suc (suc (suc (suc (suc zero)))))))) = DifferingBlocks
kind_at (suc (suc (suc (suc (suc (suc (suc (suc (suc zero))))))))) = Overlap
kind_at (suc (suc (suc (suc (suc (suc (suc (suc (suc (suc zero)))))))))) = FunctionPointer
kind_at (suc (suc (suc (suc (suc (suc (suc (suc (suc (suc (suc zero))))))))))) = Assertion
kind_at (suc (suc (suc (suc (suc (suc (suc (suc (suc (suc (suc (suc zero)))))))))))) = Precondition
kind_at n = Postcondition

kind_back : (k : Kind) → kind_at (number_of_kind k) ≡ k
unfolding kind_at
kind_back DivisionByZero = refl
kind_back SignedOverflow = refl
kind_back Shift = refl
kind_back MemAccess = refl
kind_back IndexBound = refl
kind_back Initialization = refl
kind_back DanglingPointer = refl
kind_back PtrComparison = refl
kind_back DifferingBlocks = refl
kind_back Overlap = refl
kind_back FunctionPointer = refl
kind_back Assertion = refl
kind_back Precondition = refl
kind_back Postcondition = refl

same_kind : (k l : Kind) → number_of_kind k ≡ number_of_kind l → k ≡ l
same_kind k l e = sym (kind_back k) ∙ ap kind_at e ∙ kind_back l

set_bit : (bits i j : ℕ) → i ≡ j → bit_at (bit_or bits (2 ^ i)) j ≡ 1
set_bit bits i j e =
    let a = bit_at_or bits (2 ^ i) i in
    let b = bit_at-pow_same i in
    let c = bit_at-lt bits i in
    let d : max (bit_at bits i) 1 ≡ 1 = omega arith in
    ap (bit_at (bit_or bits (2 ^ i))) (sym e) ∙ a ∙ ap (max (bit_at bits i)) b ∙ d

other_bit : (bits i j : ℕ) → (j ≡ i → ⊥) → bit_at (bit_or bits (2 ^ i)) j ≡ bit_at bits j
other_bit bits i j h =
    let d : max (bit_at bits j) 0 ≡ bit_at bits j = omega arith in
    bit_at_or bits (2 ^ i) j ∙ ap (max (bit_at bits j)) (bit_at-pow_other i j h) ∙ d

pub with_kind-allows : (s : KindSet) (k l : Kind) → IsTrue (allowed (with_kind s k) l) ↔ (IsTrue (allowed s l) ⊎ (l ≡ k))
with_kind-allows s k l =
    elim (cases_eq (number_of_kind l) (number_of_kind k)) [
      | inl e ↦ (
        (λ h. inr (same_kind l k e)),
        (λ h. eq-eqb (bit_at (with_kind s k).bits (number_of_kind l)) 1 (set_bit s.bits (number_of_kind k) (number_of_kind l) (sym e))),
      )
      | inr f ↦
          let same : allowed (with_kind s k) l ≡ allowed s l = ap (λ n. n == 1) (other_bit s.bits (number_of_kind k) (number_of_kind l) f) in (
            (λ h. inl (sym same ∙ h)),
            (λ h. elim h [ inl i ↦ same ∙ i | inr e ↦ absurd (f (ap number_of_kind e)) ]),
          )
    ]

pub no_kinds-allow : (k : Kind) → allowed no_kinds k ≡ false
no_kinds-allow k = ap (λ n. n == 1) (bit_at-zero (number_of_kind k))
