-- What is left of values when a base has died, and what mixes of given bases mean.
use Rattle.std.proofs.Common.{◌≡◌, ◌↔◌, ℕ, ◌^◌, ◌-◌, ◌==◌, Bool, true, false, cond, ℤ, pos, List, [], ◌∷◌, refl, sym, subst, ap, ◌∙◌, inl, inr, arith}
use Rattle.std.specs.Ordering.{nat_cmp}
use Rattle.std.specs.Cmp.{nat_cmp_total}
use Rattle.std.specs.FinSet.{contains, contains-empty, same_set, nat_cmp-IsAntisymmetric}
use Rattle.std.specs.Int.{◌∣◌}
use Rattle.std.proofs.Math.Nat.{one-dvd}
use Rattle.std.proofs.lemmas.Bool.{eqb-true}
use Rattle.std.proofs.lemmas.Int.{ints}
use lib.Signed.{◌<ℤ◌, ◌≤ℤ◌}
use Rattle.c_memory.specs.Values.{Value, Provenance, nowhere, only}
use Rattle.c_memory.specs.Layouts.{Layout}
use Rattle.ival_core.specs.Ivals.{Holds}
use Rattle.ival_core.specs.Sets.{apart}
use Rattle.avalue_base.specs.Lists.{has_base, gathered, In}
use Rattle.avalue_base.specs.Numbers.{is_empty_list, words}
use Rattle.avalue_base.specs.Values.{Address, AVal, Separate, Mixed, base_of}
use Rattle.avalue_base.specs.Deaths.{without, mix_or_words, value_left}
use Rattle.avalue_base.specs.Meaning.{Means, IsWord}
use Rattle.avalue_base.proofs.Lists.{In-has, has-In}
use Rattle.avalue_base.proofs.Means.{means_among, among_means}
use Rattle.avalue_base.proofs.Meets.{only_self}
use Rattle.avalue_base.proofs.Forgetting.{without-In}
use Rattle.avalue_base.proofs.Sounds.{gathered_In, In_gathered}

false_from : (b : Bool) → (b ≡ true → ⊥) → b ≡ false
false_from true f = absurd (f refl)
false_from false f = refl

no_bool : (b : Bool) → b ≡ true → b ≡ false → ⊥
no_bool true e f = cc
no_bool false e f = cc

-- a base of the value is another one than that which it wasn't made from
other_base : (p : Provenance) (q base : ℕ) → contains p q ≡ true → contains p base ≡ false → (q == base) ≡ false
other_base p q base h k = false_from (q == base) (λ t. no_bool (contains p q) h (subst (λ z. contains p z ≡ false) (sym (eqb-true q base t)) k))

made_of_none : (p : Provenance) → ((q : ℕ) → contains p q ≡ true → ⊥) → p ≡ nowhere
made_of_none p f = same_set nat_cmp_total nat_cmp-IsAntisymmetric p nowhere (λ q. false_from (contains p q) (f q) ∙ sym (contains-empty nat_cmp q))

word_held : (n : ℤ) → IsWord n → Holds words n
unfolding words
word_held n w =
    let a = w.low in
    let b = w.high in
    record { above = a; below = omega (arith, ints); meets = one-dvd (apart (pos 0) n) }

left_mix : (l : Layout) (base : ℕ) (bs : List ℕ) (x : Value) → ((q : ℕ) → contains x.provenance q ≡ true → has_base bs q ≡ true) → contains x.provenance base ≡ false → IsWord x.number → Means l (mix_or_words (without (λ b. b) base bs)) x
left_mix l base bs x m k w = by_test (is_empty_list (without (λ b. b) base bs)) refl
  where
    left_in : (q : ℕ) → contains x.provenance q ≡ true → In (without (λ b. b) base bs) q
    left_in q h = without-In (λ b. b) base bs q (has-In bs q (m q h)) (other_base x.provenance q base h k)

    none : (xs : List ℕ) (q : ℕ) → is_empty_list xs ≡ true → In xs q → ⊥
    none [] q e i = i
    none (y ∷ ys) q e i = cc

    by_test : (e : Bool) → is_empty_list (without (λ b. b) base bs) ≡ e → Means l (cond e (Separate words []) (Mixed (without (λ b. b) base bs))) x
    by_test true e = inl (made_of_none x.provenance (λ q h. none (without (λ b. b) base bs) q e (left_in q h)), word_held x.number w)
    by_test false e = λ q h. In-has (without (λ b. b) base bs) q (left_in q h)

pub left_means : (l : Layout) (base : ℕ) (v : AVal) (x : Value) → Means l v x → contains x.provenance base ≡ false → IsWord x.number → Means l (value_left base v) x
left_means l base (Separate ns xs) x (inl m) k w = inl m
left_means l base (Separate ns xs) x (inr m) k w =
    let r = means_among l xs x m in
    let own : contains x.provenance r.0.base ≡ true = subst (λ p. contains p r.0.base ≡ true) (sym r.2.provenance) (only_self r.0.base) in
    inr (among_means l (without base_of base xs) x r.0 (without-In base_of base xs r.0 r.1 (other_base x.provenance r.0.base base own k)) r.2)
left_means l base (Mixed bs) x m k w = left_mix l base bs x m k w

pub gathered_means : (l : Layout) (bs : List ℕ) (x : Value) → Means l (Mixed (gathered bs)) x ↔ ((q : ℕ) → contains x.provenance q ≡ true → has_base bs q ≡ true)
gathered_means l bs x = (
  (λ m q h. In-has bs q (gathered_In bs q (has-In (gathered bs) q (m q h)))),
  (λ f q h. In-has (gathered bs) q (In_gathered bs q (has-In bs q (f q h)))),
)
