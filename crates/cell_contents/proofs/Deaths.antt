-- What is left of cells when a base has died.
use Rattle.std.proofs.Common.{◌≡◌, ◌⊎◌, ℕ, ◌<◌, ◌≤◌, ◌==◌, Bool, true, false, cond, ◌||◌, List, [], ◌∷◌, map, refl, sym, ap, subst, arith, inl, inr}
use Rattle.std.specs.Prelude.{not}
use Rattle.std.proofs.lemmas.Bool.{or_cases, or_left, or_right, eqb-true}
use Rattle.c_base.specs.declared.integer.Machine.{Machine}
use Rattle.c_base.specs.declared.integer.Machine.TheVariants.{Lp64}
use Rattle.c_memory.specs.Values.{wither}
use Rattle.c_memory.specs.Layouts.{Layout}
use Rattle.run_orders.specs.Deaths.{LeftLaws}
use Rattle.offmap_laws.specs.Contents.{DeathLaws}
use Rattle.avalue_base.specs.Lists.{has_base, In}
use Rattle.avalue_base.specs.Numbers.{is_empty_list, words}
use Rattle.avalue_base.specs.Values.{AVal, Separate, Mixed, Cellv, base_of, bases_of, has_no_value}
use Rattle.avalue_base.specs.Hues.{blank, pointer_bits, fits_value}
use Rattle.avalue_base.specs.Deaths.{without, mix_or_words, value_left, forgotten}
use Rattle.avalue_base.specs.Ops.{ops, Fine, have_offsets}
use Rattle.avalue_base.specs.Meaning.{Allows}
use Rattle.avalue_base.proofs.Lists.{In-has}
use Rattle.avalue_base.proofs.Ordering.{nothing_parts, nothing_from, empty_list}
use Rattle.avalue_base.proofs.Forgetting.{left_offsets, forget_allows}
use Rattle.cell_contents.proofs.Worlds.{machine_is}

words_some : has_no_value (Separate words []) ≡ true → ⊥
unfolding words
words_some e = cc

fits_left : (m : Machine) (k base : ℕ) (v : AVal) → fits_value m k v ≡ true → fits_value m k (value_left base v) ≡ true
fits_left m k base (Separate ns xs) h =
    elim (or_cases (is_empty_list xs) (k == pointer_bits m) h) [
      | inl e ↦ or_left (is_empty_list (without base_of base xs)) (k == pointer_bits m) (subst (λ zs. is_empty_list (without base_of base zs) ≡ true) (sym (empty_list xs e)) refl)
      | inr e ↦ or_right (is_empty_list (without base_of base xs)) (k == pointer_bits m) e
    ]
fits_left m k base (Mixed bs) h = mixed (without (λ b. b) base bs)
  where
    mixed : (cs : List ℕ) → fits_value m k (mix_or_words cs) ≡ true
    mixed [] = refl
    mixed (c ∷ cs) = refl

offsets_left : (base : ℕ) (v : AVal) → have_offsets v ≡ true → have_offsets (value_left base v) ≡ true
offsets_left base (Separate ns xs) h = left_offsets base ns xs h
offsets_left base (Mixed bs) h = mixed (without (λ b. b) base bs)
  where
    mixed : (cs : List ℕ) → have_offsets (mix_or_words cs) ≡ true
    mixed [] = refl
    mixed (c ∷ cs) = refl

-- what has no other keys is empty, or has the key
none_without : {X : Type 0} (key : X → ℕ) (base : ℕ) (xs : List X) → without key base xs ≡ [] → (xs ≡ []) ⊎ In (map key xs) base
none_without key base [] e = inl refl
none_without key base (x ∷ xs) e = inr (at (key x == base) refl e)
  where
    at : (b : Bool) → (key x == base) ≡ b → cond (not b) (x ∷ without key base xs) (without key base xs) ≡ [] → In (key x ∷ map key xs) base
    at true h e = inl (sym (eqb-true (key x) base h))
    at false h e = cc

own_keys : (xs : List ℕ) → map (λ b. b) xs ≡ xs
own_keys [] = refl
own_keys (x ∷ xs) = ap (λ ys. x ∷ ys) (own_keys xs)

-- where nothing is left of a value, it had the base
gone : (base : ℕ) (v : AVal) → has_no_value v ≡ false → has_no_value (value_left base v) ≡ true → has_base (bases_of v) base ≡ true
gone base (Separate ns xs) h e =
    let p = nothing_parts ns (without base_of base xs) e in
    elim (none_without base_of base xs p.1) [
      | inl z ↦ let q = nothing_from ns xs p.0 z in cc
      | inr i ↦ In-has (map base_of xs) base i
    ]
gone base (Mixed bs) h e =
    elim (none_without (λ b. b) base bs (none (without (λ b. b) base bs) e)) [
      | inl z ↦ absurd (words_held (without (λ b. b) base bs) e)
      | inr i ↦ In-has bs base (subst (λ ys. In ys base) (own_keys bs) i)
    ]
  where
    words_held : (cs : List ℕ) → has_no_value (mix_or_words cs) ≡ true → ⊥
    words_held [] e = words_some e
    words_held (c ∷ cs) e = cc

    none : (cs : List ℕ) → has_no_value (mix_or_words cs) ≡ true → cs ≡ []
    none [] e = refl
    none (c ∷ cs) e = cc

flag_left : (m : Machine) (k base : ℕ) (c : Cellv) → Fine m k c → blank (forgotten base c) ≡ true → ((forgotten base c).uninit || (forgotten base c).dead) ≡ true
flag_left m k base c f b = at (has_no_value c.value) refl
  where
    at : (n : Bool) → has_no_value c.value ≡ n → (c.uninit || (c.dead || has_base (bases_of c.value) base)) ≡ true
    at true e =
        elim (or_cases c.uninit c.dead (f.flag e)) [
          | inl u ↦ or_left c.uninit (c.dead || has_base (bases_of c.value) base) u
          | inr u ↦ or_right c.uninit (c.dead || has_base (bases_of c.value) base) (or_left c.dead (has_base (bases_of c.value) base) u)
        ]
    at false e = or_right c.uninit (c.dead || has_base (bases_of c.value) base) (or_right c.dead (has_base (bases_of c.value) base) (gone base c.value e b))

left_one : (m : Machine) (k j base : ℕ) (c : Cellv) → 0 < j → j ≤ 64 → (blank (forgotten base c) ≡ true → j ≡ 1) → fits_value m j (value_left base c.value) ≡ true → Fine m k c → Fine m j (forgotten base c)
left_one m k j base c p q h w f = record {
  some_bits = p;
  few_bits = q;
  blank_bits = h;
  flag = flag_left m k base c f;
  fits = w;
  offsets = offsets_left base c.value f.offsets;
}

pub left_laws : (base : ℕ) → LeftLaws (ops Lp64) (Fine Lp64) (forgotten base)
left_laws base = record {
  left_fine = λ k c f b. left_one Lp64 k k base c f.some_bits f.few_bits (λ e. absurd (both b e)) (fits_left Lp64 k base c.value f.fits) f;
  left_blank = λ k c f b. left_one Lp64 k 1 base c (omega arith) (omega arith) (λ e. refl) (nothing_fits (value_left base c.value) b) f;
}
  where
    both : {t : Bool} → t ≡ false → t ≡ true → ⊥
    both e f = cc

    nothing_fits : (v : AVal) → has_no_value v ≡ true → fits_value Lp64 1 v ≡ true
    nothing_fits (Separate ns xs) h = let p = nothing_parts ns xs h in subst (λ ys. fits_value Lp64 1 (Separate ns ys) ≡ true) (sym p.1) refl
    nothing_fits (Mixed bs) h = cc

pub death_laws : (l : Layout) (base : ℕ) → DeathLaws (Fine Lp64) (Allows l) (wither (base ∷ [])) (forgotten base)
death_laws l base = record { left_allows = λ k c ks f a. forget_allows l base k c ks (subst (λ (m : Machine). Fine m k c) (sym (machine_is l.machine)) f) a }
