-- Moved values hold what moves give.
use Rattle.std.proofs.Common.{◌≡◌, ℕ, ◌^◌, ◌<◌, Bool, true, false, cond, ◌||◌, ℤ, pos, ◌+ℤ◌, ◌-ℤ◌, List, [], ◌∷◌, map, refl, sym, subst, ap, ◌∙◌, inl, inr, arith}
use Rattle.std.specs.Prelude.{Option, None, Some, IfSome, not, ◌*ℤ◌}
use Rattle.std.specs.List.{list_all}
use Rattle.std.specs.Ordering.{nat_cmp}
use Rattle.std.specs.Cmp.{nat_cmp_total}
use Rattle.std.specs.FinSet.{contains, union, contains-empty, contains-union, same_set, nat_cmp-IsAntisymmetric}
use Rattle.std.proofs.Math.Nat.{one-dvd}
use Rattle.std.proofs.lemmas.Bool.{and_parts}
use Rattle.std.proofs.lemmas.Nat.{pow_pos}
use Rattle.std.proofs.lemmas.Int.{ints}
use Rattle.c_base.specs.declared.integer.Machine.{Machine}
use Rattle.c_base.specs.declared.integer.Machine.TheVariants.{Lp64}
use Rattle.c_base.specs.Integers.{residue}
use Rattle.c_base.proofs.Residues.{residue_below, residue_same, Same-residue}
use Rattle.c_memory.specs.Values.{Value, Provenance, nowhere}
use Rattle.c_memory.specs.Layouts.{Layout}
use Rattle.c_pointers.specs.Conversions.{address_number}
use Rattle.ival_core.specs.declared.value.Shape.{Shape}
use Rattle.ival_core.specs.declared.value.Shape.TheVariants.{Few}
use Rattle.ival_core.specs.declared.value.Ival.{Ival}
use Rattle.ival_core.specs.Ivals.{Holds}
use Rattle.ival_core.specs.Sets.{apart}
use Rattle.ival_core.proofs.Canonical.{same_ival}
use Rattle.ival_arith.specs.declared.terms.Term.TheVariants.{Product}
use Rattle.ival_arith.specs.Exact.{shape_option}
use Rattle.ival_arith.specs.Terms.{exact_term}
use Rattle.avalue_base.specs.Lists.{union_of, In, AreAscending}
use Rattle.avalue_base.specs.Numbers.{is_empty, is_empty_list, no_numbers, words}
use Rattle.avalue_base.specs.Values.{Address, AVal, Separate, Mixed, base_of, bases_of}
use Rattle.avalue_base.specs.Hues.{pointer_bits}
use Rattle.avalue_base.specs.Pieces.{has_offsets, no_value}
use Rattle.avalue_base.specs.Meaning.{MeansAddress, MeansSome, Means}
use Rattle.avalue_base.proofs.Lists.{In-all, all-In, map-In, has-In}
use Rattle.avalue_base.proofs.Sets.{some_held, held_some}
use Rattle.avalue_base.proofs.Meets.{set_same}
use Rattle.avalue_values.specs.Views.{numbers_in, numbers_alone, addresses_of}
use Rattle.avalue_values.proofs.Values.{some_is}
use Rattle.aops.proofs.Giving.{means_bases, from_either}
use Rattle.aops_pointers.specs.Moves.{at_number, summed, moved_by, option_set, in_bytes, sum_of, or_words, is_near_sum, stays_near, moved_address, moved_numbers, of_bases, shifted, shifted_by, moved_sets}
use Rattle.aops_pointers.proofs.Images.{image_holds}

-- ---- sets

pub option_same : (r : Option Ival) (o : Option Shape) → shape_option r ≡ o → r ≡ option_set o
option_same None None e = refl
option_same None (Some s) e = cc
option_same (Some v) None e = cc
option_same (Some v) (Some s) e = ap Some (set_same v s (same e))
  where
    same : Some v.shape ≡ Some s → v.shape ≡ s
    same e = cc

pub bytes_same : (size : ℕ) (counts one : Ival) (r : Option Ival) → one.shape ≡ Few (record { items = pos size ∷ [] }) → shape_option r ≡ exact_term Product counts.shape one.shape → r ≡ in_bytes size counts
unfolding in_bytes
bytes_same size counts one r h e = option_same r (exact_term Product counts.shape (Few (record { items = pos size ∷ [] }))) (e ∙ ap (exact_term Product counts.shape) h)

pub words_hold : (machine : Machine) (n : ℤ) → Holds words (address_number machine n)
unfolding words
words_hold Lp64 n =
    let b : residue (2 ^ 64) n < 2 ^ 64 = residue_below (2 ^ 64) n (pow_pos 64) in
    record { above = omega (arith, ints); below = omega (arith, ints); meets = one-dvd (apart (pos 0) (pos (residue (2 ^ 64) n))) }

-- ---- addresses

not_empty : (b : Bool) → b ≡ false → not b ≡ true
not_empty true h = cc
not_empty false h = refl

empty_not : (b : Bool) → not b ≡ true → b ≡ false
empty_not true h = cc
empty_not false h = refl

-- numbers whose left parts leave the same residue
pub left_residue : (m : ℕ) → 0 < m → (back : Bool) (a k : ℤ) → residue m (summed back (pos (residue m a)) k) ≡ residue m (summed back a k)
left_residue m h true a k =
    let d = Same-residue m a h in
    sym (residue_same m (a -ℤ k) (pos (residue m a) -ℤ k) h (record { times = d.times; is = less a k (pos (residue m a)) (d.times *ℤ pos m) d.is }))
  where
    less : (a k r q : ℤ) → a ≡ r +ℤ q → a -ℤ k ≡ (r -ℤ k) +ℤ q
    less a k r q e = omega (arith, ints)
left_residue m h false a k =
    let d = Same-residue m a h in
    sym (residue_same m (a +ℤ k) (pos (residue m a) +ℤ k) h (record { times = d.times; is = more a k (pos (residue m a)) (d.times *ℤ pos m) d.is }))
  where
    more : (a k r q : ℤ) → a ≡ r +ℤ q → a +ℤ k ≡ (r +ℤ k) +ℤ q
    more a k r q e = omega (arith, ints)

summed_behind : (back : Bool) (base o k : ℤ) → summed back (base +ℤ o) k ≡ base +ℤ summed back o k
summed_behind true base o k = omega (arith, ints)
summed_behind false base o k = omega (arith, ints)

shift_residue : (m : ℕ) → 0 < m → (back : Bool) (base o k : ℤ) → residue m (summed back (pos (residue m (base +ℤ o))) k) ≡ residue m (base +ℤ summed back o k)
shift_residue m h back base o k = left_residue m h back (base +ℤ o) k ∙ ap (residue m) (summed_behind back base o k)

module _ (back : Bool) (steps : Ival) where
  moved_ascending : (xs : List Address) → AreAscending base_of xs → AreAscending base_of (map (moved_address back steps) xs)
  moved_ascending [] a = tt
  moved_ascending (x ∷ xs) a = ((λ y i. let p = map-In (moved_address back steps) xs y i in subst (λ n. x.base < n) (sym (ap base_of p.2)) (a.0 p.0 p.1)), moved_ascending xs a.1)

  some_offset : (a : Address) → has_offsets a ≡ true → stays_near back steps a ≡ true → is_empty steps.shape ≡ false → has_offsets (moved_address back steps a) ≡ true
  some_offset a h n e = at (sum_of back a.offsets steps) refl n
    where
      at : (o : Option Ival) → sum_of back a.offsets steps ≡ o → is_near_sum o ≡ true → not (is_empty (or_words o).shape) ≡ true
      at None d n = cc
      at (Some s) d n =
          let p = some_held a.offsets (empty_not (is_empty a.offsets.shape) h) in
          let q = some_held steps e in
          not_empty (is_empty s.shape) (held_some s (summed back p.0 q.0) (image_holds (summed back) a.offsets steps s d p.0 q.0 p.1 q.1))

  moved_offsets : (xs : List Address) → list_all has_offsets xs ≡ true → list_all (stays_near back steps) xs ≡ true → is_empty steps.shape ≡ false → list_all has_offsets (map (moved_address back steps) xs) ≡ true
  moved_offsets xs h n e = In-all has_offsets (map (moved_address back steps) xs) (λ y i.
      let p = map-In (moved_address back steps) xs y i in
      subst (λ z. has_offsets z ≡ true) (sym p.2) (some_offset p.0 (all-In has_offsets xs h p.0 p.1) (all-In (stays_near back steps) xs n p.0 p.1) e))

  pub moved_sound : (xs us zs : List Address) → us ≡ xs → zs ≡ map (moved_address back steps) us → AreAscending base_of xs → list_all has_offsets xs ≡ true → list_all (stays_near back steps) xs ≡ true → is_empty steps.shape ≡ false →
      AreAscending base_of zs × (list_all has_offsets zs ≡ true)
  moved_sound xs us zs f e a h n d =
      subst (λ ws. AreAscending base_of ws × (list_all has_offsets ws ≡ true)) (sym (e ∙ ap (map (moved_address back steps)) f)) (moved_ascending xs a, moved_offsets xs h n d)

  address_means : (l : Layout) (a : Address) (x : Value) (k : ℤ) (s : Ival) → sum_of back a.offsets steps ≡ Some s → MeansAddress l a x → Holds steps k →
      MeansAddress l (record { base = a.base; offsets = s }) (at_number l.machine (summed back x.number k) x)
  address_means l a x k s e m h = record {
    offset = summed back m.offset k;
    held = image_holds (summed back) a.offsets steps s e m.offset k m.held h;
    number = ap (λ n. address_number l.machine (summed back n k)) m.number ∙ ap pos (shift_residue (2 ^ pointer_bits l.machine) (pow_pos (pointer_bits l.machine)) back (pos (l.address a.base)) m.offset k);
    provenance = m.provenance;
  }

  some_means : (l : Layout) (xs : List Address) (x : Value) (k : ℤ) → list_all (stays_near back steps) xs ≡ true → MeansSome l xs x → Holds steps k →
      MeansSome l (map (moved_address back steps) xs) (at_number l.machine (summed back x.number k) x)
  some_means l [] x k n m h = m
  some_means l (a ∷ xs) x k n (inl m) h = inl (at (sum_of back a.offsets steps) refl (and_parts (stays_near back steps a) (list_all (stays_near back steps) xs) n).0)
    where
      at : (o : Option Ival) → sum_of back a.offsets steps ≡ o → is_near_sum o ≡ true → MeansAddress l (record { base = a.base; offsets = or_words o }) (at_number l.machine (summed back x.number k) x)
      at None e n = cc
      at (Some s) e n = address_means l a x k s e m h
  some_means l (a ∷ xs) x k n (inr m) h = inr (some_means l xs x k (and_parts (stays_near back steps a) (list_all (stays_near back steps) xs) n).1 m h)

  pub separate_means : (l : Layout) (v : AVal) (ns w : Ival) (us zs : List Address) (x : Value) (k : ℤ) → numbers_in v ≡ Some ns → us ≡ addresses_of v → zs ≡ map (moved_address back steps) us → list_all (stays_near back steps) us ≡ true →
      ((n : ℤ) → Holds ns n → Holds w (address_number l.machine (summed back n k))) → Holds steps k → Means l v x → Means l (Separate w zs) (at_number l.machine (summed back x.number k) x)
  separate_means l (Mixed bs) ns w us zs x k e f g n i h m = cc
  separate_means l (Separate ms xs) ns w us zs x k e f g n i h (inl m) = inl (m.0, i x.number (subst (λ z. Holds z x.number) (some_is ms ns e) m.1))
  separate_means l (Separate ms xs) ns w us zs x k e f g n i h (inr m) =
      inr (subst (λ ws. MeansSome l ws (at_number l.machine (summed back x.number k) x)) (sym (g ∙ ap (map (moved_address back steps)) f))
      (some_means l xs x k (subst (λ ws. list_all (stays_near back steps) ws ≡ true) f n) m h))

  pub shifted_separate : (machine : Machine) (v : AVal) (ns w : Ival) (us zs : List Address) → numbers_in v ≡ Some ns → us ≡ addresses_of v → zs ≡ map (moved_address back steps) us → list_all (stays_near back steps) us ≡ true →
      w ≡ moved_numbers machine (sum_of back ns steps) → Separate w zs ≡ shifted back machine steps v
  shifted_separate machine (Mixed bs) ns w us zs e f g n i = cc
  shifted_separate machine (Separate ms xs) ns w us zs e f g n i =
      let t : list_all (stays_near back steps) xs ≡ true = subst (λ ws. list_all (stays_near back steps) ws ≡ true) f n in
      rw t (ap (λ z. Separate z zs) (i ∙ ap (λ z. moved_numbers machine (sum_of back z steps)) (sym (some_is ms ns e))) ∙ ap (Separate (moved_numbers machine (sum_of back ms steps))) (g ∙ ap (map (moved_address back steps)) f))

  pub shifted_away : (machine : Machine) (v : AVal) (ns : Ival) (us : List Address) → numbers_in v ≡ Some ns → us ≡ addresses_of v → list_all (stays_near back steps) us ≡ false → of_bases (bases_of v) ≡ shifted back machine steps v
  shifted_away machine (Mixed bs) ns us e f n = cc
  shifted_away machine (Separate ms xs) ns us e f n =
      let t : list_all (stays_near back steps) xs ≡ false = subst (λ ws. list_all (stays_near back steps) ws ≡ false) f n in
      rw t refl

  pub shifted_mix : (machine : Machine) (v : AVal) → numbers_in v ≡ None → v ≡ shifted back machine steps v
  shifted_mix machine (Separate ms xs) e = cc
  shifted_mix machine (Mixed bs) e = refl

  pub mix_means : (l : Layout) (v : AVal) (x : Value) (n : ℤ) → numbers_in v ≡ None → Means l v x → Means l v (at_number l.machine n x)
  mix_means l (Separate ms xs) x n e m = cc
  mix_means l (Mixed bs) x n e m = m

-- ---- the bases alone

false_from : (b : Bool) → (b ≡ true → ⊥) → b ≡ false
false_from true f = absurd (f refl)
false_from false f = refl

made_of_none : (p : Provenance) → ((q : ℕ) → contains p q ≡ true → ⊥) → p ≡ nowhere
made_of_none p f = same_set nat_cmp_total nat_cmp-IsAntisymmetric p nowhere (λ q. false_from (contains p q) (f q) ∙ sym (contains-empty nat_cmp q))

pub bases_mean : (l : Layout) (v : AVal) (x : Value) (n : ℤ) → Means l v x → Means l (of_bases (bases_of v)) (at_number l.machine n x)
bases_mean l v x n m = at (is_empty_list (bases_of v)) refl
  where
    none : (bs : List ℕ) (q : ℕ) → is_empty_list bs ≡ true → In bs q → ⊥
    none [] q e i = i
    none (b ∷ bs) q e i = cc

    at : (t : Bool) → is_empty_list (bases_of v) ≡ t → Means l (cond t (Separate words []) (Mixed (bases_of v))) (at_number l.machine n x)
    at true e = inl (made_of_none x.provenance (λ q h. none (bases_of v) q e (has-In (bases_of v) q (means_bases l v x q m h))), words_hold l.machine n)
    at false e = λ q h. means_bases l v x q m h

pub plain_bases : (v : AVal) (r : AVal) (w : Ival) → is_empty_list (bases_of v) ≡ true → r ≡ Separate w [] → w ≡ words → r ≡ of_bases (bases_of v)
plain_bases v r w h e f = rw h (e ∙ ap (λ z. Separate z []) f)

pub mixed_bases : (v : AVal) → is_empty_list (bases_of v) ≡ false → Mixed (bases_of v) ≡ of_bases (bases_of v)
mixed_bases v h = rw h refl

pub bases_hold : (l : Layout) (v r : AVal) (x : Value) (n : ℤ) → r ≡ of_bases (bases_of v) → Means l v x → Means l r (at_number l.machine n x)
bases_hold l v r x n e m = subst (λ z. Means l z (at_number l.machine n x)) (sym e) (bases_mean l v x n m)

pub none_shifted : (back : Bool) (machine : Machine) (v r : AVal) (steps : Option Ival) (s e : Ival) → steps ≡ Some s → is_empty s.shape ≡ true → r ≡ Separate e [] → e.shape ≡ Few (record { items = [] }) → r ≡ shifted_by back machine v steps
unfolding no_numbers
none_shifted back machine v r steps s e g h f d =
    f ∙ ap (λ z. Separate z []) (same_ival e no_numbers d) ∙ ap (λ t. cond t no_value (shifted back machine s v)) (sym h) ∙ ap (shifted_by back machine v) (sym g)

-- ---- moves by counts

or_false : (a : Bool) → (a || false) ≡ a
or_false true = refl
or_false false = refl

with_nowhere : (p : Provenance) → union p nowhere ≡ p
with_nowhere p = same_set nat_cmp_total nat_cmp-IsAntisymmetric (union p nowhere) p (λ q. contains-union nat_cmp_total p nowhere q ∙ ap (λ b. contains p q || b) (contains-empty nat_cmp q) ∙ or_false (contains p q))

pub moved_is : (back : Bool) (machine : Machine) (size : ℕ) (x y : Value) → y.provenance ≡ nowhere → at_number machine (summed back x.number (y.number *ℤ pos size)) x ≡ moved_by back machine size x y
moved_is true machine size x y e = ap (λ p. record { number = address_number machine (x.number -ℤ y.number *ℤ pos size); provenance = p }) (sym (with_nowhere x.provenance) ∙ ap (union x.provenance) (sym e))
moved_is false machine size x y e = ap (λ p. record { number = address_number machine (x.number +ℤ y.number *ℤ pos size); provenance = p }) (sym (with_nowhere x.provenance) ∙ ap (union x.provenance) (sym e))

pub blend_holds : (l : Layout) (back : Bool) (machine : Machine) (size : ℕ) (v w u : AVal) (x y : Value) → u ≡ Mixed (union_of (bases_of v) (bases_of w)) → Means l v x → Means l w y → Means l u (moved_by back machine size x y)
blend_holds l true machine size v w u x y e m n = subst (λ z. Means l z (moved_by true machine size x y)) (sym e) (λ q h. from_either l v w x y m n q h)
blend_holds l false machine size v w u x y e m n = subst (λ z. Means l z (moved_by false machine size x y)) (sym e) (λ q h. from_either l v w x y m n q h)

pub blend_is : (back : Bool) (machine : Machine) (size : ℕ) (v w : AVal) → numbers_alone w ≡ None → Mixed (union_of (bases_of v) (bases_of w)) ≡ moved_sets back machine size v w
blend_is back machine size v (Separate ms []) e = cc
blend_is back machine size v (Separate ms (y ∷ ys)) e = refl
blend_is back machine size v (Mixed cs) e = refl

pub counts_are : (back : Bool) (machine : Machine) (size : ℕ) (v w : AVal) (n : Ival) → numbers_alone w ≡ Some n → shifted_by back machine v (in_bytes size n) ≡ moved_sets back machine size v w
counts_are back machine size v (Separate ms []) n e = ap (λ z. shifted_by back machine v (in_bytes size z)) (sym (some_is ms n e))
counts_are back machine size v (Separate ms (y ∷ ys)) n e = cc
counts_are back machine size v (Mixed cs) n e = cc

pub some_weaker : (r : Option Ival) (P Q : Ival → Type 0) → ((v : Ival) → P v → Q v) → IfSome r P → IfSome r Q
some_weaker None P Q f h = h
some_weaker (Some v) P Q f h = f v h
