-- One number moved by one count.
use Rattle.std.proofs.Common.{◌≡◌, ◌↔◌, ℕ, ◌*◌, ◌%◌, ◌<◌, ◌^◌, Bool, true, false, ◌&&◌, ℤ, pos, ◌+ℤ◌, ◌-ℤ◌, List, [], ◌∷◌, refl, sym, subst, ap, ◌∙◌, inl, inr, arith}
use Rattle.std.specs.Prelude.{Option, None, Some, is_some, ◌*ℤ◌}
use Rattle.std.proofs.lemmas.Bool.{and_parts}
use Rattle.std.proofs.lemmas.Nat.{pow_pos}
use Rattle.std.proofs.lemmas.Int.{ints}
use Rattle.c_base.specs.declared.integer.Machine.{Machine}
use Rattle.c_base.specs.declared.integer.Machine.TheVariants.{Lp64}
use Rattle.c_base.specs.Integers.{residue}
use Rattle.c_base.proofs.Residues.{residue_below, residue_same, Same-residue, Same-mul}
use Rattle.c_memory.specs.Values.{Value, nowhere}
use Rattle.c_memory.specs.Layouts.{Layout}
use Rattle.c_pointers.specs.Conversions.{address_number}
use Rattle.ival_core.specs.declared.value.Shape.TheVariants.{Few}
use Rattle.ival_core.specs.declared.value.Ival.{Ival}
use Rattle.ival_core.specs.Ivals.{Holds, IsOnly}
use Rattle.ival_core.specs.Sets.{IsNumber, IsValid}
use Rattle.ival_core.specs.Views.{single_of}
use Rattle.avalue_base.specs.Hues.{pointer_bits}
use Rattle.avalue_base.specs.Meaning.{Means}
use Rattle.avalue_base.specs.Meets.{set_of}
use Rattle.avalue_base.specs.Numbers.{is_empty_list}
use Rattle.avalue_base.specs.Singles.{is_single_value}
use Rattle.avalue_base.specs.Values.{AVal, Separate, Mixed, bases_of}
use Rattle.avalue_base.proofs.Meets.{set_same}
use Rattle.avalue_base.proofs.Sets.{single_only}
use Rattle.aops.specs.Soles.{is_single_number}
use Rattle.aops.proofs.Soles.{same_value}
use Rattle.aops_pointers.specs.Moves.{summed, moved_by, at_number, IsKept, IsNear}
use Rattle.aops_pointers.specs.Moved.{KeepsNear, value_number}
use Rattle.aops_pointers.specs.Singles.{one_moved}
use Rattle.aops_pointers.proofs.Moving.{left_residue, moved_is}

-- ---- residues

right_residue : (m : ℕ) → 0 < m → (back : Bool) (a b : ℤ) → residue m (summed back a (pos (residue m b))) ≡ residue m (summed back a b)
right_residue m h true a b =
    let d = Same-residue m b h in
    residue_same m (a -ℤ pos (residue m b)) (a -ℤ b) h (record { times = d.times; is = less a b (pos (residue m b)) (d.times *ℤ pos m) d.is })
  where
    less : (a b r q : ℤ) → b ≡ r +ℤ q → a -ℤ r ≡ (a -ℤ b) +ℤ q
    less a b r q e = omega (arith, ints)
right_residue m h false a b =
    let d = Same-residue m b h in
    sym (residue_same m (a +ℤ b) (a +ℤ pos (residue m b)) h (record { times = d.times; is = more a b (pos (residue m b)) (d.times *ℤ pos m) d.is }))
  where
    more : (a b r q : ℤ) → b ≡ r +ℤ q → a +ℤ b ≡ (a +ℤ r) +ℤ q
    more a b r q e = omega (arith, ints)

pub summed_residue : (m : ℕ) → 0 < m → (back : Bool) (a b : ℤ) → residue m (summed back (pos (residue m a)) (pos (residue m b))) ≡ residue m (summed back a b)
summed_residue m h back a b = left_residue m h back a (pos (residue m b)) ∙ right_residue m h back a b

pub step_is : (words size : ℕ) (count : ℤ) → 0 < words → (residue words count * size) % words ≡ residue words (count *ℤ pos size)
step_is words size count h = sym (residue_same words (count *ℤ pos size) (pos (residue words count) *ℤ pos size) h (Same-mul words count (pos (residue words count)) (pos size) (Same-residue words count h)))

pub number_is : (m : Machine) (back : Bool) (size : ℕ) (n count : ℤ) (words here step r : ℕ) → words ≡ 2 ^ pointer_bits m → here ≡ residue words n → step ≡ residue words (count *ℤ pos size) → r ≡ residue words (summed back (pos here) (pos step)) →
    pos r ≡ address_number m (summed back n (count *ℤ pos size))
number_is Lp64 back size n count words here step r e h k f =
    ap pos (f ∙ ap (λ x. residue words (summed back (pos x) (pos step))) h ∙ ap (λ x. residue words (summed back (pos (residue words n)) (pos x))) k
    ∙ summed_residue words (subst (λ w. 0 < w) (sym e) (pow_pos 64)) back n (count *ℤ pos size) ∙ ap (λ w. residue w (summed back n (count *ℤ pos size))) e)

-- ---- values

one_only : (n : ℤ) → IsNumber n → IsOnly (set_of (Few (record { items = n ∷ [] }))) n
one_only n h = subst (λ v. IsOnly v n) (set_same one (Few (record { items = n ∷ [] })) refl) (λ z. ((λ i. only z i), inl))
  where
    valid : IsValid (Few (record { items = n ∷ [] }))
    valid = record { small = omega arith; ascending = (tt, tt); numbers = (h, tt) }

    one : Ival
    one = record { shape = Few (record { items = n ∷ [] }); valid = valid }

    only : (z : ℤ) → Holds one z → z ≡ n
    only z (inl e) = e
    only z (inr i) = absurd i

word_number : (m : Machine) (n : ℤ) → IsNumber (address_number m n)
word_number Lp64 n =
    let b : residue (2 ^ 64) n < 2 ^ 64 = residue_below (2 ^ 64) n (pow_pos 64) in
    record { least = omega (arith, ints); greatest = omega (arith, ints) }

pub one_is : (back : Bool) (machine : Machine) (size : ℕ) (v w : AVal) (n k : ℤ) (s : Ival) (r : ℕ) → value_number v ≡ Some n → value_number w ≡ Some k → s.shape ≡ Few (record { items = pos r ∷ [] }) → pos r ≡ address_number machine (summed back n (k *ℤ pos size)) →
    Some s ≡ one_moved back machine size (value_number v) (value_number w)
one_is back machine size v w n k s r e f h i =
    ap Some (set_same s (Few (record { items = address_number machine (summed back n (k *ℤ pos size)) ∷ [] })) (h ∙ ap (λ z. Few (record { items = z ∷ [] })) i))
    ∙ ap (λ o. one_moved back machine size o (Some k)) (sym e) ∙ ap (one_moved back machine size (value_number v)) (sym f)

lone : (l : Layout) (v : AVal) (n : ℤ) (x : Value) → value_number v ≡ Some n → Means l v x → (x.provenance ≡ nowhere) × (x.number ≡ n)
lone l (Separate ns []) n x e (inl m) = (m.0, (single_only ns n e x.number).0 m.1)
lone l (Separate ns []) n x e (inr m) = absurd m
lone l (Separate ns (a ∷ xs)) n x e m = cc
lone l (Mixed bs) n x e m = cc

module _ (back : Bool) (machine : Machine) (size : ℕ) (s : Ival) where
  record Lone (v w : AVal) : Type 0 where
    number : ℤ
    count : ℤ
    is_number : value_number v ≡ Some number
    is_count : value_number w ≡ Some count
    is : set_of (Few (record { items = address_number machine (summed back number (count *ℤ pos size)) ∷ [] })) ≡ s

  lone_of : (v w : AVal) → one_moved back machine size (value_number v) (value_number w) ≡ Some s → Lone v w
  lone_of v w e = at (value_number v) refl (value_number w) refl e
    where
      at : (n : Option ℤ) → value_number v ≡ n → (k : Option ℤ) → value_number w ≡ k → one_moved back machine size n k ≡ Some s → Lone v w
      at (Some n) d (Some k) f e = record { number = n; count = k; is_number = d; is_count = f; is = cc }
      at (Some n) d None f e = cc
      at None d k f e = cc

  -- what is moved is the one number, and nothing else
  pub lone_sole : (l : Layout) (v w : AVal) (x y z : Value) → one_moved back machine size (value_number v) (value_number w) ≡ Some s → l.machine ≡ machine → Means l v x → Means l w y →
      Means l (Separate s []) z ↔ (z ≡ moved_by back machine size x y)
  lone_sole l v w x y z e h m n = (to, λ f. subst (Means l (Separate s [])) (sym f) from)
    where
      q : Lone v w
      q = lone_of v w e

      p : (x.provenance ≡ nowhere) × (x.number ≡ q.number)
      p = lone l v q.number x q.is_number m

      r : (y.provenance ≡ nowhere) × (y.number ≡ q.count)
      r = lone l w q.count y q.is_count n

      here : ℤ
      here = address_number machine (summed back x.number (y.number *ℤ pos size))

      same : here ≡ address_number machine (summed back q.number (q.count *ℤ pos size))
      same = ap (λ k. address_number machine (summed back k (y.number *ℤ pos size))) p.1 ∙ ap (λ k. address_number machine (summed back q.number (k *ℤ pos size))) r.1

      holds : IsOnly s here
      holds = subst (IsOnly s) (sym same) (subst (λ t. IsOnly t (address_number machine (summed back q.number (q.count *ℤ pos size)))) q.is (one_only (address_number machine (summed back q.number (q.count *ℤ pos size))) (word_number machine (summed back q.number (q.count *ℤ pos size)))))

      from : Means l (Separate s []) (moved_by back machine size x y)
      from = subst (Means l (Separate s [])) (moved_is back machine size x y r.0) (inl (p.0, (holds here).1 refl))

      to : Means l (Separate s []) z → z ≡ moved_by back machine size x y
      to (inl i) = same_value z (at_number machine (summed back x.number (y.number *ℤ pos size)) x) ((holds z.number).0 i.1) (i.0 ∙ sym p.0) ∙ moved_is back machine size x y r.0
      to (inr i) = absurd i

-- ---- what else is single

-- a single count is one number
count_some : (w : AVal) → is_single_number w ≡ true → is_some (value_number w) ≡ true
count_some (Separate ns []) h = (and_parts (is_some (single_of ns.shape)) true h).0
count_some (Separate ns (a ∷ xs)) h = absurd (no (is_single_value (Separate ns (a ∷ xs))) h)
  where
    no : (t : Bool) → (t && false) ≡ true → ⊥
    no true e = cc
    no false e = cc
count_some (Mixed bs) h = cc

none_moved : (back : Bool) (machine : Machine) (size : ℕ) (n k : Option ℤ) → one_moved back machine size n k ≡ None → is_some n ≡ true → is_some k ≡ true → ⊥
none_moved back machine size (Some n) (Some k) e h i = cc
none_moved back machine size (Some n) None e h i = cc
none_moved back machine size None k e h i = cc

pub record IsKeptAll (back : Bool) (k : ℤ) (v : AVal) : Type 0 where
  pub bytes : IsNumber k
  pub kept : IsKept back k v

-- a single pointer that is no number stays near by what is asked of it
pub kept_of : (back : Bool) (machine : Machine) (size : ℕ) (v w : AVal) (k : ℤ) → one_moved back machine size (value_number v) (value_number w) ≡ None → is_single_value v ≡ true → is_single_number w ≡ true → KeepsNear back k v → IsKeptAll back k v
kept_of back machine size (Separate ns []) w k e h i f = absurd (none_moved back machine size (single_of ns.shape) (value_number w) e h (count_some w i))
kept_of back machine size (Separate ns (a ∷ xs)) w k e h i f = record { bytes = f.0; kept = f.1 }
kept_of back machine size (Mixed bs) w k e h i f = cc
