-- What is known of a pointer by its base and its offset.
use Rattle.std.proofs.Common.{◌≡◌, ℕ, ◌^◌, ◌+◌, ◌<◌, ◌≤◌, ◌==◌, Bool, true, false, cond, ◌&&◌, ℤ, pos, ◌+ℤ◌, ◌-ℤ◌, List, [], ◌∷◌, refl, sym, subst, ap, ◌∙◌, inl, inr, arith}
use Rattle.std.specs.Prelude.{Option, None, Some, find, int_le, neg_ℤ, ◌*ℤ◌}
use Rattle.std.specs.Ordering.{nat_cmp}
use Rattle.std.specs.Cmp.{nat_cmp_total}
use Rattle.std.specs.FinSet.{contains, len, empty, len-insert, len-empty, contains-empty}
use Rattle.std.proofs.lemmas.Bool.{and_parts, and_from}
use Rattle.std.proofs.lemmas.Nat.{pow_pos}
use Rattle.std.proofs.lemmas.Int.{ints}
use lib.Signed.{◌≤ℤ◌}
use Rattle.c_base.specs.declared.integer.Machine.{Machine}
use Rattle.c_base.specs.declared.integer.Machine.TheVariants.{Lp64}
use Rattle.c_base.specs.Integers.{residue}
use Rattle.c_base.proofs.Residues.{residue_below, residue_differs}
use Rattle.c_memory.specs.Values.{Value, nowhere, only}
use Rattle.c_memory.specs.Layouts.{Layout, last_address}
use Rattle.c_pointers.specs.Addresses.{is_plain, only_base, distance, is_in_or_behind, is_inside}
use Rattle.ival_core.specs.declared.value.Ival.{Ival}
use Rattle.ival_core.specs.Ivals.{Holds}
use Rattle.ival_core.specs.Views.{bounds_of}
use Rattle.ival_core.proofs.Orders.{le_true, true_le}
use Rattle.ival_plain.proofs.Widening.{bounds_is, no_bounds}
use Rattle.avalue_base.specs.Lists.{has_base, In}
use Rattle.avalue_base.specs.Numbers.{is_empty}
use Rattle.avalue_base.specs.Values.{Address, AVal, Separate, Mixed, bases_of}
use Rattle.avalue_base.specs.Hues.{pointer_bits}
use Rattle.avalue_base.specs.Meaning.{MeansAddress, Means}
use Rattle.avalue_base.specs.Meets.{lies_near}
use Rattle.avalue_base.proofs.Lists.{has-In, In-has}
use Rattle.avalue_base.proofs.Sets.{empty_none}
use Rattle.avalue_base.proofs.Meanings.{only_has}
use Rattle.avalue_base.proofs.Meets.{only_self}
use Rattle.aops_relations.specs.Placed.{IsPlaced, one_address, is_within, all_within, some_within}

pub same_bool : (a b : Bool) → (a ≡ true → b ≡ true) → (b ≡ true → a ≡ true) → a ≡ b
same_bool true b f g = sym (f refl)
same_bool false true f g = g refl
same_bool false false f g = refl

-- ---- bases

one_more : (base : ℕ) → len (only base) ≡ 1
one_more base = len-insert nat_cmp_total empty base ∙ ap (λ b. cond b (len (empty {R = nat_cmp})) (len (empty {R = nat_cmp}) + 1)) (contains-empty nat_cmp base) ∙ ap (λ n. n + 1) (len-empty nat_cmp)

find_only : (base : ℕ) (bs : List ℕ) → In bs base → find (contains (only base)) bs ≡ Some base
find_only base [] i = absurd i
find_only base (b ∷ bs) i = at (contains (only base) b) refl i (λ j. find_only base bs j)
  where
    at : (t : Bool) → contains (only base) b ≡ t → In (b ∷ bs) base → (In bs base → find (contains (only base)) bs ≡ Some base) → cond t (Some b) (find (contains (only base)) bs) ≡ Some base
    at true e i f = ap Some (only_has base b e)
    at false e (inl d) f = absurd (clash (contains (only base) b) (subst (λ z. contains (only base) z ≡ true) d (only_self base)) e)
      where
        clash : (t : Bool) → t ≡ true → t ≡ false → ⊥
        clash true e f = cc
        clash false e f = cc
    at false e (inr j) f = f j

base_found : (l : Layout) (base : ℕ) (x : Value) → x.provenance ≡ only base → has_base l.bases base ≡ true → only_base l x ≡ Some base
base_found l base x e h =
    ap (λ p. cond (len p == 1) (find (contains p) l.bases) None) e ∙ ap (λ n. cond (n == 1) (find (contains (only base)) l.bases) None) (one_more base) ∙ find_only base l.bases (has-In l.bases base h)

pub plain_none : (l : Layout) (x : Value) → x.provenance ≡ nowhere → only_base l x ≡ None
plain_none l x e = ap (λ p. cond (len p == 1) (find (contains p) l.bases) None) e ∙ ap (λ n. cond (n == 1) (find (contains nowhere) l.bases) None) (len-empty nat_cmp)

pub plain_is : (x : Value) → x.provenance ≡ nowhere → is_plain x ≡ true
plain_is x e = ap (λ p. len p == 0) e ∙ ap (λ n. n == 0) (len-empty nat_cmp)

-- ---- offsets

-- a pointer, so far behind the first byte of its base
pub record Spot (l : Layout) (base : ℕ) (o : ℤ) (x : Value) : Type 0 where
  pub plain : is_plain x ≡ false
  pub only : only_base l x ≡ Some base
  pub behind : is_in_or_behind l base x ≡ is_within (pos (l.size base)) o
  pub inside : is_inside l base x ≡ is_within (pos (l.size base) -ℤ pos 1) o
  pub number : is_within (pos (l.size base)) o ≡ true → x.number ≡ pos (l.address base) +ℤ o

within_parts : (last o : ℤ) → is_within last o ≡ true → (pos 0 ≤ℤ o) × (o ≤ℤ last)
within_parts last o h = let p = and_parts (int_le (pos 0) o) (int_le o last) h in (le_true (pos 0) o p.0, le_true o last p.1)

within_from : (last o : ℤ) → pos 0 ≤ℤ o → o ≤ℤ last → is_within last o ≡ true
within_from last o a b = and_from (int_le (pos 0) o) (int_le o last) (true_le (pos 0) o a) (true_le o last b)

-- a residue of a near sum tells the offset, where this lies in the base
module _ (a s r : ℕ) (o t : ℤ) (low : 1 ≤ a) (high : a + s ≤ 2 ^ 47) (near_low : neg_ℤ (pos (2 ^ 62)) ≤ℤ o) (near_high : o ≤ℤ pos (2 ^ 62)) (below : r < 2 ^ 64) (is : pos a +ℤ o ≡ pos r +ℤ t *ℤ pos (2 ^ 64)) where
  here : (d : ℤ) → d ≡ pos r -ℤ pos a → pos 0 ≤ℤ d → d ≤ℤ pos s → d ≡ o
  here d e f g = omega (arith, ints)

  there : pos 0 ≤ℤ o → o ≤ℤ pos s → pos r -ℤ pos a ≡ o
  there f g = omega (arith, ints)

near_is : (v : Ival) (o : ℤ) → lies_near (bounds_of v.shape) ≡ true → Holds v o → (neg_ℤ (pos (2 ^ 62)) ≤ℤ o) × (o ≤ℤ pos (2 ^ 62))
near_is v o h k = at (bounds_of v.shape) refl h
  where
    at : (b : Option (ℤ × ℤ)) → bounds_of v.shape ≡ b → lies_near b ≡ true → (neg_ℤ (pos (2 ^ 62)) ≤ℤ o) × (o ≤ℤ pos (2 ^ 62))
    at None e h = absurd (no_bounds v o e k)
    at (Some ends) e h =
        let p = and_parts (int_le (neg_ℤ (pos (2 ^ 62))) ends.0) (int_le ends.1 (pos (2 ^ 62))) h in
        let q = (bounds_is v ends.0 ends.1 e).between o k in
        let c = le_true (neg_ℤ (pos (2 ^ 62))) ends.0 p.0 in
        let d = le_true ends.1 (pos (2 ^ 62)) p.1 in
        let f = q.0 in
        let g = q.1 in
        (omega (arith, ints), omega (arith, ints))

bits_64 : (machine : Machine) → pointer_bits machine ≡ 64
bits_64 Lp64 = refl

last_47 : (machine : Machine) → last_address machine ≡ 2 ^ 47
last_47 Lp64 = refl

pub spot : (l : Layout) (size_of : ℕ → ℕ) (a : Address) (x : Value) → IsPlaced l size_of → has_base l.bases a.base ≡ true → lies_near (bounds_of a.offsets.shape) ≡ true → (m : MeansAddress l a x) → Spot l a.base m.offset x
spot l size_of a x p h n m = record {
  plain = ap (λ q. len q == 0) m.provenance ∙ ap (λ k. k == 0) (one_more a.base);
  only = base_found l a.base x m.provenance h;
  behind = same_bool (is_in_or_behind l a.base x) (is_within (pos (l.size a.base)) m.offset)
      (λ e. let q = within_parts (pos (l.size a.base)) (distance l a.base x) e in
      let d = here (l.address a.base) (l.size a.base) r m.offset t low high near.0 near.1 below is (distance l a.base x) far q.0 q.1 in
      subst (λ z. is_within (pos (l.size a.base)) z ≡ true) d e)
      (λ e. let q = within_parts (pos (l.size a.base)) m.offset e in
      subst (λ z. is_within (pos (l.size a.base)) z ≡ true) (sym (far ∙ there (l.address a.base) (l.size a.base) r m.offset t low high near.0 near.1 below is q.0 q.1)) e);
  inside = same_bool (is_inside l a.base x) (is_within (pos (l.size a.base) -ℤ pos 1) m.offset)
      (λ e. let q = and_parts (int_le (pos 0) (distance l a.base x)) (int_le (distance l a.base x +ℤ pos 1) (pos (l.size a.base))) e in
      let f = le_true (pos 0) (distance l a.base x) q.0 in
      let g = le_true (distance l a.base x +ℤ pos 1) (pos (l.size a.base)) q.1 in
      let d = here (l.address a.base) (l.size a.base) r m.offset t low high near.0 near.1 below is (distance l a.base x) far f (less (distance l a.base x) (pos (l.size a.base)) g) in
      within_from (pos (l.size a.base) -ℤ pos 1) m.offset (subst (λ z. pos 0 ≤ℤ z) d f) (turn m.offset (pos (l.size a.base)) (subst (λ z. (z +ℤ pos 1) ≤ℤ pos (l.size a.base)) d g)))
      (λ e. let q = within_parts (pos (l.size a.base) -ℤ pos 1) m.offset e in
      let d = far ∙ there (l.address a.base) (l.size a.base) r m.offset t low high near.0 near.1 below is q.0 (back m.offset (pos (l.size a.base)) q.1) in
      subst (λ z. (int_le (pos 0) z && int_le (z +ℤ pos 1) (pos (l.size a.base))) ≡ true) (sym d)
      (and_from (int_le (pos 0) m.offset) (int_le (m.offset +ℤ pos 1) (pos (l.size a.base))) (true_le (pos 0) m.offset q.0) (true_le (m.offset +ℤ pos 1) (pos (l.size a.base)) (again m.offset (pos (l.size a.base)) q.1))));
  number = λ e. let q = within_parts (pos (l.size a.base)) m.offset e in
      m.number ∙ (ap (λ k. pos (residue (2 ^ k) (pos (l.address a.base) +ℤ m.offset))) (bits_64 l.machine) ∙ sum (l.address a.base) r m.offset (there (l.address a.base) (l.size a.base) r m.offset t low high near.0 near.1 below is q.0 q.1));
}
  where
    r : ℕ
    r = residue (2 ^ 64) (pos (l.address a.base) +ℤ m.offset)

    t : ℤ
    t = (residue_differs (2 ^ 64) (pos (l.address a.base) +ℤ m.offset) (pow_pos 64)).times

    low : 1 ≤ l.address a.base
    low = p.low a.base h

    high : l.address a.base + l.size a.base ≤ 2 ^ 47
    high = subst (λ k. l.address a.base + l.size a.base ≤ k) (last_47 l.machine) (p.high a.base h)

    near : (neg_ℤ (pos (2 ^ 62)) ≤ℤ m.offset) × (m.offset ≤ℤ pos (2 ^ 62))
    near = near_is a.offsets m.offset n m.held

    below : r < 2 ^ 64
    below = residue_below (2 ^ 64) (pos (l.address a.base) +ℤ m.offset) (pow_pos 64)

    is : pos (l.address a.base) +ℤ m.offset ≡ pos r +ℤ t *ℤ pos (2 ^ 64)
    is = (residue_differs (2 ^ 64) (pos (l.address a.base) +ℤ m.offset) (pow_pos 64)).is

    far : distance l a.base x ≡ pos r -ℤ pos (l.address a.base)
    far = ap (λ z. z -ℤ pos (l.address a.base)) (m.number ∙ ap (λ k. pos (residue (2 ^ k) (pos (l.address a.base) +ℤ m.offset))) (bits_64 l.machine))

    less : (d s : ℤ) → (d +ℤ pos 1) ≤ℤ s → d ≤ℤ s
    less d s h = omega (arith, ints)

    turn : (o s : ℤ) → (o +ℤ pos 1) ≤ℤ s → o ≤ℤ (s -ℤ pos 1)
    turn o s h = omega (arith, ints)

    back : (o s : ℤ) → o ≤ℤ (s -ℤ pos 1) → o ≤ℤ s
    back o s h = omega (arith, ints)

    again : (o s : ℤ) → o ≤ℤ (s -ℤ pos 1) → (o +ℤ pos 1) ≤ℤ s
    again o s h = omega (arith, ints)

    sum : (a r : ℕ) (o : ℤ) → pos r -ℤ pos a ≡ o → pos r ≡ pos a +ℤ o
    sum a r o e = omega (arith, ints)

-- ---- sets of offsets

pub all_are : (v : Ival) (last o : ℤ) → all_within last (bounds_of v.shape) ≡ true → Holds v o → is_within last o ≡ true
all_are v last o h k = at (bounds_of v.shape) refl h
  where
    at : (b : Option (ℤ × ℤ)) → bounds_of v.shape ≡ b → all_within last b ≡ true → is_within last o ≡ true
    at None e h = absurd (no_bounds v o e k)
    at (Some ends) e h =
        let p = and_parts (int_le (pos 0) ends.0) (int_le ends.1 last) h in
        let q = (bounds_is v ends.0 ends.1 e).between o k in
        let c = le_true (pos 0) ends.0 p.0 in
        let d = le_true ends.1 last p.1 in
        let f = q.0 in
        let g = q.1 in
        within_from last o (omega (arith, ints)) (omega (arith, ints))

pub some_is : (v : Ival) (last o : ℤ) → Holds v o → is_within last o ≡ true → some_within last (bounds_of v.shape) ≡ true
some_is v last o k h = at (bounds_of v.shape) refl
  where
    at : (b : Option (ℤ × ℤ)) → bounds_of v.shape ≡ b → some_within last b ≡ true
    at None e = absurd (no_bounds v o e k)
    at (Some ends) e =
        let p = within_parts last o h in
        let q = (bounds_is v ends.0 ends.1 e).between o k in
        let c = p.0 in
        let d = p.1 in
        let f = q.0 in
        let g = q.1 in
        and_from (int_le (pos 0) ends.1) (int_le ends.0 last) (true_le (pos 0) ends.1 (omega (arith, ints))) (true_le ends.0 last (omega (arith, ints)))

-- ---- values that are one address

pub record IsOne (l : Layout) (v : AVal) (a : Address) (x : Value) : Type 0 where
  pub means : MeansAddress l a x
  pub near : lies_near (bounds_of a.offsets.shape) ≡ true
  pub base : has_base (bases_of v) a.base ≡ true

pub one_is : (l : Layout) (v : AVal) (a : Address) (x : Value) → one_address v ≡ Some a → Means l v x → IsOne l v a x
one_is l (Separate ns []) a x e m = cc
one_is l (Separate ns (b ∷ [])) a x e m = at (is_empty ns.shape && lies_near (bounds_of b.offsets.shape)) refl e m
  where
    at : (t : Bool) → (is_empty ns.shape && lies_near (bounds_of b.offsets.shape)) ≡ t → cond t (Some b) None ≡ Some a → Means l (Separate ns (b ∷ [])) x → IsOne l (Separate ns (b ∷ [])) a x
    at false f d m = cc
    at true f d (inl n) = absurd (empty_none ns x.number (and_parts (is_empty ns.shape) (lies_near (bounds_of b.offsets.shape)) f).0 n.1)
    at true f d (inr (inr n)) = absurd n
    at true f d (inr (inl n)) =
        let same : b ≡ a = cc in
        subst (λ z. IsOne l (Separate ns (b ∷ [])) z x) same (record { means = n; near = (and_parts (is_empty ns.shape) (lies_near (bounds_of b.offsets.shape)) f).1; base = In-has (b.base ∷ []) b.base (inl refl) })
one_is l (Separate ns (b ∷ c ∷ xs)) a x e m = cc
one_is l (Mixed bs) a x e m = cc
