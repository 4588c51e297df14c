-- What is left of cells when a base has died.
use Rattle.std.proofs.Common.{◌≡◌, ℕ, ◌^◌, ◌<◌, ◌≤◌, ◌==◌, Bool, true, false, cond, pos, List, [], ◌∷◌, length, map, refl, sym, subst, ap, ◌∙◌, inl, inr, arith}
use Rattle.std.specs.Prelude.{not}
use Rattle.std.specs.FinSet.{contains}
use Rattle.std.specs.List.{AllByRecursion}
use Rattle.std.proofs.Math.Nat.{pow-le-pow_right, mod-eq_of_lt}
use Rattle.std.proofs.lemmas.Int.{ints}
use Rattle.std.proofs.lemmas.Bool.{or_left, or_right, or_cases, eqb-true}
use Rattle.std.proofs.lemmas.Nat.Gcd.{dvd_of_mod-eq-zero}
use Rattle.c_base.specs.Integers.{number_of_bits}
use Rattle.c_memory.specs.Values.{Cell, Uninit, Dead, Bit, Provenance, nowhere, only, wither, bit_of}
use Rattle.c_memory.specs.Layouts.{Layout}
use Rattle.c_memory.specs.Rows.{RowCell, AreBits, IsMixed, IsFlagged, AllowsSome}
use Rattle.ival_core.specs.declared.value.Ival.{Ival}
use Rattle.ival_core.specs.Ivals.{Holds}
use Rattle.avalue_base.specs.Lists.{has_base, In}
use Rattle.avalue_base.specs.Numbers.{is_empty_list, words}
use Rattle.avalue_base.specs.Values.{Address, AVal, Separate, Mixed, Cellv, base_of, bases_of, has_no_value, parts_of, row_cell}
use Rattle.avalue_base.specs.Hues.{pointer_bits, fits_value}
use Rattle.avalue_base.specs.Deaths.{without, mix_or_words, value_left, forgotten}
use Rattle.avalue_base.specs.Pieces.{has_offsets}
use Rattle.avalue_base.specs.Ops.{Fine, have_offsets}
use Rattle.avalue_base.specs.Meaning.{AllowsBy, Allows, Tint}
use Rattle.avalue_base.proofs.Lists.{all-In, In-all, In-has, has-In, In-map}
use Rattle.avalue_base.proofs.Words.{number_of_bits-below}
use Rattle.avalue_base.proofs.Ordering.{nothing_parts, nothing_from, empty_list}
use Rattle.avalue_base.proofs.Meanings.{Contains-has, has-Contains, nowhere_has, only_has, self_has, FlagsIn, bits_more, flagged_more, PlainIn, AddressIn, separate_allows, allows_separate, flags_allowed, by_value, from_some}
use Rattle.avalue_base.proofs.Showing.{plain_bits, spelled, length-map}

-- ---- elements with other keys

pub without-In : {X : Type 0} (key : X → ℕ) (base : ℕ) (xs : List X) (x : X) → In xs x → (key x == base) ≡ false → In (without key base xs) x
without-In key base [] x i h = i
without-In key base (y ∷ ys) x (inl e) h =
    let n : not (key y == base) ≡ true = ap not (subst (λ z. (key z == base) ≡ false) e h) in
    subst (λ b. In (cond b (y ∷ without key base ys) (without key base ys)) x) (sym n) (inl e)
without-In key base (y ∷ ys) x (inr i) h = by_test (not (key y == base)) (without-In key base ys x i h)
  where
    by_test : (b : Bool) → In (without key base ys) x → In (cond b (y ∷ without key base ys) (without key base ys)) x
    by_test true j = inr j
    by_test false j = j

pub In-without : {X : Type 0} (key : X → ℕ) (base : ℕ) (xs : List X) (x : X) → In (without key base xs) x → In xs x
In-without key base [] x i = i
In-without key base (y ∷ ys) x i = by_test (not (key y == base)) (λ j. inr (In-without key base ys x j)) i
  where
    by_test : (b : Bool) → (In (without key base ys) x → In (y ∷ ys) x) → In (cond b (y ∷ without key base ys) (without key base ys)) x → In (y ∷ ys) x
    by_test true f (inl e) = inl e
    by_test true f (inr j) = f j
    by_test false f j = f j

-- ---- cells

abbrev withered : ℕ → List Cell → List Cell
withered base cells = map (wither (base ∷ [])) cells

-- a cell whose provenance lacks the base stays
stays : (base : ℕ) (b : Bool) (p : Provenance) (i : ℕ) → contains p base ≡ false → wither (base ∷ []) (Bit b p i) ≡ Bit b p i
stays base b p i h = rw h refl

dies : (base : ℕ) (b : Bool) (p : Provenance) (i : ℕ) → contains p base ≡ true → wither (base ∷ []) (Bit b p i) ≡ Dead
dies base b p i h = rw h refl

length-withered : (base : ℕ) (cells : List Cell) → length (withered base cells) ≡ length cells
length-withered base cells = length-map (wither (base ∷ [])) cells

flagged_stay : (base : ℕ) (c : RowCell) (cells : List Cell) → AllByRecursion (IsFlagged c) cells → withered base cells ≡ cells
flagged_stay base c [] a = refl
flagged_stay base c (Uninit ∷ cells) a = ap (λ xs. Uninit ∷ xs) (flagged_stay base c cells a.1)
flagged_stay base c (Dead ∷ cells) a = ap (λ xs. Dead ∷ xs) (flagged_stay base c cells a.1)
flagged_stay base c (Bit b p i ∷ cells) a = absurd a.0

bits_stay : (base : ℕ) (c : RowCell) (p : Provenance) → contains p base ≡ false → (bs : List Bool) (cells : List Cell) → AreBits c p bs cells → withered base cells ≡ cells
bits_stay base c p h [] [] a = refl
bits_stay base c p h [] (x ∷ cells) a = absurd a
bits_stay base c p h (b ∷ bs) [] a = absurd a
bits_stay base c p h (b ∷ bs) (Uninit ∷ cells) a = ap (λ xs. Uninit ∷ xs) (bits_stay base c p h bs cells a.1)
bits_stay base c p h (b ∷ bs) (Dead ∷ cells) a = ap (λ xs. Dead ∷ xs) (bits_stay base c p h bs cells a.1)
bits_stay base c p h (b ∷ bs) (Bit x q i ∷ cells) a =
    let e = stays base x q i (subst (λ z. contains z base ≡ false) (sym a.0.1) h) in
    ap (λ y. y ∷ withered base cells) e ∙ ap (λ xs. Bit x q i ∷ xs) (bits_stay base c p h bs cells a.1)

bits_die : (base : ℕ) (c d : RowCell) (f : FlagsIn c d) (p : Provenance) → contains p base ≡ true → d.dead ≡ true → (bs : List Bool) (cells : List Cell) → AreBits c p bs cells → AllByRecursion (IsFlagged d) (withered base cells)
bits_die base c d f p h k [] [] a = tt
bits_die base c d f p h k [] (x ∷ cells) a = absurd a
bits_die base c d f p h k (b ∷ bs) [] a = absurd a
bits_die base c d f p h k (b ∷ bs) (Uninit ∷ cells) a = (f.uninit a.0, bits_die base c d f p h k bs cells a.1)
bits_die base c d f p h k (b ∷ bs) (Dead ∷ cells) a = (f.dead a.0, bits_die base c d f p h k bs cells a.1)
bits_die base c d f p h k (b ∷ bs) (Bit x q i ∷ cells) a =
    (subst (IsFlagged d) (sym (dies base x q i (subst (λ z. contains z base ≡ true) (sym a.0.1) h))) k, bits_die base c d f p h k bs cells a.1)

not_true : (b : Bool) → (b ≡ true → ⊥) → b ≡ false
not_true true f = absurd (f refl)
not_true false f = refl

-- what is left of a mix
abbrev LeftTint : Cellv → List ℕ → Cell → Type 0
LeftTint d bases x = Tint (record { bases = bases; uninit = d.uninit; dead = d.dead }) x

mixed_left : (base : ℕ) (c d : Cellv) (f : FlagsIn (row_cell c) (row_cell d)) (bs : List ℕ) → (has_base bs base ≡ true → d.dead ≡ true) → (cells : List Cell) → AllByRecursion (IsMixed (row_cell c) bs) cells →
    AllByRecursion (LeftTint d (without (λ b. b) base bs)) (withered base cells)
mixed_left base c d f bs k [] a = tt
mixed_left base c d f bs k (Uninit ∷ cells) a = (f.uninit a.0, mixed_left base c d f bs k cells a.1)
mixed_left base c d f bs k (Dead ∷ cells) a = (f.dead a.0, mixed_left base c d f bs k cells a.1)
mixed_left base c d f bs k (Bit x p i ∷ cells) a = (by_test (contains p base) refl, mixed_left base c d f bs k cells a.1)
  where
    own : (q : ℕ) → contains p q ≡ true → In bs q
    own q t = has-In bs q (Contains-has bs q (a.0 q t))

    left : contains p base ≡ false → (q : ℕ) → contains p q ≡ true → has_base (without (λ b. b) base bs) q ≡ true
    left h q t = In-has (without (λ b. b) base bs) q (without-In (λ b. b) base bs q (own q t) (not_true (q == base) (λ e. other h q t (eqb-true q base e))))
      where
        other : contains p base ≡ false → (q : ℕ) → contains p q ≡ true → q ≡ base → ⊥
        other h q t e = let u : contains p base ≡ true = subst (λ z. contains p z ≡ true) e t in cc

    by_test : (b : Bool) → contains p base ≡ b → LeftTint d (without (λ b. b) base bs) (wither (base ∷ []) (Bit x p i))
    by_test true h = subst (LeftTint d (without (λ b. b) base bs)) (sym (dies base x p i h)) (k (In-has bs base (own base h)))
    by_test false h = subst (LeftTint d (without (λ b. b) base bs)) (sym (stays base x p i h)) (left h)

words_hold : (n : ℕ) → n < 2 ^ 64 → Holds words (pos n)
unfolding words
words_hold n h = record { above = omega (arith, ints); below = omega (arith, ints); meets = dvd_of_mod-eq-zero 1 (omega arith) }

tints_mixed : (d : Cellv) (bs : List ℕ) (cells : List Cell) → AllByRecursion (LeftTint d bs) cells → AllByRecursion (IsMixed (row_cell d) bs) cells
tints_mixed d bs [] a = tt
tints_mixed d bs (Uninit ∷ cells) a = (a.0, tints_mixed d bs cells a.1)
tints_mixed d bs (Dead ∷ cells) a = (a.0, tints_mixed d bs cells a.1)
tints_mixed d bs (Bit x p i ∷ cells) a = ((λ q t. has-Contains bs q (a.0 q t)), tints_mixed d bs cells a.1)

mix_left : (l : Layout) (d : Cellv) (cells : List Cell) → length cells ≤ 64 → (bs : List ℕ) → AllByRecursion (LeftTint d bs) cells → AllowsSome l (row_cell d) cells (parts_of (mix_or_words bs))
mix_left l d cells h [] a =
    let bits = plain_bits d cells a in
    let n = number_of_bits (map bit_of cells) in
    let w = length-map bit_of cells in
    let small : n < 2 ^ length cells = subst (λ j. n < 2 ^ j) w (number_of_bits-below (map bit_of cells)) in
    let two : 0 < 2 = omega arith in
    let p : 2 ^ length cells ≤ 2 ^ 64 = pow-le-pow_right two h in
    allows_separate l (row_cell d) cells words [] (inl (record {
      number = pos n;
      held = words_hold n (omega arith);
      bits = spelled l (row_cell d) (map bit_of cells) cells (pos n) bits (mod-eq_of_lt small);
    }))
mix_left l d cells h (b ∷ bs) a = inl (tints_mixed d (b ∷ bs) cells a)

-- ---- values

left_fits : (l : Layout) (k base : ℕ) (ns : Ival) (xs : List Address) → fits_value l.machine k (Separate ns xs) ≡ true → fits_value l.machine k (value_left base (Separate ns xs)) ≡ true
left_fits l k base ns xs h =
    elim (or_cases (is_empty_list xs) (k == pointer_bits l.machine) h) [
      | inl e ↦ or_left (is_empty_list (without base_of base xs)) (k == pointer_bits l.machine) (subst (λ zs. is_empty_list (without base_of base zs) ≡ true) (sym (empty_list xs e)) refl)
      | inr e ↦ or_right (is_empty_list (without base_of base xs)) (k == pointer_bits l.machine) e
    ]

pub left_offsets : (base : ℕ) (ns : Ival) (xs : List Address) → have_offsets (Separate ns xs) ≡ true → have_offsets (value_left base (Separate ns xs)) ≡ true
left_offsets base ns xs h = In-all has_offsets (without base_of base xs) (λ a i. all-In has_offsets xs h a (In-without base_of base xs a i))

forget_flags : (base : ℕ) (c : Cellv) → FlagsIn (row_cell c) (row_cell (forgotten base c))
forget_flags base c = record { uninit = λ e. e; dead = λ e. or_left c.dead (has_base (bases_of c.value) base) e }

flags_left : (l : Layout) (d : Cellv) (cells : List Cell) → have_offsets d.value ≡ true → fits_value l.machine (length cells) d.value ≡ true → AllByRecursion (IsFlagged (row_cell d)) cells → AllowsBy l d (has_no_value d.value) cells
flags_left l d cells o f a = at (has_no_value d.value) refl
  where
    at : (b : Bool) → has_no_value d.value ≡ b → AllowsBy l d b cells
    at true h = a
    at false h = flags_allowed l (row_cell d) d.value cells h o f a

left_nothing : (base : ℕ) (v : AVal) → has_no_value v ≡ true → has_no_value (value_left base v) ≡ true
left_nothing base (Separate ns xs) h =
    let n = nothing_parts ns xs h in
    nothing_from ns (without base_of base xs) n.0 (ap (without base_of base) n.1)
left_nothing base (Mixed bs) h = cc

module _ (l : Layout) (base k : ℕ) (c : Cellv) (g : Fine l.machine k c) (cells : List Cell) (e : length cells ≡ k) where
  abbrev d : Cellv
  d = forgotten base c

  some_left : (v : AVal) → c.value ≡ v → AllowsSome l (row_cell c) cells (parts_of v) → AllowsBy l d (has_no_value d.value) (withered base cells)
  some_left (Separate ns xs) s a =
      elim (separate_allows l (row_cell c) cells ns xs a) [
        | inl p ↦ plain p
        | inr p ↦ by_test p (contains (only p.address.base) base) refl
      ]
    where
      is : d.value ≡ Separate ns (without base_of base xs)
      is = ap (value_left base) s

      into : (cs : List Cell) → AllowsSome l (row_cell d) cs (parts_of (Separate ns (without base_of base xs))) → AllowsBy l d (has_no_value d.value) cs
      into cs b = from_some l d cs (subst (λ v. AllowsSome l (row_cell d) cs (parts_of v)) (sym is) b)

      plain : PlainIn l (row_cell c) cells ns → AllowsBy l d (has_no_value d.value) (withered base cells)
      plain p =
          let same = bits_stay base (row_cell c) nowhere (not_true (contains nowhere base) (λ t. nowhere_has base t)) _ cells p.bits in
          subst (λ cs. AllowsBy l d (has_no_value d.value) cs) (sym same)
          (into cells (allows_separate l (row_cell d) cells ns (without base_of base xs) (inl (record { number = p.number; held = p.held; bits = bits_more (row_cell c) (row_cell d) (forget_flags base c) nowhere _ cells p.bits }))))

      by_test : (p : AddressIn l (row_cell c) cells xs) (b : Bool) → contains (only p.address.base) base ≡ b → AllowsBy l d (has_no_value d.value) (withered base cells)
      by_test p true h =
          let own : base ≡ p.address.base = only_has p.address.base base h in
          let among : has_base (bases_of c.value) base ≡ true =
          subst (λ v. has_base (bases_of v) base ≡ true) (sym s) (In-has (map base_of xs) base (subst (In (map base_of xs)) (sym own) (In-map base_of xs p.address p.among))) in
          flags_left l d (withered base cells)
          (subst (λ v. have_offsets v ≡ true) (sym is) (left_offsets base ns xs (subst (λ v. have_offsets v ≡ true) s g.offsets)))
          (subst (λ v. fits_value l.machine (length (withered base cells)) v ≡ true) (sym is)
          (subst (λ j. fits_value l.machine j (Separate ns (without base_of base xs)) ≡ true) (sym (length-withered base cells ∙ e)) (left_fits l k base ns xs (subst (λ v. fits_value l.machine k v ≡ true) s g.fits))))
          (bits_die base (row_cell c) (row_cell d) (forget_flags base c) (only p.address.base) h (or_right c.dead (has_base (bases_of c.value) base) among) _ cells p.bits)
      by_test p false h =
          let same = bits_stay base (row_cell c) (only p.address.base) h _ cells p.bits in
          let other : (p.address.base == base) ≡ false = not_true (p.address.base == base) (λ t. let q = eqb-true p.address.base base t in self_has p.address.base base q h) in
          subst (λ cs. AllowsBy l d (has_no_value d.value) cs) (sym same)
          (into cells (allows_separate l (row_cell d) cells ns (without base_of base xs) (inr (record {
            address = p.address;
            among = without-In base_of base xs p.address p.among other;
            count = p.count;
            offset = p.offset;
            held = p.held;
            bits = bits_more (row_cell c) (row_cell d) (forget_flags base c) (only p.address.base) _ cells p.bits;
          }))))
  some_left (Mixed bs) s a =
      let is : d.value ≡ mix_or_words (without (λ b. b) base bs) = ap (value_left base) s in
      let m : AllByRecursion (IsMixed (row_cell c) bs) cells = elim a [ inl b ↦ b | inr b ↦ absurd b ] in
      let left = mixed_left base c d (forget_flags base c) bs (λ t. or_right c.dead (has_base (bases_of c.value) base) (subst (λ v. has_base (bases_of v) base ≡ true) (sym s) t)) cells m in
      let few : length (withered base cells) ≤ 64 = subst (λ j. j ≤ 64) (sym (length-withered base cells ∙ e)) g.few_bits in
      from_some l d (withered base cells) (subst (λ v. AllowsSome l (row_cell d) (withered base cells) (parts_of v)) (sym is) (mix_left l d (withered base cells) few (without (λ b. b) base bs) left))

-- the cells after the base's death are allowed by what is left
pub forget_allows : (l : Layout) (base k : ℕ) (c : Cellv) (cells : List Cell) → Fine l.machine k c → Allows l k c cells → Allows l k (forgotten base c) (map (wither (base ∷ [])) cells)
forget_allows l base k c cells f a =
    let e = length-withered base cells ∙ a.0 in
    elim (by_value l c cells a.1) [
      | inl b ↦ (
        e,
        subst (λ t. AllowsBy l (forgotten base c) t (withered base cells)) (sym (left_nothing base c.value b.0))
            (subst (AllByRecursion (IsFlagged (row_cell (forgotten base c)))) (sym (flagged_stay base (row_cell c) cells b.1)) (flagged_more (row_cell c) (row_cell (forgotten base c)) (forget_flags base c) cells b.1)),
      )
      | inr b ↦ (e, some_left l base k c f cells a.0 c.value refl b.1)
    ]
