-- Single pointers moved by single counts are one pointer alone.
use Rattle.std.proofs.Common.{◌≡◌, ℕ, ◌^◌, Bool, true, false, ◌&&◌, ℤ, pos, List, [], ◌∷◌, map, refl, sym, subst, ap, ◌∙◌, arith}
use Rattle.std.specs.Prelude.{Option, None, Some, Result, Ok, Err, IfOk, IfSome, IfNone, is_some, neg_ℤ, int_le, ◌*ℤ◌}
use Rattle.std.specs.List.{list_all}
use Rattle.std.proofs.lemmas.Bool.{and_parts, and_from}
use Rattle.std.proofs.lemmas.Int.{ints}
use Rattle.c_base.specs.declared.integer.Machine.{Machine}
use Rattle.c_memory.specs.Values.{Value}
use Rattle.c_memory.specs.Layouts.{Layout}
use Rattle.c_pointers.specs.Conversions.{address_number}
use Rattle.ival_core.specs.declared.value.Ival.{Ival}
use Rattle.ival_core.specs.Ivals.{Holds, IsOnly}
use Rattle.ival_core.specs.Sets.{IsNumber}
use Rattle.ival_core.specs.Views.{single_of, bounds_of}
use Rattle.ival_core.proofs.Orders.{true_le}
use Rattle.ival_arith.proofs.TermSets.{only_shape}
use Rattle.avalue_base.specs.Numbers.{is_empty}
use Rattle.avalue_base.specs.Values.{Address, AVal, Separate, Mixed}
use Rattle.avalue_base.specs.Meets.{lies_near}
use Rattle.avalue_base.specs.Meaning.{Means}
use Rattle.avalue_base.specs.Singles.{is_single_value}
use Rattle.avalue_values.specs.Views.{numbers_in, numbers_alone, addresses_of}
use Rattle.aops.specs.Soles.{is_single_number, IsAlone}
use Rattle.aops.proofs.Soles.{some_only, single_alone, number_only, one_alone}
use Rattle.aops.proofs.Giving.{means_alone}
use Rattle.aops.proofs.Alone.{numbers_alone_one}
use Rattle.aops_pointers.specs.Moves.{summed, sum_of, or_words, is_near_sum, stays_near, moved_address, IsNear, IsKept}
use Rattle.aops_pointers.proofs.Images.{image_single, image_none}

near_number : (n : ℤ) → IsNear n → IsNumber n
near_number n h =
    let a = h.least in
    let b = h.greatest in
    record { least = omega (arith, ints); greatest = omega (arith, ints) }

near_one : (v : Ival) (n : ℤ) → IsOnly v n → IsNear n → lies_near (bounds_of v.shape) ≡ true
near_one v n o h =
    subst (λ s. lies_near (bounds_of s) ≡ true) (sym (only_shape v n o))
    (and_from (int_le (neg_ℤ (pos (2 ^ 62))) n) (int_le n (pos (2 ^ 62))) (true_le (neg_ℤ (pos (2 ^ 62))) n h.least) (true_le n (pos (2 ^ 62)) h.greatest))

single_one : (v : Ival) (n : ℤ) → IsOnly v n → is_some (single_of v.shape) ≡ true
single_one v n o = ap (λ s. is_some (single_of s)) (only_shape v n o)

-- ---- sums

pub sum_single : (back : Bool) (a b : Ival) (r : Option Ival) (x y : ℤ) → r ≡ sum_of back a b → IsOnly a x → IsOnly b y → IsNumber (summed back x y) → (s : Ival) × (r ≡ Some s) × IsOnly s (summed back x y)
sum_single back a b r x y e p q n = let i = image_single (summed back) a b x y p q n in (i.set, e ∙ i.is, i.only)

pub sum_none : (back : Bool) (a b : Ival) (r : Option Ival) → r ≡ sum_of back a b → is_empty a.shape ≡ true → (s : Ival) × (r ≡ Some s) × (is_empty s.shape ≡ true)
sum_none back a b r e h = let i = image_none (summed back) a b h in (i.set, e ∙ i.is, i.none)

pub not_none : (r : Option Ival) (s : Ival) → r ≡ None → r ≡ Some s → ⊥
not_none r s e f = cc

pub same_set : (r : Option Ival) (s t : Ival) → r ≡ Some t → r ≡ Some s → s ≡ t
same_set r s t e f = cc

-- ---- values

module _ (back : Bool) (steps : Ival) (k : ℤ) (only : IsOnly steps k) where
  -- where a single address is moved
  record Moved (a : Address) : Type 0 where
    offset : ℤ
    near : IsNear offset
    set : Ival
    is : sum_of back a.offsets steps ≡ Some set
    one : IsOnly set offset

  moved_one : (a : Address) → is_some (single_of a.offsets.shape) ≡ true → ((o : ℤ) → Holds a.offsets o → IsNear (summed back o k)) → Moved a
  moved_one a h f =
      let o = some_only a.offsets h in
      let n = f o.0 ((o.1 o.0).1 refl) in
      let i = image_single (summed back) a.offsets steps o.0 k o.1 only (near_number (summed back o.0 k) n) in
      record { offset = summed back o.0 k; near = n; set = i.set; is = i.is; one = i.only }

  near_address : (a : Address) → Moved a → stays_near back steps a ≡ true
  near_address a m = ap is_near_sum m.is ∙ near_one m.set m.offset m.one m.near

  pub stay_single : (v : AVal) (ns : Ival) (us : List Address) → numbers_in v ≡ Some ns → us ≡ addresses_of v → is_single_value v ≡ true → IsKept back k v → list_all (stays_near back steps) us ≡ false → ⊥
  stay_single (Separate ms []) ns us e f h n g = no (list_all (stays_near back steps) us) (ap (list_all (stays_near back steps)) f) g
    where
      no : (t : Bool) → t ≡ true → t ≡ false → ⊥
      no true a b = cc
      no false a b = cc
  stay_single (Separate ms (a ∷ [])) ns us e f h n g =
      no (stays_near back steps a) (near_address a (moved_one a (and_parts (is_empty ms.shape) (is_some (single_of a.offsets.shape)) h).1 n)) (sym (ap (list_all (stays_near back steps)) f) ∙ g)
    where
      no : (t : Bool) → t ≡ true → (t && true) ≡ false → ⊥
      no true a b = cc
      no false a b = cc
  stay_single (Separate ms (a ∷ b ∷ xs)) ns us e f h n g = cc
  stay_single (Mixed bs) ns us e f h n g = cc

  pub separate_alone : (machine : Machine) (l : Layout) (v : AVal) (ns w : Ival) (us zs : List Address) → numbers_in v ≡ Some ns → us ≡ addresses_of v → zs ≡ map (moved_address back steps) us → is_single_value v ≡ true → IsKept back k v →
      ((n : ℤ) → IsOnly ns n → IsNumber (summed back n k) → IsOnly w (address_number machine (summed back n k))) → (is_empty ns.shape ≡ true → is_empty w.shape ≡ true) → IsAlone l (Separate w zs)
  separate_alone machine l (Separate ms []) ns w us zs e f g h n single none =
      let d : ms ≡ ns = cc in
      let o = some_only ms h in
      numbers_alone_one l (Separate w zs) w (address_number machine (summed back o.0 k)) (ap (Separate w) (g ∙ ap (map (moved_address back steps)) f))
      (single o.0 (subst (λ z. IsOnly z o.0) d o.1) (n o.0 ((o.1 o.0).1 refl)))
  separate_alone machine l (Separate ms (a ∷ [])) ns w us zs e f g h n single none =
      let d : ms ≡ ns = cc in
      let p = and_parts (is_empty ms.shape) (is_some (single_of a.offsets.shape)) h in
      let m = moved_one a p.1 n in
      let q : is_empty w.shape ≡ true = none (subst (λ z. is_empty z.shape ≡ true) d p.0) in
      let r : is_some (single_of (moved_address back steps a).offsets.shape) ≡ true = ap (λ o. is_some (single_of (or_words o).shape)) m.is ∙ single_one m.set m.offset m.one in
      let s : is_single_value (Separate w (moved_address back steps a ∷ [])) ≡ true = and_from (is_empty w.shape) (is_some (single_of (moved_address back steps a).offsets.shape)) q r in
      subst (IsAlone l) (sym (ap (Separate w) (g ∙ ap (map (moved_address back steps)) f))) (λ x y. single_alone l (Separate w (moved_address back steps a ∷ [])) x y s)
  separate_alone machine l (Separate ms (a ∷ b ∷ xs)) ns w us zs e f g h n single none = cc
  separate_alone machine l (Mixed bs) ns w us zs e f g h n single none = cc

-- ---- counts

pub bytes_known : (r : Option Ival) (counts : Ival) (size : ℕ) (k : ℤ) → ((n : ℤ) → IsOnly counts n → IfSome r (λ v. IsOnly v (n *ℤ pos size))) → IfNone r ((n : ℤ) → IsOnly counts n → IsNumber (n *ℤ pos size) → ⊥) → IsOnly counts k → IsNumber (k *ℤ pos size) →
    (s : Ival) × (r ≡ Some s) × IsOnly s (k *ℤ pos size)
bytes_known None counts size k f g o n = absurd (g k o n)
bytes_known (Some s) counts size k f g o n = (s, refl, f k o)

pub only_count : (l : Layout) (v : AVal) (n : Ival) (y : Value) → is_single_number v ≡ true → numbers_alone v ≡ Some n → Means l v y → IsOnly n y.number
only_count l v n y h e m =
    let o = number_only v n h e in
    let p = means_alone l v n y e m in
    λ j. ((λ i. one_alone n o.0 j y.number o.1 i p.1), (λ d. subst (Holds n) (sym d) p.1))

pub IfOk-and : {A E : Type 0} (r : Result A E) (P Q R : A → Type 0) → ((v : A) → P v → Q v → R v) → IfOk r P → IfOk r Q → IfOk r R
IfOk-and (Ok v) P Q R f p q = f v p q
IfOk-and (Err e) P Q R f p q = tt
