-- Slots that are added one after the other, and many at once.
use Rattle.std.proofs.Common.{◌≡◌, ℕ, zero, suc, ◌+◌, ◌-◌, ◌*◌, ◌<◌, ◌≤◌, List, [], ◌++◌, drop, refl, sym, ap, ◌∙◌, subst, arith, append-nil, append_assoc}
use Rattle.std.proofs.Math.Nat.{mul-le-mul_right}
use Rattle.cell_laws.specs.Elements.{Element, width, AllFine}
use Rattle.cell_laws.specs.Cells.{Ops}
use Rattle.cell_laws.specs.Laws.{PartLaws}
use Rattle.cell_laws.specs.Join.{joined, joined_cell}
use Rattle.cell_laws.specs.Access.{drop_bits, copied}
use Rattle.cell_laws.proofs.Parts.{width-copied, fine_copied}
use Rattle.cell_runs.specs.declared.runs.Run.{Run}
use Rattle.cell_runs.specs.Runs.{elements, AllSome, Extends}
use Rattle.cell_runs.specs.Parts.{Takes}
use Rattle.cell_runs.proofs.Pushing.{extends-both, extends-along, extends-none}
use Rattle.cell_runs.proofs.Taking.{elements-none}
use Rattle.run_joins.specs.Joining.{AreMaps}
use Rattle.run_places.specs.declared.spots.Spot.{Spot}
use Rattle.run_places.specs.Spots.{AreRuns}
use Rattle.run_places.specs.Chunks.{times}
use Rattle.run_slots.specs.declared.slots.Slots.{Slots}
use Rattle.run_slots.specs.Slots.{weak_slot, weak_slots, slots_weakened}
use Rattle.run_slots.specs.Walks.{IsAt, bits_before}
use Rattle.run_slots.specs.Weakens.{ComeAgain, Weakens}
use Rattle.run_slots.proofs.Walking.{copied_at, at_before}
use Rattle.run_slots.proofs.Again.{pred_times}

module _ {C H : Type 0} (o : Ops C H) where
  -- ---- the slots of lists of elements

  no_slots : (k gap : ℕ) (es m : List (Element C)) (at : ℕ) → weak_slots o k gap es m at 0 ≡ []
  unfolding weak_slots
  no_slots k gap es m at = refl

  slots_both : (k gap : ℕ) (es m : List (Element C)) (n p at : ℕ) → weak_slots o k gap es m at (n + p) ≡ weak_slots o k gap es m at n ++ weak_slots o k gap es m (at + n * (k + gap)) p
  unfolding weak_slots
  slots_both k gap es m zero p at =
      let z : zero + p ≡ p = omega arith in
      let y : at ≡ at + zero * (k + gap) = omega arith in
      ap (weak_slots o k gap es m at) z ∙ ap (λ (x : ℕ). weak_slots o k gap es m x p) y
  slots_both k gap es m (suc n) p at =
      let s : suc n + p ≡ suc (n + p) = omega arith in
      let i : at + (k + gap) + n * (k + gap) ≡ at + suc n * (k + gap) = omega arith in
      let one = weak_slot o es m at k in
      let two = copied o m (at + k) gap in
      let three = weak_slots o k gap es m (at + (k + gap)) n in
      let four = weak_slots o k gap es m (at + suc n * (k + gap)) p in
      ap (weak_slots o k gap es m at) s
      ∙ ap (λ (l : List (Element C)). one ++ (two ++ l)) (slots_both k gap es m n p (at + (k + gap)) ∙ ap (λ (x : ℕ). three ++ weak_slots o k gap es m x p) i)
      ∙ sym (append_assoc one (two ++ three) four ∙ ap (λ (l : List (Element C)). one ++ l) (append_assoc two three four))

  -- where the parts are the same, so are the slots
  slots_same : (k gap : ℕ) (es m : List (Element C)) (n at bt : ℕ) → ((d x : ℕ) → d + x ≤ n * (k + gap) → copied o m (at + d) x ≡ copied o m (bt + d) x) →
      weak_slots o k gap es m at n ≡ weak_slots o k gap es m bt n
  unfolding weak_slots weak_slot
  slots_same k gap es m zero at bt h = refl
  slots_same k gap es m (suc n) at bt h =
      let s : suc n * (k + gap) ≡ k + gap + n * (k + gap) = omega arith in
      let za : at ≡ at + 0 = omega arith in
      let zb : bt + 0 ≡ bt = omega arith in
      let first : copied o m at k ≡ copied o m bt k = ap (λ (x : ℕ). copied o m x k) za ∙ h 0 k (omega arith) ∙ ap (λ (x : ℕ). copied o m x k) zb in
      let second = h k gap (omega arith) in
      let more : (d x : ℕ) → d + x ≤ n * (k + gap) → copied o m (at + (k + gap) + d) x ≡ copied o m (bt + (k + gap) + d) x =
      λ d x l.
      let ia : at + (k + gap) + d ≡ at + (k + gap + d) = omega arith in
      let ib : bt + (k + gap + d) ≡ bt + (k + gap) + d = omega arith in
      ap (λ (y : ℕ). copied o m y x) ia ∙ h (k + gap + d) x (omega arith) ∙ ap (λ (y : ℕ). copied o m y x) ib in
      let r = slots_same k gap es m n (at + (k + gap)) (bt + (k + gap)) more in
      ap (λ (l : List (Element C)). joined o (joined_cell o) l es ++ (copied o m (at + k) gap ++ weak_slots o k gap es m (at + (k + gap)) n)) first
      ∙ ap (λ (l : List (Element C)). joined o (joined_cell o) (copied o m bt k) es ++ (l ++ weak_slots o k gap es m (at + (k + gap)) n)) second
      ∙ ap (λ (l : List (Element C)). joined o (joined_cell o) (copied o m bt k) es ++ (copied o m (bt + k) gap ++ l)) r

  pub slots_times : (k gap : ℕ) (es m : List (Element C)) (size t at : ℕ) →
      ((j d n : ℕ) → j < t → d + n ≤ size * (k + gap) → copied o m (at + (j * (size * (k + gap)) + d)) n ≡ copied o m (at + d) n) →
      weak_slots o k gap es m at (size * t) ≡ times t (weak_slots o k gap es m at size)
  unfolding times
  slots_times k gap es m size zero at h = let z : size * zero ≡ zero = omega arith in ap (weak_slots o k gap es m at) z ∙ no_slots k gap es m at
  slots_times k gap es m size (suc t) at h =
      let s : size * suc t ≡ size + size * t = omega arith in
      let w = size * (k + gap) in
      let same : (d n : ℕ) → d + n ≤ w → 1 < suc t → copied o m (at + w + d) n ≡ copied o m (at + d) n =
      λ d n l g.
      let i : at + w + d ≡ at + (1 * w + d) = omega arith in
      ap (λ (x : ℕ). copied o m x n) i ∙ h 1 d n g l in
      let more : (j d n : ℕ) → j < t → d + n ≤ w → copied o m (at + w + (j * w + d)) n ≡ copied o m (at + w + d) n =
      λ j d n g l.
      let i : at + w + (j * w + d) ≡ at + (suc j * w + d) = shift at w j d in
      ap (λ (x : ℕ). copied o m x n) i ∙ h (suc j) d n (omega arith) l ∙ sym (same d n l (omega arith)) in
      let r = slots_times k gap es m size t (at + w) more in
      ap (weak_slots o k gap es m at) s ∙ slots_both k gap es m size (size * t) at
      ∙ ap (λ (l : List (Element C)). weak_slots o k gap es m at size ++ l) (r ∙ again t at w same)
    where
      shift : (at w j d : ℕ) → at + w + (j * w + d) ≡ at + (suc j * w + d)
      shift at w j d = let m : suc j * w ≡ w + j * w = omega arith in omega arith

      again : (t at w : ℕ) → ((d n : ℕ) → d + n ≤ size * (k + gap) → 1 < suc t → copied o m (at + w + d) n ≡ copied o m (at + d) n) →
          times t (weak_slots o k gap es m (at + w) size) ≡ times t (weak_slots o k gap es m at size)
      again zero at w f = refl
      again (suc t) at w f = ap (times (suc t)) (slots_same k gap es m size (at + w) at (λ d n l. f d n l (omega arith)))

  -- ---- one slot

  pub part_view : (rs tail part slice : List (Run C)) (s : Spot) (k : ℕ) (none : List (Run C)) → AllSome rs → IsAt rs (bits_before rs s) s → tail ≡ drop s.index rs → none ≡ [] → slice ≡ part →
      Extends none part (copied o (elements tail) s.skip k) → elements slice ≡ copied o (elements rs) (bits_before rs s) k
  part_view rs tail part slice s k none some a t z e x =
      ap elements e ∙ x.elements ∙ ap (λ (l : List (Run C)). elements l ++ copied o (elements tail) s.skip k) z
      ∙ ap (λ (l : List (Element C)). l ++ copied o (elements tail) s.skip k) (elements-none C)
      ∙ ap (λ (l : List (Run C)). copied o (elements l) s.skip k) t ∙ copied_at o rs (bits_before rs s) k s some a

  pub slot_made : (rs tail put slice part : List (Run C)) (s : Spot) (k : ℕ) (none old new : List (Run C)) → AllSome rs → IsAt rs (bits_before rs s) s → tail ≡ drop s.index rs → none ≡ [] → slice ≡ part →
      Extends none part (copied o (elements tail) s.skip k) → Extends old new (joined o (joined_cell o) (elements slice) (elements put)) →
      Extends old new (weak_slot o (elements put) (elements rs) (bits_before rs s) k)
  unfolding weak_slot
  slot_made rs tail put slice part s k none old new some a t z e x y =
      extends-along old new _ _ (ap (λ (l : List (Element C)). joined o (joined_cell o) l (elements put)) (part_view rs tail part slice s k none some a t z e x)) y

  pub part_some : (tail part slice : List (Run C)) (skip k : ℕ) (none : List (Run C)) → none ≡ [] → slice ≡ part → Extends none part (copied o (elements tail) skip k) → AllSome slice
  part_some tail part slice skip k none z e x = subst AllSome (sym e) (x.some (subst AllSome (sym z) tt))

module _ {C H : Type 0} (o : Ops C H) (Fine : ℕ → C → Type 0) (q : PartLaws o Fine) where
  -- a slot and what is put there, as the join takes them
  pub slot_maps : (rs part put : List (Run C)) (at k : ℕ) → elements part ≡ copied o (elements rs) at k → AllSome part → AreRuns Fine rs → AreRuns Fine put → AreMaps Fine part put
  slot_maps rs part put at k v s a b = record {
    some_first = s;
    some_second = b.some;
    fine_first = subst (AllFine Fine) (sym v) (fine_copied o Fine q (elements rs) at k a.fine);
    fine_second = b.fine;
  }

module _ {C H : Type 0} (o : Ops C H) where
  pub slot_even : (rs part put : List (Run C)) (at k : ℕ) → elements part ≡ copied o (elements rs) at k → at + k ≤ width (elements rs) → width (elements put) ≡ k → width (elements part) ≡ width (elements put)
  slot_even rs part put at k v h w = ap width v ∙ width-copied o (elements rs) at k h ∙ sym w

-- slots that have been added one by one
pub record EachOn {C H : Type 0} (o : Ops C H) (rs : List (Run C)) (es : List (Element C)) (slots : Slots) (first count left : ℕ) (at : Spot) (old out : List (Run C)) : Type 0 where
  pub extends : Extends old out (weak_slots o slots.bits slots.gap es (elements rs) first (count - left))
  pub some : left ≤ count
  pub spot : IsAt rs (first + (count - left) * (slots.bits + slots.gap)) at

module _ {C H : Type 0} (o : Ops C H) where
  pub each_begin : (rs : List (Run C)) (es : List (Element C)) (slots : Slots) (count : ℕ) (at : Spot) (old : List (Run C)) → IsAt rs (bits_before rs at) at → EachOn o rs es slots (bits_before rs at) count count at old old
  each_begin rs es slots count at old a =
      let z : 0 ≡ count - count = omega arith in
      let y : bits_before rs at ≡ bits_before rs at + (count - count) * (slots.bits + slots.gap) = none_more (bits_before rs at) (count - count) (slots.bits + slots.gap) (sym z) in
      record {
        extends = extends-along old old _ _ (sym (no_slots o slots.bits slots.gap es (elements rs) (bits_before rs at)) ∙ ap (weak_slots o slots.bits slots.gap es (elements rs) (bits_before rs at)) z) (extends-none old);
        some = omega arith;
        spot = subst (λ (n : ℕ). IsAt rs n at) y a;
      }
    where
      none_more : (a n k : ℕ) → n ≡ 0 → a ≡ a + n * k
      none_more a n k e = let m : 0 * k ≡ 0 = omega arith in let p : n * k ≡ 0 * k = ap (λ (x : ℕ). x * k) e in omega arith

  -- so many more slots fit
  pub each_fits : (rs : List (Run C)) (es : List (Element C)) (slots : Slots) (first count left more : ℕ) (at : Spot) (old out : List (Run C)) → more ≤ left →
      first + count * (slots.bits + slots.gap) ≤ width (elements rs) → EachOn o rs es slots first count left at old out → bits_before rs at + more * (slots.bits + slots.gap) ≤ width (elements rs)
  each_fits rs es slots first count left more at old out h l p =
      let s = p.some in
      let q = p.spot.before in
      let k = slots.bits + slots.gap in
      let m : (count - left + more) * k ≤ count * k = mul-le-mul_right k (omega arith) in
      let d : (count - left + more) * k ≡ (count - left) * k + more * k = omega arith in
      omega arith

  pub each_at : (rs : List (Run C)) (es : List (Element C)) (slots : Slots) (first count left : ℕ) (at : Spot) (old out : List (Run C)) → EachOn o rs es slots first count left at old out → IsAt rs (bits_before rs at) at
  each_at rs es slots first count left at old out p = at_before rs _ at p.spot

  -- many at once
  pub each_step : (rs : List (Run C)) (es : List (Element C)) (slots : Slots) (first count left more : ℕ) (at next : Spot) (old mid new : List (Run C)) → more ≤ left →
      Extends mid new (weak_slots o slots.bits slots.gap es (elements rs) (bits_before rs at) more) → IsAt rs (bits_before rs at + more * (slots.bits + slots.gap)) next →
      EachOn o rs es slots first count left at old mid → EachOn o rs es slots first count (left - more) next old new
  each_step rs es slots first count left more at next old mid new h x a p =
      let s = p.some in
      let q = p.spot.before in
      let k = slots.bits + slots.gap in
      let i : count - left + more ≡ count - (left - more) = omega arith in
      let d : (count - left + more) * k ≡ (count - left) * k + more * k = omega arith in
      let e : (count - left + more) * k ≡ (count - (left - more)) * k = ap (λ (n : ℕ). n * k) i in
      let j : bits_before rs at + more * k ≡ first + (count - (left - more)) * k = omega arith in
      record {
        extends = extends-along old new _ _
            (ap (λ (n : ℕ). weak_slots o slots.bits slots.gap es (elements rs) first (count - left) ++ weak_slots o slots.bits slots.gap es (elements rs) n more) q
            ∙ sym (slots_both o slots.bits slots.gap es (elements rs) (count - left) more first) ∙ ap (weak_slots o slots.bits slots.gap es (elements rs) first) i)
            (extends-both old mid new _ _ p.extends x);
        some = omega arith;
        spot = subst (λ (n : ℕ). IsAt rs n next) j a;
      }

  -- one slot and the bits behind it
  pub one_slot : (rs tail : List (Run C)) (es : List (Element C)) (slots : Slots) (at behind : Spot) (old mid new : List (Run C)) → AllSome rs → IsAt rs (bits_before rs at + slots.bits) behind → tail ≡ drop behind.index rs →
      Extends old mid (weak_slot o es (elements rs) (bits_before rs at) slots.bits) → Extends mid new (copied o (elements tail) behind.skip slots.gap) →
      Extends old new (weak_slots o slots.bits slots.gap es (elements rs) (bits_before rs at) 1)
  unfolding weak_slots
  one_slot rs tail es slots at behind old mid new some a t x y =
      let one = weak_slot o es (elements rs) (bits_before rs at) slots.bits in
      let two = copied o (elements rs) (bits_before rs at + slots.bits) slots.gap in
      let g : copied o (elements tail) behind.skip slots.gap ≡ two = ap (λ (l : List (Run C)). copied o (elements l) behind.skip slots.gap) t ∙ copied_at o rs (bits_before rs at + slots.bits) slots.gap behind some a in
      extends-along old new _ _ (ap (λ (l : List (Element C)). one ++ l) (sym (append-nil two))) (extends-both old mid new one two x (extends-along mid new _ _ g y))

  pub one_behind : (rs : List (Run C)) (slots : Slots) (at behind next : Spot) → IsAt rs (bits_before rs at + slots.bits) behind → IsAt rs (bits_before rs behind + slots.gap) next →
      IsAt rs (bits_before rs at + 1 * (slots.bits + slots.gap)) next
  one_behind rs slots at behind next a b =
      let q = a.before in
      let i : bits_before rs behind + slots.gap ≡ bits_before rs at + 1 * (slots.bits + slots.gap) = omega arith in
      subst (λ (n : ℕ). IsAt rs n next) i b

  pub each_end : (rs : List (Run C)) (es : List (Element C)) (slots : Slots) (first count left : ℕ) (at : Spot) (old out : List (Run C)) → left ≡ 0 → EachOn o rs es slots first count left at old out →
      Weakens o rs es slots first count at old out
  each_end rs es slots first count left at old out z p =
      let i : count - left ≡ count = omega arith in
      record {
        extends = extends-along old out _ _ (ap (weak_slots o slots.bits slots.gap es (elements rs) first) i) p.extends;
        spot = subst (λ (n : ℕ). IsAt rs (first + n * (slots.bits + slots.gap)) at) i p.spot;
      }

  -- the slots of a stretch, all at once
  pub stretch_made : (rs made slice : List (Run C)) (es : List (Element C)) (slots : Slots) (at left size repeats : ℕ) (none old new : List (Run C)) →
      ComeAgain o (elements rs) at (slots.bits + slots.gap) (slots.bits + slots.gap) left size repeats → none ≡ [] → slice ≡ made → Extends none made (weak_slots o slots.bits slots.gap es (elements rs) at size) →
      Extends old new (times repeats (elements slice)) → Extends old new (weak_slots o slots.bits slots.gap es (elements rs) at (size * repeats))
  stretch_made rs made slice es slots at left size repeats none old new c z e x y =
      let one = weak_slots o slots.bits slots.gap es (elements rs) at size in
      let v : elements slice ≡ one = ap elements e ∙ x.elements ∙ ap (λ (l : List (Run C)). elements l ++ one) z ∙ ap (λ (l : List (Element C)). l ++ one) (elements-none C) in
      extends-along old new _ _ (ap (times repeats) v ∙ sym (slots_times o slots.bits slots.gap es (elements rs) size repeats at (λ j d n l h. let p = pred_times size (slots.bits + slots.gap) c.some in c.same j d n l (omega arith)))) y

module _ {C H : Type 0} (o : Ops C H) where
  pub all_weakened : (rs : List (Run C)) (es : List (Element C)) (slots : Slots) (at more left : ℕ) (first last : Spot) (old front mid end new : List (Run C)) → at ≤ width (elements rs) → Takes o rs at left old front →
      IsAt rs at first → Weakens o rs es slots (bits_before rs first) more last front mid → Extends mid end (weak_slot o es (elements rs) (bits_before rs last) slots.bits) →
      Extends end new (drop_bits o (elements rs) (at + more * (slots.bits + slots.gap) + slots.bits)) → Extends old new (slots_weakened o (elements rs) at slots.bits slots.gap more es)
  unfolding slots_weakened
  all_weakened rs es slots at more left first last old front mid end new h t a w x y =
      let n = at + more * (slots.bits + slots.gap) in
      let b = a.before in
      let c : bits_before rs last ≡ n = w.spot.before ∙ ap (λ (i : ℕ). i + more * (slots.bits + slots.gap)) b in
      let e : Extends front mid (weak_slots o slots.bits slots.gap es (elements rs) at more) =
      extends-along front mid _ _ (ap (λ (i : ℕ). weak_slots o slots.bits slots.gap es (elements rs) i more) b) w.extends in
      let f : Extends mid end (weak_slot o es (elements rs) n slots.bits) = extends-along mid end _ _ (ap (λ (i : ℕ). weak_slot o es (elements rs) i slots.bits) c) x in
      extends-both old front new _ _ t.taken (extends-both front mid new _ _ e (extends-both mid end new _ _ f y))
