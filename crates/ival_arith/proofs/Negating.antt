-- Negated numbers in a type.
use Rattle.std.proofs.Common.{◌≡◌, ◌↔◌, ℕ, ◌-◌, ◌<◌, ◌^◌, Bool, true, false, ℤ, pos, Ok, Err, refl, sym, subst, ap, ◌∙◌, inl, inr, arith, IsTrue}
use Rattle.std.specs.Prelude.{neg_ℤ}
use Rattle.std.proofs.lemmas.Int.{ints}
use Rattle.std.proofs.lemmas.Nat.{pow_pos}
use lib.Signed.{◌<ℤ◌, ◌≤ℤ◌}
use Rattle.c_base.specs.declared.kind.Kind.{Kind}
use Rattle.c_base.specs.declared.integer.IntKind.{IntKind}
use Rattle.c_base.specs.declared.integer.Machine.{Machine}
use Rattle.c_base.specs.KindSets.{allowed}
use Rattle.c_base.specs.Integers.{FitsBits, is_signed, width_of, least_of, greatest_of, residue}
use Rattle.c_base.specs.Operators.{arithmetic}
use Rattle.ival_core.specs.declared.value.Ival.{Ival}
use Rattle.ival_core.specs.declared.value.Shape.{Shape}
use Rattle.ival_core.specs.Sets.{IsLeast, Has, HoldsNine}
use Rattle.ival_core.specs.Ivals.{Holds}
use Rattle.ival_core.proofs.Insertion.{IsLeast-same}
use Rattle.ival_core.proofs.Joined.{HoldsNine-map}
use Rattle.ival_arith.specs.declared.pieces.Change.TheVariants.{Negative}
use Rattle.ival_arith.specs.Pieces.{all_changed}
use Rattle.ival_arith.specs.Values.{residues}
use Rattle.ival_arith.specs.Kinds.{holds_number}
use Rattle.ival_arith.specs.Promises.{GivesNegated, AllNegatedInRange}
use Rattle.ival_arith.specs.Answers.{typed, negated, negated_kinds, negate_value, negate_kinds}
use Rattle.ival_arith.proofs.Parts.{Image, clipped-exactly, all_changed-exactly}
use Rattle.ival_arith.proofs.Fits.{Fits, Fits-same, Makes-fits, Makes-same, Exactly, Exactly-makes}
use Rattle.ival_arith.proofs.Making.{IsWidth, signed_result, result_signed, unsigned_result}
use Rattle.ival_arith.proofs.Reducing.{Natural, own_residue, residues-fits, residues-own}
use Rattle.ival_arith.proofs.Wrapping.{InType}
use Rattle.ival_arith.proofs.Words.{ends, powers, fits_operand, operand_number}
use Rattle.ival_arith.proofs.Spreading.{Word, unok}
use Rattle.ival_arith.proofs.Exacting.{number_negated}
use Rattle.ival_arith.proofs.Bounding.{number_held, held_number}
use Rattle.ival_arith.proofs.Failing.{Out, arithmetic_fails, never_fails, kind_set-allows}
use Rattle.ival_arith.proofs.Answering.{width_is, typed-ranged, Ranged}

-- the numbers of a set, negated
turned : (signed : Bool) (width : ℕ) (s : Shape) → IsWidth width → Word signed width s → Exactly (Image (Has s) neg_ℤ) (all_changed Negative s)
turned signed width s w h = all_changed-exactly Negative s tt h.valid (λ n i. number_negated n (operand_number n (fits_operand signed width n w.some w.room (h.typed.fits n i))))

-- those that a signed type can hold
kept-exactly : (width : ℕ) (s : Shape) → IsWidth width → Word true width s → Exactly (InType true width (Image (Has s) neg_ℤ)) (typed true width (all_changed Negative s))
kept-exactly width s w h =
    let d = turned true width s w h in
    let e = ends true width w.some w.room in
    let a = e.least in let b = e.greatest in let i = e.below in let j = e.above in
    let x = clipped-exactly (least_of true width) (greatest_of true width) (all_changed Negative s) d.valid (record { least = omega (arith, ints); greatest = omega (arith, ints) }) (record { least = omega (arith, ints); greatest = omega (arith, ints) }) in
    record {
      valid = x.valid;
      holds = λ n i.
          let r = signed_result width i.whole n i.is in
          x.holds n (record { has = d.holds n (subst (Image (Has s) neg_ℤ) (sym r.0) i.has); above = subst (λ z. least_of true width ≤ℤ z) (sym r.0) r.1.above; below = subst (λ z. z ≤ℤ greatest_of true width) (sym r.0) r.1.below });
      only = λ n i. let b = x.only n i in record { whole = n; has = d.only n b.has; is = result_signed width n b.above b.below };
    }

reduced_image : (width : ℕ) (s : Shape) → IsWidth width → Word false width s → (n : ℤ) → Image (Has (all_changed Negative s)) (λ z. pos (residue (2 ^ width) z)) n → InType false width (Image (Has s) neg_ℤ) n
reduced_image width s w h n i = record { whole = i.from; has = (turned false width s w h).only i.from i.has; is = unsigned_result width i.from ∙ ap Ok (sym i.is) }

image_reduced : (width : ℕ) (s : Shape) → IsWidth width → Word false width s → (n : ℤ) → InType false width (Image (Has s) neg_ℤ) n → Image (Has (all_changed Negative s)) (λ z. pos (residue (2 ^ width) z)) n
image_reduced width s w h n i = record { from = i.whole; has = (turned false width s w h).holds i.whole i.has; is = sym (unok (pos (residue (2 ^ width) i.whole)) n (sym (unsigned_result width i.whole) ∙ i.is)) }

pub negated-fits : (signed : Bool) (width : ℕ) (s : Shape) → IsWidth width → Word signed width s → Fits (InType signed width (Image (Has s) neg_ℤ)) (negated signed width s)
unfolding negated
negated-fits true width s w h = Makes-fits (InType true width (Image (Has s) neg_ℤ)) (typed true width (all_changed Negative s)) (Exactly-makes (InType true width (Image (Has s) neg_ℤ)) (typed true width (all_changed Negative s)) (kept-exactly width s w h))
negated-fits false width s w h =
    Fits-same (Image (Has (all_changed Negative s)) (λ z. pos (residue (2 ^ width) z))) (InType false width (Image (Has s) neg_ℤ)) (residues (2 ^ width) (all_changed Negative s))
    (reduced_image width s w h) (image_reduced width s w h)
    (residues-fits (2 ^ width) (all_changed Negative s) (pow_pos width) (powers width w.room) (turned false width s w h).valid)

pub negated-least : (signed : Bool) (width : ℕ) (s : Shape) → IsWidth width → Word signed width s → ((n : ℤ) → Has s n → FitsBits signed width (neg_ℤ n)) → IsLeast (InType signed width (Image (Has s) neg_ℤ)) (negated signed width s)
unfolding negated
negated-least true width s w h f = (Exactly-makes (InType true width (Image (Has s) neg_ℤ)) (typed true width (all_changed Negative s)) (kept-exactly width s w h)).least
negated-least false width s w h f =
    let d = turned false width s w h in
    let n : Natural (2 ^ width) (all_changed Negative s) = record {
      above = λ z i. let k = d.only z i in subst (λ z. pos 0 ≤ℤ z) (sym k.is) (f k.from k.has).least;
      below = λ z i. let k = d.only z i in let p = pow_pos width in let b : z ≤ℤ pos (2 ^ width - 1) = subst (λ z. z ≤ℤ pos (2 ^ width - 1)) (sym k.is) (f k.from k.has).greatest in omega (arith, ints);
    } in
    (Makes-same (Has (all_changed Negative s)) (InType false width (Image (Has s) neg_ℤ)) (residues (2 ^ width) (all_changed Negative s))
    (λ z i. record { whole = z; has = d.only z i; is = whole z (n.above z i) (n.below z i) })
    (λ z i. d.holds z (subst (Image (Has s) neg_ℤ) (own z i.whole (n.above i.whole (d.holds i.whole i.has)) (n.below i.whole (d.holds i.whole i.has)) i.is) i.has))
    (residues-own (2 ^ width) (all_changed Negative s) (pow_pos width) (powers width w.room) d.valid n)).least
  where
    whole : (z : ℤ) → pos 0 ≤ℤ z → z <ℤ pos (2 ^ width) → arithmetic false width z ≡ Ok z
    whole z h k = unsigned_result width z ∙ ap Ok (own_residue (2 ^ width) z h k)

    own : (n z : ℤ) → pos 0 ≤ℤ z → z <ℤ pos (2 ^ width) → arithmetic false width z ≡ Ok n → z ≡ n
    own n z h k e = unok z n (sym (whole z h k) ∙ e)

-- ---- kinds

-- a negated number is out of a signed type only where it is the least one
pub negated_kinds-are : (signed : Bool) (width : ℕ) (s : Shape) (kind : Kind) → IsWidth width → Word signed width s →
    IsTrue (allowed (negated_kinds signed width s) kind) ↔ ((n : ℤ) × Has s n × (arithmetic signed width (neg_ℤ n) ≡ Err kind))
negated_kinds-are false width s kind w h =
    let k = kind_set-allows false false kind in (
      (λ e. elim (k.0 e) [ inl p ↦ absurd (no p.0) | inr p ↦ absurd (no p.0) ]),
      (λ p. absurd (never_fails width (neg_ℤ p.0) kind p.2)),
    )
  where
    no : false ≡ true → ⊥
    no e = cc
negated_kinds-are true width s kind w h =
    let k = kind_set-allows false (holds_number s (least_of true width)) kind in
    let a = λ (n : ℤ). arithmetic_fails width (neg_ℤ n) kind in (
      (λ e. elim (k.0 e) [
        | inl p ↦ absurd (no p.0)
        | inr p ↦ (least_of true width, number_held s (least_of true width) p.0, (a (least_of true width)).1 (p.1, beyond width))
      ]),
      (λ p. let r = (a p.0).0 p.2 in
          k.1 (inr (held_number s (least_of true width) (subst (Has s) (only p.0 (h.typed.fits p.0 p.1) r.1) p.1), r.0))),
    )
  where
    no : false ≡ true → ⊥
    no e = cc

    beyond : (width : ℕ) → Out (least_of true width) (greatest_of true width) (neg_ℤ (least_of true width))
    beyond width = let p = pow_pos (width - 1) in record { out = inr (omega (arith, ints)) }

    only : (n : ℤ) → FitsBits true width n → Out (least_of true width) (greatest_of true width) (neg_ℤ n) → n ≡ least_of true width
    only n f o =
        let p = pow_pos (width - 1) in let a = f.least in let b = f.greatest in
        elim o.out [ inl l ↦ under n a b l p | inr l ↦ over n a b l p ]
      where
        under : (n : ℤ) → least_of true width ≤ℤ n → n ≤ℤ greatest_of true width → neg_ℤ n <ℤ least_of true width → 0 < 2 ^ (width - 1) → n ≡ least_of true width
        under n a b l p = omega (arith, ints)

        over : (n : ℤ) → least_of true width ≤ℤ n → n ≤ℤ greatest_of true width → greatest_of true width <ℤ neg_ℤ n → 0 < 2 ^ (width - 1) → n ≡ least_of true width
        over n a b l p = omega (arith, ints)

-- ---- the answer

abbrev Negatives_of : IntKind → Machine → Ival → ℤ → Type 0
Negatives_of k m a = InType (is_signed k) (width_of k m) (Image (Has (typed (is_signed k) (width_of k m) a.shape)) neg_ℤ)

cut : (k : IntKind) (m : Machine) (a : Ival) → Ranged (is_signed k) (width_of k m) a.shape (typed (is_signed k) (width_of k m) a.shape)
cut k m a = typed-ranged (is_signed k) (width_of k m) a.shape (width_is k m) a.valid

gives_made : (k : IntKind) (m : Machine) (a : Ival) (n : ℤ) → GivesNegated k m a (Ok n) → Negatives_of k m a n
gives_made k m a n g = record { whole = neg_ℤ g.from; has = record { from = g.from; has = (cut k m a).onto g.from g.has g.fits; is = refl }; is = g.is }

made_gives : (k : IntKind) (m : Machine) (a : Ival) (n : ℤ) → Negatives_of k m a n → GivesNegated k m a (Ok n)
made_gives k m a n g = let c = cut k m a in record {
  from = g.has.from;
  has = c.back g.has.from g.has.has;
  fits = c.word.typed.fits g.has.from g.has.has;
  is = ap (arithmetic (is_signed k) (width_of k m)) (sym g.has.is) ∙ g.is;
}

pub negate-holds : (k : IntKind) (m : Machine) (a v : Ival) → v.shape ≡ negate_value k m a.shape → (n : ℤ) → GivesNegated k m a (Ok n) → Holds v n
negate-holds k m a v e n g =
    subst (λ u. Has u n) (sym e) ((negated-fits (is_signed k) (width_of k m) (typed (is_signed k) (width_of k m) a.shape) (width_is k m) (cut k m a).word).holds n (gives_made k m a n g))

pub negate-exact : (k : IntKind) (m : Machine) (a v : Ival) → v.shape ≡ negate_value k m a.shape → (HoldsNine (λ n. GivesNegated k m a (Ok n)) → ⊥) → (n : ℤ) → Holds v n → GivesNegated k m a (Ok n)
negate-exact k m a v e few n g =
    let f = negated-fits (is_signed k) (width_of k m) (typed (is_signed k) (width_of k m) a.shape) (width_is k m) (cut k m a).word in
    elim f.sharp [
      | inl only ↦ made_gives k m a n (only n (subst (λ u. Has u n) e g))
      | inr nine ↦ absurd (few (HoldsNine-map (Negatives_of k m a) (λ n. GivesNegated k m a (Ok n)) (λ n r. made_gives k m a n r) nine))
    ]

pub negate-least : (k : IntKind) (m : Machine) (a v : Ival) → v.shape ≡ negate_value k m a.shape → AllNegatedInRange k m a → IsLeast (λ n. GivesNegated k m a (Ok n)) v.shape
negate-least k m a v e f =
    let c = cut k m a in
    subst (IsLeast (λ n. GivesNegated k m a (Ok n))) (sym e)
    (IsLeast-same (Negatives_of k m a) (λ n. GivesNegated k m a (Ok n)) (negate_value k m a.shape) (λ n r. made_gives k m a n r) (λ n g. gives_made k m a n g)
    (negated-least (is_signed k) (width_of k m) (typed (is_signed k) (width_of k m) a.shape) (width_is k m) c.word (λ n h. f n (c.back n h) (c.word.typed.fits n h))))

pub negate-kinds : (k : IntKind) (m : Machine) (a : Ival) (kind : Kind) → IsTrue (allowed (negate_kinds k m a.shape) kind) ↔ GivesNegated k m a (Err kind)
negate-kinds k m a kind =
    let c = cut k m a in
    let h = negated_kinds-are (is_signed k) (width_of k m) (typed (is_signed k) (width_of k m) a.shape) kind (width_is k m) c.word in (
      (λ g. let f = h.0 g in record { from = f.0; has = c.back f.0 f.1; fits = c.word.typed.fits f.0 f.1; is = f.2 }),
      (λ g. h.1 (g.from, c.onto g.from g.has g.fits, g.is)),
    )

-- ---- how it is computed

pub negated_signed : (signed : Bool) (width : ℕ) (s t r : Shape) → signed ≡ true → t ≡ all_changed Negative s → r ≡ typed signed width t → r ≡ negated signed width s
unfolding negated
negated_signed true width s t r e f g = g ∙ ap (typed true width) f
negated_signed false width s t r e f g = cc

pub negated_unsigned : (signed : Bool) (width : ℕ) (s t r : Shape) → signed ≡ false → t ≡ all_changed Negative s → r ≡ residues (2 ^ width) t → r ≡ negated signed width s
unfolding negated
negated_unsigned true width s t r e f g = cc
negated_unsigned false width s t r e f g = g ∙ ap (residues (2 ^ width)) f
