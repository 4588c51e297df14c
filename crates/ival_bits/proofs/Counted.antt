-- Results of shifts of the numbers in a type's range, by the set cut to it.
use Rattle.std.proofs.Common.{◌≡◌, ◌↔◌, ℤ, Result, Ok, Err, inl, inr}
use Rattle.c_base.specs.declared.kind.Kind.{Kind}
use Rattle.c_base.specs.declared.operators.BinOp.{BinOp}
use Rattle.c_base.specs.declared.integer.IntKind.{IntKind}
use Rattle.c_base.specs.declared.integer.Machine.{Machine}
use Rattle.c_base.specs.Integers.{is_signed, width_of}
use Rattle.ival_core.specs.declared.value.Ival.{Ival}
use Rattle.ival_core.specs.Sets.{Has, HoldsNine}
use Rattle.ival_core.specs.Ivals.{Holds}
use Rattle.ival_core.proofs.Joined.{HoldsNine-map}
use Rattle.ival_arith.proofs.Failing.{Fails}
use Rattle.ival_arith.proofs.Fits.{Fits}
use Rattle.ival_arith.proofs.Making.{Made}
use Rattle.ival_bits.specs.Promises.{GivesShifted}
use Rattle.ival_bits.proofs.Operating.{cut, ranged}

-- what a shift makes of the set cut to the type
abbrev pub Shift_of : BinOp → IntKind → Machine → Ival → Ival → ℤ → Type 0
Shift_of op k m a b = Made op (is_signed k) (width_of k m) (Has (cut k m a)) (Has b.shape)

made_gives : (op : BinOp) (k : IntKind) (m : Machine) (a b : Ival) (n : ℤ) → Shift_of op k m a b n → GivesShifted op k m a b (Ok n)
made_gives op k m a b n g = let x = ranged k m a in record {
  left = g.left;
  count = g.right;
  in_left = x.back g.left g.has_left;
  in_counts = g.has_right;
  fits_left = x.word.typed.fits g.left g.has_left;
  is = g.is;
}

gives_made : (op : BinOp) (k : IntKind) (m : Machine) (a b : Ival) (n : ℤ) → GivesShifted op k m a b (Ok n) → Shift_of op k m a b n
gives_made op k m a b n g = record {
  left = g.left;
  right = g.count;
  has_left = (ranged k m a).onto g.left g.in_left g.fits_left;
  has_right = g.in_counts;
  is = g.is;
}

pub shift_holds : (op : BinOp) (k : IntKind) (m : Machine) (a b v : Ival) → ((n : ℤ) → Shift_of op k m a b n → Holds v n) → (n : ℤ) → GivesShifted op k m a b (Ok n) → Holds v n
shift_holds op k m a b v h n g = h n (gives_made op k m a b n g)

pub shift_exact : (op : BinOp) (k : IntKind) (m : Machine) (a b v : Ival) → Fits (Shift_of op k m a b) v.shape → (HoldsNine (λ n. GivesShifted op k m a b (Ok n)) → ⊥) → (n : ℤ) → Holds v n → GivesShifted op k m a b (Ok n)
shift_exact op k m a b v f few n h = elim f.sharp [
  | inl only ↦ made_gives op k m a b n (only n h)
  | inr nine ↦ absurd (few (HoldsNine-map (Shift_of op k m a b) (λ n. GivesShifted op k m a b (Ok n)) (λ n r. made_gives op k m a b n r) nine))
]

pub shift_undefined : (op : BinOp) (k : IntKind) (m : Machine) (a b : Ival) (kind : Kind) {P : Type 0} → P ↔ Fails op (is_signed k) (width_of k m) (cut k m a) b.shape kind → P ↔ GivesShifted op k m a b (Err kind)
shift_undefined op k m a b kind h = let x = ranged k m a in (
  (λ p. let f = h.0 p in record {
    left = f.left;
    count = f.right;
    in_left = x.back f.left f.has_left;
    in_counts = f.has_right;
    fits_left = x.word.typed.fits f.left f.has_left;
    is = f.is;
  }),
  (λ g. h.1 (record { left = g.left; right = g.count; has_left = x.onto g.left g.in_left g.fits_left; has_right = g.in_counts; is = g.is })),
)
