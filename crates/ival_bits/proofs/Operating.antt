-- Results for numbers in a type's range, by the sets cut to it.
use Rattle.std.proofs.Common.{◌≡◌, ◌↔◌, ℤ, Result, Ok, Err, inl, inr}
use Rattle.c_base.specs.declared.kind.Kind.{Kind}
use Rattle.c_base.specs.declared.operators.BinOp.{BinOp}
use Rattle.c_base.specs.declared.integer.IntKind.{IntKind}
use Rattle.c_base.specs.declared.integer.Machine.{Machine}
use Rattle.c_base.specs.Integers.{is_signed, width_of}
use Rattle.c_base.specs.Operators.{applied}
use Rattle.ival_core.specs.declared.value.Ival.{Ival}
use Rattle.ival_core.specs.declared.value.Shape.{Shape}
use Rattle.ival_core.specs.Sets.{Has, HoldsNine}
use Rattle.ival_core.specs.Ivals.{Holds}
use Rattle.ival_core.proofs.Joined.{HoldsNine-map}
use Rattle.ival_arith.specs.Answers.{typed}
use Rattle.ival_arith.specs.Promises.{Gives}
use Rattle.ival_arith.proofs.Answering.{Ranged, typed-ranged, width_is}
use Rattle.ival_arith.proofs.Failing.{Fails}
use Rattle.ival_arith.proofs.Fits.{Fits}
use Rattle.ival_arith.proofs.Making.{Made}

-- the numbers of a set that a type can hold
abbrev pub cut : IntKind → Machine → Ival → Shape
cut k m a = typed (is_signed k) (width_of k m) a.shape

pub ranged : (k : IntKind) (m : Machine) (a : Ival) → Ranged (is_signed k) (width_of k m) a.shape (cut k m a)
ranged k m a = typed-ranged (is_signed k) (width_of k m) a.shape (width_is k m) a.valid

-- an outcome for numbers of the sets cut to the type
pub record Gets (op : BinOp) (k : IntKind) (m : Machine) (a b : Ival) (r : Result ℤ Kind) : Type 0 where
  pub left : ℤ
  pub right : ℤ
  pub has_left : Has (cut k m a) left
  pub has_right : Has (cut k m b) right
  pub is : applied op k m left right ≡ r

pub gives_gets : (op : BinOp) (k : IntKind) (m : Machine) (a b : Ival) (r : Result ℤ Kind) → Gives op k m a b r → Gets op k m a b r
gives_gets op k m a b r g = record {
  left = g.left;
  right = g.right;
  has_left = (ranged k m a).onto g.left g.in_left g.fits_left;
  has_right = (ranged k m b).onto g.right g.in_right g.fits_right;
  is = g.is;
}

pub gets_gives : (op : BinOp) (k : IntKind) (m : Machine) (a b : Ival) (r : Result ℤ Kind) → Gets op k m a b r → Gives op k m a b r
gets_gives op k m a b r g =
    let x = ranged k m a in
    let y = ranged k m b in
    record {
      left = g.left;
      right = g.right;
      in_left = x.back g.left g.has_left;
      in_right = y.back g.right g.has_right;
      fits_left = x.word.typed.fits g.left g.has_left;
      fits_right = y.word.typed.fits g.right g.has_right;
      is = g.is;
    }

-- what an operator makes of the sets cut to the type
abbrev pub Result_of : BinOp → IntKind → Machine → Ival → Ival → ℤ → Type 0
Result_of op k m a b = Made op (is_signed k) (width_of k m) (Has (cut k m a)) (Has (cut k m b))

made_gives : (op : BinOp) (k : IntKind) (m : Machine) (a b : Ival) (n : ℤ) → Result_of op k m a b n → Gives op k m a b (Ok n)
made_gives op k m a b n g = gets_gives op k m a b (Ok n) (record { left = g.left; right = g.right; has_left = g.has_left; has_right = g.has_right; is = g.is })

gives_made : (op : BinOp) (k : IntKind) (m : Machine) (a b : Ival) (n : ℤ) → Gives op k m a b (Ok n) → Result_of op k m a b n
gives_made op k m a b n g = let h = gives_gets op k m a b (Ok n) g in record { left = h.left; right = h.right; has_left = h.has_left; has_right = h.has_right; is = h.is }

pub answer_holds : (op : BinOp) (k : IntKind) (m : Machine) (a b v : Ival) → ((n : ℤ) → Result_of op k m a b n → Holds v n) → (n : ℤ) → Gives op k m a b (Ok n) → Holds v n
answer_holds op k m a b v h n g = h n (gives_made op k m a b n g)

pub answer_exact : (op : BinOp) (k : IntKind) (m : Machine) (a b v : Ival) → Fits (Result_of op k m a b) v.shape → (HoldsNine (λ n. Gives op k m a b (Ok n)) → ⊥) → (n : ℤ) → Holds v n → Gives op k m a b (Ok n)
answer_exact op k m a b v f few n h = elim f.sharp [
  | inl only ↦ made_gives op k m a b n (only n h)
  | inr nine ↦ absurd (few (HoldsNine-map (Result_of op k m a b) (λ n. Gives op k m a b (Ok n)) (λ n r. made_gives op k m a b n r) nine))
]

pub answer_kind : (op : BinOp) (k : IntKind) (m : Machine) (a b : Ival) (kind : Kind) {P : Type 0} → P ↔ Fails op (is_signed k) (width_of k m) (cut k m a) (cut k m b) kind → P ↔ Gives op k m a b (Err kind)
answer_kind op k m a b kind h = (
  (λ p. let f = h.0 p in gets_gives op k m a b (Err kind) (record { left = f.left; right = f.right; has_left = f.has_left; has_right = f.has_right; is = f.is })),
  (λ g. let f = gives_gets op k m a b (Err kind) g in h.1 (record { left = f.left; right = f.right; has_left = f.has_left; has_right = f.has_right; is = f.is })),
)
