-- What an answer holds.
use Rattle.std.proofs.Common.{◌≡◌, ◌↔◌, ℕ, Bool, ℤ, ◌+ℤ◌, ◌-ℤ◌, Ok, Err, sym, subst, inl, inr, arith, IsTrue}
use Rattle.std.proofs.lemmas.Int.{ints}
use Rattle.c_base.specs.declared.kind.Kind.{Kind}
use Rattle.c_base.specs.declared.operators.BinOp.{BinOp}
use Rattle.c_base.specs.declared.operators.BinOp.TheVariants.{Add, Sub}
use Rattle.c_base.specs.declared.integer.IntKind.{IntKind}
use Rattle.c_base.specs.declared.integer.IntKind.TheVariants as kinds
use Rattle.c_base.specs.declared.integer.Machine.{Machine}
use Rattle.c_base.specs.declared.integer.Machine.TheVariants.{Lp64}
use Rattle.c_base.specs.KindSets.{allowed}
use Rattle.c_base.specs.Integers.{FitsBits, is_signed, width_of, least_of, greatest_of}
use Rattle.ival_core.specs.declared.value.Ival.{Ival}
use Rattle.ival_core.specs.declared.value.Shape.{Shape}
use Rattle.ival_core.specs.Sets.{IsValid, IsLeast, Has, HoldsNine}
use Rattle.ival_core.specs.Ivals.{Holds}
use Rattle.ival_core.proofs.Insertion.{IsLeast-same}
use Rattle.ival_core.proofs.Joined.{HoldsNine-map}
use Rattle.ival_arith.specs.Promises.{Gives, IsArithmetic, IsSharp, AllInRange}
use Rattle.ival_arith.specs.Answers.{typed, binary_value, binary_kinds}
use Rattle.ival_arith.proofs.Parts.{clipped-exactly}
use Rattle.ival_arith.proofs.Making.{Made, IsWidth}
use Rattle.ival_arith.proofs.Spreading.{Word}
use Rattle.ival_arith.proofs.Tabling.{Asked, AllFit, value-covers, value-fits, value-least_add, value-least_sub}
use Rattle.ival_arith.proofs.Failing.{kinds-are}
use Rattle.ival_arith.proofs.Words.{ends}

pub width_is : (k : IntKind) (m : Machine) → IsWidth (width_of k m)
width_is kinds.Bool Lp64 = record { some = omega arith; room = omega arith }
width_is kinds.Char Lp64 = record { some = omega arith; room = omega arith }
width_is kinds.SChar Lp64 = record { some = omega arith; room = omega arith }
width_is kinds.UChar Lp64 = record { some = omega arith; room = omega arith }
width_is kinds.Short Lp64 = record { some = omega arith; room = omega arith }
width_is kinds.UShort Lp64 = record { some = omega arith; room = omega arith }
width_is kinds.Int Lp64 = record { some = omega arith; room = omega arith }
width_is kinds.UInt Lp64 = record { some = omega arith; room = omega arith }
width_is kinds.Long Lp64 = record { some = omega arith; room = omega arith }
width_is kinds.ULong Lp64 = record { some = omega arith; room = omega arith }
width_is kinds.LLong Lp64 = record { some = omega arith; room = omega arith }
width_is kinds.ULLong Lp64 = record { some = omega arith; room = omega arith }

-- the numbers of a set that a type can hold
pub record Ranged (signed : Bool) (width : ℕ) (s t : Shape) : Type 0 where
  pub word : Word signed width t
  pub onto : (n : ℤ) → Has s n → FitsBits signed width n → Has t n
  pub back : (n : ℤ) → Has t n → Has s n

pub typed-ranged : (signed : Bool) (width : ℕ) (s : Shape) → IsWidth width → IsValid s → Ranged signed width s (typed signed width s)
typed-ranged signed width s w v =
    let e = ends signed width w.some w.room in
    let a = e.least in let b = e.greatest in let c = e.below in let d = e.above in
    let x = clipped-exactly (least_of signed width) (greatest_of signed width) s v (record { least = omega (arith, ints); greatest = omega (arith, ints) }) (record { least = omega (arith, ints); greatest = omega (arith, ints) }) in
    record {
      word = record { valid = x.valid; typed = record { fits = λ n h. let b = x.only n h in record { least = b.above; greatest = b.below } } };
      onto = λ n h f. x.holds n (record { has = h; above = f.least; below = f.greatest });
      back = λ n h. (x.only n h).has;
    }

-- the two operands, cut to the type's range
record Cut (k : IntKind) (m : Machine) (a b : Ival) : Type 0 where
  left : Ranged (is_signed k) (width_of k m) a.shape (typed (is_signed k) (width_of k m) a.shape)
  right : Ranged (is_signed k) (width_of k m) b.shape (typed (is_signed k) (width_of k m) b.shape)

cut : (k : IntKind) (m : Machine) (a b : Ival) → Cut k m a b
cut k m a b = record {
  left = typed-ranged (is_signed k) (width_of k m) a.shape (width_is k m) a.valid;
  right = typed-ranged (is_signed k) (width_of k m) b.shape (width_is k m) b.valid;
}

asked : (op : BinOp) (k : IntKind) (m : Machine) (a b : Ival) → IsArithmetic op → Asked op (is_signed k) (width_of k m) (typed (is_signed k) (width_of k m) a.shape) (typed (is_signed k) (width_of k m) b.shape)
asked op k m a b i = let c = cut k m a b in record { arithmetic = i; room = width_is k m; left = c.left.word; right = c.right.word }

-- the results of an operator, by the sets that it is computed from
abbrev Result_of : BinOp → IntKind → Machine → Ival → Ival → ℤ → Type 0
Result_of op k m a b = Made op (is_signed k) (width_of k m) (Has (typed (is_signed k) (width_of k m) a.shape)) (Has (typed (is_signed k) (width_of k m) b.shape))

gives_made : (op : BinOp) (k : IntKind) (m : Machine) (a b : Ival) (n : ℤ) → Gives op k m a b (Ok n) → Result_of op k m a b n
gives_made op k m a b n g = let c = cut k m a b in record {
  left = g.left;
  right = g.right;
  has_left = c.left.onto g.left g.in_left g.fits_left;
  has_right = c.right.onto g.right g.in_right g.fits_right;
  is = g.is;
}

made_gives : (op : BinOp) (k : IntKind) (m : Machine) (a b : Ival) (n : ℤ) → Result_of op k m a b n → Gives op k m a b (Ok n)
made_gives op k m a b n g = let c = cut k m a b in record {
  left = g.left;
  right = g.right;
  in_left = c.left.back g.left g.has_left;
  in_right = c.right.back g.right g.has_right;
  fits_left = c.left.word.typed.fits g.left g.has_left;
  fits_right = c.right.word.typed.fits g.right g.has_right;
  is = g.is;
}

pub binary-holds : (op : BinOp) (k : IntKind) (m : Machine) (a b v : Ival) → IsArithmetic op → v.shape ≡ binary_value op k m a.shape b.shape → (n : ℤ) → Gives op k m a b (Ok n) → Holds v n
binary-holds op k m a b v i e n g =
    let s = typed (is_signed k) (width_of k m) a.shape in
    let t = typed (is_signed k) (width_of k m) b.shape in
    subst (λ u. Has u n) (sym e) ((value-covers op (is_signed k) (width_of k m) s t (asked op k m a b i)).holds n (gives_made op k m a b n g))

pub binary-exact : (op : BinOp) (k : IntKind) (m : Machine) (a b v : Ival) → IsArithmetic op → v.shape ≡ binary_value op k m a.shape b.shape →
    IsSharp op (is_signed k) (width_of k m) (typed (is_signed k) (width_of k m) a.shape) (typed (is_signed k) (width_of k m) b.shape) → (HoldsNine (λ n. Gives op k m a b (Ok n)) → ⊥) → (n : ℤ) → Holds v n → Gives op k m a b (Ok n)
binary-exact op k m a b v i e h few n g =
    let s = typed (is_signed k) (width_of k m) a.shape in
    let t = typed (is_signed k) (width_of k m) b.shape in
    let f = value-fits op (is_signed k) (width_of k m) s t h (asked op k m a b i) in
    elim f.sharp [
      | inl only ↦ made_gives op k m a b n (only n (subst (λ u. Has u n) e g))
      | inr nine ↦ absurd (few (HoldsNine-map (Result_of op k m a b) (λ n. Gives op k m a b (Ok n)) (λ n r. made_gives op k m a b n r) nine))
    ]

pub binary-kinds : (op : BinOp) (k : IntKind) (m : Machine) (a b : Ival) (kind : Kind) → IsArithmetic op → IsTrue (allowed (binary_kinds op k m a.shape b.shape) kind) ↔ Gives op k m a b (Err kind)
binary-kinds op k m a b kind i =
    let s = typed (is_signed k) (width_of k m) a.shape in
    let t = typed (is_signed k) (width_of k m) b.shape in
    let c = cut k m a b in
    let h = kinds-are op (is_signed k) (width_of k m) s t kind i (width_is k m) c.left.word c.right.word in (
      (λ g. let f = h.0 g in record {
        left = f.left;
        right = f.right;
        in_left = c.left.back f.left f.has_left;
        in_right = c.right.back f.right f.has_right;
        fits_left = c.left.word.typed.fits f.left f.has_left;
        fits_right = c.right.word.typed.fits f.right f.has_right;
        is = f.is;
      }),
      (λ g. h.1 (record { left = g.left; right = g.right; has_left = c.left.onto g.left g.in_left g.fits_left; has_right = c.right.onto g.right g.in_right g.fits_right; is = g.is })),
    )

all_fit : (f : ℤ → ℤ → ℤ) (k : IntKind) (m : Machine) (a b : Ival) → AllInRange f k m a b → AllFit f (is_signed k) (width_of k m) (typed (is_signed k) (width_of k m) a.shape) (typed (is_signed k) (width_of k m) b.shape)
all_fit f k m a b h = let c = cut k m a b in record {
  fit = λ x y i j.
      let r = h x y (c.left.back x i) (c.right.back y j) (c.left.word.typed.fits x i) (c.right.word.typed.fits y j) in
      record { above = r.least; below = r.greatest };
}

least_gives : (op : BinOp) (k : IntKind) (m : Machine) (a b v : Ival) → v.shape ≡ binary_value op k m a.shape b.shape → IsLeast (Result_of op k m a b) (binary_value op k m a.shape b.shape) → IsLeast (λ n. Gives op k m a b (Ok n)) v.shape
least_gives op k m a b v e h =
    subst (IsLeast (λ n. Gives op k m a b (Ok n))) (sym e)
    (IsLeast-same (Result_of op k m a b) (λ n. Gives op k m a b (Ok n)) (binary_value op k m a.shape b.shape) (λ n r. made_gives op k m a b n r) (λ n g. gives_made op k m a b n g) h)

pub binary-least_sum : (op : BinOp) (k : IntKind) (m : Machine) (a b v : Ival) → v.shape ≡ binary_value op k m a.shape b.shape → op ≡ Add → AllInRange (λ x y. x +ℤ y) k m a b → IsLeast (λ n. Gives op k m a b (Ok n)) v.shape
binary-least_sum op k m a b v e i h =
    subst (λ o. v.shape ≡ binary_value o k m a.shape b.shape → IsLeast (λ n. Gives o k m a b (Ok n)) v.shape) (sym i)
    (λ e. least_gives Add k m a b v e (value-least_add (is_signed k) (width_of k m) (typed (is_signed k) (width_of k m) a.shape) (typed (is_signed k) (width_of k m) b.shape) (asked Add k m a b tt) (all_fit (λ x y. x +ℤ y) k m a b h))) e

pub binary-least_difference : (op : BinOp) (k : IntKind) (m : Machine) (a b v : Ival) → v.shape ≡ binary_value op k m a.shape b.shape → op ≡ Sub → AllInRange (λ x y. x -ℤ y) k m a b → IsLeast (λ n. Gives op k m a b (Ok n)) v.shape
binary-least_difference op k m a b v e i h =
    subst (λ o. v.shape ≡ binary_value o k m a.shape b.shape → IsLeast (λ n. Gives o k m a b (Ok n)) v.shape) (sym i)
    (λ e. least_gives Sub k m a b v e (value-least_sub (is_signed k) (width_of k m) (typed (is_signed k) (width_of k m) a.shape) (typed (is_signed k) (width_of k m) b.shape) (asked Sub k m a b tt) (all_fit (λ x y. x -ℤ y) k m a b h))) e
