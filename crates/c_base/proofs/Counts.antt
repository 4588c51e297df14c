-- What operators take on their right.
use Rattle.std.proofs.Common.{ℤ}
use Rattle.c_base.specs.declared.operators.BinOp.{BinOp}
use Rattle.c_base.specs.declared.operators.BinOp.TheVariants.{Shl, Shr}
use Rattle.c_base.specs.Operators.{OnRight}

pub on_right : (op : BinOp) (P : ℤ → Type 0) (n : ℤ) → P n → OnRight op P n
on_right Shl P n h = tt
on_right Shr P n h = tt
on_right op P n h = h

pub on_right_too : (op : BinOp) (P Q : ℤ → Type 0) (n : ℤ) → (P n → Q n) → OnRight op P n → OnRight op Q n
on_right_too Shl P Q n f h = tt
on_right_too Shr P Q n f h = tt
on_right_too op P Q n f h = f h
