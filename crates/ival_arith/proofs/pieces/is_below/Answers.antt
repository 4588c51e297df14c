use Rattle.std.proofs.Common.{ℕ, ◌+◌, ◌-◌, ◌*◌, ◌<◌, ◌≤◌, ◌^◌, sym, arith}
use Rattle.std.proofs.lemmas.Bool.{le-ltb}
use Rattle.std.proofs.lemmas.Nat.{mul-le}
use Rattle.ival_arith.proofs.pieces.is_below.Goals as goal

far : (m first stride more : ℕ) → 0 < stride → m ≤ more → m ≤ first + more * stride
far m first stride more h k = let a : more * 1 ≤ more * stride = mul-le more 1 more stride (omega arith) h in omega arith

pub returns-then-m-more : goal.returns-then-m-more
returns-then-m-more c = sym (le-ltb (c.args.first + c.args.more * c.args.stride) c.args.m (far c.args.m c.args.first c.args.stride c.args.more c.requires.moves c.if-m-more.true))

room : (m first stride more : ℕ) → m ≤ 2 ^ 64 → first < m → stride < m → more < m → first + more * stride < 2 ^ 128
room m first stride more h a b d = let e : more * stride ≤ (2 ^ 64 - 1) * (2 ^ 64 - 1) = mul-le more stride (2 ^ 64 - 1) (2 ^ 64 - 1) (omega arith) (omega arith) in omega arith
