-- The laws of inclusion and join.
use Rattle.std.proofs.Common.{◌≡◌, ℤ}
use Rattle.ival_core.specs.declared.value.Ival.{Ival}
use Rattle.ival_core.specs.Ivals.{Holds, Includes, IsJoin, IsMeet}
use Rattle.ival_core.proofs.Canonical.{Includes-antisymm}

pub Includes-refl : (a : Ival) → Includes a a
Includes-refl a n h = h

pub Includes-trans : (a b c : Ival) → Includes a b → Includes b c → Includes a c
Includes-trans a b c f g n h = f n (g n h)

-- join is commutative
pub IsJoin-comm : (a b u v : Ival) → IsJoin a b u → IsJoin b a v → u ≡ v
IsJoin-comm a b u v h k = Includes-antisymm u v (k.least u h.second h.first) (h.least v k.second k.first)

-- join is associative
pub IsJoin-assoc : (a b c ab bc u v : Ival) → IsJoin a b ab → IsJoin b c bc → IsJoin ab c u → IsJoin a bc v → u ≡ v
IsJoin-assoc a b c ab bc u v h k p q =
    let a_u : Includes u a = λ n m. p.first n (h.first n m) in
    let b_u : Includes u b = λ n m. p.first n (h.second n m) in
    let b_v : Includes v b = λ n m. q.second n (k.first n m) in
    let c_v : Includes v c = λ n m. q.second n (k.second n m) in
    Includes-antisymm u v
    (q.least u a_u (k.least u b_u p.second))
    (p.least v (h.least v q.first b_v) c_v)

-- join is idempotent
pub IsJoin-self : (a u : Ival) → IsJoin a a u → u ≡ a
IsJoin-self a u h = Includes-antisymm u a h.first (h.least a (Includes-refl a) (Includes-refl a))

-- a meet is the least set that holds the common numbers, and there is only one
pub IsMeet-least : (a b u v : Ival) → IsMeet a b v → ((n : ℤ) → Holds a n → Holds b n → Holds u n) → Includes u v
IsMeet-least a b u v h f n m = let p = (h n).0 m in f n p.0 p.1

pub IsMeet-same : (a b u v : Ival) → IsMeet a b u → IsMeet a b v → u ≡ v
IsMeet-same a b u v h k = Includes-antisymm u v (λ n m. (h n).1 ((k n).0 m)) (λ n m. (k n).1 ((h n).0 m))
