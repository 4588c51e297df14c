-- What maps do with cells.
use Rattle.std.specs.Prelude.{ℕ, Bool, List, Option}

-- C are cells. H is what one bit of a cell tells without its numbers: the bases from whose addresses it may have been made, and whether
-- it may be not written or dead. A cell without values is blank: it has only these flags.
pub record Ops (C H : Type 0) : Type 0 where
  -- all that x allows is allowed by y, in an element of any size
  pub leq : C → C → Bool
  pub hue : C → H
  pub within : H → H → Bool
  pub unite : H → H → H
  pub blank : C → Bool
  -- `admits k y h`: y allows each k bits that are each any bit made from the bases of h, or not written or dead as h says
  pub admits : ℕ → C → H → Bool
  -- `bit k i c`: the bit at index i of the k bits, where c allows that bit alone, made from no address, and neither not written nor dead
  pub bit : ℕ → ℕ → C → Option Bool
  -- `has k y bs`: y allows the bits of one number, made from no address
  pub has : ℕ → C → List Bool → Bool
  pub join : C → C → C
  -- with the flags, but not with the bases
  pub shade : C → H → C
  -- `with_bits k y bs`: with the number of these k bits
  pub with_bits : ℕ → C → List Bool → C
  -- one bit that may be any of these bases and flags
  pub any : H → C
  -- `fit k c`: what stands in an element of k bits where c is stored, or in k elements of one bit where that is blank
  pub fit : ℕ → C → C
  -- `piece k c low n`: n bits of the k bits of c, from the bit `low` on
  pub piece : ℕ → C → ℕ → ℕ → C
  -- `glue j c k d`: the j bits of c and behind them, at greater indices, the k bits of d
  pub glue : ℕ → C → ℕ → C → C
  -- a bit that isn't written
  pub uninit : C
  -- it allows nothing
  pub void : C
