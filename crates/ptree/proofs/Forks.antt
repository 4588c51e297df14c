-- A fork stays one where a side gets a key that belongs there, or loses keys.
use Rattle.std.proofs.Common.{◌≡◌, ℕ, ◌/◌, ◌^◌, ◌<◌, ◌≤◌, List, ◌++◌}
use Rattle.ptree.specs.Entries.{AllKeys, set, remove}
use Rattle.ptree.specs.Node.{IsFork}
use Rattle.ptree.proofs.Keys.{AllKeys-append, AllKeys-set, AllKeys-remove}

module _ {V : Type 0} (bit middle : ℕ) (xs ys : List (ℕ × V)) (fork : IsFork bit middle xs ys) where
  pub with_left : (zs : List (ℕ × V)) → AllKeys (λ k. k < middle) zs → AllKeys (λ k. k / 2 ^ bit / 2 ≡ middle / 2 ^ bit / 2) zs → IsFork bit middle zs ys
  with_left zs low agree = record {
    is_middle = fork.is_middle;
    apart = record { below = low; above = fork.apart.above };
    left_agrees = agree;
    right_agrees = fork.right_agrees;
  }

  pub with_right : (zs : List (ℕ × V)) → AllKeys (λ k. middle ≤ k) zs → AllKeys (λ k. k / 2 ^ bit / 2 ≡ middle / 2 ^ bit / 2) zs → IsFork bit middle xs zs
  with_right zs high agree = record {
    is_middle = fork.is_middle;
    apart = record { below = fork.apart.below; above = high };
    left_agrees = fork.left_agrees;
    right_agrees = agree;
  }

  module _ (key : ℕ) where
    pub IsFork-set_left : (value : V) → key < middle → key / 2 ^ bit / 2 ≡ middle / 2 ^ bit / 2 → IsFork bit middle (set xs key value) ys
    IsFork-set_left value low agrees = with_left (set xs key value) (AllKeys-set _ key value xs low fork.apart.below) (AllKeys-set _ key value xs agrees fork.left_agrees)

    pub IsFork-set_right : (value : V) → middle ≤ key → key / 2 ^ bit / 2 ≡ middle / 2 ^ bit / 2 → IsFork bit middle xs (set ys key value)
    IsFork-set_right value high agrees = with_right (set ys key value) (AllKeys-set _ key value ys high fork.apart.above) (AllKeys-set _ key value ys agrees fork.right_agrees)

    pub IsFork-remove_left : IsFork bit middle (remove xs key) ys
    IsFork-remove_left = with_left (remove xs key) (AllKeys-remove _ key xs fork.apart.below) (AllKeys-remove _ key xs fork.left_agrees)

    pub IsFork-remove_right : IsFork bit middle xs (remove ys key)
    IsFork-remove_right = with_right (remove ys key) (AllKeys-remove _ key ys fork.apart.above) (AllKeys-remove _ key ys fork.right_agrees)

  -- all keys of a fork agree above its bit
  pub fork_agrees : AllKeys (λ k. k / 2 ^ bit / 2 ≡ middle / 2 ^ bit / 2) (xs ++ ys)
  fork_agrees = AllKeys-append _ xs ys fork.left_agrees fork.right_agrees
