-- What a weak store to slots may leave.
use Rattle.std.specs.Prelude.{◌≡◌, ◌⊎◌, ℕ, zero, suc, ◌+◌, List, take, drop}

module _ {C K : Type 0} (Allows : ℕ → C → List K → Type 0) (k gap : ℕ) (c : C) (ks js : List K) where
  -- the k bits from a bit on are as they were, or some that the cell allows
  abbrev pub MayBeStored : ℕ → Type 0
  MayBeStored at = (take k (drop at js) ≡ take k (drop at ks)) ⊎ Allows k c (take k (drop at js))

  -- so is each of n slots and one more, and the bits between and behind them are as they were
  abbrev pub AllMayBeStored : ℕ → ℕ → Type 0
  AllMayBeStored zero at = MayBeStored at × (drop (at + k) js ≡ drop (at + k) ks)
  AllMayBeStored (suc n) at = MayBeStored at × (take gap (drop (at + k) js) ≡ take gap (drop (at + k) ks)) × AllMayBeStored n (at + (k + gap))
