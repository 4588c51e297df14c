-- What is left of cells when a base has died.
use Rattle.std.specs.Prelude.{ℕ, ◌==◌, cond, ◌||◌, not, List, [], filter}
use Rattle.avalue_base.specs.Lists.{has_base}
use Rattle.avalue_base.specs.Numbers.{is_empty_list, words}
use Rattle.avalue_base.specs.Values.{Address, AVal, Separate, Mixed, Cellv, bases_of}

-- the elements with another key
abbrev pub without : {X : Type 0} → (X → ℕ) → ℕ → List X → List X
without key base xs = filter (λ x. not (key x == base)) xs

-- a mix of other bases; where none is left, any numbers
abbrev pub mix_or_words : List ℕ → AVal
mix_or_words bases = cond (is_empty_list bases) (Separate words []) (Mixed bases)

abbrev pub value_left : ℕ → AVal → AVal
value_left base (Separate numbers addresses) = Separate numbers (without (λ (a : Address). a.base) base addresses)
value_left base (Mixed bases) = mix_or_words (without (λ b. b) base bases)

-- bits that may have been made from the base's address may be dead now
abbrev pub forgotten : ℕ → Cellv → Cellv
forgotten base c = record { value = value_left base c.value; uninit = c.uninit; dead = c.dead || has_base (bases_of c.value) base }
