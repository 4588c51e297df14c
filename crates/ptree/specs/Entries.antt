-- A finite map from numbers, as the list of its entries: pairs of a key and a value, in ascending order of the keys.
use Rattle.std.specs.Prelude.{◌≡◌, ℕ, ◌<◌, ◌≤◌, nat_eq, nat_lt, nat_le, if◌then◌else◌, List, [], ◌∷◌, ⊤, Option, Some, None, ◌^◌}
use Rattle.std.specs.Borrow.{Bor}

module _ {V : Type 0} where
  -- P holds of each key
  abbrev pub AllKeys : (ℕ → Type 0) → List (ℕ × V) → Type 0
  AllKeys P [] = ⊤
  AllKeys P (e ∷ es) = P e.0 × AllKeys P es

  -- each key is below all keys behind it
  abbrev pub IsAscending : List (ℕ × V) → Type 0
  IsAscending [] = ⊤
  IsAscending (e ∷ es) = AllKeys (λ k. e.0 < k) es × IsAscending es

  -- the list is a map: its keys ascend and have 64 bits
  pub record IsMap (es : List (ℕ × V)) : Type 0 where
    pub ascending : IsAscending es
    pub in_range : AllKeys (λ k. k < 2 ^ 64) es

  -- the value at a key
  abbrev pub get : List (ℕ × V) → ℕ → Option V
  get [] key = None
  get (e ∷ es) key = if nat_eq e.0 key then Some e.1 else get es key

  -- the entry with the value behind the reference
  abbrev pub copied : Option (ℕ × Bor V) → Option (ℕ × V)
  copied None = None
  copied (Some e) = Some (e.0, e.1.now)

  -- the first of two that is there
  abbrev pub or_else : Option (ℕ × V) → Option (ℕ × V) → Option (ℕ × V)
  or_else (Some e) other = Some e
  or_else None other = other

  -- the last entry whose key is not above the given one
  abbrev pub at_or_before : List (ℕ × V) → ℕ → Option (ℕ × V)
  at_or_before [] key = None
  at_or_before (e ∷ es) key = or_else (at_or_before es key) (if nat_le e.0 key then Some e else None)

  -- the first entry whose key is not below the given one
  abbrev pub at_or_after : List (ℕ × V) → ℕ → Option (ℕ × V)
  at_or_after [] key = None
  at_or_after (e ∷ es) key = if nat_le key e.0 then Some e else at_or_after es key

  -- the entry that was found has the greatest key that is not above the given one
  abbrev pub IsGreatestUpTo : List (ℕ × V) → ℕ → Option (ℕ × V) → Type 0
  IsGreatestUpTo es key None = AllKeys (λ k. key < k) es
  IsGreatestUpTo es key (Some e) = (get es e.0 ≡ Some e.1) × (e.0 ≤ key) × AllKeys (λ k. k ≤ key → k ≤ e.0) es

  -- the entry that was found has the least key that is not below the given one
  abbrev pub IsLeastFrom : List (ℕ × V) → ℕ → Option (ℕ × V) → Type 0
  IsLeastFrom es key None = AllKeys (λ k. k < key) es
  IsLeastFrom es key (Some e) = (get es e.0 ≡ Some e.1) × (key ≤ e.0) × AllKeys (λ k. key ≤ k → e.0 ≤ k) es

  -- the entries whose keys are not below the given one
  abbrev pub entries_from : List (ℕ × V) → ℕ → List (ℕ × V)
  entries_from [] key = []
  entries_from (e ∷ es) key = if nat_le key e.0 then e ∷ es else entries_from es key

  -- the same, or nothing where there is no key to begin with
  abbrev pub entries_left : List (ℕ × V) → Option ℕ → List (ℕ × V)
  entries_left es None = []
  entries_left es (Some key) = entries_from es key

  -- the map with this value at the key
  abbrev pub set : List (ℕ × V) → ℕ → V → List (ℕ × V)
  set [] key value = (key, value) ∷ []
  set (e ∷ es) key value =
      if nat_lt key e.0 then (key, value) ∷ e ∷ es
      else (if nat_lt e.0 key then e ∷ set es key value else (key, value) ∷ es)

  -- the map without the key
  abbrev pub remove : List (ℕ × V) → ℕ → List (ℕ × V)
  remove [] key = []
  remove (e ∷ es) key = if nat_eq e.0 key then es else e ∷ remove es key

  -- the map with the value at the key, if there is one
  abbrev pub set_some : List (ℕ × V) → ℕ → Option V → List (ℕ × V)
  set_some es key (Some value) = set es key value
  set_some es key None = es

  -- at each key of a second map what the merger answers where the first has nothing
  abbrev pub merged_rest : (ℕ → Option V → Option V → Option V) → List (ℕ × V) → List (ℕ × V)
  merged_rest f [] = []
  merged_rest f (e ∷ es) = set_some (merged_rest f es) e.0 (f e.0 None (Some e.1))

  -- at each key that one of the maps has what the merger answers there
  abbrev pub merged : (ℕ → Option V → Option V → Option V) → List (ℕ × V) → List (ℕ × V) → List (ℕ × V)
  merged f [] others = merged_rest f others
  merged f (e ∷ es) others = set_some (merged f es (remove others e.0)) e.0 (f e.0 (Some e.1) (get others e.0))

  -- what a merge answers at a key: nothing where neither map has it
  abbrev pub answer_at : (ℕ → Option V → Option V → Option V) → ℕ → Option V → Option V → Option V
  answer_at f key None None = None
  answer_at f key None (Some b) = f key None (Some b)
  answer_at f key (Some a) b = f key (Some a) b
