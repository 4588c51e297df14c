-- The laws of the words on maps.
use Rattle.std.proofs.Common.{◌≡◌, ℕ, ◌+◌, ◌^◌, ◌<◌, ◌≤◌, List, [], ◌∷◌, ◌++◌, if◌then◌else◌, nat_eq, nat_le, true, false, arith, refl, subst, inl, inr}
use Rattle.std.proofs.lemmas.Option.{none-some, same_Some}
use Rattle.std.proofs.lemmas.Bool.{cases_lt, cases_eq}
use Rattle.std.specs.Prelude.{Option, None, Some}
use Rattle.std.proofs.lemmas.Bool.Decides.{nat_tests}
use Rattle.ptree.specs.Entries.{AllKeys, IsAscending, IsMap, get, set, remove, at_or_before, at_or_after, entries_from, or_else, IsGreatestUpTo, IsLeastFrom}
use Rattle.ptree.specs.Node.{Splits}
use Rattle.ptree.proofs.Keys.{AllKeys-weaker, AllKeys-append}

leb_yes : (a b : ℕ) → a ≤ b → nat_le a b ≡ true
leb_yes a b h = grind (arith, nat_tests)

leb_no : (a b : ℕ) → b < a → nat_le a b ≡ false
leb_no a b h = grind (arith, nat_tests)

module _ {V : Type 0} where
  pub IsAscending-append : (m : ℕ) (xs ys : List (ℕ × V)) → Splits m xs ys → IsAscending xs → IsAscending ys → IsAscending (xs ++ ys)
  IsAscending-append m [] ys a s t = t
  IsAscending-append m (x ∷ xs) ys a s t =
      let low = a.below.0 in
      (AllKeys-append _ xs ys s.0 (AllKeys-weaker _ _ (λ k high. omega arith) ys a.above), IsAscending-append m xs ys (record { below = a.below.1; above = a.above }) s.1 t)

  pub IsMap-append : (m : ℕ) (xs ys : List (ℕ × V)) → Splits m xs ys → IsMap xs → IsMap ys → IsMap (xs ++ ys)
  IsMap-append m xs ys a s t = record {
    ascending = IsAscending-append m xs ys a s.ascending t.ascending;
    in_range = AllKeys-append _ xs ys s.in_range t.in_range;
  }

  pub get-set : (es : List (ℕ × V)) (key : ℕ) (value : V) (k : ℕ) → get (set es key value) k ≡ (if nat_eq key k then Some value else get es k)
  get-set [] key value k = refl
  get-set (e ∷ es) key value k = let more = get-set es key value k in grind (arith, nat_tests)

  pub get_below : (es : List (ℕ × V)) (key : ℕ) → AllKeys (λ k. key < k) es → get es key ≡ None
  get_below [] key a = refl
  get_below (e ∷ es) key a = let more = get_below es key a.1 in let high = a.0 in grind (arith, nat_tests)

  pub get-remove : (es : List (ℕ × V)) (key k : ℕ) → IsAscending es → get (remove es key) k ≡ (if nat_eq key k then None else get es k)
  get-remove [] key k s = grind (arith, nat_tests)
  get-remove (e ∷ es) key k s =
      let more = get-remove es key k s.1 in
      let gone = get_below es e.0 s.0 in
      grind (arith, nat_tests)

  -- a key with a value is one of the keys
  pub AllKeys-get : (P : ℕ → Type 0) (es : List (ℕ × V)) (key : ℕ) (value : V) → AllKeys P es → get es key ≡ Some value → P key
  AllKeys-get P [] key value a found = absurd (none-some value found)
  AllKeys-get P (e ∷ es) key value a found =
      elim (cases_eq e.0 key) [
        | inl same ↦ subst P same a.0
        | inr apart ↦ let back : get es key ≡ Some value = grind (arith, nat_tests) in AllKeys-get P es key value a.1 back
      ]

  greatest_behind : (e : ℕ × V) (es : List (ℕ × V)) (key : ℕ) (f : ℕ × V) (o : Option (ℕ × V)) → IsAscending (e ∷ es) → IsGreatestUpTo es key (Some f) → IsGreatestUpTo (e ∷ es) key (or_else (Some f) o)
  greatest_behind e es key f o s g =
      let above : e.0 < f.0 = AllKeys-get (λ k. e.0 < k) es f.0 f.1 s.0 g.0 in
      let found : get (e ∷ es) f.0 ≡ Some f.1 = grind (arith, nat_tests, g.0) in
      (found, g.1, ((λ _. omega arith), g.2))

  greatest_here : (e : ℕ × V) (es : List (ℕ × V)) (key : ℕ) → IsGreatestUpTo es key None → IsGreatestUpTo (e ∷ es) key (or_else None (if nat_le e.0 key then Some e else None))
  greatest_here e es key above =
      elim (cases_lt key e.0) [
        | inl less ↦ let b : nat_le e.0 key ≡ false = grind (arith, nat_tests) in rw b (less, above)
        | inr le ↦ let b : nat_le e.0 key ≡ true = grind (arith, nat_tests) in let found : get (e ∷ es) e.0 ≡ Some e.1 = grind (arith, nat_tests) in
            rw b (found, le, ((λ _. omega arith), AllKeys-weaker _ _ (λ k high below. omega arith) es above))
      ]

  pub at_or_before-greatest : (es : List (ℕ × V)) (key : ℕ) → IsAscending es → IsGreatestUpTo es key (at_or_before es key)
  at_or_before-greatest [] key s = tt
  at_or_before-greatest (e ∷ es) key s =
      elim (at_or_before es key) as (λ o. IsGreatestUpTo es key o → IsGreatestUpTo (e ∷ es) key (or_else o (if nat_le e.0 key then Some e else None))) [
        | None ↦ greatest_here e es key
        | Some f ↦ greatest_behind e es key f (if nat_le e.0 key then Some e else None) s
      ] (at_or_before-greatest es key s.1)

  least_behind : (e : ℕ × V) (es : List (ℕ × V)) (key : ℕ) (o : Option (ℕ × V)) → IsAscending (e ∷ es) → e.0 < key → IsLeastFrom es key o → IsLeastFrom (e ∷ es) key o
  least_behind e es key None s below g = (below, g)
  least_behind e es key (Some f) s below g =
      let found : get (e ∷ es) f.0 ≡ Some f.1 = grind (arith, nat_tests, g.0, g.1) in
      (found, g.1, ((λ high. omega arith), g.2))

  pub at_or_after-least : (es : List (ℕ × V)) (key : ℕ) → IsAscending es → IsLeastFrom es key (at_or_after es key)
  at_or_after-least [] key s = tt
  at_or_after-least (e ∷ es) key s =
      elim (cases_lt e.0 key) [
        | inl less ↦ let b : nat_le key e.0 ≡ false = grind (arith, nat_tests) in rw b (least_behind e es key (at_or_after es key) s less (at_or_after-least es key s.1))
        | inr le ↦ let b : nat_le key e.0 ≡ true = grind (arith, nat_tests) in let found : get (e ∷ es) e.0 ≡ Some e.1 = grind (arith, nat_tests) in
            rw b (found, le, ((λ _. omega arith), AllKeys-weaker _ _ (λ k high above. omega arith) es s.0))
      ]

  entries_from_all : (es : List (ℕ × V)) (key : ℕ) → AllKeys (λ k. key ≤ k) es → entries_from es key ≡ es
  entries_from_all [] key a = refl
  entries_from_all (e ∷ es) key a = let b : nat_le key e.0 ≡ true = leb_yes key e.0 a.0 in rw b

  entries_from_none : (es : List (ℕ × V)) (key : ℕ) → AllKeys (λ k. k < key) es → entries_from es key ≡ []
  entries_from_none [] key a = refl
  entries_from_none (e ∷ es) key a = let b : nat_le key e.0 ≡ false = leb_no key e.0 a.0 in rw b (entries_from_none es key a.1)

  -- where the entries begin that a key leaves
  pub entries_from-absent : (es : List (ℕ × V)) (key : ℕ) → IsLeastFrom es key None → entries_from es key ≡ []
  entries_from-absent es key a = entries_from_none es key a

  pub entries_from-first : (es : List (ℕ × V)) (key : ℕ) (f : ℕ × V) → IsAscending es → at_or_after es key ≡ Some f → entries_from es key ≡ f ∷ entries_from es (f.0 + 1)
  entries_from-first [] key f s found = absurd (none-some f found)
  entries_from-first (e ∷ es) key f s found =
      elim (cases_lt e.0 key) [
        | inl less ↦
            let b : nat_le key e.0 ≡ false = leb_no key e.0 less in
            let behind : at_or_after es key ≡ Some f = rw b at found in
            let least : IsLeastFrom es key (Some f) = rw behind at (at_or_after-least es key s.1) in
            let above : e.0 < f.0 + 1 = let high = least.1 in omega arith in
            let d : nat_le (f.0 + 1) e.0 ≡ false = leb_no (f.0 + 1) e.0 above in
            rw (b, d) (entries_from-first es key f s.1 behind)
        | inr le ↦
            let b : nat_le key e.0 ≡ true = leb_yes key e.0 le in
            let here : e ≡ f = same_Some e f (rw b at found) in
            let d : nat_le (e.0 + 1) e.0 ≡ false = leb_no (e.0 + 1) e.0 (omega arith) in
            let rest = entries_from_all es (e.0 + 1) (AllKeys-weaker _ _ (λ k high. omega arith) es s.0) in
            rw (b, ← here, d, rest)
      ]

  -- no key is above the greatest number of 64 bits
  pub entries_from-end : (es : List (ℕ × V)) → IsMap es → entries_from es (2 ^ 64) ≡ []
  entries_from-end es m = entries_from_none es (2 ^ 64) m.in_range
