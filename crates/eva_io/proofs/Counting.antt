-- Counts by name: a new name at 0, and a count that is replaced.
use Rattle.std.proofs.Common.{◌≡◌, ◌≢◌, ℕ, ◌<◌, ◌≤◌, List, [], ◌∷◌, ◌++◌, Bool, true, false, Option, None, Some, IsSome, length, refl, sym, ◌∙◌, cond, get_or, arith, nat_lt}
use Rattle.std.proofs.Math.ListN.{set}
use Rattle.std.specs.Prelude.{find}
use Rattle.std.specs.List.{position_or_len}
use Rattle.std.specs.Option.{option_map_or, option_or}
use Rattle.std.specs.Str.{bytes_eq}
use Rattle.std.proofs.lemmas.Bool.Decides.{nat_tests}
use Rattle.std.proofs.lemmas.Option.{slice_get-get_or, slice_get_past}
use Rattle.std.proofs.lemmas.List.Folds.{find-set, find_past, find-append, find_at}
use Rattle.std.proofs.lemmas.List.Sums.{position_or_len_is}
use Rattle.std.proofs.lemmas.List.Quantifiers.{position-Some}
use Rattle.std.proofs.lemmas.Slice.Eq.{bytes_eq-Decides}
use Rattle.eva_io.specs.Memory.{count_of, place_of, is_named}

false_unless_true : (b : Bool) → (b ≡ true → ⊥) → b ≡ false
false_unless_true true never = absurd (never refl)
false_unless_true false never = refl

false_or_true : (b : Bool) → b ≡ false → b ≡ true → ⊥
false_or_true b is_false is_true = cc

some_unless_none : {A : Type 0} (found : Option A) → (found ≡ None → ⊥) → IsSome found
some_unless_none None never = absurd (never refl)
some_unless_none (Some x) never = refl

-- a name has its own name
named : (name : List ℕ) → bytes_eq name name ≡ true
named name = (bytes_eq-Decides name name).1 refl

-- two names are told apart
unnamed : (name other : List ℕ) → name ≢ other → bytes_eq name other ≡ false
unnamed name other apart = false_unless_true _ (λ same. apart ((bytes_eq-Decides name other).0 same))

-- a test that chose nothing failed
test_failed : (test : Bool) (at : ℕ) → cond test (Some at) None ≡ None → test ≡ false
test_failed true at none = cc
test_failed false at none = refl

-- no entry has a name that has no place
found_nowhere : (counts : List (List ℕ × ℕ)) (name : List ℕ) →
    place_of counts name ≡ None → find (is_named name) counts ≡ None
found_nowhere counts name none =
    let past : nat_lt (position_or_len (is_named name) counts) (length counts) ≡ false = test_failed _ _ none in
    let beyond : length counts ≤ position_or_len (is_named name) counts = grind (arith, nat_tests) in
    rw (find_at (is_named name) counts) (slice_get_past counts _ beyond)

pub count_of-nowhere : (counts : List (List ℕ × ℕ)) (name : List ℕ) →
    place_of counts name ≡ None → count_of counts name ≡ 0
count_of-nowhere counts name none = rw (found_nowhere counts name none) refl

-- an entry with the count 0 after the others
zero_entry : (name : List ℕ) (is_own : Bool) (found : Option (List ℕ × ℕ)) →
    option_map_or (λ entry. entry.1) (option_or found (cond is_own (Some (name, 0)) None)) 0
    ≡ option_map_or (λ entry. entry.1) found 0
zero_entry name true None = refl
zero_entry name false None = refl
zero_entry name is_own (Some entry) = refl

-- a name with the count 0 changes no count
pub count_of-admitted : (counts : List (List ℕ × ℕ)) (name other : List ℕ) →
    count_of (counts ++ (name, 0) ∷ []) other ≡ count_of counts other
count_of-admitted counts name other =
    rw (find-append (is_named other) counts ((name, 0) ∷ []))
    (zero_entry name (is_named {X = ℕ} other (name, 0)) (find (is_named other) counts))

some_or : (found : Option (List ℕ × ℕ)) (is_own : Bool) (entry : List ℕ × ℕ) → is_own ≡ true →
    option_or found (cond is_own (Some entry) None) ≡ None → ⊥
some_or None true entry own none = cc
some_or None false entry own none = cc
some_or (Some other) is_own entry own none = cc

pub place_of-admitted : (counts : List (List ℕ × ℕ)) (name : List ℕ) →
    IsSome (place_of (counts ++ (name, 0) ∷ []) name)
place_of-admitted counts name = some_unless_none _ (λ none.
    let missing = found_nowhere (counts ++ (name, 0) ∷ []) name none in
    some_or (find (is_named name) counts) (is_named {X = ℕ} name (name, 0)) (name, 0) (named name)
    (rw (find-append (is_named name) counts ((name, 0) ∷ [])) at missing))

-- where an entry of the name stands, and that it is the first
record IsFirstOf (counts : List (List ℕ × ℕ)) (name : List ℕ) (at : ℕ) (entry : List ℕ × ℕ) : Type 0 where
  within : at < length counts
  at_is : at ≡ position_or_len (is_named name) counts
  found : find (is_named name) counts ≡ Some entry
  name_is : entry.0 ≡ name

-- the entry that is read at the place of the name
is_first : (counts : List (List ℕ × ℕ)) (name : List ℕ) (at : ℕ) (entry : List ℕ × ℕ) →
    place_of counts name ≡ Some at → entry ≡ get_or counts at entry → IsFirstOf counts name at entry
is_first counts name at entry here read =
    let facts = position-Some (is_named name) counts at entry here in
    let within : at < length counts = facts.0 in
    let place = position_or_len_is (is_named name) counts at entry (omega arith) facts.2 (λ _. facts.1) in
    let same = (bytes_eq-Decides (get_or counts at entry).0 name).0 facts.1 in
    record {
      within = within;
      at_is = sym place;
      found = rw (find_at (is_named name) counts, place, slice_get-get_or counts at entry within, ← read) refl;
      name_is = rw (← read) at same;
    }

pub count_of-found : (counts : List (List ℕ × ℕ)) (name : List ℕ) (at : ℕ) (entry : List ℕ × ℕ) →
    place_of counts name ≡ Some at → entry ≡ get_or counts at entry → count_of counts name ≡ entry.1
count_of-found counts name at entry here read = rw (is_first counts name at entry here read).found refl

-- the entry of a name is replaced
pub count_of-replaced : (counts : List (List ℕ × ℕ)) (name : List ℕ) (at count : ℕ) (entry : List ℕ × ℕ) →
    place_of counts name ≡ Some at → entry ≡ get_or counts at entry →
    count_of (set counts at (entry.0, count)) name ≡ count
count_of-replaced counts name at count entry here read =
    let first = is_first counts name at entry here read in
    let own = (bytes_eq-Decides entry.0 name).1 first.name_is in
    rw (find-set (is_named name) counts at (entry.0, count) first.at_is first.within own) refl

pub count_of-others : (counts : List (List ℕ × ℕ)) (name other : List ℕ) (at count : ℕ) (entry : List ℕ × ℕ) →
    place_of counts name ≡ Some at → entry ≡ get_or counts at entry → other ≢ name →
    count_of (set counts at (entry.0, count)) other ≡ count_of counts other
count_of-others counts name other at count entry here read apart =
    let first = is_first counts name at entry here read in
    let strange = unnamed entry.0 other (λ same. apart (sym same ∙ first.name_is)) in
    let before : is_named other (get_or counts at entry) ≡ false = rw (← read) strange in
    rw (find_past (is_named other) counts at (entry.0, count) entry before strange) refl

-- no count falls where the entry of a name rises
pub count_of-grows : (counts : List (List ℕ × ℕ)) (name : List ℕ) (at count : ℕ) (entry : List ℕ × ℕ) →
    place_of counts name ≡ Some at → entry ≡ get_or counts at entry → entry.1 ≤ count → (other : List ℕ) →
    count_of counts other ≤ count_of (set counts at (entry.0, count)) other
count_of-grows counts name at count entry here read more other =
    by_name (bytes_eq other name) refl
  where
    by_name : (same : Bool) → bytes_eq other name ≡ same →
        count_of counts other ≤ count_of (set counts at (entry.0, count)) other
    by_name true same =
        rw (
          (bytes_eq-Decides other name).0 same,
          count_of-found counts name at entry here read,
          count_of-replaced counts name at count entry here read,
        )
        more
    by_name false apart =
        let strange = λ (same : other ≡ name). absurd (false_or_true _ apart ((bytes_eq-Decides other name).1 same)) in
        rw (count_of-others counts name other at count entry here read strange) (omega arith)
