-- Stores and sinks that lie in memory: what they hold, and which of their calls fail.
use Rattle.std.specs.Prelude.{◌≡◌, ℕ, ◌+◌, ◌-◌, ◌^◌, ◌≤◌, ◌<◌, ◌==◌, ◌⊎◌, min, Bool, true, false, List, length, Option, None, Some, reverse, find, position, Result, Ok, Err, Vec, ⊤}
use Rattle.std.specs.declared.alloc.Global.{Global}
use Rattle.std.specs.List.{list_any}
use Rattle.std.specs.Option.{option_map, option_map_or}
use Rattle.std.specs.Str.{bytes_eq}
use Rattle.eva_io.specs.declared.store.LoadFault.{LoadFault}
use Rattle.eva_io.specs.declared.store.LoadFault.TheVariants.{Failed as LoadFailed, TooLong, Memory as LoadMemory}
use Rattle.eva_io.specs.declared.sink.PutFault.{PutFault}
use Rattle.eva_io.specs.declared.sink.PutFault.TheVariants.{Failed as PutFailed, Memory as PutMemory}
use Rattle.eva_io.specs.Outside.{SinkState}

-- whether the list has this number
abbrev pub is_listed : List ℕ → ℕ → Bool
is_listed numbers number = list_any (λ n. n == number) numbers

-- the next value of a u64 that counts, which stays at its last
abbrev pub next_count : ℕ → ℕ
next_count count = min (count + 1) (2 ^ 64 - 1)

-- a put failed exactly where it was due to, unless memory was wanting
abbrev pub PutFails : {A : Type 0} → Result A PutFault → Bool → Type 0
PutFails (Ok x) due = due ≡ false
PutFails (Err PutFailed) due = due ≡ true
PutFails (Err PutMemory) due = ⊤

-- a put that failed raised the count of faults by one, and no other changed it
abbrev pub PutCounts : {A : Type 0} → Result A PutFault → ℕ → ℕ → Type 0
PutCounts (Ok x) before now = now ≡ before
PutCounts (Err PutFailed) before now = now ≡ next_count before
PutCounts (Err PutMemory) before now = now ≡ before

-- a put in which memory was wanting raised the count of such puts by one, and no other changed it
abbrev pub PutStarves : {A : Type 0} → Result A PutFault → ℕ → ℕ → Type 0
PutStarves (Ok x) before now = now ≡ before
PutStarves (Err PutFailed) before now = now ≡ before
PutStarves (Err PutMemory) before now = now ≡ next_count before

-- whether an entry is of this name
abbrev pub is_named : {X : Type 0} → List ℕ → List ℕ × X → Bool
is_named name entry = bytes_eq entry.0 name

-- the content of a name: of the entries with it the last counts
abbrev pub content_of : List (List ℕ × List ℕ) → List ℕ → Option (List ℕ)
content_of files name = option_map (λ entry. entry.1) (find (is_named name) (reverse files))

-- an entry as its name and its bytes
abbrev pub file_of : List ℕ × Vec ℕ Global → List ℕ × List ℕ
file_of entry = (entry.0, entry.1.items)

-- what a load answers: `Failed` exactly where it was due to fail or the name isn't held, `TooLong` where the content
-- has more than `most` bytes, and the content else; want of memory may come in place of any
abbrev pub LoadAnswers : Result (Vec ℕ Global) LoadFault → Bool → Option (List ℕ) → ℕ → Type 0
LoadAnswers (Ok bytes) due content most = (due ≡ false) × (content ≡ Some bytes.items) × (length bytes.items ≤ most)
LoadAnswers (Err LoadFailed) due content most = (due ≡ true) ⊎ (content ≡ None)
LoadAnswers (Err TooLong) due content most =
    (bytes : List ℕ) × (due ≡ false) × (content ≡ Some bytes) × (most < length bytes)
LoadAnswers (Err LoadMemory) due content most = ⊤

-- where the first entry of a name stands
abbrev pub place_of : List (List ℕ × ℕ) → List ℕ → Option ℕ
place_of counts name = position (is_named name) counts

-- the count of a name, 0 where it has none
abbrev pub count_of : List (List ℕ × ℕ) → List ℕ → ℕ
count_of counts name = option_map_or (λ entry. entry.1) (find (is_named name) counts) 0

-- a store: its files, the calls that are to fail, the calls so far, and the faults of each name
pub record Files : Type 0 where
  pub files : List (List ℕ × List ℕ)
  pub failing : List ℕ
  pub calls : ℕ
  pub faults : List (List ℕ × ℕ)

-- a sink: its bytes, how many it takes at once, the calls that are to fail, the calls so far, the faults, and the puts in which memory
-- was wanting
pub record Tape : Type 0 where
  pub bytes : List ℕ
  pub step : ℕ
  pub failing : List ℕ
  pub calls : ℕ
  pub faults : ℕ
  pub starved : ℕ

-- what such a sink tells
abbrev pub state_of : Tape → SinkState
state_of tape = record { written = Some tape.bytes; faults = tape.faults; starved = tape.starved }
