-- What a store and a sink tell, and how their faults are counted.
use Rattle.std.specs.Prelude.{◌≡◌, ◌≢◌, ℕ, ◌+◌, ◌-◌, ◌^◌, ◌≤◌, min, List, [], ◌++◌, Option, None, Some, Result, Ok, Err, ⊤}
use Rattle.eva_io.specs.declared.store.LoadFault.{LoadFault}
use Rattle.eva_io.specs.declared.store.LoadFault.TheVariants.{Failed as LoadFailed, TooLong, Memory as LoadMemory}
use Rattle.eva_io.specs.declared.sink.PutFault.{PutFault}
use Rattle.eva_io.specs.declared.sink.PutFault.TheVariants.{Failed as PutFailed, Memory as PutMemory}

-- a count rose; one that stands at the last value of a u64 counts as one that rose
abbrev pub Rose : ℕ → ℕ → Type 0
Rose before now = min (before + 1) (2 ^ 64 - 1) ≤ now

-- where the store tells of a name, it holds the name, with a content of which P holds
abbrev pub HeldWhereTold : Option (Option (List ℕ)) → (List ℕ → Type 0) → Type 0
HeldWhereTold None P = ⊤
HeldWhereTold (Some None) P = ⊥
HeldWhereTold (Some (Some bytes)) P = P bytes

-- the store tells that it holds a name, with a content of which P holds
abbrev pub IsToldToHold : Option (Option (List ℕ)) → (List ℕ → Type 0) → Type 0
IsToldToHold None P = ⊥
IsToldToHold (Some None) P = ⊥
IsToldToHold (Some (Some bytes)) P = P bytes

-- P, if the answer is that the content is too long
abbrev pub OnTooLong : {A : Type 0} → Result A LoadFault → Type 0 → Type 0
OnTooLong (Ok x) P = ⊤
OnTooLong (Err LoadFailed) P = ⊤
OnTooLong (Err TooLong) P = P
OnTooLong (Err LoadMemory) P = ⊤

-- a load that failed raises the count of its name, and no other answer changes it
abbrev pub LoadCounts : {A : Type 0} → Result A LoadFault → ℕ → ℕ → Type 0
LoadCounts (Ok x) before now = now ≡ before
LoadCounts (Err LoadFailed) before now = Rose before now
LoadCounts (Err TooLong) before now = now ≡ before
LoadCounts (Err LoadMemory) before now = now ≡ before

-- what a sink tells: the bytes that were put so far, where it tells them; how often a put failed; and in how many puts memory was
-- wanting
pub record SinkState : Type 0 where
  pub written : Option (List ℕ)
  pub faults : ℕ
  pub starved : ℕ

-- no count falls
pub record KeepsCounts (before now : SinkState) : Type 0 where
  pub faults : before.faults ≤ now.faults
  pub starved : before.starved ≤ now.starved

-- P, if a put failed
abbrev pub OnPutFailed : {A : Type 0} → Result A PutFault → Type 0 → Type 0
OnPutFailed (Ok x) P = ⊤
OnPutFailed (Err PutFailed) P = P
OnPutFailed (Err PutMemory) P = ⊤

-- P, if memory was wanting in a put
abbrev pub OnPutStarved : {A : Type 0} → Result A PutFault → Type 0 → Type 0
OnPutStarved (Ok x) P = ⊤
OnPutStarved (Err PutFailed) P = ⊤
OnPutStarved (Err PutMemory) P = P

-- what a sink told before, and then the piece; where it told nothing, nothing is claimed
abbrev pub Appended : Option (List ℕ) → List ℕ → Option (List ℕ) → Type 0
Appended None piece now = ⊤
Appended (Some bytes) piece now = now ≡ Some (bytes ++ piece)

-- a front of the bytes was appended, and not all of them
pub record AppendedInPart (before : Option (List ℕ)) (bytes : List ℕ) (now : Option (List ℕ)) : Type 0 where
  pub front : List ℕ
  pub back : List ℕ
  pub parts : front ++ back ≡ bytes
  pub unwritten : back ≢ []
  pub appended : Appended before front now
