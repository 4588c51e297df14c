-- Bytes that are put piece by piece.
use Rattle.std.proofs.Common.{◌≡◌, ℕ, ◌+◌, ◌-◌, ◌<◌, List, ◌++◌, Option, None, Some, length, take, drop, ap, arith, append_assoc, length-drop}
use Rattle.std.proofs.lemmas.List.{take-append-drop, take_all}
use Rattle.std.proofs.Math.Seq.{take-add}
use Rattle.eva_io.specs.Outside.{SinkState, KeepsCounts, Appended, AppendedInPart}

-- one piece, and then another
pub appended_both : (before between now : Option (List ℕ)) (first second : List ℕ) →
    Appended before first between → Appended between second now → Appended before (first ++ second) now
appended_both None between now first second here there = tt
appended_both (Some bytes) between now first second here there =
    let step : Appended (Some (bytes ++ first)) second now = rw here at there in
    rw (← append_assoc) step

-- the bytes from an index on, as `&bytes[done..]` gives them
pub rest_from : (bytes : List ℕ) (done : ℕ) → take (length bytes - done) (drop done bytes) ≡ drop done bytes
rest_from bytes done = take_all _ _ (omega (arith, length-drop done bytes))

-- the first bytes, and then as many more as a put took of the rest
pub appended_more : (before between now : Option (List ℕ)) (bytes : List ℕ) (done more : ℕ) →
    Appended before (take done bytes) between →
    Appended between (take more (take (length bytes - done) (drop done bytes))) now →
    Appended before (take (done + more) bytes) now
appended_more before between now bytes done more here there =
    let step = rw (rest_from bytes done) at there in
    rw (take-add done more bytes) (appended_both before between now _ _ here step)

-- where a put is refused before the end, the bytes until then are a proper front
pub refused_in_part : (before between now : Option (List ℕ)) (bytes : List ℕ) (done : ℕ) → done < length bytes →
    Appended before (take done bytes) between → now ≡ between → AppendedInPart before bytes now
refused_in_part before between now bytes done short here same = record {
  front = take done bytes;
  back = drop done bytes;
  parts = take-append-drop done bytes;
  unwritten = λ none. absurd (omega (arith, length-drop done bytes, ap length none));
  appended = rw same here;
}

-- no count falls over two calls
pub kept_longer : (before between now : SinkState) → KeepsCounts before between → KeepsCounts between now → KeepsCounts before now
kept_longer before between now here there = record { faults = omega arith; starved = omega arith }
