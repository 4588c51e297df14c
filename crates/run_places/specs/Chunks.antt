-- Elements that see the same places again and again.
use Rattle.std.specs.Prelude.{◌≡◌, ℕ, zero, suc, ◌*◌, ◌%◌, ◌<◌, ◌≤◌, List, [], ◌++◌, length, take}
use Rattle.cell_runs.specs.declared.runs.Run.{Run}
use Rattle.run_places.specs.declared.spots.Spot.{Spot}
use Rattle.run_places.specs.declared.chunks.Chunk.{Chunk}
use Rattle.run_places.specs.Spots.{ahead, IsSpot}

-- so many times one list
unfoldable pub times : {A : Type 0} → ℕ → List A → List A
times zero l = []
times (suc n) l = l ++ times n l

-- so many elements of these bits are a multiple of `whole` bits
pub record IsPeriod (whole bits n : ℕ) : Type 0 where
  pub some : 0 < n
  pub few : n ≤ whole
  pub multiple : n * bits % whole ≡ 0

-- from the spot on the places of `size` elements come `repeats` times
pub record IsChunk {C : Type 0} (rs : List (Run C)) (s : Spot) (bits left : ℕ) (c : Chunk) : Type 0 where
  pub some : 0 < c.size
  pub again : 0 < c.repeats
  pub most : c.size * c.repeats ≤ left
  pub enough : c.size * bits ≤ length (ahead rs s)
  pub same : ahead rs s ≡ times c.repeats (take (c.size * bits) (ahead rs s)) ++ ahead rs c.next
  pub next : IsSpot rs c.next
