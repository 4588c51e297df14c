-- A content that is merged of two has a part.
use Rattle.std.proofs.Common.{◌≡◌, Bool, true, false, IsTrue, Option, refl}
use Rattle.std.specs.Prelude.{◌||◌}
use Rattle.first_analysis.specs.Parts.{is_there, has_part}

pub parts_merged : {A : Type 0} (kept other merged : Option A) (first second : Bool) → is_there merged ≡ (is_there kept || is_there other) →
    IsTrue (has_part kept first) → IsTrue (has_part other second) → IsTrue (has_part merged (first || second))
parts_merged kept other merged first second e h k = by_cases (is_there kept) (is_there other) first second (is_there merged) e h
  where
    by_cases : (a b u v m : Bool) → m ≡ (a || b) → IsTrue (a || u) → IsTrue (m || (u || v))
    by_cases true b u v true e h = refl
    by_cases true b u v false e h = cc
    by_cases false b true v true e h = refl
    by_cases false b true v false e h = refl
    by_cases false b false v m e h = cc
