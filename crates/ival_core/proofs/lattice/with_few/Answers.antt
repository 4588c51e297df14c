use Rattle.std.proofs.Common.{◌≡◌, ◌++◌, ◌∷◌, ◌<◌, length, take, drop, subst, sym, rules}
use Rattle.std.specs.Int.{w128}
use Rattle.std.specs.Prelude.{FitsSigned}
use Rattle.std.proofs.lemmas.Int.{to_z-of_z}
use Rattle.ival_core.specs.Hulls.{Spans}
use Rattle.ival_core.specs.Sets.{Among}
use Rattle.ival_core.proofs.Insertion.{Inserted, insertion_of, IsSmallSet-inserted, IsLeast-inserted}
use Rattle.ival_core.proofs.Joins.{full_long, full_least}
use Rattle.ival_core.proofs.Decisions.{untrue}
use Rattle.ival_core.proofs.lattice.with_few.Goals as goal

pub invariant_of-result-then-is_full : goal.invariant_of-result-then-is_full
invariant_of-result-then-is_full c =
    let f : FitsSigned w128 c.args.x = c.ranges.x in
    let absent : Among c.as_slice.result.now c.args.x → ⊥ = λ m. untrue ((simp to_z-of_z at c.if-is_among.ensures).1 m) in
    let full : length c.args.few.items ≡ 8 = search rules in
    let ins : Inserted c.args.few.items c.args.x (take c.place-at.result c.args.few.items ++ c.args.x ∷ drop c.place-at.result c.args.few.items) =
    insertion_of _ _ _ c.place-at.result c.args.x c.as_slice.ensures.value c.as_slice-2.ensures.value c.requires.set.ascending absent (simp to_z-of_z at c.place-at.ensures.before) (simp to_z-of_z at c.place-at.ensures.after) in
    let spans : Spans (Among c.args.few.items) c.hull_of.result = subst (λ l. Spans (Among l) c.hull_of.result) c.as_slice-then-is_full.ensures.value c.hull_of.ensures in
    record { valid = full_long c.args.few.items _ c.args.x c.hull_of.result c.of.result c.hull.result c.requires.set c.requires.number full ins spans (simp to_z-of_z at c.of.ensures) c.hull.ensures }

pub returns-then-is_full : goal.returns-then-is_full
returns-then-is_full c =
    let f : FitsSigned w128 c.args.x = c.ranges.x in
    let absent : Among c.as_slice.result.now c.args.x → ⊥ = λ m. untrue ((simp to_z-of_z at c.if-is_among.ensures).1 m) in
    let full : length c.args.few.items ≡ 8 = search rules in
    let ins : Inserted c.args.few.items c.args.x (take c.place-at.result c.args.few.items ++ c.args.x ∷ drop c.place-at.result c.args.few.items) =
    insertion_of _ _ _ c.place-at.result c.args.x c.as_slice.ensures.value c.as_slice-2.ensures.value c.requires.set.ascending absent (simp to_z-of_z at c.place-at.ensures.before) (simp to_z-of_z at c.place-at.ensures.after) in
    let spans : Spans (Among c.args.few.items) c.hull_of.result = subst (λ l. Spans (Among l) c.hull_of.result) c.as_slice-then-is_full.ensures.value c.hull_of.ensures in
    full_least c.args.few.items _ c.args.x c.hull_of.result c.of.result c.hull.result full ins spans (simp to_z-of_z at c.of.ensures) c.hull.ensures

pub invariant_of-result-2 : goal.invariant_of-result-2
invariant_of-result-2 c =
    let f : FitsSigned w128 c.args.x = c.ranges.x in
    let absent : Among c.as_slice.result.now c.args.x → ⊥ = λ m. untrue ((simp to_z-of_z at c.if-is_among.ensures).1 m) in
    let room : length c.args.few.items < 8 = search rules in
    let ins : Inserted c.args.few.items c.args.x (take c.place-at.result c.args.few.items ++ c.args.x ∷ drop c.place-at.result c.args.few.items) =
    insertion_of _ _ _ c.place-at.result c.args.x c.as_slice.ensures.value c.as_slice-2.ensures.value c.requires.set.ascending absent (simp to_z-of_z at c.place-at.ensures.before) (simp to_z-of_z at c.place-at.ensures.after) in
    record { valid = IsSmallSet-inserted c.args.few.items _ c.args.x c.requires.set c.requires.number room (subst (Inserted c.args.few.items c.args.x) (sym (simp to_z-of_z at c.insert.ensures.items)) ins) }

pub returns : goal.returns
returns c =
    let f : FitsSigned w128 c.args.x = c.ranges.x in
    let absent : Among c.as_slice.result.now c.args.x → ⊥ = λ m. untrue ((simp to_z-of_z at c.if-is_among.ensures).1 m) in
    let ins : Inserted c.args.few.items c.args.x (take c.place-at.result c.args.few.items ++ c.args.x ∷ drop c.place-at.result c.args.few.items) =
    insertion_of _ _ _ c.place-at.result c.args.x c.as_slice.ensures.value c.as_slice-2.ensures.value c.requires.set.ascending absent (simp to_z-of_z at c.place-at.ensures.before) (simp to_z-of_z at c.place-at.ensures.after) in
    IsLeast-inserted c.args.few.items c.args.x c.insert.new.self (subst (Inserted c.args.few.items c.args.x) (sym (simp to_z-of_z at c.insert.ensures.items)) ins)
