-- One statement more, or one `if` of a ladder more, in a stretch of places.
use Rattle.std.proofs.Common.{◌≡◌, ℕ, suc, ◌+◌, ◌-◌, ◌<◌, ◌≤◌, List, [], ◌∷◌, ◌++◌, Option, None, Some, Result, Ok, Err, map, length, get_or, take, drop, refl, sym, ap, ◌∙◌, arith, append_assoc, length-take-le, length-drop}
use Rattle.std.specs.Prelude.{IfOk}
use Rattle.std.specs.declared.alloc.AllocError.{AllocError}
use Rattle.std.proofs.Math.Seq.{drop-cons}
use Rattle.std.proofs.Math.Numerals.{add-one}
use Rattle.std.proofs.lemmas.List.{map-append, take-map, length-map}
use Rattle.std.proofs.lemmas.Slice.{take-put_mid}
use borrow.Rule.Slice.PartMut.{put_mid, same_len_mid}
use Rattle.first_program.specs.declared.tree.Arm.{Arm as CodeArm}
use Rattle.first_program.specs.declared.tree.Stmt.{Stmt as CodeStmt}
use Rattle.first_program.specs.declared.tree.Stmt.TheVariants as V
use Rattle.first_program.specs.Source.{Stmt, Nothing, count, count_all}
use Rattle.first_program.specs.SourceViews.{test_tree, tree_of, trees_of}
use Rattle.first_analysis.specs.declared.place.Place.{Place}
use Rattle.first_analysis.specs.Contents.{HoldsReached}
use Rattle.first_analysis.specs.Flow.{Flow, FlowAll}
use Rattle.first_analysis.specs.Tables.{Reached, PlaceSpot, Rises, spot_of, choice, Flows, ArmFlows, LadderFlows}
use Rattle.first_analysis.proofs.Trees.{arm_is, tree-If, tree-If-else}
use Rattle.first_analysis.proofs.Flows.{list_next, arm_next, below_self}

-- the places in front, once the next ones are written
pub front_written : (at k : ℕ) (old new : List Place) (n : ℕ) (rest : List PlaceSpot) → n ≡ at + length new → at ≤ length old →
    take n (map spot_of (put_mid at k old new)) ++ rest ≡ take at (map spot_of old) ++ (map spot_of new ++ rest)
front_written at k old new n rest e within =
    ap (λ xs. xs ++ rest) (take-map spot_of n (put_mid at k old new) ∙ ap (map spot_of) (take-put_mid at k old new n e within) ∙ map-append spot_of (take at old) new
    ∙ ap (λ xs. xs ++ map spot_of new) (sym (take-map spot_of at old)))
    ∙ append_assoc (take at (map spot_of old)) (map spot_of new) rest

-- a part of the places that is passed on and written
pub part_length : (at end n : ℕ) (old new : List Place) → end ≡ at + n → end ≤ length old → length new ≡ length (take (end - at) (drop at old)) → length new ≡ n
part_length at end n old new e within long = omega (arith, length-take-le (end - at) (drop at old) (omega (arith, length-drop at old)))

pub length_written : (at end n : ℕ) (old new : List Place) → end ≡ at + n → length new ≡ n → end ≤ length old → length (put_mid at (end - at) old new) ≡ length old
length_written at end n old new e long within =
    same_len_mid at (end - at) old new (omega (arith, length-take-le (end - at) (drop at old) (omega (arith, length-drop at old))))

module _ (stmts : List CodeStmt) (i : ℕ) (s : CodeStmt) (h : i < length stmts) (is : s ≡ get_or stmts i s) where
  here : drop i stmts ≡ s ∷ drop (suc i) stmts
  here = drop-cons stmts i s h ∙ ap (λ x. x ∷ drop (suc i) stmts) (sym is)

  pub statements_counted : count_all (trees_of (drop i stmts)) ≡ count (tree_of s) + count_all (trees_of (drop (i + 1) stmts))
  statements_counted = rw (here, add-one) refl

  pub statements_flow : (seg rest : List PlaceSpot) (row middle after : Reached) → length seg ≡ count (tree_of s) → Flow Reached HoldsReached (tree_of s) seg row middle →
      FlowAll Reached HoldsReached (trees_of (drop (i + 1) stmts)) rest middle after → FlowAll Reached HoldsReached (trees_of (drop i stmts)) (seg ++ rest) row after
  statements_flow seg rest row middle after long f g =
      rw here (list_next (tree_of s) (trees_of (drop (suc i) stmts)) seg rest row middle after long f (rw add-one at g))

module _ (arms : List CodeArm) (i : ℕ) (a : CodeArm) (h : i < length arms) (is : a ≡ get_or arms i a) where
  arm_here : drop i arms ≡ a ∷ drop (suc i) arms
  arm_here = drop-cons arms i a h ∙ ap (λ x. x ∷ drop (suc i) arms) (sym is)

  pub arms_counted : (last : Stmt) → count (choice (drop i arms) last) ≡ suc (count (tree_of a.body) + count (choice (drop (i + 1) arms) last))
  arms_counted last = rw (arm_here, arm_is a, add-one) refl

  pub arms_flow : (last : Stmt) (seg rest : List PlaceSpot) (places : List Place) (row left other right after : Reached) → seg ≡ map spot_of places → length places ≡ suc (count (tree_of a.body)) →
      ArmFlows (test_tree a.test) (tree_of a.body) places row left other → Flow Reached HoldsReached (choice (drop (i + 1) arms) last) rest other right → Rises left after → Rises right after →
      Flow Reached HoldsReached (choice (drop i arms) last) (seg ++ rest) row after
  arms_flow last seg rest places row left other right after same long f g l r =
      let many : length (map spot_of places) ≡ suc (count (tree_of a.body)) = length-map places spot_of ∙ long in
      rw (arm_here, arm_is a, same)
      (arm_next (test_tree a.test) (tree_of a.body) (choice (drop (suc i) arms) last) (map spot_of places) rest row left other right after many f (rw add-one at g) l r)

pub ok_both : {X : Type 0} (r : Result X AllocError) (P Q R : X → Type 0) → ((x : X) → P x → Q x → R x) → IfOk r P → IfOk r Q → IfOk r R
ok_both (Ok x) P Q R f p q = f x p q
ok_both (Err e) P Q R f p q = tt

no_places : (ps : List Place) → length ps ≡ 0 → ps ≡ []
no_places [] e = refl
no_places (p ∷ ps) e = absurd (omega arith)

-- a ladder without an `else` at its end
pub ladder_ends : (stmt : CodeStmt) (arms : List CodeArm) (otherwise : Option CodeStmt) (tests rest : List Place) (before state out after : Reached) → stmt ≡ V.If arms otherwise →
    otherwise ≡ None → length rest ≡ 0 → LadderFlows arms tests before state out → Rises out after → Rises state after → Flows (tree_of stmt) (tests ++ rest) before after
ladder_ends stmt arms otherwise tests rest before state out after is none empty f o s =
    let tree : tree_of stmt ≡ choice arms Nothing = ap tree_of is ∙ ap (λ x. tree_of (V.If arms x)) none ∙ tree-If arms in
    rw (tree, no_places rest empty, map-append) (f Nothing [] state after (below_self Reached HoldsReached state) o s)

-- a ladder with one
pub ladder_goes_on : (stmt : CodeStmt) (arms : List CodeArm) (otherwise : Option CodeStmt) (last : CodeStmt) (tests rest : List Place) (before state out right after : Reached) →
    stmt ≡ V.If arms otherwise → otherwise ≡ Some last → LadderFlows arms tests before state out → Flows (tree_of last) rest state right → Rises out after → Rises right after →
    Flows (tree_of stmt) (tests ++ rest) before after
ladder_goes_on stmt arms otherwise last tests rest before state out right after is some f g o r =
    let tree : tree_of stmt ≡ choice arms (tree_of last) = ap tree_of is ∙ ap (λ x. tree_of (V.If arms x)) some ∙ tree-If-else arms last in
    rw (tree, map-append) (f (tree_of last) (map spot_of rest) right after g o r)
