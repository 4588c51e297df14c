-- A tree that was found and what stands behind it, put together.
use Rattle.std.proofs.Common.{◌≡◌, ℕ, ◌≤◌, nat_le, Bool, true, [], length, map, Result, Ok, Err, IfOk, refl, sym, ap, ◌∙◌}
use Rattle.c_base.specs.declared.number.Span.{Span}
use Rattle.c_tree.specs.Nesting.{nest}
use Rattle.c_tree.specs.Trees.{Tree}
use Rattle.c_tree.specs.Views.{listed}
use Rattle.c_tree.specs.WellFormed.{Names, after, after_all}
use Rattle.c_parse_base.specs.Heights.{capped}
use Rattle.c_parse_postfix.specs.AtDepth.{postfix_at, postfix_of, all_parts, run_at, run_of, all_operands}
use Rattle.c_parse_rules.specs.Rules as rules
use Rattle.c_parse_rules.specs.Rules.{Found, Several}
use Rattle.c_parse_base.specs.Reads.{found_of, AreFound, IsGrown}
use Rattle.c_parse_base.specs.declared.found.Found.{Found as CodeFound}
use Rattle.c_parse_base.specs.declared.found.Several.{Several as CodeSeveral}

pub put_together : {T U E : Type 0} (view : T → Tree) (seen : U → Tree) (result : Result (CodeFound T) E) (first : CodeFound T) (several : CodeSeveral U)
    (plain : Found → Several → Found) (total : Several) (target : Names → Found) (old new : Names) →
    IfOk result (λ r. found_of view r ≡ plain (found_of view first) (map seen several.trees, several.rest.now)) →
    IfOk result (λ r. r.height ≡ capped (nest (view r.tree))) →
    IfOk result (λ r. (before : Names) → after before (view r.tree) ≡ after_all (after before (view first.tree)) (listed (map seen several.trees))) →
    (length several.rest.now ≤ length first.rest.now → IfOk result (λ r. length r.rest.now ≤ length first.rest.now)) →
    AreFound seen [] total old new first.rest.now several →
    ((before : Names) → old ≡ after before (view first.tree) → target before ≡ plain (found_of view first) total) →
    IfOk result (λ r. (before : Names) → old ≡ after before (view first.tree) → IsGrown view view (target before) before new first r)
put_together view seen (Err e) first several plain total target old new same height names shorter parts is = tt
put_together view seen (Ok r) first several plain total target old new same height names shorter parts is = λ before known. record {
  same = same ∙ ap (plain (found_of view first)) parts.same ∙ sym (is before known);
  height = height;
  names = parts.names (after before (view first.tree)) known ∙ sym (names before);
  shorter = shorter parts.shorter;
}

-- the answer to the test of a height
pub tested : (height depth d n : ℕ) (answer fits : Bool) → ((m : ℕ) → height ≡ capped m → fits ≡ nat_le m depth) → depth ≡ d → height ≡ capped n → fits ≡ answer → nat_le n d ≡ answer
tested height depth d n answer fits exact same high is = rw (← same) (sym (exact n high) ∙ is)

pub with_parts : (d : ℕ) (span : Span) (f : Found) (names before : Names) → nat_le (nest f.0) d ≡ true → names ≡ after before f.0 →
    postfix_at d span before f ≡ postfix_of d span f (all_parts d names f.1)
unfolding rules.postfix_at all_parts
with_parts d span f names before fits known = rw (fits, known) refl

pub with_operands : (d level : ℕ) (span : Span) (f : Found) (names before : Names) → nat_le (nest f.0) d ≡ true → names ≡ after before f.0 →
    run_at d level span before f ≡ run_of d span f (all_operands d level names f.1)
unfolding rules.run_at all_operands
with_operands d level span f names before fits known = rw (fits, known) refl
