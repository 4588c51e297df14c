-- What is read as a declaration is the declaration that is promised.
use Rattle.std.proofs.Common.{◌≡◌, ℕ, ◌-◌, ◌≤◌, List, length, drop, Option, None, Some, Result, Ok, Err, Bor, refl, sym, ◌∙◌, subst}
use Rattle.std.specs.Prelude.{IfNone, IfOk, OnErr, option_map}
use Rattle.c_base.specs.declared.token.Token.{Token}
use Rattle.c_tree.specs.WellFormed.{Names}
use Rattle.c_parse_base.specs.KnownNames.{Known, kept}
use Rattle.c_parse_base.specs.Reads.{closed}
use Rattle.grammar.specs.Forms.{Tree}
use Rattle.grammar.specs.Promises.{IsRead}
use Rattle.grammar.specs.Reading.{Found, parse}
use Rattle.grammar.proofs.Exact.{is_read}
use Rattle.c_grammar.specs.declared.rule.Sort.{Sort}
use Rattle.c_grammar.specs.Leaves.{C}
use Rattle.c_grammar.specs.Picking.{readers}
use Rattle.c_grammar.specs.Table.{table}
use Rattle.c_grammar.proofs.Exactly.{trees_exact}
use Rattle.c_parse_declaration.proofs.Ends.{IsEnd, leaves_end, position, tree_end}

pub sort_read : (d : ℕ) (s : Sort) (names : Names) (tokens : List Token) (o : Option (Tree C × Names × List Token)) → o ≡ parse C table readers d s names tokens → IsRead C table d s names tokens o
sort_read d s names tokens o e = is_read C table readers trees_exact d s names tokens o e

pub sort_end : (d : ℕ) (s : Sort) (old new : Names) (tokens rest : List Token) (t : Tree C) → Some (t, new, rest) ≡ parse C table readers d s old tokens → IsEnd tokens rest
sort_end d s old new tokens rest t e = let h = sort_read d s old tokens (Some (t, new, rest)) e in tree_end C table leaves_end t s old tokens new rest h.0

-- the same, with what is left by its position
pub read_to : (d : ℕ) (s : Sort) (old new : Names) (start : ℕ) (tokens rest : List Token) (t : Tree C) → start ≤ length tokens →
    Some (t, new, rest) ≡ parse C table readers d s old (drop start tokens) → IsRead C table d s old (drop start tokens) (Some (t, new, drop (length tokens - length rest) tokens))
read_to d s old new start tokens rest t h e =
    subst (λ (left : List Token). IsRead C table d s old (drop start tokens) (Some (t, new, left)))
    (sym (position start tokens rest h (sort_end d s old new (drop start tokens) rest t e))) (sort_read d s old (drop start tokens) (Some (t, new, rest)) e)

-- ---- a scope that is closed by what was found in it

pub none_unchanged : {T E : Type 0} (result : Result (Option T) E) (k : Known) (old new : Names) → new ≡ closed k result → (kept k).names ≡ old → IfOk result (λ r. IfNone r (new ≡ old))
none_unchanged (Ok None) k old new same before = same ∙ before
none_unchanged (Ok (Some x)) k old new same before = tt
none_unchanged (Err error) k old new same before = tt

pub failed_unchanged : {T E : Type 0} (result : Result (Option T) E) (k : Known) (old new : Names) → new ≡ closed k result → (kept k).names ≡ old → OnErr result (new ≡ old)
failed_unchanged (Ok x) k old new same before = tt
failed_unchanged (Err error) k old new same before = same ∙ before

-- what is found stays declared
pub found_settled : {T E : Type 0} (view : T → Tree C) (result : Result (Option (T × Bor (List Token))) E) (plain : Names → Option (Found C)) (k : Known) (inside old new : Names) → inside ≡ old →
    new ≡ closed k result → IfOk result (λ r. option_map (λ x. (view x.0, k.names, x.1.now)) r ≡ plain inside) →
    IfOk result (λ r. option_map (λ x. (view x.0, new, x.1.now)) r ≡ plain old)
found_settled view (Ok None) plain k inside old new e same h = rw (← e) h
found_settled view (Ok (Some x)) plain k inside old new e same h = rw (← e, same) h
found_settled view (Err error) plain k inside old new e same h = tt
