-- What bases know of their names is what the program says of them.
use Rattle.std.proofs.Common.{◌≡◌, ℕ, suc, ◌+◌, Bool, true, false, cond, ◌&&◌, List, [], ◌∷◌, map, refl, ap, sym, ◌∙◌, Some}
use Rattle.std.proofs.Math.Path.{fun_ext}
use Rattle.std.proofs.lemmas.List.Sums.{sum-map, sum_by-cons}
use Rattle.c_types.specs.Types.{CType}
use Rattle.c_types.specs.Compatible.{is_compatible}
use Rattle.c_program.specs.declared.program.Base.{Base as CodeBase}
use Rattle.c_program.specs.declared.program.TypedProgram.{TypedProgram}
use Rattle.c_program.specs.Syntax.{Program}
use Rattle.c_program.specs.Names.{is_named}
use Rattle.c_program.specs.StaticCalls.{is_func, is_function_of, entered_from, callees, KnowFrom, KnowsNames}
use Rattle.c_program.specs.Views.{base_of, program_of}
use Rattle.c_program.specs.Weights.{found_in, function_weight, weight}
use Rattle.c_typed_stmt.specs.Weights.{counted}
use Rattle.c_weights.specs.Flags.{is_flagged, flag, flagged, flagged_weight}

module _ (p : Program) (t : CType) where
  same_flag : (n : ℕ) (b : CodeBase) → (is_func b.sort ≡ true → b.named ≡ is_named n p) → is_flagged t (base_of b) ≡ (is_function_of t (Some (base_of b)) && is_named n p)
  same_flag n b know = by_sort (is_func b.sort) refl
    where
      by_sort : (s : Bool) → is_func b.sort ≡ s → is_flagged t (base_of b) ≡ (is_function_of t (Some (base_of b)) && is_named n p)
      by_sort true e = rw (know e) refl
      by_sort false e = rw e refl

  pub flagged_from : (n : ℕ) (bs : List CodeBase) → KnowFrom p n (map base_of bs) → flagged bs t ≡ entered_from p t n (map base_of bs)
  flagged_from n [] know = refl
  flagged_from n (b ∷ bs) know =
      let parts : flagged (b ∷ bs) t ≡ flag t b + flagged bs t =
      sum-map (flag t) (b ∷ bs) ∙ sum_by-cons (flag t) b bs ∙ ap (λ k. flag t b + k) (sym (sum-map (flag t) bs)) in
      let own : flag t b ≡ cond (is_function_of t (Some (base_of b)) && is_named n p) 1 0 = ap (λ s. cond s 1 0) (same_flag n b know.0) in
      parts ∙ ap (λ k. k + flagged bs t) own ∙ ap (λ k. cond (is_function_of t (Some (base_of b)) && is_named n p) 1 0 + k) (flagged_from (suc n) bs know.1)

pub flagged_callees : (p : TypedProgram) → KnowsNames (program_of p) → flagged p.bases ≡ callees (program_of p)
flagged_callees p know = fun_ext (λ t. flagged_from (program_of p) t 0 p.bases know)

pub same_weight : (p : TypedProgram) (base : ℕ) → KnowsNames (program_of p) → flagged_weight p base ≡ weight p base
same_weight p base know = ap (λ count. counted (function_weight count) (found_in p.functions base)) (flagged_callees p know)
