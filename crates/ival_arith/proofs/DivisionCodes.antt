-- How quotients and remainders by single numbers are computed.
use Rattle.std.proofs.Common.{◌≡◌, ℕ, ◌+◌, ◌<◌, ◌≤◌, Bool, ℤ, List, [], ◌∷◌, length, drop, get_or, drop-cons, add-one, refl, sym, ap, ◌∙◌}
use Rattle.std.proofs.lemmas.List.{drop_all}
use Rattle.ival_core.specs.declared.value.Shape.{Shape}
use Rattle.ival_core.specs.Joined.{joined}
use Rattle.ival_arith.specs.declared.divisions.Part.{Part}
use Rattle.ival_arith.specs.Values.{part_line, part_lines}

part_more : (part : Part) (signed : Bool) (width : ℕ) (all s : Shape) (y : ℤ) (ys : List ℤ) → part_lines part signed width all s (y ∷ ys) ≡ part_lines part signed width (joined all (part_line part signed width s y)) s ys
unfolding part_lines
part_more part signed width all s y ys = refl

part_none : (part : Part) (signed : Bool) (width : ℕ) (all s : Shape) → part_lines part signed width all s [] ≡ all
unfolding part_lines
part_none part signed width all s = refl

pub part_step : (part : Part) (signed : Bool) (width : ℕ) (all t u s : Shape) (ys : List ℤ) (i : ℕ) (d : ℤ) → i < length ys → part_lines part signed width all s (drop i ys) ≡ u →
    t ≡ joined all (part_line part signed width s (get_or ys i d)) → part_lines part signed width t s (drop (i + 1) ys) ≡ u
part_step part signed width all t u s ys i d h e f =
    ap (λ x. part_lines part signed width x s (drop (i + 1) ys)) f ∙ sym (part_more part signed width all s (get_or ys i d) (drop (i + 1) ys))
    ∙ sym (ap (part_lines part signed width all s) (drop-cons ys i d h ∙ ap (λ k. get_or ys i d ∷ drop k ys) (sym (add-one i)))) ∙ e

pub part_end : (part : Part) (signed : Bool) (width : ℕ) (all u s : Shape) (ys : List ℤ) (i : ℕ) → length ys ≤ i → part_lines part signed width all s (drop i ys) ≡ u → all ≡ u
part_end part signed width all u s ys i h e = sym (part_none part signed width all s) ∙ ap (part_lines part signed width all s) (sym (drop_all i ys h)) ∙ e
