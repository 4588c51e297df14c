-- What is widened by itself stays as it is.
use Rattle.std.proofs.Common.{◌≡◌, ℕ, ◌<◌, ◌≤◌, Bool, true, false, cond, ◌||◌, ℤ, List, [], ◌∷◌, refl, sym, ap, ◌∙◌, nat_lt, arith}
use Rattle.std.specs.Prelude.{int_lt, Option, None, Some}
use Rattle.std.proofs.lemmas.Bool.{le-ltb}
use Rattle.std.proofs.lemmas.Int.{ints}
use Rattle.c_base.specs.declared.integer.Machine.TheVariants.{Lp64}
use Rattle.c_memory.specs.Layouts.{Layout}
use Rattle.ival_core.specs.declared.value.Shape.{Shape}
use Rattle.ival_core.specs.declared.value.Ival.{Ival}
use Rattle.ival_core.specs.Views.{bounds_of}
use Rattle.ival_core.specs.Widenings.{between, widened_from, widened}
use Rattle.ival_core.proofs.Orders.{lt_true}
use Rattle.exact_laws.specs.Laws.{KeepsSole}
use Rattle.exact_laws.proofs.Keeping.{widening_keeps}
use Rattle.run_merges.specs.Widened.{widened_cell as kept_cell}
use Rattle.avalue_base.specs.Lists.{put, merged, union_of}
use Rattle.avalue_base.specs.Numbers.{join_of}
use Rattle.avalue_base.specs.Values.{Address, AVal, Separate, Mixed, Cellv, base_of}
use Rattle.avalue_base.specs.Meets.{set_of, meet_of}
use Rattle.avalue_base.specs.Ops.{ops, Fine}
use Rattle.avalue_base.specs.Meaning.{Allows, Tint, Bare, Sure}
use Rattle.avalue_base.specs.Singles.{SameCell}
use Rattle.avalue_base.proofs.Sets.{join_same}
use Rattle.avalue_base.proofs.Meets.{set_same, meet_same}
use Rattle.avalue_base.proofs.Ordering.{fine_laws, order_laws}
use Rattle.avalue_parts.specs.Widened.{widen_of, widened_set, widened_offsets, offset_marks, widened_address, bit_marks}
use Rattle.avalue_values.specs.Widenings.{widened_values}
use Rattle.cell_contents.specs.Reading.{Bound}
use Rattle.cell_contents.specs.Soles.{is_sole, is_rigid}
use Rattle.cell_contents.proofs.Soles.{sole_laws}
use Rattle.cell_contents.proofs.Worlds.{world_meaning}
use Rattle.cell_instances.specs.Growing.{grown}

not_less : (n : ℤ) → int_lt n n ≡ false
not_less n = at (int_lt n n) refl
  where
    at : (b : Bool) → int_lt n n ≡ b → b ≡ false
    at true e = absurd (let l = lt_true n n e in omega (arith, ints))
    at false e = refl

shape_again : (s : Shape) (marks : List ℤ) → widened s s marks ≡ s
shape_again s marks = at (bounds_of s) refl
  where
    at : (o : Option (ℤ × ℤ)) → bounds_of s ≡ o → widened_from marks s o ≡ s
    at None e = refl
    at (Some (low, high)) e = ap (between marks low high s) e ∙ rw (not_less low, not_less high) refl

set_again : (a : Ival) → join_of a a ≡ a
set_again a = sym (join_same a a a (record { first = λ n h. h; second = λ n h. h; least = λ u f g. f }))

marks_again : (marks : List ℤ) (a : Ival) → widen_of marks a a ≡ a
unfolding widen_of
marks_again marks a = ap (λ (j : Ival). set_of (widened a.shape j.shape marks)) (set_again a) ∙ ap set_of (shape_again a.shape marks) ∙ sym (set_same a a.shape refl)

meet_again : (a : Ival) → meet_of a a ≡ a
meet_again a = sym (meet_same a a a (λ n. ((λ h. (h, h)), (λ h. h.0))))

both_again : (marks own : List ℤ) (a : Ival) → widened_set marks own a a ≡ a
both_again marks own a = ap (λ (x : Ival). meet_of x (widen_of own a a)) (marks_again marks a) ∙ ap (meet_of a) (marks_again own a) ∙ meet_again a

none_below : (n : ℕ) → nat_lt n n ≡ false
none_below n = le-ltb n n (omega arith)

list_again : {X : Type 0} (key : X → ℕ) (both : X → X → X) → ((x : X) → both x x ≡ x) → (xs : List X) → merged key both xs xs ≡ xs
unfolding merged put
list_again key both h [] = refl
list_again key both h (x ∷ xs) = rw (none_below (key x), h x, list_again key both h xs) refl

address_again : (size_of : ℕ → ℕ) (marks : List ℤ) (a : Address) → widened_address size_of marks a a ≡ a
unfolding widened_offsets
address_again size_of marks a = ap (λ (x : Ival). record { base = a.base; offsets = x }) (both_again marks (offset_marks (size_of a.base)) a.offsets)

value_again : (size_of : ℕ → ℕ) (marks own : List ℤ) (v : AVal) → widened_values size_of marks own v v ≡ v
value_again size_of marks own (Separate ns xs) =
    ap (λ (x : Ival). Separate x (merged base_of (widened_address size_of marks) xs xs)) (both_again marks own ns) ∙ ap (Separate ns) (list_again base_of (widened_address size_of marks) (address_again size_of marks) xs)
value_again size_of marks own (Mixed bs) = ap Mixed (list_again (λ b. b) (λ x y. x) (λ x. refl) bs)

twice : (b : Bool) → (b || b) ≡ b
twice true = refl
twice false = refl

pub grown_again : (size_of : ℕ → ℕ) (marks : List ℤ) (k : ℕ) (c : Cellv) → grown size_of marks k c c ≡ c
grown_again size_of marks k c =
    ap (λ (v : AVal). record { value = v; uninit = c.uninit || c.uninit; dead = c.dead || c.dead }) (value_again size_of marks (bit_marks k) c.value)
    ∙ ap (λ (u : Bool). record { value = c.value; uninit = u; dead = c.dead || c.dead }) (twice c.uninit) ∙ ap (λ (d : Bool). record { value = c.value; uninit = c.uninit; dead = d }) (twice c.dead)

pub grown_keeps : (l : Layout) (size_of : ℕ → ℕ) (marks : List ℤ) → KeepsSole (Fine Lp64) (Allows l) is_sole (kept_cell (ops Lp64) (grown size_of marks))
grown_keeps l size_of marks =
    widening_keeps (ops Lp64) (Fine Lp64) Tint Bare Sure SameCell (Allows l) Bound is_sole is_rigid (fine_laws Lp64) (order_laws Lp64) (world_meaning l) (sole_laws l) (grown size_of marks) (λ k c f s. grown_again size_of marks k c)
