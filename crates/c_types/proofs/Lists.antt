-- Lists of types that end.
use Rattle.std.proofs.Common.{◌≡◌, ℕ, ◌-◌, ◌<◌, ◌≤◌, refl, List, [], ◌∷◌, length, drop, true, false, arith}
use Rattle.std.proofs.lemmas.List.{drop_all, length-drop}
use Rattle.c_types.specs.Compatible.{are_compatible}
use Rattle.c_types.specs.Views.{types_of}
use Rattle.c_types.specs.declared.ctype.CType.{CType}

none_right : (xs : List CType) → 0 < length xs → are_compatible (types_of xs) (types_of []) ≡ false
none_right [] h = absurd (omega arith)
none_right (x ∷ xs) h = refl

none_left : (ys : List CType) → 0 < length ys → are_compatible (types_of []) (types_of ys) ≡ false
none_left [] h = absurd (omega arith)
none_left (y ∷ ys) h = refl

pub ends_second : (a b : List CType) (i : ℕ) → i < length a → length b ≤ i → are_compatible (types_of (drop i a)) (types_of (drop i b)) ≡ false
ends_second a b i h k = rw (drop_all i b k) (let e = length-drop i a in none_right (drop i a) (omega arith))

pub ends_first : (a b : List CType) (i : ℕ) → length a ≤ i → i < length b → are_compatible (types_of (drop i a)) (types_of (drop i b)) ≡ false
ends_first a b i h k = rw (drop_all i a h) (let e = length-drop i b in none_left (drop i b) (omega arith))

pub ends_both : (a b : List CType) (i : ℕ) → length a ≤ i → length b ≤ i → are_compatible (types_of (drop i a)) (types_of (drop i b)) ≡ true
ends_both a b i h k = rw (drop_all i a h, drop_all i b k) refl
