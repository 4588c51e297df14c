-- What a store holds, read from its entries.
use Rattle.std.proofs.Common.{◌≡◌, ℕ, List, [], ◌∷◌, Bool, true, false, refl, ap, ◌∙◌, cond, Option, None, Some}
use Rattle.std.specs.Prelude.{find, map, reverse, Vec}
use mathlib.Core.List.{reverse_aux}
use Rattle.std.specs.Option.{option_map}
use Rattle.std.specs.declared.alloc.Global.{Global}
use Rattle.eva_io.specs.Memory.{content_of, file_of, is_named}

-- a search through images is a search through what they are of, also onto a list that is already there
find-map_onto : {X Y : Type 0} (p : Y → Bool) (f : X → Y) (xs onto : List X) →
    find p (reverse_aux (map f xs) (map f onto)) ≡ option_map f (find (λ x. p (f x)) (reverse_aux xs onto))
find-map_onto p f [] onto = find-map p f onto
  where
    find-map : {X Y : Type 0} (p : Y → Bool) (f : X → Y) (xs : List X) →
        find p (map f xs) ≡ option_map f (find (λ x. p (f x)) xs)
    find-map p f [] = refl
    find-map p f (x ∷ xs) = chosen f x (p (f x)) _ _ (find-map p f xs)
      where
        chosen : {X Y : Type 0} (f : X → Y) (x : X) (own : Bool) (image : Option Y) (found : Option X) →
            image ≡ option_map f found →
            cond own (Some (f x)) image ≡ option_map f (cond own (Some x) found)
        chosen f x true image found same = refl
        chosen f x false image found same = same
find-map_onto p f (x ∷ xs) onto = find-map_onto p f xs (x ∷ onto)

bytes_of : (found : Option (List ℕ × Vec ℕ Global)) →
    option_map (λ entry. entry.1) (option_map file_of found) ≡ option_map (λ entry. entry.1.items) found
bytes_of None = refl
bytes_of (Some entry) = refl

-- the content of a name is that of its last entry
pub content_of-entries : (files : List (List ℕ × Vec ℕ Global)) (name : List ℕ) →
    content_of (map file_of files) name ≡ option_map (λ entry. entry.1.items) (find (is_named name) (reverse files))
content_of-entries files name =
    ap (option_map (λ entry. entry.1)) (find-map_onto (is_named name) file_of files []) ∙ bytes_of _
