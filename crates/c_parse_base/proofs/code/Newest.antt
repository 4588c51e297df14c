-- What the look-up of names tells, and what is left of the names where a use of one is undone.
use Rattle.std.proofs.Common.{◌≡◌, ℕ, ◌+◌, ◌-◌, ◌<◌, ◌≤◌, suc, Bool, true, false, cond, List, [], ◌∷◌, ◌++◌, length, drop, Option, None, Some, IsSome, refl, sym, ap, subst, ◌∙◌, arith}
use Rattle.std.specs.Prelude.{bytes_eq, reverse}
use Rattle.std.proofs.lemmas.List.{drop-drop, length-map, length-reverse, reverse-append}
use Rattle.std.proofs.lemmas.Slice.Eq.{bytes_eq-Decides}
use Rattle.c_tree.specs.WellFormed.{NameUse, Names, is_typedef}
use Rattle.c_parse_base.specs.KnownNames.{kept}
use Rattle.c_parse_base.specs.Newest.{newest, Hiding, known_of, IsLookup}

-- a name that no use has is no typedef name
pub told_nothing : (names : Names) (name : List ℕ) → None ≡ newest names name → false ≡ is_typedef names name
told_nothing [] name h = refl
told_nothing (known ∷ more) name h = by (bytes_eq known.name name) h (told_nothing more name)
  where
    by : (b : Bool) → None ≡ cond b (Some known.is_typedef) (newest more name) → (None ≡ newest more name → false ≡ is_typedef more name) →
        false ≡ cond b known.is_typedef (is_typedef more name)
    by true e rest = absurd (cc)
    by false e rest = rest e

-- else the newest use of the name says what it is
pub told : (names : Names) (name : List ℕ) (typedef : Bool) → Some typedef ≡ newest names name → typedef ≡ is_typedef names name
told [] name typedef h = absurd (cc)
told (known ∷ more) name typedef h = by (bytes_eq known.name name) h (told more name typedef)
  where
    by : (b : Bool) → Some typedef ≡ cond b (Some known.is_typedef) (newest more name) → (Some typedef ≡ newest more name → typedef ≡ is_typedef more name) →
        typedef ≡ cond b known.is_typedef (is_typedef more name)
    by true e rest = cc
    by false e rest = rest e

-- the last of the uses is the newest
last_first : (uses rest : List Hiding) (u : Hiding) → uses ≡ rest ++ u ∷ [] → reverse uses ≡ u ∷ reverse rest
last_first uses rest u e = ap reverse e ∙ reverse-append rest (u ∷ [])

as_many : (uses : List Hiding) → length (known_of (reverse uses)) ≡ length uses
as_many uses = length-map (reverse uses) (λ u. u.known) ∙ length-reverse uses

one_more : (names : Names) (known : NameUse) (n : ℕ) → n ≤ length names →
    kept (record { names = known ∷ names; floor = n }) ≡ kept (record { names = names; floor = n })
one_more names known n h = let e : suc (length names) - n ≡ suc (length names - n) = omega arith in rw e refl

-- one more use leaves the older names
pub one_more_kept : (before same after : List Hiding) (u : Hiding) (n : ℕ) → same ≡ before → after ≡ same ++ u ∷ [] → n ≤ length before →
    kept (record { names = known_of (reverse after); floor = n }) ≡ kept (record { names = known_of (reverse before); floor = n })
one_more_kept before same after u n e f h =
    let below : n ≤ length (known_of (reverse before)) = rw (as_many before) h in
    let parts : reverse after ≡ u ∷ reverse before = last_first after before u (f ∙ ap (λ uses. uses ++ u ∷ []) e) in
    ap (λ uses. kept (record { names = known_of uses; floor = n })) parts ∙ one_more (known_of (reverse before)) u.known n below

-- one fewer is as many as are older than the scope, where more were
pub one_fewer_below : (before after : List Hiding) (u : Hiding) (n : ℕ) → before ≡ after ++ u ∷ [] → n < length (known_of (reverse before)) → n ≤ length after
one_fewer_below before after u n e h =
    let long : length (known_of (reverse before)) ≡ suc (length after) =
    ap (λ uses. length (known_of uses)) (last_first before after u e) ∙ ap suc (as_many after) in
    omega arith

found_first : (found : List ℕ → Option Bool) (u : Hiding) (more : List Hiding) → IsLookup found (u ∷ more) → IsSome (found u.known.name)
found_first found u more h =
    let same : bytes_eq u.known.name u.known.name ≡ true = (bytes_eq-Decides u.known.name u.known.name).1 refl in
    rw (h.finds u.known.name, same) refl

undone_first : (found now : List ℕ → Option Bool) (u : Hiding) (more : List Hiding) → IsLookup found (u ∷ more) →
    ((name : List ℕ) → now name ≡ cond (bytes_eq u.known.name name) u.hidden (found name)) → IsLookup now more
undone_first found now u more h update = record {
  finds = λ name. update name ∙ by name (bytes_eq u.known.name name) refl;
  hides = h.hides.1;
}
  where
    by : (name : List ℕ) (b : Bool) → bytes_eq u.known.name name ≡ b → cond (bytes_eq u.known.name name) u.hidden (found name) ≡ newest (known_of more) name
    by name true e =
        let same : u.known.name ≡ name = (bytes_eq-Decides u.known.name name).0 e in
        rw e (h.hides.0 ∙ ap (newest (known_of more)) same)
    by name false e = rw (h.finds name, e) refl

-- the name of the last use is found
pub found_last : (found : List ℕ → Option Bool) (uses rest : List Hiding) (u last : Hiding) → u ≡ last → uses ≡ rest ++ last ∷ [] →
    IsLookup found (reverse uses) → IsSome (found u.known.name)
found_last found uses rest u last same e h =
    let parts : reverse uses ≡ u ∷ reverse rest = last_first uses rest u (e ∙ ap (λ v. rest ++ v ∷ []) (sym same)) in
    found_first found u (reverse rest) (subst (IsLookup found) parts h)

-- the last use is undone where its name is found as before
pub undone_last : (found now : List ℕ → Option Bool) (uses rest : List Hiding) (u last : Hiding) → u ≡ last → uses ≡ rest ++ last ∷ [] →
    IsLookup found (reverse uses) → ((name : List ℕ) → now name ≡ cond (bytes_eq u.known.name name) u.hidden (found name)) → IsLookup now (reverse rest)
undone_last found now uses rest u last same e h update =
    let parts : reverse uses ≡ u ∷ reverse rest = last_first uses rest u (e ∙ ap (λ v. rest ++ v ∷ []) (sym same)) in
    undone_first found now u (reverse rest) (subst (IsLookup found) parts h) update

-- one more is forgotten
pub one_fewer : (names now left : Names) (n : ℕ) → now ≡ drop 1 left → left ≡ drop n names → now ≡ drop (n + 1) names
one_fewer names now left n e f = e ∙ ap (drop 1) f ∙ drop-drop 1 n names
