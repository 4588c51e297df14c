-- What the parts of a value tell of its bits.
use Rattle.std.proofs.Common.{◌≡◌, ℕ, Bool, true, List, [], ◌∷◌, map, refl, sym, subst, ap, ◌∙◌}
use Rattle.std.specs.Prelude.{None, Some}
use Rattle.ival_core.specs.declared.value.Ival.{Ival}
use Rattle.avalue_base.specs.Lists.{has_base, all_among, In, AreAscending}
use Rattle.avalue_base.specs.Values.{Address, AVal, Separate, Mixed, base_of, bases_of}
use Rattle.avalue_base.proofs.Lists.{In-all, all-In, In-map, map-In, In-has, has-In}
use Rattle.sorted_lists.specs.Walks.{all_in}
use Rattle.avalue_values.specs.Views.{numbers_in, addresses_of, members_of}
use Rattle.sorted_lists.proofs.Walking.{same_bool, all_in-partners, partners-all_in}

keys_in : {X Y : Type 0} (key : X → ℕ) (other_key : Y → ℕ) (xs : List X) (ys : List Y) → AreAscending key xs → AreAscending other_key ys → all_in key other_key (λ a b. true) xs ys ≡ all_among (map key xs) (map other_key ys)
keys_in key other_key xs ys a b =
    same_bool (all_in key other_key (λ a b. true) xs ys) (all_among (map key xs) (map other_key ys))
    (λ h. In-all (has_base (map other_key ys)) (map key xs) (λ q i.
    let x = map-In key xs q i in
    let p = all_in-partners key other_key (λ a b. true) xs ys h x.0 x.1 in
    In-has (map other_key ys) q (subst (In (map other_key ys)) (sym (x.2 ∙ p.same)) (In-map other_key ys p.partner p.among))))
    (λ h. partners-all_in key other_key (λ a b. true) xs a ys b (λ x i.
    let y = map-In other_key ys (key x) (has-In (map other_key ys) (key x) (all-In (has_base (map other_key ys)) (map key xs) h (key x) (In-map key xs x i))) in
    record { partner = y.0; among = y.1; same = y.2; within = refl }))

map_same : (bs : List ℕ) → map (λ b. b) bs ≡ bs
map_same [] = refl
map_same (b ∷ bs) = ap (λ zs. b ∷ zs) (map_same bs)

pub mixes_in : (v w : AVal) (r : Bool) (ms ns : List ℕ) → numbers_in v ≡ None → numbers_in w ≡ None → ms ≡ members_of v → ns ≡ members_of w → AreAscending (λ b. b) ms → AreAscending (λ b. b) ns →
    r ≡ all_in (λ b. b) (λ b. b) (λ a b. true) ms ns → r ≡ all_among (bases_of v) (bases_of w)
mixes_in (Separate as' xs) w r ms ns e f g h a b k = cc
mixes_in (Mixed bs) (Separate cs ys) r ms ns e f g h a b k = cc
mixes_in (Mixed bs) (Mixed cs) r ms ns e f g h a b k =
    k ∙ keys_in (λ b. b) (λ b. b) ms ns a b ∙ ap (λ z. all_among z (map (λ b. b) ns)) (map_same ms ∙ g) ∙ ap (all_among bs) (map_same ns ∙ h)

pub mix_in_addresses : (v w : AVal) (r : Bool) (n : Ival) (ms : List ℕ) (ys : List Address) → numbers_in v ≡ None → numbers_in w ≡ Some n → ms ≡ members_of v → ys ≡ addresses_of w → AreAscending (λ b. b) ms → AreAscending base_of ys →
    r ≡ all_in (λ b. b) base_of (λ a b. true) ms ys → r ≡ all_among (bases_of v) (bases_of w)
mix_in_addresses (Separate as' xs) w r n ms ys e f g h a b k = cc
mix_in_addresses (Mixed bs) (Mixed cs) r n ms ys e f g h a b k = cc
mix_in_addresses (Mixed bs) (Separate cs zs) r n ms ys e f g h a b k =
    k ∙ keys_in (λ b. b) base_of ms ys a b ∙ ap (λ z. all_among z (map base_of ys)) (map_same ms ∙ g) ∙ ap (λ z. all_among bs (map base_of z)) h

pub addresses_in_mix : (v w : AVal) (r : Bool) (n : Ival) (xs : List Address) (ns : List ℕ) → numbers_in v ≡ Some n → numbers_in w ≡ None → xs ≡ addresses_of v → ns ≡ members_of w → AreAscending base_of xs → AreAscending (λ b. b) ns →
    r ≡ all_in base_of (λ b. b) (λ a b. true) xs ns → r ≡ all_among (bases_of v) (bases_of w)
addresses_in_mix (Mixed bs) w r n xs ns e f g h a b k = cc
addresses_in_mix (Separate as' ys) (Separate cs zs) r n xs ns e f g h a b k = cc
addresses_in_mix (Separate as' ys) (Mixed cs) r n xs ns e f g h a b k =
    k ∙ keys_in base_of (λ b. b) xs ns a b ∙ ap (λ z. all_among (map base_of z) (map (λ b. b) ns)) g ∙ ap (all_among (map base_of ys)) (map_same ns ∙ h)

pub addresses_in_addresses : (v w : AVal) (r : Bool) (n m : Ival) (xs ys : List Address) → numbers_in v ≡ Some n → numbers_in w ≡ Some m → xs ≡ addresses_of v → ys ≡ addresses_of w → AreAscending base_of xs → AreAscending base_of ys →
    r ≡ all_in base_of base_of (λ a b. true) xs ys → r ≡ all_among (bases_of v) (bases_of w)
addresses_in_addresses (Mixed bs) w r n m xs ys e f g h a b k = cc
addresses_in_addresses (Separate as' us) (Mixed cs) r n m xs ys e f g h a b k = cc
addresses_in_addresses (Separate as' us) (Separate cs ws) r n m xs ys e f g h a b k =
    k ∙ keys_in base_of base_of xs ys a b ∙ ap (λ z. all_among (map base_of z) (map base_of ys)) g ∙ ap (λ z. all_among (map base_of us) (map base_of z)) h
