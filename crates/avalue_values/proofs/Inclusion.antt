-- What lies in what, of lists of addresses and of bases.
use Rattle.std.proofs.Common.{◌≡◌, ℕ, Bool, true, List, map, refl, sym, subst, ◌∙◌}
use Rattle.std.specs.List.{list_all}
use Rattle.avalue_base.specs.Lists.{has_base, all_among, In, AreAscending}
use Rattle.avalue_base.specs.Numbers.{lies_in}
use Rattle.avalue_base.specs.Values.{Address, base_of}
use Rattle.avalue_base.specs.Order.{is_part, is_among}
use Rattle.avalue_base.proofs.Lists.{In-any, any-In, all-In, In-all, In-has, has-In, In-map, map-In}
use Rattle.avalue_base.proofs.Ordering.{part_base, part_lies, part_from}
use Rattle.sorted_lists.specs.Walks.{all_in}
use Rattle.sorted_lists.proofs.Walking.{same_bool, all_in-partners, partners-all_in}

abbrev pub offsets_lie : Address → Address → Bool
offsets_lie a b = lies_in a.offsets.shape b.offsets.shape

pub addresses_in : (xs ys : List Address) → AreAscending base_of xs → AreAscending base_of ys → all_in base_of base_of offsets_lie xs ys ≡ list_all (is_among ys) xs
addresses_in xs ys a b =
    same_bool (all_in base_of base_of offsets_lie xs ys) (list_all (is_among ys) xs)
    (λ h. In-all (is_among ys) xs (λ x i. let p = all_in-partners base_of base_of offsets_lie xs ys h x i in In-any (is_part x) ys p.partner p.among (part_from x p.partner p.same p.within)))
    (λ h. partners-all_in base_of base_of offsets_lie xs a ys b (λ x i.
    let p = any-In (is_part x) ys (all-In (is_among ys) xs h x i) in
    record { partner = p.0; among = p.1; same = part_base x p.0 p.2; within = part_lies x p.0 p.2 }))

pub bases_in : (xs ys : List ℕ) → AreAscending (λ b. b) xs → AreAscending (λ b. b) ys → all_in (λ b. b) (λ b. b) (λ a b. true) xs ys ≡ all_among xs ys
bases_in xs ys a b =
    same_bool (all_in (λ b. b) (λ b. b) (λ a b. true) xs ys) (all_among xs ys)
    (λ h. In-all (has_base ys) xs (λ x i. let p = all_in-partners (λ b. b) (λ b. b) (λ a b. true) xs ys h x i in In-has ys x (subst (In ys) (sym p.same) p.among)))
    (λ h. partners-all_in (λ b. b) (λ b. b) (λ a b. true) xs a ys b (λ x i. record { partner = x; among = has-In ys x (all-In (has_base ys) xs h x i); same = refl; within = refl }))

pub addresses_among : (xs : List Address) (ys : List ℕ) → AreAscending base_of xs → AreAscending (λ b. b) ys → all_in base_of (λ b. b) (λ a b. true) xs ys ≡ all_among (map base_of xs) ys
addresses_among xs ys a b =
    same_bool (all_in base_of (λ b. b) (λ a b. true) xs ys) (all_among (map base_of xs) ys)
    (λ h. In-all (has_base ys) (map base_of xs) (λ q i.
    let x = map-In base_of xs q i in
    let p = all_in-partners base_of (λ b. b) (λ a b. true) xs ys h x.0 x.1 in
    In-has ys q (subst (In ys) (sym (x.2 ∙ p.same)) p.among)))
    (λ h. partners-all_in base_of (λ b. b) (λ a b. true) xs a ys b (λ x i. record {
      partner = x.base;
      among = has-In ys x.base (all-In (has_base ys) (map base_of xs) h x.base (In-map base_of xs x i));
      same = refl;
      within = refl;
    }))
