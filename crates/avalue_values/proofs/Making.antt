-- Values that are made of two.
use Rattle.std.proofs.Common.{◌≡◌, ℕ, true, false, ◌&&◌, List, [], ◌∷◌, refl, sym, subst, ap, ◌∙◌}
use Rattle.std.specs.Prelude.{Some, Result, Ok, Err, IfOk}
use Rattle.smallvec.specs.SmallVec.{SmallVec}
use Rattle.std.specs.List.{list_all}
use Rattle.avalue_base.specs.Lists.{union_of, AreAscending}
use Rattle.avalue_base.specs.Numbers.{is_empty_list, no_numbers}
use Rattle.avalue_base.specs.Values.{Address, Separate, base_of}
use Rattle.avalue_base.specs.Pieces.{has_offsets}
use Rattle.avalue_base.specs.Meets.{met_address, common, addresses_in}
use Rattle.avalue_base.proofs.Meets.{meet_sound, common_ascending, all_picked}
use Rattle.avalue_base.proofs.Sounds.{union_ascending, union_some_left, union_some_right}

-- ---- the bases of two values

pub union_some : (xs ys : List ℕ) → (is_empty_list xs && is_empty_list ys) ≡ false → is_empty_list (union_of xs ys) ≡ false
union_some [] ys h = union_some_right [] ys h
union_some (x ∷ xs) ys h = union_some_left (x ∷ xs) ys refl

pub both_ordered : {E : Type 0} (r : Result (SmallVec ℕ) E) (bs cs us vs : List ℕ) → us ≡ bs → vs ≡ cs → AreAscending (λ b. b) bs → AreAscending (λ b. b) cs → IfOk r (λ list. list.items ≡ union_of us vs) → IfOk r (λ list. AreAscending (λ b. b) list.items)
both_ordered (Err x) bs cs us vs e f a b h = tt
both_ordered (Ok list) bs cs us vs e f a b h = subst (AreAscending (λ b. b)) (sym (h ∙ ap (λ z. union_of z vs) e ∙ ap (union_of bs) f)) (union_ascending bs cs a b)

-- ---- what two values have in common

pub common_sound : (xs ys zs : List Address) → zs ≡ common base_of base_of met_address xs ys → AreAscending base_of xs → AreAscending base_of ys → list_all has_offsets xs ≡ true → list_all has_offsets ys ≡ true →
    AreAscending base_of zs × (list_all has_offsets zs ≡ true)
common_sound xs ys zs e a b h k =
    subst (λ us. AreAscending base_of us × (list_all has_offsets us ≡ true)) (sym e) (meet_sound (Separate no_numbers xs) (Separate no_numbers ys) (a, h) (b, k))

pub picked_sound : (xs zs : List Address) (bs : List ℕ) → zs ≡ addresses_in xs bs → AreAscending base_of xs → AreAscending (λ b. b) bs → list_all has_offsets xs ≡ true → AreAscending base_of zs × (list_all has_offsets zs ≡ true)
picked_sound xs zs bs e a b h =
    subst (λ us. AreAscending base_of us × (list_all has_offsets us ≡ true)) (sym e)
    ((common_ascending base_of (λ n. n) (λ a b. Some a) (λ a b z f. own a z f) xs a bs), all_picked xs bs h)
  where
    own : (a z : Address) → Some a ≡ Some z → base_of z ≡ base_of a
    own a z f = let d : z ≡ a = cc in ap base_of d

pub common_ordered : (bs cs zs : List ℕ) → zs ≡ common (λ b. b) (λ b. b) (λ a b. Some a) bs cs → AreAscending (λ b. b) bs → AreAscending (λ b. b) zs
common_ordered bs cs zs e a = subst (AreAscending (λ b. b)) (sym e) (common_ascending (λ b. b) (λ b. b) (λ a b. Some a) (λ a b z f. own a z f) bs a cs)
  where
    own : (a z : ℕ) → Some a ≡ Some z → z ≡ a
    own a z f = cc
