-- What the parts of a value tell of it.
use Rattle.std.proofs.Common.{◌≡◌, ◌⊎◌, ◌↔◌, ℕ, ◌/◌, ◌-◌, ◌^◌, ◌==◌, Bool, true, false, cond, List, [], ◌∷◌, map, refl, sym, subst, ap, ◌∙◌, inl, inr}
use Rattle.std.specs.Prelude.{None, Some, Result, Ok, Err, IfOk, not, pos}
use Rattle.smallvec.specs.SmallVec.{SmallVec}
use Rattle.std.specs.List.{list_all}
use Rattle.ival_core.specs.Sets.{apart}
use Rattle.ival_core.specs.Ranges.{run_shape}
use Rattle.avalue_base.specs.Deaths.{without, value_left}
use Rattle.avalue_base.proofs.Forgetting.{In-without, left_offsets}
use Rattle.ival_core.specs.declared.value.Ival.{Ival}
use Rattle.ival_core.specs.declared.value.Shape.TheVariants.{Few}
use Rattle.ival_core.proofs.Canonical.{same_ival}
use Rattle.avalue_base.specs.Lists.{AreAscending, all_among, union_of}
use Rattle.avalue_base.specs.Numbers.{lies_in, is_empty, is_empty_list, no_numbers, words, join_of}
use Rattle.avalue_base.specs.Values.{Address, AVal, Separate, Mixed, base_of, bases_of}
use Rattle.avalue_base.specs.Order.{is_among, value_in, united, join_values}
use Rattle.avalue_base.specs.Pieces.{has_offsets, no_value}
use Rattle.avalue_base.specs.Ops.{IsSound}
use Rattle.avalue_base.proofs.Sounds.{join_sound, map_ascending, union_ascending, union_some_left, union_some_right}
use Rattle.avalue_base.proofs.Joins.{value_join_left, value_join_right}
use Rattle.avalue_base.proofs.Means.{value_join_least}
use Rattle.std.specs.FinSet.{contains}
use Rattle.c_memory.specs.Layouts.{Layout}
use Rattle.c_memory.specs.Values.{Value}
use Rattle.avalue_base.specs.Lists.{has_base, gathered}
use Rattle.avalue_base.specs.Meaning.{Means, IsWord}
use Rattle.avalue_base.specs.Meets.{meet_values}
use Rattle.avalue_base.proofs.Leaving.{left_means, gathered_means}
use Rattle.avalue_base.proofs.Meets.{meet_means, meet_first}
use Rattle.sorted_lists.specs.Walks.{all_in}
use Rattle.avalue_values.specs.Views.{numbers_in, addresses_of, members_of, address_value, IsMixed}
use Rattle.avalue_values.proofs.Inclusion.{offsets_lie, addresses_in, bases_in, addresses_among}

-- ---- inclusion

pub mixes : (v w : AVal) (r : Bool) (ms ns : List ℕ) → numbers_in v ≡ None → numbers_in w ≡ None → ms ≡ members_of v → ns ≡ members_of w → AreAscending (λ b. b) ms → AreAscending (λ b. b) ns →
    r ≡ all_in (λ b. b) (λ b. b) (λ a b. true) ms ns → r ≡ value_in v w
mixes (Separate as' xs) w r ms ns e f g h a b k = cc
mixes (Mixed bs) (Separate cs ys) r ms ns e f g h a b k = cc
mixes (Mixed bs) (Mixed cs) r ms ns e f g h a b k = k ∙ bases_in ms ns a b ∙ ap (λ z. all_among z ns) g ∙ ap (all_among bs) h

pub in_mix : (v w : AVal) (r : Bool) (n : Ival) (xs : List Address) (ns : List ℕ) → numbers_in v ≡ Some n → numbers_in w ≡ None → xs ≡ addresses_of v → ns ≡ members_of w → AreAscending base_of xs →
    AreAscending (λ b. b) ns → r ≡ all_in base_of (λ b. b) (λ a b. true) xs ns → r ≡ value_in v w
in_mix (Mixed bs) w r n xs ns e f g h a b k = cc
in_mix (Separate as' ys) (Separate cs zs) r n xs ns e f g h a b k = cc
in_mix (Separate as' ys) (Mixed cs) r n xs ns e f g h a b k = k ∙ addresses_among xs ns a b ∙ ap (λ z. all_among (map base_of z) ns) g ∙ ap (all_among (map base_of ys)) h

pub none_in : (v w : AVal) (n : Ival) → numbers_in v ≡ None → numbers_in w ≡ Some n → false ≡ value_in v w
none_in (Separate as' xs) w n e f = cc
none_in (Mixed bs) (Mixed cs) n e f = cc
none_in (Mixed bs) (Separate cs ys) n e f = refl

pub some_is : (a b : Ival) → Some a ≡ Some b → a ≡ b
some_is a b e = cc

pub separates : (v w : AVal) (r s : Bool) (n m : Ival) (xs ys : List Address) → numbers_in v ≡ Some n → numbers_in w ≡ Some m → xs ≡ addresses_of v → ys ≡ addresses_of w → AreAscending base_of xs → AreAscending base_of ys →
    s ≡ lies_in n.shape m.shape → s ≡ true → r ≡ all_in base_of base_of offsets_lie xs ys → r ≡ value_in v w
separates (Mixed bs) w r s n m xs ys e f g h a b t u k = cc
separates (Separate as' us) (Mixed cs) r s n m xs ys e f g h a b t u k = cc
separates (Separate as' us) (Separate cs ws) r s n m xs ys e f g h a b t u k =
    let p : as' ≡ n = some_is as' n e in
    let q : cs ≡ m = some_is cs m f in
    let l : lies_in as'.shape cs.shape ≡ true = ap (λ (z : Ival). lies_in z.shape cs.shape) p ∙ ap (λ (z : Ival). lies_in n.shape z.shape) q ∙ sym t ∙ u in
    let d : r ≡ list_all (is_among ws) us = k ∙ addresses_in xs ys a b ∙ ap (λ z. list_all (is_among ys) z) g ∙ ap (λ z. list_all (is_among z) us) h in
    rw l d

pub not_separates : (v w : AVal) (s : Bool) (n m : Ival) → numbers_in v ≡ Some n → numbers_in w ≡ Some m → s ≡ lies_in n.shape m.shape → s ≡ false → false ≡ value_in v w
not_separates (Mixed bs) w s n m e f t u = cc
not_separates (Separate as' us) (Mixed cs) s n m e f t u = cc
not_separates (Separate as' us) (Separate cs ws) s n m e f t u =
    let p : as' ≡ n = some_is as' n e in
    let q : cs ≡ m = some_is cs m f in
    let l : lies_in as'.shape cs.shape ≡ false = ap (λ (z : Ival). lies_in z.shape cs.shape) p ∙ ap (λ (z : Ival). lies_in n.shape z.shape) q ∙ sym t ∙ u in
    rw l refl

-- ---- joins

pub join_separate : (v w : AVal) (n m : Ival) (xs ys : List Address) → numbers_in v ≡ Some n → numbers_in w ≡ Some m → xs ≡ addresses_of v → ys ≡ addresses_of w → Separate (join_of n m) (united xs ys) ≡ join_values v w
join_separate (Mixed bs) w n m xs ys e f g h = cc
join_separate (Separate as' us) (Mixed cs) n m xs ys e f g h = cc
join_separate (Separate as' us) (Separate cs ws) n m xs ys e f g h =
    let p : n ≡ as' = sym (some_is as' n e) in
    let q : m ≡ cs = sym (some_is cs m f) in
    rw (p, q, g, h) refl

pub join_mixed : (v w : AVal) → IsMixed v ⊎ IsMixed w → Mixed (union_of (bases_of v) (bases_of w)) ≡ join_values v w
join_mixed (Mixed bs) w m = refl
join_mixed (Separate ns xs) (Mixed cs) m = refl
join_mixed (Separate ns xs) (Separate ms ys) (inl m) = absurd m
join_mixed (Separate ns xs) (Separate ms ys) (inr m) = absurd m

pub none_mixed : (v : AVal) → numbers_in v ≡ None → IsMixed v
none_mixed (Separate ns xs) e = cc
none_mixed (Mixed bs) e = tt

-- ---- an address

pub empty_is : (v : Ival) → v.shape ≡ no_numbers.shape → v ≡ no_numbers
empty_is v e = same_ival v no_numbers e

pub address_none : (b : ℕ) (offsets e : Ival) (v : AVal) → v ≡ Separate e [] → e.shape ≡ Few (record { items = [] }) → is_empty offsets.shape ≡ true → v ≡ address_value b offsets
unfolding no_numbers
address_none b offsets e v h f g = rw g (h ∙ ap (λ z. Separate z []) (same_ival e no_numbers f))

pub address_some : (b : ℕ) (offsets e : Ival) (a : Address) (xs : List Address) → a.base ≡ b → a.offsets ≡ offsets → e.shape ≡ Few (record { items = [] }) → xs ≡ a ∷ [] → is_empty offsets.shape ≡ false → Separate e xs ≡ address_value b offsets
unfolding no_numbers
address_some b offsets e a xs h k f m g =
    let one : a ≡ record { base = b; offsets = offsets } = ap (λ z. record { base = z; offsets = a.offsets }) h ∙ ap (λ z. record { base = b; offsets = z }) k in
    rw g (ap (λ z. Separate z xs) (same_ival e no_numbers f) ∙ ap (Separate no_numbers) (m ∙ ap (λ z. z ∷ []) one))

-- ---- the bases of a value

pub bases_some : (v : AVal) → IsSound v → IsMixed v → is_empty_list (bases_of v) ≡ false
bases_some (Separate ns xs) s m = absurd m
bases_some (Mixed bs) s m = s.1

pub union_sound : (v w : AVal) (bs cs : List ℕ) → IsMixed v ⊎ IsMixed w → AreAscending (λ b. b) bs → AreAscending (λ b. b) cs → (IsMixed v → is_empty_list bs ≡ false) → (IsMixed w → is_empty_list cs ≡ false) → IsSound (Mixed (union_of bs cs))
union_sound v w bs cs m a b f g = (union_ascending bs cs a b, elim m [ inl x ↦ union_some_left bs cs (f x) | inr x ↦ union_some_right bs cs (g x) ])

pub union_same : (v w : AVal) (bs cs : List ℕ) → IsMixed v ⊎ IsMixed w → bs ≡ bases_of v → cs ≡ bases_of w → Mixed (union_of bs cs) ≡ join_values v w
union_same v w bs cs m e f = ap (λ z. Mixed (union_of z cs)) e ∙ ap (λ z. Mixed (union_of (bases_of v) z)) f ∙ join_mixed v w m

pub ordered : {E : Type 0} (r : Result (SmallVec ℕ) E) (n : Ival) (xs ys : List Address) (v : AVal) → IsSound v → v ≡ Separate n xs → ys ≡ xs → IfOk r (λ list. list.items ≡ map base_of ys) → IfOk r (λ list. AreAscending (λ b. b) list.items)
ordered (Ok list) n xs ys v s e f h = subst (AreAscending (λ b. b)) (sym (h ∙ ap (map base_of) f)) (map_ascending xs (subst IsSound e s).0)
ordered (Err x) n xs ys v s e f h = tt

pub union_list_sound : (v w : AVal) (bs cs us : List ℕ) → us ≡ union_of bs cs → IsMixed v ⊎ IsMixed w → AreAscending (λ b. b) bs → AreAscending (λ b. b) cs → (IsMixed v → is_empty_list bs ≡ false) → (IsMixed w → is_empty_list cs ≡ false) →
    AreAscending (λ b. b) us × (is_empty_list us ≡ false)
union_list_sound v w bs cs us e m a b f g = subst (λ zs. AreAscending (λ b. b) zs × (is_empty_list zs ≡ false)) (sym e) (union_sound v w bs cs m a b f g)

pub union_addresses_sound : (xs ys us : List Address) → us ≡ united xs ys → AreAscending base_of xs → AreAscending base_of ys → list_all has_offsets xs ≡ true → list_all has_offsets ys ≡ true →
    AreAscending base_of us × (list_all has_offsets us ≡ true)
union_addresses_sound xs ys us e a b c d = subst (λ zs. AreAscending base_of zs × (list_all has_offsets zs ≡ true)) (sym e) (join_sound (Separate no_numbers xs) (Separate no_numbers ys) (a, c) (b, d))

-- ---- after a death

pub words_shape : run_shape (pos 0) 1 (apart (pos 0) (pos (2 ^ 64 - 1)) / 1) ≡ words.shape
unfolding words apart
words_shape = refl

pub without_ascending : {X : Type 0} (key : X → ℕ) (base : ℕ) (xs : List X) → AreAscending key xs → AreAscending key (without key base xs)
without_ascending key base [] a = tt
without_ascending key base (x ∷ xs) a = by_test (not (key x == base)) (without_ascending key base xs a.1)
  where
    by_test : (b : Bool) → AreAscending key (without key base xs) → AreAscending key (cond b (x ∷ without key base xs) (without key base xs))
    by_test true r = ((λ y i. a.0 y (In-without key base xs y i)), r)
    by_test false r = r

pub without_sound : (n m : Ival) (base : ℕ) (xs ys : List Address) (v : AVal) → IsSound v → v ≡ Separate n xs → ys ≡ without base_of base xs → AreAscending base_of ys × (list_all has_offsets ys ≡ true)
without_sound n m base xs ys v s e f =
    let t = subst IsSound e s in
    subst (λ zs. AreAscending base_of zs × (list_all has_offsets zs ≡ true)) (sym f) (without_ascending base_of base xs t.0, left_offsets base n xs t.1)

pub without_mix : (base : ℕ) (bs ys : List ℕ) (v : AVal) → IsSound v → v ≡ Mixed bs → ys ≡ without (λ b. b) base bs → AreAscending (λ b. b) ys
without_mix base bs ys v s e f = subst (AreAscending (λ b. b)) (sym f) (without_ascending (λ b. b) base bs (subst IsSound e s).0)

pub left_same : (base : ℕ) (v r : AVal) (n m : Ival) (xs ys zs : List Address) → v ≡ Separate n xs → m ≡ n → ys ≡ xs → zs ≡ without base_of base ys → r ≡ Separate m zs → r ≡ value_left base v
left_same base v r n m xs ys zs e f g h k =
    k ∙ ap (λ z. Separate z zs) f ∙ ap (Separate n) h ∙ ap (λ z. Separate n (without base_of base z)) g ∙ ap (value_left base) (sym e)

pub nothing_is : (e : Ival) (v : AVal) → v ≡ Separate e [] → e.shape ≡ Few (record { items = [] }) → v ≡ no_value
unfolding no_numbers
nothing_is e v h f = h ∙ ap (λ z. Separate z []) (same_ival e no_numbers f)

-- ---- what a join answers

pub joined_first : {E : Type 0} (r : Result AVal E) (v w : AVal) → IfOk r (λ u. u ≡ join_values v w) → IfOk r (λ u. value_in v u ≡ true)
joined_first (Err x) v w h = tt
joined_first (Ok u) v w h = subst (λ z. value_in v z ≡ true) (sym h) (value_join_left v w)

pub joined_second : {E : Type 0} (r : Result AVal E) (v w : AVal) → IfOk r (λ u. u ≡ join_values v w) → IfOk r (λ u. value_in w u ≡ true)
joined_second (Err x) v w h = tt
joined_second (Ok u) v w h = subst (λ z. value_in w z ≡ true) (sym h) (value_join_right v w)

pub joined_least : {E : Type 0} (r : Result AVal E) (v w : AVal) → IfOk r (λ u. u ≡ join_values v w) → IfOk r (λ u. (t : AVal) → IsSound t → value_in v t ≡ true → value_in w t ≡ true → value_in u t ≡ true)
joined_least (Err x) v w h = tt
joined_least (Ok u) v w h = λ t s a b. subst (λ z. value_in z t ≡ true) (sym h) (value_join_least v w t s a b)

-- ---- what is left, mixes and meets

pub left_answers : {E : Type 0} (r : Result AVal E) (base : ℕ) (v : AVal) → IfOk r (λ u. u ≡ value_left base v) →
    IfOk r (λ u. (l : Layout) (x : Value) → Means l v x → contains x.provenance base ≡ false → IsWord x.number → Means l u x)
left_answers (Err e) base v h = tt
left_answers (Ok u) base v h = λ l x m k w. subst (λ z. Means l z x) (sym h) (left_means l base v x m k w)

pub mix_answers : {E : Type 0} (r : Result AVal E) (bases : List ℕ) → IfOk r (λ u. u ≡ Mixed (gathered bases)) →
    IfOk r (λ u. (l : Layout) (x : Value) → Means l u x ↔ ((q : ℕ) → contains x.provenance q ≡ true → has_base bases q ≡ true))
mix_answers (Err e) bases h = tt
mix_answers (Ok u) bases h = λ l x. subst (λ z. Means l z x ↔ ((q : ℕ) → contains x.provenance q ≡ true → has_base bases q ≡ true)) (sym h) (gathered_means l bases x)

pub meet_answers : {E : Type 0} (r : Result AVal E) (v w : AVal) → IsSound v → IsSound w → IfOk r (λ u. u ≡ meet_values v w) →
    IfOk r (λ u. (l : Layout) (x : Value) → Means l v x → Means l w x → Means l u x)
meet_answers (Err e) v w s t h = tt
meet_answers (Ok u) v w s t h = λ l x m n. subst (λ z. Means l z x) (sym h) (meet_means l v w x s t m n)

pub meet_answers_first : {E : Type 0} (r : Result AVal E) (v w : AVal) → IfOk r (λ u. u ≡ meet_values v w) → IfOk r (λ u. value_in u v ≡ true)
meet_answers_first (Err e) v w h = tt
meet_answers_first (Ok u) v w h = subst (λ z. value_in z v ≡ true) (sym h) (meet_first v w)
