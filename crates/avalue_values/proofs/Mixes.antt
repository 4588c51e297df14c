-- Mixes of given bases.
use Rattle.std.proofs.Common.{◌≡◌, ℕ, ◌-◌, ◌≤◌, ◌==◌, false, List, [], ◌∷◌, ◌++◌, length, map, take, drop, get_or, take_all, length-drop, refl, sym, subst, ap, ◌∙◌, arith}
use Rattle.std.specs.Prelude.{Result, Ok, Err, IfOk}
use Rattle.std.proofs.lemmas.List.{take-append-drop}
use Rattle.smallvec.specs.SmallVec.{SmallVec}
use Rattle.c_base.specs.declared.number.BaseId.{BaseId}
use Rattle.avalue_base.specs.Lists.{merged, put, union_of, gathered, AreAscending}
use Rattle.avalue_base.specs.Numbers.{is_empty_list}
use Rattle.avalue_base.proofs.Sounds.{gathered_append, gathered_ascending, gathered_some}

abbrev pub numbers_of : List BaseId → List ℕ
numbers_of xs = map (λ (b : BaseId). b.0) xs

map_append : (xs ys : List BaseId) → numbers_of (xs ++ ys) ≡ numbers_of xs ++ numbers_of ys
map_append [] ys = refl
map_append (x ∷ xs) ys = ap (λ zs. x.0 ∷ zs) (map_append xs ys)

pub one_base : (xs : List BaseId) (b : ℕ) (us old : List ℕ) → length xs ≤ 1 → (length xs == 0) ≡ false → b ≡ (get_or xs 0 (record { 0 = 0 })).0 → us ≡ old ++ b ∷ [] → old ≡ [] → us ≡ gathered (numbers_of xs)
unfolding merged put
one_base [] b us old h e f g k = cc
one_base (x ∷ []) b us old h e f g k = g ∙ ap (λ zs. zs ++ b ∷ []) k ∙ ap (λ z. z ∷ []) f
one_base (x ∷ y ∷ ys) b us old h e f g k = absurd (omega arith)

pub halves : {E : Type 0} (r : Result (SmallVec ℕ) E) (xs : List BaseId) (m : ℕ) (fs ss as' bs : List ℕ) → fs ≡ gathered (numbers_of (take m xs)) → ss ≡ gathered (numbers_of (take (length xs - m) (drop m xs))) → as' ≡ fs → bs ≡ ss →
    IfOk r (λ list. list.items ≡ union_of as' bs) → IfOk r (λ list. list.items ≡ gathered (numbers_of xs))
halves (Err x) xs m fs ss as' bs e f g h k = tt
halves (Ok list) xs m fs ss as' bs e f g h k =
    let all : take (length xs - m) (drop m xs) ≡ drop m xs = take_all (length xs - m) (drop m xs) (let l = length-drop m xs in omega arith) in
    k ∙ ap (λ z. union_of z bs) (g ∙ e) ∙ ap (union_of (gathered (numbers_of (take m xs)))) (h ∙ f ∙ ap (λ zs. gathered (numbers_of zs)) all)
    ∙ gathered_append (numbers_of (take m xs)) (numbers_of (drop m xs)) ∙ ap gathered (sym (map_append (take m xs) (drop m xs)) ∙ ap numbers_of (take-append-drop m xs))

pub mix_order : (xs : List BaseId) (us : List ℕ) → us ≡ gathered (numbers_of xs) → AreAscending (λ b. b) us
mix_order xs us e = subst (AreAscending (λ b. b)) (sym e) (gathered_ascending (numbers_of xs))

pub mix_some : (xs : List BaseId) (us : List ℕ) → us ≡ gathered (numbers_of xs) → is_empty_list xs ≡ false → is_empty_list us ≡ false
mix_some [] us e h = cc
mix_some (x ∷ xs) us e h = ap is_empty_list e ∙ gathered_some x.0 (numbers_of xs)
