-- Lemmas on merged lists.
use Rattle.std.proofs.Common.{◌≡◌, ◌≢◌, ℕ, ◌<◌, ◌≤◌, List, [], ◌∷◌, ◌++◌, if◌then◌else◌, nat_eq, arith, refl, sym, ap, ◌∙◌, inl, inr, subst, ⊎_elim, true, false, append-nil}
use Rattle.std.specs.Prelude.{Option, None, Some}
use Rattle.std.proofs.lemmas.Bool.{cases_eq}
use Rattle.std.proofs.lemmas.Bool.Decides.{nat_tests}
use Rattle.ptree.specs.Entries.{AllKeys, IsAscending, get, remove, set_some, merged_rest, merged, answer_at}
use Rattle.ptree.specs.Node.{Splits, IsFork}
use Rattle.ptree.proofs.Keys.{AllKeys-set, AllKeys-remove}
use Rattle.ptree.proofs.Sides.{get-left, get-right, set-left, set-right, remove-left, remove-right}
use Rattle.ptree.proofs.Maps.{get-set, get-remove, get_below}

eqb_same : (a b : ℕ) → a ≡ b → nat_eq a b ≡ true
eqb_same a b e = grind (arith, nat_tests)

eqb_apart : (a b : ℕ) → a ≢ b → nat_eq a b ≡ false
eqb_apart a b e = grind (arith, nat_tests)

module _ {V : Type 0} where
  IsAscending-remove : (es : List (ℕ × V)) (key : ℕ) → IsAscending es → IsAscending (remove es key)
  IsAscending-remove [] key s = tt
  IsAscending-remove (e ∷ es) key s =
      elim (nat_eq e.0 key) as (λ b. IsAscending (if b then es else e ∷ remove es key)) [
        | true ↦ s.1
        | false ↦ (AllKeys-remove _ key es s.0, IsAscending-remove es key s.1)
      ]

  pub AllKeys-set_some : (P : ℕ → Type 0) (key : ℕ) (o : Option V) (es : List (ℕ × V)) → P key → AllKeys P es → AllKeys P (set_some es key o)
  AllKeys-set_some P key None es h a = a
  AllKeys-set_some P key (Some value) es h a = AllKeys-set P key value es h a

  set_some-left : (m key : ℕ) (o : Option V) (xs ys : List (ℕ × V)) → Splits m xs ys → key < m → set_some (xs ++ ys) key o ≡ set_some xs key o ++ ys
  set_some-left m key None xs ys a h = refl
  set_some-left m key (Some value) xs ys a h = set-left m key value xs ys a h

  set_some-right : (m key : ℕ) (o : Option V) (xs ys : List (ℕ × V)) → Splits m xs ys → m ≤ key → set_some (xs ++ ys) key o ≡ xs ++ set_some ys key o
  set_some-right m key None xs ys a h = refl
  set_some-right m key (Some value) xs ys a h = set-right m key value xs ys a h

  get-set_some : (key k : ℕ) (o : Option V) (es : List (ℕ × V)) → get es key ≡ None → get (set_some es key o) k ≡ (if nat_eq key k then o else get es k)
  get-set_some key k None es absent =
      elim (cases_eq key k) [
        | inl same ↦ let gone : get es k ≡ None = subst (λ n. get es n ≡ None) same absent in grind (arith, nat_tests)
        | inr apart ↦ grind (arith, nat_tests)
      ]
  get-set_some key k (Some value) es absent = get-set es key value k

module _ {V : Type 0} (f : ℕ → Option V → Option V → Option V) where
  pub AllKeys-merged_rest : (P : ℕ → Type 0) (es : List (ℕ × V)) → AllKeys P es → AllKeys P (merged_rest f es)
  AllKeys-merged_rest P [] a = tt
  AllKeys-merged_rest P (e ∷ es) a = AllKeys-set_some P e.0 (f e.0 None (Some e.1)) (merged_rest f es) a.0 (AllKeys-merged_rest P es a.1)

  pub AllKeys-merged : (P : ℕ → Type 0) (xs ys : List (ℕ × V)) → AllKeys P xs → AllKeys P ys → AllKeys P (merged f xs ys)
  AllKeys-merged P [] ys a b = AllKeys-merged_rest P ys b
  AllKeys-merged P (x ∷ xs) ys a b =
      AllKeys-set_some P x.0 (f x.0 (Some x.1) (get ys x.0)) (merged f xs (remove ys x.0)) a.0 (AllKeys-merged P xs (remove ys x.0) a.1 (AllKeys-remove P x.0 ys b))

  merged_rest-append : (m : ℕ) (xs ys : List (ℕ × V)) → Splits m xs ys → merged_rest f (xs ++ ys) ≡ merged_rest f xs ++ merged_rest f ys
  merged_rest-append m [] ys a = refl
  merged_rest-append m (x ∷ xs) ys a =
      let apart : Splits m (merged_rest f xs) (merged_rest f ys) = record { below = AllKeys-merged_rest _ xs a.below.1; above = AllKeys-merged_rest _ ys a.above } in
      ap (λ es. set_some es x.0 (f x.0 None (Some x.1))) (merged_rest-append m xs ys (record { below = a.below.1; above = a.above }))
      ∙ set_some-left m x.0 (f x.0 None (Some x.1)) (merged_rest f xs) (merged_rest f ys) apart a.below.0

  -- where the first map has no key below m
  merged_above : (m : ℕ) (ys low high : List (ℕ × V)) → AllKeys (λ k. m ≤ k) ys → Splits m low high → merged f ys (low ++ high) ≡ merged_rest f low ++ merged f ys high
  merged_above m [] low high a b = merged_rest-append m low high b
  merged_above m (y ∷ ys) low high a b =
      let rest : Splits m low (remove high y.0) = record { below = b.below; above = AllKeys-remove _ y.0 high b.above } in
      let apart : Splits m (merged_rest f low) (merged f ys (remove high y.0)) = record { below = AllKeys-merged_rest _ low b.below; above = AllKeys-merged _ ys (remove high y.0) a.1 rest.above } in
      ap (λ es. set_some (merged f ys es) y.0 (f y.0 (Some y.1) (get (low ++ high) y.0))) (remove-right m y.0 low high b a.0)
      ∙ ap (λ o. set_some (merged f ys (low ++ remove high y.0)) y.0 (f y.0 (Some y.1) o)) (get-right m y.0 low high b a.0)
      ∙ ap (λ es. set_some es y.0 (f y.0 (Some y.1) (get high y.0))) (merged_above m ys low (remove high y.0) a.1 rest)
      ∙ set_some-right m y.0 (f y.0 (Some y.1) (get high y.0)) (merged_rest f low) (merged f ys (remove high y.0)) apart a.0

  -- the keys below m and the others are merged apart
  pub merged-append : (m : ℕ) (xs ys low high : List (ℕ × V)) → Splits m xs ys → Splits m low high → merged f (xs ++ ys) (low ++ high) ≡ merged f xs low ++ merged f ys high
  merged-append m [] ys low high a b = merged_above m ys low high a.above b
  merged-append m (x ∷ xs) ys low high a b =
      let rest : Splits m (remove low x.0) high = record { below = AllKeys-remove _ x.0 low b.below; above = b.above } in
      let apart : Splits m (merged f xs (remove low x.0)) (merged f ys high) = record { below = AllKeys-merged _ xs (remove low x.0) a.below.1 rest.below; above = AllKeys-merged _ ys high a.above b.above } in
      ap (λ es. set_some (merged f (xs ++ ys) es) x.0 (f x.0 (Some x.1) (get (low ++ high) x.0))) (remove-left m x.0 low high b a.below.0)
      ∙ ap (λ o. set_some (merged f (xs ++ ys) (remove low x.0 ++ high)) x.0 (f x.0 (Some x.1) o)) (get-left m x.0 low high b a.below.0)
      ∙ ap (λ es. set_some es x.0 (f x.0 (Some x.1) (get low x.0))) (merged-append m xs ys (remove low x.0) high (record { below = a.below.1; above = a.above }) rest)
      ∙ set_some-left m x.0 (f x.0 (Some x.1) (get low x.0)) (merged f xs (remove low x.0)) (merged f ys high) apart a.below.0

  -- two forks with one middle are merged side by side
  pub merged_fork : (bit m : ℕ) (xs ys low high : List (ℕ × V)) → IsFork bit m xs ys → IsFork bit m low high → IsFork bit m (merged f xs low) (merged f ys high)
  merged_fork bit m xs ys low high a b = record {
    is_middle = a.is_middle;
    apart = record { below = AllKeys-merged _ xs low a.apart.below b.apart.below; above = AllKeys-merged _ ys high a.apart.above b.apart.above };
    left_agrees = AllKeys-merged _ xs low a.left_agrees b.left_agrees;
    right_agrees = AllKeys-merged _ ys high a.right_agrees b.right_agrees;
  }

  get-merged_rest : (es : List (ℕ × V)) (k : ℕ) → IsAscending es → get (merged_rest f es) k ≡ answer_at f k None (get es k)
  get-merged_rest [] k s = refl
  get-merged_rest (e ∷ es) k s =
      let absent : get es e.0 ≡ None = get_below es e.0 s.0 in
      let gone : get (merged_rest f es) e.0 ≡ None = get-merged_rest es e.0 s.1 ∙ ap (answer_at f e.0 None) absent in
      let more = get-merged_rest es k s.1 in
      get-set_some e.0 k (f e.0 None (Some e.1)) (merged_rest f es) gone ∙
      ⊎_elim (λ (same : e.0 ≡ k). rw (eqb_same e.0 k same) (ap (λ n. f n None (Some e.1)) same)) (λ (apart : e.0 ≢ k). rw (eqb_apart e.0 k apart) more) (cases_eq e.0 k)

  -- a merged map has at each key what the merger answers there
  pub get-merged : (es others : List (ℕ × V)) (k : ℕ) → IsAscending es → IsAscending others → get (merged f es others) k ≡ answer_at f k (get es k) (get others k)
  get-merged [] others k s t = get-merged_rest others k t
  get-merged (e ∷ es) others k s t =
      let rest = remove others e.0 in
      let falls = IsAscending-remove others e.0 t in
      let absent : get es e.0 ≡ None = get_below es e.0 s.0 in
      let cut : get rest e.0 ≡ None = get-remove others e.0 e.0 t ∙ rw (eqb_same e.0 e.0 refl) refl in
      let gone : get (merged f es rest) e.0 ≡ None = get-merged es rest e.0 s.1 falls ∙ ap (λ o. answer_at f e.0 o (get rest e.0)) absent ∙ ap (answer_at f e.0 None) cut in
      let more = get-merged es rest k s.1 falls in
      get-set_some e.0 k (f e.0 (Some e.1) (get others e.0)) (merged f es rest) gone ∙
      ⊎_elim (λ (same : e.0 ≡ k). rw (eqb_same e.0 k same) (ap (λ n. f n (Some e.1) (get others n)) same))
      (λ (apart : e.0 ≢ k). rw (eqb_apart e.0 k apart) (more ∙ ap (answer_at f k (get es k)) (rw (eqb_apart e.0 k apart) at (get-remove others e.0 k t)))) (cases_eq e.0 k)

  -- a map whose keys are all below those of the other
  pub merged_low_high : (m : ℕ) (xs ys : List (ℕ × V)) → Splits m xs ys → merged f xs ys ≡ merged f xs [] ++ merged f [] ys
  merged_low_high m xs ys a =
      ap (λ es. merged f es ys) (sym (append-nil xs)) ∙ merged-append m xs [] [] ys (record { below = a.below; above = tt }) (record { below = tt; above = a.above })

  pub merged_high_low : (m : ℕ) (xs ys : List (ℕ × V)) → Splits m ys xs → merged f xs ys ≡ merged f [] ys ++ merged f xs []
  merged_high_low m xs ys a =
      ap (λ es. merged f xs es) (sym (append-nil ys)) ∙ merged-append m [] xs ys [] (record { below = tt; above = a.above }) (record { below = a.below; above = tt })

module _ {V : Type 0} where
  pub empty_fork : (bit m : ℕ) (xs ys : List (ℕ × V)) → IsFork bit m xs ys → IsFork {V = V} bit m [] []
  empty_fork bit m xs ys a = record { is_middle = a.is_middle; apart = record { below = tt; above = tt }; left_agrees = tt; right_agrees = tt }

  pub no_split : (m : ℕ) → Splits {V = V} m [] []
  no_split m = record { below = tt; above = tt }
