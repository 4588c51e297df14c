-- Lemmas on two lists one behind the other, with a number m between their keys.
use Rattle.std.proofs.Common.{◌≡◌, ℕ, ◌<◌, ◌≤◌, List, [], ◌∷◌, ◌++◌, if◌then◌else◌, nat_le, true, false, arith, refl, sym, ap, ◌∙◌}
use Rattle.std.specs.Prelude.{Option, None, Some}
use Rattle.std.proofs.lemmas.Bool.Decides.{nat_tests}
use Rattle.ptree.specs.Entries.{AllKeys, get, set, remove, at_or_before, at_or_after, or_else}
use Rattle.ptree.specs.Node.{Splits}
use Rattle.ptree.proofs.Keys.{AllKeys-weaker}

module _ {V : Type 0} where
  get_above : (m key : ℕ) (ys : List (ℕ × V)) → key < m → AllKeys (λ k. m ≤ k) ys → get ys key ≡ None
  get_above m key [] h a = refl
  get_above m key (y ∷ ys) h a = let more = get_above m key ys h a.1 in grind (arith, nat_tests)

  pub get-left : (m key : ℕ) (xs ys : List (ℕ × V)) → Splits m xs ys → key < m → get (xs ++ ys) key ≡ get xs key
  get-left m key [] ys a h = get_above m key ys h a.above
  get-left m key (x ∷ xs) ys a h =
      let more = get-left m key xs ys (record { below = a.below.1; above = a.above }) h in grind (arith, nat_tests)

  pub get-right : (m key : ℕ) (xs ys : List (ℕ × V)) → Splits m xs ys → m ≤ key → get (xs ++ ys) key ≡ get ys key
  get-right m key [] ys a h = refl
  get-right m key (x ∷ xs) ys a h =
      let more = get-right m key xs ys (record { below = a.below.1; above = a.above }) h in
      let low = a.below.0 in grind (arith, nat_tests)

  or_else_none : (o : Option (ℕ × V)) → or_else o None ≡ o
  or_else_none None = refl
  or_else_none (Some e) = refl

  or_else_assoc : (a b c : Option (ℕ × V)) → or_else (or_else a b) c ≡ or_else a (or_else b c)
  or_else_assoc None b c = refl
  or_else_assoc (Some e) b c = refl

  pub at_or_before-append : (key : ℕ) (xs ys : List (ℕ × V)) → at_or_before (xs ++ ys) key ≡ or_else (at_or_before ys key) (at_or_before xs key)
  at_or_before-append key [] ys = sym (or_else_none (at_or_before ys key))
  at_or_before-append key (x ∷ xs) ys =
      ap (λ o. or_else o (if nat_le x.0 key then Some x else None)) (at_or_before-append key xs ys)
      ∙ or_else_assoc (at_or_before ys key) (at_or_before xs key) (if nat_le x.0 key then Some x else None)

  at_or_before_above : (m key : ℕ) (ys : List (ℕ × V)) → key < m → AllKeys (λ k. m ≤ k) ys → at_or_before ys key ≡ None
  at_or_before_above m key [] h a = refl
  at_or_before_above m key (y ∷ ys) h a = let more = at_or_before_above m key ys h a.1 in let high = a.0 in rw more (grind (arith, nat_tests))

  pub at_or_before-left : (m key : ℕ) (xs ys : List (ℕ × V)) → Splits m xs ys → key < m → at_or_before (xs ++ ys) key ≡ at_or_before xs key
  at_or_before-left m key xs ys a h = at_or_before-append key xs ys ∙ ap (λ o. or_else o (at_or_before xs key)) (at_or_before_above m key ys h a.above)

  pub at_or_after-append : (key : ℕ) (xs ys : List (ℕ × V)) → at_or_after (xs ++ ys) key ≡ or_else (at_or_after xs key) (at_or_after ys key)
  at_or_after-append key [] ys = refl
  at_or_after-append key (x ∷ xs) ys = let more = at_or_after-append key xs ys in
      elim (nat_le key x.0) as (λ b. (if b then Some x else at_or_after (xs ++ ys) key) ≡ or_else (if b then Some x else at_or_after xs key) (at_or_after ys key)) [ true ↦ refl | false ↦ more ]

  at_or_after_below : (m key : ℕ) (xs : List (ℕ × V)) → m ≤ key → AllKeys (λ k. k < m) xs → at_or_after xs key ≡ None
  at_or_after_below m key [] h a = refl
  at_or_after_below m key (x ∷ xs) h a = let more = at_or_after_below m key xs h a.1 in let low = a.0 in grind (arith, nat_tests)

  pub at_or_after-right : (m key : ℕ) (xs ys : List (ℕ × V)) → Splits m xs ys → m ≤ key → at_or_after (xs ++ ys) key ≡ at_or_after ys key
  at_or_after-right m key xs ys a h = at_or_after-append key xs ys ∙ ap (λ o. or_else o (at_or_after ys key)) (at_or_after_below m key xs h a.below)

  -- a new key in front of all others, and behind them
  pub set_front : (key : ℕ) (value : V) (es : List (ℕ × V)) → AllKeys (λ k. key < k) es → set es key value ≡ (key, value) ∷ es
  set_front key value [] a = refl
  set_front key value (e ∷ es) a = let low = a.0 in grind (arith, nat_tests)

  pub set_back : (key : ℕ) (value : V) (es : List (ℕ × V)) → AllKeys (λ k. k < key) es → set es key value ≡ es ++ (key, value) ∷ []
  set_back key value [] a = refl
  set_back key value (e ∷ es) a = let more = set_back key value es a.1 in let high = a.0 in grind (arith, nat_tests)

  pub set-left : (m key : ℕ) (value : V) (xs ys : List (ℕ × V)) → Splits m xs ys → key < m → set (xs ++ ys) key value ≡ set xs key value ++ ys
  set-left m key value [] ys a h = set_front key value ys (AllKeys-weaker _ _ (λ k le. omega arith) ys a.above)
  set-left m key value (x ∷ xs) ys a h =
      let more = set-left m key value xs ys (record { below = a.below.1; above = a.above }) h in grind (arith, nat_tests)

  pub set-right : (m key : ℕ) (value : V) (xs ys : List (ℕ × V)) → Splits m xs ys → m ≤ key → set (xs ++ ys) key value ≡ xs ++ set ys key value
  set-right m key value [] ys a h = refl
  set-right m key value (x ∷ xs) ys a h =
      let more = set-right m key value xs ys (record { below = a.below.1; above = a.above }) h in
      let low = a.below.0 in grind (arith, nat_tests)

  remove_none : (m key : ℕ) (ys : List (ℕ × V)) → key < m → AllKeys (λ k. m ≤ k) ys → remove ys key ≡ ys
  remove_none m key [] h a = refl
  remove_none m key (y ∷ ys) h a = let more = remove_none m key ys h a.1 in let high = a.0 in grind (arith, nat_tests)

  pub remove-left : (m key : ℕ) (xs ys : List (ℕ × V)) → Splits m xs ys → key < m → remove (xs ++ ys) key ≡ remove xs key ++ ys
  remove-left m key [] ys a h = remove_none m key ys h a.above
  remove-left m key (x ∷ xs) ys a h =
      let more = remove-left m key xs ys (record { below = a.below.1; above = a.above }) h in grind (arith, nat_tests)

  pub remove-right : (m key : ℕ) (xs ys : List (ℕ × V)) → Splits m xs ys → m ≤ key → remove (xs ++ ys) key ≡ xs ++ remove ys key
  remove-right m key [] ys a h = refl
  remove-right m key (x ∷ xs) ys a h =
      let more = remove-right m key xs ys (record { below = a.below.1; above = a.above }) h in
      let low = a.below.0 in grind (arith, nat_tests)
