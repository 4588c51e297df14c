-- A loop that collects what a step finds, again and again, while it may take a number of rounds: the form of all the loops of the rules.
use Rattle.std.proofs.Common.{◌≡◌, ℕ, zero, suc, ◌<◌, ◌≤◌, List, [], ◌∷◌, ◌++◌, length, Option, None, Some, refl, sym, ◌∙◌, ap, subst, arith, ◌⊎◌, inl, inr, append_assoc, append-nil}
use Rattle.c_base.specs.declared.token.Token.{Token}

module _ {S A : Type 0} (step : S → List Token → Option (A × List Token)) (next : S → A → S) where
  abbrev pub collect_with : (List A → S → List Token → List A × List Token) → List A → S → List Token → Option (A × List Token) → List A × List Token
  collect_with again found s tokens None = (found, tokens)
  collect_with again found s tokens (Some e) = again (found ++ e.0 ∷ []) (next s e.0) e.1

  abbrev pub collect : ℕ → List A → S → List Token → List A × List Token
  collect zero found s tokens = (found, tokens)
  collect (suc n) found s tokens = collect_with (collect n) found s tokens (step s tokens)

-- each item stands behind the one before
abbrev pub Chain : {S A : Type 0} → (S → A → List Token → List Token → Type 0) → (S → A → S) → S → List A → List Token → List Token → Type 0
Chain P next s [] tokens rest = tokens ≡ rest
Chain P next s (x ∷ more) tokens rest = (mid : List Token) × (P s x tokens mid) × Chain P next (next s x) more mid rest

-- what a loop has found
pub record Collected {S A : Type 0} (P : S → A → List Token → List Token → Type 0) (next : S → A → S) (found : List A) (s : S) (tokens : List Token) (result : List A × List Token) : Type 0 where
  pub more : List A
  pub is : result.0 ≡ found ++ more
  pub chain : Chain P next s more tokens result.1

module _ {S A : Type 0} (step : S → List Token → Option (A × List Token)) (next : S → A → S) (P : S → A → List Token → List Token → Type 0)
    (sound : (s : S) (tokens : List Token) (e : A × List Token) → step s tokens ≡ Some e → P s e.0 tokens e.1) where
  none_collected : (found : List A) (s : S) (tokens : List Token) → Collected P next found s tokens (found, tokens)
  none_collected found s tokens = record { more = []; is = sym (append-nil found); chain = refl }

  collected_by : (again : List A → S → List Token → List A × List Token) (found : List A) (s : S) (tokens : List Token) (o : Option (A × List Token)) → step s tokens ≡ o →
      ((more : List A) (t : S) (left : List Token) → Collected P next more t left (again more t left)) → Collected P next found s tokens (collect_with step next again found s tokens o)
  collected_by again found s tokens None e rest = none_collected found s tokens
  collected_by again found s tokens (Some x) e rest =
      let c = rest (found ++ x.0 ∷ []) (next s x.0) x.1 in
      record { more = x.0 ∷ c.more; is = c.is ∙ append_assoc found (x.0 ∷ []) c.more; chain = (x.1, sound s tokens x e, c.chain) }

  pub collect_sound : (n : ℕ) (found : List A) (s : S) (tokens : List Token) → Collected P next found s tokens (collect step next n found s tokens)
  collect_sound zero found s tokens = none_collected found s tokens
  collect_sound (suc n) found s tokens = collected_by (collect step next n) found s tokens (step s tokens) refl (collect_sound n)

-- an item is found, or a longer one where what is behind it goes on
abbrev pub Meets : {A : Type 0} → (List Token → Type 0) → Option (A × List Token) → A → List Token → Type 0
Meets Goes None x mid = ⊥
Meets Goes (Some e) x mid = (e ≡ (x, mid)) ⊎ ((length e.1 < length mid) × Goes mid)

module _ {S A : Type 0} (step : S → List Token → Option (A × List Token)) (next : S → A → S) (Ends : List Token → Type 0)
    (steps : (s : S) (tokens : List Token) (e : A × List Token) → step s tokens ≡ Some e → (length e.1 < length tokens) × Ends tokens) where
  left_by : (again : List A → S → List Token → List A × List Token) (found : List A) (s : S) (tokens : List Token) (o : Option (A × List Token)) → step s tokens ≡ o →
      ((more : List A) (t : S) (left : List Token) → length (again more t left).1 ≤ length left) → length (collect_with step next again found s tokens o).1 ≤ length tokens
  left_by again found s tokens None e rest = omega arith
  left_by again found s tokens (Some x) e rest =
      let l = rest (found ++ x.0 ∷ []) (next s x.0) x.1 in let m = (steps s tokens x e).0 in omega arith

  -- what a loop leaves is not longer
  pub collect_left : (n : ℕ) (found : List A) (s : S) (tokens : List Token) → length (collect step next n found s tokens).1 ≤ length tokens
  collect_left zero found s tokens = omega arith
  collect_left (suc n) found s tokens = left_by (collect step next n) found s tokens (step s tokens) refl (collect_left n)

  ends_by : (again : List A → S → List Token → List A × List Token) (found : List A) (s : S) (tokens : List Token) (o : Option (A × List Token)) → step s tokens ≡ o →
      ((more : List A) (t : S) (left : List Token) → length (again more t left).1 ≤ length left) →
      (collect_with step next again found s tokens o ≡ (found, tokens)) ⊎ ((length (collect_with step next again found s tokens o).1 < length tokens) × Ends tokens)
  ends_by again found s tokens None e rest = inl refl
  ends_by again found s tokens (Some x) e rest =
      let l = rest (found ++ x.0 ∷ []) (next s x.0) x.1 in let m = steps s tokens x e in let k = m.0 in inr (omega arith, m.1)

  -- a loop stops, or goes on from there
  pub collect_ends : (n : ℕ) (found : List A) (s : S) (tokens : List Token) →
      (collect step next n found s tokens ≡ (found, tokens)) ⊎ ((length (collect step next n found s tokens).1 < length tokens) × Ends tokens)
  collect_ends zero found s tokens = inl refl
  collect_ends (suc n) found s tokens = ends_by (collect step next n) found s tokens (step s tokens) refl (collect_left n)

  module _ (Goes : List Token → Type 0) (weaker : (tokens : List Token) → Goes tokens → Ends tokens)
      (P : S → A → List Token → List Token → Type 0)
      (less : (s : S) (x : A) (tokens mid : List Token) → P s x tokens mid → length mid < length tokens)
      (reads : (s : S) (x : A) (tokens mid : List Token) → P s x tokens mid → Meets Goes (step s tokens) x mid)
      (apart : (s : S) (x : A) (tokens mid : List Token) → P s x tokens mid → Goes tokens → ⊥) where
    -- the items are collected, or more where what is behind them goes on
    abbrev pub Gathers : List A → List A → List Token → List A × List Token → Type 0
    Gathers found more rest result = (result ≡ (found ++ more, rest)) ⊎ ((length result.1 < length rest) × Ends rest)

    longer_by : (again : List A → S → List Token → List A × List Token) (found : List A) (t : S) (x : A) (more : List A) (left mid rest : List Token) →
        length left < length mid → Goes mid → Chain P next t more mid rest → length (again found t left).1 ≤ length left →
        (length (again found t left).1 < length rest) × Ends rest
    longer_by again found t x [] left mid rest l g chain k = (rw (← chain) (omega arith), subst Ends chain (weaker mid g))
    longer_by again found t x (y ∷ more) left mid rest l g chain k = absurd (apart t y mid chain.0 chain.1 g)

    regrouped : (found : List A) (x : A) (more : List A) (rest : List Token) (result : List A × List Token) → Gathers (found ++ x ∷ []) more rest result → Gathers found (x ∷ more) rest result
    regrouped found x more rest result (inl e) = inl (e ∙ ap (λ (l : List A). (l, rest)) (append_assoc found (x ∷ []) more))
    regrouped found x more rest result (inr h) = inr h

    gathers_by : (again : List A → S → List Token → List A × List Token) (found : List A) (s : S) (x : A) (more : List A) (mid rest : List Token) (o : Option (A × List Token)) →
        Meets Goes o x mid → Chain P next (next s x) more mid rest →
        ((t : S) (items : List A) (left : List Token) → length (again items t left).1 ≤ length left) →
        Gathers (found ++ x ∷ []) more rest (again (found ++ x ∷ []) (next s x) mid) →
        (tokens : List Token) → Gathers found (x ∷ more) rest (collect_with step next again found s tokens o)
    gathers_by again found s x more mid rest None meets chain left below tokens = absurd meets
    gathers_by again found s x more mid rest (Some e) (inl same) chain left below tokens =
        subst (λ (y : A × List Token). Gathers found (x ∷ more) rest (again (found ++ y.0 ∷ []) (next s y.0) y.1)) (sym same)
        (regrouped found x more rest (again (found ++ x ∷ []) (next s x) mid) below)
    gathers_by again found s x more mid rest (Some e) (inr longer) chain left below tokens =
        inr (longer_by (λ items t rest. again items (next s e.0) e.1) (found ++ e.0 ∷ []) (next s x) x more e.1 mid rest longer.0 longer.1 chain
        (left (next s e.0) (found ++ e.0 ∷ []) e.1))

    pub collect_reached : (n : ℕ) (found : List A) (s : S) (more : List A) (tokens rest : List Token) → length tokens < n → Chain P next s more tokens rest →
        Gathers found more rest (collect step next n found s tokens)
    collect_reached zero found s more tokens rest h chain = absurd (omega arith)
    collect_reached (suc n) found s [] tokens rest h chain =
        subst (λ (end : List Token). (collect step next (suc n) found s tokens ≡ (found ++ [], end)) ⊎ ((length (collect step next (suc n) found s tokens).1 < length end) × Ends end))
        chain (rw append-nil (collect_ends (suc n) found s tokens))
    collect_reached (suc n) found s (x ∷ more) tokens rest h chain =
        let mid = chain.0 in
        let l = less s x tokens mid chain.1 in
        gathers_by (collect step next n) found s x more mid rest (step s tokens) (reads s x tokens mid chain.1) chain.2
        (λ t items left. collect_left n items t left)
        (collect_reached n (found ++ x ∷ []) (next s x) more mid rest (omega arith) chain.2) tokens
