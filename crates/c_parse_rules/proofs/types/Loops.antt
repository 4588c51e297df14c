-- Loops that read one thing after another: what they find, and where they stop.
use Rattle.std.proofs.Common.{◌≡◌, ℕ, zero, suc, ◌<◌, List, [], ◌∷◌, ◌++◌, length, Option, None, Some, refl, sym, ◌∙◌, ap, arith, append_assoc, append-nil}
use Rattle.c_base.specs.declared.token.Token.{Token}

module _ (S A : Type 0) (read : S → List Token → Option (A × List Token)) (step : S → A → S) where
  abbrev pub loop_with : (List A → S → List Token → List A × List Token) → List A → S → List Token → Option (A × List Token) → List A × List Token
  loop_with again found s tokens None = (found, tokens)
  loop_with again found s tokens (Some a) = again (found ++ a.0 ∷ []) (step s a.0) a.1

  -- what is read is put behind what was found, in so many rounds at most
  abbrev pub loop : ℕ → List A → S → List Token → List A × List Token
  loop zero found s tokens = (found, tokens)
  loop (suc n) found s tokens = loop_with (loop n) found s tokens (read s tokens)

  -- ---- what is found

  pub record Looped (P : S → List A → List Token → List Token → Type 0) (found : List A) (s : S) (tokens : List Token) (result : List A × List Token) : Type 0 where
    pub more : List A
    pub same : result.0 ≡ found ++ more
    pub holds : P s more tokens result.1

  loop_step : (P : S → List A → List Token → List Token → Type 0) (nil : (s : S) (tokens : List Token) → P s [] tokens tokens)
      (cons : (s : S) (a : A) (more : List A) (tokens mid rest : List Token) → read s tokens ≡ Some (a, mid) → P (step s a) more mid rest → P s (a ∷ more) tokens rest)
      (again : List A → S → List Token → List A × List Token) → ((found : List A) (s : S) (tokens : List Token) → Looped P found s tokens (again found s tokens)) →
      (found : List A) (s : S) (tokens : List Token) (o : Option (A × List Token)) → read s tokens ≡ o → Looped P found s tokens (loop_with again found s tokens o)
  loop_step P nil cons again sound found s tokens None e = record { more = []; same = sym (append-nil found); holds = nil s tokens }
  loop_step P nil cons again sound found s tokens (Some a) e =
      let r = sound (found ++ a.0 ∷ []) (step s a.0) a.1 in
      record {
        more = a.0 ∷ r.more;
        same = r.same ∙ append_assoc found (a.0 ∷ []) r.more;
        holds = cons s a.0 r.more tokens a.1 _ e r.holds;
      }

  pub loop_sound : (P : S → List A → List Token → List Token → Type 0) (nil : (s : S) (tokens : List Token) → P s [] tokens tokens)
      (cons : (s : S) (a : A) (more : List A) (tokens mid rest : List Token) → read s tokens ≡ Some (a, mid) → P (step s a) more mid rest → P s (a ∷ more) tokens rest)
      (n : ℕ) (found : List A) (s : S) (tokens : List Token) → Looped P found s tokens (loop n found s tokens)
  loop_sound P nil cons zero found s tokens = record { more = []; same = sym (append-nil found); holds = nil s tokens }
  loop_sound P nil cons (suc n) found s tokens =
      loop_step P nil cons (loop n) (λ f u ts. loop_sound P nil cons n f u ts) found s tokens (read s tokens) refl

  -- ---- what is reached

  -- each of these is read, one behind the other, and then nothing
  abbrev pub Reads : S → List A → List Token → List Token → Type 0
  Reads s [] tokens rest = (tokens ≡ rest) × (read s tokens ≡ None)
  Reads s (a ∷ more) tokens rest = (mid : List Token) × (read s tokens ≡ Some (a, mid)) × (length mid < length tokens) × Reads (step s a) more mid rest

  pub loop_reach : (n : ℕ) (found : List A) (s : S) (more : List A) (tokens rest : List Token) → length tokens < n → Reads s more tokens rest →
      loop n found s tokens ≡ (found ++ more, rest)
  loop_reach zero found s more tokens rest enough h = absurd (omega arith)
  loop_reach (suc n) found s [] tokens rest enough h = rw (h.1, append-nil, h.0) refl
  loop_reach (suc n) found s (a ∷ more) tokens rest enough h =
      let less = h.2 in
      let r = loop_reach n (found ++ a ∷ []) (step s a) more h.0 rest (omega arith) h.3 in
      rw h.1 (r ∙ ap (λ (all : List A). (all, rest)) (append_assoc found (a ∷ []) more))
