-- The call sites tell which functions are in progress, where all calls are by name and no two of a function have the same site.
use Rattle.std.proofs.Common.{◌≡◌, ℕ, ◌⊎◌, inl, inr, List, [], ◌∷◌, ◌++◌, Option, None, Some, refl, sym, ap, ◌∙◌}
use Rattle.c_program.specs.Syntax.{Function, function_at, Program}
use Rattle.c_machine.specs.Machine.{sites_of}
use Rattle.c_machine.specs.Laws.{functions_in}
use Rattle.machine_places.specs.Places.{HasCall, Where, CallsAt, IsCallString, Begun, Entered, HasPlace, CallsByName, HasOwnSites, SitesTellFunctions}
use Rattle.machine_places.proofs.Whereabouts.{has_places}

none_behind : (xs : List ℕ) (x : ℕ) → [] ≡ xs ++ x ∷ [] → ⊥
none_behind [] x e = absurd (cc)
none_behind (y ∷ xs) x e = absurd (cc)

same_behind : (xs ys : List ℕ) (x y : ℕ) → xs ++ x ∷ [] ≡ ys ++ y ∷ [] → (xs ≡ ys) × (x ≡ y)
same_behind [] [] x y e = (refl, cc)
same_behind [] (b ∷ ys) x y e = let none : [] ≡ ys ++ y ∷ [] = cc in absurd (none_behind ys y none)
same_behind (a ∷ xs) [] x y e = let none : [] ≡ xs ++ x ∷ [] = cc in absurd (none_behind xs x none)
same_behind (a ∷ xs) (b ∷ ys) x y e =
    let heads : a ≡ b = cc in
    let tails : xs ++ x ∷ [] ≡ ys ++ y ∷ [] = cc in
    let others = same_behind xs ys x y tails in
    let same : xs ≡ ys = others.0 in
    (cc, others.1)

module _ (p : Program) (own : HasOwnSites p) (by_name : CallsByName p) where
  -- a site of a function calls one function
  one_callee : (f site g h : ℕ) → CallsAt p f site g → CallsAt p f site h → g ≡ h
  one_callee f site g h a b = by_function (function_at p.functions f) refl a b
    where
      by_function : (found : Option Function) → function_at p.functions f ≡ found → Where (λ function. HasCall p function site g) found →
          Where (λ function. HasCall p function site h) found → g ≡ h
      by_function None e a b = absurd a
      by_function (Some function) e a b =
          let same = own f function e (record { site = site; called = a.called }) (record { site = site; called = b.called }) a.stands b.stands refl in
          let called : a.called ≡ b.called = ap (λ c. c.called) same in
          let named = by_name f function e (record { site = site; called = a.called }) a.stands in
          sym (a.direct named.0 named.1) ∙ b.direct named.0 (sym called ∙ named.1)

  one_string : (a b functions others : List ℕ) → IsCallString p a functions → IsCallString p b others → a ≡ b → functions ≡ others
  one_string a b functions others Begun Begun e = refl
  one_string a b functions others Begun (Entered sites outer f site g calls call) e = absurd (none_behind sites site e)
  one_string a b functions others (Entered sites outer f site g calls call) Begun e = absurd (none_behind sites site (sym e))
  one_string a b functions others (Entered sites outer f site g calls call) (Entered more around h other k strings entering) e =
      let parts = same_behind sites more site other e in
      let outside : f ∷ outer ≡ h ∷ around = one_string sites more (f ∷ outer) (h ∷ around) calls strings parts.0 in
      let caller : f ≡ h = cc in
      let here : CallsAt p f site k = rw (caller, parts.1) entering in
      let callee : g ≡ k = one_callee f site g k call here in
      cc

  pub sites_tell_functions : SitesTellFunctions p
  sites_tell_functions l m s t r q e = by_states (has_places p l s r) (has_places p m t q)
    where
      by_states : (s.control ≡ []) ⊎ HasPlace p l s → (t.control ≡ []) ⊎ HasPlace p m t → (s.control ≡ []) ⊎ ((t.control ≡ []) ⊎ (functions_in s.control ≡ functions_in t.control))
      by_states (inl none) other = inl none
      by_states (inr here) (inl none) = inr (inl none)
      by_states (inr here) (inr there) =
          inr (inr (one_string (sites_of s.control) (sites_of t.control) (functions_in s.control) (functions_in t.control) here.calls there.calls e))
