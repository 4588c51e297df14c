-- Lemmas on the keys of a list of entries.
use Rattle.std.proofs.Common.{ℕ, List, [], ◌∷◌, ◌++◌, if◌then◌else◌, nat_eq, nat_lt, true, false}
use Rattle.ptree.specs.Entries.{AllKeys, set, remove}

module _ {V : Type 0} where
  pub AllKeys-weaker : (P Q : ℕ → Type 0) → ((k : ℕ) → P k → Q k) → (es : List (ℕ × V)) → AllKeys P es → AllKeys Q es
  AllKeys-weaker P Q f [] h = tt
  AllKeys-weaker P Q f (e ∷ es) h = (f e.0 h.0, AllKeys-weaker P Q f es h.1)

  pub AllKeys-append : (P : ℕ → Type 0) (xs ys : List (ℕ × V)) → AllKeys P xs → AllKeys P ys → AllKeys P (xs ++ ys)
  AllKeys-append P [] ys h i = i
  AllKeys-append P (x ∷ xs) ys h i = (h.0, AllKeys-append P xs ys h.1 i)

  pub AllKeys-set : (P : ℕ → Type 0) (key : ℕ) (value : V) (es : List (ℕ × V)) → P key → AllKeys P es → AllKeys P (set es key value)
  AllKeys-set P key value [] h a = (h, tt)
  AllKeys-set P key value (e ∷ es) h a =
      elim (nat_lt key e.0) as (λ b. AllKeys P (if b then (key, value) ∷ e ∷ es else (if nat_lt e.0 key then e ∷ set es key value else (key, value) ∷ es))) [
        | true ↦ (h, a)
        | false ↦ elim (nat_lt e.0 key) as (λ b. AllKeys P (if b then e ∷ set es key value else (key, value) ∷ es)) [
          | true ↦ (a.0, AllKeys-set P key value es h a.1)
          | false ↦ (h, a.1)
        ]
      ]

  pub AllKeys-remove : (P : ℕ → Type 0) (key : ℕ) (es : List (ℕ × V)) → AllKeys P es → AllKeys P (remove es key)
  AllKeys-remove P key [] a = tt
  AllKeys-remove P key (e ∷ es) a =
      elim (nat_eq e.0 key) as (λ b. AllKeys P (if b then es else e ∷ remove es key)) [
        | true ↦ a.1
        | false ↦ (a.0, AllKeys-remove P key es a.1)
      ]

  pub AllKeys-front : (P : ℕ → Type 0) (xs ys : List (ℕ × V)) → AllKeys P (xs ++ ys) → AllKeys P xs
  AllKeys-front P [] ys a = tt
  AllKeys-front P (x ∷ xs) ys a = (a.0, AllKeys-front P xs ys a.1)

  pub AllKeys-back : (P : ℕ → Type 0) (xs ys : List (ℕ × V)) → AllKeys P (xs ++ ys) → AllKeys P ys
  AllKeys-back P [] ys a = a
  AllKeys-back P (x ∷ xs) ys a = AllKeys-back P xs ys a.1

  pub AllKeys-both : (P Q : ℕ → Type 0) (es : List (ℕ × V)) → AllKeys P es → AllKeys Q es → AllKeys (λ k. P k × Q k) es
  AllKeys-both P Q [] a b = tt
  AllKeys-both P Q (e ∷ es) a b = ((a.0, b.0), AllKeys-both P Q es a.1 b.1)
