-- A walk along two ascending lists finds what lies in what.
use Rattle.std.proofs.Common.{◌≡◌, ℕ, ◌<◌, Bool, true, false, ◌&&◌, List, [], ◌∷◌, refl, sym, subst, ap, ◌∙◌, inl, inr, arith}
use Rattle.std.proofs.lemmas.Bool.{and_parts, and_from}
use Rattle.avalue_base.specs.Lists.{In, AreAscending}
use Rattle.avalue_base.proofs.Lists.{by_order}
use Rattle.sorted_lists.specs.Walks.{find_in, all_in}

pub same_bool : (a b : Bool) → (a ≡ true → b ≡ true) → (b ≡ true → a ≡ true) → a ≡ b
same_bool true b f g = sym (f refl)
same_bool false true f g = g refl
same_bool false false f g = refl

module _ {X Y : Type 0} (key : X → ℕ) (other_key : Y → ℕ) (lies : X → Y → Bool) where
  -- the element of ys with the key of x, in which x lies
  pub record Partner (x : X) (ys : List Y) : Type 0 where
    pub partner : Y
    pub among : In ys partner
    pub same : key x ≡ other_key partner
    pub within : lies x partner ≡ true

  record Found (x : X) (more : List Y → Bool) (ys : List Y) : Type 0 where
    found : Partner x ys
    rest : List Y
    holds : more rest ≡ true
    within : (y : Y) → In rest y → In ys y

  behind : (x : X) (y : Y) (ys : List Y) → Partner x ys → Partner x (y ∷ ys)
  behind x y ys p = record { partner = p.partner; among = inr p.among; same = p.same; within = p.within }

  find_true : (x : X) (more : List Y → Bool) (ys : List Y) → find_in key other_key lies x more ys ≡ true → Found x more ys
  unfolding find_in
  find_true x more [] h = cc
  find_true x more (y ∷ ys) h =
      by_order (λ t. t ≡ true → Found x more (y ∷ ys)) (other_key y) (key x) (find_in key other_key lies x more ys) false (lies x y && more ys)
      (λ l t. let f = find_true x more ys t in record { found = behind x y ys f.found; rest = f.rest; holds = f.holds; within = λ z i. inr (f.within z i) })
      (λ l t. cc)
      (λ e t.
      let p = and_parts (lies x y) (more ys) t in
      record { found = record { partner = y; among = inl refl; same = sym e; within = p.0 }; rest = ys; holds = p.1; within = λ z i. inr i }) h

  pub all_in-partners : (xs : List X) (ys : List Y) → all_in key other_key lies xs ys ≡ true → (x : X) → In xs x → Partner x ys
  unfolding all_in
  all_in-partners [] ys h x i = absurd i
  all_in-partners (x ∷ xs) ys h z i =
      let f = find_true x (all_in key other_key lies xs) ys h in
      elim i [
        | inl e ↦ subst (λ w. Partner w ys) (sym e) f.found
        | inr j ↦ let p = all_in-partners xs f.rest f.holds z j in record { partner = p.partner; among = f.within p.partner p.among; same = p.same; within = p.within }
      ]

  not_first : (x : X) (y : Y) (ys : List Y) → (key x ≡ other_key y → ⊥) → Partner x (y ∷ ys) → Partner x ys
  not_first x y ys f p = at p.among
    where
      at : In (y ∷ ys) p.partner → Partner x ys
      at (inl e) = absurd (f (p.same ∙ ap other_key e))
      at (inr i) = record { partner = p.partner; among = i; same = p.same; within = p.within }

  first_lies : (x : X) (y : Y) (ys : List Y) → ((z : Y) → In ys z → other_key y < other_key z) → key x ≡ other_key y → Partner x (y ∷ ys) → lies x y ≡ true
  first_lies x y ys f e p = at p.among
    where
      apart : (a b c : ℕ) → b < c → a ≡ b → a ≡ c → ⊥
      apart a b c h d k = omega arith

      at : In (y ∷ ys) p.partner → lies x y ≡ true
      at (inl d) = subst (λ z. lies x z ≡ true) d p.within
      at (inr i) = absurd (apart (key x) (other_key y) (other_key p.partner) (f p.partner i) e p.same)

  find_from : (x : X) (xs : List X) → ((z : X) → In xs z → key x < key z) → ((zs : List Y) → AreAscending other_key zs → ((z : X) → In xs z → Partner z zs) → all_in key other_key lies xs zs ≡ true) →
      (ys : List Y) → AreAscending other_key ys → Partner x ys → ((z : X) → In xs z → Partner z ys) → find_in key other_key lies x (all_in key other_key lies xs) ys ≡ true
  unfolding find_in
  find_from x xs a h [] b p q = absurd p.among
  find_from x xs a h (y ∷ ys) b p q =
      by_order (λ t. t ≡ true) (other_key y) (key x) (find_in key other_key lies x (all_in key other_key lies xs) ys) false (lies x y && all_in key other_key lies xs ys)
      (λ l. find_from x xs a h ys b.1 (not_first x y ys (λ e. apart (other_key y) (key x) l e) p) (λ z i. not_first z y ys (λ e. beyond (other_key y) (key x) (key z) l (a z i) e) (q z i)))
      (λ l. absurd (none (not_first x y ys (λ e. apart (key x) (other_key y) l (sym e)) p) l))
      (λ e. and_from (lies x y) (all_in key other_key lies xs ys) (first_lies x y ys b.0 (sym e) p) (h ys b.1 (λ z i. not_first z y ys (λ d. later (key x) (other_key y) (key z) e (a z i) d) (q z i))))
    where
      apart : (a b : ℕ) → a < b → b ≡ a → ⊥
      apart a b h e = omega arith

      beyond : (a b c : ℕ) → a < b → b < c → c ≡ a → ⊥
      beyond a b c h k e = omega arith

      later : (a b c : ℕ) → b ≡ a → a < c → c ≡ b → ⊥
      later a b c e h d = omega arith

      none : Partner x ys → key x < other_key y → ⊥
      none r l = let m = b.0 r.partner r.among in let s = r.same in omega arith

  pub partners-all_in : (xs : List X) → AreAscending key xs → (ys : List Y) → AreAscending other_key ys → ((x : X) → In xs x → Partner x ys) → all_in key other_key lies xs ys ≡ true
  unfolding all_in
  partners-all_in [] a ys b f = refl
  partners-all_in (x ∷ xs) a ys b f = find_from x xs a.0 (λ zs c g. partners-all_in xs a.1 zs c g) ys b (f x (inl refl)) (λ z i. f z (inr i))
