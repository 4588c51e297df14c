-- A search by halving in ascending marks, and the marks on both sides of a number.
use Rattle.std.proofs.Common.{◌≡◌, ℕ, zero, suc, ◌+◌, ◌-◌, ◌<◌, ◌≤◌, true, false, ℤ, pos, ◌+ℤ◌, List, [], ◌∷◌, length, take, drop, get_or, refl, sym, subst, ap, ◌∙◌, inl, inr, arith, neg_ℤ, ◌^◌, take_all}
use Rattle.std.proofs.lemmas.Int.{ints}
use Rattle.std.specs.Prelude.{int_le, if◌then◌else◌}
use Rattle.ival_core.specs.Widenings.{first_at_least, last_at_most, IsMarkBelow, IsMarkAbove, IsLowerEnd, IsUpperEnd}
use lib.Signed.{◌<ℤ◌, ◌≤ℤ◌, ≤ℤ_refl}
use Rattle.ival_core.specs.Sets.{Among, IsAscending, IsNumber}
use Rattle.ival_core.proofs.Counting.{Among-take_more, Among-split}
use Rattle.ival_core.proofs.Ends.{Among-at}
use Rattle.std.proofs.lemmas.List.{take-append-drop}
use Rattle.ival_core.proofs.Insertion.{take_below, drop_above}

int_le-yes : (a b : ℤ) → a ≤ℤ b → int_le a b ≡ true
int_le-yes a b h = grind (arith, ints)

int_le-no : (a b : ℤ) → b <ℤ a → int_le a b ≡ false
int_le-no a b h = grind (arith, ints)

-- the marks before start are below n, and those from end on are not
pub record Split (marks : List ℤ) (n : ℤ) (start end : ℕ) : Type 0 where
  pub order : start ≤ end
  pub inside : end ≤ length marks
  pub before : (m : ℤ) → Among (take start marks) m → m <ℤ n
  pub after : (m : ℤ) → Among (drop end marks) m → n ≤ℤ m

pub Split-up : (marks : List ℤ) (n : ℤ) (start end middle : ℕ) (d : ℤ) → IsAscending marks → Split marks n start end → middle < end → get_or marks middle d <ℤ n → Split marks n (middle + 1) end
Split-up marks n start end middle d a s h l = record {
  order = omega arith;
  inside = s.inside;
  before = λ m k.
      let i = s.inside in
      let b : middle < length marks = omega arith in
      elim (Among-take_more marks middle d m b k) [
        | inl x ↦ (let y : m <ℤ get_or marks middle d = take_below marks middle d m a b x in omega (arith, ints))
        | inr e ↦ subst (λ z. z <ℤ n) (sym e) l
      ];
  after = s.after;
}

pub Split-down : (marks : List ℤ) (n : ℤ) (start end middle : ℕ) (d : ℤ) → IsAscending marks → Split marks n start end → start ≤ middle → middle ≤ end → n ≤ℤ get_or marks middle d → Split marks n start middle
Split-down marks n start end middle d a s h k l = record {
  order = h;
  inside = let i = s.inside in omega arith;
  before = s.before;
  after = λ m x. drop_above marks middle d n m a l x;
}

-- the mark at a place before which all are below n
pub first_at_least-at : (marks : List ℤ) (i : ℕ) (n d found : ℤ) → i < length marks → ((m : ℤ) → Among (take i marks) m → m <ℤ n) → ((m : ℤ) → Among (drop i marks) m → n ≤ℤ m) → first_at_least found marks n ≡ get_or marks i d
first_at_least-at [] i n d found h f g = absurd (omega arith)
first_at_least-at (m ∷ marks) zero n d found h f g = ap (λ b. if b then m else first_at_least found marks n) (int_le-yes n m (g m (inl refl)))
first_at_least-at (m ∷ marks) (suc i) n d found h f g =
    ap (λ b. if b then m else first_at_least found marks n) (int_le-no n m (f m (inl refl)))
    ∙ first_at_least-at marks i n d found (omega arith) (λ k x. f k (inr x)) g

pub first_at_least-none : (marks : List ℤ) (i : ℕ) (n found : ℤ) → i ≡ length marks → ((m : ℤ) → Among (take i marks) m → m <ℤ n) → first_at_least found marks n ≡ found
first_at_least-none [] i n found e f = refl
first_at_least-none (m ∷ marks) zero n found e f = absurd (omega arith)
first_at_least-none (m ∷ marks) (suc i) n found e f =
    ap (λ b. if b then m else first_at_least found marks n) (int_le-no n m (f m (inl refl)))
    ∙ first_at_least-none marks i n found (omega arith) (λ k x. f k (inr x))

-- the last mark before a place from which all are above n
pub last_at_most-none : (marks : List ℤ) (n found : ℤ) → ((m : ℤ) → Among marks m → n <ℤ m) → last_at_most found marks n ≡ found
last_at_most-none [] n found g = refl
last_at_most-none (m ∷ marks) n found g =
    ap (λ b. if b then last_at_most m marks n else last_at_most found marks n) (int_le-no m n (g m (inl refl)))
    ∙ last_at_most-none marks n found (λ k x. g k (inr x))

pub last_at_most-at : (marks : List ℤ) (i : ℕ) (n d found : ℤ) → i < length marks → ((m : ℤ) → Among (take (suc i) marks) m → m ≤ℤ n) → ((m : ℤ) → Among (drop (suc i) marks) m → n <ℤ m) → last_at_most found marks n ≡ get_or marks i d
last_at_most-at [] i n d found h f g = absurd (omega arith)
last_at_most-at (m ∷ marks) zero n d found h f g =
    ap (λ b. if b then last_at_most m marks n else last_at_most found marks n) (int_le-yes m n (f m (inl refl)))
    ∙ last_at_most-none marks n m g
last_at_most-at (m ∷ marks) (suc i) n d found h f g =
    ap (λ b. if b then last_at_most m marks n else last_at_most found marks n) (int_le-yes m n (f m (inl refl)))
    ∙ last_at_most-at marks i n d m (omega arith) (λ k x. f k (inr x)) g

pub drop_at : (xs : List ℤ) (i : ℕ) (d : ℤ) → i < length xs → Among (drop i xs) (get_or xs i d)
drop_at [] i d h = absurd (omega arith)
drop_at (x ∷ xs) zero d h = inl refl
drop_at (x ∷ xs) (suc i) d h = drop_at xs i d (omega arith)

pub take_at : (xs : List ℤ) (i : ℕ) (d : ℤ) → i < length xs → Among (take (suc i) xs) (get_or xs i d)
take_at [] i d h = absurd (omega arith)
take_at (x ∷ xs) zero d h = inl refl
take_at (x ∷ xs) (suc i) d h = inr (take_at xs i d (omega arith))

-- the same in the words of a search for n + 1
pub at_most_before : (marks : List ℤ) (i : ℕ) (n d : ℤ) → 0 < i → i ≤ length marks → ((m : ℤ) → Among (take i marks) m → m <ℤ (n +ℤ pos 1)) → get_or marks (i - 1) d ≤ℤ n
at_most_before marks i n d p h f =
    let e : suc (i - 1) ≡ i = omega arith in
    let b : i - 1 < length marks = omega arith in
    let l : get_or marks (i - 1) d <ℤ (n +ℤ pos 1) = f (get_or marks (i - 1) d) (subst (λ k. Among (take k marks) (get_or marks (i - 1) d)) e (take_at marks (i - 1) d b)) in
    omega (arith, ints)

pub below_after : (marks : List ℤ) (i : ℕ) (n : ℤ) → i ≡ 0 → ((m : ℤ) → Among (drop i marks) m → (n +ℤ pos 1) ≤ℤ m) → (m : ℤ) → Among marks m → n <ℤ m
below_after marks i n e g m k =
    let l : (n +ℤ pos 1) ≤ℤ m = g m (subst (λ j. Among (drop j marks) m) (sym e) k) in
    omega (arith, ints)

pub last_at_most-split : (marks : List ℤ) (i : ℕ) (n d found : ℤ) → 0 < i → i ≤ length marks → ((m : ℤ) → Among (take i marks) m → m <ℤ (n +ℤ pos 1)) → ((m : ℤ) → Among (drop i marks) m → (n +ℤ pos 1) ≤ℤ m) → last_at_most found marks n ≡ get_or marks (i - 1) d
last_at_most-split marks i n d found p h f g =
    let e : suc (i - 1) ≡ i = omega arith in
    last_at_most-at marks (i - 1) n d found (omega arith)
    (λ m k. let l : m <ℤ (n +ℤ pos 1) = f m (subst (λ j. Among (take j marks) m) e k) in omega (arith, ints))
    (λ m k. let l : (n +ℤ pos 1) ≤ℤ m = g m (subst (λ j. Among (drop j marks) m) e k) in omega (arith, ints))

-- ---- the nearest mark

pub mark_below-none : (marks : List ℤ) (n : ℤ) → IsNumber n → ((m : ℤ) → Among marks m → n <ℤ m) → IsMarkBelow marks n (neg_ℤ (pos (2 ^ 120)))
mark_below-none marks n h f = record {
  below = h.least;
  mark = inr refl;
  nearest = λ m k l. absurd (clash m n (f m k) l);
}
  where
    clash : (m n : ℤ) → n <ℤ m → m ≤ℤ n → ⊥
    clash m n p q = omega (arith, ints)

pub mark_below-at : (marks : List ℤ) (i : ℕ) (n d : ℤ) → IsAscending marks → 0 < i → i ≤ length marks → ((m : ℤ) → Among (take i marks) m → m <ℤ (n +ℤ pos 1)) → ((m : ℤ) → Among (drop i marks) m → (n +ℤ pos 1) ≤ℤ m) → IsMarkBelow marks n (get_or marks (i - 1) d)
mark_below-at marks i n d a p h f g = record {
  below = at_most_before marks i n d p h f;
  mark = inl (Among-at marks (i - 1) d (omega arith));
  nearest = λ m k l. elim (Among-split (take i marks) (drop i marks) m (subst (λ xs. Among xs m) (sym (take-append-drop i marks)) k)) [
    | inl x ↦ up_to marks i d m a p h x
    | inr y ↦ absurd (beyond m n (g m y) l)
  ];
}
  where
    beyond : (m n : ℤ) → (n +ℤ pos 1) ≤ℤ m → m ≤ℤ n → ⊥
    beyond m n p q = omega (arith, ints)

    up_to : (marks : List ℤ) (i : ℕ) (d m : ℤ) → IsAscending marks → 0 < i → i ≤ length marks → Among (take i marks) m → m ≤ℤ get_or marks (i - 1) d
    up_to marks i d m a p h x =
        let e : i ≡ (i - 1) + 1 = omega arith in
        let b : i - 1 < length marks = omega arith in
        elim (Among-take_more marks (i - 1) d m b (subst (λ j. Among (take j marks) m) e x)) [
          | inl y ↦ (let l : m <ℤ get_or marks (i - 1) d = take_below marks (i - 1) d m a b y in omega (arith, ints))
          | inr q ↦ omega (arith, ints)
        ]

pub mark_above-none : (marks : List ℤ) (i : ℕ) (n : ℤ) → IsNumber n → i ≡ length marks → ((m : ℤ) → Among (take i marks) m → m <ℤ n) → IsMarkAbove marks n (pos (2 ^ 120))
mark_above-none marks i n h e f = record {
  above = h.greatest;
  mark = inr refl;
  nearest = λ m k l. absurd (clash m n (f m (subst (λ xs. Among xs m) (sym (take_all i marks (omega arith))) k)) l);
}
  where
    clash : (m n : ℤ) → m <ℤ n → n ≤ℤ m → ⊥
    clash m n p q = omega (arith, ints)

pub mark_above-at : (marks : List ℤ) (i : ℕ) (n d : ℤ) → IsAscending marks → i < length marks → ((m : ℤ) → Among (take i marks) m → m <ℤ n) → ((m : ℤ) → Among (drop i marks) m → n ≤ℤ m) → IsMarkAbove marks n (get_or marks i d)
mark_above-at marks i n d a h f g = record {
  above = g (get_or marks i d) (drop_at marks i d h);
  mark = inl (Among-at marks i d h);
  nearest = λ m k l. elim (Among-split (take i marks) (drop i marks) m (subst (λ xs. Among xs m) (sym (take-append-drop i marks)) k)) [
    | inl x ↦ absurd (clash m n (f m x) l)
    | inr y ↦ drop_above marks i d (get_or marks i d) m a (≤ℤ_refl (get_or marks i d)) y
  ];
}
  where
    clash : (m n : ℤ) → m <ℤ n → n ≤ℤ m → ⊥
    clash m n p q = omega (arith, ints)

pub lower-moves : (marks : List ℤ) (low joined end : ℤ) → joined <ℤ low → IsMarkBelow marks joined end → IsLowerEnd marks low joined end
lower-moves marks low joined end l h = record { stays = λ k. absurd (clash low joined l k); moves = λ _. h }
  where
    clash : (low joined : ℤ) → joined <ℤ low → low ≤ℤ joined → ⊥
    clash low joined p q = omega (arith, ints)

pub lower-stays : (marks : List ℤ) (low joined : ℤ) → low ≤ℤ joined → IsLowerEnd marks low joined joined
lower-stays marks low joined l = record { stays = λ _. refl; moves = λ k. absurd (clash low joined k l) }
  where
    clash : (low joined : ℤ) → joined <ℤ low → low ≤ℤ joined → ⊥
    clash low joined p q = omega (arith, ints)

pub upper-moves : (marks : List ℤ) (high joined end : ℤ) → high <ℤ joined → IsMarkAbove marks joined end → IsUpperEnd marks high joined end
upper-moves marks high joined end l h = record { stays = λ k. absurd (clash high joined l k); moves = λ _. h }
  where
    clash : (high joined : ℤ) → high <ℤ joined → joined ≤ℤ high → ⊥
    clash high joined p q = omega (arith, ints)

pub upper-stays : (marks : List ℤ) (high joined : ℤ) → joined ≤ℤ high → IsUpperEnd marks high joined joined
upper-stays marks high joined l = record { stays = λ _. refl; moves = λ k. absurd (clash high joined k l) }
  where
    clash : (high joined : ℤ) → high <ℤ joined → joined ≤ℤ high → ⊥
    clash high joined p q = omega (arith, ints)
