-- Sets round some numbers, and sets made of such sets.
use Rattle.std.proofs.Common.{◌⊎◌, ◌≤◌, ℤ, List, [], ◌∷◌, length, inl, inr, arith}
use Rattle.ival_core.specs.declared.value.Shape.{Shape}
use Rattle.ival_core.specs.Sets.{Among, AllNumbers, IsValid, Has, HoldsNine}
use Rattle.ival_core.specs.Joined.{with_numbers, joined, inserted}
use Rattle.ival_core.proofs.Joined.{Makes, HoldsNine-map, with_numbers-makes, joined-makes, inserted-with}
use Rattle.ival_core.proofs.Insertion.{IsLeast-same}
use Rattle.ival_core.proofs.Counting.{fits}
use Rattle.ival_core.specs.Sets.{IsAscending}
use Rattle.ival_arith.specs.Pieces.{none, gathered}

-- s holds the numbers with P, and has no others unless they are more than 8
pub record Fits (P : ℤ → Type 0) (s : Shape) : Type 0 where
  pub valid : IsValid s
  pub holds : (n : ℤ) → P n → Has s n
  pub sharp : ((n : ℤ) → Has s n → P n) ⊎ HoldsNine P

pub Makes-fits : (P : ℤ → Type 0) (s : Shape) → Makes P s → Fits P s
Makes-fits P s m = record { valid = m.valid; holds = m.least.holds; sharp = m.sharp }

-- s holds just the numbers with P
pub record Exactly (P : ℤ → Type 0) (s : Shape) : Type 0 where
  pub valid : IsValid s
  pub holds : (n : ℤ) → P n → Has s n
  pub only : (n : ℤ) → Has s n → P n

pub Exactly-makes : (P : ℤ → Type 0) (s : Shape) → Exactly P s → Makes P s
Exactly-makes P s e = record {
  valid = e.valid;
  least = record { holds = e.holds; least = λ u valid all n h. all n (e.only n h) };
  sharp = inl e.only;
}

pub Makes-same : (P Q : ℤ → Type 0) (s : Shape) → ((n : ℤ) → P n → Q n) → ((n : ℤ) → Q n → P n) → Makes P s → Makes Q s
Makes-same P Q s f g m = record {
  valid = m.valid;
  least = IsLeast-same P Q s f g m.least;
  sharp = elim m.sharp [ inl h ↦ inl (λ n k. f n (h n k)) | inr h ↦ inr (HoldsNine-map P Q f h) ];
}

pub Fits-same : (P Q : ℤ → Type 0) (s : Shape) → ((n : ℤ) → P n → Q n) → ((n : ℤ) → Q n → P n) → Fits P s → Fits Q s
Fits-same P Q s f g m = record {
  valid = m.valid;
  holds = λ n q. m.holds n (g n q);
  sharp = elim m.sharp [ inl h ↦ inl (λ n k. f n (h n k)) | inr h ↦ inr (HoldsNine-map P Q f h) ];
}

-- where they are more than 8, any set that holds them fits
pub Fits-nine : (P : ℤ → Type 0) (s : Shape) → IsValid s → ((n : ℤ) → P n → Has s n) → HoldsNine P → Fits P s
Fits-nine P s v f h = record { valid = v; holds = f; sharp = inr h }

either_way : (P Q R : ℤ → Type 0) → ((n : ℤ) → P n → R n) → ((n : ℤ) → Q n → R n) → (n : ℤ) → P n ⊎ Q n → R n
either_way P Q R f g n (inl p) = f n p
either_way P Q R f g n (inr q) = g n q

pub Fits-joined : (P Q : ℤ → Type 0) (s t : Shape) → Fits P s → Fits Q t → Fits (λ n. P n ⊎ Q n) (joined s t)
Fits-joined P Q s t a b =
    let j = joined-makes s t a.valid b.valid in
    record {
      valid = j.valid;
      holds = λ n h. elim h [ inl p ↦ j.least.holds n (inl (a.holds n p)) | inr q ↦ j.least.holds n (inr (b.holds n q)) ];
      sharp = elim a.sharp [
        | inr h ↦ inr (HoldsNine-map P (λ n. P n ⊎ Q n) (λ n p. inl p) h)
        | inl f ↦ elim b.sharp [
          | inr h ↦ inr (HoldsNine-map Q (λ n. P n ⊎ Q n) (λ n q. inr q) h)
          | inl g ↦
              let onto : (n : ℤ) → Has s n ⊎ Has t n → P n ⊎ Q n = λ n h. elim h [ inl x ↦ inl (f n x) | inr y ↦ inr (g n y) ] in
              elim j.sharp [
                | inl k ↦ inl (λ n h. onto n (k n h))
                | inr h ↦ inr (HoldsNine-map (λ n. Has s n ⊎ Has t n) (λ n. P n ⊎ Q n) onto h)
              ]
        ]
      ];
    }

pub Makes-joined : (P Q : ℤ → Type 0) (s t : Shape) → Makes P s → Makes Q t → Makes (λ n. P n ⊎ Q n) (joined s t)
Makes-joined P Q s t a b =
    let j = joined-makes s t a.valid b.valid in
    let f = Fits-joined P Q s t (Makes-fits P s a) (Makes-fits Q t b) in
    record {
      valid = j.valid;
      least = record {
        holds = f.holds;
        least = λ u valid all n h. j.least.least u valid
            (λ k i. elim i [ inl x ↦ a.least.least u valid (λ l p. all l (inl p)) k x | inr y ↦ b.least.least u valid (λ l q. all l (inr q)) k y ]) n h;
      };
      sharp = f.sharp;
    }

pub none-exactly : Exactly (λ n. ⊥) none
none-exactly = record {
  valid = record { small = omega arith; ascending = tt; numbers = tt };
  holds = λ n h. absurd h;
  only = λ n h. absurd h;
}

pub gathered-makes : (xs : List ℤ) → AllNumbers xs → Makes (Among xs) (gathered xs)
unfolding gathered
gathered-makes xs a =
    Makes-same (λ n. Has none n ⊎ Among xs n) (Among xs) (with_numbers none xs)
    (λ n h. elim h [ inl k ↦ absurd k | inr m ↦ m ]) (λ n m. inr m)
    (with_numbers-makes none xs none-exactly.valid a)

-- ---- few numbers

-- the numbers of a list, in order and once
record Settled (xs : List ℤ) : Type 0 where
  made : List ℤ
  short : length made ≤ length xs
  ascending : IsAscending made
  keeps : (n : ℤ) → Among xs n → Among made n

settled : (xs : List ℤ) → Settled xs
settled [] = record { made = []; short = omega arith; ascending = tt; keeps = λ n m. m }
settled (x ∷ xs) =
    let s = settled xs in
    let w = inserted-with x s.made s.ascending in
    record {
      made = inserted x s.made;
      short = (let k = w.longer in let l = s.short in omega arith);
      ascending = w.ascending;
      keeps = λ n m. elim m [ inl e ↦ w.keeps n (inr e) | inr i ↦ w.keeps n (inl (s.keeps n i)) ];
    }

-- at most 8 numbers are not 9
pub few_not_nine : (xs : List ℤ) → length xs ≤ 8 → HoldsNine (Among xs) → ⊥
few_not_nine xs h nine =
    let s = settled xs in
    let l : length nine.some ≤ length s.made = fits nine.some s.made nine.ascending s.ascending (record { has = λ n m. s.keeps n (nine.held n m) }) in
    let e = nine.nine in
    let k = s.short in
    absurd (omega arith)

pub Makes-exactly : (P : ℤ → Type 0) (s : Shape) → Makes P s → (HoldsNine P → ⊥) → Exactly P s
Makes-exactly P s m h = record { valid = m.valid; holds = m.least.holds; only = elim m.sharp [ inl f ↦ f | inr nine ↦ absurd (h nine) ] }

pub Exactly-same : (P Q : ℤ → Type 0) (s : Shape) → ((n : ℤ) → P n → Q n) → ((n : ℤ) → Q n → P n) → Exactly P s → Exactly Q s
Exactly-same P Q s f g e = record { valid = e.valid; holds = λ n q. e.holds n (g n q); only = λ n h. f n (e.only n h) }

pub gathered-exactly : (xs : List ℤ) → AllNumbers xs → length xs ≤ 8 → Exactly (Among xs) (gathered xs)
gathered-exactly xs a h = Makes-exactly (Among xs) (gathered xs) (gathered-makes xs a) (few_not_nine xs h)
