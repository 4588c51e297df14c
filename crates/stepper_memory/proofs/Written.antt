-- Bits that are written over others, and what they are by now.
use Rattle.std.proofs.Common.{◌≡◌, ℕ, zero, suc, ◌+◌, ◌-◌, ◌<◌, ◌≤◌, false, cond, ◌||◌, List, [], ◌∷◌, ◌++◌, length, map, take, drop, replicate, get_or, refl, sym, ◌∙◌, ap, arith, append-nil}
use Rattle.std.specs.Prelude.{nat_lt, slice_set}
use Rattle.std.specs.List.{AllByRecursion}
use Rattle.std.proofs.lemmas.List.{map-append, drop_all}
use Rattle.std.proofs.lemmas.Bool.Decides.{nat_tests}
use Rattle.c_memory.specs.Memories.{overwritten}
use Rattle.c_memory.specs.Values.{Cell, Uninit, Dead, Bit}
use Rattle.stepper_values.specs.declared.value.Cell.{Cell as CodeCell}
use Rattle.stepper_values.specs.declared.value.Cell.TheVariants.{Uninit as CodeUninit, Dead as CodeDead, Bit as CodeBit}
use Rattle.stepper_values.specs.Views.{cell_of, bases_of}
use Rattle.stepper_memory.specs.declared.stored.Stored.{Stored}
use Rattle.stepper_memory.specs.Putting.{put_at}
use Rattle.stepper_memory.specs.Views.{death_of, is_stale, aged, seen, IsBefore}

-- ---- an item in the place of another

pub set_is_put : {A : Type 0} (xs : List A) (n : ℕ) (y : A) → n < length xs → slice_set xs n y ≡ put_at xs n y
set_is_put [] n y h = absurd (omega arith)
set_is_put (x ∷ xs) zero y h = refl
set_is_put (x ∷ xs) (suc n) y h = ap (λ ys. x ∷ ys) (set_is_put xs n y (omega arith))

pub push_is_put : {A : Type 0} (xs : List A) (n : ℕ) (y : A) → length xs ≤ n → xs ++ y ∷ [] ≡ put_at xs n y
push_is_put [] n y h = refl
push_is_put (x ∷ xs) zero y h = absurd (omega arith)
push_is_put (x ∷ xs) (suc n) y h = ap (λ ys. x ∷ ys) (push_is_put xs n y (omega arith))

map_put : {A B : Type 0} (f : A → B) (xs : List A) (n : ℕ) (y : A) → map f (put_at xs n y) ≡ put_at (map f xs) n (f y)
map_put f [] n y = refl
map_put f (x ∷ xs) zero y = refl
map_put f (x ∷ xs) (suc n) y = ap (λ ys. f x ∷ ys) (map_put f xs n y)

-- the list with others over its items from the n-th on
abbrev pub over : List Cell → ℕ → List Cell → List Cell
over [] n ys = ys
over (x ∷ xs) zero [] = x ∷ xs
over (x ∷ xs) zero (y ∷ ys) = y ∷ over xs zero ys
over (x ∷ xs) (suc n) ys = x ∷ over xs n ys

over_step : (xs : List Cell) (n : ℕ) (y : Cell) (ys : List Cell) → over xs n (y ∷ ys) ≡ over (put_at xs n y) (suc n) ys
over_step [] n y ys = refl
over_step (x ∷ xs) zero y ys = refl
over_step (x ∷ xs) (suc n) y ys = ap (λ zs. x ∷ zs) (over_step xs n y ys)

over_nothing : (xs : List Cell) (n : ℕ) → over xs n [] ≡ xs
over_nothing [] n = refl
over_nothing (x ∷ xs) zero = refl
over_nothing (x ∷ xs) (suc n) = ap (λ zs. x ∷ zs) (over_nothing xs n)

take_nil : (n : ℕ) → take {A = Cell} n [] ≡ []
take_nil zero = refl
take_nil (suc n) = refl

drop_nil : (n : ℕ) → drop {A = Cell} n [] ≡ []
drop_nil zero = refl
drop_nil (suc n) = refl

over_front : (xs ys : List Cell) → ys ++ drop (length ys) xs ≡ over xs zero ys
over_front [] ys = ap (λ zs. ys ++ zs) (drop_nil (length ys)) ∙ append-nil ys
over_front (x ∷ xs) [] = refl
over_front (x ∷ xs) (y ∷ ys) = ap (λ zs. y ∷ zs) (over_front xs ys)

pub over_is : (xs : List Cell) (n : ℕ) (ys : List Cell) → overwritten xs n ys ≡ over xs n ys
over_is [] n ys = ap (λ zs. zs ++ ys ++ drop (n + length ys) []) (take_nil n) ∙ ap (λ zs. ys ++ zs) (drop_nil (n + length ys)) ∙ append-nil ys
over_is (x ∷ xs) zero ys =
    let none : 0 + length ys ≡ length ys = omega arith in
    ap (λ k. ys ++ drop k (x ∷ xs)) none ∙ over_front (x ∷ xs) ys
over_is (x ∷ xs) (suc n) ys =
    let one : suc n + length ys ≡ suc (n + length ys) = omega arith in
    ap (λ k. x ∷ (take n xs ++ ys) ++ drop k (x ∷ xs)) one ∙ ap (λ zs. x ∷ zs) (over_is xs n ys)

pub before_put : (now : ℕ) (xs : List Stored) (n : ℕ) (y : Stored) → IsBefore now y → AllByRecursion (IsBefore now) xs → AllByRecursion (IsBefore now) (put_at xs n y)
before_put now [] n y h all = (h, tt)
before_put now (x ∷ xs) zero y h all = (h, all.1)
before_put now (x ∷ xs) (suc n) y h all = (all.0, before_put now xs n y h all.1)

-- ---- what is written now is seen

death_before : (now : ℕ) (deaths : List ℕ) (base : ℕ) → AllByRecursion (λ d. d ≤ now) deaths → death_of deaths base ≤ now
death_before now [] base all = omega arith
death_before now (d ∷ deaths) zero all = all.0
death_before now (d ∷ deaths) (suc base) all = death_before now deaths base all.1

not_stale : (now : ℕ) (deaths bases : List ℕ) → AllByRecursion (λ d. d ≤ now) deaths → is_stale deaths now bases ≡ false
not_stale now deaths [] all = refl
not_stale now deaths (b ∷ bases) all =
    let before = death_before now deaths b all in
    let no : nat_lt now (death_of deaths b) ≡ false = grind (arith, nat_tests) in
    ap (λ t. t || is_stale deaths now bases) no ∙ not_stale now deaths bases all

pub seen_now : (now : ℕ) (deaths : List ℕ) (cell : CodeCell) → AllByRecursion (λ d. d ≤ now) deaths → aged deaths now cell ≡ cell_of cell
seen_now now deaths CodeUninit all = refl
seen_now now deaths CodeDead all = refl
seen_now now deaths (CodeBit bit bases piece) all = ap (λ t. cond t Dead (Bit bit (bases_of bases) piece)) (not_stale now deaths bases all)

-- ---- one bit after the other

pub drop_next : {A : Type 0} (xs : List A) (n : ℕ) (x : A) → n < length xs → x ≡ get_or xs n x → drop n xs ≡ x ∷ drop (n + 1) xs
drop_next [] n x h is = absurd (omega arith)
drop_next (y ∷ ys) zero x h is = ap (λ z. z ∷ ys) (sym is)
drop_next (y ∷ ys) (suc n) x h is =
    let one : suc (n + 1) ≡ suc n + 1 = omega arith in
    drop_next ys n x (omega arith) is ∙ ap (λ k. x ∷ drop k (y ∷ ys)) one

-- the rest of the bits, written over what stands there, makes the whole
abbrev pub Writes : ℕ → List Stored → ℕ → List CodeCell → List Stored → ℕ → List CodeCell → Type 0
Writes now old first new cells at rest =
    (deaths : List ℕ) → AllByRecursion (λ d. d ≤ now) deaths →
    over (map (seen deaths) cells) at (map cell_of rest) ≡ over (map (seen deaths) old) first (map cell_of new)

pub writes_next : (now : ℕ) (old : List Stored) (first : ℕ) (new : List CodeCell) (cells after : List Stored) (at i : ℕ) (cell : CodeCell) (s : Stored) →
    i < length new → cell ≡ get_or new i cell → s ≡ record { cell = cell; since = now } → after ≡ put_at cells at s →
    Writes now old first new cells at (drop i new) → Writes now old first new after (at + 1) (drop (i + 1) new)
writes_next now old first new cells after at i cell s h is stored put inv deaths all =
    let one : at + 1 ≡ suc at = omega arith in
    let bit : seen deaths s ≡ cell_of cell = ap (seen deaths) stored ∙ seen_now now deaths cell all in
    let rest : map cell_of (drop i new) ≡ cell_of cell ∷ map cell_of (drop (i + 1) new) = ap (map cell_of) (drop_next new i cell h is) in
    ap (λ n. over (map (seen deaths) after) n (map cell_of (drop (i + 1) new))) one
    ∙ ap (λ cs. over cs (suc at) (map cell_of (drop (i + 1) new)))
    (ap (map (seen deaths)) put ∙ map_put (seen deaths) cells at s ∙ ap (put_at (map (seen deaths) cells) at) bit)
    ∙ sym (over_step (map (seen deaths) cells) at (cell_of cell) (map cell_of (drop (i + 1) new)))
    ∙ ap (over (map (seen deaths) cells) at) (sym rest) ∙ inv deaths all

pub writes_done : (now : ℕ) (old : List Stored) (first : ℕ) (new : List CodeCell) (cells : List Stored) (at i : ℕ) → length new ≤ i →
    Writes now old first new cells at (drop i new) → (deaths : List ℕ) → AllByRecursion (λ d. d ≤ now) deaths →
    map (seen deaths) cells ≡ overwritten (map (seen deaths) old) first (map cell_of new)
writes_done now old first new cells at i h inv deaths all =
    sym (over_nothing (map (seen deaths) cells) at) ∙ ap (λ cs. over (map (seen deaths) cells) at (map cell_of cs)) (sym (drop_all i new h)) ∙ inv deaths all
    ∙ sym (over_is (map (seen deaths) old) first (map cell_of new))

-- ---- bits that were not written

pub fills_next : (now i : ℕ) (cells new : List Stored) (s : Stored) → s ≡ record { cell = CodeUninit; since = now } → new ≡ cells ++ s ∷ [] →
    ((deaths : List ℕ) → map (seen deaths) cells ≡ replicate i Uninit) → (deaths : List ℕ) → map (seen deaths) new ≡ replicate (i + 1) Uninit
fills_next now i cells new s is e inv deaths =
    ap (map (seen deaths)) e ∙ map-append (seen deaths) cells (s ∷ []) ∙ ap (λ cs. cs ++ seen deaths s ∷ []) (inv deaths) ∙ ap (λ c. replicate i Uninit ++ c ∷ []) (ap (seen deaths) is) ∙ more i
  where
    more : (n : ℕ) → replicate n Uninit ++ Uninit ∷ [] ≡ replicate (n + 1) Uninit
    more zero = refl
    more (suc n) =
        let one : suc (n + 1) ≡ suc n + 1 = omega arith in
        ap (λ cs. Uninit ∷ cs) (more n) ∙ ap (λ k. replicate k Uninit) one

pub before_push : (now : ℕ) (cells : List Stored) (s : Stored) → AllByRecursion (IsBefore now) cells → IsBefore now s → AllByRecursion (IsBefore now) (cells ++ s ∷ [])
before_push now [] s all h = (h, tt)
before_push now (c ∷ cells) s all h = (all.0, before_push now cells s all.1 h)

pub fresh_before : (now : ℕ) (cell : CodeCell) (s : Stored) → s ≡ record { cell = cell; since = now } → IsBefore now s
fresh_before now cell s e = let same : s.since ≡ now = ap (λ x. x.since) e in record { time = omega arith }
