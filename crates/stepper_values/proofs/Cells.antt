-- Cells, one after another, as the stepper's lists have them.
use Rattle.std.proofs.Common.{◌≡◌, ◌≢◌, ℕ, zero, suc, ◌+◌, ◌-◌, ◌*◌, ◌/◌, ◌%◌, ◌<◌, ◌≤◌, ◌==◌, Bool, true, false, cond, ◌||◌, List, [], ◌∷◌, ◌++◌, length, map, replicate, take, drop, get_or, refl, sym, ◌∙◌, ap, arith, append_assoc, append-nil}
use Rattle.std.proofs.lemmas.List.{map-append}
use Rattle.std.proofs.Common.{true≢false}
use Rattle.std.specs.List.{list_any}
use Rattle.std.specs.Ordering.{nat_cmp, eq_by_cmp}
use Rattle.std.specs.FinSet.{empty, insert, contains, union, len, empty_of_len, contains-empty, contains-insert, contains-union, len-empty, len-insert, same_set, nat_cmp-IsAntisymmetric}
use Rattle.std.specs.Cmp.{nat_cmp_total}
use Rattle.std.proofs.lemmas.Bool.Decides.{nat_tests}
use Rattle.c_base.specs.Integers.{bits_from, number_of_bits}
use Rattle.c_memory.specs.Memories.{overwritten}
use Rattle.c_memory.specs.Values.{Cell, Bit, Provenance, nowhere, piece_of, cells_from, bit_of, provenance_of, united}
use Rattle.stepper_values.specs.declared.value.Cell.{Cell as CodeCell}
use Rattle.stepper_values.specs.declared.value.Cell.TheVariants.{Bit as CodeBit}
use Rattle.stepper_values.specs.Views.{cell_of, bases_of}

not-none : (n : ℕ) → (suc n == 0) ≡ true → ⊥
not-none n e = let f : (suc n == 0) ≡ false = grind (arith, nat_tests) in absurd (true≢false (sym e ∙ f))

take-all : {A : Type 0} (xs : List A) (n : ℕ) → length xs ≤ n → take n xs ≡ xs
take-all [] zero h = refl
take-all [] (suc n) h = refl
take-all (x ∷ xs) zero h = absurd (omega arith)
take-all (x ∷ xs) (suc n) h = ap (λ ys. x ∷ ys) (take-all xs n (omega arith))

pub cells-step : (p : Provenance) (i n k : ℕ) →
    cells_from p i (bits_from n (suc k)) ≡ Bit (n % 2 == 1) p (piece_of p i) ∷ cells_from p (suc i) (bits_from (n / 2) k)
unfolding cells_from bits_from
cells-step p i n k = refl

len_some : (s : Provenance) (k : ℕ) → len (insert s k) ≡ 0 → contains s k ≡ true → len s ≡ 0
len_some s k e t = sym (len-insert nat_cmp_total s k ∙ ap (λ b. cond b (len s) (len s + 1)) t) ∙ e

pub insert-not-empty : (s : Provenance) (k : ℕ) → len (insert s k) ≢ 0
insert-not-empty s k e = by_test (contains s k) refl
  where
    by_test : (b : Bool) → contains s k ≡ b → ⊥
    by_test true t =
        let none : s ≡ empty = empty_of_len s (len_some s k e t) in
        let no : contains s k ≡ false = ap (λ x. contains x k) none ∙ contains-empty nat_cmp k in
        absurd (cc)
    by_test false t =
        let one : len (insert s k) ≡ len s + 1 = len-insert nat_cmp_total s k ∙ ap (λ b. cond b (len s) (len s + 1)) t in
        absurd (omega arith)

-- the slice behind the first item
abbrev pub behind : {A : Type 0} → List A → List A
behind xs = take (length xs - 1) (drop 1 xs)

pub behind-cons : {A : Type 0} (x : A) (xs : List A) → behind (x ∷ xs) ≡ xs
behind-cons x xs = let one : suc (length xs) - 1 ≡ length xs = omega arith in ap (λ n. take n xs) one ∙ take-all xs (length xs) (omega arith)

-- a list that has a first item
pub front-split : {A : Type 0} (xs : List A) (x : A) → (length xs == 0) ≡ false → x ≡ get_or xs 0 x → xs ≡ x ∷ behind xs
front-split [] x h e = absurd (true≢false h)
front-split (y ∷ ys) x h e = rw (behind-cons y ys, e) refl

pub piece-none : (bs : List ℕ) (i : ℕ) → (length bs == 0) ≡ true → piece_of (bases_of bs) i ≡ 0
piece-none [] i e = ap (λ n. cond (n == 0) 0 i) (len-empty nat_cmp)
piece-none (b ∷ bs) i e = absurd (not-none (length bs) e)

pub piece-some : (bs : List ℕ) (i : ℕ) → (length bs == 0) ≡ false → piece_of (bases_of bs) i ≡ i
piece-some [] i h = absurd (cc)
piece-some (b ∷ bs) i h =
    let some = insert-not-empty (bases_of bs) b in
    let t : (len (insert (bases_of bs) b) == 0) ≡ false = grind (arith, nat_tests) in
    ap (λ x. cond x 0 i) t

-- the set of two lists
pub contains-append : (xs ys : List ℕ) (q : ℕ) → contains (bases_of (xs ++ ys)) q ≡ (contains (bases_of xs) q || contains (bases_of ys) q)
contains-append [] ys q = sym (ap (λ b. b || contains (bases_of ys) q) (contains-empty nat_cmp q))
contains-append (x ∷ xs) ys q =
    rw (contains-insert nat_cmp_total (bases_of (xs ++ ys)) x q, contains-insert nat_cmp_total (bases_of xs) x q, contains-append xs ys q)
    (or-assoc (eq_by_cmp nat_cmp q x) (contains (bases_of xs) q) (contains (bases_of ys) q))
  where
    or-assoc : (a b c : Bool) → (a || (b || c)) ≡ ((a || b) || c)
    or-assoc true b c = refl
    or-assoc false b c = refl

pub bases-append : (xs ys : List ℕ) → bases_of (xs ++ ys) ≡ union (bases_of xs) (bases_of ys)
bases-append xs ys =
    same_set nat_cmp_total nat_cmp-IsAntisymmetric _ _ (λ q. contains-append xs ys q ∙ sym (contains-union nat_cmp_total (bases_of xs) (bases_of ys) q))

pub cells-none : {A : Type 0} (xs : List A) → (length xs == 0) ≡ true → xs ≡ []
cells-none [] e = refl
cells-none (x ∷ xs) e = absurd (not-none (length xs) e)

pub pattern-empty : number_of_bits [] ≡ 0
unfolding number_of_bits
pattern-empty = refl

pub pattern-split : (cells : List CodeCell) (x : CodeCell) → (length cells == 0) ≡ false → x ≡ get_or cells 0 x →
    number_of_bits (map bit_of (map cell_of cells)) ≡ cond (bit_of (cell_of x)) 1 0 + 2 * number_of_bits (map bit_of (map cell_of (behind cells)))
unfolding number_of_bits
pattern-split [] x h e = absurd (cc)
pattern-split (y ∷ ys) x h e = rw (behind-cons y ys, e) refl

pub united-empty : united [] ≡ nowhere
unfolding united
united-empty = refl

pub united-split : (cells : List CodeCell) (x : CodeCell) → (length cells == 0) ≡ false → x ≡ get_or cells 0 x → (rest own : List ℕ) →
    bases_of rest ≡ united (map cell_of (behind cells)) → bases_of own ≡ provenance_of (cell_of x) → bases_of (rest ++ own) ≡ united (map cell_of cells)
unfolding united
united-split [] x h e rest own f g = absurd (cc)
united-split (y ∷ ys) x h e rest own f g = let own_is : bases_of own ≡ provenance_of (cell_of y) = g ∙ ap (λ c. provenance_of (cell_of c)) e in rw (bases-append rest own, f, own_is, behind-cons y ys) refl

-- the first cell has the property, or what is behind it decides
pub any-front : (p : Cell → Bool) (cells : List CodeCell) (x : CodeCell) → (length cells == 0) ≡ false → x ≡ get_or cells 0 x → p (cell_of x) ≡ true → list_any p (map cell_of cells) ≡ true
any-front p [] x h e t = absurd (cc)
any-front p (y ∷ ys) x h e t = ap (λ b. b || list_any p (map cell_of ys)) (ap (λ c. p (cell_of c)) (sym e) ∙ t)

pub any-behind : (p : Cell → Bool) (cells : List CodeCell) (x : CodeCell) → (length cells == 0) ≡ false → x ≡ get_or cells 0 x → p (cell_of x) ≡ false →
    list_any p (map cell_of cells) ≡ list_any p (map cell_of (behind cells))
any-behind p [] x h e t = absurd (cc)
any-behind p (y ∷ ys) x h e t =
    ap (λ b. b || list_any p (map cell_of ys)) (ap (λ c. p (cell_of c)) (sym e) ∙ t) ∙ ap (λ cs. list_any p (map cell_of cs)) (sym (behind-cons y ys))

-- one cell more is written
pub cells-next : (whole : List Cell) (bs own : List ℕ) (out new : List CodeCell) (i end n : ℕ) (bit : Bool) (piece : ℕ) → i < end →
    whole ≡ map cell_of out ++ cells_from (bases_of bs) i (bits_from n (end - i)) → own ≡ bs → bit ≡ (n % 2 == 1) → piece ≡ piece_of (bases_of bs) i →
    new ≡ out ++ CodeBit bit own piece ∷ [] →
    whole ≡ map cell_of new ++ cells_from (bases_of bs) (i + 1) (bits_from (n / 2) (end - (i + 1)))
cells-next whole bs own out new i end n bit piece h inv o b q e =
    let one : end - i ≡ suc (end - (i + 1)) = omega arith in
    let step = cells-step (bases_of bs) i n (end - (i + 1)) in
    let cell : cell_of (CodeBit bit own piece) ≡ Bit (n % 2 == 1) (bases_of bs) (piece_of (bases_of bs) i) = rw (b, o, q) refl in
    let next : suc i ≡ i + 1 = omega arith in
    inv ∙ ap (λ k. map cell_of out ++ cells_from (bases_of bs) i (bits_from n k)) one
    ∙ ap (λ cs. map cell_of out ++ cs) (step ∙ ap (λ c. c ∷ cells_from (bases_of bs) (suc i) (bits_from (n / 2) (end - (i + 1)))) (sym cell)
    ∙ ap (λ k. cell_of (CodeBit bit own piece) ∷ cells_from (bases_of bs) k (bits_from (n / 2) (end - (i + 1)))) next)
    ∙ sym (append_assoc (map cell_of out) (cell_of (CodeBit bit own piece) ∷ []) _)
    ∙ ap (λ cs. cs ++ cells_from (bases_of bs) (i + 1) (bits_from (n / 2) (end - (i + 1)))) (sym (ap (map cell_of) e ∙ map-append cell_of out (CodeBit bit own piece ∷ [])))

pub cells-done : (whole : List Cell) (bs : List ℕ) (out : List CodeCell) (i end n : ℕ) → end ≤ i →
    whole ≡ map cell_of out ++ cells_from (bases_of bs) i (bits_from n (end - i)) → map cell_of out ≡ whole
unfolding cells_from bits_from
cells-done whole bs out i end n h inv =
    let none : end - i ≡ 0 = omega arith in
    sym (inv ∙ ap (λ k. map cell_of out ++ cells_from (bases_of bs) i (bits_from n k)) none ∙ append-nil (map cell_of out))

-- one more of the same cell
pub filled-next : (d : Cell) (x : CodeCell) (cells new : List CodeCell) (i : ℕ) → cell_of x ≡ d → map cell_of cells ≡ replicate i d → new ≡ cells ++ x ∷ [] → map cell_of new ≡ replicate (i + 1) d
filled-next d x cells new i is h e =
    let next : suc i ≡ i + 1 = omega arith in
    ap (map cell_of) e ∙ map-append cell_of cells (x ∷ []) ∙ ap (λ cs. cs ++ cell_of x ∷ []) h ∙ ap (λ c. replicate i d ++ c ∷ []) is ∙ more d i ∙ ap (λ n. replicate n d) next
  where
    more : (c : Cell) (i : ℕ) → replicate i c ++ c ∷ [] ≡ replicate (suc i) c
    more c zero = refl
    more c (suc i) = ap (λ cs. c ∷ cs) (more c i)

pub map_take : {A B : Type 0} (f : A → B) (n : ℕ) (xs : List A) → map f (take n xs) ≡ take n (map f xs)
map_take f zero xs = refl
map_take f (suc n) [] = refl
map_take f (suc n) (x ∷ xs) = ap (λ rest. f x ∷ rest) (map_take f n xs)

pub map_drop : {A B : Type 0} (f : A → B) (n : ℕ) (xs : List A) → map f (drop n xs) ≡ drop n (map f xs)
map_drop f zero xs = refl
map_drop f (suc n) [] = refl
map_drop f (suc n) (x ∷ xs) = map_drop f n xs

pub length_map : (cells : List CodeCell) → length (map cell_of cells) ≡ length cells
length_map [] = refl
length_map (c ∷ cs) = ap suc (length_map cs)

pub read-is : (first count : ℕ) (cells : List CodeCell) → map cell_of (take count (drop first cells)) ≡ take count (drop first (map cell_of cells))
read-is first count cells = map_take cell_of count (drop first cells) ∙ ap (take count) (map_drop cell_of first cells)

pub overwritten-is : (old new start one two made begin rest : List CodeCell) (first end : ℕ) → start ≡ [] → one ≡ start ++ begin → two ≡ one ++ new → made ≡ two ++ rest →
    begin ≡ take first old → rest ≡ drop end old → end ≡ first + length new → map cell_of made ≡ overwritten (map cell_of old) first (map cell_of new)
overwritten-is old new start one two made begin rest first end s o t m f b e =
    let whole : made ≡ (take first old ++ new) ++ drop (first + length new) old = m ∙ rw (t, o, s, f, b, e) refl in
    ap (map cell_of) whole ∙ map-append cell_of (take first old ++ new) (drop (first + length new) old)
    ∙ ap (λ cs. cs ++ map cell_of (drop (first + length new) old)) (map-append cell_of (take first old) new)
    ∙ rw (map_take cell_of first old, map_drop cell_of (first + length new) old, length_map new) refl
