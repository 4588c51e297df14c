-- One object after the other is born, holds an argument, or an item of an initial content.
use Rattle.std.proofs.Common.{true≢false, ◌≡◌, ◌≢◌, ⊎_elim, ℕ, zero, suc, ◌+◌, ◌*◌, ◌<◌, ◌≤◌, ◌==◌, Bool, true, false, cond, ◌||◌, List, [], ◌∷◌, ◌++◌, length, map, drop, get_or, replicate, Option, None, Some, refl, sym, ◌∙◌, ap, arith, append_assoc, append-nil}
use Rattle.std.proofs.Math.Path.{fun_ext}
use Rattle.std.specs.Prelude.{option_map, is_some, unwrap_or, slice_get}
use Rattle.std.specs.List.{list_any}
use Rattle.std.proofs.lemmas.Bool.Decides.{eqb_tells}
use Rattle.c_memory.specs.Layouts.{Layout}
use Rattle.c_memory.specs.Memories.{Memory, with_base, born, overwritten}
use Rattle.c_memory.specs.Values.{Cell, Uninit}
use Rattle.c_effects.specs.Images.{with_items, item_cells, pasted, repeated}
use Rattle.c_effects.specs.Passing.{Argument, argument_cells, passed}
use Rattle.c_typed_stmt.specs.declared.init.ImageItem.{ImageItem}
use Rattle.stepper_accesses.specs.Arguments.{argument_of}
use Rattle.stepper_accesses.specs.declared.scopes.Argument.{Argument as CodeArgument}
use Rattle.stepper_memory.proofs.Tables.{same_base}
use Rattle.std.proofs.lemmas.List.{drop_all, get_or_default}
use Rattle.stepper_memory.proofs.Written.{drop_next}

-- ---- births

born_first : (l : Layout) (b : ℕ) (rest : List ℕ) (m : Memory) → born l rest (with_base m b (Some (replicate (8 * l.size b) Uninit))) ≡ born l (b ∷ rest) m
born_first l b rest m = fun_ext (λ other. at other (other == b) refl)
  where
    either : (t : Bool) (x : Option (List Cell)) → cond t x x ≡ x
    either true x = refl
    either false x = refl

    at : (other : ℕ) (t : Bool) → (other == b) ≡ t →
        cond (list_any (λ x. other == x) rest) (Some (replicate (8 * l.size other) Uninit)) (cond (other == b) (Some (replicate (8 * l.size b) Uninit)) (m other))
        ≡ cond ((other == b) || list_any (λ x. other == x) rest) (Some (replicate (8 * l.size other) Uninit)) (m other)
    at other true e =
        ap (λ t. cond (list_any (λ x. other == x) rest) (Some (replicate (8 * l.size other) Uninit)) (cond t (Some (replicate (8 * l.size b) Uninit)) (m other))) e
        ∙ ap (λ n. cond (list_any (λ x. other == x) rest) (Some (replicate (8 * l.size other) Uninit)) (Some (replicate (8 * l.size n) Uninit))) (sym (same_base other b e))
        ∙ either (list_any (λ x. other == x) rest) (Some (replicate (8 * l.size other) Uninit))
        ∙ sym (ap (λ t. cond (t || list_any (λ x. other == x) rest) (Some (replicate (8 * l.size other) Uninit)) (m other)) e)
    at other false e =
        ap (λ t. cond (list_any (λ x. other == x) rest) (Some (replicate (8 * l.size other) Uninit)) (cond t (Some (replicate (8 * l.size b) Uninit)) (m other))) e
        ∙ sym (ap (λ t. cond (t || list_any (λ x. other == x) rest) (Some (replicate (8 * l.size other) Uninit)) (m other)) e)

pub born_next : (l : Layout) (bases : List ℕ) (i b : ℕ) (goal m after : Memory) → i < length bases → b ≡ get_or bases i 0 → born l (drop i bases) m ≡ goal →
    after ≡ with_base m b (Some (replicate (8 * l.size b) Uninit)) → born l (drop (i + 1) bases) after ≡ goal
born_next l bases i b goal m after h is inv e =
    ap (born l (drop (i + 1) bases)) e ∙ born_first l b (drop (i + 1) bases) m
    ∙ ap (λ bs. born l bs m) (sym (drop_next bases i b h (is ∙ get_or_default bases i 0 b h))) ∙ inv

pub born_done : (l : Layout) (bases : List ℕ) (i : ℕ) (goal m : Memory) → length bases ≤ i → born l (drop i bases) m ≡ goal → m ≡ goal
born_done l bases i goal m h inv = ap (λ bs. born l bs m) (sym (drop_all i bases h)) ∙ inv

-- ---- arguments

drop_get : (arguments : List CodeArgument) (i : ℕ) (a : CodeArgument) → slice_get arguments i ≡ Some a →
    drop i (map argument_of arguments) ≡ argument_of a ∷ drop (i + 1) (map argument_of arguments)
drop_get [] i a e = cc
drop_get (x ∷ arguments) zero a e = ap (λ y. argument_of y ∷ map argument_of arguments) (some_same x a e)
  where
    some_same : (x y : CodeArgument) → Some x ≡ Some y → x ≡ y
    some_same x y e = ap (λ o. unwrap_or o x) e
drop_get (x ∷ arguments) (suc i) a e =
    let one : suc (i + 1) ≡ suc i + 1 = omega arith in
    drop_get arguments i a e ∙ ap (λ k. argument_of a ∷ drop k (map argument_of (x ∷ arguments))) one

drop_out : (arguments : List CodeArgument) (i : ℕ) → slice_get arguments i ≡ None → drop i (map argument_of arguments) ≡ []
drop_out [] zero e = refl
drop_out [] (suc i) e = refl
drop_out (x ∷ arguments) zero e = cc
drop_out (x ∷ arguments) (suc i) e = drop_out arguments i e

pub passed_next : (l : Layout) (formals : List ℕ) (arguments : List CodeArgument) (i b : ℕ) (a : CodeArgument) (goal m after : Memory) → i < length formals → b ≡ get_or formals i 0 →
    slice_get arguments i ≡ Some a → passed l (drop i formals) (drop i (map argument_of arguments)) m ≡ goal →
    after ≡ with_base m b (Some (argument_cells l b (argument_of a))) →
    passed l (drop (i + 1) formals) (drop (i + 1) (map argument_of arguments)) after ≡ goal
passed_next l formals arguments i b a goal m after h is item inv e =
    ap (passed l (drop (i + 1) formals) (drop (i + 1) (map argument_of arguments))) e
    ∙ ap (λ bs. passed l bs (argument_of a ∷ drop (i + 1) (map argument_of arguments)) m) (sym (drop_next formals i b h (is ∙ get_or_default formals i 0 b h)))
    ∙ ap (λ given. passed l (drop i formals) given m) (sym (drop_get arguments i a item)) ∙ inv

pub passed_all : (l : Layout) (formals : List ℕ) (arguments : List Argument) (i : ℕ) (goal m : Memory) → length formals ≤ i →
    passed l (drop i formals) (drop i arguments) m ≡ goal → m ≡ goal
passed_all l formals arguments i goal m h inv = ap (λ bs. passed l bs (drop i arguments) m) (sym (drop_all i formals h)) ∙ inv

none_left : (l : Layout) (bases : List ℕ) (m : Memory) → passed l bases [] m ≡ m
none_left l [] m = refl
none_left l (b ∷ bases) m = refl

pub passed_short : (l : Layout) (formals : List ℕ) (arguments : List CodeArgument) (i : ℕ) (goal m : Memory) → slice_get arguments i ≡ None →
    passed l (drop i formals) (drop i (map argument_of arguments)) m ≡ goal → m ≡ goal
passed_short l formals arguments i goal m h inv =
    sym (none_left l (drop i formals) m) ∙ ap (λ given. passed l (drop i formals) given m) (sym (drop_out arguments i h)) ∙ inv

-- ---- initial contents

base_again : (m : Memory) (b : ℕ) (x y : Option (List Cell)) → with_base (with_base m b x) b y ≡ with_base m b y
base_again m b x y = fun_ext (λ other. at other (other == b) refl)
  where
    at : (other : ℕ) (t : Bool) → (other == b) ≡ t → cond (other == b) y (cond (other == b) x (m other)) ≡ cond (other == b) y (m other)
    at other true e = ap (λ t. cond t y (cond t x (m other))) e ∙ sym (ap (λ t. cond t y (m other)) e)
    at other false e = ap (λ t. cond t y (cond t x (m other))) e ∙ sym (ap (λ t. cond t y (m other)) e)

base_has : (m : Memory) (b : ℕ) (x : Option (List Cell)) → with_base m b x b ≡ x
base_has m b x = ⊎_elim (λ h. ap (λ t. cond t x (m b)) h.0) (λ h. absurd (h.1 refl)) (eqb_tells b b)

items_first : (l : Layout) (i : ImageItem) (rest : List ImageItem) (cells : Option (List Cell)) →
    option_map (with_items l rest) (option_map (with_items l (i ∷ [])) cells) ≡ option_map (with_items l (i ∷ rest)) cells
items_first l i rest None = refl
items_first l i rest (Some cells) = refl

pub pasted_first : (l : Layout) (b : ℕ) (i : ImageItem) (rest : List ImageItem) (m : Memory) → pasted l b rest (pasted l b (i ∷ []) m) ≡ pasted l b (i ∷ rest) m
pasted_first l b i rest m =
    base_again m b (option_map (with_items l (i ∷ [])) (m b)) (option_map (with_items l rest) (pasted l b (i ∷ []) m b))
    ∙ ap (λ x. with_base m b (option_map (with_items l rest) x)) (base_has m b (option_map (with_items l (i ∷ [])) (m b)))
    ∙ ap (with_base m b) (items_first l i rest (m b))

same_memory : (m : Memory) (b : ℕ) → with_base m b (m b) ≡ m
same_memory m b = fun_ext (λ other. at other (other == b) refl)
  where
    at : (other : ℕ) (t : Bool) → (other == b) ≡ t → cond (other == b) (m b) (m other) ≡ m other
    at other true e = ap (λ t. cond t (m b) (m other)) e ∙ ap m (sym (same_base other b e))
    at other false e = ap (λ t. cond t (m b) (m other)) e

pub pasted_nothing : (l : Layout) (b : ℕ) (m : Memory) → pasted l b [] m ≡ m
pasted_nothing l b m = ap (with_base m b) (none (m b)) ∙ same_memory m b
  where
    none : (cells : Option (List Cell)) → option_map (with_items l []) cells ≡ cells
    none None = refl
    none (Some cells) = refl

pub pasted_dead : (l : Layout) (b : ℕ) (image : List ImageItem) (m : Memory) → is_some (m b) ≡ false → m ≡ pasted l b image m
pasted_dead l b image m e = sym (ap (with_base m b) (gone (m b) e) ∙ same_memory m b)
  where
    gone : (cells : Option (List Cell)) → is_some cells ≡ false → option_map (with_items l image) cells ≡ cells
    gone None e = refl
    gone (Some cells) e = absurd (true≢false e)

pub pasted_live : (l : Layout) (b : ℕ) (i : ImageItem) (m after : Memory) (cells : List Cell) → is_some (m b) ≡ true → cells ≡ item_cells l i →
    after ≡ with_base m b (Some (overwritten (unwrap_or (m b) []) i.low cells)) → after ≡ pasted l b (i ∷ []) m
pasted_live l b i m after cells e is h =
    h ∙ ap (λ cs. with_base m b (Some (overwritten (unwrap_or (m b) []) i.low cs))) is ∙ ap (with_base m b) (live (m b) e)
  where
    live : (x : Option (List Cell)) → is_some x ≡ true → Some (overwritten (unwrap_or x []) i.low (item_cells l i)) ≡ option_map (with_items l (i ∷ [])) x
    live None e = absurd (true≢false (sym e))
    live (Some x) e = refl

items_get : (image : List ImageItem) (n : ℕ) (i : ImageItem) → slice_get image n ≡ Some i → drop n image ≡ i ∷ drop (n + 1) image
items_get [] n i e = cc
items_get (x ∷ image) zero i e = ap (λ y. y ∷ image) (ap (λ o. unwrap_or o x) e)
items_get (x ∷ image) (suc n) i e =
    let one : suc (n + 1) ≡ suc n + 1 = omega arith in
    items_get image n i e ∙ ap (λ k. i ∷ drop k (x ∷ image)) one

items_out : (image : List ImageItem) (n : ℕ) → slice_get image n ≡ None → drop n image ≡ []
items_out [] zero e = refl
items_out [] (suc n) e = refl
items_out (x ∷ image) zero e = cc
items_out (x ∷ image) (suc n) e = items_out image n e

pub pasted_next : (l : Layout) (b : ℕ) (image : List ImageItem) (n : ℕ) (i : ImageItem) (goal m after : Memory) → slice_get image n ≡ Some i →
    pasted l b (drop n image) m ≡ goal → after ≡ pasted l b (i ∷ []) m → pasted l b (drop (n + 1) image) after ≡ goal
pasted_next l b image n i goal m after is inv e =
    ap (pasted l b (drop (n + 1) image)) e ∙ pasted_first l b i (drop (n + 1) image) m ∙ ap (λ is. pasted l b is m) (sym (items_get image n i is)) ∙ inv

pub pasted_out : (l : Layout) (b : ℕ) (image : List ImageItem) (n : ℕ) (goal m : Memory) → slice_get image n ≡ None → pasted l b (drop n image) m ≡ goal → m ≡ goal
pasted_out l b image n goal m e inv = sym (pasted_nothing l b m) ∙ ap (λ is. pasted l b is m) (sym (items_out image n e)) ∙ inv

pub pasted_done : (l : Layout) (b : ℕ) (image : List ImageItem) (n : ℕ) (goal m : Memory) → length image ≤ n → pasted l b (drop n image) m ≡ goal → m ≡ goal
pasted_done l b image n goal m h inv = sym (pasted_nothing l b m) ∙ ap (λ is. pasted l b is m) (sym (drop_all n image h)) ∙ inv

-- one more of the same element
pub repeated_more : (cells : List Cell) (count : ℕ) → repeated count cells ++ cells ≡ repeated (count + 1) cells
repeated_more cells zero = sym (append-nil cells)
repeated_more cells (suc count) =
    let one : suc (count + 1) ≡ suc count + 1 = omega arith in
    append_assoc cells (repeated count cells) cells ∙ ap (λ cs. cells ++ cs) (repeated_more cells count) ∙ ap (λ n. repeated n cells) one
