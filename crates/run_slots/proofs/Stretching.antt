-- Parts that come again, as plain functions tell them.
use Rattle.std.proofs.Common.{◌≡◌, ℕ, zero, suc, ◌+◌, ◌-◌, ◌*◌, ◌<◌, ◌≤◌, List, [], ◌∷◌, ◌++◌, Bool, true, false, cond, length, take, drop, refl, sym, ap, ◌∙◌, subst, arith, inl, inr, get_or, append_assoc, append-nil}
use Rattle.std.specs.Prelude.{◌/◌, ◌%◌, ◌==◌, nat_lt, min, max}
use Rattle.std.proofs.Math.Nat.{mul-mod_right}
use Rattle.std.proofs.lemmas.Bool.{cases_Bool, cases_lt, lt-ltb, ltb-true, le-ltb, ltb-false}
use Rattle.std.proofs.lemmas.Bool.Decides.{nat_tests}
use Rattle.std.proofs.lemmas.List.{take-append-drop}
use Rattle.cell_laws.specs.Elements.{Element, width}
use Rattle.cell_laws.specs.Cells.{Ops}
use Rattle.cell_runs.specs.declared.runs.Run.{Run}
use Rattle.cell_runs.specs.Runs.{element_of, elements, AllSome}
use Rattle.cell_runs.proofs.Taking.{at_run, width-none, width-first, bits_at}
use Rattle.run_places.specs.declared.spots.Spot.{Spot}
use Rattle.run_places.specs.Spots.{HasBit}
use Rattle.run_places.specs.Chunks.{IsPeriod}
use Rattle.run_slots.specs.declared.stretch.Stretch.{Stretch}
use Rattle.run_slots.specs.Walks.{IsAt, bits_before}
use Rattle.run_slots.specs.Weakens.{ComeAgain}
use Rattle.run_slots.specs.Offsets.{steps_from}
use Rattle.run_slots.specs.Repeats.{turn, one_part, or_one, stretch_in, stretch_from, offsets_from, told_once}
use Rattle.run_slots.proofs.Walking.{before_is}
use Rattle.run_slots.proofs.Again.{again_one, again_many}

is_zero : (n : ℕ) → (n == 0) ≡ true → n ≡ 0
is_zero n e = grind (arith, nat_tests)

not_zero : (n : ℕ) → (n == 0) ≡ false → n ≡ 0 → ⊥
not_zero n e z = grind (arith, nat_tests)

pub turn_is : (bits wide : ℕ) → 0 < bits → IsPeriod bits wide (turn bits wide)
unfolding turn
turn_is bits wide h =
    elim (cases_Bool (wide % bits == 0)) [
      | inl e ↦
          let z = is_zero (wide % bits) e in
          let o : 1 * wide ≡ wide = omega arith in
          rw e (record { some = omega arith; few = omega arith; multiple = ap (λ (n : ℕ). n % bits) o ∙ z })
      | inr e ↦ rw e (record { some = h; few = omega arith; multiple = mul-mod_right bits wide })
    ]

pub turn_one : (bits wide : ℕ) → wide % bits ≡ 0 → 1 ≡ turn bits wide
unfolding turn
turn_one bits wide e = let z : (wide % bits == 0) ≡ true = grind (arith, nat_tests) in rw z refl

pub turn_all : (bits wide : ℕ) → (wide % bits ≡ 0 → ⊥) → bits ≡ turn bits wide
unfolding turn
turn_all bits wide e = let z : (wide % bits == 0) ≡ false = grind (arith, nat_tests) in rw z refl

pub turn_period : (bits wide n : ℕ) → 0 < bits → n ≡ turn bits wide → IsPeriod bits wide n
turn_period bits wide n h e = subst (IsPeriod bits wide) (sym e) (turn_is bits wide h)

-- what code finds in the rest of a run
pub in_short : (bits rest wide reach left : ℕ) → rest < reach - wide → one_part ≡ stretch_in bits rest wide reach left
unfolding stretch_in
in_short bits rest wide reach left h = let e = lt-ltb rest (reach - wide) h in rw e refl

pub in_wide : (bits rest wide reach left : ℕ) → reach - wide ≤ rest → rest / 64 < wide → one_part ≡ stretch_in bits rest wide reach left
unfolding stretch_in
in_wide bits rest wide reach left h l = let d = le-ltb rest (reach - wide) h in let e = lt-ltb (rest / 64) wide l in rw (d, e) refl

pub in_rest : (bits rest wide reach left size repeats : ℕ) → reach - wide ≤ rest → wide ≤ rest / 64 → size ≡ turn bits wide → repeats ≡ min (left / size) ((rest - (reach - wide)) / (size * wide)) →
    or_one (record { size = size; repeats = repeats }) ≡ stretch_in bits rest wide reach left
unfolding stretch_in
in_rest bits rest wide reach left size repeats h l e f =
    let d = le-ltb rest (reach - wide) h in
    let g = le-ltb (rest / 64) wide l in
    ap (λ (n : ℕ). or_one (record { size = size; repeats = n })) f
    ∙ ap (λ (n : ℕ). or_one (record { size = n; repeats = min (left / n) ((rest - (reach - wide)) / (n * wide)) })) e
    ∙ (rw (d, g) refl)

pub one_of_none : (size repeats : ℕ) → repeats ≡ 0 → one_part ≡ or_one (record { size = size; repeats = repeats })
one_of_none size n e = let z : (n == 0) ≡ true = grind (arith, nat_tests) in rw z refl

pub or_one_some : (size repeats : ℕ) → (repeats ≡ 0 → ⊥) → record { size = size; repeats = repeats } ≡ or_one (record { size = size; repeats = repeats })
or_one_some size n e = let z : (n == 0) ≡ false = grind (arith, nat_tests) in rw z refl

module _ {C : Type 0} where
  -- behind other runs
  stretch_behind : (front rs : List (Run C)) (r : Run C) (skip wide reach left : ℕ) → skip < r.bits * r.count →
      stretch_from (front ++ r ∷ rs) (width (elements front) + skip) wide reach left ≡ stretch_in r.bits (r.bits * r.count - skip) wide reach left
  unfolding stretch_from
  stretch_behind [] rs r skip wide reach left h =
      let w = width-none C in
      let e : width (elements {C = C} []) + skip ≡ skip = omega arith in
      let t = lt-ltb skip (r.bits * r.count) h in
      ap (λ (n : ℕ). stretch_from (r ∷ rs) n wide reach left) e
      ∙ ap (λ (b : Bool). cond b (stretch_in r.bits (r.bits * r.count - skip) wide reach left) (stretch_from rs (skip - r.bits * r.count) wide reach left)) t
  stretch_behind (q ∷ front) rs r skip wide reach left h =
      let w = width-first q front in
      let n = width (elements (q ∷ front)) + skip in
      let e : n - q.bits * q.count ≡ width (elements front) + skip = omega arith in
      let f = le-ltb n (q.bits * q.count) (omega arith) in
      ap (λ (b : Bool). cond b (stretch_in q.bits (q.bits * q.count - n) wide reach left) (stretch_from (front ++ r ∷ rs) (n - q.bits * q.count) wide reach left)) f
      ∙ ap (λ (x : ℕ). stretch_from (front ++ r ∷ rs) x wide reach left) e
      ∙ stretch_behind front rs r skip wide reach left h

  -- at a spot the stretch is that of its run
  pub stretch_is : (rs : List (Run C)) (at wide reach left : ℕ) (s : Spot) (r : Run C) → IsAt rs at s → s.index < length rs → r ≡ get_or rs s.index r →
      stretch_in r.bits (r.bits * r.count - s.skip) wide reach left ≡ stretch_from rs at wide reach left
  stretch_is rs at wide reach left s r a h e =
      let inside : s.skip < r.bits * r.count = subst (λ (x : List (Run C)). HasBit x s.skip) (at_run rs s.index r h e) a.spot in
      let split : take s.index rs ++ r ∷ drop (s.index + 1) rs ≡ rs = ap (λ (x : List (Run C)). take s.index rs ++ x) (sym (at_run rs s.index r h e)) ∙ take-append-drop s.index rs in
      let b : width (elements (take s.index rs)) + s.skip ≡ at = sym (before_is rs s) ∙ a.before in
      sym (stretch_behind (take s.index rs) (drop (s.index + 1) rs) r s.skip wide reach left inside)
      ∙ ap (λ (x : List (Run C)). stretch_from x (width (elements (take s.index rs)) + s.skip) wide reach left) split
      ∙ ap (λ (n : ℕ). stretch_from rs n wide reach left) b

module _ {C H : Type 0} (o : Ops C H) where
  abbrev Comes : List (Element C) → ℕ → ℕ → ℕ → ℕ → Stretch → Type 0
  Comes m at wide reach left s = ComeAgain o m at wide reach left s.size s.repeats

  -- and its parts come again
  pub stretch_comes : (rs : List (Run C)) (at wide reach left rest : ℕ) (s : Spot) (r : Run C) → AllSome rs → IsAt rs at s → s.index < length rs → r ≡ get_or rs s.index r → rest ≡ r.bits * r.count - s.skip →
      wide ≤ reach → 0 < left → Comes (elements rs) at wide reach left (stretch_in r.bits rest wide reach left)
  unfolding stretch_in
  stretch_comes rs at wide reach left rest s r some a h e v far l =
      let p = turn_is r.bits wide (bits_at rs s.index r h e some) in
      let one = again_one o (elements rs) at wide reach left l in
      let n = min (left / turn r.bits wide) ((rest - (reach - wide)) / (turn r.bits wide * wide)) in
      elim (cases_Bool (nat_lt rest (reach - wide))) [
        | inl e1 ↦ rw e1 one
        | inr e1 ↦ elim (cases_Bool (nat_lt (rest / 64) wide)) [
          | inl e2 ↦ rw (e1, e2) one
          | inr e2 ↦ elim (cases_Bool (n == 0)) [
            | inl z ↦ rw (e1, e2, z) one
            | inr z ↦
                let g = ltb-false rest (reach - wide) e1 in
                rw (e1, e2, z) (again_many o rs at wide reach left (turn r.bits wide) rest (reach - wide) n s r some a h e p v far refl g refl (not_zero n z))
          ]
        ]
      ]

pub some_product : (a b : ℕ) → 0 < a → 0 < b → 0 < a * b
some_product a zero h l = absurd (omega arith)
some_product a (suc b) h l = let s : a * suc b ≡ a + a * b = omega arith in omega arith

-- there is some part
record IsSome (s : Stretch) : Type 0 where
  pub size : 0 < s.size
  pub repeats : 0 < s.repeats

some_in : (bits rest wide reach left : ℕ) → 0 < bits → IsSome (stretch_in bits rest wide reach left)
unfolding stretch_in
some_in bits rest wide reach left h =
    let p = turn_is bits wide h in
    let n = min (left / turn bits wide) ((rest - (reach - wide)) / (turn bits wide * wide)) in
    let one : IsSome one_part = record { size = omega arith; repeats = omega arith } in
    elim (cases_Bool (nat_lt rest (reach - wide))) [
      | inl e1 ↦ rw e1 one
      | inr e1 ↦ elim (cases_Bool (nat_lt (rest / 64) wide)) [
        | inl e2 ↦ rw (e1, e2) one
        | inr e2 ↦ elim (cases_Bool (n == 0)) [
          | inl z ↦ rw (e1, e2, z) one
          | inr z ↦ let y = not_zero n z in rw (e1, e2, z) (record { size = p.some; repeats = positive n y })
        ]
      ]
    ]
  where
    positive : (n : ℕ) → (n ≡ 0 → ⊥) → 0 < n
    positive zero h = absurd (h refl)
    positive (suc n) h = omega arith

module _ {C : Type 0} where
  some_from : (rs : List (Run C)) (at wide reach left : ℕ) → AllSome rs → IsSome (stretch_from rs at wide reach left)
  unfolding stretch_from
  some_from [] at wide reach left a = record { size = omega arith; repeats = omega arith }
  some_from (r ∷ rs) at wide reach left a =
      elim (cases_Bool (nat_lt at (r.bits * r.count))) [
        | inl e ↦ rw e (some_in r.bits (r.bits * r.count - at) wide reach left a.0)
        | inr e ↦ rw e (some_from rs (at - r.bits * r.count) wide reach left a.2)
      ]

  -- fuel beyond what is left changes nothing
  more_fuel : (rs : List (Run C)) (step reach f g at left : ℕ) → AllSome rs → left ≤ f → left ≤ g → offsets_from rs step reach f at left ≡ offsets_from rs step reach g at left
  unfolding offsets_from
  more_fuel rs step reach zero zero at left a h l = refl
  more_fuel rs step reach zero (suc g) at left a h l = let z : (left == 0) ≡ true = grind (arith, nat_tests) in rw z refl
  more_fuel rs step reach (suc f) zero at left a h l = let z : (left == 0) ≡ true = grind (arith, nat_tests) in rw z refl
  more_fuel rs step reach (suc f) (suc g) at left a h l =
      let s = stretch_from rs at step reach left in
      let i = some_from rs at step reach left a in
      let n = s.size * s.repeats in
      let p = some_product s.size s.repeats i.size i.repeats in
      ap (λ (x : List ℕ). cond (left == 0) [] (steps_from at step s.size ++ x)) (more_fuel rs step reach f g (at + n * step) (left - n) a (omega arith) (omega arith))

  -- so many are told once; `left` are left from `at` on
  pub record TellsOn (rs : List (Run C)) (k first step count left at : ℕ) (out : List ℕ) : Type 0 where
    pub told : out ++ offsets_from rs step (max k step) left at left ≡ told_once rs k first step count

  pub tell_begin : (rs : List (Run C)) (k first step more : ℕ) (none : List ℕ) → none ≡ [] → TellsOn rs k first step (suc more) (more + 1) first none
  unfolding told_once
  tell_begin rs k first step more none z =
      let i : more + 1 ≡ suc more = omega arith in
      record { told = ap (λ (l : List ℕ). l ++ offsets_from rs step (max k step) (more + 1) first (more + 1)) z ∙ ap (λ (n : ℕ). offsets_from rs step (max k step) n first n) i }

  told_next : (rs : List (Run C)) (step reach left at : ℕ) (next : Stretch) → AllSome rs → 0 < left → next ≡ stretch_from rs at step reach left →
      offsets_from rs step reach left at left ≡ steps_from at step next.size ++ offsets_from rs step reach (left - next.size * next.repeats) (at + next.size * next.repeats * step) (left - next.size * next.repeats)
  unfolding offsets_from
  told_next rs step reach zero at next a h e = absurd (omega arith)
  told_next rs step reach (suc f) at next a h e =
      let i = some_from rs at step reach (suc f) a in
      let s = stretch_from rs at step reach (suc f) in
      let n = s.size * s.repeats in
      let p = some_product s.size s.repeats i.size i.repeats in
      let z : (suc f == 0) ≡ false = grind (arith, nat_tests) in
      ap (λ (b : Bool). cond b [] (steps_from at step s.size ++ offsets_from rs step reach f (at + n * step) (suc f - n))) z
      ∙ ap (λ (x : List ℕ). steps_from at step s.size ++ x) (more_fuel rs step reach f (suc f - n) (at + n * step) (suc f - n) a (omega arith) (omega arith))
      ∙ ap (λ (x : Stretch). steps_from at step x.size ++ offsets_from rs step reach (suc f - x.size * x.repeats) (at + x.size * x.repeats * step) (suc f - x.size * x.repeats)) (sym e)

  pub tell_step : (rs : List (Run C)) (k first step count left at reach bt : ℕ) (next : Stretch) (old new : List ℕ) → AllSome rs → 0 < left → reach ≡ max k step → bt ≡ at → next ≡ stretch_from rs bt step reach left →
      new ≡ old ++ steps_from at step next.size → TellsOn rs k first step count left at old →
      TellsOn rs k first step count (left - next.size * next.repeats) (at + next.size * next.repeats * step) new
  tell_step rs k first step count left at reach bt next old new a h m b e f t =
      let n = next.size * next.repeats in
      let d : next ≡ stretch_from rs at step (max k step) left = e ∙ ap (λ (x : ℕ). stretch_from rs x step reach left) b ∙ ap (λ (x : ℕ). stretch_from rs at step x left) m in
      let rest = offsets_from rs step (max k step) (left - n) (at + n * step) (left - n) in
      record {
        told =
            ap (λ (l : List ℕ). l ++ rest) f ∙ append_assoc old (steps_from at step next.size) rest
            ∙ ap (λ (l : List ℕ). old ++ l) (sym (told_next rs step (max k step) left at next a h d)) ∙ t.told;
      }

  pub tell_all : (rs : List (Run C)) (k first step count left at : ℕ) (out : List ℕ) → left ≡ 0 → TellsOn rs k first step count left at out → out ≡ told_once rs k first step count
  unfolding offsets_from
  tell_all rs k first step count left at out z t =
      sym (append-nil out) ∙ ap (λ (n : ℕ). out ++ offsets_from rs step (max k step) n at n) (sym z) ∙ t.told
