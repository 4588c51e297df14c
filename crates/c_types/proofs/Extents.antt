-- Extents that agree up to 2^62.
use Rattle.std.proofs.Common.{◌≡◌, ℕ, zero, suc, ◌+◌, ◌-◌, ◌*◌, ◌%◌, ◌≤◌, ◌<◌, ◌^◌, max, refl, ap, sym, ◌∙◌, List, [], ◌∷◌, ◌++◌, Option, None, Some, Bool, true, false, arith, subst, length, take, drop}
use Rattle.std.specs.Prelude.{slice_get, option_map}
use Rattle.std.specs.List.{AllByRecursion}
use Rattle.std.proofs.lemmas.Nat.{mod_below}
use Rattle.std.proofs.Math.Nat.{le-mul_of_pos_right}
use Rattle.c_base.specs.declared.integer.IntKind.{IntKind}
use Rattle.c_base.specs.declared.integer.IntKind.TheVariants.{Bool as bool_kind, Char, SChar, UChar, Short, UShort, Int, UInt, Long, ULong, LLong, ULLong}
use Rattle.c_base.specs.declared.integer.Machine.{Machine}
use Rattle.c_base.specs.declared.integer.Machine.TheVariants.{Lp64}
use Rattle.c_base.specs.Integers.{size_of_kind, size_of_long}
use Rattle.c_types.specs.Types.{CType, Void, Integer, Pointer, Array, Composite, Function, Extent, Member, Composite'}
use Rattle.c_types.specs.Sizes.{repeated, extent_at, extent, rounded_up, start, placed, after, placed_all, nothing_placed, filled, closed, start_at, start_of, held_composite, RanksBelow, AreSized, IsSized}
use Rattle.c_types.specs.Agreeing.{IsAlignment, AllAligned, AgreesExtent, Agrees}

pub agrees_self : (e : Option Extent) → Agrees e e
agrees_self None = tt
agrees_self (Some e) = record { align = refl; size = λ h. refl }

pub agrees_then : (e f g : Option Extent) → Agrees e f → Agrees f g → Agrees e g
agrees_then None None None h k = tt
agrees_then None None (Some g) h k = elim k [ ]
agrees_then None (Some f) g h k = elim h [ ]
agrees_then (Some e) None g h k = elim h [ ]
agrees_then (Some e) (Some f) None h k = elim k [ ]
agrees_then (Some e) (Some f) (Some g) h k = record {
  align = k.align ∙ h.align;
  size = λ s. let x = h.size s in let y : f.size ≤ 2 ^ 62 = omega arith in k.size y ∙ x;
}

pub agrees_repeated : (n : ℕ) (e f : Option Extent) → Agrees e f → Agrees (repeated n e) (repeated n f)
agrees_repeated n None None h = tt
agrees_repeated n None (Some f) h = elim h [ ]
agrees_repeated zero (Some e) None h = elim h [ ]
agrees_repeated (suc n) (Some e) None h = elim h [ ]
agrees_repeated zero (Some e) (Some f) h = tt
agrees_repeated (suc n) (Some e) (Some f) h = record {
  align = h.align;
  size = λ s.
      let l : e.size ≤ e.size * suc n = le-mul_of_pos_right e.size (omega arith) in
      let x : e.size ≤ 2 ^ 62 = omega arith in
      ap (λ k. suc n * k) (h.size x);
}

pub array_step : (n : ℕ) (e f g : Option Extent) → Agrees e f → Agrees (repeated n f) g → Agrees (repeated n e) g
array_step n e f g h k = agrees_then (repeated n e) (repeated n f) g (agrees_repeated n e f h) k

up : (n align : ℕ) → 1 ≤ align → n ≤ rounded_up n align
up n align h = let m = mod_below (n + (align - 1)) align (omega arith) in omega arith

-- what has been placed before lies within what is placed
agrees_placed : (u : Bool) (b c e : Extent) → IsAlignment e.align → AgreesExtent b c → AgreesExtent (placed u b e) (placed u c e)
agrees_placed true b c e a h = record {
  align = rw h.align refl;
  size = λ s. let x : b.size ≤ 2 ^ 62 = omega arith in rw (h.size x) refl;
}
agrees_placed false b c e a h = record {
  align = rw h.align refl;
  size = λ s. let x : b.size ≤ 2 ^ 62 = omega arith in rw (h.size x) refl;
}

pub none_placed : (known : CType → Option Extent) (u : Bool) (ms : List Member) → placed_all known u None ms ≡ None
none_placed known u [] = refl
none_placed known u (m ∷ more) = none_placed known u more

pub agrees_after : (u : Bool) (b c : Option Extent) (e : Option Extent) → AllAligned e → Agrees b c → Agrees (after u b e) (after u c e)
agrees_after u None None e a h = tt
agrees_after u None (Some c) e a h = elim h [ ]
agrees_after u (Some b) None e a h = elim h [ ]
agrees_after u (Some b) (Some c) None a h = tt
agrees_after u (Some b) (Some c) (Some e) a h = agrees_placed u b c e a h

pub agrees_all : (known : CType → Option Extent) → ((t : CType) → AllAligned (known t)) → (u : Bool) (ms : List Member) (b c : Option Extent) →
    Agrees b c → Agrees (placed_all known u b ms) (placed_all known u c ms)
agrees_all known a u [] b c h = h
agrees_all known a u (m ∷ more) b c h = agrees_all known a u more (after u b (known m.ctype)) (after u c (known m.ctype)) (agrees_after u b c (known m.ctype) (a m.ctype) h)

-- with a member whose extent agrees
agrees_member : (u : Bool) (b e f : Extent) → IsAlignment e.align → AgreesExtent e f → AgreesExtent (placed u b e) (placed u b f)
agrees_member true b e f a h = record {
  align = rw h.align refl;
  size = λ s. let x : e.size ≤ 2 ^ 62 = omega arith in rw (h.size x) refl;
}
agrees_member false b e f a h = record {
  align = rw h.align refl;
  size = λ s. let x : e.size ≤ 2 ^ 62 = omega arith in rw (h.size x, h.align) refl;
}

-- a step of the loop over members: `b` was placed, `e` and `f` are the member's extent and what the code has of it, `n` is what the code has then
pub member_step : (known : CType → Option Extent) → ((t : CType) → AllAligned (known t)) → (u : Bool) (total : Option Extent) (b : Extent) (m : Member) (more : List Member)
    (f n : Extent) → Agrees total (placed_all known u (Some b) (m ∷ more)) → Agrees (known m.ctype) (Some f) → AgreesExtent (placed u b f) n →
    Agrees total (placed_all known u (Some n) more)
member_step known a u total b m more f n h k l =
    agrees_then total (placed_all known u (Some b) (m ∷ more)) (placed_all known u (Some n) more) h
    (agrees_all known a u more (after u (Some b) (known m.ctype)) (Some n) (step (known m.ctype) (a m.ctype) k)) where
      step : (e : Option Extent) → AllAligned e → Agrees e (Some f) → Agrees (after u (Some b) e) (Some n)
      step None c d = elim d [ ]
      step (Some e) c d = agrees_then (Some (placed u b e)) (Some (placed u b f)) (Some n) (agrees_member u b e f c d) l

pub no_member_step : (known : CType → Option Extent) (u : Bool) (total : Option Extent) (b : Extent) (m : Member) (more : List Member) →
    Agrees total (placed_all known u (Some b) (m ∷ more)) → Agrees (known m.ctype) None → Agrees total None
no_member_step known u total b m more h k = finish (known m.ctype) k h where
  finish : (e : Option Extent) → Agrees e None → Agrees total (placed_all known u (after u (Some b) e) more) → Agrees total None
  finish None c d = subst (λ x. Agrees total x) (none_placed known u more) d
  finish (Some e) c d = elim c [ ]

-- each type has an alignment of 1 to 8
kind_aligned : (kind : IntKind) (machine : Machine) → IsAlignment (size_of_kind kind machine)
kind_aligned bool_kind Lp64 = record { least = omega arith; greatest = omega arith }
kind_aligned Char Lp64 = record { least = omega arith; greatest = omega arith }
kind_aligned SChar Lp64 = record { least = omega arith; greatest = omega arith }
kind_aligned UChar Lp64 = record { least = omega arith; greatest = omega arith }
kind_aligned Short Lp64 = record { least = omega arith; greatest = omega arith }
kind_aligned UShort Lp64 = record { least = omega arith; greatest = omega arith }
kind_aligned Int Lp64 = record { least = omega arith; greatest = omega arith }
kind_aligned UInt Lp64 = record { least = omega arith; greatest = omega arith }
kind_aligned Long Lp64 = record { least = omega arith; greatest = omega arith }
kind_aligned ULong Lp64 = record { least = omega arith; greatest = omega arith }
kind_aligned LLong Lp64 = record { least = omega arith; greatest = omega arith }
kind_aligned ULLong Lp64 = record { least = omega arith; greatest = omega arith }

long_aligned : (machine : Machine) → IsAlignment (size_of_long machine)
long_aligned Lp64 = record { least = omega arith; greatest = omega arith }

aligned_repeated : (n : ℕ) (e : Option Extent) → AllAligned e → AllAligned (repeated n e)
aligned_repeated n None h = tt
aligned_repeated zero (Some e) h = tt
aligned_repeated (suc n) (Some e) h = h

aligned_after : (u : Bool) (b e : Option Extent) → AllAligned b → AllAligned e → AllAligned (after u b e)
aligned_after u None e h k = tt
aligned_after u (Some b) None h k = tt
aligned_after true (Some b) (Some e) h k = let least = h.least in let greatest = h.greatest in let l = k.greatest in record { least = omega arith; greatest = omega arith }
aligned_after false (Some b) (Some e) h k = let least = h.least in let greatest = h.greatest in let l = k.greatest in record { least = omega arith; greatest = omega arith }

-- what the members of a rank below hold is aligned
abbrev AreAligned : (CType → Option Extent) → List Member → Type 0
AreAligned known [] = Unit {0}
AreAligned known (m ∷ more) = AllAligned (known m.ctype) × AreAligned known more

aligned_all : (known : CType → Option Extent) (u : Bool) (ms : List Member) (b : Option Extent) → AreAligned known ms → AllAligned b → AllAligned (placed_all known u b ms)
aligned_all known u [] b h k = k
aligned_all known u (m ∷ more) b h k = aligned_all known u more (after u b (known m.ctype)) h.1 (aligned_after u b (known m.ctype) k h.0)

aligned_filled : (e : Option Extent) → AllAligned e → AllAligned (filled e)
aligned_filled None h = tt
aligned_filled (Some e) h = h

aligned_closed : (known : CType → Option Extent) (u : Bool) (ms : List Member) → AreAligned known ms → AllAligned (closed known u ms)
aligned_closed known u [] h = tt
aligned_closed known u (m ∷ more) h =
    aligned_filled (placed_all known u nothing_placed (m ∷ more))
    (aligned_all known u (m ∷ more) nothing_placed h (record { least = omega arith; greatest = omega arith }))

pub aligned_agrees : (e : Option Extent) (f : Extent) → AllAligned e → Agrees e (Some f) → IsAlignment f.align
aligned_agrees None f a h = elim h [ ]
aligned_agrees (Some e) f a h = let l = a.least in let g = a.greatest in let s = h.align in record { least = omega arith; greatest = omega arith }

pub aligned_placed : (u : Bool) (b e n : Extent) → IsAlignment b.align → IsAlignment e.align → AgreesExtent (placed u b e) n → IsAlignment n.align
aligned_placed u b e n h k l =
    let a = h.least in let c = h.greatest in let d = k.greatest in let s : n.align ≡ max b.align e.align = l.align in
    record { least = omega arith; greatest = omega arith }

module _ (composites : List Composite') (machine : Machine) (s : AreSized composites machine) where
  -- where the structs and unions of a rank below n are
  type_below : (n : ℕ) → ((k : ℕ) → s.rank k < n → AllAligned (extent_at (slice_get composites k))) → (t : CType) →
      ((k : ℕ) → held_composite t ≡ Some k → s.rank k < n) → AllAligned (extent composites machine t)
  type_below n below Void h = tt
  type_below n below (Integer kind) h = kind_aligned kind machine
  type_below n below (Pointer to) h = long_aligned machine
  type_below n below (Array of count) h = aligned_repeated count (extent composites machine of) (type_below n below of h)
  type_below n below (Composite number) h = below number (h number refl)
  type_below n below (Function result params variadic) h = tt

  members_below : (n number : ℕ) → ((k : ℕ) → s.rank k < n → AllAligned (extent_at (slice_get composites k))) → (ms : List Member) →
      AllByRecursion (RanksBelow s.rank number) ms → s.rank number ≤ n → AreAligned (extent composites machine) ms
  members_below n number below [] h l = tt
  members_below n number below (m ∷ more) h l =
      (type_below n below m.ctype (λ k e. let b = h.0.held k e in omega arith), members_below n number below more h.1 l)

  composite_below : (n number : ℕ) → ((k : ℕ) → s.rank k < n → AllAligned (extent_at (slice_get composites k))) → (c : Option Composite') →
      slice_get composites number ≡ c → s.rank number ≤ n → AllAligned (extent_at c)
  composite_below n number below None e h = tt
  composite_below n number below (Some c) e h =
      let x = s.extents number c e in
      subst (λ y. AllAligned y) (sym x.0) (aligned_closed (extent composites machine) c.is_union c.members (members_below n number below c.members x.1 h))

  all_below : (n k : ℕ) → s.rank k < n → AllAligned (extent_at (slice_get composites k))
  all_below zero k h = absurd (omega arith)
  all_below (suc n) k h = composite_below n k (all_below n) (slice_get composites k) refl (omega arith)

  pub aligned : (t : CType) → AllAligned (extent composites machine t)
  aligned t = type_below (suc (rank_in (held_composite t))) (all_below (suc (rank_in (held_composite t)))) t (λ k e. rw e (omega arith)) where
    rank_in : Option ℕ → ℕ
    rank_in None = 0
    rank_in (Some k) = s.rank k

-- the place of a member is that behind what is placed before it

abbrev IsAbsent : Option Member → Type 0
IsAbsent None = Unit {0}
IsAbsent (Some m) = ⊥

abbrev member_or : Member → Option Member → Member
member_or k None = k
member_or k (Some m) = m

start_placed : (known : CType → Option Extent) (u : Bool) (before : Option Extent) (ms : List Member) (n : ℕ) (m : Member) → slice_get ms n ≡ Some m →
    start_of known u before ms n ≡ start_at u (placed_all known u before (take n ms)) (known m.ctype)
start_placed known u before [] n m e = absurd (subst IsAbsent e tt)
start_placed known u before (k ∷ more) zero m e = ap (λ x. start_at u before (known x.ctype)) (ap (member_or k) e)
start_placed known u before (k ∷ more) (suc n) m e = start_placed known u (after u before (known k.ctype)) more n m e

placed_more : (known : CType → Option Extent) (u : Bool) (before : Option Extent) (ms : List Member) (n : ℕ) →
    placed_all known u before ms ≡ placed_all known u (placed_all known u before (take n ms)) (drop n ms)
placed_more known u before ms zero = refl
placed_more known u before [] (suc n) = refl
placed_more known u before (k ∷ more) (suc n) = placed_more known u (after u before (known k.ctype)) more n

-- at most as much, and there is something
abbrev IsWithin : Option Extent → ℕ → Type 0
IsWithin None n = ⊥
IsWithin (Some e) n = e.size ≤ n

within_after : (u : Bool) (before e : Option Extent) (n : ℕ) → IsWithin (after u before e) n → IsWithin before n
within_after u None e n h = h
within_after u (Some b) None n h = elim h [ ]
within_after u (Some b) (Some e) n h = omega arith

within_placed : (known : CType → Option Extent) (u : Bool) (before : Option Extent) (ms : List Member) (n : ℕ) → IsWithin (placed_all known u before ms) n → IsWithin before n
within_placed known u before [] n h = h
within_placed known u before (m ∷ more) n h = within_after u before (known m.ctype) n (within_placed known u (after u before (known m.ctype)) more n h)

within_filled : (e : Option Extent) → AllAligned e → IsSized (filled e) → IsWithin e (2 ^ 62)
within_filled None a h = elim h [ ]
within_filled (Some e) a h = let l = up e.size e.align a.least in omega arith

within_closed : (known : CType → Option Extent) → ((t : CType) → AllAligned (known t)) → (u : Bool) (ms : List Member) → IsSized (closed known u ms) →
    IsWithin (placed_all known u nothing_placed ms) (2 ^ 62)
within_closed known a u [] h = elim h [ ]
within_closed known a u (m ∷ more) h =
    within_filled (placed_all known u nothing_placed (m ∷ more))
    (aligned_all known u (m ∷ more) nothing_placed (each (m ∷ more)) (record { least = omega arith; greatest = omega arith })) h where
      each : (all : List Member) → AreAligned known all
      each [] = tt
      each (k ∷ rest) = (a k.ctype, each rest)

start_agrees : (u : Bool) (before member : Option Extent) (b e : Extent) (r : ℕ) → IsWithin before (2 ^ 62) → Agrees before (Some b) → Agrees member (Some e) →
    (b.size ≤ 2 ^ 62 → r ≡ start u b.size e) → r ≡ start_at u before member
start_agrees u None member b e r w h k f = elim w [ ]
start_agrees u (Some c) None b e r w h k f = elim k [ ]
start_agrees true (Some c) (Some d) b e r w h k f = let s = h.size w in f (omega arith)
start_agrees false (Some c) (Some d) b e r w h k f = let s = h.size w in let g = f (omega arith) in g ∙ rw (s, k.align) refl

pub offset_step : (known : CType → Option Extent) → ((t : CType) → AllAligned (known t)) → (u : Bool) (ms : List Member) (n : ℕ) (m : Member) → slice_get ms n ≡ Some m →
    IsSized (closed known u ms) → (b e : Extent) (r : ℕ) → Agrees (placed_all known u nothing_placed (take n ms)) (Some b) → Agrees (known m.ctype) (Some e) →
    (b.size ≤ 2 ^ 62 → r ≡ start u b.size e) → r ≡ start_of known u nothing_placed ms n
offset_step known a u ms n m is h b e r k l f =
    let w : IsWithin (placed_all known u nothing_placed (take n ms)) (2 ^ 62) =
    within_placed known u (placed_all known u nothing_placed (take n ms)) (drop n ms) (2 ^ 62)
    (subst (λ x. IsWithin x (2 ^ 62)) (placed_more known u nothing_placed ms n) (within_closed known a u ms h)) in
    start_agrees u (placed_all known u nothing_placed (take n ms)) (known m.ctype) b e r w k l f ∙ sym (start_placed known u nothing_placed ms n m is)

pub no_offset_step : (known : CType → Option Extent) (u : Bool) (ms : List Member) (n : ℕ) (m : Member) → slice_get ms n ≡ Some m →
    Agrees (placed_all known u nothing_placed (take n ms)) None → 0 ≡ start_of known u nothing_placed ms n
no_offset_step known u ms n m is k = from (placed_all known u nothing_placed (take n ms)) k refl where
  from : (e : Option Extent) → Agrees e None → placed_all known u nothing_placed (take n ms) ≡ e → 0 ≡ start_of known u nothing_placed ms n
  from None h same = sym (start_placed known u nothing_placed ms n m is ∙ ap (λ x. start_at u x (known m.ctype)) same)
  from (Some e) h same = elim h [ ]

pub no_member_offset : (known : CType → Option Extent) (u : Bool) (ms : List Member) (n : ℕ) (m : Member) → slice_get ms n ≡ Some m →
    Agrees (known m.ctype) None → 0 ≡ start_of known u nothing_placed ms n
no_member_offset known u ms n m is k = from (known m.ctype) k refl where
  none_at : (b : Option Extent) → start_at u b None ≡ 0
  none_at None = refl
  none_at (Some b) = refl

  from : (e : Option Extent) → Agrees e None → known m.ctype ≡ e → 0 ≡ start_of known u nothing_placed ms n
  from None h same =
      sym (start_placed known u nothing_placed ms n m is ∙ ap (λ x. start_at u (placed_all known u nothing_placed (take n ms)) x) same
      ∙ none_at (placed_all known u nothing_placed (take n ms)))
  from (Some e) h same = elim h [ ]
