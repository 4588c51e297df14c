-- Bases one behind the other.
use Rattle.std.proofs.Common.{◌≡◌, ℕ, zero, suc, ◌+◌, ◌*◌, ◌^◌, ◌<◌, ◌≤◌, ◌==◌, Bool, true, false, cond, List, [], ◌∷◌, ◌++◌, length, map, take, get_or, replicate, None, Some, refl, sym, ◌∙◌, ap, subst, arith}
use Rattle.std.proofs.lemmas.List.{length-map}
use Rattle.std.proofs.lemmas.Bool.Decides.{nat_tests}
use Rattle.c_memory.specs.Layouts.{Layout, last_address}
use Rattle.c_program.specs.Syntax.{Base, base_at, is_static, numbers_from, AreApart, IsLayout}
use Rattle.c_program.specs.Packing.{bytes_of, size_at, is_readonly_at, packed, HasRoom}
use Rattle.c_program.proofs.Packed.{packed_layout}
use Rattle.c_program.specs.declared.program.Base.{Base as CodeBase}
use Rattle.c_program.specs.declared.program.TypedProgram.{TypedProgram as CodeProgram}
use Rattle.stepper_values.specs.declared.layout.Object.{Object}
use Rattle.c_base.specs.declared.integer.Machine.{Machine}
use Rattle.c_base.specs.declared.integer.Machine.TheVariants.{Lp64}
use Rattle.c_program.specs.Views.{base_of, program_of}
use Rattle.stepper_values.specs.Views.{object_at}
use Rattle.stepper_start.specs.Starting.{objects_from}

-- ---- layouts

-- the bytes of the first bases
abbrev pub bytes_before : List CodeBase → ℕ → ℕ
bytes_before bs n = bytes_of (take n (map base_of bs))

-- one base more
pub objects_next : (bs : List CodeBase) (i at : ℕ) (b : CodeBase) → i < length bs → b ≡ get_or bs i b →
    objects_from at (take (i + 1) bs) ≡ objects_from at (take i bs) ++ record { address = at + bytes_before bs i; size = b.size; readonly = b.readonly } ∷ []
objects_next [] i at b h is = absurd (omega arith)
objects_next (x ∷ bs) zero at b h is = rw (is, add_zero at) refl
  where
    add_zero : (n : ℕ) → n + 0 ≡ n
    add_zero n = omega arith
objects_next (x ∷ bs) (suc i) at b h is =
    let rest = objects_next bs i (at + x.size) b (omega arith) is in
    rw (suc_add i, rest, moved at x.size (bytes_before bs i)) refl
  where
    suc_add : (i : ℕ) → suc i + 1 ≡ suc (i + 1)
    suc_add i = omega arith

    moved : (a b c : ℕ) → a + (b + c) ≡ (a + b) + c
    moved a b c = omega arith

pub bytes_next : (bs : List CodeBase) (i : ℕ) (b : CodeBase) → i < length bs → b ≡ get_or bs i b → bytes_before bs (i + 1) ≡ bytes_before bs i + b.size
bytes_next [] i b h is = absurd (omega arith)
bytes_next (x ∷ bs) zero b h is = rw is (omega arith)
bytes_next (x ∷ bs) (suc i) b h is =
    let rest = bytes_next bs i b (omega arith) is in
    rw (suc_add i, rest) (omega arith)
  where
    suc_add : (i : ℕ) → suc i + 1 ≡ suc (i + 1)
    suc_add i = omega arith

pub bytes_within : (bs : List CodeBase) (i : ℕ) (b : CodeBase) → i < length bs → b ≡ get_or bs i b → bytes_before bs i + b.size ≤ bytes_of (map base_of bs)
bytes_within [] i b h is = absurd (omega arith)
bytes_within (x ∷ bs) zero b h is = rw is (omega arith)
bytes_within (x ∷ bs) (suc i) b h is = let rest = bytes_within bs i b (omega arith) is in omega arith

length-objects : (bs : List CodeBase) (at : ℕ) → length (objects_from at bs) ≡ length (map base_of bs)
length-objects [] at = refl
length-objects (b ∷ bs) at = ap suc (length-objects bs (at + b.size))

placed : (bs : List CodeBase) (n at : ℕ) → n < length (map base_of bs) → object_at (objects_from at bs) n ≡ record { address = at + bytes_before bs n; size = size_at (base_at (map base_of bs) n); readonly = is_readonly_at (base_at (map base_of bs) n) }
placed [] n at h = absurd (omega arith)
placed (b ∷ bs) zero at h = rw (add_zero at) refl
  where
    add_zero : (n : ℕ) → n + 0 ≡ n
    add_zero n = omega arith
placed (b ∷ bs) (suc n) at h = placed bs n (at + b.size) (omega arith) ∙ rw (moved at b.size (bytes_before bs n)) refl
  where
    moved : (a b c : ℕ) → a + (b + c) ≡ (a + b) + c
    moved a b c = omega arith

-- what stands behind the first i bases
pub record IsPackedTo (machine : Machine) (bs : List CodeBase) (i : ℕ) (made : List Object) (address : ℕ) : Type 0 where
  pub so_far : made ≡ objects_from 1 (take i bs)
  pub next : address ≡ 1 + bytes_before bs i
  pub low : address ≤ last_address machine

pub last_within : (machine : Machine) → last_address machine ≤ 2 ^ 47
last_within Lp64 = omega arith

pub packed_next : (machine : Machine) (bs : List CodeBase) (i : ℕ) (made new : List Object) (address end : ℕ) (b : CodeBase) → i < length bs → b ≡ get_or bs i b → IsPackedTo machine bs i made address →
    end ≡ address + b.size → end ≤ last_address machine → new ≡ made ++ record { address = address; size = b.size; readonly = b.readonly } ∷ [] → IsPackedTo machine bs (i + 1) new end
packed_next machine bs i made new address end b h is p e low n = record {
  so_far = n ∙ rw (p.so_far, p.next) (sym (objects_next bs i 1 b h is));
  next = let a = p.next in let b = bytes_next bs i b h is in omega arith;
  low = low;
}

pub no_room : (p : CodeProgram) (bs : List CodeBase) (i address : ℕ) (b : CodeBase) → bs ≡ p.bases → i < length bs → b ≡ get_or bs i b → address ≡ 1 + bytes_before bs i →
    last_address p.machine < address + b.size → HasRoom (program_of p) → ⊥
no_room p bs i address b same h is e high room =
    let w = bytes_within bs i b h is in
    let all : bytes_of (map base_of bs) ≡ bytes_of (map base_of p.bases) = ap (λ xs. bytes_of (map base_of xs)) same in
    absurd (omega arith)

length-take_most : {A : Type 0} (xs : List A) (i : ℕ) → length (take i xs) ≤ length xs
length-take_most [] zero = omega arith
length-take_most [] (suc i) = omega arith
length-take_most (x ∷ xs) zero = omega arith
length-take_most (x ∷ xs) (suc i) = let h = length-take_most xs i in omega arith

pub few_made : (p : CodeProgram) (bs : List CodeBase) (i address : ℕ) (made : List Object) → length p.bases < 2 ^ 32 → bs ≡ p.bases → IsPackedTo p.machine bs i made address → length made < 2 ^ 32
few_made p bs i address made d same k =
    let a : length made ≡ length (take i bs) = ap length k.so_far ∙ length-objects (take i bs) 1 ∙ length-map (take i bs) base_of in
    let b = length-take_most bs i in
    let c : length bs ≡ length p.bases = ap length same in
    omega arith

base_within : (bs : List Base) (n : ℕ) (b : Base) → base_at bs n ≡ Some b → n < length bs
base_within [] n b e = absurd (cc)
base_within (x ∷ bs) zero b e = omega arith
base_within (x ∷ bs) (suc n) b e = let h = base_within bs n b e in omega arith

all_bytes : (bs : List CodeBase) → bytes_before bs (length bs) ≡ bytes_of (map base_of bs)
all_bytes [] = refl
all_bytes (b ∷ bs) = ap (λ n. b.size + n) (all_bytes bs)

take_whole : {A : Type 0} (xs : List A) → take (length xs) xs ≡ xs
take_whole [] = refl
take_whole (x ∷ xs) = ap (λ ys. x ∷ ys) (take_whole xs)

-- the layout of a machine and objects
abbrev pub laid : Machine → List Object → Layout
laid machine objects = record {
  machine = machine;
  address = λ base. (object_at objects base).address;
  size = λ base. (object_at objects base).size;
  readonly = λ base. (object_at objects base).readonly;
  bases = numbers_from 0 (length objects);
}

abbrev IsAt : List CodeBase → ℕ → List Object → Type 0
IsAt bs n objects = object_at objects n ≡ record { address = 1 + bytes_before bs n; size = size_at (base_at (map base_of bs) n); readonly = is_readonly_at (base_at (map base_of bs) n) }

room_of : (p : CodeProgram) (objects : List Object) (address : ℕ) → IsPackedTo p.machine p.bases (length p.bases) objects address → HasRoom (program_of p)
room_of p objects address k = let a = k.next in let b = k.low in let c = all_bytes p.bases in omega arith

apart_at : (p : CodeProgram) (objects : List Object) (n j : ℕ) → IsAt p.bases n objects → IsAt p.bases j objects → AreApart (packed (program_of p)) n j → AreApart (laid p.machine objects) n j
apart_at p objects n j a b h = rw (a, b) h

whole_is : (p : CodeProgram) (objects : List Object) (address : ℕ) → IsPackedTo p.machine p.bases (length p.bases) objects address → IsLayout (program_of p) (laid p.machine objects)
whole_is p objects address k =
    let q = program_of p in
    let o : objects ≡ objects_from 1 p.bases = k.so_far ∙ ap (objects_from 1) (take_whole p.bases) in
    let whole = packed_layout q (room_of p objects address k) in
    let at : (n : ℕ) → n < length q.bases → IsAt p.bases n objects = λ n h. ap (λ os. object_at os n) o ∙ placed p.bases n 1 h in
    record {
      machine = refl;
      all = ap (numbers_from 0) (ap length o ∙ length-objects p.bases 1);
      known = λ n b e. (ap (λ x. x.size) (at n (base_within q.bases n b e)) ∙ ap size_at e, ap (λ x. x.readonly) (at n (base_within q.bases n b e)) ∙ ap is_readonly_at e);
      low = λ n h. rw (at n h) (whole.low n h);
      high = λ n h. rw (at n h) (whole.high n h);
      apart = λ n j h i other. apart_at p objects n j (at n h) (at j i) (whole.apart n j h i other);
    }

pub packed_is : (p : CodeProgram) (bs : List CodeBase) (i address : ℕ) (objects : List Object) → bs ≡ p.bases → i ≡ length bs → IsPackedTo p.machine bs i objects address →
    IsLayout (program_of p) (laid p.machine objects)
packed_is p bs i address objects same done k =
    whole_is p objects address
    (subst (λ xs. IsPackedTo p.machine xs (length xs) objects address) same (subst (λ n. IsPackedTo p.machine bs n objects address) done k))

pub nothing_packed : (machine : Machine) (bs : List CodeBase) → IsPackedTo machine bs 0 [] 1
nothing_packed machine bs = record { so_far = ap (objects_from 1) (sym (take_none bs)); next = ap (λ xs. 1 + bytes_of xs) (sym (take_none (map base_of bs))); low = first_low machine }
  where
    take_none : {A : Type 0} (xs : List A) → take 0 xs ≡ []
    take_none [] = refl
    take_none (x ∷ xs) = refl

    first_low : (machine : Machine) → 1 ≤ last_address machine
    first_low Lp64 = omega arith
