-- Programs of the first language are valid, have no jumps and no annotations, and have room in memory.
use Rattle.std.proofs.Common.{◌≡◌, ℕ, zero, suc, ◌+◌, ◌*◌, Bool, false, IsTrue, List, [], ◌∷◌, ◌++◌, length, map, refl, arith}
use Rattle.std.specs.Prelude.{IsSome}
use Rattle.c_program.specs.Syntax.{static_base, base_at, function_at, Program as Typed}
use Rattle.c_program.specs.Valid.{IsScoped, AreScoped, HasOwn, HaveOwn, IsValid}
use Rattle.c_program.specs.Packing.{bytes_of, HasRoom}
use Rattle.c_program.specs.Flow.{all_labels_of, all_labels_in, Around, looping, within_block, outermost, Flows, AllFlow}
use Rattle.c_program.specs.Checked.{AreFlowing}
use Rattle.c_machine.specs.Laws.{IsBare, AreBare, is_function, IsSelfContained}
use Rattle.first_program.specs.Source.{Program, Stmt, Assign, Return, If, While, Block, Nothing, Stmts, Done, Next, count}
use Rattle.first_program.specs.SourceViews.{IsShaped}
use Rattle.first_program.specs.Meaning.{variable_base, stmt_of, stmts_of, main_of, meaning_of}

-- no object of the language is static
never_static : (vs : List (List ℕ)) (i : ℕ) → static_base (base_at (map variable_base vs) i) ≡ false
never_static [] i = refl
never_static (v ∷ vs) zero = refl
never_static (v ∷ vs) (suc i) = never_static vs i

not_static : (p : Program) (base : ℕ) → static_base (base_at (meaning_of p).bases base) ≡ false
not_static p zero = refl
not_static p (suc i) = never_static p.variables i

-- blocks have no objects
module _ (p : Typed) (outer : List ℕ) where
  mutual
    scoped : (id : ℕ) (s : Stmt) → IsScoped p outer (stmt_of id s)
    scoped id (Assign target value) = tt
    scoped id (Return value) = tt
    scoped id (If test s t) = (scoped (suc id) s, scoped (suc id + count s) t)
    scoped id (While test s) = scoped (suc id) s
    scoped id (Block stmts) = (record { each = λ base among. absurd (cc) }, all_scoped id stmts)
    scoped id Nothing = tt

    all_scoped : (id : ℕ) (stmts : Stmts) → AreScoped p outer (stmts_of id stmts)
    all_scoped id Done = tt
    all_scoped id (Next s more) = (scoped id s, all_scoped (id + count s) more)

-- every object is one of `main`
mutual
  owned : (id : ℕ) (s : Stmt) → HasOwn (λ base. 0) 0 (stmt_of id s)
  owned id (Assign target value) = tt
  owned id (Return value) = tt
  owned id (If test s t) = (owned (suc id) s, owned (suc id + count s) t)
  owned id (While test s) = owned (suc id) s
  owned id (Block stmts) = (λ base among. refl, all_owned id stmts)
  owned id Nothing = tt

  all_owned : (id : ℕ) (stmts : Stmts) → HaveOwn (λ base. 0) 0 (stmts_of id stmts)
  all_owned id Done = tt
  all_owned id (Next s more) = (owned id s, all_owned (id + count s) more)

pub is_valid : (p : Program) → IsValid (meaning_of p)
is_valid p = record {
  entry = refl;
  functions = (
    record {
      objects = record { each = λ base among. not_static p base };
      body = all_scoped (meaning_of p) ([] ++ (main_of p).locals) 1 p.body;
    },
    tt,
  );
  owner = λ base. 0;
  owned = (record { scope = λ base among. refl; blocks = all_owned 1 p.body }, tt);
}

-- ---- no jumps and no annotations

mutual
  no_labels : (id : ℕ) (s : Stmt) → all_labels_of (stmt_of id s) ≡ []
  no_labels id (Assign target value) = refl
  no_labels id (Return value) = refl
  no_labels id (If test s t) = rw (no_labels (suc id) s, no_labels (suc id + count s) t) refl
  no_labels id (While test s) = no_labels (suc id) s
  no_labels id (Block stmts) = no_labels_in id stmts
  no_labels id Nothing = refl

  no_labels_in : (id : ℕ) (stmts : Stmts) → all_labels_in (stmts_of id stmts) ≡ []
  no_labels_in id Done = refl
  no_labels_in id (Next s more) = rw (no_labels id s, no_labels_in (id + count s) more) refl

mutual
  flows : (a : Around) (labelled : Bool) (id : ℕ) (s : Stmt) → Flows a labelled (stmt_of id s)
  flows a labelled id (Assign target value) = tt
  flows a labelled id (Return value) = tt
  flows a labelled id (If test s t) = (flows a false (suc id) s, flows a false (suc id + count s) t)
  flows a labelled id (While test s) = flows (looping a) false (suc id) s
  flows a labelled id (Block stmts) = all_flow (within_block (stmts_of id stmts) a) false id stmts
  flows a labelled id Nothing = tt

  all_flow : (a : Around) (labelled : Bool) (id : ℕ) (stmts : Stmts) → AllFlow a labelled (stmts_of id stmts)
  all_flow a labelled id Done = tt
  all_flow a labelled id (Next s more) = (flows a labelled id s, all_flow a labelled (id + count s) more)

pub is_flowing : (p : Program) → AreFlowing (meaning_of p)
is_flowing p = (
  record {
    different = rw (no_labels_in 1 p.body) tt;
    leads = all_flow (within_block (stmts_of 1 p.body) outermost) false 1 p.body;
  },
  tt,
)

mutual
  bare : (id : ℕ) (s : Stmt) → IsBare (stmt_of id s)
  bare id (Assign target value) = tt
  bare id (Return value) = tt
  bare id (If test s t) = (bare (suc id) s, bare (suc id + count s) t)
  bare id (While test s) = bare (suc id) s
  bare id (Block stmts) = all_bare id stmts
  bare id Nothing = tt

  all_bare : (id : ℕ) (stmts : Stmts) → AreBare (stmts_of id stmts)
  all_bare id Done = tt
  all_bare id (Next s more) = (bare id s, all_bare (id + count s) more)

-- the only function is `main`, which has a body
never_function : (vs : List (List ℕ)) (i : ℕ) → is_function (base_at (map variable_base vs) i) ≡ false
never_function [] i = refl
never_function (v ∷ vs) zero = refl
never_function (v ∷ vs) (suc i) = never_function vs i

pub is_self_contained : (p : Program) → IsSelfContained (meaning_of p)
is_self_contained p = record {
  functions = (record { body = all_bare 1 p.body; contract = refl }, tt);
  bodies = has_body;
}
  where
    has_body : (f : ℕ) → IsTrue (is_function (base_at (meaning_of p).bases f)) → IsSome (function_at (meaning_of p).functions f)
    has_body zero h = refl
    has_body (suc i) h = let none = rw (never_function p.variables i) at h in absurd (cc)

variable_bytes : (vs : List (List ℕ)) → bytes_of (map variable_base vs) ≡ 4 * length vs
variable_bytes [] = refl
variable_bytes (v ∷ vs) = omega (arith, variable_bytes vs)

pub has_room : (p : Program) → IsShaped p → HasRoom (meaning_of p)
has_room p shaped = let few = shaped.variables in omega (arith, variable_bytes p.variables)
