-- Objects that die one after another, and those that die together.
use Rattle.std.proofs.Common.{◌≡◌, ℕ, Bool, true, false, List, [], ◌∷◌, map, refl, sym, ap, ◌∙◌, subst, arith}
use Rattle.std.specs.Prelude.{nat_eq, ◌==◌, ◌||◌, cond, if◌then◌else◌, Option, None, Some}
use Rattle.std.specs.List.{list_any}
use Rattle.std.specs.FinSet.{contains}
use Rattle.std.proofs.lemmas.Bool.Decides.{nat_tests}
use Rattle.c_base.specs.declared.integer.Machine.TheVariants.{Lp64}
use Rattle.c_base.specs.declared.number.BaseId.{BaseId}
use Rattle.c_memory.specs.Layouts.{Layout}
use Rattle.c_memory.specs.Values.{Cell, Uninit, Dead, Bit, wither}
use Rattle.c_memory.specs.Memories.{Memory, died, withered}
use Rattle.avalue_base.specs.Values.{Cellv}
use Rattle.avalue_base.specs.Ops.{ops, Fine}
use Rattle.avalue_base.specs.Deaths.{forgotten}
use Rattle.avalue_base.specs.Meaning.{Allows, Gives}
use Rattle.cell_contents.proofs.Deaths.{left_laws, death_laws}
use Rattle.cell_contents.proofs.Worlds.{world_meaning, world_access}
use Rattle.ptree.specs.Entries.{get}
use Rattle.memory_maps.specs.Memories.{MapsOf, IsMemory}
use Rattle.memory_maps.specs.Meaning.{Stands, DescribesMemory}
use Rattle.memory_scopes.specs.Scopes as scopes
use Rattle.memory_scopes.specs.Scopes.{IsInOrder, left_scope, without_base, outlived}
use Rattle.memory_scopes.proofs.Dying.{scope_describes}

-- dead already, or with the others
bit_more : (t u : Bool) (c : Cell) (ns : List ℕ) → wither ns c ≡ cond u Dead c → wither ns (cond (t || false) Dead c) ≡ cond (t || u) Dead c
bit_more true u c ns e = refl
bit_more false u c ns e = e

cell_more : (b : BaseId) (ns : List ℕ) (c : Cell) → wither ns (wither (b.0 ∷ []) c) ≡ wither (b.0 ∷ ns) c
cell_more b ns Uninit = refl
cell_more b ns Dead = refl
cell_more b ns (Bit v p i) = bit_more (contains p b.0) (list_any (contains p) ns) (Bit v p i) ns refl

cells_more : (b : BaseId) (ns : List ℕ) (cells : List Cell) → map (wither ns) (map (wither (b.0 ∷ [])) cells) ≡ map (wither (b.0 ∷ ns)) cells
cells_more b ns [] = refl
cells_more b ns (c ∷ cells) = ap (λ (x : Cell). x ∷ map (wither ns) (map (wither (b.0 ∷ [])) cells)) (cell_more b ns c) ∙ ap (λ (xs : List Cell). wither (b.0 ∷ ns) c ∷ xs) (cells_more b ns cells)

withered_more : (b : BaseId) (ns : List ℕ) (s : Option (List Cell)) → withered ns (scopes.withered (λ b c. wither (b.0 ∷ []) c) b s) ≡ withered (b.0 ∷ ns) s
withered_more b ns None = refl
withered_more b ns (Some cells) = ap Some (cells_more b ns cells)

cells_none : (cells : List Cell) → cells ≡ map (wither []) cells
cells_none [] = refl
cells_none (Uninit ∷ cells) = ap (λ (xs : List Cell). Uninit ∷ xs) (cells_none cells)
cells_none (Dead ∷ cells) = ap (λ (xs : List Cell). Dead ∷ xs) (cells_none cells)
cells_none (Bit v p i ∷ cells) = ap (λ (xs : List Cell). Bit v p i ∷ xs) (cells_none cells)

withered_none : (s : Option (List Cell)) → s ≡ withered [] s
withered_none None = refl
withered_none (Some cells) = ap Some (cells_none cells)

outlived_is : (bs : List BaseId) (held : ℕ → Option (List Cell)) (k : ℕ) → outlived (λ b c. wither (b.0 ∷ []) c) bs held k ≡ withered (map (λ (b : BaseId). b.0) bs) (held k)
outlived_is [] held k = withered_none (held k)
outlived_is (b ∷ bs) held k = outlived_is bs (λ j. scopes.withered (λ b c. wither (b.0 ∷ []) c) b (held j)) k ∙ withered_more b (map (λ (b : BaseId). b.0) bs) (held k)

gone_or : (t u : Bool) (ns : List ℕ) (b : BaseId) (s : Option (List Cell)) →
    cond u None (withered ns (if t then None else scopes.withered (λ b c. wither (b.0 ∷ []) c) b s)) ≡ cond (t || u) None (withered (b.0 ∷ ns) s)
gone_or true true ns b s = refl
gone_or true false ns b s = refl
gone_or false true ns b s = refl
gone_or false false ns b s = withered_more b ns s

same_test : (k n : ℕ) → (k == n) ≡ nat_eq n k
same_test k n = grind (arith, nat_tests)

died_is : (bs : List BaseId) (objects : ℕ → Option (List Cell)) (k : ℕ) → scopes.died (λ b c. wither (b.0 ∷ []) c) bs objects k ≡ died (map (λ (b : BaseId). b.0) bs) objects k
died_is [] objects k = withered_none (objects k)
died_is (b ∷ bs) objects k =
    let ns = map (λ (c : BaseId). c.0) bs in
    died_is bs (without_base b (λ j. scopes.withered (λ b c. wither (b.0 ∷ []) c) b (objects j))) k
    ∙ gone_or (nat_eq b.0 k) (list_any (λ n. k == n) ns) ns b (objects k)
    ∙ ap (λ (t : Bool). cond (t || list_any (λ n. k == n) ns) None (withered (b.0 ∷ ns) (objects k))) (sym (same_test k b.0))

pub scope_is : (l : Layout) (bs : List BaseId) (m : MapsOf Cellv) (memory : Memory) (held : ℕ → Option (List Cell)) → IsInOrder m → IsMemory (Fine Lp64) m → DescribesMemory (Allows l) m memory held →
    DescribesMemory (Allows l) (left_scope (ops Lp64) (λ b. forgotten b.0) bs m) (died (map (λ (b : BaseId). b.0) bs) memory) (λ s. withered (map (λ (b : BaseId). b.0) bs) (held s))
scope_is l bs m memory held i a d =
    let left = left_scope (ops Lp64) (λ (b : BaseId). forgotten b.0) bs m in
    let r = scope_describes (ops Lp64) (Fine Lp64) (Allows l) (Gives l) (world_access l) (world_meaning l).allows_length (λ b c. wither (b.0 ∷ []) c) (λ b. forgotten b.0) (λ b. left_laws b.0) (λ b. death_laws l b.0) bs m memory held i a d in
    record {
      bases = λ k. subst (Stands (Allows l) (get left.0 k)) (died_is bs memory k) (r.bases k);
      slots = λ k. subst (Stands (Allows l) (get left.1 k)) (outlived_is bs held k) (r.slots k);
    }
