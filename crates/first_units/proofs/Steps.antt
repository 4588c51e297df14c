-- Steps of the code.
use Rattle.std.proofs.Common.{◌≡◌, ◌<◌, ◌+◌, ℕ, suc, true, List, [], ◌∷◌, ◌++◌, length, drop, get_or, map, Option, None, Some, refl, sym, ap, ◌∙◌, arith}
use Rattle.std.proofs.Math.Seq.{drop-cons}
use Rattle.c_base.specs.declared.number.Span.{Span}
use Rattle.c_tree.specs.declared.tree.Attribute.{Attribute}
use Rattle.c_tree.specs.declared.tree.Expr.{Expr}
use Rattle.c_unit_tree.specs.declared.declaration.Declaration.{Declaration}
use Rattle.c_unit_tree.specs.declared.declaration.Declaration.TheVariants as declaration
use Rattle.c_unit_tree.specs.declared.unit.External.TheVariants as external
use Rattle.c_unit_tree.specs.declared.statement.Arm.{Arm}
use Rattle.c_unit_tree.specs.Views.{arm_kids, block_item_kids, external_tree}
use Rattle.c_parse_rules.specs.Tokens.{◌>>=◌}
use Rattle.grammar.specs.Forms.{Group, Next, Trees}
use Rattle.grammar.specs.Reading.{groups}
use Rattle.c_grammar.specs.Leaves.{C}
use Rattle.first_program.specs.declared.tree.Sign.{Sign}
use Rattle.first_program.specs.Source.{Stmt, Sum, Test}
use Rattle.first_units.specs.Language.{Read, arm_in, arms_in, item_in, main_in, stmts_in}
use Rattle.first_units.specs.Views.{Item, items_kids}

-- an arm of a unit's ladder
abbrev pub UnitArm : Type 0
UnitArm = Arm Expr Declaration Attribute

-- what is found, before further addends
abbrev pub joined : List (Sign × Sum) → Option (List (Sign × Sum)) → Option (List (Sign × Sum))
joined found None = None
joined found (Some others) = Some (found ++ others)

-- a declaration is no definition of a function
pub no_main_declared : (x : Declaration) → main_in (external_tree (external.Declaration x)) ≡ None
no_main_declared (declaration.Declarators span specifiers []) = refl
no_main_declared (declaration.Declarators span specifiers (d ∷ more)) = refl
no_main_declared (declaration.Assertion span condition literals) = refl

-- ---- one round of the loops over arms and statements

-- what is left, from an element on
drop_first : {A : Type 0} (all : List A) (i : ℕ) (x : A) → i < length all → x ≡ get_or all i x → drop i all ≡ x ∷ drop (i + 1) all
drop_first all i x lt is =
    let next : suc i ≡ i + 1 = omega arith in
    drop-cons all i x lt ∙ (λ k. sym is k ∷ drop (next k) all)

-- what follows a statement
abbrev pub stmts_behind : List (List ℕ) → List Stmt → Trees C → Option Read → Option (List Stmt × List Span)
stmts_behind V found more None = None
stmts_behind V found more (Some s) = stmts_in V (found ++ s.0 ∷ []) s.1 more

-- what follows an arm
abbrev pub arms_behind : List (List ℕ) → List (Test × Stmt) → Trees C → Option ((Test × Stmt) × List Span) → Option (List (Test × Stmt) × List Span)
arms_behind V found more None = None
arms_behind V found more (Some a) = arms_in V (found ++ a.0 ∷ []) a.1 more

module _ (V : List (List ℕ)) (spans : List Span) where
  stmts_rest : (found : List Stmt) (item more : Trees C) → stmts_in V found spans (Next (Group true item) more) ≡ stmts_behind V found more (item_in V spans item)
  stmts_rest found item more = by_what (item_in V spans item)
    where
      by_what : (r : Option Read) → (r >>= (λ s. stmts_in V (found ++ s.0 ∷ []) s.1 more)) ≡ stmts_behind V found more r
      by_what None = refl
      by_what (Some x) = refl

  arms_rest : (found : List (Test × Stmt)) (arm more : Trees C) → arms_in V found spans (Next (Group true arm) more) ≡ arms_behind V found more (arm_in V spans arm)
  arms_rest found arm more = by_what (arm_in V spans arm)
    where
      by_what : (r : Option ((Test × Stmt) × List Span)) → (r >>= (λ a. arms_in V (found ++ a.0 ∷ []) a.1 more)) ≡ arms_behind V found more r
      by_what None = refl
      by_what (Some x) = refl

  module _ (found : List Stmt) (all : List Item) (i : ℕ) (item : Item) (whole : Option (List Stmt × List Span)) (lt : i < length all) (is : item ≡ get_or all i item)
      (e : stmts_in V found spans (items_kids (drop i all)) ≡ whole) where
    stmts_here : stmts_behind V found (items_kids (drop (i + 1) all)) (item_in V spans (block_item_kids item)) ≡ whole
    stmts_here =
        sym (stmts_rest found (block_item_kids item) (items_kids (drop (i + 1) all))) ∙ ap (λ l. stmts_in V found spans (items_kids l)) (sym (drop_first all i item lt is)) ∙ e

    pub stmts_none : None ≡ item_in V spans (block_item_kids item) → None ≡ whole
    stmts_none none = ap (stmts_behind V found (items_kids (drop (i + 1) all))) none ∙ stmts_here

    pub stmts_step : (now : List Stmt) (after : List Span) (x : Stmt) → Some (x, after) ≡ item_in V spans (block_item_kids item) → now ≡ found ++ x ∷ [] →
        stmts_in V now after (items_kids (drop (i + 1) all)) ≡ whole
    stmts_step now after x some more =
        ap (λ l. stmts_in V l after (items_kids (drop (i + 1) all))) more ∙ ap (stmts_behind V found (items_kids (drop (i + 1) all))) some ∙ stmts_here

  module _ (found : List (Test × Stmt)) (all : List UnitArm) (i : ℕ) (arm : UnitArm) (whole : Option (List (Test × Stmt) × List Span)) (lt : i < length all) (is : arm ≡ get_or all i arm)
      (e : arms_in V found spans (groups C (map arm_kids (drop i all))) ≡ whole) where
    arms_here : arms_behind V found (groups C (map arm_kids (drop (i + 1) all))) (arm_in V spans (arm_kids arm)) ≡ whole
    arms_here =
        sym (arms_rest found (arm_kids arm) (groups C (map arm_kids (drop (i + 1) all)))) ∙ ap (λ l. arms_in V found spans (groups C (map arm_kids l))) (sym (drop_first all i arm lt is)) ∙ e

    pub arms_none : None ≡ arm_in V spans (arm_kids arm) → None ≡ whole
    arms_none none = ap (arms_behind V found (groups C (map arm_kids (drop (i + 1) all)))) none ∙ arms_here

    pub arms_step : (now : List (Test × Stmt)) (after : List Span) (x : Test × Stmt) → Some (x, after) ≡ arm_in V spans (arm_kids arm) → now ≡ found ++ x ∷ [] →
        arms_in V now after (groups C (map arm_kids (drop (i + 1) all))) ≡ whole
    arms_step now after x some more =
        ap (λ l. arms_in V l after (groups C (map arm_kids (drop (i + 1) all)))) more ∙ ap (arms_behind V found (groups C (map arm_kids (drop (i + 1) all)))) some ∙ arms_here
