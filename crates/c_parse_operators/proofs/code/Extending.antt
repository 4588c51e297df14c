-- What conditions, assignments and commas make of a tree that is found already.
use Rattle.std.proofs.Common.{◌≡◌, ℕ, ◌<◌, ◌≤◌, nat_le, Bool, true, false, cond, ◌&&◌, List, [], length, Option, None, Some, option_map, Result, Ok, Err, IfOk, IfNone, IfSome, refl, sym, ap, subst, ◌∙◌, arith, rules}
use Rattle.c_base.specs.declared.number.Span.{Span}
use Rattle.c_base.specs.declared.token.Punctuator.TheVariants as mark
use Rattle.c_base.specs.declared.token.Token.{Token}
use Rattle.c_tree.specs.Nesting.{nest}
use Rattle.c_tree.specs.Trees.{Assignment}
use Rattle.c_tree.specs.Views.{tree_of}
use Rattle.c_tree.specs.WellFormed.{Names, ForType, after, level_of}
use Rattle.c_tree.specs.declared.tree.Expr.{Expr}
use Rattle.c_parse_postfix.specs.AtDepth.{assignment_at, branches_at, comma_at, comma_of, all_listed, conditional_at, runs, value_at}
use Rattle.c_parse_base.specs.Heights.{capped}
use Rattle.c_parse_operators.specs.Pairs.{Branches, branches_behind, branches_of, with_branches, AreBranches, AreAfterBranches, Value, value_behind, value_of, IsValue, IsAfterValue}
use Rattle.c_parse_rules.specs.Parsers.{expr_at, typing_at}
use Rattle.c_parse_base.specs.Reads.{found_of, IsGrown}
use Rattle.c_parse_rules.specs.Rules as the_rules
use Rattle.c_parse_rules.specs.Rules.{Found, levels}
use Rattle.c_parse_rules.specs.Tokens.{◌>>=◌, behind_mark, assigning_at}
use Rattle.c_parse_operators.specs.declared.expression.Branches.{Branches as CodeBranches}
use Rattle.c_parse_operators.specs.declared.expression.Value.{Value as CodeValue}
use Rattle.c_parse_base.specs.declared.found.Found.{Found as CodeFound}

-- a function over the answers of a chain goes into its last step
over_bind : {A B C : Type 0} (put : Option B → Option C) (x : Option A) (f : A → Option B) (g : A → Option C) → put None ≡ None →
    ((a : A) → put (f a) ≡ g a) → put (x >>= f) ≡ x >>= g
over_bind put None f g none same = none
over_bind put (Some a) f g none same = same a

-- ---- nothing more

pub unchanged : (plain : Found) (before new : Names) (first : CodeFound Expr) → plain ≡ found_of tree_of first → first.height ≡ capped (nest (tree_of first.tree)) →
    new ≡ after before (tree_of first.tree) → IsGrown tree_of tree_of plain before new first first
unchanged plain before new first same height names = record { same = sym same; height = height; names = names; shorter = omega arith }

too_loose : (least most : ℕ) → most < least → nat_le least most ≡ false
too_loose least most h = search rules

-- ---- `?:`

abbrev put_branches : Span → Found → Option Branches → Option Found
put_branches span f None = None
put_branches span f (Some b) = Some (with_branches span f (Some b))

branches_same : (d : ℕ) (span : Span) (before : Names) (f : Found) → put_branches span f (branches_behind d (after before f.0) f.1) ≡ branches_at d span before f
unfolding branches_behind the_rules.branches_at
branches_same d span before f =
    over_bind (put_branches span f) (behind_mark mark.Question f.1) _ _ refl (λ inside.
    over_bind (put_branches span f) (expr_at d (after before f.0) 0 inside) _ _ refl (λ when_true.
    over_bind (put_branches span f) (behind_mark mark.Colon when_true.1) _ _ refl (λ colon.
    over_bind (put_branches span f) (expr_at d (after (after before f.0) when_true.0) 2 colon) _ _ refl (λ when_false. refl))))

with_some : (span : Span) (f : Found) (b : Option Branches) → the_rules.or_else f (put_branches span f b) ≡ with_branches span f b
with_some span f None = refl
with_some span f (Some b) = refl

branched : (d least : ℕ) (span : Span) (before : Names) (f : Found) → nat_le least 2 ≡ true → nat_le (nest f.0) d ≡ true →
    conditional_at d least span before f ≡ with_branches span f (branches_behind d (after before f.0) f.1)
unfolding the_rules.conditional_at
branched d least span before f loose fits = rw (loose, fits, ← branches_same d span before f) (with_some span f (branches_behind d (after before f.0) f.1))

names_with : (old new before : Names) (span : Span) (f : Found) (b : Option Branches) → old ≡ after before f.0 → AreAfterBranches old new b → (b ≡ None → new ≡ old) →
    new ≡ after before (with_branches span f b).0
names_with old new before span f None known behind none = none refl ∙ known
names_with old new before span f (Some b) known behind none = behind ∙ ap (λ n. after (after n b.0.0) b.0.1) known

none_found : {A : Type 0} (view : CodeFound CodeBranches → A) (b : Option (CodeFound CodeBranches)) (old new : Names) → IfNone b (new ≡ old) → option_map view b ≡ None → new ≡ old
none_found view None old new same e = same
none_found view (Some b) old new same e = cc

less_left : (tokens : List Token) (span : Span) (f : Found) (b : Option (CodeFound CodeBranches)) → IfSome b (λ x. length x.rest.now < length f.1) →
    length (with_branches span f (option_map branches_of b)).1 ≤ length f.1
less_left tokens span f None less = omega arith
less_left tokens span f (Some b) less = let h : length b.rest.now < length f.1 = less in omega arith

pub put_conditional : {E : Type 0} (result : Result (CodeFound Expr) E) (d least : ℕ) (span : Span) (first : CodeFound Expr) (b : Option (CodeFound CodeBranches)) (old new : Names) →
    IfOk result (λ r. found_of tree_of r ≡ with_branches span (found_of tree_of first) (option_map branches_of b)) →
    IfOk result (λ r. r.height ≡ capped (nest (tree_of r.tree))) →
    AreBranches (branches_behind d old first.rest.now) old new first.rest.now b → IfNone b (new ≡ old) →
    nat_le least 2 ≡ true → nat_le (nest (tree_of first.tree)) d ≡ true →
    IfOk result (λ r. (before : Names) → old ≡ after before (tree_of first.tree) →
    IsGrown tree_of tree_of (conditional_at d least span before (found_of tree_of first)) before new first r)
put_conditional (Err e) d least span first b old new same height found none loose fits = tt
put_conditional (Ok r) d least span first b old new same height found none loose fits = λ before known.
    let f : Found = found_of tree_of first in
    let plain : option_map branches_of b ≡ branches_behind d old first.rest.now = found.same in
    let is : conditional_at d least span before f ≡ with_branches span f (branches_behind d old first.rest.now) = rw known (branched d least span before f loose fits) in
    let put : found_of tree_of r ≡ with_branches span f (branches_behind d old first.rest.now) = rw (← plain) same in
    record {
      same = put ∙ sym is;
      height = height;
      names = names_with old new before span f (branches_behind d old first.rest.now) known found.names (λ e. none_found branches_of b old new none (plain ∙ e))
          ∙ ap (λ x. after before x.0) (sym put);
      shorter = rw (ap (λ x. length x.1) same) (less_left first.rest.now span f b found.shorter);
    }

pub no_branches : (d least : ℕ) (span : Span) (before : Names) (f : Found) → 2 < least → conditional_at d least span before f ≡ f
unfolding the_rules.conditional_at
no_branches d least span before f h = rw (too_loose least 2 h) refl

pub no_room : (d least : ℕ) (span : Span) (before : Names) (f : Found) → nat_le least 2 ≡ true → nat_le (nest f.0) d ≡ false → conditional_at d least span before f ≡ f
unfolding the_rules.conditional_at
no_room d least span before f loose deep = rw (loose, deep) refl

pub loose : (least most : ℕ) → least ≤ most → nat_le least most ≡ true
loose least most h = search rules

-- ---- one extension behind another

pub grown_twice : (plain : Found → Found) (middle : Found) (before new new' : Names) (first run r : CodeFound Expr) →
    IsGrown tree_of tree_of middle before new first run → (new ≡ after before (tree_of run.tree) → IsGrown tree_of tree_of (plain (found_of tree_of run)) before new' run r) →
    IsGrown tree_of tree_of (plain middle) before new' first r
grown_twice plain middle before new new' first run r one two =
    let t = two one.names in
    let short : length run.rest.now ≤ length first.rest.now = one.shorter in
    let shorter : length r.rest.now ≤ length run.rest.now = t.shorter in
    record { same = t.same ∙ ap plain one.same; height = t.height; names = t.names; shorter = omega arith }

pub all_grown : {E : Type 0} (result : Result (CodeFound Expr) E) (plain : Names → Found → Found) (middle : Names → Found) (old new new' : Names) (first run : CodeFound Expr) →
    ((before : Names) → old ≡ after before (tree_of first.tree) → IsGrown tree_of tree_of (middle before) before new first run) →
    IfOk result (λ r. (before : Names) → new ≡ after before (tree_of run.tree) → IsGrown tree_of tree_of (plain before (found_of tree_of run)) before new' run r) →
    IfOk result (λ r. (before : Names) → old ≡ after before (tree_of first.tree) → IsGrown tree_of tree_of (plain before (middle before)) before new' first r)
all_grown (Err e) plain middle old new new' first run one two = tt
all_grown (Ok r) plain middle old new new' first run one two = λ before known.
    grown_twice (plain before) (middle before) before new new' first run r (one before known) (two before)

-- ---- assignments

abbrev put_value : Span → Found → Option Value → Option Found
put_value span f None = None
put_value span f (Some v) = Some (Assignment span f.0 v.0.0 v.0.1, v.1)

value_same : (d : ℕ) (span : Span) (before : Names) (f : Found) → put_value span f (value_behind d (after before f.0) f.1) ≡ value_at d span before f
unfolding value_behind the_rules.value_at
value_same d span before f =
    over_bind (put_value span f) (assigning_at f.1) _ _ refl (λ operator.
    over_bind (put_value span f) (expr_at d (after before f.0) 1 operator.1) _ _ refl (λ value. refl))

-- it may be the target of an assignment
abbrev pub may : ℕ → ℕ → Found → Bool
may d least f = nat_le least 1 && (nat_le 14 (level_of f.0) && nat_le (nest f.0) d)

cond_value : (d : ℕ) (span : Span) (before : Names) (f : Found) (b : Bool) →
    put_value span f (cond b (value_behind d (after before f.0) f.1) None) ≡ cond b (value_at d span before f) None
cond_value d span before f true = value_same d span before f
cond_value d span before f false = refl

abbrev pub assigned_by : ℕ → ℕ → Span → Names → Found → Option Value → Found
assigned_by d least span before f None = conditional_at d least span before (runs d levels least span before f)
assigned_by d least span before f (Some v) = (Assignment span f.0 v.0.0 v.0.1, v.1)

abbrev assignment_of : ℕ → ℕ → Span → Names → Found → Option Found → Found
assignment_of d = the_rules.assigned d (expr_at d) (typing_at d ForType)

by_value : (d least : ℕ) (span : Span) (before : Names) (f : Found) (v : Option Value) → assignment_of d least span before f (put_value span f v) ≡ assigned_by d least span before f v
by_value d least span before f None = refl
by_value d least span before f (Some v) = refl

pub assigns : (d least : ℕ) (span : Span) (before old : Names) (f : Found) (b : Bool) → b ≡ may d least f → old ≡ after before f.0 →
    assignment_at d least span before f ≡ assigned_by d least span before f (cond b (value_behind d old f.1) None)
unfolding the_rules.assignment_at
assigns d least span before old f b is known =
    rw (known, is, ← cond_value d span before f (may d least f)) (by_value d least span before f (cond (may d least f) (value_behind d (after before f.0) f.1) None))

pub put_assignment : {E : Type 0} (result : Result (CodeFound Expr) E) (d least : ℕ) (span : Span) (first : CodeFound Expr) (value : CodeFound CodeValue) (b : Bool) (old new : Names) →
    IfOk result (λ r. found_of tree_of r ≡ (Assignment span (tree_of first.tree) value.tree.operator (tree_of value.tree.value), value.rest.now)) →
    IfOk result (λ r. r.height ≡ capped (nest (tree_of r.tree))) →
    IsValue (cond b (value_behind d old first.rest.now) None) old new first.rest.now (Some value) → b ≡ may d least (found_of tree_of first) →
    IfOk result (λ r. (before : Names) → old ≡ after before (tree_of first.tree) →
    IsGrown tree_of tree_of (assignment_at d least span before (found_of tree_of first)) before new first r)
put_assignment (Err e) d least span first value b old new same height found is = tt
put_assignment (Ok r) d least span first value b old new same height found is = λ before known.
    let f : Found = found_of tree_of first in
    let plain : Some (value_of value) ≡ cond b (value_behind d old first.rest.now) None = found.same in
    let behind : new ≡ after old (tree_of value.tree.value) = subst (λ p. IsAfterValue old new p) (sym plain) found.names in
    let short : length value.rest.now < length first.rest.now = found.shorter in
    let left : r.rest.now ≡ value.rest.now = ap (λ x. x.1) same in
    record {
      same = same ∙ rw (assigns d least span before old f b is known, ← plain) refl;
      height = height;
      names = behind ∙ ap (λ n. after n (tree_of value.tree.value)) known ∙ ap (λ x. after before x.0) (sym same);
      shorter = rw left (omega arith);
    }

pub put_unassigned : {E : Type 0} (result : Result (CodeFound Expr) E) (d least : ℕ) (span : Span) (first : CodeFound Expr) (b : Bool) (old middle new : Names) →
    IfOk result (λ r. (before : Names) → middle ≡ after before (tree_of first.tree) →
    IsGrown tree_of tree_of (conditional_at d least span before (runs d levels least span before (found_of tree_of first))) before new first r) →
    IsValue (cond b (value_behind d old first.rest.now) None) old middle first.rest.now None → middle ≡ old → b ≡ may d least (found_of tree_of first) →
    IfOk result (λ r. (before : Names) → old ≡ after before (tree_of first.tree) →
    IsGrown tree_of tree_of (assignment_at d least span before (found_of tree_of first)) before new first r)
put_unassigned (Err e) d least span first b old middle new grown found back is = tt
put_unassigned (Ok r) d least span first b old middle new grown found back is = λ before known.
    let f : Found = found_of tree_of first in
    let plain : None ≡ cond b (value_behind d old first.rest.now) None = found.same in
    let same : assignment_at d least span before f ≡ conditional_at d least span before (runs d levels least span before f) =
    rw (assigns d least span before old f b is known, ← plain) refl in
    subst (λ p. IsGrown tree_of tree_of p before new first r) (sym same) (grown before (back ∙ known))

-- ---- commas

pub no_commas : (d least : ℕ) (span : Span) (before : Names) (f : Found) → 0 < least → comma_at d least span before f ≡ f
unfolding the_rules.comma_at
no_commas d least span before f h = rw (too_loose least 0 h) refl

pub no_depth : (d least : ℕ) (span : Span) (before : Names) (f : Found) → nat_le least 0 ≡ true → nat_le (nest f.0) d ≡ false → comma_at d least span before f ≡ f
unfolding the_rules.comma_at
no_depth d least span before f loose deep = rw (loose, deep) refl

pub with_commas : (d least : ℕ) (span : Span) (f : Found) (names before : Names) → nat_le least 0 ≡ true → nat_le (nest f.0) d ≡ true → names ≡ after before f.0 →
    comma_at d least span before f ≡ comma_of d span f (all_listed d [] names f.1)
unfolding the_rules.comma_at all_listed
with_commas d least span f names before loose fits known = rw (loose, fits, known) refl
