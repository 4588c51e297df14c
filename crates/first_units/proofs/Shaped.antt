-- A program names what it declares, and has a place for each numbered statement.
use Rattle.std.proofs.Common.{◌≡◌, ℕ, suc, ◌+◌, ◌-◌, ◌<◌, ◌≤◌, ◌++◌, Bool, true, false, cond, List, [], ◌∷◌, length, Option, None, Some, Result, Ok, Err, refl, sym, ◌∙◌, subst, ap, arith, length-append}
use Rattle.std.specs.Prelude.{not, nat_le, nat_lt, ◌&&◌, option_map, position, bytes_eq, IfOk, IfSome}
use Rattle.std.proofs.lemmas.Option.{cond_some}
use Rattle.std.proofs.lemmas.Bool.Decides.{nat_tests}
use Rattle.std.proofs.lemmas.List.Quantifiers.{position-Some}
use Rattle.c_base.specs.declared.number.BaseId.{BaseId}
use Rattle.c_base.specs.declared.number.Span.{Span}
use Rattle.c_base.specs.declared.token.IntegerConstant.{IntegerConstant}
use Rattle.c_parse_rules.specs.Tokens.{◌>>=◌}
use Rattle.c_tree.specs.declared.operator.AssignmentOperator.TheVariants as assignment
use Rattle.c_tree.specs.Trees as c
use Rattle.grammar.specs.Forms.{Tree, Place, Value, Node, Group, Trees, Nil, Next}
use Rattle.c_grammar.specs.declared.rule.Rule.TheVariants as rule
use Rattle.c_grammar.specs.Leaves.{C, ADeclarator, AnExpr, Specifiers}
use Rattle.first_program.specs.declared.tree.Sign.{Sign}
use Rattle.first_program.specs.Source.{Sum, Number, Variable, Parenthesised, Run, Test, Compare, Enclosed, Stmt, Assign, Return, If, While, Block, Nothing, Program, count, count_all}
use Rattle.first_program.specs.SourceViews.{addends, ladder, listed, program_of, AreAddendsShaped, AreStmtsShaped, IsDeclared, IsShaped, IsStmtShaped, IsSumShaped, IsTestShaped}
use Rattle.first_units.specs.Sums.{base_at, variable_named, is_plain, is_int, number_of, sign_of, relation_of, sum_of, addends_of, addend_of, compared_with, comparison_of, test_of}
use Rattle.first_units.specs.Language.{Read, with_test, arm_in, arms_in, assigned_in, assigned_to, body_in, is_just, is_main, item_in, last_in, lone_in, main_in, placed, program_in, program_where, stmt_in, stmts_in, target_named, variables_in}

-- the parts of two steps
bound : {A B P : Type 0} (o : Option A) (f : A → Option B) (y : B) → o >>= f ≡ Some y → ((x : A) → o ≡ Some x → f x ≡ Some y → P) → P
bound None f y e k = absurd (cc)
bound (Some x) f y e k = k x refl e

mapped : {A B P : Type 0} (f : A → B) (o : Option A) (y : B) → option_map f o ≡ Some y → ((x : A) → o ≡ Some x → f x ≡ y → P) → P
mapped f None y e k = absurd (cc)
mapped f (Some x) y e k = k x refl (cc)

same_some : {A : Type 0} (P : A → Type 0) (x y : A) → ◌≡◌ {A = Option A} (Some x) (Some y) → P x → P y
same_some P x y e p = let s : x ≡ y = cc in subst P s p

-- ---- sums and tests

named : (V : List (List ℕ)) (text : List ℕ) (base : BaseId) → variable_named V text ≡ Some base → IsDeclared (length V) base
named V text base e =
    mapped base_at (position (bytes_eq text) V) base e
    (λ index is same.
    let found = position-Some (bytes_eq text) V index [] is in
    let below = found.0 in
    subst (λ (b : BaseId). IsDeclared (length V) b) same (omega arith, omega arith))

int_small : (c : IntegerConstant) (u p n : Bool) → nat_le c.value 2147483647 ≡ n → u && (p && n) ≡ true → c.value ≤ 2147483647
int_small c true true true e h = grind (arith, nat_tests)
int_small c false p n e h = absurd (cc)
int_small c true false n e h = absurd (cc)
int_small c true true false e h = absurd (cc)

number_small : (c : IntegerConstant) (n : ℕ) → number_of c ≡ Some n → n ≤ 2147483647
number_small c n e =
    let s = cond_some (is_int c) c.value n e in
    subst (λ x. x ≤ 2147483647) s.1 (int_small c (not c.unsigned) (is_plain c.length) (nat_le c.value 2147483647) refl s.0)

mutual
  sum_shaped : (V : List (List ℕ)) (t : c.Tree) (s : Sum) → sum_of V t ≡ Some s → IsSumShaped (length V) s
  sum_shaped V (c.Name span text) s e = mapped Variable (variable_named V text) s e (λ base is same. subst (IsSumShaped (length V)) same (named V text base is))
  sum_shaped V (c.Integer span constant) s e = mapped Number (number_of constant) s e (λ n is same. subst (IsSumShaped (length V)) same (number_small constant n is))
  sum_shaped V (c.Parenthesised span inner) s e = mapped Parenthesised (sum_of V inner) s e (λ i is same. subst (IsSumShaped (length V)) same (sum_shaped V inner i is))
  sum_shaped V (c.Run span first more) s e =
      bound (sum_of V first) _ s e
      (λ a f e2. bound (addends_of V more) _ s e2
      (λ others g same. same_some (IsSumShaped (length V)) (Run a (addends others)) s same (sum_shaped V first a f, addends_shaped V more others g)))
  sum_shaped V _ s e = absurd (cc)

  addends_shaped : (V : List (List ℕ)) (ts : c.Trees) (all : List (Sign × Sum)) → addends_of V ts ≡ Some all → AreAddendsShaped (length V) (addends all)
  addends_shaped V c.Nil all e = same_some (λ (x : List (Sign × Sum)). AreAddendsShaped (length V) (addends x)) [] all e tt
  addends_shaped V (c.Next t more) all e =
      bound (addend_of V t) _ all e
      (λ a f e2. bound (addends_of V more) _ all e2
      (λ others g same. same_some (λ (x : List (Sign × Sum)). AreAddendsShaped (length V) (addends x)) (a ∷ others) all same (addend_shaped V t a f, addends_shaped V more others g)))

  addend_shaped : (V : List (List ℕ)) (t : c.Tree) (a : Sign × Sum) → addend_of V t ≡ Some a → IsSumShaped (length V) a.1
  addend_shaped V (c.Operand operator operand) a e =
      bound (sign_of operator) _ a e
      (λ sign f e2. bound (sum_of V operand) _ a e2
      (λ s g same. same_some (λ (x : Sign × Sum). IsSumShaped (length V) x.1) (sign, s) a same (sum_shaped V operand s g)))
  addend_shaped V _ a e = absurd (cc)

compared_shaped : (V : List (List ℕ)) (first t : c.Tree) (s : Test) → compared_with V first t ≡ Some s → IsTestShaped (length V) s
compared_shaped V first (c.Operand operator operand) s e =
    bound (relation_of operator) _ s e
    (λ relation f e2. bound (sum_of V first) _ s e2
    (λ a g e3. bound (sum_of V operand) _ s e3
    (λ b h same. same_some (IsTestShaped (length V)) (Compare a relation b) s same (sum_shaped V first a g, sum_shaped V operand b h))))
compared_shaped V first _ s e = absurd (cc)

comparison_shaped : (V : List (List ℕ)) (first : c.Tree) (more : c.Trees) (s : Test) → comparison_of V first more ≡ Some s → IsTestShaped (length V) s
comparison_shaped V first c.Nil s e = absurd (cc)
comparison_shaped V first (c.Next t c.Nil) s e = compared_shaped V first t s e
comparison_shaped V first (c.Next t (c.Next u more)) s e = absurd (cc)

test_shaped : (V : List (List ℕ)) (t : c.Tree) (s : Test) → test_of V t ≡ Some s → IsTestShaped (length V) s
test_shaped V (c.Parenthesised span inner) s e = mapped Enclosed (test_of V inner) s e (λ i is same. subst (IsTestShaped (length V)) same (test_shaped V inner i is))
test_shaped V (c.Run span first more) s e = comparison_shaped V first more s e
test_shaped V _ s e = absurd (cc)

-- ---- statements

target_shaped : (V : List (List ℕ)) (t : c.Tree) (base : BaseId) → target_named V t ≡ Some base → IsDeclared (length V) base
target_shaped V (c.Name span text) base e = named V text base e
target_shaped V _ base e = absurd (cc)

-- a statement's names are declared, and the places of what is numbered in it were added
record IsLike (V : List (List ℕ)) (spans : List Span) (s : Stmt) (after : List Span) : Type 0 where
  pub shaped : IsStmtShaped (length V) s
  pub places : length after ≡ length spans + count s

one_more : (spans : List Span) (span : Span) → length (spans ++ span ∷ []) ≡ length spans + 1
one_more spans span = length-append spans (span ∷ [])

assigned_like : (V : List (List ℕ)) (spans : List Span) (span : Span) (t : c.Tree) (s : Stmt) → assigned_in V t ≡ Some s → IsLike V spans s (spans ++ span ∷ [])
assigned_like V spans span (c.Assignment place target assignment.Plain value) s e =
    bound (target_named V target) _ s e
    (λ base f e2. bound (sum_of V value) _ s e2
    (λ sum g same.
    let declared = target_shaped V target base f in
    same_some (λ (x : Stmt). IsLike V spans x (spans ++ span ∷ [])) (Assign base sum) s same
    (record { shaped = (declared.0, declared.1, sum_shaped V value sum g); places = one_more spans span })))
assigned_like V spans span _ s e = absurd (cc)

placed_like : (V : List (List ℕ)) (spans after : List Span) (o : Option Stmt) (r : Read) → placed after o ≡ Some r → ((s : Stmt) → o ≡ Some s → IsLike V spans s after) →
    IsLike V spans r.0 r.1
placed_like V spans after None r e k = absurd (cc)
placed_like V spans after (Some s) r e k = same_some (λ (x : Read). IsLike V spans x.0 x.1) (s, after) r e (k s refl)

returned_like : (V : List (List ℕ)) (spans : List Span) (span : Span) (t : c.Tree) (s : Stmt) → option_map Return (sum_of V t) ≡ Some s → IsLike V spans s (spans ++ span ∷ [])
returned_like V spans span t s e =
    mapped Return (sum_of V t) s e
    (λ sum is same. subst (λ (x : Stmt). IsLike V spans x (spans ++ span ∷ [])) same (record { shaped = sum_shaped V t sum is; places = one_more spans span }))

-- ---- ladders

abbrev count_arms : List (Test × Stmt) → ℕ
count_arms [] = 0
count_arms (a ∷ more) = suc (count a.1) + count_arms more

abbrev AreArmsShaped : ℕ → List (Test × Stmt) → Type 0
AreArmsShaped n [] = Unit {0}
AreArmsShaped n (a ∷ more) = IsTestShaped n a.0 × IsStmtShaped n a.1 × AreArmsShaped n more

ladder_count : (arms : List (Test × Stmt)) (last : Stmt) → count (ladder arms last) ≡ count_arms arms + count last
ladder_count [] last = omega arith
ladder_count (a ∷ more) last = let h = ladder_count more last in omega arith

ladder_shaped : (n : ℕ) (arms : List (Test × Stmt)) (last : Stmt) → AreArmsShaped n arms → IsStmtShaped n last → IsStmtShaped n (ladder arms last)
ladder_shaped n [] last a h = h
ladder_shaped n (a ∷ more) last h l = (h.0, h.1, ladder_shaped n more last h.2 l)

more_arms_count : (arms : List (Test × Stmt)) (a : Test × Stmt) → count_arms (arms ++ a ∷ []) ≡ count_arms arms + suc (count a.1)
more_arms_count [] a = omega arith
more_arms_count (b ∷ more) a = let h = more_arms_count more a in omega arith

more_arms_shaped : (n : ℕ) (arms : List (Test × Stmt)) (a : Test × Stmt) → AreArmsShaped n arms → IsTestShaped n a.0 → IsStmtShaped n a.1 → AreArmsShaped n (arms ++ a ∷ [])
more_arms_shaped n [] a h t s = (t, s, tt)
more_arms_shaped n (b ∷ more) a h t s = (h.0, h.1, more_arms_shaped n more a h.2 t s)

-- ---- lists of statements

more_count : (found : List Stmt) (s : Stmt) → count_all (listed (found ++ s ∷ [])) ≡ count_all (listed found) + count s
more_count [] s = omega arith
more_count (b ∷ more) s = let h = more_count more s in omega arith

more_shaped : (n : ℕ) (found : List Stmt) (s : Stmt) → AreStmtsShaped n (listed found) → IsStmtShaped n s → AreStmtsShaped n (listed (found ++ s ∷ []))
more_shaped n [] s h t = (t, tt)
more_shaped n (b ∷ more) s h t = (h.0, more_shaped n more s h.1 t)

abbrev Arm : Type 0
Arm = (Test × Stmt) × List Span

abbrev Arms : Type 0
Arms = List (Test × Stmt) × List Span

record IsArmLike (V : List (List ℕ)) (spans : List Span) (a : Arm) : Type 0 where
  pub test : IsTestShaped (length V) a.0.0
  pub shaped : IsStmtShaped (length V) a.0.1
  pub places : length a.1 ≡ length spans + suc (count a.0.1)

record AreArmsLike (V : List (List ℕ)) (found : List (Test × Stmt)) (spans : List Span) (all : Arms) : Type 0 where
  pub shaped : AreArmsShaped (length V) all.0
  pub places : length all.1 + count_arms found ≡ length spans + count_arms all.0

record AreLike (V : List (List ℕ)) (found : List Stmt) (spans : List Span) (all : List Stmt × List Span) : Type 0 where
  pub shaped : AreStmtsShaped (length V) (listed all.0)
  pub places : length all.1 + count_all (listed found) ≡ length spans + count_all (listed all.0)

tested : {P : Type 0} (o : Option Test) (read : Option Read) (a : Arm) → with_test o read ≡ Some a →
    ((test : Test) (s : Read) → o ≡ Some test → read ≡ Some s → ◌≡◌ {A = Option Arm} (Some ((test, s.0), s.1)) (Some a) → P) → P
tested None read a e k = absurd (cc)
tested (Some test) None a e k = absurd (cc)
tested (Some test) (Some s) a e k = k test s refl refl e

while_like : (V : List (List ℕ)) (spans : List Span) (a : Arm) (r : Read) → IsArmLike V spans a → ◌≡◌ {A = Option Read} (Some (While a.0.0 a.0.1, a.1)) (Some r) → IsLike V spans r.0 r.1
while_like V spans a r i same =
    same_some (λ (x : Read). IsLike V spans x.0 x.1) (While a.0.0 a.0.1, a.1) r same (record { shaped = (i.test, i.shaped); places = i.places })

block_like : (V : List (List ℕ)) (spans : List Span) (all : List Stmt × List Span) (r : Read) → AreLike V [] spans all →
    ◌≡◌ {A = Option Read} (Some (Block (listed all.0), all.1)) (Some r) → IsLike V spans r.0 r.1
block_like V spans all r i same =
    let p = i.places in
    same_some (λ (x : Read). IsLike V spans x.0 x.1) (Block (listed all.0), all.1) r same (record { shaped = i.shaped; places = omega arith })

arm_like : (V : List (List ℕ)) (spans : List Span) (span : Span) (test : Test) (s : Read) (a : Arm) → IsTestShaped (length V) test → IsLike V (spans ++ span ∷ []) s.0 s.1 →
    ◌≡◌ {A = Option Arm} (Some ((test, s.0), s.1)) (Some a) → IsArmLike V spans a
arm_like V spans span test s a t i same =
    let p = i.places in
    let o = one_more spans span in
    same_some (λ (x : Arm). IsArmLike V spans x) ((test, s.0), s.1) a same (record { test = t; shaped = i.shaped; places = omega arith })

first_like : (V : List (List ℕ)) (spans : List Span) (a : Arm) (all : Arms) → IsArmLike V spans a → AreArmsLike V (a.0 ∷ []) a.1 all →
    (AreArmsShaped (length V) all.0) × (length all.1 ≡ length spans + count_arms all.0)
first_like V spans a all i j = let p = i.places in let q = j.places in (j.shaped, omega arith)

next_arm_like : (V : List (List ℕ)) (found : List (Test × Stmt)) (spans : List Span) (a : Arm) (all : Arms) → IsArmLike V spans a →
    AreArmsLike V (found ++ a.0 ∷ []) a.1 all → AreArmsLike V found spans all
next_arm_like V found spans a all i j =
    let p = i.places in let q = j.places in let m = more_arms_count found a.0 in record { shaped = j.shaped; places = omega arith }

next_like : (V : List (List ℕ)) (found : List Stmt) (spans : List Span) (s : Read) (all : List Stmt × List Span) → IsLike V spans s.0 s.1 →
    AreLike V (found ++ s.0 ∷ []) s.1 all → AreLike V found spans all
next_like V found spans s all i j =
    let p = i.places in let q = j.places in let m = more_count found s.0 in record { shaped = j.shaped; places = omega arith }

mutual
  stmt_like : (V : List (List ℕ)) (spans : List Span) (t : Tree C) (r : Read) → stmt_in V spans t ≡ Some r → IsLike V spans r.0 r.1
  stmt_like V spans (Node rule.Expression (Next (Place span) (Next (Group true (Next (Value (AnExpr t)) Nil)) Nil))) r e =
      placed_like V spans _ (assigned_in V t) r e (assigned_like V spans span t)
  stmt_like V spans (Node rule.Return (Next (Place span) (Next (Group true (Next (Value (AnExpr t)) Nil)) Nil))) r e =
      placed_like V spans _ (option_map Return (sum_of V t)) r e (returned_like V spans span t)
  stmt_like V spans (Node rule.While (Next (Place span) (Next (Group true (Next (Value (AnExpr t)) (Next (Group true (Next body Nil)) Nil))) Nil))) r e =
      bound (with_test (test_of V t) (stmt_in V (spans ++ span ∷ []) body)) _ r e (λ a f same. while_like V spans a r ((tested (test_of V t) (stmt_in V (spans ++ span ∷ []) body) a f (λ test s g h same. arm_like V spans span test s a (test_shaped V t test g) (stmt_like V (spans ++ span ∷ []) body s h) same))) same)
  stmt_like V spans (Node rule.If (Next (Place span) (Next (Group true (Next (Value (AnExpr t)) (Next (Group true (Next branch Nil)) (Next (Group true more) (Next last Nil))))) Nil))) r e =
      bound (with_test (test_of V t) (stmt_in V (spans ++ span ∷ []) branch)) _ r e
      (λ a f e2.
      let i = (tested (test_of V t) (stmt_in V (spans ++ span ∷ []) branch) a f (λ test s g h same. arm_like V spans span test s a (test_shaped V t test g) (stmt_like V (spans ++ span ∷ []) branch s h) same)) in
      bound (arms_in V (a.0 ∷ []) a.1 more) _ r e2
      (λ all g e3.
      let j = first_like V spans a all i (arms_are V (a.0 ∷ []) a.1 more all g (i.test, i.shaped, tt)) in
      last_is V spans all.0 all.1 last r e3 j.0 j.1))
  stmt_like V spans (Node rule.Block (Next (Place span) (Next (Group true (Next (Group true items) Nil)) Nil))) r e =
      bound (stmts_in V [] spans items) _ r e (λ all f same. block_like V spans all r (stmts_are V [] spans items all f tt) same)
  stmt_like V spans _ r e = absurd (cc)

  arm_is : (V : List (List ℕ)) (spans : List Span) (kids : Trees C) (a : Arm) → arm_in V spans kids ≡ Some a → IsArmLike V spans a
  arm_is V spans (Next (Place span) (Next (Value (AnExpr t)) (Next (Group true (Next branch Nil)) Nil))) a e =
      tested (test_of V t) (stmt_in V (spans ++ span ∷ []) branch) a e (λ test s g h same. arm_like V spans span test s a (test_shaped V t test g) (stmt_like V (spans ++ span ∷ []) branch s h) same)
  arm_is V spans _ a e = absurd (cc)

  arms_are : (V : List (List ℕ)) (found : List (Test × Stmt)) (spans : List Span) (ts : Trees C) (all : Arms) → arms_in V found spans ts ≡ Some all →
      AreArmsShaped (length V) found → AreArmsLike V found spans all
  arms_are V found spans Nil all e h = same_some (λ (x : Arms). AreArmsLike V found spans x) (found, spans) all e (record { shaped = h; places = refl })
  arms_are V found spans (Next (Group true arm) more) all e h =
      bound (arm_in V spans arm) _ all e
      (λ a f e2.
      let i = arm_is V spans arm a f in
      next_arm_like V found spans a all i (arms_are V (found ++ a.0 ∷ []) a.1 more all e2 (more_arms_shaped (length V) found a.0 h i.test i.shaped)))
  arms_are V found spans _ all e h = absurd (cc)

  last_is : (V : List (List ℕ)) (before : List Span) (arms : List (Test × Stmt)) (spans : List Span) (t : Tree C) (r : Read) → last_in V arms spans t ≡ Some r →
      AreArmsShaped (length V) arms → length spans ≡ length before + count_arms arms → IsLike V before r.0 r.1
  last_is V before arms spans (Group false Nil) r e h n =
      let k = ladder_count arms Nothing in
      same_some (λ (x : Read). IsLike V before x.0 x.1) (ladder arms Nothing, spans) r e (record { shaped = ladder_shaped (length V) arms Nothing h tt; places = omega arith })
  last_is V before arms spans (Group true (Next (Group true (Next s Nil)) Nil)) r e h n =
      bound (stmt_in V spans s) _ r e
      (λ last f same.
      let i = stmt_like V spans s last f in
      let p = i.places in
      let k = ladder_count arms last.0 in
      same_some (λ (x : Read). IsLike V before x.0 x.1) (ladder arms last.0, last.1) r same
      (record { shaped = ladder_shaped (length V) arms last.0 h i.shaped; places = omega arith }))
  last_is V before arms spans _ r e h n = absurd (cc)

  item_is : (V : List (List ℕ)) (spans : List Span) (kids : Trees C) (s : Read) → item_in V spans kids ≡ Some s → IsLike V spans s.0 s.1
  item_is V spans (Next (Group false (Next t Nil)) Nil) s e = stmt_like V spans t s e
  item_is V spans _ s e = absurd (cc)

  stmts_are : (V : List (List ℕ)) (found : List Stmt) (spans : List Span) (ts : Trees C) (all : List Stmt × List Span) → stmts_in V found spans ts ≡ Some all →
      AreStmtsShaped (length V) (listed found) → AreLike V found spans all
  stmts_are V found spans Nil all e h = same_some (λ (x : List Stmt × List Span). AreLike V found spans x) (found, spans) all e (record { shaped = h; places = refl })
  stmts_are V found spans (Next (Group true item) more) all e h =
      bound (item_in V spans item) _ all e
      (λ s f e2.
      let i = item_is V spans item s f in
      next_like V found spans s all i (stmts_are V (found ++ s.0 ∷ []) s.1 more all e2 (more_shaped (length V) found s.0 h i.shaped)))
  stmts_are V found spans _ all e h = absurd (cc)

-- ---- programs

program_shaped : (V : List (List ℕ)) (closing : Span) (all : List Stmt × List Span) (p : Program) → program_where V closing all ≡ Some p → nat_lt (length V) 4294967295 ≡ true →
    AreLike V [] [] all → IsShaped p
program_shaped V closing all p e few like =
    let w : Program = record { variables = V; body = listed all.0; spans = all.1 ++ closing ∷ [] } in
    let s = cond_some (nat_lt (length all.1) 200000) w p e in
    let n = like.places in
    let o = one_more all.1 closing in
    let small : length all.1 < 200000 = grind (arith, nat_tests) in
    let so_few : length V < 4294967295 = grind (arith, nat_tests) in
    subst IsShaped s.1 (record { places = omega arith; few = omega arith; variables = so_few; stmts = like.shaped })

body_shaped : (t : Tree C) (p : Program) → body_in t ≡ Some p → IsShaped p
body_shaped (Node rule.Body (Next (Place span) (Next (Group true items) (Next (Place closing) Nil)))) p e =
    bound (variables_in [] items) _ p e
    (λ declared f e2.
    let few = cond_true _ _ p e2 in
    bound (stmts_in declared.0 [] [] declared.1) _ p few.1
    (λ all g e3. program_shaped declared.0 closing all p e3 few.0 (stmts_are declared.0 [] [] declared.1 all g tt)))
  where
    cond_true : (b : Bool) (o : Option Program) (x : Program) → cond b o None ≡ Some x → (b ≡ true) × (o ≡ Some x)
    cond_true true o x h = (refl, h)
    cond_true false o x h = absurd (cc)
body_shaped _ p e = absurd (cc)

main_shaped : (t : Tree C) (p : Program) → main_in t ≡ Some p → IsShaped p
main_shaped (Node rule.External (Next (Place span) (Next (Value (Specifiers all)) (Next (Group true (Next (Value (ADeclarator d)) (Next (Group true (Next (Group true (Next body Nil)) Nil)) Nil))) Nil)))) p e =
    both _ (body_in body) e refl
  where
    both : (b : Bool) (o : Option Program) → cond b o None ≡ Some p → o ≡ body_in body → IsShaped p
    both true o h same = body_shaped body p (sym same ∙ h)
    both false o h same = absurd (cc)
main_shaped _ p e = absurd (cc)

pub shaped : (kids : Trees C) (p : Program) → program_in kids ≡ Some p → IsShaped p
shaped (Next (Group true externals) Nil) p e = bound (lone_in None externals) _ p e (λ t f h. main_shaped t p h)
shaped _ p e = absurd (cc)

-- the same of what the code found
pub shaped_found : {E T : Type 0} (view : T → Program) (kids : Trees C) (r : Result (Option T) E) → IfOk r (λ found. option_map view found ≡ program_in kids) →
    IfOk r (λ found. IfSome found (λ p. IsShaped (view p)))
shaped_found view kids (Err e) h = tt
shaped_found view kids (Ok None) h = tt
shaped_found view kids (Ok (Some p)) h = shaped kids (view p) (sym h)
