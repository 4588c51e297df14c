-- Each choice of the grammar is told by the tokens.
use Rattle.std.proofs.Common.{◌≡◌, ℕ, Bool, true, false, not, List, [], ◌∷◌, refl, ◌∙◌, ap}
use Rattle.std.specs.Prelude.{nat_lt}
use Rattle.c_base.specs.declared.token.Punctuator.{Punctuator}
use Rattle.c_base.specs.declared.token.Punctuator.TheVariants as mark
use Rattle.c_base.specs.declared.token.Token.{Token}
use Rattle.c_base.specs.declared.token.Word.{Word}
use Rattle.c_base.specs.declared.token.Word.TheVariants as word
use Rattle.c_tree.specs.WellFormed.{Names}
use Rattle.c_parse_rules.specs.Declaring.{starts}
use Rattle.c_parse_rules.specs.Following.{binding, goes_on}
use Rattle.c_parse_rules.specs.Tokens.{is_mark}
use Rattle.c_parse_rules.proofs.Laws.{begins_expr}
use Rattle.c_parse_rules.proofs.types.Parts.{mark_own, mark_says}
use Rattle.c_parse_rules.proofs.types.SuffixesReach.{not_going_on}
use Rattle.c_parse_rules.proofs.types.Words.{starts_not}
use Rattle.grammar.specs.Forms.{Tree, Node, Form, Done, Mark, AName, Given, Sub}
use Rattle.grammar.specs.Spelling.{Spells}
use Rattle.grammar.proofs.Heads.{mark_front}
use Rattle.grammar.proofs.Leading.{at_end, at_mark, each_cases, either_cases, either_takes, given_cases, leads_takes, listed_cases, mark_leads, sub_cases}
use Rattle.grammar.proofs.Telling.{Anything, Behind, BehindEach, Follow, Good, Takes}
use Rattle.c_grammar.specs.declared.rule.Rule.TheVariants as rule
use Rattle.c_grammar.specs.declared.rule.Sort.TheVariants as sort
use Rattle.c_grammar.specs.Leaves.{C, Ends, IsFront, Expression, Assignment, Constant, Leaf, AnExpr}
use Rattle.c_grammar.specs.Table.{begins_declaration, begins_designator, branch, designation, designator, form, initialiser, item, last_comma, on_designator, on_mark, on_next_item, optional_before, parenthesised, table}
use Rattle.c_grammar.proofs.Beginnings.{begun}
use Rattle.c_grammar.proofs.Given.{no_longer}
use Rattle.c_grammar.proofs.Words.{expr_not, expr_start}

-- the first word is such a word, or is none
abbrev pub Yes : (Word → Bool) → Follow C
Yes is scope tokens = starts is tokens ≡ true

abbrev pub No : (Word → Bool) → Follow C
No is scope tokens = starts is tokens ≡ false

-- such words alone may stand there
abbrev pub EndsAs : (Word → Bool) → Follow C → Type 0
EndsAs is F = (scope : Names) (tokens : List Token) → F scope tokens → starts is tokens ≡ true

-- ---- what ends an expression

goes_is : (least : ℕ) (tokens : List Token) → goes_on least tokens ≡ starts (λ w. nat_lt least (binding w)) tokens
goes_is least [] = refl
goes_is least (t ∷ tokens) = refl

pub mark_ends : (least : ℕ) (p : Punctuator) (f : Form C) (F : Follow C) → nat_lt least (binding (word.Punctuator p)) ≡ false → (scope : Names) (tokens : List Token) →
    Behind C table (Mark p f) F scope tokens → goes_on least tokens ≡ false
mark_ends least p f F e scope tokens h = goes_is least tokens ∙ at_mark C table p f F (λ w. nat_lt least (binding w)) scope tokens h ∙ e

pub mark_no_expr : (p : Punctuator) → begins_expr (word.Punctuator p) ≡ false → (w : Word) → begins_expr w ≡ true → is_mark p w ≡ false
mark_no_expr p e w h = by (is_mark p w) refl
  where
    by : (b : Bool) → is_mark p w ≡ b → is_mark p w ≡ false
    by true s = let same = mark_says p w s in let other : begins_expr w ≡ false = rw same e in absurd (cc)
    by false s = s

-- an expression begins with no word that begins none
pub whole_not : (is : Word → Bool) → ((w : Word) → begins_expr w ≡ true → is w ≡ false) → (leaf : Leaf) (scope : Names) (tokens : List Token) (new : Names) (rest : List Token) →
    IsFront Expression leaf scope tokens new rest → starts is tokens ≡ false
whole_not is f (AnExpr t) scope tokens new rest h = expr_not is f scope tokens rest (expr_start scope t h.1 (record { is = h.0.words }))
whole_not is f _ scope tokens new rest h = absurd h

assigned_not : (is : Word → Bool) → ((w : Word) → begins_expr w ≡ true → is w ≡ false) → (leaf : Leaf) (scope : Names) (tokens : List Token) (new : Names) (rest : List Token) →
    IsFront Assignment leaf scope tokens new rest → starts is tokens ≡ false
assigned_not is f (AnExpr t) scope tokens new rest h = expr_not is f scope tokens rest (expr_start scope t h.1 (record { is = h.0.words }))
assigned_not is f _ scope tokens new rest h = absurd h

pub whole_undeclared : (leaf : Leaf) (scope : Names) (tokens : List Token) (new : Names) (rest : List Token) → IsFront Expression leaf scope tokens new rest →
    starts (begins_declaration scope) tokens ≡ false
whole_undeclared (AnExpr t) scope tokens new rest h = let b = expr_start scope t h.1 (record { is = h.0.words }) in rw b.same b.undeclared
whole_undeclared _ scope tokens new rest h = absurd h

pub own_mark : (p : Punctuator) → is_mark p (word.Punctuator p) ≡ true
own_mark p = mark_own p (word.Punctuator p) refl

-- an expression or none, before a mark that begins none and does not go on with one
pub record Closes (p : Punctuator) : Type 0 where
  pub ends : nat_lt 0 (binding (word.Punctuator p)) ≡ false
  pub none : begins_expr (word.Punctuator p) ≡ false

pub semicolon_closes : Closes mark.Semicolon
semicolon_closes = record { ends = refl; none = refl }

pub parenthesis_closes : Closes mark.CloseParenthesis
parenthesis_closes = record { ends = refl; none = refl }

pub optional_good : (p : Punctuator) (f : Form C) (F : Follow C) → Closes p → Good C table Ends f F → Good C table Ends (optional_before p f) F
optional_good p f F c g = (
  (λ sc ts h. ap not (given_cases C table (No (is_mark p)) (Behind C table (Mark p f) F) Expression (λ e. Done) (λ leaf s t n r there more. whole_not (is_mark p) (mark_no_expr p c.none) leaf s t n r there) sc ts h)),
  (λ sc ts h. ap not (at_mark C table p f F (is_mark p) sc ts (at_end C table _ sc ts h) ∙ own_mark p)),
  (λ leaf. ((λ sc ts h. mark_ends 0 p f F c.ends sc ts (at_end C table _ sc ts h)), tt {0})),
  tt {0},
  g,
)

pub parenthesised_good : (f : Form C) (F : Follow C) → Good C table Ends f F → Good C table Ends (parenthesised f) F
parenthesised_good f F g = λ leaf. ((λ sc ts h. mark_ends 0 mark.CloseParenthesis f F refl sc ts h), g)

pub branch_good : (f : Form C) (F : Follow C) → Good C table Ends f F → Good C table Ends (branch f) F
branch_good f F g = ((λ scope. tt {0}), g)

-- ---- initialisers

-- what stands behind an initialiser
abbrev pub ends_initialiser : Word → Bool
ends_initialiser (word.Punctuator mark.Comma) = true
ends_initialiser (word.Punctuator mark.Semicolon) = true
ends_initialiser (word.Punctuator mark.CloseBrace) = true
ends_initialiser _ = false

initialiser_binds : (w : Word) → ends_initialiser w ≡ true → nat_lt 1 (binding w) ≡ false
initialiser_binds (word.Punctuator mark.Comma) h = refl
initialiser_binds (word.Punctuator mark.Semicolon) h = refl
initialiser_binds (word.Punctuator mark.CloseBrace) h = refl
initialiser_binds (word.Punctuator _) h = absurd (cc)
initialiser_binds _ h = absurd (cc)

-- braces begin with theirs, also those of a body
braces_start : (t : Tree C) (scope : Names) (tokens : List Token) (new : Names) (rest : List Token) → Spells C table t sort.Braces scope tokens new rest → starts (is_mark mark.OpenBrace) tokens ≡ true
braces_start (Node rule.Braces kids) scope tokens new rest sp = let b = begun rule.Braces kids scope tokens new rest sp.1 in rw (b.same, b.says) refl
braces_start (Node _ kids) scope tokens new rest sp = let other = sp.0 in absurd (cc)
braces_start _ scope tokens new rest sp = absurd sp

pub body_start : (t : Tree C) (scope : Names) (tokens : List Token) (new : Names) (rest : List Token) → Spells C table t sort.Body scope tokens new rest → starts (is_mark mark.OpenBrace) tokens ≡ true
body_start (Node rule.Body kids) scope tokens new rest sp = let b = begun rule.Body kids scope tokens new rest sp.1 in rw (b.same, b.says) refl
body_start (Node _ kids) scope tokens new rest sp = let other = sp.0 in absurd (cc)
body_start _ scope tokens new rest sp = absurd sp

pub initialiser_good : (F : Follow C) → EndsAs ends_initialiser F → Good C table Ends initialiser F
unfolding initialiser
initialiser_good F ends = (
  (λ sc ts h. sub_cases C table (Yes (is_mark mark.OpenBrace)) (Behind C table Done F) sort.Braces Done braces_start sc ts h),
  (λ sc ts h. given_cases C table (No (is_mark mark.OpenBrace)) (Behind C table Done F) Assignment (λ e. Done)
      (λ leaf s t n r there more. assigned_not (is_mark mark.OpenBrace) (mark_no_expr mark.OpenBrace refl) leaf s t n r there) sc ts h),
  tt {0},
  (λ leaf. ((λ sc ts h. not_going_on 1 ends_initialiser ts initialiser_binds (ends sc ts (at_end C table F sc ts (at_end C table _ sc ts h)))), tt {0})),
  tt {0},
)

-- an initialiser begins with no mark that begins no expression, but for a brace
at_initialiser : (is : Word → Bool) → ((w : Word) → is_mark mark.OpenBrace w ≡ true → is w ≡ false) → ((w : Word) → begins_expr w ≡ true → is w ≡ false) → (F : Follow C)
    (scope : Names) (tokens : List Token) → Behind C table initialiser F scope tokens → starts is tokens ≡ false
unfolding initialiser
at_initialiser is f g F scope tokens h =
    either_cases C table (No is) F (on_mark mark.OpenBrace) (Sub sort.Braces Done) (Given Assignment (λ e. Done)) Done
    (λ sc ts k. sub_cases C table (No is) (Behind C table Done F) sort.Braces Done (λ t s u n r sp. starts_not (is_mark mark.OpenBrace) is u f (braces_start t s u n r sp)) sc ts k)
    (λ sc ts k. given_cases C table (No is) (Behind C table Done F) Assignment (λ e. Done) (λ leaf s t n r there more. assigned_not is g leaf s t n r there) sc ts k) scope tokens h

-- ---- designators

abbrev indexed : Form C
indexed = Given Constant (λ e. Mark mark.CloseBracket Done)

abbrev member : Form C
member = AName Done

designator_good : (F : Follow C) → Good C table Ends designator F
unfolding designator
designator_good F = (
  (λ sc ts h. at_mark C table mark.OpenBracket indexed _ (is_mark mark.OpenBracket) sc ts h),
  (λ sc ts h. at_mark C table mark.Dot member _ (is_mark mark.OpenBracket) sc ts h),
  (λ leaf. ((λ sc ts h. mark_ends 2 mark.CloseBracket Done _ refl sc ts h), tt {0})),
  tt {0},
  tt {0},
)

at_designator : (F : Follow C) → EndsAs begins_designator (Behind C table designator F)
unfolding designator
at_designator F scope tokens h =
    either_cases C table (Yes begins_designator) F (on_mark mark.OpenBracket) (Mark mark.OpenBracket indexed) (Mark mark.Dot member) Done
    (λ sc ts k. at_mark C table mark.OpenBracket indexed _ begins_designator sc ts k)
    (λ sc ts k. at_mark C table mark.Dot member _ begins_designator sc ts k) scope tokens h

designator_takes : Takes C table designator
unfolding designator
designator_takes =
    either_takes C table no_longer (on_mark mark.OpenBracket) (Mark mark.OpenBracket indexed) (Mark mark.Dot member) Done
    (leads_takes C table no_longer _ _ (mark_leads C table no_longer mark.OpenBracket indexed))
    (leads_takes C table no_longer _ _ (mark_leads C table no_longer mark.Dot member))

designation_good : (F : Follow C) → Good C table Ends designation F
unfolding designation
designation_good F = (
  (λ sc ts h. at_designator _ sc ts h),
  (λ sc ts h. at_mark C table mark.Assign Done F begins_designator sc ts h),
  designator_takes,
  designator_good _,
  designator_good _,
  tt {0},
)

at_designation : (F : Follow C) → EndsAs begins_designator (Behind C table designation F)
unfolding designation
at_designation F scope tokens h = listed_cases C table (Yes begins_designator) F on_designator designator designator (Mark mark.Assign Done) (λ sc ts k. at_designator _ sc ts k) scope tokens h

brace_designator : (w : Word) → is_mark mark.OpenBrace w ≡ true → begins_designator w ≡ false
brace_designator (word.Punctuator mark.OpenBrace) h = refl
brace_designator (word.Punctuator _) h = absurd (cc)
brace_designator _ h = absurd (cc)

expr_designator : (w : Word) → begins_expr w ≡ true → begins_designator w ≡ false
expr_designator (word.Punctuator mark.OpenBracket) h = absurd (cc)
expr_designator (word.Punctuator mark.Dot) h = absurd (cc)
expr_designator (word.Punctuator _) h = refl
expr_designator _ h = refl

item_good : (F : Follow C) → EndsAs ends_initialiser F → Good C table Ends item F
unfolding item
item_good F ends = (
  (λ sc ts h. at_designation _ sc ts h),
  (λ sc ts h. at_initialiser begins_designator brace_designator expr_designator F sc ts (at_end C table _ sc ts h)),
  designation_good _,
  tt {0},
  initialiser_good F ends,
)

brace_closing : (w : Word) → is_mark mark.OpenBrace w ≡ true → is_mark mark.CloseBrace w ≡ false
brace_closing (word.Punctuator mark.CloseBrace) h = absurd (cc)
brace_closing (word.Punctuator _) h = refl
brace_closing _ h = refl

designator_closing : (w : Word) → begins_designator w ≡ true → is_mark mark.CloseBrace w ≡ false
designator_closing (word.Punctuator mark.CloseBrace) h = absurd (cc)
designator_closing (word.Punctuator _) h = refl
designator_closing _ h = refl

at_item : (F : Follow C) (scope : Names) (tokens : List Token) → Behind C table item F scope tokens → starts (is_mark mark.CloseBrace) tokens ≡ false
unfolding item
at_item F scope tokens h =
    either_cases C table (No (is_mark mark.CloseBrace)) F on_designator designation Done initialiser
    (λ sc ts k. starts_not begins_designator (is_mark mark.CloseBrace) ts designator_closing (at_designation _ sc ts k))
    (λ sc ts k. at_initialiser (is_mark mark.CloseBrace) brace_closing (mark_no_expr mark.CloseBrace refl) F sc ts (at_end C table _ sc ts k)) scope tokens h

-- ---- braces

abbrev next_item : Form C
next_item = Mark mark.Comma item

next_is : (F : Follow C) (scope : Names) (tokens : List Token) → Behind C table next_item F scope tokens → on_next_item scope tokens ≡ true
next_is F scope tokens (kids, new, rest, sp, fo) =
    let m = mark_front mark.Comma tokens sp.0 sp.1 in
    rw (m.starts_as (is_mark mark.Comma), m.next, at_item F scope sp.0 (kids, new, rest, sp.2, fo)) refl

abbrev NotNext : Follow C
NotNext scope tokens = on_next_item scope tokens ≡ false

no_next : (scope : Names) (tokens : List Token) → starts (is_mark mark.Comma) tokens ≡ false → NotNext scope tokens
no_next scope tokens e = rw e refl

last_is : (F : Follow C) (scope : Names) (tokens : List Token) → Behind C table (Mark mark.Comma Done) (Behind C table (Mark mark.CloseBrace Done) F) scope tokens → NotNext scope tokens
last_is F scope tokens (kids, new, rest, sp, fo) =
    let m = mark_front mark.Comma tokens sp.0 sp.1 in
    let e = at_mark C table mark.CloseBrace Done F (is_mark mark.CloseBrace) scope sp.0 (at_end C table (Behind C table (Mark mark.CloseBrace Done) F) scope sp.0 (kids, new, rest, sp.2, fo)) in
    rw (m.starts_as (is_mark mark.Comma), m.next, e) refl

tail_not : (F : Follow C) (scope : Names) (tokens : List Token) → Behind C table last_comma F scope tokens → NotNext scope tokens
unfolding last_comma
tail_not F scope tokens h =
    either_cases C table NotNext F (on_mark mark.Comma) (Mark mark.Comma Done) Done (Mark mark.CloseBrace Done) (λ sc ts k. last_is F sc ts k)
    (λ sc ts k. no_next sc ts (at_mark C table mark.CloseBrace Done F (is_mark mark.Comma) sc ts (at_end C table _ sc ts k))) scope tokens h

tail_ends : (F : Follow C) → EndsAs ends_initialiser (Behind C table last_comma F)
unfolding last_comma
tail_ends F scope tokens h =
    either_cases C table (Yes ends_initialiser) F (on_mark mark.Comma) (Mark mark.Comma Done) Done (Mark mark.CloseBrace Done)
    (λ sc ts k. at_mark C table mark.Comma Done _ ends_initialiser sc ts k)
    (λ sc ts k. at_mark C table mark.CloseBrace Done F ends_initialiser sc ts (at_end C table _ sc ts k)) scope tokens h

items_end : (F : Follow C) → EndsAs ends_initialiser (BehindEach C table next_item (Behind C table last_comma F))
items_end F scope tokens h =
    each_cases C table (Yes ends_initialiser) (Behind C table last_comma F) next_item (λ sc ts k. at_mark C table mark.Comma item _ ends_initialiser sc ts k) (tail_ends F) scope tokens h

pub braces_good : Good C table Ends (form rule.Braces) (Anything C)
unfolding last_comma
braces_good = (
  (λ sc ts h. next_is _ sc ts h),
  (λ sc ts h. tail_not (Anything C) sc ts h),
  leads_takes C table no_longer _ _ (mark_leads C table no_longer mark.Comma item),
  item_good _ (items_end (Anything C)),
  item_good _ (items_end (Anything C)),
  (
    (λ sc ts h. at_mark C table mark.Comma Done _ (is_mark mark.Comma) sc ts h),
    (λ sc ts h. at_mark C table mark.CloseBrace Done _ (is_mark mark.Comma) sc ts (at_end C table _ sc ts h)),
    tt {0},
    tt {0},
    tt {0},
  ),
)
