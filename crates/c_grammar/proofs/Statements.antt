-- The choices of statements are told by the tokens, and so are all.
use Rattle.std.proofs.Common.{◌≡◌, ◌<◌, Bool, true, false, not, ◌&&◌, ◌||◌, IsTrue, List, ◌∷◌, length, refl, ap}
use Rattle.c_base.specs.declared.token.Keyword.TheVariants as key
use Rattle.c_base.specs.declared.token.Punctuator.TheVariants as mark
use Rattle.c_base.specs.declared.token.Token.{Token}
use Rattle.c_base.specs.declared.token.Word.{Word}
use Rattle.c_base.specs.declared.token.Word.TheVariants as word
use Rattle.c_tree.specs.Spelling.{pieces_of_all}
use Rattle.c_tree.specs.WellFormed.{Names, Untyped}
use Rattle.c_parse_rules.specs.Declaring.{starts}
use Rattle.c_parse_rules.specs.Tokens.{begins_type, is_key, is_mark}
use Rattle.c_parse_rules.proofs.types.Parts.{attribute_reach}
use Rattle.c_parse_rules.proofs.types.Words.{Fit, starts_also}
use Rattle.grammar.specs.Forms.{Tree, Place, Value, Node, Group, Trees, Nil, Next, Form, Done, Here, Key, Mark, Given, Sub, Scoped, Many, Unless}
use Rattle.grammar.specs.Spelling.{Spells, SpellsAll}
use Rattle.grammar.proofs.Heads.{key_front, mark_front}
use Rattle.grammar.proofs.Leading.{here_cases, at_end, at_key, at_mark, either_cases, either_takes, given_cases, key_leads, leads_takes, sub_cases, sub_takes}
use Rattle.grammar.proofs.Telling.{AllGood, Anything, Behind, Follow, Good, Takes}
use Rattle.c_grammar.specs.declared.rule.Rule.{Rule}
use Rattle.c_grammar.specs.declared.rule.Rule.TheVariants as rule
use Rattle.c_grammar.specs.declared.rule.Sort.{Sort}
use Rattle.c_grammar.specs.declared.rule.Sort.TheVariants as sort
use Rattle.c_grammar.specs.Leaves.{C, Ends, Expression, Specifiers, AnAttribute}
use Rattle.c_grammar.specs.Table.{arm, begins_declaration, belongs, block_item, branch, for_first, form, is_name, last, on_attribute, on_block_declaration, on_declaration, on_else_if, on_key, on_label, optional_before, parenthesised, table, until_mark}
use Rattle.c_grammar.proofs.Beginnings.{Says, at_declarators, begins_statement, begun, expression_rule, label_rule}
use Rattle.c_grammar.proofs.Given.{no_longer}
use Rattle.c_grammar.proofs.Words.{specifiers_no_label, specifiers_start}
use Rattle.c_grammar.proofs.Choices.{No, braces_good, branch_good, mark_ends, optional_good, parenthesis_closes, parenthesised_good, semicolon_closes, whole_undeclared}
use Rattle.c_grammar.proofs.Declarations.{assertion_good, declaration_good, external_good}

-- ---- with which words statements and declarations begin

statement_closing : (w : Word) → begins_statement w ≡ true → is_mark mark.CloseBrace w ≡ false
statement_closing (word.Punctuator mark.CloseBrace) h = absurd (cc)
statement_closing (word.Punctuator _) h = refl
statement_closing _ h = refl

type_closing : (names : Names) (w : Word) → begins_type names w ≡ true → is_mark mark.CloseBrace w ≡ false
type_closing names (word.Punctuator p) h = absurd (cc)
type_closing names _ h = refl

name_closing : (w : Word) → is_name w ≡ true → is_mark mark.CloseBrace w ≡ false
name_closing (word.Identifier name) h = refl
name_closing _ h = absurd (cc)

-- no rule begins with a `}`
not_closing : (r : Rule) (names : Names) (w : Word) (left : List Token) → Says r names w left → is_mark mark.CloseBrace w ≡ false
not_closing rule.External names w left h = type_closing names w h
not_closing rule.Declaration names w left h = type_closing names w h
not_closing rule.Expression names w left h = statement_closing w h.0
not_closing rule.Label names w left h = name_closing w h.0
not_closing _ names w left h = rw h refl

tree_closing : (t : Tree C) (s : Sort) (scope : Names) (tokens : List Token) (new : Names) (rest : List Token) → Spells C table t s scope tokens new rest → starts (is_mark mark.CloseBrace) tokens ≡ false
tree_closing (Node r kids) s scope tokens new rest sp = let b = begun r kids scope tokens new rest sp.1 in rw b.same (not_closing r scope b.token.word b.left b.says)
tree_closing _ s scope tokens new rest sp = absurd sp

-- each tree takes a token
pub tree_takes : (s : Sort) (t : Tree C) (scope : Names) (tokens : List Token) (new : Names) (rest : List Token) → Spells C table t s scope tokens new rest → length rest < length tokens
tree_takes s (Node r kids) scope tokens new rest sp = let b = begun r kids scope tokens new rest sp.1 in b.less
tree_takes s _ scope tokens new rest sp = absurd sp

-- only an `if` begins with the word
not_if : (r : Rule) (names : Names) (w : Word) (left : List Token) → IsTrue (belongs sort.Other r) → Says r names w left → is_key key.If w ≡ false
not_if rule.If names w left b h = absurd (cc)
not_if rule.External names w left b h = absurd (cc)
not_if rule.Declaration names w left b h = absurd (cc)
not_if rule.Expression names w left b h = (expression_rule w left h.0 h.2).1
not_if rule.Label names w left b h = (label_rule w left h.0 h.1).1
not_if _ names w left b h = rw h refl

other_start : (t : Tree C) (scope : Names) (tokens : List Token) (new : Names) (rest : List Token) → Spells C table t sort.Other scope tokens new rest → starts (is_key key.If) tokens ≡ false
other_start (Node r kids) scope tokens new rest sp = let b = begun r kids scope tokens new rest sp.1 in rw b.same (not_if r scope b.token.word b.left sp.0 b.says)
other_start _ scope tokens new rest sp = absurd sp

-- ---- declarations and statements of a block

typed_declared : (names : Names) (w : Word) → begins_type names w ≡ true → begins_declaration names w ≡ true
typed_declared names w h = rw h refl

-- how a declaration begins
record Declared (names : Names) (tokens : List Token) : Type 0 where
  pub starts : starts (begins_declaration names) tokens ≡ true
  pub label : on_label names tokens ≡ false

by_specifiers : (kids : Trees C) (scope : Names) (tokens : List Token) (new : Names) (rest : List Token) → SpellsAll C table kids (form rule.Declaration) scope tokens new rest → Declared scope tokens
by_specifiers (Next (Place span) (Next (Value (Specifiers all)) kids)) scope tokens new rest sp =
    let p = sp.1 in let h = p.2 in
    let fit : Fit (pieces_of_all all) tokens p.1 = record { is = h.0.words } in
    let s = specifiers_start scope Untyped all h.1 h.2 fit in
    record {
      starts = starts_also (begins_type scope) (begins_declaration scope) tokens (λ w e. typed_declared scope w e) s.0;
      label = specifiers_no_label scope Untyped all h.1 h.2 fit (at_declarators (Specifiers all) (Anything C) p.0 p.1 (kids, new, rest, p.3, tt {0}));
    }
by_specifiers (Next (Place span) (Next (Value _) kids)) scope tokens new rest sp = absurd sp.1.2
by_specifiers (Next (Place span) _) scope tokens new rest sp = absurd sp.1
by_specifiers _ scope tokens new rest sp = absurd sp

declared : (t : Tree C) (scope : Names) (tokens : List Token) (new : Names) (rest : List Token) → Spells C table t sort.Declaration scope tokens new rest → Declared scope tokens
declared (Node rule.Declaration kids) scope tokens new rest sp = by_specifiers kids scope tokens new rest sp.1
declared (Node rule.Assertion kids) scope tokens new rest sp =
    let b = begun rule.Assertion kids scope tokens new rest sp.1 in record { starts = rw (b.same, b.says) refl; label = rw (b.same, b.says) refl }
declared (Node _ kids) scope tokens new rest sp = let other = sp.0 in absurd (cc)
declared _ scope tokens new rest sp = absurd sp

-- a label and an attribute begin no declaration of a block
no_declaration : (a b : Bool) → a && not (true || b) ≡ false
no_declaration true b = refl
no_declaration false b = refl

no_attribute : (a b : Bool) → a && not (b || true) ≡ false
no_attribute true true = refl
no_attribute true false = refl
no_attribute false b = refl

labelled : (names : Names) (t : Token) (left : List Token) → is_name t.word ≡ true → starts (is_mark mark.Colon) left ≡ true → on_block_declaration names (t ∷ left) ≡ false
labelled names t left a b = rw (a, b) (no_declaration (begins_declaration names t.word) (on_attribute names (t ∷ left)))

undeclared_word : (names : Names) (tokens : List Token) → starts (begins_declaration names) tokens ≡ false → on_block_declaration names tokens ≡ false
undeclared_word names tokens e = rw e refl

attribute_there : (kids : Trees C) (scope : Names) (tokens : List Token) (new : Names) (rest : List Token) → SpellsAll C table kids (form rule.Attribute) scope tokens new rest → on_attribute scope tokens ≡ true
attribute_there (Next (Place span) (Next (Value (AnAttribute a)) kids)) scope tokens new rest sp =
    let p = sp.1 in let h = p.2 in
    let m = mark_front mark.Semicolon p.1 p.3.0 p.3.1 in
    rw (attribute_reach a tokens p.1 h.1 (record { is = h.0.words })) (m.starts_as (is_mark mark.Semicolon))
attribute_there (Next (Place span) (Next (Value _) kids)) scope tokens new rest sp = absurd sp.1.2
attribute_there (Next (Place span) _) scope tokens new rest sp = absurd sp.1
attribute_there _ scope tokens new rest sp = absurd sp

attributed : (names : Names) (tokens : List Token) → on_attribute names tokens ≡ true → on_block_declaration names tokens ≡ false
attributed names tokens e = rw e (no_attribute (on_declaration names tokens) (on_label names tokens))

undeclared : (t : Tree C) (scope : Names) (tokens : List Token) (new : Names) (rest : List Token) → Spells C table t sort.Statement scope tokens new rest → on_block_declaration scope tokens ≡ false
undeclared (Node rule.Label kids) scope tokens new rest sp =
    let b = begun rule.Label kids scope tokens new rest sp.1 in rw b.same (labelled scope b.token b.left b.says.0 b.says.1)
undeclared (Node rule.Attribute kids) scope tokens new rest sp = attributed scope tokens (attribute_there kids scope tokens new rest sp.1)
undeclared (Node rule.Expression kids) scope tokens new rest sp =
    let b = begun rule.Expression kids scope tokens new rest sp.1 in rw b.same (undeclared_word scope (b.token ∷ b.left) b.says.1)
undeclared (Node rule.Empty kids) scope tokens new rest sp = let other = sp.0 in absurd (cc)
undeclared (Node rule.Assertion kids) scope tokens new rest sp = let other = sp.0 in absurd (cc)
undeclared (Node rule.External kids) scope tokens new rest sp = let other = sp.0 in absurd (cc)
undeclared (Node rule.Declaration kids) scope tokens new rest sp = let other = sp.0 in absurd (cc)
undeclared (Node rule.Braces kids) scope tokens new rest sp = let other = sp.0 in absurd (cc)
undeclared (Node rule.Body kids) scope tokens new rest sp = let other = sp.0 in absurd (cc)
undeclared (Node r kids) scope tokens new rest sp = let b = begun r kids scope tokens new rest sp.1 in undeclared_word scope tokens (rw (b.same, b.says) refl)
undeclared _ scope tokens new rest sp = absurd sp

abbrev a_declaration : Form C
a_declaration = Unless on_attribute (Sub sort.Declaration Done)

item_declared : (scope : Names) (tokens : List Token) → Declared scope tokens → on_attribute scope tokens ≡ false → on_block_declaration scope tokens ≡ true
item_declared scope tokens d e = rw (d.starts, d.label, e) refl

at_declaration : (F : Follow C) (scope : Names) (tokens : List Token) → Behind C table a_declaration F scope tokens → on_block_declaration scope tokens ≡ true
at_declaration F scope tokens (Next t kids, new, rest, sp, fo) = item_declared scope tokens (declared t scope tokens sp.1.0 sp.1.1 sp.1.2) sp.0
at_declaration F scope tokens (Nil, new, rest, sp, fo) = absurd sp.1

item_good : (F : Follow C) → Good C table Ends block_item F
unfolding block_item
item_good F = (
  (λ sc ts h. at_declaration _ sc ts h),
  (λ sc ts h. sub_cases C table (λ s t. on_block_declaration s t ≡ false) (Behind C table Done F) sort.Statement Done undeclared sc ts h),
  tt {0},
  tt {0},
  tt {0},
)

item_closing : (F : Follow C) (scope : Names) (tokens : List Token) → Behind C table block_item F scope tokens → starts (is_mark mark.CloseBrace) tokens ≡ false
unfolding block_item
item_closing F scope tokens h =
    either_cases C table (No (is_mark mark.CloseBrace)) F on_block_declaration a_declaration (Sub sort.Statement Done) Done (λ sc ts k. declaration_closing _ sc ts k)
    (λ sc ts k. sub_cases C table (No (is_mark mark.CloseBrace)) (Behind C table Done F) sort.Statement Done (λ t s u n r sp. tree_closing t sort.Statement s u n r sp) sc ts k) scope tokens h
  where
    declaration_closing : (F : Follow C) (scope : Names) (tokens : List Token) → Behind C table a_declaration F scope tokens → starts (is_mark mark.CloseBrace) tokens ≡ false
    declaration_closing F scope tokens (Next t kids, new, rest, sp, fo) = tree_closing t sort.Declaration scope tokens sp.1.0 sp.1.1 sp.1.2
    declaration_closing F scope tokens (Nil, new, rest, sp, fo) = absurd sp.1

declaration_takes : Takes C table a_declaration
declaration_takes kids scope new tokens rest sp =
    let takes = sub_takes C table no_longer sort.Declaration Done (tree_takes sort.Declaration) in takes kids scope new tokens rest sp.1

item_takes : Takes C table block_item
unfolding block_item
item_takes = either_takes C table no_longer on_block_declaration a_declaration (Sub sort.Statement Done) Done declaration_takes
    (sub_takes C table no_longer sort.Statement Done (tree_takes sort.Statement))

closing_not : (F : Follow C) (scope : Names) (tokens : List Token) → Behind C table (Mark mark.CloseBrace Done) F scope tokens → until_mark mark.CloseBrace scope tokens ≡ false
closing_not F scope tokens h = ap not (at_mark C table mark.CloseBrace Done F (is_mark mark.CloseBrace) scope tokens h)

body_good : Good C table Ends (form rule.Body) (Anything C)
body_good = (
  (λ sc ts h. ap not (item_closing _ sc ts h)),
  (λ sc ts h. here_cases C table (λ s t. until_mark mark.CloseBrace s t ≡ false) (Anything C) (Mark mark.CloseBrace Done) (closing_not (Anything C)) sc ts h),
  item_takes,
  item_good _,
  tt {0},
)

block_good : Good C table Ends (form rule.Block) (Anything C)
block_good = (
  (λ scope. (
    (λ sc ts h. ap not (item_closing _ sc ts h)),
    (λ sc ts h. closing_not _ sc ts h),
    item_takes,
    item_good _,
    tt {0},
  )),
  tt {0},
)

-- ---- ladders

abbrev arm_behind : Form C
arm_behind = Here (Key key.If (parenthesised (branch Done)))

abbrev arm_inside : Form C
arm_inside = parenthesised (branch Done)

at_arm : (F : Follow C) (scope : Names) (tokens : List Token) → Behind C table arm F scope tokens → on_else_if scope tokens ≡ true
unfolding arm
at_arm F scope tokens (Next (Place s) more, new, rest, sp, fo) =
    let m = key_front key.Else tokens sp.0 sp.1 in let n = key_front key.If sp.0 sp.2.1.0 sp.2.1.1 in
    rw (m.starts_as (is_key key.Else), m.next, n.starts_as (is_key key.If)) refl
at_arm F scope tokens (_, new, rest, sp, fo) = absurd (sp.2)

abbrev last_branch : Form C
last_branch = Key key.Else (Scoped (Sub sort.Other Done) Done)

abbrev no_branch : Form C
no_branch = Unless (on_key key.Else) Done

abbrev NoArm : Follow C
NoArm scope tokens = on_else_if scope tokens ≡ false

at_last_branch : (F : Follow C) (scope : Names) (tokens : List Token) → Behind C table last_branch F scope tokens → NoArm scope tokens
at_last_branch F scope tokens (Next (Group true (Next t more)) kids, new, rest, sp, fo) =
    let m = key_front key.Else tokens sp.0 sp.1 in let i = sp.2.2 in
    rw (m.starts_as (is_key key.Else), m.next, other_start t scope sp.0 i.0 i.1 i.2) refl
at_last_branch F scope tokens (Next (Group true Nil) kids, new, rest, sp, fo) = absurd sp.2.2
at_last_branch F scope tokens (_, new, rest, sp, fo) = absurd sp.2

at_no_branch : (F : Follow C) (scope : Names) (tokens : List Token) → Behind C table no_branch F scope tokens → NoArm scope tokens
at_no_branch F scope tokens (kids, new, rest, sp, fo) = rw sp.0 refl

at_last : (F : Follow C) (scope : Names) (tokens : List Token) → Behind C table last F scope tokens → NoArm scope tokens
unfolding last
at_last F scope tokens h = either_cases C table NoArm F (on_key key.Else) last_branch no_branch Done (λ sc ts k. at_last_branch _ sc ts k) (λ sc ts k. at_no_branch _ sc ts k) scope tokens h

arm_takes : Takes C table arm
unfolding arm
arm_takes = leads_takes C table no_longer _ _ (key_leads C table no_longer key.Else arm_behind)

arm_good : (F : Follow C) → Good C table Ends arm F
unfolding arm
arm_good F = parenthesised_good (branch Done) F (branch_good Done F (tt {0}))

last_good : (F : Follow C) → Good C table Ends last F
unfolding last
last_good F = (
  (λ sc ts h. at_key C table key.Else (Scoped (Sub sort.Other Done) Done) _ (is_key key.Else) sc ts h),
  (λ sc ts h. h.3.0),
  ((λ scope. tt {0}), tt {0}),
  tt {0},
  tt {0},
)

abbrev ladder : Form C
ladder = Many on_else_if arm last

ladder_good : (F : Follow C) → Good C table Ends ladder F
ladder_good F = ((λ sc ts h. at_arm _ sc ts h), (λ sc ts h. at_last F sc ts h), arm_takes, arm_good _, last_good F)

if_good : Good C table Ends (form rule.If) (Anything C)
if_good = ((λ scope. parenthesised_good (branch ladder) _ (branch_good ladder _ (ladder_good _))), tt {0})

-- ---- loops

once_good : (F : Follow C) → Good C table Ends (parenthesised (branch Done)) F
once_good F = parenthesised_good (branch Done) F (branch_good Done F (tt {0}))

abbrev first_expression : Form C
first_expression = optional_before mark.Semicolon Done

no_first : (F : Follow C) (scope : Names) (tokens : List Token) → Behind C table first_expression F scope tokens → on_declaration scope tokens ≡ false
no_first F scope tokens h =
    either_cases C table (λ s t. on_declaration s t ≡ false) F (until_mark mark.Semicolon) (Given Expression (λ e. Done)) Done (Mark mark.Semicolon Done)
    (λ sc ts k. given_cases C table (λ s t. on_declaration s t ≡ false) (Behind C table (Mark mark.Semicolon Done) F) Expression (λ e. Done)
    (λ leaf s t n r there more. whole_undeclared leaf s t n r there) sc ts k)
    (λ sc ts k. at_mark C table mark.Semicolon Done F (begins_declaration sc) sc ts (at_end C table _ sc ts k)) scope tokens h

first_good : (F : Follow C) → Good C table Ends for_first F
unfolding for_first
first_good F = (
  (λ sc ts h. sub_cases C table (λ s t. on_declaration s t ≡ true) (Behind C table Done F) sort.Declaration Done (λ t s u n r sp. (declared t s u n r sp).starts) sc ts h),
  (λ sc ts h. no_first _ sc ts h),
  tt {0},
  optional_good mark.Semicolon Done _ semicolon_closes (tt {0}),
  tt {0},
)

abbrev third : Form C
third = optional_before mark.CloseParenthesis (branch Done)

abbrev second : Form C
second = optional_before mark.Semicolon third

for_good : Good C table Ends (form rule.For) (Anything C)
for_good = (
  (λ scope. (
    first_good _,
    optional_good mark.Semicolon third _ semicolon_closes (optional_good mark.CloseParenthesis (branch Done) _ parenthesis_closes (branch_good Done (Anything C) (tt {0}))),
  )),
  tt {0},
)

abbrev do_end : Form C
do_end = Here (Key key.While (parenthesised (Mark mark.Semicolon Done)))

do_good : Good C table Ends (form rule.Do) (Anything C)
do_good = ((λ scope. branch_good do_end _ (parenthesised_good (Mark mark.Semicolon Done) _ (tt {0}))), tt {0})

abbrev case_behind : Form C
case_behind = Sub sort.Statement Done

-- ---- all rules

pub good : AllGood C table Ends
good rule.Empty = tt
good rule.Assertion = assertion_good
good rule.External = external_good
good rule.Declaration = declaration_good
good rule.Braces = braces_good
good rule.Body = body_good
good rule.Block = block_good
good rule.Expression = optional_good mark.Semicolon Done _ semicolon_closes (tt {0})
good rule.Attribute = λ a. ((λ sc ts h. tt {0}), tt {0})
good rule.If = if_good
good rule.Switch = ((λ scope. once_good _), tt {0})
good rule.While = ((λ scope. once_good _), tt {0})
good rule.Do = do_good
good rule.For = for_good
good rule.Goto = tt
good rule.Continue = tt
good rule.Break = tt
good rule.Return = optional_good mark.Semicolon Done _ semicolon_closes (tt {0})
good rule.Label = tt
good rule.Case = λ e. ((λ sc ts h. mark_ends 2 mark.Colon case_behind (Anything C) refl sc ts h), tt {0})
good rule.Default = tt
