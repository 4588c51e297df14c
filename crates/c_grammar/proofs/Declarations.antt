-- The choices of declarations are told by the tokens.
use Rattle.std.proofs.Common.{◌≡◌, Bool, true, false, not, ◌||◌, List, [], ◌∷◌, refl, ◌∙◌, ap}
use Rattle.c_base.specs.declared.token.Keyword.TheVariants as key
use Rattle.c_base.specs.declared.token.Punctuator.{Punctuator}
use Rattle.c_base.specs.declared.token.Punctuator.TheVariants as mark
use Rattle.c_base.specs.declared.token.Token.{Token}
use Rattle.c_base.specs.declared.token.Word.{Word}
use Rattle.c_base.specs.declared.token.Word.TheVariants as word
use Rattle.c_tree.specs.Spelling.{pieces_of_attributes}
use Rattle.c_tree.specs.Trees.{Trees as Plain}
use Rattle.c_tree.specs.WellFormed.{ForName, Names, Untyped, before_end}
use Rattle.c_parse_rules.specs.Declaring.{begins_suffix, goes_on_specifiers, starts}
use Rattle.c_parse_rules.specs.Tokens.{is_key, is_mark}
use Rattle.c_parse_rules.proofs.types.Begins.{begins_declarator}
use Rattle.c_parse_rules.proofs.types.FieldsReach.{declarator_ends}
use Rattle.c_parse_rules.proofs.types.Parts.{mark_says}
use Rattle.c_parse_rules.proofs.types.Words.{Fit, starts_also, starts_not, starts_with}
use Rattle.grammar.specs.Forms.{Form, Done, Mark, Given, Sub, Scoped, Either, Listed, Declare}
use Rattle.grammar.proofs.Leading.{at_end, at_key, at_mark, each_cases, either_cases, given_cases, leads_takes, listed_cases, mark_leads, scoped_cases, sub_cases}
use Rattle.grammar.proofs.Telling.{Anything, Behind, BehindEach, BehindScope, Follow, Good, Takes}
use Rattle.c_grammar.specs.declared.rule.Rule.TheVariants as rule
use Rattle.c_grammar.specs.declared.rule.Sort.TheVariants as sort
use Rattle.c_grammar.specs.Leaves.{C, Ends, IsFront, SpecifierList, NamedDeclarator, StringLiterals, AttributeList, Leaf, Specifiers, ADeclarator, Attributes, is_literal}
use Rattle.c_grammar.specs.Table.{assembly, message, with_attributes, with_initialiser, declarator_rest, declaring, external_declarator, form, init_declarator, initialiser, on_key, on_mark, table, until_mark, with_formals}
use Rattle.c_grammar.proofs.Beginnings.{at_external_declarator, at_listed_declarators, declarators_end, listed_declarators}
use Rattle.c_grammar.proofs.Given.{no_longer}
use Rattle.c_grammar.proofs.Choices.{No, Yes, EndsAs, body_start, ends_initialiser, initialiser_good, mark_ends}

-- ---- declarators with their initialisers

-- what stands behind them; and what may stand before it: an initialiser, attributes, an assembly label
abbrev ends_declarator : Word → Bool
ends_declarator (word.Punctuator mark.Comma) = true
ends_declarator (word.Punctuator mark.Semicolon) = true
ends_declarator _ = false

abbrev goes_assign : Word → Bool
goes_assign w = is_mark mark.Assign w || ends_declarator w

abbrev goes_attribute : Word → Bool
goes_attribute w = is_key key.Attribute w || goes_assign w

abbrev goes_assembly : Word → Bool
goes_assembly w = is_key key.Asm w || goes_attribute w

later : (a b : Bool) → b ≡ true → a || b ≡ true
later true b h = refl
later false b h = h

abbrev in_parentheses : Form C
in_parentheses = Mark mark.OpenParenthesis (Given StringLiterals (λ s. Mark mark.CloseParenthesis Done))

module _ (F : Follow C) (ends : EndsAs ends_declarator F) where
  at_assign : EndsAs goes_assign (Behind C table with_initialiser F)
  unfolding with_initialiser
  at_assign scope tokens h =
      either_cases C table (Yes goes_assign) F (on_mark mark.Assign) (Mark mark.Assign initialiser) Done Done (λ sc ts k. at_mark C table mark.Assign initialiser _ goes_assign sc ts k)
      (λ sc ts k. starts_also ends_declarator goes_assign ts (λ w e. later (is_mark mark.Assign w) (ends_declarator w) e) (ends sc ts (at_end C table F sc ts (at_end C table _ sc ts k)))) scope tokens h

  attributes_or : (leaf : Leaf) (scope : Names) (tokens : List Token) (new : Names) (rest : List Token) → IsFront AttributeList leaf scope tokens new rest →
      Behind C table with_initialiser F new rest → starts goes_attribute tokens ≡ true
  attributes_or (Attributes []) scope tokens new rest h more =
      rw h.0.words (starts_also goes_assign goes_attribute rest (λ w e. later (is_key key.Attribute w) (goes_assign w) e) (at_assign new rest more))
  attributes_or (Attributes (a ∷ all)) scope tokens new rest h more =
      let fit : Fit (pieces_of_attributes (a ∷ all)) tokens rest = record { is = h.0.words } in
      starts_also (is_key key.Attribute) goes_attribute tokens (λ w e. sooner (is_key key.Attribute w) (goes_assign w) e) (starts_with (is_key key.Attribute) refl fit)
    where
      sooner : (a b : Bool) → a ≡ true → a || b ≡ true
      sooner a b e = rw e refl
  attributes_or _ scope tokens new rest h more = absurd h

  at_attributes : EndsAs goes_attribute (Behind C table with_attributes F)
  unfolding with_attributes
  at_attributes scope tokens h = given_cases C table (Yes goes_attribute) F AttributeList (λ a. with_initialiser) attributes_or scope tokens h

  at_rest : EndsAs goes_assembly (Behind C table declarator_rest F)
  unfolding declarator_rest assembly
  at_rest scope tokens h =
      either_cases C table (Yes goes_assembly) F (on_key key.Asm) assembly Done with_attributes (λ sc ts k. at_key C table key.Asm in_parentheses _ goes_assembly sc ts k)
      (λ sc ts k. starts_also goes_attribute goes_assembly ts (λ w e. later (is_key key.Asm w) (goes_attribute w) e) (at_attributes sc ts (at_end C table _ sc ts k))) scope tokens h

is_literal_mark : (F : Follow C) (f : Form C) (p : Punctuator) (scope : Names) (tokens : List Token) → Behind C table (Mark p f) F scope tokens → starts is_literal tokens ≡ false
is_literal_mark F f p scope tokens h = at_mark C table p f F is_literal scope tokens h

declarator_initialiser : (w : Word) → ends_declarator w ≡ true → ends_initialiser w ≡ true
declarator_initialiser (word.Punctuator mark.Comma) h = refl
declarator_initialiser (word.Punctuator mark.Semicolon) h = refl
declarator_initialiser (word.Punctuator _) h = absurd (cc)
declarator_initialiser _ h = absurd (cc)

declarator_assign : (w : Word) → ends_declarator w ≡ true → is_mark mark.Assign w ≡ false
declarator_assign (word.Punctuator mark.Assign) h = absurd (cc)
declarator_assign (word.Punctuator _) h = refl
declarator_assign _ h = refl

assign_attribute : (w : Word) → goes_assign w ≡ true → is_key key.Attribute w ≡ false
assign_attribute (word.Keyword k) h = absurd (cc)
assign_attribute _ h = refl

attribute_assembly : (w : Word) → goes_attribute w ≡ true → is_key key.Asm w ≡ false
attribute_assembly (word.Keyword key.Asm) h = absurd (cc)
attribute_assembly (word.Keyword _) h = refl
attribute_assembly _ h = refl

assembly_suffix : (w : Word) → goes_assembly w ≡ true → begins_suffix w ≡ false
assembly_suffix (word.Punctuator mark.OpenBracket) h = absurd (cc)
assembly_suffix (word.Punctuator mark.OpenParenthesis) h = absurd (cc)
assembly_suffix (word.Punctuator _) h = refl
assembly_suffix _ h = refl

module _ (F : Follow C) (ends : EndsAs ends_declarator F) where
  with_initialiser_good : Good C table Ends with_initialiser F
  unfolding with_initialiser
  with_initialiser_good = (
    (λ sc ts h. at_mark C table mark.Assign initialiser _ (is_mark mark.Assign) sc ts h),
    (λ sc ts h. starts_not ends_declarator (is_mark mark.Assign) ts declarator_assign (ends sc ts (at_end C table F sc ts (at_end C table _ sc ts h)))),
    initialiser_good _ (λ sc ts h. starts_also ends_declarator ends_initialiser ts declarator_initialiser (ends sc ts (at_end C table F sc ts h))),
    tt {0},
    tt {0},
  )

  pub rest_good : Good C table Ends declarator_rest F
  unfolding declarator_rest assembly with_attributes
  rest_good = (
    (λ sc ts h. at_key C table key.Asm in_parentheses _ (is_key key.Asm) sc ts h),
    (λ sc ts h. starts_not goes_attribute (is_key key.Asm) ts attribute_assembly (at_attributes F ends sc ts (at_end C table _ sc ts h))),
    (λ leaf. ((λ sc ts h. is_literal_mark _ Done mark.CloseParenthesis sc ts h), tt {0})),
    tt {0},
    (λ leaf. ((λ sc ts h. starts_not goes_assign (is_key key.Attribute) ts assign_attribute (at_assign F ends sc ts h)), with_initialiser_good)),
  )

  pub init_good : (s : Leaf) → Good C table Ends (init_declarator s) F
  unfolding init_declarator
  init_good s = λ d. ((λ sc ts h. starts_not goes_assembly begins_suffix ts assembly_suffix (at_rest F ends (declaring s d sc) ts h)), rest_good)

init_takes : (s : Leaf) → Takes C table (Mark mark.Comma (init_declarator s))
init_takes s = leads_takes C table no_longer _ _ (mark_leads C table no_longer mark.Comma (init_declarator s))

abbrev next_declarator : Leaf → Form C
next_declarator s = Mark mark.Comma (init_declarator s)

-- further declarators, and what ends them
more_end : (s : Leaf) (F : Follow C) → EndsAs ends_declarator F → EndsAs ends_declarator (BehindEach C table (next_declarator s) F)
more_end s F ends scope tokens h =
    each_cases C table (Yes ends_declarator) F (next_declarator s) (λ sc ts k. at_mark C table mark.Comma (init_declarator s) _ ends_declarator sc ts k) ends scope tokens h

semicolon_end : (F : Follow C) → EndsAs ends_declarator (Behind C table (Mark mark.Semicolon Done) F)
semicolon_end F scope tokens h = at_mark C table mark.Semicolon Done F ends_declarator scope tokens h

-- a declarator does not go on with the specifiers before it
declarator_not : (all : Plain) (leaf : Leaf) (scope : Names) (tokens : List Token) (new : Names) (rest : List Token) →
    IsFront (NamedDeclarator (before_end Untyped all)) leaf scope tokens new rest → starts (goes_on_specifiers scope (before_end Untyped all)) tokens ≡ false
declarator_not all (ADeclarator t) scope tokens new rest h = declarator_ends ForName scope (before_end Untyped all) t {rest = rest} h.1 (record { is = h.0.words })
declarator_not all _ scope tokens new rest h = absurd h

abbrev NotSpecifying : Plain → Follow C
NotSpecifying all scope tokens = starts (goes_on_specifiers scope (before_end Untyped all)) tokens ≡ false

semicolon_not : (all : Plain) (F : Follow C) (scope : Names) (tokens : List Token) → Behind C table (Mark mark.Semicolon Done) F scope tokens → NotSpecifying all scope tokens
semicolon_not all F scope tokens h = at_mark C table mark.Semicolon Done F (goes_on_specifiers scope (before_end Untyped all)) scope tokens h

init_not : (all : Plain) (F : Follow C) (scope : Names) (tokens : List Token) → Behind C table (init_declarator (Specifiers all)) F scope tokens → NotSpecifying all scope tokens
unfolding init_declarator
init_not all F scope tokens h =
    given_cases C table (NotSpecifying all) F (NamedDeclarator (before_end Untyped all)) _ (λ leaf sc ts n r there more. declarator_not all leaf sc ts n r there) scope tokens h

external_not : (all : Plain) (F : Follow C) (scope : Names) (tokens : List Token) → Behind C table (external_declarator (Specifiers all)) F scope tokens → NotSpecifying all scope tokens
unfolding external_declarator
external_not all F scope tokens h =
    given_cases C table (NotSpecifying all) F (NamedDeclarator (before_end Untyped all)) _ (λ leaf sc ts n r there more. declarator_not all leaf sc ts n r there) scope tokens h

declarator_semicolon : (w : Word) → begins_declarator w ≡ true → is_mark mark.Semicolon w ≡ false
declarator_semicolon (word.Punctuator mark.Semicolon) h = absurd (cc)
declarator_semicolon (word.Punctuator _) h = refl
declarator_semicolon _ h = refl

-- ---- declarations

listed_not : (all : Plain) (F : Follow C) (scope : Names) (tokens : List Token) → Behind C table (listed_declarators (Specifiers all)) F scope tokens → NotSpecifying all scope tokens
listed_not all F scope tokens h =
    listed_cases C table (NotSpecifying all) F (on_mark mark.Comma) (init_declarator (Specifiers all)) (next_declarator (Specifiers all)) Done (λ sc ts k. init_not all _ sc ts k) scope tokens h

behind_not : (s : Leaf) (F : Follow C) (scope : Names) (tokens : List Token) → Behind C table (declarators_end s) F scope tokens → Ends SpecifierList s scope tokens
behind_not (Specifiers all) F scope tokens h =
    either_cases C table (NotSpecifying all) F (until_mark mark.Semicolon) (listed_declarators (Specifiers all)) Done (Mark mark.Semicolon Done) (λ sc ts k. listed_not all _ sc ts k)
    (λ sc ts k. semicolon_not all F sc ts (at_end C table _ sc ts k)) scope tokens h
behind_not _ F scope tokens h = tt

-- what ends the declarators of a declaration
list_end : (F : Follow C) → EndsAs ends_declarator (Behind C table Done (Behind C table (Mark mark.Semicolon Done) F))
list_end F scope tokens h = semicolon_end F scope tokens (at_end C table _ scope tokens h)

pub declaration_good : Good C table Ends (form rule.Declaration) (Anything C)
declaration_good = λ s. (
  (λ sc ts h. behind_not s (Anything C) sc ts h),
  (
    (λ sc ts h. ap not (at_listed_declarators (is_mark mark.Semicolon) declarator_semicolon s _ sc ts h)),
    (λ sc ts h. ap not (at_mark C table mark.Semicolon Done (Anything C) (is_mark mark.Semicolon) sc ts (at_end C table _ sc ts h))),
    (
      (λ sc ts h. at_mark C table mark.Comma (init_declarator s) _ (is_mark mark.Comma) sc ts h),
      (λ sc ts h. at_mark C table mark.Semicolon Done (Anything C) (is_mark mark.Comma) sc ts (at_end C table _ sc ts h)),
      init_takes s,
      init_good _ (more_end s _ (list_end (Anything C))) s,
      init_good _ (more_end s _ (list_end (Anything C))) s,
      tt {0},
    ),
    tt {0},
    tt {0},
  ),
)

-- ---- external declarations

abbrev definition : Leaf → Form C
definition d = Scoped (Declare (with_formals d) (Sub sort.Body Done)) Done

abbrev external_list : Leaf → Form C
external_list s = Listed (on_mark mark.Comma) declarator_rest (next_declarator s) (Mark mark.Semicolon Done)

at_definition : (is : Word → Bool) → is (word.Punctuator mark.OpenBrace) ≡ false → (d : Leaf) (F : Follow C) (scope : Names) (tokens : List Token) → Behind C table (definition d) F scope tokens →
    starts is tokens ≡ false
at_definition is e d F scope tokens h =
    scoped_cases C table (No is) F (Declare (with_formals d) (Sub sort.Body Done)) Done
    (λ sc ts k. sub_cases C table (No is) (BehindScope C table Done F sc) sort.Body Done (λ t s u n r sp. starts_not (is_mark mark.OpenBrace) is u (brace_not is e) (body_start t s u n r sp)) (with_formals d sc) ts k)
    scope tokens h
  where
    brace_not : (is : Word → Bool) → is (word.Punctuator mark.OpenBrace) ≡ false → (w : Word) → is_mark mark.OpenBrace w ≡ true → is w ≡ false
    brace_not is e w h = ap is (mark_says mark.OpenBrace w h) ∙ e

definition_start : (d : Leaf) (F : Follow C) → EndsAs (is_mark mark.OpenBrace) (Behind C table (definition d) F)
definition_start d F scope tokens h =
    scoped_cases C table (Yes (is_mark mark.OpenBrace)) F (Declare (with_formals d) (Sub sort.Body Done)) Done
    (λ sc ts k. sub_cases C table (Yes (is_mark mark.OpenBrace)) (BehindScope C table Done F sc) sort.Body Done body_start (with_formals d sc) ts k) scope tokens h

external_more : (s : Leaf) (F : Follow C) → EndsAs ends_declarator (BehindEach C table (next_declarator s) (Behind C table (Mark mark.Semicolon Done) F))
external_more s F = more_end s _ (semicolon_end F)

at_external_list : (s : Leaf) (F : Follow C) → EndsAs goes_assembly (Behind C table (external_list s) F)
at_external_list s F scope tokens h =
    listed_cases C table (Yes goes_assembly) F (on_mark mark.Comma) declarator_rest (next_declarator s) (Mark mark.Semicolon Done) (λ sc ts k. at_rest _ (external_more s F) sc ts k) scope tokens h

assembly_brace : (w : Word) → goes_assembly w ≡ true → is_mark mark.OpenBrace w ≡ false
assembly_brace (word.Punctuator mark.OpenBrace) h = absurd (cc)
assembly_brace (word.Punctuator _) h = refl
assembly_brace _ h = refl

abbrev external_rest : Leaf → Leaf → Form C
external_rest s d = Either (on_mark mark.OpenBrace) (definition d) (external_list s) Done

at_external_rest : (s d : Leaf) (F : Follow C) (scope : Names) (tokens : List Token) → Behind C table (external_rest s d) F scope tokens → starts begins_suffix tokens ≡ false
at_external_rest s d F scope tokens h =
    either_cases C table (No begins_suffix) F (on_mark mark.OpenBrace) (definition d) (external_list s) Done (λ sc ts k. at_definition begins_suffix refl d _ sc ts k)
    (λ sc ts k. starts_not goes_assembly begins_suffix ts assembly_suffix (at_external_list s _ sc ts k)) scope tokens h

external_declarator_good : (s : Leaf) (F : Follow C) → Good C table Ends (external_declarator s) F
unfolding external_declarator
external_declarator_good s F = λ d. (
  (λ sc ts h. at_external_rest s d F (declaring s d sc) ts h),
  (
    (λ sc ts h. definition_start d _ sc ts h),
    (λ sc ts h. starts_not goes_assembly (is_mark mark.OpenBrace) ts assembly_brace (at_external_list s _ sc ts h)),
    ((λ scope. tt {0}), tt {0}),
    (
      (λ sc ts h. at_mark C table mark.Comma (init_declarator s) _ (is_mark mark.Comma) sc ts h),
      (λ sc ts h. at_mark C table mark.Semicolon Done _ (is_mark mark.Comma) sc ts h),
      init_takes s,
      rest_good _ (external_more s _),
      init_good _ (external_more s _) s,
      tt {0},
    ),
    tt {0},
  ),
)

abbrev external_end : Leaf → Form C
external_end s = Either (until_mark mark.Semicolon) (external_declarator s) (Mark mark.Semicolon Done) Done

external_behind : (s : Leaf) (F : Follow C) (scope : Names) (tokens : List Token) → Behind C table (external_end s) F scope tokens → Ends SpecifierList s scope tokens
external_behind (Specifiers all) F scope tokens h =
    either_cases C table (NotSpecifying all) F (until_mark mark.Semicolon) (external_declarator (Specifiers all)) (Mark mark.Semicolon Done) Done (λ sc ts k. external_not all _ sc ts k)
    (λ sc ts k. semicolon_not all _ sc ts k) scope tokens h
external_behind _ F scope tokens h = tt

pub external_good : Good C table Ends (form rule.External) (Anything C)
external_good = λ s. (
  (λ sc ts h. external_behind s (Anything C) sc ts h),
  (
    (λ sc ts h. ap not (at_external_declarator (is_mark mark.Semicolon) declarator_semicolon s _ sc ts h)),
    (λ sc ts h. ap not (at_mark C table mark.Semicolon Done _ (is_mark mark.Semicolon) sc ts h)),
    external_declarator_good s _,
    tt {0},
    tt {0},
  ),
)

abbrev in_message : Form C
in_message = Given StringLiterals (λ s. Mark mark.CloseParenthesis (Mark mark.Semicolon Done))

pub assertion_good : Good C table Ends (form rule.Assertion) (Anything C)
unfolding message
assertion_good = λ e. (
  (λ sc ts h. mark_ends 2 mark.Comma in_message (Anything C) refl sc ts h),
  (λ s. ((λ sc ts h. is_literal_mark (Anything C) (Mark mark.Semicolon Done) mark.CloseParenthesis sc ts h), tt {0})),
)
