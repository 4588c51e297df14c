-- With which word each rule begins, and that it is picked by it.
use Rattle.std.proofs.Common.{◌≡◌, ◌<◌, ◌≤◌, Bool, true, false, cond, ◌&&◌, ◌||◌, IsTrue, List, [], ◌∷◌, length, None, Some, refl, ◌∙◌, ap, arith}
use Rattle.std.proofs.lemmas.Option.{none-some, same_Some}
use Rattle.c_base.specs.declared.token.Keyword.{Keyword}
use Rattle.c_base.specs.declared.token.Keyword.TheVariants as key
use Rattle.c_base.specs.declared.token.Punctuator.TheVariants as mark
use Rattle.c_base.specs.declared.token.Token.{Token}
use Rattle.c_base.specs.declared.token.Word.{Word}
use Rattle.c_base.specs.declared.token.Word.TheVariants as word
use Rattle.c_tree.specs.Spelling.{pieces, pieces_of_all, pieces_of_attribute}
use Rattle.c_tree.specs.WellFormed.{ForName, Names, Untyped}
use Rattle.c_parse_rules.specs.Declaring.{starts}
use Rattle.c_parse_rules.specs.Tokens.{begins_type, is_key, is_mark}
use Rattle.c_parse_rules.proofs.Laws.{begins_expr}
use Rattle.c_parse_rules.proofs.types.Begins.{begins_declarator, declarator_words}
use Rattle.c_parse_rules.proofs.types.Parts.{key_says}
use Rattle.c_parse_rules.proofs.types.Words.{Fit, shorter, starts_with}
use Rattle.grammar.specs.Forms.{Place, Name, Value, Group, Trees, Nil, Next, Form, Done, Here, Mark, AName, Either, Given, Listed, Sub}
use Rattle.grammar.specs.Spelling.{SpellsAll}
use Rattle.grammar.proofs.Heads.{mark_front, name_front}
use Rattle.grammar.proofs.Leading.{Led, at_end, at_mark, either_cases, given_cases, here_leads, key_leads, listed_cases, mark_leads, scoped_leads}
use Rattle.grammar.proofs.Lengths.{kids_left}
use Rattle.grammar.proofs.Sound.{PicksRight}
use Rattle.grammar.proofs.Telling.{Behind, Follow, PicksAll}
use Rattle.c_grammar.specs.declared.rule.Rule.{Rule}
use Rattle.c_grammar.specs.declared.rule.Rule.TheVariants as rule
use Rattle.c_grammar.specs.declared.rule.Sort.{Sort}
use Rattle.c_grammar.specs.declared.rule.Sort.TheVariants as sort
use Rattle.c_grammar.specs.Leaves.{C, IsFront, Leaf, AnExpr, Specifiers, ADeclarator, AnAttribute, NamedDeclarator, SpecifierList, Expression, OneAttribute}
use Rattle.c_grammar.specs.Picking.{declaration_rule, external_rule, pick, readers, statement_rule}
use Rattle.c_grammar.specs.Table.{before_of, begins_declaration, belongs, external_declarator, form, init_declarator, is_name, on_label, on_mark, optional_before, table, until_mark}
use Rattle.c_grammar.proofs.Given.{no_longer}
use Rattle.c_grammar.proofs.Words.{expr_no_label, expr_start, specifiers_start}

-- ---- declarators

-- what is so of each word that a declarator may begin with is so of its first
pub at_declarator : (is : Word → Bool) (b : Bool) → ((w : Word) → begins_declarator w ≡ true → is w ≡ b) → (s leaf : Leaf) (scope : Names) (tokens : List Token) (new : Names) (rest : List Token) →
    IsFront (NamedDeclarator (before_of s)) leaf scope tokens new rest → starts is tokens ≡ b
at_declarator is b f s (ADeclarator t) scope tokens new rest h =
    let fit : Fit (pieces t) tokens rest = record { is = h.0.words } in so is b f tokens (starts_with begins_declarator (declarator_words ForName scope (before_of s) t h.1) fit)
  where
    so : (is : Word → Bool) (b : Bool) → ((w : Word) → begins_declarator w ≡ true → is w ≡ b) → (tokens : List Token) → starts begins_declarator tokens ≡ true → starts is tokens ≡ b
    so is b f [] h = absurd (cc)
    so is b f (t ∷ tokens) h = f t.word h
at_declarator is b f s _ scope tokens new rest h = absurd h

abbrev No : (Word → Bool) → Follow C
No is scope tokens = starts is tokens ≡ false

pub at_init_declarator : (is : Word → Bool) → ((w : Word) → begins_declarator w ≡ true → is w ≡ false) → (s : Leaf) (F : Follow C) (scope : Names) (tokens : List Token) →
    Behind C table (init_declarator s) F scope tokens → starts is tokens ≡ false
unfolding init_declarator
at_init_declarator is f s F scope tokens h = given_cases C table (No is) F (NamedDeclarator (before_of s)) _ (λ leaf sc ts n r there more. at_declarator is false f s leaf sc ts n r there) scope tokens h

pub at_external_declarator : (is : Word → Bool) → ((w : Word) → begins_declarator w ≡ true → is w ≡ false) → (s : Leaf) (F : Follow C) (scope : Names) (tokens : List Token) →
    Behind C table (external_declarator s) F scope tokens → starts is tokens ≡ false
unfolding external_declarator
at_external_declarator is f s F scope tokens h = given_cases C table (No is) F (NamedDeclarator (before_of s)) _ (λ leaf sc ts n r there more. at_declarator is false f s leaf sc ts n r there) scope tokens h

-- the declarators of a declaration
abbrev pub listed_declarators : Leaf → Form C
listed_declarators s = Listed (on_mark mark.Comma) (init_declarator s) (Mark mark.Comma (init_declarator s)) Done

abbrev pub declarators_end : Leaf → Form C
declarators_end s = Either (until_mark mark.Semicolon) (listed_declarators s) Done (Mark mark.Semicolon Done)

pub at_listed_declarators : (is : Word → Bool) → ((w : Word) → begins_declarator w ≡ true → is w ≡ false) → (s : Leaf) (F : Follow C) (scope : Names) (tokens : List Token) →
    Behind C table (listed_declarators s) F scope tokens → starts is tokens ≡ false
at_listed_declarators is f s F scope tokens h =
    listed_cases C table (No is) F (on_mark mark.Comma) (init_declarator s) (Mark mark.Comma (init_declarator s)) Done (λ sc ts k. at_init_declarator is f s _ sc ts k) scope tokens h

declarator_colon : (w : Word) → begins_declarator w ≡ true → is_mark mark.Colon w ≡ false
declarator_colon (word.Punctuator mark.Colon) h = absurd (cc)
declarator_colon (word.Punctuator p) h = refl
declarator_colon _ h = refl

pub at_declarators : (s : Leaf) (F : Follow C) (scope : Names) (tokens : List Token) → Behind C table (declarators_end s) F scope tokens → starts (is_mark mark.Colon) tokens ≡ false
at_declarators s F scope tokens h =
    either_cases C table (No (is_mark mark.Colon)) F (until_mark mark.Semicolon) (listed_declarators s) Done (Mark mark.Semicolon Done)
    (λ sc ts k. at_listed_declarators (is_mark mark.Colon) declarator_colon s _ sc ts k)
    (λ sc ts k. at_mark C table mark.Semicolon Done F (is_mark mark.Colon) sc ts (at_end C table _ sc ts k)) scope tokens h

-- ---- the first word of a rule

-- the word of a rule that begins with a keyword
abbrev keyword_of : Rule → Keyword
keyword_of rule.Assertion = key.StaticAssert
keyword_of rule.Attribute = key.Attribute
keyword_of rule.If = key.If
keyword_of rule.Switch = key.Switch
keyword_of rule.While = key.While
keyword_of rule.Do = key.Do
keyword_of rule.For = key.For
keyword_of rule.Goto = key.Goto
keyword_of rule.Continue = key.Continue
keyword_of rule.Break = key.Break
keyword_of rule.Return = key.Return
keyword_of rule.Case = key.Case
keyword_of _ = key.Default

abbrev pub begins_statement : Word → Bool
begins_statement w = begins_expr w || is_mark mark.Semicolon w

-- what the first word of a rule says, and what is behind it
abbrev pub Says : Rule → Names → Word → List Token → Type 0
Says rule.Empty names w left = w ≡ word.Punctuator mark.Semicolon
Says rule.External names w left = begins_type names w ≡ true
Says rule.Declaration names w left = begins_type names w ≡ true
Says rule.Braces names w left = w ≡ word.Punctuator mark.OpenBrace
Says rule.Body names w left = w ≡ word.Punctuator mark.OpenBrace
Says rule.Block names w left = w ≡ word.Punctuator mark.OpenBrace
Says rule.Expression names w left = (begins_statement w ≡ true) × (begins_declaration names w ≡ false) × (is_name w && starts (is_mark mark.Colon) left ≡ false)
Says rule.Label names w left = (is_name w ≡ true) × (starts (is_mark mark.Colon) left ≡ true)
Says r names w left = w ≡ word.Keyword (keyword_of r)

pub record Begun (r : Rule) (names : Names) (tokens rest : List Token) : Type 0 where
  pub token : Token
  pub left : List Token
  pub same : tokens ≡ token ∷ left
  pub says : Says r names token.word left
  pub less : length rest < length tokens

by_word : (r : Rule) (w : Word) (names : Names) (tokens rest : List Token) → ((v : Word) (left : List Token) → v ≡ w → Says r names v left) → Led C table no_longer w tokens rest → Begun r names tokens rest
by_word r w names tokens rest f h = record { token = h.token; left = h.left; same = h.same; says = f h.token.word h.left h.word; less = h.less }

-- the first token is of a type
record Typed (names : Names) (tokens : List Token) : Type 0 where
  pub token : Token
  pub left : List Token
  pub same : tokens ≡ token ∷ left
  pub typed : begins_type names token.word ≡ true

typed_at : (names : Names) (tokens : List Token) → starts (begins_type names) tokens ≡ true → Typed names tokens
typed_at names [] h = absurd (cc)
typed_at names (t ∷ tokens) h = record { token = t; left = tokens; same = refl; typed = h }

by_type : (r : Rule) (names : Names) (tokens rest : List Token) → ((w : Word) (left : List Token) → begins_type names w ≡ true → Says r names w left) → starts (begins_type names) tokens ≡ true →
    length rest < length tokens → Begun r names tokens rest
by_type r names tokens rest f h less = let t = typed_at names tokens h in record { token = t.token; left = t.left; same = t.same; says = f t.token.word t.left t.typed; less = less }

by_specifiers : (r : Rule) (f : Leaf → Form C) → ((names : Names) (w : Word) (left : List Token) → begins_type names w ≡ true → Says r names w left) →
    (kids : Trees C) (names : Names) (tokens : List Token) (new : Names) (rest : List Token) → SpellsAll C table kids (Given SpecifierList f) names tokens new rest → Begun r names tokens rest
by_specifiers r f k (Next (Value (Specifiers all)) kids) names tokens new rest sp =
    let h = sp.2 in
    let fit : Fit (pieces_of_all all) tokens sp.1 = record { is = h.0.words } in
    let s = specifiers_start names Untyped all h.1 h.2 fit in
    let l = s.1 in let m = kids_left C table no_longer kids (f (Specifiers all)) sp.0 sp.1 new rest sp.3 in
    by_type r names tokens rest (k names) s.0 (omega arith)
by_specifiers r f k (Next (Value _) kids) names tokens new rest sp = absurd sp.2
by_specifiers r f k _ names tokens new rest sp = absurd sp

begun_here : (r : Rule) (f : Form C) → ((kids : Trees C) (names : Names) (tokens : List Token) (new : Names) (rest : List Token) → SpellsAll C table kids f names tokens new rest →
    Begun r names tokens rest) → (kids : Trees C) (names : Names) (tokens : List Token) (new : Names) (rest : List Token) → SpellsAll C table kids (Here f) names tokens new rest →
    Begun r names tokens rest
begun_here r f k (Next (Place span) kids) names tokens new rest sp = k kids names tokens new rest sp.1
begun_here r f k _ names tokens new rest sp = absurd sp

-- an expression statement begins with an expression, or is a `;` alone
an_expression : (names : Names) (kids : Trees C) (tokens mid : List Token) (new : Names) (rest : List Token) (leaf : Leaf) (between : Names) → IsFront Expression leaf names tokens between mid →
    starts (is_mark mark.Colon) mid ≡ false → length rest ≤ length mid → Begun rule.Expression names tokens rest
an_expression names kids tokens mid new rest (AnExpr t) between h end l =
    let fit : Fit (pieces t) tokens mid = record { is = h.0.words } in
    let b = expr_start names t h.1 fit in
    let m = b.less in
    let label : on_label names tokens ≡ false = expr_no_label names t h.1 fit end in
    record { token = b.token; left = b.left; same = b.same; says = (a_statement b.token.word b.begins, b.undeclared, rw b.same at label); less = omega arith }
  where
    a_statement : (w : Word) → begins_expr w ≡ true → begins_statement w ≡ true
    a_statement w e = rw e refl
an_expression names kids tokens mid new rest _ between h end l = absurd h

null_statement : (w : Word) (names : Names) (left : List Token) → w ≡ word.Punctuator mark.Semicolon → Says rule.Expression names w left
null_statement w names left e = rw e (refl, refl, refl)

expression_begun : (kids : Trees C) (names : Names) (tokens : List Token) (new : Names) (rest : List Token) →
    SpellsAll C table kids (optional_before mark.Semicolon Done) names tokens new rest → Begun rule.Expression names tokens rest
expression_begun (Next (Group true (Next (Value leaf) Nil)) kids) names tokens new rest sp =
    let h = sp.2.3 in
    let end = mark_front mark.Semicolon sp.1 sp.3.0 sp.3.1 in
    let l = end.less in let m = kids_left C table no_longer kids Done sp.0 sp.3.0 new rest sp.3.2 in
    an_expression names kids tokens sp.2.1 new rest leaf sp.2.0 sp.2.2 (ap (starts (is_mark mark.Colon)) h.1 ∙ end.starts_as (is_mark mark.Colon)) (rw h.1 (omega arith))
expression_begun (Next (Group false Nil) kids) names tokens new rest sp =
    let e = sp.2 in
    let m = (mark_leads C table no_longer mark.Semicolon Done).led kids sp.0 sp.1 new rest sp.3 in
    rw e.1 (by_word rule.Expression (word.Punctuator mark.Semicolon) names sp.1 rest (λ v left w. null_statement v names left w) m)
expression_begun (Next (Group true (Next (Value leaf) (Next t more))) kids) names tokens new rest sp = absurd sp.2.3
expression_begun (Next (Group true (Next _ more)) kids) names tokens new rest sp = absurd sp.2
expression_begun (Next (Group true Nil) kids) names tokens new rest sp = absurd sp.2
expression_begun (Next (Group false (Next t more)) kids) names tokens new rest sp = absurd sp.2
expression_begun _ names tokens new rest sp = absurd sp

attribute_begun : (kids : Trees C) (names : Names) (tokens : List Token) (new : Names) (rest : List Token) →
    SpellsAll C table kids (Given OneAttribute (λ a. Mark mark.Semicolon Done)) names tokens new rest → Begun rule.Attribute names tokens rest
attribute_begun (Next (Value (AnAttribute a)) kids) names tokens new rest sp =
    let fit : Fit (pieces_of_attribute a) tokens sp.1 = record { is = sp.2.0.words } in
    let less = shorter (is_key key.Attribute) refl fit in
    let m = kids_left C table no_longer kids (Mark mark.Semicolon Done) sp.0 sp.1 new rest sp.3 in
    by_key tokens (starts_with (is_key key.Attribute) refl fit) (omega arith)
  where
    by_key : (tokens : List Token) → starts (is_key key.Attribute) tokens ≡ true → length rest < length tokens → Begun rule.Attribute names tokens rest
    by_key [] h l = absurd (cc)
    by_key (t ∷ tokens) h l = record { token = t; left = tokens; same = refl; says = key_says key.Attribute t.word h; less = l }
attribute_begun (Next (Value _) kids) names tokens new rest sp = absurd sp.2
attribute_begun _ names tokens new rest sp = absurd sp

label_begun : (kids : Trees C) (names : Names) (tokens : List Token) (new : Names) (rest : List Token) →
    SpellsAll C table kids (AName (Mark mark.Colon (Sub sort.Statement Done))) names tokens new rest → Begun rule.Label names tokens rest
label_begun (Next (Name n) kids) names tokens new rest sp =
    let m = name_front n tokens sp.0 sp.1 in let l = m.less in
    let c = mark_front mark.Colon sp.0 sp.2.0 sp.2.1 in
    let i = kids_left C table no_longer kids (Mark mark.Colon (Sub sort.Statement Done)) names sp.0 new rest sp.2 in
    record { token = m.token; left = sp.0; same = m.same; says = (ap is_name m.word, c.starts_as (is_mark mark.Colon)); less = omega arith }
label_begun _ names tokens new rest sp = absurd sp

-- each rule begins as it says
pub begun : (r : Rule) (kids : Trees C) (names : Names) (tokens : List Token) (new : Names) (rest : List Token) → SpellsAll C table kids (form r) names tokens new rest → Begun r names tokens rest
begun rule.Empty kids names tokens new rest sp =
    by_word rule.Empty _ names tokens rest (λ v left e. e) ((here_leads C table no_longer _ _ (mark_leads C table no_longer mark.Semicolon Done)).led kids names tokens new rest sp)
begun rule.Assertion kids names tokens new rest sp =
    by_word rule.Assertion _ names tokens rest (λ v left e. e) ((here_leads C table no_longer _ _ (key_leads C table no_longer key.StaticAssert _)).led kids names tokens new rest sp)
begun rule.External kids names tokens new rest sp = begun_here rule.External _ (λ k n ts nw r s. by_specifiers rule.External _ (λ ns w left t. t) k n ts nw r s) kids names tokens new rest sp
begun rule.Declaration kids names tokens new rest sp = begun_here rule.Declaration _ (λ k n ts nw r s. by_specifiers rule.Declaration _ (λ ns w left t. t) k n ts nw r s) kids names tokens new rest sp
begun rule.Braces kids names tokens new rest sp =
    by_word rule.Braces _ names tokens rest (λ v left e. e) ((here_leads C table no_longer _ _ (mark_leads C table no_longer mark.OpenBrace _)).led kids names tokens new rest sp)
begun rule.Body kids names tokens new rest sp =
    by_word rule.Body _ names tokens rest (λ v left e. e) ((here_leads C table no_longer _ _ (mark_leads C table no_longer mark.OpenBrace _)).led kids names tokens new rest sp)
begun rule.Block kids names tokens new rest sp =
    by_word rule.Block _ names tokens rest (λ v left e. e)
    ((here_leads C table no_longer _ _ (scoped_leads C table no_longer _ _ _ (mark_leads C table no_longer mark.OpenBrace _))).led kids names tokens new rest sp)
begun rule.Expression kids names tokens new rest sp = begun_here rule.Expression _ (λ k n ts nw r s. expression_begun k n ts nw r s) kids names tokens new rest sp
begun rule.Attribute kids names tokens new rest sp = begun_here rule.Attribute _ (λ k n ts nw r s. attribute_begun k n ts nw r s) kids names tokens new rest sp
begun rule.If kids names tokens new rest sp =
    by_word rule.If _ names tokens rest (λ v left e. e)
    ((here_leads C table no_longer _ _ (scoped_leads C table no_longer _ _ _ (key_leads C table no_longer key.If _))).led kids names tokens new rest sp)
begun rule.Switch kids names tokens new rest sp =
    by_word rule.Switch _ names tokens rest (λ v left e. e)
    ((here_leads C table no_longer _ _ (scoped_leads C table no_longer _ _ _ (key_leads C table no_longer key.Switch _))).led kids names tokens new rest sp)
begun rule.While kids names tokens new rest sp =
    by_word rule.While _ names tokens rest (λ v left e. e)
    ((here_leads C table no_longer _ _ (scoped_leads C table no_longer _ _ _ (key_leads C table no_longer key.While _))).led kids names tokens new rest sp)
begun rule.Do kids names tokens new rest sp =
    by_word rule.Do _ names tokens rest (λ v left e. e)
    ((here_leads C table no_longer _ _ (scoped_leads C table no_longer _ _ _ (key_leads C table no_longer key.Do _))).led kids names tokens new rest sp)
begun rule.For kids names tokens new rest sp =
    by_word rule.For _ names tokens rest (λ v left e. e)
    ((here_leads C table no_longer _ _ (scoped_leads C table no_longer _ _ _ (key_leads C table no_longer key.For _))).led kids names tokens new rest sp)
begun rule.Goto kids names tokens new rest sp =
    by_word rule.Goto _ names tokens rest (λ v left e. e) ((here_leads C table no_longer _ _ (key_leads C table no_longer key.Goto _)).led kids names tokens new rest sp)
begun rule.Continue kids names tokens new rest sp =
    by_word rule.Continue _ names tokens rest (λ v left e. e) ((here_leads C table no_longer _ _ (key_leads C table no_longer key.Continue _)).led kids names tokens new rest sp)
begun rule.Break kids names tokens new rest sp =
    by_word rule.Break _ names tokens rest (λ v left e. e) ((here_leads C table no_longer _ _ (key_leads C table no_longer key.Break _)).led kids names tokens new rest sp)
begun rule.Return kids names tokens new rest sp =
    by_word rule.Return _ names tokens rest (λ v left e. e) ((here_leads C table no_longer _ _ (key_leads C table no_longer key.Return _)).led kids names tokens new rest sp)
begun rule.Label kids names tokens new rest sp = begun_here rule.Label _ (λ k n ts nw r s. label_begun k n ts nw r s) kids names tokens new rest sp
begun rule.Case kids names tokens new rest sp =
    by_word rule.Case _ names tokens rest (λ v left e. e) ((here_leads C table no_longer _ _ (key_leads C table no_longer key.Case _)).led kids names tokens new rest sp)
begun rule.Default kids names tokens new rest sp =
    by_word rule.Default _ names tokens rest (λ v left e. e) ((here_leads C table no_longer _ _ (key_leads C table no_longer key.Default _)).led kids names tokens new rest sp)

-- ---- the rule that is picked

-- no other sort has a rule of statements
abbrev reads_statements : Sort → Type 0
reads_statements sort.Statement = Unit {0}
reads_statements sort.Other = Unit {0}
reads_statements _ = ⊥

apart : (s : Sort) (r : Rule) → IsTrue (belongs sort.Statement r) → IsTrue (belongs s r) → reads_statements s
apart sort.Statement r a b = tt
apart sort.Other r a b = tt
apart sort.External rule.Empty a b = absurd (cc)
apart sort.External _ a b = absurd (cc)
apart sort.Declaration rule.Empty a b = absurd (cc)
apart sort.Declaration _ a b = absurd (cc)
apart sort.Braces rule.Empty a b = absurd (cc)
apart sort.Braces _ a b = absurd (cc)
apart sort.Body rule.Empty a b = absurd (cc)
apart sort.Body _ a b = absurd (cc)

statement_picked : (s : Sort) (r : Rule) (names : Names) (t : Token) (left : List Token) → IsTrue (belongs sort.Statement r) → IsTrue (belongs s r) → statement_rule t.word left ≡ r →
    (IsTrue (belongs sort.Other r) → is_key key.If t.word ≡ false) → pick s names (t ∷ left) ≡ Some r
statement_picked sort.Statement r names t left a b e f = ap Some e
statement_picked sort.Other r names t left a b e f = rw (f b, e) refl
statement_picked sort.External r names t left a b e f = absurd (apart sort.External r a b)
statement_picked sort.Declaration r names t left a b e f = absurd (apart sort.Declaration r a b)
statement_picked sort.Braces r names t left a b e f = absurd (apart sort.Braces r a b)
statement_picked sort.Body r names t left a b e f = absurd (apart sort.Body r a b)

-- a word that begins an expression statement
pub expression_rule : (w : Word) (left : List Token) → begins_statement w ≡ true → is_name w && starts (is_mark mark.Colon) left ≡ false → (statement_rule w left ≡ rule.Expression) × (is_key key.If w ≡ false)
expression_rule (word.Keyword key.Sizeof) left b c = (refl, refl)
expression_rule (word.Keyword key.Alignof) left b c = (refl, refl)
expression_rule (word.Keyword key.BuiltinOffsetof) left b c = (refl, refl)
expression_rule (word.Keyword _) left b c = absurd (cc)
expression_rule (word.Identifier name) left b c = (rw c refl, refl)
expression_rule (word.Punctuator mark.OpenBrace) left b c = absurd (cc)
expression_rule (word.Punctuator p) left b c = (refl, refl)
expression_rule _ left b c = (refl, refl)

pub label_rule : (w : Word) (left : List Token) → is_name w ≡ true → starts (is_mark mark.Colon) left ≡ true → (statement_rule w left ≡ rule.Label) × (is_key key.If w ≡ false)
label_rule (word.Identifier name) left b c = (rw c refl, refl)
label_rule _ left b c = absurd (cc)

typed_rules : (names : Names) (w : Word) → begins_type names w ≡ true → (external_rule w ≡ rule.External) × (declaration_rule w ≡ rule.Declaration)
typed_rules names (word.Punctuator p) h = absurd (cc)
typed_rules names (word.Keyword key.StaticAssert) h = absurd (cc)
typed_rules names (word.Keyword k) h = (refl, refl)
typed_rules names _ h = (refl, refl)

picks : (s : Sort) (r : Rule) (names : Names) (t : Token) (left : List Token) → IsTrue (belongs s r) → Says r names t.word left → pick s names (t ∷ left) ≡ Some r
picks sort.External rule.Empty names t left b w = rw w refl
picks _ rule.Empty names t left b w = absurd (cc)
picks sort.External rule.Assertion names t left b w = rw w refl
picks sort.Declaration rule.Assertion names t left b w = rw w refl
picks _ rule.Assertion names t left b w = absurd (cc)
picks sort.External rule.External names t left b w = ap Some (typed_rules names t.word w).0
picks _ rule.External names t left b w = absurd (cc)
picks sort.Declaration rule.Declaration names t left b w = ap Some (typed_rules names t.word w).1
picks _ rule.Declaration names t left b w = absurd (cc)
picks sort.Braces rule.Braces names t left b w = refl
picks _ rule.Braces names t left b w = absurd (cc)
picks sort.Body rule.Body names t left b w = refl
picks _ rule.Body names t left b w = absurd (cc)
picks s rule.Expression names t left b w =
    let e = expression_rule t.word left w.0 w.2 in statement_picked s rule.Expression names t left refl b e.0 (λ o. e.1)
picks s rule.Label names t left b w = let e = label_rule t.word left w.0 w.1 in statement_picked s rule.Label names t left refl b e.0 (λ o. e.1)
picks s rule.If names t left b w = statement_picked s rule.If names t left refl b (rw w refl) (λ o. absurd (cc))
picks s r names t left b w = statement_picked s r names t left refl b (rw w refl) (λ o. rw w refl)

pub picked : PicksAll C table readers
picked s r kids names tokens new rest b sp = let h = begun r kids names tokens new rest sp in rw h.same (picks s r names h.token h.left b h.says)

-- ---- and is one of the sort

two : (b : Bool) (s : Sort) (x y : Rule) → IsTrue (belongs s x) → IsTrue (belongs s y) → IsTrue (belongs s (cond b x y))
two true s x y f g = f
two false s x y f g = g

a_statement : (w : Word) (rest : List Token) → IsTrue (belongs sort.Statement (statement_rule w rest))
a_statement (word.Identifier name) rest = two (starts (is_mark mark.Colon) rest) sort.Statement rule.Label rule.Expression refl refl
a_statement (word.Keyword key.Attribute) rest = refl
a_statement (word.Keyword _) rest = refl
a_statement (word.Punctuator mark.OpenBrace) rest = refl
a_statement (word.Punctuator _) rest = refl
a_statement _ rest = refl

an_other : (w : Word) (rest : List Token) → is_key key.If w ≡ false → IsTrue (belongs sort.Other (statement_rule w rest))
an_other (word.Identifier name) rest e = two (starts (is_mark mark.Colon) rest) sort.Other rule.Label rule.Expression refl refl
an_other (word.Keyword key.If) rest e = absurd (cc)
an_other (word.Keyword _) rest e = refl
an_other (word.Punctuator mark.OpenBrace) rest e = refl
an_other (word.Punctuator _) rest e = refl
an_other _ rest e = refl

other_picked : (b : Bool) (x r : Rule) → (b ≡ false → IsTrue (belongs sort.Other x)) → cond b None (Some x) ≡ Some r → IsTrue (belongs sort.Other r)
other_picked true x r f e = absurd (none-some r e)
other_picked false x r f e = rw (← same_Some x r e) (f refl)

an_external : (w : Word) → IsTrue (belongs sort.External (external_rule w))
an_external (word.Punctuator mark.Semicolon) = refl
an_external (word.Punctuator _) = refl
an_external (word.Keyword key.StaticAssert) = refl
an_external (word.Keyword _) = refl
an_external _ = refl

a_declaration : (w : Word) → IsTrue (belongs sort.Declaration (declaration_rule w))
a_declaration (word.Keyword key.StaticAssert) = refl
a_declaration (word.Keyword _) = refl
a_declaration _ = refl

pub right : PicksRight C table readers
right s names [] r e = absurd (none-some r e)
right sort.External names (t ∷ tokens) r e = rw (← same_Some _ r e) (an_external t.word)
right sort.Declaration names (t ∷ tokens) r e = rw (← same_Some _ r e) (a_declaration t.word)
right sort.Braces names (t ∷ tokens) r e = rw (← same_Some _ r e) refl
right sort.Body names (t ∷ tokens) r e = rw (← same_Some _ r e) refl
right sort.Statement names (t ∷ tokens) r e = rw (← same_Some _ r e) (a_statement t.word tokens)
right sort.Other names (t ∷ tokens) r e = other_picked (is_key key.If t.word) (statement_rule t.word tokens) r (λ f. an_other t.word tokens f) e
