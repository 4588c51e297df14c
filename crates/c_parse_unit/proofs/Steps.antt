-- Steps of the code.
use Rattle.std.proofs.Common.{◌≡◌, ℕ, Bool, zero, suc, ◌-◌, ◌++◌, true, false, cond, List, [], ◌∷◌, length, map, Option, None, Some, Result, Ok, Err, Bor, refl, sym, ◌∙◌, ap, subst, arith}
use Rattle.std.specs.Prelude.{IfOk, option_map}
use Rattle.std.proofs.lemmas.Option.{none-some, same_Some}
use Rattle.c_base.specs.declared.number.Span.{Span}
use Rattle.c_base.specs.declared.token.Keyword.TheVariants as key
use Rattle.c_base.specs.declared.token.Punctuator.TheVariants as mark
use Rattle.c_base.specs.declared.token.Token.{Token}
use Rattle.c_base.specs.declared.token.Word.{Word}
use Rattle.c_base.specs.declared.token.Word.TheVariants as word
use Rattle.c_tree.specs.declared.tree.Specifier.{Specifier}
use Rattle.c_tree.specs.WellFormed.{Names}
use Rattle.c_parse_rules.specs.Declaring.{starts}
use Rattle.c_parse_rules.specs.Tokens.{◌>>=◌, is_key, is_mark}
use Rattle.grammar.specs.Forms.{Declare, Done, Form, Group, Node, Place, Scoped, Sub, Test, Tree, Trees}
use Rattle.grammar.specs.Reading.{Found, One, Ran, Several, listed, many, node, parse, rule_at, several}
use Rattle.grammar.specs.Spelling.{place_at}
use Rattle.c_unit_tree.specs.declared.declaration.Declaration.{Declaration}
use Rattle.c_unit_tree.specs.declared.declaration.Declaration.TheVariants as declaration
use Rattle.c_unit_tree.specs.declared.declaration.InitDeclarator.{InitDeclarator}
use Rattle.c_unit_tree.specs.declared.unit.Body.{Body}
use Rattle.c_unit_tree.specs.declared.unit.External.TheVariants as external
use Rattle.c_grammar.specs.declared.rule.Rule.{Rule}
use Rattle.c_grammar.specs.declared.rule.Rule.TheVariants as rule
use Rattle.c_grammar.specs.declared.rule.Sort.{Sort}
use Rattle.c_grammar.specs.declared.rule.Sort.TheVariants as sort
use Rattle.c_grammar.specs.Leaves.{C}
use Rattle.c_grammar.specs.Picking.{external_rule, readers}
use Rattle.c_grammar.specs.Table.{table}
use Rattle.c_unit_tree.specs.Views.{declaration_tree, external_tree, kids, some, specifiers_value}
use Rattle.c_parse_initialisers.proofs.Picked.{at_rule}
use Rattle.c_parse_initialisers.specs.Reads.{at}
use Rattle.c_parse_unit.specs.Behind.{IsNamed, objects_kids}
use Rattle.c_parse_unit.specs.declared.nodes.Declared.TheVariants as declared

-- ---- a loop that begins behind one element

-- the first element, and what was found behind it
abbrev behind_first : Trees C → Several C → Several C
behind_first first s = (first ∷ s.0, s.1, s.2)

turned : (one : One C) (test : Test C) (first : Trees C) (n : ℕ) (found : List (Trees C)) (names : Names) (tokens : List Token) →
    ((r : Ran C) → many C one test n (first ∷ (found ++ r.0 ∷ [])) r.1 r.2 ≡ option_map (behind_first first) (many C one test n (found ++ r.0 ∷ []) r.1 r.2)) →
    (b : Bool) (o : Option (Ran C)) →
    cond b (o >>= (λ r. many C one test n ((first ∷ found) ++ r.0 ∷ []) r.1 r.2)) (Some (first ∷ found, names, tokens))
    ≡ option_map (behind_first first) (cond b (o >>= (λ r. many C one test n (found ++ r.0 ∷ []) r.1 r.2)) (Some (found, names, tokens)))
turned one test first n found names tokens next true None = refl
turned one test first n found names tokens next true (Some r) = next r
turned one test first n found names tokens next false o = refl

many_behind : (one : One C) (test : Test C) (first : Trees C) (n : ℕ) (found : List (Trees C)) (names : Names) (tokens : List Token) →
    many C one test n (first ∷ found) names tokens ≡ option_map (behind_first first) (many C one test n found names tokens)
many_behind one test first zero found names tokens = refl
many_behind one test first (suc n) found names tokens =
    turned one test first n found names tokens (λ r. many_behind one test first n (found ++ r.0 ∷ []) r.1 r.2) (test names tokens) (one names tokens)

pub several_behind : (one : One C) (test : Test C) (first : Trees C) (names : Names) (tokens : List Token) →
    several C one test (first ∷ []) names tokens ≡ option_map (behind_first first) (several C one test [] names tokens)
unfolding several
several_behind one test first names tokens = many_behind one test first (suc (length tokens)) [] names tokens

-- a list whose first element is read apart from the others
pub others_some : (first one : One C) (test : Test C) (names between new : Names) (tokens behind rest : List Token) (f : Trees C) (more : List (Trees C)) →
    Some (f, between, behind) ≡ first names tokens → Some (more, new, rest) ≡ several C one test [] between behind → Some (f ∷ more, new, rest) ≡ listed C first one test names tokens
unfolding listed
others_some first one test names between new tokens behind rest f more a b = rw (← a, several_behind one test f between behind, ← b) refl

pub others_none : (first one : One C) (test : Test C) (names between : Names) (tokens behind : List Token) (f : Trees C) →
    Some (f, between, behind) ≡ first names tokens → None ≡ several C one test [] between behind → None ≡ listed C first one test names tokens
unfolding listed
others_none first one test names between tokens behind f a b = rw (← a, several_behind one test f between behind, ← b) refl

-- ---- trees of a sort

-- a tree of a sort alone
pub alone_some : (d : ℕ) (s : Sort) (old new : Names) (tokens rest : List Token) (t : Tree C) → Some (t, new, rest) ≡ parse C table readers d s old tokens →
    Some (kids (t ∷ []), new, rest) ≡ at d (Sub s Done) old tokens
alone_some d s old new tokens rest t e = rw (← e) refl

pub alone_none : (d : ℕ) (s : Sort) (old : Names) (tokens : List Token) → None ≡ parse C table readers d s old tokens → None ≡ at d (Sub s Done) old tokens
alone_none d s old tokens e = rw (← e) refl

pub body_picked : (d : ℕ) (names : Names) (tokens : List Token) → (d ≡ 0 → ⊥) →
    rule_at C table readers (d - 1) (parse C table readers (d - 1)) rule.Body names tokens ≡ parse C table readers d sort.Body names tokens
unfolding place_at
body_picked zero names tokens some = absurd (some refl)
body_picked (suc d) names [] some = refl
body_picked (suc d) names (t ∷ tokens) some = at_rule (suc d) sort.Body rule.Body names (t ∷ tokens) some refl

-- ---- which external declaration it is

empty_word : (w : Word) → is_mark mark.Semicolon w ≡ true → external_rule w ≡ rule.Empty
empty_word (word.Punctuator mark.Semicolon) h = refl
empty_word (word.Punctuator _) h = absurd (cc)
empty_word _ h = absurd (cc)

assertion_word : (w : Word) → is_key key.StaticAssert w ≡ true → external_rule w ≡ rule.Assertion
assertion_word (word.Keyword key.StaticAssert) h = refl
assertion_word (word.Keyword _) h = absurd (cc)
assertion_word _ h = absurd (cc)

external_word : (w : Word) → is_mark mark.Semicolon w ≡ false → is_key key.StaticAssert w ≡ false → external_rule w ≡ rule.External
external_word (word.Punctuator mark.Semicolon) h g = absurd (cc)
external_word (word.Keyword key.StaticAssert) h g = absurd (cc)
external_word (word.Punctuator _) h g = refl
external_word (word.Keyword _) h g = refl
external_word _ h g = refl

pub empty_picked : (d : ℕ) (names : Names) (tokens : List Token) → (d ≡ 0 → ⊥) → starts (is_mark mark.Semicolon) tokens ≡ true →
    rule_at C table readers (d - 1) (parse C table readers (d - 1)) rule.Empty names tokens ≡ parse C table readers d sort.External names tokens
empty_picked zero names tokens some h = absurd (some refl)
empty_picked (suc d) names [] some h = absurd (cc)
empty_picked (suc d) names (t ∷ tokens) some h = at_rule (suc d) sort.External rule.Empty names (t ∷ tokens) some (ap Some (empty_word t.word h))

pub assertion_picked : (d : ℕ) (names : Names) (tokens : List Token) → (d ≡ 0 → ⊥) → starts (is_key key.StaticAssert) tokens ≡ true →
    rule_at C table readers (d - 1) (parse C table readers (d - 1)) rule.Assertion names tokens ≡ parse C table readers d sort.External names tokens
assertion_picked zero names tokens some h = absurd (some refl)
assertion_picked (suc d) names [] some h = absurd (cc)
assertion_picked (suc d) names (t ∷ tokens) some h = at_rule (suc d) sort.External rule.Assertion names (t ∷ tokens) some (ap Some (assertion_word t.word h))

pub external_picked : (d : ℕ) (names : Names) (tokens : List Token) → (d ≡ 0 → ⊥) → starts (is_mark mark.Semicolon) tokens ≡ false →
    starts (is_key key.StaticAssert) tokens ≡ false →
    rule_at C table readers (d - 1) (parse C table readers (d - 1)) rule.External names tokens ≡ parse C table readers d sort.External names tokens
unfolding place_at
external_picked zero names tokens some h g = absurd (some refl)
external_picked (suc d) names [] some h g = refl
external_picked (suc d) names (t ∷ tokens) some h g = at_rule (suc d) sort.External rule.External names (t ∷ tokens) some (ap Some (external_word t.word h g))

-- an assertion is an external declaration as it stands
pub assertion_alone : (x : Declaration) (new : Names) (rest : List Token) (o : Option (Ran C)) → Some (declaration_tree x, new, rest) ≡ node C table readers rule.Assertion o →
    external_tree (external.Declaration x) ≡ declaration_tree x
assertion_alone (declaration.Assertion span condition literals) new rest o e = refl
assertion_alone (declaration.Declarators span specifiers declarators) new rest None e = absurd (none-some _ (sym e))
assertion_alone (declaration.Declarators span specifiers declarators) new rest (Some r) e =
    let t = ap (λ (f : Found C). f.0) (same_Some _ _ e) in absurd (cc)

pub external_objects : (span : Span) (specifiers : List Specifier) (all : List InitDeclarator) → IsNamed (declared.Objects all) →
    external_tree (external.Declaration (declaration.Declarators span specifiers all)) ≡ Node rule.External (kids (Place span ∷ specifiers_value specifiers ∷ Group true (objects_kids all) ∷ []))
external_objects span specifiers [] n = absurd n
external_objects span specifiers (d ∷ more) n = refl

-- ---- scopes

-- a body, in a scope of its own
pub body_scoped : {E : Type 0} (view : Body → Tree C) (d : ℕ) (result : Result (Option (Body × Bor (List Token))) E) (formals : Names → Names) (inside old new behind : Names)
    (tokens : List Token) → inside ≡ old → behind ≡ old →
    IfOk result (λ r. option_map (λ x. (view x.0, new, x.1.now)) r ≡ parse C table readers d sort.Body (formals inside) tokens) →
    IfOk result (λ r. option_map (λ x. (kids (some (view x.0 ∷ []) ∷ []), behind, x.1.now)) r ≡ at d (Scoped (Declare formals (Sub sort.Body Done)) Done) old tokens)
body_scoped view d (Ok None) formals inside old new behind tokens e f h = rw (← e, ← h) refl
body_scoped view d (Ok (Some x)) formals inside old new behind tokens e f h = rw (f, ← e, ← h) refl
body_scoped view d (Err error) formals inside old new behind tokens e f h = tt
