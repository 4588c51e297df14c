-- What reads by a grammar, as a function. A choice is made by its test, and a tree's parts nest less deep than it.
use Rattle.std.specs.Prelude.{ℕ, zero, suc, true, false, cond, List, [], ◌∷◌, ◌++◌, length, Option, None, Some}
use Rattle.c_base.specs.declared.token.Token.{Token}
use Rattle.c_parse_rules.specs.Tokens.{◌>>=◌, behind_key, behind_mark, name_at}
use Rattle.grammar.specs.Forms.{Language, Tree, Place, Name, Value, Node, Group, Trees, Nil, Next, Test, Form, Done, Here, Key, Mark, AName, Given, Sub, Part, Scoped, Either, Many, Listed, Declare, Unless, Grammar}
use Rattle.grammar.specs.Spelling.{place_at}

module _ (L : Language) where
  -- a leaf, what is in scope behind it, and what is left
  abbrev pub Taken : Type 0
  Taken = L.Leaf × L.Scope × List Token

  -- a tree, what is in scope behind it, and what is left
  abbrev pub Found : Type 0
  Found = Tree L × L.Scope × List Token

  -- what reads a tree of a sort
  abbrev pub Inner : Type 0
  Inner = L.Sort → L.Scope → List Token → Option Found

  abbrev pub Ran : Type 0
  Ran = Trees L × L.Scope × List Token

  abbrev pub Several : Type 0
  Several = List (Trees L) × L.Scope × List Token

  -- what reads one element of a list
  abbrev pub One : Type 0
  One = L.Scope → List Token → Option Ran

  -- The readers, of which each reads no leaf that nests deeper; and which rule of a sort it is, if there is one.
  pub record Readers : Type 0 where
    pub read : ℕ → L.Reader → L.Scope → List Token → Option Taken
    pub pick : L.Sort → L.Scope → List Token → Option L.Rule

  abbrev pub with_kid : Tree L → Option Ran → Option Ran
  with_kid t None = None
  with_kid t (Some r) = Some (Next t r.0, r.1, r.2)

  -- behind what was found, as often as the test holds; the first number bounds the rounds
  abbrev pub many : One → Test L → ℕ → List (Trees L) → L.Scope → List Token → Option Several
  many one test zero found scope tokens = None
  many one test (suc n) found scope tokens =
      cond (test scope tokens) (one scope tokens >>= (λ r. many one test n (found ++ r.0 ∷ []) r.1 r.2)) (Some (found, scope, tokens))

  -- each takes a token, so that there are no more rounds than tokens
  unfoldable pub several : One → Test L → List (Trees L) → L.Scope → List Token → Option Several
  several one test found scope tokens = many one test (suc (length tokens)) found scope tokens

  -- the first once, then the second as often as the test holds
  unfoldable pub listed : One → One → Test L → L.Scope → List Token → Option Several
  listed one another test scope tokens = one scope tokens >>= (λ first. several another test (first.0 ∷ []) first.1 first.2)

  abbrev pub groups : List (Trees L) → Trees L
  groups [] = Nil
  groups (kids ∷ more) = Next (Group true kids) (groups more)

  module _ (R : Readers) (depth : ℕ) (inner : Inner) where
    abbrev pub run : Form L → L.Scope → List Token → Option Ran
    run Done scope tokens = Some (Nil, scope, tokens)
    run (Here f) scope tokens = place_at tokens >>= (λ span. with_kid (Place span) (run f scope tokens))
    run (Key k f) scope tokens = behind_key k tokens >>= (λ rest. run f scope rest)
    run (Mark p f) scope tokens = behind_mark p tokens >>= (λ rest. run f scope rest)
    run (AName f) scope tokens = name_at tokens >>= (λ n. with_kid (Name n.0) (run f scope n.1))
    run (Given g f) scope tokens = R.read depth g scope tokens >>= (λ t. with_kid (Value t.0) (run (f t.0) t.1 t.2))
    run (Sub s f) scope tokens = inner s scope tokens >>= (λ t. with_kid t.0 (run f t.1 t.2))
    run (Part a f) scope tokens = run a scope tokens >>= (λ r. with_kid (Group true r.0) (run f r.1 r.2))
    run (Scoped a f) scope tokens = run a scope tokens >>= (λ r. with_kid (Group true r.0) (run f scope r.2))
    run (Either test a b f) scope tokens =
        cond (test scope tokens) (run a scope tokens >>= (λ r. with_kid (Group true r.0) (run f r.1 r.2)))
        (run b scope tokens >>= (λ r. with_kid (Group false r.0) (run f r.1 r.2)))
    run (Many test a f) scope tokens =
        several (run a) test [] scope tokens >>= (λ s. with_kid (Group true (groups s.0)) (run f s.1 s.2))
    run (Listed test a b f) scope tokens =
        listed (run a) (run b) test scope tokens >>= (λ s. with_kid (Group true (groups s.0)) (run f s.1 s.2))
    run (Declare names f) scope tokens = run f (names scope) tokens
    run (Unless test f) scope tokens = cond (test scope tokens) None (run f scope tokens)

  module _ (G : Grammar L) (R : Readers) where
    abbrev pub node : L.Rule → Option Ran → Option Found
    node r None = None
    node r (Some x) = Some (Node r x.0, x.1, x.2)

    -- a tree of this rule
    abbrev pub rule_at : ℕ → Inner → L.Rule → L.Scope → List Token → Option Found
    rule_at depth inner r scope tokens = node r (run R depth inner (G.form r) scope tokens)

    -- a tree of this sort that nests no deeper
    abbrev pub parse : ℕ → L.Sort → L.Scope → List Token → Option Found
    parse zero s scope tokens = None
    parse (suc depth) s scope tokens = R.pick s scope tokens >>= (λ r. rule_at depth (parse depth) r scope tokens)
