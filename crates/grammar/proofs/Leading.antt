-- With which words forms begin, and what stands where one form follows another: what the proofs that choices are told are made of.
use Rattle.std.proofs.Common.{◌≡◌, ◌≤◌, ◌<◌, Bool, true, false, List, ◌∷◌, length, refl, arith}
use Rattle.c_base.specs.declared.token.Keyword.{Keyword}
use Rattle.c_base.specs.declared.token.Punctuator.{Punctuator}
use Rattle.c_base.specs.declared.token.Token.{Token}
use Rattle.c_base.specs.declared.token.Word.{Word}
use Rattle.c_base.specs.declared.token.Word.TheVariants as word
use Rattle.c_parse_rules.specs.Declaring.{starts}
use Rattle.grammar.specs.Forms.{Language, Tree, Place, Value, Group, Trees, Nil, Next, Test, Form, Done, Here, Key, Mark, Given, Sub, Part, Scoped, Either, Many, Listed, Grammar}
use Rattle.grammar.specs.Spelling.{Spells, SpellsAll}
use Rattle.grammar.proofs.Heads.{Front, key_front, mark_front}
use Rattle.grammar.proofs.Lengths.{NoLonger, kids_left}
use Rattle.grammar.proofs.Telling.{Follow, Behind, BehindEach, BehindScope, Takes}

module _ (L : Language) (G : Grammar L) where
  -- ---- cases of what stands where a form begins

  pub at_mark : (p : Punctuator) (f : Form L) (F : Follow L) (is : Word → Bool) (scope : L.Scope) (tokens : List Token) → Behind L G (Mark p f) F scope tokens →
      starts is tokens ≡ is (word.Punctuator p)
  at_mark p f F is scope tokens h = let m = mark_front p tokens h.3.0 h.3.1 in m.starts_as is

  pub at_key : (k : Keyword) (f : Form L) (F : Follow L) (is : Word → Bool) (scope : L.Scope) (tokens : List Token) → Behind L G (Key k f) F scope tokens →
      starts is tokens ≡ is (word.Keyword k)
  at_key k f F is scope tokens h = let m = key_front k tokens h.3.0 h.3.1 in m.starts_as is

  pub at_end : (F : Follow L) (scope : L.Scope) (tokens : List Token) → Behind L G Done F scope tokens → F scope tokens
  at_end F scope tokens (Nil, new, rest, sp, fo) = rw (sp.0, sp.1) fo
  at_end F scope tokens (Next t more, new, rest, sp, fo) = absurd sp

  module _ (P F : Follow L) where
    pub either_cases : (test : Test L) (a b f : Form L) → ((scope : L.Scope) (tokens : List Token) → Behind L G a (Behind L G f F) scope tokens → P scope tokens) →
        ((scope : L.Scope) (tokens : List Token) → Behind L G b (Behind L G f F) scope tokens → P scope tokens) → (scope : L.Scope) (tokens : List Token) →
        Behind L G (Either test a b f) F scope tokens → P scope tokens
    either_cases test a b f k l scope tokens (Next (Group true inner) kids, new, rest, sp, fo) = k scope tokens (inner, sp.0, sp.1, sp.2, (kids, new, rest, sp.3, fo))
    either_cases test a b f k l scope tokens (Next (Group false inner) kids, new, rest, sp, fo) = l scope tokens (inner, sp.0, sp.1, sp.2, (kids, new, rest, sp.3, fo))
    either_cases test a b f k l scope tokens (_, new, rest, sp, fo) = absurd sp

    pub each_cases : (a : Form L) → ((scope : L.Scope) (tokens : List Token) → Behind L G a (BehindEach L G a F) scope tokens → P scope tokens) →
        ((scope : L.Scope) (tokens : List Token) → F scope tokens → P scope tokens) → (scope : L.Scope) (tokens : List Token) → BehindEach L G a F scope tokens → P scope tokens
    each_cases a k l scope tokens (Nil, new, rest, sp, fo) = l scope tokens (rw (sp.0, sp.1) fo)
    each_cases a k l scope tokens (Next (Group true inner) more, new, rest, sp, fo) = k scope tokens (inner, sp.0, sp.1, sp.2, (more, new, rest, sp.3, fo))
    each_cases a k l scope tokens (_, new, rest, sp, fo) = absurd sp

    pub many_cases : (test : Test L) (a f : Form L) → ((scope : L.Scope) (tokens : List Token) → BehindEach L G a (Behind L G f F) scope tokens → P scope tokens) →
        (scope : L.Scope) (tokens : List Token) → Behind L G (Many test a f) F scope tokens → P scope tokens
    many_cases test a f k scope tokens (Next (Group true each) kids, new, rest, sp, fo) = k scope tokens (each, sp.0, sp.1, sp.2, (kids, new, rest, sp.3, fo))
    many_cases test a f k scope tokens (_, new, rest, sp, fo) = absurd sp

    pub listed_cases : (test : Test L) (a b f : Form L) →
        ((scope : L.Scope) (tokens : List Token) → Behind L G a (BehindEach L G b (Behind L G f F)) scope tokens → P scope tokens) → (scope : L.Scope) (tokens : List Token) →
        Behind L G (Listed test a b f) F scope tokens → P scope tokens
    listed_cases test a b f k scope tokens (Next (Group true (Next (Group true first) more)) kids, new, rest, sp, fo) =
        k scope tokens (first, sp.0, sp.1, sp.4, (more, sp.2, sp.3, sp.5, (kids, new, rest, sp.6, fo)))
    listed_cases test a b f k scope tokens (_, new, rest, sp, fo) = absurd sp

    pub part_cases : (a f : Form L) → ((scope : L.Scope) (tokens : List Token) → Behind L G a (Behind L G f F) scope tokens → P scope tokens) →
        (scope : L.Scope) (tokens : List Token) → Behind L G (Part a f) F scope tokens → P scope tokens
    part_cases a f k scope tokens (Next (Group true inner) kids, new, rest, sp, fo) = k scope tokens (inner, sp.0, sp.1, sp.2, (kids, new, rest, sp.3, fo))
    part_cases a f k scope tokens (_, new, rest, sp, fo) = absurd sp

    pub scoped_cases : (a f : Form L) → ((scope : L.Scope) (tokens : List Token) → Behind L G a (BehindScope L G f F scope) scope tokens → P scope tokens) →
        (scope : L.Scope) (tokens : List Token) → Behind L G (Scoped a f) F scope tokens → P scope tokens
    scoped_cases a f k scope tokens (Next (Group true inner) kids, new, rest, sp, fo) = k scope tokens (inner, sp.0, sp.1, sp.2, (kids, new, rest, sp.3, fo))
    scoped_cases a f k scope tokens (_, new, rest, sp, fo) = absurd sp

    pub given_cases : (g : L.Reader) (f : L.Leaf → Form L) → ((leaf : L.Leaf) (scope : L.Scope) (tokens : List Token) (new : L.Scope) (rest : List Token) →
        L.IsFront g leaf scope tokens new rest → Behind L G (f leaf) F new rest → P scope tokens) → (scope : L.Scope) (tokens : List Token) →
        Behind L G (Given g f) F scope tokens → P scope tokens
    given_cases g f k scope tokens (Next (Value leaf) kids, new, rest, sp, fo) = k leaf scope tokens sp.0 sp.1 sp.2 (kids, new, rest, sp.3, fo)
    given_cases g f k scope tokens (_, new, rest, sp, fo) = absurd sp

    pub sub_cases : (s : L.Sort) (f : Form L) → ((t : Tree L) (scope : L.Scope) (tokens : List Token) (new : L.Scope) (rest : List Token) → Spells L G t s scope tokens new rest →
        P scope tokens) → (scope : L.Scope) (tokens : List Token) → Behind L G (Sub s f) F scope tokens → P scope tokens
    sub_cases s f k scope tokens (Next t kids, new, rest, sp, fo) = k t scope tokens sp.0 sp.1 sp.2
    sub_cases s f k scope tokens (Nil, new, rest, sp, fo) = absurd sp

    pub here_cases : (f : Form L) → ((scope : L.Scope) (tokens : List Token) → Behind L G f F scope tokens → P scope tokens) →
        (scope : L.Scope) (tokens : List Token) → Behind L G (Here f) F scope tokens → P scope tokens
    here_cases f k scope tokens (Next (Place s) kids, new, rest, sp, fo) = k scope tokens (kids, new, rest, sp.1, fo)
    here_cases f k scope tokens (_, new, rest, sp, fo) = absurd sp

  -- ---- forms that begin with a word

  module _ (given : NoLonger L) where
    -- the first token has this word, and is taken
    pub record Led (w : Word) (tokens rest : List Token) : Type 0 where
      pub token : Token
      pub left : List Token
      pub same : tokens ≡ token ∷ left
      pub word : token.word ≡ w
      pub less : length rest < length tokens

    pub starts_led : (w : Word) (tokens rest : List Token) → Led w tokens rest → (is : Word → Bool) → starts is tokens ≡ is w
    starts_led w tokens rest h is = rw (h.same, h.word) refl

    pub record Leads (w : Word) (f : Form L) : Type 0 where
      pub led : (kids : Trees L) (scope : L.Scope) (tokens : List Token) (new : L.Scope) (rest : List Token) → SpellsAll L G kids f scope tokens new rest → Led w tokens rest

    led_front : (w : Word) (tokens mid rest : List Token) → Front w tokens mid → length rest ≤ length mid → Led w tokens rest
    led_front w tokens mid rest m l = let n = m.less in record { token = m.token; left = mid; same = m.same; word = m.word; less = omega arith }

    pub key_leads : (k : Keyword) (f : Form L) → Leads (word.Keyword k) (Key k f)
    key_leads k f = record {
      led = λ kids scope tokens new rest sp. led_front (word.Keyword k) tokens sp.0 rest (key_front k tokens sp.0 sp.1) (kids_left L G given kids f scope sp.0 new rest sp.2);
    }

    pub mark_leads : (p : Punctuator) (f : Form L) → Leads (word.Punctuator p) (Mark p f)
    mark_leads p f = record {
      led = λ kids scope tokens new rest sp. led_front (word.Punctuator p) tokens sp.0 rest (mark_front p tokens sp.0 sp.1) (kids_left L G given kids f scope sp.0 new rest sp.2);
    }

    here_led : (w : Word) (f : Form L) → Leads w f → (kids : Trees L) (scope : L.Scope) (tokens : List Token) (new : L.Scope) (rest : List Token) →
        SpellsAll L G kids (Here f) scope tokens new rest → Led w tokens rest
    here_led w f h (Next (Place s) kids) scope tokens new rest sp = h.led kids scope tokens new rest sp.1
    here_led w f h _ scope tokens new rest sp = absurd sp

    pub here_leads : (w : Word) (f : Form L) → Leads w f → Leads w (Here f)
    here_leads w f h = record { led = here_led w f h }

    scoped_led : (w : Word) (a f : Form L) → Leads w a → (kids : Trees L) (scope : L.Scope) (tokens : List Token) (new : L.Scope) (rest : List Token) →
        SpellsAll L G kids (Scoped a f) scope tokens new rest → Led w tokens rest
    scoped_led w a f h (Next (Group true inner) kids) scope tokens new rest sp =
        let i = h.led inner scope tokens sp.0 sp.1 sp.2 in
        let l = i.less in let k = kids_left L G given kids f scope sp.1 new rest sp.3 in
        record { token = i.token; left = i.left; same = i.same; word = i.word; less = omega arith }
    scoped_led w a f h _ scope tokens new rest sp = absurd sp

    pub scoped_leads : (w : Word) (a f : Form L) → Leads w a → Leads w (Scoped a f)
    scoped_leads w a f h = record { led = scoped_led w a f h }

    pub leads_as : (w : Word) (f : Form L) (F : Follow L) → Leads w f → (is : Word → Bool) (scope : L.Scope) (tokens : List Token) → Behind L G f F scope tokens → starts is tokens ≡ is w
    leads_as w f F h is scope tokens b = starts_led w tokens b.2 (h.led b.0 scope tokens b.1 b.2 b.3) is

    pub leads_takes : (w : Word) (f : Form L) → Leads w f → Takes L G f
    leads_takes w f h kids scope new tokens rest sp = let i = h.led kids scope tokens new rest sp in i.less

    pub either_takes : (test : Test L) (a b f : Form L) → Takes L G a → Takes L G b → Takes L G (Either test a b f)
    either_takes test a b f k l (Next (Group true inner) kids) scope new tokens rest sp =
        let i = k inner scope sp.0 tokens sp.1 sp.2 in let j = kids_left L G given kids f sp.0 sp.1 new rest sp.3 in omega arith
    either_takes test a b f k l (Next (Group false inner) kids) scope new tokens rest sp =
        let i = l inner scope sp.0 tokens sp.1 sp.2 in let j = kids_left L G given kids f sp.0 sp.1 new rest sp.3 in omega arith
    either_takes test a b f k l _ scope new tokens rest sp = absurd sp

    pub sub_takes : (s : L.Sort) (f : Form L) → ((t : Tree L) (scope : L.Scope) (tokens : List Token) (new : L.Scope) (rest : List Token) → Spells L G t s scope tokens new rest →
        length rest < length tokens) → Takes L G (Sub s f)
    sub_takes s f k (Next t kids) scope new tokens rest sp =
        let i = k t scope tokens sp.0 sp.1 sp.2 in let j = kids_left L G given kids f sp.0 sp.1 new rest sp.3 in omega arith
    sub_takes s f k Nil scope new tokens rest sp = absurd sp
