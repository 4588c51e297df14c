-- What the tokens spell is read, where each choice is told.
use Rattle.std.proofs.Common.{◌≡◌, ℕ, zero, suc, ◌≤◌, ◌<◌, true, false, List, [], ◌∷◌, ◌++◌, length, Option, Some, refl, ◌∙◌, ap, arith, append_assoc, append-nil}
use Rattle.c_base.specs.declared.token.Token.{Token}
use Rattle.grammar.specs.Forms.{Language, Tree, Place, Name, Value, Node, Group, Trees, Nil, Next, Test, Form, Done, Here, Key, Mark, AName, Given, Sub, Part, Scoped, Either, Many, Listed, Declare, Unless, Grammar}
use Rattle.grammar.specs.Reading.{Inner, Several, One, Readers, many, several, listed, groups, run, parse}
use Rattle.grammar.specs.Spelling.{Spells, SpellsAll, SpellsEach, nest, nest_all}
use Rattle.grammar.proofs.Telling.{Follow, Anything, Endings, ReadersReach, Behind, BehindEach, BehindScope, Takes, Good, AllGood, PicksAll}

module _ (L : Language) where
  abbrev pub list_of : Trees L → List (Trees L)
  list_of Nil = []
  list_of (Next (Group g kids) more) = kids ∷ list_of more
  list_of (Next t more) = list_of more

  module _ (G : Grammar L) where
    -- ---- loops

    record Reached (each : Trees L) (new : L.Scope) (rest : List Token) (found : List (Trees L)) (result : Option (Several L)) : Type 0 where
      pub same : result ≡ Some (found ++ list_of each, new, rest)
      pub listed : groups L (list_of each) ≡ each

    module _ (d : ℕ) (a : Form L) (F : Follow L) (one : One L) (test : Test L)
        (takes : Takes L G a)
        (on : (scope : L.Scope) (tokens : List Token) → Behind L G a (BehindEach L G a F) scope tokens → test scope tokens ≡ true)
        (off : (scope : L.Scope) (tokens : List Token) → F scope tokens → test scope tokens ≡ false)
        (reach : (kids : Trees L) (scope : L.Scope) (tokens : List Token) (new : L.Scope) (rest : List Token) → SpellsAll L G kids a scope tokens new rest → BehindEach L G a F new rest → nest_all L kids ≤ d →
        one scope tokens ≡ Some (kids, new, rest)) where
      ended : (n : ℕ) (found : List (Trees L)) (scope : L.Scope) (tokens : List Token) → test scope tokens ≡ false → many L one test (suc n) found scope tokens ≡ Some (found ++ [], scope, tokens)
      ended n found scope tokens t = rw (t, append-nil found) refl

      turned : (n : ℕ) (found : List (Trees L)) (scope : L.Scope) (tokens : List Token) (kids : Trees L) (new : L.Scope) (rest : List Token) (result : Option (Several L)) → test scope tokens ≡ true →
          one scope tokens ≡ Some (kids, new, rest) → many L one test n (found ++ kids ∷ []) new rest ≡ result → many L one test (suc n) found scope tokens ≡ result
      turned n found scope tokens kids new rest result t e f = rw (t, e) f

      each_reach : (n : ℕ) (each : Trees L) (found : List (Trees L)) (scope : L.Scope) (tokens : List Token) (new : L.Scope) (rest : List Token) → length tokens < n →
          SpellsEach L G each a scope tokens new rest → F new rest → nest_all L each ≤ d → Reached each new rest found (many L one test n found scope tokens)
      each_reach zero each found scope tokens new rest enough sp f small = absurd (omega arith)
      each_reach (suc n) Nil found scope tokens new rest enough sp f small =
          record { same = ended n found scope tokens (off scope tokens (rw (sp.0, sp.1) f)) ∙ rw (sp.0, sp.1) refl; listed = refl }
      each_reach (suc n) (Next (Group true kids) more) found scope tokens new rest enough sp f small =
          let less = takes kids scope sp.0 tokens sp.1 sp.2 in
          let later : BehindEach L G a F sp.0 sp.1 = (more, new, rest, sp.3, f) in
          let e = reach kids scope tokens sp.0 sp.1 sp.2 later (omega arith) in
          let r = each_reach n more (found ++ kids ∷ []) sp.0 sp.1 new rest (omega arith) sp.3 f (omega arith) in
          record {
            same = turned n found scope tokens kids sp.0 sp.1 _ (on scope tokens (kids, sp.0, sp.1, sp.2, later)) e r.same
                ∙ ap (λ (all : List (Trees L)). Some (record { 0 = all; 1 = new; 2 = rest })) (append_assoc found (kids ∷ []) (list_of more));
            listed = ap (Next (Group true kids)) r.listed;
          }
      each_reach (suc n) _ found scope tokens new rest enough sp f small = absurd sp

      several_reach : (each : Trees L) (found : List (Trees L)) (scope : L.Scope) (tokens : List Token) (new : L.Scope) (rest : List Token) →
          SpellsEach L G each a scope tokens new rest → F new rest → nest_all L each ≤ d → Reached each new rest found (several L one test found scope tokens)
      unfolding several
      several_reach each found scope tokens new rest sp f small = each_reach (suc (length tokens)) each found scope tokens new rest (omega arith) sp f small

    module _ (R : Readers L) (d : ℕ) (inner : Inner L) where
      looped : (test : Test L) (a f : Form L) (scope : L.Scope) (tokens : List Token) (each kids : Trees L) (between : L.Scope) (mid : List Token) (new : L.Scope) (rest : List Token) →
          Reached each between mid [] (several L (run L R d inner a) test [] scope tokens) → run L R d inner f between mid ≡ Some (kids, new, rest) →
          run L R d inner (Many test a f) scope tokens ≡ Some (Next (Group true each) kids, new, rest)
      looped test a f scope tokens each kids between mid new rest s e = rw (s.same, e, s.listed) refl

      listed_reach : (test : Test L) (a b f : Form L) (scope : L.Scope) (tokens : List Token) (x each kids : Trees L) (named : L.Scope) (left : List Token) (between : L.Scope) (mid : List Token)
          (new : L.Scope) (rest : List Token) → run L R d inner a scope tokens ≡ Some (x, named, left) →
          Reached each between mid (x ∷ []) (several L (run L R d inner b) test (x ∷ []) named left) → run L R d inner f between mid ≡ Some (kids, new, rest) →
          run L R d inner (Listed test a b f) scope tokens ≡ Some (Next (Group true (Next (Group true x) each)) kids, new, rest)
      unfolding listed
      listed_reach test a b f scope tokens x each kids named left between mid new rest e s g = rw (e, s.same, g, s.listed) refl

    -- ---- forms

    module _ (Ends : Endings L) (R : Readers L) (given : ReadersReach L Ends R) (d : ℕ) (inner : Inner L)
        (inner_reach : (s : L.Sort) (t : Tree L) (scope : L.Scope) (tokens : List Token) (new : L.Scope) (rest : List Token) → Spells L G t s scope tokens new rest → nest L t ≤ d →
        inner s scope tokens ≡ Some (t, new, rest)) where
      pub reach_all : (f : Form L) (F : Follow L) → Good L G Ends f F → (kids : Trees L) (scope : L.Scope) (tokens : List Token) (new : L.Scope) (rest : List Token) →
          SpellsAll L G kids f scope tokens new rest → F new rest → nest_all L kids ≤ d → run L R d inner f scope tokens ≡ Some (kids, new, rest)
      reach_all Done F g Nil scope tokens new rest sp fo small = rw (sp.0, sp.1) refl
      reach_all Done F g _ scope tokens new rest sp fo small = absurd sp
      reach_all (Here f) F g (Next (Place s) kids) scope tokens new rest sp fo small =
          let e = reach_all f F g kids scope tokens new rest sp.1 fo (omega arith) in rw (sp.0, e) refl
      reach_all (Here f) F g _ scope tokens new rest sp fo small = absurd sp
      reach_all (Key k f) F g kids scope tokens new rest sp fo small = rw sp.1 (reach_all f F g kids scope sp.0 new rest sp.2 fo small)
      reach_all (Mark p f) F g kids scope tokens new rest sp fo small = rw sp.1 (reach_all f F g kids scope sp.0 new rest sp.2 fo small)
      reach_all (AName f) F g (Next (Name n) kids) scope tokens new rest sp fo small =
          let e = reach_all f F g kids scope sp.0 new rest sp.2 fo (omega arith) in rw (sp.1, e) refl
      reach_all (AName f) F g _ scope tokens new rest sp fo small = absurd sp
      reach_all (Given r f) F g (Next (Value leaf) kids) scope tokens new rest sp fo small =
          let h = given d r leaf scope tokens sp.0 sp.1 sp.2 (omega arith) ((g leaf).0 sp.0 sp.1 (kids, new, rest, sp.3, fo)) in
          let e = reach_all (f leaf) F (g leaf).1 kids sp.0 sp.1 new rest sp.3 fo (omega arith) in rw (h, e) refl
      reach_all (Given r f) F g _ scope tokens new rest sp fo small = absurd sp
      reach_all (Sub s f) F g (Next t kids) scope tokens new rest sp fo small =
          let h = inner_reach s t scope tokens sp.0 sp.1 sp.2 (omega arith) in
          let e = reach_all f F g kids sp.0 sp.1 new rest sp.3 fo (omega arith) in rw (h, e) refl
      reach_all (Sub s f) F g Nil scope tokens new rest sp fo small = absurd sp
      reach_all (Part a f) F g (Next (Group true x) kids) scope tokens new rest sp fo small =
          let h = reach_all a (Behind L G f F) g.0 x scope tokens sp.0 sp.1 sp.2 (kids, new, rest, sp.3, fo) (omega arith) in
          let e = reach_all f F g.1 kids sp.0 sp.1 new rest sp.3 fo (omega arith) in rw (h, e) refl
      reach_all (Part a f) F g _ scope tokens new rest sp fo small = absurd sp
      reach_all (Scoped a f) F g (Next (Group true x) kids) scope tokens new rest sp fo small =
          let h = reach_all a (BehindScope L G f F scope) (g.0 scope) x scope tokens sp.0 sp.1 sp.2 (kids, new, rest, sp.3, fo) (omega arith) in
          let e = reach_all f F g.1 kids scope sp.1 new rest sp.3 fo (omega arith) in rw (h, e) refl
      reach_all (Scoped a f) F g _ scope tokens new rest sp fo small = absurd sp
      reach_all (Either test a b f) F g (Next (Group true x) kids) scope tokens new rest sp fo small =
          let later : Behind L G f F sp.0 sp.1 = (kids, new, rest, sp.3, fo) in
          let t = g.0 scope tokens (x, sp.0, sp.1, sp.2, later) in
          let h = reach_all a (Behind L G f F) g.2 x scope tokens sp.0 sp.1 sp.2 later (omega arith) in
          let e = reach_all f F g.4 kids sp.0 sp.1 new rest sp.3 fo (omega arith) in rw (t, h, e) refl
      reach_all (Either test a b f) F g (Next (Group false x) kids) scope tokens new rest sp fo small =
          let later : Behind L G f F sp.0 sp.1 = (kids, new, rest, sp.3, fo) in
          let t = g.1 scope tokens (x, sp.0, sp.1, sp.2, later) in
          let h = reach_all b (Behind L G f F) g.3 x scope tokens sp.0 sp.1 sp.2 later (omega arith) in
          let e = reach_all f F g.4 kids sp.0 sp.1 new rest sp.3 fo (omega arith) in rw (t, h, e) refl
      reach_all (Either test a b f) F g _ scope tokens new rest sp fo small = absurd sp
      reach_all (Many test a f) F g (Next (Group true each) kids) scope tokens new rest sp fo small =
          let later : Behind L G f F sp.0 sp.1 = (kids, new, rest, sp.3, fo) in
          let h = several_reach d a (Behind L G f F) (run L R d inner a) test g.2 g.0 g.1 (λ x ns ts n r s b m. reach_all a (BehindEach L G a (Behind L G f F)) g.3 x ns ts n r s b m)
          each [] scope tokens sp.0 sp.1 sp.2 later (omega arith) in
          let e = reach_all f F g.4 kids sp.0 sp.1 new rest sp.3 fo (omega arith) in
          looped R d inner test a f scope tokens each kids sp.0 sp.1 new rest h e
      reach_all (Many test a f) F g _ scope tokens new rest sp fo small = absurd sp
      reach_all (Listed test a b f) F g (Next (Group true (Next (Group true x) more)) kids) scope tokens new rest sp fo small =
          let later : Behind L G f F sp.2 sp.3 = (kids, new, rest, sp.6, fo) in
          let h = reach_all a (BehindEach L G b (Behind L G f F)) g.3 x scope tokens sp.0 sp.1 sp.4 (more, sp.2, sp.3, sp.5, later) (omega arith) in
          let m = several_reach d b (Behind L G f F) (run L R d inner b) test g.2 g.0 g.1 (λ y ns ts n r s c w. reach_all b (BehindEach L G b (Behind L G f F)) g.4 y ns ts n r s c w)
          more (x ∷ []) sp.0 sp.1 sp.2 sp.3 sp.5 later (omega arith) in
          let e = reach_all f F g.5 kids sp.2 sp.3 new rest sp.6 fo (omega arith) in
          listed_reach R d inner test a b f scope tokens x more kids sp.0 sp.1 sp.2 sp.3 new rest h m e
      reach_all (Listed test a b f) F g _ scope tokens new rest sp fo small = absurd sp
      reach_all (Declare names f) F g kids scope tokens new rest sp fo small = reach_all f F g kids (names scope) tokens new rest sp fo small
      reach_all (Unless test f) F g kids scope tokens new rest sp fo small = rw sp.0 (reach_all f F g kids scope tokens new rest sp.1 fo small)

    pub parse_reach : (Ends : Endings L) (R : Readers L) → ReadersReach L Ends R → AllGood L G Ends → PicksAll L G R →
        (d : ℕ) (s : L.Sort) (t : Tree L) (scope : L.Scope) (tokens : List Token) (new : L.Scope) (rest : List Token) →
        Spells L G t s scope tokens new rest → nest L t ≤ d → parse L G R d s scope tokens ≡ Some (t, new, rest)
    parse_reach Ends R given good picked zero s (Node r kids) scope tokens new rest sp small = absurd (omega arith)
    parse_reach Ends R given good picked (suc d) s (Node r kids) scope tokens new rest sp small =
        let p = picked s r kids scope tokens new rest sp.0 sp.1 in
        let e = reach_all Ends R given d (parse L G R d) (parse_reach Ends R given good picked d) (G.form r) (Anything L) (good r) kids scope tokens new rest sp.1 (tt {0}) (omega arith) in
        rw (p, e) refl
    parse_reach Ends R given good picked d s _ scope tokens new rest sp small = absurd sp
