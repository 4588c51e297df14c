-- What is read is spelled by the tokens, and nests no deeper than it may.
use Rattle.std.proofs.Common.{◌≡◌, ℕ, zero, suc, ◌≤◌, Bool, true, false, cond, IsTrue, List, [], ◌∷◌, ◌++◌, length, Option, None, Some, refl, sym, ◌∙◌, subst, arith, append_assoc, append-nil}
use Rattle.std.proofs.lemmas.Option.{none-some, same_Some as same_some}
use Rattle.c_base.specs.declared.token.Keyword.{Keyword}
use Rattle.c_base.specs.declared.token.Punctuator.{Punctuator}
use Rattle.c_base.specs.declared.token.Token.{Token}
use Rattle.c_parse_rules.specs.Tokens.{◌>>=◌, behind_key, behind_mark, name_at}
use Rattle.grammar.specs.Forms.{Language, Tree, Place, Name, Value, Group, Trees, Next, Test, Form, Done, Here, Key, Mark, AName, Given, Sub, Part, Scoped, Either, Many, Listed, Declare, Unless, Grammar}
use Rattle.grammar.specs.Reading.{Taken, Found, Inner, Ran, Several, One, Readers, with_kid, many, several, listed, groups, run, node, rule_at, parse}
use Rattle.grammar.specs.Spelling.{place_at, Spells, SpellsAll, SpellsEach, nest, nest_all}

-- ---- steps

pub bound : {A B P : Type 0} (o : Option A) (f : A → Option B) (y : B) → o >>= f ≡ Some y → ((x : A) → o ≡ Some x → f x ≡ Some y → P) → P
bound None f y e k = absurd (none-some y e)
bound (Some x) f y e k = k x refl e

pub either_bound : {A P : Type 0} (b : Bool) (x y : Option A) (r : A) → cond b x y ≡ Some r → (b ≡ true → x ≡ Some r → P) → (b ≡ false → y ≡ Some r → P) → P
either_bound true x y r e k l = k refl e
either_bound false x y r e k l = l refl e

module _ (L : Language) where
  pub kid_bound : (P : Ran L → Type 0) (t : Tree L) (o : Option (Ran L)) (r : Ran L) → with_kid L t o ≡ Some r → ((k : Ran L) → o ≡ Some k → P (Next t k.0, k.1, k.2)) → P r
  kid_bound P t None r e k = absurd (none-some r e)
  kid_bound P t (Some x) r e k = subst P (same_some _ r e) (k x refl)

  -- what the readers promise: what they read stands there, and nests no deeper
  abbrev pub ReadersSound : Readers L → Type 0
  ReadersSound R = (d : ℕ) (g : L.Reader) (scope : L.Scope) (tokens : List Token) (t : Taken L) → R.read d g scope tokens ≡ Some t →
      L.IsFront g t.0 scope tokens t.1 t.2 × (L.deep t.0 ≤ d)

  module _ (G : Grammar L) where
    -- ---- forms whose words have no tree of their own

    key_spells : (kids : Trees L) (k : Keyword) (f : Form L) (scope : L.Scope) (tokens mid : List Token) (new : L.Scope) (rest : List Token) → behind_key k tokens ≡ Some mid →
        SpellsAll L G kids f scope mid new rest → SpellsAll L G kids (Key k f) scope tokens new rest
    key_spells kids k f scope tokens mid new rest e s = (mid, e, s)

    mark_spells : (kids : Trees L) (p : Punctuator) (f : Form L) (scope : L.Scope) (tokens mid : List Token) (new : L.Scope) (rest : List Token) → behind_mark p tokens ≡ Some mid →
        SpellsAll L G kids f scope mid new rest → SpellsAll L G kids (Mark p f) scope tokens new rest
    mark_spells kids p f scope tokens mid new rest e s = (mid, e, s)

    declare_spells : (kids : Trees L) (names : L.Scope → L.Scope) (f : Form L) (scope : L.Scope) (tokens : List Token) (new : L.Scope) (rest : List Token) →
        SpellsAll L G kids f (names scope) tokens new rest → SpellsAll L G kids (Declare names f) scope tokens new rest
    declare_spells kids names f scope tokens new rest s = s

    unless_spells : (kids : Trees L) (test : Test L) (f : Form L) (scope : L.Scope) (tokens : List Token) (new : L.Scope) (rest : List Token) → test scope tokens ≡ false →
        SpellsAll L G kids f scope tokens new rest → SpellsAll L G kids (Unless test f) scope tokens new rest
    unless_spells kids test f scope tokens new rest e s = (e, s)

    -- what is found stands there, and is at most so deep
    pub record Sound (d : ℕ) (f : Form L) (scope : L.Scope) (tokens : List Token) (r : Ran L) : Type 0 where
      pub spells : SpellsAll L G r.0 f scope tokens r.1 r.2
      pub shallow : nest_all L r.0 ≤ d

    pub record SoundEach (d : ℕ) (f : Form L) (scope : L.Scope) (tokens : List Token) (found : List (Trees L)) (s : Several L) : Type 0 where
      pub more : List (Trees L)
      pub same : s.0 ≡ found ++ more
      pub spells : SpellsEach L G (groups L more) f scope tokens s.1 s.2
      pub shallow : nest_all L (groups L more) ≤ d

    each_sound : (d : ℕ) (f : Form L) (one : One L) (test : Test L) →
        ((scope : L.Scope) (tokens : List Token) (r : Ran L) → one scope tokens ≡ Some r → Sound d f scope tokens r) →
        (n : ℕ) (found : List (Trees L)) (scope : L.Scope) (tokens : List Token) (s : Several L) → many L one test n found scope tokens ≡ Some s →
        SoundEach d f scope tokens found s
    each_sound d f one test sound zero found scope tokens s e = absurd (none-some s e)
    each_sound d f one test sound (suc n) found scope tokens s e =
        either_bound (test scope tokens) _ _ s e
        (λ t e2. bound (one scope tokens) _ s e2 (λ r p e3.
        let h = sound scope tokens r p in
        let i = each_sound d f one test sound n (found ++ r.0 ∷ []) r.1 r.2 s e3 in
        let a = h.shallow in let b = i.shallow in
        record {
          more = r.0 ∷ i.more;
          same = i.same ∙ append_assoc found (r.0 ∷ []) i.more;
          spells = (r.1, r.2, h.spells, i.spells);
          shallow = omega arith;
        }))
        (λ t e2. subst (λ (x : Several L). SoundEach d f scope tokens found x) (same_some _ s e2) (record { more = []; same = sym (append-nil found); spells = (refl, refl); shallow = omega arith }))

    several_sound : (d : ℕ) (a : Form L) (one : One L) (test : Test L) → ((scope : L.Scope) (tokens : List Token) (r : Ran L) → one scope tokens ≡ Some r → Sound d a scope tokens r) →
        (found : List (Trees L)) (scope : L.Scope) (tokens : List Token) (s : Several L) → several L one test found scope tokens ≡ Some s → SoundEach d a scope tokens found s
    unfolding several
    several_sound d a one test sound found scope tokens s p = each_sound d a one test sound (suc (length tokens)) found scope tokens s p

    -- what is found in a list
    record SoundList (d : ℕ) (a b : Form L) (scope : L.Scope) (tokens : List Token) (s : Several L) : Type 0 where
      pub first : Trees L
      pub more : List (Trees L)
      pub same : s.0 ≡ first ∷ more
      pub named : L.Scope
      pub left : List Token
      pub first_spells : SpellsAll L G first a scope tokens named left
      pub first_shallow : nest_all L first ≤ d
      pub spells : SpellsEach L G (groups L more) b named left s.1 s.2
      pub shallow : nest_all L (groups L more) ≤ d

    listed_sound : (d : ℕ) (a b : Form L) (one another : One L) (test : Test L) →
        ((scope : L.Scope) (tokens : List Token) (r : Ran L) → one scope tokens ≡ Some r → Sound d a scope tokens r) →
        ((scope : L.Scope) (tokens : List Token) (r : Ran L) → another scope tokens ≡ Some r → Sound d b scope tokens r) →
        (scope : L.Scope) (tokens : List Token) (s : Several L) → listed L one another test scope tokens ≡ Some s → SoundList d a b scope tokens s
    unfolding listed
    listed_sound d a b one another test first more scope tokens s e =
        bound (one scope tokens) _ s e (λ x p e1.
        let h = first scope tokens x p in
        let c = several_sound d b another test more (x.0 ∷ []) x.1 x.2 s e1 in
        record {
          first = x.0;
          more = c.more;
          same = c.same;
          named = x.1;
          left = x.2;
          first_spells = h.spells;
          first_shallow = h.shallow;
          spells = c.spells;
          shallow = c.shallow;
        })

    module _ (R : Readers L) (given : ReadersSound R) (d : ℕ) (inner : Inner L)
        (inner_sound : (s : L.Sort) (scope : L.Scope) (tokens : List Token) (x : Found L) → inner s scope tokens ≡ Some x → Spells L G x.0 s scope tokens x.1 x.2 × (nest L x.0 ≤ d)) where
      pub sound_all : (f : Form L) (scope : L.Scope) (tokens : List Token) (r : Ran L) → run L R d inner f scope tokens ≡ Some r → Sound d f scope tokens r
      sound_all Done scope tokens r e = subst (λ (x : Ran L). Sound d Done scope tokens x) (same_some _ r e) (record { spells = (refl, refl); shallow = omega arith })
      sound_all (Here f) scope tokens r e =
          bound (place_at tokens) _ r e (λ span p e2. kid_bound (λ (x : Ran L). Sound d (Here f) scope tokens x) (Place span) _ r e2 (λ k q.
          let s = sound_all f scope tokens k q in let n = s.shallow in record { spells = (p, s.spells); shallow = omega arith }))
      sound_all (Key w f) scope tokens r e =
          bound (behind_key w tokens) _ r e (λ mid p e2. let s = sound_all f scope mid r e2 in record { spells = key_spells r.0 w f scope tokens mid r.1 r.2 p s.spells; shallow = s.shallow })
      sound_all (Mark w f) scope tokens r e =
          bound (behind_mark w tokens) _ r e (λ mid p e2. let s = sound_all f scope mid r e2 in record { spells = mark_spells r.0 w f scope tokens mid r.1 r.2 p s.spells; shallow = s.shallow })
      sound_all (AName f) scope tokens r e =
          bound (name_at tokens) _ r e (λ n p e2. kid_bound (λ (x : Ran L). Sound d (AName f) scope tokens x) (Name n.0) _ r e2 (λ k q.
          let s = sound_all f scope n.1 k q in let m = s.shallow in record { spells = (n.1, p, s.spells); shallow = omega arith }))
      sound_all (Given g f) scope tokens r e =
          bound (R.read d g scope tokens) _ r e (λ t p e2. kid_bound (λ (x : Ran L). Sound d (Given g f) scope tokens x) (Value t.0) _ r e2 (λ k q.
          let h = given d g scope tokens t p in
          let s = sound_all (f t.0) t.1 t.2 k q in let m = s.shallow in let o = h.1 in record { spells = (t.1, t.2, h.0, s.spells); shallow = omega arith }))
      sound_all (Sub w f) scope tokens r e =
          bound (inner w scope tokens) _ r e (λ t p e2. kid_bound (λ (x : Ran L). Sound d (Sub w f) scope tokens x) t.0 _ r e2 (λ k q.
          let h = inner_sound w scope tokens t p in
          let s = sound_all f t.1 t.2 k q in let m = s.shallow in let o = h.1 in record { spells = (t.1, t.2, h.0, s.spells); shallow = omega arith }))
      sound_all (Part a f) scope tokens r e =
          bound (run L R d inner a scope tokens) _ r e (λ x p e2. kid_bound (λ (y : Ran L). Sound d (Part a f) scope tokens y) (Group true x.0) _ r e2 (λ k q.
          let h = sound_all a scope tokens x p in
          let s = sound_all f x.1 x.2 k q in let m = s.shallow in let o = h.shallow in record { spells = (x.1, x.2, h.spells, s.spells); shallow = omega arith }))
      sound_all (Scoped a f) scope tokens r e =
          bound (run L R d inner a scope tokens) _ r e (λ x p e2. kid_bound (λ (y : Ran L). Sound d (Scoped a f) scope tokens y) (Group true x.0) _ r e2 (λ k q.
          let h = sound_all a scope tokens x p in
          let s = sound_all f scope x.2 k q in let m = s.shallow in let o = h.shallow in record { spells = (x.1, x.2, h.spells, s.spells); shallow = omega arith }))
      sound_all (Either test a b f) scope tokens r e =
          either_bound (test scope tokens) _ _ r e
          (λ t e1. bound (run L R d inner a scope tokens) _ r e1 (λ x p e2. kid_bound (λ (y : Ran L). Sound d (Either test a b f) scope tokens y) (Group true x.0) _ r e2 (λ k q.
          let h = sound_all a scope tokens x p in
          let s = sound_all f x.1 x.2 k q in let m = s.shallow in let o = h.shallow in record { spells = (x.1, x.2, h.spells, s.spells); shallow = omega arith })))
          (λ t e1. bound (run L R d inner b scope tokens) _ r e1 (λ x p e2. kid_bound (λ (y : Ran L). Sound d (Either test a b f) scope tokens y) (Group false x.0) _ r e2 (λ k q.
          let h = sound_all b scope tokens x p in
          let s = sound_all f x.1 x.2 k q in let m = s.shallow in let o = h.shallow in record { spells = (x.1, x.2, h.spells, s.spells); shallow = omega arith })))
      sound_all (Many test a f) scope tokens r e =
          bound (several L (run L R d inner a) test [] scope tokens) _ r e (λ x p e2. kid_bound (λ (y : Ran L). Sound d (Many test a f) scope tokens y) (Group true (groups L x.0)) _ r e2 (λ k q.
          let h = several_sound d a (run L R d inner a) test (λ ns ts y w. sound_all a ns ts y w) [] scope tokens x p in
          let s = sound_all f x.1 x.2 k q in let m = s.shallow in let o = h.shallow in
          rw h.same (record { spells = (x.1, x.2, h.spells, s.spells); shallow = omega arith })))
      sound_all (Listed test a b f) scope tokens r e =
          bound (listed L (run L R d inner a) (run L R d inner b) test scope tokens) _ r e (λ s q e2.
          kid_bound (λ (y : Ran L). Sound d (Listed test a b f) scope tokens y) (Group true (groups L s.0)) _ r e2 (λ k w.
          let c = listed_sound d a b (run L R d inner a) (run L R d inner b) test (λ ns ts y v. sound_all a ns ts y v) (λ ns ts y v. sound_all b ns ts y v) scope tokens s q in
          let i = sound_all f s.1 s.2 k w in
          let m = c.first_shallow in let n = c.shallow in let o = i.shallow in
          rw c.same (record { spells = (c.named, c.left, s.1, s.2, c.first_spells, c.spells, i.spells); shallow = omega arith })))
      sound_all (Declare names f) scope tokens r e =
          let s = sound_all f (names scope) tokens r e in record { spells = declare_spells r.0 names f scope tokens r.1 r.2 s.spells; shallow = s.shallow }
      sound_all (Unless test f) scope tokens r e =
          either_bound (test scope tokens) None _ r e (λ t e1. absurd (none-some r e1))
          (λ t e1. let s = sound_all f scope tokens r e1 in record { spells = unless_spells r.0 test f scope tokens r.1 r.2 t s.spells; shallow = s.shallow })

      node_sound : (s : L.Sort) (r : L.Rule) (scope : L.Scope) (tokens : List Token) (o : Option (Ran L)) (x : Found L) → IsTrue (G.belongs s r) → node L G R r o ≡ Some x →
          ((k : Ran L) → o ≡ Some k → Sound d (G.form r) scope tokens k) → Spells L G x.0 s scope tokens x.1 x.2 × (nest L x.0 ≤ suc d)
      node_sound s r scope tokens None x b e k = absurd (none-some x e)
      node_sound s r scope tokens (Some y) x b e k =
          let h = k y refl in let n = h.shallow in
          subst (λ (z : Found L). Spells L G z.0 s scope tokens z.1 z.2 × (nest L z.0 ≤ suc d)) (same_some _ x e) ((b, h.spells), omega arith)

      pub rule_sound : (s : L.Sort) (r : L.Rule) (scope : L.Scope) (tokens : List Token) (x : Found L) → IsTrue (G.belongs s r) → rule_at L G R d inner r scope tokens ≡ Some x →
          Spells L G x.0 s scope tokens x.1 x.2 × (nest L x.0 ≤ suc d)
      rule_sound s r scope tokens x b e = node_sound s r scope tokens (run L R d inner (G.form r) scope tokens) x b e (λ k q. sound_all (G.form r) scope tokens k q)

    -- the rule that is picked is one of the sort
    abbrev pub PicksRight : Readers L → Type 0
    PicksRight R = (s : L.Sort) (scope : L.Scope) (tokens : List Token) (r : L.Rule) → R.pick s scope tokens ≡ Some r → IsTrue (G.belongs s r)

    pub parse_sound : (R : Readers L) → ReadersSound R → PicksRight R → (d : ℕ) (s : L.Sort) (scope : L.Scope) (tokens : List Token) (x : Found L) →
        parse L G R d s scope tokens ≡ Some x → Spells L G x.0 s scope tokens x.1 x.2 × (nest L x.0 ≤ d)
    parse_sound R given right zero s scope tokens x e = absurd (none-some x e)
    parse_sound R given right (suc d) s scope tokens x e =
        bound (R.pick s scope tokens) _ x e (λ r p e2. rule_sound R given d (parse L G R d) (parse_sound R given right d) s r scope tokens x (right s scope tokens r p) e2)
