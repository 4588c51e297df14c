-- Loops that read one thing after another.
use Rattle.std.proofs.Common.{◌≡◌, ℕ, zero, suc, ◌<◌, true, false, List, [], ◌∷◌, ◌++◌, length, map, Option, None, Some, refl, sym, ◌∙◌, ap, arith}
use Rattle.c_base.specs.declared.token.Token.{Token}
use Rattle.grammar.specs.Forms.{Language, Trees, Test}
use Rattle.grammar.specs.Reading.{One, Ran, Several, many, several}

pub map_more : {T U : Type 0} (f : T → U) (all : List T) (x : T) → map f (all ++ x ∷ []) ≡ map f all ++ f x ∷ []
map_more f [] x = refl
map_more {T} {U} f (y ∷ all) x = ap (λ (more : List U). f y ∷ more) (map_more f all x)

module _ (L : Language) where
  -- what is found in all is found from here
  pub record Midst {T : Type 0} (kids : T → Trees L) (one : One L) (test : Test L) (whole : Option (Several L)) (found : List T) (scope : L.Scope) (rest : List Token) : Type 0 where
    pub rounds : ℕ
    pub enough : length rest < rounds
    pub same : whole ≡ many L one test rounds (map kids found) scope rest

  module _ {T : Type 0} (kids : T → Trees L) (one : One L) (test : Test L) (whole : Option (Several L)) where
    turn : (n : ℕ) (found : List (Trees L)) (scope : L.Scope) (rest : List Token) (r : Ran L) → test scope rest ≡ true → one scope rest ≡ Some r →
        many L one test (suc n) found scope rest ≡ many L one test n (found ++ r.0 ∷ []) r.1 r.2
    turn n found scope rest r t e = rw (t, e) refl

    lost : (n : ℕ) (found : List (Trees L)) (scope : L.Scope) (rest : List Token) → test scope rest ≡ true → one scope rest ≡ None →
        many L one test (suc n) found scope rest ≡ None
    lost n found scope rest t e = rw (t, e) refl

    ended : (n : ℕ) (found : List (Trees L)) (scope : L.Scope) (rest : List Token) → test scope rest ≡ false → many L one test (suc n) found scope rest ≡ Some (found, scope, rest)
    ended n found scope rest t = rw t refl

    go_on : (n : ℕ) (found found' : List T) (scope scope' : L.Scope) (rest rest' : List Token) (x : T) → length rest < n → whole ≡ many L one test n (map kids found) scope rest →
        test scope rest ≡ true → Some (kids x, scope', rest') ≡ one scope rest → length rest' < length rest → found' ≡ found ++ x ∷ [] →
        Midst kids one test whole found' scope' rest'
    go_on zero found found' scope scope' rest rest' x enough same t e less more = absurd (omega arith)
    go_on (suc n) found found' scope scope' rest rest' x enough same t e less more = record {
      rounds = n;
      enough = omega arith;
      same = same ∙ turn n (map kids found) scope rest (kids x, scope', rest') t (sym e)
          ∙ ap (λ (all : List (Trees L)). many L one test n all scope' rest') (sym (map_more kids found x) ∙ ap (map kids) (sym more));
    }

    pub midst_on : {found found' : List T} {scope scope' : L.Scope} {rest rest' : List Token} (x : T) → Midst kids one test whole found scope rest →
        test scope rest ≡ true → Some (kids x, scope', rest') ≡ one scope rest → length rest' < length rest → found' ≡ found ++ x ∷ [] →
        Midst kids one test whole found' scope' rest'
    midst_on {found} {found'} {scope} {scope'} {rest} {rest'} x m t e less more = go_on m.rounds found found' scope scope' rest rest' x m.enough m.same t e less more

    stop : (n : ℕ) (found : List (Trees L)) (scope : L.Scope) (rest : List Token) → length rest < n → test scope rest ≡ false → many L one test n found scope rest ≡ Some (found, scope, rest)
    stop zero found scope rest enough t = absurd (omega arith)
    stop (suc n) found scope rest enough t = ended n found scope rest t

    pub midst_end : {found : List T} {scope : L.Scope} {rest : List Token} → Midst kids one test whole found scope rest → test scope rest ≡ false →
        Some (map kids found, scope, rest) ≡ whole
    midst_end {found} {scope} {rest} m t = sym (m.same ∙ stop m.rounds (map kids found) scope rest m.enough t)

    fail : (n : ℕ) (found : List (Trees L)) (scope : L.Scope) (rest : List Token) → length rest < n → test scope rest ≡ true → one scope rest ≡ None → many L one test n found scope rest ≡ None
    fail zero found scope rest enough t e = absurd (omega arith)
    fail (suc n) found scope rest enough t e = lost n found scope rest t e

    pub midst_none : {found : List T} {scope : L.Scope} {rest : List Token} → Midst kids one test whole found scope rest → test scope rest ≡ true → None ≡ one scope rest →
        None ≡ whole
    midst_none {found} {scope} {rest} m t e = sym (m.same ∙ fail m.rounds (map kids found) scope rest m.enough t (sym e))

  -- the loop of a form
  pub several_begun : {T : Type 0} (kids : T → Trees L) (one : One L) (test : Test L) (scope : L.Scope) (tokens : List Token) (found : List T) →
      Midst kids one test (several L one test (map kids found) scope tokens) found scope tokens
  unfolding several
  several_begun kids one test scope tokens found = record { rounds = suc (length tokens); enough = omega arith; same = refl }
