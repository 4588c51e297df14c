-- Reading by a grammar is exact, where its choices are told by the tokens and its readers keep their promises.
use Rattle.std.proofs.Common.{◌≡◌, ℕ, List, Option, None, Some, sym, ◌∙◌}
use Rattle.std.proofs.lemmas.Option.{none-some, same_Some}
use Rattle.c_base.specs.declared.token.Token.{Token}
use Rattle.grammar.specs.Forms.{Language, Grammar}
use Rattle.grammar.specs.Promises.{IsExact, IsRead}
use Rattle.grammar.specs.Reading.{Found, Readers, parse}
use Rattle.grammar.proofs.Reach.{parse_reach}
use Rattle.grammar.proofs.Sound.{ReadersSound, PicksRight, parse_sound}
use Rattle.grammar.proofs.Telling.{Endings, ReadersReach, AllGood, PicksAll}

module _ (L : Language) (G : Grammar L) (R : Readers L) (Ends : Endings L) (sound : ReadersSound L R) (reached : ReadersReach L Ends R) (right : PicksRight L G R)
    (picked : PicksAll L G R) (good : AllGood L G Ends) where
  pub exact : IsExact L G R
  exact = λ d s scope tokens x. (
    (λ e. parse_sound L G R sound right d s scope tokens x e),
    (λ h. parse_reach L G Ends R reached good picked d s x.0 scope tokens x.1 x.2 h.0 h.1),
  )

pub is_read : (L : Language) (G : Grammar L) (R : Readers L) → IsExact L G R → (d : ℕ) (s : L.Sort) (scope : L.Scope) (tokens : List Token) (o : Option (Found L)) →
    o ≡ parse L G R d s scope tokens → IsRead L G d s scope tokens o
is_read L G R exact d s scope tokens None e = λ x h small. none-some x (e ∙ (exact d s scope tokens x).1 (h, small))
is_read L G R exact d s scope tokens (Some x) e =
    let h = (exact d s scope tokens x).0 (sym e) in (h.0, h.1, λ y g small. sym (same_Some x y (e ∙ (exact d s scope tokens y).1 (g, small))))
