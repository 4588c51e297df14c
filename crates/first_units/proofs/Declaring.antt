-- The rounds of the loop that reads declarations.
use Rattle.std.proofs.Common.{◌≡◌, ℕ, Bool, true, false, not, List, [], ◌∷◌, ◌++◌, Option, None, Some, refl, sym, ◌∙◌, ap}
use Rattle.std.specs.Prelude.{bytes_eq, if◌then◌else◌}
use Rattle.std.specs.List.{list_any}
use Rattle.grammar.specs.Forms.{Next, Tree}
use Rattle.c_grammar.specs.Leaves.{C}
use Rattle.c_unit_tree.specs.Views.{some}
use Rattle.first_units.specs.Language.{variable_in, variables_in}
use Rattle.first_units.specs.Views.{Item, items_kids}

-- so far these names are read, and the rest is left
pub record Declares (names keys : List (List ℕ)) (all rest : List Item) : Type 0 where
  pub same : variables_in [] (items_kids all) ≡ variables_in names (items_kids rest)
  pub keyed : keys ≡ names

pub declared_all : (names keys : List (List ℕ)) (all rest : List Item) → Declares names keys all rest →
    ((before : List (List ℕ)) → variables_in before (items_kids rest) ≡ Some (before, items_kids rest)) → Some (names, items_kids rest) ≡ variables_in [] (items_kids all)
declared_all names keys all rest d e = sym (d.same ∙ e names)

module _ (names keys : List (List ℕ)) (all rest next : List Item) (t : Tree C) (d : Declares names keys all rest) (begins : items_kids rest ≡ Next (some (some (t ∷ []) ∷ [])) (items_kids next)) where
  pub declared_wrong : None ≡ variable_in t → None ≡ variables_in [] (items_kids all)
  declared_wrong e = rw (d.same, begins, ← e) refl

  pub declared_twice : (name : List ℕ) → Some name ≡ variable_in t → list_any (bytes_eq name) names ≡ true → None ≡ variables_in [] (items_kids all)
  declared_twice name e twice = rw (d.same, begins, ← e, twice) refl

  pub declared_step : (now keys' : List (List ℕ)) (name : List ℕ) → Some name ≡ variable_in t → list_any (bytes_eq name) names ≡ false →
      now ≡ names ++ name ∷ [] → keys' ≡ names ++ name ∷ [] → Declares now keys' all next
  declared_step now keys' name e fresh more keyed = record { same = d.same ∙ rw (begins, ← e, fresh, more) refl; keyed = keyed ∙ sym more }

-- what the insertion of a name into the names for look-ups tells
pub inserted_twice : (keys names : List (List ℕ)) (value name : List ℕ) (added : Bool) → keys ≡ names → value ≡ name →
    added ≡ not (list_any (bytes_eq value) keys) → added ≡ false → list_any (bytes_eq name) names ≡ true
inserted_twice keys names value name added e f a b =
    let k : list_any (bytes_eq value) keys ≡ list_any (bytes_eq name) names = λ i. list_any (bytes_eq (f i)) (e i) in
    back (list_any (bytes_eq name) names) (a ∙ ap not k)
  where
    back : (b' : Bool) → added ≡ not b' → b' ≡ true
    back true h = refl
    back false h = absurd (cc)

pub inserted_new : (keys names : List (List ℕ)) (value name : List ℕ) (added : Bool) → keys ≡ names → value ≡ name →
    added ≡ not (list_any (bytes_eq value) keys) → added ≡ true → list_any (bytes_eq name) names ≡ false
inserted_new keys names value name added e f a b =
    let k : list_any (bytes_eq value) keys ≡ list_any (bytes_eq name) names = λ i. list_any (bytes_eq (f i)) (e i) in
    back (list_any (bytes_eq name) names) (a ∙ ap not k)
  where
    back : (b' : Bool) → added ≡ not b' → b' ≡ false
    back true h = absurd (cc)
    back false h = refl

pub inserted_keys : (keys names now : List (List ℕ)) (value name : List ℕ) → keys ≡ names → value ≡ name → list_any (bytes_eq name) names ≡ false →
    now ≡ (if list_any (bytes_eq value) keys then keys else keys ++ value ∷ []) → now ≡ names ++ name ∷ []
inserted_keys keys names now value name e f fresh a =
    let k : list_any (bytes_eq value) keys ≡ false = (λ i. list_any (bytes_eq (f i)) (e i)) ∙ fresh in
    rw k at a ∙ (λ i. e i ++ f i ∷ [])
