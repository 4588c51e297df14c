-- What is read as a unit is the unit that is promised.
use Rattle.std.proofs.Common.{◌≡◌, ℕ, ◌≤◌, List, [], ◌∷◌, false, Option, None, Some, sym, refl}
use Rattle.c_base.specs.declared.token.Token.{Token}
use Rattle.c_tree.specs.WellFormed.{Names}
use Rattle.grammar.specs.Forms.{Done, Sub, Trees}
use Rattle.grammar.specs.Reading.{Several, several}
use Rattle.c_grammar.specs.declared.rule.Sort.TheVariants as sort
use Rattle.c_grammar.specs.Leaves.{C}
use Rattle.c_grammar.specs.Units.{on_token, parse_unit}
use Rattle.c_grammar.proofs.Exactly.{none_where_none, one_unit, units_exact}
use Rattle.c_unit_tree.specs.Views.{kids, listing}
use Rattle.c_parse_initialisers.specs.Reads.{at}
use Rattle.c_parse_unit.specs.Promises.{HasNoUnit, IsUnitRead}
use Rattle.c_unit_words.proofs.Spelled.{unit_spelled}

pub unit_read : (d : ℕ) (all : Trees C) (new : Names) (tokens : List Token) → Some (all, new, []) ≡ parse_unit d tokens → IsUnitRead d all tokens
unit_read d all new tokens e =
    let h = (units_exact d tokens all new).0 (sym e) in
    record { names = new; unit = h.0; shallow = h.1; words = unit_spelled all tokens new h.0; only = λ other behind is. (one_unit tokens other all behind new is h.0).0 }

pub no_unit : (d : ℕ) (tokens : List Token) → None ≡ parse_unit d tokens → HasNoUnit d tokens
no_unit d tokens e = (none_where_none d tokens).0 (sym e)

-- where no token is left all are read
pub all_read : (all : List (Trees C)) (names : Names) (rest : List Token) (whole : Option (Several C)) → on_token names rest ≡ false → Some (all, names, rest) ≡ whole →
    Some (all, names, []) ≡ whole
all_read all names [] whole h e = e
all_read all names (t ∷ rest) whole h e = absurd (cc)

-- a unit of the external declarations that were read
pub unit_some : (d : ℕ) (all : List (Trees C)) (old new : Names) (tokens : List Token) → old ≡ [] →
    Some (all, new, []) ≡ several C (at d (Sub sort.External Done)) on_token [] old tokens → Some (kids (listing all ∷ []), new, []) ≡ parse_unit d tokens
unit_some d all old new tokens empty e = let f = rw empty at e in rw (← f) refl

pub unit_none : (d : ℕ) (old : Names) (tokens : List Token) → old ≡ [] →
    None ≡ several C (at d (Sub sort.External Done)) on_token [] old tokens → None ≡ parse_unit d tokens
unit_none d old tokens empty e = let f = rw empty at e in rw (← f) refl
