-- A tree that is found, or a longer one; and a tree that a stage of the rule of expressions leaves as it is, or extends where more follows.
use Rattle.std.proofs.Common.{◌≡◌, ℕ, ◌<◌, ◌≤◌, ◌⊎◌, inl, inr, List, [], ◌∷◌, length, Option, None, Some, refl, ◌∙◌, ap, subst, arith}
use Rattle.c_base.specs.declared.token.Token.{Token}
use Rattle.c_tree.specs.Trees.{Tree, Trees, Nil, Next}
use Rattle.c_tree.specs.Views.{listed}
use Rattle.c_tree.specs.WellFormed.{AreThere}
use Rattle.c_parse_rules.proofs.Laws.{Reached}
use Rattle.c_parse_rules.specs.Rules.{Found, Several}
use Rattle.c_parse_rules.proofs.exprs.Collecting.{Meets}
use Rattle.c_parse_rules.proofs.exprs.Follows.{Goes, goes_weaker}
use Rattle.c_parse_rules.proofs.exprs.Listing.{plain_list, listed_plain}

pub meets_of : (level : ℕ) (o : Option Found) (t : Tree) (rest : List Token) → Reached level o t rest → Meets (Goes level) o t rest
meets_of level None t rest h = h
meets_of level (Some found) t rest h = h

pub reached_of : (level : ℕ) (o : Option Found) (t : Tree) (rest : List Token) → Meets (Goes level) o t rest → Reached level o t rest
reached_of level None t rest h = h
reached_of level (Some found) t rest h = h

-- where nothing goes on, just this tree is found
pub exactly : (level : ℕ) (o : Option Found) (t : Tree) (rest : List Token) → Meets (Goes level) o t rest → (Goes level rest → ⊥) → o ≡ Some (t, rest)
exactly level None t rest h stops = absurd h
exactly level (Some found) t rest (inl e) stops = ap Some e
exactly level (Some found) t rest (inr h) stops = absurd (stops h.1)

pub meets_weaker : (j k : ℕ) (o : Option Found) (t : Tree) (rest : List Token) → (Goes k rest → Goes j rest) → Meets (Goes k) o t rest → Meets (Goes j) o t rest
meets_weaker j k None t rest f h = h
meets_weaker j k (Some found) t rest f (inl e) = inl e
meets_weaker j k (Some found) t rest f (inr h) = inr (h.0, f h.1)

-- nothing is added, or something where what was left goes on
abbrev pub Grown : ℕ → Found → Found → Type 0
Grown level found later = (later ≡ found) ⊎ ((length later.1 < length found.1) × Goes level found.1)

pub grown_none : (level : ℕ) (found : Found) → Grown level found found
grown_none level found = inl refl

pub grown_weaker : (j k : ℕ) (found later : Found) → j ≤ k → Grown k found later → Grown j found later
grown_weaker j k found later le (inl e) = inl e
grown_weaker j k found later le (inr h) = inr (h.0, goes_weaker j k found.1 le h.1)

pub grown_on : (level : ℕ) (found later last : Found) → Grown level found later → Grown level later last → Grown level found last
grown_on level found later last (inl e) g = subst (λ (x : Found). Grown level x last) e g
grown_on level found later last (inr h) (inl e) = inr (rw e h.0, h.1)
grown_on level found later last (inr h) (inr k) = let a = h.0 in let b = k.0 in inr (omega arith, h.1)

pub meets_grown : (j k : ℕ) (found later : Found) (t : Tree) (rest : List Token) → j ≤ k → Meets (Goes k) (Some found) t rest → Grown j found later → Meets (Goes j) (Some later) t rest
meets_grown j k found later t rest le (inl e) (inl f) = inl (f ∙ e)
meets_grown j k found later t rest le (inl e) (inr h) =
    let same = ap (λ (x : Found). x.1) e in
    inr (subst (λ (x : List Token). length later.1 < length x) same h.0, subst (Goes j) same h.1)
meets_grown j k found later t rest le (inr h) (inl f) = inr (rw f h.0, goes_weaker j k rest le h.1)
meets_grown j k found later t rest le (inr h) (inr g) = let a = h.0 in let b = g.0 in inr (omega arith, goes_weaker j k rest le h.1)

-- a node of a first operand and what was collected behind it, if there is any
abbrev pub joined : (Tree → Trees → Tree) → Found → Several → Found
joined node found ([], rest) = found
joined node found (t ∷ more, rest) = (node found.0 (listed (t ∷ more)), rest)

pub joined_grown : (level : ℕ) (node : Tree → Trees → Tree) (found : Found) (several : Several) →
    (several ≡ ([], found.1)) ⊎ ((length several.1 < length found.1) × Goes level found.1) → Grown level found (joined node found several)
joined_grown level node found ([], rest) h = inl refl
joined_grown level node found (t ∷ more, rest) (inl e) = let list = ap (λ (x : Several). x.0) e in absurd (cc)
joined_grown level node found (t ∷ more, rest) (inr h) = inr h

-- the node is found, or a longer one
pub joined_meets : (level : ℕ) (node : Tree → Trees → Tree) (first : Tree) (more : Trees) (behind rest : List Token) (several : Several) → AreThere more →
    length rest ≤ length behind → (several.0 ≡ [] → behind ≡ several.1) →
    (several ≡ (plain_list more, rest)) ⊎ ((length several.1 < length rest) × Goes level rest) →
    Meets (Goes level) (Some (joined node (first, behind) several)) (node first more) rest
joined_meets level node first Nil behind rest several there le none h = absurd there
joined_meets level node first (Next t more) behind rest several there le none (inl e) =
    inl (ap (joined node (first, behind)) e ∙ ap (λ (x : Trees). (node first x, rest)) (listed_plain (Next t more)))
joined_meets level node first (Next t more) behind rest ([], left) there le none (inr h) = let l = h.0 in let same = ap length (none refl) in absurd (omega arith)
joined_meets level node first (Next t more) behind rest (x ∷ xs, left) there le none (inr h) = inr h
