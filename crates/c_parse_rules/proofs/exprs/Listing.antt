-- Trees side by side: what a loop collects is a list of them, and the trees of a list are what a loop meets.
use Rattle.std.proofs.Common.{◌≡◌, ℕ, ◌≤◌, List, [], ◌∷◌, ◌++◌, refl, sym, ap, subst, arith}
use Rattle.c_base.specs.declared.token.Token.{Token}
use Rattle.c_tree.specs.Nesting.{nest, nest_all}
use Rattle.c_tree.specs.Spelling.{Piece}
use Rattle.c_tree.specs.Trees.{Tree, Trees, Nil, Next}
use Rattle.c_tree.specs.Views.{listed}
use Rattle.c_tree.specs.WellFormed.{Names, after}
use Rattle.c_parse_rules.specs.Found.{Fronts}
use Rattle.c_parse_rules.proofs.exprs.Collecting.{Chain, Collected}
use Rattle.c_parse_rules.proofs.exprs.Fronts.{fronts_split, fronts_join}

abbrev pub plain_list : Trees → List Tree
plain_list Nil = []
plain_list (Next t more) = t ∷ plain_list more

pub listed_plain : (ts : Trees) → listed (plain_list ts) ≡ ts
listed_plain Nil = refl
listed_plain (Next t more) = ap (Next t) (listed_plain more)

-- a tree of a kind, at most so deep, at the front of the tokens
pub record Stands (Is : Names → Tree → Type 0) (spell : Tree → List Piece) (depth : ℕ) (names : Names) (t : Tree) (tokens rest : List Token) : Type 0 where
  pub shape : Is names t
  pub shallow : nest t ≤ depth
  pub words : Fronts (spell t) tokens rest

-- and some of them
pub record AllStand (Are : Names → Trees → Type 0) (spell : Trees → List Piece) (depth : ℕ) (names : Names) (ts : Trees) (tokens rest : List Token) : Type 0 where
  pub shapes : Are names ts
  pub shallow : nest_all ts ≤ depth
  pub words : Fronts (spell ts) tokens rest

-- what some are, by what each is
pub record IsListing (Is : Names → Tree → Type 0) (Are : Names → Trees → Type 0) (spell : Tree → List Piece) (spell_all : Trees → List Piece) : Type 0 where
  pub none : (names : Names) → Are names Nil
  pub next : (names : Names) (t : Tree) (more : Trees) → Is names t → Are (after names t) more → Are names (Next t more)
  pub first : (names : Names) (t : Tree) (more : Trees) → Are names (Next t more) → Is names t
  pub others : (names : Names) (t : Tree) (more : Trees) → Are names (Next t more) → Are (after names t) more
  pub no_pieces : spell_all Nil ≡ []
  pub more_pieces : (t : Tree) (more : Trees) → spell_all (Next t more) ≡ spell t ++ spell_all more

module _ (Is : Names → Tree → Type 0) (Are : Names → Trees → Type 0) (spell : Tree → List Piece) (spell_all : Trees → List Piece)
    (law : IsListing Is Are spell spell_all) (depth : ℕ) where
  pub chain_of : (ts : List Tree) (names : Names) (tokens rest : List Token) → AllStand Are spell_all depth names (listed ts) tokens rest →
      Chain (Stands Is spell depth) after names ts tokens rest
  chain_of [] names tokens rest h = subst (λ (p : List Piece). Fronts p tokens rest) law.no_pieces h.words
  chain_of (t ∷ ts) names tokens rest h =
      let words = subst (λ (p : List Piece). Fronts p tokens rest) (law.more_pieces t (listed ts)) h.words in
      let s = fronts_split (spell t) (spell_all (listed ts)) tokens rest words in
      let deep = h.shallow in (
        s.mid,
        record { shape = law.first names t (listed ts) h.shapes; shallow = omega arith; words = s.front },
        chain_of ts (after names t) s.mid rest (record { shapes = law.others names t (listed ts) h.shapes; shallow = omega arith; words = s.back }),
      )

  pub stand_of : (ts : List Tree) (names : Names) (tokens rest : List Token) → Chain (Stands Is spell depth) after names ts tokens rest →
      AllStand Are spell_all depth names (listed ts) tokens rest
  stand_of [] names tokens rest c =
      record { shapes = law.none names; shallow = omega arith; words = subst (λ (p : List Piece). Fronts p tokens rest) (sym law.no_pieces) c }
  stand_of (t ∷ ts) names tokens rest c =
      let one = c.1 in
      let more = stand_of ts (after names t) c.0 rest c.2 in
      let deep = one.shallow in let deeper = more.shallow in
      record {
        shapes = law.next names t (listed ts) one.shape more.shapes;
        shallow = omega arith;
        words = subst (λ (p : List Piece). Fronts p tokens rest) (sym (law.more_pieces t (listed ts)))
            (fronts_join (spell t) (spell_all (listed ts)) tokens c.0 rest one.words more.words);
      }

  -- what a loop found from nothing
  pub stand_collected : (names : Names) (tokens : List Token) (result : List Tree × List Token) → Collected (Stands Is spell depth) after [] names tokens result →
      AllStand Are spell_all depth names (listed result.0) tokens result.1
  stand_collected names tokens result c =
      subst (λ (ts : List Tree). AllStand Are spell_all depth names (listed ts) tokens result.1) (sym c.is) (stand_of c.more names tokens result.1 c.chain)
