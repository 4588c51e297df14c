-- What a node of the tree holds, and what is true of it.
use Rattle.std.specs.Prelude.{◌≡◌, ◌≢◌, ℕ, ◌+◌, ◌/◌, ◌%◌, ◌^◌, ◌<◌, ◌≤◌, List, [], ◌∷◌, ◌++◌, Option, Some, None, ⊤, max}
use Rattle.std.specs.Borrow.{Bor}
use Rattle.std.specs.declared.rc.Rc.{Rc}
use Rattle.std.specs.declared.alloc.Global.{Global}
use Rattle.ptree.specs.declared.node.Node.{Node}
use Rattle.ptree.specs.declared.node.Node.TheVariants.{Leaf, Fork'}
use Rattle.ptree.specs.declared.merge.Meeting.{Meeting}
use Rattle.ptree.specs.declared.merge.Meeting.TheVariants.{Apart, OneKey, Block}
use Rattle.ptree.specs.Entries.{AllKeys}

-- the keys of xs are below m, and those of ys are not
pub record Splits {V : Type 0} (m : ℕ) (xs ys : List (ℕ × V)) : Type 0 where
  pub below : AllKeys (λ k. k < m) xs
  pub above : AllKeys (λ k. m ≤ k) ys

-- `bit` is the highest bit in which the numbers differ
pub record Branches (bit low high : ℕ) : Type 0 where
  pub bit_in_range : bit < 64
  pub next : low / 2 ^ bit + 1 ≡ high / 2 ^ bit
  pub bit_set : high / 2 ^ bit % 2 ≡ 1

-- the keys of xs agree with `low` above some bits, those of ys with `high`, and `low` and `high` don't agree there
pub record AreApart {V : Type 0} (low high : ℕ) (xs ys : List (ℕ × V)) : Type 0 where
  pub bits : ℕ
  pub differ : low / 2 ^ bits ≢ high / 2 ^ bits
  pub left_agrees : AllKeys (λ k. k / 2 ^ bits ≡ low / 2 ^ bits) xs
  pub right_agrees : AllKeys (λ k. k / 2 ^ bits ≡ high / 2 ^ bits) ys

-- the keys of es agree with `label` above some bits, and `key` doesn't
pub record IsForeign {V : Type 0} (label key : ℕ) (es : List (ℕ × V)) : Type 0 where
  pub bits : ℕ
  pub differs : key / 2 ^ bits ≢ label / 2 ^ bits
  pub agree : AllKeys (λ k. k / 2 ^ bits ≡ label / 2 ^ bits) es

-- `middle` has the bit `bit` set, and no lower one
pub record IsMiddle (bit middle : ℕ) : Type 0 where
  pub bit_in_range : bit < 64
  pub lowest_bit : middle % 2 ^ bit ≡ 0
  pub bit_set : middle / 2 ^ bit % 2 ≡ 1

-- A fork with `middle` between the keys of its sides xs and ys. All of them agree with it above the bit `bit`, so that
-- the bit is clear in the keys of xs and set in those of ys.
pub record IsFork {V : Type 0} (bit middle : ℕ) (xs ys : List (ℕ × V)) : Type 0 where
  pub is_middle : IsMiddle bit middle
  pub apart : Splits middle xs ys
  pub left_agrees : AllKeys (λ k. k / 2 ^ bit / 2 ≡ middle / 2 ^ bit / 2) xs
  pub right_agrees : AllKeys (λ k. k / 2 ^ bit / 2 ≡ middle / 2 ^ bit / 2) ys

module _ {V : Type 0} where
  -- its entries: those of the left side, then those of the right side
  abbrev pub entries : Node V → List (ℕ × V)
  entries (Leaf key value) = (key, value) ∷ []
  entries (Fork' bit middle p left q right) = entries left ++ entries right

  -- the keys stand where their bits say
  abbrev pub IsTree : Node V → Type 0
  IsTree (Leaf key value) = key < 2 ^ 64
  IsTree (Fork' bit middle p left q right) = IsFork bit middle (entries left) (entries right) × IsTree left × IsTree right

  -- one more than the highest bit in which its keys differ, and a number with which they agree above it
  abbrev pub top : Node V → ℕ
  top (Leaf key value) = 0
  top (Fork' bit middle p left q right) = bit + 1

  abbrev pub label : Node V → ℕ
  label (Leaf key value) = key
  label (Fork' bit middle p left q right) = middle

  -- the most forks on a path
  abbrev pub depth : Node V → ℕ
  depth (Leaf key value) = 0
  depth (Fork' bit middle p left q right) = max (depth left) (depth right) + 1

  -- all keys of the node agree with `middle` above the bit `bit`
  pub record LiesIn (bit middle : ℕ) (node : Node V) : Type 0 where
    pub is_middle : IsMiddle bit middle
    pub agrees : label node / 2 ^ bit / 2 ≡ middle / 2 ^ bit / 2
    pub no_wider : top node ≤ bit + 1

  -- how two trees lie to one another
  abbrev pub Meets : Node V → Node V → Meeting → Type 0
  Meets a b Apart = label a / 2 ^ max (top a) (top b) ≢ label b / 2 ^ max (top a) (top b)
  Meets a b OneKey = (top a ≡ 0) × (top b ≡ 0) × (label a ≡ label b)
  Meets a b (Block bit middle) = LiesIn bit middle a × LiesIn bit middle b × (max (top a) (top b) ≡ bit + 1)

  -- what there is of a node: its entries, and that it is a tree whose keys agree above some bits
  abbrev pub part_entries : Option (Bor (Node V)) → List (ℕ × V)
  part_entries None = []
  part_entries (Some node) = entries node.now

  abbrev pub IsPart : Option (Bor (Node V)) → Type 0
  IsPart None = ⊤
  IsPart (Some node) = IsTree node.now

  abbrev pub part_top : Option (Bor (Node V)) → ℕ
  part_top None = 0
  part_top (Some node) = top node.now

  -- the same where there may be no node
  abbrev pub root_entries : Option (Rc (Node V) Global) → List (ℕ × V)
  root_entries None = []
  root_entries (Some node) = entries node.value

  abbrev pub IsRoot : Option (Rc (Node V) Global) → Type 0
  IsRoot None = ⊤
  IsRoot (Some node) = IsTree node.value
