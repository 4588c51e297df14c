-- The bits in which the keys of a tree differ.
use Rattle.std.proofs.Common.{◌≡◌, ◌≢◌, ℕ, ◌+◌, ◌-◌, ◌*◌, ◌/◌, ◌^◌, ◌<◌, ◌≤◌, List, [], ◌++◌, arith, refl, sym, ap, ◌∙◌, ⊎_elim, subst}
use Rattle.std.proofs.lemmas.Nat.{pow_pos, shr-shr, shr_split, div_below}
use Rattle.std.proofs.lemmas.Bool.{cases_lt}
use Rattle.ptree.specs.declared.node.Node.{Node}
use Rattle.ptree.specs.declared.node.Node.TheVariants.{Leaf, Fork'}
use Rattle.ptree.specs.Entries.{AllKeys, merged}
use Rattle.std.specs.Prelude.{max, Option}
use Rattle.std.proofs.Math.Nat.{le-max_left, le-max_right, div-lt_iff_lt-mul, div-mul-le_self}
use Rattle.ptree.specs.declared.merge.Meeting.TheVariants.{Block}
use Rattle.ptree.specs.Node.{Splits, IsMiddle, IsFork, IsTree, entries, top, depth, label, LiesIn, Meets, AreApart}
use Rattle.ptree.proofs.Bits.{agree_above, below_from_bits, bits_order}
use Rattle.ptree.proofs.Forks.{fork_agrees}
use Rattle.ptree.proofs.Merges.{AllKeys-merged}
use Rattle.ptree.proofs.Keys.{AllKeys-weaker, AllKeys-front, AllKeys-back, AllKeys-both}

-- a middle is its bits from the lowest one on
middle_whole : (bit middle : ℕ) → IsMiddle bit middle → middle / 2 ^ bit * 2 ^ bit ≡ middle
middle_whole bit middle m = let low = m.lowest_bit in omega (arith, shr_split middle bit)

below_middle : (bit middle x : ℕ) → IsMiddle bit middle → x < middle → x / 2 ^ bit < middle / 2 ^ bit
below_middle bit middle x m h = div_below x (2 ^ bit) (middle / 2 ^ bit) (pow_pos bit) (rw (middle_whole bit middle m) h)

above_middle : (bit middle x : ℕ) → middle ≤ x → middle / 2 ^ bit ≤ x / 2 ^ bit
above_middle bit middle x h =
    ⊎_elim (λ (i : x / 2 ^ bit < middle / 2 ^ bit). let less = below_from_bits bit x middle i in absurd (omega arith)) (λ (i : middle / 2 ^ bit ≤ x / 2 ^ bit). i) (cases_lt (x / 2 ^ bit) (middle / 2 ^ bit))

-- two middles at one bit that agree above it are one
pub same_middle : (bit m n : ℕ) → IsMiddle bit m → IsMiddle bit n → m / 2 ^ bit / 2 ≡ n / 2 ^ bit / 2 → m ≡ n
same_middle bit m n p q e =
    let one = p.bit_set in
    let other = q.bit_set in
    let quotients : m / 2 ^ bit ≡ n / 2 ^ bit = omega arith in
    sym (middle_whole bit m p) ∙ ap (λ k. k * 2 ^ bit) quotients ∙ middle_whole bit n q

module _ {V : Type 0} where
  first_key : Node V → ℕ
  first_key (Leaf key value) = key
  first_key (Fork' bit middle p left q right) = first_key left

  at_first_key : (P : ℕ → Type 0) (n : Node V) → AllKeys P (entries n) → P (first_key n)
  unfolding first_key
  at_first_key P (Leaf key value) a = a.0
  at_first_key P (Fork' bit middle p left q right) a = at_first_key P left (AllKeys-front P (entries left) (entries right) a)

  -- keys that agree from a bit on differ below it alone
  top_bound : (n : Node V) (b c : ℕ) → IsTree n → AllKeys (λ k. k / 2 ^ b ≡ c) (entries n) → top n ≤ b
  top_bound (Leaf key value) b c h a = omega arith
  top_bound (Fork' bit middle p left q right) b c h a =
      let low : first_key left < middle = at_first_key (λ k. k < middle) left h.0.apart.below in
      let high : middle ≤ first_key right = at_first_key (λ k. middle ≤ k) right h.0.apart.above in
      let one : first_key left / 2 ^ b ≡ c = at_first_key (λ k. k / 2 ^ b ≡ c) left (AllKeys-front (λ k. k / 2 ^ b ≡ c) (entries left) (entries right) a) in
      let other : first_key right / 2 ^ b ≡ c = at_first_key (λ k. k / 2 ^ b ≡ c) right (AllKeys-back (λ k. k / 2 ^ b ≡ c) (entries left) (entries right) a) in
      ⊎_elim (λ (i : b < bit + 1).
      let le : b ≤ bit = omega arith in
      let same : first_key left / 2 ^ bit ≡ first_key right / 2 ^ bit = agree_above b bit (first_key left) (first_key right) le (one ∙ sym other) in
      let less = below_middle bit middle (first_key left) h.0.is_middle low in
      let more = above_middle bit middle (first_key right) high in
      absurd (omega arith)) (λ (i : bit + 1 ≤ b). i) (cases_lt b (bit + 1))

  pub left_top : (bit middle : ℕ) (left : Node V) (ys : List (ℕ × V)) → IsFork bit middle (entries left) ys → IsTree left → top left ≤ bit
  left_top bit middle left ys f h =
      let both : AllKeys (λ k. (k < middle) × (k / 2 ^ bit / 2 ≡ middle / 2 ^ bit / 2)) (entries left) = AllKeys-both _ _ (entries left) f.apart.below f.left_agrees in
      top_bound left bit (middle / 2 ^ bit - 1) h (AllKeys-weaker _ _ clear (entries left) both)
    where
      clear : (k : ℕ) → (k < middle) × (k / 2 ^ bit / 2 ≡ middle / 2 ^ bit / 2) → k / 2 ^ bit ≡ middle / 2 ^ bit - 1
      clear k h = let less = below_middle bit middle k f.is_middle h.0 in let set = f.is_middle.bit_set in let half = h.1 in omega arith

  pub right_top : (bit middle : ℕ) (xs : List (ℕ × V)) (right : Node V) → IsFork bit middle xs (entries right) → IsTree right → top right ≤ bit
  right_top bit middle xs right f h =
      let both : AllKeys (λ k. (middle ≤ k) × (k / 2 ^ bit / 2 ≡ middle / 2 ^ bit / 2)) (entries right) = AllKeys-both _ _ (entries right) f.apart.above f.right_agrees in
      top_bound right bit (middle / 2 ^ bit) h (AllKeys-weaker _ _ set (entries right) both)
    where
      set : (k : ℕ) → (middle ≤ k) × (k / 2 ^ bit / 2 ≡ middle / 2 ^ bit / 2) → k / 2 ^ bit ≡ middle / 2 ^ bit
      set k h = let more = above_middle bit middle k h.0 in let one = f.is_middle.bit_set in let half = h.1 in omega arith

  -- the keys agree with the label from the bit `top` on
  pub keys_agree : (n : Node V) (b : ℕ) → IsTree n → top n ≤ b → AllKeys (λ k. k / 2 ^ b ≡ label n / 2 ^ b) (entries n)
  keys_agree (Leaf key value) b h le = (refl, tt)
  keys_agree (Fork' bit middle p left q right) b h le =
      AllKeys-weaker _ _ (λ k e. agree_above (bit + 1) b k middle le (sym (shr-shr k bit 1) ∙ e ∙ shr-shr middle bit 1)) (entries left ++ entries right)
      (fork_agrees bit middle (entries left) (entries right) h.0)

  -- a tree in the block of a fork, on one side of the middle
  pub fork_low : (bit middle : ℕ) (n : Node V) → IsTree n → LiesIn bit middle n → top n ≤ bit → label n < middle → IsFork bit middle (entries n) []
  fork_low bit middle n h l le less = record {
    is_middle = l.is_middle;
    apart = record { below = AllKeys-weaker _ _ low (entries n) (keys_agree n bit h le); above = tt };
    left_agrees = AllKeys-weaker _ _ (λ k e. ap (λ x. x / 2) e ∙ l.agrees) (entries n) (keys_agree n bit h le);
    right_agrees = tt;
  }
    where
      low : (k : ℕ) → k / 2 ^ bit ≡ label n / 2 ^ bit → k < middle
      low k e = below_from_bits bit k middle (rw e (below_middle bit middle (label n) l.is_middle less))

  pub fork_high : (bit middle : ℕ) (n : Node V) → IsTree n → LiesIn bit middle n → top n ≤ bit → middle ≤ label n → IsFork bit middle [] (entries n)
  fork_high bit middle n h l le more = record {
    is_middle = l.is_middle;
    apart = record { below = tt; above = AllKeys-weaker _ _ high (entries n) (keys_agree n bit h le) };
    left_agrees = tt;
    right_agrees = AllKeys-weaker _ _ (λ k e. ap (λ x. x / 2) e ∙ l.agrees) (entries n) (keys_agree n bit h le);
  }
    where
      high : (k : ℕ) → k / 2 ^ bit ≡ label n / 2 ^ bit → middle ≤ k
      high k e =
          let quotient : middle / 2 ^ bit ≤ label n / 2 ^ bit = above_middle bit middle (label n) more in
          ⊎_elim (λ (i : k < middle). let less = below_middle bit middle k l.is_middle i in absurd (omega arith)) (λ (i : middle ≤ k). i) (cases_lt k middle)

  middle_of : (n : Node V) (bits : ℕ) → IsTree n → top n ≡ bits → bits ≢ 0 → IsMiddle (bits - 1) (label n)
  middle_of (Leaf key value) bits h e some = absurd (some (sym e))
  middle_of (Fork' bit middle p left q right) bits h e some =
      let same : bit ≡ bits - 1 = omega arith in subst (λ b. IsMiddle b middle) same h.0.is_middle

  -- two trees whose labels agree above all bits in which keys of either differ lie in the block of the wider one
  pub meets_block : (a b wide : Node V) (bits : ℕ) → IsTree wide → top wide ≡ bits → bits ≢ 0 → max (top a) (top b) ≡ bits
      → label a / 2 ^ bits ≡ label wide / 2 ^ bits → label b / 2 ^ bits ≡ label wide / 2 ^ bits → Meets a b (Block (bits - 1) (label wide))
  meets_block a b wide bits h e some widest first second =
      let whole : bits - 1 + 1 ≡ bits = omega arith in
      let middle = middle_of wide bits h e some in
      let halved = λ (x y : ℕ) (same : x / 2 ^ bits ≡ y / 2 ^ bits).
      shr-shr x (bits - 1) 1 ∙ ap (λ n. x / 2 ^ n) whole ∙ same ∙ ap (λ n. y / 2 ^ n) (sym whole) ∙ sym (shr-shr y (bits - 1) 1) in (
        record { is_middle = middle; agrees = halved (label a) (label wide) first; no_wider = omega (arith, le-max_left (top a) (top b)) },
        record { is_middle = middle; agrees = halved (label b) (label wide) second; no_wider = omega (arith, le-max_right (top a) (top b)) },
        widest ∙ sym whole,
      )

  -- two trees whose labels differ above all bits in which keys of either differ
  module _ (bits : ℕ) (a b : Node V) (first : IsTree a) (second : IsTree b) (a_top : top a ≤ bits) (b_top : top b ≤ bits) (differ : label a / 2 ^ bits ≢ label b / 2 ^ bits) where
    pub trees_split : label a < label b → Splits (label b / 2 ^ bits * 2 ^ bits) (entries a) (entries b)
    trees_split h = record {
      below = AllKeys-weaker _ _ low (entries a) (keys_agree a bits first a_top);
      above = AllKeys-weaker _ _ high (entries b) (keys_agree b bits second b_top);
    }
      where
        less : label a / 2 ^ bits < label b / 2 ^ bits
        less = bits_order bits (label a) (label b) differ h

        low : (k : ℕ) → k / 2 ^ bits ≡ label a / 2 ^ bits → k < label b / 2 ^ bits * 2 ^ bits
        low k e = let under : k / 2 ^ bits < label b / 2 ^ bits = rw e less in (div-lt_iff_lt-mul (pow_pos bits)).0 under

        high : (k : ℕ) → k / 2 ^ bits ≡ label b / 2 ^ bits → label b / 2 ^ bits * 2 ^ bits ≤ k
        high k e = rw (← e) (div-mul-le_self k (2 ^ bits))

    pub merged_apart : (f : ℕ → Option V → Option V → Option V) → AreApart (label a) (label b) (merged f (entries a) []) (merged f [] (entries b))
    merged_apart f = record {
      bits = bits;
      differ = differ;
      left_agrees = AllKeys-merged f _ (entries a) [] (keys_agree a bits first a_top) tt;
      right_agrees = AllKeys-merged f _ [] (entries b) tt (keys_agree b bits second b_top);
    }

    pub merged_apart_turned : (f : ℕ → Option V → Option V → Option V) → AreApart (label a) (label b) (merged f [] (entries a)) (merged f (entries b) [])
    merged_apart_turned f = record {
      bits = bits;
      differ = differ;
      left_agrees = AllKeys-merged f _ [] (entries a) tt (keys_agree a bits first a_top);
      right_agrees = AllKeys-merged f _ (entries b) [] (keys_agree b bits second b_top) tt;
    }

  -- each fork on a path has a lower bit than the one above it
  pub depth_bound : (n : Node V) → IsTree n → depth n ≤ top n
  depth_bound (Leaf key value) h = omega arith
  depth_bound (Fork' bit middle p left q right) h =
      let low = left_top bit middle left (entries right) h.0 h.1 in
      let high = right_top bit middle (entries left) right h.0 h.2 in
      omega (arith, depth_bound left h.1, depth_bound right h.2)
