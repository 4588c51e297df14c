-- Lemmas on numbers without their lowest bits.
use Rattle.std.proofs.Common.{◌≡◌, ◌≢◌, ℕ, ◌+◌, ◌-◌, ◌*◌, ◌/◌, ◌^◌, ◌<◌, ◌≤◌, arith, sym, ap, ◌∙◌, ⊎_elim, List}
use Rattle.std.proofs.lemmas.Nat.{pow_pos, shr-shr, shl-shr, le-div}
use Rattle.std.proofs.lemmas.Bool.{cases_lt}
use Rattle.std.proofs.Math.Nat.{div-eq_of_lt, pow-le-pow_right, div-mul-le_self, lt-div-mul-add, mul-mod_left}
use Rattle.ptree.specs.Entries.{AllKeys}
use Rattle.ptree.specs.Node.{Branches, AreApart, IsForeign, IsFork}
use Rattle.ptree.proofs.Keys.{AllKeys-weaker}

-- a bit at which a number of 64 bits has something left is one of the 64
pub bit_in_range : (n bit : ℕ) → n < 2 ^ 64 → 0 < n / 2 ^ bit → bit < 64
bit_in_range n bit h more =
    ⊎_elim (λ (i : bit < 64). i) (λ (i : 64 ≤ bit).
    let high : 2 ^ 64 ≤ 2 ^ bit = pow-le-pow_right (omega arith) i in
    let below : n < 2 ^ bit = omega arith in
    let none = div-eq_of_lt below in
    absurd (omega arith)) (cases_lt bit 64)

-- numbers that agree above some bits agree above more bits
pub agree_above : (b c x y : ℕ) → b ≤ c → x / 2 ^ b ≡ y / 2 ^ b → x / 2 ^ c ≡ y / 2 ^ c
agree_above b c x y h e =
    let whole : b + (c - b) ≡ c = omega arith in
    let left : x / 2 ^ b / 2 ^ (c - b) ≡ x / 2 ^ c = shr-shr x b (c - b) ∙ ap (λ n. x / 2 ^ n) whole in
    let right : y / 2 ^ b / 2 ^ (c - b) ≡ y / 2 ^ c = shr-shr y b (c - b) ∙ ap (λ n. y / 2 ^ n) whole in
    sym left ∙ ap (λ n. n / 2 ^ (c - b)) e ∙ right

-- a number with less left is the lesser one
pub below_from_bits : (b x y : ℕ) → x / 2 ^ b < y / 2 ^ b → x < y
below_from_bits b x y h =
    ⊎_elim (λ (i : x < y). i) (λ (i : y ≤ x).
    let low : y / 2 ^ b * 2 ^ b ≤ x = omega (arith, div-mul-le_self y (2 ^ b)) in
    let le : y / 2 ^ b ≤ x / 2 ^ b = le-div (y / 2 ^ b) x (2 ^ b) (pow_pos b) low in
    absurd (omega arith)) (cases_lt x y)

-- two numbers agree above the highest bit in which they differ
same_above : (bit low high : ℕ) → Branches bit low high → low / 2 ^ bit / 2 ≡ high / 2 ^ bit / 2
same_above bit low high b = let next = b.next in let set = b.bit_set in omega arith

-- so what tells them apart lies at that bit or below
bits_below : (bit low high bits : ℕ) → Branches bit low high → low / 2 ^ bits ≢ high / 2 ^ bits → bits ≤ bit
bits_below bit low high bits b differ =
    ⊎_elim (λ (i : bits < bit + 1). let le : bits ≤ bit = omega arith in le) (λ (i : bit + 1 ≤ bits).
    let same : low / 2 ^ (bit + 1) ≡ high / 2 ^ (bit + 1) = sym (shr-shr low bit 1) ∙ same_above bit low high b ∙ shr-shr high bit 1 in
    absurd (differ (agree_above (bit + 1) bits low high i same))) (cases_lt bits (bit + 1))

module _ {V : Type 0} where
  pub join_fork : (bit low high : ℕ) (xs ys : List (ℕ × V)) → Branches bit low high → AreApart low high xs ys → IsFork bit (high / 2 ^ bit * 2 ^ bit) xs ys
  join_fork bit low high xs ys b a =
      let le = bits_below bit low high a.bits b a.differ in
      let whole : high / 2 ^ bit * 2 ^ bit / 2 ^ bit ≡ high / 2 ^ bit = shl-shr (high / 2 ^ bit) bit in
      let halves = same_above bit low high b in
      record {
        is_middle = record { bit_in_range = b.bit_in_range; lowest_bit = mul-mod_left (high / 2 ^ bit) (2 ^ bit); bit_set = rw whole b.bit_set };
        apart = record {
          below = AllKeys-weaker _ _ (λ k e. low_side k (agree_above a.bits bit k low le e)) xs a.left_agrees;
          above = AllKeys-weaker _ _ (λ k e. high_side k (agree_above a.bits bit k high le e)) ys a.right_agrees;
        };
        left_agrees = AllKeys-weaker _ _ (λ k e. rw whole (ap (λ n. n / 2) (agree_above a.bits bit k low le e) ∙ halves)) xs a.left_agrees;
        right_agrees = AllKeys-weaker _ _ (λ k e. rw whole (ap (λ n. n / 2) (agree_above a.bits bit k high le e))) ys a.right_agrees;
      }
    where
      low_side : (k : ℕ) → k / 2 ^ bit ≡ low / 2 ^ bit → k < high / 2 ^ bit * 2 ^ bit
      low_side k e =
          let next : k / 2 ^ bit + 1 ≡ high / 2 ^ bit = ap (λ n. n + 1) e ∙ b.next in
          let less : k < k / 2 ^ bit * 2 ^ bit + 2 ^ bit = lt-div-mul-add (pow_pos bit) in
          rw (← next) (omega arith)

      high_side : (k : ℕ) → k / 2 ^ bit ≡ high / 2 ^ bit → high / 2 ^ bit * 2 ^ bit ≤ k
      high_side k e = rw (← e) (div-mul-le_self k (2 ^ bit))

-- the lesser of two numbers that differ above some bits has less left there
pub bits_order : (b x y : ℕ) → x / 2 ^ b ≢ y / 2 ^ b → x < y → x / 2 ^ b < y / 2 ^ b
bits_order b x y differ h =
    ⊎_elim (λ (i : x / 2 ^ b < y / 2 ^ b). i) (λ (i : y / 2 ^ b ≤ x / 2 ^ b).
    ⊎_elim (λ (j : y / 2 ^ b < x / 2 ^ b). let back = below_from_bits b y x j in absurd (omega arith)) (λ (j : x / 2 ^ b ≤ y / 2 ^ b).
    absurd (differ (omega arith))) (cases_lt (y / 2 ^ b) (x / 2 ^ b))) (cases_lt (x / 2 ^ b) (y / 2 ^ b))

module _ {V : Type 0} where
  pub foreign_below : (label key : ℕ) (es : List (ℕ × V)) → IsForeign label key es → key < label → AllKeys (λ k. key < k) es
  foreign_below label key es f h =
      let less = bits_order f.bits key label f.differs h in
      AllKeys-weaker _ _ (λ k e. below_from_bits f.bits key k (rw e less)) es f.agree

  pub foreign_above : (label key : ℕ) (es : List (ℕ × V)) → IsForeign label key es → label ≤ key → AllKeys (λ k. k < key) es
  foreign_above label key es f h =
      let apart : label ≢ key = λ e. f.differs (ap (λ n. n / 2 ^ f.bits) (sym e)) in
      let lower : label < key = omega arith in
      let less = bits_order f.bits label key (λ e. f.differs (sym e)) lower in
      AllKeys-weaker _ _ (λ k e. below_from_bits f.bits k key (rw e less)) es f.agree

  -- a key that doesn't agree with a fork above its bit
  pub fork_foreign : (bit middle key : ℕ) (es : List (ℕ × V)) → AllKeys (λ k. k / 2 ^ bit / 2 ≡ middle / 2 ^ bit / 2) es → key / 2 ^ bit / 2 ≢ middle / 2 ^ bit / 2 → IsForeign middle key es
  fork_foreign bit middle key es agree differs = record {
    bits = bit + 1;
    differs = λ e. differs (shr-shr key bit 1 ∙ e ∙ sym (shr-shr middle bit 1));
    agree = AllKeys-weaker _ _ (λ k e. sym (shr-shr k bit 1) ∙ e ∙ shr-shr middle bit 1) es agree;
  }
