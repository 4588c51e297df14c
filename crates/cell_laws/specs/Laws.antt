-- The laws that maps ask of cells.
use Rattle.std.specs.Prelude.{◌≡◌, ℕ, ◌+◌, ◌<◌, ◌≤◌, Bool, true, false, List, ◌++◌, length, take, drop, Some, replicate}
use Rattle.cell_laws.specs.Elements.{Place, AllFit, spread, bit_at}
use Rattle.cell_laws.specs.Cells.{Ops}
use Rattle.cell_laws.specs.Order.{is_admitted, is_bare, is_in, known}
use Rattle.cell_laws.specs.Meaning.{Describes, ShowsAll}

-- `Fine k c`: the cell may stand in an element of k bits. All maps keep it, and each law may rest on it.
pub record FineLaws {C H : Type 0} (o : Ops C H) (Fine : ℕ → C → Type 0) : Type 0 where
  pub some_bits : (k : ℕ) (x : C) → Fine k x → 0 < k
  pub few_bits : (k : ℕ) (x : C) → Fine k x → k ≤ 64
  pub blank_bits : (k : ℕ) (x : C) → Fine k x → o.blank x ≡ true → k ≡ 1

-- the order, and what cells tell of their bits
pub record OrderLaws {C H : Type 0} (o : Ops C H) (Fine : ℕ → C → Type 0) : Type 0 where
  pub leq_refl : (k : ℕ) (x : C) → Fine k x → o.leq x x ≡ true
  pub leq_trans : (k : ℕ) (x y z : C) → Fine k x → Fine k y → Fine k z → o.leq x y ≡ true → o.leq y z ≡ true → o.leq x z ≡ true
  pub within_refl : (h : H) → o.within h h ≡ true
  pub within_trans : (g h i : H) → o.within g h ≡ true → o.within h i ≡ true → o.within g i ≡ true
  pub hue_leq : (k : ℕ) (x y : C) → Fine k x → Fine k y → o.leq x y ≡ true → o.within (o.hue x) (o.hue y) ≡ true
  pub blank_leq : (k : ℕ) (x y : C) → Fine k x → Fine k y → o.leq x y ≡ true → o.blank y ≡ true → o.blank x ≡ true
  pub bit_leq : (k i : ℕ) (x y : C) (b : Bool) → Fine k x → Fine k y → i < k → o.leq x y ≡ true → o.bit k i y ≡ Some b → o.bit k i x ≡ Some b
  pub admits_leq : (k : ℕ) (x y : C) (h : H) → Fine k x → Fine k y → o.leq x y ≡ true → o.admits k x h ≡ true → o.admits k y h ≡ true
  pub admits_within : (k : ℕ) (y : C) (g h : H) → Fine k y → o.within g h ≡ true → o.admits k y h ≡ true → o.admits k y g ≡ true
  pub admits_hue : (k : ℕ) (y : C) (h : H) → Fine k y → o.admits k y h ≡ true → o.within h (o.hue y) ≡ true
  pub admits_blank : (k : ℕ) (y : C) (h : H) → Fine k y → o.admits k y h ≡ true → o.blank y ≡ true → ⊥
  pub admits_bit : (k i : ℕ) (y : C) (h : H) (b : Bool) → Fine k y → i < k → o.admits k y h ≡ true → o.bit k i y ≡ Some b → ⊥
  -- a bit that is known has no base and no flag
  pub bit_hue : (k i : ℕ) (x : C) (h : H) (b : Bool) → Fine k x → i < k → o.bit k i x ≡ Some b → o.within (o.hue x) h ≡ true
  -- and a blank cell has a flag
  pub blank_bit : (j k i : ℕ) (x y : C) (b : Bool) → Fine j x → Fine k y → i < k → o.blank x ≡ true → o.within (o.hue x) (o.hue y) ≡ true → o.bit k i y ≡ Some b → ⊥
  pub has_leq : (k : ℕ) (x y : C) (bs : List Bool) → Fine k x → Fine k y → length bs ≡ k → o.leq x y ≡ true → o.has k x bs ≡ true → o.has k y bs ≡ true
  pub has_bit : (k i : ℕ) (y : C) (bs : List Bool) (b : Bool) → Fine k y → i < k → length bs ≡ k → o.has k y bs ≡ true → o.bit k i y ≡ Some b → bit_at bs i ≡ Some b
  pub has_blank : (k : ℕ) (y : C) (bs : List Bool) → Fine k y → length bs ≡ k → o.has k y bs ≡ true → o.blank y ≡ true → ⊥

-- what the join asks of cells
pub record JoinLaws {C H : Type 0} (o : Ops C H) (Fine : ℕ → C → Type 0) : Type 0 where
  pub unite_left : (g h : H) → o.within g (o.unite g h) ≡ true
  pub unite_right : (g h : H) → o.within h (o.unite g h) ≡ true
  pub join_fine : (k : ℕ) (x y : C) → Fine k x → Fine k y → Fine k (o.join x y)
  pub join_left : (k : ℕ) (x y : C) → Fine k x → Fine k y → o.leq x (o.join x y) ≡ true
  pub join_right : (k : ℕ) (x y : C) → Fine k x → Fine k y → o.leq y (o.join x y) ≡ true
  pub shade_fine : (k : ℕ) (y : C) (h : H) → Fine k y → o.blank y ≡ false → Fine k (o.shade y h)
  pub shade_blank : (k : ℕ) (y : C) (h : H) → Fine k y → o.blank y ≡ false → o.blank (o.shade y h) ≡ false
  pub shade_leq : (k : ℕ) (y : C) (h : H) → Fine k y → o.blank y ≡ false → o.leq y (o.shade y h) ≡ true
  pub shade_hue : (j k : ℕ) (x y : C) → Fine j x → Fine k y → o.blank x ≡ true → o.within (o.hue x) (o.hue (o.shade y (o.hue x))) ≡ true
  -- flags that it has change nothing
  pub shade_same : (j k : ℕ) (x y : C) → Fine j x → Fine k y → o.blank x ≡ true → o.within (o.hue x) (o.hue y) ≡ true → o.shade y (o.hue x) ≡ y
  pub with_fine : (k : ℕ) (y : C) (bs : List Bool) → Fine k y → o.blank y ≡ false → length bs ≡ k → Fine k (o.with_bits k y bs)
  pub with_leq : (k : ℕ) (y : C) (bs : List Bool) → Fine k y → o.blank y ≡ false → length bs ≡ k → o.leq y (o.with_bits k y bs) ≡ true
  pub with_has : (k : ℕ) (y : C) (bs : List Bool) → Fine k y → o.blank y ≡ false → length bs ≡ k → o.has k (o.with_bits k y bs) bs ≡ true
  pub any_fine : (h : H) → Fine 1 (o.any h)
  pub any_admits : (g h : H) → o.within g h ≡ true → o.admits 1 (o.any h) g ≡ true

-- what is asked of the function that makes one cell of two, in a join or in a widening
pub record MergeLaws {C H : Type 0} (o : Ops C H) (Fine : ℕ → C → Type 0) (merge : ℕ → C → C → C) : Type 0 where
  pub merge_fine : (k : ℕ) (x y : C) → Fine k x → Fine k y → Fine k (merge k x y)
  pub merge_first : (k : ℕ) (x y : C) → Fine k x → Fine k y → is_in o k (merge k x y) (spread k x 0 k) ≡ true
  pub merge_second : (k : ℕ) (x y : C) → Fine k x → Fine k y → o.leq y (merge k x y) ≡ true

-- `Allows k c ks`: c allows these k concrete cells
pub record MeaningLaws {C H K : Type 0} (o : Ops C H) (Fine : ℕ → C → Type 0) (Tint : H → K → Type 0) (Bare : K → Type 0) (Sure : Bool → K → Type 0)
    (Allows : ℕ → C → List K → Type 0) : Type 0 where
  pub allows_length : (k : ℕ) (x : C) (ks : List K) → Allows k x ks → length ks ≡ k
  pub allows_leq : (k : ℕ) (x y : C) (ks : List K) → Fine k x → Fine k y → o.leq x y ≡ true → Allows k x ks → Allows k y ks
  pub allows_shows : (k : ℕ) (x : C) (ks : List K) → Fine k x → Allows k x ks → ShowsAll o Tint Bare Sure (spread k x 0 k) ks
  pub admitted : (k : ℕ) (y : C) (ps : List (Place C)) (ks : List K) → Fine k y → AllFit Fine ps → length ps ≡ k → is_admitted o k y ps ≡ true → ShowsAll o Tint Bare Sure ps ks → Allows k y ks
  pub bare : (k : ℕ) (y : C) (ps : List (Place C)) (ks : List K) → Fine k y → AllFit Fine ps → length ps ≡ k → is_bare o y ps ≡ true → ShowsAll o Tint Bare Sure ps ks → Allows k y ks
  pub has : (k : ℕ) (y : C) (ps : List (Place C)) (bs : List Bool) (ks : List K) → Fine k y → AllFit Fine ps → length ps ≡ k → known o ps ≡ Some bs → o.has k y bs ≡ true →
      ShowsAll o Tint Bare Sure ps ks → Allows k y ks

-- what is stored, and parts of cells
pub record PartLaws {C H : Type 0} (o : Ops C H) (Fine : ℕ → C → Type 0) : Type 0 where
  pub fit_fine : (k : ℕ) (c : C) → 0 < k → k ≤ 64 → o.blank (o.fit k c) ≡ false → Fine k (o.fit k c)
  pub fit_blank : (k : ℕ) (c : C) → 0 < k → k ≤ 64 → o.blank (o.fit k c) ≡ true → Fine 1 (o.fit k c)
  pub fit_same : (k : ℕ) (c : C) → Fine k c → o.fit k c ≡ c
  pub uninit_fine : Fine 1 o.uninit
  pub uninit_blank : o.blank o.uninit ≡ true
  pub piece_fine : (k : ℕ) (c : C) (low n : ℕ) → Fine k c → 0 < n → n < k → low + n ≤ k → Fine n (o.piece k c low n)

-- `Gives k c ks`: a load of these k concrete cells gives a value that c holds, or finds a flag that c has
pub record AccessLaws {C H K : Type 0} (o : Ops C H) (Fine : ℕ → C → Type 0) (Allows Gives : ℕ → C → List K → Type 0) : Type 0 where
  pub fit_allows : (k : ℕ) (c : C) (ks : List K) → 0 < k → k ≤ 64 → Allows k c ks → Allows k (o.fit k c) ks
  -- bits without values have nothing to do with each other
  pub blank_allows : (k : ℕ) (c : C) (ks : List K) → Fine 1 c → o.blank c ≡ true → Allows k c ks → Describes Allows (replicate k (record { bits = 1; cell = c })) ks
  pub piece_allows : (k : ℕ) (c : C) (low n : ℕ) (ks : List K) → Fine k c → 0 < n → n < k → low + n ≤ k → Allows k c ks → Allows n (o.piece k c low n) (take n (drop low ks))
  pub one_gives : (k : ℕ) (c : C) (ks : List K) → Fine k c → Allows k c ks → Gives k c ks
  pub glue_gives : (j k : ℕ) (c d : C) (js ks : List K) → Fine j c → 0 < k → j + k ≤ 64 → Gives j c js → Gives k d ks → Gives (j + k) (o.glue j c k d) (js ++ ks)
  pub join_gives_left : (k : ℕ) (x y : C) (ks : List K) → Gives k x ks → Gives k (o.join x y) ks
  pub join_gives_right : (k : ℕ) (x y : C) (ks : List K) → Gives k y ks → Gives k (o.join x y) ks
