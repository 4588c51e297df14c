-- What sets of parts hold.
use Rattle.std.proofs.Common.{◌≡◌, ℕ, ◌+◌, ◌-◌, ◌*◌, ◌<◌, ◌≤◌, ◌^◌, cond, ℤ, pos, negsuc, ◌+ℤ◌, [], ◌∷◌, refl, sym, subst, ap, ◌∙◌, inl, inr, arith}
use Rattle.std.specs.Prelude.{neg_ℤ, ◌*ℤ◌}
use Rattle.std.proofs.lemmas.Int.{ints}
use Rattle.std.proofs.lemmas.Nat.{pow_pos}
use Rattle.std.proofs.lemmas.Nat.{pow-add, mul-le}
use lib.Signed.{◌<ℤ◌, ◌≤ℤ◌}
use Rattle.c_base.specs.Integers.{residue}
use Rattle.c_base.specs.Operators.{floor}
use Rattle.c_base.proofs.Residues.{residue_below}
use Rattle.ival_core.specs.declared.value.Ival.{Ival}
use Rattle.ival_core.specs.declared.value.Shape.{Shape}
use Rattle.ival_core.specs.declared.value.Shape.TheVariants.{Few}
use Rattle.ival_core.specs.Sets.{IsNumber, IsValid, Has}
use Rattle.ival_core.specs.Ivals.{Holds, IsOnly}
use Rattle.ival_core.proofs.Insertion.{Holds-number}
use Rattle.ival_core.proofs.Joined.{Makes}
use Rattle.ival_arith.specs.declared.pieces.Change.TheVariants.{Times}
use Rattle.ival_arith.specs.Pieces.{gathered, all_changed}
use Rattle.ival_arith.specs.Values.{residues}
use Rattle.ival_arith.specs.Sums.{sums}
use Rattle.ival_arith.proofs.Fits.{Fits, Makes-fits, Exactly, gathered-exactly}
use Rattle.ival_arith.proofs.Parts.{Image, all_changed-exactly}
use Rattle.ival_arith.proofs.Reducing.{residues-fits}
use Rattle.ival_arith.proofs.Residuals.{Below, residues_below}
use Rattle.std.proofs.Common.{eq-eqb}
use Rattle.std.proofs.lemmas.Bool.{ne_eqb}
use Rattle.ival_arith.proofs.Adding.{Sum, sums-makes}
use Rattle.ival_arith.proofs.Singling.{single_shape, fits_single}
use Rattle.ival_arith.proofs.TermSets.{only_shape}
use Rattle.ival_arith.proofs.Words.{powers}
use Rattle.ival_arith.specs.Floors.{floored}
use Rattle.ival_bits.specs.Parts.{part, glued, extracted, concatenated}
use Rattle.ival_arith.proofs.Flooring.{floored-covers, floor_number}

-- ---- single numbers

pub gathered_single : (x : ℤ) → IsNumber x → gathered (x ∷ []) ≡ Few (record { items = x ∷ [] })
gathered_single x n =
    let g = gathered-exactly (x ∷ []) (n, tt) (omega arith) in
    single_shape (gathered (x ∷ [])) x g.valid (λ k. ((λ h. elim (g.only k h) [ inl e ↦ e | inr f ↦ absurd f ]), (λ e. g.holds k (inl e))))

floored_list : (d : ℕ) (x : ℤ) → floored d (Few (record { items = x ∷ [] })) ≡ gathered (floor x d ∷ [])
unfolding floored
floored_list d x = refl

pub floored_single : (d : ℕ) (x : ℤ) → IsNumber x → floored d (Few (record { items = x ∷ [] })) ≡ Few (record { items = floor x d ∷ [] })
floored_single d x n = floored_list d x ∙ gathered_single (floor x d) (floor_number x d n)

residues_list : (m : ℕ) (x : ℤ) → residues m (Few (record { items = x ∷ [] })) ≡ gathered (pos (residue m x) ∷ [])
unfolding residues
residues_list m x = refl

pub residue_number : (m : ℕ) (x : ℤ) → 0 < m → m ≤ 2 ^ 64 → IsNumber (pos (residue m x))
residue_number m x h k = let b = residue_below m x h in record { least = omega (arith, ints); greatest = omega (arith, ints) }

pub residues_single : (m : ℕ) (x : ℤ) → 0 < m → m ≤ 2 ^ 64 → residues m (Few (record { items = x ∷ [] })) ≡ Few (record { items = pos (residue m x) ∷ [] })
residues_single m x h k = residues_list m x ∙ gathered_single (pos (residue m x)) (residue_number m x h k)

pub shape_only : (v : Ival) (x : ℤ) → v.shape ≡ Few (record { items = x ∷ [] }) → IsOnly v x
shape_only v x e k = (
  (λ h. elim (subst (λ s. Has s k) e h) [ inl f ↦ f | inr f ↦ absurd f ]),
  (λ f. subst (λ s. Has s k) (sym e) (inl f)),
)

-- ---- parts

extracted_is : (low bits : ℕ) (s : Shape) → extracted low bits s ≡ residues (2 ^ bits) (floored (2 ^ low) s)
unfolding extracted
extracted_is low bits s = refl

pub extract_holds : (low bits : ℕ) (a v : Ival) → low + bits ≤ 64 → v.shape ≡ extracted low bits a.shape → (n : ℤ) → Holds a n → Holds v (part low bits n)
extract_holds low bits a v h e n m =
    let c = floored-covers (2 ^ low) a.shape (pow_pos low) a.valid in
    let f = residues-fits (2 ^ bits) (floored (2 ^ low) a.shape) (pow_pos bits) (powers bits (omega arith)) c.valid in
    subst (λ s. Has s (part low bits n)) (sym (e ∙ extracted_is low bits a.shape))
    (f.holds (part low bits n) (record { from = floor n (2 ^ low); has = c.holds (floor n (2 ^ low)) (record { from = n; has = m; is = refl }); is = refl }))

pub extract_single : (low bits : ℕ) (a v : Ival) → low + bits ≤ 64 → v.shape ≡ extracted low bits a.shape → (n : ℤ) → IsOnly a n → IsOnly v (part low bits n)
extract_single low bits a v h e n o =
    shape_only v (part low bits n)
    (e ∙ extracted_is low bits a.shape ∙ ap (λ s. residues (2 ^ bits) (floored (2 ^ low) s)) (only_shape a n o)
    ∙ ap (residues (2 ^ bits)) (floored_single (2 ^ low) n (Holds-number a n ((o n).1 refl)))
    ∙ residues_single (2 ^ bits) (floor n (2 ^ low)) (pow_pos bits) (powers bits (omega arith)))

-- ---- two parts

-- the numbers of a set are the upper bits of numbers of 64
pub record Tops (low_bits : ℕ) (v : Ival) : Type 0 where
  pub small : low_bits ≤ 64
  pub tops : (h : ℤ) → Holds v h → (pos 0 ≤ℤ h) × (h <ℤ pos (2 ^ (64 - low_bits)))

top_product : (low_bits : ℕ) (h : ℤ) → low_bits ≤ 64 → pos 0 ≤ℤ h → h <ℤ pos (2 ^ (64 - low_bits)) → (pos 0 ≤ℤ (h *ℤ pos (2 ^ low_bits))) × ((h *ℤ pos (2 ^ low_bits)) ≤ℤ pos (2 ^ 64))
top_product low_bits (negsuc k) b l m = absurd (omega (arith, ints))
top_product low_bits (pos k) b l m =
    let s : 64 - low_bits + low_bits ≡ 64 = omega arith in
    let e : 2 ^ (64 - low_bits) * 2 ^ low_bits ≡ 2 ^ 64 = sym (pow-add 2 (64 - low_bits) low_bits) ∙ ap (λ z. 2 ^ z) s in
    let n : k < 2 ^ (64 - low_bits) = omega (arith, ints) in
    let c : k * 2 ^ low_bits ≤ 2 ^ (64 - low_bits) * 2 ^ low_bits = mul-le k (2 ^ low_bits) (2 ^ (64 - low_bits)) (2 ^ low_bits) (omega arith) (omega arith) in
    let d : k * 2 ^ low_bits ≤ 2 ^ 64 = subst (λ z. k * 2 ^ low_bits ≤ z) e c in
    (omega (arith, ints), omega (arith, ints))

-- the upper bits in their place
pub record Raised (low_bits : ℕ) (v : Ival) (s : Shape) : Type 0 where
  pub exactly : Exactly (Image (Holds v) (λ h. h *ℤ pos (2 ^ low_bits))) s
  pub above : (n : ℤ) → Has s n → pos 0 ≤ℤ n
  pub below : (n : ℤ) → Has s n → n ≤ℤ pos (2 ^ 64)

pub raised_number : (low_bits : ℕ) (v : Ival) → Tops low_bits v → (h : ℤ) → Holds v h → IsNumber (h *ℤ pos (2 ^ low_bits))
raised_number low_bits v t h m =
    let a = t.tops h m in
    let b = top_product low_bits h t.small a.0 a.1 in
    between (h *ℤ pos (2 ^ low_bits)) b.0 b.1
  where
    between : (z : ℤ) → pos 0 ≤ℤ z → z ≤ℤ pos (2 ^ 64) → IsNumber z
    between z f g = record { least = omega (arith, ints); greatest = omega (arith, ints) }

pub raised : (low_bits : ℕ) (v : Ival) → Tops low_bits v → Raised low_bits v (all_changed (Times (2 ^ low_bits)) v.shape)
raised low_bits v t =
    let x = all_changed-exactly (Times (2 ^ low_bits)) v.shape (pow_pos low_bits) v.valid (raised_number low_bits v t) in
    record {
      exactly = x;
      above = λ n h. let i = x.only n h in let a = t.tops i.from i.has in subst (λ z. pos 0 ≤ℤ z) (sym i.is) (top_product low_bits i.from t.small a.0 a.1).0;
      below = λ n h. let i = x.only n h in let a = t.tops i.from i.has in subst (λ z. z ≤ℤ pos (2 ^ 64)) (sym i.is) (top_product low_bits i.from t.small a.0 a.1).1;
    }

-- the lower bits
pub rests : (low_bits : ℕ) (v : Ival) → low_bits ≤ 64 → Fits (Image (Holds v) (λ n. pos (residue (2 ^ low_bits) n))) (residues (2 ^ low_bits) v.shape)
rests low_bits v h = residues-fits (2 ^ low_bits) v.shape (pow_pos low_bits) (powers low_bits h) v.valid

pub near_sum : (low_bits : ℕ) (x y : ℤ) → low_bits ≤ 64 → pos 0 ≤ℤ x → x ≤ℤ pos (2 ^ 64) → Below (2 ^ low_bits) y → IsNumber (x +ℤ y)
near_sum low_bits x y h a b c =
    let p = powers low_bits h in let d = c.above in let e = c.below in
    record { least = omega (arith, ints); greatest = omega (arith, ints) }

pub part_sums : (low_bits : ℕ) (low high : Ival) → Tops low_bits high →
    (x y : ℤ) → Has (all_changed (Times (2 ^ low_bits)) high.shape) x → Has (residues (2 ^ low_bits) low.shape) y → IsNumber (x +ℤ y)
part_sums low_bits low high t x y h k =
    let r = raised low_bits high t in
    near_sum low_bits x y t.small (r.above x h) (r.below x h) (residues_below (2 ^ low_bits) low.shape (pow_pos low_bits) (powers low_bits t.small) y k)

limits : (n : ℤ) → n ≡ neg_ℤ (pos (2 ^ 120)) → IsNumber n
limits n e = record { least = omega (arith, ints); greatest = omega (arith, ints) }

limit : (n : ℤ) → n ≡ pos (2 ^ 120) → IsNumber n
limit n e = record { least = omega (arith, ints); greatest = omega (arith, ints) }

pub sums_of : (s t : Shape) → IsValid s → IsValid t → ((x y : ℤ) → Has s x → Has t y → IsNumber (x +ℤ y)) → Makes (Sum (Has s) (Has t)) (sums (neg_ℤ (pos (2 ^ 120))) (pos (2 ^ 120)) s t)
sums_of s t v w h =
    sums-makes (neg_ℤ (pos (2 ^ 120))) (pos (2 ^ 120)) s t
    (record { left = v; right = w; least = limits (neg_ℤ (pos (2 ^ 120))) refl; greatest = limit (pos (2 ^ 120)) refl; sums = h })
    (record { above = λ x y i j. let n = h x y i j in n.least; below = λ x y i j. let n = h x y i j in n.greatest })

pub concatenated_sums : (low_bits : ℕ) (s t : Shape) → (low_bits ≡ 64 → ⊥) →
    concatenated low_bits s t ≡ sums (neg_ℤ (pos (2 ^ 120))) (pos (2 ^ 120)) (all_changed (Times (2 ^ low_bits)) t) (residues (2 ^ low_bits) s)
unfolding concatenated
concatenated_sums low_bits s t h =
    ap (λ b. cond b (residues (2 ^ low_bits) s) (sums (neg_ℤ (pos (2 ^ 120))) (pos (2 ^ 120)) (all_changed (Times (2 ^ low_bits)) t) (residues (2 ^ low_bits) s))) (ne_eqb low_bits 64 h)

pub concatenated_whole : (low_bits : ℕ) (s t : Shape) → low_bits ≡ 64 → concatenated low_bits s t ≡ residues (2 ^ low_bits) s
unfolding concatenated
concatenated_whole low_bits s t h =
    ap (λ b. cond b (residues (2 ^ low_bits) s) (sums (neg_ℤ (pos (2 ^ 120))) (pos (2 ^ 120)) (all_changed (Times (2 ^ low_bits)) t) (residues (2 ^ low_bits) s))) (eq-eqb low_bits 64 h)

-- below 64 bits

pub concat_holds : (low_bits : ℕ) (low high v : Ival) → Tops low_bits high → (low_bits ≡ 64 → ⊥) → v.shape ≡ concatenated low_bits low.shape high.shape →
    (l h : ℤ) → Holds low l → Holds high h → Holds v (glued low_bits l h)
concat_holds low_bits low high v t n e l h i j =
    let r = raised low_bits high t in
    let f = rests low_bits low t.small in
    let m = sums_of (all_changed (Times (2 ^ low_bits)) high.shape) (residues (2 ^ low_bits) low.shape) r.exactly.valid f.valid (part_sums low_bits low high t) in
    subst (λ s. Has s (glued low_bits l h)) (sym (e ∙ concatenated_sums low_bits low.shape high.shape n))
    (m.least.holds (glued low_bits l h) (record {
      left = h *ℤ pos (2 ^ low_bits);
      right = pos (residue (2 ^ low_bits) l);
      has_left = r.exactly.holds (h *ℤ pos (2 ^ low_bits)) (record { from = h; has = j; is = refl });
      has_right = f.holds (pos (residue (2 ^ low_bits) l)) (record { from = l; has = i; is = refl });
      is = refl;
    }))

abbrev pub list_of : ℤ → Shape
list_of x = Few (record { items = x ∷ [] })

exactly_single : (P : ℤ → Type 0) (s : Shape) (x : ℤ) → Exactly P s → P x → ((n : ℤ) → P n → n ≡ x) → s ≡ list_of x
exactly_single P s x e p h = single_shape s x e.valid (λ k. ((λ m. h k (e.only k m)), (λ i. subst (Has s) (sym i) (e.holds x p))))

pub concat_single : (low_bits : ℕ) (low high v : Ival) → Tops low_bits high → (low_bits ≡ 64 → ⊥) → v.shape ≡ concatenated low_bits low.shape high.shape →
    (l h : ℤ) → IsOnly low l → IsOnly high h → IsOnly v (glued low_bits l h)
concat_single low_bits low high v t n e l h i j =
    let r = raised low_bits high t in
    let f = rests low_bits low t.small in
    let x = h *ℤ pos (2 ^ low_bits) in
    let y = pos (residue (2 ^ low_bits) l) in
    let a : all_changed (Times (2 ^ low_bits)) high.shape ≡ list_of x =
    exactly_single (Image (Holds high) (λ h. h *ℤ pos (2 ^ low_bits))) (all_changed (Times (2 ^ low_bits)) high.shape) x r.exactly (record { from = h; has = (j h).1 refl; is = refl })
    (λ k m. m.is ∙ ap (λ z. z *ℤ pos (2 ^ low_bits)) ((j m.from).0 m.has)) in
    let b : residues (2 ^ low_bits) low.shape ≡ list_of y =
    fits_single (Image (Holds low) (λ n. pos (residue (2 ^ low_bits) n))) (residues (2 ^ low_bits) low.shape) y f (record { from = l; has = (i l).1 refl; is = refl })
    (λ k m. m.is ∙ ap (λ z. pos (residue (2 ^ low_bits) z)) ((i m.from).0 m.has)) in
    let m = sums_of (all_changed (Times (2 ^ low_bits)) high.shape) (residues (2 ^ low_bits) low.shape) r.exactly.valid f.valid (part_sums low_bits low high t) in
    let s = sums (neg_ℤ (pos (2 ^ 120))) (pos (2 ^ 120)) (all_changed (Times (2 ^ low_bits)) high.shape) (residues (2 ^ low_bits) low.shape) in
    let g : s ≡ list_of (x +ℤ y) =
    fits_single (Sum (Has (all_changed (Times (2 ^ low_bits)) high.shape)) (Has (residues (2 ^ low_bits) low.shape))) s (x +ℤ y)
    (Makes-fits (Sum (Has (all_changed (Times (2 ^ low_bits)) high.shape)) (Has (residues (2 ^ low_bits) low.shape))) s m)
    (record { left = x; right = y; has_left = subst (λ u. Has u x) (sym a) (inl refl); has_right = subst (λ u. Has u y) (sym b) (inl refl); is = refl })
    (λ k q. q.is ∙ ap (λ z. z +ℤ q.right) (only x q.left (subst (λ u. Has u q.left) a q.has_left)) ∙ ap (λ z. x +ℤ z) (only y q.right (subst (λ u. Has u q.right) b q.has_right))) in
    shape_only v (glued low_bits l h) (e ∙ concatenated_sums low_bits low.shape high.shape n ∙ g)
  where
    only : (x n : ℤ) → Has (list_of x) n → n ≡ x
    only x n (inl e) = e
    only x n (inr f) = absurd f

-- of 64 bits nothing is left above

no_top : (low_bits : ℕ) (h : ℤ) → low_bits ≡ 64 → pos 0 ≤ℤ h → h <ℤ pos (2 ^ (64 - low_bits)) → h ≡ pos 0
no_top low_bits h e a b =
    let c : h <ℤ pos 1 = subst (λ k. h <ℤ pos (2 ^ (64 - k))) e b in omega (arith, ints)

only_rest : (low_bits : ℕ) (l h : ℤ) → h ≡ pos 0 → pos (residue (2 ^ low_bits) l) ≡ glued low_bits l h
only_rest low_bits l h e = nothing (pos (residue (2 ^ low_bits) l)) (2 ^ low_bits) ∙ ap (λ z. z *ℤ pos (2 ^ low_bits) +ℤ pos (residue (2 ^ low_bits) l)) (sym e)
  where
    nothing : (r : ℤ) (m : ℕ) → r ≡ pos 0 *ℤ pos m +ℤ r
    nothing r m = omega (arith, ints)

pub whole_holds : (low_bits : ℕ) (low high v : Ival) → Tops low_bits high → low_bits ≡ 64 → v.shape ≡ residues (2 ^ low_bits) low.shape →
    (l h : ℤ) → Holds low l → Holds high h → Holds v (glued low_bits l h)
whole_holds low_bits low high v t n e l h i j =
    let a = t.tops h j in
    let z = no_top low_bits h n a.0 a.1 in
    subst (λ s. Has s (glued low_bits l h)) (sym e)
    (subst (Has (residues (2 ^ low_bits) low.shape)) (only_rest low_bits l h z) ((rests low_bits low t.small).holds (pos (residue (2 ^ low_bits) l)) (record { from = l; has = i; is = refl })))

pub whole_single : (low_bits : ℕ) (low high v : Ival) → Tops low_bits high → low_bits ≡ 64 → v.shape ≡ residues (2 ^ low_bits) low.shape →
    (l h : ℤ) → IsOnly low l → IsOnly high h → IsOnly v (glued low_bits l h)
whole_single low_bits low high v t n e l h i j =
    let a = t.tops h ((j h).1 refl) in
    let z = no_top low_bits h n a.0 a.1 in
    shape_only v (glued low_bits l h)
    (e ∙ ap (residues (2 ^ low_bits)) (only_shape low l i) ∙ residues_single (2 ^ low_bits) l (pow_pos low_bits) (powers low_bits t.small) ∙ ap list_of (only_rest low_bits l h z))
