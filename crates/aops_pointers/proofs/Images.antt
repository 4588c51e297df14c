-- Images hold what a function makes of two numbers, and exact calls answer them.
use Rattle.std.proofs.Common.{◌≡◌, ◌⊎◌, Bool, true, false, cond, ℤ, pos, List, [], ◌∷◌, ◌++◌, map, refl, sym, subst, ap, ◌∙◌, inl, inr, arith}
use Rattle.std.specs.Prelude.{Option, None, Some, IfSome, IfNone, int_le, neg_ℤ, ◌^◌}
use Rattle.std.specs.List.{list_all}
use Rattle.std.proofs.lemmas.Bool.{and_parts, and_from}
use Rattle.ival_core.specs.declared.value.Shape.TheVariants.{Few}
use Rattle.ival_core.specs.declared.value.Ival.{Ival}
use Rattle.ival_core.specs.Ivals.{Holds, IsOnly}
use Rattle.ival_core.specs.Sets.{IsNumber, IsValid, IsLeast}
use Rattle.ival_core.proofs.Canonical.{Includes-antisymm}
use Rattle.ival_core.proofs.Orders.{le_true, true_le}
use Rattle.ival_arith.specs.Promises.{Outcome, Leaves, Stays}
use Rattle.ival_plain.specs.Least.{is_number}
use Rattle.ival_plain.proofs.Least.{least_holds, least_least}
use Rattle.avalue_base.specs.Lists.{In}
use Rattle.avalue_base.specs.Numbers.{is_empty, no_numbers, list_of}
use Rattle.avalue_base.specs.Meets.{least_of}
use Rattle.avalue_base.proofs.Lists.{In-all, all-In, In-map, map-In}
use Rattle.avalue_base.proofs.Sets.{Among-In, In-Among, held_listed, listed_held, empty_none, none_empty, none_held}
use Rattle.aops_pointers.specs.Images.{crossed, image}

In-left : {X : Type 0} (xs ys : List X) (x : X) → In xs x → In (xs ++ ys) x
In-left [] ys x i = absurd i
In-left (y ∷ xs) ys x (inl e) = inl e
In-left (y ∷ xs) ys x (inr i) = inr (In-left xs ys x i)

In-right : {X : Type 0} (xs ys : List X) (x : X) → In ys x → In (xs ++ ys) x
In-right [] ys x i = i
In-right (y ∷ xs) ys x i = inr (In-right xs ys x i)

In-either : {X : Type 0} (xs ys : List X) (x : X) → In (xs ++ ys) x → In xs x ⊎ In ys x
In-either [] ys x i = inr i
In-either (y ∷ xs) ys x (inl e) = inl (inl e)
In-either (y ∷ xs) ys x (inr i) = elim (In-either xs ys x i) [ inl j ↦ inl (inr j) | inr j ↦ inr j ]

number_is : (n : ℤ) → IsNumber n → is_number n ≡ true
number_is n h = and_from (int_le (neg_ℤ (pos (2 ^ 120))) n) (int_le n (pos (2 ^ 120))) (true_le (neg_ℤ (pos (2 ^ 120))) n h.least) (true_le n (pos (2 ^ 120)) h.greatest)

is_one : (n : ℤ) → is_number n ≡ true → IsNumber n
is_one n h = let p = and_parts (int_le (neg_ℤ (pos (2 ^ 120))) n) (int_le n (pos (2 ^ 120))) h in record { least = le_true (neg_ℤ (pos (2 ^ 120))) n p.0; greatest = le_true n (pos (2 ^ 120)) p.1 }

module _ (f : ℤ → ℤ → ℤ) where
  crossed-In : (ns ms : List ℤ) (x y : ℤ) → In ns x → In ms y → In (crossed f ns ms) (f x y)
  unfolding crossed
  crossed-In [] ms x y i j = absurd i
  crossed-In (n ∷ ns) ms x y (inl e) j = In-left (map (f n) ms) (crossed f ns ms) (f x y) (subst (λ z. In (map (f n) ms) (f z y)) (sym e) (In-map (f n) ms y j))
  crossed-In (n ∷ ns) ms x y (inr i) j = In-right (map (f n) ms) (crossed f ns ms) (f x y) (crossed-In ns ms x y i j)

  record Pair (ns ms : List ℤ) (z : ℤ) : Type 0 where
    left : ℤ
    right : ℤ
    in_left : In ns left
    in_right : In ms right
    is : z ≡ f left right

  In-crossed : (ns ms : List ℤ) (z : ℤ) → In (crossed f ns ms) z → Pair ns ms z
  unfolding crossed
  In-crossed [] ms z i = absurd i
  In-crossed (n ∷ ns) ms z i =
      elim (In-either (map (f n) ms) (crossed f ns ms) z i) [
        | inl j ↦ let p = map-In (f n) ms z j in record { left = n; right = p.0; in_left = inl refl; in_right = p.1; is = p.2 }
        | inr j ↦ let p = In-crossed ns ms z j in record { left = p.left; right = p.right; in_left = inr p.in_left; in_right = p.in_right; is = p.is }
      ]

  all : Ival → Ival → List ℤ
  all a b = crossed f (list_of a.shape) (list_of b.shape)

  listed : (a b : Ival) (x y : ℤ) → Holds a x → Holds b y → In (all a b) (f x y)
  unfolding all
  listed a b x y h k = crossed-In (list_of a.shape) (list_of b.shape) x y (held_listed a x h) (held_listed b y k)

  outcome : (a b : Ival) (z : ℤ) → In (all a b) z → Outcome f a b z
  unfolding all
  outcome a b z i =
      let p = In-crossed (list_of a.shape) (list_of b.shape) z i in
      record { left = p.left; right = p.right; in_left = listed_held a p.left p.in_left; in_right = listed_held b p.right p.in_right; is = p.is }

  pub image_holds : (a b v : Ival) → image f a b ≡ Some v → (x y : ℤ) → Holds a x → Holds b y → Holds v (f x y)
  unfolding image least_of all
  image_holds a b v e x y h k = at (list_all is_number (all a b)) refl e
    where
      at : (t : Bool) → list_all is_number (all a b) ≡ t → cond t (Some (least_of (all a b))) None ≡ Some v → Holds v (f x y)
      at true g d =
          let i = listed a b x y h k in
          let same : least_of (all a b) ≡ v = cc in
          subst (λ z. Holds z (f x y)) same (least_holds (all a b) (f x y) (In-Among (all a b) (f x y) i) (is_one (f x y) (all-In is_number (all a b) g (f x y) i)))
      at false g d = cc

  pub image_same : (r : Option Ival) (a b : Ival) → IfSome r (λ v. Stays f a b) → IfSome r (λ v. IsLeast (Outcome f a b) v.shape) → IfNone r (Leaves f a b) → r ≡ image f a b
  unfolding image least_of all
  image_same None a b s l n = at (list_all is_number (all a b)) refl
    where
      at : (t : Bool) → list_all is_number (all a b) ≡ t → None ≡ cond t (Some (least_of (all a b))) None
      at false e = refl
      at true e = absurd (n.leaves (is_one (f n.left n.right) (all-In is_number (all a b) e (f n.left n.right) (listed a b n.left n.right n.in_left n.in_right))))
  image_same (Some v) a b s l n =
      let t : list_all is_number (all a b) ≡ true = In-all is_number (all a b) (λ z i. let o = outcome a b z i in number_is z (subst IsNumber (sym o.is) (s o.left o.right o.in_left o.in_right))) in
      rw t (ap Some (Includes-antisymm v (least_of (all a b))
      (λ z h. least_least (all a b) v (λ k i. l.holds k (outcome a b k (Among-In (all a b) k i))) z h)
      (λ z h. l.least (least_of (all a b)).shape (least_of (all a b)).valid (λ k o. least_holds (all a b) k (In-Among (all a b) k (subst (In (all a b)) (sym o.is) (listed a b o.left o.right o.in_left o.in_right))) (subst IsNumber (sym o.is) (s o.left o.right o.in_left o.in_right))) z h)))

  -- the one result of two single numbers
  pub record IsOneImage (a b : Ival) (n : ℤ) : Type 0 where
    pub set : Ival
    pub is : image f a b ≡ Some set
    pub only : IsOnly set n

  pub image_single : (a b : Ival) (x y : ℤ) → IsOnly a x → IsOnly b y → IsNumber (f x y) → IsOneImage a b (f x y)
  unfolding image least_of all
  image_single a b x y p q n =
      let t : list_all is_number (all a b) ≡ true = In-all is_number (all a b) (λ z i. number_is z (subst IsNumber (sym (same z (outcome a b z i))) n)) in
      record {
        set = least_of (all a b);
        is = rw t refl;
        only = λ z. (
          (λ h. elim (least_least (all a b) one (λ k i. inl (same k (outcome a b k (Among-In (all a b) k i)))) z h) [ inl e ↦ e | inr i ↦ absurd i ]),
          (λ e. subst (Holds (least_of (all a b))) (sym e) (least_holds (all a b) (f x y) (In-Among (all a b) (f x y) (listed a b x y ((p x).1 refl) ((q y).1 refl))) n)),
        );
      }
    where
      valid : IsValid (Few (record { items = f x y ∷ [] }))
      valid = record { small = omega arith; ascending = (tt, tt); numbers = (n, tt) }

      one : Ival
      one = record { shape = Few (record { items = f x y ∷ [] }); valid = valid }

      same : (z : ℤ) → Outcome f a b z → z ≡ f x y
      same z o = o.is ∙ ap (λ t. f t o.right) ((p o.left).0 o.in_left) ∙ ap (f x) ((q o.right).0 o.in_right)

  -- no result without numbers
  pub record IsNoImage (a b : Ival) : Type 0 where
    pub set : Ival
    pub is : image f a b ≡ Some set
    pub none : is_empty set.shape ≡ true

  pub image_none : (a b : Ival) → is_empty a.shape ≡ true → IsNoImage a b
  unfolding image least_of all
  image_none a b e =
      let t : list_all is_number (all a b) ≡ true = In-all is_number (all a b) (λ z i. absurd (empty_none a (outcome a b z i).left e (outcome a b z i).in_left)) in
      record {
        set = least_of (all a b);
        is = rw t refl;
        none = none_empty (least_of (all a b)) (λ n h. none_held n (least_least (all a b) no_numbers (λ k i. let o = outcome a b k (Among-In (all a b) k i) in absurd (empty_none a o.left e o.in_left)) n h));
      }
