-- An act that loads from no volatile object has one effect.
use Rattle.std.proofs.Common.{◌≡◌, ℕ, Bool, true, false, List, [], ◌∷◌, Option, None, Some, unwrap_or, Result, Ok, Err, sym, ap, subst, ◌∙◌}
use Rattle.c_base.specs.declared.kind.Kind.{Kind}
use Rattle.c_memory.specs.declared.scalar.Scalar.{Scalar}
use Rattle.c_memory.specs.Layouts.{Layout}
use Rattle.c_memory.specs.Memories.{Memory}
use Rattle.c_memory.specs.Values.{Value}
use Rattle.c_types.specs.Types.{CType, Void, scalar_of}
use Rattle.c_types.specs.Sizes.{size}
use Rattle.c_program.specs.Syntax.{Function, function_at, Program}
use Rattle.c_machine.specs.Work.{Held as Holds, used}
use Rattle.c_machine.specs.Parts.{called_function, used_arguments}
use Rattle.c_simple.specs.Trees.{Lvalue, Variable, Slot, Pointed, Member, Element, Expr, Number, Address, Load, Held, Unary, Binary, Convert, Act, Set, Hold, Release, Copy, Paste, Test, Enter, Leave, Check, Call, Return, Skip}
use Rattle.c_simple_machine.specs.Types.{expr_type, place_type, elements_of, target_of, is_volatile, is_named}
use Rattle.c_simple_machine.specs.Evaluation.{used_result, as_held, with_one, one_operator, with_two, two_operator, conversion, with_member, with_index, in_front, Loads, LoadsAs, Gives, IsAt, GiveAll}
use Rattle.c_simple_machine.specs.Acts.{Content, Setting, Effect, holding, set, place_address, copy, Tests, EntersFunction, EntersBase, EntersWith, Calls, returned, Does}
use Rattle.c_simple_machine.specs.Laws.{IsStill, IsStillPlace, AreStill, IsStillAct}

loads_once : (p : Program) (l : Layout) (m : Memory) (volatile : Bool) (type : Option Scalar) (t : CType) (at r s : Result Holds Kind) → volatile ≡ false →
    Loads p l m volatile type t at r → Loads p l m volatile type t at s → r ≡ s
loads_once p l m true type t at r s still g h = cc
loads_once p l m false type t at r s still g h = g ∙ sym h

-- equal parts and functions of them
by_one : {A B : Type 0} (f : A → B) (r s : B) (a b : A) → a ≡ b → r ≡ f a → s ≡ f b → r ≡ s
by_one f r s a b same g h = g ∙ ap f same ∙ sym h

by_two : {A B C : Type 0} (f : A → B → C) (r s : C) (a b : A) (c d : B) → a ≡ b → c ≡ d → r ≡ f a c → s ≡ f b d → r ≡ s
by_two f r s a b c d first second g h = g ∙ ap (λ x. f x c) first ∙ ap (f b) second ∙ sym h

module _ (p : Program) (l : Layout) (types : List (ℕ × CType)) (slots : ℕ → Option Holds) (m : Memory) where
  mutual
    gives_once : (e : Expr) → IsStill p e → (r s : Result Holds Kind) → Gives p l types slots m e r → Gives p l types slots m e s → r ≡ s
    gives_once (Number kind n) still r s g h = g ∙ sym h
    gives_once (Address q) still r s g h = at_once true q still r s g h
    gives_once (Load q) still r s (at, g, i) (place, h, j) =
        loads_once p l m (is_volatile p q) (scalar_of (unwrap_or (place_type p types q) Void)) (unwrap_or (place_type p types q) Void) place r s still.0
        (subst (λ a. LoadsAs p l m (is_volatile p q) (unwrap_or (place_type p types q) Void) a r) (at_once false q still.1 at place g h) i) j
    gives_once (Held slot) still r s g h = g ∙ sym h
    gives_once (Unary op t e) still r s (v, g, i) (w, h, j) =
        by_one (λ a. as_held (with_one (one_operator l op t) (used_result a))) r s v w (gives_once e still v w g h) i j
    gives_once (Binary op t a b) still r s (v, g, (w, i, n)) (x, h, (y, j, k)) =
        by_two (λ c d. as_held (with_two (two_operator p l op t (unwrap_or (expr_type p types b) Void)) (used_result c) (used_result d))) r s v x w y
        (gives_once a still.0 v x g h) (gives_once b still.1 w y i j) n k
    gives_once (Convert t e) still r s (v, g, i) (w, h, j) = by_one (conversion l t) r s v w (gives_once e still v w g h) i j

    at_once : (end : Bool) (q : Lvalue) → IsStillPlace p q → (r s : Result Holds Kind) → IsAt p l types slots m end q r → IsAt p l types slots m end q s → r ≡ s
    at_once end (Variable base) still r s g h = g ∙ sym h
    at_once end (Slot slot t) still r s g h = g ∙ sym h
    at_once end (Pointed e t volatile) still r s (v, g, i) (w, h, j) = by_one (λ a. as_held (used_result a)) r s v w (gives_once e still v w g h) i j
    at_once end (Member q c n) still r s (v, g, i) (w, h, j) = by_one (with_member p l c n) r s v w (at_once false q still v w g h) i j
    at_once end (Element q e) still r s (v, g, (w, i, n)) (x, h, (y, j, k)) =
        by_two (λ c d. with_index p l (elements_of (place_type p types q)) end c (used_result d)) r s v x w y
        (at_once false q still.0 v x g h) (gives_once e still.1 w y i j) n k

  all_once : (es : List Expr) → AreStill p es → (r s : Result (List Holds) Kind) → GiveAll p l types slots m es r → GiveAll p l types slots m es s → r ≡ s
  all_once [] still r s g h = g ∙ sym h
  all_once (e ∷ more) still r s (v, g, (w, i, n)) (x, h, (y, j, k)) =
      by_two in_front r s v x w y (gives_once e still.0 v x g h) (all_once more still.1 w y i j) n k

-- ---- acts

tests_once : (truth : Bool) (c : Content) (v : Result Value Kind) (e f : Effect) → Tests truth c v e → Tests truth c v f → e ≡ f
tests_once truth c (Err kind) e f g h = g ∙ sym h
tests_once truth c (Ok v) e f g h = g.1 ∙ sym h.1

module _ (p : Program) (l : Layout) where
  function_once : (site : ℕ) (slot : Option ℕ) (arguments : _) (c : Content) (g : Option Function) (e f : Effect) → EntersFunction l site slot arguments c g e →
      EntersFunction l site slot arguments c g f → e ≡ f
  function_once site slot arguments c None e f a b = absurd a
  function_once site slot arguments c (Some g) e f a b = a ∙ sym b

  base_once : (site : ℕ) (slot : Option ℕ) (arguments : _) (c : Content) (g : Result ℕ Kind) (e f : Effect) → EntersBase p l site slot arguments c g e →
      EntersBase p l site slot arguments c g f → e ≡ f
  base_once site slot arguments c (Err kind) e f a b = a ∙ sym b
  base_once site slot arguments c (Ok g) e f a b = function_once site slot arguments c (function_at p.functions g) e f a b

  with_once : (site : ℕ) (slot : Option ℕ) (t : CType) (c : Content) (v : Result Value Kind) (arguments : Result _ Kind) (e f : Effect) →
      EntersWith p l site slot t c v arguments e → EntersWith p l site slot t c v arguments f → e ≡ f
  with_once site slot t c (Err kind) arguments e f a b = a ∙ sym b
  with_once site slot t c (Ok v) (Err kind) e f a b = a ∙ sym b
  with_once site slot t c (Ok v) (Ok arguments) e f a b = base_once site slot arguments c (called_function p l t v) e f a b

  calls_once : (site : ℕ) (slot : Option ℕ) (t : CType) (c : Content) (r : Result Holds Kind) (rs : Result (List Holds) Kind) (e f : Effect) →
      Calls p l site slot t c r rs e → Calls p l site slot t c r rs f → e ≡ f
  calls_once site slot t c (Err kind) rs e f a b = a ∙ sym b
  calls_once site slot t c (Ok h) (Err kind) e f a b = a ∙ sym b
  calls_once site slot t c (Ok h) (Ok hs) e f a b = with_once site slot t c (used h) (used_arguments hs) e f a b

  pub once : (x : Setting) (act : Act) (c : Content) (e f : Effect) → IsStillAct p act → Does p l x act c e → Does p l x act c f → e ≡ f
  once x (Set q value) c e f still (at, g, (r, i, n)) (place, h, (s, j, k)) =
      by_two (λ a v. set p l c (is_named q) (unwrap_or (place_type p x.types q) Void) (place_address a) v) e f at place r s
      (at_once p l x.types c.slots c.memory false q still.0 at place g h) (gives_once p l x.types c.slots c.memory value still.1 r s i j) n k
  once x (Hold slot value) c e f still (r, g, n) (s, h, k) =
      by_one (holding c slot) e f r s (gives_once p l x.types c.slots c.memory value still r s g h) n k
  once x (Release slot) c e f still g h = g ∙ sym h
  once x (Copy to source) c e f still (at, g, (from, i, n)) (place, h, (other, j, k)) =
      by_two (λ a b. copy l c (is_named to) (size p.composites l.machine (unwrap_or (place_type p x.types to) Void)) (place_address a) b) e f at place from other
      (at_once p l x.types c.slots c.memory false to still.0 at place g h) (at_once p l x.types c.slots c.memory false source still.1 from other i j) n k
  once x (Paste base image) c e f still g h = g ∙ sym h
  once x (Test value truth) c e f still (r, g, n) (s, h, k) =
      tests_once truth c (used_result s) e f
      (subst (λ v. Tests truth c (used_result v) e) (gives_once p l x.types c.slots c.memory value still r s g h) n) k
  once x (Enter bases) c e f still g h = g ∙ sym h
  once x (Leave bases) c e f still g h = g ∙ sym h
  once x (Check kind predicate) c e f still g h = absurd g
  once x (Call site function arguments slot) c e f still (r, g, (rs, i, n)) (s, h, (ss, j, k)) =
      calls_once site slot (target_of (expr_type p x.types function)) c s ss e f
      (subst (λ v. Calls p l site slot (target_of (expr_type p x.types function)) c s v e) (all_once p l x.types c.slots c.memory arguments still.1 rs ss i j)
      (subst (λ v. Calls p l site slot (target_of (expr_type p x.types function)) c v rs e) (gives_once p l x.types c.slots c.memory function still.0 r s g h) n)) k
  once x (Return None slot) c e f still g h = g ∙ sym h
  once x (Return (Some value) slot) c e f still (r, g, n) (s, h, k) =
      by_one (returned x.dying c) e f r s (gives_once p l x.types c.slots c.memory value still r s g h) n k
  once x Skip c e f still g h = g ∙ sym h
