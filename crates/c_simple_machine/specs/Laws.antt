-- What holds of the acts of every simple program.
use Rattle.std.specs.Prelude.{◌≡◌, false, List, [], ◌∷◌, Option, None, Some}
use Rattle.c_memory.specs.Layouts.{Layout}
use Rattle.c_program.specs.Syntax.{Program}
use Rattle.c_simple.specs.Trees.{Lvalue, Variable, Slot, Pointed, Member, Element, Expr, Number, Address, Load, Held, Unary, Binary, Convert, Act, Set, Hold, Release, Copy, Paste, Test, Enter, Leave, Check, Call, Return, Skip}
use Rattle.c_simple_machine.specs.Types.{is_volatile}
use Rattle.c_simple_machine.specs.Acts.{Content, Setting, Effect, Does}

-- no load of the expression is a choice
module _ (p : Program) where
  abbrev mutual
    pub IsStill : Expr → Type 0
    IsStill (Number kind n) = Unit {0}
    IsStill (Address q) = IsStillPlace q
    IsStill (Load q) = (is_volatile p q ≡ false) × IsStillPlace q
    IsStill (Held slot) = Unit {0}
    IsStill (Unary op t e) = IsStill e
    IsStill (Binary op t a b) = IsStill a × IsStill b
    IsStill (Convert t e) = IsStill e

    pub IsStillPlace : Lvalue → Type 0
    IsStillPlace (Variable base) = Unit {0}
    IsStillPlace (Slot slot t) = Unit {0}
    IsStillPlace (Pointed e t volatile) = IsStill e
    IsStillPlace (Member q c m) = IsStillPlace q
    IsStillPlace (Element q e) = IsStillPlace q × IsStill e

  abbrev pub AreStill : List Expr → Type 0
  AreStill [] = Unit {0}
  AreStill (e ∷ more) = IsStill e × AreStill more

  abbrev pub IsStillValue : Option Expr → Type 0
  IsStillValue None = Unit {0}
  IsStillValue (Some e) = IsStill e

  abbrev pub IsStillAct : Act → Type 0
  IsStillAct (Set q e) = IsStillPlace q × IsStill e
  IsStillAct (Hold slot e) = IsStill e
  IsStillAct (Release slot) = Unit {0}
  IsStillAct (Copy to source) = IsStillPlace to × IsStillPlace source
  IsStillAct (Paste base image) = Unit {0}
  IsStillAct (Test e truth) = IsStill e
  IsStillAct (Enter bases) = Unit {0}
  IsStillAct (Leave bases) = Unit {0}
  IsStillAct (Check kind predicate) = Unit {0}
  IsStillAct (Call site f arguments slot) = IsStill f × AreStill arguments
  IsStillAct (Return value slot) = IsStillValue value
  IsStillAct Skip = Unit {0}

-- an act has one effect, unless it loads from a volatile object
abbrev pub ActsOnce : Program → Layout → Type 0
ActsOnce p l = (x : Setting) (act : Act) (c : Content) (e f : Effect) → IsStillAct p act → Does p l x act c e → Does p l x act c f → e ≡ f
