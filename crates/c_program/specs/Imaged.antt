-- Initial contents of a program fit their objects.
use Rattle.std.specs.Prelude.{ℕ, ◌+◌, ◌-◌, ◌*◌, ◌^◌, ◌≤◌, ◌≡◌, ◌≤ℤ◌, List, pos, negsuc, Option, None, Some}
use Rattle.std.specs.List.{AllByRecursion}
use Rattle.c_base.specs.declared.number.BaseId.{BaseId}
use Rattle.c_typed_stmt.specs.declared.init.ImageItem.{ImageItem}
use Rattle.c_program.specs.Named.{IsNumber}
use Rattle.c_memory.specs.declared.scalar.Scalar.TheVariants as scalar
use Rattle.c_memory.specs.Scalars.{bits_of_scalar}
use Rattle.c_program.specs.Syntax.{Lvalue, Variable, Pointed, Temporary, Member, Element, ElementOf, Item, Value, Content, Stmt, If, While, Block, DoWhile, For, Switch, Case, Label, Initialise, Stmts, Done, Next, Base, base_at, Function, Program}

-- The item lies in so many bytes; its number is bounded, and an address takes the bits of a pointer of the machine.
pub record FitsIn (p : Program) (size : ℕ) (i : ImageItem) : Type 0 where
  pub some : 1 ≤ i.count
  pub least : 1 ≤ i.bits
  pub most : i.bits ≤ 64
  pub inside : i.low + i.bits * i.count ≤ 8 * size
  pub low : negsuc (2 ^ 120 - 1) ≤ℤ i.number
  pub high : i.number ≤ℤ pos (2 ^ 120)
  pub base : (b : BaseId) → i.base ≡ Some b → IsNumber p.bases b.0 × (i.bits ≡ bits_of_scalar scalar.Pointer p.machine)

abbrev pub FitImage : Program → ℕ → List ImageItem → Type 0
FitImage p size image = AllByRecursion (FitsIn p size) image

abbrev pub FitsBase : Program → Base → Type 0
FitsBase p b = by_image b.image
  where
    by_image : Option (List ImageItem) → Type 0
    by_image None = Unit {0}
    by_image (Some image) = FitImage p b.size image

abbrev pub size_at : Option Base → ℕ
size_at None = 0
size_at (Some b) = b.size

-- the object of which an lvalue is a part
abbrev pub object_of : Lvalue → Option ℕ
object_of (Variable base) = Some base
object_of (Pointed e t volatile) = None
object_of (Temporary e t) = None
object_of (Member q c m) = object_of q
object_of (Element q e t n end) = object_of q
object_of (ElementOf e q t n end) = object_of q

-- a value stands in the initialised object, as does a content
abbrev pub FitsItem : Program → ℕ → Item → Type 0
FitsItem p base (Value t q e) = object_of q ≡ Some base
FitsItem p base (Content image) = FitImage p (size_at (base_at p.bases base)) image

abbrev mutual
  pub HasImages : Program → Stmt → Type 0
  HasImages p (If id e s t) = HasImages p s × HasImages p t
  HasImages p (While id e s) = HasImages p s
  HasImages p (Block bases stmts) = HaveImages p stmts
  HasImages p (DoWhile h s) = HasImages p s
  HasImages p (For h s) = HasImages p s
  HasImages p (Switch id e s) = HasImages p s
  HasImages p (Case value s) = HasImages p s
  HasImages p (Label name s) = HasImages p s
  HasImages p (Initialise id base cleared items) =
      FitImage p (size_at (base_at p.bases base)) cleared × AllByRecursion (FitsItem p base) items
  HasImages p s = Unit {0}

  pub HaveImages : Program → Stmts → Type 0
  HaveImages p Done = Unit {0}
  HaveImages p (Next s more) = HasImages p s × HaveImages p more

abbrev pub HasImagesIn : Program → Function → Type 0
HasImagesIn p f = HaveImages p f.body

pub record IsImaged (p : Program) : Type 0 where
  pub bases : AllByRecursion (FitsBase p) p.bases
  pub functions : AllByRecursion (HasImagesIn p) p.functions
