-- Worked examples of the definition, which computes.
use Rattle.std.specs.Prelude.{ℕ, ◌≡◌, true, false, List, [], ◌∷◌, pos, Option, None, Some, Result, Ok, Err, refl}
use lib.Chars.{codes}
use Rattle.c_base.specs.declared.integer.IntKind.{IntKind}
use Rattle.c_base.specs.declared.integer.IntKind.TheVariants as kind
use Rattle.c_base.specs.declared.integer.Machine.TheVariants.{Lp64}
use Rattle.c_base.specs.declared.number.Span.{Span}
use Rattle.c_base.specs.declared.operators.BinOp.TheVariants as binary
use Rattle.c_base.specs.declared.token.IntegerConstant.{IntegerConstant}
use Rattle.c_base.specs.declared.token.Keyword.{Keyword}
use Rattle.c_base.specs.declared.token.Keyword.TheVariants as key
use Rattle.c_base.specs.declared.token.Length.TheVariants as suffix
use Rattle.c_base.specs.declared.token.Radix.TheVariants as radix
use Rattle.c_memory.specs.declared.scalar.Scalar.TheVariants as scalar
use Rattle.c_types.specs.Types as types
use Rattle.c_typed_expr.specs.Trees as done
use Rattle.c_tree.specs.declared.operator.BinaryOperator.{BinaryOperator}
use Rattle.c_tree.specs.declared.operator.BinaryOperator.TheVariants as op
use Rattle.c_tree.specs.declared.operator.PrefixOperator.TheVariants as prefix
use Rattle.c_tree.specs.declared.operator.TypeOperator.TheVariants as asking
use Rattle.c_tree.specs.declared.tree.CompositeSort.TheVariants as sort
use Rattle.c_tree.specs.declared.tree.Pointer.{Pointer as Star}
use Rattle.c_tree.specs.Trees as tree
use Rattle.c_tree.specs.Trees.{Tree, Trees, Nil, Next}
use Rattle.c_checking.specs.Faults.{Fault, Profile, Typing}
use Rattle.c_checking.specs.Qualified.{QType, Qualified, Q, plain, Integer, Pointer, Array, Void}
use Rattle.c_checking.specs.Scopes.{Scopes, Named, Object, Meaning}
use Rattle.c_checking.specs.Operands.{Value}
use Rattle.c_checking.specs.Checks.{checked}

-- ---- a scope with some objects, and trees with the columns of their first tokens

abbrev at : ℕ → Span
at n = record { line = 1; col = n }

abbrev named : List ℕ → ℕ → Qualified → Named
named name base q = record { name = name; level = 0; meaning = Object base q }

abbrev scope : Scopes
scope = record {
  machine = Lp64;
  level = 0;
  names = named (codes "c") 0 (plain (Integer kind.Char)) ∷ named (codes "u") 1 (plain (Integer kind.UInt)) ∷ named (codes "l") 2 (plain (Integer kind.Long))
      ∷ named (codes "p") 3 (plain (Pointer (plain (Integer kind.Int)))) ∷ named (codes "v") 4 (plain (Pointer (plain Void)))
      ∷ named (codes "a") 5 (plain (Array (plain (Integer kind.Int)) 3)) ∷ named (codes "k") 6 (Q true false (Integer kind.Int)) ∷ [];
  tags = [];
  bodies = [];
  texts = [];
  next_base = 7;
  next_site = 1;
}

abbrev name : ℕ → List ℕ → Tree
name n x = tree.Name (at n) x

abbrev number : ℕ → ℕ → Tree
number n value = tree.Integer (at n) (record { value = value; radix = radix.Decimal; unsigned = false; length = suffix.Plain })

abbrev run : ℕ → Tree → BinaryOperator → Tree → Tree
run n a o b = tree.Run (at n) a (Next (tree.Operand o b) Nil)

abbrev tree_in : Result (Value × Scopes) Fault → Option done.Expr
tree_in (Ok r) = Some r.0.tree
tree_in (Err e) = None

abbrev fault_in : Result (Value × Scopes) Fault → Option Fault
fault_in (Ok r) = None
fault_in (Err e) = Some e

abbrev gives : Tree → Option done.Expr
gives t = tree_in (checked scope t)

abbrev breaks : Tree → Option Fault
breaks t = fault_in (checked scope t)

abbrev int : types.CType
int = types.Integer kind.Int

abbrev load : IntKind → ℕ → done.Expr
load k base = done.Load (scalar.Integer k) (done.Variable base)

-- ---- conversions

char_and_char : gives (run 1 (name 1 (codes "c")) op.Add (name 3 (codes "c"))) ≡ Some (done.Binary binary.Add kind.Int (done.Convert int (load kind.Char 0)) (done.Convert int (load kind.Char 0)))
char_and_char = refl

unsigned_and_long :
    gives (run 1 (name 1 (codes "u")) op.Less (name 3 (codes "l"))) ≡ Some (done.Binary binary.Lt kind.Long (done.Convert (types.Integer kind.Long) (load kind.UInt 1)) (load kind.Long 2))
unsigned_and_long = refl

-- ---- faults

not_null : breaks (run 1 (name 1 (codes "p")) op.Equal (number 6 1)) ≡ Some (Typing 15 (at 1))
not_null = refl

no_elements : breaks (tree.Postfix (at 1) (name 1 (codes "v")) (Next (tree.Index (number 3 0)) Nil)) ≡ Some (Typing 22 (at 1))
no_elements = refl

inner_first : breaks (run 1 (number 1 1) op.Add (tree.Prefix (at 5) prefix.Indirection (name 6 (codes "x")))) ≡ Some (Typing 1 (at 6))
inner_first = refl

constant_object : breaks (tree.Prefix (at 1) prefix.Increment (name 3 (codes "k"))) ≡ Some (Typing 28 (at 1))
constant_object = refl

-- ---- sizes

array_size : gives (tree.Prefix (at 1) prefix.Sizeof (name 8 (codes "a"))) ≡ Some (done.Number kind.ULong (pos 12))
array_size = refl

element_address :
    gives (tree.Prefix (at 1) prefix.Address (tree.Postfix (at 2) (name 2 (codes "a")) (Next (tree.Index (number 4 3)) Nil)))
    ≡ Some (done.Address int (done.Element (done.Variable 5) (done.Number kind.Int (pos 3)) int 3 true))
element_address = refl

-- ---- type names

abbrev word : ℕ → Keyword → Tree
word n k = tree.Key (at n) k

abbrev star : ℕ → Star
star n = record { span = at n; qualifiers = [] }

abbrev type_name : ℕ → Trees → Trees → Tree
type_name n specifiers declarator = tree.TypeName (at n) specifiers declarator

abbrev size_of : Tree → Tree
size_of t = tree.OfType (at 1) asking.Sizeof t

abbrev one : Tree → Trees
one t = Next t Nil

-- `sizeof (enum { A = 2147483648 })`
enumerator_beyond :
    breaks (size_of (type_name 9 (one (tree.Enum (at 9) None (one (tree.Enumerator (at 16) (codes "A") (one (number 20 2147483648)))) false)) Nil)) ≡ Some (Typing 8 (at 16))
enumerator_beyond = refl

-- `sizeof (struct { char x; int y; })`
struct_size :
    gives (size_of (type_name 9 (one (tree.Composite (at 9) sort.Struct [] None
    (Next (tree.Fields (at 18) (one (word 18 key.Char)) (one (tree.Field (at 23) (tree.Declarator (at 23) [] (tree.Declared (at 23) (codes "x")) Nil) Nil [])))
    (one (tree.Fields (at 26) (one (word 26 key.Int)) (one (tree.Field (at 30) (tree.Declarator (at 30) [] (tree.Declared (at 30) (codes "y")) Nil) Nil [])))))
    [])) Nil))
    ≡ Some (done.Number kind.ULong (pos 8))
struct_size = refl

-- `sizeof (int (*)[3])` and `sizeof (int *[3])`
pointer_to_array :
    gives (size_of (type_name 9 (one (word 9 key.Int)) (one (tree.Declarator (at 13) [] (tree.Group (at 13) (tree.Declarator (at 14) (star 14 ∷ []) tree.Absent Nil)) (one (tree.Array (at 16) [] (one (number 17 3))))))))
    ≡ Some (done.Number kind.ULong (pos 8))
pointer_to_array = refl

array_of_pointers :
    gives (size_of (type_name 9 (one (word 9 key.Int)) (one (tree.Declarator (at 13) (star 13 ∷ []) tree.Absent (one (tree.Array (at 14) [] (one (number 15 3))))))))
    ≡ Some (done.Number kind.ULong (pos 24))
array_of_pointers = refl

-- `sizeof (long unsigned float)`, and `sizeof (int char)`
left_out_first : breaks (size_of (type_name 9 (Next (word 9 key.Long) (one (word 14 key.Float))) Nil)) ≡ Some (Profile 1 (at 14))
left_out_first = refl

no_such_type : breaks (size_of (type_name 9 (Next (word 9 key.Int) (one (word 13 key.Char))) Nil)) ≡ Some (Typing 4 (at 9))
no_such_type = refl

-- `sizeof (int [k])` and `sizeof (int [0])`
bound_of_object : breaks (size_of (type_name 9 (one (word 9 key.Int)) (one (tree.Declarator (at 13) [] tree.Absent (one (tree.Array (at 13) [] (one (name 14 (codes "k"))))))))) ≡ Some (Profile 3 (at 14))
bound_of_object = refl

bound_of_nothing : breaks (size_of (type_name 9 (one (word 9 key.Int)) (one (tree.Declarator (at 13) [] tree.Absent (one (tree.Array (at 13) [] (one (number 14 0)))))))) ≡ Some (Typing 7 (at 14))
bound_of_nothing = refl
