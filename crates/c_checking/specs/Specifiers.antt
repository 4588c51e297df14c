-- Lists of specifiers (C11 6.7.2p2), and what declarators make of a type (C11 6.7.6).
use Rattle.std.specs.Prelude.{ℕ, zero, suc, ◌+◌, ◌==◌, ◌^◌, nat_le, nat_lt, Bool, true, false, cond, ◌&&◌, ◌||◌, not, List, [], ◌∷◌, ◌++◌, Option, None, Some, is_some, Result, Ok, Err}
use Rattle.std.specs.List.{list_any}
use Rattle.c_base.specs.declared.integer.IntKind.{IntKind}
use Rattle.c_base.specs.declared.integer.IntKind.TheVariants as kind
use Rattle.c_base.specs.declared.number.Span.{Span}
use Rattle.c_base.specs.declared.token.Keyword.{Keyword}
use Rattle.c_base.specs.declared.token.Keyword.TheVariants as key
use Rattle.c_types.specs.Types.{Extent}
use Rattle.c_tree.specs.Trees as tree
use Rattle.c_tree.specs.Trees.{Tree, Trees, Key, Typedef, CompositeTag, Composite as Braces, EnumTag, Enum}
use Rattle.c_tree.specs.declared.tree.Pointer.{Pointer as Star}
use Rattle.c_tree.specs.declared.tree.Qualifier.{Qualifier}
use Rattle.c_tree.specs.declared.tree.Qualifier.TheVariants as qualifier
use Rattle.c_checking.specs.Faults.{Fault, fault, ◌>>=◌}
use Rattle.c_checking.specs.Qualified.{QType, QTypes, Nil, Next, Void, Integer, Pointer, Array, Function, Qualified, Q, type_in, plain, qualified, further, is_function, is_array, is_void}
use Rattle.c_checking.specs.Scopes.{Scopes, extent_of}

-- ---- which types the words of a list name together

-- the words that name types, in any order (C11 6.7.2p2)
pub record Row : Type 0 where
  pub words : List Keyword
  pub qtype : QType

abbrev row : List Keyword → QType → Row
row words t = record { words = words; qtype = t }

abbrev pub rows : List Row
rows =
    row (key.Void ∷ []) Void
    ∷ row (key.Char ∷ []) (Integer kind.Char)
    ∷ row (key.Signed ∷ key.Char ∷ []) (Integer kind.SChar)
    ∷ row (key.Unsigned ∷ key.Char ∷ []) (Integer kind.UChar)
    ∷ row (key.Short ∷ []) (Integer kind.Short)
    ∷ row (key.Signed ∷ key.Short ∷ []) (Integer kind.Short)
    ∷ row (key.Short ∷ key.Int ∷ []) (Integer kind.Short)
    ∷ row (key.Signed ∷ key.Short ∷ key.Int ∷ []) (Integer kind.Short)
    ∷ row (key.Unsigned ∷ key.Short ∷ []) (Integer kind.UShort)
    ∷ row (key.Unsigned ∷ key.Short ∷ key.Int ∷ []) (Integer kind.UShort)
    ∷ row (key.Int ∷ []) (Integer kind.Int)
    ∷ row (key.Signed ∷ []) (Integer kind.Int)
    ∷ row (key.Signed ∷ key.Int ∷ []) (Integer kind.Int)
    ∷ row (key.Unsigned ∷ []) (Integer kind.UInt)
    ∷ row (key.Unsigned ∷ key.Int ∷ []) (Integer kind.UInt)
    ∷ row (key.Long ∷ []) (Integer kind.Long)
    ∷ row (key.Signed ∷ key.Long ∷ []) (Integer kind.Long)
    ∷ row (key.Long ∷ key.Int ∷ []) (Integer kind.Long)
    ∷ row (key.Signed ∷ key.Long ∷ key.Int ∷ []) (Integer kind.Long)
    ∷ row (key.Unsigned ∷ key.Long ∷ []) (Integer kind.ULong)
    ∷ row (key.Unsigned ∷ key.Long ∷ key.Int ∷ []) (Integer kind.ULong)
    ∷ row (key.Long ∷ key.Long ∷ []) (Integer kind.LLong)
    ∷ row (key.Signed ∷ key.Long ∷ key.Long ∷ []) (Integer kind.LLong)
    ∷ row (key.Long ∷ key.Long ∷ key.Int ∷ []) (Integer kind.LLong)
    ∷ row (key.Signed ∷ key.Long ∷ key.Long ∷ key.Int ∷ []) (Integer kind.LLong)
    ∷ row (key.Unsigned ∷ key.Long ∷ key.Long ∷ []) (Integer kind.ULLong)
    ∷ row (key.Unsigned ∷ key.Long ∷ key.Long ∷ key.Int ∷ []) (Integer kind.ULLong)
    ∷ row (key.Bool ∷ []) (Integer kind.Bool)
    ∷ []

-- each of these words stands as often in the one list as in the other
abbrev pub numbered : Keyword → ℕ
numbered key.Void = 1
numbered key.Char = 2
numbered key.Short = 3
numbered key.Int = 4
numbered key.Long = 5
numbered key.Signed = 6
numbered key.Unsigned = 7
numbered key.Bool = 8
numbered key.Float = 9
numbered key.Double = 10
numbered key.Complex = 11
numbered key.BuiltinVaList = 12
numbered _ = 0

abbrev pub times : Keyword → List Keyword → ℕ
times k [] = 0
times k (l ∷ more) = cond (numbered k == numbered l) 1 0 + times k more

abbrev pub type_words : List Keyword
type_words = key.Void ∷ key.Char ∷ key.Short ∷ key.Int ∷ key.Long ∷ key.Signed ∷ key.Unsigned ∷ key.Bool ∷ key.Float ∷ key.Double ∷ key.Complex ∷ key.BuiltinVaList ∷ []

abbrev pub all_as_often : List Keyword → List Keyword → List Keyword → Bool
all_as_often [] xs ys = true
all_as_often (k ∷ more) xs ys = (times k xs == times k ys) && all_as_often more xs ys

abbrev pub are_same_words : List Keyword → List Keyword → Bool
are_same_words xs ys = all_as_often type_words xs ys

abbrev pub type_of_words : List Row → List Keyword → Option QType
type_of_words [] words = None
type_of_words (r ∷ more) words = cond (are_same_words words r.words) (Some r.qtype) (type_of_words more words)

abbrev pub if_type_word : Keyword → List Keyword → List Keyword
if_type_word k words = cond (numbered k == 0) words (k ∷ words)

-- the words of a list that name types
abbrev pub words_of : Trees → List Keyword
words_of tree.Nil = []
words_of (tree.Next (Key at k) more) = if_type_word k (words_of more)
words_of (tree.Next t more) = words_of more

-- how many of a list's specifiers are structs, unions, enumerations or typedef names
abbrev pub others : Trees → ℕ
others tree.Nil = 0
others (tree.Next (Typedef at name) more) = suc (others more)
others (tree.Next (CompositeTag at sort attributes tag) more) = suc (others more)
others (tree.Next (Braces at sort attributes tag members trailing) more) = suc (others more)
others (tree.Next (EnumTag at tag) more) = suc (others more)
others (tree.Next (Enum at tag enumerators comma) more) = suc (others more)
others (tree.Next t more) = others more

-- storage classes (C11 6.7.1), and `inline` and `_Noreturn` (C11 6.7.4)
abbrev pub is_storage_class : Keyword → Bool
is_storage_class key.Typedef = true
is_storage_class key.Extern = true
is_storage_class key.Static = true
is_storage_class key.Auto = true
is_storage_class key.Register = true
is_storage_class _ = false

abbrev pub is_register : Keyword → Bool
is_register key.Register = true
is_register _ = false

abbrev pub is_of_function : Keyword → Bool
is_of_function key.Inline = true
is_of_function key.Noreturn = true
is_of_function _ = false

abbrev pub any_key : (Keyword → Bool) → Trees → Bool
any_key f tree.Nil = false
any_key f (tree.Next (Key at k) more) = f k || any_key f more
any_key f (tree.Next t more) = any_key f more

abbrev pub count_keys : (Keyword → Bool) → Trees → ℕ
count_keys f tree.Nil = 0
count_keys f (tree.Next (Key at k) more) = cond (f k) 1 0 + count_keys f more
count_keys f (tree.Next t more) = count_keys f more

-- a list names a type by its words, or by one other specifier alone; it has at most one storage class (C11 6.7.1p2)
pub data Named : Type 0 where
  ByWords : QType → Named
  ByOther : Named

abbrev pub named_by_words : Option QType → Option Named
named_by_words None = None
named_by_words (Some t) = Some (ByWords t)

abbrev pub named_alone : List Keyword → ℕ → Option Named
named_alone [] (suc zero) = Some ByOther
named_alone words zero = named_by_words (type_of_words rows words)
named_alone words _ = None

abbrev pub named_type : Trees → Option Named
named_type all = cond (nat_lt 1 (count_keys is_storage_class all)) None (named_alone (words_of all) (others all))

abbrev pub is_const : Keyword → Bool
is_const key.Const = true
is_const _ = false

abbrev pub is_volatile_word : Keyword → Bool
is_volatile_word key.Volatile = true
is_volatile_word _ = false

-- the list's qualifiers beside those of its type
abbrev pub with_qualifiers : Trees → Qualified → Qualified
with_qualifiers all q = further (any_key is_const all) (any_key is_volatile_word all) q

-- ---- what a declarator makes of a type

-- from the name outwards: an array of so many, where the bound is given, and the words in its brackets; a function with such parameters; a
-- pointer with its qualifiers
pub data Layer : Type 0 where
  ArrayOf : Span → Option ℕ → List Keyword → Layer
  FunctionOf : Span → QTypes → Bool → Layer
  PointerTo : Bool → Bool → Layer

abbrev pub is_keyword_of : (Keyword → Bool) → Qualifier → Bool
is_keyword_of f (qualifier.Keyword k) = f k
is_keyword_of f (qualifier.Attribute attribute) = false

abbrev pub star : Star → Layer
star s = PointerTo (list_any (is_keyword_of is_const) s.qualifiers) (list_any (is_keyword_of is_volatile_word) s.qualifiers)

-- the `*` that stands last is the nearest to the name
abbrev pub stars : List Star → List Layer
stars [] = []
stars (s ∷ more) = stars more ++ star s ∷ []

abbrev pub bound_of : Option ℕ → ℕ
bound_of None = 0
bound_of (Some n) = n

-- rule 7: no type takes more than 2^60 bytes
abbrev pub is_small : Option Extent → Bool
is_small None = true
is_small (Some e) = nat_le e.size (2 ^ 60)

-- rule 6: elements have a size (C11 6.7.6.2p1)
abbrev pub array_of : Scopes → Span → Option ℕ → Qualified → Result Qualified Fault
array_of s at bound q =
    cond (is_some (extent_of s (type_in q)))
    (cond (is_small (extent_of s (Array q (bound_of bound)))) (Ok (plain (Array q (bound_of bound)))) (fault 7 at))
    (fault 6 at)

-- rule 6: a function returns neither a function nor an array (C11 6.7.6.3p1)
abbrev pub function_of : Span → QTypes → Bool → QType → Result Qualified Fault
function_of at params variadic t = cond (is_function t || is_array t) (fault 6 at) (Ok (plain (Function t params variadic)))

abbrev pub layered : Scopes → Layer → Qualified → Result Qualified Fault
layered s (ArrayOf at bound words) q = array_of s at bound q
layered s (FunctionOf at params variadic) q = function_of at params variadic (type_in q)
layered s (PointerTo c v) q = Ok (Q c v (Pointer q))

-- the type that what stands nearest to the name gives is made last
abbrev pub built : Scopes → List Layer → Qualified → Result Qualified Fault
built s [] q = Ok q
built s (layer ∷ more) q = do
  inner ← built s more q
  layered s layer inner

-- rule 6: words stand only in the outermost brackets of a parameter (C11 6.7.6.2p1)
abbrev pub unmarked : List Layer → Qualified → Result Qualified Fault
unmarked [] q = Ok q
unmarked (ArrayOf at bound (k ∷ words) ∷ more) q = fault 6 at
unmarked (layer ∷ more) q = unmarked more q

abbrev pub behind_outermost : List Layer → List Layer
behind_outermost [] = []
behind_outermost (layer ∷ more) = more

-- the type of what is declared
abbrev pub declared_as : Scopes → List Layer → Qualified → Result Qualified Fault
declared_as s layers q = do
  t ← built s layers q
  unmarked layers t

-- ---- parameters (C11 6.7.6.3p7 and p8, p10, p15)

-- with qualifiers of its own where it stands for an object
abbrev pub adjusted : Bool → Bool → Qualified → Qualified
adjusted c v (Q d w (Array of count)) = Q c v (Pointer of)
adjusted c v (Q d w (Function result params variadic)) = Q false false (Pointer (plain (Function result params variadic)))
adjusted c v q = q

-- the qualifiers in the brackets of a parameter that is declared as an array are its own
abbrev pub adjusted_by : List Layer → Qualified → Qualified
adjusted_by (ArrayOf at bound words ∷ more) q = adjusted (list_any is_const words) (list_any is_volatile_word words) q
adjusted_by _ q = adjusted false false q

abbrev pub parameter_as : Scopes → List Layer → Qualified → Result Qualified Fault
parameter_as s layers q = do
  t ← built s layers q
  u ← unmarked (behind_outermost layers) t
  Ok (adjusted_by layers u)
