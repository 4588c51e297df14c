-- Names and keywords (C11 6.4.1, 6.4.2).
use Rattle.std.specs.Prelude.{ℕ, ◌==◌, length, Bool, true, false, cond, List, [], ◌∷◌, Option, None, Some, bytes_eq}
use lib.Chars.{codes}
use Rattle.c_base.specs.declared.token.Keyword.{Keyword}
use Rattle.c_base.specs.declared.token.Keyword.TheVariants.{Auto, Break, Case, Char, Const, Continue, Default, Do, Double, Else, Enum, Extern, Float, For, Goto, If, Inline, Int, Long, Register, Restrict, Return, Short, Signed, Sizeof, Static, Struct, Switch, Typedef, Union, Unsigned, Void, Volatile, While, Alignas, Alignof, Atomic, Bool as BoolWord, Complex, Generic, Imaginary, Noreturn, StaticAssert, ThreadLocal, Asm, Attribute, BuiltinOffsetof, BuiltinVaList}
use Rattle.c_lex.specs.declared.word.KeywordSpelling.{KeywordSpelling}

-- the keyword of the first spelling in a table that is the text
unfoldable pub keyword_in : List (List ℕ × Keyword) → List ℕ → Option Keyword
keyword_in [] text = None
keyword_in (s ∷ more) text = cond (bytes_eq text s.0) (Some s.1) (keyword_in more text)

-- C11's keywords, GCC's words that stand where no name can, and GCC's other spellings
unfoldable pub keywords : List (List ℕ × Keyword)
keywords =
    (codes "auto", Auto) ∷ (codes "break", Break) ∷ (codes "case", Case) ∷ (codes "char", Char) ∷ (codes "const", Const) ∷
    (codes "continue", Continue) ∷ (codes "default", Default) ∷ (codes "do", Do) ∷ (codes "double", Double) ∷ (codes "else", Else) ∷
    (codes "enum", Enum) ∷ (codes "extern", Extern) ∷ (codes "float", Float) ∷ (codes "for", For) ∷ (codes "goto", Goto) ∷
    (codes "if", If) ∷ (codes "inline", Inline) ∷ (codes "int", Int) ∷ (codes "long", Long) ∷ (codes "register", Register) ∷
    (codes "restrict", Restrict) ∷ (codes "return", Return) ∷ (codes "short", Short) ∷ (codes "signed", Signed) ∷
    (codes "sizeof", Sizeof) ∷ (codes "static", Static) ∷ (codes "struct", Struct) ∷ (codes "switch", Switch) ∷
    (codes "typedef", Typedef) ∷ (codes "union", Union) ∷ (codes "unsigned", Unsigned) ∷ (codes "void", Void) ∷
    (codes "volatile", Volatile) ∷ (codes "while", While) ∷ (codes "_Alignas", Alignas) ∷ (codes "_Alignof", Alignof) ∷
    (codes "_Atomic", Atomic) ∷ (codes "_Bool", BoolWord) ∷ (codes "_Complex", Complex) ∷ (codes "_Generic", Generic) ∷
    (codes "_Imaginary", Imaginary) ∷ (codes "_Noreturn", Noreturn) ∷ (codes "_Static_assert", StaticAssert) ∷
    (codes "_Thread_local", ThreadLocal) ∷ (codes "asm", Asm) ∷ (codes "__asm", Asm) ∷ (codes "__asm__", Asm) ∷
    (codes "__attribute", Attribute) ∷ (codes "__attribute__", Attribute) ∷ (codes "__builtin_offsetof", BuiltinOffsetof) ∷
    (codes "__builtin_va_list", BuiltinVaList) ∷ (codes "__inline", Inline) ∷ (codes "__inline__", Inline) ∷
    (codes "__restrict", Restrict) ∷ (codes "__restrict__", Restrict) ∷ (codes "__const", Const) ∷ (codes "__volatile", Volatile) ∷
    (codes "__volatile__", Volatile) ∷ (codes "__signed__", Signed) ∷ []

-- the keyword that a name spells
abbrev pub keyword_of : List ℕ → Option Keyword
keyword_of text = keyword_in keywords text

abbrev pub kept : Bool → List ℕ × Keyword → List (List ℕ × Keyword) → List (List ℕ × Keyword)
kept true s table = s ∷ table
kept false s table = table

-- the spellings of n bytes in a table
abbrev pub of_length : ℕ → List (List ℕ × Keyword) → List (List ℕ × Keyword)
of_length n [] = []
of_length n (s ∷ table) = kept (length s.0 == n) s (of_length n table)

-- a row of the code's table
abbrev pub row : KeywordSpelling → List ℕ × Keyword
row s = (s.text.now, s.keyword)

-- a name that is no token
abbrev pub is_dropped : List ℕ → Bool
is_dropped text = bytes_eq text (codes "__extension__")
