-- How punctuators are spelled (C11 6.4.6, without digraphs, `#` and `##`).
use Rattle.std.specs.Prelude.{ℕ, List, [], ◌∷◌}
use lib.Chars.{codes}
use Rattle.c_base.specs.declared.token.Punctuator.{Punctuator}
use Rattle.c_base.specs.declared.token.Punctuator.TheVariants.{OpenBracket, CloseBracket, OpenParenthesis, CloseParenthesis, OpenBrace, CloseBrace, Dot, Arrow, Increment, Decrement, Ampersand, Star, Plus, Minus, Tilde, Exclamation, Slash, Percent, ShiftLeft, ShiftRight, Less, Greater, LessEqual, GreaterEqual, Equal, NotEqual, Caret, Bar, AndAnd, OrOr, Question, Colon, Semicolon, Ellipsis, Assign, StarAssign, SlashAssign, PercentAssign, PlusAssign, MinusAssign, ShiftLeftAssign, ShiftRightAssign, AmpersandAssign, CaretAssign, BarAssign, Comma, DotDot, Implies, Equivalent}

abbrev pub spelling : Punctuator → List ℕ
spelling OpenBracket = codes "["
spelling CloseBracket = codes "]"
spelling OpenParenthesis = codes "("
spelling CloseParenthesis = codes ")"
spelling OpenBrace = codes "{"
spelling CloseBrace = codes "}"
spelling Dot = codes "."
spelling Arrow = codes "->"
spelling Increment = codes "++"
spelling Decrement = codes "--"
spelling Ampersand = codes "&"
spelling Star = codes "*"
spelling Plus = codes "+"
spelling Minus = codes "-"
spelling Tilde = codes "~"
spelling Exclamation = codes "!"
spelling Slash = codes "/"
spelling Percent = codes "%"
spelling ShiftLeft = codes "<<"
spelling ShiftRight = codes ">>"
spelling Less = codes "<"
spelling Greater = codes ">"
spelling LessEqual = codes "<="
spelling GreaterEqual = codes ">="
spelling Equal = codes "=="
spelling NotEqual = codes "!="
spelling Caret = codes "^"
spelling Bar = codes "|"
spelling AndAnd = codes "&&"
spelling OrOr = codes "||"
spelling Question = codes "?"
spelling Colon = codes ":"
spelling Semicolon = codes ";"
spelling Ellipsis = codes "..."
spelling Assign = codes "="
spelling StarAssign = codes "*="
spelling SlashAssign = codes "/="
spelling PercentAssign = codes "%="
spelling PlusAssign = codes "+="
spelling MinusAssign = codes "-="
spelling ShiftLeftAssign = codes "<<="
spelling ShiftRightAssign = codes ">>="
spelling AmpersandAssign = codes "&="
spelling CaretAssign = codes "^="
spelling BarAssign = codes "|="
spelling Comma = codes ","
spelling DotDot = codes ".."
spelling Implies = codes "==>"
spelling Equivalent = codes "<==>"

abbrev pub last_of : ℕ → List ℕ → ℕ
last_of b [] = b
last_of b (c ∷ cs) = last_of c cs

-- the last byte of a spelling
abbrev pub last_byte : Punctuator → ℕ
last_byte p = last_of 0 (spelling p)

-- the punctuators of one byte
abbrev pub single_marks : List Punctuator
single_marks =
    OpenBracket ∷ CloseBracket ∷ OpenParenthesis ∷ CloseParenthesis ∷ OpenBrace ∷ CloseBrace ∷ Dot ∷ Ampersand ∷ Star ∷ Plus ∷ Minus ∷ Tilde
    ∷ Exclamation ∷ Slash ∷ Percent ∷ Less ∷ Greater ∷ Caret ∷ Bar ∷ Question ∷ Colon ∷ Semicolon ∷ Assign ∷ Comma ∷ []
