-- What a piece gives: one token or none, the tokens of an annotation, or a fault (C11 6.4).
use Rattle.std.specs.Prelude.{ℕ, ◌+◌, ◌==◌, nat_lt, Bool, cond, List, [], length, slice_index, Option, None, Some, ◌≤◌, drop}
use lib.Chars.{codes}
use Rattle.c_base.specs.declared.number.Span.{Span}
use Rattle.c_base.specs.declared.token.Keyword.{Keyword}
use Rattle.c_base.specs.declared.token.IntegerConstant.{IntegerConstant}
use Rattle.c_base.specs.declared.token.Word.TheVariants.{Identifier, Keyword as KeywordWord, Punctuator, Integer, Floating, Character as CharacterWord, Text as TextWord, AnnotationWord}
use Rattle.c_base.specs.declared.token.LexSort.{LexSort}
use Rattle.c_base.specs.declared.token.LexSort.TheVariants.{BadByte, OpenComment, OpenString, BadNumber}
use Rattle.c_lex.specs.declared.fault.LexFault.{LexFault}
use Rattle.c_lex.specs.declared.fault.LexFault.TheVariants.{BadByte as BadByteFault, OpenComment as OpenCommentFault, OpenString as OpenStringFault, BadNumber as BadNumberFault}
use Rattle.c_lex.specs.declared.meaning.Meaning.{Meaning}
use Rattle.c_lex.specs.declared.meaning.Meaning.TheVariants.{Blank, Gives, Annotates, Wrong}
use Rattle.c_lex.specs.declared.text.Contents.{Contents}
use Rattle.c_lex.specs.declared.text.Contents.TheVariants.{Bytes, WrongAt}
use Rattle.c_lex.specs.declared.text.Escaped.{Escaped}
use Rattle.c_lex.specs.declared.state.Context.{Context}
use Rattle.c_lex.specs.declared.state.Context.TheVariants.{Code, LineAnnotation, BlockAnnotation}
use Rattle.c_lex.specs.declared.state.Quote.{Quote}
use Rattle.c_lex.specs.declared.state.Quote.TheVariants.{Character, Text}
use Rattle.c_lex.specs.declared.state.State.{State}
use Rattle.c_lex.specs.declared.state.State.TheVariants.{Start, White, Name, Backslash, AnnotationName, Number, Exponent, Mark, LessEqualEqual, LineComment, BlockComment, BlockStar, Comment, SkippedLine, Quoted, Escape, Closed, Other}
use Rattle.c_lex.specs.Numbers.{integer_of, is_floating}
use Rattle.c_lex.specs.Pieces.{is_inside}
use Rattle.c_lex.specs.Texts.{escape, contents, inner}
use Rattle.c_lex.specs.Words.{keyword_of, is_dropped}

abbrev pub fault_of : LexSort → Span → LexFault
fault_of BadByte at = BadByteFault at
fault_of OpenComment at = OpenCommentFault at
fault_of OpenString at = OpenStringFault at
fault_of BadNumber at = BadNumberFault at

-- the bytes that close an annotation; one with `//` is closed by the end of its line
abbrev pub closing : Context → List ℕ
closing Code = []
closing LineAnnotation = []
closing BlockAnnotation = codes "*/"

-- a comment of the code is an annotation where `@` is its third byte
unfoldable pub comment_meaning : Context → Context → List ℕ → Meaning
comment_meaning c annotation text =
    cond (is_inside c) Blank (cond (nat_lt (length text) (3 + length (closing annotation))) Blank
    (cond (slice_index text 2 == 64) (Annotates annotation) Blank))

abbrev pub keyword_or_name : List ℕ → Option Keyword → Meaning
keyword_or_name text None = Gives (Identifier text)
keyword_or_name text (Some k) = Gives (KeywordWord k)

unfoldable pub name_meaning : List ℕ → Meaning
name_meaning text = cond (is_dropped text) Blank (keyword_or_name text (keyword_of text))

abbrev pub word_meaning : List ℕ → Meaning
word_meaning text = Gives (AnnotationWord text)

abbrev pub integer_or : Option IntegerConstant → Bool → Meaning
integer_or (Some c) floating = Gives (Integer c)
integer_or None floating = cond floating (Gives Floating) (Wrong BadNumber 0)

unfoldable pub number_meaning : List ℕ → Meaning
number_meaning text = integer_or (integer_of text) (is_floating text)

abbrev pub string_with : Contents → Meaning
string_with (WrongAt n) = Wrong BadByte (n + 1)
string_with (Bytes bytes) = Gives (TextWord bytes)

unfoldable pub text_meaning : List ℕ → Meaning
text_meaning text = string_with (contents 0 0 (inner text))

-- a character whose n bytes are all that stands between the quotes; what stands behind it is wrong
abbrev pub single : ℕ → ℕ → ℕ → Meaning
single value n size = cond (n == size) (Gives (CharacterWord value)) (Wrong BadByte (1 + n))

abbrev pub single_escape : Option Escaped → ℕ → Meaning
single_escape None size = Wrong BadByte 1
single_escape (Some e) size = single e.value (1 + e.length) size

-- one escape, or one byte below 128
unfoldable pub character_in : List ℕ → Meaning
character_in text =
    cond (length text == 0) (Wrong BadByte 1) (cond (slice_index text 0 == 92) (single_escape (escape (drop 1 text)) (length text))
    (cond (nat_lt (slice_index text 0) 128) (single (slice_index text 0) 1 (length text)) (Wrong BadByte 1)))

unfoldable pub character_meaning : List ℕ → Meaning
character_meaning text = character_in (inner text)

abbrev pub quoted_meaning : Quote → List ℕ → Meaning
quoted_meaning Text text = text_meaning text
quoted_meaning Character text = character_meaning text

-- what a piece gives
abbrev pub meaning : Context → State → List ℕ → Meaning
meaning c (Start fresh) text = Wrong BadByte 0
meaning c White text = Blank
meaning c Name text = name_meaning text
meaning c Backslash text = Wrong BadByte 0
meaning c AnnotationName text = word_meaning text
meaning c Number text = number_meaning text
meaning c Exponent text = number_meaning text
meaning c (Mark p) text = Gives (Punctuator p)
meaning c LessEqualEqual text = Wrong BadByte 0
meaning c LineComment text = comment_meaning c LineAnnotation text
meaning c BlockComment text = Wrong OpenComment 0
meaning c BlockStar text = Wrong OpenComment 0
meaning c Comment text = comment_meaning c BlockAnnotation text
meaning c SkippedLine text = Blank
meaning c (Quoted q) text = Wrong OpenString 0
meaning c (Escape q) text = Wrong OpenString 0
meaning c (Closed q) text = quoted_meaning q text
meaning c Other text = Wrong BadByte 0

-- what is wrong stands in the piece or directly behind it, and an annotation has room for what opens and closes it
abbrev pub FitsMeaning : List ℕ → Meaning → Type 0
FitsMeaning piece Blank = Unit {0}
FitsMeaning piece (Gives w) = Unit {0}
FitsMeaning piece (Annotates a) = 3 + length (closing a) ≤ length piece
FitsMeaning piece (Wrong sort n) = n ≤ length piece

-- what is wrong stands between the quotes, or is the second of them
abbrev pub IsSingle : ℕ → Meaning → Type 0
IsSingle size Blank = ⊥
IsSingle size (Gives w) = Unit {0}
IsSingle size (Annotates a) = ⊥
IsSingle size (Wrong sort n) = n ≤ size + 1
