-- The lexemes of a text, each as long as it can be: the Starlark specification, "Lexical elements".
use Rattle.std.specs.Prelude.{◌≡◌, ℕ, ◌+◌, Bool, true, false, List, take, drop, slice_index, Some}
use Rattle.std.specs.Prelude.{pos}
use Rattle.star_lex.specs.declared.bytes.Class.{Class}
use Rattle.star_lex.specs.declared.bytes.Class.TheVariants.{Space, Letter, Digit, Quote, Hash}
use Rattle.star_lex.specs.declared.bytes.Class.TheVariants.{Backslash, Feed, Other}
use Rattle.star_lex.specs.declared.runs.Within.TheVariants.{Blank, Word, RestOfLine}
use Rattle.star_lex.specs.declared.lexemes.Lexeme.{Lexeme}
use Rattle.star_lex.specs.declared.lexemes.Lexeme.TheVariants.{Whitespace, Comment, LineEnd}
use Rattle.star_lex.specs.declared.lexemes.Lexeme.TheVariants.{LineContinuation, Shown}
use Rattle.star_lex.specs.declared.token.TokenKind.TheVariants.{Int, Text, Mark}
use Rattle.star_lex.specs.Bytes.{class_of, line_end}
use Rattle.star_lex.specs.Runs.{belongs, IsRun}
use Rattle.star_lex.specs.Words.{word_kind}
use Rattle.star_lex.specs.Integers.{integer_of, begins_fraction}
use Rattle.star_lex.specs.Strings.{IsString, is_raw}
use Rattle.star_lex.specs.Marks.{IsLongestMark}

-- spaces and tabs
pub record IsWhitespace (text : List ℕ) (lexeme : Lexeme) (n : ℕ) : Type 0 where
  pub kind : lexeme ≡ Whitespace
  pub run : IsRun (belongs Blank) text n

-- an identifier, a keyword or a reserved word: letters, digits and `_`
pub record IsWord (text : List ℕ) (lexeme : Lexeme) (n : ℕ) : Type 0 where
  pub kind : lexeme ≡ Shown (word_kind (take n text))
  pub run : IsRun (belongs Word) text n

-- an integer, behind which stand no digit, no letter, no `_` and no dot with a digit
pub record IsInteger (text : List ℕ) (lexeme : Lexeme) (n : ℕ) : Type 0 where
  pub value : ℕ
  pub kind : lexeme ≡ Shown (Int (pos value))
  pub run : IsRun (belongs Word) text n
  pub numeral : integer_of (take n text) ≡ Some value
  pub apart : begins_fraction (drop n text) ≡ false

-- a string
pub record IsQuoted (text : List ℕ) (lexeme : Lexeme) (n : ℕ) : Type 0 where
  pub value : List ℕ
  pub kind : lexeme ≡ Shown (Text value)
  pub string : IsString text value n

-- `#` and what follows up to the line's end
pub record IsComment (text : List ℕ) (lexeme : Lexeme) (n : ℕ) : Type 0 where
  pub kind : lexeme ≡ Comment
  pub run : IsRun (belongs RestOfLine) text n

-- a backslash before a line's end
pub record IsLineContinuation (text : List ℕ) (lexeme : Lexeme) (n : ℕ) : Type 0 where
  pub feed : ℕ
  pub kind : lexeme ≡ LineContinuation
  pub ends : line_end (drop 1 text) ≡ Some feed
  pub whole : n ≡ 1 + feed

-- a line's end
pub record IsLineEnd (text : List ℕ) (lexeme : Lexeme) (n : ℕ) : Type 0 where
  pub kind : lexeme ≡ LineEnd
  pub ends : line_end text ≡ Some n

-- a mark
pub record IsPunctuation (text : List ℕ) (lexeme : Lexeme) (n : ℕ) : Type 0 where
  pub kind : lexeme ≡ Shown Mark
  pub mark : IsLongestMark text n

-- what begins with a letter: a string behind an `r`, or a word
abbrev pub IsLettered : Bool → List ℕ → Lexeme → ℕ → Type 0
IsLettered true text lexeme n = IsQuoted text lexeme n
IsLettered false text lexeme n = IsWord text lexeme n

-- the lexeme at the front, by the class of the first byte
abbrev pub IsOfClass : Class → List ℕ → Lexeme → ℕ → Type 0
IsOfClass Space text lexeme n = IsWhitespace text lexeme n
IsOfClass Letter text lexeme n = IsLettered (is_raw text) text lexeme n
IsOfClass Digit text lexeme n = IsInteger text lexeme n
IsOfClass Quote text lexeme n = IsQuoted text lexeme n
IsOfClass Hash text lexeme n = IsComment text lexeme n
IsOfClass Backslash text lexeme n = IsLineContinuation text lexeme n
IsOfClass Feed text lexeme n = IsLineEnd text lexeme n
IsOfClass Other text lexeme n = IsPunctuation text lexeme n

-- this lexeme, of n bytes, stands at the front of the text
unfoldable pub IsLexeme : List ℕ → Lexeme → ℕ → Type 0
IsLexeme text lexeme n = IsOfClass (class_of (slice_index text 0)) text lexeme n
