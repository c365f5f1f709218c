-- The symbols of a text: its tokens, each with what its slice of the text says.
use Rattle.std.specs.Prelude.{◌≡◌, ℕ, ◌-◌, if◌then◌else◌, List, [], ◌∷◌, map, take, drop, codes}
use Rattle.std.specs.Prelude.{bytes_eq}
use Rattle.star_lex.specs.declared.token.Token.{Token}
use Rattle.star_lex.specs.declared.token.TokenKind.{TokenKind}
use Rattle.star_lex.specs.declared.token.TokenKind.TheVariants as token
use Rattle.star_grammar.specs.declared.symbols.Sign.{Sign}
use Rattle.star_grammar.specs.declared.symbols.Sign.TheVariants as s
use Rattle.star_grammar.specs.declared.symbols.Symbol.{Symbol}
use Rattle.star_grammar.specs.declared.symbols.SymbolKind.{SymbolKind}
use Rattle.star_grammar.specs.declared.symbols.SymbolKind.TheVariants as kind

-- the sign beside this word in a table; what stands in none is a word of no rule
abbrev pub sign_in : List (List ℕ × Sign) → List ℕ → Sign
sign_in [] word = s.Reserved
sign_in (entry ∷ entries) word = if bytes_eq word entry.0 then entry.1 else sign_in entries word

abbrev pub keywords : List (List ℕ × Sign)
keywords =
    (codes "and", s.And) ∷ (codes "break", s.Break) ∷ (codes "continue", s.Continue) ∷
    (codes "def", s.Def)
    ∷ (codes "elif", s.Elif) ∷ (codes "else", s.Else) ∷ (codes "for", s.For) ∷ (codes "if", s.If)
    ∷ (codes "in", s.In) ∷ (codes "lambda", s.Lambda) ∷ (codes "load", s.Load) ∷
    (codes "not", s.Not)
    ∷ (codes "or", s.Or) ∷ (codes "pass", s.Pass) ∷ (codes "return", s.Return) ∷ []

abbrev pub marks : List (List ℕ × Sign)
marks =
    (codes "+", s.Plus) ∷ (codes "-", s.Minus) ∷ (codes "*", s.Star) ∷ (codes "//", s.Slashes)
    ∷ (codes "%", s.Percent) ∷ (codes "**", s.StarStar) ∷ (codes "~", s.Tilde) ∷
    (codes "&", s.Ampersand)
    ∷ (codes "|", s.Bar) ∷ (codes "^", s.Caret) ∷ (codes "<<", s.ShiftLeft) ∷
    (codes ">>", s.ShiftRight)
    ∷ (codes ".", s.Dot) ∷ (codes ",", s.Comma) ∷ (codes "=", s.Assign) ∷ (codes ";", s.Semicolon)
    ∷ (codes ":", s.Colon) ∷ (codes "(", s.LeftRound) ∷ (codes ")", s.RightRound) ∷
    (codes "[", s.LeftSquare)
    ∷ (codes "]", s.RightSquare) ∷ (codes "{", s.LeftCurly) ∷ (codes "}", s.RightCurly) ∷
    (codes "<", s.Below)
    ∷ (codes ">", s.Above) ∷ (codes ">=", s.AtLeast) ∷ (codes "<=", s.AtMost) ∷
    (codes "==", s.Equal)
    ∷ (codes "!=", s.Unequal) ∷ (codes "+=", s.PlusAssign) ∷ (codes "-=", s.MinusAssign) ∷
    (codes "*=", s.StarAssign)
    ∷ (codes "//=", s.SlashesAssign) ∷ (codes "%=", s.PercentAssign) ∷
    (codes "&=", s.AmpersandAssign) ∷ (codes "|=", s.BarAssign)
    ∷ (codes "^=", s.CaretAssign) ∷ (codes "<<=", s.ShiftLeftAssign) ∷
    (codes ">>=", s.ShiftRightAssign) ∷ []

unfoldable pub keyword : List ℕ → Sign
keyword = sign_in keywords

unfoldable pub mark : List ℕ → Sign
mark = sign_in marks

-- what a token over this slice of the text is
abbrev pub kind_over : List ℕ → TokenKind → SymbolKind
kind_over slice token.Identifier = kind.Name slice
kind_over slice token.Keyword = kind.Sign (keyword slice)
kind_over slice token.Reserved = kind.Sign s.Reserved
kind_over slice (token.Int value) = kind.Int value
kind_over slice (token.Text text) = kind.Text text
kind_over slice token.Mark = kind.Sign (mark slice)
kind_over slice token.Newline = kind.Sign s.Newline
kind_over slice token.Indent = kind.Sign s.Indent
kind_over slice token.Outdent = kind.Sign s.Outdent

-- the bytes of a text between a token's places
abbrev pub slice_of : List ℕ → Token → List ℕ
slice_of text token = take (token.end - token.begin) (drop token.begin text)

abbrev pub symbol_of : List ℕ → Token → Symbol
symbol_of text token = record {
  kind = kind_over
      (slice_of text token) token.kind;
  line = token.line;
}

abbrev pub symbols_of : List ℕ → List Token → List Symbol
symbols_of text tokens = map (symbol_of text) tokens
