-- Where the tokens of a text stand in it.
use Rattle.std.specs.Prelude.{◌≡◌, ℕ, ◌≤◌, ◌-◌, Bool, true, false, List, [], ◌∷◌, drop}
use Rattle.star_lex.specs.declared.lexemes.Lexeme.TheVariants.{LineEnd, Shown}
use Rattle.star_lex.specs.declared.token.Token.{Token}
use Rattle.star_lex.specs.declared.token.TokenKind.{TokenKind}
use Rattle.star_lex.specs.declared.token.TokenKind.TheVariants.{Newline, Indent, Outdent}
use Rattle.star_lex.specs.Lexemes.{IsLexeme}

-- a token of the layout, which may have no bytes
abbrev pub is_layout : TokenKind → Bool
is_layout Newline = true
is_layout Indent = true
is_layout Outdent = true
is_layout _ = false

-- Between its places a token has what it says: the lexeme of its kind and value, a line's end for a
-- newline, or nothing.
pub data IsSlice (text : List ℕ) (token : Token) : Type 0 where
  read : IsLexeme (drop token.begin text) (Shown token.kind) (token.end - token.begin)
      → IsSlice text token
  line_end : token.kind ≡ Newline
      → IsLexeme (drop token.begin text) LineEnd (token.end - token.begin)
      → IsSlice text token
  empty : is_layout token.kind ≡ true → token.begin ≡ token.end → IsSlice text token

-- the tokens stand one behind another between two places, each over its own bytes
abbrev pub AreSlices : List ℕ → ℕ → List Token → ℕ → Type 0
AreSlices text from [] to = from ≤ to
AreSlices text from (token ∷ tokens) to = (from ≤ token.begin) × (token.begin ≤ token.end)
    × IsSlice text token × AreSlices text token.end tokens to
