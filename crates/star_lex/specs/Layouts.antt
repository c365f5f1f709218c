-- Lines, indentation and brackets: how lexemes, one after another, give tokens and their places.
-- The Starlark specification, "Lexical elements"; the Python language reference, 2.1 "Line
-- structure".
use Rattle.std.specs.Prelude.{◌≡◌, ℕ, ◌+◌, ◌-◌, Bool, true, false, ◌||◌, ◌==◌, if◌then◌else◌, List}
use Rattle.std.specs.Prelude.{[], ◌∷◌, ◌++◌, length, map, slice_index, slice_get, count_by, Option}
use Rattle.std.specs.Prelude.{Some, None, nat_lt}
use Rattle.std.specs.List.{list_any}
use Rattle.star_lex.specs.declared.lexemes.Lexeme.{Lexeme}
use Rattle.star_lex.specs.declared.lexemes.Lexeme.TheVariants.{Whitespace, Comment, LineEnd}
use Rattle.star_lex.specs.declared.lexemes.Lexeme.TheVariants.{LineContinuation, Shown}
use Rattle.star_lex.specs.declared.token.Token.{Token}
use Rattle.star_lex.specs.declared.token.TokenKind.{TokenKind}
use Rattle.star_lex.specs.declared.token.TokenKind.TheVariants.{Newline, Indent, Outdent}
use Rattle.star_lex.specs.declared.layout.Phase.{Phase}
use Rattle.star_lex.specs.declared.layout.Phase.TheVariants.{Fresh, Continued, Begun}
use Rattle.star_lex.specs.declared.layout.Layout.{Layout}

-- a token of no bytes where the layout stands
abbrev pub here : TokenKind → Layout → Token
here kind s = record { kind = kind; begin = s.at; end = s.at; line = s.line }

-- a token over the next bytes
abbrev pub over : TokenKind → List ℕ → Layout → Token
over kind front s = record { kind = kind; begin = s.at; end = s.at + length front; line = s.line }

abbrev pub with_token : Layout → Token → Layout
with_token s token = record s { tokens = s.tokens ++ token ∷ [] }

-- the innermost indentation level that is open; the outermost is no indentation
abbrev pub top : List ℕ → ℕ
top [] = 0
top (level ∷ levels) = level

-- the levels that stay open at a width, each level above it giving an outdent; the width must be
-- that of an open level
abbrev pub levels_at_width : Token → ℕ → List ℕ → List Token → Option (List ℕ × List Token)
levels_at_width out width [] tokens = if width == 0 then Some ([], tokens) else None
levels_at_width out width (level ∷ levels) tokens =
    if nat_lt width level then levels_at_width out width levels (tokens ++ out ∷ [])
    else (if width == level then Some (level ∷ levels, tokens) else None)

abbrev pub with_parts : Layout → List ℕ × List Token → Layout
with_parts s parts = record s { levels = parts.0; tokens = parts.1 }

abbrev pub with_levels : Layout → Option (List ℕ × List Token) → Option Layout
with_levels s None = None
with_levels s (Some parts) = Some (with_parts s parts)

-- a deeper indentation opens a level, another returns to one that is open
abbrev pub after_width : Layout → Option Layout
after_width s =
    if nat_lt (top s.levels) s.width then Some
    (record s { levels = s.width ∷ s.levels; tokens = s.tokens ++ here Indent s ∷ [] })
    else with_levels s (levels_at_width (here Outdent s) s.width s.levels s.tokens)

-- before a line's first token: its indentation has no tab
abbrev pub after_margin : Layout → Option Layout
after_margin s = if s.tabbed then None else after_width s

abbrev pub after_indentation_in : Phase → Layout → Option Layout
after_indentation_in Begun s = Some s
after_indentation_in Fresh s = after_margin s
after_indentation_in Continued s = after_margin s

unfoldable pub after_indentation : Layout → Option Layout
after_indentation s = after_indentation_in s.phase s

abbrev pub opens : ℕ → Bool
opens b = b == 40 || (b == 91 || b == 123)

abbrev pub shuts : ℕ → Bool
shuts b = b == 41 || (b == 93 || b == 125)

-- brackets are counted, whichever they are, and none is open below none
abbrev pub nested : ℕ → ℕ → ℕ
nested b depth = if opens b then depth + 1 else (if shuts b then depth - 1 else depth)

-- the same with a token
abbrev pub with_shown : TokenKind → List ℕ → Layout → Layout
with_shown kind front s = record s {
  tokens = s.tokens
      ++ over kind front s ∷ [];
  phase = Begun;
  depth = nested (slice_index front 0) s.depth;
}

-- blanks at the beginning of a line are its indentation
abbrev pub with_whitespace_in : Phase → List ℕ → Layout → Layout
with_whitespace_in Fresh front s = record s {
  width = length front;
  tabbed = list_any
      (λ b. b == 9) front;
}
with_whitespace_in Continued front s = s
with_whitespace_in Begun front s = s

-- what a backslash continues before the first token has no indentation of its own
abbrev pub with_continuation_in : Phase → Layout → Layout
with_continuation_in Fresh s = record s { phase = Continued }
with_continuation_in Continued s = s
with_continuation_in Begun s = s

abbrev pub next_line : Layout → Layout
next_line s = record s { phase = Fresh; width = 0; tabbed = false }

-- a line's end ends the line, with a newline where the line has a token
abbrev pub with_line_end_in : Phase → List ℕ → Layout → Layout
with_line_end_in Fresh front s = next_line s
with_line_end_in Continued front s = next_line s
with_line_end_in Begun front s = next_line
    (record s { tokens = s.tokens ++ over Newline front s ∷ [] })

-- within brackets it gives nothing
abbrev pub with_line_end : List ℕ → Layout → Layout
with_line_end front s = if s.depth == 0 then with_line_end_in s.phase front s else s

-- a layout stands where another does, within as many brackets
pub record IsPlaced (s t : Layout) : Type 0 where
  pub at : t.at ≡ s.at
  pub line : t.line ≡ s.line
  pub depth : t.depth ≡ s.depth

-- behind these bytes; each line feed begins a line
abbrev pub behind_bytes : List ℕ → Layout → Layout
behind_bytes front s = record s {
  at = s.at + length front;
  line = s.line + count_by
      (λ b. b == 10) front;
}

abbrev pub after_shown : TokenKind → List ℕ → Option Layout → Option Layout
after_shown kind front None = None
after_shown kind front (Some s) = Some (behind_bytes front (with_shown kind front s))

-- the layout behind one more lexeme
unfoldable pub layout_after : Lexeme → List ℕ → Layout → Option Layout
layout_after Whitespace front s = Some (behind_bytes front (with_whitespace_in s.phase front s))
layout_after Comment front s = Some (behind_bytes front s)
layout_after LineEnd front s = Some (behind_bytes front (with_line_end front s))
layout_after LineContinuation front s = Some (behind_bytes front (with_continuation_in s.phase s))
layout_after (Shown kind) front s = after_shown kind front (after_indentation s)

abbrev pub is_newline : TokenKind → Bool
is_newline Newline = true
is_newline _ = false

-- whether a last token is no newline
abbrev pub lacks_newline : Option Token → Bool
lacks_newline None = false
lacks_newline (Some token) = if is_newline token.kind then false else true

-- the last newline, where the text lacks it
abbrev pub with_last_newline : Layout → List Token
with_last_newline s = if lacks_newline (slice_get s.tokens (length s.tokens - 1)) then s.tokens
    ++ here Newline s ∷ [] else s.tokens

-- the tokens at the text's end: each level that is open has its outdent
unfoldable pub tokens_at_end : Layout → List Token
tokens_at_end s = with_last_newline s ++ map (λ _. here Outdent s) s.levels

-- before the first lexeme
abbrev pub start : Layout
start = record {
  tokens = [];
  levels = [];
  depth = 0;
  at = 0;
  line = 1;
  width = 0;
  tabbed = false;
  phase = Fresh;
}
