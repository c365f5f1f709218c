-- The tokens of a text: its lexemes, one after another, laid out.
use Rattle.std.specs.Prelude.{◌≡◌, ℕ, List, [], take, drop, Some, Result, Ok, Err}
use Rattle.bz_text.specs.Answers.{UnlessOutOfMemory}
use Rattle.bz_text.specs.declared.memory.Miss.{Miss}
use Rattle.star_lex.specs.declared.token.Token.{Token}
use Rattle.star_lex.specs.declared.token.LexFault.{LexFault}
use Rattle.star_lex.specs.declared.lexemes.Lexeme.{Lexeme}
use Rattle.star_lex.specs.declared.layout.Layout.{Layout}
use Rattle.star_lex.specs.Lexemes.{IsLexeme}
use Rattle.star_lex.specs.Layouts.{layout_after, tokens_at_end, start}

-- a lexeme of n bytes stands at the front of the text, and takes the one layout to the other
pub record IsStep (s : Layout) (text : List ℕ) (t : Layout) (n : ℕ) : Type 0 where
  pub lexeme : Lexeme
  pub stands : IsLexeme text lexeme n
  pub laid_out : layout_after lexeme (take n text) s ≡ Some t

-- lexeme after lexeme up to the text's end
pub data LexesFrom : Layout → List ℕ → List Token → Type 0 where
  ends : (s : Layout) → LexesFrom s [] (tokens_at_end s)
  goes : (s t : Layout) (text : List ℕ) (n : ℕ) (tokens : List Token)
      → IsStep s text t n
      → LexesFrom t (drop n text) tokens
      → LexesFrom s text tokens

-- the text has these tokens
unfoldable pub Lexes : List ℕ → List Token → Type 0
Lexes text tokens = LexesFrom start text tokens

-- the tokens of the text, and a fault only where it has none
abbrev pub AreTokens : List ℕ → Result (List Token) LexFault → Type 0
AreTokens text (Ok tokens) = Lexes text tokens
AreTokens text (Err _) = (tokens : List Token) → Lexes text tokens → ⊥

-- the same of a call that may run out of memory
abbrev pub Scanned : List ℕ → Result (List Token) (Miss LexFault) → Type 0
Scanned text result = UnlessOutOfMemory (AreTokens text) result
