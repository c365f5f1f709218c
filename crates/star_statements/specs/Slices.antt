-- Tokens that stand in a text.
use Rattle.std.specs.Prelude.{ℕ, ◌≤◌, List, length}
use Rattle.star_lex.specs.declared.token.Token.{Token}
use Rattle.star_lex.specs.Slices.{IsSlice}

-- the token's places are places of the text, and it says what stands between them
pub record IsPlaced (text : List ℕ) (token : Token) : Type 0 where
  pub ordered : token.begin ≤ token.end
  pub within : token.end ≤ length text
  pub slice : IsSlice text token
