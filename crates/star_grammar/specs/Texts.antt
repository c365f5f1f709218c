-- Texts and their trees: the symbols of a text's tokens are a file.
use Rattle.std.specs.Prelude.{◌≡◌, ℕ, List}
use Rattle.star_lex.specs.declared.token.Token.{Token}
use Rattle.star_lex.specs.Tokens.{Lexes}
use Rattle.star_grammar.specs.declared.bare_statements.BareFile.{BareFile}
use Rattle.star_grammar.specs.Statements.{IsFile}
use Rattle.star_grammar.specs.Symbols.{symbols_of}

-- the text has tokens, and those spell this file
pub record Spelled (text : List ℕ) (file : BareFile) : Type 0 where
  pub tokens : List Token
  pub lexed : Lexes text tokens
  pub spelled : IsFile (symbols_of text tokens) file
