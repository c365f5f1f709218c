-- What a text's parse gives.
use Rattle.std.specs.Prelude.{◌≡◌, ℕ, List, Option, Some, None, Result, Ok, Err}
use Rattle.bz_text.specs.Answers.{UnlessOutOfMemory}
use Rattle.bz_text.specs.declared.memory.Miss.{Miss}
use Rattle.star_lex.specs.declared.token.Token.{Token}
use Rattle.star_lex.specs.Tokens.{Lexes}
use Rattle.star_grammar.specs.declared.bare_statements.BareFile.{BareFile}
use Rattle.star_grammar.specs.declared.symbols.Symbol.{Symbol}
use Rattle.star_grammar.specs.StatementReading.{file}
use Rattle.star_grammar.specs.Texts.{Spelled}
use Rattle.star_statements.specs.declared.trees.TreeFault.{TreeFault}
use Rattle.star_statements.specs.declared.trees.TreeFault.TheVariants.{Lex, Syntax}

-- the tree that the text spells; Lex exactly where it has no tokens, Syntax exactly where it has
-- tokens and spells no tree
abbrev pub IsTree : List ℕ → Result BareFile TreeFault → Type 0
IsTree text (Ok tree) = Spelled text tree
IsTree text (Err (Lex hint)) = (tokens : List Token) → Lexes text tokens → ⊥
IsTree text (Err (Syntax hint)) =
    ((tokens : List Token) × Lexes text tokens) × ((tree : BareFile) → Spelled text tree → ⊥)

-- the same of a call that may run out of memory
abbrev pub Parsed : List ℕ → Result BareFile (Miss TreeFault) → Type 0
Parsed text result = UnlessOutOfMemory (IsTree text) result

-- the file that symbols are by the definition, or Syntax
abbrev pub IsWhole : List Symbol → Result BareFile TreeFault → Type 0
IsWhole symbols (Ok tree) = file symbols ≡ Some tree
IsWhole symbols (Err (Lex hint)) = ⊥
IsWhole symbols (Err (Syntax hint)) = file symbols ≡ None

-- the same of a call that may run out of memory
abbrev pub Whole : List Symbol → Result BareFile (Miss TreeFault) → Type 0
Whole symbols result = UnlessOutOfMemory (IsWhole symbols) result
