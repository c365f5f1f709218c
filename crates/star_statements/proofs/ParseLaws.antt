-- What the file of a text's symbols says of the text.
use Rattle.std.proofs.Common.{◌≡◌, ℕ, List, Option, Some, None, Result, Ok, Err, sym, subst, ◌∙◌}
use Rattle.bz_text.specs.declared.memory.Miss.{Miss}
use Rattle.bz_text.specs.declared.memory.Miss.TheVariants.{OutOfMemory, Because}
use Rattle.star_lex.specs.declared.token.Token.{Token}
use Rattle.star_lex.specs.Tokens.{Lexes}
use Rattle.star_lex.proofs.ScanLaws.{Lexes-unique}
use Rattle.star_grammar.specs.declared.bare_statements.BareFile.{BareFile}
use Rattle.star_grammar.specs.declared.symbols.Symbol.{Symbol}
use Rattle.star_grammar.specs.StatementReading.{file}
use Rattle.star_grammar.specs.Statements.{IsFile}
use Rattle.star_grammar.specs.Symbols.{symbols_of}
use Rattle.star_grammar.specs.Texts.{Spelled}
use Rattle.star_grammar.proofs.StatementComplete.{file-complete}
use Rattle.star_grammar.proofs.StatementSound.{file-sound}
use Rattle.star_statements.specs.declared.trees.TreeFault.{TreeFault}
use Rattle.star_statements.specs.declared.trees.TreeFault.TheVariants.{Lex, Syntax}
use Rattle.star_statements.specs.Parsed.{Parsed, Whole}

none-read : (symbols : List Symbol) (tree : BareFile)
    → file symbols ≡ None
    → IsFile symbols tree
    → ⊥
none-read symbols tree none is = let read = file-complete symbols tree is in cc

pub Parsed-whole : (text : List ℕ) (tokens : List Token) (result : Result BareFile (Miss TreeFault))
    → Lexes text tokens
    → Whole (symbols_of text tokens) result
    → Parsed text result
Parsed-whole text tokens
    (Ok tree) lexed whole = record {
      tokens = tokens;
      lexed = lexed;
      spelled = file-sound
          (symbols_of text tokens) tree whole;
    }
Parsed-whole text tokens (Err (Because (Lex hint))) lexed whole = absurd whole
Parsed-whole text tokens (Err (Because (Syntax hint))) lexed whole = (
  (tokens, lexed),
  λ tree spelled. none-read (symbols_of text tokens) tree whole
      (subst (λ (others : List Token). IsFile (symbols_of text others) tree)
      (Lexes-unique text spelled.tokens tokens spelled.lexed lexed) spelled.spelled),
)
Parsed-whole text tokens (Err OutOfMemory) lexed whole = tt

pub Parsed-symbols : (text bytes : List ℕ) (tokens items : List Token) (symbols : List Symbol)
    (result : Result BareFile (Miss TreeFault))
    → bytes ≡ text
    → items ≡ tokens
    → symbols ≡ symbols_of bytes items
    → Lexes text tokens
    → Whole symbols result
    → Parsed text result
Parsed-symbols text bytes tokens items symbols result same also is lexed whole =
    let told : symbols ≡ symbols_of text tokens = is ∙ (λ k. symbols_of (same k) (also k)) in
    Parsed-whole text tokens result lexed
    (subst (λ (these : List Symbol). Whole these result) told whole)
