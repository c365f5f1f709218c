-- A text spells one file at most.
use Rattle.std.proofs.Common.{◌≡◌, ℕ, List, subst}
use Rattle.star_lex.specs.declared.token.Token.{Token}
use Rattle.star_lex.proofs.ScanLaws.{Lexes-unique}
use Rattle.star_grammar.specs.declared.bare_statements.BareFile.{BareFile}
use Rattle.star_grammar.specs.Statements.{IsFile}
use Rattle.star_grammar.specs.Symbols.{symbols_of}
use Rattle.star_grammar.specs.Texts.{Spelled}
use Rattle.star_grammar.proofs.StatementComplete.{IsFile-unique}

pub Spelled-unique : (text : List ℕ) (one other : BareFile)
    → Spelled text one
    → Spelled text other
    → one ≡ other
Spelled-unique text one other so also = IsFile-unique (symbols_of text also.tokens) one other
    (subst (λ (tokens : List Token). IsFile (symbols_of text tokens) one)
    (Lexes-unique text so.tokens also.tokens so.lexed also.lexed) so.spelled) also.spelled
