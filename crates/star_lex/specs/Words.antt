-- Keywords and reserved words: the Starlark specification, "Lexical elements".
use Rattle.std.specs.Prelude.{ℕ, Bool, if◌then◌else◌, List, [], ◌∷◌, codes, bytes_eq}
use Rattle.std.specs.List.{list_any}
use Rattle.star_lex.specs.declared.token.TokenKind.{TokenKind}
use Rattle.star_lex.specs.declared.token.TokenKind.TheVariants.{Identifier, Keyword, Reserved}

abbrev pub keywords : List (List ℕ)
keywords = codes "and" ∷ codes "break" ∷ codes "continue" ∷ codes "def" ∷ codes "elif" ∷ codes
    "else" ∷ codes "for" ∷ codes "if" ∷ codes "in" ∷ codes "lambda" ∷ codes "load" ∷ codes "not" ∷
    codes "or" ∷ codes "pass" ∷ codes "return" ∷ []

abbrev pub reserved_words : List (List ℕ)
reserved_words = codes "as" ∷ codes "assert" ∷ codes "class" ∷ codes "del" ∷ codes "except" ∷ codes
    "finally" ∷ codes "from" ∷ codes "global" ∷ codes "import" ∷ codes "is" ∷ codes "nonlocal" ∷
    codes "raise" ∷ codes "try" ∷ codes "while" ∷ codes "with" ∷ codes "yield" ∷ []

abbrev pub is_keyword : List ℕ → Bool
is_keyword word = list_any (bytes_eq word) keywords

abbrev pub is_reserved : List ℕ → Bool
is_reserved word = list_any (bytes_eq word) reserved_words

unfoldable pub word_kind : List ℕ → TokenKind
word_kind word =
    if is_keyword word then Keyword
    else (if is_reserved word then Reserved else Identifier)
