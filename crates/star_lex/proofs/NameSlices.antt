-- The slice of a text under a name is UTF-8.
use Rattle.std.proofs.Common.{◌≡◌, ℕ, zero, suc, ◌-◌, ◌<◌, Bool, true, false, List, [], ◌∷◌, take}
use Rattle.std.proofs.Common.{drop, slice_index, ap, sym, subst, ◌∙◌, arith, IsUtf8}
use Rattle.std.proofs.lemmas.Bool.{and_parts, true≢false}
use Rattle.std.proofs.lemmas.Bool.Decides.{nat_tests}
use Rattle.std.proofs.lemmas.Str.{IsUtf8-from_ascii}
use Rattle.std.specs.List.{list_all}
use Rattle.star_lex.specs.declared.bytes.Class.{Class}
use Rattle.star_lex.specs.declared.bytes.Class.TheVariants.{Space, Letter, Digit, Quote, Hash}
use Rattle.star_lex.specs.declared.bytes.Class.TheVariants.{Backslash, Feed, Other}
use Rattle.star_lex.specs.declared.lexemes.Lexeme.TheVariants.{Shown}
use Rattle.star_lex.specs.declared.runs.Within.TheVariants.{Word}
use Rattle.star_lex.specs.declared.token.Token.{Token}
use Rattle.star_lex.specs.declared.token.TokenKind.{TokenKind}
use Rattle.star_lex.specs.declared.token.TokenKind.TheVariants.{Identifier, Newline}
use Rattle.star_lex.specs.Bytes.{class_of}
use Rattle.star_lex.specs.Lexemes.{IsLettered, IsOfClass, IsLexeme}
use Rattle.star_lex.specs.Runs.{belongs}
use Rattle.star_lex.specs.Slices.{IsSlice, is_layout}
use Rattle.star_lex.specs.Slices.IsSlice.{read, line_end, empty}
use Rattle.star_lex.specs.Strings.{is_raw}

word-ascii : (b : ℕ) → belongs Word b ≡ true → b < 128
word-ascii b h = grind (arith, nat_tests)

words-ascii : (bs : List ℕ) → list_all (belongs Word) bs ≡ true → (i : ℕ) → slice_index bs i < 128
words-ascii [] all i = omega arith
words-ascii (b ∷ bs) all zero = word-ascii b
    (and_parts (belongs Word b) (list_all (belongs Word) bs) all).0
words-ascii (b ∷ bs) all (suc i) = words-ascii bs
    (and_parts (belongs Word b) (list_all (belongs Word) bs) all).1 i

lettered-word : (raw : Bool) (text : List ℕ) (n : ℕ)
    → IsLettered raw text (Shown Identifier) n
    → list_all (belongs Word) (take n text) ≡ true
lettered-word true text n one = let kind = one.kind in cc
lettered-word false text n one = one.run.each

class-word : (class : Class) (text : List ℕ) (n : ℕ)
    → IsOfClass class text (Shown Identifier) n
    → list_all (belongs Word) (take n text) ≡ true
class-word Space text n one = let kind = one.kind in cc
class-word Letter text n one = lettered-word (is_raw text) text n one
class-word Digit text n one = let kind = one.kind in cc
class-word Quote text n one = let kind = one.kind in cc
class-word Hash text n one = let kind = one.kind in cc
class-word Backslash text n one = let kind = one.kind in cc
class-word Feed text n one = let kind = one.kind in cc
class-word Other text n one = let kind = one.kind in cc

lexeme-word : (text : List ℕ) (n : ℕ)
    → IsLexeme text (Shown Identifier) n
    → list_all (belongs Word) (take n text) ≡ true
unfolding IsLexeme
lexeme-word text n one = class-word (class_of (slice_index text 0)) text n one

-- a name is UTF-8
pub slice-utf8 : (text : List ℕ) (token : Token)
    → IsSlice text token
    → token.kind ≡ Identifier
    → IsUtf8 (take (token.end - token.begin) (drop token.begin text))
slice-utf8 text token (read lexeme) is =
    IsUtf8-from_ascii (take (token.end - token.begin) (drop token.begin text))
    (words-ascii (take (token.end - token.begin) (drop token.begin text))
    (lexeme-word (drop token.begin text) (token.end - token.begin)
    (subst (λ (kind : TokenKind). IsLexeme (drop token.begin text) (Shown kind) (token.end -
    token.begin)) is lexeme)))
slice-utf8 text token (line_end newline lexeme) is = absurd (other (sym newline ∙ is))
  where
    other : Newline ≡ Identifier → ⊥
    other e = cc
slice-utf8 text token (empty layout same) is = absurd (true≢false (sym layout ∙ ap is_layout is))
