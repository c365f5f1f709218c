-- Where no lexeme stands at the front, where one does how long it is, and that it is the only one.
use Rattle.std.proofs.Common.{◌≡◌, ℕ, ◌<◌, ◌≤◌, ◌+◌, ◌-◌, Bool, true, false, ◌&&◌, List, length}
use Rattle.std.proofs.Common.{take, drop, slice_index, Option, Some, None, pos, eqb, refl, arith}
use Rattle.std.proofs.Common.{sym, subst, ap, ◌∙◌}
use Rattle.std.proofs.lemmas.Bool.{and_parts, both_ways}
use Rattle.std.proofs.lemmas.Bool.Decides.{nat_tests}
use Rattle.std.proofs.lemmas.List.{length-drop}
use Rattle.star_lex.specs.declared.lexemes.Lexeme.{Lexeme}
use Rattle.star_lex.specs.declared.lexemes.Lexeme.TheVariants.{Shown}
use Rattle.star_lex.specs.declared.token.TokenKind.TheVariants.{Int, Text}
use Rattle.star_lex.specs.declared.bytes.Class.{Class}
use Rattle.star_lex.specs.declared.bytes.Class.TheVariants.{Space, Letter, Digit, Quote, Hash}
use Rattle.star_lex.specs.declared.bytes.Class.TheVariants.{Backslash, Feed, Other}
use Rattle.star_lex.specs.declared.runs.Within.TheVariants.{Blank, Word, RestOfLine}
use Rattle.star_lex.specs.Bytes.{class_of}
use Rattle.star_lex.specs.Runs.{belongs, IsRun, is_blank_class, is_word_class}
use Rattle.star_lex.specs.Words.{word_kind}
use Rattle.star_lex.specs.Integers.{integer_of, begins_fraction}
use Rattle.star_lex.specs.Strings.{IsString, is_raw, prefix, is_quote}
use Rattle.star_lex.specs.Lexemes.{IsWhitespace, IsWord, IsInteger, IsQuoted, IsComment}
use Rattle.star_lex.specs.Lexemes.{IsLineContinuation, IsLineEnd, IsPunctuation, IsLettered}
use Rattle.star_lex.specs.Lexemes.{IsOfClass, IsLexeme}
use Rattle.star_lex.proofs.RunLengths.{IsRun-unique, IsRun-begun}
use Rattle.star_lex.proofs.MarkLengths.{IsLongestMark-unique, front_short}
use Rattle.star_lex.proofs.StringItems.{line_end-within}
use Rattle.star_lex.proofs.StringContents.{IsString-unique, IsString-within, none-some}

pub IsQuoted-absent : (text : List ℕ)
    → ((value : List ℕ) (n : ℕ) → IsString text value n → ⊥)
    → (lexeme : Lexeme) (n : ℕ)
    → IsQuoted text lexeme n
    → ⊥
IsQuoted-absent text none lexeme n quoted = none quoted.value n quoted.string

-- a fraction behind the digits makes no integer
pub IsInteger-fraction : (text : List ℕ) (size : ℕ)
    → IsRun (belongs Word) text size
    → begins_fraction (drop size text) ≡ true
    → (lexeme : Lexeme) (n : ℕ)
    → IsInteger text lexeme n
    → ⊥
IsInteger-fraction text size run fraction lexeme n integer =
    let same : n ≡ size = IsRun-unique (belongs Word) text n size integer.run run in
    let apart : begins_fraction (drop size text)
    ≡ false = subst (λ (k : ℕ). begins_fraction (drop k text) ≡ false) same integer.apart in
    both_ways _ apart fraction

pub IsInteger-no_value : (text : List ℕ) (size : ℕ)
    → IsRun (belongs Word) text size
    → integer_of (take size text) ≡ None
    → (lexeme : Lexeme) (n : ℕ)
    → IsInteger text lexeme n
    → ⊥
IsInteger-no_value text size run none lexeme n integer =
    let same : n ≡ size = IsRun-unique (belongs Word) text n size integer.run run in
    none-some integer.value (integer_of (take size text)) none
    (subst (λ (k : ℕ). integer_of (take k text) ≡ Some integer.value) same integer.numeral)

-- the classes whose lexemes need their first byte
pub class-hash : (b : ℕ) → class_of b ≡ Hash → belongs RestOfLine b ≡ true
class-hash b h = grind (arith, nat_tests)

class-quote : (b : ℕ) → class_of b ≡ Quote → is_quote b ≡ true
class-quote b h = grind (arith, nat_tests)

-- a byte that is ASCII, and not 0
abbrev pub IsLow : ℕ → Type 0
IsLow b = (0 < b) × (b < 128)

quote-low : (b : ℕ) → is_quote b ≡ true → IsLow b
quote-low b h = grind (arith, nat_tests)

not-raw-by : (b c : ℕ) → is_quote b ≡ true → (eqb b 114 && is_quote c) ≡ false
not-raw-by b c h = grind (arith, nat_tests)

not-raw : (text : List ℕ) → is_quote (slice_index text 0) ≡ true → is_raw text ≡ false
not-raw text h = not-raw-by (slice_index text 0) (slice_index text 1) h

-- two readings of one front agree
abbrev pub Same : Lexeme → Lexeme → ℕ → ℕ → Type 0
Same lexeme other n m = (lexeme ≡ other) × (n ≡ m)

IsWhitespace-unique : (text : List ℕ) (lexeme other : Lexeme) (n m : ℕ)
    → IsWhitespace text lexeme n
    → IsWhitespace text other m
    → Same lexeme other n m
IsWhitespace-unique text lexeme other n m one two =
    (one.kind ∙ sym two.kind, IsRun-unique (belongs Blank) text n m one.run two.run)

IsComment-unique : (text : List ℕ) (lexeme other : Lexeme) (n m : ℕ)
    → IsComment text lexeme n
    → IsComment text other m
    → Same lexeme other n m
IsComment-unique text lexeme other n m one two =
    (one.kind ∙ sym two.kind, IsRun-unique (belongs RestOfLine) text n m one.run two.run)

IsWord-unique : (text : List ℕ) (lexeme other : Lexeme) (n m : ℕ)
    → IsWord text lexeme n
    → IsWord text other m
    → Same lexeme other n m
IsWord-unique text lexeme other n m one two =
    let size : n ≡ m = IsRun-unique (belongs Word) text n m one.run two.run in
    (one.kind ∙ (ap (λ (k : ℕ). Shown (word_kind (take k text))) size ∙ sym two.kind), size)

abbrev value_or : ℕ → Option ℕ → ℕ
value_or other None = other
value_or other (Some value) = value

some-same : (a b : ℕ) → ◌≡◌ {A = Option ℕ} (Some a) (Some b) → a ≡ b
some-same a b e = ap (value_or a) e

IsInteger-unique : (text : List ℕ) (lexeme other : Lexeme) (n m : ℕ)
    → IsInteger text lexeme n
    → IsInteger text other m
    → Same lexeme other n m
IsInteger-unique text lexeme other n m one two =
    let size : n ≡ m = IsRun-unique (belongs Word) text n m one.run two.run in
    let value : one.value
    ≡ two.value = some-same one.value two.value
    (sym one.numeral ∙ (ap (λ (k : ℕ). integer_of (take k text)) size ∙ two.numeral)) in
    (one.kind ∙ (ap (λ (v : ℕ). Shown (Int (pos v))) value ∙ sym two.kind), size)

IsQuoted-unique : (text : List ℕ) (lexeme other : Lexeme) (n m : ℕ)
    → IsQuoted text lexeme n
    → IsQuoted text other m
    → Same lexeme other n m
IsQuoted-unique text lexeme other n m one two =
    let same = IsString-unique text one.value two.value n m one.string two.string in
    (one.kind ∙ (ap (λ (v : List ℕ). Shown (Text v)) same.0 ∙ sym two.kind), same.1)

IsLineContinuation-unique : (text : List ℕ) (lexeme other : Lexeme) (n m : ℕ)
    → IsLineContinuation text lexeme n
    → IsLineContinuation text other m
    → Same lexeme other n m
IsLineContinuation-unique text lexeme other n m one two =
    let feed : one.feed ≡ two.feed = some-same one.feed two.feed (sym one.ends ∙ two.ends) in
    (one.kind ∙ sym two.kind, one.whole ∙ (ap (λ (k : ℕ). 1 + k) feed ∙ sym two.whole))

IsLineEnd-unique : (text : List ℕ) (lexeme other : Lexeme) (n m : ℕ)
    → IsLineEnd text lexeme n
    → IsLineEnd text other m
    → Same lexeme other n m
IsLineEnd-unique text lexeme other n m one two =
    (one.kind ∙ sym two.kind, some-same n m (sym one.ends ∙ two.ends))

IsPunctuation-unique : (text : List ℕ) (lexeme other : Lexeme) (n m : ℕ)
    → IsPunctuation text lexeme n
    → IsPunctuation text other m
    → Same lexeme other n m
IsPunctuation-unique text lexeme other n m one two =
    (one.kind ∙ sym two.kind, IsLongestMark-unique text n m one.mark two.mark)

IsLettered-unique : (raw : Bool) (text : List ℕ) (lexeme other : Lexeme) (n m : ℕ)
    → IsLettered raw text lexeme n
    → IsLettered raw text other m
    → Same lexeme other n m
IsLettered-unique true text lexeme other n m one two = IsQuoted-unique text lexeme other n m one two
IsLettered-unique false text lexeme other n m one two = IsWord-unique text lexeme other n m one two

IsOfClass-unique : (class : Class) (text : List ℕ) (lexeme other : Lexeme) (n m : ℕ)
    → IsOfClass class text lexeme n
    → IsOfClass class text other m
    → Same lexeme other n m
IsOfClass-unique Space text lexeme other n m one two = IsWhitespace-unique text lexeme other n m one
    two
IsOfClass-unique Letter text lexeme other n m one two = IsLettered-unique
    (is_raw text) text lexeme other n m one two
IsOfClass-unique Digit text lexeme other n m one two = IsInteger-unique text lexeme other n m one
    two
IsOfClass-unique Quote text lexeme other n m one two = IsQuoted-unique text lexeme other n m one two
IsOfClass-unique Hash text lexeme other n m one two = IsComment-unique text lexeme other n m one two
IsOfClass-unique Backslash text lexeme other n m one two = IsLineContinuation-unique text lexeme
    other n m one two
IsOfClass-unique Feed text lexeme other n m one two = IsLineEnd-unique text lexeme other n m one two
IsOfClass-unique Other text lexeme other n m one two = IsPunctuation-unique text lexeme other n m
    one two

pub IsLexeme-unique : (text : List ℕ) (lexeme other : Lexeme) (n m : ℕ)
    → IsLexeme text lexeme n
    → IsLexeme text other m
    → Same lexeme other n m
unfolding IsLexeme
IsLexeme-unique text lexeme other n m one two = IsOfClass-unique
    (class_of (slice_index text 0)) text lexeme other n m one two

-- a lexeme has at least one byte, and no more than the text
abbrev pub Within : List ℕ → ℕ → Type 0
Within text n = (0 < n) × (n ≤ length text)

run-within : (test : ℕ → Bool) (text : List ℕ) (n : ℕ)
    → IsRun test text n
    → test (slice_index text 0) ≡ true
    → Within text n
run-within test text n run begun = (IsRun-begun test text n run begun, run.within)

pub raw-quote : (text : List ℕ) → is_raw text ≡ true → IsLow (slice_index text (prefix text))
raw-quote text raw =
    let e : prefix text ≡ 1 = rw raw refl in
    rw e (quote-low (slice_index text 1) (and_parts (eqb (slice_index text 0) 114) (is_quote
    (slice_index text 1)) raw).1)

pub plain-quote : (text : List ℕ)
    → class_of (slice_index text 0) ≡ Quote
    → IsLow (slice_index text (prefix text))
plain-quote text class =
    let quote = class-quote (slice_index text 0) class in
    let e : is_raw text ≡ false = not-raw text quote in
    let f : prefix text ≡ 0 = rw e refl in
    rw f (quote-low (slice_index text 0) quote)

IsLettered-within : (raw : Bool) (text : List ℕ) (lexeme : Lexeme) (n : ℕ)
    → is_raw text ≡ raw
    → belongs Word (slice_index text 0) ≡ true
    → IsLettered raw text lexeme n
    → Within text n
IsLettered-within true text lexeme n raw begun one = IsString-within text one.value n
    (raw-quote text raw).0 one.string
IsLettered-within false text lexeme n raw begun one = run-within (belongs Word) text n one.run begun

pub IsOfClass-within : (class : Class) (text : List ℕ) (lexeme : Lexeme) (n : ℕ)
    → class_of (slice_index text 0) ≡ class
    → IsOfClass class text lexeme n
    → Within text n
IsOfClass-within Space text lexeme n e one = run-within (belongs Blank) text n one.run
    (ap is_blank_class e)
IsOfClass-within Letter text lexeme n e one = IsLettered-within (is_raw text) text lexeme n refl
    (ap is_word_class e) one
IsOfClass-within Digit text lexeme n e one = run-within (belongs Word) text n one.run
    (ap is_word_class e)
IsOfClass-within Quote text lexeme n e one = IsString-within text one.value n
    (plain-quote text e).0 one.string
IsOfClass-within Hash text lexeme n e one = run-within (belongs RestOfLine) text n one.run
    (class-hash (slice_index text 0) e)
IsOfClass-within Backslash text lexeme n e one =
    let feed = line_end-within (drop 1 text) one.feed one.ends in
    let shorter : length (drop 1 text) ≡ length text - 1 = length-drop 1 text in
    let whole : n ≡ 1 + one.feed = one.whole in
    (omega arith, omega arith)
IsOfClass-within Feed text lexeme n e one = line_end-within text n one.ends
IsOfClass-within Other text lexeme n e one =
    let inside : n ≤ length text = one.mark.within in
    ((front_short text n inside one.mark.mark).0, inside)

pub IsLexeme-within : (text : List ℕ) (lexeme : Lexeme) (n : ℕ)
    → IsLexeme text lexeme n
    → Within text n
unfolding IsLexeme
IsLexeme-within text lexeme n one = IsOfClass-within
    (class_of (slice_index text 0)) text lexeme n refl one
