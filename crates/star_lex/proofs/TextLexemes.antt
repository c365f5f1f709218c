-- In a text that is UTF-8, a lexeme ends between two characters, and a string's value is UTF-8.
use Rattle.std.proofs.Common.{◌≡◌, ℕ, ◌<◌, ◌≤◌, ◌+◌, ◌-◌, inl, inr, Bool, true, false, ◌&&◌, cond}
use Rattle.std.proofs.Common.{List, [], ◌∷◌, ◌++◌, length, take, drop, slice_index, Option, Some}
use Rattle.std.proofs.Common.{ltb, eqb, refl, arith, sym, subst, ap, ◌∙◌, IsUtf8, append_assoc}
use Rattle.std.proofs.Common.{append-nil, length-append, get_or-append-add, get_or-drop, drop-drop}
use Rattle.std.proofs.Common.{drop_at, take_at}
use Rattle.std.specs.List.{list_all, list_any}
use Rattle.std.specs.Str.{bytes_eq}
use Rattle.std.proofs.lemmas.Bool.{and_parts, or_cases, both_ways, eqb-true, ltb-true}
use Rattle.std.proofs.lemmas.Bool.Decides.{nat_tests}
use Rattle.std.proofs.lemmas.Slice.Eq.{bytes_eq-Decides}
use Rattle.std.proofs.lemmas.Str.{IsUtf8-take, IsUtf8-drop, IsUtf8-append}
use Rattle.std.proofs.lemmas.Str.{IsCharBoundary-before_ascii, IsCharBoundary-after_ascii}
use Rattle.star_lex.specs.declared.strings.Style.{Style}
use Rattle.star_lex.specs.declared.lexemes.Lexeme.{Lexeme}
use Rattle.star_lex.specs.declared.bytes.Class.{Class}
use Rattle.star_lex.specs.declared.bytes.Class.TheVariants.{Space, Letter, Digit, Quote, Hash}
use Rattle.star_lex.specs.declared.bytes.Class.TheVariants.{Backslash, Feed, Other}
use Rattle.star_lex.specs.declared.runs.Within.TheVariants.{Blank, Word, RestOfLine}
use Rattle.star_lex.specs.Bytes.{class_of, line_end}
use Rattle.star_lex.specs.Runs.{belongs, IsRun}
use Rattle.star_lex.specs.Marks.{single_marks, double_marks, triple_marks, is_mark}
use Rattle.star_lex.specs.Strings.{Contents, IsString, bytes_of, closes, is_tripled, is_raw}
use Rattle.star_lex.specs.Strings.{opening, prefix, quotes, style_of}
use Rattle.star_lex.specs.Strings.Contents.{ends, goes}
use Rattle.star_lex.specs.Lexemes.{IsLettered, IsOfClass, IsLexeme}
use Rattle.star_lex.proofs.RunLengths.{each-at}
use Rattle.star_lex.proofs.StringItems.{item-within, byte-within}
use Rattle.star_lex.proofs.StringContents.{style_of-quote, closes-within, quotes-some, opening-some}
use Rattle.star_lex.proofs.LexemeLaws.{IsOfClass-within, raw-quote, plain-quote}
use Rattle.star_lex.proofs.TextItems.{item-reads, Feeds, line_end-feeds}

-- what stands before an ASCII byte is UTF-8, and so is what stands behind one
before-ascii : (front text : List ℕ)
    → IsUtf8 (front ++ text)
    → 0 < length text
    → slice_index text 0 < 128
    → IsUtf8 front
before-ascii front text utf8 some ascii =
    let long : length (front ++ text) ≡ length front + length text = length-append front text in
    let place : length front ≡ length front + 0 = omega arith in
    let at : slice_index (front ++ text) (length front)
    ≡ slice_index text 0 = ap (λ (i : ℕ). slice_index (front ++ text) i) place
    ∙ get_or-append-add front text 0 0 in
    let cut : IsUtf8 (take (length front) (front ++ text)) = IsUtf8-take (front ++ text)
    (length front) utf8 (IsCharBoundary-before_ascii (front ++ text) (length front) (omega
    arith) (omega arith)) in
    subst (λ (bytes : List ℕ). IsUtf8 bytes) (take_at front text (length front) refl) cut

behind-ascii : (front text : List ℕ) (n : ℕ)
    → IsUtf8 (front ++ text)
    → 0 < n
    → n ≤ length text
    → slice_index text (n - 1) < 128
    → IsUtf8 (drop n text)
behind-ascii front text n utf8 some within ascii =
    let long : length (front ++ text) ≡ length front + length text = length-append front text in
    let at : slice_index (front ++ text) (length front + (n - 1))
    ≡ slice_index text (n - 1) = get_or-append-add front text (n - 1) 0 in
    let boundary = IsCharBoundary-after_ascii (front ++ text) (length front + (n - 1)) utf8
    (omega arith) (omega arith) in
    let cut : IsUtf8 (drop (length front + (n - 1) + 1) (front ++ text)) = IsUtf8-drop
    (front ++ text) (length front + (n - 1) + 1) utf8 boundary in
    let place : length front + (n - 1) + 1 ≡ length front + n = omega arith in
    let same : drop (length front + (n - 1) + 1) (front ++ text) ≡ drop n text =
    ap (λ (k : ℕ). drop k (front ++ text)) place
    ∙ (sym (drop-drop n (length front) (front ++ text))
    ∙ ap (λ (bytes : List ℕ). drop n bytes) (drop_at front text (length front) refl)) in
    subst (λ (bytes : List ℕ). IsUtf8 bytes) same cut

ends-ascii : (text : List ℕ) (n : ℕ)
    → IsUtf8 text
    → 0 < n
    → n ≤ length text
    → slice_index text (n - 1) < 128
    → IsUtf8 (drop n text)
ends-ascii text n utf8 some within ascii = behind-ascii [] text n utf8 some within ascii

-- the quotes at the end
closing-quotes : (style : Style) (text : List ℕ)
    → closes style text ≡ true
    → (slice_index text 0 ≡ style.quote) × (slice_index text (quotes style - 1) ≡ style.quote)
unfolding closes
closing-quotes style text here = closing-by style.triple style.quote here
  where
    closing-by : (triple : Bool) (quote : ℕ)
        → cond triple (is_tripled quote text) (eqb (slice_index text 0) quote) ≡ true
        → (slice_index text 0 ≡ quote) × (slice_index text (cond triple 3 1 - 1) ≡ quote)
    closing-by true quote here =
        let later = and_parts (eqb (slice_index text 0) quote)
        (eqb (slice_index text 1) quote && eqb (slice_index text 2) quote) here in
        let last = and_parts (eqb (slice_index text 1) quote)
        (eqb (slice_index text 2) quote) later.1 in
        (eqb-true (slice_index text 0) quote later.0, eqb-true (slice_index text 2) quote last.1)
    closing-by false quote here =
        (eqb-true (slice_index text 0) quote here, eqb-true (slice_index text 0) quote here)

-- behind a front of a text: the value is UTF-8 behind that front, and so is what stands behind the
-- string
pub Contents-utf8 : (style : Style) (front text value : List ℕ) (n : ℕ)
    → 0 < style.quote
    → style.quote < 128
    → IsUtf8 (front ++ text)
    → Contents style text value n
    → IsUtf8 (front ++ value) × IsUtf8 (drop n text)
Contents-utf8 style front text value n some ascii utf8 (ends _ here) =
    let marks = closing-quotes style text here in
    let first : slice_index text 0 ≡ style.quote = marks.0 in
    let last : slice_index text (quotes style - 1) ≡ style.quote = marks.1 in
    let within : quotes style ≤ length text = closes-within style text some here in
    let long : 0 < quotes style = quotes-some style.triple in (
      subst (λ (bytes : List ℕ). IsUtf8 bytes) (sym (append-nil front))
          (before-ascii front text utf8 (omega arith) (omega arith)),
      behind-ascii front text (quotes style) utf8 long within (omega arith),
    )
Contents-utf8 style front text value n some ascii utf8
    (goes _ more meaning size left unended first contents) =
    let inside = item-within style text meaning size first in
    elim (item-reads style text meaning size first) [
      | inl same ↦
          let shifted : front ++ text ≡ (front ++ bytes_of meaning)
          ++ drop size text = ap (λ (bytes : List ℕ). front ++ bytes) same
          ∙ sym (append_assoc front (bytes_of meaning) (drop size text)) in
          let next = Contents-utf8 style (front ++ bytes_of meaning)
          (drop size text) more left some ascii
          (subst (λ (bytes : List ℕ). IsUtf8 bytes) shifted utf8) contents in (
            subst (λ (bytes : List ℕ). IsUtf8 bytes)
                (append_assoc front (bytes_of meaning) more) next.0,
            subst (λ (bytes : List ℕ). IsUtf8 bytes) (drop-drop left size text) next.1,
          )
      | inr cut ↦
          let behind : IsUtf8 (drop size text) = behind-ascii front text size utf8 inside.0 inside.1
          cut.1 in
          let next = Contents-utf8 style [] (drop size text) more left some ascii behind contents in (
            IsUtf8-append front (bytes_of meaning ++ more)
                (before-ascii front text utf8 (omega arith) cut.0)
                (IsUtf8-append (bytes_of meaning) more cut.2 next.0),
            subst (λ (bytes : List ℕ). IsUtf8 bytes) (drop-drop left size text) next.1,
          )
    ]

-- the quotes at the beginning
opening-last : (text : List ℕ)
    → slice_index text (opening text - 1) ≡ slice_index text (prefix text)
unfolding style_of
opening-last text = opening-by
    (is_tripled (slice_index text (prefix text)) (drop (prefix text) text)) refl
  where
    opening-by : (triple : Bool)
        → is_tripled (slice_index text (prefix text)) (drop (prefix text) text) ≡ triple
        → slice_index text (prefix text + cond triple 3 1 - 1) ≡ slice_index text (prefix text)
    opening-by true here =
        let later = and_parts
        (eqb (slice_index (drop (prefix text) text) 0) (slice_index text (prefix text)))
        (eqb (slice_index (drop (prefix text) text) 1) (slice_index text (prefix text))
        && eqb (slice_index (drop (prefix text) text) 2)
        (slice_index text (prefix text))) here in
        let last = and_parts
        (eqb (slice_index (drop (prefix text) text) 1) (slice_index text (prefix text)))
        (eqb (slice_index (drop (prefix text) text) 2)
        (slice_index text (prefix text))) later.1 in
        let place : prefix text + 3 - 1 ≡ prefix text + 2 = omega arith in
        ap (λ (i : ℕ). slice_index text i) place
        ∙ (sym (get_or-drop (prefix text) text 2 0)
        ∙ eqb-true (slice_index (drop (prefix text) text) 2)
        (slice_index text (prefix text)) last.1)
    opening-by false here = let place : prefix text + 1 - 1
        ≡ prefix text = omega arith in ap (λ (i : ℕ). slice_index text i) place

-- what stands behind the quotes at the beginning
pub opening-utf8 : (text : List ℕ)
    → 0 < slice_index text (prefix text)
    → slice_index text (prefix text) < 128
    → IsUtf8 text
    → IsUtf8 (drop (opening text) text)
opening-utf8 text some ascii utf8 =
    let last : slice_index text (opening text - 1)
    ≡ slice_index text (prefix text) = opening-last text in
    let long : 0 < opening text = opening-some text in
    let within : opening text - 1 < length text = byte-within text (opening text - 1)
    (slice_index text (prefix text)) last some in
    ends-ascii text (opening text) utf8 long (omega arith) (omega arith)

-- the value of a string's contents, and what stands behind them
pub behind-opening : (text value : List ℕ) (size : ℕ)
    → 0 < slice_index text (prefix text)
    → slice_index text (prefix text) < 128
    → IsUtf8 text
    → Contents (style_of text) (drop (opening text) text) value size
    → IsUtf8 value × IsUtf8 (drop size (drop (opening text) text))
behind-opening text value size some ascii utf8 contents =
    let quoted : 0 < (style_of text).quote = rw (style_of-quote text) some in
    let low : (style_of text).quote < 128 = rw (style_of-quote text) ascii in
    Contents-utf8 (style_of text) [] (drop (opening text) text) value size quoted low
    (opening-utf8 text some ascii utf8) contents

IsString-utf8 : (text value : List ℕ) (n : ℕ)
    → 0 < slice_index text (prefix text)
    → slice_index text (prefix text) < 128
    → IsUtf8 text
    → IsString text value n
    → IsUtf8 (drop n text)
IsString-utf8 text value n some ascii utf8 string =
    let behind = behind-opening text value string.size some ascii utf8 string.contents in
    subst (λ (bytes : List ℕ). IsUtf8 bytes)
    (drop-drop string.size (opening text) text
    ∙ ap (λ (k : ℕ). drop k text) (sym string.whole)) behind.1

-- runs of blanks and of a word's bytes are ASCII, and a comment ends before ASCII
blank-ascii : (b : ℕ) → belongs Blank b ≡ true → b < 128
blank-ascii b h = grind (arith, nat_tests)

word-ascii : (b : ℕ) → belongs Word b ≡ true → b < 128
word-ascii b h = grind (arith, nat_tests)

comment-stops : (b : ℕ) → belongs RestOfLine b ≡ false → b < 128
comment-stops b h = grind (arith, nat_tests)

run-utf8 : (test : ℕ → Bool) (text : List ℕ) (n : ℕ)
    → ((b : ℕ) → test b ≡ true → b < 128)
    → IsUtf8 text
    → IsRun test text n
    → 0 < n
    → IsUtf8 (drop n text)
run-utf8 test text n ascii utf8 run some =
    let within : n ≤ length text = run.within in
    ends-ascii text n utf8 some within
    (ascii (slice_index text (n - 1))
    (each-at test text n (n - 1) run.each (omega arith) (omega arith)))

comment-utf8 : (text : List ℕ) (n : ℕ)
    → IsUtf8 text
    → IsRun (belongs RestOfLine) text n
    → IsUtf8 (drop n text)
comment-utf8 text n utf8 run =
    let low : slice_index text n < 128 = comment-stops (slice_index text n) run.stops in
    IsUtf8-drop text n utf8 (run.within, λ inside high. absurd (omega arith))

-- marks are ASCII
ascii-among : (text : List ℕ) (table : List (List ℕ))
    → list_all (λ (m : List ℕ). list_all (λ (b : ℕ). ltb b 128) m) table ≡ true
    → list_any (bytes_eq text) table ≡ true
    → list_all (λ (b : ℕ). ltb b 128) text ≡ true
ascii-among text [] all any = absurd (both_ways _ refl any)
ascii-among text (mark ∷ table) all any =
    let parts = and_parts (list_all (λ (b : ℕ). ltb b 128) mark)
    (list_all (λ (m : List ℕ). list_all (λ (b : ℕ). ltb b 128) m) table) all in
    elim (or_cases _ _ any) [
      | inl here ↦ subst (λ (t : List ℕ). list_all (λ (b : ℕ). ltb b 128) t ≡ true)
          (sym ((bytes_eq-Decides text mark).0 here)) parts.0
      | inr there ↦ ascii-among text table parts.1 there
    ]

mark-ascii : (text : List ℕ) → is_mark text ≡ true → list_all (λ (b : ℕ). ltb b 128) text ≡ true
unfolding is_mark
mark-ascii text h =
    elim (or_cases _ _ h) [
      | inl single ↦ ascii-among text single_marks refl single
      | inr more ↦ elim (or_cases _ _ more) [
        | inl double ↦ ascii-among text double_marks refl double
        | inr triple ↦ ascii-among text triple_marks refl triple
      ]
    ]

mark-utf8 : (text : List ℕ) (n : ℕ)
    → IsUtf8 text
    → 0 < n
    → n ≤ length text
    → is_mark (take n text) ≡ true
    → IsUtf8 (drop n text)
mark-utf8 text n utf8 some within mark =
    ends-ascii text n utf8 some within
    (ltb-true (slice_index text (n - 1)) 128
    (each-at (λ (b : ℕ). ltb b 128) text n (n - 1) (mark-ascii (take n text) mark) (omega arith)
    (omega arith)))

feed-utf8 : (text : List ℕ) (n : ℕ)
    → IsUtf8 text
    → 0 < n
    → n ≤ length text
    → line_end text ≡ Some n
    → IsUtf8 (drop n text)
feed-utf8 text n utf8 some within e =
    let feeds : Feeds text (Some n) = subst (λ (o : Option ℕ). Feeds text o) e
    (line_end-feeds text) in
    let last : slice_index text (n - 1) ≡ 10 = feeds.2 in
    ends-ascii text n utf8 some within (omega arith)

line_continuation-utf8 : (text : List ℕ) (feed n : ℕ)
    → IsUtf8 text
    → n ≤ length text
    → n ≡ 1 + feed
    → line_end (drop 1 text) ≡ Some feed
    → IsUtf8 (drop n text)
line_continuation-utf8 text feed n utf8 within whole e =
    let feeds : Feeds (drop 1 text) (Some feed) = subst (λ (o : Option ℕ). Feeds (drop 1 text) o) e
    (line_end-feeds (drop 1 text)) in
    let last : slice_index (drop 1 text) (feed - 1) ≡ 10 = feeds.2 in
    let some : 0 < feed = feeds.1 in
    let at : slice_index (drop 1 text) (feed - 1)
    ≡ slice_index text (1 + (feed - 1)) = get_or-drop 1 text (feed - 1) 0 in
    let place : n - 1 ≡ 1 + (feed - 1) = omega arith in
    let here : slice_index text (n - 1)
    ≡ slice_index text (1 + (feed - 1)) = ap (λ (i : ℕ). slice_index text i) place in
    ends-ascii text n utf8 (omega arith) within (omega arith)

IsLettered-utf8 : (raw : Bool) (text : List ℕ) (lexeme : Lexeme) (n : ℕ)
    → is_raw text ≡ raw
    → IsUtf8 text
    → 0 < n
    → IsLettered raw text lexeme n
    → IsUtf8 (drop n text)
IsLettered-utf8 true text lexeme n raw utf8 some one = IsString-utf8 text one.value n
    (raw-quote text raw).0 (raw-quote text raw).1 utf8 one.string
IsLettered-utf8 false text lexeme n raw utf8 some one = run-utf8
    (belongs Word) text n word-ascii utf8 one.run some

IsOfClass-utf8 : (class : Class) (text : List ℕ) (lexeme : Lexeme) (n : ℕ)
    → class_of (slice_index text 0) ≡ class
    → IsUtf8 text
    → 0 < n
    → n ≤ length text
    → IsOfClass class text lexeme n
    → IsUtf8 (drop n text)
IsOfClass-utf8 Space text lexeme n e utf8 some within one = run-utf8
    (belongs Blank) text n blank-ascii utf8 one.run some
IsOfClass-utf8 Letter text lexeme n e utf8 some within one = IsLettered-utf8
    (is_raw text) text lexeme n refl utf8 some one
IsOfClass-utf8 Digit text lexeme n e utf8 some within one = run-utf8
    (belongs Word) text n word-ascii utf8 one.run some
IsOfClass-utf8 Quote text lexeme n e utf8 some within one = IsString-utf8 text one.value n
    (plain-quote text e).0 (plain-quote text e).1 utf8 one.string
IsOfClass-utf8 Hash text lexeme n e utf8 some within one = comment-utf8 text n utf8 one.run
IsOfClass-utf8 Backslash text lexeme n e utf8 some within one = line_continuation-utf8 text one.feed
    n utf8 within one.whole one.ends
IsOfClass-utf8 Feed text lexeme n e utf8 some within one = feed-utf8 text n utf8 some within
    one.ends
IsOfClass-utf8 Other text lexeme n e utf8 some within one = mark-utf8 text n utf8 some within
    one.mark.mark

-- what stands behind a lexeme is UTF-8 where the text is
pub IsLexeme-utf8 : (text : List ℕ) (lexeme : Lexeme) (n : ℕ)
    → IsUtf8 text
    → IsLexeme text lexeme n
    → IsUtf8 (drop n text)
unfolding IsLexeme
IsLexeme-utf8 text lexeme n utf8 one =
    let inside = IsOfClass-within (class_of (slice_index text 0)) text lexeme n refl one in
    IsOfClass-utf8 (class_of (slice_index text 0)) text lexeme n refl utf8 inside.0 inside.1 one
