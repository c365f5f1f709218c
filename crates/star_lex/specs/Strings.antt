-- Strings and their escapes: the Starlark specification, "Lexical elements".
use Rattle.std.specs.Prelude.{◌≡◌, ℕ, ◌+◌, Bool, true, false, not, ◌||◌, ◌&&◌, ◌==◌, if◌then◌else◌}
use Rattle.std.specs.Prelude.{List, [], ◌∷◌, ◌++◌, length, take, drop, slice_index, Option, Some}
use Rattle.std.specs.Prelude.{None, option_and_then, nat_lt, nat_le}
use Rattle.std.specs.Char.{encode_utf8}
use Rattle.star_lex.specs.declared.strings.Style.{Style}
use Rattle.star_lex.specs.declared.strings.Meaning.{Meaning}
use Rattle.star_lex.specs.declared.strings.Meaning.TheVariants.{Nothing, Byte, Kept, Scalar}
use Rattle.star_lex.specs.Bytes.{is_visible, line_end}
use Rattle.star_lex.specs.Integers.{number}

-- what an item of a string puts into its value: nothing, a byte, a byte behind a backslash that
-- stays, or a character
abbrev pub bytes_of : Meaning → List ℕ
bytes_of Nothing = []
bytes_of (Byte b) = b ∷ []
bytes_of (Kept b) = 92 ∷ b ∷ []
bytes_of (Scalar c) = encode_utf8 c

-- the number of this many digits at the front
abbrev pub front_number : ℕ → ℕ → List ℕ → Option ℕ
front_number base size text = if nat_le size (length text) then number base (take size text)
    else None

-- an escape by its number, which ends this far behind the backslash, is a character up to 127
abbrev pub ascii : ℕ → ℕ → Option (Meaning × ℕ)
ascii size code = if nat_le code 127 then Some (Byte code, size) else None

-- or any Unicode scalar value: a code point that is no surrogate
abbrev pub is_scalar : ℕ → Bool
is_scalar code = nat_lt code 55296 || (nat_le 57344 code && nat_lt code 1114112)

abbrev pub scalar : ℕ → ℕ → Option (Meaning × ℕ)
scalar size code = if is_scalar code then Some (Scalar code, size) else None

abbrev pub is_octal_digit : ℕ → Bool
is_octal_digit b = nat_le 48 b && nat_le b 55

-- how many octal digits stand at the front, up to three
abbrev pub octal_digits : List ℕ → ℕ
octal_digits text =
    if not (is_octal_digit (slice_index text 0)) then 0
    else (if not (is_octal_digit (slice_index text 1)) then 1
    else (if not (is_octal_digit (slice_index text 2)) then 2 else 3))

-- the character of an escape by one letter or mark
abbrev pub simple_escape : ℕ → Option ℕ
simple_escape b =
    if b == 97 then Some 7
    else (if b == 98 then Some 8
    else (if b == 102 then Some 12
    else (if b == 110 then Some 10
    else (if b == 114 then Some 13
    else (if b == 116 then Some 9
    else (if b == 118 then Some 11
    else (if b == 92 || (b == 39 || b == 34) then Some b else None)))))))

-- an escape by a number: octal digits, `x`, `u` or `U` and hexadecimal digits
unfoldable pub numbered_escape : List ℕ → Option (Meaning × ℕ)
numbered_escape text =
    if slice_index text 0 == 120 then option_and_then (ascii 4) (front_number 16 2 (drop 1 text))
    else (if slice_index text 0 == 117 then option_and_then (scalar 6) (front_number 16 4 (drop 1
    text))
    else (if slice_index text 0 == 85 then option_and_then (scalar 10) (front_number 16 8 (drop 1
    text))
    else option_and_then (ascii (1 + octal_digits text)) (front_number 8 (octal_digits text) text)))

abbrev pub one_letter : Option ℕ → List ℕ → Option (Meaning × ℕ)
one_letter (Some b) text = Some (Byte b, 2)
one_letter None text = numbered_escape text

-- a line that a backslash continues gives nothing
abbrev pub continued : Option ℕ → List ℕ → Option (Meaning × ℕ)
continued (Some n) text = Some (Nothing, 1 + n)
continued None text = one_letter (simple_escape (slice_index text 0)) text

-- the escape of which this text stands behind the backslash, and its length with the backslash
unfoldable pub escape : List ℕ → Option (Meaning × ℕ)
escape text = continued (line_end text) text

abbrev pub kept_byte : Option ℕ → ℕ → Option (Meaning × ℕ)
kept_byte (Some n) b = Some (Kept 10, 1 + n)
kept_byte None b = if is_visible b then Some (Kept b, 2) else None

-- in a raw string the backslash and what stands behind it both stay
unfoldable pub raw_pair : List ℕ → Option (Meaning × ℕ)
raw_pair text = kept_byte (line_end text) (slice_index text 0)

abbrev pub plain_byte : Option ℕ → Bool → ℕ → Option (Meaning × ℕ)
plain_byte (Some n) triple b = if triple then Some (Byte 10, n) else None
plain_byte None triple b = if is_visible b then Some (Byte b, 1) else None

-- a byte stands for itself, and a line end, in three marks, for a line feed
unfoldable pub plain : Bool → List ℕ → Option (Meaning × ℕ)
plain triple text = plain_byte (line_end text) triple (slice_index text 0)

-- the item at the front of what is left of a string, and its length
unfoldable pub item : Style → List ℕ → Option (Meaning × ℕ)
item style text =
    if slice_index text 0 == 92 then
    (if style.raw then raw_pair (drop 1 text) else escape (drop 1 text))
    else plain style.triple text

-- the next three bytes are this quote
abbrev pub is_tripled : ℕ → List ℕ → Bool
is_tripled quote text = slice_index text 0 == quote
    && (slice_index text 1 == quote && slice_index text 2 == quote)

-- the string's end stands here
unfoldable pub closes : Style → List ℕ → Bool
closes style text = if style.triple then is_tripled style.quote text
    else slice_index text 0 == style.quote

-- how many quotes stand at either end
abbrev pub quotes : Style → ℕ
quotes style = if style.triple then 3 else 1

abbrev pub is_quote : ℕ → Bool
is_quote b = b == 34 || b == 39

-- an `r` stands before the quotes
abbrev pub is_raw : List ℕ → Bool
is_raw text = slice_index text 0 == 114 && is_quote (slice_index text 1)

abbrev pub prefix : List ℕ → ℕ
prefix text = if is_raw text then 1 else 0

-- how the string at the front is written
unfoldable pub style_of : List ℕ → Style
style_of text = record {
  quote = slice_index text (prefix text);
  triple = is_tripled (slice_index text (prefix text)) (drop (prefix text) text);
  raw = is_raw text;
}

-- Items, one after another, up to the quotes at the end: the text behind the first quotes, the
-- value, and how long it is with the last quotes.
pub data Contents (style : Style) : List ℕ → List ℕ → ℕ → Type 0 where
  ends : (text : List ℕ) → closes style text ≡ true → Contents style text [] (quotes style)
  goes : (text value : List ℕ) (meaning : Meaning) (n m : ℕ)
      → closes style text ≡ false
      → item style text ≡ Some (meaning, n)
      → Contents style (drop n text) value m
      → Contents style text (bytes_of meaning ++ value) (n + m)

-- how long what stands before the contents is
abbrev pub opening : List ℕ → ℕ
opening text = prefix text + quotes (style_of text)

-- a string at the front, with its value and its length
pub record IsString (text value : List ℕ) (n : ℕ) : Type 0 where
  pub size : ℕ
  pub contents : Contents (style_of text) (drop (opening text) text) value size
  pub whole : n ≡ opening text + size
