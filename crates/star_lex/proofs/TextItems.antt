-- An item of a string in a text that is UTF-8: it says what stands in the text, or it begins and
-- ends with ASCII and its own bytes are UTF-8.
use Rattle.std.proofs.Common.{◌≡◌, ℕ, zero, suc, ◌<◌, ◌≤◌, ◌+◌, ◌-◌, ◌*◌, ◌⊎◌, inl, inr, Bool, true}
use Rattle.std.proofs.Common.{false, ◌&&◌, ◌||◌, cond, List, [], ◌∷◌, ◌++◌, length, take, drop}
use Rattle.std.proofs.Common.{slice_index, Option, Some, None, option_and_then, ltb, leb, eqb, refl}
use Rattle.std.proofs.Common.{arith, sym, subst, IsUtf8, IsAscii, get_or-take}
use Rattle.std.specs.Char.{IsScalar}
use Rattle.std.proofs.lemmas.Bool.{and_parts, cond_both, eqb-true, leb-true}
use Rattle.std.proofs.lemmas.Bool.Decides.{nat_tests}
use Rattle.std.proofs.lemmas.Str.{IsUtf8-from_ascii, IsUtf8-encode, IsUtf8-nil}
use Rattle.star_lex.specs.declared.strings.Style.{Style}
use Rattle.star_lex.specs.declared.strings.Meaning.{Meaning}
use Rattle.star_lex.specs.declared.strings.Meaning.TheVariants.{Byte, Kept, Scalar}
use Rattle.star_lex.specs.Bytes.{line_end, is_visible}
use Rattle.star_lex.specs.Integers.{number, with_digits, up_to_last, digit}
use Rattle.star_lex.specs.Strings.{bytes_of, item, escape, raw_pair, plain, plain_byte, kept_byte}
use Rattle.star_lex.specs.Strings.{continued, one_letter, numbered_escape, ascii, scalar}
use Rattle.star_lex.specs.Strings.{front_number, octal_digits, simple_escape, is_scalar}
use Rattle.star_lex.proofs.StringItems.{Item}

-- digits are ASCII
digit-ascii : (b base : ℕ) → base ≤ 36 → ltb (digit b) base ≡ true → b < 128
digit-ascii b base low h = grind (arith, nat_tests)

IsAscii-more : (b : ℕ) (bytes : List ℕ) → b < 128 → IsAscii bytes → IsAscii (b ∷ bytes)
IsAscii-more b bytes first more zero = first
IsAscii-more b bytes first more (suc i) = more i

IsAscii-nil : IsAscii []
IsAscii-nil i = omega arith

-- where there is a number, its digits are ASCII
abbrev pub AsciiWhere : List ℕ → Option ℕ → Type 0
AsciiWhere digits None = Unit {0}
AsciiWhere digits (Some value) = IsAscii digits

digits-ascii : (base : ℕ) (digits : List ℕ) (value : ℕ)
    → base ≤ 36
    → AsciiWhere digits (with_digits base value digits)
digits-ascii base [] value low = IsAscii-nil
digits-ascii base (b ∷ more) value low =
    cond_both (ltb (digit b) base) (with_digits base (value * base + digit b) more) None
    (AsciiWhere (b ∷ more))
    (λ e. longer (with_digits base (value * base + digit b) more) (digit-ascii b base low e)
    (digits-ascii base more (value * base + digit b) low))
    (λ e. tt)
  where
    longer : (o : Option ℕ) → b < 128 → AsciiWhere more o → AsciiWhere (b ∷ more) o
    longer None first rest = tt
    longer (Some v) first rest = IsAscii-more b more first rest

number-ascii : (base : ℕ) (digits : List ℕ) → base ≤ 36 → AsciiWhere digits (number base digits)
unfolding number
number-ascii base [] low = tt
number-ascii base (b ∷ more) low = bounded (with_digits base 0 (b ∷ more))
    (digits-ascii base (b ∷ more) 0 low)
  where
    bounded : (o : Option ℕ)
        → AsciiWhere (b ∷ more) o
        → AsciiWhere (b ∷ more) (option_and_then up_to_last o)
    bounded None each = tt
    bounded (Some v) each = cond_both _ (Some v) None (AsciiWhere (b ∷ more)) (λ e. each) (λ e. tt)

one-byte : (b : ℕ) → b < 128 → IsUtf8 (b ∷ [])
one-byte b h = IsUtf8-from_ascii (b ∷ []) (IsAscii-more b [] h IsAscii-nil)

-- what is escaped behind a backslash ends with ASCII, and its own bytes are UTF-8
abbrev pub Escapes : List ℕ → Item → Type 0
Escapes text None = Unit {0}
Escapes text (Some found) = (slice_index (92 ∷ text) (found.1 - 1) < 128)
    × IsUtf8 (bytes_of found.0)

coded : (o : Option ℕ) (f : ℕ → Item) (text digits : List ℕ)
    → AsciiWhere digits o
    → ((code : ℕ) → IsAscii digits → Escapes text (f code))
    → Escapes text (option_and_then f o)
coded None f text digits each some = tt
coded (Some code) f text digits each some = some code each

front-coded : (base size : ℕ) (f : ℕ → Item) (text behind : List ℕ)
    → base ≤ 36
    → ((code : ℕ) → IsAscii (take size behind) → Escapes text (f code))
    → Escapes text (option_and_then f (front_number base size behind))
front-coded base size f text behind low some =
    cond_both (leb size (length behind)) (number base (take size behind)) None
    (λ (o : Option ℕ). Escapes text (option_and_then f o))
    (λ e. coded (number base (take size behind)) f text (take size behind)
    (number-ascii base (take size behind) low) some)
    (λ e. tt)

ascii-escapes : (size code : ℕ) (text : List ℕ)
    → slice_index (92 ∷ text) (size - 1) < 128
    → Escapes text (ascii size code)
ascii-escapes size code text last = cond_both (leb code 127) (Some (Byte code, size)) None
    (Escapes text) (λ e. (
      last,
      one-byte code (let low : code ≤ 127 = leb-true code 127 e in omega
          arith),
    )) (λ e. tt)

-- a code point that is no surrogate is a scalar value
or-cond : (b c : Bool) → (b || c) ≡ true → cond b true c ≡ true
or-cond true c e = refl
or-cond false c e = e

scalar-is : (code : ℕ) → is_scalar code ≡ true → IsScalar code
scalar-is code e = or-cond (ltb code 55296) (leb 57344 code && ltb code 1114112) e

scalar-escapes : (size code : ℕ) (text : List ℕ)
    → slice_index (92 ∷ text) (size - 1) < 128
    → Escapes text (scalar size code)
scalar-escapes size code text last = cond_both (is_scalar code) (Some (Scalar code, size)) None
    (Escapes text) (λ e. (last, IsUtf8-encode code (scalar-is code e))) (λ e. tt)

-- the last of the digits behind the backslash and a letter
last-digit : (size : ℕ) (b : ℕ) (text : List ℕ)
    → IsAscii (take (suc size) text)
    → slice_index (92 ∷ b ∷ text) (suc (suc size)) < 128
last-digit size b text each = let e : slice_index (take (suc size) text) size
    ≡ slice_index text size = get_or-take (suc size) text size 0 (omega arith) in rw e at
    (each size)

octal-last : (size : ℕ) (text : List ℕ)
    → IsAscii (take size text)
    → slice_index (92 ∷ text) size < 128
octal-last zero text each = omega arith
octal-last (suc size) text each = let e : slice_index (take (suc size) text) size
    ≡ slice_index text size = get_or-take (suc size) text size 0 (omega arith) in rw e at
    (each size)

one-less : (P : ℕ → Type 0) (n : ℕ) → P n → P (1 + n - 1)
one-less P n p = let same : n ≡ 1 + n - 1 = omega arith in subst P same p

past-end : (i : ℕ) → slice_index (92 ∷ []) i < 128
past-end zero = omega arith
past-end (suc i) = omega arith

lettered-last : (size : ℕ) (text : List ℕ)
    → IsAscii (take (suc size) (drop 1 text))
    → slice_index (92 ∷ text) (suc (suc size)) < 128
lettered-last size [] each = past-end (suc (suc size))
lettered-last size (b ∷ text) each = last-digit size b text each

numbered-escapes : (text : List ℕ) → Escapes text (numbered_escape text)
unfolding numbered_escape
numbered-escapes text =
    cond_both (eqb (slice_index text 0) 120) _ _ (Escapes text)
    (λ e. front-coded 16 2 (ascii 4) text (drop 1 text) (omega arith)
    (λ code each. ascii-escapes 4 code text (lettered-last 1 text each)))
    (λ e. cond_both (eqb (slice_index text 0) 117) _ _ (Escapes text)
    (λ f. front-coded 16 4 (scalar 6) text (drop 1 text) (omega arith)
    (λ code each. scalar-escapes 6 code text (lettered-last 3 text each)))
    (λ f. cond_both (eqb (slice_index text 0) 85) _ _ (Escapes text)
    (λ g. front-coded 16 8 (scalar 10) text (drop 1 text) (omega arith)
    (λ code each. scalar-escapes 10 code text (lettered-last 7 text each)))
    (λ g. front-coded 8 (octal_digits text) (ascii (1 + octal_digits text)) text text (omega arith)
    (λ code each. octal-escapes (octal_digits text) code each))))
  where
    octal-escapes : (size code : ℕ)
        → IsAscii (take size text)
        → Escapes text (ascii (1 + size) code)
    octal-escapes size code each = ascii-escapes (1 + size) code text
        (one-less (λ (i : ℕ). slice_index (92 ∷ text) i < 128) size (octal-last size text each))

-- a letter or mark that is an escape, and its character, are ASCII
abbrev pub AsciiFor : ℕ → Option ℕ → Type 0
AsciiFor b None = Unit {0}
AsciiFor b (Some c) = (b < 128) × (c < 128)

simple-ascii-for : (b : ℕ) → AsciiFor b (simple_escape b)
simple-ascii-for b =
    cond_both (eqb b 97) (Some 7) _ (AsciiFor b) (λ e. named 97 7 e (omega arith) (omega arith))
    (λ _. cond_both (eqb b 98) (Some 8) _ (AsciiFor b)
    (λ e. named 98 8 e (omega arith) (omega arith))
    (λ _. cond_both (eqb b 102) (Some 12) _ (AsciiFor b)
    (λ e. named 102 12 e (omega arith) (omega arith))
    (λ _. cond_both (eqb b 110) (Some 10) _ (AsciiFor b)
    (λ e. named 110 10 e (omega arith) (omega arith))
    (λ _. cond_both (eqb b 114) (Some 13) _ (AsciiFor b)
    (λ e. named 114 13 e (omega arith) (omega arith))
    (λ _. cond_both (eqb b 116) (Some 9) _ (AsciiFor b)
    (λ e. named 116 9 e (omega arith) (omega arith))
    (λ _. cond_both (eqb b 118) (Some 11) _ (AsciiFor b)
    (λ e. named 118 11 e (omega arith) (omega arith))
    (λ _. cond_both (eqb b 92 || (eqb b 39 || eqb b 34)) (Some b) None (AsciiFor b)
    (λ e. (marked b e, marked b e)) (λ _. tt))))))))
  where
    named : (k c : ℕ) → eqb b k ≡ true → k < 128 → c < 128 → (b < 128) × (c < 128)
    named k c e low small = let same : b ≡ k = eqb-true b k e in (omega arith, small)

    marked : (b : ℕ) → (eqb b 92 || (eqb b 39 || eqb b 34)) ≡ true → b < 128
    marked b e = grind (arith, nat_tests)

one_letter-escapes : (o : Option ℕ) (text : List ℕ)
    → AsciiFor (slice_index text 0) o
    → Escapes text (one_letter o text)
one_letter-escapes None text each = numbered-escapes text
one_letter-escapes (Some c) text each = (each.0, one-byte c each.1)

-- a line end ends with a line feed
abbrev pub Feeds : List ℕ → Option ℕ → Type 0
Feeds text None = Unit {0}
Feeds text (Some n) = (slice_index text 0 < 128) × (0 < n) × (slice_index text (n - 1) ≡ 10)

pub line_end-feeds : (text : List ℕ) → Feeds text (line_end text)
line_end-feeds text =
    cond_both (eqb (slice_index text 0) 10) (Some 1)
    (cond (eqb (slice_index text 0) 13 && eqb (slice_index text 1) 10) (Some 2) None)
    (Feeds text)
    (λ e. let feed : slice_index text 0
    ≡ 10 = eqb-true (slice_index text 0) 10 e in (omega arith, omega arith, feed))
    (λ e. cond_both (eqb (slice_index text 0) 13 && eqb (slice_index text 1) 10) (Some 2) None
    (Feeds text)
    (λ f. let parts = and_parts (eqb (slice_index text 0) 13) (eqb (slice_index text 1) 10) f in
    let return : slice_index text 0 ≡ 13 = eqb-true (slice_index text 0) 13 parts.0 in
    (omega arith, omega arith, eqb-true (slice_index text 1) 10 parts.1))
    (λ f. tt))

-- its last byte behind a backslash
feed-at : (n : ℕ) (text : List ℕ)
    → 0 < n
    → slice_index text (n - 1) ≡ 10
    → slice_index (92 ∷ text) n < 128
feed-at zero text some feed = absurd (omega arith)
feed-at (suc n) text some feed =
    let place : suc n - 1 ≡ n = omega arith in
    let here : slice_index text n ≡ 10 = subst (λ (i : ℕ). slice_index text i ≡ 10) place feed in
    let last : slice_index text n < 128 = omega arith in
    last

feed-behind : (n : ℕ) (text : List ℕ)
    → 0 < n
    → slice_index text (n - 1) ≡ 10
    → slice_index (92 ∷ text) (1 + n - 1) < 128
feed-behind n text some feed = one-less (λ (i : ℕ). slice_index (92 ∷ text) i < 128) n
    (feed-at n text some feed)

continued-escapes : (o : Option ℕ) (text : List ℕ) → Feeds text o → Escapes text (continued o text)
continued-escapes None text feeds = one_letter-escapes (simple_escape (slice_index text 0)) text
    (simple-ascii-for (slice_index text 0))
continued-escapes (Some n) text feeds = (feed-behind n text feeds.1 feeds.2, IsUtf8-nil)

escape-escapes : (text : List ℕ) → Escapes text (escape text)
unfolding escape
escape-escapes text = continued-escapes (line_end text) text (line_end-feeds text)

-- an item begins and ends with ASCII, and its own bytes are UTF-8
abbrev pub Cut : List ℕ → Meaning → ℕ → Type 0
Cut text meaning n = (slice_index text 0 < 128) × (slice_index text (n - 1) < 128)
    × IsUtf8 (bytes_of meaning)

-- or it says the bytes that stand there
abbrev pub Reads : List ℕ → Item → Type 0
Reads text None = Unit {0}
Reads text (Some found) = (text ≡ bytes_of found.0 ++ drop found.1 text) ⊎ Cut text found.0 found.1

kept-reads : (o : Option ℕ) (text : List ℕ)
    → Feeds text o
    → Reads (92 ∷ text) (kept_byte o (slice_index text 0))
kept-reads (Some n) text feeds = inr (
  omega arith,
  feed-behind n text feeds.1 feeds.2,
  IsUtf8-from_ascii (92 ∷ 10 ∷ [])
      (IsAscii-more 92 (10 ∷ []) (omega arith) (IsAscii-more 10 [] (omega arith) IsAscii-nil)),
)
kept-reads None [] feeds = tt
kept-reads None (b ∷ text) feeds = cond_both (is_visible b) (Some (Kept b, 2)) None
    (Reads (92 ∷ b ∷ text)) (λ e. inl refl) (λ e. tt)

raw_pair-reads : (text : List ℕ) → Reads (92 ∷ text) (raw_pair text)
unfolding raw_pair
raw_pair-reads text = kept-reads (line_end text) text (line_end-feeds text)

plain_byte-reads : (o : Option ℕ) (triple : Bool) (text : List ℕ)
    → Feeds text o
    → Reads text (plain_byte o triple (slice_index text 0))
plain_byte-reads (Some n) true text feeds = inr (
  feeds.0,
  (let feed : slice_index text (n - 1) ≡ 10 = feeds.2 in omega arith),
  one-byte 10
      (omega arith),
)
plain_byte-reads (Some n) false text feeds = tt
plain_byte-reads None triple [] feeds = tt
plain_byte-reads None triple (b ∷ text) feeds = cond_both (is_visible b) (Some (Byte b, 1)) None
    (Reads (b ∷ text)) (λ e. inl refl) (λ e. tt)

plain-reads : (triple : Bool) (text : List ℕ) → Reads text (plain triple text)
unfolding plain
plain-reads triple text = plain_byte-reads (line_end text) triple text (line_end-feeds text)

escaped-reads : (text : List ℕ) (o : Item) → Escapes text o → Reads (92 ∷ text) o
escaped-reads text None escapes = tt
escaped-reads text (Some found) escapes = inr (omega arith, escapes.0, escapes.1)

paired-reads : (raw : Bool) (text : List ℕ)
    → Reads (92 ∷ text) (cond raw (raw_pair text) (escape text))
paired-reads true text = raw_pair-reads text
paired-reads false text = escaped-reads text (escape text) (escape-escapes text)

item-reads-all : (style : Style) (text : List ℕ) → Reads text (item style text)
unfolding item
item-reads-all style [] = plain-reads style.triple []
item-reads-all style (b ∷ text) =
    cond_both (eqb b 92) (cond style.raw (raw_pair text) (escape text))
    (plain style.triple (b ∷ text)) (Reads (b ∷ text))
    (λ e. subst (λ (c : ℕ). Reads (c ∷ text) (cond style.raw (raw_pair text) (escape text)))
    (sym (eqb-true b 92 e)) (paired-reads style.raw text))
    (λ e. plain-reads style.triple (b ∷ text))

pub item-reads : (style : Style) (text : List ℕ) (meaning : Meaning) (n : ℕ)
    → item style text ≡ Some (meaning, n)
    → (text ≡ bytes_of meaning ++ drop n text) ⊎ Cut text meaning n
item-reads style text meaning n e = subst (λ (o : Item). Reads text o) e (item-reads-all style text)
