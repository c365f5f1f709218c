-- Integers: the Starlark specification, "Lexical elements".
use Rattle.std.specs.Prelude.{ℕ, ◌+◌, ◌-◌, ◌*◌, Bool, not, ◌||◌, ◌&&◌, ◌==◌, if◌then◌else◌, List}
use Rattle.std.specs.Prelude.{[], ◌∷◌, length, drop, slice_index, Option, Some, None}
use Rattle.std.specs.Prelude.{option_and_then, nat_lt, nat_le}
use Rattle.std.specs.Char.{is_ascii_digit}

-- what a digit counts, a letter in either case from 10 on; any other byte is no digit of a base up
-- to 36
abbrev pub digit : ℕ → ℕ
digit b =
    if nat_le 48 b && nat_le b 57 then b - 48
    else (if nat_le 97 b && nat_le b 122 then b - 87
    else (if nat_le 65 b && nat_le b 90 then b - 55 else 36))

-- the number that stands in a base before these digits, and then with them
abbrev pub with_digits : ℕ → ℕ → List ℕ → Option ℕ
with_digits base value [] = Some value
with_digits base value (b ∷ more) = if nat_lt (digit b) base then with_digits base
    (value * base + digit b) more else None

-- the largest integer that a text may have
abbrev pub last_integer : ℕ
last_integer = 9223372036854775807

abbrev pub up_to_last : ℕ → Option ℕ
up_to_last value = if nat_le value last_integer then Some value else None

-- the same, where it is no larger than an integer may be
abbrev pub within_last : ℕ → ℕ → List ℕ → Option ℕ
within_last base value digits = option_and_then up_to_last (with_digits base value digits)

-- one or more digits in a base, as a number
unfoldable pub number : ℕ → List ℕ → Option ℕ
number base [] = None
number base (b ∷ more) = within_last base 0 (b ∷ more)

-- the letter behind a leading 0
abbrev pub is_hexadecimal : List ℕ → Bool
is_hexadecimal word = slice_index word 0 == 48
    && (slice_index word 1 == 120 || slice_index word 1 == 88)

abbrev pub is_octal : List ℕ → Bool
is_octal word = slice_index word 0 == 48 && (slice_index word 1 == 111 || slice_index word 1 == 79)

-- a 0 with more behind it
abbrev pub has_leading_zero : List ℕ → Bool
has_leading_zero word = slice_index word 0 == 48 && not (length word == 1)

-- the value of an integer: `0`, a decimal without a leading zero, hexadecimal behind `0x`, octal
-- behind `0o`
unfoldable pub integer_of : List ℕ → Option ℕ
integer_of word =
    if is_hexadecimal word then number 16 (drop 2 word)
    else (if is_octal word then number 8 (drop 2 word)
    else (if has_leading_zero word then None else number 10 word))

-- a dot and a digit, which may not follow an integer
abbrev pub begins_fraction : List ℕ → Bool
begins_fraction text = slice_index text 0 == 46 && is_ascii_digit (slice_index text 1)
