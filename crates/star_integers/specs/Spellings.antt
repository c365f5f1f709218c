-- The integers that texts spell: the Starlark specification, "int". A text has a sign or none, then
-- a prefix or none, then one or more digits of its base.
use Rattle.std.specs.Prelude.{ℕ, ◌+◌, ◌*◌, ◌==◌, ℤ, pos, neg_ℤ, unsigned_abs, Bool, true, false}
use Rattle.std.specs.Prelude.{◌&&◌, ◌||◌, not, int_lt, if◌then◌else◌, List, [], ◌∷◌}
use Rattle.std.specs.Prelude.{Result, Ok, Err}
use Rattle.std.specs.Char.{digit_value, is_digit}
use Rattle.std.specs.Ordering.{int_eq}
use Rattle.star_core.specs.declared.faults.Fault.{Fault}
use Rattle.star_core.specs.declared.faults.Fault.TheVariants as fault
use Rattle.star_numbers.specs.Integers.{fitted}

-- the number that digits of a base spell behind a number
abbrev pub number_behind : ℕ → ℕ → List ℕ → ℕ
number_behind base number [] = number
number_behind base number (c ∷ digits) =
    number_behind base (number * base + digit_value c) digits

-- each character is a digit of the base
abbrev pub all_digits : ℕ → List ℕ → Bool
all_digits base [] = true
all_digits base (c ∷ digits) = is_digit c base && all_digits base digits

-- one or more digits of the base
abbrev pub are_digits : ℕ → List ℕ → Bool
are_digits base [] = false
are_digits base (c ∷ digits) = all_digits base (c ∷ digits)

-- a number with its sign
abbrev pub signed : Bool → ℕ → ℤ
signed true number = neg_ℤ (pos number)
signed false number = pos number

-- the number that digits spell, with its sign
unfoldable pub spelled : Bool → ℕ → List ℕ → Result ℤ Fault
spelled negative base digits =
    if are_digits base digits then fitted (signed negative (number_behind base 0 digits))
    else Err fault.Value

-- the base of the letter of a prefix, in either case; 0 of another character
unfoldable pub base_of_letter : ℕ → ℕ
base_of_letter c =
    if (c == 98) || (c == 66) then 2
    else (if (c == 111) || (c == 79) then 8 else (if (c == 120) || (c == 88) then 16 else 0))

-- a zero and a letter of this base are a prefix of another base: base 0 takes that of any
abbrev pub is_prefix : ℕ → ℕ → ℕ → Bool
is_prefix base first of_letter =
    (first == 48) && (not (of_letter == 0) && ((base == 0) || (base == of_letter)))

-- decimal digits that begin with no zero, but for `0` itself
abbrev pub decimal : Bool → List ℕ → Result ℤ Fault
decimal negative [] = Err fault.Value
decimal negative (c ∷ []) = spelled negative 10 (c ∷ [])
decimal negative (c ∷ next ∷ digits) =
    if c == 48 then Err fault.Value else spelled negative 10 (c ∷ next ∷ digits)

-- digits without a prefix, which are decimal in base 0
unfoldable pub unprefixed : Bool → ℕ → List ℕ → Result ℤ Fault
unprefixed negative base digits =
    if base == 0 then decimal negative digits else spelled negative base digits

-- a text behind its sign
unfoldable pub unsigned : Bool → ℕ → List ℕ → Result ℤ Fault
unsigned negative base (first ∷ letter ∷ digits) =
    if is_prefix base first (base_of_letter letter)
    then spelled negative (base_of_letter letter) digits
    else unprefixed negative base (first ∷ letter ∷ digits)
unsigned negative base (first ∷ []) = unprefixed negative base (first ∷ [])
unsigned negative base [] = unprefixed negative base []

-- a text in a base
abbrev pub in_base : ℕ → List ℕ → Result ℤ Fault
in_base base [] = Err fault.Value
in_base base (c ∷ text) =
    if c == 45 then unsigned true base text
    else (if c == 43 then unsigned false base text else unsigned false base (c ∷ text))

-- 2 to 36, and 0, which takes the base of a prefix
abbrev pub is_base : ℤ → Bool
is_base base = int_eq base (pos 0) || (int_lt (pos 1) base && int_lt base (pos 37))

-- the integer that a text spells in a base
unfoldable pub integer_of : List ℕ → ℤ → Result ℤ Fault
integer_of text base =
    if is_base base then in_base (unsigned_abs base) text else Err fault.Value
