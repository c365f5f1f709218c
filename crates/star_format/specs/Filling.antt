-- Strings that are filled by `%`: the Starlark specification, "String interpolation". The pattern
-- is read from left to right, and the first refusal wins.
use Rattle.std.specs.Prelude.{ℕ, suc, ◌+◌, ◌==◌, ℤ, pos, negsuc, Bool, true, false, if◌then◌else◌}
use Rattle.std.specs.Prelude.{List, [], ◌∷◌, length, slice_get, Option, Some, None, Result, Ok, Err}
use Rattle.std.specs.Char.{encode_utf8}
use Rattle.std.specs.Fmt.{digits, signed_decimal}
use Rattle.std.specs.Str.{chars}
use Rattle.star_core.specs.Contents.{text_in}
use Rattle.star_core.specs.Heaps.{Change, HeapState, cell_at}
use Rattle.star_core.specs.declared.faults.Fault.{Fault}
use Rattle.star_core.specs.declared.faults.Fault.TheVariants as fault
use Rattle.star_core.specs.declared.values.Val.{Val}
use Rattle.star_core.specs.declared.values.Val.TheVariants as val
use Rattle.star_library.specs.Calls.{go_on, result_of, text_made}
use Rattle.star_print.specs.Prints.{Printed, extended, repr_of, str_of}
use Rattle.star_format.specs.declared.filling.Base.{Base}
use Rattle.star_format.specs.declared.filling.Base.TheVariants as base
use Rattle.star_format.specs.declared.filling.Filling.{Filling}
use Rattle.star_text.specs.ArgumentValues.{result_then}
use Rattle.star_text.specs.Positions.{parts_in}

-- a number in a base, with its sign in front
abbrev pub signed_digits : ℕ → Bool → ℤ → List ℕ
signed_digits base upper (pos number) = digits base upper number
signed_digits base upper (negsuc number) = 45 ∷ digits base upper (suc number)

-- the base, and whether its digits are large letters
abbrev pub base_of : Base → ℕ
base_of base.Hex = 16
base_of base.UpperHex = 16
base_of base.Octal = 8

abbrev pub is_upper : Base → Bool
is_upper base.Hex = false
is_upper base.UpperHex = true
is_upper base.Octal = false

-- an int, which neither a bool nor any other value is
abbrev pub int_or_fault : Val → Result ℤ Fault
int_or_fault val.None = Err fault.Kind
int_or_fault (val.Bool flag) = Err fault.Kind
int_or_fault (val.Int number) = Ok number
int_or_fault (val.Cell number) = Err fault.Kind

abbrev pub int_text : (ℤ → List ℕ) → Val → Printed
int_text text value = result_then (int_or_fault value) (λ number. Ok (text number))

-- a value as the letter behind a percent sign asks for it: s 115, r 114, d 100, x 120, X 88, o 111
unfoldable pub converted : HeapState → ℕ → Val → Printed
converted heap letter value =
    if letter == 115 then str_of heap value
    else (if letter == 114 then repr_of heap value
    else (if letter == 100 then int_text signed_decimal value
    else (if letter == 120 then int_text (signed_digits 16 false) value
    else (if letter == 88 then int_text (signed_digits 16 true) value
    else (if letter == 111 then int_text (signed_digits 8 false) value
    else Err fault.Value)))))

-- a text behind what is written, and how many arguments are used
abbrev pub with_text : ℕ → Filling → List ℕ → Result Filling Fault
with_text used filling more =
    result_then (extended filling.text more)
    (λ text. Ok (record { behind = false; used = used; text = text }))

-- an argument behind what is written
abbrev pub with_argument : HeapState → ℕ → Option Val → Filling → Result Filling Fault
with_argument heap letter None filling = Err fault.Value
with_argument heap letter (Some value) filling =
    result_then (converted heap letter value) (with_text (filling.used + 1) filling)

-- what a character behind a percent sign, or any other one, adds
unfoldable pub conversion : HeapState → List Val → Filling → ℕ → Result Filling Fault
conversion heap args filling letter =
    if letter == 37 then with_text filling.used filling (37 ∷ [])
    else with_argument heap letter (slice_get args filling.used) filling

unfoldable pub literal : Filling → ℕ → Result Filling Fault
literal filling c =
    if c == 37 then Ok (record { behind = true; used = filling.used; text = filling.text })
    else with_text filling.used filling (encode_utf8 c)

abbrev pub step : HeapState → List Val → Filling → ℕ → Result Filling Fault
step heap args filling c =
    if filling.behind then conversion heap args filling c else literal filling c

abbrev pub filled : HeapState → List Val → List ℕ → Filling → Result Filling Fault
filled heap args [] filling = Ok filling
filled heap args (c ∷ pattern) filling =
    result_then (step heap args filling c) (filled heap args pattern)

-- no percent sign stands at the end, and each argument is used
abbrev pub finished : List Val → Filling → Printed
finished args filling =
    if filling.behind then Err fault.Value
    else (if filling.used == length args then Ok filling.text else Err fault.Value)

-- the arguments: the items of a tuple, or one value
abbrev pub arguments_of : HeapState → Val → List Val
arguments_of heap value = parts_in (cell_at heap value) value

abbrev pub filled_with : HeapState → List Val → List ℕ → Printed
filled_with heap args pattern =
    result_then (filled heap args pattern (record { behind = false; used = 0; text = [] }))
    (finished args)

-- the text of a filled pattern, which is a string
abbrev pub filled_text : HeapState → List Val → Option (List ℕ) → Printed
filled_text heap args None = Err fault.Kind
filled_text heap args (Some pattern) = filled_with heap args (chars pattern)

unfoldable pub percent_text : HeapState → Val → Val → Printed
percent_text heap pattern args =
    filled_text heap (arguments_of heap args) (text_in (cell_at heap pattern))

-- and as a value
unfoldable pub percent_row : Val → Val → HeapState → Change Val
percent_row pattern args heap = go_on (result_of (percent_text heap pattern args) heap) text_made
