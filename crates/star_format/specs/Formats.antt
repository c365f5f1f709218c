-- Strings that `format` fills: the Starlark specification, "string·format". The pattern is read
-- piece by piece from left to right, and the first refusal wins.
use Rattle.std.specs.Prelude.{ℕ, zero, suc, ◌+◌, ◌==◌, Bool, true, false, if◌then◌else◌}
use Rattle.std.specs.Prelude.{List, [], ◌∷◌, length, take, slice_get, Option, Some, None}
use Rattle.std.specs.Prelude.{Result, Ok, Err}
use Rattle.std.specs.Char.{encode_utf8}
use Rattle.std.specs.Str.{chars, encode_utf8_all}
use Rattle.star_core.specs.Contents.{text_in}
use Rattle.star_core.specs.Heaps.{Change, HeapState, cell_at}
use Rattle.star_core.specs.declared.faults.Fault.{Fault}
use Rattle.star_core.specs.declared.faults.Fault.TheVariants as fault
use Rattle.star_core.specs.declared.values.Args.{Args}
use Rattle.star_core.specs.declared.values.Val.{Val}
use Rattle.star_format.specs.Fields.{behind_first, kind_of, number_of, piece_of}
use Rattle.star_format.specs.declared.fields.FieldKind.{FieldKind}
use Rattle.star_format.specs.declared.fields.FieldKind.TheVariants as field
use Rattle.star_format.specs.declared.fields.PatternPiece.{PatternPiece}
use Rattle.star_format.specs.declared.fields.PatternPiece.TheVariants as piece
use Rattle.star_format.specs.declared.formatting.Formatting.{Formatting}
use Rattle.star_library.specs.Arguments.{values_named}
use Rattle.star_library.specs.Calls.{go_on, result_of, text_made}
use Rattle.star_print.specs.Prints.{Printed, extended, str_of}
use Rattle.star_text.specs.ArgumentValues.{result_then}

-- a pattern that is filled up to some piece
abbrev pub Formatted : Type 0
Formatted = Result Formatting Fault

-- a text behind what is written
abbrev pub with_text : ℕ → Bool → List ℕ → List ℕ → Formatted
with_text used numbered text more =
    result_then (extended text more)
    (λ whole. Ok (record { used = used; numbered = numbered; text = whole }))

-- an argument's `str` behind what is written, or why there is no argument
abbrev pub with_argument : HeapState → ℕ → Bool → List ℕ → Fault → Option Val → Formatted
with_argument heap used numbered text reason None = Err reason
with_argument heap used numbered text reason (Some value) =
    result_then (str_of heap value) (with_text used numbered text)

-- the next argument, where no field before had a number
unfoldable pub with_next : HeapState → List Val → Formatting → Formatted
with_next heap args now =
    if now.numbered then Err fault.Value
    else with_argument heap (now.used + 1) false now.text fault.Index (slice_get args now.used)

-- the argument with a number, where no field before took the next one
unfoldable pub with_number : HeapState → List Val → List ℕ → Formatting → Formatted
with_number heap args digits now =
    if now.used == 0
    then with_argument heap 0 true now.text fault.Index (slice_get args (number_of digits))
    else Err fault.Value

-- the argument of a name
unfoldable pub with_name : HeapState → Args → List ℕ → Formatting → Formatted
with_name heap args name now =
    with_argument heap now.used now.numbered now.text fault.Key
    (slice_get (values_named (encode_utf8_all name) args.named) 0)

-- the argument for which a field asks
abbrev pub with_field : HeapState → Args → FieldKind → List ℕ → Formatting → Formatted
with_field heap args field.Next text now = with_next heap args.positional now
with_field heap args field.Number text now = with_number heap args.positional text now
with_field heap args field.Name text now = with_name heap args text now
with_field heap args field.Unknown text now = Err fault.Value

-- what a piece adds, with a text behind its first character
abbrev pub with_piece : HeapState → Args → PatternPiece → List ℕ → Formatting → Formatted
with_piece heap args (piece.Character c) text now =
    with_text now.used now.numbered now.text (encode_utf8 c)
with_piece heap args (piece.Brace c) text now =
    with_text now.used now.numbered now.text (encode_utf8 c)
with_piece heap args (piece.Field long) text now =
    with_field heap args (kind_of (take long text)) (take long text) now
with_piece heap args piece.Alone text now = Err fault.Value

-- what the first piece of a pattern adds
abbrev pub with_first : HeapState → Args → List ℕ → Formatting → Formatted
with_first heap args [] now = Ok now
with_first heap args (c ∷ text) now = with_piece heap args (piece_of c text) text now

-- so many pieces at most, one by one
unfoldable pub formatted_within : ℕ → HeapState → Args → List ℕ → Formatting → Formatted
formatted_within zero heap args pattern now = Ok now
formatted_within (suc most) heap args pattern now =
    result_then (with_first heap args pattern now)
    (formatted_within most heap args (behind_first pattern))

-- a piece takes a character at least, so that there are no more pieces than characters
unfoldable pub formatted : HeapState → Args → List ℕ → Printed
formatted heap args pattern =
    result_then
    (formatted_within (length pattern) heap args pattern
    (record { used = 0; numbered = false; text = [] }))
    (λ now. Ok now.text)

-- the text of a filled pattern, which is a string
abbrev pub formatted_text : HeapState → Args → Option (List ℕ) → Printed
formatted_text heap args None = Err fault.Kind
formatted_text heap args (Some pattern) = formatted heap args (chars pattern)

-- and as a value
unfoldable pub format_row : Val → Args → HeapState → Change Val
format_row pattern args heap =
    go_on (result_of (formatted_text heap args (text_in (cell_at heap pattern))) heap) text_made
