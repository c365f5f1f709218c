-- What a pattern that `format` fills is made of: the Starlark specification, "string·format".
use Rattle.std.specs.Prelude.{ℕ, ◌+◌, ◌-◌, ◌*◌, ◌==◌, Bool, false, not, ◌&&◌, ◌||◌}
use Rattle.std.specs.Prelude.{if◌then◌else◌, List, [], ◌∷◌, length, drop, Option, Some, None}
use Rattle.std.specs.Char.{is_ascii_alphanumeric, is_ascii_digit}
use Rattle.std.specs.List.{list_all}
use Rattle.star_format.specs.declared.fields.FieldKind.{FieldKind}
use Rattle.star_format.specs.declared.fields.FieldKind.TheVariants as field
use Rattle.star_format.specs.declared.fields.PatternPiece.{PatternPiece}
use Rattle.star_format.specs.declared.fields.PatternPiece.TheVariants as piece
use Rattle.star_scalars.specs.Letters.{are_all}
use Rattle.star_scalars.specs.Searches.{begins, first_index}
use Rattle.star_scalars.specs.declared.letters.Class.TheVariants as class

-- an opening or a closing brace
abbrev pub is_brace : ℕ → Bool
is_brace c = c == 123 || c == 125

-- a field has so many characters before its closing brace, which has to be there
abbrev pub field_piece : Option ℕ → PatternPiece
field_piece None = piece.Alone
field_piece (Some long) = piece.Field long

-- the piece that begins with a character, with a text behind that one: a brace that is written
-- twice, a field, a brace that stands alone, or a character that stands for itself
unfoldable pub piece_of : ℕ → List ℕ → PatternPiece
piece_of c text =
    if is_brace c && begins text (c ∷ []) then piece.Brace c
    else (if c == 123 then field_piece (first_index (125 ∷ []) text)
    else (if c == 125 then piece.Alone else piece.Character c))

-- what stands behind a piece, of the text behind its first character
abbrev pub behind_piece : PatternPiece → List ℕ → List ℕ
behind_piece (piece.Character c) text = text
behind_piece (piece.Brace c) text = drop 1 text
behind_piece (piece.Field long) text = drop 1 (drop long text)
behind_piece piece.Alone text = text

-- what stands behind the first piece of a pattern
abbrev pub behind_first : List ℕ → List ℕ
behind_first [] = []
behind_first (c ∷ text) = behind_piece (piece_of c text) text

-- letters, digits and underscores are the characters of names
unfoldable pub is_of_name : ℕ → Bool
is_of_name c = is_ascii_alphanumeric c || c == 95

-- a name begins with no digit
abbrev pub is_name : List ℕ → Bool
is_name [] = false
is_name (c ∷ text) = not (is_ascii_digit c) && list_all is_of_name (c ∷ text)

-- which argument a field asks for: the next one, one by its number, one by its name, or none
unfoldable pub kind_of : List ℕ → FieldKind
kind_of text =
    if length text == 0 then field.Next
    else (if are_all class.Digit text then field.Number
    else (if is_name text then field.Name else field.Unknown))

-- the number that digits spell behind a number
abbrev pub number_behind : ℕ → List ℕ → ℕ
number_behind number [] = number
number_behind number (c ∷ digits) = number_behind (number * 10 + (c - 48)) digits

abbrev pub number_of : List ℕ → ℕ
number_of digits = number_behind 0 digits
