-- What a byte of a text begins or belongs to: the Starlark specification, "Lexical elements".
use Rattle.std.specs.Prelude.{ℕ, Bool, not, ◌||◌, ◌&&◌, ◌==◌, if◌then◌else◌, List, slice_index}
use Rattle.std.specs.Prelude.{Option, Some, None}
use Rattle.std.specs.Char.{is_ascii_alphabetic, is_ascii_digit}
use Rattle.star_lex.specs.declared.bytes.Class.{Class}
use Rattle.star_lex.specs.declared.bytes.Class.TheVariants.{Space, Letter, Digit, Quote, Hash}
use Rattle.star_lex.specs.declared.bytes.Class.TheVariants.{Backslash, Feed, Other}

-- the class of a byte; `_` is a letter, and a byte beyond ASCII is of none of the named classes
abbrev pub class_of : ℕ → Class
class_of b =
    if b == 32 || b == 9 then Space
    else (if is_ascii_alphabetic b || b == 95 then Letter
    else (if is_ascii_digit b then Digit
    else (if b == 34 || b == 39 then Quote
    else (if b == 35 then Hash
    else (if b == 92 then Backslash
    else (if b == 10 || b == 13 then Feed
    else Other))))))

-- a NUL and a carriage return stand nowhere by themselves
abbrev pub is_visible : ℕ → Bool
is_visible b = not (b == 0 || b == 13)

-- how long the line end at the front is: a line feed, or a carriage return and a line feed
abbrev pub line_end : List ℕ → Option ℕ
line_end text =
    if slice_index text 0 == 10 then Some 1
    else (if slice_index text 0 == 13 && slice_index text 1 == 10 then Some 2 else None)
