-- Module files in the literal form.
use Rattle.std.specs.Prelude.{ℕ, ◌==◌, ◌&&◌, nat_lt, Bool, true, false, not, if◌then◌else◌, List}
use Rattle.std.specs.Prelude.{[], ◌∷◌, ◌++◌, length, Result, Ok, Err}
use Rattle.std.specs.List.{list_all, slice_split}
use Rattle.module_file.specs.LiteralLines.{line_of, not_literal}
use Rattle.module_file.specs.declared.literal_line.LiteralLine.{LiteralLine}
use Rattle.module_file.specs.declared.literal_line.LiteralLine.TheVariants.{Empty, Module, Dep}
use Rattle.module_file.specs.declared.literal_line.NotLiteral.{NotLiteral}

-- what stands between the line feeds of a text
abbrev pub texts_of : List ℕ → List (List ℕ)
texts_of text = slice_split (λ b. b == 10) text

-- the lines so far and one more
abbrev pub with_line : List LiteralLine
    → Result LiteralLine NotLiteral
    → Result (List LiteralLine) NotLiteral
with_line lines (Ok line) = Ok (lines ++ line ∷ [])
with_line lines (Err missed) = Err not_literal

-- nothing stands behind the last line feed
abbrev pub end_of : List LiteralLine → List ℕ → Result (List LiteralLine) NotLiteral
end_of lines rest = if length rest == 0 then Ok lines else Err not_literal

-- the lines so far and those of the texts, of which the last one stands behind the last line feed
abbrev pub lines_from : Result (List LiteralLine) NotLiteral
    → List (List ℕ)
    → Result (List LiteralLine) NotLiteral
lines_from (Err missed) texts = Err not_literal
lines_from (Ok lines) [] = Ok lines
lines_from (Ok lines) (text ∷ []) = end_of lines text
lines_from (Ok lines) (text ∷ next ∷ texts) = lines_from (with_line lines (line_of text))
    (next ∷ texts)

-- `module` stands behind no other directive; the test says whether one stands earlier
abbrev pub is_in_order : Bool → List LiteralLine → Bool
is_in_order earlier [] = true
is_in_order earlier (Empty ∷ lines) = is_in_order earlier lines
is_in_order earlier (Module key ∷ lines) = not earlier && is_in_order true lines
is_in_order earlier (Dep key ∷ lines) = is_in_order true lines

abbrev pub lines_in_order : Result (List LiteralLine) NotLiteral
    → Result (List LiteralLine) NotLiteral
lines_in_order (Ok lines) = if is_in_order false lines then Ok lines else Err not_literal
lines_in_order (Err missed) = Err not_literal

-- the lines of a module file
unfoldable pub literal_lines : List ℕ → Result (List LiteralLine) NotLiteral
literal_lines bytes =
    if list_all (λ b. nat_lt b 128) bytes then lines_in_order (lines_from (Ok []) (texts_of bytes))
    else Err not_literal
