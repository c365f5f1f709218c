-- The lines of a text, and its single characters as pieces: the Starlark specification,
-- "string·splitlines" and "string·replace".
use Rattle.std.specs.Prelude.{ℕ, zero, suc, ◌+◌, ◌==◌, Bool, ◌&&◌, ◌||◌, if◌then◌else◌}
use Rattle.std.specs.Prelude.{List, [], ◌∷◌, length, take, drop}

-- a line feed or a carriage return ends a line
unfoldable pub is_break : ℕ → Bool
is_break c = c == 10 || c == 13

-- how many characters stand before the first end of a line
abbrev pub line_length : List ℕ → ℕ
line_length [] = 0
line_length (c ∷ text) = if is_break c then 0 else line_length text + 1

-- how long the end of a line is with which a text begins: a carriage return with a line feed behind
-- it is one
abbrev pub break_length : List ℕ → ℕ
break_length [] = 0
break_length (c ∷ []) = 1
break_length (c ∷ d ∷ text) = if c == 13 && d == 10 then 2 else 1

-- how long the first line is with its end
unfoldable pub whole_length : List ℕ → ℕ
whole_length text = line_length text + break_length (drop (line_length text) text)

-- the first line, with its end or without it
unfoldable pub first_line : Bool → List ℕ → List ℕ
first_line keep text = take (if keep then whole_length text else line_length text) text

-- so many lines at most; what is left begins with a line if it isn't empty
abbrev pub line_and_more : (List ℕ → List (List ℕ)) → Bool → List ℕ → List (List ℕ)
line_and_more more keep [] = []
line_and_more more keep (c ∷ text) =
    first_line keep (c ∷ text) ∷ more (drop (whole_length (c ∷ text)) (c ∷ text))

unfoldable pub lines_within : ℕ → Bool → List ℕ → List (List ℕ)
lines_within zero keep text = []
lines_within (suc most) keep text = line_and_more (lines_within most keep) keep text

-- a line has a character, or its end has one, so that there are no more lines than characters
abbrev pub lines : Bool → List ℕ → List (List ℕ)
lines keep text = lines_within (length text) keep text

-- a text cut behind each of so many characters, and once more at its end
unfoldable pub scalar_pieces : ℕ → List ℕ → List (List ℕ)
scalar_pieces zero text = text ∷ []
scalar_pieces (suc cuts) [] = [] ∷ []
scalar_pieces (suc cuts) (c ∷ text) = (c ∷ []) ∷ scalar_pieces cuts text

-- the pieces between the places of the empty text, of which the first is in front
unfoldable pub empty_pieces : ℕ → List ℕ → List (List ℕ)
empty_pieces zero text = text ∷ []
empty_pieces (suc cuts) text = [] ∷ scalar_pieces cuts text
