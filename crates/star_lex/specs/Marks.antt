-- Punctuation: the Starlark specification, "Lexical elements".
use Rattle.std.specs.Prelude.{◌≡◌, ℕ, ◌≤◌, Bool, true, ◌||◌, List, [], ◌∷◌, length, take, codes}
use Rattle.std.specs.Prelude.{bytes_eq}
use Rattle.std.specs.List.{list_any}

abbrev pub single_marks : List (List ℕ)
single_marks = codes "+" ∷ codes "-" ∷ codes "*" ∷ codes "%" ∷ codes "~" ∷ codes "&" ∷ codes "|" ∷
    codes "^" ∷ codes "." ∷ codes "," ∷ codes "=" ∷ codes ";" ∷ codes ":" ∷ codes "(" ∷ codes ")" ∷
    codes "[" ∷ codes "]" ∷ codes "{" ∷ codes "}" ∷ codes "<" ∷ codes ">" ∷ []

abbrev pub double_marks : List (List ℕ)
double_marks = codes "//" ∷ codes "**" ∷ codes "<<" ∷ codes ">>" ∷ codes ">=" ∷ codes "<=" ∷ codes
    "==" ∷ codes "!=" ∷ codes "+=" ∷ codes "-=" ∷ codes "*=" ∷ codes "%=" ∷ codes "&=" ∷ codes "|="
    ∷ codes "^=" ∷ []

abbrev pub triple_marks : List (List ℕ)
triple_marks = codes "//=" ∷ codes "<<=" ∷ codes ">>=" ∷ []

unfoldable pub is_mark : List ℕ → Bool
is_mark text = list_any (bytes_eq text) single_marks
    || (list_any (bytes_eq text) double_marks || list_any (bytes_eq text) triple_marks)

-- the first n bytes are a mark, and no longer front of the text is one
pub record IsLongestMark (text : List ℕ) (n : ℕ) : Type 0 where
  pub within : n ≤ length text
  pub mark : is_mark (take n text) ≡ true
  pub longest : (m : ℕ) → m ≤ length text → is_mark (take m text) ≡ true → m ≤ n
