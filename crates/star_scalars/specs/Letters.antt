-- Letters, digits and space, which are ASCII's: the Starlark specification, "string·isalpha" and
-- those beside it. A text is the list of its characters.
use Rattle.std.specs.Prelude.{ℕ, ◌==◌, Bool, false, not, ◌&&◌, ◌||◌, if◌then◌else◌}
use Rattle.std.specs.Prelude.{List, [], ◌∷◌, map, length, reverse}
use Rattle.std.specs.Char.{is_ascii_alphabetic, is_ascii_alphanumeric, is_ascii_digit}
use Rattle.std.specs.Char.{to_ascii_lowercase, to_ascii_uppercase}
use Rattle.std.specs.List.{list_all, list_any}
use Rattle.std.specs.Str.{bytes_eq}
use Rattle.star_scalars.specs.declared.letters.Class.{Class}
use Rattle.star_scalars.specs.declared.letters.Class.TheVariants as class

-- space, and the controls from the tabulator (9) to the carriage return (13)
unfoldable pub is_space : ℕ → Bool
is_space c = c == 32 || (c == 9 || (c == 10 || (c == 11 || (c == 12 || c == 13))))

-- the characters of a class
unfoldable pub is_of : Class → ℕ → Bool
is_of class.Letter c = is_ascii_alphabetic c
is_of class.Digit c = is_ascii_digit c
is_of class.LetterOrDigit c = is_ascii_alphanumeric c
is_of class.Space c = is_space c

-- a text that isn't empty, of which each character is of a class
abbrev pub are_all : Class → List ℕ → Bool
are_all class text = list_all (is_of class) text && not (length text == 0)

abbrev pub lower : List ℕ → List ℕ
lower text = map to_ascii_lowercase text

abbrev pub upper : List ℕ → List ℕ
upper text = map to_ascii_uppercase text

-- a letter behind another is small, and any other one large
abbrev pub cased : Bool → ℕ → ℕ
cased behind c = if behind then to_ascii_lowercase c else to_ascii_uppercase c

abbrev pub title_behind : Bool → List ℕ → List ℕ
title_behind behind [] = []
title_behind behind (c ∷ text) = cased behind c ∷ title_behind (is_ascii_alphabetic c) text

-- each word begins with a large letter
abbrev pub title : List ℕ → List ℕ
title text = title_behind false text

-- the first letter is large, and all others are small
abbrev pub capitalized : List ℕ → List ℕ
capitalized [] = []
capitalized (c ∷ text) = to_ascii_uppercase c ∷ lower text

-- a text with letters that a change of case leaves as it is
abbrev pub is_its_own : (List ℕ → List ℕ) → List ℕ → Bool
is_its_own change text = bytes_eq (change text) text && list_any is_ascii_alphabetic text

-- a text without what stands at its front, or at its end, of a class
abbrev pub without_front : (ℕ → Bool) → List ℕ → List ℕ
without_front class [] = []
without_front class (c ∷ text) = if class c then without_front class text else c ∷ text

abbrev pub without_end : (ℕ → Bool) → List ℕ → List ℕ
without_end class text = reverse (without_front class (reverse text))

-- a character is one of these
unfoldable pub is_one_of : List ℕ → ℕ → Bool
is_one_of set c = list_any (λ other. other == c) set
