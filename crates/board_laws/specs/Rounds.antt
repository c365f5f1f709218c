-- The one way in which a cycle is written: from the least text on, and that text again at the end.
use Rattle.std.specs.Prelude.{ℕ, Bool, true, false, List, [], ◌∷◌, ◌++◌, if◌then◌else◌, nat_lt}
use Rattle.std.specs.Str.{bytes_eq}

-- the text that comes first by bytes
abbrev pub lesser : List ℕ → List ℕ → List ℕ
lesser [] ys = []
lesser (x ∷ xs) [] = []
lesser (x ∷ xs) (y ∷ ys) =
    if nat_lt x y then x ∷ xs else (if nat_lt y x then y ∷ ys else x ∷ lesser xs ys)

abbrev pub least : List ℕ → List (List ℕ) → List ℕ
least text [] = text
least text (other ∷ texts) = lesser text (least other texts)

-- what stands before the first place of a text, and what stands from there on
abbrev pub before : List ℕ → List (List ℕ) → List (List ℕ)
before text [] = []
before text (other ∷ texts) = if bytes_eq text other then [] else other ∷ before text texts

abbrev pub from_on : List ℕ → List (List ℕ) → List (List ℕ)
from_on text [] = []
from_on text (other ∷ texts) = if bytes_eq text other then other ∷ texts else from_on text texts

abbrev pub turned_to : List ℕ → List (List ℕ) → List (List ℕ)
turned_to text texts = from_on text texts ++ before text texts ++ text ∷ []

-- the texts of a cycle, each before the one that it asks
abbrev pub cycle_texts : List (List ℕ) → List (List ℕ)
cycle_texts [] = []
cycle_texts (text ∷ texts) = turned_to (least text texts) (text ∷ texts)

-- the text stands among them
abbrev pub stands : List ℕ → List (List ℕ) → Bool
stands text [] = false
stands text (other ∷ texts) = if bytes_eq text other then true else stands text texts
