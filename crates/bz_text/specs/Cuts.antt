-- Where a text is cut.
use Rattle.std.specs.Prelude.{ℕ, ◌==◌, List, [], ◌∷◌, Option, None, Some, option_map}
use Rattle.std.specs.Prelude.{option_and_then, if◌then◌else◌}
use Rattle.std.specs.List.{slice_split}

-- what stands before the first mark, and what stands behind it
abbrev pub cut : ℕ → List ℕ → Option (List ℕ × List ℕ)
cut mark [] = None
cut mark (b ∷ bs) =
    if b == mark then Some ([], bs) else option_map (λ parts. (b ∷ parts.0, parts.1)) (cut mark bs)

-- all that stands between the marks of a text, in order; a text without a mark is one part
abbrev pub parts_at : ℕ → List ℕ → List (List ℕ)
parts_at mark text = slice_split (λ b. b == mark) text

-- what stands behind the mark with which the text begins
abbrev pub behind : ℕ → List ℕ → Option (List ℕ)
behind mark [] = None
behind mark (b ∷ bs) = if b == mark then Some bs else None

-- what stands before the first slash and behind the second, where the two stand together
abbrev pub cut_at_root : List ℕ → Option (List ℕ × List ℕ)
cut_at_root text =
    option_and_then (λ parts. option_map (λ target. (parts.0, target)) (behind 47 parts.1))
    (cut 47 text)
