-- Texts and their parts between marks.
use Rattle.std.specs.Prelude.{ℕ, ◌==◌, if◌then◌else◌, List, [], ◌∷◌, ◌++◌, Option, Some, None}
use Rattle.std.specs.Prelude.{flat_map}
use Rattle.std.specs.List.{slice_split}

-- the marks `.`, `-` and `+`
abbrev pub dot : ℕ
dot = 46

abbrev pub dash : ℕ
dash = 45

abbrev pub plus : ℕ
plus = 43

-- what stands before the first mark: all where there is none
abbrev pub before : ℕ → List ℕ → List ℕ
before mark [] = []
before mark (b ∷ rest) = if b == mark then [] else b ∷ before mark rest

-- what stands behind the first mark
abbrev pub behind : ℕ → List ℕ → Option (List ℕ)
behind mark [] = None
behind mark (b ∷ rest) = if b == mark then Some rest else behind mark rest

-- what stands between the dots
abbrev pub between_dots : List ℕ → List (List ℕ)
between_dots text = slice_split (λ b. b == dot) text

-- identifiers with dots between them
abbrev pub dotted : List (List ℕ) → List ℕ
dotted [] = []
dotted (x ∷ xs) = x ++ flat_map (λ y. dot ∷ y) xs

-- a part behind its mark, or nothing where the part is left out
abbrev pub marked : ℕ → List ℕ → List ℕ
marked mark [] = []
marked mark (b ∷ rest) = mark ∷ b ∷ rest
