-- Repository mappings as lists of pairs of an apparent and a canonical name: Bazel's "External
-- dependencies overview", "Repository mapping".
use Rattle.std.specs.Prelude.{ℕ, ◌≢◌, Bool, ◌&&◌, List, [], ◌∷◌, Option, None, Some, String}
use Rattle.std.specs.Prelude.{string_bytes, bytes_eq, map, if◌then◌else◌, AllPairs}
use Rattle.std.specs.List.{list_all}
use Rattle.std.specs.declared.alloc.Global.{Global}
use Rattle.bz_base.specs.Names.{is_apparent, is_canonical}
use Rattle.bz_label.specs.declared.mapping.Taken.{Taken}

-- that an apparent name is there already
abbrev pub taken_name : Taken
taken_name = record {}

-- the pairs that are kept under owned texts
abbrev pub pairs_of : List (String Global × List ℕ) → List (List ℕ × List ℕ)
pairs_of entries = map (λ entry. (string_bytes entry.0, entry.1)) entries

-- the canonical name behind an apparent one
abbrev pub found : List ℕ → List (List ℕ × List ℕ) → Option (List ℕ)
found apparent [] = None
found apparent (pair ∷ pairs) = if bytes_eq apparent pair.0 then Some pair.1
    else found apparent pairs

-- a name that stands keeps its place and takes the canonical name, and a new one goes last
abbrev pub put : List ℕ → List ℕ → List (List ℕ × List ℕ) → List (List ℕ × List ℕ)
put apparent canonical [] = (apparent, canonical) ∷ []
put apparent canonical (pair ∷ pairs) =
    if bytes_eq apparent pair.0 then (pair.0, canonical) ∷ pairs
    else pair ∷ put apparent canonical pairs

-- no two pairs have one apparent name
abbrev pub NamesDiffer : List (List ℕ × List ℕ) → Type 0
NamesDiffer pairs = AllPairs (λ one other. one.0 ≢ other.0) pairs

-- each apparent and each canonical name is one that a label may have
abbrev pub are_names : List (List ℕ × List ℕ) → Bool
are_names pairs = list_all (λ pair. is_apparent pair.0 && is_canonical pair.1) pairs
