-- Which indexes are reached breadth-first from index 0, where a list says to which indexes each
-- leads: what Bazel, "Bazel modules", section "Version selection", keeps of a graph of modules.
use Rattle.std.specs.Prelude.{ℕ, nat_eq, nat_lt, List, [], ◌∷◌, length, filter, slice_get, None}
use Rattle.std.specs.Prelude.{Result, Ok, Err}
use Rattle.std.specs.Option.{option_map_or}
use Rattle.bz_walks.specs.Walks.{Rules, Walk, Walked, levels, with_node}

-- the indexes to which an index leads, in order; one that isn't there is left out
abbrev pub links_at : List (List ℕ) → ℕ → List ℕ
links_at links index = filter (λ other. nat_lt other (length links))
    (option_map_or (λ some. some) (slice_get links index) [])

abbrev pub index_rules : Rules ℕ ⊥
index_rules = record { same = nat_eq; limit = λ known index. None }

abbrev pub over_links : List (List ℕ) → Walk ℕ ℕ ⊥
over_links links = record
    { rules = index_rules; read = λ index. Ok index; requests = links_at links }

-- level 0 is the first index
abbrev pub first_alone : Walked ℕ ℕ
first_alone = record { known = 0 ∷ []; nodes = [] }

-- the first index and all further levels
unfoldable pub indexes_walked : List (List ℕ) → Result (Walked ℕ ℕ) ⊥
indexes_walked links = levels (over_links links) (length links)
    (with_node (over_links links) first_alone (Ok 0))

abbrev pub walked_indexes : Result (Walked ℕ ℕ) ⊥ → List ℕ
walked_indexes (Ok walked) = walked.nodes
walked_indexes (Err never) = absurd never

-- the indexes that are reached, in order; of no links none
abbrev pub reached : List (List ℕ) → List ℕ
reached [] = []
reached (some ∷ links) = walked_indexes (indexes_walked (some ∷ links))
