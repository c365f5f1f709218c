-- What a write leaves.
use Rattle.std.specs.Prelude.{◌≡◌, ◌≢◌, ℕ, List, [], ◌++◌, take, Option, option_map, Result, Ok}
use Rattle.std.specs.Prelude.{Err}
use Rattle.bz_base.specs.Counts.{Rose}
use Rattle.bz_tree.specs.declared.faults.Failed.{Failed}

-- what was written, with these bytes behind it, where it is told
abbrev pub appended : Option (List ℕ) → List ℕ → Option (List ℕ)
appended written bytes = option_map (λ before. before ++ bytes) written

-- the front of the piece that was taken is written; a failed write leaves nothing
abbrev pub written_after : Result ℕ Failed → List ℕ → Option (List ℕ) → Option (List ℕ)
written_after (Ok taken) bytes before = appended before (take taken bytes)
written_after (Err failed) bytes before = before

-- a write that took nothing of a piece that isn't empty was counted as a fault
abbrev pub CountsNothing : Result ℕ Failed → List ℕ → ℕ → ℕ → Type 0
CountsNothing result bytes before now = result ≡ Ok 0 → bytes ≢ [] → Rose before now
