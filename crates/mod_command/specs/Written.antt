-- What a sink holds behind a run.
use Rattle.std.specs.Prelude.{◌≡◌, ℕ, List, ◌++◌, Option}
use Rattle.bz_tree.specs.Writes.{appended}

-- a front of the bytes was written, maybe nothing of them or all
pub record IsFrontWritten (before : Option (List ℕ)) (bytes : List ℕ)
    (now : Option (List ℕ)) : Type 0 where
  pub front : List ℕ
  pub rest : List ℕ
  pub whole : front ++ rest ≡ bytes
  pub written : now ≡ appended before front
