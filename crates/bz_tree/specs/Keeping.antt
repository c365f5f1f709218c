-- What a keeper tells of a lockfile, and what a replacement leaves.
use Rattle.std.specs.Prelude.{◌≡◌, ◌⊎◌, ℕ, List, length, nat_le, if◌then◌else◌, Option, Some, None}
use Rattle.std.specs.Prelude.{option_map}
use Rattle.bz_tree.specs.declared.lock_keeper.Loaded.{Loaded}
use Rattle.bz_tree.specs.declared.lock_keeper.Loaded.TheVariants.{Bytes, Large, Absent}

-- 64 MiB, the largest lockfile that is loaded
abbrev pub largest_lockfile : ℕ
largest_lockfile = 67108864

abbrev pub loaded_of : Option (List ℕ) → Loaded
loaded_of None = Absent
loaded_of (Some bytes) = if nat_le (length bytes) largest_lockfile then Bytes bytes else Large

-- the new bytes, where it is told what is held
abbrev pub replaced : Option (Option (List ℕ)) → List ℕ → Option (Option (List ℕ))
replaced held bytes = option_map (λ before. Some bytes) held

abbrev pub IsOldOrNew : Option (Option (List ℕ)) → List ℕ → Option (Option (List ℕ)) → Type 0
IsOldOrNew before bytes now = (now ≡ before) ⊎ (now ≡ replaced before bytes)
