-- What a read answers, and what it leaves.
use Rattle.std.specs.Prelude.{ℕ, ◌≤◌, Bool, true, ◌&&◌, not, List, [], ◌∷◌, length, IsTrue, Result}
use Rattle.std.specs.Prelude.{Ok, Err}
use Rattle.std.specs.Cmp.Lexicographic.{slice_cmp}
use Rattle.std.specs.Ordering.{is_lt, nat_cmp}
use Rattle.bz_tree.specs.declared.tree.Found.{Found}
use Rattle.bz_tree.specs.declared.tree.Found.TheVariants.{Bytes, Large, Listing, Absent}
use Rattle.bz_tree.specs.declared.faults.OutsideFault.{OutsideFault}
use Rattle.bz_tree.specs.declared.faults.OutsideFault.TheVariants.{Failed, OutOfMemory}

-- 16 MiB, the largest file that is read or placed
abbrev pub largest_file : ℕ
largest_file = 16777216

-- the first name is below the other in byte order
abbrev pub is_below : List ℕ → List ℕ → Bool
is_below name other = is_lt (slice_cmp nat_cmp name other)

-- no name is below the one before it
abbrev pub are_ascending : List (List ℕ) → Bool
are_ascending [] = true
are_ascending (name ∷ []) = true
are_ascending (name ∷ next ∷ names) = not (is_below next name) && are_ascending (next ∷ names)

-- a file of 16 MiB at most, or the names of a directory in ascending byte order
abbrev pub IsReadable : Found → Type 0
IsReadable (Bytes bytes) = length bytes ≤ largest_file
IsReadable Large = Unit {0}
IsReadable (Listing names) = IsTrue (are_ascending names)
IsReadable Absent = Unit {0}

-- the path of the last failed read: this read's where it failed
abbrev pub failed_path_after : Result Found OutsideFault → List ℕ → List ℕ → List ℕ
failed_path_after (Err Failed) path before = path
failed_path_after (Err OutOfMemory) path before = before
failed_path_after (Ok found) path before = before
