-- What stands in a tree in memory, and what its calls leave.
use Rattle.std.specs.Prelude.{ℕ, ◌-◌, ◌||◌, ◌&&◌, ◌==◌, Bool, true, false, if◌then◌else◌, List, []}
use Rattle.std.specs.Prelude.{◌≡◌, ◌∷◌, ◌++◌, bytes_eq, is_some, max, Option, Some, Result, Ok, Err}
use Rattle.std.specs.List.{list_any}
use Rattle.bz_base.specs.Counts.{counted}
use Rattle.bz_tree.specs.Plans.{Plan, fails_next, no_plan, one_made, with_failing}
use Rattle.bz_tree.specs.Places.{Files, after_file, next_name}
use Rattle.bz_tree.specs.declared.tree.Found.{Found}
use Rattle.bz_tree.specs.declared.tree.Found.TheVariants.{Bytes, Large, Listing, Absent}
use Rattle.bz_tree.specs.declared.faults.OutsideFault.{OutsideFault}
use Rattle.bz_tree.specs.declared.faults.OutsideFault.TheVariants.{Failed}
use Rattle.bz_tree.specs.declared.mem_tree.Put.{Put}

-- what stands somewhere once a file was put
abbrev pub after_put : Put → List ℕ → Found → Found
after_put put there before = after_file put.path put.bytes there before

-- what stands somewhere after each put in turn
abbrev pub after_puts : List Put → List ℕ → Found → Found
after_puts [] there before = before
after_puts (put ∷ puts) there before = after_puts puts there (after_put put there before)

-- a tree in memory: the files put, its reads and its placings, the count of failed reads and the
-- path of the last, the count of failed placings, and for how many more there is room
pub record MemTreeState : Type 0 where
  pub puts : List Put
  pub reads : Plan
  pub placings : Plan
  pub faults : ℕ
  pub failed : List ℕ
  pub failed_places : ℕ
  pub spare : ℕ

-- the empty tree
abbrev pub empty_tree : MemTreeState
empty_tree =
    record {
      puts = [];
      reads = no_plan;
      placings = no_plan;
      faults = 0;
      failed = [];
      failed_places
          = 0;
      spare = 0;
    }

-- what stands at a path of the tree
abbrev pub found_in : MemTreeState → List ℕ → Found
found_in tree path = after_puts tree.puts path Absent

-- what stands at each path, which a tree in memory always tells
abbrev pub files_of : MemTreeState → Option Files
files_of tree = Some (found_in tree)

-- the tree whose nth read from now fails too
abbrev pub with_failing_read : MemTreeState → ℕ → MemTreeState
with_failing_read tree nth = record tree { reads = with_failing tree.reads nth }

-- the tree whose nth placing from now fails too
abbrev pub with_failing_place : MemTreeState → ℕ → MemTreeState
with_failing_place tree nth = record tree { placings = with_failing tree.placings nth }

-- a file by its path and its bytes
abbrev pub put_of : List ℕ → List ℕ → Put
put_of path bytes = record { path = path; bytes = bytes }

-- the tree with one more file
abbrev pub with_put : MemTreeState → Put → MemTreeState
with_put tree put = record tree { puts = tree.puts ++ put ∷ [] }

-- each path has what it has once the file was put
abbrev pub HasPut : Put → MemTreeState → MemTreeState → Type 0
HasPut put before now =
    (there : List ℕ) → found_in now there ≡ after_put put there (found_in before there)

-- the tree with room for so many files at least
abbrev pub with_room : MemTreeState → ℕ → MemTreeState
with_room tree places = record tree { spare = max tree.spare places }

-- the answer of the next read
abbrev pub read_of : MemTreeState → List ℕ → Result Found OutsideFault
read_of tree path = if fails_next tree.reads then Err Failed else Ok (found_in tree path)

-- the tree behind that answer
abbrev pub after_read : MemTreeState → List ℕ → MemTreeState
after_read tree path =
    if fails_next tree.reads
    then record tree { reads = one_made tree.reads; faults = counted tree.faults; failed = path }
    else record tree { reads = one_made tree.reads }

abbrev pub is_file : Found → Bool
is_file (Bytes bytes) = true
is_file Large = true
is_file (Listing names) = false
is_file Absent = false

abbrev pub is_directory : Found → Bool
is_directory (Listing names) = true
is_directory (Bytes bytes) = false
is_directory Large = false
is_directory Absent = false

-- whether a file stands somewhere once a file was put, by whether one stood there
abbrev pub file_after : Put → List ℕ → Bool → Bool
file_after put there before =
    if bytes_eq there put.path then true
    else (if is_some (next_name there put.path) then false else before)

abbrev pub file_after_each : List Put → List ℕ → Bool → Bool
file_after_each [] there before = before
file_after_each (put ∷ puts) there before = file_after_each puts there (file_after put there before)

-- the same of a directory
abbrev pub directory_after : Put → List ℕ → Bool → Bool
directory_after put there before =
    if bytes_eq there put.path then false
    else (if is_some (next_name there put.path) then true else before)

abbrev pub directory_after_each : List Put → List ℕ → Bool → Bool
directory_after_each [] there before = before
directory_after_each (put ∷ puts) there before = directory_after_each puts there
    (directory_after put there before)

-- a put's path leads on to the other path, and a file stands there now
abbrev pub is_file_above : List Put → List ℕ → Put → Bool
is_file_above puts path put = is_some (next_name put.path path)
    && is_file (after_puts puts put.path Absent)

-- a directory stands in the file's place, or a file in a directory's
abbrev pub is_blocked_by : List Put → List ℕ → Bool
is_blocked_by puts path = is_directory (after_puts puts path Absent)
    || list_any (is_file_above puts path) puts

-- the next placing fails
abbrev pub refuses : MemTreeState → List ℕ → Bool
refuses tree path = fails_next tree.placings || is_blocked_by tree.puts path

-- the tree behind a placing that succeeds, and behind one that fails
abbrev pub after_place : MemTreeState → Put → MemTreeState
after_place tree put =
    record tree {
      puts = tree.puts
          ++ put ∷ [];
      placings = one_made tree.placings;
      spare = tree.spare - 1;
    }

abbrev pub after_failed_place : MemTreeState → MemTreeState
after_failed_place tree =
    record tree { placings = one_made tree.placings; failed_places = counted tree.failed_places }
