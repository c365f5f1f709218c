-- What is known of a need.
use Rattle.std.specs.Prelude.{ℕ, ◌≡◌, List, Bool, true, false, Option, None, Some, length, slice_get}
use Rattle.std.specs.Borrow.{Bor}
use Rattle.std.specs.List.{position_or_len}
use Rattle.std.specs.Str.{bytes_eq}
use Rattle.board_machine.specs.Boards.{Needed, File, Job}

-- what was found at a file
abbrev pub found_of : {A : Type 0} → Needed A → Option A
found_of (File path found) = found
found_of (Job place) = None

-- the path of a file of which nothing is known yet
abbrev pub open_path_of : {A : Type 0} → Needed A → Option (List ℕ)
open_path_of (File path None) = Some path
open_path_of (File path (Some found)) = None
open_path_of (Job place) = None

-- what was found for the need that stands there, if one does
abbrev pub found_in : {A : Type 0} → Option (Needed A) → Option A
found_in None = None
found_in (Some need) = found_of need

abbrev pub is_open : {A : Type 0} → Needed A → Bool
is_open (File path None) = true
is_open (File path (Some found)) = false
is_open (Job place) = false

-- the need that stands there is one of this file, without an answer
abbrev pub is_open_at : {A : Type 0} → List ℕ → Option (Needed A) → Bool
is_open_at path None = false
is_open_at path (Some (File other None)) = bytes_eq path other
is_open_at path (Some (File other (Some found))) = false
is_open_at path (Some (Job place)) = false

-- the first file's need without an answer, and its path
abbrev pub IsFirstOpen : {A : Type 0} → List (Needed A) → Option (ℕ × Bor (List ℕ)) → Type 0
IsFirstOpen needs None = position_or_len is_open needs ≡ length needs
IsFirstOpen needs (Some (number, path)) =
    (number ≡ position_or_len is_open needs) × (slice_get needs number ≡ Some (File path.now None))

-- a path with its need's number
abbrev pub IsNumbered : ℕ → Option (Bor (List ℕ)) → Option (ℕ × Bor (List ℕ)) → Type 0
IsNumbered number None result = result ≡ None
IsNumbered number (Some path) result = result ≡ Some (number, path)
