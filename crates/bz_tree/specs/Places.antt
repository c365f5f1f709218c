-- What stands at each path of a tree once a file is placed, and where placing it failed.
use Rattle.std.specs.Prelude.{◌≡◌, ℕ, ◌||◌, ◌==◌, ◌⊎◌, Bool, true, false, nat_le, nat_eq}
use Rattle.std.specs.Prelude.{if◌then◌else◌, List, [], ◌∷◌, length, drop, insert, take, take_while}
use Rattle.std.specs.Prelude.{option_and_then, Option, Some, None, codes, bytes_eq}
use Rattle.std.specs.List.{starts_with, before_first, list_any}
use Rattle.bz_base.specs.Paths.{goes_up}
use Rattle.bz_tree.specs.Reads.{is_below, largest_file}
use Rattle.bz_tree.specs.declared.tree.Found.{Found}
use Rattle.bz_tree.specs.declared.tree.Found.TheVariants.{Bytes, Large, Listing, Absent}

-- what stands at each path
abbrev pub Files : Type 0
Files = List ℕ → Found

-- a file, by its bytes
abbrev pub file_of : List ℕ → Found
file_of bytes = if nat_le (length bytes) largest_file then Bytes bytes else Large

-- the names of a directory; of anything else there are none
abbrev pub names_of : Found → List (List ℕ)
names_of (Listing names) = names
names_of (Bytes bytes) = []
names_of Large = []
names_of Absent = []

-- the index of a name among names in byte order: behind all that are below it
abbrev pub index_of : List ℕ → List (List ℕ) → ℕ
index_of name names = length (take_while (λ other. is_below other name) names)

-- the names in byte order, this one among them
abbrev pub with_name : List ℕ → List (List ℕ) → List (List ℕ)
with_name name names =
    if list_any (λ other. bytes_eq other name) names then names
    else insert names (index_of name names) name

-- what stands behind a front of the text, where it begins with that front
abbrev pub stripped : List ℕ → List ℕ → Option (List ℕ)
stripped front text = if starts_with nat_eq text front then Some (drop (length front) text)
    else None

-- what stands behind a directory in the text of a path below it: behind the workspace and `/` at
-- once, and else behind a slash
abbrev pub path_behind : List ℕ → List ℕ → Option (List ℕ)
path_behind directory path =
    option_and_then
    (λ rest. if bytes_eq directory [] || bytes_eq directory (codes "/") then Some rest
    else stripped (codes "/") rest)
    (stripped directory path)

-- what stands before the first slash
abbrev pub first_name : List ℕ → List ℕ
first_name path = before_first (λ b. b == 47) path

-- a segment that names something in its directory
abbrev pub name_only : List ℕ → Option (List ℕ)
name_only segment = if bytes_eq segment [] || goes_up segment then None else Some segment

-- the name in a directory by which a path leads on, where it leads through the directory
abbrev pub next_name : List ℕ → List ℕ → Option (List ℕ)
next_name directory path = option_and_then (λ rest. name_only (first_name rest))
    (path_behind directory path)

-- a directory that lists the next name besides its earlier ones
abbrev pub with_next : Option (List ℕ) → Found → Found
with_next None before = before
with_next (Some name) before = Listing (with_name name (names_of before))

-- what stands somewhere once a file stands at a path: the file at its own path, at each path above
-- it a directory that lists the next name too, and what stood there at every other path
abbrev pub after_file : List ℕ → List ℕ → List ℕ → Found → Found
after_file path bytes there before =
    if bytes_eq there path then file_of bytes else with_next (next_name there path) before

-- the file stands at its path and its directories list it; a tree that tells nothing goes on so
abbrev pub IsPlaced : Option Files → List ℕ → List ℕ → Option Files → Type 0
IsPlaced None path bytes now = now ≡ None
IsPlaced (Some look) path bytes None = ⊥
IsPlaced (Some look) path bytes (Some now) = (there : List ℕ)
    → now there ≡ after_file path bytes there (look there)

-- what may stand at the path itself after placing failed: what stood there, nothing, or a front of
-- the file's bytes
abbrev pub MayStandAt : List ℕ → Found → Found → Type 0
MayStandAt bytes before now = (now ≡ before)
    ⊎ ((now ≡ Absent) ⊎ ((n : ℕ) × (now ≡ file_of (take n bytes))))

-- what may stand elsewhere: what stood there, or a directory above that lists the next name too
abbrev pub MayStandBeside : Option (List ℕ) → Found → Found → Type 0
MayStandBeside next before now = (now ≡ before) ⊎ (now ≡ with_next next before)

abbrev pub MayStandBy : Bool → Option (List ℕ) → List ℕ → Found → Found → Type 0
MayStandBy true next bytes before now = MayStandAt bytes before now
MayStandBy false next bytes before now = MayStandBeside next before now

-- what may stand somewhere after placing a file at a path failed
abbrev pub MayStand : List ℕ → List ℕ → List ℕ → Found → Found → Type 0
MayStand path bytes there before now = MayStandBy (bytes_eq there path)
    (next_name there path) bytes before now

-- the placing of a file failed
abbrev pub IsPlacedInPart : Option Files → List ℕ → List ℕ → Option Files → Type 0
IsPlacedInPart None path bytes now = now ≡ None
IsPlacedInPart (Some look) path bytes None = ⊥
IsPlacedInPart (Some look) path bytes (Some now) = (there : List ℕ)
    → MayStand path bytes there (look there) (now there)
