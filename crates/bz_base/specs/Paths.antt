-- Paths, resolved by their text alone: POSIX.1-2017, 4.13 "Pathname Resolution", with no link
-- followed; RFC 3986, 5.2.4 "Remove Dot Segments".
use Rattle.std.specs.Prelude.{ℕ, ◌-◌, Bool, true, false, not, ◌||◌, ◌==◌, if◌then◌else◌, List, []}
use Rattle.std.specs.Prelude.{◌∷◌, ◌++◌, length, take, slice_index, slice_get, Result, Ok, Err}
use Rattle.std.specs.Prelude.{Option, Some, None, codes, bytes_eq, flat_map}
use Rattle.std.specs.List.{slice_split, list_any}
use Rattle.bz_base.specs.declared.tree_path.BadPath.{BadPath}

-- that there is no such path
abbrev pub bad_path : BadPath
bad_path = record {}

-- what stands between the slashes of a text
abbrev pub segments_of : List ℕ → List (List ℕ)
segments_of text = slice_split (λ b. b == 47) text

-- the text begins with a slash, and so at `/` and not at the workspace
abbrev pub is_rooted : List ℕ → Bool
is_rooted text = slice_index text 0 == 47

-- a segment that stays where it is: the empty one and `.`
abbrev pub stays : List ℕ → Bool
stays segment = bytes_eq segment [] || bytes_eq segment (codes ".")

-- a segment that goes to the directory above
abbrev pub goes_up : List ℕ → Bool
goes_up segment = bytes_eq segment (codes "..")

-- there is a last name, and it is no `..`
abbrev pub is_name : Option (List ℕ) → Bool
is_name None = false
is_name (Some segment) = not (goes_up segment)

-- the names without the last one; above `/` there is nothing, and above the workspace stands `..`
abbrev pub above : Bool → List (List ℕ) → Result (List (List ℕ)) BadPath
above rooted names =
    if is_name (slice_get names (length names - 1)) then Ok (take (length names - 1) names)
    else (if rooted then Err bad_path else Ok (names ++ codes ".." ∷ []))

-- the names after one more segment
abbrev pub stepped : Bool → List (List ℕ) → List ℕ → Result (List (List ℕ)) BadPath
stepped rooted names segment =
    if stays segment then Ok names
    else (if goes_up segment then above rooted names else Ok (names ++ segment ∷ []))

-- the names after each segment in turn
abbrev pub walked : Bool
    → Result (List (List ℕ)) BadPath
    → List (List ℕ)
    → Result (List (List ℕ)) BadPath
walked rooted (Err bad) segments = Err bad
walked rooted (Ok names) [] = Ok names
walked rooted (Ok names) (segment ∷ segments) = walked rooted
    (stepped rooted names segment) segments

-- the first name, and each further one behind a slash
abbrev pub names_joined : List (List ℕ) → List ℕ
names_joined [] = []
names_joined (name ∷ names) = name ++ flat_map (λ further. 47 ∷ further) names

-- the path with these names
abbrev pub spelled : Bool → List (List ℕ) → List ℕ
spelled rooted names = if rooted then 47 ∷ names_joined names else names_joined names

abbrev pub spelled_path : Bool → Result (List (List ℕ)) BadPath → Result (List ℕ) BadPath
spelled_path rooted (Ok names) = Ok (spelled rooted names)
spelled_path rooted (Err bad) = Err bad

-- the names of one text and then of another, resolved in turn
unfoldable pub resolved : Bool → List ℕ → List ℕ → Result (List ℕ) BadPath
resolved rooted path text =
    spelled_path rooted (walked rooted (walked rooted (Ok []) (segments_of path)) (segments_of
    text))

abbrev pub has_nul : List ℕ → Bool
has_nul text = list_any (λ b. b == 0) text

-- a text as it is read at a path: a rooted one stands for itself
abbrev pub joined : List ℕ → List ℕ → Result (List ℕ) BadPath
joined path text =
    if has_nul text then Err bad_path
    else (if is_rooted text then resolved true [] text else resolved (is_rooted path) path text)
