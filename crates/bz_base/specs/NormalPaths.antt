-- What a resolved path is, and which texts lead to none: POSIX.1-2017, 3.2 "Absolute Pathname" and
-- 4.13 "Pathname Resolution", with no link followed; RFC 3986, 5.2.4.
use Rattle.std.specs.Prelude.{ℕ, ◌<◌, Bool, true, false, ◌||◌, if◌then◌else◌, List, [], ◌∷◌, ◌++◌}
use Rattle.std.specs.Prelude.{take, count_by, Option, None, Some, IsTrue, ◌⊎◌, codes, bytes_eq}
use Rattle.std.specs.List.{list_all}
use Rattle.bz_text.specs.Cuts.{behind}
use Rattle.bz_base.specs.Names.{is_segment}
use Rattle.bz_base.specs.Paths.{goes_up, has_nul, is_rooted, segments_of}

-- some `..`, and then names that are neither empty, nor `.`, nor `..`
abbrev pub are_relative : List (List ℕ) → Bool
are_relative [] = true
are_relative (name ∷ names) = if goes_up name then are_relative names
    else list_all is_segment (name ∷ names)

-- the segments of a path: behind `/` there are names alone, and from the workspace `..` may stand
-- in front
abbrev pub are_normal : Bool → List (List ℕ) → Bool
are_normal rooted names = if rooted then list_all is_segment names else are_relative names

-- a text by what stands behind the `/` with which it begins
abbrev pub is_normal_from : Option (List ℕ) → List ℕ → Bool
is_normal_from None text = are_normal false (segments_of text)
is_normal_from (Some names) text = are_normal true (segments_of names)

-- a path: the workspace, `/`, or segments none of which is empty or `.`, with `..` only in front of
-- a relative path and none behind a name
unfoldable pub is_normal : List ℕ → Bool
is_normal text = (bytes_eq text [] || bytes_eq text (codes "/"))
    || is_normal_from (behind 47 text) text

-- some front of the segments has more `..` than names
abbrev pub Climbs : List (List ℕ) → Type 0
Climbs segments = (n : ℕ)
    × (count_by is_segment (take n segments) < count_by goes_up (take n segments))

-- a text that begins with `/` is taken alone, and a path from the workspace leaves no `/`
abbrev pub LeavesRoot : Bool → Bool → List ℕ → List ℕ → Type 0
LeavesRoot true rooted path text = Climbs (segments_of text)
LeavesRoot false true path text = Climbs (segments_of path ++ segments_of text)
LeavesRoot false false path text = ⊥

-- a text that leads to no path: it has a NUL, or leads above `/`
abbrev pub LeadsNowhere : List ℕ → List ℕ → Type 0
LeadsNowhere path text = IsTrue (has_nul text)
    ⊎ LeavesRoot (is_rooted text) (is_rooted path) path text
