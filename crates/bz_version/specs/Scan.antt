-- The version that a text is, or the place of its fault, read from the first byte on.
use Rattle.std.specs.Prelude.{ℕ, ◌+◌, ◌==◌, Bool, true, false, if◌then◌else◌, List, [], ◌∷◌, Option}
use Rattle.std.specs.Prelude.{Some, None, Result, Ok, Err}
use Rattle.std.specs.Char.{is_ascii_alphanumeric}
use Rattle.std.specs.Option.{option_map_or}
use Rattle.bz_version.specs.Grammar.{is_prerelease_byte, is_build_byte}
use Rattle.bz_version.specs.Texts.{before, dash, dot, plus}
use Rattle.bz_version.specs.declared.scanner.Place.{Place}
use Rattle.bz_version.specs.declared.scanner.Place.TheVariants.{Start, ReleaseFirst, Release}
use Rattle.bz_version.specs.declared.scanner.Place.TheVariants.{PrereleaseFirst, Prerelease}
use Rattle.bz_version.specs.declared.scanner.Place.TheVariants.{BuildFirst, Build}
use Rattle.bz_version.specs.declared.versions.BadVersion.{BadVersion}

-- behind an identifier of RELEASE a further one, PRERELEASE or BUILD may begin
abbrev pub release_mark : ℕ → Option Place
release_mark b = if b == dot then Some ReleaseFirst
    else (if b == dash then Some PrereleaseFirst else (if b == plus then Some BuildFirst else None))

-- behind an identifier of PRERELEASE a further one or BUILD may begin
abbrev pub prerelease_mark : ℕ → Option Place
prerelease_mark b = if b == dot then Some PrereleaseFirst
    else (if b == plus then Some BuildFirst else None)

-- the place behind one more byte, where a version can go on with it
abbrev pub next_place : Place → ℕ → Option Place
next_place Start b = if is_ascii_alphanumeric b then Some Release else None
next_place ReleaseFirst b = if is_ascii_alphanumeric b then Some Release else None
next_place Release b = if is_ascii_alphanumeric b then Some Release else release_mark b
next_place PrereleaseFirst b = if is_prerelease_byte b then Some Prerelease else None
next_place Prerelease b = if is_prerelease_byte b then Some Prerelease else prerelease_mark b
next_place BuildFirst b = if is_build_byte b then Some Build else None
next_place Build b = if is_build_byte b then Some Build else None

-- a version may end here
abbrev pub may_end : Place → Bool
may_end Start = true
may_end ReleaseFirst = false
may_end Release = true
may_end PrereleaseFirst = false
may_end Prerelease = true
may_end BuildFirst = false
may_end Build = true

-- the index of the first byte that leads nowhere, or that of the end where a version may not end
-- there
abbrev pub fault_from : Place → ℕ → List ℕ → Option ℕ
fault_from place index [] = if may_end place then None else Some index
fault_from place index (b ∷ rest) = option_map_or (λ next. fault_from next (index + 1) rest)
    (next_place place b) (Some index)

-- the text without BUILD, or the place of the fault
unfoldable pub version_of : List ℕ → Result (List ℕ) BadVersion
version_of text = option_map_or (λ place. Err (record { place = place })) (fault_from Start 0 text)
    (Ok (before plus text))
