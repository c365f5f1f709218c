-- The precedence of versions: Bazel, "Bazel modules", section "Version format"; SemVer 2.0.0,
-- section 11.
use Rattle.std.specs.Prelude.{ℕ, if◌then◌else◌, List, [], ◌∷◌, Option, Some, None}
use Rattle.std.specs.Ordering.{nat_cmp, ordering_then}
use Rattle.std.specs.Cmp.Lexicographic.{slice_cmp}
use Rattle.std.specs.declared.cmp.Ordering.{Ordering}
use Rattle.std.specs.declared.cmp.Ordering.TheVariants.{Less, Equal, Greater}
use Rattle.bz_version.specs.Digits.{is_numeric, number_of}
use Rattle.bz_version.specs.Grammar.{Parts}
use Rattle.bz_version.specs.Texts.{before, behind, between_dots, dash}

-- digits compare by number and then by bytes
abbrev pub numeric_order : List ℕ → List ℕ → Ordering
numeric_order first second = ordering_then (nat_cmp (number_of first) (number_of second))
    (slice_cmp nat_cmp first second)

-- digits alone are below every other identifier, and others compare by bytes
abbrev pub identifier_order : List ℕ → List ℕ → Ordering
identifier_order first second =
    if is_numeric first then (if is_numeric second then numeric_order first second else Less)
    else (if is_numeric second then Greater else slice_cmp nat_cmp first second)

-- lists of identifiers compare at the first place where they differ, and a proper prefix is below;
-- no identifiers at all are above any
abbrev pub part_order : List (List ℕ) → List (List ℕ) → Ordering
part_order [] [] = Equal
part_order [] (y ∷ ys) = Greater
part_order (x ∷ xs) [] = Less
part_order (x ∷ xs) (y ∷ ys) = slice_cmp identifier_order (x ∷ xs) (y ∷ ys)

-- versions compare by RELEASE, and then by PRERELEASE
abbrev pub version_order : Parts → Parts → Ordering
version_order first second = ordering_then (part_order first.release second.release)
    (part_order first.prerelease second.prerelease)

-- what stands between the dots of a part, if there is that part
abbrev pub identifiers : Option (List ℕ) → List (List ℕ)
identifiers None = []
identifiers (Some part) = between_dots part

-- RELEASE, which only the empty version lacks
abbrev pub release_of : List ℕ → Option (List ℕ)
release_of [] = None
release_of (b ∷ rest) = Some (before dash (b ∷ rest))

-- the identifiers of a version's text without BUILD
abbrev pub parts_of : List ℕ → Parts
parts_of text = record {
  release = identifiers (release_of text);
  prerelease = identifiers
      (behind dash text);
}

-- the precedence of versions by their texts without BUILD
unfoldable pub precedence : List ℕ → List ℕ → Ordering
precedence first second = version_order (parts_of first) (parts_of second)
