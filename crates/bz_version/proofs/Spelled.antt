-- What is spelled as a version is read to its end.
use Rattle.std.proofs.Common.{◌≡◌, ℕ, Bool, true, List, [], ◌∷◌, ◌++◌, Some, refl, ◌∙◌}
use Rattle.std.proofs.Common.{append_assoc}
use Rattle.std.specs.Char.{is_ascii_alphanumeric}
use Rattle.std.specs.List.{AllByRecursion, flat_map}
use Rattle.bz_version.proofs.Runs.{finishes, finishes-append, place_behind, place_behind-append}
use Rattle.bz_version.specs.Grammar.{IsIdentifier, IsVersion, Parts, Spells, is_build_byte}
use Rattle.bz_version.specs.Grammar.{is_prerelease_byte}
use Rattle.bz_version.specs.Scan.{may_end, next_place}
use Rattle.bz_version.specs.Texts.{dash, dot, dotted, marked, plus}
use Rattle.bz_version.specs.declared.scanner.Place.{Place}
use Rattle.bz_version.specs.declared.scanner.Place.TheVariants.{Start, ReleaseFirst, Release}
use Rattle.bz_version.specs.declared.scanner.Place.TheVariants.{PrereleaseFirst, Prerelease}
use Rattle.bz_version.specs.declared.scanner.Place.TheVariants.{BuildFirst, Build}

-- a part whose bytes lead from its first place to its inner one
record PartRun (may : ℕ → Bool) (first inner : Place) : Type 0 where
  enter : (b : ℕ) → may b ≡ true → next_place first b ≡ Some inner
  stay : (b : ℕ) → may b ≡ true → next_place inner b ≡ Some inner

release_run : PartRun is_ascii_alphanumeric ReleaseFirst Release
release_run = record { enter = λ b m. rw m refl; stay = λ b m. rw m refl }

start_run : PartRun is_ascii_alphanumeric Start Release
start_run = record { enter = λ b m. rw m refl; stay = λ b m. rw m refl }

prerelease_run : PartRun is_prerelease_byte PrereleaseFirst Prerelease
prerelease_run = record { enter = λ b m. rw m refl; stay = λ b m. rw m refl }

build_run : PartRun is_build_byte BuildFirst Build
build_run = record { enter = λ b m. rw m refl; stay = λ b m. rw m refl }

bytes_stay : {may : ℕ → Bool} {first inner : Place}
    → PartRun may first inner
    → (text : List ℕ)
    → AllByRecursion (λ b. may b ≡ true) text
    → place_behind inner text ≡ Some inner
bytes_stay run [] a = refl
bytes_stay run (b ∷ rest) a = rw (run.stay b a.0) (bytes_stay run rest a.1)

identifier_enters : {may : ℕ → Bool} {first inner : Place}
    → PartRun may first inner
    → (text : List ℕ)
    → IsIdentifier may text
    → place_behind first text ≡ Some inner
identifier_enters run [] a = absurd a
identifier_enters run (b ∷ rest) a = rw (run.enter b a.0) (bytes_stay run rest a.1)

further_stay : {may : ℕ → Bool} {first inner : Place}
    → PartRun may first inner
    → next_place inner dot ≡ Some first
    → (others : List (List ℕ))
    → AllByRecursion (IsIdentifier may) others
    → place_behind inner (flat_map (λ y. dot ∷ y) others) ≡ Some inner
further_stay run begins [] a = refl
further_stay {first = first} run begins (x ∷ xs) a =
    rw begins (place_behind-append first x (flat_map (λ y. dot ∷ y) xs) ∙ rw (identifier_enters run
    x a.0) (further_stay run begins xs a.1))

-- RELEASE leads inside it
release_enters : (x : List ℕ) (xs : List (List ℕ))
    → AllByRecursion (IsIdentifier is_ascii_alphanumeric) (x ∷ xs)
    → place_behind Start (dotted (x ∷ xs)) ≡ Some Release
release_enters x xs a =
    place_behind-append Start x (flat_map (λ y. dot ∷ y) xs)
    ∙ rw (identifier_enters start_run x a.0) (further_stay release_run refl xs a.1)

prerelease_enters : (x : List ℕ) (xs : List (List ℕ))
    → AllByRecursion (IsIdentifier is_prerelease_byte) (x ∷ xs)
    → place_behind PrereleaseFirst (dotted (x ∷ xs)) ≡ Some Prerelease
prerelease_enters x xs a =
    place_behind-append PrereleaseFirst x (flat_map (λ y. dot ∷ y) xs)
    ∙ rw (identifier_enters prerelease_run x a.0) (further_stay prerelease_run refl xs a.1)

build_finishes : (build : List ℕ)
    → AllByRecursion (λ b. is_build_byte b ≡ true) build
    → finishes Build build ≡ true
build_finishes [] a = refl
build_finishes (b ∷ rest) a = rw a.0 (build_finishes rest a.1)

-- BUILD, if there is any, ends a version
build_ends : (place : Place)
    → next_place place plus ≡ Some BuildFirst
    → may_end place ≡ true
    → (build : List ℕ)
    → AllByRecursion (λ b. is_build_byte b ≡ true) build
    → finishes place (marked plus build) ≡ true
build_ends place mark end [] a = end
build_ends place mark end (b ∷ rest) a = rw (mark, a.0) (build_finishes rest a.1)

-- so does PRERELEASE, if there is any, with BUILD
prerelease_ends : (prerelease : List (List ℕ)) (build : List ℕ)
    → AllByRecursion (IsIdentifier is_prerelease_byte) prerelease
    → AllByRecursion (λ b. is_build_byte b ≡ true) build
    → finishes Release (marked dash (dotted prerelease) ++ marked plus build) ≡ true
prerelease_ends [] build p a = build_ends Release refl refl build a
prerelease_ends ([] ∷ xs) build p a = absurd p.0
prerelease_ends ((b ∷ x) ∷ xs) build p a =
    finishes-append PrereleaseFirst (dotted ((b ∷ x) ∷ xs)) (marked plus build)
    ∙ rw (prerelease_enters (b ∷ x) xs p) (build_ends Prerelease refl refl build a)

parts_finish : (release prerelease : List (List ℕ)) (build : List ℕ)
    → AllByRecursion (IsIdentifier is_ascii_alphanumeric) release
    → AllByRecursion (IsIdentifier is_prerelease_byte) prerelease
    → AllByRecursion (λ b. is_build_byte b ≡ true) build
    → (release ≡ [] → (prerelease ≡ []) × (build ≡ []))
    → finishes Start ((dotted release ++ marked dash (dotted prerelease)) ++ marked plus build)
    ≡ true
parts_finish [] prerelease build r p a alone = rw ((alone refl).0, (alone refl).1) refl
parts_finish (x ∷ xs) prerelease build r p a alone =
    rw (append_assoc (dotted (x ∷ xs)) (marked dash (dotted prerelease)) (marked plus build))
    (finishes-append Start (dotted (x ∷ xs)) (marked dash (dotted prerelease) ++ marked plus build)
    ∙ rw (release_enters x xs r) (prerelease_ends prerelease build p a))

pub spelled_finishes : (text : List ℕ) (version : Parts) (build : List ℕ)
    → Spells text version build
    → finishes Start text ≡ true
spelled_finishes text version build s = rw s.spelled
    (parts_finish version.release version.prerelease build s.release s.prerelease s.build_bytes
    s.alone)

pub version_finishes : (text : List ℕ) → IsVersion text → finishes Start text ≡ true
version_finishes text v = spelled_finishes text v.0 v.1 v.2
