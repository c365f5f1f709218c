-- The texts of versions: Bazel, "Bazel modules", section "Version format".
use Rattle.std.specs.Prelude.{◌≡◌, ℕ, ◌+◌, ◌<◌, ◌≤◌, length, take, ◌==◌, ◌||◌, Bool, true, List, []}
use Rattle.std.specs.Prelude.{◌∷◌, ◌++◌}
use Rattle.std.specs.Char.{is_ascii_alphanumeric}
use Rattle.std.specs.List.{AllByRecursion}
use Rattle.bz_version.specs.Texts.{dash, dot, dotted, marked, plus}

-- PRERELEASE has dashes besides letters and digits
abbrev pub is_prerelease_byte : ℕ → Bool
is_prerelease_byte b = is_ascii_alphanumeric b || b == dash

-- BUILD has dots besides
abbrev pub is_build_byte : ℕ → Bool
is_build_byte b = is_prerelease_byte b || b == dot

-- one or more bytes of a kind
abbrev pub IsIdentifier : (ℕ → Bool) → List ℕ → Type 0
IsIdentifier may [] = ⊥
IsIdentifier may (b ∷ rest) = AllByRecursion (λ c. may c ≡ true) (b ∷ rest)

-- a version: the identifiers of RELEASE and of PRERELEASE, of which the empty version has none
pub record Parts : Type 0 where
  pub release : List (List ℕ)
  pub prerelease : List (List ℕ)

-- the text of a version without BUILD
abbrev pub written : Parts → List ℕ
written version = dotted version.release ++ marked dash (dotted version.prerelease)

-- the text is RELEASE[-PRERELEASE][+BUILD]; without RELEASE nothing follows
pub record Spells (text : List ℕ) (version : Parts) (build : List ℕ) : Type 0 where
  pub release : AllByRecursion (IsIdentifier is_ascii_alphanumeric) version.release
  pub prerelease : AllByRecursion (IsIdentifier is_prerelease_byte) version.prerelease
  pub build_bytes : AllByRecursion (λ b. is_build_byte b ≡ true) build
  pub alone : version.release ≡ [] → (version.prerelease ≡ []) × (build ≡ [])
  pub spelled : text ≡ written version ++ marked plus build

-- some version has the text
abbrev pub IsVersion : List ℕ → Type 0
IsVersion text = (version : Parts) × (build : List ℕ) × Spells text version build

-- a version can follow: some version begins with the text
abbrev pub CanFollow : List ℕ → Type 0
CanFollow text = (more : List ℕ) × IsVersion (text ++ more)

-- the place of a text's fault: a version can follow what stands before it, and none can follow it;
-- at the length the text breaks off too early
pub record IsFault (text : List ℕ) (place : ℕ) : Type 0 where
  pub within : place ≤ length text
  pub goes_on : CanFollow (take place text)
  pub stops : place < length text → ¬ CanFollow (take (place + 1) text)
  pub no_version : ¬ IsVersion text
