-- Which version is below another, by the first place where they differ: Bazel, "Bazel modules",
-- section "Version format"; SemVer 2.0.0, section 11.
use Rattle.std.specs.Prelude.{◌≡◌, ℕ, ◌<◌, Bool, true, false, ◌⊎◌, List, [], ◌∷◌, ◌++◌, ⊤}
use Rattle.bz_version.specs.Digits.{is_numeric, number_of}
use Rattle.bz_version.specs.Grammar.{Parts}

-- of two lists with no common front, the first one has ended, or begins with the lower item
abbrev pub EndsOrLower : {X : Type 0} → (X → X → Type 0) → List X → List X → Type 0
EndsOrLower Lower [] [] = ⊥
EndsOrLower Lower [] (y ∷ ys) = ⊤
EndsOrLower Lower (x ∷ xs) [] = ⊥
EndsOrLower Lower (x ∷ xs) (y ∷ ys) = Lower x y

-- behind a common front the first list has ended, or goes on with the lower item
pub record DiffersBelow {X : Type 0} (Lower : X → X → Type 0) (xs ys : List X) : Type 0 where
  pub common : List X
  pub rest : List X
  pub other_rest : List X
  pub first : xs ≡ common ++ rest
  pub second : ys ≡ common ++ other_rest
  pub below : EndsOrLower Lower rest other_rest

-- texts by their bytes
abbrev pub IsTextBelow : List ℕ → List ℕ → Type 0
IsTextBelow first second = DiffersBelow (λ b c. b < c) first second

-- digits by the numbers that they write, and of one number by their bytes
abbrev pub IsNumberBelow : List ℕ → List ℕ → Type 0
IsNumberBelow first second = (number_of first < number_of second)
    ⊎ ((number_of first ≡ number_of second) × IsTextBelow first second)

-- by whether the first and the second identifier are digits alone
abbrev pub IsBelowByKind : Bool → Bool → List ℕ → List ℕ → Type 0
IsBelowByKind true true first second = IsNumberBelow first second
IsBelowByKind true false first second = ⊤
IsBelowByKind false true first second = ⊥
IsBelowByKind false false first second = IsTextBelow first second

-- digits alone are below every other identifier
abbrev pub IsIdentifierBelow : List ℕ → List ℕ → Type 0
IsIdentifierBelow first second = IsBelowByKind (is_numeric first) (is_numeric second) first second

-- a part is below one that is left out, and below another by their first different identifiers
abbrev pub IsPartBelow : List (List ℕ) → List (List ℕ) → Type 0
IsPartBelow [] ys = ⊥
IsPartBelow (x ∷ xs) [] = ⊤
IsPartBelow (x ∷ xs) (y ∷ ys) = DiffersBelow IsIdentifierBelow (x ∷ xs) (y ∷ ys)

-- RELEASE decides, and of one RELEASE PRERELEASE
abbrev pub IsBelow : Parts → Parts → Type 0
IsBelow first second = IsPartBelow first.release second.release
    ⊎ ((first.release ≡ second.release) × IsPartBelow first.prerelease second.prerelease)
