-- Where a text stands in another one, said by what stands before and behind it.
use Rattle.std.specs.Prelude.{◌≡◌, ℕ, ◌≤◌, List, ◌++◌, length, Option, Some, None}
use Rattle.std.specs.List.{join_by}

-- a text stands at an index of another one
pub record StandsAt (sub : List ℕ) (index : ℕ) (text : List ℕ) : Type 0 where
  pub before : List ℕ
  pub behind : List ℕ
  pub parts : text ≡ before ++ sub ++ behind
  pub place : length before ≡ index

-- it stands nowhere
abbrev pub StandsNowhere : List ℕ → List ℕ → Type 0
StandsNowhere sub text = (index : ℕ) → StandsAt sub index text → ⊥

-- the least index at which it stands
pub record IsLeast (sub : List ℕ) (index : ℕ) (text : List ℕ) : Type 0 where
  pub stands : StandsAt sub index text
  pub least : (other : ℕ) → StandsAt sub other text → index ≤ other

-- the least index, if there is one
abbrev pub IsFirst : List ℕ → List ℕ → Option ℕ → Type 0
IsFirst sub text None = StandsNowhere sub text
IsFirst sub text (Some index) = IsLeast sub index text

-- the greatest index at which it stands
pub record IsGreatest (sub : List ℕ) (index : ℕ) (text : List ℕ) : Type 0 where
  pub stands : StandsAt sub index text
  pub greatest : (other : ℕ) → StandsAt sub other text → other ≤ index

-- the greatest index, if there is one
abbrev pub IsLast : List ℕ → List ℕ → Option ℕ → Type 0
IsLast sub text None = StandsNowhere sub text
IsLast sub text (Some index) = IsGreatest sub index text

-- two parts of a text with a separator between them, which isn't in the first one
pub record IsPartition (separator text before behind : List ℕ) : Type 0 where
  pub parts : text ≡ before ++ separator ++ behind
  pub nowhere : StandsNowhere separator before

-- the parts round the first place of a separator, if it has one
abbrev pub IsParted : List ℕ → List ℕ → Option (List ℕ × List ℕ) → Type 0
IsParted separator text None = StandsNowhere separator text
IsParted separator text (Some parts) = IsPartition separator text parts.0 parts.1

-- two parts of a text with a separator between them, which isn't in the second one
pub record IsLastPartition (separator text before behind : List ℕ) : Type 0 where
  pub parts : text ≡ before ++ separator ++ behind
  pub nowhere : StandsNowhere separator behind

-- the parts round the last place of a separator, if it has one
abbrev pub IsPartedLast : List ℕ → List ℕ → Option (List ℕ × List ℕ) → Type 0
IsPartedLast separator text None = StandsNowhere separator text
IsPartedLast separator text (Some parts) = IsLastPartition separator text parts.0 parts.1

-- pieces with a separator between them
abbrev pub joined : List ℕ → List (List ℕ) → List ℕ
joined separator pieces = join_by (λ piece. piece) separator pieces
