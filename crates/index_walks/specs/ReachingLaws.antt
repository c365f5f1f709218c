-- What is reached, in words that don't walk.
use Rattle.std.specs.Prelude.{◌≡◌, ℕ, ◌<◌, Bool, nat_eq, List, ◌∷◌, length, All, IsTrue}
use Rattle.std.specs.List.{IsDistinct, list_any}
use Rattle.index_walks.specs.Reaching.{links_at}

-- where the test holds of an index, it holds of each to which the index leads
abbrev pub HoldsOnLinks : (ℕ → Bool) → List (List ℕ) → List ℕ → Type 0
HoldsOnLinks holds links indexes = All
    (λ index. IsTrue (holds index) → All (λ link. IsTrue (holds link)) (links_at links index))
    indexes

-- the first index and all links of what is reached, each once, and nothing but those: each set with
-- the first index and all links of its members has each index that is reached
pub record IsReached (links : List (List ℕ)) (indexes : List ℕ) : Type 0 where
  pub behind : List ℕ
  pub first : indexes ≡ 0 ∷ behind
  pub differ : IsDistinct nat_eq indexes
  pub there : All (λ index. index < length links) indexes
  pub closed : All
      (λ index. All (λ link. IsTrue (list_any (nat_eq link) indexes)) (links_at links index))
      indexes
  pub least : (holds : ℕ → Bool)
      → IsTrue (holds 0)
      → HoldsOnLinks holds links indexes
      → All (λ index. IsTrue (holds index)) indexes
