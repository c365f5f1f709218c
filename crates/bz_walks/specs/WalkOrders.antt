-- In which order a walk meets requests and nodes, said of whole levels: nothing is read here one by
-- one.
use Rattle.std.specs.Prelude.{◌≡◌, Bool, false, if◌then◌else◌, List, [], ◌∷◌, ◌++◌, flat_map, Some}
use Rattle.std.specs.Prelude.{Ok, Err, ◌⊎◌}
use Rattle.std.specs.List.{AllZip, list_any}
use Rattle.bz_walks.specs.Walks.{Rules, Walk, Walked, next_level, with_requests}

-- the requests that are one with no earlier request, in order, each once
abbrev pub new_requests : {A : Type 0} → (A → A → Bool) → List A → List A → List A
new_requests same earlier [] = []
new_requests same earlier (request ∷ requests) =
    if list_any (same request) earlier then new_requests same earlier requests
    else request ∷ new_requests same (earlier ++ request ∷ []) requests

-- what the nodes of a level ask for and nothing before them asked for, in order: the next level
abbrev pub next_of : {A N E : Type 0} → Walk A N E → List A → List N → List A
next_of walk earlier nodes = new_requests walk.rules.same earlier (flat_map walk.requests nodes)

-- each node is what its request leads to, in order
abbrev pub AreRead : {A N E : Type 0} → Walk A N E → List A → List N → Type 0
AreRead walk level nodes = AllZip (λ request node. walk.read request ≡ Ok node) level nodes

-- the requests up to a level and the level itself, beside all that come behind it and the nodes
-- from the level on: each level is what the nodes of the one before ask for, in order, without what
-- stands earlier
pub data FollowLevels {A N E : Type 0} (walk : Walk A N E) : List A
    → List A
    → List A
    → List N
    → Type 0 where
  end : (earlier : List A) → FollowLevels walk earlier [] [] []
  level : (earlier level : List A) (nodes : List N) (behind : List A) (further : List N)
      → AreRead walk level nodes
      → FollowLevels walk (earlier ++ next_of walk earlier nodes)
      (next_of walk earlier nodes) behind further
      → FollowLevels walk earlier level (next_of walk earlier nodes ++ behind) (nodes ++ further)

-- of some requests the first that is new and may not stand is refused so
pub record IsFirstOverLimit {A E : Type 0} (rules : Rules A E) (earlier requests : List A)
    (refusal : E) : Type 0 where
  pub before : List A
  pub request : A
  pub behind : List A
  pub are : requests ≡ before ++ request ∷ behind
  pub added : with_requests rules (Ok earlier) before
      ≡ Ok (earlier ++ new_requests rules.same earlier before)
  pub new : list_any (rules.same request) (earlier ++ new_requests rules.same earlier before)
      ≡ false
  pub over_limit : rules.limit (earlier ++ new_requests rules.same earlier before) request
      ≡ Some refusal

-- a node's request can't be read, or one of the requests of the node is refused
abbrev pub IsRefusedAt : {A N E : Type 0} → Walk A N E → List A → A → E → Type 0
IsRefusedAt {A} {N} walk earlier request refusal =
    (walk.read request ≡ Err refusal)
    ⊎ ((node : N) × (walk.read request ≡ Ok node)
    × IsFirstOverLimit walk.rules earlier (walk.requests node) refusal)

-- the first refusal, level by level: all requests before it in its level are read and what their
-- nodes ask for is added
pub data IsFirstRefusal {A N E : Type 0} (walk : Walk A N E) : List A → List A → E → Type 0 where
  here : (earlier front : List A) (request : A) (rest : List A) (nodes : List N) (refusal : E)
      → AreRead walk front nodes
      → with_requests walk.rules (Ok earlier) (flat_map walk.requests nodes)
      ≡ Ok (earlier ++ next_of walk earlier nodes)
      → IsRefusedAt walk (earlier ++ next_of walk earlier nodes) request refusal
      → IsFirstRefusal walk earlier (front ++ request ∷ rest) refusal
  later : (earlier level : List A) (nodes : List N) (refusal : E)
      → AreRead walk level nodes
      → IsFirstRefusal walk (earlier ++ next_of walk earlier nodes)
      (next_of walk earlier nodes) refusal
      → IsFirstRefusal walk earlier level refusal

-- what comes behind a walk that is read so far, up to its end
pub record IsLevelByLevel {A N E : Type 0} (walk : Walk A N E)
    (walked final : Walked A N) : Type 0 where
  pub behind : List A
  pub further : List N
  pub follow : FollowLevels walk walked.known (next_level walked) behind further
  pub known_are : final.known ≡ walked.known ++ behind
  pub nodes_are : final.nodes ≡ walked.nodes ++ further
