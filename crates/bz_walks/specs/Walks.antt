-- Breadth-first walks. Level 0 is where a walk begins; each further level is what the nodes of the
-- one before ask for, in order, without what stands earlier.
use Rattle.std.specs.Prelude.{ℕ, zero, suc, Bool, if◌then◌else◌, List, [], ◌∷◌, ◌++◌, length, drop}
use Rattle.std.specs.Prelude.{Option, None, Some, Result, Ok, Err}
use Rattle.std.specs.List.{list_any}

-- which two requests are one, and why a request that is new may not stand behind those that are
-- known
pub record Rules (A E : Type 0) : Type 0 where
  pub same : A → A → Bool
  pub limit : List A → A → Option E

-- besides, what stands where a request leads, and what each node asks for
pub record Walk (A N E : Type 0) : Type 0 where
  pub rules : Rules A E
  pub read : A → Result N E
  pub requests : N → List A

-- all requests that are known, in order, and the nodes to which the first of them lead
pub record Walked (A N : Type 0) : Type 0 where
  pub known : List A
  pub nodes : List N

abbrev pub within_limit : {A E : Type 0} → List A → A → Option E → Result (List A) E
within_limit known request None = Ok (known ++ request ∷ [])
within_limit known request (Some refusal) = Err refusal

-- a request stands once, at its first place
abbrev pub with_request : {A E : Type 0} → Rules A E → List A → A → Result (List A) E
with_request rules known request = if list_any (rules.same request) known then Ok known
    else within_limit known request (rules.limit known request)

-- each request in turn
abbrev pub with_requests : {A E : Type 0}
    → Rules A E
    → Result (List A) E
    → List A
    → Result (List A) E
with_requests rules (Err refusal) requests = Err refusal
with_requests rules (Ok known) [] = Ok known
with_requests rules (Ok known) (request ∷ requests) = with_requests rules
    (with_request rules known request) requests

abbrev pub walked_with : {A N E : Type 0} → List N → N → Result (List A) E → Result (Walked A N) E
walked_with nodes node (Ok known) = Ok (record { known = known; nodes = nodes ++ node ∷ [] })
walked_with nodes node (Err refusal) = Err refusal

-- one more node, and then what it asks for
abbrev pub with_node : {A N E : Type 0}
    → Walk A N E
    → Walked A N
    → Result N E
    → Result (Walked A N) E
with_node walk walked (Ok node) = walked_with walked.nodes node
    (with_requests walk.rules (Ok walked.known) (walk.requests node))
with_node walk walked (Err refusal) = Err refusal

-- the requests of a level, each in turn: it is read, and then what it asks for is added
abbrev pub with_level : {A N E : Type 0}
    → Walk A N E
    → Result (Walked A N) E
    → List A
    → Result (Walked A N) E
with_level walk (Err refusal) level = Err refusal
with_level walk (Ok walked) [] = Ok walked
with_level walk (Ok walked) (request ∷ level) = with_level walk
    (with_node walk walked (walk.read request)) level

-- what is known and not read yet
abbrev pub next_level : {A N : Type 0} → Walked A N → List A
next_level walked = drop (length walked.nodes) walked.known

-- so many further levels
unfoldable pub levels : {A N E : Type 0}
    → Walk A N E
    → ℕ
    → Result (Walked A N) E
    → Result (Walked A N) E
levels walk n (Err refusal) = Err refusal
levels walk zero (Ok walked) = Ok walked
levels walk (suc n) (Ok walked) = levels walk n (with_level walk (Ok walked) (next_level walked))
