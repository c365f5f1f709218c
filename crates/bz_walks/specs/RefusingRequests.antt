-- Walks whose nodes have requests that may themselves be refused: each node in turn is read, then
-- each of its requests in turn is refused or added.
use Rattle.std.specs.Prelude.{Bool, true, false, List, [], ◌∷◌, Option, Some, Result, Ok, Err}
use Rattle.bz_walks.specs.Walks.{Rules, Walk}

-- the requests among some of which others are refused
abbrev pub made : {A E : Type 0} → List (Result A E) → List A
made [] = []
made (Ok request ∷ requests) = request ∷ made requests
made (Err refusal ∷ requests) = made requests

-- a refused request is one with no other request
abbrev pub same_made : {A E : Type 0} → (A → A → Bool) → Result A E → Result A E → Bool
same_made same (Ok one) (Ok other) = same one other
same_made same (Ok one) (Err refusal) = false
same_made same (Err refusal) (Ok other) = false
same_made same (Err refusal) (Err other) = true

-- a refused request may not stand, for its own reason
abbrev pub limited_or_refused : {A E : Type 0}
    → (List A → A → Option E)
    → List (Result A E)
    → Result A E
    → Option E
limited_or_refused limit known (Ok request) = limit (made known) request
limited_or_refused limit known (Err refusal) = Some refusal

abbrev pub refusing_rules : {A E : Type 0} → Rules A E → Rules (Result A E) E
refusing_rules rules = record
    { same = same_made rules.same; limit = limited_or_refused rules.limit }

abbrev pub read_made : {A N E : Type 0} → (A → Result N E) → Result A E → Result N E
read_made read (Ok request) = read request
read_made read (Err refusal) = Err refusal

-- the walk over requests that may be refused
abbrev pub refusing : {A N E : Type 0}
    → Rules A E
    → (A → Result N E)
    → (N → List (Result A E))
    → Walk (Result A E) N E
refusing rules read requests =
    record { rules = refusing_rules rules; read = read_made read; requests = requests }
