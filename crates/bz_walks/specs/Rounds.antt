-- Walks in rounds: where no level is left, what follows from all nodes so far begins the next
-- round.
use Rattle.std.specs.Prelude.{ℕ, zero, suc, if◌then◌else◌, List, Result, Ok, Err}
use Rattle.std.specs.List.{list_all, list_any}
use Rattle.bz_walks.specs.Walks.{Walk, Walked, levels, with_requests}

-- the same nodes with more requests
abbrev pub walked_on : {A N E : Type 0} → List N → Result (List A) E → Result (Walked A N) E
walked_on nodes (Ok known) = Ok (record { known = known; nodes = nodes })
walked_on nodes (Err refusal) = Err refusal

-- the requests that follow are added; where all of them stand already, that is the end
abbrev pub next_round : {A N E : Type 0}
    → (Result (Walked A N) E → Result (Walked A N) E)
    → Walk A N E
    → (List N → List A)
    → Result (Walked A N) E
    → Result (Walked A N) E
next_round on walk follow (Err refusal) = Err refusal
next_round on walk follow (Ok walked) =
    if list_all (λ request. list_any (walk.rules.same request) walked.known)
    (follow walked.nodes) then Ok walked
    else on (walked_on walked.nodes (with_requests walk.rules (Ok walked.known) (follow
    walked.nodes)))

-- so many rounds at most, each of so many levels at most
unfoldable pub rounds : {A N E : Type 0}
    → Walk A N E
    → (List N → List A)
    → ℕ
    → ℕ
    → Result (Walked A N) E
    → Result (Walked A N) E
rounds walk follow most zero walked = levels walk most walked
rounds walk follow most (suc n) walked = next_round (rounds walk follow most n) walk follow
    (levels walk most walked)
