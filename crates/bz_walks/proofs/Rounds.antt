-- A walk from whose nodes nothing follows is its levels; a round that adds nothing is the last.
use Rattle.std.proofs.Common.{◌≡◌, ℕ, zero, suc, List, [], ◌∷◌, Result, Ok, Err, refl}
use Rattle.bz_walks.specs.Rounds.{next_round, rounds}
use Rattle.bz_walks.specs.Walks.{Walk, Walked, levels}

pub rounds-alone : {A N E : Type 0} (walk : Walk A N E) (most n : ℕ)
    (walked : Result (Walked A N) E)
    → rounds walk (λ nodes. []) most n walked ≡ levels walk most walked
unfolding rounds
rounds-alone walk most zero walked = refl
rounds-alone {A} {N} {E} walk most (suc n) walked = by (levels walk most walked)
  where
    by : (r : Result (Walked A N) E)
        → next_round (rounds walk (λ nodes. []) most n) walk (λ nodes. []) r ≡ r
    by (Err refusal) = refl
    by (Ok after) = refl
