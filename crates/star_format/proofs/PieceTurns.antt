-- The pieces of a pattern, turn by turn.
use Rattle.std.proofs.Common.{◌≡◌, ℕ, suc, ◌+◌, ◌-◌, ◌<◌, ◌≤◌, List, Ok, ap, arith}
use Rattle.star_core.specs.Heaps.{HeapState}
use Rattle.star_core.specs.declared.values.Args.{Args}
use Rattle.star_format.specs.Fields.{behind_first}
use Rattle.star_format.specs.Formats.{formatted_within, with_first}
use Rattle.star_format.specs.declared.formatting.Formatting.{Formatting}
use Rattle.star_text.specs.ArgumentValues.{result_then}

one_more : (most turn : ℕ) → turn < most → most - turn ≡ suc (most - (turn + 1))
one_more most turn before = omega (arith, before)

over : (most turn : ℕ) → most ≤ turn → most - turn ≡ 0
over most turn behind = omega (arith, behind)

pub one_piece : (most turn : ℕ) (heap : HeapState) (args : Args) (rest : List ℕ) (now : Formatting)
    → turn < most
    → formatted_within (most - turn) heap args rest now
    ≡ result_then (with_first heap args rest now)
    (formatted_within (most - (turn + 1)) heap args (behind_first rest))
unfolding formatted_within
one_piece most turn heap args rest now is =
    ap (λ n. formatted_within n heap args rest now) (one_more most turn is)

pub no_piece : (most turn : ℕ) (heap : HeapState) (args : Args) (rest : List ℕ) (now : Formatting)
    → most ≤ turn
    → formatted_within (most - turn) heap args rest now ≡ Ok now
unfolding formatted_within
no_piece most turn heap args rest now is =
    ap (λ n. formatted_within n heap args rest now) (over most turn is)

pub ruleset piece_turns = (one_piece, no_piece)
