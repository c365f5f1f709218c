use Rattle.std.proofs.Common.{◌≡◌, ◌≤◌, ◌-◌, true, length, take}
use Rattle.std.specs.List.{list_all}
use Rattle.star_lex.specs.Runs.{belongs}
use Rattle.star_lex.proofs.runs.run_length.Given as goal

-- all bytes so far belong to the run
abbrev pub invariant-run : goal.invariant-run
invariant-run l = (l.length ≤ length l.text)
    × (list_all (belongs l.within) (take l.length l.text) ≡ true)

abbrev pub decreases-run : goal.decreases-run
decreases-run l = length l.text - l.length
