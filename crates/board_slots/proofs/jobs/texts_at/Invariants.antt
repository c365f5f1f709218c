use Rattle.std.proofs.Common.{◌≡◌, ◌++◌, ◌∷◌, drop, map}
use Rattle.board_machine.specs.Boards.{jobs_at}
use Rattle.board_slots.proofs.jobs.texts_at.Given as goal

abbrev pub invariant-loop-place : goal.invariant-loop-place
invariant-loop-place g l =
    l.texts.items ++ map (g.W.Work.meaning l.work).text (jobs_at l.slots (drop l.place-index l.places))
    ≡ map (g.W.Work.meaning l.work).text (l.job ∷ jobs_at l.slots l.places)
