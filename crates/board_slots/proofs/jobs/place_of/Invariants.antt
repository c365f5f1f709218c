use Rattle.std.proofs.Common.{◌≡◌, ◌+◌, drop}
use Rattle.std.specs.List.{position_or_len}
use Rattle.std.specs.Str.{bytes_eq}
use Rattle.board_slots.proofs.jobs.place_of.Given as goal

abbrev pub invariant-loop-place : goal.invariant-loop-place
invariant-loop-place g l = position_or_len (λ slot. bytes_eq ((g.W.Work.meaning l.work).text l.job) ((g.W.Work.meaning l.work).text slot.job)) l.slots ≡ l.place + position_or_len (λ slot. bytes_eq ((g.W.Work.meaning l.work).text l.job) ((g.W.Work.meaning l.work).text slot.job)) (drop l.place l.slots)
