use Rattle.std.proofs.Common.{◌≡◌, ◌++◌, replicate, None}
use Rattle.star_core.proofs.scopes.leave_unset.Given as goal

abbrev pub invariant-loop-put : goal.invariant-loop-put
invariant-loop-put l = l.slots ≡ l.fn.slots ++ replicate l.put None
