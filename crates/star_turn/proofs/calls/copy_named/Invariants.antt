use Rattle.std.proofs.Common.{◌≡◌, take}
use Rattle.star_turn.proofs.calls.copy_named.Given as goal

abbrev pub invariant-copying : goal.invariant-copying
invariant-copying l = l.copy.items ≡ take l.one-index l.named
