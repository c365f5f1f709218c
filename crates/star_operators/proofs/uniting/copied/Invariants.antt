use Rattle.std.proofs.Common.{◌≡◌, take}
use Rattle.star_operators.proofs.uniting.copied.Given as goal

abbrev pub invariant-copying : goal.invariant-copying
invariant-copying l = l.copy ≡ take l.index l.dict
