use Rattle.std.proofs.Common.{◌≡◌, drop}
use Rattle.star_operators.specs.Binary.{united}
use Rattle.star_operators.proofs.uniting.put_all.Given as goal

abbrev pub invariant-putting : goal.invariant-putting
invariant-putting l = united l.dict (drop l.index l.others) ≡ united l.fn.dict l.others
