use Rattle.std.proofs.Common.{◌≡◌, map, take}
use Rattle.star_library.proofs.kinds.pairs.Given as goal

abbrev pub invariant-copying : goal.invariant-copying
invariant-copying l = l.pairs.items ≡ map (λ entry. entry.pair) (take l.index l.dict)
