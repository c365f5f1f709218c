use Rattle.std.proofs.Common.{◌≡◌, map, take}
use Rattle.star_library.proofs.kinds.keys.Given as goal

abbrev pub invariant-copying : goal.invariant-copying
invariant-copying l = l.keys.items ≡ map (λ entry. entry.pair.key) (take l.index l.dict)
