use Rattle.std.proofs.Common.{◌≡◌, map, string_bytes}
use Rattle.bz_tree.proofs.dir_tree.texts_of.Given as goal

abbrev pub invariant-loop-name : goal.invariant-loop-name
invariant-loop-name l = l.texts.items ≡ map string_bytes l.yielded
