use Rattle.std.proofs.Common.{◌≡◌, map, take}
use Rattle.star_meaning.specs.Parameters.{formal_of}
use Rattle.star_compiler.proofs.files.formals.Given as goal

abbrev pub invariant-formals : goal.invariant-formals
invariant-formals l = l.formals ≡ map formal_of (take l.param-index l.params)
