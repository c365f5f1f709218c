use Rattle.std.proofs.Common.{◌≡◌, ◌++◌, string_bytes, take}
use Rattle.std.specs.List.{flat_map}
use Rattle.star_print.specs.Escapes.{escaped}
use Rattle.star_print.proofs.escapes.push_all.Given as goal

abbrev pub invariant-spelling : goal.invariant-spelling
invariant-spelling l =
    string_bytes l.whole
    ≡ string_bytes l.initial.whole ++ flat_map escaped (take l.c-index l.scalars)
