use Rattle.std.proofs.Common.{◌≡◌, take}
use Rattle.star_names.specs.NameTexts.{names_of}
use Rattle.star_names.proofs.names.Names.texts.Given as goal

abbrev pub invariant-names : goal.invariant-names
invariant-names l = l.texts.items ≡ names_of (take l.index l.self-inside.texts.keys)
