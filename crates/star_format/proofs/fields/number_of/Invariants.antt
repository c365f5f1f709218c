use Rattle.std.proofs.Common.{◌≡◌, drop}
use Rattle.star_format.specs.Fields.{number_behind, number_of}
use Rattle.star_format.proofs.fields.number_of.Given as goal

abbrev pub invariant-reading : goal.invariant-reading
invariant-reading l = number_behind l.number (drop l.c-index l.digits) ≡ number_of l.digits
