use Rattle.std.proofs.Common.{◌≡◌, drop}
use Rattle.star_operators.specs.Members.{begins_with}
use Rattle.star_operators.proofs.members.begins_with.Given as goal

abbrev pub invariant-comparing : goal.invariant-comparing
invariant-comparing l = begins_with (drop l.byte-index l.part) l.rest ≡ begins_with l.part l.text
