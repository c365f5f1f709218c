use Rattle.std.proofs.Common.{◌≡◌, drop}
use Rattle.star_machine.proofs.attributes.field.Given as goal
use Rattle.star_meaning.specs.Attributes.{field_of}

abbrev pub invariant-loop-field : goal.invariant-loop-field
invariant-loop-field l =
    field_of l.name (drop l.field-index l.fields) ≡ field_of l.name l.fields
