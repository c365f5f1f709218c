use Rattle.std.proofs.Common.{◌≡◌, Ok, drop}
use Rattle.module_arguments.specs.Attributes.{attributes_after, attributes_in}
use Rattle.module_arguments.proofs.attributes.read_attributes.Given as goal

abbrev pub invariant-reading : goal.invariant-reading
invariant-reading l =
    attributes_after l.heap l.parameters (Ok l.attributes.items) (drop l.argument-index l.named)
    ≡ attributes_in l.heap l.parameters l.named
