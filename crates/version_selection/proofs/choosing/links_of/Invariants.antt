use Rattle.std.proofs.Common.{◌≡◌, ◌++◌, drop}
use Rattle.std.specs.Prelude.{filter_map}
use Rattle.version_selection.specs.Choices.{chosen}
use Rattle.version_selection.proofs.choosing.links_of.Given as goal

-- the choices so far with those of the needs that are left
abbrev pub invariant-loop-need : goal.invariant-loop-need
invariant-loop-need l =
    l.links.items ++ filter_map (chosen l.overrides l.nodes) (drop l.need-index l.node.needs)
    ≡ filter_map (chosen l.overrides l.nodes) l.node.needs
