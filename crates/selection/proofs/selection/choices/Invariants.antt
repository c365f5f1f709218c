use Rattle.std.proofs.Common.{take}
use Rattle.selection.specs.ChoiceTables.{HasChoices}
use Rattle.selection.proofs.selection.choices.Given as goal

-- the choices among the nodes so far
abbrev pub invariant-loop-index : goal.invariant-loop-index
invariant-loop-index l = HasChoices (take l.index l.nodes) l.table.entries
