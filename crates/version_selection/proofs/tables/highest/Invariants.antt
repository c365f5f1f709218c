use Rattle.std.proofs.Common.{take}
use Rattle.version_selection.specs.Tables.{HasHighest}
use Rattle.version_selection.proofs.tables.highest.Given as goal

-- the highest versions among the nodes so far
abbrev pub invariant-loop-index : goal.invariant-loop-index
invariant-loop-index l = HasHighest (take l.index l.nodes) l.table.entries
