use Rattle.std.proofs.Common.{take}
use Rattle.version_selection.specs.Tables.{HasKeys}
use Rattle.version_selection.proofs.tables.keys.Given as goal

-- the keys of the nodes so far
abbrev pub invariant-loop-index : goal.invariant-loop-index
invariant-loop-index l = HasKeys (take l.index l.nodes) l.table.entries
