use Rattle.std.proofs.Common.{◌≡◌, ◌≤◌, ◌++◌, drop, length}
use Rattle.star_machine.proofs.statements.push_values.Given as goal

abbrev pub invariant-values : goal.invariant-values
invariant-values l = (l.left ≤ length l.values) × (l.stack ≡ drop l.left l.values ++ l.fn.stack)

abbrev pub decreases-values : goal.decreases-values
decreases-values l = l.left
