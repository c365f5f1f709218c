use Rattle.std.proofs.Common.{◌≡◌, ◌-◌, ◌≤◌, length}
use Rattle.std.specs.Prelude.{reverse}
use Rattle.star_trees.specs.Variables.{scope_and_slot, further}
use Rattle.star_names.proofs.scopes.Scopes.find.Given as goal

-- what is left decides, so many scopes further out
abbrev pub invariant-turns : goal.invariant-turns
invariant-turns l =
    (length l.rest ≤ length l.self-inside.stack.items)
    × (scope_and_slot (reverse l.self-inside.stack.items) l.name
    ≡ further (length l.self-inside.stack.items - length l.rest)
    (scope_and_slot (reverse l.rest) l.name))

abbrev pub decreases-turns : goal.decreases-turns
decreases-turns l = length l.rest
