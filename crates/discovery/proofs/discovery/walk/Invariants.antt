use Rattle.std.proofs.Common.{◌≡◌, ◌≤◌, ◌-◌, Ok, Some, length}
use Rattle.discovery.specs.Discovery.{discovery, most_keys}
use Rattle.bz_tree.specs.Places.{Files}
use Rattle.bz_walks.specs.Walks.{levels}
use Rattle.bz_walks.proofs.WalkSteps.{walk_on}
use Rattle.discovery.proofs.discovery.walk.Given as goal

-- from here on the walk gives what it gives from the beginning
abbrev pub invariant-requests : goal.invariant-requests
invariant-requests g l =
    ((look : Files)
    → g.T.Tree.files l.initial.tree ≡ Some look
    → walk_on (discovery look l.root) (most_keys - length l.nodes)
    (Ok (record { known = l.known; nodes = l.nodes }))
    ≡ levels (discovery look l.root) most_keys
    (Ok (record { known = l.initial.known; nodes = l.initial.nodes })))
    × (g.T.Tree.files l.tree ≡ g.T.Tree.files l.initial.tree)
    × (g.T.Tree.faults l.initial.tree ≤ g.T.Tree.faults l.tree)
    × (length l.known ≤ most_keys)
    × (length l.nodes ≤ length l.known)

abbrev pub decreases-requests : goal.decreases-requests
decreases-requests g l = most_keys - length l.nodes
