use Rattle.std.proofs.Common.{◌≡◌, ◌≤◌, Some, Result, drop}
use Rattle.bz_tree.specs.Places.{Files}
use Rattle.bz_tree.specs.declared.failures.Failure.{Failure}
use Rattle.registry_index.specs.AskedFiles.{Asked, Leaves}
use Rattle.registry_index.specs.Finding.{first_file}
use Rattle.registry_index.specs.declared.registries.RegistryFile.{RegistryFile}
use Rattle.registry_index.proofs.finding.first_file.Given as goal

-- from here on the walk answers and leaves what it does from the beginning
abbrev pub invariant-asking : goal.invariant-asking
invariant-asking g l =
    ((look : Files)
    → g.T.Tree.files l.initial.tree ≡ Some look
    → ((first_file look l.key (drop l.registry-index l.registries)).answer
    ≡ (first_file look l.key l.registries).answer)
    × ((end : Result RegistryFile Failure) (last : Asked)
    → Leaves look (first_file look l.key (drop l.registry-index l.registries)).steps l.asked last
    end
    → Leaves look (first_file look l.key l.registries).steps l.initial.asked last end))
    × (g.T.Tree.files l.tree ≡ g.T.Tree.files l.initial.tree)
    × (g.T.Tree.faults l.initial.tree ≤ g.T.Tree.faults l.tree)
