use Rattle.std.proofs.Common.{◌≡◌, ◌++◌, drop}
use Rattle.std.specs.List.{list_all}
use Rattle.registry_index.specs.Registries.{is_registry}
use Rattle.registry_index.proofs.registries.copied.Given as goal

abbrev pub invariant-loop-text : goal.invariant-loop-text
invariant-loop-text l =
    (l.copies.items ++ drop l.text-index l.texts ≡ l.texts)
    × (list_all is_registry (drop l.text-index l.texts) ≡ list_all is_registry l.texts)
