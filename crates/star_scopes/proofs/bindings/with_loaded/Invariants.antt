use Rattle.std.proofs.Common.{◌≡◌, drop, map}
use Rattle.star_trees.specs.Variables.{each_binds}
use Rattle.star_scopes.specs.Bindings.{loaded_binds}
use Rattle.star_scopes.proofs.bindings.with_loaded.Given as goal

abbrev pub invariant-names : goal.invariant-names
invariant-names l = each_binds (map loaded_binds l.loaded) l.fn.names
    ≡ each_binds (map loaded_binds (drop l.one-index l.loaded)) l.names
