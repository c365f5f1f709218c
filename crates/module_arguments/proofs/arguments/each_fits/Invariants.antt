use Rattle.std.proofs.Common.{◌≡◌, drop}
use Rattle.module_arguments.specs.Arguments.{each_fits}
use Rattle.module_arguments.proofs.arguments.each_fits.Given as goal

abbrev pub invariant-fitting : goal.invariant-fitting
invariant-fitting l =
    (each_fits l.index (drop l.parameter-index l.parameters) l.args
    ≡ each_fits 0 l.parameters l.args)
    × (l.index ≡ l.parameter-index)
