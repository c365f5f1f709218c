use Rattle.std.proofs.Common.{◌≡◌, drop}
use Rattle.module_arguments.specs.Directives.{directive_among}
use Rattle.module_arguments.proofs.directives.directive_among.Given as goal

abbrev pub invariant-looking : goal.invariant-looking
invariant-looking l =
    directive_among (drop l.directive-index l.directives) l.name
    ≡ directive_among l.directives l.name
