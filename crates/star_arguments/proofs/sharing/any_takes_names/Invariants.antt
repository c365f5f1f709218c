use Rattle.std.proofs.Common.{◌≡◌, drop}
use Rattle.std.specs.List.{list_any}
use Rattle.star_meaning.specs.Parameters.{takes_names}
use Rattle.star_arguments.proofs.sharing.any_takes_names.Given as goal

abbrev pub invariant-loop-formal : goal.invariant-loop-formal
invariant-loop-formal l =
    list_any takes_names (drop l.formal-index l.formals) ≡ list_any takes_names l.formals
