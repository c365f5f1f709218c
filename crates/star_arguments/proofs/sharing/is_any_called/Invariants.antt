use Rattle.std.proofs.Common.{◌≡◌, drop}
use Rattle.std.specs.List.{list_any}
use Rattle.star_meaning.specs.Parameters.{is_called}
use Rattle.star_arguments.proofs.sharing.is_any_called.Given as goal

abbrev pub invariant-loop-formal : goal.invariant-loop-formal
invariant-loop-formal l =
    list_any (is_called l.name) (drop l.formal-index l.formals)
    ≡ list_any (is_called l.name) l.formals
