use Rattle.std.proofs.Common.{◌≡◌, drop}
use Rattle.star_meaning.specs.Parameters.{others_behind, others_named}
use Rattle.star_arguments.proofs.sharing.others_named.Given as goal

abbrev pub invariant-sorting : goal.invariant-sorting
invariant-sorting l =
    others_behind l.formals l.others.items (drop l.argument-index l.named)
    ≡ others_named l.formals l.named
