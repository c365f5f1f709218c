use Rattle.std.proofs.Common.{◌≡◌, [], true, drop}
use Rattle.star_meaning.specs.Parameters.{shares_behind}
use Rattle.star_arguments.proofs.sharing.shares.Given as goal

abbrev pub invariant-sharing : goal.invariant-sharing
invariant-sharing l =
    shares_behind l.formals l.named l.all l.placing (drop l.formal-index l.formals) l.placed l.left
    ≡ shares_behind l.formals l.named [] true l.formals l.positional l.defaults
