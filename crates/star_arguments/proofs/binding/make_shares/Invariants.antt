use Rattle.std.proofs.Common.{◌≡◌, [], drop}
use Rattle.star_meaning.specs.Parameters.{shares_made}
use Rattle.star_arguments.proofs.binding.make_shares.Given as goal

abbrev pub invariant-making : goal.invariant-making
invariant-making g l =
    shares_made g.L.Library.rows l.values.items (drop l.share-index l.fn.shares) l.heap
    ≡ shares_made g.L.Library.rows [] l.fn.shares l.initial.heap
