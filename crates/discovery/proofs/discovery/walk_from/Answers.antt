use Rattle.std.proofs.Common.{◌∷◌, [], Ok, Err, refl, sym, subst, arith}
use Rattle.discovery.proofs.Discoveries.{walked_with-limited}
use Rattle.bz_tree.proofs.Readings.{GivesOver-missed, run_of}
use Rattle.discovery.specs.Discovery.{requests_of, discovery, discovery_rules, graph_walked}
use Rattle.discovery.specs.Discovery.{most_keys}
use Rattle.discovery.specs.Discovery.{root_alone, root_request}
use Rattle.bz_tree.specs.Failures.{GivesOver}
use Rattle.bz_tree.specs.Places.{Files}
use Rattle.bz_walks.specs.Walks.{levels, with_requests, with_node}
use Rattle.discovery.proofs.discovery.walk_from.Goals as goal

pub returns-in-Err : goal.returns-in-Err
returns-in-Err g c =
    let run = run_of (g.T.Tree.files c.args.tree.now) (g.T.Tree.files c.args.tree.now)
    (g.T.Tree.faults c.args.tree.now) (g.T.Tree.faults c.args.tree.now)
    (g.T.Tree.failed c.args.tree.now) in
    let whole = λ (look : Files). graph_walked (levels (discovery look c.args.root.now)
    most_keys (with_node (discovery look c.args.root.now) (root_alone c.args.root.now) (Ok
    c.args.node))) in (
      subst (λ failure. GivesOver whole run (Err failure)) (sym c.failure_of.ensures)
          (GivesOver-missed (with_requests discovery_rules
          (Ok (root_request c.args.root.now ∷ [])) (requests_of c.args.root.now c.args.node)) whole run
          c.in-Err.miss
          (λ look refusal e over_limit. walked_with-limited look c.args.root.now c.args.node
          (with_requests discovery_rules (Ok (root_request c.args.root.now ∷ []))
          (requests_of c.args.root.now c.args.node)) refusal over_limit)
          c.in-Err.ensures.requests),
      refl,
      omega arith,
    )
