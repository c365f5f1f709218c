use Rattle.std.proofs.Common.{◌≡◌, ◌+◌, ◌-◌, length, slice_get, Ok, Err, Some, None, refl, sym, ◌∙◌}
use Rattle.std.proofs.Common.{ap, subst, arith}
use Rattle.std.proofs.lemmas.List.{length_push}
use Rattle.discovery.proofs.Discoveries.{all_read, request_within, levels-nodes, turn_over_limit}
use Rattle.discovery.proofs.Discoveries.{turn_read}
use Rattle.discovery.proofs.Discoveries.{turn_unread, walked_as, with_requests-longer}
use Rattle.discovery.proofs.Discoveries.{with_requests-room}
use Rattle.bz_tree.proofs.Readings.{GivesOver-missed, ReadsOver-failed, IfSome-from_told}
use Rattle.bz_tree.proofs.Readings.{IfSome-told, run_of}
use Rattle.bz_walks.proofs.WalkSteps.{walk_on}
use Rattle.discovery.specs.Discovery.{requests_of, discovery, discovery_rules, found_for}
use Rattle.discovery.specs.Discovery.{graph_walked}
use Rattle.discovery.specs.Discovery.{most_keys, node_of}
use Rattle.bz_tree.specs.Failures.{GivesOver}
use Rattle.bz_tree.specs.Places.{Files}
use Rattle.bz_walks.specs.Walks.{levels, with_requests}
use Rattle.discovery.proofs.discovery.walk.Goals as goal

pub requests-init : goal.requests-init
requests-init g c = (
  (λ look e. levels-nodes look c.args.root.now c.args.known c.args.nodes c.requires.room
      c.requires.read),
  refl,
  omega arith,
  c.requires.room,
  c.requires.read,
)

pub returns-in-Err : goal.returns-in-Err
returns-in-Err g c =
    let first : slice_get c.requests.known (length c.requests.nodes)
    ≡ Some c.in-Some.request.now = sym
    (c.in-Some.ensures ∙ ap (λ nodes. slice_get c.requests.known (length nodes)) c.items.ensures) in
    ReadsOver-failed (λ look. node_of c.args.root.now c.in-Some.request.now (found_for look
    c.in-Some.request.now.key))
    (λ look. graph_walked
    (levels (discovery look c.args.root.now) most_keys
    (Ok (walked_as c.args.known c.args.nodes)))) _ _ _ _ _ _ _ c.in-Err.failure
    c.requests.invariant.1 c.requests.invariant.2
    (λ look refusal e read. ap graph_walked
    (sym (c.requests.invariant.0 look e)
    ∙ turn_unread look c.args.root.now c.requests.known c.requests.nodes c.in-Some.request.now
    refusal c.requests.invariant.3 first read))
    c.in-Err.ensures

pub returns-in-Err-with_each : goal.returns-in-Err-with_each
returns-in-Err-with_each g c =
    let first : slice_get c.requests.known (length c.requests.nodes)
    ≡ Some c.in-Some.request.now = sym
    (c.in-Some.ensures ∙ ap (λ nodes. slice_get c.requests.known (length nodes)) c.items.ensures) in
    let run = run_of (g.T.Tree.files c.args.tree.now) (g.T.Tree.files c.visit.new.tree)
    (g.T.Tree.faults c.args.tree.now) (g.T.Tree.faults c.visit.new.tree)
    (g.T.Tree.failed c.visit.new.tree) in
    let whole = λ (look : Files). graph_walked (levels (discovery look c.args.root.now)
    most_keys (Ok (walked_as c.args.known c.args.nodes))) in (
      subst (λ failure. GivesOver whole run (Err failure)) (sym c.failure_of.ensures)
          (GivesOver-missed (with_requests discovery_rules (Ok c.requests.known)
          (requests_of c.args.root.now c.in-Ok.node)) whole run c.in-Err-with_each.miss
          (λ look refusal e over_limit.
          let read = IfSome-told (g.T.Tree.files c.requests.tree) _ c.in-Ok.ensures.0 look
          (c.requests.invariant.1 ∙ e) in
          ap graph_walked (sym (c.requests.invariant.0 look e) ∙ turn_over_limit look c.args.root.now
          c.requests.known c.requests.nodes c.in-Some.request.now c.in-Ok.node refusal
          c.requests.invariant.3 first read over_limit))
          c.in-Err-with_each.ensures),
      c.in-Ok.ensures.1 ∙ c.requests.invariant.1,
      omega (arith, c.in-Ok.ensures.2, c.requests.invariant.2),
    )

pub requests-smaller : goal.requests-smaller
requests-smaller g c =
    let first : slice_get c.requests.known (length c.requests.nodes)
    ≡ Some c.in-Some.request.now = sym
    (c.in-Some.ensures ∙ ap (λ nodes. slice_get c.requests.known (length nodes)) c.items.ensures) in
    omega (
      arith,
      request_within c.requests.known (length c.requests.nodes) c.in-Some.request.now first,
      ap length
          c.in-Ok-push.ensures.ok ∙ length_push c.requests.nodes c.in-Ok.node,
      c.requests.invariant.3,
    )

pub requests-preserved : goal.requests-preserved
requests-preserved g c =
    let first : slice_get c.requests.known (length c.requests.nodes)
    ≡ Some c.in-Some.request.now = sym
    (c.in-Some.ensures ∙ ap (λ nodes. slice_get c.requests.known (length nodes)) c.items.ensures) in
    let pushed = c.in-Ok-push.ensures.ok in
    let count : length c.push.new.self ≡ length c.requests.nodes + 1 = ap length pushed
    ∙ length_push c.requests.nodes c.in-Ok.node in
    let added = c.in-Ok-with_each.ensures in (
      (λ look e.
          let read = IfSome-told (g.T.Tree.files c.requests.tree) _ c.in-Ok.ensures.0 look
          (c.requests.invariant.1 ∙ e) in
          ap (λ nodes. walk_on (discovery look c.args.root.now) (most_keys - length nodes)
          (Ok (walked_as c.in-Ok-with_each.known nodes))) pushed
          ∙ sym (turn_read look c.args.root.now c.requests.known c.in-Ok-with_each.known
          c.requests.nodes
          c.in-Some.request.now c.in-Ok.node c.requests.invariant.3 first read added)
          ∙ c.requests.invariant.0 look e),
      c.in-Ok.ensures.1 ∙ c.requests.invariant.1,
      omega (arith, c.in-Ok.ensures.2, c.requests.invariant.2),
      with_requests-room (requests_of c.args.root.now c.in-Ok.node) c.requests.known
          c.in-Ok-with_each.known
          c.requests.invariant.3 added,
      omega (
        arith,
        count,
        with_requests-longer (requests_of c.args.root.now c.in-Ok.node) c.requests.known
            c.in-Ok-with_each.known added,
        request_within c.requests.known
            (length c.requests.nodes) c.in-Some.request.now first,
      ),
    )

pub returns : goal.returns
returns g c =
    let last : slice_get c.requests.known (length c.requests.nodes)
    ≡ None = sym (c.in_default.ensures ∙ ap (λ nodes. slice_get c.requests.known (length nodes))
    c.items.ensures) in (
      IfSome-from_told (g.T.Tree.files c.args.tree.now) _ (λ look e.
          ap graph_walked (sym (c.requests.invariant.0 look e) ∙ all_read look c.args.root.now
          c.requests.known c.requests.nodes (most_keys - length c.requests.nodes) last)),
      c.requests.invariant.1,
      c.requests.invariant.2,
    )
