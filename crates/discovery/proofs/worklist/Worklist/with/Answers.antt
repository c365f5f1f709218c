use Rattle.std.proofs.Common.{sym, ◌∙◌, subst, ap}
use Rattle.bz_text.specs.Answers.{Gives}
use Rattle.discovery.specs.Discovery.{discovery_rules}
use Rattle.bz_walks.specs.Walks.{with_request}
use Rattle.discovery.proofs.KeySets.{set_finds, with_request_known, with_request_new}
use Rattle.discovery.proofs.KeySets.{absent_if_added}
use Rattle.discovery.proofs.KeySets.{present_unless_added}
use Rattle.discovery.proofs.worklist.Worklist.with.Goals as goal

pub returns-then-is_new : goal.returns-then-is_new
returns-then-is_new c =
    let finds = set_finds c.in_ok-pair.field-0.0 c.in_ok-pair.field-0.1 c.args.request
    c.self.inside.keys.keys c.self.inside.requests.items c.in_ok-pair.ensures.name
    c.in_ok-pair.ensures.version c.self.invariant in
    let absent = absent_if_added _ _ c.in_ok-is_new.ensures.added c.if-is_new.true in
    let new = with_request_new c.args.request c.self.inside.requests.items (sym finds ∙ absent) in
    subst (λ wanted. Gives wanted c.behind.result)
    (sym new ∙ ap (λ known. with_request discovery_rules known c.args.request) c.self.view_is)
    c.behind.ensures

pub returns-else-is_new : goal.returns-else-is_new
returns-else-is_new c =
    let finds = set_finds c.in_ok-pair.field-0.0 c.in_ok-pair.field-0.1 c.args.request
    c.self.inside.keys.keys c.self.inside.requests.items c.in_ok-pair.ensures.name
    c.in_ok-pair.ensures.version c.self.invariant in
    let present = present_unless_added _ _ c.in_ok-is_new.ensures.added c.if-is_new.false in
    sym (ap (λ known. with_request discovery_rules known c.args.request) c.self.view_is)
    ∙ with_request_known c.args.request c.self.inside.requests.items (sym finds ∙ present)
