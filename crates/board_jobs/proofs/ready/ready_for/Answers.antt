use Rattle.std.proofs.Common.{◌+◌, ◌≤◌, drop, subst}
use Rattle.board_jobs.specs.Indexes.{Has}
use Rattle.board_jobs.proofs.Handing.{drop-past}
use Rattle.board_jobs.proofs.Indexed.{drops_one, ready_all, ready_more}
use Rattle.board_jobs.proofs.ready.ready_for.Goals as goal

pub loop-at-preserved : goal.loop-at-preserved
loop-at-preserved g c =
    let gifts = c.args.gifts.now in
    let at = c.loop-at.at in
    let gift = c.index-gifts-at.result in
    ready_more c.args.index.now c.loop-at.index c.ready_at.new.index gifts (drop at gifts)
    (drop (at + 1) gifts) gift
    (drops_one gifts at gift c.loop-at-test.true c.index-gifts-at.is)
    c.ready_at.ensures.wider
    (subst (λ place. Has place c.ready_at.new.index.queue) c.place_of.ensures c.in_ok-ready_at.ensures.there)
    (subst (λ place. c.ready_at.new.index.valued ≤ place) c.place_of.ensures c.in_ok-ready_at.ensures.low)
    c.loop-at.invariant

pub returns-clause-ready : goal.returns-clause-ready
returns-clause-ready g c =
    let gifts = c.args.gifts.now in
    let at = c.loop-at.at in
    ready_all c.args.index.now c.loop-at.index gifts (drop at gifts)
    (drop-past at gifts c.loop-at-test.false) c.loop-at.invariant
