use Rattle.std.proofs.Common.{◌≡◌, ◌∙◌, length, ap, sym, subst, ◌<◌, rules}
use Rattle.board_jobs.specs.Indexes.{AllFit}
use Rattle.board_jobs.proofs.Fitting.{first_dropped, first_is, none_queued, rest-less}
use Rattle.board_jobs.proofs.searches.first_queued.Goals as goal

pub returns-then-is_queued_at-clause-first : goal.returns-then-is_queued_at-clause-first
returns-then-is_queued_at-clause-first g c =
    first_is c.places.index c.args.slots.now c.in-Some.place c.places.invariant
    c.in-Some.ensures.least (sym c.is_queued_at.ensures ∙ c.if-is_queued_at.true)

pub places-smaller : goal.places-smaller
places-smaller g c =
    subst (λ index. length index.queue < length c.places.index.queue) (sym c.drop_first.ensures)
    (rest-less c.places.index.queue c.in-Some.place (sym c.in-Some.ensures.first))

pub places-preserved : goal.places-preserved
places-preserved g c =
    subst (λ index. AllFit index c.args.slots.now) (sym c.drop_first.ensures)
    (first_dropped c.places.index c.args.slots.now c.in-Some.place (sym c.in-Some.ensures.first)
    (sym c.is_queued_at.ensures ∙ c.if-is_queued_at.false) c.places.invariant)

pub returns-clause-first : goal.returns-clause-first
returns-clause-first g c =
    none_queued c.places.index c.args.slots.now c.places.invariant
    (sym c.first.ensures.first ∙ c.in_default.is)
