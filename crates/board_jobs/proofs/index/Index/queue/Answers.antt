use Rattle.std.proofs.Common.{sym, subst}
use Rattle.board_jobs.specs.Indexes.{Has, IsWider}
use Rattle.board_jobs.proofs.IndexLists.{has-inserted, has-kept, wider_queue}
use Rattle.board_jobs.proofs.index.Index.queue.Goals as goal

pub returns-clause-wider : goal.returns-clause-wider
returns-clause-wider c =
    let inside = c.self.inside in
    subst (λ old. IsWider old (record { queue = c.insert.new.self.keys; waiting = inside.waiting.items; reading = inside.reading.items; valued = inside.valued }))
    c.self.view_is
    (wider_queue inside.queue.keys c.insert.new.self.keys inside.waiting.items inside.reading.items
    inside.valued (λ at has. subst (λ keys. Has at keys) (sym c.in_ok-insert.ensures.keys)
    (has-kept c.args.place at inside.queue.keys has)))

pub returns-clause-there : goal.returns-clause-there
returns-clause-there c =
    subst (λ keys. Has c.args.place keys) (sym c.in_ok-insert.ensures.keys)
    (has-inserted c.args.place c.self.inside.queue.keys)
