use Rattle.star_core.specs.Heaps.{given, given_answer, sum_for}
use Rattle.star_containers.proofs.Steps.{put_done, put_refused}
use Rattle.star_containers.proofs.changing.put.Goals as goal

pub returns-in-Ok : goal.returns-in-Ok
returns-in-Ok c =
    let changed = c.args.changed in
    put_done (given_answer (sum_for changed.content changed.added c.args.heap.now))
    (given c.args.container.now changed.content changed.added c.args.heap.now) c.give.new.self
    c.in-Ok.ensures.answer c.in-Ok.ensures.after

pub returns-in-Err : goal.returns-in-Err
returns-in-Err c =
    let changed = c.args.changed in
    put_refused (given_answer (sum_for changed.content changed.added c.args.heap.now))
    (given c.args.container.now changed.content changed.added c.args.heap.now) c.in-Err.reason
    c.in-Err.ensures.answer
