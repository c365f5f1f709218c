use Rattle.star_core.specs.Heaps.{given, given_answer, sum_for}
use Rattle.star_calls.proofs.Steps.{put_done, put_refused}
use Rattle.star_calls.proofs.edits.put_edited.Goals as goal

pub returns-in-Ok : goal.returns-in-Ok
returns-in-Ok c =
    let edited = c.args.edited in
    put_done edited.answer (given_answer (sum_for edited.content edited.added c.args.heap.now))
    (given c.args.of.now edited.content edited.added c.args.heap.now) c.give.new.self
    c.in-Ok.ensures.answer c.in-Ok.ensures.after

pub returns-in-Err : goal.returns-in-Err
returns-in-Err c =
    let edited = c.args.edited in
    put_refused edited.answer (given_answer (sum_for edited.content edited.added c.args.heap.now))
    (given c.args.of.now edited.content edited.added c.args.heap.now) c.in-Err.reason
    c.in-Err.ensures.answer
