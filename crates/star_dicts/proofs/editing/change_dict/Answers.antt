use Rattle.std.proofs.Common.{subst}
use Rattle.star_calls.specs.Edits.{edit_done}
use Rattle.star_calls.proofs.Steps.{go_on_done, go_on_refused}
use Rattle.star_core.specs.Heaps.{taken}
use Rattle.star_library.specs.Calls.{Builds}
use Rattle.star_dicts.specs.Edits.{dict_edited}
use Rattle.star_dicts.proofs.editing.change_dict.Goals as goal

pub returns-in-Ok : goal.returns-in-Ok
returns-in-Ok c =
    subst (λ one. Builds one c.put_dict.result c.put_dict.new.heap)
    (go_on_done (taken c.args.dict.now c.args.heap.now) (λ content. edit_done c.args.dict.now
    (dict_edited c.args.edit content)) c.in-Ok.content c.args.heap.now c.take.new.self
    c.in-Ok.ensures)
    c.put_dict.ensures

pub returns-in-Err : goal.returns-in-Err
returns-in-Err c =
    go_on_refused (taken c.args.dict.now c.args.heap.now) (λ content. edit_done c.args.dict.now
    (dict_edited c.args.edit content)) c.in-Err.reason c.args.heap.now c.take.new.self
    c.in-Err.ensures
