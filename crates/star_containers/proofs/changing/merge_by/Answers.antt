use Rattle.std.proofs.Common.{subst}
use Rattle.star_core.specs.Heaps.{taken}
use Rattle.star_library.specs.Calls.{Builds}
use Rattle.star_containers.specs.Changing.{content_merged, put_changed}
use Rattle.star_containers.proofs.Steps.{go_on_done, go_on_refused}
use Rattle.star_containers.proofs.changing.merge_by.Goals as goal

pub returns-in-Ok : goal.returns-in-Ok
returns-in-Ok c =
    subst (λ one. Builds one c.put_merged.result c.put_merged.new.heap)
    (go_on_done (taken c.args.dict.now c.args.heap.now) (λ content heap. put_changed
    c.args.dict.now (content_merged c.args.others content) heap) c.in-Ok.content c.args.heap.now
    c.take.new.self c.in-Ok.ensures)
    c.put_merged.ensures

pub returns-in-Err : goal.returns-in-Err
returns-in-Err c =
    go_on_refused (taken c.args.dict.now c.args.heap.now) (λ content heap. put_changed
    c.args.dict.now (content_merged c.args.others content) heap) c.in-Err.reason c.args.heap.now
    c.take.new.self c.in-Err.ensures
