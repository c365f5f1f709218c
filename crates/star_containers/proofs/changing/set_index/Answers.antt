use Rattle.std.proofs.Common.{subst}
use Rattle.star_core.specs.Heaps.{taken}
use Rattle.star_library.specs.Calls.{Builds}
use Rattle.star_containers.specs.Changing.{content_set, put_changed}
use Rattle.star_containers.proofs.Steps.{go_on_done, go_on_refused}
use Rattle.star_containers.proofs.changing.set_index.Goals as goal

pub returns-in-Ok : goal.returns-in-Ok
returns-in-Ok c =
    subst (λ one. Builds one c.put_set.result c.put_set.new.heap)
    (go_on_done (taken c.args.container.now c.args.heap.now) (λ content heap. put_changed
    c.args.container.now (content_set c.args.at.now c.args.value.now heap content) heap)
    c.in-Ok.content c.args.heap.now
    c.take.new.self c.in-Ok.ensures)
    c.put_set.ensures

pub returns-in-Err : goal.returns-in-Err
returns-in-Err c =
    go_on_refused (taken c.args.container.now c.args.heap.now) (λ content heap. put_changed
    c.args.container.now (content_set c.args.at.now c.args.value.now heap content) heap)
    c.in-Err.reason c.args.heap.now
    c.take.new.self c.in-Err.ensures
