use Rattle.std.proofs.Common.{◌∙◌, ap, length}
use Rattle.star_library.specs.Ranges.{range_items}
use Rattle.star_containers.specs.Slicing.{items_numbered, slice_first, slice_stop}
use Rattle.star_containers.proofs.Numbered.{numbered_at}
use Rattle.star_containers.proofs.slicing.sliced_vec.Goals as goal

pub returns : goal.returns
returns g c =
    let count = length c.args.items.now in
    c.in_ok-slice.ensures
    ∙ ap (items_numbered c.args.items.now) (c.items.ensures ∙ c.in_ok-indexes.ensures)
    ∙ numbered_at c.args.items.now (range_items (slice_first c.args.bounds.now count)
    (slice_stop c.args.bounds.now count) c.args.bounds.now.step)
