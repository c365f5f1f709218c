use Rattle.std.proofs.Common.{◌≡◌, ◌∙◌, FitsSigned, ap, w64}
use Rattle.std.proofs.lemmas.Int.{to_z-of_z}
use Rattle.star_library.specs.Ranges.{range_length}
use Rattle.star_order.specs.Ranges.{same_counted, same_range}
use Rattle.star_order.proofs.ranges.same_range.Goals as goal

pub returns : goal.returns
unfolding same_range
returns c =
    let first : FitsSigned w64 c.args.first = c.ranges.first in
    let stop : FitsSigned w64 c.args.stop = c.ranges.stop in
    let step : FitsSigned w64 c.args.step = c.ranges.step in
    let other_first : FitsSigned w64 c.args.other_first = c.ranges.other_first in
    let other_stop : FitsSigned w64 c.args.other_stop = c.ranges.other_stop in
    let other_step : FitsSigned w64 c.args.other_step = c.ranges.other_step in
    let count : c.range_length-count.result
    ≡ range_length c.args.first c.args.stop c.args.step =
    simp to_z-of_z at c.range_length-count.ensures in
    let other_count : c.range_length-other_count.result
    ≡ range_length c.args.other_first c.args.other_stop c.args.other_step =
    simp to_z-of_z at c.range_length-other_count.ensures in
    let is : c.same_counted.result
    ≡ same_counted c.range_length-count.result c.range_length-other_count.result
    c.args.first c.args.step c.args.other_first c.args.other_step =
    simp to_z-of_z at c.same_counted.ensures in
    is
    ∙ ap (λ one. same_counted one c.range_length-other_count.result c.args.first c.args.step
    c.args.other_first c.args.other_step) count
    ∙ ap (λ one. same_counted (range_length c.args.first c.args.stop c.args.step) one c.args.first
    c.args.step c.args.other_first c.args.other_step) other_count
