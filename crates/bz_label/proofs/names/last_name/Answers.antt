use Rattle.std.proofs.Common.{rules, sym, ◌∙◌}
use Rattle.bz_label.proofs.SegmentLists.{last_segment-parts, last_segment-whole}
use Rattle.bz_label.proofs.names.last_name.Goals as goal

pub segments-preserved : goal.segments-preserved
segments-preserved c = (
  search rules,
  sym (last_segment-parts c.segments.rest.now _ _ c.in-Some.ensures.parts)
      ∙ c.segments.invariant.1,
)

pub returns : goal.returns
returns c = sym (last_segment-whole c.segments.rest.now c.in_default.ensures.whole)
    ∙ c.segments.invariant.1
