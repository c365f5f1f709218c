use Rattle.std.proofs.Common.{◌≡◌, length}
use denote.Text.{Utf8}
use denote.Shadow.{shadow}
use Rattle.std.specs.List.{list_all}
use Rattle.bz_base.specs.Names.{is_segment}
use Rattle.bz_base.specs.Paths.{segments_of}
use Rattle.bz_base.proofs.label_names.has_segments.Given as goal

abbrev pub invariant-segments : goal.invariant-segments
invariant-segments l =
    shadow (Utf8 l.rest)
    × (list_all is_segment (segments_of l.rest) ≡ list_all is_segment (segments_of l.text))

abbrev pub decreases-segments : goal.decreases-segments
decreases-segments l = length l.rest
