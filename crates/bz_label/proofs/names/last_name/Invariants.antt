use Rattle.std.proofs.Common.{◌≡◌, length}
use denote.Text.{Utf8}
use denote.Shadow.{shadow}
use Rattle.bz_label.specs.Parts.{last_segment}
use Rattle.bz_label.proofs.names.last_name.Given as goal

abbrev pub invariant-segments : goal.invariant-segments
invariant-segments l = shadow (Utf8 l.rest) × (last_segment l.rest ≡ last_segment l.text)

abbrev pub decreases-segments : goal.decreases-segments
decreases-segments l = length l.rest
