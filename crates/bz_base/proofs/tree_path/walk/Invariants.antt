use Rattle.std.proofs.Common.{◌≡◌, Ok, length}
use denote.Shadow.{shadow}
use denote.Text.{Utf8}
use Rattle.bz_base.specs.Paths.{segments_of, walked}
use Rattle.bz_base.proofs.tree_path.walk.Given as goal

-- the names so far and what is left lead where the first names and the whole text do
abbrev pub invariant-segments : goal.invariant-segments
invariant-segments l =
    shadow (Utf8 l.rest)
    × (walked l.rooted (Ok l.names) (segments_of l.rest)
    ≡ walked l.rooted (Ok l.initial.names) (segments_of l.text))

abbrev pub decreases-segments : goal.decreases-segments
decreases-segments l = length l.rest
