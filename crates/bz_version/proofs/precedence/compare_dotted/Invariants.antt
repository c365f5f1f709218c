use Rattle.std.proofs.Common.{◌≡◌, length}
use denote.Shadow.{shadow}
use denote.Text.{Utf8}
use Rattle.std.specs.Cmp.Lexicographic.{slice_cmp}
use Rattle.bz_version.specs.Precedence.{identifier_order}
use Rattle.bz_version.specs.Texts.{between_dots}
use Rattle.bz_version.proofs.precedence.compare_dotted.Given as goal

-- the order of what is left is that of the whole texts
abbrev pub invariant-identifiers : goal.invariant-identifiers
invariant-identifiers l =
    shadow (Utf8 l.rest) × shadow (Utf8 l.other_rest)
    × (slice_cmp identifier_order (between_dots l.rest) (between_dots l.other_rest)
    ≡ slice_cmp identifier_order (between_dots l.first) (between_dots l.second))

abbrev pub decreases-identifiers : goal.decreases-identifiers
decreases-identifiers l = length l.rest
