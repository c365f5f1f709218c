use Rattle.std.proofs.Common.{◌≡◌, ◌++◌, codes, string_bytes, take}
use Rattle.std.specs.List.{flat_map}
use Rattle.star_print.proofs.forms.push_further.Given as goal

abbrev pub invariant-loop-segment : goal.invariant-loop-segment
invariant-loop-segment l =
    string_bytes l.text ≡ string_bytes l.initial.text
    ++ flat_map (λ segment. codes "/" ++ segment) (take l.segment-index l.segments)
