use Rattle.std.proofs.Common.{◌≡◌, drop}
use Rattle.std.specs.List.{list_any}
use Rattle.star_standard.proofs.calls.any_named_key.Given as goal
use Rattle.star_standard.specs.LibraryCalls.{is_named_key}

abbrev pub invariant-loop-argument : goal.invariant-loop-argument
invariant-loop-argument l =
    list_any is_named_key (drop l.argument-index l.named) ≡ list_any is_named_key l.named
