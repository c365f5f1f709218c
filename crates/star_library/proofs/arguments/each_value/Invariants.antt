use Rattle.std.proofs.Common.{◌≡◌, drop, length}
use Rattle.star_library.specs.Arguments.{each_value}
use Rattle.star_library.proofs.Binding.{in_front}
use Rattle.star_library.proofs.arguments.each_value.Given as goal

-- the values so far, in front of those that are left, are all values
abbrev pub invariant-binding : goal.invariant-binding
invariant-binding l =
    in_front l.values.items
    (each_value (length l.values.items) (drop l.parameter-index l.parameters) l.args)
    ≡ each_value 0 l.parameters l.args
