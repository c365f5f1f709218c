use Rattle.std.proofs.Common.{◌≡◌}
use Rattle.module_directives.specs.Parts.{names_added}
use Rattle.module_directives.proofs.parts.Parts.add_names.Given as goal

abbrev pub invariant-adding : goal.invariant-adding
invariant-adding l =
    l.self ≡ names_added l.index l.purpose l.line l.yielded l.initial.self
