use Rattle.std.proofs.Common.{◌≡◌}
use Rattle.module_directives.specs.Readers.{named_first}
use Rattle.module_directives.proofs.readers.named_first.Given as goal

abbrev pub invariant-following : goal.invariant-following
invariant-following l = l.all.items ≡ named_first l.name l.yielded
