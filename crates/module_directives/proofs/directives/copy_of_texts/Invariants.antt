use Rattle.std.proofs.Common.{◌≡◌, ◌++◌, drop}
use Rattle.module_directives.proofs.directives.copy_of_texts.Given as goal

abbrev pub invariant-loop-text : goal.invariant-loop-text
invariant-loop-text l = l.copies.items ++ drop l.text-index l.texts ≡ l.texts
