use Rattle.std.proofs.Common.{◌≡◌, Some, drop}
use Rattle.module_values.specs.TextLists.{each_text, texts_after}
use Rattle.module_values.proofs.text_lists.each_text.Given as goal

abbrev pub invariant-reading : goal.invariant-reading
invariant-reading l =
    texts_after l.heap (Some l.texts.items) (drop l.value-index l.values)
    ≡ each_text l.heap l.values
