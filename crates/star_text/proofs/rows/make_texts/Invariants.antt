use Rattle.std.proofs.Common.{◌≡◌, [], drop}
use Rattle.star_text.specs.Rows.{texts_made}
use Rattle.star_text.proofs.rows.make_texts.Given as goal

abbrev pub invariant-making : goal.invariant-making
invariant-making l =
    texts_made l.made.items (drop l.text-index l.texts) l.heap
    ≡ texts_made [] l.texts l.initial.heap
