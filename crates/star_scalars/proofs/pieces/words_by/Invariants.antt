use Rattle.std.proofs.Common.{◌≡◌, ◌++◌, ◌-◌, map}
use Rattle.star_scalars.specs.Pieces.{word_text, words, words_from}
use Rattle.star_scalars.proofs.pieces.words_by.Given as goal

abbrev pub invariant-cutting : goal.invariant-cutting
invariant-cutting l =
    l.made.items ++ map (word_text l.by) (words_from (l.cuts - l._cut) l.rest)
    ≡ map (word_text l.by) (words l.cuts l.text)
