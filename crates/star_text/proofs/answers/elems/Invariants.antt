use Rattle.std.proofs.Common.{◌≡◌, map, take}
use Rattle.std.specs.Char.{encode_utf8}
use Rattle.star_text.proofs.answers.elems.Given as goal

abbrev pub invariant-taking : goal.invariant-taking
invariant-taking l = l.texts.items ≡ map encode_utf8 (take l.c-index l.text)
