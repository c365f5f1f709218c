use Rattle.std.proofs.Common.{◌≡◌, [], Ok, length}
use denote.Shadow.{shadow}
use denote.Text.{Utf8}
use Rattle.module_file.specs.LiteralForms.{lines_from, texts_of}
use Rattle.module_file.proofs.literal_form.read_each.Given as goal

-- the lines so far and what is left are the lines of the whole text
abbrev pub invariant-lines : goal.invariant-lines
invariant-lines l =
    shadow (Utf8 l.rest)
    × (lines_from (Ok l.lines) (texts_of l.rest) ≡ lines_from (Ok []) (texts_of l.text))

abbrev pub decreases-lines : goal.decreases-lines
decreases-lines l = length l.rest
