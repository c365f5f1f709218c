use Rattle.std.proofs.Common.{Err, ap, sym, ◌∙◌, subst, rules}
use Rattle.bz_text.specs.Answers.{Gives}
use Rattle.module_file.specs.LiteralForms.{lines_from, texts_of}
use Rattle.module_file.proofs.LiteralTexts.{Gives-missed, lines_from_next}
use Rattle.module_file.proofs.literal_form.read_each.Goals as goal

pub returns-in-Err : goal.returns-in-Err
returns-in-Err c =
    let next = lines_from_next c.lines.lines c.lines.rest.now c.in-Some.line.now c.in-Some.more.now
    c.in-Some.ensures.first in
    subst (λ lines. Gives lines (Err c.in-Err.miss)) (sym next ∙ c.lines.invariant.1)
    (Gives-missed _ (texts_of c.in-Some.more.now) c.in-Err.miss c.in-Err.ensures)

pub lines-preserved : goal.lines-preserved
lines-preserved c =
    let next = lines_from_next c.lines.lines c.lines.rest.now c.in-Some.line.now c.in-Some.more.now
    c.in-Some.ensures.first in (
      search rules,
      ap (λ lines. lines_from lines (texts_of c.in-Some.more.now))
          (sym c.in-Ok.ensures) ∙ sym next ∙ c.lines.invariant.1,
    )
