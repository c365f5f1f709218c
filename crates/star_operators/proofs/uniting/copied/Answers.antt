use Rattle.std.proofs.Common.{◌∙◌, ap}
use Rattle.star_core.specs.Dicts.{Entry, with_entry}
use Rattle.star_operators.proofs.CopiedEntries.{copied_ended, copied_on}
use Rattle.star_operators.proofs.uniting.copied.Goals as goal

pub copying-preserved : goal.copying-preserved
copying-preserved c =
    let entry : Entry = record { content = c.in-Some.content.now; pair = c.in-Some.pair.now } in
    c.in_ok-put.ensures.ok
    ∙ ap (λ text. with_entry text entry.pair c.copying.copy) c.in_ok-of.ensures
    ∙ copied_on c.args.dict.now c.copying.index entry c.copying.copy
    c.len-index-end.ensures.differ c.in-Some.ensures.entry c.copying.invariant

pub returns-in_default : goal.returns-in_default
returns-in_default c =
    copied_ended c.args.dict.now c.copying.index c.copying.copy c.in_default.ensures.absent
    c.copying.invariant
