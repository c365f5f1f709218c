use Rattle.std.proofs.Common.{◌≡◌, None, ap, sym, ◌∙◌, subst}
use Rattle.bz_text.specs.Answers.{Gives}
use Rattle.version_selection.proofs.FirstNames.{selected-by}
use Rattle.index_walks.specs.Reaching.{reached}
use Rattle.version_selection.proofs.selecting.select.Goals as goal

pub returns : goal.returns
returns c =
    subst (λ wanted. Gives wanted c.select_among.result)
    (selected-by c.args.overrides.now c.args.graph.now c.items-nodes.result.now
    c.as_slice-2.result.now c.in_ok-indexes.indexes.keys c.items-nodes.ensures
    (sym c.in_ok-refusal.ensures ∙ c.in_default.is)
    (c.as_slice-2.ensures.value ∙ c.in_ok-links.ensures)
    (ap reached (c.as_slice-2.ensures.value ∙ sym c.as_slice.ensures.value)
    ∙ c.in_ok-indexes.ensures))
    c.select_among.ensures
