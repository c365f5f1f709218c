use Rattle.std.proofs.Common.{◌≡◌, None, Some, ap, sym, ◌∙◌}
use Rattle.overrides.specs.Overrides.{names_of}
use Rattle.version_selection.proofs.FirstNames.{absent-from, first-none, first-some}
use Rattle.version_selection.proofs.refusing.first_absent.Goals as goal

pub returns-in-Some : goal.returns-in-Some
returns-in-Some c = sym (sym c.loop-index.invariant
    ∙ absent-from c.args.overrides.now c.args.nodes.now (names_of c.args.overrides.now)
    c.loop-index.index
    ∙ first-some _ c.in-Some.refusal _ (sym c.in_ok-refusal.ensures ∙ c.in-Some.is))

pub loop-index-preserved : goal.loop-index-preserved
loop-index-preserved c = sym (absent-from c.args.overrides.now c.args.nodes.now
    (names_of c.args.overrides.now) c.loop-index.index
    ∙ first-none _ _ (sym c.in_ok-refusal.ensures ∙ c.in_default.is))
    ∙ c.loop-index.invariant
