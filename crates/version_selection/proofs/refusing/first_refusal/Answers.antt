use Rattle.std.proofs.Common.{◌≡◌, ◌++◌, [], None, Some, ap, sym, ◌∙◌, get_or, refl}
use Rattle.std.proofs.lemmas.List.{drop_more}
use Rattle.std.specs.List.{cons_option, slice_get}
use Rattle.version_selection.proofs.FirstNames.{first-none, first-some, refused-from}
use Rattle.version_selection.proofs.refusing.first_refusal.Goals as goal

pub returns-in-Some : goal.returns-in-Some
returns-in-Some c =
    sym (sym c.loop-index.invariant.2
    ∙ refused-from c.args.overrides.now c.args.nodes.now c.loop-index.invariant.0
    c.loop-index.firsts.entries c.args.indexes.now c.loop-index.index-index
    (get_or c.args.indexes.now c.loop-index.index-index 0) c.loop-index.invariant.1
    (drop_more c.args.indexes.now c.loop-index.index-index 0 c.loop-index-test.true)
    ∙ first-some _ c.in-Some.refusal _ (sym c.in_ok-refusal.ensures ∙ c.in-Some.is))
