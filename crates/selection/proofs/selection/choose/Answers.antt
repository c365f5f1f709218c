use Rattle.std.proofs.Common.{◌++◌, ◌∷◌, [], ap, sym, ◌∙◌, subst}
use Rattle.selection.proofs.ChoiceTables.{HasChoices-kept, HasChoices-put}
use Rattle.selection.specs.ChoiceTables.{HasChoices, is_kept, listed}
use Rattle.selection.proofs.selection.choose.Goals as goal

pub returns-then-is_kept : goal.returns-then-is_kept
returns-then-is_kept c =
    let found = c.listed.ensures ∙ ap (listed c.args.table.now.entries) c.as_str.ensures in
    HasChoices-kept c.args.before.now c.args.node.now c.args.table.now.entries c.requires
    (ap (is_kept c.args.before.now c.args.node.now) (sym found) ∙ sym c.is_kept.ensures
    ∙ c.if-is_kept.true)

pub returns : goal.returns
returns c =
    let found = c.listed.ensures ∙ ap (listed c.args.table.now.entries) c.as_str.ensures in
    subst (HasChoices (c.args.before.now ++ c.args.node.now ∷ []))
    (sym c.in_ok-insert.ensures.entries)
    (HasChoices-put c.args.before.now c.args.node.now c.args.table.now.entries c.into_string.result
    c.requires
    (ap (is_kept c.args.before.now c.args.node.now) (sym found) ∙ sym c.is_kept.ensures
    ∙ c.if-is_kept.false)
    (c.into_string.ensures ∙ c.in_ok-name.ensures))
