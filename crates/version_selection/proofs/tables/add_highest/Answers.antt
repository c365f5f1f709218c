use Rattle.std.proofs.Common.{◌++◌, ◌∷◌, [], ap, sym, ◌∙◌, subst}
use Rattle.selection.specs.Selection.{is_superior}
use Rattle.version_selection.proofs.KeyTables.{HasHighest-kept, HasHighest-put, HasHighest-root}
use Rattle.version_selection.specs.Tables.{HasHighest, stays}
use Rattle.version_selection.proofs.tables.add_highest.Goals as goal

pub returns-then-node : goal.returns-then-node
returns-then-node c = HasHighest-root c.args.before.now c.args.node.now c.args.table.now.entries
    c.requires c.if-node.true

pub returns-then-stays : goal.returns-then-stays
returns-then-stays c = HasHighest-kept c.args.before.now c.args.node.now
    c.args.table.now.entries c.requires
    (ap (stays is_superior c.args.before.now c.args.node.now) (sym c.in_ok-highest.ensures)
    ∙ sym c.stays.ensures ∙ c.if-stays.true)

pub returns : goal.returns
returns c = subst (HasHighest (c.args.before.now ++ c.args.node.now ∷ []))
    (sym c.in_ok-insert.ensures.entries)
    (HasHighest-put c.args.before.now c.args.node.now c.args.table.now.entries
    c.in_ok-group.field-0 c.requires c.if-node.false
    (ap (stays is_superior c.args.before.now c.args.node.now) (sym c.in_ok-highest.ensures)
    ∙ sym c.stays.ensures ∙ c.if-stays.false) c.in_ok-group.ensures.name c.in_ok-group.ensures.level)
