use Rattle.std.proofs.Common.{◌++◌, ◌∷◌, [], ap, sym, ◌∙◌, subst}
use Rattle.std.specs.Option.{is_some}
use Rattle.version_selection.proofs.KeyTables.{HasKeys-kept, HasKeys-put}
use Rattle.version_selection.specs.Tables.{HasKeys}
use Rattle.version_selection.proofs.tables.add_key.Goals as goal

pub returns-then-is_some : goal.returns-then-is_some
returns-then-is_some c = HasKeys-kept c.args.before.now c.args.node.now c.args.table.now.entries
    c.requires (ap is_some (sym c.in_ok-index_of_key.ensures) ∙ sym c.is_some.ensures
    ∙ c.if-is_some.true)

pub returns : goal.returns
returns c = subst (HasKeys (c.args.before.now ++ c.args.node.now ∷ []))
    (sym c.in_ok-insert.ensures.entries)
    (HasKeys-put c.args.before.now c.args.node.now c.args.table.now.entries c.in_ok-pair.field-0
    c.requires (ap is_some (sym c.in_ok-index_of_key.ensures) ∙ sym c.is_some.ensures
    ∙ c.if-is_some.false) c.in_ok-pair.ensures.name c.in_ok-pair.ensures.version)
