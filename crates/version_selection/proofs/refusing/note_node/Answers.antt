use Rattle.std.proofs.Common.{ap, sym, ◌∙◌, subst}
use Rattle.std.specs.Option.{is_some}
use Rattle.version_selection.proofs.FirstNames.{IsNoted-put}
use Rattle.version_selection.specs.Tables.{IsNoted, index_of_name}
use Rattle.version_selection.proofs.refusing.note_node.Goals as goal

pub returns : goal.returns
returns c = subst (λ more. IsNoted c.args.firsts.now.entries more c.args.node.now.key.name
    c.args.index) (sym c.in_ok-insert.ensures.entries)
    (IsNoted-put c.args.firsts.now.entries c.into_string.result c.args.node.now.key.name
    c.args.index
    (ap is_some (sym (c.index_of_name.ensures
    ∙ ap (index_of_name c.args.firsts.now.entries) c.as_str.ensures)) ∙ sym c.is_some.ensures
    ∙ c.if-is_some.false)
    (c.into_string.ensures ∙ c.in_ok-copy.ensures))
