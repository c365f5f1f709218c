use Rattle.std.proofs.Common.{◌≡◌, ◌++◌, ◌∷◌, [], Some, ap, sym, ◌∙◌, subst, append-nil}
use Rattle.std.specs.List.{cons_option, slice_get}
use Rattle.version_selection.proofs.FirstNames.{HasFirsts-noted}
use Rattle.version_selection.specs.Tables.{HasFirsts}
use Rattle.version_selection.proofs.refusing.note_first.Goals as goal

pub returns-in_ok-note_node-in-Some : goal.returns-in_ok-note_node-in-Some
returns-in_ok-note_node-in-Some c = λ earlier has. subst
    (λ more. HasFirsts c.args.nodes.now (earlier ++ more) c.note_node.new.firsts.entries)
    (ap (λ found. cons_option found []) c.in-Some.ensures)
    (HasFirsts-noted c.args.nodes.now earlier c.args.firsts.now.entries
    c.note_node.new.firsts.entries c.in-Some.node.now c.args.index (sym c.in-Some.ensures)
    c.in_ok-note_node-in-Some.ensures has)

pub returns-in-None : goal.returns-in-None
returns-in-None c = λ earlier has. subst
    (λ more. HasFirsts c.args.nodes.now (earlier ++ more) c.args.firsts.now.entries)
    (ap (λ found. cons_option found []) c.in-None.ensures)
    (subst (λ all. HasFirsts c.args.nodes.now all c.args.firsts.now.entries)
    (sym (append-nil earlier)) has)
