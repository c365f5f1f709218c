use Rattle.std.proofs.Common.{ap, ◌∙◌, ◌++◌, ◌∷◌, []}
use Rattle.overrides.specs.Overrides.{kind_of, kinds_of}
use Rattle.overrides.proofs.KindLists.{kinds_of-insert_entry}
use Rattle.overrides.proofs.root_overrides.add.Goals as goal

pub returns-in-Ok : goal.returns-in-Ok
returns-in-Ok c =
    let entries = c.args.kinds.now.entries in
    ap kinds_of c.in-Ok.ensures.entries
    ∙ kinds_of-insert_entry entries c.into_string.result c.args.kind
    (ap (λ name. kind_of name (kinds_of entries)) c.into_string.ensures ∙ c.requires)
    ∙ ap (λ name. kinds_of entries ++ (name, c.args.kind) ∷ []) c.into_string.ensures
