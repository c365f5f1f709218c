use Rattle.std.proofs.Common.{ap, sym, ◌∙◌, string_bytes}
use Rattle.bz_label.specs.Mappings.{found, pairs_of, put}
use Rattle.bz_label.proofs.MappedNames.{are_names-put, lookup-found, pairs_of-insert_entry}
use Rattle.bz_label.proofs.mapping.insert.Goals as goal

pub returns-in-Ok-clause-ok : goal.returns-in-Ok-clause-ok
returns-in-Ok-clause-ok c =
    ap pairs_of c.in-Ok.ensures.entries
    ∙ pairs_of-insert_entry c.args.names.now.entries c.into_string.result c.args.canonical
    ∙ (λ i. put (c.into_string.ensures i) c.args.canonical (pairs_of c.args.names.now.entries))

pub returns-in-Ok-clause-good : goal.returns-in-Ok-clause-good
returns-in-Ok-clause-good c apparent canonical names =
    rw (
      c.in-Ok.ensures.entries,
      pairs_of-insert_entry c.args.names.now.entries c.into_string.result
          c.args.canonical,
      c.into_string.ensures,
    )
    (are_names-put c.args.apparent c.args.canonical
    (pairs_of c.args.names.now.entries) apparent canonical names)

pub returns-clause-was_absent : goal.returns-clause-was_absent
returns-clause-was_absent c =
    ap (λ name. found name (pairs_of c.args.names.now.entries)) (sym c.into_string.ensures)
    ∙ sym (lookup-found (string_bytes c.into_string.result) c.args.names.now.entries)
    ∙ c.in-Err.ensures.absent
