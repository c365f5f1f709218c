use Rattle.std.proofs.Common.{ap, ◌∙◌}
use Rattle.star_core.specs.Dicts.{entries_of, with_entry}
use Rattle.star_core.proofs.Entries.{entries_of-insert_entry}
use Rattle.star_core.proofs.dict.insert.Goals as goal

pub returns-clause-ok : goal.returns-clause-ok
returns-clause-ok c =
    ap entries_of c.in_ok-insert.ensures.entries
    ∙ entries_of-insert_entry c.args.pairs.now.entries c.into_string.result c.args.pair
    ∙ (λ i. with_entry (c.into_string.ensures i) c.args.pair (entries_of c.args.pairs.now.entries))
