use Rattle.std.proofs.Common.{◌∙◌}
use Rattle.star_statements.proofs.ParseLaws.{Parsed-symbols}
use Rattle.star_statements.proofs.trees.spelled.Goals as goal

pub returns : goal.returns
returns c = Parsed-symbols c.args.text.now c.as_bytes.result.now c.args.tokens c.items.result.now
    c.items-2.result.now c.whole.result
    c.as_bytes.ensures.value c.items.ensures
    (c.items-2.ensures ∙ c.in_ok-symbols.ensures) c.requires.lexed c.whole.ensures
