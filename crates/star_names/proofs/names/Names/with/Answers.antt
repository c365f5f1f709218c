use Rattle.std.proofs.Common.{ap, ◌∙◌}
use Rattle.star_names.specs.NameTexts.{names_of}
use Rattle.star_trees.specs.Variables.{with_binding}
use Rattle.star_names.proofs.TextNames.{insert-names}
use Rattle.star_names.proofs.names.Names.with.Goals as goal

pub returns : goal.returns
returns c =
    ap names_of c.in_ok-insert_full.ensures.keys
    ∙ insert-names c.into_string.result c.self.inside.texts.keys
    ∙ (λ i. with_binding (c.self.view_is i) ((c.into_string.ensures ∙ c.in_ok-copy.ensures) i))
