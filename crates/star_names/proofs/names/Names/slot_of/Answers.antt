use Rattle.std.proofs.Common.{ap, ◌∙◌}
use Rattle.star_trees.specs.Variables.{slot_of}
use Rattle.star_names.proofs.TextNames.{position-names}
use Rattle.star_names.proofs.names.Names.slot_of.Goals as goal

pub returns : goal.returns
returns c =
    c.get_index_of.ensures.index ∙ position-names c.args.name.now c.self.inside.texts.keys
    ∙ ap (λ names. slot_of names c.args.name.now) c.self.view_is
