use Rattle.std.proofs.Common.{◌∷◌, ◌++◌, [], sym, ◌∙◌}
use Rattle.star_names.proofs.TextNames.{names-take}
use Rattle.star_names.proofs.names.Names.texts.Goals as goal

pub names-preserved : goal.names-preserved
names-preserved c =
    c.in_ok-push.ensures.items
    ∙ ((λ i. c.names.invariant i ++ (c.in_ok-of.ensures ∙ c.as_str.ensures.value) i ∷ [])
    ∙ sym (names-take c.self.inside.texts.keys c.names.index c.in-Some.name.now (sym
    c.in-Some.ensures.key)))
