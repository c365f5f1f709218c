use Rattle.std.proofs.Common.{ap, map, slice_get, sym, ◌∙◌, Some}
use Rattle.overrides.proofs.KindLists.{names-at}
use Rattle.overrides.specs.Overrides.{RootOverrides, names_of}
use Rattle.overrides.proofs.root_overrides.Overrides.name_at.Goals as goal

pub returns : goal.returns
returns c =
    ap Some c.as_str.ensures.value
    ∙ sym (names-at c.self.inside.kinds.entries c.args.index
    (c.in_ok-name.name.now, c.in_ok-name.field-0-1.now) (sym c.in_ok-name.ensures.entry))
    ∙ ap (λ (whole : RootOverrides). slice_get (names_of whole) c.args.index) c.self.view_is
