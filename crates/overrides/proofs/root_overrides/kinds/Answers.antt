use Rattle.std.proofs.Common.{ap, ◌∙◌}
use Rattle.overrides.specs.Overrides.{kind_of, kinds_of}
use Rattle.overrides.proofs.KindLists.{next_absent}
use Rattle.overrides.proofs.root_overrides.kinds.Goals as goal

pub add-requires : goal.add-requires
add-requires c =
    ap (λ name. kind_of name (kinds_of c.loop-one.kinds.entries)) c.in_ok-name.ensures
    ∙ next_absent (kinds_of c.loop-one.kinds.entries) c.args.overrides.now c.loop-one.one-index
    c.one-item.result c.requires c.loop-one-test.true c.one-item.is c.loop-one.invariant
