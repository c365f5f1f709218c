use Rattle.std.proofs.Common.{◌≡◌, None, arith, ◌∙◌}
use Rattle.std.proofs.lemmas.Grind.{common_steps}
use Rattle.bz_label.specs.Mappings.{found}
use Rattle.bz_label.proofs.MappedNames.{put-absent}
use Rattle.bz_label.proofs.mapping.Mapping.add.Goals as goal

pub returns-clause-added : goal.returns-clause-added
returns-clause-added c =
    let absent : found c.args.apparent c.args.self.now ≡ None = grind (arith, common_steps) in
    c.in_ok-set.ensures.ok ∙ put-absent c.args.apparent c.args.canonical c.args.self.now absent
