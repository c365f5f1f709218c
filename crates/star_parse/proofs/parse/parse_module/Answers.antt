use Rattle.star_scopes.specs.declared.dialects.Dialect.TheVariants as dialect
use Rattle.star_parse.proofs.WellFormed.{parses_well_formed}
use Rattle.star_parse.proofs.parse.parse_module.Goals as goal

pub returns-clause-well_formed : goal.returns-clause-well_formed
returns-clause-well_formed c =
    parses_well_formed dialect.Module c.args.text.now c.parsed.result c.parsed.ensures
