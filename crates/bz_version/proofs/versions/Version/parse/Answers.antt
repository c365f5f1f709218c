use Rattle.std.proofs.Common.{◌∙◌}
use Rattle.bz_version.proofs.Readings.{faultless_is_kept}
use Rattle.bz_version.proofs.versions.Version.parse.Goals as goal

pub invariant_of-result : goal.invariant_of-result
invariant_of-result c =
    faultless_is_kept c.args.text.now c.in_ok-of-in-None.field-0 c.in-None.ensures
    (c.in_ok-of-in-None.ensures ∙ c.without_build.ensures)
