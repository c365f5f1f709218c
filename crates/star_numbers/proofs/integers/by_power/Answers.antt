use Rattle.std.proofs.Common.{◌∙◌, ◌^◌, w64}
use Rattle.std.proofs.lemmas.Int.{to_z-of_z}
use lib.Signed.{shr_z}
use Rattle.star_numbers.proofs.Fits.{shr_fits, shr_floored}
use Rattle.star_numbers.proofs.integers.by_power.Goals as goal

pub returns : goal.returns
returns c =
    let power = 2 ^ c.args.count in
    rw (to_z-of_z w64 c.args.number c.ranges.number)
    (to_z-of_z w64 (shr_z c.args.number power) (shr_fits c.args.number power c.ranges.number)
    ∙ shr_floored c.args.number power)
