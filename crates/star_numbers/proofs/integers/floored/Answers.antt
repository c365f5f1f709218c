use Rattle.std.proofs.Common.{◌≡◌, ◌<ℤ◌, ◌≤ℤ◌, ◌∙◌, FitsSigned, Ok, ap, arith, neg_ℤ}
use Rattle.std.proofs.Common.{pos, sym, w64}
use Rattle.std.proofs.lemmas.Int.{ints, to_z-of_z}
use Rattle.std.specs.Int.{w128, int_div_euclid}
use Rattle.star_numbers.specs.Integers.{fitted}
use Rattle.star_numbers.proofs.Fits.{fitted_fits, floored_negative, floored_positive}
use Rattle.star_numbers.proofs.integers.floored.Goals as goal

pub returns : goal.returns
returns c =
    let number : FitsSigned w64 c.args.number = c.ranges.number in
    let divisor : FitsSigned w64 c.args.divisor = c.ranges.divisor in
    let fits : FitsSigned w64 c.div_euclid-2.result = record { sfits = c.div_euclid-2.type_inv } in
    let is : c.div_euclid-2.result ≡ int_div_euclid c.args.number c.args.divisor =
    simp to_z-of_z at c.div_euclid-2.ensures in
    let above : pos 0 ≤ℤ c.args.divisor = grind (arith, ints) in
    ap Ok (to_z-of_z w64 c.div_euclid-2.result fits)
    ∙ sym (fitted_fits c.div_euclid-2.result fits)
    ∙ ap fitted (is ∙ sym (floored_positive c.args.number c.args.divisor above))

pub returns-then-divisor-lt0 : goal.returns-then-divisor-lt0
returns-then-divisor-lt0 c =
    let number : FitsSigned w64 c.args.number = c.ranges.number in
    let divisor : FitsSigned w64 c.args.divisor = c.ranges.divisor in
    let one : FitsSigned w128 c.turned.result = record { sfits = c.turned.type_inv } in
    let other : FitsSigned w128 c.turned-then-divisor-lt0.result =
    record { sfits = c.turned-then-divisor-lt0.type_inv } in
    let fits : FitsSigned w128 c.div_euclid.result = record { sfits = c.div_euclid.type_inv } in
    let turned : c.turned.result ≡ neg_ℤ c.args.number = simp to_z-of_z at c.turned.ensures in
    let by : c.turned-then-divisor-lt0.result ≡ neg_ℤ c.args.divisor =
    simp to_z-of_z at c.turned-then-divisor-lt0.ensures in
    let is : c.div_euclid.result
    ≡ int_div_euclid c.turned.result c.turned-then-divisor-lt0.result =
    simp to_z-of_z at c.div_euclid.ensures in
    let below : c.args.divisor <ℤ pos 0 = grind (arith, ints) in
    c.narrowed.ensures
    ∙ ap fitted (to_z-of_z w128 c.div_euclid.result fits
    ∙ is
    ∙ ap (λ one. int_div_euclid one c.turned-then-divisor-lt0.result) turned
    ∙ ap (int_div_euclid (neg_ℤ c.args.number)) by
    ∙ sym (floored_negative c.args.number c.args.divisor below))
