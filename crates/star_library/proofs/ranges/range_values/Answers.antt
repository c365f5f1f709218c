use Rattle.std.proofs.Common.{FitsSigned, arith, of_z, refl, rules, to_z, w64, ◌∙◌}
use Rattle.std.proofs.lemmas.Int.{to_z-of_z}
use Rattle.star_library.proofs.RangeSteps.{all_made, one_made}
use Rattle.star_library.proofs.ranges.range_values.Goals as goal

pub stepping-preserved : goal.stepping-preserved
stepping-preserved c =
    let fits : FitsSigned w64 c.in-Some.next = search rules in
    let stop = to_z w64 (of_z w64 c.args.stop) in
    let step = to_z w64 (of_z w64 c.args.step) in
    rw (to_z-of_z w64 c.in-Some.next fits) (
      one_made c.stepping.values.items c.push.new.self.items _ _ c.in-Some.next stop step
          c.stepping.invariant.0 c.in-Some.ensures.items c.in_ok-push.ensures.items,
      omega (
        arith,
        c.stepping.invariant.1,
        c.in-Some.ensures.fewer,
        c.stepping-test.true,
        c.range_length-turn-end.ensures,
      ),
    )

pub returns : goal.returns
returns c =
    let stop = to_z w64 (of_z w64 c.args.stop) in
    let step = to_z w64 (of_z w64 c.args.step) in
    c.of_vec-2.ensures
    ∙ all_made _ _ _ stop step _ _ c.stepping.invariant.0 c.stepping.invariant.1
    (omega (arith, c.stepping-test.false, c.range_length-turn-end.ensures))
    ∙ rw (
      to_z-of_z w64 c.args.first c.ranges.first,
      to_z-of_z w64 c.args.stop c.ranges.stop,
      to_z-of_z w64 c.args.step c.ranges.step,
    ) refl
