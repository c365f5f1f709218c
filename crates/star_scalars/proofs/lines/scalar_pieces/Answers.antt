use Rattle.std.proofs.Common.{ap, arith, ◌++◌, ◌∷◌, [], ◌∙◌}
use Rattle.std.specs.Str.{encode_utf8_all}
use Rattle.star_scalars.proofs.Cuts.{one_made}
use Rattle.star_scalars.proofs.ScalarCuts.{scalar_cut, scalars_over, scalars_stop}
use Rattle.star_scalars.proofs.lines.scalar_pieces.Goals as goal

pub returns-in_default : goal.returns-in_default
returns-in_default c =
    scalars_stop c.args.cuts c.cutting._cut c.cutting.rest.now c.cutting.made.items _
    c.with_rest.result c.in_default.ensures.none c.cutting.invariant c.with_rest.ensures

pub cutting-preserved : goal.cutting-preserved
cutting-preserved c =
    one_made encode_utf8_all c.cutting.made.items c.push.new.self.items _ _ _ c.in-Some.scalar.now
    c.cutting.invariant
    (scalar_cut c.args.cuts c.cutting._cut c.cutting.rest.now c.in-Some.scalar.now
    c.in-Some.behind.now c.cutting-test.true c.in-Some.ensures.some c.in-Some.ensures.scalar
    c.in-Some.ensures.behind)
    (c.in_ok-push.ensures.items
    ∙ ap (λ text. c.cutting.made.items ++ text ∷ []) c.in_ok-encoded.ensures)

pub returns : goal.returns
returns c =
    scalars_over c.args.cuts c.cutting._cut c.cutting.rest.now c.cutting.made.items _
    c.with_rest-2.result (omega (arith, c.cutting-test.false)) c.cutting.invariant
    c.with_rest-2.ensures
