use Rattle.std.proofs.Common.{ap, arith, length, ◌++◌, ◌∷◌, [], ◌∙◌}
use Rattle.std.specs.Str.{encode_utf8_all}
use Rattle.star_scalars.proofs.Cuts.{one_made}
use Rattle.star_scalars.proofs.LineCuts.{line_cut, lines_over, lines_stop}
use Rattle.star_scalars.proofs.lines.split_lines.Goals as goal

pub returns-in_default : goal.returns-in_default
returns-in_default c =
    c.of_vec.ensures
    ∙ lines_stop encode_utf8_all (length c.args.text.now) c.cutting._line c.args.keep
    c.cutting.rest.now c.cutting.made.items _ c.cutting-test.true c.in_default.ensures.none
    c.cutting.invariant

pub cutting-preserved : goal.cutting-preserved
cutting-preserved c =
    one_made encode_utf8_all c.cutting.made.items c.push.new.self.items _ _ _ c.in-Some.line.now
    c.cutting.invariant
    (line_cut (length c.args.text.now) c.cutting._line c.args.keep c.cutting.rest.now
    c.in-Some.line.now c.in-Some.behind.now c.cutting-test.true c.in-Some.ensures.some
    c.in-Some.ensures.line c.in-Some.ensures.behind)
    (c.in_ok-push.ensures.items
    ∙ ap (λ text. c.cutting.made.items ++ text ∷ []) c.in_ok-encoded.ensures)

pub returns : goal.returns
returns c =
    c.of_vec-2.ensures
    ∙ lines_over encode_utf8_all (length c.args.text.now) c.cutting._line c.args.keep
    c.cutting.rest.now c.cutting.made.items _ (omega (arith, c.cutting-test.false))
    c.cutting.invariant
